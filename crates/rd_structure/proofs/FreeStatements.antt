-- Statements are told from what stands behind them.
use Rattle.std.proofs.Common.{◌≡◌, ℕ, List, [], ◌∷◌, ◌++◌, map, codes, Option, None, Some, length, ◌<◌, ◌^◌, refl, sym, ap, subst, ◌∙◌, arith}
use Rattle.std.specs.Fmt.{digits}
use Rattle.std.proofs.lemmas.List.{append_cancel_left}
use Rattle.rd_value.specs.Lawful.{IsLawful}
use Rattle.rd_value.specs.Canon.{string}
use Rattle.rd_value.proofs.Ind.{Each}
use Rattle.rd_tree.specs.declared.tree.Node.{Node}
use Rattle.rd_tree.specs.declared.tree.Statement.{Statement}
use Rattle.rd_tree.specs.declared.tree.Statement.TheVariants as variant
use Rattle.rd_tree.specs.declared.tree.Statement.TheViews as made
use Rattle.rd_tree.specs.declared.tree.Statement.TheOpen.{Statement-F}
use Rattle.rd_tree.specs.declared.tree.Statement.TheFolds.{ind-Statement, map-Statement, fold-roll-Statement}
use Rattle.rd_names.specs.Uses.{joined}
use Rattle.rd_names.proofs.Walking.{map_both}
use Rattle.rd_structure.specs.Structure.{node_bytes, statement_at, statement_bytes, answer_bytes}
use Rattle.rd_structure.specs.Values.{Value, statement_values_at, values_in, values_in_branch, values_in_answer, values_in_statement}
use Rattle.rd_structure.proofs.Layers.{bytes_if}
use Rattle.rd_structure.proofs.Free.{Part, FreeAt, text, text_free, nothing, nothing_free, choice, choice_free, beside, beside_free, begun, begun_free, ended, ended_free, group, group_free, Begins}
use Rattle.rd_structure.proofs.Free.{many, many_free, kind, kind_named, kind_free, made_free}
use Rattle.rd_structure.proofs.FreeNodes.{node, node_free, no_none, grouped}

abbrev Name : Type 0
Name = List ℕ

abbrev pub statement : Part
statement = record { of = Statement Name; bytes = statement_bytes; values = values_in_statement }

abbrev pub block : Part
block = many statement

-- ---- what a block gives

abbrev answer : Part
answer = record { of = Option (Node Name); bytes = answer_bytes; values = values_in_answer }

answer_free : (a : Option (Node Name)) → FreeAt answer a
answer_free None = record { told = by }
  where
    by : Each IsLawful [] → length (codes "l1:ne") < 2 ^ 64 → (b : Option (Node Name)) (r s : List ℕ) → codes "l1:ne" ++ r ≡ answer_bytes b ++ s → (◌≡◌ {A = Option (Node Name)} None b) × (r ≡ s)
    by ok small None r s e = (refl, append_cancel_left (codes "l1:ne") r s e)
    by ok small (Some m) r s e = absurd (no_none m s r (sym e))
answer_free (Some n) = record { told = by }
  where
    by : Each IsLawful (values_in n) → length (node_bytes n) < 2 ^ 64 → (b : Option (Node Name)) (r s : List ℕ) → node_bytes n ++ r ≡ answer_bytes b ++ s
        → (◌≡◌ {A = Option (Node Name)} (Some n) b) × (r ≡ s)
    by ok small None r s e = absurd (no_none n r s e)
    by ok small (Some m) r s e = let t = (node_free n).told ok small m r s e in (ap Some t.0, t.1)

-- ---- kinds of statements

data Kind : Type 0 where
  an_assignment : Kind
  a_for : Kind
  a_while : Kind
  an_if : Kind
  a_return : Kind
  a_raise : Kind
  a_pass : Kind
  an_expression : Kind

abbrev tag : Kind → List ℕ
tag an_assignment = codes "assign"
tag a_for = codes "for"
tag a_while = codes "while"
tag an_if = codes "if"
tag a_return = codes "return"
tag a_raise = codes "raise"
tag a_pass = codes "pass"
tag an_expression = codes "expr"

abbrev kinds : List Kind
kinds = an_assignment ∷ a_for ∷ a_while ∷ an_if ∷ a_return ∷ a_raise ∷ a_pass ∷ an_expression ∷ []

kind_told : (k : Kind) → kind_named tag a_pass kinds (tag k) ≡ k
kind_told an_assignment = refl
kind_told a_for = refl
kind_told a_while = refl
kind_told an_if = refl
kind_told a_return = refl
kind_told a_raise = refl
kind_told a_pass = refl
kind_told an_expression = refl

abbrev branch : Part
branch = group (beside node block)

-- what stands behind the tag
abbrev inside : Kind → Part
inside an_assignment = beside text node
inside a_for = beside (beside text node) block
inside a_while = beside node block
inside an_if = beside (many branch) block
inside a_return = answer
inside a_raise = beside text node
inside a_pass = nothing
inside an_expression = node

abbrev make : (k : Kind) → (inside k).of → Statement Name
make an_assignment x = variant.Assign x.0 x.1
make a_for x = variant.For x.0.0 x.0.1 x.1
make a_while x = variant.While x.0 x.1
make an_if x = variant.If x.0 x.1
make a_return x = variant.Return x
make a_raise x = variant.Raise x.0 x.1
make a_pass x = variant.Pass
make an_expression x = variant.Expr x

by_bytes : (y : Statement-F Name (Statement Name)) → statement_bytes (made.roll-Statement Name y) ≡ statement_at (map-Statement Name (Statement Name) (List ℕ) statement_bytes y)
by_bytes y = fold-roll-Statement Name (List ℕ) statement_at y

make_bytes : (k : Kind) (x : (inside k).of) → statement_bytes (make k x) ≡ codes "l" ++ (string (tag k) ++ ((inside k).bytes x ++ codes "e"))
unfolding made.roll-Statement denote.Hole.Carrier.roll digits
make_bytes an_assignment x = by_bytes (Statement-F.Assign x.0 x.1)
make_bytes a_for x = by_bytes (Statement-F.For x.0.0 x.0.1 x.1)
make_bytes a_while x = by_bytes (Statement-F.While x.0 x.1)
make_bytes an_if x = bytes_if x.0 x.1
make_bytes a_return x = by_bytes (Statement-F.Return x)
make_bytes a_raise x = by_bytes (Statement-F.Raise x.0 x.1)
make_bytes a_pass x = by_bytes Statement-F.Pass
make_bytes an_expression x = by_bytes (Statement-F.Expr x)

by_values : (y : Statement-F Name (Statement Name)) → values_in_statement (made.roll-Statement Name y) ≡ statement_values_at (map-Statement Name (Statement Name) (List Value) values_in_statement y)
by_values y = fold-roll-Statement Name (List Value) statement_values_at y

make_values : (k : Kind) (x : (inside k).of) → values_in_statement (make k x) ≡ (inside k).values x
unfolding made.roll-Statement denote.Hole.Carrier.roll
make_values an_assignment x = by_values (Statement-F.Assign x.0 x.1)
make_values a_for x = by_values (Statement-F.For x.0.0 x.0.1 x.1)
make_values a_while x = by_values (Statement-F.While x.0 x.1)
make_values an_if x = by_values (Statement-F.If x.0 x.1) ∙ ap (λ vs. joined vs ++ joined (map values_in_statement x.1)) (map_both values_in_branch (λ b. (b.0, map values_in_statement b.1)) x.0)
make_values a_return x = by_values (Statement-F.Return x)
make_values a_raise x = by_values (Statement-F.Raise x.0 x.1)
make_values a_pass x = by_values Statement-F.Pass
make_values an_expression x = by_values (Statement-F.Expr x)

-- ---- all statements

abbrev behind_tag : Kind → Part
behind_tag k = ended (inside k)

abbrev tagged_statement : Part
tagged_statement = begun (codes "l") (choice (kind tag) behind_tag)

abbrev Seen : Statement Name → Type 0
Seen x = (y : tagged_statement.of) × (make y.0 y.1 ≡ x)

seen : (k : Kind) (x : (inside k).of) → Seen (make k x)
seen k x = ((k, x), refl)

view_at : (y : Statement-F Name (Statement Name)) → Seen (made.roll-Statement Name y)
unfolding made.roll-Statement denote.Hole.Carrier.roll
view_at (Statement-F.Assign name e) = seen an_assignment (name, e)
view_at (Statement-F.For name e body) = seen a_for ((name, e), body)
view_at (Statement-F.While e body) = seen a_while (e, body)
view_at (Statement-F.If branches otherwise) = seen an_if (branches, otherwise)
view_at (Statement-F.Return e) = seen a_return e
view_at (Statement-F.Raise class e) = seen a_raise (class, e)
view_at Statement-F.Pass = seen a_pass tt
view_at (Statement-F.Expr e) = seen an_expression e

view : (x : Statement Name) → Seen x
view = ind-Statement Name Seen (λ x y is. view_at x)

here : (k : Kind) (x : (inside k).of) → FreeAt (inside k) x → FreeAt statement (make k x)
here k x f =
    made_free statement tagged_statement (λ y. make y.0 y.1) (λ y. make_bytes y.0 y.1) (λ y ok. subst (Each IsLawful) (make_values y.0 y.1) ok) view (k, x)
    (begun_free (codes "l") (choice (kind tag) behind_tag) (k, x) (choice_free (kind tag) behind_tag k x (kind_free tag a_pass kinds kind_told k) (ended_free (inside k) x f)))

statement_begins : (x : Statement Name) → Begins (statement_bytes x)
statement_begins x = let y = view x in (108, _, ap statement_bytes (sym y.1) ∙ make_bytes y.0.0 y.0.1, λ e. omega (arith, e))

-- ---- from the parts of a statement

abbrev Held : Type 0
Held = (x : Statement Name) × FreeAt statement x

abbrev of_held : Held → Statement Name
of_held h = h.0

statements_held : (hs : List Held) → Each (FreeAt statement) (map of_held hs)
statements_held [] = tt
statements_held (h ∷ hs) = (h.1, statements_held hs)

held_free : (hs : List Held) → FreeAt block (map of_held hs)
held_free hs = many_free statement statement_begins (map of_held hs) (statements_held hs)

branches_held : (bs : List (Node Name × List Held)) → Each (FreeAt branch) (map (λ b. (b.0, map of_held b.1)) bs)
branches_held [] = tt
branches_held (b ∷ bs) = (group_free (beside node block) (b.0, map of_held b.1) (beside_free node block _ _ (node_free b.0) (held_free b.1)), branches_held bs)

step : (y : Statement-F Name Held) → FreeAt statement (made.roll-Statement Name (map-Statement Name Held (Statement Name) of_held y))
unfolding made.roll-Statement denote.Hole.Carrier.roll
step (Statement-F.Assign name e) = here an_assignment _ (beside_free text node _ _ (text_free name) (node_free e))
step (Statement-F.For name e hs) = here a_for _ (beside_free (beside text node) block _ _ (beside_free text node _ _ (text_free name) (node_free e)) (held_free hs))
step (Statement-F.While e hs) = here a_while _ (beside_free node block _ _ (node_free e) (held_free hs))
step (Statement-F.If bs hs) = here an_if _ (beside_free (many branch) block _ _ (many_free branch (grouped (beside node block)) _ (branches_held bs)) (held_free hs))
step (Statement-F.Return e) = here a_return e (answer_free e)
step (Statement-F.Raise class e) = here a_raise _ (beside_free text node _ _ (text_free class) (node_free e))
step Statement-F.Pass = here a_pass tt nothing_free
step (Statement-F.Expr e) = here an_expression e (node_free e)

pub statement_free : (x : Statement Name) → FreeAt statement x
statement_free = ind-Statement Name (FreeAt statement) (λ x y is. subst (λ z. FreeAt statement (made.roll-Statement Name z)) is (step y))

each_free : (xs : List (Statement Name)) → Each (FreeAt statement) xs
each_free [] = tt
each_free (x ∷ xs) = (statement_free x, each_free xs)

pub block_free : (xs : List (Statement Name)) → FreeAt block xs
block_free xs = many_free statement statement_begins xs (each_free xs)
