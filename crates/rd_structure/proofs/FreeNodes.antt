-- Expressions are told from what stands behind them.
use Rattle.std.proofs.Common.{◌≡◌, ℕ, List, [], ◌∷◌, ◌++◌, map, codes, refl, sym, ap, subst, ◌∙◌, append-nil, append_assoc, bytes_eq, false, true≢false, arith}
use Rattle.std.specs.Fmt.{digits}
use Rattle.std.proofs.lemmas.List.{append_cancel_left}
use Rattle.rd_value.specs.Lawful.{IsLawful}
use Rattle.rd_value.specs.Canon.{string}
use Rattle.rd_value.proofs.Ind.{Each}
use Rattle.rd_tree.specs.declared.tree.Operator.{Operator}
use Rattle.rd_tree.specs.declared.tree.Operator.TheVariants as operator
use Rattle.rd_tree.specs.declared.tree.Comparison.{Comparison}
use Rattle.rd_tree.specs.declared.tree.Comparison.TheVariants as comparison
use Rattle.rd_tree.specs.declared.tree.Node.{Node}
use Rattle.rd_tree.specs.declared.tree.Node.TheVariants as variant
use Rattle.rd_tree.specs.declared.tree.Node.TheViews as made
use Rattle.rd_tree.specs.declared.tree.Node.TheOpen.{Node-F}
use Rattle.rd_tree.specs.declared.tree.Node.TheFolds.{ind-Node, map-Node, fold-roll-Node}
use Rattle.rd_names.specs.Uses.{joined}
use Rattle.rd_names.proofs.Walking.{map_both}
use Rattle.rd_structure.specs.Structure.{node_at, node_bytes, operator_text, comparison_text}
use Rattle.rd_structure.specs.Values.{Value, values_at, values_in}
use Rattle.rd_structure.proofs.Layers.{bytes_call, bytes_chain, bytes_dict}
use Rattle.rd_structure.proofs.Digits.{string_told}
use Rattle.rd_structure.proofs.Free.{Part, FreeAt, text, text_free, choice, choice_free, beside, beside_free, begun, begun_free, ended, ended_free, group, group_free, Begins, many, many_free, kind}
use Rattle.rd_structure.proofs.Free.{kind_named, kind_free, made_free}
use Rattle.rd_structure.proofs.FreeValues.{value, value_free}

abbrev Name : Type 0
Name = List ℕ

abbrev pub node : Part
node = record { of = Node Name; bytes = node_bytes; values = values_in }

-- ---- operators

operator_named : (o : Operator) → kind_named operator_text operator.Add (operator.Add ∷ operator.Sub ∷ operator.Mul ∷ operator.FloorDiv ∷ operator.Mod ∷ []) (operator_text o) ≡ o
operator_named operator.Add = refl
operator_named operator.Sub = refl
operator_named operator.Mul = refl
operator_named operator.FloorDiv = refl
operator_named operator.Mod = refl

operator_free : (o : Operator) → FreeAt (kind operator_text) o
operator_free o = kind_free operator_text operator.Add (operator.Add ∷ operator.Sub ∷ operator.Mul ∷ operator.FloorDiv ∷ operator.Mod ∷ []) operator_named o

abbrev comparisons : List Comparison
comparisons = comparison.Eq ∷ comparison.Ne ∷ comparison.Lt ∷ comparison.Le ∷ comparison.Gt ∷ comparison.Ge ∷ comparison.In ∷ comparison.NotIn ∷ []

comparison_named : (c : Comparison) → kind_named comparison_text comparison.Eq comparisons (comparison_text c) ≡ c
comparison_named comparison.Eq = refl
comparison_named comparison.Ne = refl
comparison_named comparison.Lt = refl
comparison_named comparison.Le = refl
comparison_named comparison.Gt = refl
comparison_named comparison.Ge = refl
comparison_named comparison.In = refl
comparison_named comparison.NotIn = refl

comparison_free : (c : Comparison) → FreeAt (kind comparison_text) c
comparison_free c = kind_free comparison_text comparison.Eq comparisons comparison_named c

-- ---- kinds of expressions

data Kind : Type 0 where
  a_literal : Kind
  a_name : Kind
  a_call : Kind
  a_method : Kind
  an_index : Kind
  a_path : Kind
  a_negation : Kind
  an_inversion : Kind
  a_chain : Kind
  a_comparison : Kind
  an_and : Kind
  an_or : Kind
  a_choice : Kind
  a_list : Kind
  a_dict : Kind
  a_comprehension : Kind

abbrev tag : Kind → List ℕ
tag a_literal = codes "lit"
tag a_name = codes "name"
tag a_call = codes "call"
tag a_method = codes "method"
tag an_index = codes "index"
tag a_path = codes "path"
tag a_negation = codes "neg"
tag an_inversion = codes "not"
tag a_chain = codes "chain"
tag a_comparison = codes "compare"
tag an_and = codes "and"
tag an_or = codes "or"
tag a_choice = codes "cond"
tag a_list = codes "list"
tag a_dict = codes "dict"
tag a_comprehension = codes "comp"

abbrev kinds : List Kind
kinds =
    a_literal ∷ a_name ∷ a_call ∷ a_method ∷ an_index ∷ a_path ∷ a_negation ∷ an_inversion ∷ a_chain ∷ a_comparison ∷ an_and ∷ an_or ∷ a_choice ∷ a_list ∷ a_dict ∷ a_comprehension ∷ []

kind_told : (k : Kind) → kind_named tag a_literal kinds (tag k) ≡ k
kind_told a_literal = refl
kind_told a_name = refl
kind_told a_call = refl
kind_told a_method = refl
kind_told an_index = refl
kind_told a_path = refl
kind_told a_negation = refl
kind_told an_inversion = refl
kind_told a_chain = refl
kind_told a_comparison = refl
kind_told an_and = refl
kind_told an_or = refl
kind_told a_choice = refl
kind_told a_list = refl
kind_told a_dict = refl
kind_told a_comprehension = refl

abbrev keyword : Part
keyword = group (beside text node)

abbrev link : Part
link = group (beside (kind operator_text) node)

abbrev couple : Part
couple = group (beside node node)

-- what stands behind the tag
abbrev inside : Kind → Part
inside a_literal = value
inside a_name = text
inside a_call = beside (beside text (many node)) (many keyword)
inside a_method = beside (beside node text) (many node)
inside an_index = beside node node
inside a_path = node
inside a_negation = node
inside an_inversion = node
inside a_chain = beside node (many link)
inside a_comparison = beside (beside (kind comparison_text) node) node
inside an_and = many node
inside an_or = many node
inside a_choice = beside (beside node node) node
inside a_list = many node
inside a_dict = many couple
inside a_comprehension = beside (beside (beside node text) node) (many node)

abbrev make : (k : Kind) → (inside k).of → Node Name
make a_literal x = variant.Lit x
make a_name x = variant.Name x
make a_call x = variant.Call x.0.0 x.0.1 x.1
make a_method x = variant.Method x.0.0 x.0.1 x.1
make an_index x = variant.Index x.0 x.1
make a_path x = variant.Path x
make a_negation x = variant.Neg x
make an_inversion x = variant.Not x
make a_chain x = variant.Chain x.0 x.1
make a_comparison x = variant.Compare x.0.0 x.0.1 x.1
make an_and x = variant.And x
make an_or x = variant.Or x
make a_choice x = variant.Cond x.0.0 x.0.1 x.1
make a_list x = variant.List x
make a_dict x = variant.Dict x
make a_comprehension x = variant.Comp x.0.0.0 x.0.0.1 x.0.1 x.1

by_bytes : (y : Node-F Name (Node Name)) → node_bytes (made.roll-Node Name y) ≡ node_at (map-Node Name (Node Name) (List ℕ) node_bytes y)
by_bytes y = fold-roll-Node Name (List ℕ) node_at y

make_bytes : (k : Kind) (x : (inside k).of) → node_bytes (make k x) ≡ codes "l" ++ (string (tag k) ++ ((inside k).bytes x ++ codes "e"))
unfolding made.roll-Node denote.Hole.Carrier.roll digits
make_bytes a_literal x = by_bytes (Node-F.Lit x)
make_bytes a_name x = by_bytes (Node-F.Name x)
make_bytes a_call x = bytes_call x.0.0 x.0.1 x.1
make_bytes a_method x = by_bytes (Node-F.Method x.0.0 x.0.1 x.1)
make_bytes an_index x = by_bytes (Node-F.Index x.0 x.1)
make_bytes a_path x = by_bytes (Node-F.Path x)
make_bytes a_negation x = by_bytes (Node-F.Neg x)
make_bytes an_inversion x = by_bytes (Node-F.Not x)
make_bytes a_chain x = bytes_chain x.0 x.1
make_bytes a_comparison x = by_bytes (Node-F.Compare x.0.0 x.0.1 x.1)
make_bytes an_and x = by_bytes (Node-F.And x)
make_bytes an_or x = by_bytes (Node-F.Or x)
make_bytes a_choice x = by_bytes (Node-F.Cond x.0.0 x.0.1 x.1)
make_bytes a_list x = by_bytes (Node-F.List x)
make_bytes a_dict x = bytes_dict x
make_bytes a_comprehension x = by_bytes (Node-F.Comp x.0.0.0 x.0.0.1 x.0.1 x.1)

by_values : (y : Node-F Name (Node Name)) → values_in (made.roll-Node Name y) ≡ values_at (map-Node Name (Node Name) (List Value) values_in y)
by_values y = fold-roll-Node Name (List Value) values_at y

make_values : (k : Kind) (x : (inside k).of) → values_in (make k x) ≡ (inside k).values x
unfolding made.roll-Node denote.Hole.Carrier.roll
make_values a_literal x = by_values (Node-F.Lit x)
make_values a_name x = by_values (Node-F.Name x)
make_values a_call x = by_values (Node-F.Call x.0.0 x.0.1 x.1) ∙ ap (λ vs. joined (map values_in x.0.1) ++ joined vs) (map_both (λ k. k.1) (λ k. (k.0, values_in k.1)) x.1)
make_values a_method x = by_values (Node-F.Method x.0.0 x.0.1 x.1) ∙ ap (λ vs. vs ++ joined (map values_in x.1)) (sym (append-nil (values_in x.0.0)))
make_values an_index x = by_values (Node-F.Index x.0 x.1)
make_values a_path x = by_values (Node-F.Path x)
make_values a_negation x = by_values (Node-F.Neg x)
make_values an_inversion x = by_values (Node-F.Not x)
make_values a_chain x = by_values (Node-F.Chain x.0 x.1) ∙ ap (λ vs. values_in x.0 ++ joined vs) (map_both (λ l. l.1) (λ l. (l.0, values_in l.1)) x.1)
make_values a_comparison x = by_values (Node-F.Compare x.0.0 x.0.1 x.1)
make_values an_and x = by_values (Node-F.And x)
make_values an_or x = by_values (Node-F.Or x)
make_values a_choice x = by_values (Node-F.Cond x.0.0 x.0.1 x.1)
make_values a_list x = by_values (Node-F.List x)
make_values a_dict x = by_values (Node-F.Dict x) ∙ ap joined (map_both (λ p. p.0 ++ p.1) (λ p. (values_in p.0, values_in p.1)) x)
make_values a_comprehension x =
    by_values (Node-F.Comp x.0.0.0 x.0.0.1 x.0.1 x.1) ∙ ap (λ vs. vs ++ values_in x.0.1 ++ joined (map values_in x.1)) (sym (append-nil (values_in x.0.0.0)))

-- ---- all expressions

abbrev behind_tag : Kind → Part
behind_tag k = ended (inside k)

abbrev tagged_node : Part
tagged_node = begun (codes "l") (choice (kind tag) behind_tag)

abbrev Seen : Node Name → Type 0
Seen n = (x : tagged_node.of) × (make x.0 x.1 ≡ n)

seen : (k : Kind) (x : (inside k).of) → Seen (make k x)
seen k x = ((k, x), refl)

view_at : (y : Node-F Name (Node Name)) → Seen (made.roll-Node Name y)
unfolding made.roll-Node denote.Hole.Carrier.roll
view_at (Node-F.Lit v) = seen a_literal v
view_at (Node-F.Name name) = seen a_name name
view_at (Node-F.Call name ps ks) = seen a_call ((name, ps), ks)
view_at (Node-F.Method a name ps) = seen a_method ((a, name), ps)
view_at (Node-F.Index a b) = seen an_index (a, b)
view_at (Node-F.Path a) = seen a_path a
view_at (Node-F.Neg a) = seen a_negation a
view_at (Node-F.Not a) = seen an_inversion a
view_at (Node-F.Chain a ls) = seen a_chain (a, ls)
view_at (Node-F.Compare o a b) = seen a_comparison ((o, a), b)
view_at (Node-F.And ps) = seen an_and ps
view_at (Node-F.Or ps) = seen an_or ps
view_at (Node-F.Cond a b c) = seen a_choice ((a, b), c)
view_at (Node-F.List ps) = seen a_list ps
view_at (Node-F.Dict ps) = seen a_dict ps
view_at (Node-F.Comp a name b cs) = seen a_comprehension (((a, name), b), cs)

view : (n : Node Name) → Seen n
view = ind-Node Name Seen (λ x y is. view_at x)

here : (k : Kind) (x : (inside k).of) → FreeAt (inside k) x → FreeAt node (make k x)
here k x f =
    made_free node tagged_node (λ y. make y.0 y.1) (λ y. make_bytes y.0 y.1) (λ y ok. subst (Each IsLawful) (make_values y.0 y.1) ok) view (k, x)
    (begun_free (codes "l") (choice (kind tag) behind_tag) (k, x) (choice_free (kind tag) behind_tag k x (kind_free tag a_literal kinds kind_told k) (ended_free (inside k) x f)))

pub node_begins : (n : Node Name) → Begins (node_bytes n)
node_begins n = let x = view n in (108, _, ap node_bytes (sym x.1) ∙ make_bytes x.0.0 x.0.1, λ e. omega (arith, e))

-- no expression is what stands for no expression
other_tag : (k : Kind) → bytes_eq (tag k) (codes "n") ≡ false
other_tag a_literal = refl
other_tag a_name = refl
other_tag a_call = refl
other_tag a_method = refl
other_tag an_index = refl
other_tag a_path = refl
other_tag a_negation = refl
other_tag an_inversion = refl
other_tag a_chain = refl
other_tag a_comparison = refl
other_tag an_and = refl
other_tag an_or = refl
other_tag a_choice = refl
other_tag a_list = refl
other_tag a_dict = refl
other_tag a_comprehension = refl

none_by : (k : Kind) (bs r s : List ℕ) → (string (tag k) ++ bs) ++ r ≡ string (codes "n") ++ s → ⊥
none_by k bs r s e =
    let t = string_told (codes "n") (tag k) s (bs ++ r) (omega arith) (sym e ∙ append_assoc (string (tag k)) bs r) in
    absurd (true≢false (ap (λ t. bytes_eq t (codes "n")) t.0 ∙ other_tag k))

pub no_none : (n : Node Name) (r s : List ℕ) → node_bytes n ++ r ≡ codes "l1:ne" ++ s → ⊥
unfolding digits
no_none n r s e =
    let x = view n in
    let bs = (inside x.0.0).bytes x.0.1 ++ codes "e" in
    let is : node_bytes n ≡ codes "l" ++ (string (tag x.0.0) ++ bs) = ap node_bytes (sym x.1) ∙ make_bytes x.0.0 x.0.1 in
    none_by x.0.0 bs r (codes "e" ++ s) (append_cancel_left (codes "l") _ _ (ap (λ z. z ++ r) (sym is) ∙ e))

pub grouped : (P : Part) (a : P.of) → Begins ((group P).bytes a)
grouped P a = (108, _, refl, λ e. omega (arith, e))

-- ---- from the parts of an expression

abbrev Held : Type 0
Held = (n : Node Name) × FreeAt node n

abbrev of_held : Held → Node Name
of_held h = h.0

nodes_held : (hs : List Held) → Each (FreeAt node) (map of_held hs)
nodes_held [] = tt
nodes_held (h ∷ hs) = (h.1, nodes_held hs)

nodes_free : (hs : List Held) → FreeAt (many node) (map of_held hs)
nodes_free hs = many_free node node_begins (map of_held hs) (nodes_held hs)

keywords_held : (ks : List (Name × Held)) → Each (FreeAt keyword) (map (λ k. (k.0, k.1.0)) ks)
keywords_held [] = tt
keywords_held (k ∷ ks) = (group_free (beside text node) (k.0, k.1.0) (beside_free text node k.0 k.1.0 (text_free k.0) k.1.1), keywords_held ks)

links_held : (ls : List (Operator × Held)) → Each (FreeAt link) (map (λ l. (l.0, l.1.0)) ls)
links_held [] = tt
links_held (l ∷ ls) = (group_free (beside (kind operator_text) node) (l.0, l.1.0) (beside_free (kind operator_text) node l.0 l.1.0 (operator_free l.0) l.1.1), links_held ls)

couples_held : (ps : List (Held × Held)) → Each (FreeAt couple) (map (λ p. (p.0.0, p.1.0)) ps)
couples_held [] = tt
couples_held (p ∷ ps) = (group_free (beside node node) (p.0.0, p.1.0) (beside_free node node p.0.0 p.1.0 p.0.1 p.1.1), couples_held ps)

step : (y : Node-F Name Held) → FreeAt node (made.roll-Node Name (map-Node Name Held (Node Name) of_held y))
unfolding made.roll-Node denote.Hole.Carrier.roll
step (Node-F.Lit v) = here a_literal v (value_free v)
step (Node-F.Name name) = here a_name name (text_free name)
step (Node-F.Call name hs ks) =
    let front = beside_free text (many node) _ _ (text_free name) (nodes_free hs) in
    here a_call _ (beside_free (beside text (many node)) (many keyword) _ _ front (many_free keyword (grouped (beside text node)) _ (keywords_held ks)))
step (Node-F.Method a name hs) = here a_method _ (beside_free (beside node text) (many node) _ _ (beside_free node text _ _ a.1 (text_free name)) (nodes_free hs))
step (Node-F.Index a b) = here an_index _ (beside_free node node _ _ a.1 b.1)
step (Node-F.Path a) = here a_path a.0 a.1
step (Node-F.Neg a) = here a_negation a.0 a.1
step (Node-F.Not a) = here an_inversion a.0 a.1
step (Node-F.Chain a ls) = here a_chain _ (beside_free node (many link) _ _ a.1 (many_free link (grouped (beside (kind operator_text) node)) _ (links_held ls)))
step (Node-F.Compare o a b) = here a_comparison _ (beside_free (beside (kind comparison_text) node) node _ _ (beside_free (kind comparison_text) node _ _ (comparison_free o) a.1) b.1)
step (Node-F.And hs) = here an_and _ (nodes_free hs)
step (Node-F.Or hs) = here an_or _ (nodes_free hs)
step (Node-F.Cond a b c) = here a_choice _ (beside_free (beside node node) node _ _ (beside_free node node _ _ a.1 b.1) c.1)
step (Node-F.List hs) = here a_list _ (nodes_free hs)
step (Node-F.Dict ps) = here a_dict _ (many_free couple (grouped (beside node node)) _ (couples_held ps))
step (Node-F.Comp a name b hs) =
    let front = beside_free (beside node text) node _ _ (beside_free node text _ _ a.1 (text_free name)) b.1 in
    here a_comprehension _ (beside_free (beside (beside node text) node) (many node) _ _ front (nodes_free hs))

pub node_free : (n : Node Name) → FreeAt node n
node_free = ind-Node Name (FreeAt node) (λ x y is. subst (λ z. FreeAt node (made.roll-Node Name z)) is (step y))
