-- The rules of expressions are lawful.
use Rattle.std.proofs.Common.{◌≡◌, not, ◌<◌, ◌⊎◌, length, subst, inr, Ok, Err, ℕ, zero, suc, Bool, true, false, List, [], ◌∷◌, ◌++◌, None, Some, Option, refl, inl, codes, pos, sym, ap, ◌∙◌}
use Rattle.rd_syntax.specs.declared.token.Token.{Token}
use Rattle.rd_value.specs.declared.value.Datum.TheVariants as value
use Rattle.rd_parse.specs.declared.terminal.Terminal.{Terminal}
use Rattle.rd_parse.specs.declared.terminal.Terminal.TheVariants as w
use Rattle.rd_tree.specs.declared.tree.Operator.TheVariants.{Add, Mul}
use Rattle.rd_tree.specs.declared.tree.Comparison.TheVariants as compared
use Rattle.rd_tree.specs.declared.tree.Node.TheVariants as node
use Rattle.rd_parse.specs.declared.expression.arguments.Given.{Given}
use Rattle.rd_parse.specs.declared.expression.arguments.Given.TheVariants as given
use Rattle.rd_parse.specs.declared.expression.build.Part.{Part}
use Rattle.rd_parse.specs.declared.expression.build.Part.TheVariants as part
use Rattle.rd_parse.specs.Form.{Form, one, opening}
use Rattle.rd_parse.specs.Reader.{Reader, read_one, Refused, Deep, Outcome, hits, is_there, sees, head, pair}
use Rattle.rd_parse.specs.Terminal.{terminal, among, is, flag, spells, named, name_of, word_of, spelled, text_of, quoted, number_of, counted}
use Rattle.rd_parse.specs.Expressions as form
use Rattle.rd_parse.specs.Expressions.{Tree, Level, behind, called, Clause, comp, with_part, joined, chained, anded, ored, plus_of, plus_by, times_of, times_by, comparison_of, comparison_by, constant_of, constant_by, begins_expression, begins_argument, begins_part, begins_comparison}
use Rattle.rd_parse.specs.Reading as reader
use Rattle.rd_parse.specs.Reading.{Readers, no_call, assigned}
use Rattle.rd_parse.proofs.Laws.{Lawful, got, got_rest, stopped, stopped_rest, or_none}
use Rattle.rd_parse.proofs.Dive.{Sinks, sunk, not_sunk}
use Rattle.rd_parse.proofs.DiveTurns.{Firsts}
use Rattle.rd_parse.proofs.More.{way}
use Rattle.rd_parse.proofs.Rules.{and_false}
use Rattle.rd_parse.proofs.Pick.{Apart2, eager_by}
use Rattle.rd_parse.proofs.Sets.{holds_one, set, within, join_set, and_both, by_way}
use Rattle.rd_parse.proofs.Samples.{example, example_is}
use Rattle.rd_parse.proofs.Steps.{Step, Inward, opens_then, enters, wide, carries, takes, opened, makes, then, chooses, each, tests, commas, commas_by, picks}

-- ---- the tokens that may begin a form, and those with which one may go on

abbrev pub atom_first : List Terminal
atom_first = w.Name ∷ w.Int ∷ w.Text ∷ w.Nothing ∷ w.True ∷ w.False ∷ w.LeftParen ∷ w.LeftSquare ∷ w.LeftCurly ∷ []

abbrev pub factor_first : List Terminal
factor_first = w.Minus ∷ atom_first

abbrev pub first : List Terminal
first = w.Not ∷ factor_first

abbrev pub part_first : List Terminal
part_first = w.LeftSquare ∷ w.Dot ∷ []

abbrev pub comparison_first : List Terminal
comparison_first = w.Equal ∷ w.NotEqual ∷ w.Less ∷ w.AtMost ∷ w.Greater ∷ w.AtLeast ∷ w.In ∷ w.Not ∷ []

abbrev pub atom_more : List Terminal
atom_more = w.LeftParen ∷ w.Text ∷ []

abbrev pub parts_more : List Terminal
parts_more = w.LeftParen ∷ part_first

abbrev pub factor_more : List Terminal
factor_more = part_first ++ atom_more

abbrev pub term_more : List Terminal
term_more = w.Star ∷ w.Slashes ∷ w.Percent ∷ factor_more

abbrev pub sum_more : List Terminal
sum_more = w.Plus ∷ w.Minus ∷ term_more

abbrev pub comparison_more : List Terminal
comparison_more = comparison_first ++ sum_more

abbrev pub conjunction_more : List Terminal
conjunction_more = w.And ∷ comparison_more

abbrev pub disjunction_more : List Terminal
disjunction_more = w.Or ∷ conjunction_more

abbrev pub expression_more : List Terminal
expression_more = w.If ∷ disjunction_more

-- with expressions behind commas
abbrev pub inside_more : List Terminal
inside_more = w.Comma ∷ (first ++ expression_more)

abbrev pub argument_first : Bool → List Terminal
argument_first false = first
argument_first true = w.Name ∷ []

-- ---- the tests of the readers

first_by : (κ : Terminal) → holds_one first κ ≡ begins_expression κ
first_by w.Name = refl
first_by _ = refl

pub first_is : (t : Token) → set first t ≡ among begins_expression t
unfolding set
first_is t = first_by (terminal t)

part_by : (κ : Terminal) → holds_one part_first κ ≡ begins_part κ
part_by w.Dot = refl
part_by _ = refl

part_is : (t : Token) → set part_first t ≡ among begins_part t
unfolding set
part_is t = part_by (terminal t)

comparison_first_by : (κ : Terminal) → holds_one comparison_first κ ≡ begins_comparison κ
comparison_first_by w.Equal = refl
comparison_first_by _ = refl

comparison_first_is : (t : Token) → set comparison_first t ≡ among begins_comparison t
unfolding set
comparison_first_is t = comparison_first_by (terminal t)

argument_by : (s : Bool) (κ : Terminal) → holds_one (argument_first s) κ ≡ begins_argument s κ
argument_by false κ = first_by κ
argument_by true w.Name = refl
argument_by true _ = refl

argument_is : (s : Bool) (t : Token) → set (argument_first s) t ≡ among (begins_argument s) t
unfolding set
argument_is s t = argument_by s (terminal t)

name_by : (κ : Terminal) (s : List ℕ) (l : ℕ) → holds_one (w.Name ∷ []) κ ≡ is_there (named κ s l)
name_by w.Name s l = refl
name_by _ s l = refl

pub name_is : (t : Token) → set (w.Name ∷ []) t ≡ hits name_of t
unfolding set
name_is t = name_by (terminal t) t.text t.line

text_by : (κ : Terminal) (s : List ℕ) → holds_one (w.Text ∷ []) κ ≡ is_there (quoted κ s)
text_by w.Text s = refl
text_by _ s = refl

pub text_is : (t : Token) → set (w.Text ∷ []) t ≡ hits text_of t
unfolding set
text_is t = text_by (terminal t) t.text

word_by : (κ : Terminal) (s : List ℕ) → is_there (spelled κ s) ≡ true → holds_one (w.Name ∷ []) κ ≡ true
word_by w.Name s h = refl
word_by _ s h = h

pub word_within : (t : Token) → hits word_of t ≡ true → set (w.Name ∷ []) t ≡ true
unfolding set
word_within t h = word_by (terminal t) t.text h

number_by : (κ : Terminal) (s : List ℕ) → is_there (counted κ s) ≡ true → holds_one (w.Int ∷ []) κ ≡ true
number_by w.Int s h = refl
number_by _ s h = h

pub number_within : (t : Token) → hits number_of t ≡ true → set (w.Int ∷ []) t ≡ true
unfolding set
number_within t h = number_by (terminal t) t.text h

abbrev constant_first : List Terminal
constant_first = w.Nothing ∷ w.True ∷ w.False ∷ []

constant_test : (κ : Terminal) → holds_one constant_first κ ≡ is_there (constant_by κ)
constant_test w.Nothing = refl
constant_test _ = refl

constant_is : (t : Token) → set constant_first t ≡ hits constant_of t
unfolding set
constant_is t = constant_test (terminal t)

abbrev pub plus_first : List Terminal
plus_first = w.Plus ∷ w.Minus ∷ []

plus_test : (κ : Terminal) → holds_one plus_first κ ≡ is_there (plus_by κ)
plus_test w.Plus = refl
plus_test _ = refl

plus_is : (t : Token) → set plus_first t ≡ hits plus_of t
unfolding set
plus_is t = plus_test (terminal t)

abbrev pub times_first : List Terminal
times_first = w.Star ∷ w.Slashes ∷ w.Percent ∷ []

times_test : (κ : Terminal) → holds_one times_first κ ≡ is_there (times_by κ)
times_test w.Star = refl
times_test _ = refl

times_is : (t : Token) → set times_first t ≡ hits times_of t
unfolding set
times_is t = times_test (terminal t)

abbrev compare_first : List Terminal
compare_first = w.Equal ∷ w.NotEqual ∷ w.Less ∷ w.AtMost ∷ w.Greater ∷ w.AtLeast ∷ w.In ∷ []

compare_test : (κ : Terminal) → holds_one compare_first κ ≡ is_there (comparison_by κ)
compare_test w.In = refl
compare_test _ = refl

compare_is : (t : Token) → set compare_first t ≡ hits comparison_of t
unfolding set
compare_is t = compare_test (terminal t)

-- ---- a token of each kind that carries a value

pub name_there : name_of (example w.Name) ≡ Some (record { text = codes "path"; line = 0 })
unfolding terminal
name_there = refl

word_there : word_of (example w.Name) ≡ Some (codes "path")
unfolding terminal
word_there = refl

path_there : form.path_word (example w.Name) ≡ Some tt
unfolding terminal
path_there = refl

text_there : text_of (example w.Text) ≡ Some []
unfolding terminal
text_there = refl

number_there : number_of (example w.Int) ≡ Some (pos 0)
unfolding terminal
number_there = refl

constant_there : constant_of (example w.Nothing) ≡ Some value.Nothing
unfolding terminal
constant_there = refl

plus_there : plus_of (example w.Plus) ≡ Some Add
unfolding terminal
plus_there = refl

times_there : times_of (example w.Star) ≡ Some Mul
unfolding terminal
times_there = refl

compare_there : comparison_of (example w.Equal) ≡ Some compared.Eq
unfolding terminal
compare_there = refl

path_by : (κ : Terminal) (s : List ℕ) → is_there (flag (spells (codes "path") κ s)) ≡ true → holds_one (w.Name ∷ []) κ ≡ true
path_by w.Name s h = refl
path_by _ s h = h

path_within : (t : Token) → hits form.path_word t ≡ true → set (w.Name ∷ []) t ≡ true
unfolding set
path_within t h = path_by (terminal t) t.text h

-- ---- what two tokens tell apart

-- A name before `=` is read as an expression by itself. Or no level may open any more.
abbrev pub Lone : ℕ → (ℕ → Level) → (ℕ → Readers) → Type 0
Lone n X F =
    ((t u : Token) (after : List Token) → hits name_of t ≡ true → hits (is w.Assign) u ≡ true → (x : Tree) × ((F n).expression (t ∷ u ∷ after) ≡ Ok (x, u ∷ after)))
    ⊎ (((x : Tree) (ts rest : List Token) → (X n).expression x ts rest → ⊥) × ((ts : List Token) → (F n).expression ts ≡ Err (Deep ts)) × (n ≡ 0))

pub there_some : {A : Type 0} (o : Option A) → is_there o ≡ true → (a : A) × (o ≡ Some a)
there_some None h = absurd cc
there_some (Some a) h = (a, refl)

some_there : {A : Type 0} (o : Option A) (a : A) → o ≡ Some a → is_there o ≡ true
some_there o a e = ap is_there e

assign_behind : (rest : List Token) → sees (set (w.Assign ∷ expression_more)) rest ≡ false → sees (hits (is w.Assign)) rest ≡ false
assign_behind [] h = refl
assign_behind (t ∷ ts) h = sym (tests w.Assign t) ∙ (or_none (set (w.Assign ∷ []) t) (set expression_more t) (join_set true (w.Assign ∷ []) expression_more t ∙ h)).0

more_behind : (rest : List Token) → sees (set (w.Assign ∷ expression_more)) rest ≡ false → sees (set expression_more) rest ≡ false
more_behind [] h = refl
more_behind (t ∷ ts) h = (or_none (set (w.Assign ∷ []) t) (set expression_more t) (join_set true (w.Assign ∷ []) expression_more t ∙ h)).1

module _ (n : ℕ) (X : ℕ → Level) (F : ℕ → Readers) (lone : Lone n X F)
    (expression_law : Lawful n (λ m. (X m).expression) (λ m. (F m).expression) (set first) (set expression_more) false)
    (keyword_law : Lawful n (λ m. form.keyword m (X m)) (λ m. reader.read_keyword m (F m)) (set (w.Name ∷ [])) (set expression_more) false)
    (positional_law : Lawful n (λ m. form.positional m (X m)) (λ m. reader.read_positional m (F m)) (set first) (set expression_more) false) where
  keyword_pairs : (x : Given) (ts rest : List Token) → form.keyword n (X n) x ts rest → pair (hits name_of) assigned ts ≡ true
  keyword_pairs x [] rest h = absurd h.2
  keyword_pairs x (t ∷ []) rest h = absurd (let one_more : [] ≡ h.1 = h.2.1 in subst (λ ts. one (is w.Assign) h.3.0 ts h.3.1) (sym one_more) h.3.2)
  keyword_pairs x (t ∷ u ∷ ts) rest h =
      let next : one (is w.Assign) h.3.0 (u ∷ ts) h.3.1 = subst (λ ts. one (is w.Assign) h.3.0 ts h.3.1) (sym h.2.1) h.3.2 in
      rw (some_there (name_of t) h.0 h.2.0, some_there (is w.Assign u) h.3.0 next.0) refl

  read_alone : (x : Tree) (t u : Token) (after rest : List Token) → (X n).expression x (t ∷ u ∷ after) rest → sees (set (w.Assign ∷ expression_more)) rest ≡ false → hits name_of t ≡ true → hits (is w.Assign) u ≡ true → ⊥
  read_alone x t u after rest h m name sign =
      elim lone [
        | inl l ↦
            let a = l t u after name sign in
            let e : (F n).expression (t ∷ u ∷ after) ≡ Ok (x, rest) = expression_law.only x (t ∷ u ∷ after) rest h (more_behind rest m) in
            let same : u ∷ after ≡ rest = got_rest a.0 x (u ∷ after) rest (sym a.1 ∙ e) in
            let no : hits (is w.Assign) u ≡ false = ap (sees (hits (is w.Assign))) same ∙ assign_behind rest m in
            cc
        | inr l ↦ l.0 x _ _ h
      ]

  positional_alone : (x : Given) (ts rest : List Token) → form.positional n (X n) x ts rest → sees (set (w.Assign ∷ expression_more)) rest ≡ false → pair (hits name_of) assigned ts ≡ false
  positional_alone x [] rest h m = refl
  positional_alone x (t ∷ []) rest h m = and_false (hits name_of t)
  positional_alone x (t ∷ u ∷ after) rest h m =
      let text : (X n).expression h.0 (t ∷ u ∷ after) rest = subst (λ r. (X n).expression h.0 (t ∷ u ∷ after) r) h.3.1 h.2 in
      by_way (hits name_of t) (hits (is w.Assign) u) (λ name. elim (way (hits (is w.Assign) u)) [ inl sign ↦ absurd (read_alone h.0 t u after rest text m name sign) | inr sign ↦ sign ])

  keyword_eager : (ts rest : List Token) → reader.read_keyword n (F n) ts ≡ Err (Refused rest) → pair (hits name_of) assigned ts ≡ true → length rest < length ts
  unfolding reader.read_keyword
  keyword_eager [] rest e p = absurd cc
  keyword_eager (t ∷ ts) rest e p =
      let name = there_some (name_of t) (and_both (hits name_of t) (assigned (head ts)) p).0 in
      eager_by n (λ m. form.keyword m (X m)) (λ m. reader.read_keyword m (F m)) _ _ false keyword_law (t ∷ ts) rest e (t ∷ []) refl
      (λ no. let other : reader.read_keyword n (F n) (t ∷ []) ≡ Err (Refused []) = rw name.1 refl in (let stop : [] ≡ t ∷ [] = stopped_rest Given [] (t ∷ []) (sym other ∙ no) in cc))

  positional_eager : (ts rest : List Token) → reader.read_positional n (F n) ts ≡ Err (Refused rest) → sees (hits name_of) ts ≡ true → length rest < length ts
  unfolding reader.read_positional
  positional_eager [] rest e p = absurd cc
  positional_eager (t ∷ ts) rest e p =
      elim lone [
        | inl l ↦
            let a = l t (example w.Assign) [] p (some_there (is w.Assign (example w.Assign)) tt (example_is w.Assign)) in
            eager_by n (λ m. form.positional m (X m)) (λ m. reader.read_positional m (F m)) _ _ false positional_law (t ∷ ts) rest e (t ∷ example w.Assign ∷ []) refl
            (λ no. let other : reader.read_positional n (F n) (t ∷ example w.Assign ∷ []) ≡ Ok (given.Positional a.0, example w.Assign ∷ []) = rw a.1 refl in (let bad : got {T = Token} (given.Positional a.0) (example w.Assign ∷ []) ≡ Err (Refused (t ∷ example w.Assign ∷ [])) = sym other ∙ no in cc))
        | inr l ↦ absurd (let bad : (let r : Outcome Token Given = Err (Deep (t ∷ ts)) in r) ≡ Err (Refused rest) = sym (rw (l.1 (t ∷ ts)) refl) ∙ e in cc)
      ]

  arguments_apart : Apart2 n (hits name_of) assigned (set (w.Assign ∷ expression_more)) (λ m. form.keyword m (X m)) (λ m. form.positional m (X m)) (λ m. reader.read_keyword m (F m)) (λ m. reader.read_positional m (F m))
  arguments_apart = record { pairs = λ x ts rest h m. keyword_pairs x ts rest h; alone = positional_alone; eager_pair = keyword_eager; eager_alone = positional_eager }

  arguments_firsts : Firsts (n ≡ 0) n (hits name_of) assigned (λ m. reader.read_keyword m (F m)) (λ m. reader.read_positional m (F m))
  unfolding reader.read_keyword reader.read_positional
  arguments_firsts = record {
    pairs = λ t name sinks k p.
        let a = there_some (name_of t) name in
        let s = sinks [] in
        let other : reader.read_keyword n (F n) (t ∷ []) ≡ Err (Refused []) = rw a.1 refl in
        absurd (let bad : stopped {T = Token} {A = Given} [] ≡ sunk s.0 = sym other ∙ s.1 in cc);
    alone = λ t name sinks. elim lone [
      | inl l ↦
          let a = l t (example w.Assign) [] name (some_there (is w.Assign (example w.Assign)) tt (example_is w.Assign)) in
          let s = sinks (example w.Assign ∷ []) in
          let other : reader.read_positional n (F n) (t ∷ example w.Assign ∷ []) ≡ Ok (given.Positional a.0, example w.Assign ∷ []) = rw a.1 refl in
          absurd (not_sunk (given.Positional a.0) (example w.Assign ∷ []) s.0 (sym other ∙ s.1))
      | inr l ↦ l.2
    ];
  }

opening_empty : {A : Type 0} (o : Token → Option A) (m : ℕ) (a : A) (mid : List Token) → opening o m a [] mid → ⊥
opening_empty o zero a mid h = h
opening_empty o (suc m) a mid h = h

module _ (n : ℕ) (X : ℕ → Level) (F : ℕ → Readers)
    (method_law : Lawful n (λ m. form.method m (X m)) (λ m. reader.read_method m (F m)) (set (w.Name ∷ [])) (set []) false) where
  shut_path : (u : Unit {0}) (m : ℕ) (t : Token) (ts mid : List Token) → opening form.path_word m u (t ∷ ts) mid → (form.path_word t ≡ Some u) × (ts ≡ mid)
  shut_path u zero t ts mid h = absurd h
  shut_path u (suc m) t ts mid h = h

  no_paren : (rest : List Token) → sees (set (w.LeftParen ∷ [])) rest ≡ false → no_call (head rest) ≡ true
  no_paren [] h = refl
  no_paren (t ∷ ts) h = ap not (sym (tests w.LeftParen t) ∙ h)

  path_pairs : (x : Part) (ts rest : List Token) → form.path n (X n) x ts rest → sees (set (w.LeftParen ∷ [])) rest ≡ false → pair (hits form.path_word) no_call ts ≡ true
  path_pairs x [] rest h m = absurd (opening_empty form.path_word n h.0 h.1 h.2)
  path_pairs x (t ∷ ts) rest h m =
      let o = shut_path h.0 n t ts h.1 h.2 in
      let same : ts ≡ rest = o.1 ∙ h.3.1 in
      rw (some_there (form.path_word t) h.0 o.0) (ap (λ (ts : List Token). no_call (head ts)) same ∙ no_paren rest m)

  paren_behind : (u : Unit {0}) (m : ℕ) (ts mid : List Token) → opening (is w.LeftParen) m u ts mid → no_call (head ts) ≡ false
  paren_behind u m [] mid h = absurd (opening_empty (is w.LeftParen) m u mid h)
  paren_behind u zero (t ∷ ts) mid h = absurd h
  paren_behind u (suc m) (t ∷ ts) mid h = ap not (some_there (is w.LeftParen t) u h.0)

  method_alone : (x : Part) (ts rest : List Token) → form.method n (X n) x ts rest → pair (hits form.path_word) no_call ts ≡ false
  method_alone x [] rest h = absurd h.2
  method_alone x (t ∷ ts) rest h =
      let next : no_call (head ts) ≡ false = ap (λ (ts : List Token). no_call (head ts)) h.2.1 ∙ paren_behind h.3.2.0 n h.1 h.3.2.1 h.3.2.2 in
      rw next (and_false (hits form.path_word t))

  path_reads : (m : ℕ) (t : Token) (ts rest : List Token) → hits form.path_word t ≡ true → reader.read_path m (F m) (t ∷ ts) ≡ Err (Refused rest) → ⊥
  unfolding reader.read_path
  path_reads zero t ts rest h bad = let no : (let r : Outcome Token Part = Err (Deep (t ∷ ts)) in r) ≡ Err (Refused rest) = sym (rw h refl) ∙ bad in cc
  path_reads (suc m) t ts rest h bad =
      let a = there_some (form.path_word t) h in
      let no : got {T = Token} part.Path ts ≡ Err (Refused rest) = sym (rw a.1 refl) ∙ bad in cc

  path_eager : (ts rest : List Token) → reader.read_path n (F n) ts ≡ Err (Refused rest) → pair (hits form.path_word) no_call ts ≡ true → length rest < length ts
  path_eager [] rest bad p = absurd cc
  path_eager (t ∷ ts) rest bad p = absurd (path_reads n t ts rest (and_both (hits form.path_word t) (no_call (head ts)) p).0 bad)

  word_of_path : (t : Token) → hits form.path_word t ≡ true → (s : List ℕ) × (word_of t ≡ Some s)
  word_of_path t h = by_kind (terminal t) t.text h
    where
      by_kind : (κ : Terminal) (s : List ℕ) → is_there (flag (spells (codes "path") κ s)) ≡ true → (r : List ℕ) × (spelled κ s ≡ Some r)
      by_kind w.Name s h = (s, refl)
      by_kind _ s h = absurd (let no : false ≡ true = h in cc)

  method_stops : (m : ℕ) (t : Token) (s : List ℕ) → word_of t ≡ Some s → reader.read_method m (F m) (t ∷ []) ≡ Err (Refused [])
  unfolding reader.read_method reader.read_list_in_brackets
  method_stops zero t s h = rw h refl
  method_stops (suc m) t s h = rw h refl

  method_eager : (ts rest : List Token) → reader.read_method n (F n) ts ≡ Err (Refused rest) → sees (hits form.path_word) ts ≡ true → length rest < length ts
  method_eager [] rest bad p = absurd cc
  method_eager (t ∷ ts) rest bad p =
      let a = word_of_path t p in
      eager_by n (λ m. form.method m (X m)) (λ m. reader.read_method m (F m)) _ _ false method_law (t ∷ ts) rest bad (t ∷ []) refl
      (λ no. let stop : [] ≡ t ∷ [] = stopped_rest Part [] (t ∷ []) (sym (method_stops n t a.0 a.1) ∙ no) in cc)

  paren_there : (k : List Token) → no_call (head k) ≡ false → sees (hits (is w.LeftParen)) k ≡ true
  paren_there k h = by_test (sees (hits (is w.LeftParen)) k) h
    where
      by_test : (b : Bool) → not b ≡ false → b ≡ true
      by_test true h = refl
      by_test false h = absurd cc

  path_or_method : (m : ℕ) (t : Token) (k : List Token) → hits form.path_word t ≡ true → Sinks (reader.read_path m (F m)) (t ∷ []) → pair (hits form.path_word) no_call (t ∷ k) ≡ false → Sinks (reader.read_method m (F m)) (t ∷ k)
  unfolding reader.read_path reader.read_method reader.read_list_in_brackets
  path_or_method zero t k h s p =
      let a = word_of_path t h in
      let paren : no_call (head k) ≡ false = rw h at p in
      (k, rw (a.1, paren_there k paren) refl)
  path_or_method (suc m) t k h s p =
      let a = there_some (form.path_word t) h in
      let other : reader.read_path (suc m) (F (suc m)) (t ∷ []) ≡ Ok (part.Path, []) = rw a.1 refl in
      absurd (not_sunk part.Path [] s.0 (sym other ∙ s.1))

  dotted_firsts : Firsts ⊥ n (hits form.path_word) no_call (λ m. reader.read_path m (F m)) (λ m. reader.read_method m (F m))
  dotted_firsts = record {
    pairs = λ t h sinks k p. path_or_method n t k h (sinks []) p;
    alone = λ t h sinks.
        let a = word_of_path t h in
        let s = sinks [] in
        (let bad : stopped {T = Token} {A = Part} [] ≡ sunk s.0 = sym (method_stops n t a.0 a.1) ∙ s.1 in cc);
  }

  dotted_apart : Apart2 n (hits form.path_word) no_call (set (w.LeftParen ∷ [])) (λ m. form.path m (X m)) (λ m. form.method m (X m)) (λ m. reader.read_path m (F m)) (λ m. reader.read_method m (F m))
  dotted_apart = record { pairs = path_pairs; alone = λ x ts rest h m. method_alone x ts rest h; eager_pair = path_eager; eager_alone = method_eager }

-- ---- the rules that have no level in them

module _ (U : ℕ → Type 0) (n : ℕ) where
  pub number_step : Step U n (λ _. form.number) (λ _. reader.read_number) (w.Int ∷ []) [] false
  unfolding reader.read_number
  number_step = then refl (carries U n number_of (w.Int ∷ []) refl (example w.Int) _ number_there number_within) (λ z. makes U n (node.Lit (value.Int z)))

  pub text_step : Step U n (λ _. one text_of) (λ _. read_one text_of) (w.Text ∷ []) [] false
  text_step = carries U n text_of (w.Text ∷ []) refl (example w.Text) _ text_there (λ t h. text_is t ∙ h)

  pub more_texts_step : (t : List ℕ) → Step U n (λ _. form.more_texts t) (λ _. reader.read_more_texts t) (w.Text ∷ []) (w.Text ∷ []) true
  unfolding reader.read_more_texts
  more_texts_step t = then refl (each (hits text_of) text_is refl text_step) (λ more. makes U n (t ++ joined more))

  pub texts_step : Step U n (λ _. form.texts) (λ _. reader.read_texts) (w.Text ∷ []) (w.Text ∷ []) false
  unfolding reader.read_texts
  texts_step = wide refl refl (then refl text_step (λ t. more_texts_step t))

  pub text_literal_step : Step U n (λ _. form.text_literal) (λ _. reader.read_text_literal) (w.Text ∷ []) (w.Text ∷ []) false
  unfolding reader.read_text_literal
  text_literal_step = then refl texts_step (λ t. makes U n (node.Lit (value.Text t)))

  pub constant_step : Step U n (λ _. form.constant) (λ _. reader.read_constant) constant_first [] false
  unfolding reader.read_constant
  constant_step = then refl (carries U n constant_of constant_first refl (example w.Nothing) _ constant_there (λ t h. constant_is t ∙ h)) (λ v. makes U n (node.Lit v))

  pub not_in_step : Step U n (λ _. form.not_in) (λ _. reader.read_not_in) (w.Not ∷ []) [] false
  unfolding reader.read_not_in
  not_in_step = then refl (takes U n w.Not refl) (λ u. then refl (takes U n w.In refl) (λ v. makes U n compared.NotIn))

  pub comparing_step : Step U n (λ _. form.comparing) (λ _. reader.read_comparing) comparison_first [] false
  unfolding reader.read_comparing
  comparing_step = chooses (hits comparison_of) compare_is refl (carries U n comparison_of compare_first refl (example w.Equal) _ compare_there (λ t h. compare_is t ∙ h)) not_in_step

-- ---- the rules of one level

-- X are the forms of what stands one level further in, F their readers.
module _ (U : ℕ → Type 0) (n : ℕ) (X : ℕ → Level) (F : ℕ → Readers)
    (expression_step : Inward U n (λ m. (X m).expression) (λ m. (F m).expression) first expression_more false)
    (disjunction_inside : Inward U n (λ m. (X m).disjunction) (λ m. (F m).disjunction) first disjunction_more false)
    (inversion_inside : Inward U n (λ m. (X m).inversion) (λ m. (F m).inversion) first comparison_more false)
    (factor_inside : Inward U n (λ m. (X m).factor) (λ m. (F m).factor) factor_first factor_more false)
    (parts_inside : (e : Tree) → Inward U n (λ m. (X m).parts e) (λ m. (F m).parts e) part_first parts_more true)
    (lone : Lone n X F) where
  abbrev Of : {A : Type 0} → (ℕ → Level → Form Token A) → (ℕ → Readers → Reader Token A) → List Terminal → List Terminal → Bool → Type 0
  Of P f = Step U n (λ m. P m (X m)) (λ m. f m (F m))

  abbrev Within : {A : Type 0} → (ℕ → Level → Form Token A) → (ℕ → Readers → Reader Token A) → List Terminal → List Terminal → Bool → Type 0
  Within P f = Inward U n (λ m. P m (X m)) (λ m. f m (F m))

  part_shut : (p : Part) (ts rest : List Token) → form.any_part 0 (X 0) p ts rest → ⊥
  part_shut p ts rest (inl h) = h.2
  part_shut p ts rest (inr h) = elim h.3 [ inl q ↦ q.2 | inr q ↦ q.3.2.2 ]

  pub more_expressions_step : (first : Tree) → Within (λ m l. form.more_expressions m l first) (λ m l. reader.read_more_expressions m l first) (w.Comma ∷ []) inside_more true
  unfolding reader.read_more_expressions
  more_expressions_step first = wide refl refl (then refl (commas (among begins_expression) first_is refl refl expression_step) (λ more. makes U n (first ∷ more)))

  pub expressions_step : Within form.expressions reader.read_expressions first inside_more true
  unfolding reader.read_expressions
  expressions_step = wide refl refl (chooses (among begins_expression) first_is refl (then refl expression_step (λ e. more_expressions_step e)) (makes U n []))

  pub keyword_step : Within form.keyword reader.read_keyword (w.Name ∷ []) expression_more false
  unfolding reader.read_keyword
  keyword_step = then refl (carries U n name_of (w.Name ∷ []) refl (example w.Name) _ name_there (λ t h. name_is t ∙ h)) (λ name. then refl (takes U n w.Assign refl) (λ u. then refl expression_step (λ e. makes U n (given.Keyword name e))))

  pub positional_step : Within form.positional reader.read_positional first expression_more false
  unfolding reader.read_positional
  positional_step = then refl expression_step (λ e. makes U n (given.Positional e))

  pub argument_step : (s : Bool) → Within (λ m l. form.argument m l s) (λ m l. reader.read_argument m l s) (argument_first s) (w.Assign ∷ expression_more) false
  unfolding reader.read_argument
  argument_step false =
      wide refl refl (picks (hits name_of) assigned (w.Assign ∷ expression_more) (λ x. arguments_apart n X F lone (expression_step.rule.law x) (keyword_step.rule.law x) (positional_step.rule.law x)) keyword_step positional_step
      (λ x. arguments_firsts n X F lone (expression_step.rule.law x) (keyword_step.rule.law x) (positional_step.rule.law x)))
  argument_step true = wide refl refl keyword_step

  argument_within : (s : Bool) → within (argument_first s) first ≡ true
  argument_within true = refl
  argument_within false = refl

  pub more_arguments_step : (first : Given) → Within (λ m l. form.more_arguments m l first) (λ m l. reader.read_more_arguments m l first) (w.Comma ∷ []) (w.Assign ∷ inside_more) true
  unfolding reader.read_more_arguments
  more_arguments_step a =
      wide refl refl (then refl (commas_by (λ s. among (begins_argument s)) behind first argument_is argument_within refl argument_step (behind false a)) (λ more. makes U n (a ∷ more)))

  pub arguments_step : Within form.arguments reader.read_arguments first (w.Assign ∷ inside_more) true
  unfolding reader.read_arguments
  arguments_step = wide refl refl (chooses (among begins_expression) first_is refl (then refl (argument_step false) (λ a. more_arguments_step a)) (makes U n []))

  pub call_step : Of form.call reader.read_call (w.LeftParen ∷ []) [] false
  unfolding reader.read_call
  call_step = opens_then U n w.LeftParen refl (λ u. then refl arguments_step (λ all. then refl (takes U n w.RightParen refl) (λ v. makes U n all)))

  pub named_step : Of form.named reader.read_named (w.Name ∷ []) (w.LeftParen ∷ []) false
  unfolding reader.read_named
  named_step =
      then refl (carries U n name_of (w.Name ∷ []) refl (example w.Name) _ name_there (λ t h. name_is t ∙ h))
      (λ name. chooses (hits (is w.LeftParen)) (tests w.LeftParen) refl (then refl call_step (λ all. makes U n (called name all))) (makes U n (node.Name name)))

  pub group_step : Of form.group reader.read_group (w.LeftParen ∷ []) [] false
  unfolding reader.read_group
  group_step = opens_then U n w.LeftParen refl (λ u. then refl expression_step (λ e. then refl (takes U n w.RightParen refl) (λ v. makes U n e)))

  pub condition_step : Within form.condition reader.read_condition (w.If ∷ []) (w.If ∷ disjunction_more) true
  unfolding reader.read_condition
  condition_step = wide refl refl (chooses (hits (is w.If)) (tests w.If) refl (then refl (takes U n w.If refl) (λ u. then refl disjunction_inside (λ e. makes U n (e ∷ [])))) (makes U n []))

  pub source_step : Within form.source reader.read_source (w.For ∷ []) disjunction_more false
  unfolding reader.read_source
  source_step =
      then refl (takes U n w.For refl) (λ u. then refl (carries U n name_of (w.Name ∷ []) refl (example w.Name) _ name_there (λ t h. name_is t ∙ h))
      (λ name. then refl (takes U n w.In refl) (λ v. then refl disjunction_inside (λ e. makes U n (name, e)))))

  pub clause_step : Within form.clause reader.read_clause (w.For ∷ []) expression_more false
  unfolding reader.read_clause
  clause_step = wide refl refl (then refl source_step (λ s. then refl condition_step (λ c. makes U n (s, c))))

  pub list_of_step : (first : Tree) → Within (λ m l. form.list_of m l first) (λ m l. reader.read_list_of m l first) (w.Comma ∷ []) inside_more true
  unfolding reader.read_list_of
  list_of_step first = wide refl refl (then refl (more_expressions_step first) (λ all. makes U n (node.List all)))

  pub items_step : Within form.items reader.read_items first (w.For ∷ inside_more) true
  unfolding reader.read_items
  items_step =
      wide refl refl (chooses (among begins_expression) first_is refl (then refl expression_step (λ e. chooses (hits (is w.For)) (tests w.For) refl (then refl clause_step (λ c. makes U n (comp e c))) (list_of_step e))) (makes U n (node.List [])))

  pub square_step : Of form.square reader.read_square (w.LeftSquare ∷ []) [] false
  unfolding reader.read_square
  square_step = opens_then U n w.LeftSquare refl (λ u. then refl items_step (λ e. then refl (takes U n w.RightSquare refl) (λ v. makes U n e)))

  pub pair_step : Within form.pair reader.read_pair first expression_more false
  unfolding reader.read_pair
  pair_step = then refl expression_step (λ key. then refl (takes U n w.Colon refl) (λ u. then refl expression_step (λ e. makes U n (key, e))))

  pub more_pairs_step : (first : Tree × Tree) → Within (λ m l. form.more_pairs m l first) (λ m l. reader.read_more_pairs m l first) (w.Comma ∷ []) inside_more true
  unfolding reader.read_more_pairs
  more_pairs_step first = wide refl refl (then refl (commas (among begins_expression) first_is refl refl pair_step) (λ more. makes U n (first ∷ more)))

  pub pairs_step : Within form.pairs reader.read_pairs first inside_more true
  unfolding reader.read_pairs
  pairs_step = wide refl refl (chooses (among begins_expression) first_is refl (then refl pair_step (λ p. more_pairs_step p)) (makes U n []))

  pub curly_step : Of form.curly reader.read_curly (w.LeftCurly ∷ []) [] false
  unfolding reader.read_curly
  curly_step = opens_then U n w.LeftCurly refl (λ u. then refl pairs_step (λ all. then refl (takes U n w.RightCurly refl) (λ v. makes U n (node.Dict all))))

  pub atom_step : Of form.atom reader.read_atom atom_first atom_more false
  unfolding reader.read_atom
  atom_step =
      wide refl refl (chooses (hits name_of) name_is refl named_step (chooses (hits (is w.Int)) (tests w.Int) refl (number_step U n) (chooses (hits text_of) text_is refl (text_literal_step U n)
      (chooses (hits constant_of) constant_is refl (constant_step U n) (chooses (hits (is w.LeftParen)) (tests w.LeftParen) refl group_step (chooses (hits (is w.LeftSquare)) (tests w.LeftSquare) refl square_step curly_step))))))

  pub index_step : Of form.index reader.read_index (w.LeftSquare ∷ []) [] false
  unfolding reader.read_index
  index_step = opens_then U n w.LeftSquare refl (λ u. then refl expression_step (λ e. then refl (takes U n w.RightSquare refl) (λ v. makes U n (part.Index e))))

  pub list_in_brackets_step : Of form.list_in_brackets reader.read_list_in_brackets (w.LeftParen ∷ []) [] false
  unfolding reader.read_list_in_brackets
  list_in_brackets_step = opens_then U n w.LeftParen refl (λ u. then refl expressions_step (λ all. then refl (takes U n w.RightParen refl) (λ v. makes U n all)))

  pub method_step : Of form.method reader.read_method (w.Name ∷ []) [] false
  unfolding reader.read_method
  method_step = then refl (carries U n word_of (w.Name ∷ []) refl (example w.Name) _ word_there word_within) (λ name. then refl list_in_brackets_step (λ all. makes U n (part.Method name all)))

  pub path_step : Of form.path reader.read_path (w.Name ∷ []) [] false
  unfolding reader.read_path
  path_step = then refl (opened U n form.path_word (w.Name ∷ []) (example w.Name) tt path_there path_within) (λ u. makes U n part.Path)

  pub dotted_step : Of form.dotted reader.read_dotted (w.Dot ∷ []) (w.LeftParen ∷ []) false
  unfolding reader.read_dotted
  dotted_step =
      wide refl refl (then refl (takes U n w.Dot refl) (λ u. picks (hits form.path_word) no_call (w.LeftParen ∷ []) (λ x. dotted_apart n X F (method_step.rule.law x)) path_step method_step (λ x. dotted_firsts n X F (method_step.rule.law x))))

  pub part_step : Of form.any_part reader.read_part part_first (w.LeftParen ∷ []) false
  unfolding reader.read_part
  part_step = chooses (hits (is w.LeftSquare)) (tests w.LeftSquare) refl index_step dotted_step

  pub parts_step : (receiver : Tree) → Of (λ m l. form.parts m l receiver) (λ m l. reader.read_parts m l receiver) part_first parts_more true
  unfolding reader.read_parts
  parts_step receiver = wide refl refl (chooses (among begins_part) part_is refl (enters refl part_step (λ p. parts_inside (with_part receiver p)) part_shut) (makes U n receiver))

  pub postfix_step : Of form.postfix reader.read_postfix atom_first factor_more false
  unfolding reader.read_postfix
  postfix_step = wide refl refl (then refl atom_step (λ e. parts_step e))

  pub negative_step : Of form.negative reader.read_negative (w.Minus ∷ []) factor_more false
  unfolding reader.read_negative
  negative_step = opens_then U n w.Minus refl (λ u. then refl factor_inside (λ e. makes U n (node.Neg e)))

  pub factor_step : Of form.factor reader.read_factor factor_first factor_more false
  unfolding reader.read_factor
  factor_step = wide refl refl (chooses (hits (is w.Minus)) (tests w.Minus) refl negative_step postfix_step)

  pub times_step : Of form.times reader.read_times times_first factor_more false
  unfolding reader.read_times
  times_step = then refl (carries U n times_of times_first refl (example w.Star) _ times_there (λ t h. times_is t ∙ h)) (λ operator. then refl factor_step (λ e. makes U n (operator, e)))

  pub term_step : Of form.term reader.read_term factor_first term_more false
  unfolding reader.read_term
  term_step = wide refl refl (then refl factor_step (λ e. then refl (each (hits times_of) times_is refl times_step) (λ more. makes U n (chained e more))))

  pub plus_step : Of form.plus reader.read_plus plus_first term_more false
  unfolding reader.read_plus
  plus_step = then refl (carries U n plus_of plus_first refl (example w.Plus) _ plus_there (λ t h. plus_is t ∙ h)) (λ operator. then refl term_step (λ e. makes U n (operator, e)))

  pub sum_step : Of form.sum reader.read_sum factor_first sum_more false
  unfolding reader.read_sum
  sum_step = wide refl refl (then refl term_step (λ e. then refl (each (hits plus_of) plus_is refl plus_step) (λ more. makes U n (chained e more))))

  pub right_side_step : Of form.right_side reader.read_right_side comparison_first sum_more false
  unfolding reader.read_right_side
  right_side_step = wide refl refl (then refl (comparing_step U n) (λ operator. then refl sum_step (λ right. makes U n (operator, right))))

  pub comparison_step : Of form.comparison reader.read_comparison factor_first comparison_more false
  unfolding reader.read_comparison
  comparison_step =
      wide refl refl (then refl sum_step (λ left. chooses (among begins_comparison) comparison_first_is refl (then refl right_side_step (λ r. makes U n (node.Compare r.0 left r.1))) (makes U n left)))

  pub negation_step : Of form.negation reader.read_negation (w.Not ∷ []) comparison_more false
  unfolding reader.read_negation
  negation_step = opens_then U n w.Not refl (λ u. then refl inversion_inside (λ e. makes U n (node.Not e)))

  pub inversion_step : Of form.inversion reader.read_inversion first comparison_more false
  unfolding reader.read_inversion
  inversion_step = wide refl refl (chooses (hits (is w.Not)) (tests w.Not) refl negation_step comparison_step)

  pub and_step : Of form.and_operand reader.read_and (w.And ∷ []) comparison_more false
  unfolding reader.read_and
  and_step = then refl (takes U n w.And refl) (λ u. inversion_step)

  pub conjunction_step : Of form.conjunction reader.read_conjunction first conjunction_more false
  unfolding reader.read_conjunction
  conjunction_step = wide refl refl (then refl inversion_step (λ e. then refl (each (hits (is w.And)) (tests w.And) refl and_step) (λ more. makes U n (anded e more))))

  pub or_step : Of form.or_operand reader.read_or (w.Or ∷ []) conjunction_more false
  unfolding reader.read_or
  or_step = then refl (takes U n w.Or refl) (λ u. conjunction_step)

  pub disjunction_step : Of form.disjunction reader.read_disjunction first disjunction_more false
  unfolding reader.read_disjunction
  disjunction_step = wide refl refl (then refl conjunction_step (λ e. then refl (each (hits (is w.Or)) (tests w.Or) refl or_step) (λ more. makes U n (ored e more))))

  pub choice_step : Of form.choice reader.read_choice (w.If ∷ []) expression_more false
  unfolding reader.read_choice
  choice_step =
      wide refl refl (then refl (takes U n w.If refl) (λ u. then refl disjunction_step (λ test. opens_then U n w.Else refl (λ v. then refl expression_step (λ e. makes U n (test, e))))))

  pub conditional_step : Of form.conditional reader.read_conditional first expression_more false
  unfolding reader.read_conditional
  conditional_step = wide refl refl (then refl disjunction_step (λ e. chooses (hits (is w.If)) (tests w.If) refl (then refl choice_step (λ c. makes U n (node.Cond c.0 e c.1))) (makes U n e)))
