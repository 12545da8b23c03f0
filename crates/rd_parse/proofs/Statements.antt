-- The rules of statements are lawful.
use Rattle.std.proofs.Common.{◌≡◌, ◌<◌, length, subst, inl, inr, Ok, Err, ℕ, zero, suc, Bool, true, false, ◌&&◌, List, [], ◌∷◌, ◌++◌, None, Some, Option, refl, sym, ap, ◌∙◌}
use Rattle.rd_syntax.specs.declared.token.Token.{Token}
use Rattle.rd_parse.specs.declared.terminal.Terminal.{Terminal}
use Rattle.rd_parse.specs.declared.terminal.Terminal.TheVariants as w
use Rattle.rd_tree.specs.declared.tree.Name.{Name}
use Rattle.rd_tree.specs.declared.tree.Node.TheVariants as node
use Rattle.rd_tree.specs.declared.tree.Statement.TheVariants as statement
use Rattle.rd_parse.specs.Form.{Form, one, below}
use Rattle.rd_parse.specs.Reader.{Reader, read_one, read_below, Refused, hits, is_there, sees, head, pair}
use Rattle.rd_parse.specs.Noting.{noting, every, before, read_noting}
use Rattle.rd_parse.specs.Terminal.{terminal, among, is, name_of, text_of}
use Rattle.rd_parse.specs.Expressions.{Tree, level, expression, begins_expression}
use Rattle.rd_parse.specs.Reading.{read_expression}
use Rattle.rd_parse.specs.Statements as form
use Rattle.rd_parse.specs.Statements.{Command, plus_value, spoken, kept, begins_assignment, begins_statement, annotation, inner_annotation, annotated, behind_colon, a_block}
use Rattle.rd_parse.specs.StatementReading as reader
use Rattle.rd_parse.specs.StatementReading.{assigns, read_annotation, read_inner_annotation, read_annotated, read_behind_colon, read_a_block}
use Rattle.rd_parse.proofs.Laws.{Grows, Lawful, got, got_rest, stopped, stopped_rest, or_none}
use Rattle.rd_parse.proofs.Depth.{below_grows, below_zero, below_suc}
use Rattle.rd_parse.proofs.More.{way, begins}
use Rattle.rd_parse.proofs.Rules.{Up, and_false}
use Rattle.rd_parse.proofs.Pick.{Apart2, eager_by}
use Rattle.rd_parse.proofs.Sets.{holds_one, set, join_set, and_both, by_way, sets_apart}
use Rattle.rd_parse.proofs.Samples.{example, example_is}
use Rattle.rd_parse.proofs.Steps.{Step, Inward, settled, one_further, from_outside, opens_then, wide, carries, takes, makes, then, chooses, each, tests, picks}
use Rattle.rd_parse.proofs.Expressions.{first, expression_more, first_is, name_is, name_there, there_some}
use Rattle.rd_parse.proofs.Dive.{Plain, Below, Brief, Dives, nothing_below, below_dives, noting_dives, noting_ends, sunk, not_sunk}
use Rattle.rd_parse.proofs.DiveTurns.{Firsts}
use Rattle.rd_parse.proofs.Nested.{expression_plain, expression_dives, expression_brief, lone_expression, expression_lawful, expression_grows}
use Rattle.rd_parse.proofs.Loops.{Shrinks, shrinks_of}
use Rattle.rd_parse.proofs.Noting.{noting_lawful}

-- ---- sets of tokens

abbrev pub part_first : List Terminal
part_first = w.Name ∷ w.Nothing ∷ w.Text ∷ []

abbrev pub part_more : List Terminal
part_more = w.Dot ∷ w.LeftSquare ∷ []

abbrev pub annotation_more : List Terminal
annotation_more = w.Bar ∷ part_more

abbrev pub assignment_first : List Terminal
assignment_first = w.Colon ∷ w.Assign ∷ w.AddAssign ∷ []

abbrev pub simple_first : List Terminal
simple_first = w.Return ∷ w.Raise ∷ w.Pass ∷ first

abbrev pub simple_more : List Terminal
simple_more = assignment_first ++ (first ++ expression_more)

abbrev pub statement_first : List Terminal
statement_first = w.If ∷ w.For ∷ w.While ∷ simple_first

-- behind a block: `elif`, `else`
abbrev pub statement_more : List Terminal
statement_more = w.Elif ∷ w.Else ∷ []

assignment_by : (κ : Terminal) → holds_one assignment_first κ ≡ begins_assignment κ
assignment_by w.Colon = refl
assignment_by _ = refl

assignment_is : (t : Token) → set assignment_first t ≡ among begins_assignment t
unfolding set
assignment_is t = assignment_by (terminal t)

statement_by : (κ : Terminal) → holds_one statement_first κ ≡ begins_statement κ
statement_by w.If = refl
statement_by _ = refl

statement_is : (t : Token) → set statement_first t ≡ among begins_statement t
unfolding set
statement_is t = statement_by (terminal t)

text_there : text_of (example w.Text) ≡ Some []
unfolding terminal
text_there = refl

-- ---- annotations

module _ (U : ℕ → Type 0) (n : ℕ) (X : ℕ → Form Token (Unit {0})) (F : ℕ → Reader Token (Unit {0})) (inside : Inward U n X F part_first annotation_more false) where
  abbrev Kind : (ℕ → Form Token (Unit {0}) → Form Token (Unit {0})) → (ℕ → Reader Token (Unit {0}) → Reader Token (Unit {0})) → List Terminal → List Terminal → Bool → Type 0
  Kind P f = Step U n (λ m. P m (X m)) (λ m. f m (F m))

  abbrev Within : (ℕ → Form Token (Unit {0}) → Form Token (Unit {0})) → (ℕ → Reader Token (Unit {0}) → Reader Token (Unit {0})) → List Terminal → List Terminal → Bool → Type 0
  Within P f = Inward U n (λ m. P m (X m)) (λ m. f m (F m))

  pub dotted_name_step : Step U n (λ _. form.dotted_name) (λ _. reader.read_dotted_name) (w.Dot ∷ []) [] false
  unfolding reader.read_dotted_name
  dotted_name_step = then refl (takes U n w.Dot refl) (λ u. takes U n w.Name refl)

  long_name_step : Step U n (λ _. form.long_name) (λ _. reader.read_long_name) (w.Name ∷ []) (w.Dot ∷ []) false
  unfolding reader.read_long_name
  long_name_step = then refl (takes U n w.Name refl) (λ u. then refl (each (hits (is w.Dot)) (tests w.Dot) refl dotted_name_step) (λ more. makes U n tt))

  kind_step : Step U n (λ _. form.kind) (λ _. reader.read_kind) part_first (w.Dot ∷ []) false
  unfolding reader.read_kind
  kind_step = wide refl refl (chooses (hits (is w.Name)) (tests w.Name) refl long_name_step (chooses (hits (is w.Nothing)) (tests w.Nothing) refl (takes U n w.Nothing refl) (takes U n w.Text refl)))

  pub another_step : Within form.another reader.read_another (w.Comma ∷ []) annotation_more false
  unfolding reader.read_another
  another_step = then refl (takes U n w.Comma refl) (λ u. inside)

  others_step : Within form.others reader.read_others (w.Comma ∷ []) (w.Comma ∷ annotation_more) true
  unfolding reader.read_others
  others_step = wide refl refl (then refl (each (hits (is w.Comma)) (tests w.Comma) refl another_step) (λ more. makes U n tt))

  of_kinds_step : Kind form.of_kinds reader.read_of_kinds (w.LeftSquare ∷ []) [] false
  unfolding reader.read_of_kinds
  of_kinds_step = opens_then U n w.LeftSquare refl (λ u. then refl inside (λ v. then refl others_step (λ x. then refl (takes U n w.RightSquare refl) (λ y. makes U n tt))))

  union_part_step : Kind form.union_part reader.read_union_part part_first part_more false
  unfolding reader.read_union_part
  union_part_step = wide refl refl (then refl kind_step (λ u. chooses (hits (is w.LeftSquare)) (tests w.LeftSquare) refl of_kinds_step (makes U n tt)))

  pub another_part_step : Kind form.another_part reader.read_another_part (w.Bar ∷ []) part_more false
  unfolding reader.read_another_part
  another_part_step = then refl (takes U n w.Bar refl) (λ u. union_part_step)

  pub union_step : Kind form.union reader.read_union part_first annotation_more false
  unfolding reader.read_union
  union_step = wide refl refl (then refl union_part_step (λ u. then refl (each (hits (is w.Bar)) (tests w.Bar) refl another_part_step) (λ more. makes U n tt)))

none_there : is w.Nothing (example w.Nothing) ≡ Some tt
none_there = example_is w.Nothing

annotation_some : Brief inner_annotation
unfolding inner_annotation
annotation_some = record {
  by_ = example w.Nothing ∷ [];
  value = tt;
  gives = λ k. (tt, k, (tt, k, inr (inl (none_there, refl)), inr (refl, refl)), ([], k, refl, (refl, refl)));
}

abbrev On : ℕ → Type 0
On j = Up j inner_annotation

abbrev Annotations : ℕ → Type 0
Annotations n = Below n inner_annotation read_inner_annotation (set part_first) (set annotation_more) false

no_annotation : (a : Unit {0}) (ts rest : List Token) → inner_annotation 0 a ts rest → ⊥
unfolding inner_annotation
no_annotation a ts rest h = h

inside_at : (n : ℕ) → Annotations n → Inward On n inner_annotation read_inner_annotation part_first annotation_more false
inside_at n l = one_further n _ _ (λ j u. u) l annotation_some no_annotation

union_at : (n : ℕ) → Annotations n → Step On n (λ m. form.union m (inner_annotation m)) (λ m. reader.read_union m (read_inner_annotation m)) part_first annotation_more false
union_at n l = union_step On n inner_annotation read_inner_annotation (inside_at n l)

annotations_zero : Annotations 0
unfolding inner_annotation read_inner_annotation
annotations_zero = nothing_below inner_annotation read_inner_annotation _ _ false (λ a ts rest h. h) (λ ts. refl) annotation_some

annotations_up : (j : ℕ) → On j
unfolding inner_annotation
annotations_up zero = λ a ts rest h. absurd h
annotations_up (suc j) = (union_at 0 annotations_zero).rule.up j (annotations_up j)

annotations_at : (n : ℕ) → Annotations n
unfolding inner_annotation read_inner_annotation
annotations_at zero = annotations_zero
annotations_at (suc n) = from_outside n inner_annotation read_inner_annotation annotations_up annotation_some (union_at n (annotations_at n))

pub annotation_lawful : (n : ℕ) → Lawful n annotation read_annotation (set part_first) (set annotation_more) false
unfolding annotation
annotation_lawful n = (union_at n (annotations_at n)).rule.law annotations_up

pub annotation_dives : (n : ℕ) → Dives ⊥ n annotation read_annotation
unfolding annotation
annotation_dives n = (union_at n (annotations_at n)).dives annotations_up

pub annotation_brief : Brief annotation
unfolding annotation
annotation_brief = (union_at 0 annotations_zero).brief

pub annotation_plain : Plain annotation
unfolding annotation
annotation_plain = (union_at 0 annotations_zero).plain

pub annotation_grows : Grows annotation
unfolding annotation
annotation_grows n = (union_at 0 annotations_zero).rule.up n (annotations_up n)

annotation_base : (U : ℕ → Type 0) (n : ℕ) → Step U n annotation read_annotation part_first annotation_more false
annotation_base U n = settled n _ _ annotation_grows (annotation_lawful n) (annotation_dives n) annotation_brief annotation_plain

pub annotated_step : (U : ℕ → Type 0) (n : ℕ) → Step U n annotated read_annotated (w.Colon ∷ []) (w.Colon ∷ annotation_more) true
unfolding annotated read_annotated
annotated_step U n = wide refl refl (chooses (hits (is w.Colon)) (tests w.Colon) refl (then refl (takes U n w.Colon refl) (λ u. annotation_base U n)) (makes U n tt))

-- ---- an assignment, or an expression

abbrev pub other_behind : List Terminal
other_behind = assignment_first ++ expression_more

behind_both : (rest : List Token) → sees (set other_behind) rest ≡ false → (sees (set assignment_first) rest ≡ false) × (sees (set expression_more) rest ≡ false)
behind_both [] h = (refl, refl)
behind_both (t ∷ ts) h = or_none (set assignment_first t) (set expression_more t) (join_set true assignment_first expression_more t ∙ h)

assigns_is : (ts : List Token) → sees (set assignment_first) ts ≡ assigns (head ts)
assigns_is [] = refl
assigns_is (t ∷ ts) = assignment_is t

assign_ends : (u : Token) (after : List Token) → set assignment_first u ≡ true → sees (set expression_more) (u ∷ after) ≡ false
assign_ends u after sign = let apart : (set assignment_first u && set expression_more u) ≡ false = sets_apart assignment_first expression_more refl u in rw sign at apart

assign_first : set assignment_first (example w.Assign) ≡ true
unfolding set terminal
assign_first = refl

-- a name before what assigns is an expression by itself
lone_read : (n : ℕ) (t u : Token) (after : List Token) → hits name_of t ≡ true → set assignment_first u ≡ true → (x : Tree) × (read_expression n (t ∷ u ∷ after) ≡ Ok (x, u ∷ after))
unfolding expression
lone_read n t u after name sign =
    let a = there_some (name_of t) name in
    (node.Name a.0, (expression_lawful n).only (node.Name a.0) (t ∷ u ∷ after) (u ∷ after) (lone_expression n (level n) a.0 t (u ∷ after) a.1) (assign_ends u after sign))

module _ (n : ℕ)
    (assignment_law : Lawful n form.assignment reader.read_assignment (set (w.Name ∷ [])) (set expression_more) false)
    (rest_law : (name : Name) → Lawful n (λ m. form.assigned m name) (λ m. reader.read_assigned m name) (set assignment_first) (set expression_more) false)
    (speaking_law : Lawful n form.speaking reader.read_speaking (set first) (set expression_more) false) where
  assignment_pairs : (x : Option Command) (ts rest : List Token) → form.assignment n x ts rest → pair (hits name_of) assigns ts ≡ true
  assignment_pairs x [] rest h = absurd h.2
  assignment_pairs x (t ∷ ts) rest h =
      let next : sees (set assignment_first) h.1 ≡ true = begins n _ _ _ _ (rest_law h.0) x h.1 rest h.3 in
      let sign : assigns (head ts) ≡ true = sym (assigns_is ts) ∙ ap (sees (set assignment_first)) h.2.1 ∙ next in
      rw (ap is_there h.2.0, sign) refl

  read_alone : (e : Tree) (t u : Token) (after rest : List Token) → expression n e (t ∷ u ∷ after) rest → sees (set other_behind) rest ≡ false → hits name_of t ≡ true → set assignment_first u ≡ true → ⊥
  read_alone e t u after rest h m name sign =
      let b = behind_both rest m in
      let a = lone_read n t u after name sign in
      let r : read_expression n (t ∷ u ∷ after) ≡ Ok (e, rest) = (expression_lawful n).only e (t ∷ u ∷ after) rest h b.1 in
      let same : u ∷ after ≡ rest = got_rest a.0 e (u ∷ after) rest (sym a.1 ∙ r) in
      let no : set assignment_first u ≡ false = ap (sees (set assignment_first)) same ∙ b.0 in
      (let yes : true ≡ false = sym sign ∙ no in cc)

  speaking_alone : (x : Option Command) (ts rest : List Token) → form.speaking n x ts rest → sees (set other_behind) rest ≡ false → pair (hits name_of) assigns ts ≡ false
  speaking_alone x [] rest h m = refl
  speaking_alone x (t ∷ []) rest h m = and_false (hits name_of t)
  speaking_alone x (t ∷ u ∷ after) rest h m =
      let said : noting (hits text_of) (expression n) h.0 (t ∷ u ∷ after) h.1 = h.2 in
      let text : expression n h.0.1 (t ∷ u ∷ after) rest = subst (λ r. expression n h.0.1 (t ∷ u ∷ after) r) h.3.1 said.3 in
      by_way (hits name_of t) (assigns (Some u)) (λ name. elim (way (set assignment_first u)) [ inl sign ↦ absurd (read_alone h.0.1 t u after rest text m name sign) | inr sign ↦ sym (assignment_is u) ∙ sign ])

  assignment_eager : (ts rest : List Token) → reader.read_assignment n ts ≡ Err (Refused rest) → pair (hits name_of) assigns ts ≡ true → length rest < length ts
  unfolding reader.read_assignment reader.read_assigned reader.read_giving read_annotated
  assignment_eager [] rest e p = absurd cc
  assignment_eager (t ∷ ts) rest e p =
      let name = there_some (name_of t) (and_both (hits name_of t) (assigns (head ts)) p).0 in
      eager_by n form.assignment reader.read_assignment _ _ false assignment_law (t ∷ ts) rest e (t ∷ []) refl
      (λ no. let other : reader.read_assignment n (t ∷ []) ≡ Err (Refused []) = rw name.1 refl in (let stop : [] ≡ t ∷ [] = stopped_rest (Option Command) [] (t ∷ []) (sym other ∙ no) in cc))

  speaking_eager : (ts rest : List Token) → reader.read_speaking n ts ≡ Err (Refused rest) → sees (hits name_of) ts ≡ true → length rest < length ts
  unfolding reader.read_speaking
  speaking_eager [] rest e p = absurd cc
  speaking_eager (t ∷ ts) rest e p =
      let a = lone_read n t (example w.Assign) [] p assign_first in
      let x : Option Command = spoken (every (hits text_of) (before (t ∷ example w.Assign ∷ []) (example w.Assign ∷ [])), a.0) in
      eager_by n form.speaking reader.read_speaking _ _ false speaking_law (t ∷ ts) rest e (t ∷ example w.Assign ∷ []) refl
      (λ no. let other : reader.read_speaking n (t ∷ example w.Assign ∷ []) ≡ Ok (x, example w.Assign ∷ []) = rw a.1 refl in
      (let bad : got {T = Token} x (example w.Assign ∷ []) ≡ Err (Refused (t ∷ example w.Assign ∷ [])) = sym other ∙ no in cc))

  other_apart : Apart2 n (hits name_of) assigns (set other_behind) form.assignment form.speaking reader.read_assignment reader.read_speaking
  other_apart = record { pairs = λ x ts rest h m. assignment_pairs x ts rest h; alone = speaking_alone; eager_pair = assignment_eager; eager_alone = speaking_eager }

  other_firsts : Firsts ⊥ n (hits name_of) assigns reader.read_assignment reader.read_speaking
  unfolding reader.read_assignment reader.read_assigned reader.read_giving read_annotated reader.read_speaking
  other_firsts = record {
    pairs = λ t name sinks k p.
        let a = there_some (name_of t) name in
        let s = sinks [] in
        let other : reader.read_assignment n (t ∷ []) ≡ Err (Refused []) = rw a.1 refl in
        absurd (let bad : stopped {T = Token} {A = Option Command} [] ≡ sunk s.0 = sym other ∙ s.1 in cc);
    alone = λ t name sinks.
        let a = lone_read n t (example w.Assign) [] name assign_first in
        let x : Option Command = spoken (every (hits text_of) (before (t ∷ example w.Assign ∷ []) (example w.Assign ∷ [])), a.0) in
        let s = sinks (example w.Assign ∷ []) in
        let other : reader.read_speaking n (t ∷ example w.Assign ∷ []) ≡ Ok (x, example w.Assign ∷ []) = rw a.1 refl in
        not_sunk x (example w.Assign ∷ []) s.0 (sym other ∙ s.1);
  }

-- ---- single statements

module _ (U : ℕ → Type 0) (n : ℕ) where
  value_step : Step U n expression read_expression first expression_more false
  value_step = settled n _ _ expression_grows (expression_lawful n) (expression_dives n) expression_brief expression_plain

  below_law : (n : ℕ) → Lawful n (below expression) (read_below read_expression) (set first) (set expression_more) false
  below_law zero = below_zero expression read_expression _ _ false (expression_lawful 0).some
  below_law (suc n) = below_suc n expression read_expression _ _ false (expression_lawful n)

  -- a name alone needs no level
  name_below : Brief (below expression)
  unfolding expression
  name_below =
      let a = there_some (name_of (example w.Name)) (ap is_there name_there) in
      record { by_ = example w.Name ∷ []; value = node.Name a.0; gives = λ k. lone_expression 0 (level 0) a.0 (example w.Name) k a.1 }

  below_step : Inward U n (below expression) (read_below read_expression) first expression_more false
  below_step = one_further n _ _ (λ j u. below_grows expression expression_grows j) (record { law = below_law n; dives = below_dives expression read_expression name_below expression_dives n }) name_below (λ a ts rest h. h)

  the_name : Step U n (λ _. one name_of) (λ _. read_one name_of) (w.Name ∷ []) [] false
  the_name = carries U n name_of (w.Name ∷ []) refl (example w.Name) _ name_there (λ t h. name_is t ∙ h)

  returning_step : Step U n form.returning reader.read_returning (w.Return ∷ []) simple_more false
  unfolding reader.read_returning
  returning_step =
      wide refl refl (then refl (takes U n w.Return refl) (λ u. chooses (among begins_expression) first_is refl (then refl value_step (λ e. makes U n (Some (statement.Return (Some e))))) (makes U n (Some (statement.Return None)))))

  raising_step : Step U n form.raising reader.read_raising (w.Raise ∷ []) [] false
  unfolding reader.read_raising
  raising_step =
      then refl (takes U n w.Raise refl) (λ u. then refl the_name (λ class. opens_then U n w.LeftParen refl (λ v. then refl below_step (λ e. then refl (takes U n w.RightParen refl) (λ x. makes U n (Some (statement.Raise class e)))))))

  passing_step : Step U n (λ _. form.passing) (λ _. reader.read_passing) (w.Pass ∷ []) [] false
  unfolding reader.read_passing
  passing_step = then refl (takes U n w.Pass refl) (λ u. makes U n (Some statement.Pass))

  adding_step : (name : Name) → Step U n (λ m. form.adding m name) (λ m. reader.read_adding m name) (w.AddAssign ∷ []) expression_more false
  unfolding reader.read_adding
  adding_step name = then refl (takes U n w.AddAssign refl) (λ u. then refl value_step (λ e. makes U n (Some (statement.Assign name (plus_value name e)))))

  giving_step : (name : Name) → Step U n (λ m. form.giving m name) (λ m. reader.read_giving m name) (w.Colon ∷ w.Assign ∷ []) expression_more false
  unfolding reader.read_giving
  giving_step name = then refl (annotated_step U n) (λ u. then refl (takes U n w.Assign refl) (λ v. then refl value_step (λ e. makes U n (Some (statement.Assign name e)))))

  assigned_step : (name : Name) → Step U n (λ m. form.assigned m name) (λ m. reader.read_assigned m name) assignment_first expression_more false
  unfolding reader.read_assigned
  assigned_step name = wide refl refl (chooses (hits (is w.AddAssign)) (tests w.AddAssign) refl (adding_step name) (giving_step name))

  assignment_step : Step U n form.assignment reader.read_assignment (w.Name ∷ []) expression_more false
  unfolding reader.read_assignment
  assignment_step = then refl the_name (λ name. assigned_step name)

  noted_step : Step U n (λ m. noting (hits text_of) (expression m)) (λ m. read_noting (hits text_of) (read_expression m)) first expression_more false
  noted_step = record {
    rule = record {
      up = λ j u x ts rest h. (h.0, h.1, h.2, expression_grows j x.1 ts rest h.3);
      law = λ x. noting_lawful n (hits text_of) expression read_expression _ _ false (expression_lawful n);
    };
    dives = λ x. noting_dives ⊥ n (hits text_of) expression read_expression (expression_dives n);
    brief = noting_ends 1 (hits text_of) expression [] expression_brief;
    plain = λ x ts rest h. expression_plain x.1 ts rest h.3;
  }

  speaking_step : Step U n form.speaking reader.read_speaking first expression_more false
  unfolding reader.read_speaking
  speaking_step = then refl noted_step (λ x. makes U n (spoken x))

  other_step : Step U n form.other reader.read_other first simple_more false
  unfolding reader.read_other
  other_step =
      wide refl refl (picks (hits name_of) assigns other_behind (λ x. other_apart n (assignment_step.rule.law x) (λ name. (assigned_step name).rule.law x) (speaking_step.rule.law x)) assignment_step speaking_step
      (λ x. other_firsts n (assignment_step.rule.law x) (λ name. (assigned_step name).rule.law x) (speaking_step.rule.law x)))

  simple_step : Step U n form.simple reader.read_simple simple_first simple_more false
  unfolding reader.read_simple
  simple_step =
      wide refl refl (chooses (hits (is w.Return)) (tests w.Return) refl returning_step (chooses (hits (is w.Raise)) (tests w.Raise) refl raising_step (chooses (hits (is w.Pass)) (tests w.Pass) refl passing_step other_step)))

  pub line_step : Step U n form.line reader.read_line simple_first [] false
  unfolding reader.read_line
  line_step = wide refl refl (then refl simple_step (λ s. then refl (takes U n w.Newline refl) (λ u. makes U n s)))

-- ---- blocks

module _ (U : ℕ → Type 0) (n : ℕ) (X : ℕ → Form Token (List Command)) (F : ℕ → Reader Token (List Command)) (body : Inward U n X F (w.Newline ∷ simple_first) [] false) where
  abbrev Of : {A : Type 0} → (ℕ → Form Token (List Command) → Form Token A) → (ℕ → Reader Token (List Command) → Reader Token A) → List Terminal → List Terminal → Bool → Type 0
  Of P f = Step U n (λ m. P m (X m)) (λ m. f m (F m))

  pub block_step : Of form.block reader.read_block (w.Colon ∷ []) [] false
  unfolding reader.read_block
  block_step = opens_then U n w.Colon refl (λ u. body)

  branch_step : Of form.branch reader.read_branch first [] false
  unfolding reader.read_branch
  branch_step = wide refl refl (then refl (value_step U n) (λ test. then refl block_step (λ all. makes U n (test, all))))

  pub another_branch_step : Of form.another_branch reader.read_another_branch (w.Elif ∷ []) [] false
  unfolding reader.read_another_branch
  another_branch_step = then refl (takes U n w.Elif refl) (λ u. branch_step)

  otherwise_step : Of form.otherwise reader.read_otherwise (w.Else ∷ []) (w.Else ∷ []) true
  unfolding reader.read_otherwise
  otherwise_step = wide refl refl (chooses (hits (is w.Else)) (tests w.Else) refl (then refl (takes U n w.Else refl) (λ u. block_step)) (makes U n []))

  more_branches_step : (b : Tree × List Command) → Of (λ m body. form.more_branches m body b) (λ m body. reader.read_more_branches m body b) (w.Elif ∷ []) (w.Elif ∷ []) true
  unfolding reader.read_more_branches
  more_branches_step b = wide refl refl (then refl (each (hits (is w.Elif)) (tests w.Elif) refl another_branch_step) (λ more. makes U n (b ∷ more)))

  branches_step : Of form.branches reader.read_branches first (w.Elif ∷ []) false
  unfolding reader.read_branches
  branches_step = wide refl refl (then refl branch_step (λ b. more_branches_step b))

  choice_step : Of form.choice reader.read_choice (w.If ∷ []) statement_more false
  unfolding reader.read_choice
  choice_step = wide refl refl (then refl (takes U n w.If refl) (λ u. then refl branches_step (λ all. then refl otherwise_step (λ other. makes U n (Some (statement.If all other))))))

  for_each_step : Of form.for_each reader.read_for_each (w.For ∷ []) [] false
  unfolding reader.read_for_each
  for_each_step =
      then refl (takes U n w.For refl) (λ u. then refl (the_name U n) (λ name. then refl (takes U n w.In refl) (λ v. then refl (value_step U n) (λ iterable. then refl block_step (λ all. makes U n (Some (statement.For name iterable all)))))))

  while_true_step : Of form.while_true reader.read_while_true (w.While ∷ []) [] false
  unfolding reader.read_while_true
  while_true_step = then refl (takes U n w.While refl) (λ u. then refl (value_step U n) (λ test. then refl block_step (λ all. makes U n (Some (statement.While test all)))))

  pub command_step : Of form.command reader.read_command statement_first statement_more false
  unfolding reader.read_command
  command_step =
      wide refl refl (chooses (hits (is w.If)) (tests w.If) refl choice_step (chooses (hits (is w.For)) (tests w.For) refl for_each_step (chooses (hits (is w.While)) (tests w.While) refl while_true_step (line_step U n))))

  more_commands_step : (c : Option Command) → Of (λ m body. form.more_commands m body c) (λ m body. reader.read_more_commands m body c) statement_first (statement_first ++ statement_more) true
  unfolding reader.read_more_commands
  more_commands_step c = wide refl refl (then refl (each (among begins_statement) statement_is refl command_step) (λ more. makes U n (kept (c ∷ more))))

  some_commands_step : Of form.some_commands reader.read_some_commands statement_first (statement_first ++ statement_more) false
  unfolding reader.read_some_commands
  some_commands_step = wide refl refl (then refl command_step (λ c. more_commands_step c))

  indented_step : Of form.indented reader.read_indented (w.Newline ∷ []) [] false
  unfolding reader.read_indented
  indented_step = then refl (takes U n w.Newline refl) (λ u. then refl (takes U n w.Indent refl) (λ v. then refl some_commands_step (λ all. then refl (takes U n w.Dedent refl) (λ x. makes U n all))))

  alone_step : Of form.alone reader.read_alone simple_first [] false
  unfolding reader.read_alone
  alone_step = then refl (line_step U n) (λ s. makes U n (kept (s ∷ [])))

  pub commands_step : Of form.commands reader.read_commands (w.Newline ∷ simple_first) [] false
  unfolding reader.read_commands
  commands_step = wide refl refl (chooses (hits (is w.Newline)) (tests w.Newline) refl indented_step alone_step)

-- ---- blocks at every level

abbrev block_first : List Terminal
block_first = w.Newline ∷ simple_first

pass_there : (k : List Token) → form.simple 0 (Some statement.Pass) (example w.Pass ∷ example w.Newline ∷ k) (example w.Newline ∷ k)
pass_there k = inr (inr (inl (tt, example w.Newline ∷ k, (example_is w.Pass, refl), (refl, refl))))

behind_some : Brief behind_colon
unfolding behind_colon
behind_some = record {
  by_ = example w.Pass ∷ example w.Newline ∷ [];
  value = statement.Pass ∷ [];
  gives = λ k. inr (Some statement.Pass, k, (Some statement.Pass, example w.Newline ∷ k, pass_there k, (tt, k, (example_is w.Newline, refl), (refl, refl))), (refl, refl));
}

abbrev OnBlock : ℕ → Type 0
OnBlock j = Up j behind_colon

abbrev Blocks : ℕ → Type 0
Blocks n = Below n behind_colon read_behind_colon (set block_first) (set []) false

no_block : (a : List Command) (ts rest : List Token) → behind_colon 0 a ts rest → ⊥
unfolding behind_colon
no_block a ts rest h = h

commands_at : (n : ℕ) → Blocks n → Step OnBlock n (λ m. form.commands m (behind_colon m)) (λ m. reader.read_commands m (read_behind_colon m)) block_first [] false
commands_at n l = commands_step OnBlock n behind_colon read_behind_colon (one_further n _ _ (λ j u. u) l behind_some no_block)

blocks_zero : Blocks 0
unfolding behind_colon read_behind_colon
blocks_zero = nothing_below behind_colon read_behind_colon _ _ false (λ a ts rest h. h) (λ ts. refl) behind_some

blocks_up : (j : ℕ) → OnBlock j
unfolding behind_colon
blocks_up zero = λ a ts rest h. absurd h
blocks_up (suc j) = (commands_at 0 blocks_zero).rule.up j (blocks_up j)

blocks_at : (n : ℕ) → Blocks n
unfolding behind_colon read_behind_colon
blocks_at zero = blocks_zero
blocks_at (suc n) = from_outside n behind_colon read_behind_colon blocks_up behind_some (commands_at n (blocks_at n))

body_at : (n : ℕ) → Inward OnBlock n behind_colon read_behind_colon block_first [] false
body_at n = one_further n _ _ (λ j u. u) (blocks_at n) behind_some no_block

pub block_lawful : (n : ℕ) → Lawful n a_block read_a_block (set (w.Colon ∷ [])) (set []) false
unfolding a_block
block_lawful n = (block_step OnBlock n behind_colon read_behind_colon (body_at n)).rule.law blocks_up

pub block_dives : (n : ℕ) → Dives ⊥ n a_block read_a_block
unfolding a_block
block_dives n = (block_step OnBlock n behind_colon read_behind_colon (body_at n)).dives blocks_up

pub block_brief : Brief a_block
unfolding a_block
block_brief = (block_step OnBlock 0 behind_colon read_behind_colon (one_further 0 _ _ (λ j u. u) blocks_zero behind_some no_block)).brief

pub block_plain : Plain a_block
unfolding a_block
block_plain = (block_step OnBlock 0 behind_colon read_behind_colon (one_further 0 _ _ (λ j u. u) blocks_zero behind_some no_block)).plain

pub block_grows : Grows a_block
unfolding a_block
block_grows n = (block_step OnBlock 0 behind_colon read_behind_colon (one_further 0 _ _ (λ j u. u) blocks_zero behind_some no_block)).rule.up n (blocks_up n)

-- ---- what is read again and again takes something

pub dotted_name_short : Shrinks reader.read_dotted_name
dotted_name_short = shrinks_of 0 (λ _. form.dotted_name) (λ _. reader.read_dotted_name) _ _ ((dotted_name_step On 0 inner_annotation read_inner_annotation (inside_at 0 annotations_zero)).rule.law annotations_up)

pub another_short : (n : ℕ) → Shrinks (reader.read_another n (read_inner_annotation n))
another_short n =
    shrinks_of n (λ m. form.another m (inner_annotation m)) (λ m. reader.read_another m (read_inner_annotation m)) _ _ ((another_step On n inner_annotation read_inner_annotation (inside_at n (annotations_at n))).rule.law annotations_up)

pub another_part_short : (n : ℕ) → Shrinks (reader.read_another_part n (read_inner_annotation n))
another_part_short n =
    shrinks_of n (λ m. form.another_part m (inner_annotation m)) (λ m. reader.read_another_part m (read_inner_annotation m)) _ _ ((another_part_step On n inner_annotation read_inner_annotation (inside_at n (annotations_at n))).rule.law annotations_up)

pub another_branch_short : (n : ℕ) → Shrinks (reader.read_another_branch n (read_behind_colon n))
another_branch_short n =
    shrinks_of n (λ m. form.another_branch m (behind_colon m)) (λ m. reader.read_another_branch m (read_behind_colon m)) _ _ ((another_branch_step OnBlock n behind_colon read_behind_colon (body_at n)).rule.law blocks_up)

pub command_short : (n : ℕ) → Shrinks (reader.read_command n (read_behind_colon n))
command_short n = shrinks_of n (λ m. form.command m (behind_colon m)) (λ m. reader.read_command m (read_behind_colon m)) _ _ ((command_step OnBlock n behind_colon read_behind_colon (body_at n)).rule.law blocks_up)
