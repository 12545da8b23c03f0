-- Expressions are lawful at every level.
use Rattle.std.proofs.Common.{◌≡◌, ℕ, zero, suc, Bool, true, false, List, [], ◌∷◌, Some, refl, inl, inr, ◌∙◌, ◌&&◌, codes}
use Rattle.rd_syntax.specs.declared.token.Token.{Token}
use Rattle.rd_parse.specs.declared.terminal.Terminal.TheVariants as w
use Rattle.rd_tree.specs.declared.tree.Name.{Name}
use Rattle.rd_tree.specs.declared.tree.Node.TheVariants as node
use Rattle.rd_parse.specs.Form.{Form}
use Rattle.rd_parse.specs.Reader.{hits, sees}
use Rattle.rd_parse.specs.Terminal.{is, name_of}
use Rattle.rd_parse.specs.Expressions as form
use Rattle.rd_parse.specs.Expressions.{Tree, Level, level}
use Rattle.rd_parse.specs.Reading as reader
use Rattle.rd_parse.specs.Reading.{Readers, inner}
use Rattle.rd_parse.proofs.Laws.{Grows, Lawful}
use Rattle.rd_parse.proofs.Dive.{Plain, Below, Brief, Dives, nothing_below}
use Rattle.rd_parse.proofs.Rules.{Up}
use Rattle.rd_parse.proofs.Sets.{set, sets_apart}
use Rattle.rd_parse.proofs.Samples.{example}
use Rattle.rd_parse.proofs.Loops.{Shrinks, shrinks_of}
use Rattle.rd_parse.proofs.Steps.{Step, Inward, one_further, from_outside, tests}
use Rattle.rd_parse.proofs.Expressions as rule
use Rattle.rd_parse.proofs.Expressions.{first, factor_first, part_first, plus_first, times_first, argument_first, factor_more, term_more, comparison_more, conjunction_more, disjunction_more, expression_more, parts_more, Lone, name_there, there_some}

-- ---- a name alone

module _ (n : ℕ) (in_ : Level) (name : Name) (t : Token) (rest : List Token) (is_name : name_of t ≡ Some name) where
  lone_postfix : form.postfix n in_ (node.Name name) (t ∷ rest) rest
  lone_postfix = (node.Name name, rest, inl (name, rest, (is_name, refl), inr (refl, refl)), inr (refl, refl))

  lone_factor : form.factor n in_ (node.Name name) (t ∷ rest) rest
  lone_factor = inr lone_postfix

  lone_sum : form.sum n in_ (node.Name name) (t ∷ rest) rest
  lone_sum = (node.Name name, rest, (node.Name name, rest, lone_factor, ([], rest, refl, (refl, refl))), ([], rest, refl, (refl, refl)))

  lone_inversion : form.inversion n in_ (node.Name name) (t ∷ rest) rest
  lone_inversion = inr (node.Name name, rest, lone_sum, inr (refl, refl))

  lone_disjunction : form.disjunction n in_ (node.Name name) (t ∷ rest) rest
  lone_disjunction = (node.Name name, rest, (node.Name name, rest, lone_inversion, ([], rest, refl, (refl, refl))), ([], rest, refl, (refl, refl)))

  pub lone_expression : form.conditional n in_ (node.Name name) (t ∷ rest) rest
  lone_expression = (node.Name name, rest, lone_disjunction, inr (refl, refl))

abbrev some_name : Name
some_name = record { text = codes "path"; line = 0 }

completes_by : (P : ℕ → Form Token Tree) → ((k : List Token) → P 1 (node.Name some_name) (example w.Name ∷ k) k) → Brief P
completes_by P h = record { by_ = example w.Name ∷ []; value = node.Name some_name; gives = h }

expression_some : Brief (λ m. (level m).expression)
unfolding level
expression_some = completes_by (λ m. (level m).expression) (λ k. lone_expression 0 (level 0) some_name (example w.Name) k name_there)

disjunction_some : Brief (λ m. (level m).disjunction)
unfolding level
disjunction_some = completes_by (λ m. (level m).disjunction) (λ k. lone_disjunction 0 (level 0) some_name (example w.Name) k name_there)

inversion_some : Brief (λ m. (level m).inversion)
unfolding level
inversion_some = completes_by (λ m. (level m).inversion) (λ k. lone_inversion 0 (level 0) some_name (example w.Name) k name_there)

factor_some : Brief (λ m. (level m).factor)
unfolding level
factor_some = completes_by (λ m. (level m).factor) (λ k. lone_factor 0 (level 0) some_name (example w.Name) k name_there)

parts_some : (e : Tree) → Brief (λ m. (level m).parts e)
unfolding level
parts_some e = record { by_ = []; value = e; gives = λ k. inr (refl, refl) }

-- ---- the laws of what stands one level further in

pub record Inside (n : ℕ) : Type 0 where
  pub expression : Below n (λ m. (level m).expression) (λ m. (inner m).expression) (set first) (set expression_more) false
  pub disjunction : Below n (λ m. (level m).disjunction) (λ m. (inner m).disjunction) (set first) (set disjunction_more) false
  pub inversion : Below n (λ m. (level m).inversion) (λ m. (inner m).inversion) (set first) (set comparison_more) false
  pub factor : Below n (λ m. (level m).factor) (λ m. (inner m).factor) (set factor_first) (set factor_more) false
  pub parts : (e : Tree) → Below n (λ m. (level m).parts e) (λ m. (inner m).parts e) (set part_first) (set parts_more) true

record Shut (l : Level) : Type 0 where
  pub expression : (a : Tree) (ts rest : List Token) → l.expression a ts rest → ⊥
  pub disjunction : (a : Tree) (ts rest : List Token) → l.disjunction a ts rest → ⊥
  pub inversion : (a : Tree) (ts rest : List Token) → l.inversion a ts rest → ⊥
  pub factor : (a : Tree) (ts rest : List Token) → l.factor a ts rest → ⊥
  pub parts : (e a : Tree) (ts rest : List Token) → l.parts e a ts rest → ⊥

-- where no level may open, nothing stands inside
nothing_inside : Shut (level 0)
unfolding level
nothing_inside = record { expression = λ a ts rest h. h; disjunction = λ a ts rest h. h; inversion = λ a ts rest h. h; factor = λ a ts rest h. h; parts = λ e a ts rest h. h }

pub record Ups (j : ℕ) : Type 0 where
  pub expression : Up j (λ m. (level m).expression)
  pub disjunction : Up j (λ m. (level m).disjunction)
  pub inversion : Up j (λ m. (level m).inversion)
  pub factor : Up j (λ m. (level m).factor)
  pub parts : (e : Tree) → Up j (λ m. (level m).parts e)

module _ (n : ℕ) (l : Inside n) (lone : Lone n level inner) where
  expression_inside : Inward Ups n (λ m. (level m).expression) (λ m. (inner m).expression) first expression_more false
  expression_inside = one_further n _ _ (λ j u. u.expression) l.expression expression_some (λ a ts rest h. nothing_inside.expression a ts rest h)

  disjunction_inside : Inward Ups n (λ m. (level m).disjunction) (λ m. (inner m).disjunction) first disjunction_more false
  disjunction_inside = one_further n _ _ (λ j u. u.disjunction) l.disjunction disjunction_some (λ a ts rest h. nothing_inside.disjunction a ts rest h)

  inversion_inside : Inward Ups n (λ m. (level m).inversion) (λ m. (inner m).inversion) first comparison_more false
  inversion_inside = one_further n _ _ (λ j u. u.inversion) l.inversion inversion_some (λ a ts rest h. nothing_inside.inversion a ts rest h)

  factor_inside : Inward Ups n (λ m. (level m).factor) (λ m. (inner m).factor) factor_first factor_more false
  factor_inside = one_further n _ _ (λ j u. u.factor) l.factor factor_some (λ a ts rest h. nothing_inside.factor a ts rest h)

  parts_inside : (e : Tree) → Inward Ups n (λ m. (level m).parts e) (λ m. (inner m).parts e) part_first parts_more true
  parts_inside e = one_further n _ _ (λ j u. u.parts e) (l.parts e) (parts_some e) (λ a ts rest h. nothing_inside.parts e a ts rest h)

  pub at_conditional : Step Ups n (λ m. form.conditional m (level m)) (λ m. reader.read_conditional m (inner m)) first expression_more false
  at_conditional = rule.conditional_step Ups n level inner expression_inside disjunction_inside inversion_inside factor_inside parts_inside lone

  pub at_disjunction : Step Ups n (λ m. form.disjunction m (level m)) (λ m. reader.read_disjunction m (inner m)) first disjunction_more false
  at_disjunction = rule.disjunction_step Ups n level inner expression_inside disjunction_inside inversion_inside factor_inside parts_inside lone

  pub at_inversion : Step Ups n (λ m. form.inversion m (level m)) (λ m. reader.read_inversion m (inner m)) first comparison_more false
  at_inversion = rule.inversion_step Ups n level inner expression_inside disjunction_inside inversion_inside factor_inside parts_inside lone

  pub at_factor : Step Ups n (λ m. form.factor m (level m)) (λ m. reader.read_factor m (inner m)) factor_first factor_more false
  at_factor = rule.factor_step Ups n level inner expression_inside disjunction_inside inversion_inside factor_inside parts_inside lone

  pub at_parts : (e : Tree) → Step Ups n (λ m. form.parts m (level m) e) (λ m. reader.read_parts m (inner m) e) part_first parts_more true
  at_parts e = rule.parts_step Ups n level inner expression_inside disjunction_inside inversion_inside factor_inside parts_inside lone e

  pub at_or : Step Ups n (λ m. form.or_operand m (level m)) (λ m. reader.read_or m (inner m)) (w.Or ∷ []) conjunction_more false
  at_or = rule.or_step Ups n level inner expression_inside disjunction_inside inversion_inside factor_inside parts_inside lone

  pub at_and : Step Ups n (λ m. form.and_operand m (level m)) (λ m. reader.read_and m (inner m)) (w.And ∷ []) comparison_more false
  at_and = rule.and_step Ups n level inner expression_inside disjunction_inside inversion_inside factor_inside parts_inside lone

  pub at_plus : Step Ups n (λ m. form.plus m (level m)) (λ m. reader.read_plus m (inner m)) plus_first term_more false
  at_plus = rule.plus_step Ups n level inner expression_inside disjunction_inside inversion_inside factor_inside parts_inside lone

  pub at_times : Step Ups n (λ m. form.times m (level m)) (λ m. reader.read_times m (inner m)) times_first factor_more false
  at_times = rule.times_step Ups n level inner expression_inside disjunction_inside inversion_inside factor_inside parts_inside lone

  pub at_pair : Inward Ups n (λ m. form.pair m (level m)) (λ m. reader.read_pair m (inner m)) first expression_more false
  at_pair = rule.pair_step Ups n level inner expression_inside disjunction_inside inversion_inside factor_inside parts_inside lone

  pub at_argument : (s : Bool) → Inward Ups n (λ m. form.argument m (level m) s) (λ m. reader.read_argument m (inner m) s) (argument_first s) (w.Assign ∷ expression_more) false
  at_argument s = rule.argument_step Ups n level inner expression_inside disjunction_inside inversion_inside factor_inside parts_inside lone s

inside_zero : Inside 0
unfolding level inner
inside_zero = record {
  expression = nothing_below (λ m. (level m).expression) (λ m. (inner m).expression) _ _ false (λ a ts rest h. h) (λ ts. refl) expression_some;
  disjunction = nothing_below (λ m. (level m).disjunction) (λ m. (inner m).disjunction) _ _ false (λ a ts rest h. h) (λ ts. refl) disjunction_some;
  inversion = nothing_below (λ m. (level m).inversion) (λ m. (inner m).inversion) _ _ false (λ a ts rest h. h) (λ ts. refl) inversion_some;
  factor = nothing_below (λ m. (level m).factor) (λ m. (inner m).factor) _ _ false (λ a ts rest h. h) (λ ts. refl) factor_some;
  parts = λ e. nothing_below (λ m. (level m).parts e) (λ m. (inner m).parts e) _ _ true (λ a ts rest h. h) (λ ts. refl) (parts_some e);
}

lone_zero : Lone 0 level inner
unfolding level inner
lone_zero = inr (λ x ts rest h. h, λ ts. refl, refl)

ups : (j : ℕ) → Ups j
unfolding level
ups zero = record { expression = λ a ts rest h. absurd h; disjunction = λ a ts rest h. absurd h; inversion = λ a ts rest h. absurd h; factor = λ a ts rest h. absurd h; parts = λ e a ts rest h. absurd h }
ups (suc j) = record {
  expression = (at_conditional 0 inside_zero lone_zero).rule.up j (ups j);
  disjunction = (at_disjunction 0 inside_zero lone_zero).rule.up j (ups j);
  inversion = (at_inversion 0 inside_zero lone_zero).rule.up j (ups j);
  factor = (at_factor 0 inside_zero lone_zero).rule.up j (ups j);
  parts = λ e. (at_parts 0 inside_zero lone_zero e).rule.up j (ups j);
}

inside_suc : (n : ℕ) → Inside n → Lone n level inner → Inside (suc n)
unfolding level inner
inside_suc n l lone = record {
  expression = from_outside n (λ m. (level m).expression) (λ m. (inner m).expression) ups expression_some (at_conditional n l lone);
  disjunction = from_outside n (λ m. (level m).disjunction) (λ m. (inner m).disjunction) ups disjunction_some (at_disjunction n l lone);
  inversion = from_outside n (λ m. (level m).inversion) (λ m. (inner m).inversion) ups inversion_some (at_inversion n l lone);
  factor = from_outside n (λ m. (level m).factor) (λ m. (inner m).factor) ups factor_some (at_factor n l lone);
  parts = λ e. from_outside n (λ m. (level m).parts e) (λ m. (inner m).parts e) ups (parts_some e) (at_parts n l lone e);
}

assign_ends : (u : Token) (after : List Token) → hits (is w.Assign) u ≡ true → sees (set expression_more) (u ∷ after) ≡ false
assign_ends u after sign = let apart : (set (w.Assign ∷ []) u && set expression_more u) ≡ false = sets_apart (w.Assign ∷ []) expression_more refl u in rw (tests w.Assign u ∙ sign) at apart

lone_suc : (n : ℕ) → Inside n → Lone n level inner → Lone (suc n) level inner
unfolding inner
lone_suc n l lone = inl (λ t u after name sign.
    let a = there_some (name_of t) name in
    (node.Name a.0, ((at_conditional n l lone).rule.law ups).only (node.Name a.0) (t ∷ u ∷ after) (u ∷ after) (lone_expression n (level n) a.0 t (u ∷ after) a.1) (assign_ends u after sign)))

at_level : (n : ℕ) → Inside n × Lone n level inner
at_level zero = (inside_zero, lone_zero)
at_level (suc n) = let d = at_level n in (inside_suc n d.0 d.1, lone_suc n d.0 d.1)

-- ---- expressions

pub expression_lawful : (n : ℕ) → Lawful n form.expression reader.read_expression (set first) (set expression_more) false
unfolding form.expression
expression_lawful n = let d = at_level n in (at_conditional n d.0 d.1).rule.law ups

pub expression_dives : (n : ℕ) → Dives ⊥ n form.expression reader.read_expression
unfolding form.expression
expression_dives n = let d = at_level n in (at_conditional n d.0 d.1).dives ups

pub expression_brief : Brief form.expression
unfolding form.expression
expression_brief = (at_conditional 0 inside_zero lone_zero).brief

pub expression_plain : Plain form.expression
unfolding form.expression
expression_plain = (at_conditional 0 inside_zero lone_zero).plain

pub expression_grows : Grows form.expression
unfolding form.expression
expression_grows n = (at_conditional 0 inside_zero lone_zero).rule.up n (ups n)

-- ---- what is read one by one leaves less

pub nested_short : (n : ℕ) → Shrinks (inner n).expression
nested_short n = let d = at_level n in shrinks_of n (λ m. (level m).expression) (λ m. (inner m).expression) _ _ ((expression_inside n d.0 d.1).rule.law ups)

pub or_short : (n : ℕ) → Shrinks (reader.read_or n (inner n))
or_short n = let d = at_level n in shrinks_of n (λ m. form.or_operand m (level m)) (λ m. reader.read_or m (inner m)) _ _ ((at_or n d.0 d.1).rule.law ups)

pub and_short : (n : ℕ) → Shrinks (reader.read_and n (inner n))
and_short n = let d = at_level n in shrinks_of n (λ m. form.and_operand m (level m)) (λ m. reader.read_and m (inner m)) _ _ ((at_and n d.0 d.1).rule.law ups)

pub plus_short : (n : ℕ) → Shrinks (reader.read_plus n (inner n))
plus_short n = let d = at_level n in shrinks_of n (λ m. form.plus m (level m)) (λ m. reader.read_plus m (inner m)) _ _ ((at_plus n d.0 d.1).rule.law ups)

pub times_short : (n : ℕ) → Shrinks (reader.read_times n (inner n))
times_short n = let d = at_level n in shrinks_of n (λ m. form.times m (level m)) (λ m. reader.read_times m (inner m)) _ _ ((at_times n d.0 d.1).rule.law ups)

pub pair_short : (n : ℕ) → Shrinks (reader.read_pair n (inner n))
pair_short n = let d = at_level n in shrinks_of n (λ m. form.pair m (level m)) (λ m. reader.read_pair m (inner m)) _ _ ((at_pair n d.0 d.1).rule.law ups)

pub argument_short : (n : ℕ) (s : Bool) → Shrinks (reader.read_argument n (inner n) s)
argument_short n s = let d = at_level n in shrinks_of n (λ m. form.argument m (level m) s) (λ m. reader.read_argument m (inner m) s) _ _ ((at_argument n d.0 d.1 s).rule.law ups)
