-- An expression with other names does what the expression does.
use Rattle.std.proofs.Common.{◌≡◌, ℕ, suc, Bool, true, false, List, [], ◌∷◌, ◌++◌, map, Option, None, Some, Result, Ok, Err, refl, sym, ap, ◌∙◌, subst, subst₂}
use Rattle.std.proofs.Math.Path.{fun_ext}
use Rattle.std.proofs.lemmas.Slice.Zip.{AllZip-long}
use Rattle.std.specs.Prelude.{if◌then◌else◌}
use Rattle.std.specs.List.{AllZip}
use Rattle.rd_value.specs.declared.class.Class.{Class}
use Rattle.rd_value.specs.declared.class.Class.TheVariants.{NameError}
use Rattle.rd_value.specs.declared.value.ErrorValue.{ErrorValue}
use Rattle.rd_value.specs.declared.value.FileValue.{FileValue}
use Rattle.rd_value.specs.declared.expr.Lazy.{Lazy}
use Rattle.rd_value.specs.declared.expr.Lazy.TheVariants as lazy
use Rattle.rd_value.specs.declared.expr.OpKind.TheVariants.{Index}
use Rattle.rd_value.specs.Expand.{listed}
use Rattle.rd_value.specs.Raise.{raised}
use Rattle.rd_value.proofs.Ind.{Each}
use Rattle.rd_tree.specs.declared.tree.Comparison.{Comparison}
use Rattle.rd_tree.specs.declared.tree.Operator.{Operator}
use Rattle.rd_tree.specs.declared.tree.Node.{Node}
use Rattle.rd_tree.specs.declared.tree.Node.TheViews.{roll-Node}
use Rattle.rd_tree.specs.declared.tree.Node.TheOpen.{Node-F}
use Rattle.rd_tree.specs.declared.tree.Node.TheFolds.{ind-Node, map-Node}
use Rattle.rd_routine.specs.declared.routine.Callee.{Callee}
use Rattle.rd_routine.specs.declared.routine.Callee.TheVariants as callee
use Rattle.rd_routine.specs.declared.special.Special.{Special}
use Rattle.rd_routine.specs.declared.special.Special.TheVariants as special
use Rattle.rd_routine.specs.Callees.{special_of}
use Rattle.rd_routine.specs.Forms.{Form, Plain, Wrong, Mapping, Catching, form_with}
use Rattle.rd_routine.proofs.Forms.{NoCall, folded_call, folded_other}
use Rattle.rd_interpreter.specs.State.{State, Part, and_then, spend, answered, all, collected}
use Rattle.rd_interpreter.specs.Held.{truth_of, iterated}
use Rattle.rd_interpreter.specs.Making.{made}
use Rattle.rd_interpreter.specs.Operations.{kind_of, operate, turned}
use Rattle.rd_interpreter.specs.Body as body
use Rattle.rd_interpreter.specs.Body.{Routine, Calls, literal, with_pairs, operators, ends_at, path_of, kind, node, node_at}
use Rattle.rd_interpreter.proofs.Layers.{call_layer, other_layer}
use Rattle.rd_names.specs.Uses.{joined}
use Rattle.rd_code.specs.declared.mention.Mention.{Mention}
use Rattle.rd_code.specs.Mentions.{plain, called, class, keyword_mentions, pair_mentions, call_mentions, mentions_at, mentions_in}
use Rattle.rd_code.specs.Renaming.{renamed_first, renamed_at, renamed}
use Rattle.rd_body.specs.Renaming.{SameCallee, Agrees}
use Rattle.rd_body.proofs.RenamedForms.{renamed_roll, held_form, plain_form, other_form}
use Rattle.rd_body.proofs.RenamedParts.{through, ran_through, Carries, AllCarry, after, then_carries, either, spend_carries, answered_carries, all_carries, collected_carries}
use Rattle.rd_body.proofs.RenamedMakings.{truth_steady, measured_steady, made_steady, operate_steady, negative_steady, compare_steady, arguments_steady, receiver_steady}

-- ---- lists of parts

pub zip_map : {A B A' B' : Type 0} (R : A → B → Type 0) (S : A' → B' → Type 0) (k : A → A') (l : B → B') → ((x : A) (y : B) → R x y → S (k x) (l y)) → (xs : List A) (ys : List B) → AllZip R xs ys → AllZip S (map k xs) (map l ys)
zip_map R S k l h [] [] us = tt
zip_map R S k l h [] (y ∷ ys) us = absurd us
zip_map R S k l h (x ∷ xs) [] us = absurd us
zip_map R S k l h (x ∷ xs) (y ∷ ys) us = (h x y us.0, zip_map R S k l h xs ys us.1)

pub operators_zip : {A B : Type 0} (R : A → B → Type 0) (xs : List A) (ys : List B) → AllZip R xs ys → operators xs ≡ operators ys
operators_zip R [] [] us = refl
operators_zip R [] (y ∷ ys) us = absurd us
operators_zip R (x ∷ xs) [] us = absurd us
operators_zip R (x ∷ xs) (y ∷ ys) us = ap suc (sym (AllZip-long R xs ys us.1))

-- ---- names of parts

module _ {A : Type 0} (P : A → Type 0) where
  pub each_left : (xs ys : List A) → Each P (xs ++ ys) → Each P xs
  each_left [] ys us = tt
  each_left (x ∷ xs) ys us = (us.0, each_left xs ys us.1)

  pub each_right : (xs ys : List A) → Each P (xs ++ ys) → Each P ys
  each_right [] ys us = us
  each_right (x ∷ xs) ys us = each_right xs ys us.1

module _ {N M F : Type 0} (r : N → M) where
  spend_both : {A : Type 0} (m n : ℕ) (p : Part N F A) (q : Part M F A) → m ≡ n → Carries r p q → Carries r (λ s. spend m s p) (λ s. spend n s q)
  spend_both m n p q e u s = ap (λ k. spend k (through r s) p) e ∙ spend_carries r n p q u s

  -- pairs of parts that do the same
  abbrev pub PairCarries : {A B : Type 0} → Part N F A × Part N F B → Part M F A × Part M F B → Type 0
  PairCarries p q = Carries r p.0 q.0 × Carries r p.1 q.1

  -- links of a chain that do the same
  abbrev pub LinkCarries : Operator × Part N F (Lazy F) → Operator × Part M F (Lazy F) → Type 0
  LinkCarries p q = (p.0 ≡ q.0) × Carries r p.1 q.1

  pub tested_carries : (p : Part N F (Lazy F)) (q : Part M F (Lazy F)) → Carries r p q → Carries r (body.tested p) (body.tested q)
  tested_carries p q u = then_carries r p q _ _ u (λ e. answered_carries r (truth_of e))

  pub iterated_carries : (p : Part N F (Lazy F)) (q : Part M F (Lazy F)) → Carries r p q → Carries r (λ s. and_then (p s) (λ e t. answered (iterated e) t)) (λ s. and_then (q s) (λ e t. answered (iterated e) t))
  iterated_carries p q u = then_carries r p q _ _ u (λ e. answered_carries r (iterated e))

  until_carries : (stop : Bool) (a : Lazy F) (ps : List (Part N F (Lazy F))) (qs : List (Part M F (Lazy F))) → AllCarry r ps qs → Carries r (body.until stop a ps) (body.until stop a qs)
  until_carries stop a [] [] us = λ s. refl
  until_carries stop a [] (q ∷ qs) us = absurd us
  until_carries stop a (p ∷ ps) [] us = absurd us
  until_carries stop a (p ∷ ps) (q ∷ qs) us =
      then_carries r (answered (truth_of a)) (answered (truth_of a)) _ _ (answered_carries r (truth_of a))
      (λ holds t. either r (ends_at stop holds) _ _ _ _ refl (then_carries r p q _ _ us.0 (λ b. until_carries stop b ps qs us.1) t))

  operands_carry : (stop : Bool) (ps : List (Part N F (Lazy F))) (qs : List (Part M F (Lazy F))) → AllCarry r ps qs → Carries r (body.operands stop ps) (body.operands stop qs)
  operands_carry stop [] [] us = λ s. refl
  operands_carry stop [] (q ∷ qs) us = absurd us
  operands_carry stop (p ∷ ps) [] us = absurd us
  operands_carry stop (p ∷ ps) (q ∷ qs) us =
      spend_both (operators ps) (operators qs) (λ t. and_then (p t) (λ a u. body.until stop a ps u)) (λ t. and_then (q t) (λ a u. body.until stop a qs u))
      (operators_zip (Carries r) ps qs us.1) (then_carries r p q _ _ us.0 (λ a. until_carries stop a ps qs us.1))

  both_carry : (p : Part N F (Lazy F) × Part N F (Lazy F)) (q : Part M F (Lazy F) × Part M F (Lazy F)) → PairCarries p q → Carries r (body.both p) (body.both q)
  both_carry p q u = then_carries r p.0 q.0 _ _ u.0 (λ a. then_carries r p.1 q.1 _ _ u.1 (λ b s. refl))

  condition_carries : (ps : List (Part N F (Lazy F))) (qs : List (Part M F (Lazy F))) → AllCarry r ps qs → Carries r (body.condition ps) (body.condition qs)
  condition_carries [] [] us = λ s. refl
  condition_carries [] (q ∷ qs) us = absurd us
  condition_carries (p ∷ ps) [] us = absurd us
  condition_carries (p ∷ ps) (q ∷ qs) us = tested_carries p q us.0

  element_carries : (p : Part N F (Lazy F)) (q : Part M F (Lazy F)) (ps : List (Part N F (Lazy F))) (qs : List (Part M F (Lazy F))) → Carries r p q → AllCarry r ps qs → Carries r (body.element p ps) (body.element q qs)
  element_carries p q ps qs u us = then_carries r (body.condition ps) (body.condition qs) _ _ (condition_carries ps qs us) (λ holds t. either r holds _ _ _ _ (then_carries r p q _ _ u (λ e s. refl) t) refl)

  inversion_carries : (p : Part N F (Lazy F)) (q : Part M F (Lazy F)) → Carries r p q → Carries r (λ s. spend 1 s (body.inversion p)) (λ s. spend 1 s (body.inversion q))
  inversion_carries p q u =
      spend_carries r 1 (body.inversion p) (body.inversion q)
      (then_carries r p q _ _ u (λ e. truth_steady r (turned _ (truth_of e))))

  choice_carries : (p p' p'' : Part N F (Lazy F)) (q q' q'' : Part M F (Lazy F)) → Carries r p q → Carries r p' q' → Carries r p'' q'' → Carries r (λ s. spend 1 s (body.choice p p' p'')) (λ s. spend 1 s (body.choice q q' q''))
  choice_carries p p' p'' q q' q'' u u' u'' =
      spend_carries r 1 (body.choice p p' p'') (body.choice q q' q'')
      (then_carries r (body.tested p) (body.tested q) _ _ (tested_carries p q u) (λ holds t. either r holds _ _ _ _ (u' t) (u'' t)))

  after_call_carries : (x : Result (Lazy F × ℕ) ErrorValue) → Carries r (body.after_call x) (body.after_call x)
  after_call_carries (Ok a) = λ s. refl
  after_call_carries (Err e) = λ s. refl

  module _ (file : F → FileValue) where
    links_carry : (a : Lazy F) (ps : List (Operator × Part N F (Lazy F))) (qs : List (Operator × Part M F (Lazy F))) → AllZip LinkCarries ps qs → Carries r (body.links file a ps) (body.links file a qs)
    links_carry a [] [] us = λ s. refl
    links_carry a [] (q ∷ qs) us = absurd us
    links_carry a (p ∷ ps) [] us = absurd us
    links_carry a (p ∷ ps) (q ∷ qs) us =
        then_carries r p.1 q.1 _ _ us.0.1
        (λ b. then_carries r (operate file (kind_of p.0) a b) (operate file (kind_of q.0) a b) _ _
        (λ s. operate_steady r file (kind_of p.0) a b s ∙ ap (λ o. ran_through r (operate file (kind_of o) a b s)) us.0.0)
        (λ c. links_carry c ps qs us.1))

    items_carry : (ps : List (Part N F (Lazy F))) (qs : List (Part M F (Lazy F))) → AllCarry r ps qs → Carries r (λ s. spend 1 s (body.shown_items file ps)) (λ s. spend 1 s (body.shown_items file qs))
    items_carry ps qs us =
        spend_carries r 1 (body.shown_items file ps) (body.shown_items file qs)
        (then_carries r (all ps) (all qs) _ _ (all_carries r ps qs us) (λ es. made_steady r file (listed file es)))

    dict_carries : (ps : List (Lazy F × Lazy F)) → Carries r (body.shown_dict file ps) (body.shown_dict file ps)
    dict_carries ps = then_carries r (answered (with_pairs file ps [])) (answered (with_pairs file ps [])) _ _ (answered_carries r (with_pairs file ps [])) (λ qs. made_steady r file _)

    pairs_carry : (ps : List (Part N F (Lazy F) × Part N F (Lazy F))) (qs : List (Part M F (Lazy F) × Part M F (Lazy F))) → AllZip PairCarries ps qs → Carries r (λ s. spend 1 s (body.shown_pairs file ps)) (λ s. spend 1 s (body.shown_pairs file qs))
    pairs_carry ps qs us =
        spend_carries r 1 (body.shown_pairs file ps) (body.shown_pairs file qs)
        (then_carries r (all (map body.both ps)) (all (map body.both qs)) _ _ (all_carries r (map body.both ps) (map body.both qs) (zip_map PairCarries (Carries r) body.both body.both both_carry ps qs us)) dict_carries)

    method_carries : (p : Part N F (Lazy F)) (q : Part M F (Lazy F)) (name : List ℕ) (ps : List (Part N F (Lazy F))) (qs : List (Part M F (Lazy F))) → Carries r p q → AllCarry r ps qs → Carries r (λ s. spend 1 s (body.method file p name ps)) (λ s. spend 1 s (body.method file q name qs))
    method_carries p q name ps qs u us =
        spend_carries r 1 (body.method file p name ps) (body.method file q name qs)
        (then_carries r p q _ _ u (λ e. then_carries r (all ps) (all qs) _ _ (all_carries r ps qs us) (λ es. receiver_steady r file e name es)))

    index_carries : (p p' : Part N F (Lazy F)) (q q' : Part M F (Lazy F)) → Carries r p q → Carries r p' q' → Carries r (λ s. spend 1 s (body.index file p p')) (λ s. spend 1 s (body.index file q q'))
    index_carries p p' q q' u u' =
        spend_carries r 1 (body.index file p p') (body.index file q q')
        (then_carries r p q _ _ u (λ a. then_carries r p' q' _ _ u' (λ b. operate_steady r file Index a b)))

    path_carries : (p : Part N F (Lazy F)) (q : Part M F (Lazy F)) → Carries r p q → Carries r (λ s. spend 1 s (body.path file p)) (λ s. spend 1 s (body.path file q))
    path_carries p q u =
        spend_carries r 1 (body.path file p) (body.path file q)
        (then_carries r p q _ _ u (λ e. answered_carries r (path_of file e)))

    negation_carries : (p : Part N F (Lazy F)) (q : Part M F (Lazy F)) → Carries r p q → Carries r (λ s. spend 1 s (body.negation file p)) (λ s. spend 1 s (body.negation file q))
    negation_carries p q u =
        spend_carries r 1 (body.negation file p) (body.negation file q)
        (then_carries r p q _ _ u (λ e. negative_steady r file e))

    chain_carries : (p : Part N F (Lazy F)) (q : Part M F (Lazy F)) (ps : List (Operator × Part N F (Lazy F))) (qs : List (Operator × Part M F (Lazy F))) → Carries r p q → AllZip LinkCarries ps qs → Carries r (λ s. spend (operators ps) s (body.chain file p ps)) (λ s. spend (operators qs) s (body.chain file q qs))
    chain_carries p q ps qs u us = spend_both (operators ps) (operators qs) (body.chain file p ps) (body.chain file q qs) (operators_zip LinkCarries ps qs us) (then_carries r p q _ _ u (λ a. links_carry a ps qs us))

    comparing_carries : (c : Comparison) (p p' : Part N F (Lazy F)) (q q' : Part M F (Lazy F)) → Carries r p q → Carries r p' q' → Carries r (λ s. spend 1 s (body.comparing file c p p')) (λ s. spend 1 s (body.comparing file c q q'))
    comparing_carries c p p' q q' u u' =
        spend_carries r 1 (body.comparing file c p p') (body.comparing file c q q')
        (then_carries r p q _ _ u (λ a. then_carries r p' q' _ _ u' (λ b. compare_steady r file c a b)))

-- calls of helpers give the same where their places belong together
abbrev pub SameCalls : {F : Type 0} → (ℕ → ℕ → Type 0) → Calls F → Calls F → Type 0
SameCalls {F} At calls calls' = (place other : ℕ) → At place other → (es : List (Lazy F)) (ks : List (List ℕ × Lazy F)) (left : ℕ) → calls' other es ks left ≡ calls place es ks left

-- ---- what a function knows of its names

module _ {N M F : Type 0} (At : ℕ → ℕ → Type 0) (r : N → M) (Used : Mention N → Type 0) (f : Routine N F) (g : Routine M F) (agrees : Agrees At r Used f g) where
  pub named : (names : M → Option (Lazy F)) (m : Mention N) (e : Option (Lazy F)) → Used m → body.with_name f (λ x. names (r x)) m.name e ≡ (λ x. body.with_name g names (r m.name) e (r x))
  named names m e u = fun_ext (λ x. ap (λ b. if b then e else names (r x)) (sym (agrees.same x m u)))

  pub set_carries : (name : N) (e : Option (Lazy F)) → Used (plain name) → (s : State M F) → body.set f name e (through r s) ≡ through r (body.set g (r name) e s)
  set_carries name e u s = ap (λ ns. record { names = ns; left = s.left }) (named s.names (plain name) e u)

  spelled : {A : Type 0} (m : Mention N) → Used m → (k : List ℕ → A) → k (f.spelling m.name) ≡ k (g.spelling (r m.name))
  spelled m u k = ap k (sym (agrees.spelling m u))

  pub no_name : {A : Type 0} (m : Mention N) → Used m → Carries {F = F} r {A = A} (λ s. Err (raised NameError (f.spelling m.name))) (λ s. Err (raised NameError (g.spelling (r m.name))))
  no_name m u s = spelled m u (λ t. Err (raised NameError t))

  found_carries : (name : N) → Used (plain name) → (o : Option (Lazy F)) → Carries r (body.found f name o) (body.found g (r name) o)
  found_carries name u None = no_name (plain name) u
  found_carries name u (Some e) = λ s. refl

  -- keywords that do the same
  abbrev pub KeywordCarries : N × Part N F (Lazy F) → M × Part M F (Lazy F) → Type 0
  KeywordCarries p q = (q.0 ≡ r p.0) × (Used (plain p.0) × Carries r p.1 q.1)

  keyword_carries : (p : N × Part N F (Lazy F)) (q : M × Part M F (Lazy F)) → KeywordCarries p q → Carries r (body.keyword f p) (body.keyword g q)
  keyword_carries p q u = then_carries r p.1 q.1 _ _ u.1.1 (λ e s. spelled (plain p.0) u.1.0 (λ t. Ok ((t, e), through r s)) ∙ ap (λ x. Ok ((g.spelling x, e), through r s)) (sym u.0))

  module _ (file : F → FileValue) (calls calls' : Calls F) (same_calls : SameCalls At calls calls') where
    special_steady : (made : Special) (es : List (Lazy F)) → Carries r (body.made_special file calls f made es) (body.made_special file calls' g made es)
    special_steady special.Cond [] = λ s. refl
    special_steady special.Cond (a ∷ []) = λ s. refl
    special_steady special.Cond (a ∷ b ∷ []) = λ s. refl
    special_steady special.Cond (a ∷ b ∷ c ∷ []) = measured_steady r file (lazy.Cond a b c)
    special_steady special.Cond (a ∷ b ∷ c ∷ d ∷ es) = λ s. refl
    special_steady special.Catch es = λ s. refl
    special_steady special.Map es = λ s. refl

    called_as : (name : N) → Used (called name) → (c d : Callee) → SameCallee At c d → (es : List (Lazy F)) (ks : List (List ℕ × Lazy F)) → Carries r (body.called file calls f name c es ks) (body.called file calls' g (r name) d es ks)
    called_as name u (callee.Helper place) (callee.Helper other) w es ks =
        λ s. after_call_carries r (calls place es ks s.left) s ∙ ap (λ o. ran_through r (body.after_call o s)) (sym (same_calls place other w es ks s.left))
    called_as name u (callee.Helper place) (callee.Task task) w es ks = absurd w
    called_as name u (callee.Helper place) (callee.Builtin builtin) w es ks = absurd w
    called_as name u (callee.Helper place) (callee.Special made) w es ks = absurd w
    called_as name u (callee.Helper place) callee.Unknown w es ks = absurd w
    called_as name u (callee.Task task) d w es ks = λ s. measured_steady r file _ s ∙ ap (λ c. ran_through r (body.called file calls' g (r name) c es ks s)) (sym w)
    called_as name u (callee.Builtin builtin) d w es ks = λ s. arguments_steady r file builtin es s ∙ ap (λ c. ran_through r (body.called file calls' g (r name) c es ks s)) (sym w)
    called_as name u (callee.Special made) d w es ks = λ s. special_steady made es s ∙ ap (λ c. ran_through r (body.called file calls' g (r name) c es ks s)) (sym w)
    called_as name u callee.Unknown d w es ks = λ s. no_name (called name) u s ∙ ap (λ c. ran_through r (body.called file calls' g (r name) c es ks s)) (sym w)

    called_carries : (name : N) → Used (called name) → (es : List (Lazy F)) (ks : List (List ℕ × Lazy F)) → Carries r (body.called file calls f name (f.callee name) es ks) (body.called file calls' g (r name) (g.callee (r name)) es ks)
    called_carries name u es ks = called_as name u (f.callee name) (g.callee (r name)) (agrees.callee name u) es ks

    call_carries : (name : N) (ps : List (Part N F (Lazy F))) (qs : List (Part M F (Lazy F))) (ks : List (N × Part N F (Lazy F))) (ls : List (M × Part M F (Lazy F)))
        → Used (called name) → AllCarry r ps qs → AllZip KeywordCarries ks ls → Carries r (λ s. spend 1 s (body.call file calls f name ps ks)) (λ s. spend 1 s (body.call file calls' g (r name) qs ls))
    call_carries name ps qs ks ls u us ws =
        spend_carries r 1 (body.call file calls f name ps ks) (body.call file calls' g (r name) qs ls)
        (then_carries r (all ps) (all qs) _ _ (all_carries r ps qs us)
        (λ es. then_carries r (all (map (body.keyword f) ks)) (all (map (body.keyword g) ls)) _ _
        (all_carries r (map (body.keyword f) ks) (map (body.keyword g) ls) (zip_map KeywordCarries (Carries r) (body.keyword f) (body.keyword g) keyword_carries ks ls ws))
        (λ vs. called_carries name u es vs)))

    -- a task whose name is given
    mapped_as : (task : N) → Used (called task) → (c d : Callee) → SameCallee At c d → (e : Lazy F) → Carries r (body.mapped file calls f task c e) (body.mapped file calls' g (r task) d e)
    mapped_as task u (callee.Task name) d w e = λ s. measured_steady r file (lazy.Map name e) s ∙ ap (λ c. ran_through r (body.mapped file calls' g (r task) c e s)) (sym w)
    mapped_as task u (callee.Helper place) (callee.Helper other) w e = no_name (called task) u
    mapped_as task u (callee.Helper place) (callee.Task name) w e = absurd w
    mapped_as task u (callee.Helper place) (callee.Builtin builtin) w e = absurd w
    mapped_as task u (callee.Helper place) (callee.Special made) w e = absurd w
    mapped_as task u (callee.Helper place) callee.Unknown w e = absurd w
    mapped_as task u (callee.Builtin builtin) d w e = λ s. no_name (called task) u s ∙ ap (λ c. ran_through r (body.mapped file calls' g (r task) c e s)) (sym w)
    mapped_as task u (callee.Special made) d w e = λ s. no_name (called task) u s ∙ ap (λ c. ran_through r (body.mapped file calls' g (r task) c e s)) (sym w)
    mapped_as task u callee.Unknown d w e = λ s. no_name (called task) u s ∙ ap (λ c. ran_through r (body.mapped file calls' g (r task) c e s)) (sym w)

    mapped_carries : (task : N) → Used (called task) → (e : Lazy F) → Carries r (body.mapped file calls f task (f.callee task) e) (body.mapped file calls' g (r task) (g.callee (r task)) e)
    mapped_carries task u e = mapped_as task u (f.callee task) (g.callee (r task)) (agrees.callee task u) e

    recovers_as : (caught : N) (o : Class) (task : N) → Used (called task) → (c d : Callee) → SameCallee At c d → (e : Lazy F) → Carries r (body.caught file calls f caught (Some o) task c e) (body.caught file calls' g (r caught) (Some o) (r task) d e)
    recovers_as caught o task u (callee.Task name) d w e = λ s. measured_steady r file (lazy.Catch e o name) s ∙ ap (λ c. ran_through r (body.caught file calls' g (r caught) (Some o) (r task) c e s)) (sym w)
    recovers_as caught o task u (callee.Helper place) (callee.Helper other) w e = no_name (called task) u
    recovers_as caught o task u (callee.Helper place) (callee.Task name) w e = absurd w
    recovers_as caught o task u (callee.Helper place) (callee.Builtin builtin) w e = absurd w
    recovers_as caught o task u (callee.Helper place) (callee.Special made) w e = absurd w
    recovers_as caught o task u (callee.Helper place) callee.Unknown w e = absurd w
    recovers_as caught o task u (callee.Builtin builtin) d w e = λ s. no_name (called task) u s ∙ ap (λ c. ran_through r (body.caught file calls' g (r caught) (Some o) (r task) c e s)) (sym w)
    recovers_as caught o task u (callee.Special made) d w e = λ s. no_name (called task) u s ∙ ap (λ c. ran_through r (body.caught file calls' g (r caught) (Some o) (r task) c e s)) (sym w)
    recovers_as caught o task u callee.Unknown d w e = λ s. no_name (called task) u s ∙ ap (λ c. ran_through r (body.caught file calls' g (r caught) (Some o) (r task) c e s)) (sym w)

    caught_as : (caught : N) → Used (class caught) → (task : N) → Used (called task) → (o : Option Class) → g.class_of (r caught) ≡ o → (e : Lazy F)
        → Carries r (body.caught file calls f caught o task (f.callee task) e) (body.caught file calls' g (r caught) o (r task) (g.callee (r task)) e)
    caught_as caught v task u None is e = no_name (class caught) v
    caught_as caught v task u (Some o) is e = recovers_as caught o task u (f.callee task) (g.callee (r task)) (agrees.callee task u) e

    caught_carries : (caught : N) → Used (class caught) → (task : N) → Used (called task) → (e : Lazy F)
        → Carries r (body.caught file calls f caught (f.class_of caught) task (f.callee task) e) (body.caught file calls' g (r caught) (g.class_of (r caught)) (r task) (g.callee (r task)) e)
    caught_carries caught v task u e s =
        caught_as caught v task u (f.class_of caught) (agrees.class_of caught v) e s ∙ ap (λ o. ran_through r (body.caught file calls' g (r caught) o (r task) (g.callee (r task)) e s)) (sym (agrees.class_of caught v))

    module _ (p : Part N F (Lazy F)) (q : Part M F (Lazy F)) (name : N) (ps : List (Part N F (Lazy F))) (qs : List (Part M F (Lazy F))) (u : Used (plain name)) (w : Carries r p q) (us : AllCarry r ps qs) where
      turn_carries : (x : Lazy F) → Carries r (λ t. body.element p ps (body.set f name (Some x) t)) (λ t. body.element q qs (body.set g (r name) (Some x) t))
      turn_carries x t = ap (body.element p ps) (set_carries name (Some x) u t) ∙ element_carries r p q ps qs w us (body.set g (r name) (Some x) t)

      comprehension_carries : (xs : List (Lazy F)) → Carries r (body.comprehension file calls f p name ps xs) (body.comprehension file calls' g q (r name) qs xs)
      comprehension_carries xs s =
          after r (collected (λ x t. body.element p ps (body.set f name (Some x) t)) xs (through r s)) (collected (λ x t. body.element q qs (body.set g (r name) (Some x) t)) xs s) _ _
          (collected_carries r (λ x t. body.element p ps (body.set f name (Some x) t)) (λ x t. body.element q qs (body.set g (r name) (Some x) t)) turn_carries xs s)
          (λ es t. ap (made file (listed file es)) (set_carries name (s.names (r name)) u t) ∙ made_steady r file (listed file es) (body.set g (r name) (s.names (r name)) t))

      comprehended_carries : (i : Part N F (Lazy F)) (j : Part M F (Lazy F)) → Carries r i j → Carries r (λ s. spend 1 s (body.comprehended file calls f p name i ps)) (λ s. spend 1 s (body.comprehended file calls' g q (r name) j qs))
      comprehended_carries i j v =
          spend_carries r 1 (body.comprehended file calls f p name i ps) (body.comprehended file calls' g q (r name) j qs)
          (then_carries r (λ s. and_then (i s) (λ e t. answered (iterated e) t)) (λ s. and_then (j s) (λ e t. answered (iterated e) t)) _ _ (iterated_carries r i j v) comprehension_carries)

    -- ---- expressions

    abbrev before : Node N → Part N F (Lazy F)
    before = node file calls f

    abbrev behind : Node M → Part M F (Lazy F)
    behind = node file calls' g

    abbrev names_in : Node N → List (Mention N)
    names_in = mentions_in (kind f)

    -- where the names are in use, an expression with other names does the same
    abbrev pub NodeCarries : Node N → Type 0
    NodeCarries n = Each Used (names_in n) → Carries r (before n) (behind (renamed r n))

    at_layer : (y : Node-F N (Node N)) → NoCall y → NoCall (renamed_at r (map-Node N (Node N) (Node M) (renamed r) y))
        → (Each Used (mentions_at (map-Node N (Node N) (List (Mention N)) names_in y))
        → Carries r (node_at file calls f (map-Node N (Node N) (Part N F (Lazy F)) before y)) (node_at file calls' g (map-Node M (Node M) (Part M F (Lazy F)) behind (renamed_at r (map-Node N (Node N) (Node M) (renamed r) y)))))
        → NodeCarries (roll-Node N y)
    at_layer y none nothing go us =
        subst₂ (Carries r) (sym (other_layer file calls f y none)) (sym (ap behind (renamed_roll r y) ∙ other_layer file calls' g (renamed_at r (map-Node N (Node N) (Node M) (renamed r) y)) nothing))
        (go (subst (Each Used) (folded_other (kind f) call_mentions mentions_at y none) us))

    abbrev Held : Type 0
    Held = (n : Node N) × NodeCarries n

    abbrev here : Held → Part N F (Lazy F)
    here h = before h.0

    abbrev there : Held → Part M F (Lazy F)
    there h = behind (renamed r h.0)

    abbrev here_all : List Held → List (Part N F (Lazy F))
    here_all hs = map before (map (λ h. h.0) hs)

    abbrev there_all : List Held → List (Part M F (Lazy F))
    there_all hs = map behind (map (renamed r) (map (λ h. h.0) hs))

    parts : (hs : List Held) → Each Used (joined (map names_in (map (λ h. h.0) hs))) → AllCarry r (map before (map (λ h. h.0) hs)) (map behind (map (renamed r) (map (λ h. h.0) hs)))
    parts [] us = tt
    parts (h ∷ hs) us = (h.1 (each_left Used (names_in h.0) _ us), parts hs (each_right Used (names_in h.0) _ us))

    abbrev seconds : {K X Y : Type 0} → (X → Y) → List (K × X) → List (K × Y)
    seconds k ps = map (λ p. (p.0, k p.1)) ps

    abbrev couples : {X Y : Type 0} → (X → Y) → List (X × X) → List (Y × Y)
    couples k ps = map (λ p. (k p.0, k p.1)) ps

    abbrev node_of : Held → Node N
    node_of h = h.0

    keywords : (hs : List (N × Held)) → Each Used (joined (map keyword_mentions (seconds names_in (seconds node_of hs)))) → AllZip KeywordCarries (seconds before (seconds node_of hs)) (seconds behind (map (renamed_first r) (seconds (renamed r) (seconds node_of hs))))
    keywords [] us = tt
    keywords (h ∷ hs) us = ((refl, (us.0, h.1.1 (each_left Used (names_in h.1.0) _ us.1))), keywords hs (each_right Used (names_in h.1.0) _ us.1))

    links : (hs : List (Operator × Held)) → Each Used (joined (map (λ l. l.1) (seconds names_in (seconds node_of hs)))) → AllZip (LinkCarries r) (seconds before (seconds node_of hs)) (seconds behind (seconds (renamed r) (seconds node_of hs)))
    links [] us = tt
    links (h ∷ hs) us = ((refl, h.1.1 (each_left Used (names_in h.1.0) _ us)), links hs (each_right Used (names_in h.1.0) _ us))

    pairs : (hs : List (Held × Held)) → Each Used (joined (map pair_mentions (couples names_in (couples node_of hs)))) → AllZip (PairCarries r) (couples before (couples node_of hs)) (couples behind (couples (renamed r) (couples node_of hs)))
    pairs [] us = tt
    pairs (h ∷ hs) us =
        let own = each_left Used (names_in h.0.0 ++ names_in h.1.0) _ us in
        ((h.0.1 (each_left Used (names_in h.0.0) _ own), h.1.1 (each_right Used (names_in h.0.0) _ own)), pairs hs (each_right Used (names_in h.0.0 ++ names_in h.1.0) _ us))

    -- ---- calls

    abbrev names_of : Held → List (Mention N)
    names_of h = names_in h.0

    abbrev before_of : Held → Part N F (Lazy F)
    before_of h = before h.0

    abbrev behind_of : Held → Part M F (Lazy F)
    behind_of h = behind (renamed r h.0)

    formed_carries : (c : Form N Held) (name : N) (hs : List Held) (ks : List (N × Held)) → Each Used (call_mentions (form_with (λ n. n) names_of c) name (map names_in (map node_of hs)) (seconds names_in (seconds node_of ks)))
        → Carries r (body.call_at file calls f (form_with (λ n. n) before_of c) name (here_all hs) (seconds before (seconds node_of ks)))
        (body.call_at file calls' g (form_with r behind_of c) (r name) (there_all hs) (seconds behind (map (renamed_first r) (seconds (renamed r) (seconds node_of ks)))))
    formed_carries Plain name hs ks us =
        call_carries name (here_all hs) (there_all hs) (seconds before (seconds node_of ks)) (seconds behind (map (renamed_first r) (seconds (renamed r) (seconds node_of ks)))) us.0
        (parts hs (each_left Used (joined (map names_in (map node_of hs))) _ us.1)) (keywords ks (each_right Used (joined (map names_in (map node_of hs))) _ us.1))
    formed_carries Wrong name hs ks us =
        call_carries name (here_all hs) (there_all hs) (seconds before (seconds node_of ks)) (seconds behind (map (renamed_first r) (seconds (renamed r) (seconds node_of ks)))) us.0
        (parts hs (each_left Used (joined (map names_in (map node_of hs))) _ us.1)) (keywords ks (each_right Used (joined (map names_in (map node_of hs))) _ us.1))
    formed_carries (Mapping task h) name hs ks us =
        spend_carries r 1 (λ t. and_then (before h.0 t) (λ e u. body.mapped file calls f task (f.callee task) e u)) (λ t. and_then (behind (renamed r h.0) t) (λ e u. body.mapped file calls' g (r task) (g.callee (r task)) e u))
        (then_carries r (before h.0) (behind (renamed r h.0)) _ _ (h.1 us.1.1) (mapped_carries task us.1.0))
    formed_carries (Catching h caught task) name hs ks us =
        let more = each_right Used (names_in h.0) _ us.1 in
        spend_carries r 1 (λ t. and_then (before h.0 t) (λ e u. body.caught file calls f caught (f.class_of caught) task (f.callee task) e u))
        (λ t. and_then (behind (renamed r h.0) t) (λ e u. body.caught file calls' g (r caught) (g.class_of (r caught)) (r task) (g.callee (r task)) e u))
        (then_carries r (before h.0) (behind (renamed r h.0)) _ _ (h.1 (each_left Used (names_in h.0) _ us.1)) (caught_carries caught more.0 task more.1.0))

    called_first : (c : Form N (List (Mention N))) (name : N) (ps : List (List (Mention N))) (ks : List (N × List (Mention N))) → Each Used (call_mentions c name ps ks) → Used (called name)
    called_first Plain name ps ks us = us.0
    called_first Wrong name ps ks us = us.0
    called_first (Mapping task list) name ps ks us = us.0
    called_first (Catching tried caught task) name ps ks us = us.0

    same_special : (c d : Callee) → SameCallee At c d → special_of d ≡ special_of c
    same_special (callee.Helper place) (callee.Helper other) w = refl
    same_special (callee.Helper place) (callee.Task name) w = absurd w
    same_special (callee.Helper place) (callee.Builtin builtin) w = absurd w
    same_special (callee.Helper place) (callee.Special made) w = absurd w
    same_special (callee.Helper place) callee.Unknown w = absurd w
    same_special (callee.Task name) d w = ap special_of w
    same_special (callee.Builtin builtin) d w = ap special_of w
    same_special (callee.Special made) d w = ap special_of w
    same_special callee.Unknown d w = ap special_of w

    call_step : (name : N) (hs : List Held) (ks : List (N × Held)) → NodeCarries (roll-Node N (Node-F.Call name (map node_of hs) (seconds node_of ks)))
    call_step name hs ks us =
        let ps = map node_of hs in
        let ls = seconds node_of ks in
        let others = map (renamed_first r) (seconds (renamed r) ls) in
        let met = subst (Each Used) (folded_call (kind f) call_mentions mentions_at name ps ls) us in
        let same = same_special (f.callee name) (g.callee (r name)) (agrees.callee name (called_first _ name _ _ met)) in
        subst₂ (Carries r)
        (sym (call_layer file calls f name ps ls ∙ ap (λ c. body.call_at file calls f c name (here_all hs) (seconds before ls)) (plain_form node_of before (kind f name) hs ks)))
        (sym (ap behind (renamed_roll r (Node-F.Call name ps ls)) ∙ call_layer file calls' g (r name) (map (renamed r) ps) others ∙ ap (λ c. body.call_at file calls' g c (r name) (there_all hs) (seconds behind others)) (other_form node_of r behind (kind f name) (kind g (r name)) same hs ks)))
        (formed_carries (held_form node_of (kind f name) hs ks) name hs ks (subst (λ c. Each Used (call_mentions c name (map names_in ps) (seconds names_in ls))) (plain_form node_of names_in (kind f name) hs ks) met))

    step : (y : Node-F N Held) → NodeCarries (roll-Node N (map-Node N Held (Node N) node_of y))
    step (Node-F.Lit v) = at_layer (Node-F.Lit v) tt tt (λ us. spend_carries r 1 (λ t. Ok (literal v, t)) (λ t. Ok (literal v, t)) (λ t. refl))
    step (Node-F.Name name) = at_layer (Node-F.Name name) tt tt (λ us. spend_carries r 1 (λ t. body.found f name (t.names name) t) (λ t. body.found g (r name) (t.names (r name)) t) (λ t. found_carries name us.0 (t.names (r name)) t))
    step (Node-F.Call name hs ks) = call_step name hs ks
    step (Node-F.Method h name hs) =
        at_layer (Node-F.Method h.0 name (map node_of hs)) tt tt (λ us. (method_carries r file (here h) (there h) name (here_all hs) (there_all hs) (h.1 (each_left Used (names_in h.0) _ us)) (parts hs (each_right Used (names_in h.0) _ us))))
    step (Node-F.Index a b) = at_layer (Node-F.Index a.0 b.0) tt tt (λ us. (index_carries r file (here a) (here b) (there a) (there b) (a.1 (each_left Used (names_in a.0) _ us)) (b.1 (each_right Used (names_in a.0) _ us))))
    step (Node-F.Path a) = at_layer (Node-F.Path a.0) tt tt (λ us. (path_carries r file (here a) (there a) (a.1 us)))
    step (Node-F.Neg a) = at_layer (Node-F.Neg a.0) tt tt (λ us. (negation_carries r file (here a) (there a) (a.1 us)))
    step (Node-F.Not a) = at_layer (Node-F.Not a.0) tt tt (λ us. (inversion_carries r (here a) (there a) (a.1 us)))
    step (Node-F.Chain a hs) =
        at_layer (Node-F.Chain a.0 (seconds node_of hs)) tt tt
        (λ us. let ls = links hs (each_right Used (names_in a.0) _ us) in
        chain_carries r file (here a) (there a) (seconds before (seconds node_of hs)) (seconds behind (seconds (renamed r) (seconds node_of hs))) (a.1 (each_left Used (names_in a.0) _ us)) ls)
    step (Node-F.Compare c a b) = at_layer (Node-F.Compare c a.0 b.0) tt tt (λ us. (comparing_carries r file c (here a) (here b) (there a) (there b) (a.1 (each_left Used (names_in a.0) _ us)) (b.1 (each_right Used (names_in a.0) _ us))))
    step (Node-F.And hs) = at_layer (Node-F.And (map node_of hs)) tt tt (λ us. operands_carry r false (here_all hs) (there_all hs) (parts hs us))
    step (Node-F.Or hs) = at_layer (Node-F.Or (map node_of hs)) tt tt (λ us. operands_carry r true (here_all hs) (there_all hs) (parts hs us))
    step (Node-F.Cond a b c) =
        at_layer (Node-F.Cond a.0 b.0 c.0) tt tt
        (λ us. let more = each_right Used (names_in a.0) _ us in
        (choice_carries r (here a) (here b) (here c) (there a) (there b) (there c) (a.1 (each_left Used (names_in a.0) _ us)) (b.1 (each_left Used (names_in b.0) _ more)) (c.1 (each_right Used (names_in b.0) _ more))))
    step (Node-F.List hs) = at_layer (Node-F.List (map node_of hs)) tt tt (λ us. (items_carry r file (here_all hs) (there_all hs) (parts hs us)))
    step (Node-F.Dict hs) = at_layer (Node-F.Dict (couples node_of hs)) tt tt (λ us. (pairs_carry r file (couples before (couples node_of hs)) (couples behind (couples (renamed r) (couples node_of hs))) (pairs hs us)))
    step (Node-F.Comp a name b hs) =
        at_layer (Node-F.Comp a.0 name b.0 (map node_of hs)) tt tt
        (λ us. let more = each_right Used (names_in a.0) _ us in
        (comprehended_carries (here a) (there a) name (here_all hs) (there_all hs) more.0 (a.1 (each_left Used (names_in a.0) _ us)) (parts hs (each_right Used (names_in b.0) _ more.1)) (here b) (there b) (b.1 (each_left Used (names_in b.0) _ more.1))))

    pub node_carries : (n : Node N) → NodeCarries n
    node_carries = ind-Node N NodeCarries (λ x y is. subst (λ z. NodeCarries (roll-Node N z)) is (step y))
