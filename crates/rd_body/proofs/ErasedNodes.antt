-- An expression of a source does the same with other files.
use Rattle.std.proofs.Common.{◌≡◌, ℕ, Bool, true, false, List, [], ◌∷◌, map, cond, Option, None, Some, Result, Ok, Err, refl, sym, ap, ◌∙◌, subst, subst₂}
use Rattle.std.proofs.Math.Path.{fun_ext}
use Rattle.std.specs.List.{AllZip}
use Rattle.std.specs.Option.{option_map}
use Rattle.rd_value.specs.declared.class.Class.{Class}
use Rattle.rd_value.specs.declared.value.ErrorValue.{ErrorValue}
use Rattle.rd_value.specs.declared.value.FileValue.{FileValue}
use Rattle.rd_value.specs.declared.expr.Lazy.{Lazy}
use Rattle.rd_value.specs.declared.expr.Lazy.TheVariants as lazy
use Rattle.rd_value.specs.declared.expr.OpKind.TheVariants.{Index}
use Rattle.rd_value.specs.Erase.{with_files_expr}
use Rattle.rd_value.specs.Expand.{listed}
use Rattle.rd_value.specs.Make as make
use Rattle.rd_value.specs.Make.{dict_of}
use Rattle.rd_value.proofs.ErasedExpand.{listed_with_files}
use Rattle.rd_tree.specs.declared.tree.Comparison.{Comparison}
use Rattle.rd_tree.specs.declared.tree.Operator.{Operator}
use Rattle.rd_tree.specs.declared.tree.Node.{Node}
use Rattle.rd_tree.specs.declared.tree.Node.TheViews.{roll-Node}
use Rattle.rd_tree.specs.declared.tree.Node.TheOpen.{Node-F}
use Rattle.rd_tree.specs.declared.tree.Node.TheFolds.{ind-Node, map-Node}
use Rattle.rd_routine.specs.declared.routine.Callee.{Callee}
use Rattle.rd_routine.specs.declared.routine.Callee.TheVariants as callee
use Rattle.rd_routine.specs.declared.special.Special.{Special}
use Rattle.rd_routine.specs.declared.special.Special.TheVariants as special
use Rattle.rd_routine.specs.Forms.{Form, Plain, Wrong, Mapping, Catching, form_with}
use Rattle.rd_routine.proofs.Forms.{NoCall}
use Rattle.rd_interpreter.specs.State.{State, Part, and_then, spend, answered, all, collected}
use Rattle.rd_interpreter.specs.Held.{truth_of, iterated}
use Rattle.rd_interpreter.specs.Operations.{kind_of, operate, turned}
use Rattle.rd_interpreter.specs.Body as body
use Rattle.rd_interpreter.specs.Body.{Routine, Calls, literal, with_pairs, operators, ends_at, path_of, kind, node}
use Rattle.rd_interpreter.proofs.Layers.{call_layer, other_layer}
use Rattle.rd_body.specs.Erasure.{with_files_parameter}
use Rattle.rd_body.proofs.RenamedForms.{held_form, plain_form}
use Rattle.rd_body.proofs.ErasedZips.{zip_map, operators_zip}
use Rattle.rd_body.proofs.ErasedParts.{mapped, mapped_same, state_with, Carries, AllCarry, after, then_carries, either, spend_carries, spend_both, answered_carries, all_carries, collected_carries}
use Rattle.rd_body.proofs.ErasedHeld.{pair_with, truth_of_with_files, iterated_with_files}
use Rattle.rd_body.proofs.ErasedMaking.{before, truth_same, measured_same, made_same}
use Rattle.rd_body.proofs.ErasedOperations.{operate_same, negative_same, compare_same}
use Rattle.rd_body.proofs.ErasedBuiltins.{arguments_same}
use Rattle.rd_body.proofs.ErasedMethods.{receiver_same}
use Rattle.rd_body.proofs.ErasedAnswers.{keyword_with, sides_with, call_of_with_files, cond_of_with_files, map_of_with_files, catch_of_with_files, nothing_held, literal_put, dict_put, with_pairs_put, path_put}

module _ {F G : Type 0} (h : F → G) where
  -- what a helper gives, with the steps that it left
  abbrev pub given_with : Lazy F × ℕ → Lazy G × ℕ
  given_with r = (with_files_expr h r.0, r.1)

  -- a call of a helper gives the same
  abbrev pub CallsAgree : Calls F → Calls G → Type 0
  CallsAgree calls calls' = (place : ℕ) (es : List (Lazy F)) (ks : List (List ℕ × Lazy F)) (left : ℕ) → calls' place (map (with_files_expr h) es) (map (keyword_with h) ks) left ≡ mapped given_with (calls place es ks left)

module _ {N F G : Type 0} (h : F → G) where
  -- a value does the same
  abbrev pub Gives : Part N F (Lazy F) → Part N G (Lazy G) → Type 0
  Gives = Carries h (with_files_expr h)

  abbrev pub AllGive : List (Part N F (Lazy F)) → List (Part N G (Lazy G)) → Type 0
  AllGive = AllCarry h (with_files_expr h)

  -- pairs of parts that do the same
  abbrev PairGives : Part N F (Lazy F) × Part N F (Lazy F) → Part N G (Lazy G) × Part N G (Lazy G) → Type 0
  PairGives p q = Gives p.0 q.0 × Gives p.1 q.1

  -- links of a chain that do the same
  abbrev LinkGives : Operator × Part N F (Lazy F) → Operator × Part N G (Lazy G) → Type 0
  LinkGives p q = (q.0 ≡ p.0) × Gives p.1 q.1

  truth_answered : (e : Lazy F) → Carries {N = N} h (λ b. b) (answered (truth_of e)) (answered (truth_of (with_files_expr h e)))
  truth_answered e = answered_carries h (λ b. b) (truth_of e) (truth_of (with_files_expr h e)) (truth_of_with_files h e ∙ mapped_same (truth_of e))

  pub tested_carries : (p : Part N F (Lazy F)) (q : Part N G (Lazy G)) → Gives p q → Carries h (λ b. b) (body.tested p) (body.tested q)
  tested_carries p q u = then_carries h (with_files_expr h) (λ b. b) p q _ _ u truth_answered

  pub iterated_carries : (p : Part N F (Lazy F)) (q : Part N G (Lazy G)) → Gives p q → Carries h (map (with_files_expr h)) (λ s. and_then (p s) (λ e t. answered (iterated e) t)) (λ s. and_then (q s) (λ e t. answered (iterated e) t))
  iterated_carries p q u = then_carries h (with_files_expr h) (map (with_files_expr h)) p q _ _ u (λ e. answered_carries h (map (with_files_expr h)) (iterated e) (iterated (with_files_expr h e)) (iterated_with_files h e))

  until_carries : (stop : Bool) (a : Lazy F) (ps : List (Part N F (Lazy F))) (qs : List (Part N G (Lazy G))) → AllGive ps qs → Gives (body.until stop a ps) (body.until stop (with_files_expr h a) qs)
  until_carries stop a [] [] us = λ s. refl
  until_carries stop a [] (q ∷ qs) us = absurd us
  until_carries stop a (p ∷ ps) [] us = absurd us
  until_carries stop a (p ∷ ps) (q ∷ qs) us =
      then_carries h (λ b. b) (with_files_expr h) (answered (truth_of a)) (answered (truth_of (with_files_expr h a))) _ _ (truth_answered a)
      (λ holds t. either h (with_files_expr h) (ends_at stop holds) _ _ _ _ refl (then_carries h (with_files_expr h) (with_files_expr h) p q _ _ us.0 (λ b. until_carries stop b ps qs us.1) t))

  operands_carry : (stop : Bool) (ps : List (Part N F (Lazy F))) (qs : List (Part N G (Lazy G))) → AllGive ps qs → Gives (body.operands stop ps) (body.operands stop qs)
  operands_carry stop [] [] us = λ s. ap (λ e. Ok (e, state_with h s)) (nothing_held h)
  operands_carry stop [] (q ∷ qs) us = absurd us
  operands_carry stop (p ∷ ps) [] us = absurd us
  operands_carry stop (p ∷ ps) (q ∷ qs) us =
      spend_both h (with_files_expr h) (operators ps) (operators qs) (λ t. and_then (p t) (λ a u. body.until stop a ps u)) (λ t. and_then (q t) (λ a u. body.until stop a qs u))
      (sym (operators_zip (Carries h (with_files_expr h)) ps qs us.1)) (then_carries h (with_files_expr h) (with_files_expr h) p q _ _ us.0 (λ a. until_carries stop a ps qs us.1))

  both_carry : (p : Part N F (Lazy F) × Part N F (Lazy F)) (q : Part N G (Lazy G) × Part N G (Lazy G)) → PairGives p q → Carries h (sides_with h) (body.both p) (body.both q)
  both_carry p q u = then_carries h (with_files_expr h) (sides_with h) p.0 q.0 _ _ u.0 (λ a. then_carries h (with_files_expr h) (sides_with h) p.1 q.1 _ _ u.1 (λ b s. refl))

  condition_carries : (ps : List (Part N F (Lazy F))) (qs : List (Part N G (Lazy G))) → AllGive ps qs → Carries h (λ b. b) (body.condition ps) (body.condition qs)
  condition_carries [] [] us = λ s. refl
  condition_carries [] (q ∷ qs) us = absurd us
  condition_carries (p ∷ ps) [] us = absurd us
  condition_carries (p ∷ ps) (q ∷ qs) us = tested_carries p q us.0

  element_carries : (p : Part N F (Lazy F)) (q : Part N G (Lazy G)) (ps : List (Part N F (Lazy F))) (qs : List (Part N G (Lazy G))) → Gives p q → AllGive ps qs → Carries h (option_map (with_files_expr h)) (body.element p ps) (body.element q qs)
  element_carries p q ps qs u us =
      then_carries h (λ b. b) (option_map (with_files_expr h)) (body.condition ps) (body.condition qs) _ _ (condition_carries ps qs us)
      (λ holds t. either h (option_map (with_files_expr h)) holds _ _ _ _ (then_carries h (with_files_expr h) (option_map (with_files_expr h)) p q _ _ u (λ e s. refl) t) refl)

  inversion_carries : (p : Part N F (Lazy F)) (q : Part N G (Lazy G)) → Gives p q → Gives (λ s. spend 1 s (body.inversion p)) (λ s. spend 1 s (body.inversion q))
  inversion_carries p q u =
      spend_carries h (with_files_expr h) 1 (body.inversion p) (body.inversion q)
      (then_carries h (with_files_expr h) (with_files_expr h) p q _ _ u (λ e. truth_same h (turned _ (truth_of e)) (turned _ (truth_of (with_files_expr h e))) (ap (turned _) (truth_of_with_files h e))))

  choice_carries : (p p' p'' : Part N F (Lazy F)) (q q' q'' : Part N G (Lazy G)) → Gives p q → Gives p' q' → Gives p'' q'' → Gives (λ s. spend 1 s (body.choice p p' p'')) (λ s. spend 1 s (body.choice q q' q''))
  choice_carries p p' p'' q q' q'' u u' u'' =
      spend_carries h (with_files_expr h) 1 (body.choice p p' p'') (body.choice q q' q'')
      (then_carries h (λ b. b) (with_files_expr h) (body.tested p) (body.tested q) _ _ (tested_carries p q u) (λ holds t. either h (with_files_expr h) holds _ _ _ _ (u' t) (u'' t)))

  after_call_put : (x : Result (Lazy F × ℕ) ErrorValue) → Gives (body.after_call x) (body.after_call (mapped (given_with h) x))
  after_call_put (Ok r) = λ s. refl
  after_call_put (Err e) = λ s. refl

  module _ (file : G → FileValue) where
    links_carry : (a : Lazy F) (ps : List (Operator × Part N F (Lazy F))) (qs : List (Operator × Part N G (Lazy G))) → AllZip LinkGives ps qs → Gives (body.links (before h file) a ps) (body.links file (with_files_expr h a) qs)
    links_carry a [] [] us = λ s. refl
    links_carry a [] (q ∷ qs) us = absurd us
    links_carry a (p ∷ ps) [] us = absurd us
    links_carry a (p ∷ ps) (q ∷ qs) us =
        then_carries h (with_files_expr h) (with_files_expr h) p.1 q.1 _ _ us.0.1
        (λ b. then_carries h (with_files_expr h) (with_files_expr h) (operate (before h file) (kind_of p.0) a b) (operate file (kind_of q.0) (with_files_expr h a) (with_files_expr h b)) _ _
        (λ s. ap (λ o. operate file (kind_of o) (with_files_expr h a) (with_files_expr h b) (state_with h s)) us.0.0 ∙ operate_same h file (kind_of p.0) a b s)
        (λ c. links_carry c ps qs us.1))

    pub listed_same : (es : List (Lazy F)) → Gives (body.shown_list (before h file) es) (body.shown_list file (map (with_files_expr h) es))
    listed_same es = made_same h file (listed (before h file) es) (listed file (map (with_files_expr h) es)) (listed_with_files h file es)

    items_carry : (ps : List (Part N F (Lazy F))) (qs : List (Part N G (Lazy G))) → AllGive ps qs → Gives (λ s. spend 1 s (body.shown_items (before h file) ps)) (λ s. spend 1 s (body.shown_items file qs))
    items_carry ps qs us =
        spend_carries h (with_files_expr h) 1 (body.shown_items (before h file) ps) (body.shown_items file qs)
        (then_carries h (map (with_files_expr h)) (with_files_expr h) (all ps) (all qs) _ _ (all_carries h (with_files_expr h) ps qs us) listed_same)

    dict_carries : (ps : List (Lazy F × Lazy F)) → Gives (body.shown_dict (before h file) ps) (body.shown_dict file (map (sides_with h) ps))
    dict_carries ps =
        then_carries h (map (pair_with h)) (with_files_expr h) (answered (with_pairs (before h file) ps [])) (answered (with_pairs file (map (sides_with h) ps) [])) _ _
        (answered_carries h (map (pair_with h)) (with_pairs (before h file) ps []) (with_pairs file (map (sides_with h) ps) []) (with_pairs_put h file ps []))
        (λ qs. made_same h file (dict_of qs (make.pairs_of qs)) (dict_of (map (pair_with h) qs) (make.pairs_of (map (pair_with h) qs))) (dict_put h qs))

    pairs_carry : (ps : List (Part N F (Lazy F) × Part N F (Lazy F))) (qs : List (Part N G (Lazy G) × Part N G (Lazy G))) → AllZip PairGives ps qs → Gives (λ s. spend 1 s (body.shown_pairs (before h file) ps)) (λ s. spend 1 s (body.shown_pairs file qs))
    pairs_carry ps qs us =
        spend_carries h (with_files_expr h) 1 (body.shown_pairs (before h file) ps) (body.shown_pairs file qs)
        (then_carries h (map (sides_with h)) (with_files_expr h) (all (map body.both ps)) (all (map body.both qs)) _ _
        (all_carries h (sides_with h) (map body.both ps) (map body.both qs) (zip_map PairGives (Carries h (sides_with h)) body.both body.both both_carry ps qs us)) dict_carries)

    method_carries : (p : Part N F (Lazy F)) (q : Part N G (Lazy G)) (name : List ℕ) (ps : List (Part N F (Lazy F))) (qs : List (Part N G (Lazy G))) → Gives p q → AllGive ps qs → Gives (λ s. spend 1 s (body.method (before h file) p name ps)) (λ s. spend 1 s (body.method file q name qs))
    method_carries p q name ps qs u us =
        spend_carries h (with_files_expr h) 1 (body.method (before h file) p name ps) (body.method file q name qs)
        (then_carries h (with_files_expr h) (with_files_expr h) p q _ _ u
        (λ e. then_carries h (map (with_files_expr h)) (with_files_expr h) (all ps) (all qs) _ _ (all_carries h (with_files_expr h) ps qs us) (λ es. receiver_same h file e name es)))

    index_carries : (p p' : Part N F (Lazy F)) (q q' : Part N G (Lazy G)) → Gives p q → Gives p' q' → Gives (λ s. spend 1 s (body.index (before h file) p p')) (λ s. spend 1 s (body.index file q q'))
    index_carries p p' q q' u u' =
        spend_carries h (with_files_expr h) 1 (body.index (before h file) p p') (body.index file q q')
        (then_carries h (with_files_expr h) (with_files_expr h) p q _ _ u (λ a. then_carries h (with_files_expr h) (with_files_expr h) p' q' _ _ u' (λ b. operate_same h file Index a b)))

    path_carries : (p : Part N F (Lazy F)) (q : Part N G (Lazy G)) → Gives p q → Gives (λ s. spend 1 s (body.path (before h file) p)) (λ s. spend 1 s (body.path file q))
    path_carries p q u =
        spend_carries h (with_files_expr h) 1 (body.path (before h file) p) (body.path file q)
        (then_carries h (with_files_expr h) (with_files_expr h) p q _ _ u (λ e. answered_carries h (with_files_expr h) (path_of (before h file) e) (path_of file (with_files_expr h e)) (path_put h file e)))

    negation_carries : (p : Part N F (Lazy F)) (q : Part N G (Lazy G)) → Gives p q → Gives (λ s. spend 1 s (body.negation (before h file) p)) (λ s. spend 1 s (body.negation file q))
    negation_carries p q u =
        spend_carries h (with_files_expr h) 1 (body.negation (before h file) p) (body.negation file q)
        (then_carries h (with_files_expr h) (with_files_expr h) p q _ _ u (λ e. negative_same h file e))

    chain_carries : (p : Part N F (Lazy F)) (q : Part N G (Lazy G)) (ps : List (Operator × Part N F (Lazy F))) (qs : List (Operator × Part N G (Lazy G))) → Gives p q → AllZip LinkGives ps qs → Gives (λ s. spend (operators ps) s (body.chain (before h file) p ps)) (λ s. spend (operators qs) s (body.chain file q qs))
    chain_carries p q ps qs u us =
        spend_both h (with_files_expr h) (operators ps) (operators qs) (body.chain (before h file) p ps) (body.chain file q qs) (sym (operators_zip LinkGives ps qs us))
        (then_carries h (with_files_expr h) (with_files_expr h) p q _ _ u (λ a. links_carry a ps qs us))

    comparing_carries : (c : Comparison) (p p' : Part N F (Lazy F)) (q q' : Part N G (Lazy G)) → Gives p q → Gives p' q' → Gives (λ s. spend 1 s (body.comparing (before h file) c p p')) (λ s. spend 1 s (body.comparing file c q q'))
    comparing_carries c p p' q q' u u' =
        spend_carries h (with_files_expr h) 1 (body.comparing (before h file) c p p') (body.comparing file c q q')
        (then_carries h (with_files_expr h) (with_files_expr h) p q _ _ u (λ a. then_carries h (with_files_expr h) (with_files_expr h) p' q' _ _ u' (λ b. compare_same h file c a b)))

-- a function with other files in its defaults
abbrev pub routine_with : {N F G : Type 0} → (F → G) → Routine N F → Routine N G
routine_with h f = record { same = f.same; spelling = f.spelling; callee = f.callee; class_of = f.class_of; parameters = map (with_files_parameter h) f.parameters; block = f.block }

module _ {N F G : Type 0} (h : F → G) (f : Routine N F) where
  abbrev other : Routine N G
  other = routine_with h f

  chosen : (b : Bool) (o p : Option (Lazy F)) → cond b (option_map (with_files_expr h) o) (option_map (with_files_expr h) p) ≡ option_map (with_files_expr h) (cond b o p)
  chosen true o p = refl
  chosen false o p = refl

  pub named : (names : N → Option (Lazy F)) (name : N) (o : Option (Lazy F)) → body.with_name other (λ x. option_map (with_files_expr h) (names x)) name (option_map (with_files_expr h) o) ≡ (λ x. option_map (with_files_expr h) (body.with_name f names name o x))
  named names name o = fun_ext (λ x. chosen (f.same x name) o (names x))

  pub set_carries : (name : N) (o : Option (Lazy F)) (s : State N F) → body.set other name (option_map (with_files_expr h) o) (state_with h s) ≡ state_with h (body.set f name o s)
  set_carries name o s = ap (λ ns. record { names = ns; left = s.left }) (named s.names name o)

  found_carries : (name : N) (o : Option (Lazy F)) → Gives h (body.found f name o) (body.found other name (option_map (with_files_expr h) o))
  found_carries name None = λ s. refl
  found_carries name (Some e) = λ s. refl

  -- keywords that do the same
  abbrev KeywordGives : N × Part N F (Lazy F) → N × Part N G (Lazy G) → Type 0
  KeywordGives p q = (q.0 ≡ p.0) × Gives h p.1 q.1

  keyword_carries : (p : N × Part N F (Lazy F)) (q : N × Part N G (Lazy G)) → KeywordGives p q → Carries h (keyword_with h) (body.keyword f p) (body.keyword other q)
  keyword_carries p q u = then_carries h (with_files_expr h) (keyword_with h) p.1 q.1 _ _ u.1 (λ e s. ap (λ x. Ok ((f.spelling x, with_files_expr h e), state_with h s)) u.0)

  module _ (file : G → FileValue) (calls : Calls F) (calls' : Calls G) (agree : CallsAgree h calls calls') where
    abbrev own_files : F → FileValue
    own_files = before h file

    special_same : (made : Special) (es : List (Lazy F)) → Gives {N = N} h (body.made_special own_files calls f made es) (body.made_special file calls' other made (map (with_files_expr h) es))
    special_same special.Cond [] = λ s. refl
    special_same special.Cond (a ∷ []) = λ s. refl
    special_same special.Cond (a ∷ b ∷ []) = λ s. refl
    special_same special.Cond (a ∷ b ∷ c ∷ []) = measured_same h file (lazy.Cond a b c) (lazy.Cond (with_files_expr h a) (with_files_expr h b) (with_files_expr h c)) (sym (cond_of_with_files h a b c))
    special_same special.Cond (a ∷ b ∷ c ∷ d ∷ es) = λ s. refl
    special_same special.Catch es = λ s. refl
    special_same special.Map es = λ s. refl

    mapped_same_task : (task : N) (c : Callee) (e : Lazy F) → Gives h (body.mapped own_files calls f task c e) (body.mapped file calls' other task c (with_files_expr h e))
    mapped_same_task task (callee.Task name) e = measured_same h file (lazy.Map name e) (lazy.Map name (with_files_expr h e)) (sym (map_of_with_files h name e))
    mapped_same_task task (callee.Helper place) e = λ s. refl
    mapped_same_task task (callee.Builtin builtin) e = λ s. refl
    mapped_same_task task (callee.Special made) e = λ s. refl
    mapped_same_task task callee.Unknown e = λ s. refl

    caught_same : (caught : N) (o : Option Class) (task : N) (c : Callee) (e : Lazy F) → Gives h (body.caught own_files calls f caught o task c e) (body.caught file calls' other caught o task c (with_files_expr h e))
    caught_same caught None task c e = λ s. refl
    caught_same caught (Some o) task (callee.Task name) e = measured_same h file (lazy.Catch e o name) (lazy.Catch (with_files_expr h e) o name) (sym (catch_of_with_files h e o name))
    caught_same caught (Some o) task (callee.Helper place) e = λ s. refl
    caught_same caught (Some o) task (callee.Builtin builtin) e = λ s. refl
    caught_same caught (Some o) task (callee.Special made) e = λ s. refl
    caught_same caught (Some o) task callee.Unknown e = λ s. refl

    called_as : (name : N) (c : Callee) (es : List (Lazy F)) (ks : List (List ℕ × Lazy F)) → Gives h (body.called own_files calls f name c es ks) (body.called file calls' other name c (map (with_files_expr h) es) (map (keyword_with h) ks))
    called_as name (callee.Task task) es ks = measured_same h file (lazy.Call task es ks) (lazy.Call task (map (with_files_expr h) es) (map (keyword_with h) ks)) (sym (call_of_with_files h task es ks))
    called_as name (callee.Helper place) es ks = λ s. ap (λ x. body.after_call x (state_with h s)) (agree place es ks s.left) ∙ after_call_put h (calls place es ks s.left) s
    called_as name (callee.Builtin builtin) es ks = arguments_same h file builtin es
    called_as name (callee.Special made) es ks = special_same made es
    called_as name callee.Unknown es ks = λ s. refl

    call_carries : (name : N) (ps : List (Part N F (Lazy F))) (qs : List (Part N G (Lazy G))) (ks : List (N × Part N F (Lazy F))) (ls : List (N × Part N G (Lazy G)))
        → AllGive h ps qs → AllZip KeywordGives ks ls → Gives h (λ s. spend 1 s (body.call own_files calls f name ps ks)) (λ s. spend 1 s (body.call file calls' other name qs ls))
    call_carries name ps qs ks ls us ws =
        spend_carries h (with_files_expr h) 1 (body.call own_files calls f name ps ks) (body.call file calls' other name qs ls)
        (then_carries h (map (with_files_expr h)) (with_files_expr h) (all ps) (all qs) _ _ (all_carries h (with_files_expr h) ps qs us)
        (λ es. then_carries h (map (keyword_with h)) (with_files_expr h) (all (map (body.keyword f) ks)) (all (map (body.keyword other) ls)) _ _
        (all_carries h (keyword_with h) (map (body.keyword f) ks) (map (body.keyword other) ls) (zip_map KeywordGives (Carries h (keyword_with h)) (body.keyword f) (body.keyword other) keyword_carries ks ls ws))
        (λ vs. called_as name (f.callee name) es vs)))

    module _ (p : Part N F (Lazy F)) (q : Part N G (Lazy G)) (name : N) (ps : List (Part N F (Lazy F))) (qs : List (Part N G (Lazy G))) (w : Gives h p q) (us : AllGive h ps qs) where
      turn_carries : (x : Lazy F) → Carries h (option_map (with_files_expr h)) (λ t. body.element p ps (body.set f name (Some x) t)) (λ t. body.element q qs (body.set other name (Some (with_files_expr h x)) t))
      turn_carries x t = ap (body.element q qs) (set_carries name (Some x) t) ∙ element_carries h p q ps qs w us (body.set f name (Some x) t)

      comprehension_carries : (xs : List (Lazy F)) → Gives h (body.comprehension own_files calls f p name ps xs) (body.comprehension file calls' other q name qs (map (with_files_expr h) xs))
      comprehension_carries xs s =
          after h (map (with_files_expr h)) (with_files_expr h) (collected (λ x t. body.element p ps (body.set f name (Some x) t)) xs s)
          (collected (λ x t. body.element q qs (body.set other name (Some x) t)) (map (with_files_expr h) xs) (state_with h s)) _ _
          (collected_carries h (with_files_expr h) (with_files_expr h) (λ x t. body.element p ps (body.set f name (Some x) t)) (λ x t. body.element q qs (body.set other name (Some x) t)) turn_carries xs s)
          (λ es t. ap (body.shown_list file (map (with_files_expr h) es)) (set_carries name (s.names name) t) ∙ listed_same h file es (body.set f name (s.names name) t))

      comprehended_carries : (i : Part N F (Lazy F)) (j : Part N G (Lazy G)) → Gives h i j → Gives h (λ s. spend 1 s (body.comprehended own_files calls f p name i ps)) (λ s. spend 1 s (body.comprehended file calls' other q name j qs))
      comprehended_carries i j v =
          spend_carries h (with_files_expr h) 1 (body.comprehended own_files calls f p name i ps) (body.comprehended file calls' other q name j qs)
          (then_carries h (map (with_files_expr h)) (with_files_expr h) (λ s. and_then (i s) (λ e t. answered (iterated e) t)) (λ s. and_then (j s) (λ e t. answered (iterated e) t)) _ _ (iterated_carries h i j v) comprehension_carries)

    -- ---- expressions

    abbrev here_one : Node N → Part N F (Lazy F)
    here_one = node own_files calls f

    abbrev there_one : Node N → Part N G (Lazy G)
    there_one = node file calls' other

    -- an expression does the same
    abbrev pub NodeCarries : Node N → Type 0
    NodeCarries n = Gives h (here_one n) (there_one n)

    at_layer : (y : Node-F N (Node N)) → NoCall y → Gives h (body.node_at own_files calls f (map-Node N (Node N) (Part N F (Lazy F)) here_one y)) (body.node_at file calls' other (map-Node N (Node N) (Part N G (Lazy G)) there_one y)) → NodeCarries (roll-Node N y)
    at_layer y none go = subst₂ (Gives h) (sym (other_layer own_files calls f y none)) (sym (other_layer file calls' other y none)) go

    abbrev Held : Type 0
    Held = (n : Node N) × NodeCarries n

    abbrev node_of : Held → Node N
    node_of x = x.0

    abbrev here : Held → Part N F (Lazy F)
    here x = here_one x.0

    abbrev there : Held → Part N G (Lazy G)
    there x = there_one x.0

    abbrev here_all : List Held → List (Part N F (Lazy F))
    here_all hs = map here_one (map node_of hs)

    abbrev there_all : List Held → List (Part N G (Lazy G))
    there_all hs = map there_one (map node_of hs)

    parts : (hs : List Held) → AllGive h (here_all hs) (there_all hs)
    parts [] = tt
    parts (x ∷ hs) = (x.1, parts hs)

    abbrev seconds : {K X Y : Type 0} → (X → Y) → List (K × X) → List (K × Y)
    seconds k ps = map (λ p. (p.0, k p.1)) ps

    abbrev couples : {X Y : Type 0} → (X → Y) → List (X × X) → List (Y × Y)
    couples k ps = map (λ p. (k p.0, k p.1)) ps

    keywords : (hs : List (N × Held)) → AllZip KeywordGives (seconds here_one (seconds node_of hs)) (seconds there_one (seconds node_of hs))
    keywords [] = tt
    keywords (x ∷ hs) = ((refl, x.1.1), keywords hs)

    links : (hs : List (Operator × Held)) → AllZip (LinkGives {N = N} h) (seconds here_one (seconds node_of hs)) (seconds there_one (seconds node_of hs))
    links [] = tt
    links (x ∷ hs) = ((refl, x.1.1), links hs)

    pairs : (hs : List (Held × Held)) → AllZip (PairGives {N = N} h) (couples here_one (couples node_of hs)) (couples there_one (couples node_of hs))
    pairs [] = tt
    pairs (x ∷ hs) = ((x.0.1, x.1.1), pairs hs)

    -- ---- calls

    formed_carries : (c : Form N Held) (name : N) (hs : List Held) (ks : List (N × Held))
        → Gives h (body.call_at own_files calls f (form_with (λ n. n) here c) name (here_all hs) (seconds here_one (seconds node_of ks))) (body.call_at file calls' other (form_with (λ n. n) there c) name (there_all hs) (seconds there_one (seconds node_of ks)))
    formed_carries Plain name hs ks = call_carries name (here_all hs) (there_all hs) (seconds here_one (seconds node_of ks)) (seconds there_one (seconds node_of ks)) (parts hs) (keywords ks)
    formed_carries Wrong name hs ks = call_carries name (here_all hs) (there_all hs) (seconds here_one (seconds node_of ks)) (seconds there_one (seconds node_of ks)) (parts hs) (keywords ks)
    formed_carries (Mapping task x) name hs ks =
        spend_carries h (with_files_expr h) 1 (λ t. and_then (here x t) (λ e u. body.mapped own_files calls f task (f.callee task) e u)) (λ t. and_then (there x t) (λ e u. body.mapped file calls' other task (f.callee task) e u))
        (then_carries h (with_files_expr h) (with_files_expr h) (here x) (there x) _ _ x.1 (mapped_same_task task (f.callee task)))
    formed_carries (Catching x caught task) name hs ks =
        spend_carries h (with_files_expr h) 1 (λ t. and_then (here x t) (λ e u. body.caught own_files calls f caught (f.class_of caught) task (f.callee task) e u))
        (λ t. and_then (there x t) (λ e u. body.caught file calls' other caught (f.class_of caught) task (f.callee task) e u))
        (then_carries h (with_files_expr h) (with_files_expr h) (here x) (there x) _ _ x.1 (caught_same caught (f.class_of caught) task (f.callee task)))

    call_step : (name : N) (hs : List Held) (ks : List (N × Held)) → NodeCarries (roll-Node N (Node-F.Call name (map node_of hs) (seconds node_of ks)))
    call_step name hs ks =
        let ps = map node_of hs in
        let ls = seconds node_of ks in
        subst₂ (Gives h) (sym (call_layer own_files calls f name ps ls ∙ ap (λ c. body.call_at own_files calls f c name (here_all hs) (seconds here_one ls)) (plain_form node_of here_one (kind f name) hs ks)))
        (sym (call_layer file calls' other name ps ls ∙ ap (λ c. body.call_at file calls' other c name (there_all hs) (seconds there_one ls)) (plain_form node_of there_one (kind f name) hs ks)))
        (formed_carries (held_form node_of (kind f name) hs ks) name hs ks)

    step : (y : Node-F N Held) → NodeCarries (roll-Node N (map-Node N Held (Node N) node_of y))
    step (Node-F.Lit v) = at_layer (Node-F.Lit v) tt (spend_carries h (with_files_expr h) 1 (λ t. Ok (literal v, t)) (λ t. Ok (literal v, t)) (λ t. ap (λ e. Ok (e, state_with h t)) (literal_put h v)))
    step (Node-F.Name name) =
        at_layer (Node-F.Name name) tt (spend_carries h (with_files_expr h) 1 (λ t. body.found f name (t.names name) t) (λ t. body.found other name (t.names name) t) (λ t. found_carries name (t.names name) t))
    step (Node-F.Call name hs ks) = call_step name hs ks
    step (Node-F.Method x name hs) = at_layer (Node-F.Method x.0 name (map node_of hs)) tt (method_carries h file (here x) (there x) name (here_all hs) (there_all hs) x.1 (parts hs))
    step (Node-F.Index a b) = at_layer (Node-F.Index a.0 b.0) tt (index_carries h file (here a) (here b) (there a) (there b) a.1 b.1)
    step (Node-F.Path a) = at_layer (Node-F.Path a.0) tt (path_carries h file (here a) (there a) a.1)
    step (Node-F.Neg a) = at_layer (Node-F.Neg a.0) tt (negation_carries h file (here a) (there a) a.1)
    step (Node-F.Not a) = at_layer (Node-F.Not a.0) tt (inversion_carries h (here a) (there a) a.1)
    step (Node-F.Chain a hs) =
        at_layer (Node-F.Chain a.0 (seconds node_of hs)) tt (chain_carries h file (here a) (there a) (seconds here_one (seconds node_of hs)) (seconds there_one (seconds node_of hs)) a.1 (links hs))
    step (Node-F.Compare c a b) = at_layer (Node-F.Compare c a.0 b.0) tt (comparing_carries h file c (here a) (here b) (there a) (there b) a.1 b.1)
    step (Node-F.And hs) = at_layer (Node-F.And (map node_of hs)) tt (operands_carry h false (here_all hs) (there_all hs) (parts hs))
    step (Node-F.Or hs) = at_layer (Node-F.Or (map node_of hs)) tt (operands_carry h true (here_all hs) (there_all hs) (parts hs))
    step (Node-F.Cond a b c) = at_layer (Node-F.Cond a.0 b.0 c.0) tt (choice_carries h (here a) (here b) (here c) (there a) (there b) (there c) a.1 b.1 c.1)
    step (Node-F.List hs) = at_layer (Node-F.List (map node_of hs)) tt (items_carry h file (here_all hs) (there_all hs) (parts hs))
    step (Node-F.Dict hs) = at_layer (Node-F.Dict (couples node_of hs)) tt (pairs_carry h file (couples here_one (couples node_of hs)) (couples there_one (couples node_of hs)) (pairs hs))
    step (Node-F.Comp a name b hs) =
        at_layer (Node-F.Comp a.0 name b.0 (map node_of hs)) tt (comprehended_carries (here a) (there a) name (here_all hs) (there_all hs) a.1 (parts hs) (here b) (there b) b.1)

    pub node_carries : (n : Node N) → NodeCarries n
    node_carries = ind-Node N NodeCarries (λ x y is. subst (λ z. NodeCarries (roll-Node N z)) is (step y))
