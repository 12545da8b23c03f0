-- What an expression of a source gives names no other tasks than the function does.
use Rattle.std.proofs.Common.{◌≡◌, ℕ, Bool, true, false, List, [], ◌∷◌, map, Option, None, Some, Result, Ok, Err, refl, ap, sym, ◌∙◌, subst}
use Rattle.std.specs.Prelude.{if◌then◌else◌}
use Rattle.rd_value.specs.declared.class.Class.{Class}
use Rattle.rd_value.specs.declared.value.ErrorValue.{ErrorValue}
use Rattle.rd_value.specs.declared.value.FileValue.{FileValue}
use Rattle.rd_value.specs.declared.value.Datum.{Datum, out-Datum}
use Rattle.rd_value.specs.declared.value.Datum.TheVariants as value
use Rattle.rd_value.specs.declared.value.Datum.TheOpen.{Datum-F}
use Rattle.rd_value.specs.declared.expr.Lazy.{Lazy, out-Lazy}
use Rattle.rd_value.specs.declared.expr.Lazy.TheVariants as lazy
use Rattle.rd_value.specs.declared.expr.Lazy.TheOpen.{Lazy-F}
use Rattle.rd_value.specs.declared.expr.OpKind.TheVariants.{Index}
use Rattle.rd_value.specs.Compare.{equal}
use Rattle.rd_value.specs.Expand.{listed}
use Rattle.rd_value.specs.Make as make
use Rattle.rd_value.specs.Make.{value_of, dict_of}
use Rattle.rd_value.proofs.Ind.{Each, EachSecond}
use Rattle.rd_tree.specs.declared.tree.Comparison.{Comparison}
use Rattle.rd_tree.specs.declared.tree.Operator.{Operator}
use Rattle.rd_tree.specs.declared.tree.Node.{Node}
use Rattle.rd_tree.specs.declared.tree.Node.TheViews.{roll-Node}
use Rattle.rd_tree.specs.declared.tree.Node.TheOpen.{Node-F}
use Rattle.rd_tree.specs.declared.tree.Node.TheFolds.{ind-Node, map-Node}
use Rattle.rd_routine.specs.declared.routine.Callee.{Callee}
use Rattle.rd_routine.specs.declared.routine.Callee.TheVariants as callee
use Rattle.rd_routine.specs.declared.special.Special.{Special}
use Rattle.rd_routine.specs.declared.special.Special.TheVariants as special
use Rattle.rd_routine.specs.Forms.{Form, Plain, Wrong, Mapping, Catching, form_with}
use Rattle.rd_routine.proofs.Forms.{NoCall}
use Rattle.rd_interpreter.specs.State.{State, Part, and_then, spend, answered, all, collected}
use Rattle.rd_interpreter.specs.Held.{truth_of, iterated}
use Rattle.rd_interpreter.specs.Builtins.{then_}
use Rattle.rd_interpreter.specs.Operations.{kind_of, operate, turned}
use Rattle.rd_interpreter.specs.Body as body
use Rattle.rd_interpreter.specs.Body.{Routine, Calls, literal, with_pair, with_pairs, key_held, operators, ends_at, path_of, path_at, path_of_value, kind, node}
use Rattle.rd_interpreter.proofs.Layers.{call_layer, other_layer}
use Rattle.rd_body.proofs.RenamedForms.{held_form, plain_form}
use Rattle.rd_body.proofs.HomeParts.{IfThere, IfFound, Anything, IsSafe, Keeps, then_keeps, either, spend_keeps, answered_keeps, all_keep, collected_keeps}
use Rattle.rd_body.proofs.HomeMakings.{Home, home_val, home_call, home_cond, home_map, home_catch, iterated_home, listed_home, dict_home, truth_keeps, measured_keeps, made_keeps}
use Rattle.rd_body.proofs.HomeOperations.{operate_home, negative_home, compare_home, arguments_fine, receiver_home}

any_found : {A : Type 0} (x : Result A ErrorValue) → IfFound Anything x
any_found (Ok a) = tt
any_found (Err e) = tt

-- what is given to a helper's call, and what it gives, names such tasks
abbrev pub HomeCalls : (F : Type 0) → (List ℕ → Type 0) → Calls F → Type 0
HomeCalls F IsTask calls = (place : ℕ) (es : List (Lazy F)) (ks : List (List ℕ × Lazy F)) (left : ℕ) → Each (Home F IsTask) es → EachSecond (Home F IsTask) ks → IfFound (λ r. Home F IsTask r.0) (calls place es ks left)

module _ (N F : Type 0) (IsTask : List ℕ → Type 0) where
  abbrev Own : Lazy F → Type 0
  Own = Home F IsTask

  abbrev KeepsThis : {A : Type 0} → (A → Type 0) → Part N F A → Type 0
  KeepsThis = Keeps {N = N} Own

  abbrev pub Gives : Part N F (Lazy F) → Type 0
  Gives = KeepsThis Own

  abbrev PairGives : Part N F (Lazy F) × Part N F (Lazy F) → Type 0
  PairGives p = Gives p.0 × Gives p.1

  abbrev BothOwn : Lazy F × Lazy F → Type 0
  BothOwn p = Own p.0 × Own p.1

  pub tested_keeps : (p : Part N F (Lazy F)) → Gives p → KeepsThis Anything (body.tested p)
  tested_keeps p u = then_keeps Own Own Anything p _ u (λ e w. answered_keeps Own Anything (truth_of e) (any_found (truth_of e)))

  pub iterated_keeps : (p : Part N F (Lazy F)) → Gives p → KeepsThis (Each Own) (λ s. and_then (p s) (λ e t. answered (iterated e) t))
  iterated_keeps p u = then_keeps Own Own (Each Own) p _ u (λ e w. answered_keeps Own (Each Own) (iterated e) (iterated_home F IsTask e w))

  until_keeps : (stop : Bool) (a : Lazy F) (ps : List (Part N F (Lazy F))) → Own a → Each Gives ps → Gives (body.until stop a ps)
  until_keeps stop a [] w us = λ s h. (w, h)
  until_keeps stop a (p ∷ ps) w us =
      then_keeps Own Anything Own (answered (truth_of a)) _ (answered_keeps Own Anything (truth_of a) (any_found (truth_of a)))
      (λ holds x s h. either Own Own (ends_at stop holds) (Ok (a, s)) _ (w, h) (then_keeps Own Own Own p _ us.0 (λ b v. until_keeps stop b ps v us.1) s h))

  operands_keep : (stop : Bool) (ps : List (Part N F (Lazy F))) → Each Gives ps → Gives (body.operands stop ps)
  operands_keep stop [] us = λ s h. (home_val F IsTask value.Nothing, h)
  operands_keep stop (p ∷ ps) us =
      spend_keeps Own Own (operators ps) (λ t. and_then (p t) (λ a u. body.until stop a ps u)) (then_keeps Own Own Own p _ us.0 (λ a w. until_keeps stop a ps w us.1))

  both_keep : (p : Part N F (Lazy F) × Part N F (Lazy F)) → PairGives p → KeepsThis BothOwn (body.both p)
  both_keep p u = then_keeps Own Own BothOwn p.0 _ u.0 (λ a w. then_keeps Own Own BothOwn p.1 _ u.1 (λ b v s h. ((w, v), h)))

  condition_keeps : (ps : List (Part N F (Lazy F))) → Each Gives ps → KeepsThis Anything (body.condition ps)
  condition_keeps [] us = λ s h. (tt, h)
  condition_keeps (p ∷ ps) us = tested_keeps p us.0

  element_keeps : (p : Part N F (Lazy F)) (ps : List (Part N F (Lazy F))) → Gives p → Each Gives ps → KeepsThis (IfThere Own) (body.element p ps)
  element_keeps p ps u us =
      then_keeps Own Anything (IfThere Own) (body.condition ps) _ (condition_keeps ps us)
      (λ holds x s h. either Own (IfThere Own) holds _ (Ok (None, s)) (then_keeps Own Own (IfThere Own) p (λ r t. Ok (Some r, t)) u (λ e w s h. (w, h)) s h) (tt, h))

  inversion_keeps : (p : Part N F (Lazy F)) → Gives p → Gives (λ s. spend 1 s (body.inversion p))
  inversion_keeps p u = spend_keeps Own Own 1 (body.inversion p) (then_keeps Own Own Own p _ u (λ e w. truth_keeps F IsTask (turned _ (truth_of e))))

  choice_keeps : (p p' p'' : Part N F (Lazy F)) → Gives p → Gives p' → Gives p'' → Gives (λ s. spend 1 s (body.choice p p' p''))
  choice_keeps p p' p'' u u' u'' =
      spend_keeps Own Own 1 (body.choice p p' p'') (then_keeps Own Anything Own (body.tested p) _ (tested_keeps p u) (λ holds x s h. either Own Own holds (p' s) (p'' s) (u' s h) (u'' s h)))

  after_call_keeps : (x : Result (Lazy F × ℕ) ErrorValue) → IfFound (λ r. Own r.0) x → Gives (body.after_call x)
  after_call_keeps (Ok r) u = λ s h. (u, h)
  after_call_keeps (Err e) u = λ s h. tt

  module _ (file : F → FileValue) where
    links_keep : (a : Lazy F) (ps : List (Operator × Part N F (Lazy F))) → Own a → EachSecond Gives ps → Gives (body.links file a ps)
    links_keep a [] w us = λ s h. (w, h)
    links_keep a (p ∷ ps) w us =
        then_keeps Own Own Own p.1 _ us.0 (λ b v. then_keeps Own Own Own (operate file (kind_of p.0) a b) _ (operate_home F IsTask file N (kind_of p.0) a b w v) (λ c x. links_keep c ps x us.1))

    shown_list_keeps : (es : List (Lazy F)) → Each Own es → Gives (body.shown_list file es)
    shown_list_keeps es us = made_keeps F IsTask file (listed file es) (listed_home F IsTask file es us)

    items_keep : (ps : List (Part N F (Lazy F))) → Each Gives ps → Gives (λ s. spend 1 s (body.shown_items file ps))
    items_keep ps us = spend_keeps Own Own 1 (body.shown_items file ps) (then_keeps Own (Each Own) Own (all ps) _ (all_keep Own Own ps us) shown_list_keeps)

    with_pair_home : (k : Datum F) (e : Lazy F) (ps : List (Datum F × Lazy F)) → Own e → EachSecond Own ps → EachSecond Own (with_pair file k e ps)
    with_pair_home k e [] u us = (u, tt)
    with_pair_home k e (p ∷ ps) u us = by_test (equal file p.0 k) (with_pair_home k e ps u us.1)
      where
        by_test : (b : Bool) → EachSecond Own (with_pair file k e ps) → EachSecond Own (if b then (p.0, e) ∷ ps else p ∷ with_pair file k e ps)
        by_test true more = (u, us.1)
        by_test false more = (us.0, more)

    then_found : {A B : Type 0} (P : B → Type 0) (x : Result A ErrorValue) (go : A → Result B ErrorValue) → ((a : A) → IfFound P (go a)) → IfFound P (then_ x go)
    then_found P (Ok a) go u = u a
    then_found P (Err e) go u = tt

    with_pairs_home : (ps : List (Lazy F × Lazy F)) (done : List (Datum F × Lazy F)) → Each BothOwn ps → EachSecond Own done → IfFound (EachSecond Own) (with_pairs file ps done)
    with_pairs_home [] done us ws = ws
    with_pairs_home (p ∷ ps) done us ws =
        then_found (EachSecond Own) (key_held (value_of p.0)) (λ k. with_pairs file ps (with_pair file k p.1 done)) (λ k. with_pairs_home ps (with_pair file k p.1 done) us.1 (with_pair_home k p.1 done us.0.1 ws))

    dict_keeps : (ps : List (Lazy F × Lazy F)) → Each BothOwn ps → Gives (body.shown_dict file ps)
    dict_keeps ps us =
        then_keeps Own (EachSecond Own) Own (answered (with_pairs file ps [])) _ (answered_keeps Own (EachSecond Own) (with_pairs file ps []) (with_pairs_home ps [] us tt))
        (λ qs ws. made_keeps F IsTask file (dict_of qs (make.pairs_of qs)) (dict_home F IsTask qs (make.pairs_of qs) ws))

    each_both : (ps : List (Part N F (Lazy F) × Part N F (Lazy F))) → Each PairGives ps → Each (KeepsThis BothOwn) (map body.both ps)
    each_both [] us = tt
    each_both (p ∷ ps) us = (both_keep p us.0, each_both ps us.1)

    pairs_keep : (ps : List (Part N F (Lazy F) × Part N F (Lazy F))) → Each PairGives ps → Gives (λ s. spend 1 s (body.shown_pairs file ps))
    pairs_keep ps us =
        spend_keeps Own Own 1 (body.shown_pairs file ps) (then_keeps Own (Each BothOwn) Own (all (map body.both ps)) _ (all_keep Own BothOwn (map body.both ps) (each_both ps us)) dict_keeps)

    method_keeps : (p : Part N F (Lazy F)) (name : List ℕ) (ps : List (Part N F (Lazy F))) → Gives p → Each Gives ps → Gives (λ s. spend 1 s (body.method file p name ps))
    method_keeps p name ps u us =
        spend_keeps Own Own 1 (body.method file p name ps)
        (then_keeps Own Own Own p _ u (λ e w. then_keeps Own (Each Own) Own (all ps) _ (all_keep Own Own ps us) (λ es vs. receiver_home F IsTask file N e w name es)))

    index_keeps : (p p' : Part N F (Lazy F)) → Gives p → Gives p' → Gives (λ s. spend 1 s (body.index file p p'))
    index_keeps p p' u u' =
        spend_keeps Own Own 1 (body.index file p p') (then_keeps Own Own Own p _ u (λ a w. then_keeps Own Own Own p' _ u' (λ b v. operate_home F IsTask file N Index a b w v)))

    path_value_home : (x : Datum-F F (Datum F)) → IfFound Own (path_of_value file x)
    path_value_home (Datum-F.File g) = home_val F IsTask (value.Text (file g).path)
    path_value_home x = tt

    path_home : (x : Lazy-F F (Lazy F)) → IfFound Own (path_at file x)
    path_home (Lazy-F.Val v) = path_value_home (out-Datum F v)
    path_home (Lazy-F.Input path) = home_val F IsTask (value.Text path)
    path_home x = tt

    path_keeps : (p : Part N F (Lazy F)) → Gives p → Gives (λ s. spend 1 s (body.path file p))
    path_keeps p u = spend_keeps Own Own 1 (body.path file p) (then_keeps Own Own Own p _ u (λ e w. answered_keeps Own Own (path_of file e) (path_home (out-Lazy F e))))

    negation_keeps : (p : Part N F (Lazy F)) → Gives p → Gives (λ s. spend 1 s (body.negation file p))
    negation_keeps p u = spend_keeps Own Own 1 (body.negation file p) (then_keeps Own Own Own p _ u (λ e w. negative_home F IsTask file N e w))

    chain_keeps : (p : Part N F (Lazy F)) (ps : List (Operator × Part N F (Lazy F))) → Gives p → EachSecond Gives ps → Gives (λ s. spend (operators ps) s (body.chain file p ps))
    chain_keeps p ps u us = spend_keeps Own Own (operators ps) (body.chain file p ps) (then_keeps Own Own Own p _ u (λ a w. links_keep a ps w us))

    comparing_keeps : (c : Comparison) (p p' : Part N F (Lazy F)) → Gives p → Gives p' → Gives (λ s. spend 1 s (body.comparing file c p p'))
    comparing_keeps c p p' u u' =
        spend_keeps Own Own 1 (body.comparing file c p p') (then_keeps Own Own Own p _ u (λ a w. then_keeps Own Own Own p' _ u' (λ b v. compare_home F IsTask file N c a b w v)))

-- ---- what a function knows of its names

module _ (N F : Type 0) (IsTask : List ℕ → Type 0) (f : Routine N F) where
  abbrev Own2 : Lazy F → Type 0
  Own2 = Home F IsTask

  one_name : (b : Bool) (o p : Option (Lazy F)) → IfThere Own2 o → ((e : Lazy F) → p ≡ Some e → Own2 e) → (e : Lazy F) → (if b then o else p) ≡ Some e → Own2 e
  one_name true o p u w e is = subst (IfThere Own2) is u
  one_name false o p u w e is = w e is

  pub set_safe : (name : N) (o : Option (Lazy F)) (s : State N F) → IfThere Own2 o → IsSafe Own2 s → IsSafe Own2 (body.set f name o s)
  set_safe name o s u h x e is = one_name (f.same x name) o (s.names x) u (h x) e is

  pub found_keeps : (name : N) (o : Option (Lazy F)) → ((e : Lazy F) → o ≡ Some e → Own2 e) → Gives N F IsTask (body.found f name o)
  found_keeps name None u = λ s h. tt
  found_keeps name (Some e) u = λ s h. (u e refl, h)

  abbrev KeywordOwn : List ℕ × Lazy F → Type 0
  KeywordOwn k = Own2 k.1

  keyword_keeps : (k : N × Part N F (Lazy F)) → Gives N F IsTask k.1 → Keeps {N = N} Own2 KeywordOwn (body.keyword f k)
  keyword_keeps k u = then_keeps Own2 Own2 KeywordOwn k.1 _ u (λ e w s h. (w, h))

  each_keyword : (ks : List (N × Part N F (Lazy F))) → EachSecond (Gives N F IsTask) ks → Each (Keeps {N = N} Own2 KeywordOwn) (map (body.keyword f) ks)
  each_keyword [] us = tt
  each_keyword (k ∷ ks) us = (keyword_keeps k us.0, each_keyword ks us.1)

  seconds_own : (ks : List (List ℕ × Lazy F)) → Each KeywordOwn ks → EachSecond Own2 ks
  seconds_own [] us = tt
  seconds_own (k ∷ ks) us = (us.0, seconds_own ks us.1)

  module _ (file : F → FileValue) (calls : Calls F) (tasks : (name : N) (task : List ℕ) → f.callee name ≡ callee.Task task → IsTask task) (fine : HomeCalls F IsTask calls) where
    abbrev GivesHere : Part N F (Lazy F) → Type 0
    GivesHere = Gives N F IsTask

    special_keeps : (made : Special) (es : List (Lazy F)) → Each Own2 es → GivesHere (body.made_special file calls f made es)
    special_keeps special.Cond [] us = λ s h. tt
    special_keeps special.Cond (a ∷ []) us = λ s h. tt
    special_keeps special.Cond (a ∷ b ∷ []) us = λ s h. tt
    special_keeps special.Cond (a ∷ b ∷ c ∷ []) us = measured_keeps F IsTask file (lazy.Cond a b c) (home_cond F IsTask a b c us.0 us.1.0 us.1.1.0)
    special_keeps special.Cond (a ∷ b ∷ c ∷ d ∷ es) us = λ s h. tt
    special_keeps special.Catch es us = λ s h. tt
    special_keeps special.Map es us = λ s h. tt

    called_by : (name : N) (c : Callee) → f.callee name ≡ c → (es : List (Lazy F)) (ks : List (List ℕ × Lazy F)) → Each Own2 es → EachSecond Own2 ks → GivesHere (body.called file calls f name c es ks)
    called_by name (callee.Task task) is es ks us ws = measured_keeps F IsTask file (lazy.Call task es ks) (home_call F IsTask task es ks (tasks name task is) us ws)
    called_by name (callee.Helper place) is es ks us ws = λ s h. after_call_keeps N F IsTask (calls place es ks s.left) (fine place es ks s.left us ws) s h
    called_by name (callee.Builtin builtin) is es ks us ws = arguments_fine F IsTask file N builtin es
    called_by name (callee.Special made) is es ks us ws = special_keeps made es us
    called_by name callee.Unknown is es ks us ws = λ s h. tt

    call_keeps : (name : N) (ps : List (Part N F (Lazy F))) (ks : List (N × Part N F (Lazy F))) → Each GivesHere ps → EachSecond GivesHere ks → GivesHere (body.call file calls f name ps ks)
    call_keeps name ps ks us ws =
        then_keeps Own2 (Each Own2) Own2 (all ps) _ (all_keep Own2 Own2 ps us)
        (λ es vs. then_keeps Own2 (Each KeywordOwn) Own2 (all (map (body.keyword f) ks)) _ (all_keep Own2 KeywordOwn (map (body.keyword f) ks) (each_keyword ks ws)) (λ ls xs. called_by name (f.callee name) refl es ls vs (seconds_own ls xs)))

    mapped_by : (name : N) (c : Callee) → f.callee name ≡ c → (e : Lazy F) → Own2 e → GivesHere (body.mapped file calls f name c e)
    mapped_by name (callee.Task task) is e u = measured_keeps F IsTask file (lazy.Map task e) (home_map F IsTask task e (tasks name task is) u)
    mapped_by name (callee.Helper place) is e u = λ s h. tt
    mapped_by name (callee.Builtin builtin) is e u = λ s h. tt
    mapped_by name (callee.Special made) is e u = λ s h. tt
    mapped_by name callee.Unknown is e u = λ s h. tt

    caught_by : (class : N) (o : Option Class) (name : N) (c : Callee) → f.callee name ≡ c → (e : Lazy F) → Own2 e → GivesHere (body.caught file calls f class o name c e)
    caught_by class None name c is e u = λ s h. tt
    caught_by class (Some o) name (callee.Task task) is e u = measured_keeps F IsTask file (lazy.Catch e o task) (home_catch F IsTask e o task (tasks name task is) u)
    caught_by class (Some o) name (callee.Helper place) is e u = λ s h. tt
    caught_by class (Some o) name (callee.Builtin builtin) is e u = λ s h. tt
    caught_by class (Some o) name (callee.Special made) is e u = λ s h. tt
    caught_by class (Some o) name callee.Unknown is e u = λ s h. tt

    module _ (p : Part N F (Lazy F)) (name : N) (ps : List (Part N F (Lazy F))) (u : GivesHere p) (us : Each GivesHere ps) where
      turn_keeps : (x : Lazy F) → Own2 x → Keeps {N = N} Own2 (IfThere Own2) (λ t. body.element p ps (body.set f name (Some x) t))
      turn_keeps x w s h = element_keeps N F IsTask p ps u us (body.set f name (Some x) s) (set_safe name (Some x) s w h)

      there : (o : Option (Lazy F)) → ((e : Lazy F) → o ≡ Some e → Own2 e) → IfThere Own2 o
      there None w = tt
      there (Some e) w = w e refl

      comprehension_keeps : (xs : List (Lazy F)) → Each Own2 xs → GivesHere (body.comprehension file calls f p name ps xs)
      comprehension_keeps xs ws s h =
          then_keeps Own2 (Each Own2) Own2 (collected (λ x t. body.element p ps (body.set f name (Some x) t)) xs) _ (collected_keeps Own2 Own2 Own2 (λ x t. body.element p ps (body.set f name (Some x) t)) turn_keeps xs ws)
          (λ es vs t g. shown_list_keeps N F IsTask file es vs (body.set f name (s.names name) t) (set_safe name (s.names name) t (there (s.names name) (h name)) g)) s h

      comprehended_keeps : (i : Part N F (Lazy F)) → GivesHere i → GivesHere (λ s. spend 1 s (body.comprehended file calls f p name i ps))
      comprehended_keeps i w =
          spend_keeps Own2 Own2 1 (body.comprehended file calls f p name i ps)
          (then_keeps Own2 (Each Own2) Own2 (λ s. and_then (i s) (λ e t. answered (iterated e) t)) _ (iterated_keeps N F IsTask i w) comprehension_keeps)

    -- ---- expressions

    abbrev meant : Node N → Part N F (Lazy F)
    meant = node file calls f

    abbrev pub NodeGives : Node N → Type 0
    NodeGives n = GivesHere (meant n)

    at_layer : (y : Node-F N (Node N)) → NoCall y → GivesHere (body.node_at file calls f (map-Node N (Node N) (Part N F (Lazy F)) meant y)) → NodeGives (roll-Node N y)
    at_layer y none u = subst GivesHere (sym (other_layer file calls f y none)) u

    abbrev Held : Type 0
    Held = (n : Node N) × NodeGives n

    abbrev node_of : Held → Node N
    node_of h = h.0

    abbrev seconds : {K X Y : Type 0} → (X → Y) → List (K × X) → List (K × Y)
    seconds k ps = map (λ p. (p.0, k p.1)) ps

    abbrev couples : {X Y : Type 0} → (X → Y) → List (X × X) → List (Y × Y)
    couples k ps = map (λ p. (k p.0, k p.1)) ps

    parts : (hs : List Held) → Each GivesHere (map meant (map node_of hs))
    parts [] = tt
    parts (h ∷ hs) = (h.1, parts hs)

    behind : (K : Type 0) (hs : List (K × Held)) → EachSecond GivesHere (seconds meant (seconds node_of hs))
    behind K [] = tt
    behind K (h ∷ hs) = (h.1.1, behind K hs)

    pairs : (hs : List (Held × Held)) → Each (PairGives N F IsTask) (couples meant (couples node_of hs))
    pairs [] = tt
    pairs (h ∷ hs) = ((h.0.1, h.1.1), pairs hs)

    formed_gives : (c : Form N Held) (name : N) (hs : List Held) (ks : List (N × Held)) → GivesHere (body.call_at file calls f (form_with (λ n. n) (λ h. meant h.0) c) name (map meant (map node_of hs)) (seconds meant (seconds node_of ks)))
    formed_gives Plain name hs ks = spend_keeps Own2 Own2 1 (body.call file calls f name (map meant (map node_of hs)) (seconds meant (seconds node_of ks))) (call_keeps name _ _ (parts hs) (behind N ks))
    formed_gives Wrong name hs ks = spend_keeps Own2 Own2 1 (body.call file calls f name (map meant (map node_of hs)) (seconds meant (seconds node_of ks))) (call_keeps name _ _ (parts hs) (behind N ks))
    formed_gives (Mapping task h) name hs ks =
        spend_keeps Own2 Own2 1 (λ t. and_then (meant h.0 t) (λ e u. body.mapped file calls f task (f.callee task) e u)) (then_keeps Own2 Own2 Own2 (meant h.0) _ h.1 (mapped_by task (f.callee task) refl))
    formed_gives (Catching h class task) name hs ks =
        spend_keeps Own2 Own2 1 (λ t. and_then (meant h.0 t) (λ e u. body.caught file calls f class (f.class_of class) task (f.callee task) e u))
        (then_keeps Own2 Own2 Own2 (meant h.0) _ h.1 (caught_by class (f.class_of class) task (f.callee task) refl))

    call_step : (name : N) (hs : List Held) (ks : List (N × Held)) → NodeGives (roll-Node N (Node-F.Call name (map node_of hs) (seconds node_of ks)))
    call_step name hs ks =
        let ps = map node_of hs in
        let ls = seconds node_of ks in
        subst GivesHere (sym (call_layer file calls f name ps ls ∙ ap (λ c. body.call_at file calls f c name (map meant ps) (seconds meant ls)) (plain_form node_of meant (kind f name) hs ks)))
        (formed_gives (held_form node_of (kind f name) hs ks) name hs ks)

    step : (y : Node-F N Held) → NodeGives (roll-Node N (map-Node N Held (Node N) node_of y))
    step (Node-F.Lit v) = at_layer (Node-F.Lit v) tt (spend_keeps Own2 Own2 1 (λ t. Ok (literal v, t)) (λ s h. (home_val F IsTask _, h)))
    step (Node-F.Name name) = at_layer (Node-F.Name name) tt (spend_keeps Own2 Own2 1 (λ t. body.found f name (t.names name) t) (λ t h. found_keeps name (t.names name) (h name) t h))
    step (Node-F.Call name hs ks) = call_step name hs ks
    step (Node-F.Method x name hs) = at_layer (Node-F.Method x.0 name (map node_of hs)) tt (method_keeps N F IsTask file (meant x.0) name (map meant (map node_of hs)) x.1 (parts hs))
    step (Node-F.Index a b) = at_layer (Node-F.Index a.0 b.0) tt (index_keeps N F IsTask file (meant a.0) (meant b.0) a.1 b.1)
    step (Node-F.Path a) = at_layer (Node-F.Path a.0) tt (path_keeps N F IsTask file (meant a.0) a.1)
    step (Node-F.Neg a) = at_layer (Node-F.Neg a.0) tt (negation_keeps N F IsTask file (meant a.0) a.1)
    step (Node-F.Not a) = at_layer (Node-F.Not a.0) tt (inversion_keeps N F IsTask (meant a.0) a.1)
    step (Node-F.Chain a hs) = at_layer (Node-F.Chain a.0 (seconds node_of hs)) tt (chain_keeps N F IsTask file (meant a.0) (seconds meant (seconds node_of hs)) a.1 (behind Operator hs))
    step (Node-F.Compare c a b) = at_layer (Node-F.Compare c a.0 b.0) tt (comparing_keeps N F IsTask file c (meant a.0) (meant b.0) a.1 b.1)
    step (Node-F.And hs) = at_layer (Node-F.And (map node_of hs)) tt (operands_keep N F IsTask false (map meant (map node_of hs)) (parts hs))
    step (Node-F.Or hs) = at_layer (Node-F.Or (map node_of hs)) tt (operands_keep N F IsTask true (map meant (map node_of hs)) (parts hs))
    step (Node-F.Cond a b c) = at_layer (Node-F.Cond a.0 b.0 c.0) tt (choice_keeps N F IsTask (meant a.0) (meant b.0) (meant c.0) a.1 b.1 c.1)
    step (Node-F.List hs) = at_layer (Node-F.List (map node_of hs)) tt (items_keep N F IsTask file (map meant (map node_of hs)) (parts hs))
    step (Node-F.Dict hs) = at_layer (Node-F.Dict (couples node_of hs)) tt (pairs_keep N F IsTask file (couples meant (couples node_of hs)) (pairs hs))
    step (Node-F.Comp a name b hs) =
        at_layer (Node-F.Comp a.0 name b.0 (map node_of hs)) tt (comprehended_keeps (meant a.0) name (map meant (map node_of hs)) a.1 (parts hs) (meant b.0) b.1)

    pub node_gives : (n : Node N) → NodeGives n
    node_gives = ind-Node N NodeGives (λ x y is. subst (λ z. NodeGives (roll-Node N z)) is (step y))
