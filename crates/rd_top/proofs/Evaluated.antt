-- What an evaluator that counts returns, combinator by combinator.
use Rattle.std.proofs.Common.{◌≡◌, ℕ, suc, ◌+◌, ◌-◌, ◌<◌, ◌≤◌, ◌^◌, inl, inr, List, [], ◌∷◌, ◌++◌, map, Option, None, Some, Result, Ok, Err, refl, sym, ap, ◌∙◌, subst, arith}
use Rattle.std.specs.Prelude.{length, min, if◌then◌else◌, MatchOption}
use Rattle.std.specs.Arc.{arc_value}
use Rattle.std.specs.declared.sync.Arc.{Arc}
use Rattle.std.proofs.lemmas.List.{length-map}
use denote.Bor.{Bor}
use Rattle.rd_value.specs.declared.value.ErrorValue.{ErrorValue}
use Rattle.rd_value.specs.declared.value.FileValue.{FileValue}
use Rattle.rd_value.specs.declared.value.Datum.{Datum}
use Rattle.rd_value.specs.declared.value.Datum.TheVariants as value
use Rattle.rd_value.specs.declared.expr.OpKind.{OpKind}
use Rattle.rd_value.specs.declared.expr.Lazy.{Lazy, out-Lazy, roll-out-Lazy}
use Rattle.rd_value.specs.declared.expr.Lazy.TheViews as made
use Rattle.rd_value.specs.declared.expr.Lazy.TheVariants as lazy
use Rattle.rd_value.specs.declared.expr.Lazy.TheOpen.{Lazy-F}
use Rattle.rd_value.specs.declared.failure.Failure.{Failure}
use Rattle.rd_value.specs.declared.failure.Outcome.{Outcome}
use Rattle.rd_value.specs.declared.failure.Outcome.TheVariants as outcome
use Rattle.rd_value.specs.declared.class.Class.{Class}
use Rattle.rd_value.specs.declared.class.Class.TheVariants.{NameError}
use Rattle.rd_value.specs.Bind.{parameters_of, bind}
use Rattle.rd_value.specs.Expand.{expand_map, expand_catch}
use Rattle.rd_value.specs.Operators.{applied, kept}
use Rattle.rd_value.specs.Raise.{raised}
use Rattle.rd_value.specs.Truth.{truth}
use Rattle.rd_meaning.specs.declared.step.StepError.{StepError}
use Rattle.rd_meaning.specs.declared.step.StepError.TheVariants as step_error
use Rattle.rd_meaning.specs.Step.{error_of, failure_in, step_in, ComesTo}
use Rattle.rd_tree.specs.declared.tree.Function.{Function}
use Rattle.rd_tree.specs.declared.tree.Module.{Module}
use Rattle.rd_names.specs.Options.{first_space}
use Rattle.rd_code.specs.declared.code.TaskCode.{TaskCode}
use Rattle.rd_body.specs.declared.job.Reduction.{Reduction}
use Rattle.rd_body.specs.declared.job.Reduction.TheVariants as made_
use Rattle.rd_body.specs.Code.{meaning}
use Rattle.rd_body.specs.Jobs.{reduction, outcome as comes_to}
use Rattle.rd_top.specs.declared.evaluate.Gathered.{Gathered}
use Rattle.rd_top.specs.declared.evaluate.Gathered.TheVariants as gathered
use Rattle.rd_top.specs.declared.evaluate.Stop.{Stop}
use Rattle.rd_top.specs.declared.evaluate.Stop.TheVariants.{TooLarge, OutOfMemory}
use Rattle.rd_top.specs.Running.{own}
use Rattle.rd_registry.specs.Bodies.{find_task, signature_of, body}
use Rattle.rd_registry.specs.Codes.{parameter_of}
use Rattle.rd_registry.specs.Registry.{IsCodeOf}
use Rattle.rd_registry.specs.Fresh as fresh
use Rattle.rd_registry.specs.Fresh.{Visit, Event, Bound, Unbound, Met, Answer, Gives, Failed, Deep, Out, Arguments, plain, failing, before, join, both, on_answer, then_, inside, under, event, on_body, visit, entered, call, calling, step, at_zero, run}
use Rattle.rd_registry.specs.Fits.{most_met, lazies, met_in, count_met}
use Rattle.rd_top.specs.Evaluating.{answer_of, answers_of, IsPast, Evaluates, after, at_depth, step_out, arguments_out, parts_out, seconds_out, values_out, body_out, met_out, otherwise, branch_out, mapped_out, recovered_out}
use Rattle.rd_names.proofs.Walking.{map_both}
use Rattle.rd_top.proofs.Bound.{bound_length, found_named, some_same}

pub count-append : {F : Type 0} (es fs : List (Event F)) → count_met (es ++ fs) ≡ count_met es + count_met fs
unfolding count_met
count-append [] fs = omega arith
count-append (e ∷ es) fs = omega (arith, count-append es fs)

pub count_under : {F : Type 0} (c : Visit F) (es : List (Event F)) → count_met (map (under c) es) ≡ count_met es
unfolding count_met
count_under c [] = refl
count_under c (e ∷ es) = ap (λ n. met_in e.what + n) (count_under c es)

module _ {A X : Type 0} (view : X → Answer A) where
  -- an evaluation behind some events
  pub evaluates_before : (es : List (Event FileValue)) (o : Out FileValue A) (a b c : ℕ) (r : Result X Stop) → b ≡ a + count_met es → Evaluates view o b c r → Evaluates view (before es o) a c r
  unfolding Evaluates IsPast
  evaluates_before es o a b c (Ok x) e h =
      record { gives = h.gives; counted = omega (arith, h.counted, count-append es o.events); fits = h.fits }
  evaluates_before es o a b c (Err TooLarge) e (inl d) = inl d
  evaluates_before es o a b c (Err TooLarge) e (inr l) = inr (omega (arith, count-append es o.events))
  evaluates_before es o a b c (Err OutOfMemory) e h = tt

  pub evaluates_inside : (v : Visit FileValue) (o : Out FileValue A) (a c : ℕ) (r : Result X Stop) → Evaluates view o a c r → Evaluates view (inside v o) a c r
  unfolding Evaluates IsPast
  evaluates_inside v o a c (Ok x) h = record { gives = h.gives; counted = omega (arith, h.counted, count_under v o.events); fits = h.fits }
  evaluates_inside v o a c (Err TooLarge) (inl d) = inl d
  evaluates_inside v o a c (Err TooLarge) (inr l) = inr (omega (arith, count_under v o.events))
  evaluates_inside v o a c (Err OutOfMemory) h = tt

  -- nothing happens
  pub silent_ok : (o : Out FileValue A) (a : ℕ) (x : X) → a ≤ most_met → o.events ≡ [] → o.answer ≡ view x → Evaluates view o a a (Ok x)
  unfolding Evaluates count_met
  silent_ok o a x l none e = record { gives = e; counted = omega (arith, ap count_met none); fits = l }

  pub plain_ok : (y : Answer A) (a : ℕ) (x : X) → a ≤ most_met → y ≡ view x → Evaluates view (plain y) a a (Ok x)
  plain_ok y a x l e = silent_ok (plain y) a x l refl e

  pub no_memory : (o : Out FileValue A) (a b : ℕ) → Evaluates view o a b (Err OutOfMemory)
  unfolding Evaluates
  no_memory o a b = tt

  pub deep_past : (o : Out FileValue A) (a b : ℕ) → o.answer ≡ Deep → Evaluates view o a b (Err TooLarge)
  unfolding Evaluates IsPast
  deep_past o a b e = inl e

-- both of two evaluations, one after the other
module _ {A B C X Y Z : Type 0} (f : A → B → C) (view : X → Answer A) (view' : Y → Answer B) (view'' : Z → Answer C) (o : Out FileValue A) (p : Out FileValue B) where
  pub evaluates_both : (a b c : ℕ) (x : X) (y : Y) (z : Z) → Evaluates view o a b (Ok x) → Evaluates view' p b c (Ok y) → view'' z ≡ join f (view x) (view' y) → Evaluates view'' (both f o p) a c (Ok z)
  unfolding Evaluates
  evaluates_both a b c x y z h g e =
      record {
        gives = ap (λ q. join f q p.answer) h.gives ∙ ap (join f (view x)) g.gives ∙ sym e;
        counted = omega (arith, h.counted, g.counted, count-append o.events p.events);
        fits = g.fits;
      }

  deep_left : (q : Answer B) → join f Deep q ≡ Deep
  deep_left q = refl

  deep_right : (q : Answer A) → join f q Deep ≡ Deep
  deep_right (Gives a) = refl
  deep_right (Failed e) = refl
  deep_right Deep = refl

  pub left_err : (a b c : ℕ) (s : Stop) → Evaluates view o a b (Err s) → Evaluates view'' (both f o p) a c (Err s)
  unfolding Evaluates IsPast
  left_err a b c TooLarge (inl d) = inl (ap (λ q. join f q p.answer) d)
  left_err a b c TooLarge (inr l) = inr (omega (arith, count-append o.events p.events))
  left_err a b c OutOfMemory h = tt

  pub right_err : (a b c : ℕ) (x : X) (s : Stop) → Evaluates view o a b (Ok x) → Evaluates view' p b c (Err s) → Evaluates view'' (both f o p) a c (Err s)
  unfolding Evaluates IsPast
  right_err a b c x TooLarge h (inl d) = inl (ap (join f o.answer) d ∙ deep_right o.answer)
  right_err a b c x TooLarge h (inr l) = inr (omega (arith, h.counted, count-append o.events p.events))
  right_err a b c x OutOfMemory h g = tt

-- ---- one expression

abbrev pub NoVal : Lazy FileValue → Type 0
NoVal e = (v : Datum FileValue) → e ≡ lazy.Val v → ⊥

lazy_layer : (x : Lazy-F FileValue (Lazy FileValue)) → NoVal (made.roll-Lazy FileValue x) → (at_zero x).answer ≡ Deep
unfolding made.roll-Lazy denote.Hole.Carrier.roll
lazy_layer (Lazy-F.Val v) nv = absurd (nv v refl)
lazy_layer x nv = refl

module _ (m : Module) (e : Lazy FileValue) where
  pub zero_val : (a : ℕ) (v : Datum FileValue) → a ≤ most_met → e ≡ lazy.Val v → Evaluates answer_of (at_depth m 0 e) a a (Ok (outcome.Value v))
  unfolding at_depth run
  zero_val a v l is =
      subst (λ o. Evaluates answer_of o a a (Ok (outcome.Value v))) (sym (ap (λ x. at_zero (out-Lazy FileValue x)) is ∙ ap at_zero (lazy.outs-Val v))) (plain_ok answer_of (Gives v) a (outcome.Value v) l refl)

  pub zero_other : (a b : ℕ) → NoVal e → Evaluates answer_of (at_depth m 0 e) a b (Err TooLarge)
  unfolding at_depth run
  zero_other a b nv = deep_past answer_of (at_zero (out-Lazy FileValue e)) a b (lazy_layer (out-Lazy FileValue e) (subst NoVal (sym (roll-out-Lazy FileValue e)) nv))

  module _ (n : ℕ) where
    pub expression_zero : (a : ℕ) (r : Result Outcome Stop) → n ≡ 0 → Evaluates answer_of (at_depth m 0 e) a a r → Evaluates answer_of (at_depth m n e) a a r
    expression_zero a r none h = subst (λ k. Evaluates answer_of (at_depth m k e) a a r) (sym none) h

    pub expression_step : (a b : ℕ) (r : Result Outcome Stop) → 0 < n → Evaluates answer_of (step_out m (n - 1) e) a b r → Evaluates answer_of (at_depth m n e) a b r
    unfolding at_depth step_out run
    expression_step a b r some h =
        let deep : suc (n - 1) ≡ n = omega arith in
        subst (λ k. Evaluates answer_of (run own m k e) a b r) deep h

    abbrev calls : List ℕ → Arguments FileValue → Out FileValue (Datum FileValue)
    calls = calling own m (at_depth m n)

    -- the step at the layer that is there
    at_layer : (a b : ℕ) (r : Result Outcome Stop) (x : Lazy-F FileValue (Lazy FileValue)) → out-Lazy FileValue e ≡ x → Evaluates answer_of (step own calls (at_depth m n) x) a b r → Evaluates answer_of (step_out m n e) a b r
    unfolding step_out
    at_layer a b r x is h = subst (λ y. Evaluates answer_of (step own calls (at_depth m n) y) a b r) (sym is) h

    pub step_val : (a : ℕ) (v : Datum FileValue) → a ≤ most_met → e ≡ lazy.Val v → Evaluates answer_of (step_out m n e) a a (Ok (outcome.Value v))
    step_val a v l is = at_layer a a (Ok (outcome.Value v)) (Lazy-F.Val v) (ap (out-Lazy FileValue) is ∙ lazy.outs-Val v) (plain_ok answer_of (Gives v) a (outcome.Value v) l refl)

    pub step_call : (a b : ℕ) (t : List ℕ) (es : List (Lazy FileValue)) (ks : List (List ℕ × Lazy FileValue)) (r : Result Outcome Stop) → e ≡ lazy.Call t es ks
        → Evaluates answer_of (after (arguments_out m n es ks) (values_out m n t)) a b r → Evaluates answer_of (step_out m n e) a b r
    unfolding after arguments_out values_out
    step_call a b t es ks r is h = at_layer a b r (Lazy-F.Call t es ks) (ap (out-Lazy FileValue) is ∙ lazy.outs-Call t es ks) h

    pub step_list : (a b : ℕ) (es : List (Lazy FileValue)) (r : Result Outcome Stop) → e ≡ lazy.ListOf es → Evaluates answer_of (after (parts_out m n es) (fresh.listed own)) a b r → Evaluates answer_of (step_out m n e) a b r
    unfolding after parts_out
    step_list a b es r is h = at_layer a b r (Lazy-F.ListOf es) (ap (out-Lazy FileValue) is ∙ lazy.outs-ListOf es) h

    pub step_dict : (a b : ℕ) (ps : List (Datum FileValue × Lazy FileValue)) (r : Result Outcome Stop) → e ≡ lazy.DictOf ps → Evaluates answer_of (after (seconds_out m n ps) (fresh.keyed own)) a b r → Evaluates answer_of (step_out m n e) a b r
    unfolding after seconds_out
    step_dict a b ps r is h = at_layer a b r (Lazy-F.DictOf ps) (ap (out-Lazy FileValue) is ∙ lazy.outs-DictOf ps) h

    pub step_op : (a b : ℕ) (kind : OpKind) (es : List (Lazy FileValue)) (r : Result Outcome Stop) → e ≡ lazy.Op kind es → Evaluates answer_of (after (parts_out m n es) (fresh.operated own kind)) a b r → Evaluates answer_of (step_out m n e) a b r
    unfolding after parts_out
    step_op a b kind es r is h = at_layer a b r (Lazy-F.Op kind es) (ap (out-Lazy FileValue) is ∙ lazy.outs-Op kind es) h

    pub step_cond : (a b : ℕ) (t x y : Lazy FileValue) (r : Result Outcome Stop) → e ≡ lazy.Cond t x y → Evaluates answer_of (after (at_depth m n t) (branch_out m n x y)) a b r → Evaluates answer_of (step_out m n e) a b r
    unfolding after branch_out
    step_cond a b t x y r is h = at_layer a b r (Lazy-F.Cond t x y) (ap (out-Lazy FileValue) is ∙ lazy.outs-Cond t x y) h

    pub step_map : (a b : ℕ) (t : List ℕ) (l : Lazy FileValue) (r : Result Outcome Stop) → e ≡ lazy.Map t l → Evaluates answer_of (after (at_depth m n l) (mapped_out m n t)) a b r → Evaluates answer_of (step_out m n e) a b r
    unfolding after mapped_out
    step_map a b t l r is h = at_layer a b r (Lazy-F.Map t l) (ap (out-Lazy FileValue) is ∙ lazy.outs-Map t l) h

    pub step_catch : (a b : ℕ) (t : Lazy FileValue) (class : Class) (recover : List ℕ) (r : Result Outcome Stop) → e ≡ lazy.Catch t class recover → Evaluates answer_of (otherwise (at_depth m n t) (recovered_out m n class recover)) a b r → Evaluates answer_of (step_out m n e) a b r
    unfolding otherwise recovered_out
    step_catch a b t class recover r is h = at_layer a b r (Lazy-F.Catch t class recover) (ap (out-Lazy FileValue) is ∙ lazy.outs-Catch t class recover) h

    pub step_input : (a b : ℕ) (path : List ℕ) → e ≡ lazy.Input path → Evaluates answer_of (step_out m n e) a b (Err TooLarge)
    step_input a b path is = at_layer a b (Err TooLarge) (Lazy-F.Input path) (ap (out-Lazy FileValue) is ∙ lazy.outs-Input path) (deep_past answer_of (plain Deep) a b refl)

pub ruleset zero_rules = (zero_val, zero_other, no_memory)

pub ruleset expression_rules = (expression_zero, expression_step)

pub ruleset step_rules = (step_val, step_call, step_list, step_dict, step_op, step_cond, step_map, step_catch, step_input, no_memory)

-- ---- what comes of evaluated parts

module _ {A : Type 0} (o : Out FileValue A) (go : A → Out FileValue (Datum FileValue)) where
  pub after_all : (a b c : ℕ) (x : A) (r : Result Outcome Stop) → Evaluates answers_of o a b (Ok (gathered.All x)) → Evaluates answer_of (go x) b c r → Evaluates answer_of (after o go) a c r
  unfolding Evaluates after
  after_all a b c x r h g =
      subst (λ q. Evaluates answer_of (before o.events (on_answer q go failing)) a c r) (sym h.gives) (evaluates_before answer_of o.events (go x) a b c r h.counted g)

  pub after_failed : (a b : ℕ) (f : Failure) → Evaluates answers_of o a b (Ok (gathered.Failed f)) → Evaluates answer_of (after o go) a b (Ok (outcome.Failed f))
  unfolding Evaluates after
  after_failed a b f h =
      subst (λ q. Evaluates answer_of (before o.events (on_answer q go failing)) a b (Ok (outcome.Failed f))) (sym h.gives)
      (evaluates_before answer_of o.events (failing f) a b b (Ok (outcome.Failed f)) h.counted (plain_ok answer_of (Failed f) b (outcome.Failed f) h.fits refl))

  pub after_err : (a b : ℕ) (s : Stop) → Evaluates answers_of o a b (Err s) → Evaluates answer_of (after o go) a b (Err s)
  unfolding Evaluates IsPast after
  after_err a b TooLarge (inl d) = inl (ap (λ q. (on_answer q go failing).answer) d)
  after_err a b TooLarge (inr l) = inr (omega (arith, count-append o.events (on_answer o.answer go failing).events))
  after_err a b OutOfMemory h = tt

-- what is made of values tells of nothing
made_silent : (q : Result (Datum FileValue) ErrorValue) → (fresh.made q).events ≡ []
made_silent (Ok v) = refl
made_silent (Err e) = refl

pub after_list : (o : Out FileValue (List (Datum FileValue))) (a b : ℕ) (vs : List (Datum FileValue)) (x : Outcome) → b ≤ most_met → Evaluates answers_of o a b (Ok (gathered.All vs)) → answer_of x ≡ (fresh.made (kept own (value.List vs))).answer
    → Evaluates answer_of (after o (fresh.listed own)) a b (Ok x)
after_list o a b vs x l h e =
    after_all o (fresh.listed own) a b b vs (Ok x) h (silent_ok answer_of (fresh.listed own vs) b x l (made_silent (kept own (value.List vs))) (sym e))

pub after_dict : (o : Out FileValue (List (Datum FileValue × Datum FileValue))) (a b : ℕ) (vs : List (Datum FileValue × Datum FileValue)) (x : Outcome) → b ≤ most_met → Evaluates answers_of o a b (Ok (gathered.All vs)) → answer_of x ≡ (fresh.made (kept own (value.Dict vs))).answer
    → Evaluates answer_of (after o (fresh.keyed own)) a b (Ok x)
after_dict o a b vs x l h e =
    after_all o (fresh.keyed own) a b b vs (Ok x) h (silent_ok answer_of (fresh.keyed own vs) b x l (made_silent (kept own (value.Dict vs))) (sym e))

pub after_op : (o : Out FileValue (List (Datum FileValue))) (kind : OpKind) (a b : ℕ) (vs : List (Datum FileValue)) (x : Outcome) → b ≤ most_met → Evaluates answers_of o a b (Ok (gathered.All vs)) → answer_of x ≡ (fresh.operated own kind vs).answer
    → Evaluates answer_of (after o (fresh.operated own kind)) a b (Ok x)
after_op o kind a b vs x l h e =
    after_all o (fresh.operated own kind) a b b vs (Ok x) h (silent_ok answer_of (fresh.operated own kind vs) b x l (made_silent (applied own kind vs)) (sym e))

pub ruleset after_rules = (after_all, after_failed, after_err, after_list, after_dict, after_op, no_memory)

-- ---- what comes of one evaluated part

module _ (o : Out FileValue (Datum FileValue)) (go : Datum FileValue → Out FileValue (Datum FileValue)) where
  pub value_gives : (a b c : ℕ) (v : Datum FileValue) (r : Result Outcome Stop) → Evaluates answer_of o a b (Ok (outcome.Value v)) → Evaluates answer_of (go v) b c r → Evaluates answer_of (after o go) a c r
  unfolding Evaluates after
  value_gives a b c v r h g =
      subst (λ q. Evaluates answer_of (before o.events (on_answer q go failing)) a c r) (sym h.gives) (evaluates_before answer_of o.events (go v) a b c r h.counted g)

  pub value_fails : (a b : ℕ) (f : Failure) → Evaluates answer_of o a b (Ok (outcome.Failed f)) → Evaluates answer_of (after o go) a b (Ok (outcome.Failed f))
  unfolding Evaluates after
  value_fails a b f h =
      subst (λ q. Evaluates answer_of (before o.events (on_answer q go failing)) a b (Ok (outcome.Failed f))) (sym h.gives)
      (evaluates_before answer_of o.events (failing f) a b b (Ok (outcome.Failed f)) h.counted (plain_ok answer_of (Failed f) b (outcome.Failed f) h.fits refl))

  pub value_stops : (a b : ℕ) (s : Stop) → Evaluates answer_of o a b (Err s) → Evaluates answer_of (after o go) a b (Err s)
  unfolding Evaluates IsPast after
  value_stops a b TooLarge (inl d) = inl (ap (λ q. (on_answer q go failing).answer) d)
  value_stops a b TooLarge (inr l) = inr (omega (arith, count-append o.events (on_answer o.answer go failing).events))
  value_stops a b OutOfMemory h = tt

pub branch_taken : (m : Module) (n : ℕ) (x y t : Lazy FileValue) (v : Datum FileValue) (a b : ℕ) (r : Result Outcome Stop) → t ≡ (if truth v then x else y) → Evaluates answer_of (at_depth m n t) a b r → Evaluates answer_of (branch_out m n x y v) a b r
unfolding branch_out
branch_taken m n x y t v a b r is h = subst (λ e. Evaluates answer_of (at_depth m n e) a b r) is h

pub ruleset value_rules = (value_gives, value_fails, value_stops, branch_taken, no_memory)

module _ (o : Out FileValue (Datum FileValue)) (fail : Failure → Out FileValue (Datum FileValue)) where
  pub caught_value : (a b : ℕ) (v : Datum FileValue) → Evaluates answer_of o a b (Ok (outcome.Value v)) → Evaluates answer_of (otherwise o fail) a b (Ok (outcome.Value v))
  unfolding Evaluates otherwise
  caught_value a b v h =
      subst (λ q. Evaluates answer_of (before o.events (on_answer q fresh.given fail)) a b (Ok (outcome.Value v))) (sym h.gives)
      (evaluates_before answer_of o.events (fresh.given v) a b b (Ok (outcome.Value v)) h.counted (plain_ok answer_of (Gives v) b (outcome.Value v) h.fits refl))

  pub caught_failure : (a b c : ℕ) (f : Failure) (r : Result Outcome Stop) → Evaluates answer_of o a b (Ok (outcome.Failed f)) → Evaluates answer_of (fail f) b c r → Evaluates answer_of (otherwise o fail) a c r
  unfolding Evaluates otherwise
  caught_failure a b c f r h g =
      subst (λ q. Evaluates answer_of (before o.events (on_answer q fresh.given fail)) a c r) (sym h.gives) (evaluates_before answer_of o.events (fail f) a b c r h.counted g)

  pub caught_stop : (a b : ℕ) (s : Stop) → Evaluates answer_of o a b (Err s) → Evaluates answer_of (otherwise o fail) a b (Err s)
  unfolding Evaluates IsPast otherwise
  caught_stop a b TooLarge (inl d) = inl (ap (λ q. (on_answer q fresh.given fail).answer) d)
  caught_stop a b TooLarge (inr l) = inr (omega (arith, count-append o.events (on_answer o.answer fresh.given fail).events))
  caught_stop a b OutOfMemory h = tt

pub ruleset catch_rules = (caught_value, caught_failure, caught_stop, no_memory)

-- ---- arguments

module _ (m : Module) (k : ℕ) (es : List (Lazy FileValue)) (ks : List (List ℕ × Lazy FileValue)) where
  pub arguments_both : (a b c : ℕ) (x : Gathered (List (Datum FileValue))) (y : Gathered (List (List ℕ × Datum FileValue))) (z : Gathered (Arguments FileValue))
      → Evaluates answers_of (parts_out m k es) a b (Ok x) → Evaluates answers_of (seconds_out m k ks) b c (Ok y) → answers_of z ≡ join fresh.paired (answers_of x) (answers_of y) → Evaluates answers_of (arguments_out m k es ks) a c (Ok z)
  unfolding arguments_out parts_out seconds_out
  arguments_both a b c x y z h g e = evaluates_both fresh.paired answers_of answers_of answers_of (fresh.parts (at_depth m k) es) (fresh.seconds (at_depth m k) ks) a b c x y z h g e

  pub arguments_left : (a b c : ℕ) (s : Stop) → Evaluates answers_of (parts_out m k es) a b (Err s) → Evaluates answers_of (arguments_out m k es ks) a c (Err s)
  unfolding arguments_out parts_out
  arguments_left a b c s h = left_err fresh.paired answers_of (answers_of {A = List (List ℕ × Datum FileValue)}) answers_of (fresh.parts (at_depth m k) es) (fresh.seconds (at_depth m k) ks) a b c s h

  pub arguments_right : (a b c : ℕ) (x : Gathered (List (Datum FileValue))) (s : Stop) → Evaluates answers_of (parts_out m k es) a b (Ok x) → Evaluates answers_of (seconds_out m k ks) b c (Err s) → Evaluates answers_of (arguments_out m k es ks) a c (Err s)
  unfolding arguments_out parts_out seconds_out
  arguments_right a b c x s h g = right_err fresh.paired answers_of answers_of answers_of (fresh.parts (at_depth m k) es) (fresh.seconds (at_depth m k) ks) a b c x s h g

pub ruleset both_rules = (arguments_both, arguments_left, arguments_right)

-- ---- a call of values, from the task that is found and the binding

bound_ok : {A : Type 0} (t : List ℕ) (q : Result A ErrorValue) (r : Result A StepError) (x : A) → ComesTo r (step_in t q) → r ≡ Ok x → q ≡ Ok x
bound_ok t (Ok y) r x (inl i) e = cc
bound_ok t (Ok y) r x (inr j) e = absurd cc
bound_ok t (Err y) r x (inl i) e = absurd cc
bound_ok t (Err y) r x (inr j) e = absurd cc

bound_err : {A : Type 0} (t : List ℕ) (q : Result A ErrorValue) (r : Result A StepError) (g : Failure) → ComesTo r (step_in t q) → r ≡ Err (step_error.Failed g) → (e : ErrorValue) × (q ≡ Err e) × (g ≡ failure_in t e)
bound_err t (Ok y) r g (inl i) e = absurd cc
bound_err t (Ok y) r g (inr j) e = absurd cc
bound_err t (Err y) r g (inl i) e = (y, refl, cc)
bound_err t (Err y) r g (inr j) e = absurd cc

-- ---- what an expansion comes to

module _ (m : Module) (n : ℕ) where
  pub map_calls : (a b : ℕ) (t s : List ℕ) (v : Datum FileValue) (q : Result (Lazy FileValue) StepError) (e : Lazy FileValue) (r : Result Outcome Stop) → s ≡ t → ComesTo q (step_in [] (expand_map own s v)) → q ≡ Ok e
      → Evaluates answer_of (met_out m n e) a b r → Evaluates answer_of (mapped_out m n t v) a b r
  unfolding mapped_out met_out
  map_calls a b t s v q e r same comes is h =
      subst (λ x. Evaluates answer_of (on_body (at_depth m n) [] x) a b r) (sym (ap (λ u. expand_map own u v) (sym same) ∙ bound_ok [] (expand_map own s v) q e comes is)) h

  pub map_fails : (a : ℕ) (t s : List ℕ) (v : Datum FileValue) (q : Result (Lazy FileValue) StepError) (g : Failure) → a ≤ most_met → s ≡ t → ComesTo q (step_in [] (expand_map own s v)) → q ≡ Err (step_error.Failed g)
      → Evaluates answer_of (mapped_out m n t v) a a (Ok (outcome.Failed g))
  unfolding mapped_out
  map_fails a t s v q g l same comes is =
      let e = bound_err [] (expand_map own s v) q g comes is in
      subst (λ x. Evaluates answer_of (on_body (at_depth m n) [] x) a a (Ok (outcome.Failed g))) (sym (ap (λ u. expand_map own u v) (sym same) ∙ e.1))
      (plain_ok answer_of (Failed (failure_in [] e.0)) a (outcome.Failed g) l (ap Failed (sym e.2)))

  pub catch_calls : (a b : ℕ) (class : Class) (t s : List ℕ) (f : Failure) (o : Option (Lazy FileValue)) (e : Lazy FileValue) (r : Result Outcome Stop) → s ≡ t → o ≡ expand_catch class s (error_of f) → o ≡ Some e
      → Evaluates answer_of (met_out m n e) a b r → Evaluates answer_of (recovered_out m n class t f) a b r
  unfolding recovered_out met_out
  catch_calls a b class t s f o e r same comes is h =
      subst (λ x. Evaluates answer_of (fresh.recovering (at_depth m n) f x) a b r) (sym (ap (λ u. expand_catch class u (error_of f)) (sym same) ∙ sym comes ∙ is)) h

  pub catch_none : (a : ℕ) (class : Class) (t s : List ℕ) (f : Failure) (o : Option (Lazy FileValue)) → a ≤ most_met → s ≡ t → o ≡ expand_catch class s (error_of f) → o ≡ None → Evaluates answer_of (recovered_out m n class t f) a a (Ok (outcome.Failed f))
  unfolding recovered_out
  catch_none a class t s f o l same comes is =
      subst (λ x. Evaluates answer_of (fresh.recovering (at_depth m n) f x) a a (Ok (outcome.Failed f))) (sym (ap (λ u. expand_catch class u (error_of f)) (sym same) ∙ sym comes ∙ is))
      (plain_ok answer_of (Failed f) a (outcome.Failed f) l refl)

pub ruleset expansion_rules = (map_calls, map_fails, catch_calls, catch_none, no_memory)

-- the parameters of a task's code
code_parameters : (m : Module) (f : Function) (code : TaskCode) → IsCodeOf m f code → parameters_of code.signature ≡ signature_of f
code_parameters m f code u = ap (map (λ p. (p.name, p.default))) u.parameters ∙ map_both (λ p. (p.name, p.default)) parameter_of f.parameters

module _ (m : Module) (k : ℕ) (t : List ℕ) (args : Arguments FileValue) where
  -- what was found of the task
  abbrev pub IsFound : {A : Type 0} → Option (Bor (Arc TaskCode A)) → Type 0
  IsFound found = MatchOption found (find_task m t ≡ None) (λ b. (f : Function) × (find_task m t ≡ Some f) × IsCodeOf m f (arc_value b.now))

  called : (a c : ℕ) (o : Option Function) (r : Result Outcome Stop) → find_task m t ≡ o → Evaluates answer_of (call own m (at_depth m k) t o args) a c r → Evaluates answer_of (values_out m k t args) a c r
  unfolding values_out
  called a c o r is h = subst (λ q. Evaluates answer_of (call own m (at_depth m k) t q args) a c r) (sym is) h

  unbound : (a : ℕ) (g h : Failure) → a ≤ most_met → g ≡ h → Evaluates answer_of (before (event (Unbound t) ∷ []) (failing h)) a a (Ok (outcome.Failed g))
  unfolding count_met
  unbound a g h l same = evaluates_before answer_of (event (Unbound t) ∷ []) (failing h) a a a (Ok (outcome.Failed g)) (omega arith) (plain_ok answer_of (Failed h) a (outcome.Failed g) l (ap Failed (sym same)))

  pub enter_none : {A : Type 0} (a : ℕ) (found : Option (Bor (Arc TaskCode A))) (g : Failure) → a ≤ most_met → IsFound found → found ≡ None → g ≡ failure_in [] (raised NameError t) → Evaluates answer_of (values_out m k t args) a a (Ok (outcome.Failed g))
  enter_none {A} a found g l is none same = called a a None (Ok (outcome.Failed g)) (subst (IsFound {A = A}) none is) (unbound a g (failure_in [] (raised NameError t)) l same)

  module _ {A : Type 0} (found : Option (Bor (Arc TaskCode A))) (b : Bor (Arc TaskCode A)) (is : IsFound found) (some : found ≡ Some b) (d : TaskCode) (d_is : d ≡ arc_value b.now) (s : List ℕ) (s_is : s ≡ t) (q : Result (List (Datum FileValue)) StepError)
      (comes : ComesTo q (step_in s (bind own (parameters_of d.signature) args.0 args.1))) where
    there : (f : Function) × (find_task m t ≡ Some f) × IsCodeOf m f (arc_value b.now)
    there = subst (IsFound {A = A}) some is

    -- the code has the full name that was asked for
    its_name : (arc_value b.now).full_name ≡ t
    its_name = some_same _ _ (sym there.2.full_name ∙ found_named (first_space m.namespaces) m.functions t there.0 there.1)

    bound : Result (List (Datum FileValue)) ErrorValue
    bound = bind own (signature_of there.0) args.0 args.1

    same_bound : bind own (parameters_of d.signature) args.0 args.1 ≡ bound
    unfolding bound
    same_bound = ap (λ ps. bind own ps args.0 args.1) (ap (λ (c : TaskCode). parameters_of c.signature) d_is ∙ code_parameters m there.0 (arc_value b.now) there.2)

    entered_by : (a c : ℕ) (x : Result (List (Datum FileValue)) ErrorValue) (r : Result Outcome Stop) → bound ≡ x → Evaluates answer_of (entered own m (at_depth m k) t there.0 x) a c r → Evaluates answer_of (values_out m k t args) a c r
    unfolding bound
    entered_by a c x r same h = called a c (Some there.0) r there.1 (subst (λ y. Evaluates answer_of (entered own m (at_depth m k) t there.0 y) a c r) (sym same) h)

    pub enter_bound : (a c : ℕ) (vs : List (Datum FileValue)) (r : Result Outcome Stop) → q ≡ Ok vs → ((f : Function) → IsCodeOf m f (arc_value b.now) → Evaluates answer_of (body_out m k (arc_value b.now).full_name f vs) a c r) → Evaluates answer_of (values_out m k t args) a c r
    unfolding body_out
    enter_bound a c vs r ok h = entered_by a c (Ok vs) r (sym same_bound ∙ bound_ok s _ q vs comes ok) (subst (λ (name : List ℕ). Evaluates answer_of (entered own m (at_depth m k) name there.0 (Ok vs)) a c r) its_name (h there.0 there.2))

    pub one_each : (vs : List (Datum FileValue)) → q ≡ Ok vs → length vs ≡ length (arc_value b.now).signature.parameters
    one_each vs ok =
        bound_length own (parameters_of d.signature) args.0 args.1 vs (bound_ok s _ q vs comes ok)
        ∙ length-map d.signature.parameters (λ p. (p.name, p.default)) ∙ ap (λ (c : TaskCode). length c.signature.parameters) d_is

    pub enter_unbound : (a : ℕ) (g : Failure) → a ≤ most_met → q ≡ Err (step_error.Failed g) → Evaluates answer_of (values_out m k t args) a a (Ok (outcome.Failed g))
    enter_unbound a g l err =
        let e = bound_err s (bind own (parameters_of d.signature) args.0 args.1) q g comes err in
        entered_by a a (Err e.0) (Ok (outcome.Failed g)) (sym same_bound ∙ e.1) (unbound a g (failure_in t e.0) l (e.2 ∙ ap (λ origin. failure_in origin e.0) s_is))

pub ruleset enter_rules = (enter_none, enter_bound, enter_unbound, one_each, no_memory)

-- ---- a bound call, from what its code comes to

-- of what a reduction was made
is_expr : (origin : List ℕ) (q : Result (Lazy FileValue) ErrorValue) (e : Lazy FileValue) → made_.Expr e ≡ reduction origin q → q ≡ Ok e
is_expr origin (Ok y) e is = cc
is_expr origin (Err y) e is = absurd cc

is_failed : (origin : List ℕ) (q : Result (Lazy FileValue) ErrorValue) (g : Failure) → made_.Failed g ≡ reduction origin q → (e : ErrorValue) × (q ≡ Err e) × (g ≡ failure_in origin e)
is_failed origin (Ok y) g is = absurd cc
is_failed origin (Err y) g is = (y, refl, cc)

module _ (m : Module) (k : ℕ) (code d : TaskCode) (args given : List (Datum FileValue)) (x : Reduction) where
  -- the reduction is what this code comes to
  abbrev Reduces : Type 0
  Reduces = (d ≡ code) × (given ≡ args) × (x ≡ comes_to d given)

  of_code : Reduces → x ≡ comes_to code args
  of_code u = u.2 ∙ ap (λ c. comes_to c given) u.0 ∙ ap (comes_to code) u.1

  -- what the code comes to is what the body comes to
  from_code : (a c : ℕ) (q : Result (Lazy FileValue) ErrorValue) (r : Result Outcome Stop) → meaning own code args ≡ q → Evaluates answer_of (on_body (at_depth m k) code.full_name q) a c r
      → (f : Function) → IsCodeOf m f code → Evaluates answer_of (body_out m k code.full_name f args) a c r
  unfolding body_out count_met
  from_code a c q r is h f u =
      let v = visit code.full_name args in
      let o = on_body (at_depth m k) code.full_name (body own m f args) in
      evaluates_before answer_of (event (Bound v) ∷ []) (inside v o) a a c r (omega arith)
      (evaluates_inside answer_of v o a c r (subst (λ p. Evaluates answer_of (on_body (at_depth m k) code.full_name p) a c r) (sym is ∙ u.means args) h))

  pub body_gives : (a c : ℕ) (e : Lazy FileValue) (r : Result Outcome Stop) → Reduces → x ≡ made_.Expr e → Evaluates answer_of (met_out m k e) a c r → (f : Function) → IsCodeOf m f code → Evaluates answer_of (body_out m k code.full_name f args) a c r
  unfolding met_out
  body_gives a c e r u gives h = from_code a c (Ok e) r (is_expr code.full_name (meaning own code args) e (sym gives ∙ of_code u)) h

  pub body_fails : (a : ℕ) (h g : Failure) → a ≤ most_met → Reduces → x ≡ made_.Failed h → g ≡ h → (f : Function) → IsCodeOf m f code → Evaluates answer_of (body_out m k code.full_name f args) a a (Ok (outcome.Failed g))
  body_fails a h g l u fails same =
      let e = is_failed code.full_name (meaning own code args) h (sym fails ∙ of_code u) in
      from_code a a (Err e.0) (Ok (outcome.Failed g)) e.1 (plain_ok answer_of (Failed (failure_in code.full_name e.0)) a (outcome.Failed g) l (ap Failed (sym (same ∙ e.2))))

pub ruleset body_rules = (body_gives, body_fails, no_memory)

-- ---- an expression that is met

module _ (m : Module) (k : ℕ) (e : Lazy FileValue) where
  pub met_past : (a b n : ℕ) → n ≡ min (lazies e) (2 ^ 32 - 1) → most_met - a < n → a ≤ most_met → Evaluates answer_of (met_out m k e) a b (Err TooLarge)
  unfolding Evaluates IsPast met_out count_met
  met_past a b n is past l = inr (omega arith)

  pub met_on : (a b c n : ℕ) (r : Result Outcome Stop) → n ≡ min (lazies e) (2 ^ 32 - 1) → n ≤ most_met - a → b ≡ a + n → Evaluates answer_of (at_depth m k e) b c r → Evaluates answer_of (met_out m k e) a c r
  unfolding met_out count_met
  met_on a b c n r is room sum h = evaluates_before answer_of (event (Met e) ∷ []) (at_depth m k e) a b c r (omega arith) h

pub ruleset met_rules = (met_past, met_on)
