-- Evaluation depends on the tasks of its calls alone.
use Rattle.std.proofs.Common.{◌≡◌, ℕ, zero, suc, List, [], ◌∷◌, ◌++◌, map, Option, None, Some, Result, Ok, Err, refl, sym, ap, ◌∙◌}
use Rattle.rd_value.specs.declared.value.ErrorValue.{ErrorValue}
use Rattle.rd_value.specs.declared.value.FileValue.{FileValue}
use Rattle.rd_value.specs.declared.value.Datum.{Datum}
use Rattle.rd_value.specs.declared.expr.Lazy.{Lazy, out-Lazy}
use Rattle.rd_value.specs.declared.failure.Failure.{Failure}
use Rattle.rd_value.specs.Bind.{bind}
use Rattle.rd_tree.specs.declared.tree.Function.{Function}
use Rattle.rd_tree.specs.declared.tree.Module.{Module}
use Rattle.rd_registry.specs.Bodies.{body, find_task, signature_of}
use Rattle.rd_registry.specs.Footprint.{MeansTheSame, AreAlike, AgreeOn, AgreeOnWhat, Agree}
use Rattle.rd_registry.specs.Fresh.{Visit, Event, Bound, Met, event, Answer, Gives, Failed, Deep, Out, Arguments, before, both, on_answer, then_, under, inside, on_body, visit, entered, call, calling, run, fresh, trace}
use Rattle.rd_registry.proofs.Kept.{Relation, Keeps, step_kept, body_kept}

module _ {F : Type 0} (file : F → FileValue) (m n : Module) where
  abbrev AgreeAll : List (Event F) → Type 0
  AgreeAll = Agree file m n

  front : (es fs : List (Event F)) → AgreeAll (es ++ fs) → AgreeAll es
  unfolding Agree
  front [] fs h = tt
  front (e ∷ es) fs h = (h.0, front es fs h.1)

  back : (es fs : List (Event F)) → AgreeAll (es ++ fs) → AgreeAll fs
  unfolding Agree
  back [] fs h = h
  back (e ∷ es) fs h = back es fs h.1

  outside : (c : Visit F) (es : List (Event F)) → AgreeAll (map (under c) es) → AgreeAll es
  unfolding Agree
  outside c [] h = tt
  outside c (e ∷ es) h = (h.0, outside c es h.1)

  head : (e : Event F) (es : List (Event F)) → AgreeAll (e ∷ es) → AgreeOnWhat file m n e.what
  unfolding Agree
  head e es h = h.0

  -- the second is the first, where both modules agree on what happens in it
  abbrev SameIfAgreed : Relation F
  SameIfAgreed A o p = AgreeAll o.events → o ≡ p

  on_answer_same : (A B : Type 0) (a : Answer A) (go go' : A → Out F B) (fail fail' : Failure → Out F B) → ((a : A) → SameIfAgreed B (go a) (go' a)) → ((f : Failure) → SameIfAgreed B (fail f) (fail' f)) → SameIfAgreed B (on_answer a go fail) (on_answer a go' fail')
  on_answer_same A B (Gives a) go go' fail fail' u w = u a
  on_answer_same A B (Failed f) go go' fail fail' u w = w f
  on_answer_same A B Deep go go' fail fail' u w = λ h. refl

  same_keeps : Keeps F SameIfAgreed
  same_keeps = record {
    same = λ A o h. refl;
    after = λ A es o p u h. ap (before es) (u (back es o.events h));
    within = λ A c o p u h. ap (inside c) (u (outside c o.events h));
    pair = λ A B C f o o' p p' u w h. ap (λ x. both f x p) (u (front o.events p.events h)) ∙ ap (both f o') (w (back o.events p.events h));
    chain = λ A B o o' go go' fail fail' u w v h.
        ap (before o.events) (on_answer_same A B o.answer go go' fail fail' w v (back o.events (on_answer o.answer go fail).events h)) ∙ ap (λ x. then_ x go' fail') (u (front o.events (on_answer o.answer go fail).events h));
  }

  abbrev Related : Out F (Datum F) → Out F (Datum F) → Type 0
  Related = SameIfAgreed (Datum F)

  module _ (ev ev' : Lazy F → Out F (Datum F)) (u : (e : Lazy F) → Related (ev e) (ev' e)) (task : List ℕ) where
    entered_same : (f g : Function) → MeansTheSame file m n f g → (r : Result (List (Datum F)) ErrorValue) → Related (entered file m ev task f r) (entered file n ev' task g r)
    entered_same f g same (Ok args) =
        let v : Visit F = visit task args in
        λ h. ap (before (event (Bound v) ∷ [])) (ap (inside v) (ap (on_body ev task) (sym (same.bodies args)) ∙ body_kept SameIfAgreed same_keeps ev ev' u task (body file n g args) (rw (same.bodies args) (outside v (on_body ev task (body file m f args)).events (back (event (Bound v) ∷ []) _ h)))))
    entered_same f g same (Err e) = λ h. refl

    alike_same : (f g : Option Function) (args : Arguments F) → AreAlike file m n f g → Related (call file m ev task f args) (call file n ev' task g args)
    alike_same None None args same h = refl
    alike_same (Some f) (Some g) args same h =
        entered_same f g same (bind file (signature_of f) args.0 args.1) h ∙ ap (λ ps. entered file n ev' task g (bind file ps args.0 args.1)) (sym same.parameters)
    alike_same None (Some g) args same h = absurd same
    alike_same (Some f) None args same h = absurd same

    -- what happens first in a call tells of its task
    of_entered : (f : Function) (r : Result (List (Datum F)) ErrorValue) → AgreeAll (entered file m ev task f r).events → AgreeOn file m n task
    of_entered f (Ok args) h = head _ _ h
    of_entered f (Err e) h = head _ _ h

    of_call : (f : Option Function) (args : Arguments F) → AgreeAll (call file m ev task f args).events → AgreeOn file m n task
    of_call None args h = head _ _ h
    of_call (Some f) args h = of_entered f (bind file (signature_of f) args.0 args.1) h

    calls_same : (args : Arguments F) → Related (calling file m ev task args) (calling file n ev' task args)
    calls_same args h = alike_same (find_task m task) (find_task n task) args (of_call (find_task m task) args h) h

  same_run : (k : ℕ) (e : Lazy F) → Related (run file m k e) (run file n k e)
  unfolding run
  same_run zero e = λ h. refl
  same_run (suc k) e =
      step_kept SameIfAgreed same_keeps file (calling file m (run file m k)) (calling file n (run file n k)) (λ t args. calls_same (run file m k) (run file n k) (same_run k) t args)
      (run file m k) (run file n k) (same_run k) (out-Lazy F e)

  pub same_answers : (k : ℕ) (e : Lazy F) → AgreeAll (trace file m k e) → fresh file n k e ≡ fresh file m k e
  unfolding fresh trace
  same_answers k e h = sym (ap (λ (o : Out F (Datum F)). o.answer) (same_run k e (back (event (Met e) ∷ []) _ h)))

  pub same_traces : (k : ℕ) (e : Lazy F) → AgreeAll (trace file m k e) → trace file n k e ≡ trace file m k e
  unfolding fresh trace
  same_traces k e h = sym (ap (λ (o : Out F (Datum F)). event (Met e) ∷ o.events) (same_run k e (back (event (Met e) ∷ []) _ h)))
