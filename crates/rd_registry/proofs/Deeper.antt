-- Deeper evaluation is the same, once it isn't Deep.
use Rattle.std.proofs.Common.{◌≡◌, ◌≢◌, ℕ, zero, suc, ◌+◌, ◌-◌, ◌≤◌, List, ◌∷◌, refl, sym, ap, ◌∙◌, arith}
use Rattle.rd_value.specs.declared.value.FileValue.{FileValue}
use Rattle.rd_value.specs.declared.value.Datum.{Datum}
use Rattle.rd_value.specs.declared.expr.Lazy.{Lazy, out-Lazy}
use Rattle.rd_value.specs.declared.expr.Lazy.TheOpen.{Lazy-F}
use Rattle.rd_value.specs.declared.failure.Failure.{Failure}
use Rattle.rd_tree.specs.declared.tree.Module.{Module}
use Rattle.rd_registry.specs.Bodies.{find_task}
use Rattle.rd_registry.specs.Fresh.{Answer, Gives, Failed, Deep, Out, Arguments, before, join, both, on_answer, then_, inside, calling, step, at_zero, run, fresh, trace, event, Met}
use Rattle.rd_registry.proofs.Kept.{Relation, Keeps, step_kept, call_kept}

-- the second is the first, unless that is Deep
abbrev pub UpTo : (F : Type 0) → Relation F
UpTo F A o p = o.answer ≢ Deep → o ≡ p

left_not_deep : {A B C : Type 0} (f : A → B → C) (a : Answer A) (b : Answer B) → join f a b ≢ Deep → a ≢ Deep
left_not_deep f (Gives a) b h e = cc
left_not_deep f (Failed a) b h e = cc
left_not_deep f Deep b h e = h refl

right_not_deep : {A B C : Type 0} (f : A → B → C) (a : Answer A) (b : Answer B) → join f a b ≢ Deep → b ≢ Deep
right_not_deep f a (Gives b) h e = cc
right_not_deep f a (Failed b) h e = cc
right_not_deep f (Gives a) Deep h e = h refl
right_not_deep f (Failed a) Deep h e = h refl
right_not_deep f Deep Deep h e = h refl

first_not_deep : {F A B : Type 0} (a : Answer A) (go : A → Out F B) (fail : Failure → Out F B) → (on_answer a go fail).answer ≢ Deep → a ≢ Deep
first_not_deep (Gives a) go fail h e = cc
first_not_deep (Failed a) go fail h e = cc
first_not_deep Deep go fail h e = h refl

on_answer_up : {F A B : Type 0} (a : Answer A) (go go' : A → Out F B) (fail fail' : Failure → Out F B) → ((a : A) → UpTo F B (go a) (go' a)) → ((f : Failure) → UpTo F B (fail f) (fail' f)) → UpTo F B (on_answer a go fail) (on_answer a go' fail')
on_answer_up (Gives a) go go' fail fail' u w = u a
on_answer_up (Failed f) go go' fail fail' u w = w f
on_answer_up Deep go go' fail fail' u w = λ h. refl

pub up_keeps : (F : Type 0) → Keeps F (UpTo F)
up_keeps F = record {
  same = λ A o h. refl;
  after = λ A es o p u h. ap (before es) (u h);
  within = λ A c o p u h. ap (inside c) (u h);
  pair = λ A B C f o o' p p' u w h. ap (λ x. both f x p) (u (left_not_deep f o.answer p.answer h)) ∙ ap (both f o') (w (right_not_deep f o.answer p.answer h));
  chain = λ A B o o' go go' fail fail' u w v h.
      ap (before o.events) (on_answer_up o.answer go go' fail fail' w v h) ∙ ap (λ x. then_ x go' fail') (u (first_not_deep o.answer go fail h));
}

module _ {F : Type 0} (file : F → FileValue) (m : Module) where
  zero_up : (calls : List ℕ → Arguments F → Out F (Datum F)) (ev : Lazy F → Out F (Datum F)) (x : Lazy-F F (Lazy F)) → UpTo F (Datum F) (at_zero x) (step file calls ev x)
  zero_up calls ev (Lazy-F.Val v) = λ h. refl
  zero_up calls ev x = λ h. absurd (h refl)

  one_deeper : (n : ℕ) (e : Lazy F) → UpTo F (Datum F) (run file m n e) (run file m (suc n) e)
  unfolding run
  one_deeper zero e = zero_up (calling file m (run file m zero)) (run file m zero) (out-Lazy F e)
  one_deeper (suc n) e =
      let u = one_deeper n in
      step_kept (UpTo F) (up_keeps F) file (calling file m (run file m n)) (calling file m (run file m (suc n)))
      (λ t args. call_kept (UpTo F) (up_keeps F) file m (run file m n) (run file m (suc n)) u t (find_task m t) args) (run file m n) (run file m (suc n)) u (out-Lazy F e)

  deeper_by : (n k : ℕ) (e : Lazy F) → UpTo F (Datum F) (run file m n e) (run file m (k + n) e)
  deeper_by n zero e h = ap (λ j. run file m j e) (omega arith)
  deeper_by n (suc k) e h =
      let same_k = deeper_by n k e h in
      let still : (run file m (k + n) e).answer ≢ Deep = λ d. h (ap (λ o. o.answer) same_k ∙ d) in
      same_k ∙ one_deeper (k + n) e still ∙ ap (λ j. run file m j e) (omega arith)

  pub deeper : (n j : ℕ) → n ≤ j → (e : Lazy F) → UpTo F (Datum F) (run file m n e) (run file m j e)
  deeper n j l e h = deeper_by n (j - n) e h ∙ ap (λ i. run file m i e) (omega arith)

  pub same_answer : (n k : ℕ) → n ≤ k → (e : Lazy F) → fresh file m n e ≢ Deep → fresh file m k e ≡ fresh file m n e
  unfolding fresh
  same_answer n k l e h = sym (ap (λ o. o.answer) (deeper n k l e h))

  pub same_events : (n k : ℕ) → n ≤ k → (e : Lazy F) → fresh file m n e ≢ Deep → trace file m k e ≡ trace file m n e
  unfolding fresh trace
  same_events n k l e h = sym (ap (λ (o : Out F (Datum F)). event (Met e) ∷ o.events) (deeper n k l e h))
