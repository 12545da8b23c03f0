-- Parts that are evaluated one after the other.
use Rattle.std.proofs.Common.{◌≡◌, ℕ, ◌+◌, ◌<◌, ◌≤◌, inl, inr, List, [], ◌∷◌, ◌++◌, length, drop, get_or, Ok, Err, refl, sym, ap, ◌∙◌, append_assoc, append-nil, arith}
use Rattle.rd_value.proofs.Walks.{item_first, none_left}
use Rattle.rd_value.specs.declared.value.FileValue.{FileValue}
use Rattle.rd_value.specs.declared.value.Datum.{Datum}
use Rattle.rd_value.specs.declared.failure.Failure.{Failure}
use Rattle.rd_value.specs.declared.failure.Outcome.{Outcome}
use Rattle.rd_value.specs.declared.failure.Outcome.TheVariants as outcome
use Rattle.rd_top.specs.declared.evaluate.Gathered.{Gathered}
use Rattle.rd_top.specs.declared.evaluate.Gathered.TheVariants as gathered
use Rattle.rd_top.specs.declared.evaluate.Stop.{Stop}
use Rattle.rd_top.specs.declared.evaluate.Stop.TheVariants.{TooLarge, OutOfMemory}
use Rattle.rd_registry.specs.Fresh as fresh
use Rattle.rd_registry.specs.Fresh.{Answer, Gives, Failed, Deep, Out, join, both}
use Rattle.rd_registry.specs.Fits.{most_met, count_met}
use Rattle.rd_top.specs.Evaluating.{answer_of, answers_of, IsPast, Evaluates, ahead, in_front}
use Rattle.rd_top.proofs.Evaluated.{count-append}

module _ {W : Type 0} where
  value_ahead : (put : Datum FileValue → W) (ws : List W) (v : Datum FileValue) (more : Answer (List W)) → ahead (gathered.All (ws ++ put v ∷ [])) more ≡ ahead (gathered.All ws) (in_front put (Gives v) more)
  unfolding ahead in_front
  value_ahead put ws v (Gives us) = ap Gives (append_assoc ws (put v ∷ []) us)
  value_ahead put ws v (Failed g) = refl
  value_ahead put ws v Deep = refl

  failure_ahead : (put : Datum FileValue → W) (ws : List W) (f : Failure) (more : Answer (List W)) → ahead (gathered.Failed f) more ≡ ahead (gathered.All ws) (in_front put (Failed f) more)
  unfolding ahead in_front
  failure_ahead put ws f (Gives us) = refl
  failure_ahead put ws f (Failed g) = refl
  failure_ahead put ws f Deep = refl

  first_ahead : (put : Datum FileValue → W) (f : Failure) (x : Outcome) (more : Answer (List W)) → ahead (gathered.Failed f) more ≡ ahead (gathered.Failed f) (in_front put (answer_of x) more)
  unfolding ahead in_front
  first_ahead put f (outcome.Value v) (Gives us) = refl
  first_ahead put f (outcome.Value v) (Failed g) = refl
  first_ahead put f (outcome.Value v) Deep = refl
  first_ahead put f (outcome.Failed h) (Gives us) = refl
  first_ahead put f (outcome.Failed h) (Failed g) = refl
  first_ahead put f (outcome.Failed h) Deep = refl

  pub take_value : (put : Datum FileValue → W) (g : Gathered (List W)) (x : Outcome) (v : Datum FileValue) (ws new : List W) (more : Answer (List W)) → g ≡ gathered.All ws → x ≡ outcome.Value v → new ≡ ws ++ put v ∷ []
      → ahead (gathered.All new) more ≡ ahead g (in_front put (answer_of x) more)
  take_value put g x v ws new more all is i =
      ap (λ us. ahead (gathered.All us) more) i ∙ value_ahead put ws v more ∙ ap (λ y. ahead (gathered.All ws) (in_front put (answer_of y) more)) (sym is) ∙ ap (λ h. ahead h (in_front put (answer_of x) more)) (sym all)

  pub take_failure : (put : Datum FileValue → W) (g : Gathered (List W)) (x : Outcome) (f : Failure) (ws : List W) (more : Answer (List W)) → g ≡ gathered.All ws → x ≡ outcome.Failed f
      → ahead (gathered.Failed f) more ≡ ahead g (in_front put (answer_of x) more)
  take_failure put g x f ws more all is =
      failure_ahead put ws f more ∙ ap (λ y. ahead (gathered.All ws) (in_front put (answer_of y) more)) (sym is) ∙ ap (λ h. ahead h (in_front put (answer_of x) more)) (sym all)

  pub take_later : (put : Datum FileValue → W) (g : Gathered (List W)) (x : Outcome) (f : Failure) (more : Answer (List W)) → g ≡ gathered.Failed f → ahead (gathered.Failed f) more ≡ ahead g (in_front put (answer_of x) more)
  take_later put g x f more failed = first_ahead put f x more ∙ ap (λ h. ahead h (in_front put (answer_of x) more)) (sym failed)

  pub ahead_start : (g : Gathered (List W)) (more : Answer (List W)) → g ≡ gathered.All [] → ahead g more ≡ more
  unfolding ahead
  ahead_start g (Gives us) is = ap (λ h. ahead h (Gives us)) is
  ahead_start g (Failed f) is = ap (λ h. ahead h (Failed f)) is
  ahead_start g Deep is = ap (λ h. ahead h Deep) is

  ahead_end : (g : Gathered (List W)) → ahead g (Gives []) ≡ answers_of g
  unfolding ahead
  ahead_end (gathered.All ws) = ap Gives (append-nil ws)
  ahead_end (gathered.Failed f) = refl

  ahead_deep : (g : Gathered (List W)) → ahead g Deep ≡ Deep
  unfolding ahead
  ahead_deep (gathered.All ws) = refl
  ahead_deep (gathered.Failed f) = refl

pub ruleset take_rules = (take_value, take_failure, take_later)

module _ {X W : Type 0} (put : X → Datum FileValue → W) (ev : X → Out FileValue (Datum FileValue)) (xs : List X) where
  -- all items, and those from a place on
  abbrev pub whole : Out FileValue (List W)
  whole = fresh.gathered put ev xs

  pub behind : ℕ → Out FileValue (List W)
  behind i = fresh.gathered put ev (drop i xs)

  pub behind_start : behind 0 ≡ whole
  unfolding behind
  behind_start = refl

  behind_next : (i : ℕ) (x : X) → i < length xs → x ≡ get_or xs i x → behind i ≡ both (λ v ws. put x v ∷ ws) (ev x) (behind (i + 1))
  unfolding behind
  behind_next i x l is = ap (fresh.gathered put ev) (item_first xs i x l is)

  behind_end : (i : ℕ) → length xs ≤ i → behind i ≡ fresh.gathered put ev []
  unfolding behind
  behind_end i l = ap (fresh.gathered put ev) (none_left xs i l)

  -- what has been gathered stands before what is behind, and so does what has been met
  pub record Stands (i a b : ℕ) (g : Gathered (List W)) : Type 0 where
    pub answer : ahead g (behind i).answer ≡ whole.answer
    pub counted : b + count_met (behind i).events ≡ a + count_met whole.events
    pub fits : b ≤ most_met

  pub start : (a : ℕ) (g : Gathered (List W)) → a ≤ most_met → g ≡ gathered.All [] → Stands 0 a a g
  start a g l is = record {
    answer = ahead_start g (behind 0).answer is ∙ ap (λ (o : Out FileValue (List W)). o.answer) behind_start;
    counted = ap (λ (o : Out FileValue (List W)). a + count_met o.events) behind_start;
    fits = l;
  }

  module _ (i a b c : ℕ) (x : X) (g : Gathered (List W)) (l : i < length xs) (is : x ≡ get_or xs i x) (s : Stands i a b g) where
    pub more : (y : Outcome) (h : Gathered (List W)) → Evaluates answer_of (ev x) b c (Ok y) → ((us : Answer (List W)) → ahead h us ≡ ahead g (in_front (put x) (answer_of y) us)) → Stands (i + 1) a c h
    unfolding Evaluates in_front
    more y h e took = record {
      answer =
          took (behind (i + 1)).answer ∙ ap (λ z. ahead g (join (λ v ws. put x v ∷ ws) z (behind (i + 1)).answer)) (sym e.gives) ∙ ap (λ (o : Out FileValue (List W)). ahead g o.answer) (sym (behind_next i x l is)) ∙ s.answer;
      counted = omega (arith, e.counted, s.counted, ap (λ (o : Out FileValue (List W)). count_met o.events) (behind_next i x l is), count-append (ev x).events (behind (i + 1)).events);
      fits = e.fits;
    }

    pub stopped : (t : Stop) → Evaluates answer_of (ev x) b c (Err t) → Evaluates answers_of whole a c (Err t)
    unfolding Evaluates IsPast
    stopped TooLarge (inl d) =
        inl (sym s.answer ∙ ap (λ (o : Out FileValue (List W)). ahead g o.answer) (behind_next i x l is) ∙ ap (λ z. ahead g (join (λ v ws. put x v ∷ ws) z (behind (i + 1)).answer)) d ∙ ahead_deep g)
    stopped TooLarge (inr k) =
        inr (omega (arith, s.counted, ap (λ (o : Out FileValue (List W)). count_met o.events) (behind_next i x l is), count-append (ev x).events (behind (i + 1)).events))
    stopped OutOfMemory h = tt

  pub done : (i a b : ℕ) (g : Gathered (List W)) → length xs ≤ i → Stands i a b g → Evaluates answers_of whole a b (Ok g)
  unfolding Evaluates count_met
  done i a b g l s =
      let none : count_met (behind i).events ≡ 0 = ap (λ (o : Out FileValue (List W)). count_met o.events) (behind_end i l) in
      record {
        gives = sym s.answer ∙ ap (λ (o : Out FileValue (List W)). ahead g o.answer) (behind_end i l) ∙ ahead_end g;
        counted = omega (arith, s.counted, none);
        fits = s.fits;
      }
