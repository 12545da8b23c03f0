-- What is bound is one argument for each parameter, and what is found has its full name.
use Rattle.std.proofs.Common.{◌≡◌, ℕ, suc, Bool, true, false, if◌then◌else◌, List, [], ◌∷◌, length, map, Option, None, Some, Result, Ok, Err, refl, sym, ap, ◌∙◌}
use Rattle.std.proofs.lemmas.List.{length-map}
use Rattle.std.proofs.lemmas.Slice.Eq.{bytes_eq-Decides}
use Rattle.std.specs.Str.{bytes_eq}
use Rattle.rd_value.specs.declared.value.ErrorValue.{ErrorValue}
use Rattle.rd_value.specs.declared.value.FileValue.{FileValue}
use Rattle.rd_value.specs.declared.value.Datum.{Datum}
use Rattle.rd_value.specs.Bind.{Slot, and_then, empty, placed, filled, with_keyword, with_keywords, settled, all_settled, arguments, limited, bind}
use Rattle.rd_value.specs.Limits.{are_within}
use Rattle.rd_value.specs.Operators.{value_limit}
use Rattle.rd_tree.specs.declared.tree.Function.{Function}
use Rattle.rd_registry.specs.Bodies.{task_name_by, is_named, task_among}

-- ---- one argument for each parameter

ok_same : {A : Type 0} (x y : A) → ◌≡◌ {A = Result A ErrorValue} (Ok x) (Ok y) → x ≡ y
ok_same x y e = cc

apart : {A : Type 0} (d : ErrorValue) (y : A) → ◌≡◌ {A = Result A ErrorValue} (Err d) (Ok y) → ⊥
apart d y e = absurd cc

-- what an answer came of that comes after another
after : {A B : Type 0} (q : Result A ErrorValue) (go : A → Result B ErrorValue) (y : B) → and_then q go ≡ Ok y → (x : A) × (q ≡ Ok x) × (go x ≡ Ok y)
after (Ok x) go y e = (x, refl, e)
after (Err d) go y e = absurd (apart d y e)

module _ {V : Type 0} where
  placed_length : (ps : List (List ℕ × Option V)) (vs : List V) (slots : List (Slot V)) → placed ps vs ≡ Ok slots → length slots ≡ length ps
  placed_length ps [] slots e = ap length (sym (ok_same (map empty ps) slots e)) ∙ length-map ps empty
  placed_length [] (v ∷ vs) slots e = absurd (apart _ slots e)
  placed_length (p ∷ ps) (v ∷ vs) slots e =
      let a = after (placed ps vs) (λ slots. Ok (record { name = p.0; default = p.1; given = Some v } ∷ slots)) slots e in
      ap length (sym (ok_same _ slots a.2)) ∙ ap suc (placed_length ps vs a.0 a.1)

  keyword_length : (k : List ℕ × V) (slots more : List (Slot V)) → with_keyword k slots ≡ Ok more → length more ≡ length slots
  keyword_length k [] more e = absurd (apart _ more e)
  keyword_length k (slot ∷ slots) more e = by_test (keyword_length k slots) (bytes_eq slot.name k.0) e
    where
      by_test : ((rest : List (Slot V)) → with_keyword k slots ≡ Ok rest → length rest ≡ length slots) → (t : Bool) → (if t then and_then (filled k.1 slot slot.given) (λ full. Ok (full ∷ slots)) else and_then (with_keyword k slots) (λ rest. Ok (slot ∷ rest))) ≡ Ok more → length more ≡ suc (length slots)
      by_test further true e = let a = after (filled k.1 slot slot.given) (λ full. Ok (full ∷ slots)) more e in ap length (sym (ok_same _ more a.2))
      by_test further false e = let a = after (with_keyword k slots) (λ rest. Ok (slot ∷ rest)) more e in ap length (sym (ok_same _ more a.2)) ∙ ap suc (further a.0 a.1)

  keywords_length : (ks : List (List ℕ × V)) (slots more : List (Slot V)) → with_keywords ks slots ≡ Ok more → length more ≡ length slots
  keywords_length [] slots more e = ap length (sym (ok_same slots more e))
  keywords_length (k ∷ ks) slots more e = let a = after (with_keyword k slots) (with_keywords ks) more e in keywords_length ks a.0 more a.2 ∙ keyword_length k slots a.0 a.1

  settled_length : (slots : List (Slot V)) (vs : List V) → all_settled slots ≡ Ok vs → length vs ≡ length slots
  settled_length [] vs e = ap length (sym (ok_same [] vs e))
  settled_length (s ∷ slots) vs e =
      let a = after (settled s.name s.given s.default) (λ v. and_then (all_settled slots) (λ rest. Ok (v ∷ rest))) vs e in
      let b = after (all_settled slots) (λ rest. Ok (a.0 ∷ rest)) vs a.2 in
      ap length (sym (ok_same _ vs b.2)) ∙ ap suc (settled_length slots b.0 b.1)

  arguments_length : (ps : List (List ℕ × Option V)) (vs : List V) (ks : List (List ℕ × V)) (args : List V) → arguments ps vs ks ≡ Ok args → length args ≡ length ps
  arguments_length ps vs ks args e =
      let a = after (placed ps vs) (λ slots. and_then (with_keywords ks slots) all_settled) args e in
      let b = after (with_keywords ks a.0) all_settled args a.2 in
      settled_length b.0 args b.2 ∙ keywords_length ks a.0 b.0 b.1 ∙ placed_length ps vs a.0 a.1

module _ {F : Type 0} (file : F → FileValue) where
  limited_same : (vs args : List (Datum F)) → limited file vs ≡ Ok args → vs ≡ args
  limited_same vs args e = by_test (are_within file vs) e
    where
      by_test : (t : Bool) → (if t then Ok vs else Err value_limit) ≡ Ok args → vs ≡ args
      by_test true e = ok_same vs args e
      by_test false e = absurd (apart _ args e)

  -- where arguments are bound, there is one for each parameter
  pub bound_length : (ps : List (List ℕ × Option (Datum F))) (vs : List (Datum F)) (ks : List (List ℕ × Datum F)) (args : List (Datum F)) → bind file ps vs ks ≡ Ok args → length args ≡ length ps
  bound_length ps vs ks args e =
      let a = after (arguments ps vs ks) (limited file) args e in
      ap length (sym (limited_same a.0 args a.2)) ∙ arguments_length ps vs ks a.0 a.1

-- ---- the full name

pub some_same : {A : Type 0} (x y : A) → Some x ≡ Some y → x ≡ y
some_same x y e = cc

named_same : (text : List ℕ) (o : Option (List ℕ)) → is_named text o ≡ true → o ≡ Some text
named_same text None e = absurd cc
named_same text (Some full) e = ap Some (sym ((bytes_eq-Decides text full).0 e))

-- the task that is found by a full name has it
pub found_named : (space : Option (List ℕ)) (fs : List Function) (text : List ℕ) (f : Function) → task_among space fs text ≡ Some f → task_name_by space f.name.text f.task ≡ Some text
found_named space [] text f e = absurd cc
found_named space (g ∷ fs) text f e = by_test (found_named space fs text f) (is_named text (task_name_by space g.name.text g.task)) refl e
  where
    by_test : (task_among space fs text ≡ Some f → task_name_by space f.name.text f.task ≡ Some text) → (t : Bool) → is_named text (task_name_by space g.name.text g.task) ≡ t → (if t then Some g else task_among space fs text) ≡ Some f → task_name_by space f.name.text f.task ≡ Some text
    by_test further true is e = ap (λ (h : Function). task_name_by space h.name.text h.task) (sym (some_same g f e)) ∙ named_same text (task_name_by space g.name.text g.task) is
    by_test further false is e = further e
