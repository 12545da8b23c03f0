-- Walks over lists, whose parts are told by what is left.
use Rattle.std.proofs.Common.{◌≡◌, ℕ, ◌<◌, ◌+◌, List, [], ◌∷◌, ◌++◌, map, length, drop, get_or, refl, sym, ap, ◌∙◌, append_assoc, append-nil, Result, Ok, Err, OnOk}
use Rattle.std.proofs.lemmas.List.{drop_more}
use Rattle.rd_names.specs.Uses.{joined}

pub map_both : {X Y Z : Type 0} (g : Y → Z) (f : X → Y) (xs : List X) → map g (map f xs) ≡ map (λ x. g (f x)) xs
map_both g f [] = refl
map_both g f (x ∷ xs) = ap (λ rest. g (f x) ∷ rest) (map_both g f xs)

pub map_same : {X Y : Type 0} (f g : X → Y) → ((x : X) → f x ≡ g x) → (xs : List X) → map f xs ≡ map g xs
map_same f g h [] = refl
map_same f g h (x ∷ xs) = ap (λ y. y ∷ map f xs) (h x) ∙ ap (λ rest. g x ∷ rest) (map_same f g h xs)

pub joined_both : {X : Type 0} (xs ys : List (List X)) → joined (xs ++ ys) ≡ joined xs ++ joined ys
joined_both [] ys = refl
joined_both (x ∷ xs) ys = ap (λ rest. x ++ rest) (joined_both xs ys) ∙ sym (append_assoc x (joined xs) (joined ys))

pub behind : {X : Type 0} (s a b : List X) → s ++ (a ++ b) ≡ (s ++ a) ++ b
behind s a b = sym (append_assoc s a b)

module _ {S Y : Type 0} (act : S → List Y → S) (both : (s : S) (a b : List Y) → act s (a ++ b) ≡ act (act s a) b) where
  -- a walk that is one element on
  pub goes_on : {X : Type 0} (f : X → List Y) (xs : List X) (i : ℕ) (x : X) (s t w : S) → i < length xs → x ≡ get_or xs i x → t ≡ act s (f x) → act s (joined (map f (drop i xs))) ≡ w
      → act t (joined (map f (drop (i + 1) xs))) ≡ w
  goes_on f xs i x s t w lt is step before =
      let rest = joined (map f (drop (i + 1) xs)) in
      let opened : joined (map f (drop i xs)) ≡ f x ++ rest = ap (λ ys. joined (map f ys)) (drop_more xs i x lt) ∙ ap (λ y. f y ++ rest) (sym is) in
      ap (λ k. act k rest) step ∙ sym (both s (f x) rest) ∙ sym (ap (act s) opened) ∙ before

  -- a second part behind the first
  pub then_behind : {A E : Type 0} (r : Result A E) (s m t : S) (a b whole : List Y) → OnOk r (t ≡ act m b) → m ≡ act s a → whole ≡ a ++ b → OnOk r (t ≡ act s whole)
  then_behind (Ok x) s m t a b whole h e w = h ∙ ap (λ k. act k b) e ∙ sym (both s a b) ∙ ap (act s) (sym w)
  then_behind (Err x) s m t a b whole h e w = h

module _ {Y : Type 0} where
  pub three_parts : (s m n t a b c whole : List Y) → t ≡ n ++ c → n ≡ m ++ b → m ≡ s ++ a → whole ≡ a ++ (b ++ c) → t ≡ s ++ whole
  three_parts s m n t a b c whole third second first w =
      third ∙ ap (λ k. k ++ c) (second ∙ ap (λ k. k ++ b) first) ∙ ap (λ k. k ++ c) (append_assoc s a b) ∙ append_assoc s (a ++ b) c ∙ ap (λ k. s ++ k) (append_assoc a b c ∙ sym w)

  -- a part and a second behind it
  pub two_parts : (s m t a b : List Y) → t ≡ m ++ b → m ≡ s ++ a → t ≡ s ++ (a ++ b)
  two_parts s m t a b second first = second ∙ ap (λ k. k ++ b) first ∙ append_assoc s a b

  -- two parts and a third behind them
  pub third_behind : {A E : Type 0} (r : Result A E) (s m n t a b c whole : List Y) → OnOk r (t ≡ n ++ c) → n ≡ m ++ b → m ≡ s ++ a → whole ≡ a ++ (b ++ c) → OnOk r (t ≡ s ++ whole)
  third_behind (Ok x) s m n t a b c whole third second first w = three_parts s m n t a b c whole third second first w
  third_behind (Err x) s m n t a b c whole third second first w = third

  -- three parts and a fourth behind them
  pub fourth_behind : {A E : Type 0} (r : Result A E) (s m n o t a b c d whole : List Y) → OnOk r (t ≡ o ++ d) → o ≡ n ++ c → n ≡ m ++ b → m ≡ s ++ a → whole ≡ a ++ (b ++ (c ++ d)) → OnOk r (t ≡ s ++ whole)
  fourth_behind (Ok x) s m n o t a b c d whole fourth third second first w = three_parts s m n t a b (c ++ d) whole (two_parts n o t c d fourth third) second first w
  fourth_behind (Err x) s m n o t a b c d whole fourth third second first w = fourth

  -- one part, told otherwise
  pub alone : {A E : Type 0} (r : Result A E) (s t a whole : List Y) → OnOk r (t ≡ s ++ a) → whole ≡ a → OnOk r (t ≡ s ++ whole)
  alone (Ok x) s t a whole h w = h ∙ ap (λ k. s ++ k) (sym w)
  alone (Err x) s t a whole h w = h

  -- no part
  pub nothing : (s whole : List Y) → whole ≡ [] → s ≡ s ++ whole
  nothing s whole w = sym (append-nil s) ∙ ap (λ k. s ++ k) (sym w)

  -- six parts in turn, of which the first two come at once
  pub six_parts : (s m n o p t a b c d e f : List Y) → s ≡ [] → m ≡ s ++ (a ++ b) → n ≡ m ++ c → o ≡ n ++ d → p ≡ o ++ e → t ≡ p ++ f → t ≡ a ++ (b ++ (c ++ (d ++ (e ++ f))))
  six_parts s m n o p t a b c d e f none first second third fourth fifth =
      fifth ∙ ap (λ k. k ++ f) (fourth ∙ ap (λ k. k ++ e) (third ∙ ap (λ k. k ++ d) (second ∙ ap (λ k. k ++ c) (first ∙ ap (λ k. k ++ (a ++ b)) none))))
      ∙ append_assoc (((a ++ b) ++ c) ++ d) e f ∙ append_assoc ((a ++ b) ++ c) d (e ++ f) ∙ append_assoc (a ++ b) c (d ++ (e ++ f)) ∙ append_assoc a b (c ++ (d ++ (e ++ f)))
