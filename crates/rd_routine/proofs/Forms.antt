-- The form of a call, from its arguments and from what they come to.
use Rattle.std.proofs.Common.{◌≡◌, List, [], ◌∷◌, map, Option, None, Some, refl, ap, ◌∙◌}
use mathlib.Core.List.{map-map}
use Rattle.std.specs.Option.{option_map}
use Rattle.rd_tree.specs.declared.tree.Node.{Node}
use Rattle.rd_tree.specs.declared.tree.Node.TheViews.{roll-Node}
use Rattle.rd_tree.specs.declared.tree.Node.TheOpen.{Node-F}
use Rattle.rd_tree.specs.declared.tree.Node.TheFolds.{map-Node, para-roll-Node}
use Rattle.rd_routine.specs.declared.special.Special.{Special}
use Rattle.rd_routine.specs.declared.special.Special.TheVariants as special
use Rattle.rd_routine.specs.Forms.{name_alone, Form, Plain, Wrong, Mapping, Catching, mapping, catching, special_form, form_of, form_with, result_of, result_behind, layer, folded}

-- ---- the form with other names and other arguments

module _ {N X M Y : Type 0} (name_of : X → Option N) (other : Y → Option M) (r : N → M) (g : X → Y) (same : (x : X) → other (g x) ≡ option_map r (name_of x)) where
  mapping_through : (task : Option N) (list : X) → mapping (option_map r task) (g list) ≡ form_with r g (mapping task list)
  mapping_through None list = refl
  mapping_through (Some task) list = refl

  catching_through : (tried : X) (class recover : Option N) → catching (g tried) (option_map r class) (option_map r recover) ≡ form_with r g (catching tried class recover)
  catching_through tried None recover = refl
  catching_through tried (Some class) None = refl
  catching_through tried (Some class) (Some recover) = refl

  special_through : (call : Special) (xs : List X) → special_form other call (map g xs) ≡ form_with r g (special_form name_of call xs)
  special_through special.Cond [] = refl
  special_through special.Cond (a ∷ []) = refl
  special_through special.Cond (a ∷ b ∷ []) = refl
  special_through special.Cond (a ∷ b ∷ c ∷ []) = refl
  special_through special.Cond (a ∷ b ∷ c ∷ d ∷ xs) = refl
  special_through special.Map [] = refl
  special_through special.Map (a ∷ []) = refl
  special_through special.Map (a ∷ b ∷ []) = ap (λ name. mapping name (g b)) (same a) ∙ mapping_through (name_of a) b
  special_through special.Map (a ∷ b ∷ c ∷ xs) = refl
  special_through special.Catch [] = refl
  special_through special.Catch (a ∷ []) = refl
  special_through special.Catch (a ∷ b ∷ []) = refl
  special_through special.Catch (a ∷ b ∷ c ∷ []) =
      ap (λ name. catching (g a) name (other (g c))) (same b) ∙ ap (λ name. catching (g a) (option_map r (name_of b)) name) (same c) ∙ catching_through a (name_of b) (name_of c)
  special_through special.Catch (a ∷ b ∷ c ∷ d ∷ xs) = refl

  -- the form of a call whose keywords become others
  pub form_through : {K L : Type 0} (j : K → L) (call : Option Special) (xs : List X) (ks : List K) → form_of other call (map g xs) (map j ks) ≡ form_with r g (form_of name_of call xs ks)
  form_through j None xs ks = refl
  form_through j (Some call) xs [] = special_through call xs
  form_through j (Some call) xs (k ∷ ks) = refl

pub as_it_is : {A : Type 0} (o : Option A) → o ≡ option_map (λ a. a) o
as_it_is None = refl
as_it_is (Some a) = refl

-- the form where arguments become what they come to, under the same names
pub form_same : {N X Y K L : Type 0} (name_of : X → Option N) (other : Y → Option N) (g : X → Y) → ((x : X) → other (g x) ≡ name_of x) → (j : K → L) (call : Option Special) (xs : List X) (ks : List K)
    → form_of other call (map g xs) (map j ks) ≡ form_with (λ n. n) g (form_of name_of call xs ks)
form_same name_of other g same = form_through name_of other (λ n. n) g (λ x. same x ∙ as_it_is (name_of x))

-- ---- keywords

-- a call that takes names has no keywords
abbrev pub HasNone : {N X K : Type 0} → List K → Form N X → Type 0
HasNone ks Plain = Unit {0}
HasNone ks Wrong = Unit {0}
HasNone ks (Mapping task list) = ks ≡ []
HasNone ks (Catching tried class recover) = ks ≡ []

module _ {N X : Type 0} where
  none_there : (K : Type 0) (c : Form N X) → HasNone {K = K} [] c
  none_there K Plain = tt
  none_there K Wrong = tt
  none_there K (Mapping task list) = refl
  none_there K (Catching tried class recover) = refl

  pub has_none : {K : Type 0} (name_of : X → Option N) (call : Option Special) (xs : List X) (ks : List K) → HasNone ks (form_of name_of call xs ks)
  has_none name_of None xs ks = tt
  has_none name_of (Some call) xs [] = none_there _ (special_form name_of call xs)
  has_none name_of (Some call) xs (k ∷ ks) = tt

-- ---- what an expression comes to

-- what parts come to in two steps
pub with_both : {N X Y Z : Type 0} (g : X → Y) (k : Y → Z) (c : Form N X) → form_with (λ n. n) k (form_with (λ n. n) g c) ≡ form_with (λ n. n) (λ x. k (g x)) c
with_both g k Plain = refl
with_both g k Wrong = refl
with_both g k (Mapping task list) = refl
with_both g k (Catching tried class recover) = refl

-- no call
abbrev pub NoCall : {N X : Type 0} → Node-F N X → Type 0
NoCall (Node-F.Call name ps ks) = ⊥
NoCall y = Unit {0}

module _ {N A : Type 0} (kind : N → Option Special) (call : Form N A → N → List A → List (N × A) → A) (at : Node-F N A → A) where
  abbrev whole : Node N → A
  whole = folded kind call at

  abbrev with_whole : Node N → Node N × A
  with_whole n = (n, whole n)

  rolled : (y : Node-F N (Node N)) → whole (roll-Node N y) ≡ layer kind call at (map-Node N (Node N) (Node N × A) with_whole y)
  rolled = para-roll-Node N A (layer kind call at)

  abbrev with_behind : {K : Type 0} → K × Node N → K × (Node N × A)
  with_behind k = (k.0, with_whole k.1)

  many : (xs : List (Node N)) → map result_of (map with_whole xs) ≡ map whole xs
  many = map-map result_of with_whole

  behind : {K : Type 0} (ks : List (K × Node N)) → map result_behind (map with_behind ks) ≡ map (λ k. (k.0, whole k.1)) ks
  behind = map-map result_behind with_behind

  -- a call comes to something by its form
  pub folded_call : (name : N) (ps : List (Node N)) (ks : List (N × Node N))
      → whole (roll-Node N (Node-F.Call name ps ks)) ≡ call (form_with (λ n. n) whole (form_of name_alone (kind name) ps ks)) name (map whole ps) (map (λ k. (k.0, whole k.1)) ks)
  folded_call name ps ks =
      let form = form_of name_alone (kind name) ps ks in
      rolled (Node-F.Call name ps ks)
      ∙ ap (λ c. call (form_with (λ n. n) result_of c) name (map result_of (map with_whole ps)) (map result_behind (map with_behind ks))) (form_same name_alone (λ p. name_alone p.0) with_whole (λ n. refl) with_behind (kind name) ps ks)
      ∙ ap (λ c. call c name (map result_of (map with_whole ps)) (map result_behind (map with_behind ks))) (with_both with_whole result_of form)
      ∙ ap (λ xs. call (form_with (λ n. n) whole form) name xs (map result_behind (map with_behind ks))) (many ps) ∙ ap (call (form_with (λ n. n) whole form) name (map whole ps)) (behind ks)

  abbrev Couple : Type 0 → Type 0
  Couple X = X × X

  abbrev couple_with : Couple (Node N) → Couple (Node N × A)
  couple_with p = (with_whole p.0, with_whole p.1)

  abbrev couple_of : Couple (Node N × A) → Couple A
  couple_of p = (p.0.1, p.1.1)

  couples : (ps : List (Couple (Node N))) → map couple_of (map couple_with ps) ≡ map (λ p. (whole p.0, whole p.1)) ps
  couples = map-map couple_of couple_with

  -- all else comes to something by its parts
  pub folded_other : (y : Node-F N (Node N)) → NoCall y → whole (roll-Node N y) ≡ at (map-Node N (Node N) A whole y)
  folded_other (Node-F.Lit v) none = rolled (Node-F.Lit v)
  folded_other (Node-F.Name x) none = rolled (Node-F.Name x)
  folded_other (Node-F.Call name ps ks) none = absurd none
  folded_other (Node-F.Method a name xs) none = rolled (Node-F.Method a name xs) ∙ ap (λ ys. at (Node-F.Method (whole a) name ys)) (many xs)
  folded_other (Node-F.Index a b) none = rolled (Node-F.Index a b)
  folded_other (Node-F.Path a) none = rolled (Node-F.Path a)
  folded_other (Node-F.Neg a) none = rolled (Node-F.Neg a)
  folded_other (Node-F.Not a) none = rolled (Node-F.Not a)
  folded_other (Node-F.Chain a xs) none = rolled (Node-F.Chain a xs) ∙ ap (λ ys. at (Node-F.Chain (whole a) ys)) (behind xs)
  folded_other (Node-F.Compare o a b) none = rolled (Node-F.Compare o a b)
  folded_other (Node-F.And xs) none = rolled (Node-F.And xs) ∙ ap (λ ys. at (Node-F.And ys)) (many xs)
  folded_other (Node-F.Or xs) none = rolled (Node-F.Or xs) ∙ ap (λ ys. at (Node-F.Or ys)) (many xs)
  folded_other (Node-F.Cond a b c) none = rolled (Node-F.Cond a b c)
  folded_other (Node-F.List xs) none = rolled (Node-F.List xs) ∙ ap (λ ys. at (Node-F.List ys)) (many xs)
  folded_other (Node-F.Dict ps) none = rolled (Node-F.Dict ps) ∙ ap (λ ys. at (Node-F.Dict ys)) (couples ps)
  folded_other (Node-F.Comp a name b xs) none = rolled (Node-F.Comp a name b xs) ∙ ap (λ ys. at (Node-F.Comp (whole a) name (whole b) ys)) (many xs)
