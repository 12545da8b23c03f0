-- The values of literals hold no file.
use Rattle.std.proofs.Common.{◌≡◌, inl, inr, ℕ, zero, suc, ℤ, neg_ℤ, Bool, true, false, List, [], ◌∷◌, map, Option, Some, refl, sym, ap, ◌∙◌, subst}
use Rattle.rd_syntax.specs.declared.token.Token.{Token}
use Rattle.rd_value.specs.declared.value.FileValue.{FileValue}
use Rattle.rd_value.specs.declared.value.Datum.{Datum}
use Rattle.rd_value.specs.declared.value.Datum.TheViews as made
use Rattle.rd_value.specs.declared.value.Datum.TheVariants as variant
use Rattle.rd_value.specs.declared.value.Datum.TheOpen.{Datum-F}
use Rattle.rd_value.specs.declared.value.Datum.TheFolds.{fold-roll-Datum, map-Datum}
use Rattle.rd_value.specs.Erase.{with_file, with_files}
use Rattle.rd_value.proofs.Ind.{Each, EachPair, datum_ind}
use Rattle.rd_parse.specs.declared.terminal.Terminal.{Terminal}
use Rattle.rd_parse.specs.declared.terminal.Terminal.TheVariants as w
use Rattle.rd_parse.specs.Form.{Form, one, below, tail}
use Rattle.rd_parse.specs.Terminal.{terminal, is}
use Rattle.rd_parse.specs.Expressions.{constant_by, constant_of}
use Rattle.rd_parse.specs.Literals as form
use Rattle.rd_parse.specs.Literals.{Literal, Pair, with_key, inner_literal, deep_literal, literal_text, IsLiteral, Spells}
use Rattle.rd_top.specs.Arguments.{plain, without_file}

-- ---- the equations of `plain`

module _ {F : Type 0} where
  plain_layer : (x : Datum-F FileValue (Datum FileValue)) → plain {F = F} (made.roll-Datum FileValue x) ≡ made.roll-Datum F (without_file (map-Datum FileValue (Datum FileValue) (Datum F) plain x))
  unfolding plain
  plain_layer x = fold-roll-Datum FileValue (Datum F) (λ y. made.roll-Datum F (without_file y)) x

  plain_nothing : plain {F = F} variant.Nothing ≡ variant.Nothing
  unfolding made.roll-Datum denote.Hole.Carrier.roll
  plain_nothing = plain_layer Datum-F.Nothing

  plain_bool : (b : Bool) → plain {F = F} (variant.Bool b) ≡ variant.Bool b
  unfolding made.roll-Datum denote.Hole.Carrier.roll
  plain_bool b = plain_layer (Datum-F.Bool b)

  plain_int : (n : ℤ) → plain {F = F} (variant.Int n) ≡ variant.Int n
  unfolding made.roll-Datum denote.Hole.Carrier.roll
  plain_int n = plain_layer (Datum-F.Int n)

  pub plain_text : (t : List ℕ) → plain {F = F} (variant.Text t) ≡ variant.Text t
  unfolding made.roll-Datum denote.Hole.Carrier.roll
  plain_text t = plain_layer (Datum-F.Text t)

  plain_list : (xs : List (Datum FileValue)) → plain {F = F} (variant.List xs) ≡ variant.List (map plain xs)
  unfolding made.roll-Datum denote.Hole.Carrier.roll
  plain_list xs = plain_layer (Datum-F.List xs)

  plain_dict : (ps : List (Datum FileValue × Datum FileValue)) → plain {F = F} (variant.Dict ps) ≡ variant.Dict (map (λ p. (plain p.0, plain p.1)) ps)
  unfolding made.roll-Datum denote.Hole.Carrier.roll
  plain_dict ps = plain_layer (Datum-F.Dict ps)

-- ---- a plain value has no file to change

module _ {F G : Type 0} (h : F → G) where
  abbrev Same : Datum FileValue → Type 0
  Same v = with_files h (plain {F = F} v) ≡ plain {F = G} v

  same_items : (xs : List (Datum FileValue)) → Each Same xs → map (with_files h) (map (plain {F = F}) xs) ≡ map (plain {F = G}) xs
  same_items [] hs = refl
  same_items (x ∷ xs) hs = λ i. hs.0 i ∷ same_items xs hs.1 i

  abbrev folded : {A B : Type 0} → (A → B) → List (A × A) → List (B × B)
  folded f ps = map (λ p. (f p.0, f p.1)) ps

  same_pairs : (ps : List (Datum FileValue × Datum FileValue)) → EachPair Same ps → folded (with_files h) (folded (plain {F = F}) ps) ≡ folded (plain {F = G}) ps
  same_pairs [] hs = refl
  same_pairs (p ∷ ps) hs = λ i. (hs.0.0 i, hs.0.1 i) ∷ same_pairs ps hs.1 i

  -- at a value of one layer, from what is known of the values that it holds
  same_layer : (x : Datum-F FileValue (Datum FileValue))
      → with_file h (map-Datum F (Datum F) (Datum G) (with_files h) (without_file (map-Datum FileValue (Datum FileValue) (Datum F) plain x))) ≡ without_file (map-Datum FileValue (Datum FileValue) (Datum G) plain x)
      → Same (made.roll-Datum FileValue x)
  same_layer x e =
      ap (with_files h) (plain_layer x) ∙
      (fold-roll-Datum F (Datum G) (λ y. made.roll-Datum G (with_file h y)) (without_file (map-Datum FileValue (Datum FileValue) (Datum F) plain x)) ∙
      (ap (made.roll-Datum G) e ∙ sym (plain_layer x)))

  pub with_files_plain : (v : Datum FileValue) → with_files h (plain {F = F} v) ≡ plain {F = G} v
  unfolding made.roll-Datum denote.Hole.Carrier.roll
  with_files_plain = datum_ind Same
      (same_layer Datum-F.Nothing refl)
      (λ b. same_layer (Datum-F.Bool b) refl)
      (λ n. same_layer (Datum-F.Int n) refl)
      (λ t. same_layer (Datum-F.Text t) refl)
      (λ xs hs. same_layer (Datum-F.List xs) (ap Datum-F.List (same_items xs hs)))
      (λ ps hs. same_layer (Datum-F.Dict ps) (ap Datum-F.Dict (same_pairs ps hs)))
      (λ f. same_layer (Datum-F.File f) refl)
      (λ e. same_layer (Datum-F.Error e) refl)

-- ---- values without files

-- the value holds no file
abbrev NoFile : Literal → Type 0
NoFile v = plain {F = FileValue} v ≡ v

-- neither the key nor its value holds a file
abbrev NoFiles : Pair → Type 0
NoFiles p = NoFile p.0 × NoFile p.1

same_literals : (vs : List Literal) → Each NoFile vs → map (plain {F = FileValue}) vs ≡ vs
same_literals [] hs = refl
same_literals (v ∷ vs) hs = λ i. hs.0 i ∷ same_literals vs hs.1 i

same_literal_pairs : (ps : List Pair) → Each NoFiles ps → map (λ p. (plain {F = FileValue} p.0, plain {F = FileValue} p.1)) ps ≡ ps
same_literal_pairs [] hs = refl
same_literal_pairs (p ∷ ps) hs = λ i. (hs.0.0 i, hs.0.1 i) ∷ same_literal_pairs ps hs.1 i

list_no_file : (vs : List Literal) → Each NoFile vs → NoFile (variant.List vs)
list_no_file vs hs = plain_list vs ∙ ap variant.List (same_literals vs hs)

dict_no_file : (ps : List Pair) → Each NoFiles ps → NoFile (variant.Dict ps)
dict_no_file ps hs = plain_dict ps ∙ ap variant.Dict (same_literal_pairs ps hs)

-- ---- the forms of plain literals

-- each value of the form has P
abbrev Always : {T A : Type 0} → (A → Type 0) → Form T A → Type 0
Always {T} {A} P p = (a : A) (ts rest : List T) → p a ts rest → P a

text_always : Always NoFile form.text
text_always v ts rest h = subst NoFile h.3.0 (plain_text h.0)

number_always : Always NoFile form.number
number_always v ts rest h = subst NoFile h.3.0 (plain_int h.0)

negative_always : (n : ℕ) → Always NoFile (form.negative n)
negative_always n v ts rest h = subst NoFile h.3.3.0 (plain_int (neg_ℤ h.3.0))

some_is : {A : Type 0} {a b : A} → Some a ≡ Some b → a ≡ b
some_is is = cc

constant_no_file : (κ : Terminal) (v : Literal) → constant_by κ ≡ Some v → NoFile v
constant_no_file w.Nothing v is = subst NoFile (some_is is) plain_nothing
constant_no_file w.True v is = subst NoFile (some_is is) (plain_bool true)
constant_no_file w.False v is = subst NoFile (some_is is) (plain_bool false)
constant_no_file _ v is = cc

constant_always : Always NoFile (one constant_of)
constant_always v [] rest h = elim h [ ]
constant_always v (t ∷ ts) rest h = constant_no_file (terminal t) v h.0

literal_always : (n : ℕ) → Always NoFile (form.literal n)
literal_always n v ts rest (inl h) = negative_always n v ts rest h
literal_always n v ts rest (inr (inl h)) = number_always v ts rest h
literal_always n v ts rest (inr (inr (inl h))) = text_always v ts rest h
literal_always n v ts rest (inr (inr (inr h))) = constant_always v ts rest h

-- ---- keys

module _ (keys : List Literal) where
  key_always : (n : ℕ) → Always NoFile (form.key keys n)
  key_always n v ts rest (inl h) = subst NoFile h.3.0 (plain_int h.0)
  key_always n v ts rest (inr (inl h)) = subst NoFile h.3.3.0 (plain_int (neg_ℤ h.3.0))
  key_always n v ts rest (inr (inr h)) = subst NoFile h.3.0 (plain_text h.0)

  key_below_always : (n : ℕ) → Always NoFile (below (form.key keys) n)
  key_below_always zero v ts rest h = elim h [ ]
  key_below_always (suc n) v ts rest h = key_always n v ts rest h

-- ---- deep literals

tail_always : {T S C A : Type 0} (P : A → Type 0) (c : T → Option C) (p : S → Form T A) (step : S → A → S) → ((s : S) → Always P (p s)) → (s : S) → Always (Each P) (tail c p step s)
tail_always P c p step all s [] ts rest h = tt
tail_always P c p step all s (a ∷ more) ts rest h = (all s a h.1 h.3 h.4, tail_always P c p step all (step s a) more h.3 rest h.5)

module _ (n : ℕ) (inside : Form Token Literal) (all : Always NoFile inside) where
  more_items_always : (first : Literal) → NoFile first → Always (Each NoFile) (form.more_items n inside first)
  more_items_always first f vs ts rest h =
      subst (Each NoFile) h.3.0 (f, tail_always NoFile (is w.Comma) (λ (s : Unit {0}). inside) (λ (s : Unit {0}) (a : Literal). s) (λ s. all) tt h.0 ts h.1 h.2)

  items_always : Always (Each NoFile) (form.items n inside)
  items_always vs ts rest (inl h) = more_items_always h.0 (all h.0 ts h.1 h.2) vs h.1 rest h.3
  items_always vs ts rest (inr h) = subst (Each NoFile) h.0 tt

  square_always : Always NoFile (form.square n inside)
  square_always v ts rest h = subst NoFile h.3.3.3.0 (list_no_file h.3.0 (items_always h.3.0 h.1 h.3.1 h.3.2))

  pair_always : (keys : List Literal) → Always NoFiles (form.pair n inside keys)
  pair_always keys p ts rest h = subst NoFiles h.3.3.3.0 (key_below_always keys n h.0 ts h.1 h.2, all h.3.3.0 h.3.1 h.3.3.1 h.3.3.2)

  pairs_from_always : (keys : List Literal) (first : Pair) → NoFiles first → Always (Each NoFiles) (form.pairs_from n inside keys first)
  pairs_from_always keys first f ps ts rest h =
      subst (Each NoFiles) h.3.0 (f, tail_always NoFiles (is w.Comma) (form.pair n inside) with_key pair_always keys h.0 ts h.1 h.2)

  pairs_always : Always (Each NoFiles) (form.pairs n inside)
  pairs_always ps ts rest (inl h) = pairs_from_always (with_key [] h.0) h.0 (pair_always [] h.0 ts h.1 h.2) ps h.1 rest h.3
  pairs_always ps ts rest (inr h) = subst (Each NoFiles) h.0 tt

  curly_always : Always NoFile (form.curly n inside)
  curly_always v ts rest h = subst NoFile h.3.3.3.0 (dict_no_file h.3.0 (pairs_always h.3.0 h.1 h.3.1 h.3.2))

  deep_always : Always NoFile (form.deep n inside)
  deep_always v ts rest (inl h) = literal_always n v ts rest h
  deep_always v ts rest (inr (inl h)) = square_always v ts rest h
  deep_always v ts rest (inr (inr h)) = curly_always v ts rest h

inner_literal_always : (n : ℕ) → Always NoFile (inner_literal n)
unfolding inner_literal
inner_literal_always zero v ts rest h = elim h [ ]
inner_literal_always (suc n) v ts rest h = deep_always n (inner_literal n) (inner_literal_always n) v ts rest h

deep_literal_always : (n : ℕ) → Always NoFile (deep_literal n)
unfolding deep_literal
deep_literal_always n = deep_always n (inner_literal n) (inner_literal_always n)

literal_text_always : (n : ℕ) → Always NoFile (literal_text n)
literal_text_always n v ts rest h = subst NoFile h.3.3.3.0 (deep_literal_always n h.0 ts h.1 h.2)

literal_no_file : (ts : List Token) (v : Literal) → IsLiteral ts v → NoFile v
unfolding IsLiteral
literal_no_file ts v h = literal_text_always 64 v ts [] h

-- a literal is itself in any model of files
pub holds_no_file : {F : Type 0} (file : F → FileValue) (text : List ℕ) (v : Literal) → Spells text v → with_files file (plain {F = F} v) ≡ v
holds_no_file file text v s = with_files_plain file v ∙ literal_no_file s.tokens v s.literal
