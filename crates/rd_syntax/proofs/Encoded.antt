-- The table of well-formed sequences gives the characters past ASCII in UTF-8, and no others.
use Rattle.std.specs.Prelude.{◌==◌, nat_le}
use Rattle.std.specs.Char.{IsScalar}
use Rattle.std.proofs.Common.{◌≡◌, ℕ, ◌+◌, ◌-◌, ◌*◌, ◌/◌, ◌%◌, ◌≤◌, ◌<◌, Bool, true, false, cond, ◌&&◌, List, [], ◌∷◌, Option, Some, None, refl, sym, ap, subst, ◌∙◌, arith, rules, tests, ltb, ◌⊎◌, inl, inr, leb-true, le-leb, eqb-true, eq-eqb, ltb-true, ltb-false}
use Rattle.std.proofs.lemmas.Nat.{div-mul-add, mod-mul-add, div-add-mod', mod_below}
use Rattle.std.proofs.lemmas.Str.{IsUtf8-encode}
use Rattle.std.specs.Str.{IsUtf8}
use lib.Utf8.{encode, scalar, scalar_cases, low_scalar}
use Rattle.rd_syntax.specs.Bytes.{between}
use Rattle.rd_syntax.specs.Utf8.{lead_of, follows, rest_of, Tails, IsWide}
use Rattle.rd_syntax.specs.declared.utf8.Tail.{Tail}
use Rattle.rd_syntax.specs.declared.utf8.Tail.TheVariants as t

-- ---- numbers

below : (a b : ℕ) → a < b → ltb a b ≡ true
below a b h = search (rules, tests)

not_below : (a b : ℕ) → b ≤ a → ltb a b ≡ false
not_below a b h = search (rules, tests)

pub and_true : (a b : Bool) → (a && b) ≡ true → (a ≡ true) × (b ≡ true)
and_true true true h = (refl, refl)
and_true true false h = absurd cc
and_true false b h = absurd cc

pub between_true : (a b x : ℕ) → between a b x ≡ true → (a ≤ x) × (x ≤ b)
between_true a b x h = let p = and_true (nat_le a x) (nat_le x b) h in (leb-true a x p.0, leb-true x b p.1)

is_between : (a b x : ℕ) → a ≤ x → x ≤ b → between a b x ≡ true
is_between a b x low high = rw (le-leb a x low, le-leb x b high) refl

not_between_low : (a b x : ℕ) → x < a → between a b x ≡ false
not_between_low a b x low = let e : nat_le a x ≡ false = search (rules, tests) in rw e refl

not_between_high : (a b x : ℕ) → b < x → between a b x ≡ false
not_between_high a b x high = let e : nat_le x b ≡ false = search (rules, tests) in way (nat_le a x) e
  where
    way : (t : Bool) → nat_le x b ≡ false → (t && nat_le x b) ≡ false
    way true e = e
    way false e = refl

differs : (a b : ℕ) → a < b → (a == b) ≡ false
differs a b h = search (rules, tests)

exceeds : (a b : ℕ) → b < a → (a == b) ≡ false
exceeds a b h = search (rules, tests)

-- ---- the bytes of a character

pub two_bytes : (c : ℕ) → 128 ≤ c → c < 2048 → encode c ≡ (192 + c / 64) ∷ (128 + c % 64) ∷ []
unfolding encode
two_bytes c low high = rw (not_below c 128 low, below c 2048 high) refl

three_bytes : (c : ℕ) → 2048 ≤ c → c < 65536 → encode c ≡ (224 + c / 4096) ∷ (128 + c / 64 % 64) ∷ (128 + c % 64) ∷ []
unfolding encode
three_bytes c low high = rw (not_below c 128 (omega arith), not_below c 2048 low, below c 65536 high) refl

four_bytes : (c : ℕ) → 65536 ≤ c → encode c ≡ (240 + c / 262144) ∷ (128 + c / 4096 % 64) ∷ (128 + c / 64 % 64) ∷ (128 + c % 64) ∷ []
unfolding encode
four_bytes c low = rw (not_below c 128 (omega arith), not_below c 2048 (omega arith), not_below c 65536 low) refl

pub at_two : (x y : ℕ) → 2 ≤ x → x < 32 → y < 64 → encode (x * 64 + y) ≡ (192 + x) ∷ (128 + y) ∷ []
at_two x y low high y_is = two_bytes (x * 64 + y) (omega arith) (omega arith) ∙ rw (div-mul-add x 64 y y_is, mod-mul-add x 64 y y_is) refl

at_three : (x y z : ℕ) → x < 16 → y < 64 → z < 64 → 2048 ≤ (x * 64 + y) * 64 + z → encode ((x * 64 + y) * 64 + z) ≡ (224 + x) ∷ (128 + y) ∷ (128 + z) ∷ []
at_three x y z high y_is z_is long =
    let c : ℕ = (x * 64 + y) * 64 + z in
    let d : c / 4096 ≡ x = ap (λ n. n / 4096) (let e : c ≡ x * 4096 + (y * 64 + z) = omega arith in e) ∙ div-mul-add x 4096 (y * 64 + z) (omega arith) in
    three_bytes c long (omega arith) ∙ rw (d, div-mul-add (x * 64 + y) 64 z z_is, mod-mul-add x 64 y y_is, mod-mul-add (x * 64 + y) 64 z z_is) refl

at_four : (w x y z : ℕ) → x < 64 → y < 64 → z < 64 → 65536 ≤ ((w * 64 + x) * 64 + y) * 64 + z
    → encode (((w * 64 + x) * 64 + y) * 64 + z) ≡ (240 + w) ∷ (128 + x) ∷ (128 + y) ∷ (128 + z) ∷ []
at_four w x y z x_is y_is z_is long =
    let c : ℕ = ((w * 64 + x) * 64 + y) * 64 + z in
    let d : c / 262144 ≡ w = ap (λ n. n / 262144) (let e : c ≡ w * 262144 + (x * 4096 + (y * 64 + z)) = omega arith in e) ∙ div-mul-add w 262144 (x * 4096 + (y * 64 + z)) (omega arith) in
    let f : c / 4096 ≡ w * 64 + x = ap (λ n. n / 4096) (let e : c ≡ (w * 64 + x) * 4096 + (y * 64 + z) = omega arith in e) ∙ div-mul-add (w * 64 + x) 4096 (y * 64 + z) (omega arith) in
    four_bytes c long
    ∙ rw (d, f, mod-mul-add w 64 x x_is, div-mul-add ((w * 64 + x) * 64 + y) 64 z z_is, mod-mul-add (w * 64 + x) 64 y y_is, mod-mul-add ((w * 64 + x) * 64 + y) 64 z z_is) refl

-- the number is three or four digits to the base 64
digit : (c : ℕ) → (c ≡ c / 64 * 64 + c % 64) × (c % 64 < 64)
digit c = (sym (div-add-mod' c 64), mod_below c 64 (omega arith))

-- ---- the table

abbrev Leads : Option Tail → ℕ → Type 0
Leads None b = Unit {0}
Leads (Some t.One) b = (194 ≤ b) × (b ≤ 223)
Leads (Some t.LongTwo) b = b ≡ 224
Leads (Some t.NoSurrogate) b = b ≡ 237
Leads (Some t.Two) b = (225 ≤ b) × (b ≤ 239) × ((b == 237) ≡ false)
Leads (Some t.LongThree) b = b ≡ 240
Leads (Some t.Three) b = (241 ≤ b) × (b ≤ 243)
Leads (Some t.LastThree) b = b ≡ 244

choose : (t : Bool) (x y : Option Tail) (b : ℕ) → (t ≡ true → Leads x b) → (t ≡ false → Leads y b) → Leads (cond t x y) b
choose true x y b h k = h refl
choose false x y b h k = k refl

leads : (b : ℕ) → Leads (lead_of b) b
unfolding lead_of
leads b =
    choose (between 0xC2 0xDF b) (Some t.One) _ b (between_true 0xC2 0xDF b) (λ _.
    choose (b == 0xE0) (Some t.LongTwo) _ b (eqb-true b 0xE0) (λ _.
    choose (b == 0xED) (Some t.NoSurrogate) _ b (eqb-true b 0xED) (λ surrogate.
    choose (between 0xE1 0xEF b) (Some t.Two) _ b (λ e. (let p = between_true 0xE1 0xEF b e in (p.0, p.1, surrogate))) (λ _.
    choose (b == 0xF0) (Some t.LongThree) _ b (eqb-true b 0xF0) (λ _.
    choose (between 0xF1 0xF3 b) (Some t.Three) _ b (between_true 0xF1 0xF3 b) (λ _.
    choose (b == 0xF4) (Some t.LastThree) None b (eqb-true b 0xF4) (λ _. tt)))))))

abbrev least : Tail → ℕ
least t.LongTwo = 160
least t.LongThree = 144
least _ = 128

abbrev most : Tail → ℕ
most t.NoSurrogate = 159
most t.LastThree = 143
most _ = 191

pub follows_range : (t : Tail) (b : ℕ) → follows t b ≡ true → (least t ≤ b) × (b ≤ most t)
unfolding follows
follows_range t.One b h = between_true 128 191 b h
follows_range t.Two b h = between_true 128 191 b h
follows_range t.Three b h = between_true 128 191 b h
follows_range t.LongTwo b h = between_true 160 191 b h
follows_range t.NoSurrogate b h = between_true 128 159 b h
follows_range t.LongThree b h = between_true 144 191 b h
follows_range t.LastThree b h = between_true 128 143 b h

in_range : (t : Tail) (b : ℕ) → least t ≤ b → b ≤ most t → follows t b ≡ true
unfolding follows
in_range t.One b h k = is_between 128 191 b h k
in_range t.Two b h k = is_between 128 191 b h k
in_range t.Three b h k = is_between 128 191 b h k
in_range t.LongTwo b h k = is_between 160 191 b h k
in_range t.NoSurrogate b h k = is_between 128 159 b h k
in_range t.LongThree b h k = is_between 144 191 b h k
in_range t.LastThree b h k = is_between 128 143 b h k

-- ---- from the character to the table

pub split : (a b : ℕ) → (a < b) ⊎ (b ≤ a)
split a b = way (ltb a b) refl
  where
    way : (t : Bool) → ltb a b ≡ t → (a < b) ⊎ (b ≤ a)
    way true e = inl (ltb-true a b e)
    way false e = inr (ltb-false a b e)

apart : (a b : ℕ) → (a == b) ≡ false → (a < b) ⊎ (b < a)
apart a b h =
    elim (split a b) [
      | inl lt ↦ inl lt
      | inr le ↦ elim (split b a) [
        | inl lt ↦ inr lt
        | inr ge ↦ absurd (let e : (a == b) ≡ true = eq-eqb a b (omega arith) in let no : true ≡ false = sym e ∙ h in cc)
      ]
    ]

lead_two : (x : ℕ) → 2 ≤ x → x < 32 → lead_of (192 + x) ≡ Some t.One
unfolding lead_of
lead_two x low high = rw (is_between 194 223 (192 + x) (omega arith) (omega arith)) refl

lead_long_two : lead_of 224 ≡ Some t.LongTwo
unfolding lead_of
lead_long_two = refl

lead_no_surrogate : lead_of 237 ≡ Some t.NoSurrogate
unfolding lead_of
lead_no_surrogate = refl

lead_three : (x : ℕ) → 1 ≤ x → x < 16 → ((224 + x) == 237) ≡ false → lead_of (224 + x) ≡ Some t.Two
unfolding lead_of
lead_three x low high unlike =
    rw (not_between_high 194 223 (224 + x) (omega arith), exceeds (224 + x) 224 (omega arith), unlike, is_between 225 239 (224 + x) (omega arith) (omega arith)) refl

lead_long_three : lead_of 240 ≡ Some t.LongThree
unfolding lead_of
lead_long_three = refl

lead_last_three : lead_of 244 ≡ Some t.LastThree
unfolding lead_of
lead_last_three = refl

lead_four : (w : ℕ) → 1 ≤ w → w < 4 → lead_of (240 + w) ≡ Some t.Three
unfolding lead_of
lead_four w low high =
    rw (not_between_high 194 223 (240 + w) (omega arith), exceeds (240 + w) 224 (omega arith), exceeds (240 + w) 237 (omega arith), not_between_high 225 239 (240 + w) (omega arith), exceeds (240 + w) 240 (omega arith), is_between 241 243 (240 + w) (omega arith) (omega arith)) refl

rest_in : (y : ℕ) → y < 64 → follows t.One (128 + y) ≡ true
rest_in y h = in_range t.One (128 + y) (omega arith) (omega arith)

two_wide : (x y : ℕ) → 2 ≤ x → x < 32 → y < 64 → IsWide (192 + x) ((128 + y) ∷ [])
two_wide x y low high y_is = (t.One, lead_two x low high, (rest_in y y_is, tt))

module _ (x y z : ℕ) (high : x < 16) (y_is : y < 64) (z_is : z < 64) (long : 2048 ≤ (x * 64 + y) * 64 + z) where
  zero_wide : x ≡ 0 → IsWide (224 + x) ((128 + y) ∷ (128 + z) ∷ [])
  zero_wide e = rw e (t.LongTwo, lead_long_two, (in_range t.LongTwo (128 + y) (omega arith) (omega arith), (rest_in z z_is, tt)))

  surrogates_wide : x ≡ 13 → (x * 64 + y) * 64 + z < 55296 → IsWide (224 + x) ((128 + y) ∷ (128 + z) ∷ [])
  surrogates_wide e short = rw e (t.NoSurrogate, lead_no_surrogate, (in_range t.NoSurrogate (128 + y) (omega arith) (omega arith), (rest_in z z_is, tt)))

  other_wide : 1 ≤ x → ((224 + x) == 237) ≡ false → IsWide (224 + x) ((128 + y) ∷ (128 + z) ∷ [])
  other_wide low unlike = (t.Two, lead_three x low high unlike, (in_range t.Two (128 + y) (omega arith) (omega arith), (rest_in z z_is, tt)))

  three_wide : ((x * 64 + y) * 64 + z < 55296) ⊎ ((57344 ≤ (x * 64 + y) * 64 + z) × ((x * 64 + y) * 64 + z < 1114112)) → IsWide (224 + x) ((128 + y) ∷ (128 + z) ∷ [])
  three_wide s =
      elim (split x 1) [
        | inl lt ↦ zero_wide (omega arith)
        | inr low ↦ way low ((224 + x) == 237) refl
      ]
    where
      way : 1 ≤ x → (t : Bool) → ((224 + x) == 237) ≡ t → IsWide (224 + x) ((128 + y) ∷ (128 + z) ∷ [])
      way low false e = other_wide low e
      way low true e =
          let at : 224 + x ≡ 237 = eqb-true (224 + x) 237 e in
          elim s [
            | inl short ↦ surrogates_wide (omega arith) short
            | inr far ↦ absurd (let no : 57344 ≤ (x * 64 + y) * 64 + z = far.0 in omega arith)
          ]

module _ (w x y z : ℕ) (x_is : x < 64) (y_is : y < 64) (z_is : z < 64) (long : 65536 ≤ ((w * 64 + x) * 64 + y) * 64 + z) (last : ((w * 64 + x) * 64 + y) * 64 + z < 1114112) where
  four_wide : IsWide (240 + w) ((128 + x) ∷ (128 + y) ∷ (128 + z) ∷ [])
  four_wide =
      elim (split w 1) [
        | inl lt ↦ first (omega arith)
        | inr low ↦ elim (split w 4) [
          | inl lt ↦ (t.Three, lead_four w low lt, (in_range t.Three (128 + x) (omega arith) (omega arith), (in_range t.Two (128 + y) (omega arith) (omega arith), (rest_in z z_is, tt))))
          | inr le ↦ final (omega arith)
        ]
      ]
    where
      first : w ≡ 0 → IsWide (240 + w) ((128 + x) ∷ (128 + y) ∷ (128 + z) ∷ [])
      first e = rw e (t.LongThree, lead_long_three, (in_range t.LongThree (128 + x) (omega arith) (omega arith), (in_range t.Two (128 + y) (omega arith) (omega arith), (rest_in z z_is, tt))))

      final : w ≡ 4 → IsWide (240 + w) ((128 + x) ∷ (128 + y) ∷ (128 + z) ∷ [])
      final e = rw e (t.LastThree, lead_last_three, (in_range t.LastThree (128 + x) (omega arith) (omega arith), (in_range t.Two (128 + y) (omega arith) (omega arith), (rest_in z z_is, tt))))

-- the bytes of a character past ASCII
abbrev pub Wide : ℕ → Type 0
Wide c = (b : ℕ) × (more : List ℕ) × (encode c ≡ b ∷ more) × IsWide b more

pub wide : (c : ℕ) → IsScalar c → 128 ≤ c → Wide c
wide c s low =
    let z : ℕ = c % 64 in
    let q : ℕ = c / 64 in
    let y : ℕ = q % 64 in
    let p : ℕ = q / 64 in
    let x : ℕ = p % 64 in
    let w : ℕ = p / 64 in
    let dc : c ≡ q * 64 + z = (digit c).0 in
    let dq : q ≡ p * 64 + y = (digit q).0 in
    let dp : p ≡ w * 64 + x = (digit p).0 in
    let lz : z < 64 = (digit c).1 in
    let ly : y < 64 = (digit q).1 in
    let lx : x < 64 = (digit p).1 in
    let three : c ≡ (p * 64 + y) * 64 + z = omega arith in
    let four : c ≡ ((w * 64 + x) * 64 + y) * 64 + z = omega arith in
    elim (split c 2048) [
      | inl two ↦ (192 + q, (128 + z) ∷ [], two_bytes c low two, two_wide q z (omega arith) (omega arith) lz)
      | inr long ↦ elim (split c 65536) [
        | inl short ↦ (
          224 + p,
          (128 + y) ∷ (128 + z) ∷ [],
          ap encode three ∙ at_three p y z (omega arith) ly lz (omega arith),
          three_wide p y z (omega arith) ly lz (omega arith) (subst (λ n. (n < 55296) ⊎ ((57344 ≤ n) × (n < 1114112))) three (scalar_cases c s)),
        )
        | inr longest ↦ (
          240 + w,
          (128 + x) ∷ (128 + y) ∷ (128 + z) ∷ [],
          ap encode four ∙ at_four w x y z lx ly lz (omega arith),
          four_wide w x y z lx ly lz (omega arith) (elim (scalar_cases c s) [ inl h ↦ omega arith | inr h ↦ (let top : c < 1114112 = h.1 in omega arith) ]),
        )
      ]
    ]

-- ---- from the table to the character

abbrev pub Spelled : ℕ → List ℕ → Type 0
Spelled b more = (c : ℕ) × IsScalar c × (128 ≤ c) × (encode c ≡ b ∷ more)

high_scalar : (c : ℕ) → 57344 ≤ c → c < 1114112 → scalar c ≡ true
high_scalar c low high = rw (not_below c 55296 (omega arith), le-leb 57344 c low, below c 1114112 high) refl

two_spelled : (b d : ℕ) → 194 ≤ b → b ≤ 223 → 128 ≤ d → d ≤ 191 → Spelled b (d ∷ [])
two_spelled b d low high d_low d_high =
    let x : ℕ = b - 192 in
    let y : ℕ = d - 128 in
    let eb : 192 + x ≡ b = omega arith in
    let ed : 128 + y ≡ d = omega arith in
    (x * 64 + y, low_scalar (x * 64 + y) (omega arith), omega arith, at_two x y (omega arith) (omega arith) (omega arith) ∙ rw (eb, ed) refl)

three_spelled : (x y z b d e : ℕ) → b ≡ 224 + x → d ≡ 128 + y → e ≡ 128 + z → x < 16 → y < 64 → z < 64 → 2048 ≤ (x * 64 + y) * 64 + z → IsScalar ((x * 64 + y) * 64 + z) → Spelled b (d ∷ e ∷ [])
three_spelled x y z b d e eb ed ee high y_is z_is long s = ((x * 64 + y) * 64 + z, s, omega arith, at_three x y z high y_is z_is long ∙ rw (sym eb, sym ed, sym ee) refl)

four_spelled : (w x y z b d e f : ℕ) → b ≡ 240 + w → d ≡ 128 + x → e ≡ 128 + y → f ≡ 128 + z → x < 64 → y < 64 → z < 64 → 65536 ≤ ((w * 64 + x) * 64 + y) * 64 + z → ((w * 64 + x) * 64 + y) * 64 + z < 1114112
    → Spelled b (d ∷ e ∷ f ∷ [])
four_spelled w x y z b d e f eb ed ee ef x_is y_is z_is long last =
    (((w * 64 + x) * 64 + y) * 64 + z, high_scalar (((w * 64 + x) * 64 + y) * 64 + z) (omega arith) last, omega arith, at_four w x y z x_is y_is z_is long ∙ rw (sym eb, sym ed, sym ee, sym ef) refl)

above : (a b : ℕ) → a ≤ b → b ≡ a + (b - a)
above a b h = omega arith

-- the byte of a character in the middle, from so many on
abbrev Inside : ℕ → ℕ → ℕ → Type 0
Inside a b d = (a ≤ d) × (d ≤ b)

three_at : (x b d e : ℕ) → b ≡ 224 + x → x < 16 → Inside 128 191 d → Inside 128 191 e → 2048 ≤ (x * 64 + (d - 128)) * 64 + (e - 128) → IsScalar ((x * 64 + (d - 128)) * 64 + (e - 128)) → Spelled b (d ∷ e ∷ [])
three_at x b d e eb high d_in e_in long s =
    let ld : 128 ≤ d = d_in.0 in
    let le : 128 ≤ e = e_in.0 in
    let hd : d ≤ 191 = d_in.1 in
    let he : e ≤ 191 = e_in.1 in
    three_spelled x (d - 128) (e - 128) b d e eb (above 128 d ld) (above 128 e le) high (omega arith) (omega arith) long s

four_at : (w b d e f : ℕ) → b ≡ 240 + w → Inside 128 191 d → Inside 128 191 e → Inside 128 191 f
    → 65536 ≤ ((w * 64 + (d - 128)) * 64 + (e - 128)) * 64 + (f - 128) → ((w * 64 + (d - 128)) * 64 + (e - 128)) * 64 + (f - 128) < 1114112 → Spelled b (d ∷ e ∷ f ∷ [])
four_at w b d e f eb d_in e_in f_in long last =
    let ld : 128 ≤ d = d_in.0 in
    let le : 128 ≤ e = e_in.0 in
    let lf : 128 ≤ f = f_in.0 in
    let hd : d ≤ 191 = d_in.1 in
    let he : e ≤ 191 = e_in.1 in
    let hf : f ≤ 191 = f_in.1 in
    four_spelled w (d - 128) (e - 128) (f - 128) b d e f eb (above 128 d ld) (above 128 e le) (above 128 f lf) (omega arith) (omega arith) (omega arith) long last

none : (more : List ℕ) → Tails None more → more ≡ []
none [] h = refl
none (b ∷ more) h = absurd h

abbrev Next : Tail → List ℕ → Type 0
Next t more = (d : ℕ) × (rest : List ℕ) × (more ≡ d ∷ rest) × Inside (least t) (most t) d × Tails (rest_of t) rest

next_of : (t : Tail) (more : List ℕ) → Tails (Some t) more → Next t more
next_of t [] h = absurd h
next_of t (d ∷ rest) h = (d, rest, refl, follows_range t d h.0, h.1)

last_one : (more : List ℕ) → Tails (Some t.One) more → (e : ℕ) × (more ≡ e ∷ []) × Inside 128 191 e
last_one more h = let p = next_of t.One more h in (p.0, p.2 ∙ ap (λ (r : List ℕ). p.0 ∷ r) (none p.1 p.4), p.3)

last_two : (more : List ℕ) → Tails (Some t.Two) more → (d : ℕ) × (e : ℕ) × (more ≡ d ∷ e ∷ []) × Inside 128 191 d × Inside 128 191 e
last_two more h =
    let p = next_of t.Two more h in
    let q = last_one p.1 p.4 in
    (p.0, q.0, p.2 ∙ ap (λ (r : List ℕ). p.0 ∷ r) q.1, p.3, q.2)

module _ (b d e : ℕ) (e_in : Inside 128 191 e) where
  e_low : 128 ≤ e
  e_low = e_in.0

  e_high : e ≤ 191
  e_high = e_in.1

  long_two : b ≡ 224 → Inside 160 191 d → Spelled b (d ∷ e ∷ [])
  long_two eb d_in =
      let ld : 160 ≤ d = d_in.0 in
      let hd : d ≤ 191 = d_in.1 in
      let le : 128 ≤ e = e_low in
      let he : e ≤ 191 = e_high in
      three_at 0 b d e (omega arith) (omega arith) ((omega arith), hd) e_in (omega arith) (low_scalar ((0 * 64 + (d - 128)) * 64 + (e - 128)) (omega arith))

  no_surrogate : b ≡ 237 → Inside 128 159 d → Spelled b (d ∷ e ∷ [])
  no_surrogate eb d_in =
      let ld : 128 ≤ d = d_in.0 in
      let hd : d ≤ 159 = d_in.1 in
      let le : 128 ≤ e = e_low in
      let he : e ≤ 191 = e_high in
      three_at 13 b d e (omega arith) (omega arith) (ld, (omega arith)) e_in (omega arith) (low_scalar ((13 * 64 + (d - 128)) * 64 + (e - 128)) (omega arith))

  any_two : 225 ≤ b → b ≤ 239 → (b == 237) ≡ false → Inside 128 191 d → Spelled b (d ∷ e ∷ [])
  any_two low high unlike d_in =
      let ld : 128 ≤ d = d_in.0 in
      let hd : d ≤ 191 = d_in.1 in
      let le : 128 ≤ e = e_low in
      let he : e ≤ 191 = e_high in
      let c : ℕ = ((b - 224) * 64 + (d - 128)) * 64 + (e - 128) in
      let s : IsScalar c = elim (apart b 237 unlike) [ inl lt ↦ low_scalar c (omega arith) | inr gt ↦ high_scalar c (omega arith) (omega arith) ] in
      three_at (b - 224) b d e (omega arith) (omega arith) d_in e_in (omega arith) s

module _ (b d e f : ℕ) (e_in : Inside 128 191 e) (f_in : Inside 128 191 f) where
  rest_bounds : (128 ≤ e) × (e ≤ 191) × (128 ≤ f) × (f ≤ 191)
  rest_bounds = (e_in.0, e_in.1, f_in.0, f_in.1)

  long_three : b ≡ 240 → Inside 144 191 d → Spelled b (d ∷ e ∷ f ∷ [])
  long_three eb d_in =
      let ld : 144 ≤ d = d_in.0 in
      let hd : d ≤ 191 = d_in.1 in
      let g = rest_bounds in
      four_at 0 b d e f (omega arith) ((omega arith), hd) e_in f_in (omega arith) (omega arith)

  last_three : b ≡ 244 → Inside 128 143 d → Spelled b (d ∷ e ∷ f ∷ [])
  last_three eb d_in =
      let ld : 128 ≤ d = d_in.0 in
      let hd : d ≤ 143 = d_in.1 in
      let g = rest_bounds in
      four_at 4 b d e f (omega arith) (ld, (omega arith)) e_in f_in (omega arith) (omega arith)

  any_three : 241 ≤ b → b ≤ 243 → Inside 128 191 d → Spelled b (d ∷ e ∷ f ∷ [])
  any_three low high d_in =
      let ld : 128 ≤ d = d_in.0 in
      let hd : d ≤ 191 = d_in.1 in
      let g = rest_bounds in
      four_at (b - 240) b d e f (omega arith) d_in e_in f_in (omega arith) (omega arith)

at_table : (b : ℕ) (t : Tail) (more : List ℕ) → Leads (Some t) b → Tails (Some t) more → Spelled b more
at_table b t.One more l h = let p = last_one more h in rw p.1 (two_spelled b p.0 l.0 l.1 p.2.0 p.2.1)
at_table b t.Two more l h = let p = last_two more h in rw p.2 (any_two b p.0 p.1 p.4 l.0 l.1 l.2 p.3)
at_table b t.LongTwo more l h =
    let p = next_of t.LongTwo more h in
    let q = last_one p.1 p.4 in
    rw (p.2 ∙ ap (λ (r : List ℕ). p.0 ∷ r) q.1) (long_two b p.0 q.0 q.2 l p.3)
at_table b t.NoSurrogate more l h =
    let p = next_of t.NoSurrogate more h in
    let q = last_one p.1 p.4 in
    rw (p.2 ∙ ap (λ (r : List ℕ). p.0 ∷ r) q.1) (no_surrogate b p.0 q.0 q.2 l p.3)
at_table b t.Three more l h =
    let p = next_of t.Three more h in
    let q = last_two p.1 p.4 in
    rw (p.2 ∙ ap (λ (r : List ℕ). p.0 ∷ r) q.2) (any_three b p.0 q.0 q.1 q.3 q.4 l.0 l.1 p.3)
at_table b t.LongThree more l h =
    let p = next_of t.LongThree more h in
    let q = last_two p.1 p.4 in
    rw (p.2 ∙ ap (λ (r : List ℕ). p.0 ∷ r) q.2) (long_three b p.0 q.0 q.1 q.3 q.4 l p.3)
at_table b t.LastThree more l h =
    let p = next_of t.LastThree more h in
    let q = last_two p.1 p.4 in
    rw (p.2 ∙ ap (λ (r : List ℕ). p.0 ∷ r) q.2) (last_three b p.0 q.0 q.1 q.3 q.4 l p.3)

pub spelled : (b : ℕ) (more : List ℕ) → IsWide b more → Spelled b more
spelled b more h = at_table b h.0 more (subst (λ (o : Option Tail). Leads o b) h.1 (leads b)) h.2

pub wide_utf8 : (b : ℕ) (more : List ℕ) → IsWide b more → IsUtf8 (b ∷ more)
wide_utf8 b more h = let q = spelled b more h in subst IsUtf8 q.3 (IsUtf8-encode q.0 q.1)

pub lead_high : (b : ℕ) (more : List ℕ) → IsWide b more → 128 ≤ b
lead_high b more h = way h.0 (subst (λ (o : Option Tail). Leads o b) h.1 (leads b))
  where
    way : (t : Tail) → Leads (Some t) b → 128 ≤ b
    way t.One l = let low : 194 ≤ b = l.0 in omega arith
    way t.Two l = let low : 225 ≤ b = l.0 in omega arith
    way t.Three l = let low : 241 ≤ b = l.0 in omega arith
    way t.LongTwo l = omega arith
    way t.NoSurrogate l = omega arith
    way t.LongThree l = omega arith
    way t.LastThree l = omega arith
