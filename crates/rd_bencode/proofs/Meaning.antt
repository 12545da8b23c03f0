-- What texts and paths are told by.
use Rattle.std.proofs.Common.{◌≡◌, Bool, true, false, List, ℕ, Some, None, Ok, Err, Option, Result, cond, refl}
use Rattle.std.specs.Str.{IsUtf8, is_utf8}
use Rattle.std.proofs.lemmas.Str.{IsUtf8-from_is_utf8, is_utf8-from_IsUtf8}
use Rattle.rd_base.specs.Path.{is_path}
use Rattle.rd_bencode.specs.Meaning.{text_of, path_of}

not_utf8 : (bs : List ℕ) (b : Bool) → is_utf8 bs ≡ b → ¬ (IsUtf8 bs) → b ≡ false
not_utf8 bs true e bad = absurd (bad (IsUtf8-from_is_utf8 bs e))
not_utf8 bs false e bad = refl

pub is_text : (bs : List ℕ) → IsUtf8 bs → text_of bs ≡ Some bs
unfolding text_of
is_text bs h = rw (is_utf8-from_IsUtf8 bs h) refl

pub no_text : (bs : List ℕ) → ¬ (IsUtf8 bs) → text_of bs ≡ None
unfolding text_of
no_text bs bad = rw (not_utf8 bs (is_utf8 bs) refl bad) refl

pub is_path_text : (bs : List ℕ) → IsUtf8 bs → is_path bs ≡ true → path_of bs ≡ Some bs
unfolding path_of
is_path_text bs h p = rw (p, is_text bs h) refl

pub refused_path : (bs : List ℕ) → is_path bs ≡ false → path_of bs ≡ None
unfolding path_of
refused_path bs p = rw p refl

by_way : (b : Bool) (o : Option (List ℕ)) → o ≡ None → (let n : Option (List ℕ) = None in (let c : Option (List ℕ) = cond b o n in c)) ≡ None
by_way true o e = e
by_way false o e = refl

pub no_path_text : (bs : List ℕ) → ¬ (IsUtf8 bs) → path_of bs ≡ None
unfolding path_of
no_path_text bs bad = by_way (is_path bs) (text_of bs) (no_text bs bad)

-- what isn't refused is a path
pub told_path : {A E : Type 0} (b : Bool) (a : A) (e : E) (r : Result A E) → r ≡ Ok a → (b ≡ false → r ≡ Err e) → b ≡ true
told_path true a e r is f = refl
told_path false a e r is f = absurd (let h : r ≡ Err e = f refl in cc)
