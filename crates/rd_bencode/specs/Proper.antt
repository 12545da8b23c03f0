-- Values and expressions that a program can hold.
use Rattle.std.specs.Prelude.{◌≡◌, ℕ, Bool, true, false, not, FitsSigned, List, [], ◌∷◌, ◌++◌, length}
use Rattle.std.specs.Int.{w64}
use Rattle.std.specs.Str.{IsUtf8}
use Rattle.rd_base.specs.Path.{is_path}
use Rattle.rd_value.specs.declared.value.FileValue.{FileValue}
use Rattle.rd_value.specs.declared.value.Datum.{Datum}
use Rattle.rd_value.specs.declared.value.Datum.TheVariants as value
use Rattle.rd_value.specs.declared.value.Datum.TheOpen.{Datum-F}
use Rattle.rd_value.specs.declared.value.Datum.TheFolds.{every-Datum}
use Rattle.std.specs.List.{list_all}
use Rattle.rd_value.specs.declared.expr.OpKind.{OpKind}
use Rattle.rd_value.specs.declared.expr.OpKind.TheVariants.{Neg}
use Rattle.rd_value.specs.declared.expr.Lazy.{Lazy}
use Rattle.rd_value.specs.declared.expr.Lazy.TheOpen.{Lazy-F}
use Rattle.rd_value.specs.declared.expr.Lazy.TheFolds.{every-Lazy}
use Rattle.rd_bencode.specs.Values.{Value, new_number, new_text}
use Rattle.rd_bencode.specs.Exprs.{is_val}

-- an Int or a Text that is none of these keys
abbrev pub is_new : List Value → Value → Bool
is_new keys (value.Int z) = new_number keys z
is_new keys (value.Text t) = new_text keys t
is_new keys _ = false

-- each key is an Int or a Text, and none of the keys before it
abbrev pub AreNew : {A : Type 0} → List Value → List (Value × A) → Type 0
AreNew keys [] = Unit {0}
AreNew keys (p ∷ ps) = (is_new keys p.0 ≡ true) × AreNew (keys ++ p.0 ∷ []) ps

-- a number of 64 bits, texts in UTF-8, a lawful path in UTF-8 with a digest of 32 bytes, and keys that are Int or Text, each once
abbrev pub IsProperAt : Datum-F FileValue (Datum FileValue) → Type 0
IsProperAt (Datum-F.Int n) = FitsSigned w64 n
IsProperAt (Datum-F.Text t) = IsUtf8 t
IsProperAt (Datum-F.Dict ps) = AreNew [] ps
IsProperAt (Datum-F.File f) = (is_path f.path ≡ true) × IsUtf8 f.path × (length f.digest.0 ≡ 32)
IsProperAt (Datum-F.Error e) = IsUtf8 e.text
IsProperAt _ = Unit {0}

-- the same of every part
abbrev pub IsProper : Datum FileValue → Type 0
IsProper = every-Datum FileValue IsProperAt

-- how many parts an operator takes
abbrev pub arity : OpKind → ℕ
arity Neg = 1
arity _ = 2

-- each name is in UTF-8
abbrev pub AreTexts : {A : Type 0} → List (List ℕ × A) → Type 0
AreTexts [] = Unit {0}
AreTexts (k ∷ ks) = IsUtf8 k.0 × AreTexts ks

-- each key is proper
abbrev pub AreProperKeys : {A : Type 0} → List (Value × A) → Type 0
AreProperKeys [] = Unit {0}
AreProperKeys (p ∷ ps) = IsProper p.0 × AreProperKeys ps

-- Proper values, texts in UTF-8, lawful paths, as many parts as an operator takes, keys that are Int or Text, each once;
-- and a list or a dict of values alone is a value.
abbrev pub IsProperExprAt : Lazy-F FileValue (Lazy FileValue) → Type 0
IsProperExprAt (Lazy-F.Val v) = IsProper v
IsProperExprAt (Lazy-F.Call t es ks) = IsUtf8 t × AreTexts ks
IsProperExprAt (Lazy-F.Input p) = (is_path p ≡ true) × IsUtf8 p
IsProperExprAt (Lazy-F.Op o es) = length es ≡ arity o
IsProperExprAt (Lazy-F.ListOf es) = not (list_all is_val es) ≡ true
IsProperExprAt (Lazy-F.DictOf ps) = AreProperKeys ps × AreNew [] ps × (not (list_all (λ p. is_val p.1) ps) ≡ true)
IsProperExprAt (Lazy-F.Map t e) = IsUtf8 t
IsProperExprAt (Lazy-F.Catch e c t) = IsUtf8 t
IsProperExprAt _ = Unit {0}

-- the same of every part
abbrev pub IsProperExpr : Lazy FileValue → Type 0
IsProperExpr = every-Lazy FileValue IsProperExprAt
