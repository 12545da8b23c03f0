-- What byte strings and integers mean where they stand.
use Rattle.std.specs.Prelude.{ℕ, ℤ, pos, Bool, true, false, ◌==◌, if◌then◌else◌, List, [], ◌∷◌, length, Option, Some, None}
use Rattle.std.specs.Ordering.{int_eq}
use Rattle.std.specs.Str.{is_utf8, bytes_eq}
use Rattle.rd_base.specs.Path.{is_path}
use Rattle.rd_base.specs.declared.digest.Digest.{Digest}
use Rattle.rd_value.specs.Class.{name}
use Rattle.rd_value.specs.declared.class.Class.{Class}
use Rattle.rd_value.specs.declared.class.Class.TheVariants.{Exception, ValueError, TypeError, KeyError, IndexError, ZeroDivisionError, OverflowError, FileNotFoundError, PermissionError, RuntimeError, RecursionError, AttributeError, NameError, LimitError}

-- UTF-8
unfoldable pub text_of : List ℕ → Option (List ℕ)
text_of bs = if is_utf8 bs then Some bs else None

-- a lawful path, in UTF-8
unfoldable pub path_of : List ℕ → Option (List ℕ)
path_of bs = if is_path bs then text_of bs else None

-- 32 bytes
unfoldable pub digest_of : List ℕ → Option Digest
digest_of bs = if length bs == 32 then Some (record { 0 = bs }) else None

-- the one of these classes that has this name
abbrev pub class_in : List Class → List ℕ → Option Class
class_in [] bs = None
class_in (c ∷ cs) bs = if bytes_eq bs (name c) then Some c else class_in cs bs

abbrev pub classes : List Class
classes = Exception ∷ ValueError ∷ TypeError ∷ KeyError ∷ IndexError ∷ ZeroDivisionError ∷ OverflowError ∷ FileNotFoundError ∷ PermissionError ∷ RuntimeError ∷ RecursionError ∷ AttributeError ∷ NameError ∷ LimitError ∷ []

unfoldable pub class_of : List ℕ → Option Class
class_of bs = class_in classes bs

-- 0 or 1
abbrev pub flag_of : ℤ → Option Bool
flag_of z = if int_eq z (pos 0) then Some false else if int_eq z (pos 1) then Some true else None
