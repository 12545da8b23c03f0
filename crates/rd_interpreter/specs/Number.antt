-- The whole numbers of texts, in the steps of the program.
use Rattle.std.specs.Prelude.{ℕ, ◌-◌, ◌^◌, min, if◌then◌else◌, Option, None, Some}
use Rattle.rd_interpreter.specs.Texts.{is_digit}

-- a number, or the greatest of 64 bits where it is more
abbrev pub capped : ℕ → ℕ
capped n = min n (2 ^ 64 - 1)

-- the digit that a byte is
abbrev pub digit_at : ℕ → Option ℕ
digit_at b = if is_digit b then Some (b - 48) else None
