-- Moments.
use Rattle.std.specs.Prelude.{ℕ}

-- the last moment that a clock tells, in nanoseconds since the year 1970 began in UTC
abbrev pub latest : ℕ
latest = 9223372036854775807
