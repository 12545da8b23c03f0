-- The names of the calls that make an expression of their own.
use Rattle.std.specs.Prelude.{ℕ, List, codes, if◌then◌else◌, Option, None, Some}
use Rattle.std.specs.Str.{bytes_eq}
use Rattle.rd_routine.specs.declared.special.Special.{Special}
use Rattle.rd_routine.specs.declared.special.Special.TheVariants as special

-- what a call of this name makes, if that is special
abbrev pub special_named : List ℕ → Option Special
special_named name =
    if bytes_eq name (codes "cond") then Some special.Cond
    else if bytes_eq name (codes "catch") then Some special.Catch
    else if bytes_eq name (codes "map_") then Some special.Map
    else None
