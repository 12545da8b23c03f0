-- What names that are called stand for.
use Rattle.std.specs.Prelude.{Option, None, Some}
use Rattle.rd_routine.specs.declared.routine.Callee.{Callee}
use Rattle.rd_routine.specs.declared.routine.Callee.TheVariants as callee
use Rattle.rd_routine.specs.declared.special.Special.{Special}

-- what a name stands for, where it is known
abbrev pub known : Option Callee → Callee
known None = callee.Unknown
known (Some c) = c

-- what a call of it makes, if that is special
abbrev pub special_of : Callee → Option Special
special_of (callee.Special s) = Some s
special_of c = None
