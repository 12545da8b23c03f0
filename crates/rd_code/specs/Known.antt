-- The names of the language.
use Rattle.std.specs.Prelude.{ℕ, List, codes, if◌then◌else◌, Option, None, Some}
use Rattle.std.specs.Str.{bytes_eq}
use Rattle.rd_value.specs.declared.class.Class.{Class}
use Rattle.rd_value.specs.declared.class.Class.TheVariants as class
use Rattle.rd_value.specs.Class.{name}
use Rattle.rd_routine.specs.declared.builtin.Builtin.{Builtin}
use Rattle.rd_routine.specs.declared.builtin.Builtin.TheVariants as builtin
use Rattle.rd_routine.specs.declared.special.Special.{Special}
use Rattle.rd_routine.specs.declared.routine.Callee.{Callee}
use Rattle.rd_routine.specs.declared.routine.Callee.TheVariants as callee
use Rattle.rd_names.specs.Special.{special_named}

-- a builtin by its name
abbrev pub builtin_named : List ℕ → Option Builtin
builtin_named text =
    if bytes_eq text (codes "len") then Some builtin.Len
    else if bytes_eq text (codes "str") then Some builtin.Str
    else if bytes_eq text (codes "int") then Some builtin.Int
    else if bytes_eq text (codes "range") then Some builtin.Range
    else if bytes_eq text (codes "sum") then Some builtin.Sum
    else if bytes_eq text (codes "min") then Some builtin.Min
    else if bytes_eq text (codes "max") then Some builtin.Max
    else if bytes_eq text (codes "sorted") then Some builtin.Sorted
    else if bytes_eq text (codes "abs") then Some builtin.Abs
    else None

abbrev pub builtin_callee : Option Builtin → Option Callee
builtin_callee None = None
builtin_callee (Some b) = Some (callee.Builtin b)

abbrev pub special_or : Option Special → Option Builtin → Option Callee
special_or None b = builtin_callee b
special_or (Some s) b = Some (callee.Special s)

-- what a builtin's name stands for
abbrev pub built_in : List ℕ → Option Callee
built_in text = special_or (special_named text) (builtin_named text)

-- an error class by its name
abbrev pub class_named : List ℕ → Option Class
class_named text =
    if bytes_eq text (name class.Exception) then Some class.Exception
    else if bytes_eq text (name class.ValueError) then Some class.ValueError
    else if bytes_eq text (name class.TypeError) then Some class.TypeError
    else if bytes_eq text (name class.KeyError) then Some class.KeyError
    else if bytes_eq text (name class.IndexError) then Some class.IndexError
    else if bytes_eq text (name class.ZeroDivisionError) then Some class.ZeroDivisionError
    else if bytes_eq text (name class.OverflowError) then Some class.OverflowError
    else if bytes_eq text (name class.FileNotFoundError) then Some class.FileNotFoundError
    else if bytes_eq text (name class.PermissionError) then Some class.PermissionError
    else if bytes_eq text (name class.RuntimeError) then Some class.RuntimeError
    else if bytes_eq text (name class.RecursionError) then Some class.RecursionError
    else if bytes_eq text (name class.AttributeError) then Some class.AttributeError
    else if bytes_eq text (name class.NameError) then Some class.NameError
    else if bytes_eq text (name class.LimitError) then Some class.LimitError
    else None
