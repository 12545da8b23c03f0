-- The classes of errors.
use Rattle.std.specs.Prelude.{ℕ, List, codes}
use Rattle.rd_value.specs.declared.class.Class.{Class}
use Rattle.rd_value.specs.declared.class.Class.TheVariants.{Exception, ValueError, TypeError, KeyError, IndexError, ZeroDivisionError, OverflowError, FileNotFoundError, PermissionError, RuntimeError, RecursionError, AttributeError, NameError, LimitError}

abbrev pub name : Class → List ℕ
name Exception = codes "Exception"
name ValueError = codes "ValueError"
name TypeError = codes "TypeError"
name KeyError = codes "KeyError"
name IndexError = codes "IndexError"
name ZeroDivisionError = codes "ZeroDivisionError"
name OverflowError = codes "OverflowError"
name FileNotFoundError = codes "FileNotFoundError"
name PermissionError = codes "PermissionError"
name RuntimeError = codes "RuntimeError"
name RecursionError = codes "RecursionError"
name AttributeError = codes "AttributeError"
name NameError = codes "NameError"
name LimitError = codes "LimitError"
