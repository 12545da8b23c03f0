-- The files of the program.
use Rattle.rd_value.specs.declared.value.FileValue.{FileValue}

-- the files of the program's values are what they are
abbrev pub own : FileValue → FileValue
own f = f
