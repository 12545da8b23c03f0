-- The values of the definitions, whose files carry their text.
use Rattle.std.specs.Prelude.{ℕ, List}
use Rattle.sha2.specs.Sha256.{sha256}
use Rattle.rd_value.specs.declared.value.FileValue.{FileValue}
use Rattle.rd_value.specs.declared.value.Datum.{Datum}
use Rattle.rd_value.specs.declared.expr.Lazy.{Lazy}

-- a file: its path and its bytes
pub record ModelFile : Type 0 where
  pub path : List ℕ
  pub text : List ℕ

-- the file as the program holds it, with the digest in place of the bytes
abbrev pub file_of : ModelFile → FileValue
file_of f = record { path = f.path; digest = record { 0 = sha256 f.text } }

abbrev pub ModelValue : Type 0
ModelValue = Datum ModelFile

abbrev pub ModelExpr : Type 0
ModelExpr = Lazy ModelFile
