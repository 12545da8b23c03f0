use Rattle.std.proofs.Common.{arith}
use Rattle.rd_value.proofs.Layers.{size_dict, size_file, size_error}
use Rattle.rd_value.proofs.size.+size.Goals as goal

pub Value::size-returns-in-Dict : goal.Value::size-returns-in-Dict
Value::size-returns-in-Dict t c = rw (c.in-Dict.is, size_dict (λ f. f), ← c.as_slice-in-Dict.ensures) (omega arith)

pub Value::size-returns-in-File : goal.Value::size-returns-in-File
Value::size-returns-in-File t c = rw (c.in-File.is, size_file (λ f. f), ← c.as_str-in-File.ensures.value, ← c.as_bytes-in-File.ensures.value) (omega arith)

pub Value::size-returns-in-Error : goal.Value::size-returns-in-Error
Value::size-returns-in-Error t c = rw (c.in-Error.is, size_error (λ f. f), ← c.name.ensures, ← c.as_str-in-Error.ensures.value, ← c.as_bytes-in-Error.ensures.value, ← c.as_bytes-in-Error-2.ensures.value) (omega arith)
