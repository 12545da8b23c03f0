-- Books: byte strings that their digests tell apart.
use Rattle.std.specs.Prelude.{◌≡◌, ℕ, Bool, true, List}
use Rattle.std.specs.List.{list_any, list_all}
use Rattle.std.specs.Str.{bytes_eq}
use Rattle.sha2.specs.Sha256.{sha256}
use Rattle.rd_value.specs.Files.{files, files_expr}
use Rattle.rd_value.specs.Model.{ModelFile, ModelValue, ModelExpr}

-- a byte string is in a book
abbrev pub holds : List (List ℕ) → List ℕ → Bool
holds book text = list_any (bytes_eq text) book

-- a finite list of byte strings in which no two different ones have the same SHA-256
abbrev pub IsBook : List (List ℕ) → Type 0
IsBook book = (s t : List ℕ) → holds book s ≡ true → holds book t ≡ true → sha256 s ≡ sha256 t → s ≡ t

-- the text of a file is in a book
abbrev pub holds_file : List (List ℕ) → ModelFile → Bool
holds_file book f = holds book f.text

-- all texts of a value's files are in a book
abbrev pub is_over : List (List ℕ) → ModelValue → Bool
is_over book v = list_all (holds_file book) (files v)

-- all texts of an expression's files are in a book
abbrev pub is_over_expr : List (List ℕ) → ModelExpr → Bool
is_over_expr book e = list_all (holds_file book) (files_expr e)
