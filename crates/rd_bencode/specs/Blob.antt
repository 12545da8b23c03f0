-- Blobs: a structure under the text of its kind.
use Rattle.std.specs.Prelude.{ℕ, List, ◌++◌, codes}
use Rattle.rd_value.specs.Canon.{string}
use Rattle.rd_bencode.specs.declared.kind.Kind.{Kind}
use Rattle.rd_bencode.specs.declared.kind.Kind.TheVariants as kind

-- the text of a kind
abbrev pub kind_text : Kind → List ℕ
kind_text kind.Task = codes "task"
kind_text kind.Args = codes "args"
kind_text kind.Value = codes "value"
kind_text kind.Expr = codes "expr"
kind_text kind.Writes = codes "writes"
kind_text kind.Children = codes "children"
kind_text kind.Footprint = codes "footprint"
kind_text kind.Evaluation = codes "evaluation"
kind_text kind.Call = codes "call"
kind_text kind.Execution = codes "execution"

-- a list of the kind's text and the structure
abbrev pub blob : Kind → List ℕ → List ℕ
blob k structure = codes "l" ++ string (kind_text k) ++ structure ++ codes "e"
