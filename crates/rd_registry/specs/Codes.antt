-- The code of a module's tasks.
use Rattle.std.specs.Prelude.{ℕ, Bool, true, false, List, [], map, filter, Option, None, Some}
use Rattle.std.specs.Option.{option_map}
use Rattle.rd_value.specs.declared.signature.Parameter as signature
use Rattle.rd_value.specs.declared.signature.Signature.{Signature}
use Rattle.rd_tree.specs.declared.tree.Name.{Name}
use Rattle.rd_tree.specs.declared.tree.Parameter.{Parameter}
use Rattle.rd_tree.specs.declared.tree.Statement.{Statement}
use Rattle.rd_tree.specs.declared.tree.Function.{Function}
use Rattle.rd_routine.specs.declared.routine.Callee.{Callee}
use Rattle.rd_routine.specs.declared.routine.Callee.TheVariants as callee
use Rattle.rd_code.specs.declared.mention.Mention.{Mention}
use Rattle.rd_code.specs.declared.mention.Role.{Role}
use Rattle.rd_code.specs.declared.mention.Role.TheVariants as role
use Rattle.rd_code.specs.declared.named.Helper.{Helper}
use Rattle.rd_code.specs.declared.named.NamedUse.{NamedUse}
use Rattle.rd_code.specs.declared.named.UseKind.TheVariants as kind
use Rattle.rd_code.specs.Known.{built_in}
use Rattle.rd_code.specs.Mentions.{named_in_block}
use Rattle.rd_code.specs.Numbering.{literal_value}
use Rattle.rd_code.specs.Renaming.{renamed_statement}

-- ---- trees without lines

abbrev pub text_of : Name → List ℕ
text_of name = name.text

abbrev pub block_of : List (Statement Name) → List (Statement (List ℕ))
block_of = map (renamed_statement text_of)

abbrev pub parameter_of : Parameter → signature.Parameter
parameter_of p = record { name = p.name.text; default = option_map literal_value p.default }

abbrev pub helper_of : Function → Helper
helper_of f = record { name = f.name.text; parameters = map parameter_of f.parameters; block = block_of f.body }

-- ---- the names of a block that aren't local

-- a name that is called, or stands behind `raise`
abbrev pub is_outside : Role → Bool
is_outside role.Plain = false
is_outside r = true

abbrev pub outside_of : List (Mention (List ℕ)) → List (List ℕ)
outside_of ms = map (λ m. m.name) (filter (λ m. is_outside m.role) ms)

abbrev pub outside : List (Statement (List ℕ)) → List (List ℕ)
outside block = outside_of (named_in_block block)

-- ---- what such a name is

-- a function, or an error class where there is no function
abbrev pub use_by : List ℕ → Option Callee → NamedUse
use_by text (Some (callee.Task task)) = record { name = text; kind = kind.Task; task = task }
use_by text (Some (callee.Helper place)) = record { name = text; kind = kind.Helper; task = [] }
use_by text c = record { name = text; kind = kind.ErrorClass; task = [] }

-- a builtin comes first
abbrev pub use_or : List ℕ → Option Callee → Option Callee → NamedUse
use_or text (Some b) c = record { name = text; kind = kind.Builtin; task = [] }
use_or text None c = use_by text c

abbrev pub use_with : (List ℕ → Option Callee) → List ℕ → NamedUse
use_with callees text = use_or text (built_in text) (callees text)

-- ---- tasks

-- what a function takes as a task
abbrev pub signature_of : Function → Signature
signature_of f = record { parameters = map parameter_of f.parameters }
