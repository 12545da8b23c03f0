-- Functions with something else in place of each file that their defaults hold.
use Rattle.std.specs.Prelude.{◌≡◌, map, Option}
use Rattle.std.specs.Option.{option_map}
use Rattle.rd_value.specs.declared.expr.Lazy.{Lazy}
use Rattle.rd_value.specs.Erase.{with_files_expr}
use Rattle.rd_interpreter.specs.Body.{Routine}

-- a parameter with its default
abbrev pub with_files_parameter : {N F G : Type 0} → (F → G) → N × Option (Lazy F) → N × Option (Lazy G)
with_files_parameter h p = (p.0, option_map (with_files_expr h) p.1)

-- The second is the first with other files in its defaults.
pub record HasFilesOf {N F G : Type 0} (h : F → G) (f : Routine N F) (g : Routine N G) : Type 0 where
  pub same : g.same ≡ f.same
  pub spelling : g.spelling ≡ f.spelling
  pub callee : g.callee ≡ f.callee
  pub class_of : g.class_of ≡ f.class_of
  pub parameters : g.parameters ≡ map (with_files_parameter h) f.parameters
  pub block : g.block ≡ f.block
