-- The task that a word names.
use Rattle.std.specs.Prelude.{ℕ, List, [], ◌∷◌, if◌then◌else◌, Option, None}
use Rattle.std.specs.Option.{option_map}
use Rattle.std.specs.Str.{bytes_eq}
use Rattle.rd_tree.specs.declared.tree.Function.{Function}
use Rattle.rd_tree.specs.declared.tree.Module.{Module}
use Rattle.rd_names.specs.Options.{first_space, or_else}
use Rattle.rd_registry.specs.Bodies.{find_task, task_name_by}

-- the word, where it is the full name of a task
abbrev pub by_full_name : Module → List ℕ → Option (List ℕ)
by_full_name m word = option_map (λ f. word) (find_task m word)

-- the full name of the function of this name; a helper has none
abbrev pub by_name : Option (List ℕ) → List Function → List ℕ → Option (List ℕ)
by_name space [] word = None
by_name space (f ∷ fs) word = if bytes_eq word f.name.text then task_name_by space f.name.text f.task else by_name space fs word

-- the full name of the task that a word names: by its full name, else by its function's
abbrev pub find_word : Module → List ℕ → Option (List ℕ)
find_word m word = or_else (by_full_name m word) (by_name (first_space m.namespaces) m.functions word)
