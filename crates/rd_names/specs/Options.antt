-- The options of tasks, and the full names that they give.
use Rattle.std.specs.Prelude.{ℕ, Bool, false, ◌&&◌, ◌||◌, if◌then◌else◌, List, [], ◌∷◌, ◌++◌, Option, None, Some, codes}
use Rattle.std.specs.Str.{bytes_eq}
use Rattle.rd_value.specs.declared.value.FileValue.{FileValue}
use Rattle.rd_value.specs.declared.value.Datum.{Datum, out-Datum}
use Rattle.rd_value.specs.declared.value.Datum.TheOpen.{Datum-F}
use Rattle.rd_tree.specs.declared.tree.Name.{Name}
use Rattle.rd_tree.specs.declared.tree.TaskOption.{TaskOption}
use Rattle.rd_tree.specs.declared.tree.Function.{Function}
use Rattle.rd_names.specs.Spelling.{is_name, is_dotted}

abbrev pub text_at : {X : Type 0} → Datum-F FileValue X → Option (List ℕ)
text_at (Datum-F.Text t) = Some t
text_at v = None

-- the text, if the value is one
abbrev pub text_of : Datum FileValue → Option (List ℕ)
text_of v = text_at (out-Datum FileValue v)

-- ---- which options are accepted

-- `name` is a NAME, and `namespace` is NAMEs joined by dots
abbrev pub accepts_text : (key text : List ℕ) → Bool
accepts_text key text = (bytes_eq key (codes "name") && is_name text) || (bytes_eq key (codes "namespace") && is_dotted text)

-- no value but a text is accepted
abbrev pub accepts : List ℕ → Option (List ℕ) → Bool
accepts key None = false
accepts key (Some text) = accepts_text key text

abbrev pub is_accepted : TaskOption → Bool
is_accepted o = accepts o.name.text (text_of o.value)

-- ---- full names

-- the first of them that is there
abbrev pub or_else : Option (List ℕ) → Option (List ℕ) → Option (List ℕ)
or_else None other = other
or_else (Some t) other = Some t

-- the text that an option gives for a key
abbrev pub gives : List ℕ → TaskOption → Option (List ℕ)
gives key o = if bytes_eq o.name.text key then text_of o.value else None

-- the first text that the options give for a key
abbrev pub given : List ℕ → List TaskOption → Option (List ℕ)
given key [] = None
given key (o ∷ os) = or_else (gives key o) (given key os)

abbrev pub or_name : Option (List ℕ) → List ℕ → List ℕ
or_name None name = name
or_name (Some t) name = t

-- namespace `.` name
abbrev pub qualified : Option (List ℕ) → List ℕ → List ℕ
qualified None name = name
qualified (Some space) name = space ++ codes "." ++ name

-- the full name that a task with these options has in a namespace
abbrev pub full_name : Option (List ℕ) → List TaskOption → List ℕ → List ℕ
full_name space os name = qualified (or_else (given (codes "namespace") os) space) (or_name (given (codes "name") os) name)

-- a task's full name, with its line; a helper has none
abbrev pub task_name : Option (List ℕ) → Function → List Name
task_name space f = named f.task where
  named : Option (List TaskOption) → List Name
  named None = []
  named (Some os) = record { text = full_name space os f.name.text; line = f.name.line } ∷ []

-- the first namespace that a module gives
abbrev pub first_space : List Name → Option (List ℕ)
first_space [] = None
first_space (n ∷ ns) = Some n.text
