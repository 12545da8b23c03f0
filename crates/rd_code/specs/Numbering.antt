-- Functions with numbers in the place of names.
use Rattle.std.specs.Prelude.{ℕ, suc, List, [], ◌∷◌, ◌++◌, map, if◌then◌else◌, Option, None, Some}
use Rattle.std.specs.List.{position_or_len}
use Rattle.std.specs.Option.{option_map}
use Rattle.std.specs.Str.{bytes_eq}
use Rattle.rd_value.specs.declared.value.FileValue.{FileValue}
use Rattle.rd_value.specs.declared.value.Datum.{Datum, out-Datum}
use Rattle.rd_value.specs.declared.value.Datum.TheVariants as value
use Rattle.rd_value.specs.declared.value.Datum.TheOpen.{Datum-F}
use Rattle.rd_value.specs.declared.signature.Parameter.{Parameter}
use Rattle.rd_tree.specs.declared.tree.Statement.{Statement}
use Rattle.rd_names.specs.Names.{with_name}
use Rattle.rd_routine.specs.declared.routine.Callee.{Callee}
use Rattle.rd_routine.specs.declared.routine.Callee.TheVariants as callee
use Rattle.rd_routine.specs.declared.routine.Word.{Word}
use Rattle.rd_routine.specs.Callees.{known}
use Rattle.rd_routine.specs.declared.routine.Parameter as routine
use Rattle.rd_routine.specs.declared.routine.Routine.{Routine}
use Rattle.rd_code.specs.declared.mention.Mention.{Mention}
use Rattle.rd_code.specs.declared.named.UseKind.{UseKind}
use Rattle.rd_code.specs.declared.named.UseKind.TheVariants as kind
use Rattle.rd_code.specs.declared.named.NamedUse.{NamedUse}
use Rattle.rd_code.specs.declared.named.Helper.{Helper}
use Rattle.rd_code.specs.Known.{built_in, class_named}
use Rattle.rd_code.specs.Mentions.{named_in_block, plain}
use Rattle.rd_code.specs.Renaming.{renamed_statement}

-- ---- names

-- the place of a text among words, which is behind them all where it isn't one of them
abbrev pub place : List (List ℕ) → List ℕ → ℕ
place words text = position_or_len (bytes_eq text) words

-- words with the names that stand somewhere, in the order in which they come first
abbrev pub with_mentions : List (List ℕ) → List (Mention (List ℕ)) → List (List ℕ)
with_mentions words [] = words
with_mentions words (m ∷ ms) = with_mentions (with_name words m.name) ms

-- the names of a function: its parameters, and then those of its block
abbrev pub mentions_within : List Parameter → List (Statement (List ℕ)) → List (Mention (List ℕ))
mentions_within ps block = map (λ p. plain p.name) ps ++ named_in_block block

-- the texts of a function's names, each once, in the order in which they come first
abbrev pub texts_within : List Parameter → List (Statement (List ℕ)) → List (List ℕ)
texts_within ps block = with_mentions [] (mentions_within ps block)

-- ---- what a name that isn't local stands for

-- the place of the first helper of a name, where so many stand before these
abbrev pub place_among : ℕ → List Helper → List ℕ → Option ℕ
place_among n [] text = None
place_among n (h ∷ hs) text = if bytes_eq text h.name then Some n else place_among (suc n) hs text

-- the first use of a name
abbrev pub use_among : List NamedUse → List ℕ → Option NamedUse
use_among [] text = None
use_among (u ∷ us) text = if bytes_eq text u.name then Some u else use_among us text

abbrev pub helper_at : Option ℕ → Callee
helper_at None = callee.Unknown
helper_at (Some n) = callee.Helper n

-- what is called by a name of this kind, with the helper's place and the task's full name
abbrev pub callee_by : UseKind → List ℕ → List ℕ → Option ℕ → Callee
callee_by kind.Task name task place = callee.Task task
callee_by kind.Helper name task place = helper_at place
callee_by kind.Builtin name task place = known (built_in name)
callee_by kind.ErrorClass name task place = callee.Unknown

-- what is known of a name that is used
abbrev pub word_by : (List ℕ → Option ℕ) → NamedUse → Word
word_by places u = record { spelling = u.name; callee = callee_by u.kind u.name u.task (places u.name); class = class_named u.name }

-- a local, of which nothing is known
abbrev pub word_or : List ℕ → Option Word → Word
word_or text None = record { spelling = text; callee = callee.Unknown; class = None }
word_or text (Some w) = record { spelling = text; callee = w.callee; class = w.class }

-- what is known of a name, by the helpers and the uses
abbrev pub word_in : List Helper → List NamedUse → List ℕ → Word
word_in helpers uses text = word_or text (option_map (word_by (place_among 0 helpers)) (use_among uses text))

-- ---- functions

-- the value of a literal of the source, which holds no file
abbrev pub literal_at : Datum-F FileValue (Datum FileValue) → Datum FileValue
literal_at (Datum-F.Bool b) = value.Bool b
literal_at (Datum-F.Int n) = value.Int n
literal_at (Datum-F.Text t) = value.Text t
literal_at _ = value.Nothing

abbrev pub literal_value : Datum FileValue → Datum FileValue
literal_value v = literal_at (out-Datum FileValue v)

abbrev pub numbered_parameter : List (List ℕ) → Parameter → routine.Parameter
numbered_parameter texts p = record { slot = place texts p.name; default = option_map literal_value p.default }

-- a function with the places of its names' texts, where this is known of each
abbrev pub numbered : (List ℕ → Word) → List Parameter → List (Statement (List ℕ)) → Routine
numbered word ps block = record {
  words = map word (texts_within ps block);
  parameters = map (numbered_parameter (texts_within ps block)) ps;
  block = map (renamed_statement (place (texts_within ps block))) block;
}

abbrev pub numbered_helper : (List ℕ → Word) → Helper → Routine
numbered_helper word h = numbered word h.parameters h.block
