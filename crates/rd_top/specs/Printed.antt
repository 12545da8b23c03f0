-- What a command prints, and the status that it ends with.
use Rattle.std.specs.Prelude.{◌≡◌, ◌≤◌, pos, ℕ, List, [], ◌++◌, map, codes, Some, IfSome}
use Rattle.std.specs.declared.option.Option.{Option}
use Rattle.std.specs.FinMap.{get}
use Rattle.rd_base.specs.declared.status.Status.{Status}
use Rattle.rd_base.specs.declared.status.Status.TheVariants.{Done, WorkflowError, WordsRefused, SourceRefused, DiskUnavailable, TooLarge, NotFound}
use Rattle.rd_base.specs.Status.{number_of}
use Rattle.rd_base.specs.Sink.{added}
use Rattle.rd_value.specs.Repr.{repr}
use Rattle.rd_value.specs.declared.value.Datum.TheVariants as value
use Rattle.rd_value.specs.Model.{ModelValue, file_of}
use Rattle.rd_value.specs.declared.expr.Lazy.{Lazy}
use Rattle.rd_value.specs.declared.expr.Lazy.TheVariants as lazy
use Rattle.rd_value.specs.declared.failure.Outcome.{Outcome}
use Rattle.rd_value.specs.declared.failure.Outcome.TheVariants.{Value, Failed}
use Rattle.rd_tree.specs.declared.tree.Module.{Module}
use Rattle.rd_top.specs.declared.serial.Ending.{Ending}
use Rattle.rd_top.specs.declared.serial.Ending.TheVariants as ending
use Rattle.rd_top.specs.Arguments.{plain}
use Rattle.rd_top.specs.Command.{Argument, IsRun}
use Rattle.rd_top.specs.Files.{Files}
use Rattle.rd_top.specs.Source.{IsWorkflow}
use Rattle.rd_registry.specs.Words.{find_word}
use Rattle.rd_registry.specs.Fresh as fresh
use Rattle.rd_registry.specs.Fresh.{Answer}
use Rattle.rd_registry.specs.Fits.{FreshGives}
use Rattle.rd_top.specs.Shown.{line, value_line, failure_line}
use Rattle.rd_top.specs.Running.{own}

-- an argument of the root, whose value holds no file
abbrev pub given : {F : Type 0} → Argument → List ℕ × Lazy F
given a = (a.0, lazy.Val (plain a.1))

-- the call of a task with the arguments of the words
abbrev pub root : {F : Type 0} → List ℕ → List Argument → Lazy F
root task arguments = lazy.Call task [] (map given arguments)

-- an answer is shown as this status with this text
abbrev pub IsShown : Answer ModelValue → Status → List ℕ → Type 0
IsShown (fresh.Gives v) status text = (status ≡ Done) × (text ≡ value_line file_of v)
IsShown (fresh.Failed f) status text = (status ≡ WorkflowError) × (text ≡ failure_line f)
IsShown fresh.Deep status text = ⊥

-- The words ask for a run over these files, and the status and the text show what fresh evaluation gives.
pub record ShowsFresh (words : List (List ℕ)) (files : Files) (status : Status) (text : List ℕ) : Type 0 where
  pub file : List ℕ
  pub word : List ℕ
  pub arguments : List Argument
  pub source : List ℕ
  pub m : Module
  pub task : List ℕ
  pub answer : Answer ModelValue
  pub asks : IsRun words file word arguments
  pub stands : get files file ≡ Some source
  pub reads : IsWorkflow source m
  pub named : find_word m word ≡ Some task
  pub gives : FreshGives file_of m (root task arguments) answer
  pub shows : IsShown answer status text

-- A status of 0 or 1 shows fresh evaluation over the files that the disk tells, and its text was added to what the sink tells.
abbrev pub PrintedIsFresh : List (List ℕ) → Option Files → Status → Option (List ℕ) → Option (List ℕ) → Type 0
PrintedIsFresh words told status before behind =
    number_of status ≤ 1 → IfSome told (λ files. (text : List ℕ) × ShowsFresh words files status text × (behind ≡ added before text))

-- ---- what a command comes to

abbrev pub outcome_line : Outcome → List ℕ
outcome_line (Value v) = value_line own v
outcome_line (Failed f) = failure_line f

-- the line that is printed
abbrev pub line_of : Ending → List ℕ
line_of (ending.Outcome outcome) = outcome_line outcome
line_of ending.WordsRefused = line (codes "words refused")
line_of (ending.SourceRefused n) = line (codes "source refused at line " ++ repr own (value.Int (pos n)))
line_of ending.DiskUnavailable = line (codes "disk unavailable")
line_of ending.TooLarge = line (codes "too large")
line_of (ending.NotFound word) = line (codes "not found: " ++ word)

abbrev pub outcome_status : Outcome → Status
outcome_status (Value v) = Done
outcome_status (Failed f) = WorkflowError

-- the status that it ends with
abbrev pub status_of : Ending → Status
status_of (ending.Outcome outcome) = outcome_status outcome
status_of ending.WordsRefused = WordsRefused
status_of (ending.SourceRefused n) = SourceRefused n
status_of ending.DiskUnavailable = DiskUnavailable
status_of ending.TooLarge = TooLarge
status_of (ending.NotFound word) = NotFound
