-- What a command comes to, in the order of its checks.
use Rattle.std.specs.Prelude.{◌≡◌, ◌≢◌, ◌⊎◌, ◌<◌, ◌≤◌, ℕ, length, take, List, codes, false, None, Some, IfSome}
use Rattle.std.specs.declared.option.Option.{Option}
use Rattle.std.specs.FinMap.{get}
use Rattle.rd_base.specs.declared.status.Status.{Status}
use Rattle.rd_base.specs.declared.status.Status.TheVariants as status
use Rattle.rd_base.specs.Status.{number_of}
use Rattle.rd_base.specs.Sink.{added}
use Rattle.rd_value.specs.Limits.{is_within_expr}
use Rattle.rd_value.specs.Model.{ModelValue, file_of}
use Rattle.rd_value.specs.Erase.{erase}
use Rattle.rd_value.specs.declared.value.FileValue.{FileValue}
use Rattle.rd_value.specs.declared.value.Datum.{Datum}
use Rattle.rd_value.specs.declared.failure.Outcome.{Outcome}
use Rattle.rd_tree.specs.declared.tree.Module.{Module}
use Rattle.rd_top.specs.declared.serial.Ending.{Ending}
use Rattle.rd_top.specs.declared.serial.Ending.TheVariants as ending
use Rattle.rd_top.specs.Command.{Argument, IsRun}
use Rattle.rd_top.specs.Files.{Files}
use Rattle.rd_top.specs.Source.{IsWorkflow, IsRefused}
use Rattle.rd_registry.specs.Words.{find_word}
use Rattle.rd_registry.specs.Fresh.{Answer, answer_map}
use Rattle.rd_registry.specs.Fits.{Fits, FreshGives}
use Rattle.rd_top.specs.Evaluating.{answer_of}
use Rattle.rd_top.specs.Printed.{root, line_of, status_of}
use Rattle.rd_top.specs.Shown.{line}

-- an answer with the digests of its files in place of their texts
abbrev pub erased : Answer ModelValue → Answer (Datum FileValue)
erased = answer_map erase

-- the outcome is fresh evaluation's, as the program holds it
abbrev pub IsFresh : Module → List ℕ → List Argument → Outcome → Type 0
IsFresh m task arguments outcome = (y : Answer ModelValue) × FreshGives file_of m (root task arguments) y × (answer_of outcome ≡ erased y)

-- A call of a task that the module has: past the limits of an expression, past those of an evaluation, or evaluated.
abbrev pub OfTask : Module → List ℕ → List Argument → Ending → Type 0
OfTask m task arguments ending.WordsRefused = is_within_expr file_of (root task arguments) ≡ false
OfTask m task arguments ending.TooLarge = Fits file_of m (root task arguments) → ⊥
OfTask m task arguments (ending.Outcome outcome) = Fits file_of m (root task arguments) × IsFresh m task arguments outcome
OfTask m task arguments _ = ⊥

-- the module has no task that the word names, or it is called
abbrev pub OfModule : Module → List ℕ → List Argument → Ending → Type 0
OfModule m word arguments e = ((find_word m word ≡ None) × (e ≡ ending.NotFound word)) ⊎ ((task : List ℕ) × (find_word m word ≡ Some task) × OfTask m task arguments e)

-- the text is refused at its line, or it is a workflow
abbrev pub OfText : List ℕ → List ℕ → List Argument → Ending → Type 0
OfText text word arguments e = ((line : ℕ) × IsRefused text line × (e ≡ ending.SourceRefused line)) ⊎ ((m : Module) × IsWorkflow text m × OfModule m word arguments e)

-- there is no file, or it has a text
abbrev pub OfFiles : Files → List ℕ → List ℕ → List Argument → Ending → Type 0
OfFiles files file word arguments e = ((get files file ≡ None) × (e ≡ ending.NotFound file)) ⊎ ((text : List ℕ) × (get files file ≡ Some text) × OfText text word arguments e)

-- the words ask for no run, or for one over the files that the disk tells, where it doesn't fail
abbrev pub Comes : List (List ℕ) → Option Files → Ending → Type 0
Comes words told e =
    (((file word : List ℕ) (arguments : List Argument) → IsRun words file word arguments → ⊥) × (e ≡ ending.WordsRefused))
    ⊎ ((file : List ℕ) × (word : List ℕ) × (arguments : List Argument) × IsRun words file word arguments × ((e ≡ ending.DiskUnavailable) ⊎ IfSome told (λ files. OfFiles files file word arguments e)))

-- a status that the command may end with, and its text: what it comes to, or want of memory
abbrev pub Answers : List (List ℕ) → Option Files → Status → List ℕ → Type 0
Answers words told s text =
    ((e : Ending) × Comes words told e × (s ≡ status_of e) × (text ≡ line_of e)) ⊎ ((s ≡ status.OutOfMemory) × (text ≡ line (codes "out of memory")))

-- the status's text was added, or a proper front of it where the output failed
abbrev pub Written : Status → List ℕ → Status → Option (List ℕ) → Option (List ℕ) → Type 0
Written s text ended before behind =
    ((ended ≡ s) × (behind ≡ added before text)) ⊎ ((ended ≡ status.OutputFailed) × ((n : ℕ) × (n < length text) × (behind ≡ added before (take n text))))

-- a status that the command may end with was written so
abbrev pub Answered : List (List ℕ) → Option Files → Status → Option (List ℕ) → Option (List ℕ) → Type 0
Answered words told ended before behind = (s : Status) × (text : List ℕ) × Answers words told s text × Written s text ended before behind

-- A task that is there, and whose call and evaluation are within the limits, is run where nothing fails, unless memory runs out.
abbrev pub Completes : List (List ℕ) → Option Files → Type 0 → Type 0 → Status → Type 0
Completes words told disk_rose output_rose ended =
    (files : Files) (file word text task : List ℕ) (arguments : List Argument) (m : Module) → told ≡ Some files → IsRun words file word arguments → get files file ≡ Some text → IsWorkflow text m
    → find_word m word ≡ Some task → is_within_expr file_of (root task arguments) ≢ false → Fits file_of m (root task arguments) → (disk_rose → ⊥) → (output_rose → ⊥)
    → (number_of ended ≤ 1) ⊎ (ended ≡ status.OutOfMemory)
