-- The numbers that programs end with.
use Rattle.std.specs.Prelude.{ℕ}
use Rattle.rd_base.specs.declared.status.Status.{Status}
use Rattle.rd_base.specs.declared.status.Status.TheVariants.{Done, WorkflowError, WordsRefused, SourceRefused, KeeperUnavailable, DiskUnavailable, OutOfMemory, TooLarge, WriteConflict, Collided, OutputFailed, NotFound, Damaged}

abbrev pub number_of : Status → ℕ
number_of Done = 0
number_of WorkflowError = 1
number_of WordsRefused = 2
number_of (SourceRefused line) = 3
number_of KeeperUnavailable = 4
number_of DiskUnavailable = 5
number_of OutOfMemory = 6
number_of TooLarge = 7
number_of (WriteConflict path) = 8
number_of (Collided collision) = 9
number_of OutputFailed = 10
number_of NotFound = 11
number_of (Damaged digest) = 12
