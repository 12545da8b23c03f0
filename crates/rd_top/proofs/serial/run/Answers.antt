use Rattle.std.proofs.Common.{◌≡◌, ℕ, List, Option, IfOk, IfSome, MatchOption, map, string_bytes, subst, sym, ◌∙◌}
use Rattle.rd_top.specs.declared.command.Command.{Command}
use Rattle.rd_top.specs.declared.disk.Found.{Found}
use Rattle.rd_top.specs.Command.{Argument, IsRun}
use Rattle.rd_top.specs.Disk.{found_at}
use Rattle.rd_top.specs.declared.serial.Ending.TheVariants.{NotFound}
use Rattle.rd_top.specs.Answered.{OfText, Comes}
use Rattle.rd_top.specs.Arguments.{HoldNoFiles}
use Rattle.rd_top.proofs.Given.{hold_no_files}
use Rattle.rd_top.proofs.Answering.{comes_of_text, comes_of_long, comes_of_absent}
use Rattle.rd_top.proofs.serial.run.Goals as goal

pub run_source-requires : goal.run_source-requires
run_source-requires g c =
    let words = map string_bytes c.args.words.now in
    let command = c.in-Some.command in
    let asks = subst (λ (asked : Option Command). MatchOption asked ((file task : List ℕ) (given : List Argument) → IsRun words file task given → ⊥) (λ d. IsRun words d.file d.task d.arguments)) c.in-Some.is c.in_ok-command.ensures in
    subst HoldNoFiles (sym c.as_slice-in-Ok-Bytes.ensures) (hold_no_files asks.more command.arguments asks.given.0)

pub returns-in-Ok-Bytes-clause-comes : goal.returns-in-Ok-Bytes-clause-comes
returns-in-Ok-Bytes-clause-comes g c =
    let words = map string_bytes c.args.words.now in
    let told = g.D.Disk.files c.args.disk.now in
    let command = c.in-Some.command in
    let asks = subst (λ (asked : Option Command). MatchOption asked ((file task : List ℕ) (given : List Argument) → IsRun words file task given → ⊥) (λ d. IsRun words d.file d.task d.arguments)) c.in-Some.is c.in_ok-command.ensures in
    let at = subst (λ (f : Found). IfSome told (λ files. f ≡ found_at files command.file)) c.in-Ok-Bytes.field-0-is c.in-Ok-Bytes.ensures.found in
    let of_arguments = subst (λ (xs : List Argument). IfOk c.run_source.result (OfText c.as_slice.result.now command.task xs)) c.as_slice-in-Ok-Bytes.ensures c.run_source.ensures in
    let outcome = subst (λ (source : List ℕ). IfOk c.run_source.result (OfText source command.task command.arguments)) c.as_slice.ensures of_arguments in
    comes_of_text words command.file command.task command.arguments asks told c.in-Ok-Bytes.source at c.run_source.result outcome

pub returns-in-Ok-Long-clause-comes : goal.returns-in-Ok-Long-clause-comes
returns-in-Ok-Long-clause-comes g c =
    let words = map string_bytes c.args.words.now in
    let told = g.D.Disk.files c.args.disk.now in
    let command = c.in-Some.command in
    let asks = subst (λ (asked : Option Command). MatchOption asked ((file task : List ℕ) (given : List Argument) → IsRun words file task given → ⊥) (λ d. IsRun words d.file d.task d.arguments)) c.in-Some.is c.in_ok-command.ensures in
    let at = subst (λ (f : Found). IfSome told (λ files. f ≡ found_at files command.file)) c.in-Ok-Long.field-0-is c.in-Ok-Long.ensures.found in
    comes_of_long words command.file command.task command.arguments asks told at

pub returns-in-Ok-Absent-clause-comes : goal.returns-in-Ok-Absent-clause-comes
returns-in-Ok-Absent-clause-comes g c =
    let words = map string_bytes c.args.words.now in
    let told = g.D.Disk.files c.args.disk.now in
    let command = c.in-Some.command in
    let asks = subst (λ (asked : Option Command). MatchOption asked ((file task : List ℕ) (given : List Argument) → IsRun words file task given → ⊥) (λ d. IsRun words d.file d.task d.arguments)) c.in-Some.is c.in_ok-command.ensures in
    let at = subst (λ (f : Found). IfSome told (λ files. f ≡ found_at files command.file)) c.in-Ok-Absent.field-0-is c.in-Ok-Absent.ensures.found in
    subst (λ (file : List ℕ). Comes words told (NotFound file)) (sym (c.in_ok-from_str-in-Ok-Absent.ensures ∙ c.as_str.ensures.value)) (comes_of_absent words command.file command.task command.arguments asks told at)
