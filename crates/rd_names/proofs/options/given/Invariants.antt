use Rattle.std.proofs.Common.{◌≡◌, drop}
use Rattle.rd_names.specs.Options.{given}
use Rattle.rd_names.proofs.options.given.Given as goal

abbrev pub invariant-loop-option : goal.invariant-loop-option
invariant-loop-option l = given l.key (drop l.option-index l.options) ≡ given l.key l.options
