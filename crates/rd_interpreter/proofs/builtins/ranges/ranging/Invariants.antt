use Rattle.std.proofs.Common.{◌≡◌, ◌-◌, ◌++◌}
use Rattle.rd_interpreter.specs.Builtins.{ranging, range_length}
use Rattle.rd_interpreter.proofs.builtins.ranges.ranging.Given as goal

abbrev pub invariant-loop : goal.invariant-loop
invariant-loop l = (l.values ++ ranging (l.count - l.counter) l.number l.step ≡ ranging l.count l.first l.step) × (range_length l.number l.end l.step ≡ l.count - l.counter)
