use Rattle.std.proofs.Common.{◌≡◌, ◌++◌, map, drop}
use Rattle.rd_value.specs.declared.expr.Lazy.TheVariants.{Val}
use Rattle.rd_top.proofs.serial.root_arguments.Given as goal

abbrev pub invariant-loop-name : goal.invariant-loop-name
invariant-loop-name l = l.named ++ map (λ a. (a.0, Val a.1)) (drop l.name-index l.arguments) ≡ map (λ a. (a.0, Val a.1)) l.arguments
