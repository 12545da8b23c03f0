use Rattle.std.proofs.Common.{◌≡◌, drop, map, None}
use Rattle.rd_interpreter.specs.Body.{with_names}
use Rattle.rd_interpreter.specs.Running.{parameter_of, routine_of, state}
use Rattle.rd_interpreter.proofs.binding.first_frame.Given as goal

abbrev pub invariant-loop-parameter : goal.invariant-loop-parameter
invariant-loop-parameter l = record {
  place : l.place ≡ l.parameter-index;
  names : with_names (routine_of l.routine) (state l.frame).names (map parameter_of (drop l.parameter-index l.routine.parameters)) (drop l.parameter-index l.fn.arguments) ≡ with_names (routine_of l.routine) (λ n. None) (map parameter_of l.routine.parameters) l.fn.arguments;
  left : l.frame.left ≡ l.left;
}
