use Rattle.std.proofs.Common.{◌≡◌, ◌≤◌, [], refl, ap, ◌∙◌, arith, drop, length, map}
use Rattle.rd_value.proofs.Walks.{none_left}
use Rattle.rd_interpreter.specs.Body.{with_names}
use Rattle.rd_interpreter.specs.Running.{local, parameter_of, routine_of, state}
use Rattle.rd_interpreter.proofs.Arguments.{names_done, names_end, nothing_local}
use Rattle.rd_interpreter.proofs.Locals.{both_parts}
use Rattle.rd_interpreter.proofs.binding.first_frame.Goals as goal

pub loop-parameter-init : goal.loop-parameter-init
unfolding state
loop-parameter-init c = record {
  place = refl;
  names = ap (λ names. with_names (routine_of c.args.routine.now) names (map parameter_of c.args.routine.now.parameters) c.args.arguments) (ap local c.new.ensures.items ∙ nothing_local);
  left = refl;
}

pub returns-in-None-clause-state : goal.returns-in-None-clause-state
unfolding state
returns-in-None-clause-state c =
    let i = c.loop-parameter.parameter-index in
    let end : length c.args.arguments ≤ i = omega (arith, ap length c.as_slice.ensures, c.in-None.ensures.lookup.3, c.loop-parameter.invariant.place) in
    let past : drop i c.args.arguments ≡ [] = none_left c.args.arguments i end in
    both_parts _ _ _ _ (names_end c.args.routine.now (local c.loop-parameter.frame.locals.items) (drop i c.args.routine.now.parameters) (drop i c.args.arguments) _ past c.loop-parameter.invariant.names) c.loop-parameter.invariant.left

pub returns-clause-state : goal.returns-clause-state
unfolding state
returns-clause-state c =
    let i = c.loop-parameter.parameter-index in
    let end : length c.args.routine.now.parameters ≤ i = omega (arith, ap length c.as_slice-parameter-items.ensures) in
    let past : drop i c.args.routine.now.parameters ≡ [] = none_left c.args.routine.now.parameters i end in
    both_parts _ _ _ _ (names_done c.args.routine.now (local c.loop-parameter.frame.locals.items) (drop i c.args.routine.now.parameters) (drop i c.args.arguments) _ past c.loop-parameter.invariant.names) c.loop-parameter.invariant.left
