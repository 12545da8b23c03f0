use Rattle.std.proofs.Common.{rules, ◌≡◌, IfOk, map, Err, sym, subst}
use Rattle.rd_value.specs.declared.expr.Lazy.TheVariants as lazy
use Rattle.rd_interpreter.proofs.Bodies.{whole_by}
use Rattle.rd_interpreter.proofs.run.reduce.Goals as goal

pub returns-in-Ok : goal.returns-in-Ok
returns-in-Ok c =
    let held : c.append_values.new.all ≡ map lazy.Val c.args.arguments.now = search rules in
    subst (λ w. IfOk c.kept_expr.result (λ answer. answer ≡ w)) (sym (whole_by c.args.helpers.now c.args.routine.now c.args.arguments.now c.append_values.new.all _ held c.in-Ok.ensures.gives)) c.kept_expr.ensures

pub returns-in-Err-Raised : goal.returns-in-Err-Raised
returns-in-Err-Raised c =
    let held : c.append_values.new.all ≡ map lazy.Val c.args.arguments.now = search rules in
    let raised = rw c.in-Err-Raised.field-0-is at c.in-Err-Raised.ensures.gives in
    rw c.in-Err-Raised.error-is (sym (whole_by c.args.helpers.now c.args.routine.now c.args.arguments.now c.append_values.new.all (Err c.in-Err-Raised.error) held raised))
