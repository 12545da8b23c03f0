use Rattle.std.proofs.Common.{◌≡◌, Some, ap, sym, ◌∙◌}
use Rattle.std.specs.Prelude.{option_copied}
use Rattle.std.specs.Str.{bytes_eq}
use Rattle.indexmap.specs.IndexMap.{get}
use Rattle.rd_registry.specs.Bodies.{task_name_by}
use Rattle.rd_registry.specs.Registry.{IsMade, code_at}
use Rattle.rd_registry.specs.Resolved.{callees_by, helpers_by}
use Rattle.rd_registry.proofs.Tasks.{coded_put, made_of, on_ok_then}
use Rattle.rd_registry.proofs.registry.registering.add_task.Goals as goal

pub returns : goal.returns
returns c =
    let space = option_copied c.args.space in
    let f = c.args.function.now in
    let helpers = helpers_by c.args.functions.now in
    let callees = callees_by c.args.functions.now in
    let named : task_name_by space f.name.text f.task ≡ Some c.in-Some.name = sym c.in_ok-name.ensures ∙ c.in-Some.is in
    let made : IsMade helpers callees space f (code_at c.in_ok-new.field-0) = made_of helpers callees space f c.in-Some.name c.in_ok-copy.field-0 c.in_ok-code.code c.in_ok-new.field-0 named c.in_ok-copy.ensures c.in_ok-code.ensures.parts c.in_ok-code.ensures.resolves c.in_ok-new.ensures in
    on_ok_then c.put_first.result c.put_first.ensures (λ put. coded_put helpers callees space (get bytes_eq c.args.tasks.now) (get bytes_eq c.put_first.new.map) f _ c.in_ok-new.field-0 (named ∙ ap Some (sym c.name.view_is)) made put)
