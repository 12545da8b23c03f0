use Rattle.std.proofs.Common.{◌≡◌, ◌∙◌, refl, ap}
use Rattle.rd_names.specs.Names.{is_among, texts, function_names, own_tasks}
use Rattle.rd_names.proofs.OneMore.{among_all}
use Rattle.rd_names.proofs.names.known_functions.Goals as goal

pub returns-clause-known : goal.returns-clause-known
returns-clause-known c =
    let names = texts (function_names c.args.functions.now) in
    let tasks = own_tasks c.args.functions.now in
    let same_names : is_among c.in_ok-names.names.keys ≡ is_among names = ap is_among c.in_ok-names.ensures.names ∙ among_all names in
    let same_tasks : is_among c.in_ok-tasks.tasks.keys ≡ is_among tasks = ap is_among c.in_ok-tasks.ensures ∙ among_all tasks in
    rw (same_names, same_tasks) refl
