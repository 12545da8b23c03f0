use Rattle.std.proofs.Common.{◌≡◌, ap, ◌∙◌}
use Rattle.std.specs.Prelude.{option_copied}
use Rattle.std.specs.Str.{bytes_eq}
use Rattle.indexmap.specs.IndexMap.{get}
use Rattle.rd_names.specs.Options.{first_space}
use Rattle.rd_registry.specs.Functions.{found_among}
use Rattle.rd_registry.specs.Registry.{code_in}
use Rattle.rd_registry.proofs.Tasks.{codes_of}
use Rattle.rd_registry.proofs.registry.registering.registered.Goals as goal

pub returns : goal.returns
returns c =
    let m = c.args.«module».now in
    let space = option_copied c.first_namespace-space.result in
    let fs = c.as_slice-all.result.now in
    let is_space : space ≡ first_space m.namespaces = c.first_namespace-space.ensures ∙ ap first_space c.as_slice.ensures in
    record {
      functions = λ text. c.in_ok-functions.ensures text ∙ ap (λ s. found_among s 0 fs text) is_space ∙ ap (λ gs. found_among (first_space m.namespaces) 0 gs text) c.as_slice-all.ensures;
      tasks = λ text. codes_of m space fs is_space c.as_slice-all.ensures (get bytes_eq c.in_ok-functions.functions) c.in_ok-functions.ensures text (code_in c.in_ok-tasks.tasks text) (c.in_ok-tasks.ensures text);
    }
