use Rattle.std.proofs.Common.{◌≡◌, ◌++◌}
use Rattle.rd_parse.specs.Modules.{functions_of, module_of, namespaces_of}
use Rattle.rd_parse.proofs.module.build.module_of.Given as goal

abbrev pub invariant-loop-part : goal.invariant-loop-part
invariant-loop-part l = record { namespaces = l.namespaces.items ++ namespaces_of l.part-iterator.rest.items; functions = l.functions.items ++ functions_of l.part-iterator.rest.items } ≡ module_of l.fn.parts.items
