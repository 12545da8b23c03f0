use Rattle.std.proofs.Common.{◌≡◌, ◌++◌, [], drop, map}
use Rattle.rd_names.specs.Names.{doubles, with_names, parameter_names}
use Rattle.rd_names.proofs.names.note_parameters.Given as goal

abbrev pub invariant-loop-parameter : goal.invariant-loop-parameter
invariant-loop-parameter l = (with_names l.seen.keys (map (λ p. p.name.text) (drop l.parameter-index l.parameters)) ≡ with_names [] (map (λ p. p.name.text) l.parameters)) × (l.all.items ++ doubles l.seen.keys (parameter_names (drop l.parameter-index l.parameters)) ≡ l.fn.all.items ++ doubles [] (parameter_names l.parameters))
