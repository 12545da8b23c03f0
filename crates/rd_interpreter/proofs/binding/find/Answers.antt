use Rattle.std.proofs.Common.{◌≡◌, ap, ◌∙◌, length}
use Rattle.std.specs.List.{position}
use Rattle.std.specs.Str.{bytes_eq}
use Rattle.std.proofs.lemmas.List.{length-map}
use Rattle.rd_interpreter.specs.Binding.{names_of}
use Rattle.rd_interpreter.proofs.Arguments.{place_by_names}
use Rattle.rd_interpreter.proofs.binding.find.Goals as goal

pub returns-in-Some-clause-value : goal.returns-in-Some-clause-value
returns-in-Some-clause-value c =
    let keys : c.in-Some.names.keys ≡ names_of c.args.arguments.now = rw c.in-Some.is at c.requires in
    c.get_index_of.ensures.index ∙ (ap (position (bytes_eq c.args.name.now)) keys ∙ place_by_names c.args.name.now c.args.arguments.now)

pub returns-in-Some-clause-within : goal.returns-in-Some-clause-within
returns-in-Some-clause-within c =
    let keys : c.in-Some.names.keys ≡ names_of c.args.arguments.now = rw c.in-Some.is at c.requires in
    let names : length (names_of c.args.arguments.now) ≡ length c.args.arguments.now = simp length-map in
    let count : length c.in-Some.names.keys ≡ length c.args.arguments.now = ap length keys ∙ names in
    rw count at c.get_index_of.ensures.within
