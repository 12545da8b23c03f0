use Rattle.std.proofs.Common.{◌≡◌, ◌<◌, length, ◌∙◌, subst, arith, ℕ, take, refl}
use Rattle.rd_top.specs.Command.{names_of}
use Rattle.rd_top.proofs.Given.{repeated, one_name, all_names, grown}
use Rattle.rd_top.proofs.command.arguments.are_distinct.Goals as goal

pub returns-then-not-branch : goal.returns-then-not-branch
returns-then-not-branch c =
    let lt : c.loop-name.name-index < length c.args.arguments.now = omega arith in
    let added = rw c.in_ok-copy.ensures at c.in_ok-insert.ensures.added in
    (λ h. absurd cc, λ different. absurd (repeated c.args.arguments.now c.loop-name.names.keys c.loop-name.name-index c.loop-name-item.result c.in_ok-insert.field-0 lt c.loop-name.invariant.0 c.loop-name-item.is added c.if-not-branch.true different))

pub loop-name-preserved : goal.loop-name-preserved
loop-name-preserved c =
    let lt : c.loop-name.name-index < length c.args.arguments.now = omega arith in
    let added = rw c.in_ok-copy.ensures at c.in_ok-insert.ensures.added in
    let keys = rw c.in_ok-copy.ensures at c.in_ok-insert.ensures.keys in
    (keys ∙ (grown c.loop-name.names.keys c.loop-name-item.result.0 c.in_ok-insert.field-0 added c.if-not-branch.false ∙ one_name c.args.arguments.now c.loop-name.names.keys c.loop-name.name-index c.loop-name-item.result lt c.loop-name.invariant.0 c.loop-name-item.is), c.insert.ensures.unique)

pub returns : goal.returns
returns c =
    let end : c.loop-name.name-index ≡ length c.args.arguments.now = omega arith in
    (λ h. all_names c.args.arguments.now c.loop-name.names.keys (subst (λ (n : ℕ). c.loop-name.names.keys ≡ take n (names_of c.args.arguments.now)) end c.loop-name.invariant.0) c.loop-name.invariant.1, λ h. refl)
