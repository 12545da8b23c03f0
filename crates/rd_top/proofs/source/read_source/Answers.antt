use Rattle.std.proofs.lemmas.Result.{err_from_is_err_and}
use Rattle.rd_names.specs.Refusals.{told}
use Rattle.rd_top.proofs.Sources.{no_tokens, no_workflow, no_module, only_memory, source_of, names_only, names_refused, one_source}
use Rattle.rd_top.proofs.source.read_source.Goals as goal

pub returns-in_err-tokens-clause-only : goal.returns-in_err-tokens-clause-only
returns-in_err-tokens-clause-only c = λ m w.
    let p = err_from_is_err_and c.from_residual.result c.from_residual.ensures.1 in
    rw (p.1, p.2) (no_workflow c.args.source.now c.in_err-tokens.field-0.0 m c.in_err-tokens.ensures.only w)

pub returns-in_err-tokens-clause-line : goal.returns-in_err-tokens-clause-line
returns-in_err-tokens-clause-line c =
    let p = err_from_is_err_and c.from_residual.result c.from_residual.ensures.1 in
    rw (p.1, p.2) (no_tokens c.args.source.now c.in_err-tokens.field-0.0 c.in_err-tokens.ensures.only c.in_err-tokens.ensures.line)

pub returns-in_err-tree-clause-only : goal.returns-in_err-tree-clause-only
returns-in_err-tree-clause-only c = λ m w.
    let p = err_from_is_err_and c.from_residual-in_err-tree.result c.from_residual-in_err-tree.ensures.1 in
    rw (p.1, p.2) (only_memory c.args.source.now c.in_ok-tokens.tokens c.in_ok-tokens.ensures.found c.in_err-tree.field-0.0 m c.in_err-tree.ensures.only w)

pub returns-in_err-tree-clause-line : goal.returns-in_err-tree-clause-line
returns-in_err-tree-clause-line c =
    let p = err_from_is_err_and c.from_residual-in_err-tree.result c.from_residual-in_err-tree.ensures.1 in
    rw (p.1, p.2) (no_module c.args.source.now c.in_ok-tokens.tokens c.in_ok-tokens.ensures.found c.in_err-tree.field-0.0 c.in_err-tree.ensures.only c.in_err-tree.ensures.line)

pub returns-in-Ok-clause-only : goal.returns-in-Ok-clause-only
returns-in-Ok-clause-only c = λ m w.
    one_source c.args.source.now c.in_ok-tree.tree m (source_of c.args.source.now c.in_ok-tokens.tokens c.in_ok-tokens.ensures.found c.in_ok-tree.tree c.in_ok-tree.ensures.found) w.reads

pub returns-clause-only : goal.returns-clause-only
returns-clause-only c = λ m w.
    let reads = source_of c.args.source.now c.in_ok-tokens.tokens c.in_ok-tokens.ensures.found c.in_ok-tree.tree c.in_ok-tree.ensures.found in
    rw c.refusal.ensures (names_only c.args.source.now c.in_ok-tree.tree reads (told c.in-Err.error) c.in-Err.ensures.broken m w)

pub returns-clause-line : goal.returns-clause-line
returns-clause-line c =
    let reads = source_of c.args.source.now c.in_ok-tokens.tokens c.in_ok-tokens.ensures.found c.in_ok-tree.tree c.in_ok-tree.ensures.found in
    rw c.refusal.ensures (names_refused c.args.source.now c.in_ok-tree.tree reads (told c.in-Err.error) c.in-Err.ensures.broken c.in-Err.ensures.refused)
