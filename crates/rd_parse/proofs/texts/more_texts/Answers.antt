use Rattle.std.proofs.Common.{◌++◌, Ok, sym, ap, ◌∙◌}
use Rattle.std.specs.Prelude.{string_bytes}
use Rattle.rd_parse.proofs.Joining.{texts_go_on, texts_done}
use Rattle.rd_parse.proofs.texts.more_texts.Goals as goal

pub loop-alloc-preserved : goal.loop-alloc-preserved
loop-alloc-preserved c =
    sym (texts_go_on (string_bytes c.loop-alloc.all) (string_bytes c.push_str.new.self) c.in_ok-next.next c.loop-alloc.rest.now c.in_ok-next.after.now (sym c.begins_text.ensures ∙ c.loop-alloc-test.true) c.in_ok-next.ensures
    (c.in_ok-push_str.ensures.bytes ∙ ap (λ x. string_bytes c.loop-alloc.all ++ x) c.as_str.ensures.value)) ∙ c.loop-alloc.invariant

pub returns : goal.returns
returns c =
    sym c.loop-alloc.invariant ∙ texts_done (string_bytes c.loop-alloc.all) c.loop-alloc.rest.now (sym c.begins_text.ensures ∙ c.loop-alloc-test.false)
    ∙ ap (λ xs. Ok (xs, c.loop-alloc.rest.now)) (sym c.in_ok-from_string.ensures)
