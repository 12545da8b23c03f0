use Rattle.std.proofs.Common.{◌≡◌, ◌<◌, ◌+◌, ℕ, List, ◌∷◌, length, get_or, drop, drop-cons, add-one, sym, ap, ◌∙◌}
use Rattle.rd_syntax.specs.declared.lexer.Mode.{Mode}
use Rattle.rd_syntax.specs.declared.lexer.Lexer.{Lexer}
use Rattle.rd_syntax.specs.Machine.{lexed}
use Rattle.rd_syntax.proofs.source.read.Goals as goal

one_further : (source : List ℕ) (i : ℕ) (m n : Mode) (s x : Lexer) → i < length source → ((rest : List ℕ) → lexed m s (get_or source i 0 ∷ rest) ≡ lexed n x rest)
    → lexed n x (drop (i + 1) source) ≡ lexed m s (drop i source)
one_further source i m n s x lt h =
    let e : drop i source ≡ get_or source i 0 ∷ drop (i + 1) source = rw (add-one, drop-cons source i 0) in
    sym (h (drop (i + 1) source)) ∙ ap (lexed m s) (sym e)

pub loop-byte-preserved : goal.loop-byte-preserved
loop-byte-preserved c = record {
  left = one_further c.args.source.now c.loop-byte.byte-index c.loop-byte.mode c.in-Ok.next c.loop-byte.lexer c.take.new.self c.loop-byte-test.true c.in-Ok.ensures.takes ∙ c.loop-byte.invariant.left;
  counts = c.in-Ok.ensures.further c.loop-byte.byte-index c.loop-byte.invariant.counts;
}
