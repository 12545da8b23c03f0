use Rattle.std.proofs.Common.{◌≡◌, [], ◌++◌, ◌<◌, true, false, length, map, rules, ap, sym, ◌∙◌, arith, get_or}
use Rattle.std.proofs.lemmas.Str.{IsCharBoundary-start, IsCharBoundary-after_ascii}
use Rattle.rd_value.specs.declared.value.Datum.TheVariants as value
use Rattle.rd_interpreter.specs.Texts.{is_space, with_word, words}
use Rattle.rd_interpreter.proofs.TextPieces.{space_ascii, words_space, words_letter}
use Rattle.rd_interpreter.proofs.texts.words.Goals as goal
use Rattle.rd_interpreter.proofs.texts.words.Goals.{then-is_space+in_ok-push_word, else-is_space}

pub loop-place-init : goal.loop-place-init
loop-place-init c = (omega arith, omega arith, IsCharBoundary-start c.args.text.now c.utf8.text, ap (λ l. l ++ map value.Text (words c.args.text.now)) c.new-words.ensures)

pub loop-place-preserved : goal.loop-place-preserved
loop-place-preserved c = elim c.if-is_space.branch [
  | then-is_space+in_ok-push_word w ↦
      let lt : c.loop-place.place < length c.args.text.now = search rules in
      let space : is_space (get_or c.args.text.now c.loop-place.place 0) ≡ true = ap (λ l. is_space (get_or l c.loop-place.place 0)) (sym c.as_bytes.ensures.value) ∙ sym c.is_space.ensures ∙ w.if-is_space.true in
      rw (w.begun-is, w.words-is) (
        omega arith,
        omega arith,
        IsCharBoundary-after_ascii c.args.text.now c.loop-place.place c.utf8.text lt (space_ascii _ space),
        words_space value.Text c.args.text.now c.loop-place.begun c.loop-place.place _ _ _ lt space (w.in_ok-push_word.ensures ∙ ap (λ word. c.loop-place.words ++ map value.Text (with_word word [])) w.range.ensures.value) c.loop-place.invariant.3,
      )
  | else-is_space w ↦
      let lt : c.loop-place.place < length c.args.text.now = search rules in
      let letter : is_space (get_or c.args.text.now c.loop-place.place 0) ≡ false = ap (λ l. is_space (get_or l c.loop-place.place 0)) (sym c.as_bytes.ensures.value) ∙ sym c.is_space.ensures ∙ w.if-is_space.false in
      rw (w.begun-is, w.words-is) (
        omega (arith, c.loop-place.invariant.0),
        omega arith,
        c.loop-place.invariant.2,
        words_letter value.Text c.args.text.now c.loop-place.begun c.loop-place.place _ _ c.loop-place.invariant.0 lt letter c.loop-place.invariant.3,
      )
]
