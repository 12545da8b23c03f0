use Rattle.std.proofs.Common.{◌≡◌, ℕ, ◌+◌, ◌/◌, ◌%◌, ◌<◌, ◌≤◌, List, [], ◌∷◌, ◌++◌, encode_utf8, arith, ap, sym, ◌∙◌, append_assoc}
use Rattle.rd_syntax.specs.declared.lexer.Lexer.{Lexer}
use Rattle.rd_syntax.specs.Machine.{written}
use Rattle.rd_syntax.proofs.Encoded.{two_bytes}
use Rattle.rd_syntax.proofs.lexer.Lexer.push_character.Goals as goal

two_pushed : (s : Lexer) (code : ℕ) (one both : List ℕ) → 128 ≤ code → code < 2048 → one ≡ s.text ++ (192 + code / 64) ∷ [] → both ≡ one ++ (128 + code % 64) ∷ []
    → (let r : Lexer = record s { text = both } in r) ≡ written s (encode_utf8 code)
two_pushed s code one both low high e f =
    ap (λ (t : List ℕ). (let r : Lexer = record s { text = t } in r))
    (f ∙ ap (λ (t : List ℕ). t ++ (128 + code % 64) ∷ []) e ∙ append_assoc s.text ((192 + code / 64) ∷ []) ((128 + code % 64) ∷ []) ∙ ap (λ (t : List ℕ). s.text ++ t) (sym (two_bytes code low high)))

pub returns : goal.returns
returns c = two_pushed c.args.self.now c.args.code c.push-2.new.self c.push-3.new.self (omega arith) (omega arith) c.in_ok-push.ensures.ok c.in_ok-push-2.ensures.ok
