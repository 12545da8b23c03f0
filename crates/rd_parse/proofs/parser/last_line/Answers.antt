use Rattle.std.proofs.Common.{◌≡◌, suc, ◌-◌, List, [], ◌∷◌, length, Some, sym, ap, subst, arith}
use Rattle.std.specs.List.{slice_get}
use Rattle.rd_syntax.specs.declared.token.Token.{Token}
use Rattle.rd_parse.specs.Refusals.{last_line}
use Rattle.rd_parse.proofs.parser.last_line.Goals as goal

last_is : (ts : List Token) (t : Token) → slice_get ts (length ts - 1) ≡ Some t → t.line ≡ last_line ts
last_is [] t e = absurd cc
last_is (u ∷ []) t e = let same : u ≡ t = cc in ap (λ x. x.line) (sym same)
last_is (u ∷ v ∷ ts) t e =
    let less : suc (suc (length ts)) - 1 ≡ suc (length ts) = omega arith in
    let again : suc (length ts) - 1 ≡ length ts = omega arith in
    last_is (v ∷ ts) t (subst (λ n. slice_get (v ∷ ts) n ≡ Some t) (sym again) (subst (λ n. slice_get (u ∷ v ∷ ts) n ≡ Some t) less e))

pub returns-in-Some : goal.returns-in-Some
returns-in-Some c = last_is c.args.tokens.now c.in-Some.token.now (sym c.in-Some.ensures.value)
