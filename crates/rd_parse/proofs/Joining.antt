-- Texts that stand beside each other, as a loop reads them.
use Rattle.std.proofs.Common.{◌≡◌, ℕ, true, false, List, ◌++◌, append_assoc, Ok, sym, ap, ◌∙◌}
use Rattle.std.proofs.lemmas.List.{append-nil}
use Rattle.rd_syntax.specs.declared.token.Token.{Token}
use Rattle.rd_parse.specs.Reader.{hits, sees, read_one}
use Rattle.rd_parse.specs.Terminal.{text_of}
use Rattle.rd_parse.specs.Expressions.{joined}
use Rattle.rd_parse.specs.Reading.{read_more_texts}
use Rattle.rd_parse.proofs.Loops.{made_goes_on, made_done, taken_short}

pub texts_go_on : (all new next : List ℕ) (ts rest : List Token) → sees (hits text_of) ts ≡ true → read_one text_of ts ≡ Ok (next, rest) → new ≡ all ++ next → read_more_texts all ts ≡ read_more_texts new rest
unfolding read_more_texts
texts_go_on all new next ts rest y e same =
    made_goes_on (hits text_of) (read_one text_of) (taken_short text_of) (λ more. all ++ joined more) (λ more. new ++ joined more) next (λ more. rw same (sym (append_assoc all next (joined more)))) ts rest y e

pub texts_done : (all : List ℕ) (ts : List Token) → sees (hits text_of) ts ≡ false → read_more_texts all ts ≡ Ok (all, ts)
unfolding read_more_texts
texts_done all ts n = made_done (hits text_of) (read_one text_of) (taken_short text_of) (λ more. all ++ joined more) ts n ∙ ap (λ xs. Ok (xs, ts)) (append-nil all)
