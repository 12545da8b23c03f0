use Rattle.std.proofs.Common.{◌≡◌, List, ◌∷◌, ℕ, ◌∙◌, ap, sym, subst, Bor}
use Rattle.rd_bencode.specs.Front.{InFront}
use Rattle.rd_bencode.proofs.Fronts.{list_begins, no_list_begins}
use Rattle.rd_bencode.proofs.Closing.{found_list, found_plain, list_only, plain_only_in_front}
use Rattle.rd_bencode.proofs.form.behind_item.Goals as goal

pub returns-in-Some-clause-found : goal.returns-in-Some-clause-found
returns-in-Some-clause-found c =
    let e : c.args.bytes.now ≡ 108 ∷ c.in-Some.rest.now = list_begins c.args.bytes.now c.in-Some.ensures.cases.0 ∙ ap (λ r. 108 ∷ r) (sym c.in-Some.ensures.cases.1) in
    found_list (λ (r : Bor (List ℕ)). r.now) c.args.spelling c.args.bytes.now c.in-Some.rest.now c.behind_parts.result e c.behind_parts.ensures.found

pub returns-in-Some-clause-only : goal.returns-in-Some-clause-only
returns-in-Some-clause-only c =
    let e : c.args.bytes.now ≡ 108 ∷ c.in-Some.rest.now = list_begins c.args.bytes.now c.in-Some.ensures.cases.0 ∙ ap (λ r. 108 ∷ r) (sym c.in-Some.ensures.cases.1) in
    λ rest f. c.behind_parts.ensures.only rest (list_only c.args.spelling c.in-Some.rest.now rest (subst (λ b. InFront c.args.spelling b rest) e f))

pub returns-in-None-clause-found : goal.returns-in-None-clause-found
returns-in-None-clause-found c = found_plain (λ (r : Bor (List ℕ)). r.now) c.args.spelling c.args.bytes.now c.behind_plain_item.result c.behind_plain_item.ensures

pub returns-in-None-clause-only : goal.returns-in-None-clause-only
returns-in-None-clause-only c = λ rest f. c.behind_plain_item.ensures ∙ plain_only_in_front c.args.spelling c.args.bytes.now rest (no_list_begins c.args.bytes.now c.in-None.ensures.cases) f
