use Rattle.std.proofs.Common.{rules, ◌≡◌, length, Ok, Err, refl, sym, ◌∙◌, inl, inr}
use Rattle.rd_parse.specs.Reader.{Refused, Deep}
use Rattle.rd_parse.specs.ModuleReading.{read_module}
use Rattle.rd_parse.proofs.Whole.{none_left, some_left}
use Rattle.rd_parse.proofs.WholeTexts.{module_found, module_is, module_longer, module_not_read, module_sinks, module_breaks, module_behind}
use Rattle.rd_parse.proofs.parser.parse.Goals as goal

pub returns-then-is_empty-clause-found : goal.returns-then-is_empty-clause-found
returns-then-is_empty-clause-found c =
    let read : read_module 64 c.args.tokens.now ≡ Ok (c.in-Ok.module, c.in-Ok.rest.now) = search rules in
    let none = none_left (length c.in-Ok.rest.now) c.in-Ok.rest.now refl (sym c.is_empty.ensures ∙ c.if-is_empty.true) in
    module_found c.args.tokens.now c.in-Ok.rest.now c.in-Ok.module read none

pub returns-then-is_empty-clause-only : goal.returns-then-is_empty-clause-only
returns-then-is_empty-clause-only c m h =
    let read : read_module 64 c.args.tokens.now ≡ Ok (c.in-Ok.module, c.in-Ok.rest.now) = search rules in
    module_is c.args.tokens.now c.in-Ok.rest.now c.in-Ok.module m read h

pub returns-else-is_empty-clause-only : goal.returns-else-is_empty-clause-only
returns-else-is_empty-clause-only c m h =
    let read : read_module 64 c.args.tokens.now ≡ Ok (c.in-Ok.module, c.in-Ok.rest.now) = search rules in
    let some = some_left (length c.in-Ok.rest.now) c.in-Ok.rest.now refl (sym c.is_empty.ensures ∙ c.if-is_empty.false) in
    absurd (module_longer c.args.tokens.now c.in-Ok.rest.now c.in-Ok.module m some read h)

pub returns-else-is_empty-clause-line : goal.returns-else-is_empty-clause-line
returns-else-is_empty-clause-line c =
    let read : read_module 64 c.args.tokens.now ≡ Ok (c.in-Ok.module, c.in-Ok.rest.now) = search rules in
    let some = some_left (length c.in-Ok.rest.now) c.in-Ok.rest.now refl (sym c.is_empty.ensures ∙ c.if-is_empty.false) in
    rw (c.refusal.ensures, c.as_slice-all.ensures) (record { left = c.in-Ok.rest.now; refused = inr (module_behind c.args.tokens.now c.in-Ok.rest.now c.in-Ok.module some read); at_line = refl })

pub returns-in-Err-Refused-clause-only : goal.returns-in-Err-Refused-clause-only
returns-in-Err-Refused-clause-only c m h =
    let read : read_module 64 c.args.tokens.now ≡ Err (Refused c.in-Err-Refused.rest.now) = search rules in
    absurd (module_not_read c.args.tokens.now _ m read h)

pub returns-in-Err-Refused-clause-line : goal.returns-in-Err-Refused-clause-line
returns-in-Err-Refused-clause-line c =
    let read : read_module 64 c.args.tokens.now ≡ Err (Refused c.in-Err-Refused.rest.now) = search rules in
    rw (c.refusal-in-Err-Refused.ensures, c.as_slice-all.ensures) (record { left = c.in-Err-Refused.rest.now; refused = inr (module_breaks c.args.tokens.now c.in-Err-Refused.rest.now read); at_line = refl })

pub returns-in-Err-Deep-clause-only : goal.returns-in-Err-Deep-clause-only
returns-in-Err-Deep-clause-only c m h =
    let read : read_module 64 c.args.tokens.now ≡ Err (Deep c.in-Err-Deep.rest.now) = search rules in
    absurd (module_not_read c.args.tokens.now _ m read h)

pub returns-in-Err-Deep-clause-line : goal.returns-in-Err-Deep-clause-line
returns-in-Err-Deep-clause-line c =
    let read : read_module 64 c.args.tokens.now ≡ Err (Deep c.in-Err-Deep.rest.now) = search rules in
    rw (c.refusal-in-Err-Deep.ensures, c.as_slice-all.ensures) (record { left = c.in-Err-Deep.rest.now; refused = inl (module_sinks c.args.tokens.now c.in-Err-Deep.rest.now read); at_line = refl })
