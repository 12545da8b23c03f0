use Rattle.std.proofs.Common.{◌≡◌, ℕ, ◌+◌, List, [], ◌∷◌, ◌++◌, length, drop, map, sym, ap, ◌∙◌, arith, append_assoc, append-nil}
use Rattle.std.specs.Str.{chars}
use Rattle.std.proofs.lemmas.Iterator.{YieldsList-from_chars}
use Rattle.std.proofs.lemmas.Iterator.Consumers.{YieldsList-turn, YieldsList-end}
use Rattle.std.proofs.lemmas.List.{length_push}
use Rattle.rd_value.specs.declared.value.FileValue.{FileValue}
use Rattle.rd_value.specs.declared.value.Datum.{Datum}
use Rattle.rd_value.specs.declared.value.Datum.TheVariants as value
use Rattle.rd_value.specs.Operators.{character}
use Rattle.rd_value.proofs.Walks.{item_first, none_left}
use Rattle.rd_interpreter.proofs.builtins.items.characters.Goals as goal

turn : (all new target : List (Datum FileValue)) (v : Datum FileValue) (cs : List ℕ) (n c m : ℕ) → new ≡ all ++ v ∷ [] → v ≡ character c → drop n cs ≡ c ∷ drop (n + 1) cs → m ≡ n + 1 →
    all ++ map character (drop n cs) ≡ target → new ++ map character (drop m cs) ≡ target
turn all new target v cs n c m e w d k i = rw (e, w, k, append_assoc) (rw d at i)

pub loop-c-preserved : goal.loop-c-preserved
loop-c-preserved c =
    let t = YieldsList-turn (YieldsList-from_chars c.args.text.now c.utf8.text cc) c.loop-c.yielded _ c.loop-c.yielded_by _ _ c.in-Some.c c.in-Some.is c.next.ensures.steps in
    turn c.loop-c.all c.push.new.self (map character (chars c.args.text.now)) (value.Text c.in_ok-character.field-0) (chars c.args.text.now) (length c.loop-c.yielded) c.in-Some.c _
    c.in_ok-push.ensures.ok (ap value.Text c.in_ok-character.ensures) (item_first _ _ _ t.0 t.1) (length_push c.loop-c.yielded c.in-Some.c) c.loop-c.invariant

finish : (all target : List (Datum FileValue)) (cs : List ℕ) (n : ℕ) → drop n cs ≡ [] → all ++ map character (drop n cs) ≡ target → all ≡ target
finish all target cs n d i = sym (append-nil all) ∙ rw d at i

pub returns : goal.returns
returns c =
    let t = YieldsList-end (YieldsList-from_chars c.args.text.now c.utf8.text cc) c.loop-c.yielded _ c.loop-c.yielded_by _ _ c.in-None.is c.next.ensures.steps in
    finish c.loop-c.all _ (chars c.args.text.now) (length c.loop-c.yielded) (none_left (chars c.args.text.now) (length c.loop-c.yielded) (omega (arith, t.1))) c.loop-c.invariant
