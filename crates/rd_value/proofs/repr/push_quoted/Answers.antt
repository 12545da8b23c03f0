use Rattle.std.proofs.Common.{◌≡◌, ℕ, ◌+◌, List, [], ◌∷◌, ◌++◌, length, drop, string_bytes, sym, ◌∙◌, arith, append_assoc, append-nil}
use Rattle.std.specs.Char.{encode_utf8}
use Rattle.std.specs.List.{flat_map}
use Rattle.std.specs.Str.{chars}
use Rattle.std.proofs.lemmas.Iterator.{YieldsList-from_chars}
use Rattle.std.proofs.lemmas.Iterator.Consumers.{YieldsList-turn, YieldsList-end}
use Rattle.std.proofs.lemmas.List.{length_push}
use Rattle.rd_value.specs.Repr.{escaped, quote_of}
use Rattle.rd_value.proofs.Walks.{item_first, none_left}
use Rattle.rd_value.proofs.repr.push_quoted.Goals as goal

turn : (E : ℕ → List ℕ) (out new cs target : List ℕ) (n c m : ℕ) → new ≡ out ++ E c → drop n cs ≡ c ∷ drop (n + 1) cs → m ≡ n + 1 → out ++ flat_map E (drop n cs) ≡ target → new ++ flat_map E (drop m cs) ≡ target
turn E out new cs target n c m e d k i = rw (e, k, append_assoc) (rw d at i)

pub loop-c-preserved : goal.loop-c-preserved
loop-c-preserved c =
    let t = YieldsList-turn (YieldsList-from_chars c.args.text.now c.utf8.text cc) c.loop-c.yielded _ c.loop-c.yielded_by _ _ c.in-Some.c c.in-Some.is c.next.ensures.steps in
    turn (escaped c.quote_of-quote.result) (string_bytes c.loop-c.out) _ (chars c.args.text.now) _ (length c.loop-c.yielded) c.in-Some.c _
    c.in_ok-push_escaped.ensures (item_first _ _ _ t.0 t.1) (length_push c.loop-c.yielded c.in-Some.c) c.loop-c.invariant

finish : (E : ℕ → List ℕ) (old one out last q cs : List ℕ) (n : ℕ) → one ≡ old ++ q → last ≡ out ++ q → drop n cs ≡ [] → out ++ flat_map E (drop n cs) ≡ one ++ flat_map E cs → last ≡ old ++ ((q ++ flat_map E cs) ++ q)
finish E old one out last q cs n e k d i =
    let f : out ≡ one ++ flat_map E cs = sym (append-nil out) ∙ rw d at i in
    rw (k, f, e) (simp append_assoc)

pub returns : goal.returns
returns c =
    let t = YieldsList-end (YieldsList-from_chars c.args.text.now c.utf8.text cc) c.loop-c.yielded _ c.loop-c.yielded_by _ _ c.in-None.is c.next.ensures.steps in
    let q : c.quote_of-quote.result ≡ quote_of c.args.text.now = c.quote_of-quote.ensures in
    rw (← q) (finish (escaped c.quote_of-quote.result) (string_bytes c.args.out.now) (string_bytes c.push.new.self) (string_bytes c.loop-c.out) _ (encode_utf8 c.quote_of-quote.result) (chars c.args.text.now) (length c.loop-c.yielded)
    c.in_ok-push.ensures.bytes c.in_ok-push-2.ensures.bytes (none_left (chars c.args.text.now) (length c.loop-c.yielded) (omega (arith, t.1))) c.loop-c.invariant)
