-- Where reading stops no source goes on.
use Rattle.std.specs.Prelude.{◌==◌, encode_utf8, IfOk, length}
use Rattle.std.proofs.Common.{◌≡◌, ℕ, zero, suc, ◌+◌, ◌*◌, ◌≤◌, Bool, true, false, ◌&&◌, List, [], ◌∷◌, ◌++◌, Option, Some, None, Result, Ok, refl, sym, ap, ◌∙◌, append_assoc, inr, Err}
use Rattle.std.proofs.lemmas.List.{append-nil}
use Rattle.rd_syntax.specs.declared.class.Quote.{Quote}
use Rattle.rd_syntax.specs.declared.utf8.Tail.{Tail}
use Rattle.rd_syntax.specs.declared.utf8.Tail.TheVariants as t
use Rattle.rd_syntax.specs.declared.source.SourceError.{SourceError}
use Rattle.rd_syntax.specs.declared.source.SourceError.TheVariants as err
use Rattle.rd_syntax.specs.Outcome.{Answers}
use Rattle.rd_syntax.specs.declared.token.TokenKind.TheVariants as k
use Rattle.rd_syntax.specs.declared.token.Token.{Token}
use Rattle.rd_syntax.specs.declared.layout.Position.{Position}
use Rattle.rd_syntax.specs.declared.layout.Place.{Place}
use Rattle.rd_syntax.specs.declared.layout.Place.TheVariants.{Before, Start, Inside}
use Rattle.rd_syntax.specs.declared.lexer.Mode.{Mode}
use Rattle.rd_syntax.specs.declared.lexer.Mode.TheVariants as m
use Rattle.rd_syntax.specs.declared.lexer.Lexer.{Lexer}
use Rattle.rd_syntax.specs.Bytes.{quote_byte, is_quote, is_double, other_half}
use Rattle.rd_syntax.specs.Utf8.{follows, rest_of}
use Rattle.rd_syntax.specs.Layout.{ending_at, first_position, next, along, past_space, ending}
use Rattle.rd_syntax.specs.Sources.{IsStuck, line_of, IsRefused, Lexes, Refuses, IfRefused, IsOrMemory, HasTokens}
use Rattle.rd_syntax.specs.Machine.{finish, sign_place, step_in, at_start, spot, Step, ended, end_word, end_number, end_sign, pushed, written, end_line, quoted_at, comment_at, put, answer, lexed, first_lexer}
use Rattle.rd_syntax.proofs.Classes.{of_feed, of_space, of_close, of_quote, not_quote, self}
use Rattle.rd_syntax.proofs.Only.{Answer, go, tokens_only}
use Rattle.rd_syntax.proofs.Found.{tokens_found}

-- ---- every lexer can be finished

abbrev Finishes : Mode → Lexer → Type 0
Finishes mode s = (more : List ℕ) × (ts : List Token) × (lexed mode s more ≡ Ok ts)

step_finishes : (mode : Mode) (s : Lexer) (b : ℕ) (n : Mode) (x : Lexer) → step_in mode s b ≡ Some (n, x) → Finishes n (put x (next s.here b)) → Finishes mode s
step_finishes mode s b n x e f = (b ∷ f.0, f.1, ap (go s b f.0) e ∙ f.2)

end_finishes : (s : Lexer) (o : Option (List Token)) (later : List Token) → ending (spot s) ≡ o → o ≡ Some later → Finishes m.Between s
end_finishes s o later e h = ([], s.tokens ++ later, rw (e, h) refl)

close_one : (s : Lexer) (depth : ℕ) → s.place ≡ Inside (suc depth) → step_in m.Between s 41 ≡ Some (m.Sign 41, record s { tokens = s.tokens ++ []; place = Inside (suc depth); text = []; began = s.here })
close_one s depth h = rw (of_close, h) refl

space_after : (s : Lexer) → step_in (m.Sign 41) s 32 ≡ Some (m.Between, record (end_sign (41 ∷ []) s.here s) { place = past_space false (sign_place (41 ∷ []) s.place) })
space_after s = rw of_space refl

-- brackets are closed one by one
close : (depth : ℕ) (s : Lexer) → s.place ≡ Inside depth → Finishes m.Between s
close zero s h = end_finishes s (ending_at (Inside zero) s.stack s.here) _ (ap (λ (p : Place). ending_at p s.stack s.here) h) refl
close (suc depth) s h =
    let a : Lexer = record s { tokens = s.tokens ++ []; place = Inside (suc depth); text = []; began = s.here } in
    let a1 : Lexer = put a (next s.here 41) in
    let b : Lexer = record (end_sign (41 ∷ []) a1.here a1) { place = Inside depth } in
    step_finishes m.Between s 41 (m.Sign 41) a (close_one s depth h)
    (step_finishes (m.Sign 41) a1 32 m.Between b (space_after a1) (close depth (put b (next a1.here 32)) refl))

between_at : (p : Place) (s : Lexer) → s.place ≡ p → Finishes m.Between s
between_at (Before from) s h = end_finishes s (ending_at (Before from) s.stack s.here) _ (ap (λ (p : Place). ending_at p s.stack s.here) h) refl
between_at (Start column tab) s h = end_finishes s (ending_at (Start column tab) s.stack s.here) _ (ap (λ (p : Place). ending_at p s.stack s.here) h) refl
between_at (Inside depth) s h = close depth s h

between : (s : Lexer) → Finishes m.Between s
between s = between_at s.place s refl

and_false : (b : Bool) → (b && false) ≡ false
and_false true = refl
and_false false = refl

no_double : (a : ℕ) → is_double a 32 ≡ false
no_double a = and_false (a == 45)

spaced : (quote : Quote) → (32 == quote_byte quote) ≡ false
spaced quote = not_quote quote 32 (ap is_quote of_space)

finish_two : (quote : Quote) (s : Lexer) → Finishes (m.SeenTwo quote) s
finish_two quote s = step_finishes (m.SeenTwo quote) s (quote_byte quote) m.Between (ended k.Text s.text (next s.here (quote_byte quote)) s) (rw (self (quote_byte quote)) refl) (between _)

finish_one : (quote : Quote) (s : Lexer) → Finishes (m.SeenOne quote) s
finish_one quote s = step_finishes (m.SeenOne quote) s (quote_byte quote) (m.SeenTwo quote) s (rw (self (quote_byte quote)) refl) (finish_two quote _)

quoted : (quote : Quote) (long : Bool) (s : Lexer) → Finishes (m.Quoted quote long) s
quoted quote false s = step_finishes (m.Quoted quote false) s (quote_byte quote) m.Between (ended k.Text s.text (next s.here (quote_byte quote)) s) (rw (of_quote quote, self (quote_byte quote)) refl) (between _)
quoted quote true s = step_finishes (m.Quoted quote true) s (quote_byte quote) (m.SeenOne quote) s (rw (of_quote quote, self (quote_byte quote)) refl) (finish_one quote _)

last_digit : (quote : Quote) (long : Bool) (high : ℕ) (s : Lexer) → Finishes (m.HexDigit quote long high) s
last_digit quote long high s = step_finishes (m.HexDigit quote long high) s 48 (m.Quoted quote long) (written s (encode_utf8 (16 * high + 0))) refl (quoted quote long _)

-- a byte that may come there
abbrev next_byte : Tail → ℕ
next_byte t.LongTwo = 0xA0
next_byte t.LongThree = 0x90
next_byte _ = 0x80

next_follows : (t : Tail) → follows t (next_byte t) ≡ true
unfolding follows
next_follows t.One = refl
next_follows t.Two = refl
next_follows t.Three = refl
next_follows t.LongTwo = refl
next_follows t.NoSurrogate = refl
next_follows t.LongThree = refl
next_follows t.LastThree = refl

in_text : (quote : Quote) (long : Bool) (t : Tail) → ((s : Lexer) → Finishes (quoted_at quote long (rest_of t)) s) → (s : Lexer) → Finishes (m.QuotedTail quote long t) s
in_text quote long t then_ s = step_finishes (m.QuotedTail quote long t) s (next_byte t) (quoted_at quote long (rest_of t)) (pushed s (next_byte t)) (rw (next_follows t) refl) (then_ _)

in_remark : (t : Tail) (s : Lexer) → ((s : Lexer) → Finishes (comment_at (rest_of t)) s) → Finishes (m.CommentTail t) s
in_remark t s then_ = step_finishes (m.CommentTail t) s (next_byte t) (comment_at (rest_of t)) s (rw (next_follows t) refl) (then_ _)

comment : (s : Lexer) → Finishes m.Comment s
comment s = step_finishes m.Comment s 10 m.Between (end_line s.here s 10) (rw of_feed refl) (between _)

text_tail : (quote : Quote) (long : Bool) (t : Tail) (s : Lexer) → Finishes (m.QuotedTail quote long t) s
text_tail quote long t.One = in_text quote long t.One (quoted quote long)
text_tail quote long t.Two = in_text quote long t.Two (in_text quote long t.One (quoted quote long))
text_tail quote long t.LongTwo = in_text quote long t.LongTwo (in_text quote long t.One (quoted quote long))
text_tail quote long t.NoSurrogate = in_text quote long t.NoSurrogate (in_text quote long t.One (quoted quote long))
text_tail quote long t.Three = in_text quote long t.Three (in_text quote long t.Two (in_text quote long t.One (quoted quote long)))
text_tail quote long t.LongThree = in_text quote long t.LongThree (in_text quote long t.Two (in_text quote long t.One (quoted quote long)))
text_tail quote long t.LastThree = in_text quote long t.LastThree (in_text quote long t.Two (in_text quote long t.One (quoted quote long)))

remark_tail : (t : Tail) (s : Lexer) → Finishes (m.CommentTail t) s
remark_tail t.One s = in_remark t.One s comment
remark_tail t.Two s = in_remark t.Two s (λ s. in_remark t.One s comment)
remark_tail t.LongTwo s = in_remark t.LongTwo s (λ s. in_remark t.One s comment)
remark_tail t.NoSurrogate s = in_remark t.NoSurrogate s (λ s. in_remark t.One s comment)
remark_tail t.Three s = in_remark t.Three s (λ s. in_remark t.Two s (λ s. in_remark t.One s comment))
remark_tail t.LongThree s = in_remark t.LongThree s (λ s. in_remark t.Two s (λ s. in_remark t.One s comment))
remark_tail t.LastThree s = in_remark t.LastThree s (λ s. in_remark t.Two s (λ s. in_remark t.One s comment))

last_mark : (s : Lexer) → Finishes m.MarkThree s
last_mark s = step_finishes m.MarkThree s 191 m.Between (at_start s (next s.here 191)) refl (between _)

pub finishes : (mode : Mode) (s : Lexer) → Finishes mode s
finishes m.First s = step_finishes m.First s 32 m.Between (record s { place = past_space false s.place }) (rw of_space refl) (between _)
finishes m.MarkTwo s = step_finishes m.MarkTwo s 187 m.MarkThree s refl (last_mark _)
finishes m.MarkThree s = last_mark s
finishes m.Between s = between s
finishes m.Word s = step_finishes m.Word s 32 m.Between (record (end_word s) { place = past_space false s.place }) (rw of_space refl) (between _)
finishes (m.Number value) s = step_finishes (m.Number value) s 32 m.Between (record (end_number s) { place = past_space false s.place }) (rw of_space refl) (between _)
finishes (m.Sign a) s = step_finishes (m.Sign a) s 32 m.Between (record (end_sign (a ∷ []) s.here s) { place = past_space false (sign_place (a ∷ []) s.place) }) (rw (no_double a, of_space) refl) (between _)
finishes (m.Half a) s = step_finishes (m.Half a) s (other_half a) m.Between (end_sign (a ∷ other_half a ∷ []) (next s.here (other_half a)) s) (rw (self (other_half a)) refl) (between _)
finishes (m.Opened quote) s = step_finishes (m.Opened quote) s 32 (m.Quoted quote false) (pushed s 32) (rw (spaced quote, of_space) refl) (quoted quote false _)
finishes (m.Twice quote) s = step_finishes (m.Twice quote) s 32 m.Between (record (ended k.Text s.text s.here s) { place = past_space false s.place }) (rw (spaced quote, of_space) refl) (between _)
finishes (m.Quoted quote long) s = quoted quote long s
finishes (m.SeenOne quote) s = finish_one quote s
finishes (m.SeenTwo quote) s = finish_two quote s
finishes (m.QuotedReturn quote long) s = step_finishes (m.QuotedReturn quote long) s 10 (m.Quoted quote long) (pushed s 10) (rw of_feed refl) (quoted quote long _)
finishes (m.Escape quote long) s = step_finishes (m.Escape quote long) s 110 (m.Quoted quote long) (pushed s 10) refl (quoted quote long _)
finishes (m.Hex quote long) s = step_finishes (m.Hex quote long) s 48 (m.HexDigit quote long 0) s refl (last_digit quote long 0 _)
finishes (m.HexDigit quote long high) s = last_digit quote long high s
finishes m.Comment s = comment s
finishes (m.QuotedTail quote long t) s = text_tail quote long t s
finishes (m.CommentTail t) s = remark_tail t s
finishes m.Return s = step_finishes m.Return s 10 m.Between (end_line s.began s 10) (rw of_feed refl) (between _)

-- ---- where it stopped

abbrev HaltsAt : Mode → Lexer → List ℕ → ℕ → Type 0
HaltsAt mode s [] line = (finish mode s ≡ None) × (line ≡ s.here.last)
HaltsAt mode s (b ∷ after) line = (step_in mode s b ≡ None) × (line ≡ s.here.line)

record Halted (mode : Mode) (s : Lexer) (bs : List ℕ) (line : ℕ) : Type 0 where
  before : List ℕ
  after : List ℕ
  parts : bs ≡ before ++ after
  at_mode : Mode
  at_ : Lexer
  place : at_.here ≡ along s.here before
  comes : (more : List ℕ) → lexed mode s (before ++ more) ≡ lexed at_mode at_ more
  halts : HaltsAt at_mode at_ after line

halt_end : (mode : Mode) (s : Lexer) (line : ℕ) (o : Option (List Token)) → finish mode s ≡ o → (let r : Answer = answer s.here.last o in r) ≡ Err line → Halted mode s [] line
halt_end mode s line None e h = record { before = []; after = []; parts = refl; at_mode = mode; at_ = s; place = refl; comes = λ more. refl; halts = (e, sym (let q : s.here.last ≡ line = cc in q)) }
halt_end mode s line (Some ts) e h = absurd cc

halt_step : (mode : Mode) (s : Lexer) (b : ℕ) (bs : List ℕ) (line : ℕ) (o : Step) → step_in mode s b ≡ o → go s b bs o ≡ Err line
    → ((mode : Mode) (s : Lexer) → lexed mode s bs ≡ Err line → Halted mode s bs line) → Halted mode s (b ∷ bs) line
halt_step mode s b bs line None e h ih =
    record { before = []; after = b ∷ bs; parts = refl; at_mode = mode; at_ = s; place = refl; comes = λ more. refl; halts = (e, sym (let q : s.here.line ≡ line = cc in q)) }
halt_step mode s b bs line (Some x) e h ih =
    let q = ih x.0 (put x.1 (next s.here b)) h in
    record {
      before = b ∷ q.before;
      after = q.after;
      parts = ap (λ (r : List ℕ). b ∷ r) q.parts;
      at_mode = q.at_mode;
      at_ = q.at_;
      place = q.place;
      comes = λ more. ap (go s b (q.before ++ more)) e ∙ q.comes more;
      halts = q.halts;
    }

halted : (bs : List ℕ) (line : ℕ) (mode : Mode) (s : Lexer) → lexed mode s bs ≡ Err line → Halted mode s bs line
halted [] line mode s h = halt_end mode s line (finish mode s) refl h
halted (b ∷ bs) line mode s h = halt_step mode s b bs line (step_in mode s b) refl h (halted bs line)

-- ---- refusals

pub refused : (source : List ℕ) (line : ℕ) → lexed m.First first_lexer source ≡ Err line → IsRefused source line
refused source line h =
    let q = halted source line m.First first_lexer h in
    let f = finishes q.at_mode q.at_ in
    record {
      before = q.before;
      after = q.after;
      parts = q.parts;
      viable = (f.0, f.1, tokens_found (q.before ++ f.0) f.1 (q.comes f.0 ∙ f.2));
      stuck = stuck q.before q.after q.at_mode q.at_ q.comes q.halts;
      at_line = line_is q.before q.after q.at_mode q.at_ q.place q.halts;
    }
  where
    stuck : (before after : List ℕ) (n : Mode) (x : Lexer) → ((more : List ℕ) → lexed m.First first_lexer (before ++ more) ≡ lexed n x more) → HaltsAt n x after line → IsStuck before after
    stuck before [] n x comes halts = λ ts t.
        let a : lexed m.First first_lexer (before ++ []) ≡ Ok ts = ap (lexed m.First first_lexer) (append-nil before) ∙ tokens_only before ts t in
        let b : lexed n x [] ≡ Err (x.here).last = ap (answer (x.here).last) halts.0 in
        let no : (let r : Answer = Ok ts in r) ≡ Err (x.here).last = sym a ∙ comes [] ∙ b in cc
    stuck before (b ∷ after) n x comes halts = λ v.
        let a : lexed m.First first_lexer (before ++ (b ∷ v.0)) ≡ Ok v.1 = ap (lexed m.First first_lexer) (sym (append_assoc before (b ∷ []) v.0)) ∙ tokens_only ((before ++ b ∷ []) ++ v.0) v.1 v.2 in
        let e : lexed n x (b ∷ v.0) ≡ Err (x.here).line = ap (go x b v.0) halts.0 in
        let no : (let r : Answer = Ok v.1 in r) ≡ Err (x.here).line = sym a ∙ comes (b ∷ v.0) ∙ e in cc

    line_is : (before after : List ℕ) (n : Mode) (x : Lexer) → x.here ≡ along first_position before → HaltsAt n x after line → line ≡ line_of before after
    line_is before [] n x place halts = halts.1 ∙ ap (λ (p : Position). p.last) place
    line_is before (b ∷ after) n x place halts = halts.1 ∙ ap (λ (p : Position). p.line) place

-- a source has its tokens only once
pub one_answer : (source : List ℕ) (ts us : List Token) → HasTokens source ts → HasTokens source us → ts ≡ us
one_answer source ts us h k = let e : (let r : Answer = Ok ts in r) ≡ Ok us = sym (tokens_only source ts h) ∙ tokens_only source us k in cc

-- ---- what is answered

abbrev pub Read : List ℕ → Answer
Read source = lexed m.First first_lexer source

pub answers_found : (r : Result (List Token) SourceError) (source : List ℕ) → length source ≤ 1048576 → Answers r (Read source) → IfOk r (λ ts. Lexes source ts)
answers_found (Ok ts) source le h = record { short = le; has = tokens_found source ts h }
answers_found (Err e) source le h = tt

pub answers_only : (r : Result (List Token) SourceError) (source : List ℕ) → Answers r (Read source) → (ts : List Token) → Lexes source ts → IsOrMemory r ts
answers_only (Ok us) source h ts l = let e : (let r : Answer = Ok us in r) ≡ Ok ts = sym h ∙ tokens_only source ts l.has in cc
answers_only (Err err.OutOfMemory) source h ts l = tt
answers_only (Err (err.Refused line)) source h ts l = let e : (let r : Answer = Err line in r) ≡ Ok ts = sym h ∙ tokens_only source ts l.has in cc

pub answers_line : (r : Result (List Token) SourceError) (source : List ℕ) → Answers r (Read source) → IfRefused r (λ line. Refuses source line)
answers_line (Ok us) source h = tt
answers_line (Err err.OutOfMemory) source h = tt
answers_line (Err (err.Refused line)) source h = inr (refused source line h)
