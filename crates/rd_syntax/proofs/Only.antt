-- What is spelled so is read.
use Rattle.std.specs.Prelude.{◌==◌, encode_utf8, encode_utf8_all}
use Rattle.std.proofs.lemmas.Bool.{eqb-true}
use Rattle.std.proofs.Common.{◌≡◌, ℕ, zero, suc, ◌<◌, arith, ◌-◌, Bool, true, false, ◌||◌, ◌&&◌, List, [], ◌∷◌, ◌++◌, Option, Some, None, Result, Ok, refl, sym, ap, subst, ◌∙◌, append_assoc, inl, inr, Err, eq-eqb}
use Rattle.std.proofs.lemmas.List.{append-nil}
use Rattle.std.proofs.lemmas.Str.{encode_ascii}
use Rattle.rd_syntax.specs.declared.class.Class.{Class}
use Rattle.rd_syntax.specs.declared.class.Class.TheVariants as c
use Rattle.rd_syntax.specs.declared.class.Quote.{Quote}
use Rattle.rd_syntax.specs.declared.utf8.Tail.{Tail}
use Rattle.rd_syntax.specs.declared.token.TokenKind.{TokenKind}
use Rattle.rd_syntax.specs.declared.token.TokenKind.TheVariants as k
use Rattle.rd_syntax.specs.declared.token.Token.{Token}
use Rattle.rd_syntax.specs.declared.layout.Position.{Position}
use Rattle.rd_syntax.specs.declared.layout.Place.TheVariants.{Inside}
use Rattle.rd_syntax.specs.declared.lexer.Mode.{Mode}
use Rattle.rd_syntax.specs.declared.lexer.Mode.TheVariants as m
use Rattle.rd_syntax.specs.declared.lexer.Lexer.{Lexer}
use Rattle.rd_syntax.specs.Bytes.{quote_byte, other_quote, class_of, in_word, begins_word, is_quote, is_plain, is_remark, in_line, is_double, other_half, continues_number, number_with}
use Rattle.rd_syntax.specs.Words.{word_kind, ends_in_letter}
use Rattle.rd_syntax.specs.Utf8.{rest_of, Tails, IsWide}
use Rattle.rd_syntax.specs.Layout.{next, along, token, Spot, Entered, enter, past_sign, past_space, depth_of, line_tokens, ending}
use Rattle.rd_syntax.specs.Texts.{IsCharacter, AreCharacters, Item, Plain, OtherQuote, OwnQuote, LineEnd, ReturnEnd, Escaped, Hex, quotes_after, spell_item, value_item, spell_items, value_items, IsItem, AreItems}
use Rattle.rd_syntax.specs.Pieces.{Piece, Space, Tab, Comment, Line, ReturnLine, Word, Number, Single, Double, Short, Long, fence, spell, spell_short, Rest, Digits, IsPiece, bars, bars_word, sees, entered, same_depth, effect}
use Rattle.rd_syntax.specs.Sources.{Reads, HasTokens, spot_behind, byte_order_mark}
use Rattle.rd_syntax.specs.Machine.{at_start, spot, Step, opened, open_piece, begin, ended, end_word, end_number, end_sign, pushed, end_line, finished, quoted_at, comment_at, word_step, number_step, quoted_step, comment_step, put, moved, answer, follow, lexed, first_lexer}
use Rattle.rd_syntax.proofs.Encoded.{split, wide, lead_high}
use Rattle.rd_syntax.proofs.Classes.{of_feed, of_return, of_space, of_tab, of_hash, of_backslash, of_mark, of_quote, of_high, not_quote, other_not, self}

abbrev pub Answer : Type 0
Answer = Result (List Token) ℕ

abbrev pub on : List ℕ → Mode → Lexer → Answer
on bs n x = lexed n x bs

-- one byte
abbrev pub go : Lexer → ℕ → List ℕ → Step → Answer
go s b bs o = follow s.here.line o (λ n x. lexed n (put x (next s.here b)) bs)

or_false : (a b : Bool) → (a || b) ≡ false → (a ≡ false) × (b ≡ false)
or_false true b h = absurd cc
or_false false b h = (refl, h)

-- ---- words

pub along_append : (p : Position) (a b : List ℕ) → along p (a ++ b) ≡ along (along p a) b
along_append p [] b = refl
along_append p (x ∷ a) b = along_append (next p x) a b

word_on : (κ : Class) (s : Lexer) (b : ℕ) → in_word κ ≡ true → word_step κ s b ≡ Some (m.Word, pushed s b)
word_on c.Letter s b h = refl
word_on c.Underscore s b h = refl
word_on c.Digit s b h = refl
word_on (c.Quote quote) s b h = absurd cc
word_on c.Backslash s b h = absurd cc
word_on c.Hash s b h = absurd cc
word_on c.Space s b h = absurd cc
word_on c.Tab s b h = absurd cc
word_on c.Feed s b h = absurd cc
word_on c.Return s b h = absurd cc
word_on c.Sign s b h = absurd cc
word_on c.Half s b h = absurd cc
word_on c.High s b h = absurd cc
word_on c.Other s b h = absurd cc

word_off : (κ : Class) (s : Lexer) (b : ℕ) → (in_word κ || (is_quote κ && ends_in_letter s.text)) ≡ false → word_step κ s b ≡ begin κ (end_word s) b
word_off c.Letter s b h = absurd cc
word_off c.Underscore s b h = absurd cc
word_off c.Digit s b h = absurd cc
word_off (c.Quote quote) s b h = rw h refl
word_off c.Backslash s b h = refl
word_off c.Hash s b h = refl
word_off c.Space s b h = refl
word_off c.Tab s b h = refl
word_off c.Feed s b h = refl
word_off c.Return s b h = refl
word_off c.Sign s b h = refl
word_off c.Half s b h = refl
word_off c.High s b h = refl
word_off c.Other s b h = refl

abbrev pub with_text : Lexer → List ℕ → Position → Lexer
with_text s text here = record s { text = text; here = here }

run_word : (more : List ℕ) (s : Lexer) (rest : List ℕ) → Rest more → lexed m.Word s (more ++ rest) ≡ lexed m.Word (with_text s (s.text ++ more) (along s.here more)) rest
run_word [] s rest h = rw append-nil refl
run_word (b ∷ more) s rest h =
    ap (go s b (more ++ rest)) (word_on (class_of b) s b h.0)
    ∙ run_word more (moved (pushed s b) b) rest h.1
    ∙ ap (λ (t : List ℕ). lexed m.Word (with_text s t (along s.here (b ∷ more))) rest) (append_assoc s.text (b ∷ []) more)

stop_word : (s : Lexer) (rest : List ℕ) → sees (bars_word s.text) rest ≡ false → lexed m.Word s rest ≡ lexed m.Between (end_word s) rest
stop_word s [] h = refl
stop_word s (b ∷ rest) h = ap (go s b rest) (word_off (class_of b) s b h)

-- ---- numbers

number_on : (value : ℕ) (κ : Class) (s : Lexer) (b : ℕ) → κ ≡ c.Digit → continues_number value b ≡ true → number_step value κ s b ≡ Some (m.Number (number_with value b), pushed s b)
number_on value κ s b e h = rw (e, h) refl

number_off : (value : ℕ) (κ : Class) (s : Lexer) (b : ℕ) → in_word κ ≡ false → number_step value κ s b ≡ begin κ (end_number s) b
number_off value c.Letter s b h = absurd cc
number_off value c.Underscore s b h = absurd cc
number_off value c.Digit s b h = absurd cc
number_off value (c.Quote quote) s b h = refl
number_off value c.Backslash s b h = refl
number_off value c.Hash s b h = refl
number_off value c.Space s b h = refl
number_off value c.Tab s b h = refl
number_off value c.Feed s b h = refl
number_off value c.Return s b h = refl
number_off value c.Sign s b h = refl
number_off value c.Half s b h = refl
number_off value c.High s b h = refl
number_off value c.Other s b h = refl

abbrev value_along : ℕ → List ℕ → ℕ
value_along value [] = value
value_along value (b ∷ more) = value_along (number_with value b) more

run_number : (more : List ℕ) (value : ℕ) (s : Lexer) (rest : List ℕ) → Digits value more
    → lexed (m.Number value) s (more ++ rest) ≡ lexed (m.Number (value_along value more)) (with_text s (s.text ++ more) (along s.here more)) rest
run_number [] value s rest h = rw append-nil refl
run_number (b ∷ more) value s rest h =
    ap (go s b (more ++ rest)) (number_on value (class_of b) s b h.0 h.1)
    ∙ run_number more (number_with value b) (moved (pushed s b) b) rest h.2
    ∙ ap (λ (t : List ℕ). lexed (m.Number (value_along value (b ∷ more))) (with_text s t (along s.here (b ∷ more))) rest) (append_assoc s.text (b ∷ []) more)

stop_number : (value : ℕ) (s : Lexer) (rest : List ℕ) → sees (λ b. in_word (class_of b)) rest ≡ false → lexed (m.Number value) s rest ≡ lexed m.Between (end_number s) rest
stop_number value s [] h = refl
stop_number value s (b ∷ rest) h = ap (go s b rest) (number_off value (class_of b) s b h)

-- ---- comments

comment_on : (κ : Class) (s : Lexer) (b : ℕ) → is_remark κ ≡ true → comment_step κ s b ≡ Some (m.Comment, s)
comment_on c.Letter s b h = refl
comment_on c.Underscore s b h = refl
comment_on c.Digit s b h = refl
comment_on (c.Quote quote) s b h = refl
comment_on c.Backslash s b h = refl
comment_on c.Hash s b h = refl
comment_on c.Space s b h = refl
comment_on c.Tab s b h = refl
comment_on c.Feed s b h = absurd cc
comment_on c.Return s b h = absurd cc
comment_on c.Sign s b h = refl
comment_on c.Half s b h = refl
comment_on c.High s b h = absurd cc
comment_on c.Other s b h = refl

comment_off : (κ : Class) (s : Lexer) (b : ℕ) → in_line κ ≡ false → comment_step κ s b ≡ begin κ s b
comment_off c.Letter s b h = absurd cc
comment_off c.Underscore s b h = absurd cc
comment_off c.Digit s b h = absurd cc
comment_off (c.Quote quote) s b h = absurd cc
comment_off c.Backslash s b h = absurd cc
comment_off c.Hash s b h = absurd cc
comment_off c.Space s b h = absurd cc
comment_off c.Tab s b h = absurd cc
comment_off c.Feed s b h = refl
comment_off c.Return s b h = refl
comment_off c.Sign s b h = absurd cc
comment_off c.Half s b h = absurd cc
comment_off c.High s b h = absurd cc
comment_off c.Other s b h = absurd cc

run_comment_tail : (more : List ℕ) (o : Option Tail) (s : Lexer) (rest : List ℕ) → Tails o more → lexed (comment_at o) s (more ++ rest) ≡ lexed m.Comment (record s { here = along s.here more }) rest
run_comment_tail [] None s rest h = refl
run_comment_tail [] (Some t) s rest h = absurd h
run_comment_tail (b ∷ more) None s rest h = absurd h
run_comment_tail (b ∷ more) (Some t) s rest h = rw h.0 (run_comment_tail more (rest_of t) (moved s b) rest h.1)

abbrev Remarks : List ℕ → Lexer → List ℕ → Type 0
Remarks spelled s rest = lexed m.Comment s (spelled ++ rest) ≡ lexed m.Comment (record s { here = along s.here spelled }) rest

run_wide_remark : (b : ℕ) (more : List ℕ) (s : Lexer) (rest : List ℕ) → IsWide b more → Remarks (b ∷ more) s rest
run_wide_remark b more s rest w = rw (of_high b (lead_high b more w), w.1) (run_comment_tail more (Some w.0) (moved s b) rest w.2)

run_remark : (x : ℕ) (s : Lexer) (rest : List ℕ) → IsCharacter is_remark x → Remarks (encode_utf8 x) s rest
run_remark x s rest h =
    elim (split x 128) [
      | inl low ↦ subst (λ (w : List ℕ). Remarks w s rest) (sym (encode_ascii x low)) (ap (go s x rest) (comment_on (class_of x) s x (h.1 low)))
      | inr high ↦ (let q = wide x h.0 high in subst (λ (w : List ℕ). Remarks w s rest) (sym q.2) (run_wide_remark q.0 q.1 s rest q.3))
    ]

run_comment : (more : List ℕ) (s : Lexer) (rest : List ℕ) → AreCharacters more → Remarks (encode_utf8_all more) s rest
run_comment [] s rest h = refl
run_comment (x ∷ more) s rest h =
    ap (lexed m.Comment s) (append_assoc (encode_utf8 x) (encode_utf8_all more) rest)
    ∙ run_remark x s (encode_utf8_all more ++ rest) h.0
    ∙ run_comment more (record s { here = along s.here (encode_utf8 x) }) rest h.1
    ∙ ap (λ (p : Position). lexed m.Comment (record s { here = p }) rest) (sym (along_append s.here (encode_utf8 x) (encode_utf8_all more)))

stop_comment : (s : Lexer) (rest : List ℕ) → sees (λ b. in_line (class_of b)) rest ≡ false → lexed m.Comment s rest ≡ lexed m.Between s rest
stop_comment s [] h = refl
stop_comment s (b ∷ rest) h = ap (go s b rest) (comment_off (class_of b) s b h)

-- ---- texts

plain_on : (quote : Quote) (long : Bool) (κ : Class) (s : Lexer) (b : ℕ) → is_plain κ ≡ true → quoted_step quote long κ s b ≡ Some (m.Quoted quote long, pushed s b)
plain_on quote long (c.Quote found) s b h = absurd cc
plain_on quote long c.Backslash s b h = absurd cc
plain_on quote long c.Feed s b h = absurd cc
plain_on quote long c.Return s b h = absurd cc
plain_on quote long c.High s b h = absurd cc
plain_on quote long κ s b h = refl

plain_not_quote : (κ : Class) → is_plain κ ≡ true → is_quote κ ≡ false
plain_not_quote (c.Quote found) h = absurd cc
plain_not_quote κ h = refl

-- the text and the place behind bytes that stand for this value
abbrev InText : Quote → Bool → List ℕ → List ℕ → Lexer → List ℕ → Type 0
InText quote long spelled value s rest = lexed (m.Quoted quote long) s (spelled ++ rest) ≡ lexed (m.Quoted quote long) (with_text s (s.text ++ value) (along s.here spelled)) rest

run_quoted_tail : (quote : Quote) (long : Bool) (more : List ℕ) (o : Option Tail) (s : Lexer) (rest : List ℕ) → Tails o more → lexed (quoted_at quote long o) s (more ++ rest) ≡ lexed (m.Quoted quote long) (with_text s (s.text ++ more) (along s.here more)) rest
run_quoted_tail quote long [] None s rest h = rw append-nil refl
run_quoted_tail quote long [] (Some t) s rest h = absurd h
run_quoted_tail quote long (b ∷ more) None s rest h = absurd h
run_quoted_tail quote long (b ∷ more) (Some t) s rest h =
    rw h.0 (run_quoted_tail quote long more (rest_of t) (moved (pushed s b) b) rest h.1)
    ∙ ap (λ (t : List ℕ). lexed (m.Quoted quote long) (with_text s t (along s.here (b ∷ more))) rest) (append_assoc s.text (b ∷ []) more)

run_wide_plain : (quote : Quote) (long : Bool) (b : ℕ) (more : List ℕ) (s : Lexer) (rest : List ℕ) → IsWide b more → InText quote long (b ∷ more) (b ∷ more) s rest
run_wide_plain quote long b more s rest w =
    rw (of_high b (lead_high b more w), w.1) (run_quoted_tail quote long more (Some w.0) (moved (pushed s b) b) rest w.2)
    ∙ ap (λ (t : List ℕ). lexed (m.Quoted quote long) (with_text s t (along s.here (b ∷ more))) rest) (append_assoc s.text (b ∷ []) more)

run_plain : (quote : Quote) (long : Bool) (x : ℕ) (s : Lexer) (rest : List ℕ) → IsCharacter is_plain x → InText quote long (encode_utf8 x) (encode_utf8 x) s rest
run_plain quote long x s rest h =
    elim (split x 128) [
      | inl low ↦ subst (λ (w : List ℕ). InText quote long w w s rest) (sym (encode_ascii x low)) (ap (go s x rest) (plain_on quote long (class_of x) s x (h.1 low)))
      | inr high ↦ (let q = wide x h.0 high in subst (λ (w : List ℕ). InText quote long w w s rest) (sym q.2) (run_wide_plain quote long q.0 q.1 s rest q.3))
    ]

abbrev is_own : Item → Bool
is_own OwnQuote = true
is_own _ = false

run_item : (quote : Quote) (long : Bool) (n : ℕ) (x : Item) (s : Lexer) (rest : List ℕ) → is_own x ≡ false → IsItem long n x → InText quote long (spell_item quote x) (value_item quote x) s rest
run_item quote long n (Plain x) s rest l h = run_plain quote long x s rest h
run_item quote long n OtherQuote s rest l h = rw (of_quote (other_quote quote), other_not quote) refl
run_item quote long n LineEnd s rest l h = rw (h, of_feed) refl
run_item quote long n ReturnEnd s rest l h = rw h (rw of_return (rw of_feed refl))
run_item quote long n OwnQuote s rest l h = absurd cc
run_item quote long n (Escaped b x) s rest l h = rw (of_backslash, h) refl
run_item quote long n (Hex a b high low) s rest l h = rw of_backslash (rw h.0 (rw h.1 refl))

-- the next byte isn't the quote
abbrev NotQuote : Quote → List ℕ → Type 0
NotQuote quote bs = sees (λ b. b == quote_byte quote) bs ≡ false

first_not : (quote : Quote) (long : Bool) (n : ℕ) (x : Item) (rest : List ℕ) → is_own x ≡ false → IsItem long n x → NotQuote quote (spell_item quote x ++ rest)
first_not quote long n (Plain x) rest l h =
    elim (split x 128) [
      | inl low ↦ subst (λ (w : List ℕ). NotQuote quote (w ++ rest)) (sym (encode_ascii x low)) (not_quote quote x (plain_not_quote (class_of x) (h.1 low)))
      | inr high ↦ (let q = wide x h.0 high in subst (λ (w : List ℕ). NotQuote quote (w ++ rest)) (sym q.2) (not_quote quote q.0 (ap is_quote (of_high q.0 (lead_high q.0 q.1 q.3)))))
    ]
first_not quote long n OtherQuote rest l h = other_not quote
first_not quote long n LineEnd rest l h = not_quote quote 10 (ap is_quote of_feed)
first_not quote long n ReturnEnd rest l h = not_quote quote 13 (ap is_quote of_return)
first_not quote long n OwnQuote rest l h = absurd cc
first_not quote long n (Escaped b x) rest l h = not_quote quote 92 (ap is_quote of_backslash)
first_not quote long n (Hex a b high low) rest l h = not_quote quote 92 (ap is_quote of_backslash)

short_not_own : (n : ℕ) (x : Item) → IsItem false n x → (is_own x ≡ false) × (quotes_after x n ≡ 0)
short_not_own n OwnQuote h = absurd (let no : false ≡ true = h.0 in cc)
short_not_own n x h = (refl, refl)

-- one item, and then more of them
then_items : (quote : Quote) (long : Bool) (x : Item) (xs : List Item) (s : Lexer) (rest : List ℕ) → InText quote long (spell_item quote x) (value_item quote x) s (spell_items quote xs ++ rest)
    → ((s : Lexer) → InText quote long (spell_items quote xs) (value_items quote xs) s rest) → InText quote long (spell_items quote (x ∷ xs)) (value_items quote (x ∷ xs)) s rest
then_items quote long x xs s rest first more =
    let after : Lexer = with_text s (s.text ++ value_item quote x) (along s.here (spell_item quote x)) in
    let f : List ℕ → Position → Answer = λ t p. lexed (m.Quoted quote long) (with_text s t p) rest in
    ap (lexed (m.Quoted quote long) s) (append_assoc (spell_item quote x) (spell_items quote xs) rest)
    ∙ first
    ∙ more after
    ∙ ap (λ (t : List ℕ). f t (along after.here (spell_items quote xs))) (append_assoc s.text (value_item quote x) (value_items quote xs))
    ∙ ap (λ (p : Position). f (s.text ++ value_items quote (x ∷ xs)) p) (sym (along_append s.here (spell_item quote x) (spell_items quote xs)))

run_short : (quote : Quote) (xs : List Item) (s : Lexer) (rest : List ℕ) → AreItems false 0 xs → InText quote false (spell_items quote xs) (value_items quote xs) s rest
run_short quote [] s rest h = rw append-nil refl
run_short quote (x ∷ xs) s rest h =
    let l = short_not_own 0 x h.0 in
    then_items quote false x xs s rest (run_item quote false 0 x s (spell_items quote xs ++ rest) l.0 h.0) (λ s. run_short quote xs s rest (subst (λ n. AreItems false n xs) l.1 h.1))

-- so many quotes that didn't end a long text
abbrev pub lone : Quote → ℕ → List ℕ
lone quote zero = []
lone quote (suc zero) = quote_byte quote ∷ []
lone quote (suc (suc n)) = quote_byte quote ∷ quote_byte quote ∷ []

abbrev pub seen_at : Quote → ℕ → Mode
seen_at quote zero = m.Quoted quote true
seen_at quote (suc zero) = m.SeenOne quote
seen_at quote (suc (suc n)) = m.SeenTwo quote

seen_off : (quote : Quote) (n : ℕ) (s : Lexer) (w : List ℕ) → NotQuote quote w → lexed (seen_at quote n) s w ≡ lexed (m.Quoted quote true) (with_text s (s.text ++ lone quote n) s.here) w
seen_off quote zero s w h = rw append-nil refl
seen_off quote (suc zero) s [] h = refl
seen_off quote (suc zero) s (b ∷ w) h = rw h refl
seen_off quote (suc (suc n)) s [] h = refl
seen_off quote (suc (suc n)) s (b ∷ w) h = rw h refl

abbrev Runs : Quote → ℕ → List Item → Lexer → List ℕ → Type 0
Runs quote n xs s rest =
    lexed (seen_at quote n) s (spell_items quote xs ++ rest) ≡ lexed (m.Quoted quote true) (with_text s (s.text ++ (lone quote n ++ value_items quote xs)) (along s.here (spell_items quote xs))) rest

run_own : (quote : Quote) (n : ℕ) (xs : List Item) (s : Lexer) (rest : List ℕ) → n < 2 → Runs quote (suc n) xs (moved s (quote_byte quote)) rest → Runs quote n (OwnQuote ∷ xs) s rest
run_own quote zero xs s rest h more = rw (of_quote quote, self (quote_byte quote)) more
run_own quote (suc zero) xs s rest h more = rw (self (quote_byte quote)) more
run_own quote (suc (suc n)) xs s rest h more = absurd (let lt : suc (suc n) < 2 = h in omega arith)

run_other : (quote : Quote) (n : ℕ) (x : Item) (xs : List Item) (s : Lexer) (rest : List ℕ) → is_own x ≡ false → IsItem true n x
    → ((s : Lexer) → Runs quote 0 xs s rest) → Runs quote n (x ∷ xs) s rest
run_other quote n x xs s rest l h more =
    let at_ : Lexer = with_text s (s.text ++ lone quote n) s.here in
    ap (lexed (seen_at quote n) s) (append_assoc (spell_item quote x) (spell_items quote xs) rest)
    ∙ seen_off quote n s (spell_item quote x ++ (spell_items quote xs ++ rest)) (first_not quote true n x (spell_items quote xs ++ rest) l h)
    ∙ ap (lexed (m.Quoted quote true) at_) (sym (append_assoc (spell_item quote x) (spell_items quote xs) rest))
    ∙ then_items quote true x xs at_ rest (run_item quote true n x at_ (spell_items quote xs ++ rest) l h) more
    ∙ ap (λ (t : List ℕ). lexed (m.Quoted quote true) (with_text s t (along s.here (spell_items quote (x ∷ xs)))) rest) (append_assoc s.text (lone quote n) (value_items quote (x ∷ xs)))

run_long : (quote : Quote) (xs : List Item) (n : ℕ) (s : Lexer) (rest : List ℕ) → AreItems true n xs → Runs quote n xs s rest
run_long quote [] n s rest h = rw h (rw append-nil refl)
run_long quote (OwnQuote ∷ xs) n s rest h = run_own quote n xs s rest h.0.1 (run_long quote xs (suc n) (moved s (quote_byte quote)) rest h.1)
run_long quote (x ∷ xs) n s rest h = run_other quote n x xs s rest refl h.0 (λ s. run_long quote xs 0 s rest h.1)

-- ---- pieces

pub some_parts : {A B : Type 0} (a b : A) (x y : B) → (let o : Option (A × B) = Some (a, x) in o) ≡ Some (b, y) → (a ≡ b) × (x ≡ y)
some_parts {A} {B} a b x y e =
    let h : (let p : A × B = (a, x) in p) ≡ (b, y) = cc in
    (ap (λ (p : A × B). p.0) h, ap (λ (p : A × B). p.1) h)

pub record Passes (s : Lexer) (p : Piece) (rest : List ℕ) (behind : Spot) (new : List Token) : Type 0 where
  pub then_ : Lexer
  pub place : spot then_ ≡ behind
  pub tokens : then_.tokens ≡ s.tokens ++ new
  pub reads : lexed m.Between s (spell p ++ rest) ≡ lexed m.Between then_ rest

abbrev pub behind_token : (ℕ → ℕ) → List ℕ → Spot → Entered → Spot
behind_token deeper spelled w e = record { stack = e.stack; place = Inside (deeper (depth_of w.place)); here = along w.here spelled }

abbrev pub new_token : TokenKind → List ℕ → List ℕ → Spot → Entered → List Token
new_token kind text spelled w e = e.opens ++ token kind text w.here (along w.here spelled) ∷ []

pub entered_is : (deeper : ℕ → ℕ) (kind : TokenKind) (text spelled : List ℕ) (w : Spot) (o : Option Entered) (behind : Spot) (new : List Token)
    → entered deeper kind text spelled w o ≡ Some (behind, new)
    → (e : Entered) × (o ≡ Some e) × (behind_token deeper spelled w e ≡ behind) × (new_token kind text spelled w e ≡ new)
entered_is deeper kind text spelled w None behind new h = absurd cc
entered_is deeper kind text spelled w (Some e) behind new h =
    let q = some_parts (behind_token deeper spelled w e) behind (new_token kind text spelled w e) new h in (e, refl, q.0, q.1)

word_begin : (κ : Class) (s : Lexer) (b : ℕ) → begins_word κ ≡ true → begin κ s b ≡ open_piece m.Word (b ∷ []) s
word_begin c.Letter s b h = refl
word_begin c.Underscore s b h = refl
word_begin c.Digit s b h = absurd cc
word_begin (c.Quote quote) s b h = absurd cc
word_begin c.Backslash s b h = absurd cc
word_begin c.Hash s b h = absurd cc
word_begin c.Space s b h = absurd cc
word_begin c.Tab s b h = absurd cc
word_begin c.Feed s b h = absurd cc
word_begin c.Return s b h = absurd cc
word_begin c.Sign s b h = absurd cc
word_begin c.Half s b h = absurd cc
word_begin c.High s b h = absurd cc
word_begin c.Other s b h = absurd cc

-- the lexer behind a piece's first byte
abbrev pub opens : List ℕ → Lexer → ℕ → Entered → Lexer
opens text s b e = record s { tokens = s.tokens ++ e.opens; stack = e.stack; place = Inside (depth_of s.place); text = text; began = s.here; here = next s.here b }

begun : (mode : Mode) (text : List ℕ) (s : Lexer) (b : ℕ) (bs : List ℕ) (e : Entered) → begin (class_of b) s b ≡ open_piece mode text s → enter (spot s) ≡ Some e
    → lexed m.Between s (b ∷ bs) ≡ lexed mode (opens text s b e) bs
begun mode text s b bs e h k = ap (go s b bs) (h ∙ ap (opened mode text s) k)

begins_so : (κ : Class) (s : Lexer) (b : ℕ) (mode : Mode) (text : List ℕ) → class_of b ≡ κ → begin κ s b ≡ open_piece mode text s → begin (class_of b) s b ≡ open_piece mode text s
begins_so κ s b mode text h k = rw h k

pass_word : (s : Lexer) (b : ℕ) (more rest : List ℕ) (behind : Spot) (new : List Token) → IsPiece (Word b more) → sees (bars (Word b more)) rest ≡ false
    → effect (spot s) (Word b more) ≡ Some (behind, new) → Passes s (Word b more) rest behind new
pass_word s b more rest behind new good end h =
    let q = entered_is same_depth (word_kind (b ∷ more)) (b ∷ more) (b ∷ more) (spot s) (enter (spot s)) behind new h in
    let in_ : Lexer = opens (b ∷ []) s b q.0 in
    let all : Lexer = with_text in_ (b ∷ more) (along in_.here more) in
    record {
      then_ = end_word all;
      place = q.2;
      tokens = append_assoc s.tokens q.0.opens (token (word_kind (b ∷ more)) (b ∷ more) s.here (along s.here (b ∷ more)) ∷ []) ∙ ap (λ (t : List Token). s.tokens ++ t) q.3;
      reads = begun m.Word (b ∷ []) s b (more ++ rest) q.0 (word_begin (class_of b) s b good.0) q.1 ∙ run_word more in_ rest good.1 ∙ stop_word all rest end;
    }

pass_number : (s : Lexer) (b : ℕ) (more rest : List ℕ) (behind : Spot) (new : List Token) → IsPiece (Number b more) → sees (bars (Number b more)) rest ≡ false
    → effect (spot s) (Number b more) ≡ Some (behind, new) → Passes s (Number b more) rest behind new
pass_number s b more rest behind new good end h =
    let q = entered_is same_depth k.Int (b ∷ more) (b ∷ more) (spot s) (enter (spot s)) behind new h in
    let in_ : Lexer = opens (b ∷ []) s b q.0 in
    let all : Lexer = with_text in_ (b ∷ more) (along in_.here more) in
    record {
      then_ = end_number all;
      place = q.2;
      tokens = append_assoc s.tokens q.0.opens (token k.Int (b ∷ more) s.here (along s.here (b ∷ more)) ∷ []) ∙ ap (λ (t : List Token). s.tokens ++ t) q.3;
      reads = begun (m.Number (b - 48)) (b ∷ []) s b (more ++ rest) q.0 (begins_so c.Digit s b (m.Number (b - 48)) (b ∷ []) good.0 refl) q.1 ∙ run_number more (b - 48) in_ rest good.1 ∙ stop_number (value_along (b - 48) more) all rest end;
    }

sign_off : (a : ℕ) (s : Lexer) (rest : List ℕ) → sees (is_double a) rest ≡ false → lexed (m.Sign a) s rest ≡ lexed m.Between (end_sign (a ∷ []) s.here s) rest
sign_off a s [] h = refl
sign_off a s (b ∷ rest) h = rw h refl

pass_single : (s : Lexer) (a : ℕ) (rest : List ℕ) (behind : Spot) (new : List Token) → IsPiece (Single a) → sees (bars (Single a)) rest ≡ false
    → effect (spot s) (Single a) ≡ Some (behind, new) → Passes s (Single a) rest behind new
pass_single s a rest behind new good end h =
    let q = entered_is (past_sign (a ∷ [])) k.Sign (a ∷ []) (a ∷ []) (spot s) (enter (spot s)) behind new h in
    let in_ : Lexer = opens [] s a q.0 in
    record {
      then_ = end_sign (a ∷ []) in_.here in_;
      place = q.2;
      tokens = append_assoc s.tokens q.0.opens (token k.Sign (a ∷ []) s.here (along s.here (a ∷ [])) ∷ []) ∙ ap (λ (t : List Token). s.tokens ++ t) q.3;
      reads = begun (m.Sign a) [] s a rest q.0 (begins_so c.Sign s a (m.Sign a) [] good refl) q.1 ∙ sign_off a in_ rest end;
    }

pass_double : (s : Lexer) (a b : ℕ) (rest : List ℕ) (behind : Spot) (new : List Token) → IsPiece (Double a b)
    → effect (spot s) (Double a b) ≡ Some (behind, new) → Passes s (Double a b) rest behind new
pass_double s a b rest behind new good h =
    let q = entered_is (past_sign (a ∷ b ∷ [])) k.Sign (a ∷ b ∷ []) (a ∷ b ∷ []) (spot s) (enter (spot s)) behind new h in
    let in_ : Lexer = opens [] s a q.0 in
    let all : Lexer = moved (end_sign (a ∷ b ∷ []) (next in_.here b) in_) b in
    record {
      then_ = all;
      place = q.2;
      tokens = append_assoc s.tokens q.0.opens (token k.Sign (a ∷ b ∷ []) s.here (along s.here (a ∷ b ∷ [])) ∷ []) ∙ ap (λ (t : List Token). s.tokens ++ t) q.3;
      reads = elim good [
        | inl g ↦ begun (m.Sign a) [] s a (b ∷ rest) q.0 (begins_so c.Sign s a (m.Sign a) [] g.0 refl) q.1 ∙ rw g.1 refl
        | inr g ↦ begun (m.Half a) [] s a (b ∷ rest) q.0 (begins_so c.Half s a (m.Half a) [] g.0 refl) q.1 ∙ rw (eq-eqb b (other_half a) g.1) refl
      ];
    }

-- the lexer behind a text
abbrev pub text_end : Lexer → ℕ → Entered → List ℕ → List ℕ → Lexer
text_end s a e text spelled = record (opens [] s a e) { tokens = (s.tokens ++ e.opens) ++ token k.Text text s.here (along s.here spelled) ∷ []; here = along s.here spelled }

text_pass : (s : Lexer) (p : Piece) (a : ℕ) (text rest : List ℕ) (behind : Spot) (new : List Token) → entered same_depth k.Text text (spell p) (spot s) (enter (spot s)) ≡ Some (behind, new)
    → ((e : Entered) → enter (spot s) ≡ Some e → lexed m.Between s (spell p ++ rest) ≡ lexed m.Between (text_end s a e text (spell p)) rest) → Passes s p rest behind new
text_pass s p a text rest behind new h reads =
    let q = entered_is same_depth k.Text text (spell p) (spot s) (enter (spot s)) behind new h in
    record {
      then_ = text_end s a q.0 text (spell p);
      place = q.2;
      tokens = append_assoc s.tokens q.0.opens (token k.Text text s.here (along s.here (spell p)) ∷ []) ∙ ap (λ (t : List Token). s.tokens ++ t) q.3;
      reads = reads q.0 q.1;
    }

begun_text : (quote : Quote) (s : Lexer) (bs : List ℕ) (e : Entered) → enter (spot s) ≡ Some e → lexed m.Between s (quote_byte quote ∷ bs) ≡ lexed (m.Opened quote) (opens [] s (quote_byte quote) e) bs
begun_text quote s bs e h = begun (m.Opened quote) [] s (quote_byte quote) bs e (begins_so (c.Quote quote) s (quote_byte quote) (m.Opened quote) [] (of_quote quote) refl) h

opened_off : (quote : Quote) (s : Lexer) (w : List ℕ) → NotQuote quote w → lexed (m.Opened quote) s w ≡ lexed (m.Quoted quote false) s w
opened_off quote s [] h = refl
opened_off quote s (b ∷ w) h = rw h refl

opened_on : (quote : Quote) (s : Lexer) (w : List ℕ) → lexed (m.Opened quote) s (quote_byte quote ∷ w) ≡ lexed (m.Twice quote) (moved s (quote_byte quote)) w
opened_on quote s w = rw (self (quote_byte quote)) refl

twice_off : (quote : Quote) (s : Lexer) (w : List ℕ) → NotQuote quote w → lexed (m.Twice quote) s w ≡ lexed m.Between (ended k.Text s.text s.here s) w
twice_off quote s [] h = refl
twice_off quote s (b ∷ w) h = rw h refl

twice_on : (quote : Quote) (s : Lexer) (w : List ℕ) → lexed (m.Twice quote) s (quote_byte quote ∷ w) ≡ lexed (m.Quoted quote true) (moved s (quote_byte quote)) w
twice_on quote s w = rw (self (quote_byte quote)) refl

close_short : (quote : Quote) (s : Lexer) (rest : List ℕ) → lexed (m.Quoted quote false) s (quote_byte quote ∷ rest) ≡ lexed m.Between (moved (ended k.Text s.text (next s.here (quote_byte quote)) s) (quote_byte quote)) rest
close_short quote s rest = rw (of_quote quote, self (quote_byte quote)) refl

read_short : (s : Lexer) (quote : Quote) (items : List Item) (rest : List ℕ) (e : Entered) → AreItems false 0 items → sees (bars (Short quote items)) rest ≡ false
    → lexed (m.Opened quote) (opens [] s (quote_byte quote) e) ((spell_items quote items ++ quote_byte quote ∷ []) ++ rest) ≡ lexed m.Between (text_end s (quote_byte quote) e (value_items quote items) (spell_short quote items)) rest
read_short s quote [] rest e good end =
    let in_ : Lexer = opens [] s (quote_byte quote) e in
    opened_on quote in_ rest ∙ twice_off quote (moved in_ (quote_byte quote)) rest end
read_short s quote (x ∷ xs) rest e good end =
    let items : List Item = x ∷ xs in
    let z : List ℕ = quote_byte quote ∷ [] in
    let in_ : Lexer = opens [] s (quote_byte quote) e in
    let inside : Lexer = with_text in_ (value_items quote items) (along in_.here (spell_items quote items)) in
    let l = short_not_own 0 x good.0 in
    let w : (spell_items quote items ++ z) ++ rest ≡ spell_item quote x ++ (spell_items quote xs ++ (z ++ rest)) =
    append_assoc (spell_items quote items) z rest ∙ append_assoc (spell_item quote x) (spell_items quote xs) (z ++ rest) in
    ap (lexed (m.Opened quote) in_) w
    ∙ opened_off quote in_ (spell_item quote x ++ (spell_items quote xs ++ (z ++ rest))) (first_not quote false 0 x (spell_items quote xs ++ (z ++ rest)) l.0 good.0)
    ∙ ap (lexed (m.Quoted quote false) in_) (sym (append_assoc (spell_item quote x) (spell_items quote xs) (z ++ rest)))
    ∙ run_short quote items in_ (z ++ rest) good
    ∙ close_short quote inside rest
    ∙ ap (λ (p : Position). lexed m.Between (record in_ { tokens = (s.tokens ++ e.opens) ++ token k.Text (value_items quote items) s.here p ∷ []; here = p }) rest) (sym (along_append in_.here (spell_items quote items) z))

pass_short : (s : Lexer) (quote : Quote) (items : List Item) (rest : List ℕ) (behind : Spot) (new : List Token) → AreItems false 0 items → sees (bars (Short quote items)) rest ≡ false
    → effect (spot s) (Short quote items) ≡ Some (behind, new) → Passes s (Short quote items) rest behind new
pass_short s quote items rest behind new good end h =
    text_pass s (Short quote items) (quote_byte quote) (value_items quote items) rest behind new h
    (λ e is_open. begun_text quote s ((spell_items quote items ++ quote_byte quote ∷ []) ++ rest) e is_open ∙ read_short s quote items rest e good end)

seen_first : (quote : Quote) (s : Lexer) (w : List ℕ) → lexed (m.Quoted quote true) s (quote_byte quote ∷ w) ≡ lexed (m.SeenOne quote) (moved s (quote_byte quote)) w
seen_first quote s w = rw (of_quote quote, self (quote_byte quote)) refl

seen_second : (quote : Quote) (s : Lexer) (w : List ℕ) → lexed (m.SeenOne quote) s (quote_byte quote ∷ w) ≡ lexed (m.SeenTwo quote) (moved s (quote_byte quote)) w
seen_second quote s w = rw (self (quote_byte quote)) refl

seen_third : (quote : Quote) (s : Lexer) (w : List ℕ) → lexed (m.SeenTwo quote) s (quote_byte quote ∷ w) ≡ lexed m.Between (moved (ended k.Text s.text (next s.here (quote_byte quote)) s) (quote_byte quote)) w
seen_third quote s w = rw (self (quote_byte quote)) refl

close_long : (quote : Quote) (s : Lexer) (rest : List ℕ)
    → lexed (m.Quoted quote true) s (fence quote ++ rest) ≡ lexed m.Between (record s { tokens = s.tokens ++ token k.Text s.text s.began (along s.here (fence quote)) ∷ []; text = []; here = along s.here (fence quote) }) rest
close_long quote s rest =
    let z : ℕ = quote_byte quote in
    seen_first quote s (z ∷ z ∷ rest) ∙ seen_second quote (moved s z) (z ∷ rest) ∙ seen_third quote (moved (moved s z) z) rest

pass_long : (s : Lexer) (quote : Quote) (items : List Item) (rest : List ℕ) (behind : Spot) (new : List Token) → AreItems true 0 items
    → effect (spot s) (Long quote items) ≡ Some (behind, new) → Passes s (Long quote items) rest behind new
pass_long s quote items rest behind new good h =
    let z : ℕ = quote_byte quote in
    let end : List ℕ = fence quote in
    text_pass s (Long quote items) z (value_items quote items) rest behind new h
    (λ e is_open.
    let opened : Lexer = opens [] s z e in
    let in_ : Lexer = moved (moved opened z) z in
    let inside : Lexer = with_text in_ (value_items quote items) (along in_.here (spell_items quote items)) in
    begun_text quote s (z ∷ z ∷ ((spell_items quote items ++ end) ++ rest)) e is_open
    ∙ opened_on quote opened (z ∷ ((spell_items quote items ++ end) ++ rest))
    ∙ twice_on quote (moved opened z) ((spell_items quote items ++ end) ++ rest)
    ∙ ap (lexed (m.Quoted quote true) in_) (append_assoc (spell_items quote items) end rest)
    ∙ run_long quote items 0 in_ (end ++ rest) good
    ∙ close_long quote inside rest
    ∙ ap (λ (p : Position). lexed m.Between (record in_ { tokens = (s.tokens ++ e.opens) ++ token k.Text (value_items quote items) s.here p ∷ []; here = p }) rest) (sym (along_append in_.here (spell_items quote items) end)))

-- a piece that isn't a token
plain_pass : (s then_ : Lexer) (p : Piece) (rest : List ℕ) (behind : Spot) (tokens new : List Token)
    → effect (spot s) p ≡ Some (spot then_, tokens) → then_.tokens ≡ s.tokens ++ tokens
    → lexed m.Between s (spell p ++ rest) ≡ lexed m.Between then_ rest
    → effect (spot s) p ≡ Some (behind, new) → Passes s p rest behind new
plain_pass s then_ p rest behind tokens new e t r h =
    let q = some_parts (spot then_) behind tokens new (sym e ∙ h) in
    record { then_ = then_; place = q.0; tokens = t ∙ ap (λ (x : List Token). s.tokens ++ x) q.1; reads = r }

pass_space : (s : Lexer) (rest : List ℕ) (behind : Spot) (new : List Token) → effect (spot s) Space ≡ Some (behind, new) → Passes s Space rest behind new
pass_space s rest behind new h = plain_pass s (moved (record s { place = past_space false s.place }) 32) Space rest behind [] new refl (sym (append-nil s.tokens)) (rw of_space refl) h

pass_tab : (s : Lexer) (rest : List ℕ) (behind : Spot) (new : List Token) → effect (spot s) Tab ≡ Some (behind, new) → Passes s Tab rest behind new
pass_tab s rest behind new h = plain_pass s (moved (record s { place = past_space true s.place }) 9) Tab rest behind [] new refl (sym (append-nil s.tokens)) (rw of_tab refl) h

pass_comment : (s : Lexer) (more : List ℕ) (rest : List ℕ) (behind : Spot) (new : List Token) → AreCharacters more → sees (bars (Comment more)) rest ≡ false
    → effect (spot s) (Comment more) ≡ Some (behind, new) → Passes s (Comment more) rest behind new
pass_comment s more rest behind new good end h =
    let then_ : Lexer = record s { here = along s.here (35 ∷ encode_utf8_all more) } in
    plain_pass s then_ (Comment more) rest behind [] new refl (sym (append-nil s.tokens)) (hash_first ∙ run_comment more (moved s 35) rest good ∙ stop_comment then_ rest end) h
  where
    hash_first : lexed m.Between s (35 ∷ (encode_utf8_all more ++ rest)) ≡ lexed m.Comment (moved s 35) (encode_utf8_all more ++ rest)
    hash_first = rw of_hash refl

pass_line : (s : Lexer) (rest : List ℕ) (behind : Spot) (new : List Token) → effect (spot s) Line ≡ Some (behind, new) → Passes s Line rest behind new
pass_line s rest behind new h = plain_pass s (moved (end_line s.here s 10) 10) Line rest behind (line_tokens s.place s.here (next s.here 10)) new refl refl (rw of_feed refl) h

pass_return : (s : Lexer) (rest : List ℕ) (behind : Spot) (new : List Token) → effect (spot s) ReturnLine ≡ Some (behind, new) → Passes s ReturnLine rest behind new
pass_return s rest behind new h =
    let after : Lexer = moved (record s { began = s.here }) 13 in
    plain_pass s (moved (end_line s.here after 10) 10) ReturnLine rest behind (line_tokens s.place s.here (along s.here (13 ∷ 10 ∷ []))) new refl refl (rw of_return (rw of_feed refl)) h

pass : (p : Piece) (s : Lexer) (rest : List ℕ) (behind : Spot) (new : List Token) → IsPiece p → sees (bars p) rest ≡ false → effect (spot s) p ≡ Some (behind, new) → Passes s p rest behind new
pass Space s rest behind new good end h = pass_space s rest behind new h
pass Tab s rest behind new good end h = pass_tab s rest behind new h
pass (Comment more) s rest behind new good end h = pass_comment s more rest behind new good end h
pass Line s rest behind new good end h = pass_line s rest behind new h
pass ReturnLine s rest behind new good end h = pass_return s rest behind new h
pass (Word b more) s rest behind new good end h = pass_word s b more rest behind new good end h
pass (Number b more) s rest behind new good end h = pass_number s b more rest behind new good end h
pass (Single a) s rest behind new good end h = pass_single s a rest behind new good end h
pass (Double a b) s rest behind new good end h = pass_double s a b rest behind new good h
pass (Short quote items) s rest behind new good end h = pass_short s quote items rest behind new good end h
pass (Long quote items) s rest behind new good end h = pass_long s quote items rest behind new good h

end_only : (s : Lexer) (o : Option (List Token)) (later : List Token) → o ≡ Some later → (let r : Answer = answer s.here.last (finished s o) in r) ≡ Ok (s.tokens ++ later)
end_only s o later h = rw h refl

-- what these pieces spell is read so
pub reads_only : (ps : List Piece) (s : Lexer) (bytes : List ℕ) (later : List Token) → Reads (spot s) ps bytes later → lexed m.Between s bytes ≡ Ok (s.tokens ++ later)
reads_only [] s bytes later h = rw h.0 (end_only s (ending (spot s)) later h.1)
reads_only (p ∷ ps) s bytes later h =
    let a = pass p s h.0 h.1 h.2 h.5 h.6 h.7 in
    let b : Reads (spot a.then_) ps h.0 h.3 = subst (λ (w : Spot). Reads w ps h.0 h.3) (sym a.place) h.8 in
    let e : (a.then_).tokens ++ h.3 ≡ s.tokens ++ later = ap (λ (t : List Token). t ++ h.3) a.tokens ∙ append_assoc s.tokens h.2 h.3 ∙ ap (λ (t : List Token). s.tokens ++ t) (sym h.9) in
    ap (lexed m.Between s) h.4 ∙ a.reads ∙ reads_only ps a.then_ h.0 h.3 b ∙ ap (λ (t : List Token). Ok t) e

first_off : (s : Lexer) (bs : List ℕ) (ts : List Token) → lexed m.Between s bs ≡ Ok ts → lexed m.First s bs ≡ Ok ts
first_off s [] ts h = h
first_off s (b ∷ bs) ts h = way (b == 239) refl
  where
    way : (t : Bool) → (b == 239) ≡ t → lexed m.First s (b ∷ bs) ≡ Ok ts
    way false e = rw e h
    way true e =
        let same : b ≡ 239 = eqb-true b 239 e in
        let no : lexed m.Between s (b ∷ bs) ≡ Err s.here.line = rw same (rw of_mark refl) in
        absurd (let no : (let r : Answer = Ok ts in r) ≡ Err s.here.line = sym h ∙ no in cc)

marked : (rest : List ℕ) → lexed m.First first_lexer (239 ∷ 187 ∷ 191 ∷ rest) ≡ lexed m.Between (put (at_start first_lexer (along first_lexer.here byte_order_mark)) (along first_lexer.here byte_order_mark)) rest
marked rest = refl

pub tokens_only : (source : List ℕ) (ts : List Token) → HasTokens source ts → lexed m.First first_lexer source ≡ Ok ts
tokens_only source ts h =
    elim h.3 [
      | inl e ↦
          let r : Reads (spot_behind []) h.2 h.1 ts = subst (λ (m : List ℕ). Reads (spot_behind m) h.2 h.1 ts) e h.5 in
          let w : source ≡ h.1 = h.4 ∙ ap (λ (m : List ℕ). m ++ h.1) e in
          first_off first_lexer source ts (ap (lexed m.Between first_lexer) w ∙ reads_only h.2 first_lexer h.1 ts r)
      | inr e ↦
          let r : Reads (spot_behind byte_order_mark) h.2 h.1 ts = subst (λ (m : List ℕ). Reads (spot_behind m) h.2 h.1 ts) e h.5 in
          let w : source ≡ byte_order_mark ++ h.1 = h.4 ∙ ap (λ (m : List ℕ). m ++ h.1) e in
          ap (lexed m.First first_lexer) w ∙ marked h.1 ∙ reads_only h.2 (put (at_start first_lexer (along first_lexer.here byte_order_mark)) (along first_lexer.here byte_order_mark)) h.1 ts r
    ]
