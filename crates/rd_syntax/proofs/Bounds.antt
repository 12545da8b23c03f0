-- How fast the count of open brackets grows, and that what is written of a token is UTF-8.
use Rattle.std.specs.Prelude.{◌==◌, encode_utf8}
use Rattle.std.specs.Str.{IsUtf8}
use Rattle.std.proofs.Common.{◌≡◌, ℕ, zero, suc, ◌+◌, ◌-◌, ◌*◌, ◌≤◌, ◌<◌, Bool, true, false, cond, List, [], ◌∷◌, ◌++◌, Option, Some, None, refl, sym, ap, subst, append_assoc, arith}
use Rattle.std.proofs.lemmas.List.{append-nil}
use Rattle.std.proofs.lemmas.Str.{IsUtf8-nil, IsUtf8-append, IsUtf8-encode}
use lib.Utf8.{low_scalar}
use Rattle.rd_syntax.specs.declared.class.Class.{Class}
use Rattle.rd_syntax.specs.declared.class.Class.TheVariants as c
use Rattle.rd_syntax.specs.declared.class.Quote.{Quote}
use Rattle.rd_syntax.specs.declared.utf8.Tail.{Tail}
use Rattle.rd_syntax.specs.declared.token.TokenKind.TheVariants as k
use Rattle.rd_syntax.specs.declared.layout.Position.{Position}
use Rattle.rd_syntax.specs.declared.layout.Place.{Place}
use Rattle.rd_syntax.specs.declared.layout.Place.TheVariants.{Before, Start, Inside}
use Rattle.rd_syntax.specs.declared.lexer.Mode.{Mode}
use Rattle.rd_syntax.specs.declared.lexer.Mode.TheVariants as m
use Rattle.rd_syntax.specs.declared.lexer.Lexer.{Lexer}
use Rattle.rd_syntax.specs.Bytes.{quote_byte, is_open, is_close, class_of, escape_of, hex_of, is_double, other_half, continues_number, number_with}
use Rattle.rd_syntax.specs.Words.{ends_in_letter}
use Rattle.rd_syntax.specs.Utf8.{lead_of, follows, rest_of, Tails}
use Rattle.rd_syntax.specs.Layout.{next, Entered, enter, depth_of, past_space, past_line, past_sign, down}
use Rattle.rd_syntax.specs.Machine.{at_start, ended, quote_step, long_step, quoted_return_step, spot, Step, opened, begin, end_word, end_number, end_sign, sign_place, pushed, written, quoted_at, comment_at, lead_step, word_step, number_step, quoted_step, escape_step, hex_step, digit_step, comment_step, return_step, step_in, put}
use Rattle.rd_syntax.specs.Outcome.{IsAt, IsSound}
use Rattle.rd_syntax.proofs.Encoded.{wide_utf8}
use Rattle.rd_syntax.proofs.Classes.{means, ascii, and_ascii, quote_low, plain_low, escape_low, hex_low}

-- no more brackets than this are open, and what is written is sound
abbrev Keeps : ℕ → Step → Type 0
Keeps n None = Unit {0}
Keeps n (Some x) = (depth_of (x.1).place ≤ n) × IsSound x.0 x.1

keep_if : (n : ℕ) (t : Bool) (x y : Step) → (t ≡ true → Keeps n x) → (t ≡ false → Keeps n y) → Keeps n (cond t x y)
keep_if n true x y h k = h refl
keep_if n false x y h k = k refl

keep_open : (n : ℕ) (mode : Mode) (text : List ℕ) (s : Lexer) (o : Option Entered) → depth_of s.place ≤ n → ((x : Lexer) → x.text ≡ text → IsSound mode x) → Keeps n (opened mode text s o)
keep_open n mode text s None h sound = tt
keep_open n mode text s (Some e) h sound = (h, sound _ refl)

keep_space : (n : ℕ) (tab : Bool) (p : Place) → depth_of p ≤ n → depth_of (past_space tab p) ≤ n
keep_space n true (Before from) h = h
keep_space n false (Before from) h = h
keep_space n true (Start from t) h = h
keep_space n false (Start from t) h = h
keep_space n true (Inside d) h = h
keep_space n false (Inside d) h = h

keep_line : (n : ℕ) (p : Place) (q : Position) → depth_of p ≤ n → depth_of (past_line p q) ≤ n
keep_line n (Before from) q h = h
keep_line n (Start from t) q h = h
keep_line n (Inside zero) q h = h
keep_line n (Inside (suc d)) q h = h

down_small : (d : ℕ) → down d ≤ d + 1
down_small zero = omega arith
down_small (suc d) = omega arith

sign_small : (a : ℕ) (more : List ℕ) (d : ℕ) → past_sign (a ∷ more) d ≤ d + 1
sign_small a more d = way (is_open a) (is_close a)
  where
    way : (x y : Bool) → cond x (suc d) (cond y (down d) d) ≤ d + 1
    way true y = omega arith
    way false true = down_small d
    way false false = omega arith

keep_sign : (a : ℕ) (more : List ℕ) (p : Place) → depth_of (sign_place (a ∷ more) p) ≤ depth_of p + 1
keep_sign a more (Before from) = omega arith
keep_sign a more (Start from t) = omega arith
keep_sign a more (Inside d) = sign_small a more d

sound_text : (text other : List ℕ) → IsUtf8 text → other ≡ text → IsUtf8 other
sound_text text other u e = subst IsUtf8 (sym e) u

keep_begin : (n : ℕ) (κ : Class) (s : Lexer) (b : ℕ) → class_of b ≡ κ → depth_of s.place ≤ n → Keeps n (begin κ s b)
keep_begin n c.Letter s b e h = keep_open n m.Word (b ∷ []) s (enter (spot s)) h (λ x. sound_text (b ∷ []) x.text (ascii b (means c.Letter b e)))
keep_begin n c.Underscore s b e h = keep_open n m.Word (b ∷ []) s (enter (spot s)) h (λ x. sound_text (b ∷ []) x.text (ascii b (means c.Underscore b e)))
keep_begin n c.Digit s b e h = keep_open n (m.Number (b - 48)) (b ∷ []) s (enter (spot s)) h (λ x. sound_text (b ∷ []) x.text (ascii b (means c.Digit b e)))
keep_begin n (c.Quote quote) s b e h = keep_open n (m.Opened quote) [] s (enter (spot s)) h (λ x. sound_text [] x.text IsUtf8-nil)
keep_begin n c.Sign s b e h = keep_open n (m.Sign b) [] s (enter (spot s)) h (λ x _. means c.Sign b e)
keep_begin n c.Half s b e h = keep_open n (m.Half b) [] s (enter (spot s)) h (λ x _. means c.Half b e)
keep_begin n c.Hash s b e h = (h, tt)
keep_begin n c.Space s b e h = (keep_space n false s.place h, tt)
keep_begin n c.Tab s b e h = (keep_space n true s.place h, tt)
keep_begin n c.Feed s b e h = (keep_line n s.place _ h, tt)
keep_begin n c.Return s b e h = (h, tt)
keep_begin n c.Backslash s b e h = tt
keep_begin n c.High s b e h = tt
keep_begin n c.Other s b e h = tt

keep_word : (n : ℕ) (κ : Class) (s : Lexer) (b : ℕ) → class_of b ≡ κ → depth_of s.place ≤ n → IsUtf8 s.text → Keeps n (word_step κ s b)
keep_word n c.Letter s b e h u = (h, and_ascii s.text b u (means c.Letter b e))
keep_word n c.Underscore s b e h u = (h, and_ascii s.text b u (means c.Underscore b e))
keep_word n c.Digit s b e h u = (h, and_ascii s.text b u (means c.Digit b e))
keep_word n (c.Quote quote) s b e h u = keep_if n (ends_in_letter s.text) None (begin (c.Quote quote) (end_word s) b) (λ _. tt) (λ _. keep_begin n (c.Quote quote) (end_word s) b e h)
keep_word n κ s b e h u = keep_begin n κ (end_word s) b e h

keep_number : (n value : ℕ) (κ : Class) (s : Lexer) (b : ℕ) → class_of b ≡ κ → depth_of s.place ≤ n → IsUtf8 s.text → Keeps n (number_step value κ s b)
keep_number n value c.Letter s b e h u = tt
keep_number n value c.Underscore s b e h u = tt
keep_number n value c.Digit s b e h u = keep_if n (continues_number value b) (Some (m.Number (number_with value b), pushed s b)) None (λ _. (h, and_ascii s.text b u (means c.Digit b e))) (λ _. tt)
keep_number n value κ s b e h u = keep_begin n κ (end_number s) b e h

keep_comment_lead : (n : ℕ) (o : Option Tail) (s : Lexer) → depth_of s.place ≤ n → Keeps n (lead_step comment_at o s)
keep_comment_lead n None s h = tt
keep_comment_lead n (Some t) s h = (h, tt)

keep_lead : (n : ℕ) (quote : Quote) (long : Bool) (o : Option Tail) (s : Lexer) (b : ℕ) → lead_of b ≡ o → depth_of s.place ≤ n → IsUtf8 s.text → Keeps n (lead_step (quoted_at quote long) o (pushed s b))
keep_lead n quote long None s b e h u = tt
keep_lead n quote long (Some t) s b e h u = (h, λ more tails. rw append_assoc (IsUtf8-append s.text (b ∷ more) u (wide_utf8 b more (t, e, tails))))

keep_quote : (n : ℕ) (quote : Quote) (long : Bool) (s : Lexer) (b : ℕ) → depth_of s.place ≤ n → IsUtf8 s.text → Keeps n (quote_step quote long s b)
keep_quote n quote true s b h u = (h, u)
keep_quote n quote false s b h u = (h, tt)

keep_long : (n : ℕ) (long : Bool) (mode : Mode) (s : Lexer) → depth_of s.place ≤ n → IsSound mode s → Keeps n (long_step long mode s)
keep_long n true mode s h u = (h, u)
keep_long n false mode s h u = tt

keep_quoted : (n : ℕ) (quote : Quote) (long : Bool) (κ : Class) (s : Lexer) (b : ℕ) → class_of b ≡ κ → depth_of s.place ≤ n → IsUtf8 s.text → Keeps n (quoted_step quote long κ s b)
keep_quoted n quote long (c.Quote found) s b e h u =
    keep_if n (b == quote_byte quote) (quote_step quote long s b) (Some (m.Quoted quote long, pushed s b)) (λ _. keep_quote n quote long s b h u)
    (λ _. (h, and_ascii s.text b u (let same : b ≡ quote_byte found = means (c.Quote found) b e in subst (λ n. n < 128) (sym same) (quote_low found))))
keep_quoted n quote long c.Backslash s b e h u = (h, u)
keep_quoted n quote long c.Feed s b e h u = keep_long n long (m.Quoted quote long) (pushed s 10) h (and_ascii s.text 10 u (omega arith))
keep_quoted n quote long c.Return s b e h u = keep_long n long (m.QuotedReturn quote long) s h u
keep_quoted n quote long c.High s b e h u = keep_lead n quote long (lead_of b) s b refl h u
keep_quoted n quote long κ s b e h u = (h, and_ascii s.text b u (plain_low κ b e refl))

keep_quoted_return : (n : ℕ) (quote : Quote) (long : Bool) (κ : Class) (s : Lexer) → depth_of s.place ≤ n → IsUtf8 s.text → Keeps n (quoted_return_step quote long κ s)
keep_quoted_return n quote long c.Feed s h u = (h, and_ascii s.text 10 u (omega arith))
keep_quoted_return n quote long κ s h u = tt

keep_escape : (n : ℕ) (quote : Quote) (long : Bool) (o : Option ℕ) (s : Lexer) (b : ℕ) → escape_of b ≡ o → depth_of s.place ≤ n → IsUtf8 s.text → Keeps n (escape_step quote long o s b)
keep_escape n quote long (Some x) s b e h u = (h, and_ascii s.text x u (escape_low b x e))
keep_escape n quote long None s b e h u = keep_if n (b == 120) (Some (m.Hex quote long, s)) None (λ _. (h, u)) (λ _. tt)

keep_hex : (n : ℕ) (quote : Quote) (long : Bool) (o : Option ℕ) (s : Lexer) (b : ℕ) → hex_of b ≡ o → depth_of s.place ≤ n → IsUtf8 s.text → Keeps n (hex_step quote long o s)
keep_hex n quote long (Some x) s b e h u = (h, (u, hex_low b x e))
keep_hex n quote long None s b e h u = tt

keep_digit : (n : ℕ) (quote : Quote) (long : Bool) (high : ℕ) (o : Option ℕ) (s : Lexer) (b : ℕ) → hex_of b ≡ o → high < 16 → depth_of s.place ≤ n → IsUtf8 s.text → Keeps n (digit_step quote long high o s)
keep_digit n quote long high (Some low) s b e below h u =
    let last : low < 16 = hex_low b low e in
    (h, IsUtf8-append s.text (encode_utf8 (16 * high + low)) u (IsUtf8-encode (16 * high + low) (low_scalar (16 * high + low) (omega arith))))
keep_digit n quote long high None s b e below h u = tt

keep_comment : (n : ℕ) (κ : Class) (s : Lexer) (b : ℕ) → class_of b ≡ κ → depth_of s.place ≤ n → Keeps n (comment_step κ s b)
keep_comment n c.Feed s b e h = keep_begin n c.Feed s b e h
keep_comment n c.Return s b e h = keep_begin n c.Return s b e h
keep_comment n c.High s b e h = keep_comment_lead n (lead_of b) s h
keep_comment n κ s b e h = (h, tt)

keep_return : (n : ℕ) (κ : Class) (s : Lexer) (b : ℕ) → depth_of s.place ≤ n → Keeps n (return_step κ s b)
keep_return n c.Feed s b h = (keep_line n s.place _ h, tt)
keep_return n κ s b h = tt

sound_tail : (quote : Quote) (long : Bool) (o : Option Tail) (s : Lexer) → ((more : List ℕ) → Tails o more → IsUtf8 (s.text ++ more)) → IsSound (quoted_at quote long o) s
sound_tail quote long None s h = subst IsUtf8 (append-nil s.text) (h [] tt)
sound_tail quote long (Some t) s h = h

sound_comment : (o : Option Tail) (s : Lexer) → IsSound (comment_at o) s
sound_comment None s = tt
sound_comment (Some t) s = tt

keep_step : (n : ℕ) (mode : Mode) (s : Lexer) (b : ℕ) → depth_of s.place + 1 ≤ n → IsSound mode s → Keeps n (step_in mode s b)
keep_step n m.First s b h u = keep_if n (b == 239) (Some (m.MarkTwo, s)) (begin (class_of b) s b) (λ _. (omega arith, tt)) (λ _. keep_begin n (class_of b) s b refl (omega arith))
keep_step n m.MarkTwo s b h u = keep_if n (b == 187) (Some (m.MarkThree, s)) None (λ _. (omega arith, tt)) (λ _. tt)
keep_step n m.MarkThree s b h u = keep_if n (b == 191) (Some (m.Between, at_start s (next s.here b))) None (λ _. (omega arith, tt)) (λ _. tt)
keep_step n m.Between s b h u = keep_begin n (class_of b) s b refl (omega arith)
keep_step n m.Word s b h u = keep_word n (class_of b) s b refl (omega arith) u
keep_step n (m.Number value) s b h u = keep_number n value (class_of b) s b refl (omega arith) u
keep_step n (m.Sign a) s b h u =
    let one = keep_sign a [] s.place in
    let two = keep_sign a (b ∷ []) s.place in
    keep_if n (is_double a b) (Some (m.Between, end_sign (a ∷ b ∷ []) (next s.here b) s)) (begin (class_of b) (end_sign (a ∷ []) s.here s) b) (λ _. (omega arith, tt)) (λ _. keep_begin n (class_of b) (end_sign (a ∷ []) s.here s) b refl (omega arith))
keep_step n (m.Half a) s b h u =
    let two = keep_sign a (b ∷ []) s.place in
    keep_if n (b == other_half a) (Some (m.Between, end_sign (a ∷ b ∷ []) (next s.here b) s)) None (λ _. (omega arith, tt)) (λ _. tt)
keep_step n (m.Opened quote) s b h u =
    keep_if n (b == quote_byte quote) (Some (m.Twice quote, s)) (quoted_step quote false (class_of b) s b) (λ _. (omega arith, u)) (λ _. keep_quoted n quote false (class_of b) s b refl (omega arith) u)
keep_step n (m.Twice quote) s b h u =
    keep_if n (b == quote_byte quote) (Some (m.Quoted quote true, s)) (begin (class_of b) (ended k.Text s.text s.here s) b) (λ _. (omega arith, u)) (λ _. keep_begin n (class_of b) (ended k.Text s.text s.here s) b refl (omega arith))
keep_step n (m.Quoted quote long) s b h u = keep_quoted n quote long (class_of b) s b refl (omega arith) u
keep_step n (m.SeenOne quote) s b h u =
    let after : Lexer = written s (quote_byte quote ∷ []) in
    let more : IsUtf8 after.text = and_ascii s.text (quote_byte quote) u (quote_low quote) in
    keep_if n (b == quote_byte quote) (Some (m.SeenTwo quote, s)) (quoted_step quote true (class_of b) after b) (λ _. (omega arith, u)) (λ _. keep_quoted n quote true (class_of b) after b refl (omega arith) more)
keep_step n (m.SeenTwo quote) s b h u =
    let after : Lexer = written s (quote_byte quote ∷ quote_byte quote ∷ []) in
    let more : IsUtf8 after.text = rw (sym (append_assoc s.text (quote_byte quote ∷ []) (quote_byte quote ∷ []))) (and_ascii (s.text ++ quote_byte quote ∷ []) (quote_byte quote) (and_ascii s.text (quote_byte quote) u (quote_low quote)) (quote_low quote)) in
    keep_if n (b == quote_byte quote) (Some (m.Between, ended k.Text s.text (next s.here b) s)) (quoted_step quote true (class_of b) after b) (λ _. (omega arith, tt)) (λ _. keep_quoted n quote true (class_of b) after b refl (omega arith) more)
keep_step n (m.QuotedReturn quote long) s b h u = keep_quoted_return n quote long (class_of b) s (omega arith) u
keep_step n (m.Escape quote long) s b h u = keep_escape n quote long (escape_of b) s b refl (omega arith) u
keep_step n (m.Hex quote long) s b h u = keep_hex n quote long (hex_of b) s b refl (omega arith) u
keep_step n (m.HexDigit quote long high) s b h u = keep_digit n quote long high (hex_of b) s b refl u.1 (omega arith) u.0
keep_step n m.Comment s b h u = keep_comment n (class_of b) s b refl (omega arith)
keep_step n m.Return s b h u = keep_return n (class_of b) s b (omega arith)
keep_step n (m.QuotedTail quote long t) s b h u =
    keep_if n (follows t b) (Some (quoted_at quote long (rest_of t), pushed s b)) None
    (λ e. (omega arith, sound_tail quote long (rest_of t) (pushed s b) (λ more tails. rw append_assoc (u (b ∷ more) (e, tails))))) (λ _. tt)
keep_step n (m.CommentTail t) s b h u = keep_if n (follows t b) (Some (comment_at (rest_of t), s)) None (λ _. (omega arith, sound_comment (rest_of t) s)) (λ _. tt)

line_grows : (t : Bool) (line n : ℕ) → line ≤ n + 1 → cond t (line + 1) line ≤ n + 1 + 1
line_grows true line n h = omega arith
line_grows false line n h = omega arith

moved_sound : (mode : Mode) (x : Lexer) (p : Position) → IsSound mode x → IsSound mode (put x p)
moved_sound mode x p h = by mode h
  where
    by : (mode : Mode) → IsSound mode x → IsSound mode (put x p)
    by (m.Number value) h = h
    by (m.Sign a) h = h
    by (m.Half a) h = h
    by (m.Opened quote) h = h
    by (m.Twice quote) h = h
    by (m.Quoted quote long) h = h
    by (m.SeenOne quote) h = h
    by (m.SeenTwo quote) h = h
    by (m.QuotedReturn quote long) h = h
    by (m.Escape quote long) h = h
    by (m.Hex quote long) h = h
    by (m.HexDigit quote long high) h = h
    by (m.QuotedTail quote long t) h = h
    by (m.CommentTail t) h = h
    by m.First h = h
    by m.MarkTwo h = h
    by m.MarkThree h = h
    by m.Between h = h
    by m.Word h = h
    by m.Comment h = h
    by m.Return h = h

pub step_further : (n : ℕ) (mode : Mode) (s : Lexer) (b : ℕ) (next_mode : Mode) (x : Lexer) → step_in mode s b ≡ Some (next_mode, x) → IsAt n mode s → IsAt (n + 1) next_mode (put x (next s.here b))
step_further n mode s b next_mode x e h =
    let kept : Keeps (n + 1) (Some (next_mode, x)) = subst (λ (o : Step). Keeps (n + 1) o) e (keep_step (n + 1) mode s b (let brackets : depth_of s.place ≤ n = h.brackets in omega arith) h.sound) in
    record {
      bytes = ap (λ k. k + 1) h.bytes;
      lines = line_grows (b == 10) s.here.line n h.lines;
      lasts = (let lines : s.here.line ≤ n + 1 = h.lines in omega arith);
      brackets = kept.0;
      sound = moved_sound next_mode x (next s.here b) kept.1;
    }
