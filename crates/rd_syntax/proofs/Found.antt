-- What is read is spelled so.
use Rattle.std.specs.Prelude.{◌==◌, encode_utf8, encode_utf8_all}
use Rattle.std.specs.Char.{IsScalar}
use Rattle.std.proofs.lemmas.Bool.{eqb-true}
use Rattle.std.proofs.Common.{◌≡◌, ℕ, suc, ◌+◌, ◌*◌, ◌<◌, ◌≤◌, arith, ◌-◌, Bool, true, false, List, [], ◌∷◌, ◌++◌, Option, Some, None, Ok, refl, sym, ap, subst, ◌∙◌, append_assoc, inl, inr, ◌⊎◌, cond, eq-eqb}
use Rattle.std.proofs.lemmas.List.{append-nil}
use Rattle.std.proofs.lemmas.Str.{encode_ascii}
use Rattle.rd_syntax.specs.declared.class.Class.{Class}
use Rattle.rd_syntax.specs.declared.class.Class.TheVariants as c
use Rattle.rd_syntax.specs.declared.class.Quote.{Quote}
use Rattle.rd_syntax.specs.declared.utf8.Tail.{Tail}
use Rattle.rd_syntax.specs.declared.token.TokenKind.{TokenKind}
use Rattle.rd_syntax.specs.declared.token.TokenKind.TheVariants as k
use Rattle.rd_syntax.specs.declared.token.Token.{Token}
use Rattle.rd_syntax.specs.declared.layout.Position.{Position}
use Rattle.rd_syntax.specs.declared.layout.Place.TheVariants.{Inside}
use Rattle.rd_syntax.specs.declared.lexer.Mode.{Mode}
use Rattle.rd_syntax.specs.declared.lexer.Mode.TheVariants as m
use Rattle.rd_syntax.specs.declared.lexer.Lexer.{Lexer}
use Rattle.rd_syntax.specs.Bytes.{escape_of, hex_of, quote_byte, class_of, in_word, begins_word, is_quote, is_plain, is_remark, in_line, is_double, other_half, continues_number, number_with}
use Rattle.rd_syntax.specs.Words.{word_kind, ends_in_letter}
use Rattle.rd_syntax.specs.Utf8.{lead_of, follows, rest_of, Tails}
use Rattle.rd_syntax.specs.Layout.{next, along, token, Spot, Entered, enter, past_sign, past_space, depth_of, line_tokens, ending}
use Rattle.rd_syntax.specs.Texts.{IsCharacter, AreCharacters, Item, Plain, OtherQuote, OwnQuote, LineEnd, ReturnEnd, Escaped, Hex, quotes_after, spell_item, value_item, spell_items, value_items, IsItem, AreItems}
use Rattle.rd_syntax.specs.Pieces.{Piece, Space, Tab, Comment, Line, ReturnLine, Word, Number, Single, Double, Short, Long, fence, spell, spell_short, spell_long, Rest, Digits, IsPiece, bars, bars_word, sees, entered, same_depth, effect}
use Rattle.rd_syntax.specs.Sources.{Reads, HasTokens, spot_behind, byte_order_mark}
use Rattle.rd_syntax.specs.Machine.{quote_step, quoted_return_step, lead_step, escape_step, hex_step, digit_step, return_step, step_in, at_start, spot, Step, opened, open_piece, begin, ended, end_word, end_number, end_sign, pushed, written, end_line, finished, quoted_at, comment_at, word_step, number_step, quoted_step, comment_step, put, moved, answer, lexed, first_lexer}
use Rattle.rd_syntax.proofs.Encoded.{spelled}
use lib.Utf8.{low_scalar}
use Rattle.rd_syntax.proofs.Classes.{means, other_is, remark_low, plain_low}
use Rattle.rd_syntax.proofs.Only.{Answer, go, with_text, along_append, opens, behind_token, new_token, lone}

-- what is left to read, by what was begun

abbrev pub FromBase : Lexer → List ℕ → List Token → Type 0
FromBase s bs ts = (ps : List Piece) × (later : List Token) × Reads (spot s) ps bs later × (ts ≡ s.tokens ++ later)

abbrev FromWord : Lexer → List ℕ → List Token → Type 0
FromWord s bs ts = (more : List ℕ) × (rest : List ℕ) × (bs ≡ more ++ rest) × Rest more × (sees (bars_word (s.text ++ more)) rest ≡ false)
    × FromBase (end_word (with_text s (s.text ++ more) (along s.here more))) rest ts

abbrev FromNumber : ℕ → Lexer → List ℕ → List Token → Type 0
FromNumber value s bs ts = (more : List ℕ) × (rest : List ℕ) × (bs ≡ more ++ rest) × Digits value more × (sees (λ b. in_word (class_of b)) rest ≡ false)
    × FromBase (end_number (with_text s (s.text ++ more) (along s.here more))) rest ts

abbrev FromDouble : ℕ → ℕ → Lexer → List ℕ → List Token → Type 0
FromDouble a b s rest ts = FromBase (moved (end_sign (a ∷ b ∷ []) (next s.here b) s) b) rest ts

abbrev FromSign : ℕ → Lexer → List ℕ → List Token → Type 0
FromSign a s bs ts =
    ((sees (is_double a) bs ≡ false) × FromBase (end_sign (a ∷ []) s.here s) bs ts)
    ⊎ ((b : ℕ) × (rest : List ℕ) × (bs ≡ b ∷ rest) × (is_double a b ≡ true) × FromDouble a b s rest ts)

abbrev FromHalf : ℕ → Lexer → List ℕ → List Token → Type 0
FromHalf a s bs ts = (b : ℕ) × (rest : List ℕ) × (bs ≡ b ∷ rest) × ((b == other_half a) ≡ true) × FromDouble a b s rest ts

-- the lexer behind the quotes that end a text
abbrev text_done : Lexer → List ℕ → Lexer
text_done s end = record s { tokens = s.tokens ++ token k.Text s.text s.began (along s.here end) ∷ []; text = []; here = along s.here end }

abbrev Closes : Quote → Bool → Lexer → List ℕ → List Token → Type 0
Closes quote false s bs ts = (rest : List ℕ) × (bs ≡ quote_byte quote ∷ rest) × FromBase (text_done s (quote_byte quote ∷ [])) rest ts
Closes quote true s bs ts = (rest : List ℕ) × (bs ≡ fence quote ++ rest) × FromBase (text_done s (fence quote)) rest ts

-- behind so many of the text's own quote
abbrev FromItems : Quote → Bool → ℕ → Lexer → List ℕ → List Token → Type 0
FromItems quote long n s bs ts = (items : List Item) × (rest : List ℕ) × (bs ≡ spell_items quote items ++ rest) × AreItems long n items
    × Closes quote long (with_text s (s.text ++ (lone quote n ++ value_items quote items)) (along s.here (spell_items quote items))) rest ts

abbrev FromShort : Quote → Lexer → List ℕ → List Token → Type 0
FromShort quote s bs ts = (items : List Item) × (rest : List ℕ) × (bs ≡ spell_items quote items ++ (quote_byte quote ∷ rest)) × AreItems false 0 items
    × (sees (bars (Short quote items)) rest ≡ false) × FromBase (text_done (with_text s (s.text ++ value_items quote items) (along s.here (spell_items quote items))) (quote_byte quote ∷ [])) rest ts

abbrev FromLong : Quote → Lexer → List ℕ → List Token → Type 0
FromLong quote s bs ts = (rest : List ℕ) × (bs ≡ quote_byte quote ∷ rest) × FromItems quote true 0 (moved s (quote_byte quote)) rest ts

abbrev FromTwice : Quote → Lexer → List ℕ → List Token → Type 0
FromTwice quote s bs ts = ((sees (λ b. b == quote_byte quote) bs ≡ false) × FromBase (ended k.Text s.text s.here s) bs ts) ⊎ FromLong quote s bs ts

abbrev FromOpened : Quote → Lexer → List ℕ → List Token → Type 0
FromOpened quote s bs ts = FromShort quote s bs ts ⊎ ((rest : List ℕ) × (bs ≡ quote_byte quote ∷ rest) × FromLong quote (moved s (quote_byte quote)) rest ts)

abbrev FromSeenOne : Quote → Lexer → List ℕ → List Token → Type 0
FromSeenOne quote s bs ts = FromItems quote true 1 s bs ts ⊎ ((rest : List ℕ) × (bs ≡ quote_byte quote ∷ quote_byte quote ∷ rest) × FromBase (text_done s (quote_byte quote ∷ quote_byte quote ∷ [])) rest ts)

abbrev FromSeenTwo : Quote → Lexer → List ℕ → List Token → Type 0
FromSeenTwo quote s bs ts = FromItems quote true 2 s bs ts ⊎ ((rest : List ℕ) × (bs ≡ quote_byte quote ∷ rest) × FromBase (text_done s (quote_byte quote ∷ [])) rest ts)

abbrev FromDigit : Quote → Bool → ℕ → Lexer → List ℕ → List Token → Type 0
FromDigit quote long h s bs ts = (b : ℕ) × (rest : List ℕ) × (bs ≡ b ∷ rest) × (l : ℕ) × (hex_of b ≡ Some l) × FromItems quote long 0 (moved (written s (encode_utf8 (16 * h + l))) b) rest ts

abbrev FromHex : Quote → Bool → Lexer → List ℕ → List Token → Type 0
FromHex quote long s bs ts = (b : ℕ) × (rest : List ℕ) × (bs ≡ b ∷ rest) × (h : ℕ) × (hex_of b ≡ Some h) × FromDigit quote long h (moved s b) rest ts

abbrev FromEscape : Quote → Bool → Lexer → List ℕ → List Token → Type 0
FromEscape quote long s bs ts =
    ((b : ℕ) × (rest : List ℕ) × (bs ≡ b ∷ rest) × (x : ℕ) × (escape_of b ≡ Some x) × FromItems quote long 0 (moved (pushed s x) b) rest ts)
    ⊎ ((rest : List ℕ) × (bs ≡ 120 ∷ rest) × FromHex quote long (moved s 120) rest ts)

abbrev FromQuotedReturn : Quote → Bool → Lexer → List ℕ → List Token → Type 0
FromQuotedReturn quote long s bs ts = (rest : List ℕ) × (bs ≡ 10 ∷ rest) × FromItems quote long 0 (moved (pushed s 10) 10) rest ts

abbrev FromComment : Lexer → List ℕ → List Token → Type 0
FromComment s bs ts = (more : List ℕ) × (rest : List ℕ) × (bs ≡ encode_utf8_all more ++ rest) × AreCharacters more × (sees (λ b. in_line (class_of b)) rest ≡ false)
    × FromBase (record s { here = along s.here (encode_utf8_all more) }) rest ts

abbrev FromCommentTail : Option Tail → Lexer → List ℕ → List Token → Type 0
FromCommentTail o s bs ts = (more : List ℕ) × (rest : List ℕ) × (bs ≡ more ++ rest) × Tails o more × FromComment (record s { here = along s.here more }) rest ts

abbrev FromQuotedTail : Quote → Bool → Option Tail → Lexer → List ℕ → List Token → Type 0
FromQuotedTail quote long o s bs ts = (more : List ℕ) × (rest : List ℕ) × (bs ≡ more ++ rest) × Tails o more × FromItems quote long 0 (with_text s (s.text ++ more) (along s.here more)) rest ts

abbrev FromReturn : Lexer → List ℕ → List Token → Type 0
FromReturn s bs ts = (rest : List ℕ) × (bs ≡ 10 ∷ rest) × FromBase (moved (end_line s.began s 10) 10) rest ts

abbrev FromMarkThree : Lexer → List ℕ → List Token → Type 0
FromMarkThree s bs ts = (b : ℕ) × (rest : List ℕ) × (bs ≡ b ∷ rest) × ((b == 191) ≡ true) × FromBase (put (at_start s (next s.here b)) (next s.here b)) rest ts

abbrev FromMarkTwo : Lexer → List ℕ → List Token → Type 0
FromMarkTwo s bs ts = (b : ℕ) × (rest : List ℕ) × (bs ≡ b ∷ rest) × ((b == 187) ≡ true) × FromMarkThree (moved s b) rest ts

abbrev FromFirst : Lexer → List ℕ → List Token → Type 0
FromFirst s bs ts = FromBase s bs ts ⊎ ((b : ℕ) × (rest : List ℕ) × (bs ≡ b ∷ rest) × ((b == 239) ≡ true) × FromMarkTwo (moved s b) rest ts)

abbrev From : Mode → Lexer → List ℕ → List Token → Type 0
From m.First s bs ts = FromFirst s bs ts
From m.MarkTwo s bs ts = FromMarkTwo s bs ts
From m.MarkThree s bs ts = FromMarkThree s bs ts
From m.Between s bs ts = FromBase s bs ts
From m.Word s bs ts = FromWord s bs ts
From (m.Number value) s bs ts = FromNumber value s bs ts
From (m.Sign a) s bs ts = FromSign a s bs ts
From (m.Half a) s bs ts = FromHalf a s bs ts
From (m.Opened quote) s bs ts = FromOpened quote s bs ts
From (m.Twice quote) s bs ts = FromTwice quote s bs ts
From (m.Quoted quote long) s bs ts = FromItems quote long 0 s bs ts
From (m.SeenOne quote) s bs ts = FromSeenOne quote s bs ts
From (m.SeenTwo quote) s bs ts = FromSeenTwo quote s bs ts
From (m.QuotedReturn quote long) s bs ts = FromQuotedReturn quote long s bs ts
From (m.Escape quote long) s bs ts = FromEscape quote long s bs ts
From (m.Hex quote long) s bs ts = FromHex quote long s bs ts
From (m.HexDigit quote long h) s bs ts = FromDigit quote long h s bs ts
From m.Comment s bs ts = FromComment s bs ts
From m.Return s bs ts = FromReturn s bs ts
From (m.QuotedTail quote long t) s bs ts = FromQuotedTail quote long (Some t) s bs ts
From (m.CommentTail t) s bs ts = FromCommentTail (Some t) s bs ts

abbrev Cont : Step → Position → List ℕ → List Token → Type 0
Cont None p bs ts = ⊥
Cont (Some x) p bs ts = From x.0 (put x.1 p) bs ts

-- ---- a piece in front

sees_none : (bs : List ℕ) → sees (λ b. false) bs ≡ false
sees_none [] = refl
sees_none (b ∷ bs) = refl

front : (s then_ : Lexer) (p : Piece) (rest : List ℕ) (new : List Token) (ts : List Token) → IsPiece p → sees (bars p) rest ≡ false → effect (spot s) p ≡ Some (spot then_, new)
    → then_.tokens ≡ s.tokens ++ new → FromBase then_ rest ts → FromBase s (spell p ++ rest) ts
front s then_ p rest new ts good end e t f = (
  p ∷ f.0,
  new ++ f.1,
  (rest, spot then_, new, f.1, refl, good, end, e, f.2, refl),
  f.3 ∙ ap (λ (x : List Token). x ++ f.1) t ∙ append_assoc s.tokens new f.1,
)

entered_at : (deeper : ℕ → ℕ) (kind : TokenKind) (text spelled : List ℕ) (w : Spot) (o : Option Entered) (e : Entered) → o ≡ Some e
    → entered deeper kind text spelled w o ≡ Some (behind_token deeper spelled w e, new_token kind text spelled w e)
entered_at deeper kind text spelled w o e h = rw h refl

open_back : (mode : Mode) (text : List ℕ) (s : Lexer) (o : Option Entered) (b : ℕ) (bs : List ℕ) (ts : List Token) → Cont (opened mode text s o) (next s.here b) bs ts
    → (e : Entered) × (o ≡ Some e) × From mode (opens text s b e) bs ts
open_back mode text s None b bs ts h = absurd h
open_back mode text s (Some e) b bs ts h = (e, refl, h)

module _ (s : Lexer) (b : ℕ) (bs : List ℕ) (ts : List Token) where
  word_back : begins_word (class_of b) ≡ true → Cont (open_piece m.Word (b ∷ []) s) (next s.here b) bs ts → FromBase s (b ∷ bs) ts
  word_back good h =
      let q = open_back m.Word (b ∷ []) s (enter (spot s)) b bs ts h in
      let f = q.2 in
      let in_ : Lexer = opens (b ∷ []) s b q.0 in
      let then_ : Lexer = end_word (with_text in_ (b ∷ f.0) (along in_.here f.0)) in
      rw f.2 (front s then_ (Word b f.0) f.1 (new_token (word_kind (b ∷ f.0)) (b ∷ f.0) (b ∷ f.0) (spot s) q.0) ts (good, f.3) f.4
      (entered_at same_depth (word_kind (b ∷ f.0)) (b ∷ f.0) (b ∷ f.0) (spot s) (enter (spot s)) q.0 q.1) (append_assoc s.tokens q.0.opens _) f.5)

  number_back : class_of b ≡ c.Digit → Cont (open_piece (m.Number (b - 48)) (b ∷ []) s) (next s.here b) bs ts → FromBase s (b ∷ bs) ts
  number_back good h =
      let q = open_back (m.Number (b - 48)) (b ∷ []) s (enter (spot s)) b bs ts h in
      let f = q.2 in
      let in_ : Lexer = opens (b ∷ []) s b q.0 in
      let then_ : Lexer = end_number (with_text in_ (b ∷ f.0) (along in_.here f.0)) in
      rw f.2 (front s then_ (Number b f.0) f.1 (new_token k.Int (b ∷ f.0) (b ∷ f.0) (spot s) q.0) ts (good, f.3) f.4
      (entered_at same_depth k.Int (b ∷ f.0) (b ∷ f.0) (spot s) (enter (spot s)) q.0 q.1) (append_assoc s.tokens q.0.opens _) f.5)

  double_back : (e : Entered) (d : ℕ) (rest : List ℕ) → enter (spot s) ≡ Some e → IsPiece (Double b d) → bs ≡ d ∷ rest → FromDouble b d (opens [] s b e) rest ts → FromBase s (b ∷ bs) ts
  double_back e d rest is_open good is f =
      let in_ : Lexer = opens [] s b e in
      rw is (front s (moved (end_sign (b ∷ d ∷ []) (next in_.here d) in_) d) (Double b d) rest (new_token k.Sign (b ∷ d ∷ []) (b ∷ d ∷ []) (spot s) e) ts good (sees_none rest)
      (entered_at (past_sign (b ∷ d ∷ [])) k.Sign (b ∷ d ∷ []) (b ∷ d ∷ []) (spot s) (enter (spot s)) e is_open) (append_assoc s.tokens e.opens _) f)

  sign_back : class_of b ≡ c.Sign → Cont (open_piece (m.Sign b) [] s) (next s.here b) bs ts → FromBase s (b ∷ bs) ts
  sign_back good h =
      let q = open_back (m.Sign b) [] s (enter (spot s)) b bs ts h in
      let in_ : Lexer = opens [] s b q.0 in
      elim q.2 [
        | inl f ↦ front s (end_sign (b ∷ []) in_.here in_) (Single b) bs (new_token k.Sign (b ∷ []) (b ∷ []) (spot s) q.0) ts good f.0
            (entered_at (past_sign (b ∷ [])) k.Sign (b ∷ []) (b ∷ []) (spot s) (enter (spot s)) q.0 q.1) (append_assoc s.tokens q.0.opens _) f.1
        | inr f ↦ double_back q.0 f.0 f.1 q.1 (inl (good, f.3)) f.2 f.4
      ]

  half_back : class_of b ≡ c.Half → Cont (open_piece (m.Half b) [] s) (next s.here b) bs ts → FromBase s (b ∷ bs) ts
  half_back good h =
      let q = open_back (m.Half b) [] s (enter (spot s)) b bs ts h in
      let f = q.2 in
      double_back q.0 f.0 f.1 q.1 (inr (good, eqb-true f.0 (other_half b) f.3)) f.2 f.4

module _ (s : Lexer) (quote : Quote) (bs : List ℕ) (ts : List Token) where
  text_at : (e : Entered) (text end spelled : List ℕ) (p : Position) → enter (spot s) ≡ Some e → along s.here spelled ≡ along p end
      → entered same_depth k.Text text spelled (spot s) (enter (spot s)) ≡ Some (spot (text_done (with_text (opens [] s (quote_byte quote) e) text p) end), e.opens ++ token k.Text text s.here (along p end) ∷ [])
  text_at e text end spelled p is_open same =
      entered_at same_depth k.Text text spelled (spot s) (enter (spot s)) e is_open
      ∙ ap (λ (p : Position). (let o : Option (Spot × List Token) = Some (record { stack = e.stack; place = Inside (depth_of s.place); here = p }, e.opens ++ token k.Text text s.here p ∷ []) in o)) same

  short_back : (e : Entered) → enter (spot s) ≡ Some e → FromShort quote (opens [] s (quote_byte quote) e) bs ts → FromBase s (quote_byte quote ∷ bs) ts
  short_back e is_open f =
      let z : ℕ = quote_byte quote in
      let inside : Position = along (next s.here z) (spell_items quote f.0) in
      let g = text_at e (value_items quote f.0) (z ∷ []) (spell_short quote f.0) inside is_open (along_append (next s.here z) (spell_items quote f.0) (z ∷ [])) in
      let r : FromBase s (z ∷ ((spell_items quote f.0 ++ z ∷ []) ++ f.1)) ts =
      front s (text_done (with_text (opens [] s z e) (value_items quote f.0) inside) (z ∷ [])) (Short quote f.0) f.1 (e.opens ++ token k.Text (value_items quote f.0) s.here (along inside (z ∷ [])) ∷ []) ts f.3 f.4
      g (append_assoc s.tokens e.opens _) f.5 in
      rw f.2 (rw append_assoc at r)

  long_back : (e : Entered) (rest : List ℕ) → enter (spot s) ≡ Some e → bs ≡ quote_byte quote ∷ rest → FromLong quote (moved (opens [] s (quote_byte quote) e) (quote_byte quote)) rest ts → FromBase s (quote_byte quote ∷ bs) ts
  long_back e rest is_open is f =
      let z : ℕ = quote_byte quote in
      let x = f.2 in
      let end : List ℕ = fence quote in
      let start : Position = next (next (next s.here z) z) z in
      let inside : Position = along start (spell_items quote x.0) in
      let g = text_at e (value_items quote x.0) end (spell_long quote x.0) inside is_open (along_append start (spell_items quote x.0) end) in
      let r : FromBase s (z ∷ z ∷ z ∷ ((spell_items quote x.0 ++ end) ++ x.4.0)) ts =
      front s (text_done (with_text (opens [] s z e) (value_items quote x.0) inside) end) (Long quote x.0) x.4.0 (e.opens ++ token k.Text (value_items quote x.0) s.here (along inside end) ∷ []) ts
      x.3 (sees_none x.4.0) g (append_assoc s.tokens e.opens _) x.4.2 in
      rw (is, f.1, x.2, x.4.1) (rw append_assoc at r)

  quote_back : Cont (open_piece (m.Opened quote) [] s) (next s.here (quote_byte quote)) bs ts → FromBase s (quote_byte quote ∷ bs) ts
  quote_back h =
      let q = open_back (m.Opened quote) [] s (enter (spot s)) (quote_byte quote) bs ts h in
      elim q.2 [
        | inl f ↦ short_back q.0 q.1 f
        | inr f ↦ long_back q.0 f.0 q.1 f.1 f.2
      ]

module _ (s : Lexer) (bs : List ℕ) (ts : List Token) where
  hash_back : FromComment (moved s 35) bs ts → FromBase s (35 ∷ bs) ts
  hash_back f = rw f.2 (front s (record s { here = along s.here (35 ∷ encode_utf8_all f.0) }) (Comment f.0) f.1 [] ts f.3 f.4 refl (sym (append-nil s.tokens)) f.5)

  return_back : FromReturn (moved (record s { began = s.here }) 13) bs ts → FromBase s (13 ∷ bs) ts
  return_back f =
      let after : Lexer = moved (record s { began = s.here }) 13 in
      rw f.1 (front s (moved (end_line s.here after 10) 10) ReturnLine f.0 (line_tokens s.place s.here (along s.here (13 ∷ 10 ∷ []))) ts tt (sees_none f.0) refl refl f.2)

  space_back : FromBase (moved (record s { place = past_space false s.place }) 32) bs ts → FromBase s (32 ∷ bs) ts
  space_back f = front s (moved (record s { place = past_space false s.place }) 32) Space bs [] ts tt (sees_none bs) refl (sym (append-nil s.tokens)) f

  tab_back : FromBase (moved (record s { place = past_space true s.place }) 9) bs ts → FromBase s (9 ∷ bs) ts
  tab_back f = front s (moved (record s { place = past_space true s.place }) 9) Tab bs [] ts tt (sees_none bs) refl (sym (append-nil s.tokens)) f

  feed_back : FromBase (moved (end_line s.here s 10) 10) bs ts → FromBase s (10 ∷ bs) ts
  feed_back f = front s (moved (end_line s.here s 10) 10) Line bs (line_tokens s.place s.here (next s.here 10)) ts tt (sees_none bs) refl refl f

  at_byte : (b x : ℕ) (κ : Class) → b ≡ x → (Cont (begin κ s x) (next s.here x) bs ts → FromBase s (x ∷ bs) ts) → Cont (begin κ s b) (next s.here b) bs ts → FromBase s (b ∷ bs) ts
  at_byte b x κ e f = subst (λ b. Cont (begin κ s b) (next s.here b) bs ts → FromBase s (b ∷ bs) ts) (sym e) f

  begin_back : (b : ℕ) (κ : Class) → class_of b ≡ κ → Cont (begin κ s b) (next s.here b) bs ts → FromBase s (b ∷ bs) ts
  begin_back b c.Letter e h = word_back s b bs ts (rw e refl) h
  begin_back b c.Underscore e h = word_back s b bs ts (rw e refl) h
  begin_back b c.Digit e h = number_back s b bs ts e h
  begin_back b (c.Quote quote) e h = at_byte b (quote_byte quote) (c.Quote quote) (means (c.Quote quote) b e) (quote_back s quote bs ts) h
  begin_back b c.Backslash e h = absurd h
  begin_back b c.Hash e h = at_byte b 35 c.Hash (means c.Hash b e) hash_back h
  begin_back b c.Space e h = at_byte b 32 c.Space (means c.Space b e) space_back h
  begin_back b c.Tab e h = at_byte b 9 c.Tab (means c.Tab b e) tab_back h
  begin_back b c.Feed e h = at_byte b 10 c.Feed (means c.Feed b e) feed_back h
  begin_back b c.Return e h = at_byte b 13 c.Return (means c.Return b e) return_back h
  begin_back b c.Sign e h = sign_back s b bs ts e h
  begin_back b c.Half e h = half_back s b bs ts e h
  begin_back b c.High e h = absurd h
  begin_back b c.Other e h = absurd h

-- ---- one byte further

word_done : (s : Lexer) (rest : List ℕ) (ts : List Token) → sees (bars_word s.text) rest ≡ false → FromBase (end_word s) rest ts → FromWord s rest ts
word_done s rest ts h f =
    let q : (sees (bars_word (s.text ++ [])) rest ≡ false) × FromBase (end_word (with_text s (s.text ++ []) s.here)) rest ts =
    subst (λ (t : List ℕ). (sees (bars_word t) rest ≡ false) × FromBase (end_word (with_text s t s.here)) rest ts) (sym (append-nil s.text)) (h, f) in
    ([], rest, refl, tt, q.0, q.1)

word_more : (s : Lexer) (b : ℕ) (bs : List ℕ) (ts : List Token) → in_word (class_of b) ≡ true → FromWord (moved (pushed s b) b) bs ts → FromWord s (b ∷ bs) ts
word_more s b bs ts h f =
    let q : (sees (bars_word (s.text ++ b ∷ f.0)) f.1 ≡ false) × FromBase (end_word (with_text s (s.text ++ b ∷ f.0) (along s.here (b ∷ f.0)))) f.1 ts =
    subst (λ (t : List ℕ). (sees (bars_word t) f.1 ≡ false) × FromBase (end_word (with_text s t (along s.here (b ∷ f.0)))) f.1 ts) (append_assoc s.text (b ∷ []) f.0) (f.4, f.5) in
    (b ∷ f.0, f.1, ap (λ (r : List ℕ). b ∷ r) f.2, (h, f.3), q.0, q.1)

number_done : (value : ℕ) (s : Lexer) (rest : List ℕ) (ts : List Token) → sees (λ b. in_word (class_of b)) rest ≡ false → FromBase (end_number s) rest ts → FromNumber value s rest ts
number_done value s rest ts h f =
    ([], rest, refl, tt, h, subst (λ (t : List ℕ). FromBase (end_number (with_text s t s.here)) rest ts) (sym (append-nil s.text)) f)

number_more : (value : ℕ) (s : Lexer) (b : ℕ) (bs : List ℕ) (ts : List Token) → class_of b ≡ c.Digit → continues_number value b ≡ true
    → FromNumber (number_with value b) (moved (pushed s b) b) bs ts → FromNumber value s (b ∷ bs) ts
number_more value s b bs ts h k f = (
  b ∷ f.0,
  f.1,
  ap (λ (r : List ℕ). b ∷ r) f.2,
  (h, k, f.3),
  f.4,
  subst (λ (t : List ℕ). FromBase (end_number (with_text s t (along s.here (b ∷ f.0)))) f.1 ts) (append_assoc s.text (b ∷ []) f.0) f.5,
)

character_more : (x : ℕ) (s : Lexer) (bs : List ℕ) (ts : List Token) → IsCharacter is_remark x → FromComment (record s { here = along s.here (encode_utf8 x) }) bs ts → FromComment s (encode_utf8 x ++ bs) ts
character_more x s bs ts h f =
    let all : List ℕ = x ∷ f.0 in
    let r : FromBase (record s { here = along s.here (encode_utf8_all all) }) f.1 ts =
    subst (λ (p : Position). FromBase (record s { here = p }) f.1 ts) (sym (along_append s.here (encode_utf8 x) (encode_utf8_all f.0))) f.5 in
    (all, f.1, ap (λ (t : List ℕ). encode_utf8 x ++ t) f.2 ∙ sym (append_assoc (encode_utf8 x) (encode_utf8_all f.0) f.1), (h, f.3), f.4, r)

-- with the quotes that turned out to be in the text
abbrev with_lone : Quote → ℕ → Lexer → Lexer
with_lone quote n s = with_text s (s.text ++ lone quote n) s.here

item_more : (quote : Quote) (long : Bool) (n : ℕ) (x : Item) (s : Lexer) (bs : List ℕ) (ts : List Token) → quotes_after x n ≡ 0 → IsItem long n x
    → FromItems quote long 0 (with_text s ((s.text ++ lone quote n) ++ value_item quote x) (along s.here (spell_item quote x))) bs ts → FromItems quote long n s (spell_item quote x ++ bs) ts
item_more quote long n x s bs ts l h f =
    let items : List Item = x ∷ f.0 in
    let p : Position = along (along s.here (spell_item quote x)) (spell_items quote f.0) in
    let t : ((s.text ++ lone quote n) ++ value_item quote x) ++ value_items quote f.0 ≡ s.text ++ (lone quote n ++ value_items quote items) =
    append_assoc (s.text ++ lone quote n) (value_item quote x) (value_items quote f.0) ∙ append_assoc s.text (lone quote n) (value_items quote items) in
    let q : Closes quote long (with_text s (s.text ++ (lone quote n ++ value_items quote items)) p) f.1 ts = subst (λ (t : List ℕ). Closes quote long (with_text s t p) f.1 ts) t f.4 in
    let r : Closes quote long (with_text s (s.text ++ (lone quote n ++ value_items quote items)) (along s.here (spell_items quote items))) f.1 ts =
    subst (λ (p : Position). Closes quote long (with_text s (s.text ++ (lone quote n ++ value_items quote items)) p) f.1 ts) (sym (along_append s.here (spell_item quote x) (spell_items quote f.0))) q in
    (items, f.1, ap (λ (t : List ℕ). spell_item quote x ++ t) f.2 ∙ sym (append_assoc (spell_item quote x) (spell_items quote f.0) f.1), (h, subst (λ n. AreItems long n f.0) (sym l) f.3), r)

-- a character that stands for itself, by its bytes
plain_more : (quote : Quote) (long : Bool) (n x : ℕ) (spelled : List ℕ) (s : Lexer) (bs : List ℕ) (ts : List Token) → encode_utf8 x ≡ spelled → IsCharacter is_plain x
    → FromItems quote long 0 (with_text s ((s.text ++ lone quote n) ++ spelled) (along s.here spelled)) bs ts → FromItems quote long n s (spelled ++ bs) ts
plain_more quote long n x spelled s bs ts e h =
    subst (λ (w : List ℕ). FromItems quote long 0 (with_text s ((s.text ++ lone quote n) ++ w) (along s.here w)) bs ts → FromItems quote long n s (w ++ bs) ts) e (item_more quote long n (Plain x) s bs ts refl h)

remark_more : (x : ℕ) (spelled : List ℕ) (s : Lexer) (bs : List ℕ) (ts : List Token) → encode_utf8 x ≡ spelled → IsCharacter is_remark x
    → FromComment (record s { here = along s.here spelled }) bs ts → FromComment s (spelled ++ bs) ts
remark_more x spelled s bs ts e h = subst (λ (w : List ℕ). FromComment (record s { here = along s.here w }) bs ts → FromComment s (w ++ bs) ts) e (character_more x s bs ts h)

ascii_is : (allows : Class → Bool) (κ : Class) (b : ℕ) → class_of b ≡ κ → allows κ ≡ true → b < 128 → IsCharacter allows b
ascii_is allows κ b e h low = (low_scalar b (omega arith), λ _. ap allows e ∙ h)

wide_is : (allows : Class → Bool) (x : ℕ) → IsScalar x → 128 ≤ x → IsCharacter allows x
wide_is allows x h high = (h, λ low. absurd (omega arith))

items_done : (quote : Quote) (long : Bool) (s : Lexer) (bs : List ℕ) (ts : List Token) → Closes quote long s bs ts → FromItems quote long 0 s bs ts
items_done quote long s bs ts f = ([], bs, refl, refl, subst (λ (t : List ℕ). Closes quote long (with_text s t s.here) bs ts) (sym (append-nil s.text)) f)

escape_back : (quote : Quote) (long : Bool) (n : ℕ) (s : Lexer) (bs : List ℕ) (ts : List Token) → FromEscape quote long (moved (with_lone quote n s) 92) bs ts → FromItems quote long n s (92 ∷ bs) ts
escape_back quote long n s bs ts f =
    elim f [
      | inl g ↦ rw g.2 (item_more quote long n (Escaped g.0 g.3) s g.1 ts refl g.4 g.5)
      | inr g ↦
          let x = g.2 in
          let d = x.5 in
          rw (g.1, x.2, d.2) (item_more quote long n (Hex x.0 d.0 x.3 d.3) s d.1 ts refl (x.4, d.4) d.5)
    ]

own_more : (quote : Quote) (n : ℕ) (s : Lexer) (bs : List ℕ) (ts : List Token) → n < 2 → lone quote (suc n) ≡ lone quote n ++ quote_byte quote ∷ []
    → FromItems quote true (suc n) (moved s (quote_byte quote)) bs ts → FromItems quote true n s (quote_byte quote ∷ bs) ts
own_more quote n s bs ts lt l f =
    let items : List Item = OwnQuote ∷ f.0 in
    let t : s.text ++ (lone quote (suc n) ++ value_items quote f.0) ≡ s.text ++ (lone quote n ++ value_items quote items) =
    ap (λ (t : List ℕ). s.text ++ (t ++ value_items quote f.0)) l ∙ ap (λ (t : List ℕ). s.text ++ t) (append_assoc (lone quote n) (quote_byte quote ∷ []) (value_items quote f.0)) in
    (items, f.1, ap (λ (t : List ℕ). quote_byte quote ∷ t) f.2, ((refl, lt), f.3), subst (λ (t : List ℕ). Closes quote true (with_text s t (along s.here (spell_items quote items))) f.1 ts) t f.4)

module _ (s : Lexer) (b : ℕ) (bs : List ℕ) (ts : List Token) where
  in_word_back : (κ : Class) → class_of b ≡ κ → Cont (word_step κ s b) (next s.here b) bs ts → FromWord s (b ∷ bs) ts
  in_word_back c.Letter e h = word_more s b bs ts (rw e refl) h
  in_word_back c.Underscore e h = word_more s b bs ts (rw e refl) h
  in_word_back c.Digit e h = word_more s b bs ts (rw e refl) h
  in_word_back (c.Quote quote) e h = quote_way (ends_in_letter s.text) refl h
    where
      quote_way : (l : Bool) → ends_in_letter s.text ≡ l → Cont (cond l None (begin (c.Quote quote) (end_word s) b)) (next s.here b) bs ts → FromWord s (b ∷ bs) ts
      quote_way true k h = absurd h
      quote_way false k h = word_done s (b ∷ bs) ts (rw (e, k) refl) (begin_back (end_word s) bs ts b (c.Quote quote) e h)
  in_word_back c.Backslash e h = word_done s (b ∷ bs) ts (rw e refl) (begin_back (end_word s) bs ts b c.Backslash e h)
  in_word_back c.Hash e h = word_done s (b ∷ bs) ts (rw e refl) (begin_back (end_word s) bs ts b c.Hash e h)
  in_word_back c.Space e h = word_done s (b ∷ bs) ts (rw e refl) (begin_back (end_word s) bs ts b c.Space e h)
  in_word_back c.Tab e h = word_done s (b ∷ bs) ts (rw e refl) (begin_back (end_word s) bs ts b c.Tab e h)
  in_word_back c.Feed e h = word_done s (b ∷ bs) ts (rw e refl) (begin_back (end_word s) bs ts b c.Feed e h)
  in_word_back c.Return e h = word_done s (b ∷ bs) ts (rw e refl) (begin_back (end_word s) bs ts b c.Return e h)
  in_word_back c.Sign e h = word_done s (b ∷ bs) ts (rw e refl) (begin_back (end_word s) bs ts b c.Sign e h)
  in_word_back c.Half e h = word_done s (b ∷ bs) ts (rw e refl) (begin_back (end_word s) bs ts b c.Half e h)
  in_word_back c.High e h = word_done s (b ∷ bs) ts (rw e refl) (begin_back (end_word s) bs ts b c.High e h)
  in_word_back c.Other e h = word_done s (b ∷ bs) ts (rw e refl) (begin_back (end_word s) bs ts b c.Other e h)

  in_number_back : (value : ℕ) (κ : Class) → class_of b ≡ κ → Cont (number_step value κ s b) (next s.here b) bs ts → FromNumber value s (b ∷ bs) ts
  in_number_back value c.Letter e h = absurd h
  in_number_back value c.Underscore e h = absurd h
  in_number_back value c.Digit e h = digit_way (continues_number value b) refl h
    where
      digit_way : (l : Bool) → continues_number value b ≡ l → Cont (cond l (Some (m.Number (number_with value b), pushed s b)) None) (next s.here b) bs ts → FromNumber value s (b ∷ bs) ts
      digit_way true k h = number_more value s b bs ts e k h
      digit_way false k h = absurd h
  in_number_back value (c.Quote quote) e h = number_done value s (b ∷ bs) ts (rw e refl) (begin_back (end_number s) bs ts b (c.Quote quote) e h)
  in_number_back value c.Backslash e h = number_done value s (b ∷ bs) ts (rw e refl) (begin_back (end_number s) bs ts b c.Backslash e h)
  in_number_back value c.Hash e h = number_done value s (b ∷ bs) ts (rw e refl) (begin_back (end_number s) bs ts b c.Hash e h)
  in_number_back value c.Space e h = number_done value s (b ∷ bs) ts (rw e refl) (begin_back (end_number s) bs ts b c.Space e h)
  in_number_back value c.Tab e h = number_done value s (b ∷ bs) ts (rw e refl) (begin_back (end_number s) bs ts b c.Tab e h)
  in_number_back value c.Feed e h = number_done value s (b ∷ bs) ts (rw e refl) (begin_back (end_number s) bs ts b c.Feed e h)
  in_number_back value c.Return e h = number_done value s (b ∷ bs) ts (rw e refl) (begin_back (end_number s) bs ts b c.Return e h)
  in_number_back value c.Sign e h = number_done value s (b ∷ bs) ts (rw e refl) (begin_back (end_number s) bs ts b c.Sign e h)
  in_number_back value c.Half e h = number_done value s (b ∷ bs) ts (rw e refl) (begin_back (end_number s) bs ts b c.Half e h)
  in_number_back value c.High e h = number_done value s (b ∷ bs) ts (rw e refl) (begin_back (end_number s) bs ts b c.High e h)
  in_number_back value c.Other e h = number_done value s (b ∷ bs) ts (rw e refl) (begin_back (end_number s) bs ts b c.Other e h)

  in_comment_back : (κ : Class) → class_of b ≡ κ → Cont (comment_step κ s b) (next s.here b) bs ts → FromComment s (b ∷ bs) ts
  in_comment_back c.Feed e h = ([], b ∷ bs, refl, tt, rw e refl, begin_back s bs ts b c.Feed e h)
  in_comment_back c.Return e h = ([], b ∷ bs, refl, tt, rw e refl, begin_back s bs ts b c.Return e h)
  in_comment_back c.High e h = comment_lead (lead_of b) refl h
    where
      comment_lead : (o : Option Tail) → lead_of b ≡ o → Cont (lead_step comment_at o s) (next s.here b) bs ts → FromComment s (b ∷ bs) ts
      comment_lead None k h = absurd h
      comment_lead (Some t) k h = let q = spelled b h.0 (t, k, h.3) in rw h.2 (remark_more q.0 (b ∷ h.0) s h.1 ts q.3 (wide_is is_remark q.0 q.1 q.2) h.4)
  in_comment_back κ e h = let low = remark_low κ b e refl in remark_more b (b ∷ []) s bs ts (encode_ascii b low) (ascii_is is_remark κ b e refl low) h

  other_back : (quote : Quote) (long : Bool) (n : ℕ) (κ : Class) → class_of b ≡ κ → (is_quote κ ≡ true → (b == quote_byte quote) ≡ false)
      → Cont (quoted_step quote long κ (with_lone quote n s) b) (next s.here b) bs ts → FromItems quote long n s (b ∷ bs) ts
  other_back quote long n (c.Quote found) e differs h =
      let f : Cont (cond false (quote_step quote long (with_lone quote n s) b) (Some (m.Quoted quote long, pushed (with_lone quote n s) b))) (next s.here b) bs ts =
      subst (λ t. Cont (cond t (quote_step quote long (with_lone quote n s) b) (Some (m.Quoted quote long, pushed (with_lone quote n s) b))) (next s.here b) bs ts) (differs refl) h in
      subst (λ b. FromItems quote long 0 (moved (pushed (with_lone quote n s) b) b) bs ts → FromItems quote long n s (b ∷ bs) ts) (sym (other_is quote found b (means (c.Quote found) b e) (differs refl)))
      (item_more quote long n OtherQuote s bs ts refl tt) f
  other_back quote long n c.Backslash e differs h =
      subst (λ b. FromEscape quote long (moved (with_lone quote n s) b) bs ts → FromItems quote long n s (b ∷ bs) ts) (sym (means c.Backslash b e)) (escape_back quote long n s bs ts) h
  other_back quote true n c.Feed e differs h =
      subst (λ b. FromItems quote true 0 (moved (pushed (with_lone quote n s) 10) b) bs ts → FromItems quote true n s (b ∷ bs) ts) (sym (means c.Feed b e)) (item_more quote true n LineEnd s bs ts refl refl) h
  other_back quote false n c.Feed e differs h = absurd h
  other_back quote true n c.Return e differs h =
      subst (λ b. FromQuotedReturn quote true (moved (with_lone quote n s) b) bs ts → FromItems quote true n s (b ∷ bs) ts) (sym (means c.Return b e)) (λ h. rw h.1 (item_more quote true n ReturnEnd s h.0 ts refl refl h.2)) h
  other_back quote false n c.Return e differs h = absurd h
  other_back quote long n c.High e differs h = quoted_lead (lead_of b) refl h
    where
      quoted_lead : (o : Option Tail) → lead_of b ≡ o → Cont (lead_step (quoted_at quote long) o (pushed (with_lone quote n s) b)) (next s.here b) bs ts → FromItems quote long n s (b ∷ bs) ts
      quoted_lead None k h = absurd h
      quoted_lead (Some t) k h =
          let q = spelled b h.0 (t, k, h.3) in
          rw h.2 (plain_more quote long n q.0 (b ∷ h.0) s h.1 ts q.3 (wide_is is_plain q.0 q.1 q.2)
          (subst (λ (w : List ℕ). FromItems quote long 0 (with_text s w (along s.here (b ∷ h.0))) h.1 ts) (append_assoc (s.text ++ lone quote n) (b ∷ []) h.0) h.4))
  other_back quote long n κ e differs h = let low = plain_low κ b e refl in plain_more quote long n b (b ∷ []) s bs ts (encode_ascii b low) (ascii_is is_plain κ b e refl low) h

  at_none : (quote : Quote) (long : Bool) (κ : Class) → Cont (quoted_step quote long κ s b) (next s.here b) bs ts → Cont (quoted_step quote long κ (with_lone quote 0 s) b) (next s.here b) bs ts
  at_none quote long κ h = subst (λ (t : List ℕ). Cont (quoted_step quote long κ (with_text s t s.here) b) (next s.here b) bs ts) (sym (append-nil s.text)) h

  own_back : (quote : Quote) (long : Bool) → Cont (quote_step quote long s (quote_byte quote)) (next s.here (quote_byte quote)) bs ts → FromItems quote long 0 s (quote_byte quote ∷ bs) ts
  own_back quote false h = items_done quote false s (quote_byte quote ∷ bs) ts (bs, refl, h)
  own_back quote true h =
      elim h [
        | inl f ↦ own_more quote 0 s bs ts (omega arith) refl f
        | inr g ↦ items_done quote true s (quote_byte quote ∷ bs) ts (g.0, ap (λ (r : List ℕ). quote_byte quote ∷ r) g.1, g.2)
      ]

  in_quoted_back : (quote : Quote) (long : Bool) (κ : Class) → class_of b ≡ κ → Cont (quoted_step quote long κ s b) (next s.here b) bs ts → FromItems quote long 0 s (b ∷ bs) ts
  in_quoted_back quote long (c.Quote found) e h = own_way (b == quote_byte quote) refl h
    where
      own_way : (t : Bool) → (b == quote_byte quote) ≡ t → Cont (cond t (quote_step quote long s b) (Some (m.Quoted quote long, pushed s b))) (next s.here b) bs ts → FromItems quote long 0 s (b ∷ bs) ts
      own_way true k h = subst (λ b. Cont (quote_step quote long s b) (next s.here b) bs ts → FromItems quote long 0 s (b ∷ bs) ts) (sym (eqb-true b (quote_byte quote) k)) (own_back quote long) h
      own_way false k h = other_back quote long 0 (c.Quote found) e (λ _. k) (at_none quote long (c.Quote found) (rw k h))
  in_quoted_back quote long κ e h = other_back quote long 0 κ e (λ n. absurd cc) (at_none quote long κ h)

  in_opened_back : (quote : Quote) (t : Bool) → (b == quote_byte quote) ≡ t → Cont (cond t (Some (m.Twice quote, s)) (quoted_step quote false (class_of b) s b)) (next s.here b) bs ts → FromOpened quote s (b ∷ bs) ts
  in_opened_back quote true k h = subst (λ b. FromTwice quote (moved s b) bs ts → FromOpened quote s (b ∷ bs) ts) (sym (eqb-true b (quote_byte quote) k)) twice h
    where
      twice : FromTwice quote (moved s (quote_byte quote)) bs ts → FromOpened quote s (quote_byte quote ∷ bs) ts
      twice h =
          elim h [
            | inl f ↦ inl ([], bs, refl, refl, f.0, subst (λ (t : List ℕ). FromBase (text_done (with_text s t s.here) (quote_byte quote ∷ [])) bs ts) (sym (append-nil s.text)) f.1)
            | inr f ↦ inr (bs, refl, f)
          ]
  in_opened_back quote false k h = inl (some_items (in_quoted_back quote false (class_of b) refl h))
    where
      some_items : FromItems quote false 0 s (b ∷ bs) ts → FromShort quote s (b ∷ bs) ts
      some_items f = some f.0 f.1 f.2 f.3 f.4
        where
          some : (items : List Item) (rest : List ℕ) → b ∷ bs ≡ spell_items quote items ++ rest → AreItems false 0 items
              → Closes quote false (with_text s (s.text ++ value_items quote items) (along s.here (spell_items quote items))) rest ts → FromShort quote s (b ∷ bs) ts
          some [] rest e good z =
              let first : b ∷ bs ≡ quote_byte quote ∷ z.0 = e ∙ z.1 in
              let same : b ≡ quote_byte quote = cc in
              absurd (let no : false ≡ true = sym k ∙ eq-eqb b (quote_byte quote) same in cc)
          some (x ∷ xs) rest e good z = (x ∷ xs, z.0, e ∙ ap (λ (r : List ℕ). spell_items quote (x ∷ xs) ++ r) z.1, good, sees_none z.0, z.2)

  in_twice_back : (quote : Quote) (t : Bool) → (b == quote_byte quote) ≡ t → Cont (cond t (Some (m.Quoted quote true, s)) (begin (class_of b) (ended k.Text s.text s.here s) b)) (next s.here b) bs ts → FromTwice quote s (b ∷ bs) ts
  in_twice_back quote true same h = subst (λ b. FromItems quote true 0 (moved s b) bs ts → FromTwice quote s (b ∷ bs) ts) (sym (eqb-true b (quote_byte quote) same)) (λ h. inr (bs, refl, h)) h
  in_twice_back quote false same h = inl (same, begin_back (ended k.Text s.text s.here s) bs ts b (class_of b) refl h)

  in_seen_one_back : (quote : Quote) (t : Bool) → (b == quote_byte quote) ≡ t → Cont (cond t (Some (m.SeenTwo quote, s)) (quoted_step quote true (class_of b) (written s (quote_byte quote ∷ [])) b)) (next s.here b) bs ts → FromSeenOne quote s (b ∷ bs) ts
  in_seen_one_back quote true k h = subst (λ b. FromSeenTwo quote (moved s b) bs ts → FromSeenOne quote s (b ∷ bs) ts) (sym (eqb-true b (quote_byte quote) k)) seen h
    where
      seen : FromSeenTwo quote (moved s (quote_byte quote)) bs ts → FromSeenOne quote s (quote_byte quote ∷ bs) ts
      seen h =
          elim h [
            | inl f ↦ inl (own_more quote 1 s bs ts (omega arith) refl f)
            | inr g ↦ inr (g.0, ap (λ (r : List ℕ). quote_byte quote ∷ r) g.1, g.2)
          ]
  in_seen_one_back quote false k h = inl (other_back quote true 1 (class_of b) refl (λ _. k) h)

  in_seen_two_back : (quote : Quote) (t : Bool) → (b == quote_byte quote) ≡ t
      → Cont (cond t (Some (m.Between, ended k.Text s.text (next s.here b) s)) (quoted_step quote true (class_of b) (written s (quote_byte quote ∷ quote_byte quote ∷ [])) b)) (next s.here b) bs ts → FromSeenTwo quote s (b ∷ bs) ts
  in_seen_two_back quote true same h =
      subst (λ b. FromBase (moved (ended k.Text s.text (next s.here b) s) b) bs ts → FromSeenTwo quote s (b ∷ bs) ts) (sym (eqb-true b (quote_byte quote) same)) (λ h. inr (bs, refl, h)) h
  in_seen_two_back quote false same h = inl (other_back quote true 2 (class_of b) refl (λ _. same) h)

  in_quoted_return_back : (quote : Quote) (long : Bool) (κ : Class) → class_of b ≡ κ → Cont (quoted_return_step quote long κ s) (next s.here b) bs ts → FromQuotedReturn quote long s (b ∷ bs) ts
  in_quoted_return_back quote long c.Feed e h = subst (λ b. FromItems quote long 0 (moved (pushed s 10) b) bs ts → FromQuotedReturn quote long s (b ∷ bs) ts) (sym (means c.Feed b e)) (λ h. (bs, refl, h)) h
  in_quoted_return_back quote long _ e h = absurd h

  in_escape_back : (quote : Quote) (long : Bool) (o : Option ℕ) → escape_of b ≡ o → Cont (escape_step quote long o s b) (next s.here b) bs ts → FromEscape quote long s (b ∷ bs) ts
  in_escape_back quote long (Some x) e h = inl (b, bs, refl, x, e, h)
  in_escape_back quote long None e h = hex_way (b == 120) refl h
    where
      hex_way : (l : Bool) → (b == 120) ≡ l → Cont (cond l (Some (m.Hex quote long, s)) None) (next s.here b) bs ts → FromEscape quote long s (b ∷ bs) ts
      hex_way true k h = subst (λ b. FromHex quote long (moved s b) bs ts → FromEscape quote long s (b ∷ bs) ts) (sym (eqb-true b 120 k)) (λ h. inr (bs, refl, h)) h
      hex_way false k h = absurd h

  in_hex_back : (quote : Quote) (long : Bool) (o : Option ℕ) → hex_of b ≡ o → Cont (hex_step quote long o s) (next s.here b) bs ts → FromHex quote long s (b ∷ bs) ts
  in_hex_back quote long (Some x) e h = (b, bs, refl, x, e, h)
  in_hex_back quote long None e h = absurd h

  in_digit_back : (quote : Quote) (long : Bool) (high : ℕ) (o : Option ℕ) → hex_of b ≡ o → Cont (digit_step quote long high o s) (next s.here b) bs ts → FromDigit quote long high s (b ∷ bs) ts
  in_digit_back quote long high (Some x) e h = (b, bs, refl, x, e, h)
  in_digit_back quote long high None e h = absurd h

  in_sign_back : (a : ℕ) (l : Bool) → is_double a b ≡ l → Cont (cond l (Some (m.Between, end_sign (a ∷ b ∷ []) (next s.here b) s)) (begin (class_of b) (end_sign (a ∷ []) s.here s) b)) (next s.here b) bs ts → FromSign a s (b ∷ bs) ts
  in_sign_back a true k h = inr (b, bs, refl, k, h)
  in_sign_back a false k h = inl (k, begin_back (end_sign (a ∷ []) s.here s) bs ts b (class_of b) refl h)

  in_half_back : (a : ℕ) (l : Bool) → (b == other_half a) ≡ l → Cont (cond l (Some (m.Between, end_sign (a ∷ b ∷ []) (next s.here b) s)) None) (next s.here b) bs ts → FromHalf a s (b ∷ bs) ts
  in_half_back a true k h = (b, bs, refl, k, h)
  in_half_back a false k h = absurd h

  in_return_back : (κ : Class) → class_of b ≡ κ → Cont (return_step κ s b) (next s.here b) bs ts → FromReturn s (b ∷ bs) ts
  in_return_back c.Feed e h = subst (λ b. FromBase (moved (end_line s.began s b) b) bs ts → FromReturn s (b ∷ bs) ts) (sym (means c.Feed b e)) (λ h. (bs, refl, h)) h
  in_return_back _ e h = absurd h

  in_quoted_tail_back : (quote : Quote) (long : Bool) (t : Tail) (l : Bool) → follows t b ≡ l → Cont (cond l (Some (quoted_at quote long (rest_of t), pushed s b)) None) (next s.here b) bs ts → FromQuotedTail quote long (Some t) s (b ∷ bs) ts
  in_quoted_tail_back quote long t false k h = absurd h
  in_quoted_tail_back quote long t true k h = tail_at (rest_of t) refl h
    where
      tail_at : (o : Option Tail) → rest_of t ≡ o → From (quoted_at quote long o) (moved (pushed s b) b) bs ts → FromQuotedTail quote long (Some t) s (b ∷ bs) ts
      tail_at None e f = (b ∷ [], bs, refl, (k, rw e tt), f)
      tail_at (Some u) e f = (b ∷ f.0, f.1, ap (λ (r : List ℕ). b ∷ r) f.2, (k, rw e f.3), subst (λ (w : List ℕ). FromItems quote long 0 (with_text s w (along s.here (b ∷ f.0))) f.1 ts) (append_assoc s.text (b ∷ []) f.0) f.4)

  in_comment_tail_back : (t : Tail) (l : Bool) → follows t b ≡ l → Cont (cond l (Some (comment_at (rest_of t), s)) None) (next s.here b) bs ts → FromCommentTail (Some t) s (b ∷ bs) ts
  in_comment_tail_back t false k h = absurd h
  in_comment_tail_back t true k h = tail_at (rest_of t) refl h
    where
      tail_at : (o : Option Tail) → rest_of t ≡ o → From (comment_at o) (moved s b) bs ts → FromCommentTail (Some t) s (b ∷ bs) ts
      tail_at None e f = (b ∷ [], bs, refl, (k, rw e tt), f)
      tail_at (Some u) e f = (b ∷ f.0, f.1, ap (λ (r : List ℕ). b ∷ r) f.2, (k, rw e f.3), f.4)

  in_first_back : (t : Bool) → (b == 239) ≡ t → Cont (cond t (Some (m.MarkTwo, s)) (begin (class_of b) s b)) (next s.here b) bs ts → FromFirst s (b ∷ bs) ts
  in_first_back true e h = inr (b, bs, refl, e, h)
  in_first_back false e h = inl (begin_back s bs ts b (class_of b) refl h)

  in_mark_two_back : (t : Bool) → (b == 187) ≡ t → Cont (cond t (Some (m.MarkThree, s)) None) (next s.here b) bs ts → FromMarkTwo s (b ∷ bs) ts
  in_mark_two_back true e h = (b, bs, refl, e, h)
  in_mark_two_back false e h = absurd h

  in_mark_three_back : (t : Bool) → (b == 191) ≡ t → Cont (cond t (Some (m.Between, at_start s (next s.here b))) None) (next s.here b) bs ts → FromMarkThree s (b ∷ bs) ts
  in_mark_three_back true e h = (b, bs, refl, e, h)
  in_mark_three_back false e h = absurd h

  step_back : (mode : Mode) → Cont (step_in mode s b) (next s.here b) bs ts → From mode s (b ∷ bs) ts
  step_back m.First h = in_first_back (b == 239) refl h
  step_back m.MarkTwo h = in_mark_two_back (b == 187) refl h
  step_back m.MarkThree h = in_mark_three_back (b == 191) refl h
  step_back m.Between h = begin_back s bs ts b (class_of b) refl h
  step_back m.Word h = in_word_back (class_of b) refl h
  step_back (m.Number value) h = in_number_back value (class_of b) refl h
  step_back (m.Sign a) h = in_sign_back a (is_double a b) refl h
  step_back (m.Half a) h = in_half_back a (b == other_half a) refl h
  step_back (m.Opened quote) h = in_opened_back quote (b == quote_byte quote) refl h
  step_back (m.Twice quote) h = in_twice_back quote (b == quote_byte quote) refl h
  step_back (m.Quoted quote long) h = in_quoted_back quote long (class_of b) refl h
  step_back (m.SeenOne quote) h = in_seen_one_back quote (b == quote_byte quote) refl h
  step_back (m.SeenTwo quote) h = in_seen_two_back quote (b == quote_byte quote) refl h
  step_back (m.QuotedReturn quote long) h = in_quoted_return_back quote long (class_of b) refl h
  step_back (m.Escape quote long) h = in_escape_back quote long (escape_of b) refl h
  step_back (m.Hex quote long) h = in_hex_back quote long (hex_of b) refl h
  step_back (m.HexDigit quote long high) h = in_digit_back quote long high (hex_of b) refl h
  step_back m.Comment h = in_comment_back (class_of b) refl h
  step_back m.Return h = in_return_back (class_of b) refl h
  step_back (m.QuotedTail quote long t) h = in_quoted_tail_back quote long t (follows t b) refl h
  step_back (m.CommentTail t) h = in_comment_tail_back t (follows t b) refl h

-- ---- the end

end_base : (s : Lexer) (o : Option (List Token)) (ts : List Token) → ending (spot s) ≡ o → (let r : Answer = answer s.here.last (finished s o) in r) ≡ Ok ts → FromBase s [] ts
end_base s None ts e h = absurd cc
end_base s (Some later) ts e h = let q : s.tokens ++ later ≡ ts = cc in ([], later, (refl, e), sym q)

end_back : (mode : Mode) (s : Lexer) (ts : List Token) → lexed mode s [] ≡ Ok ts → From mode s [] ts
end_back m.First s ts h = inl (end_base s (ending (spot s)) ts refl h)
end_back m.MarkTwo s ts h = absurd cc
end_back m.MarkThree s ts h = absurd cc
end_back m.Between s ts h = end_base s (ending (spot s)) ts refl h
end_back m.Word s ts h = word_done s [] ts refl (end_base (end_word s) (ending (spot (end_word s))) ts refl h)
end_back (m.Number value) s ts h = number_done value s [] ts refl (end_base (end_number s) (ending (spot (end_number s))) ts refl h)
end_back (m.Sign a) s ts h = inl (refl, end_base (end_sign (a ∷ []) s.here s) (ending (spot (end_sign (a ∷ []) s.here s))) ts refl h)
end_back m.Comment s ts h = ([], [], refl, tt, refl, end_base s (ending (spot s)) ts refl h)
end_back (m.Half a) s ts h = absurd cc
end_back (m.Twice a) s ts h = inl (refl, end_base (ended k.Text s.text s.here s) (ending (spot (ended k.Text s.text s.here s))) ts refl h)
end_back (m.Opened a) s ts h = absurd cc
end_back (m.Quoted quote long) s ts h = absurd cc
end_back (m.SeenOne a) s ts h = absurd cc
end_back (m.SeenTwo a) s ts h = absurd cc
end_back (m.QuotedReturn quote long) s ts h = absurd cc
end_back (m.Escape quote long) s ts h = absurd cc
end_back (m.Hex quote long) s ts h = absurd cc
end_back (m.HexDigit quote long a) s ts h = absurd cc
end_back m.Return s ts h = absurd cc
end_back (m.QuotedTail quote long t) s ts h = absurd cc
end_back (m.CommentTail t) s ts h = absurd cc

cont : (s : Lexer) (o : Step) (b : ℕ) (bs : List ℕ) (ts : List Token) → ((mode : Mode) (s : Lexer) → lexed mode s bs ≡ Ok ts → From mode s bs ts) → go s b bs o ≡ Ok ts → Cont o (next s.here b) bs ts
cont s None b bs ts ih h = absurd cc
cont s (Some x) b bs ts ih h = ih x.0 (put x.1 (next s.here b)) h

-- what is read so is spelled so
pub from_read : (bs : List ℕ) (ts : List Token) (mode : Mode) (s : Lexer) → lexed mode s bs ≡ Ok ts → From mode s bs ts
from_read [] ts mode s h = end_back mode s ts h
from_read (b ∷ bs) ts mode s h = step_back s b bs ts mode (cont s (step_in mode s b) b bs ts (from_read bs ts) h)

pub tokens_found : (source : List ℕ) (ts : List Token) → lexed m.First first_lexer source ≡ Ok ts → HasTokens source ts
tokens_found source ts h =
    elim (from_read source ts m.First first_lexer h) [
      | inl f ↦ ([], source, f.0, inl refl, refl, subst (λ (later : List Token). Reads (spot_behind []) f.0 source later) (sym f.3) f.2)
      | inr g ↦
          let h = g.4 in
          let i = h.4 in
          let f = i.4 in
          let mark : List ℕ = g.0 ∷ h.0 ∷ i.0 ∷ [] in
          let same : mark ≡ byte_order_mark =
          ap (λ x. (let w : List ℕ = x ∷ h.0 ∷ i.0 ∷ [] in w)) (eqb-true g.0 239 g.3)
          ∙ ap (λ x. (let w : List ℕ = 239 ∷ x ∷ i.0 ∷ [] in w)) (eqb-true h.0 187 h.3)
          ∙ ap (λ x. (let w : List ℕ = 239 ∷ 187 ∷ x ∷ [] in w)) (eqb-true i.0 191 i.3) in
          let parts : source ≡ mark ++ i.1 = g.2 ∙ ap (λ (r : List ℕ). g.0 ∷ r) h.2 ∙ ap (λ (r : List ℕ). g.0 ∷ h.0 ∷ r) i.2 in
          (mark, i.1, f.0, inr same, parts, subst (λ (later : List Token). Reads (spot_behind mark) f.0 i.1 later) (sym f.3) f.2)
    ]
