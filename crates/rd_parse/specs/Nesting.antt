-- Where a text opens one level too many.
use Rattle.std.specs.Prelude.{◌≡◌, ℕ, suc, true, List, [], ◌∷◌, ◌++◌}
use Rattle.rd_syntax.specs.declared.token.Token.{Token}
use Rattle.rd_parse.specs.Form.{Form, IsText}
use Rattle.rd_parse.specs.Noting.{every}
use Rattle.rd_parse.specs.Terminal.{plain}

-- some text in which no more than so many levels are open begins so
abbrev pub ViableWithin : {A : Type 0} → (ℕ → Form Token A) → ℕ → List Token → Type 0
ViableWithin {A} P n ts = (more : List Token) × (a : A) × IsText P n a (ts ++ more)

-- The first of the tokens left makes it one level more than so many.
pub record TooDeep {A : Type 0} (P : ℕ → Form Token A) (n : ℕ) (ts after : List Token) : Type 0 where
  pub before : List Token
  pub token : Token
  pub behind : List Token
  pub parts : ts ≡ before ++ token ∷ behind
  pub left : after ≡ token ∷ behind
  -- with this token no text within the levels begins so
  pub closed : ViableWithin P n (before ++ token ∷ []) → ⊥
  -- with one level more some text does
  pub viable : ViableWithin P (suc n) (before ++ token ∷ [])
  -- The tokens before it begin a text within the levels, or a first part of them does, and behind that part no bracket opens.
  pub start : List Token
  pub pending : List Token
  pub split : before ≡ start ++ pending
  pub fits : ViableWithin P n start
  pub flat : every plain pending ≡ true
