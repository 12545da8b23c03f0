-- Readers of many of which nothing is kept, as a loop reads them.
use Rattle.std.proofs.Common.{◌≡◌, Bool, true, false, List, [], Ok, Err, sym, ap, ◌∙◌}
use Rattle.rd_syntax.specs.declared.token.Token.{Token}
use Rattle.rd_parse.specs.Reader.{Stop, Reader, sees, hits, and_then, pure, read_one, read_made, read_many, read_more}
use Rattle.rd_parse.specs.declared.terminal.Terminal.TheVariants as w
use Rattle.rd_parse.specs.Terminal.{is}
use Rattle.rd_parse.specs.Noting.{read_past}
use Rattle.rd_parse.proofs.Flat.{assoc}
use Rattle.rd_parse.proofs.Loops.{Shrinks, plain_goes_on, plain_stops, plain_done, signed_goes_on, taken_short}

module _ {A : Type 0} (s : Token → Bool) (g : Reader Token A) (short : Shrinks g) where
  abbrev drop_all : List A → Reader Token (Unit {0})
  drop_all all = pure tt

  pub past_goes_on : (ts mid : List Token) (a : A) → sees s ts ≡ true → g ts ≡ Ok (a, mid) → read_past s g ts ≡ read_past s g mid
  past_goes_on ts mid a y e = sym (assoc (read_many s g ts) (λ more. pure more) drop_all) ∙ ap (λ r. and_then r drop_all) (plain_goes_on s g short [] ts mid a y e) ∙ assoc (read_many s g mid) (λ more. pure _) drop_all

  past_stops : (ts : List Token) (h : Stop Token) → sees s ts ≡ true → g ts ≡ Err h → read_past s g ts ≡ Err h
  past_stops ts h y e = sym (assoc (read_many s g ts) (λ more. pure more) drop_all) ∙ ap (λ r. and_then r drop_all) (plain_stops s g short [] ts h y e)

  pub past_done : (ts : List Token) → sees s ts ≡ false → read_past s g ts ≡ Ok (tt, ts)
  past_done ts n = sym (assoc (read_many s g ts) (λ more. pure more) drop_all) ∙ ap (λ r. and_then r drop_all) (plain_done s g short [] ts n)

-- ---- names behind commas

abbrev pub names_past : Reader Token (Unit {0})
names_past = read_made (λ more. tt) (read_more (is w.Comma) (hits (is w.Name)) (read_one (is w.Name)))

name_short : (s : Unit {0}) → Shrinks (read_one (is w.Name))
name_short s = taken_short (is w.Name)

abbrev forget : List (Unit {0}) → Reader Token (Unit {0})
forget all = pure tt

pub names_go_on : (ts behind mid : List Token) → read_one (is w.Comma) ts ≡ Ok (tt, behind) → sees (hits (is w.Name)) behind ≡ true → read_one (is w.Name) behind ≡ Ok (tt, mid) → names_past ts ≡ names_past mid
names_go_on ts behind mid e y d =
    sym (assoc (read_more (is w.Comma) (hits (is w.Name)) (read_one (is w.Name)) ts) (λ more. pure more) forget)
    ∙ ap (λ r. and_then r forget) (signed_goes_on (is w.Comma) (λ (s : Unit {0}). hits (is w.Name)) (λ (s : Unit {0}). read_one (is w.Name)) (λ (s : Unit {0}) (a : Unit {0}). s) name_short [] tt ts behind tt e mid tt y d)
    ∙ assoc (read_more (is w.Comma) (hits (is w.Name)) (read_one (is w.Name)) mid) (λ more. pure _) forget
