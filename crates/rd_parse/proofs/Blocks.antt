-- Blocks, as the functions of the parser read them.
use Rattle.std.proofs.Common.{◌≡◌, ℕ, zero, suc, ◌-◌, ◌<◌, true, false, List, [], ◌∷◌, ◌++◌, Option, Some, None, Ok, sym, ap, ◌∙◌, append_assoc, arith}
use Rattle.std.proofs.lemmas.List.{append-nil}
use Rattle.rd_syntax.specs.declared.token.Token.{Token}
use Rattle.rd_parse.specs.declared.halt.Halt.{Halt}
use Rattle.rd_parse.specs.declared.terminal.Terminal.TheVariants as w
use Rattle.rd_parse.specs.Reader.{Reader, Outcome, sees, hits, read_made, read_many, onto}
use Rattle.rd_parse.specs.Terminal.{among, is}
use Rattle.rd_parse.specs.Gives.{Fails}
use Rattle.rd_parse.specs.Expressions.{Tree}
use Rattle.rd_parse.specs.Statements.{Command, kept, begins_statement}
use Rattle.rd_parse.specs.StatementReading.{read_behind_colon, read_commands, read_command, read_more_commands, read_another_branch, read_more_branches}
use Rattle.rd_parse.proofs.Loops.{made_goes_on, made_done, plain_goes_on, plain_done}
use Rattle.rd_parse.proofs.Halts.{made_fails, plain_fails}
use Rattle.rd_parse.proofs.Statements.{another_branch_short, command_short}

one_less : (n : ℕ) → n ≡ suc n - 1
one_less n = omega arith

pub commands_below : (n : ℕ) (ts : List Token) → 0 < n → read_behind_colon n ts ≡ read_commands (n - 1) (read_behind_colon (n - 1)) ts
unfolding read_behind_colon
commands_below zero ts h = absurd (omega arith)
commands_below (suc n) ts h = ap (λ k. read_commands k (read_behind_colon k) ts) (one_less n)

-- one statement more
pub kept_one : (s : Option Command) (all : List Command) (more : List (Option Command)) → all ++ kept (s ∷ more) ≡ (all ++ kept (s ∷ [])) ++ kept more
kept_one None all more = simp append_assoc
kept_one (Some s) all more = simp append_assoc

-- ---- the branches, as a loop reads them

module _ (n : ℕ) where
  abbrev another : Reader Token (Tree × List Command)
  another = read_another_branch n (read_behind_colon n)

  -- the branches that were read with those that are still read
  abbrev pub branches_onto : List (Tree × List Command) → Reader Token (List (Tree × List Command))
  branches_onto all = onto all (read_many (hits (is w.Elif)) another)

  pub branches_begin : (items : List (Tree × List Command)) (first : Tree × List Command) (ts : List Token) → items ≡ first ∷ [] → branches_onto items ts ≡ read_more_branches n (read_behind_colon n) first ts
  unfolding read_more_branches
  branches_begin items first ts e = ap (λ (items : List (Tree × List Command)). branches_onto items ts) e

  pub branches_go_on : (items all : List (Tree × List Command)) (b : Tree × List Command) (ts mid : List Token) → all ≡ items ++ b ∷ [] → sees (hits (is w.Elif)) ts ≡ true → another ts ≡ Ok (b, mid) → branches_onto items ts ≡ branches_onto all mid
  branches_go_on items all b ts mid e y d =
      plain_goes_on (hits (is w.Elif)) another (another_branch_short n) items ts mid b y d ∙ ap (λ (items : List (Tree × List Command)). branches_onto items mid) (sym e)

  pub branches_fail : (items : List (Tree × List Command)) (ts : List Token) (h : Halt) (total : Outcome Token (List (Tree × List Command))) → sees (hits (is w.Elif)) ts ≡ true → Fails h (another ts) → branches_onto items ts ≡ total → Fails h total
  branches_fail = plain_fails (hits (is w.Elif)) another (another_branch_short n)

  pub branches_done : (items : List (Tree × List Command)) (ts : List Token) → sees (hits (is w.Elif)) ts ≡ false → branches_onto items ts ≡ Ok (items, ts)
  branches_done = plain_done (hits (is w.Elif)) another (another_branch_short n)

-- ---- the statements of a block, as a loop reads them

module _ (n : ℕ) where
  abbrev command : Reader Token (Option Command)
  command = read_command n (read_behind_colon n)

  -- the statements that were read with those that are still read
  abbrev pub commands_onto : List Command → Reader Token (List Command)
  commands_onto all = read_made (λ more. all ++ kept more) (read_many (among begins_statement) command)

  pub commands_begin : (items : List Command) (first : Option Command) (ts : List Token) → items ≡ kept (first ∷ []) → commands_onto items ts ≡ read_more_commands n (read_behind_colon n) first ts
  unfolding read_more_commands
  commands_begin items first ts e =
      let same : (λ more. items ++ kept more) ≡ (λ more. kept (first ∷ more)) = λ i more. (ap (λ (all : List Command). all ++ kept more) e ∙ sym (kept_one first [] more)) i in
      ap (λ (made : List (Option Command) → List Command). read_made made (read_many (among begins_statement) command) ts) same

  pub commands_go_on : (items all : List Command) (s : Option Command) (ts mid : List Token) → all ≡ items ++ kept (s ∷ []) → sees (among begins_statement) ts ≡ true → command ts ≡ Ok (s, mid) → commands_onto items ts ≡ commands_onto all mid
  commands_go_on items all s ts mid e y d =
      made_goes_on (among begins_statement) command (command_short n) (λ more. items ++ kept more) (λ more. all ++ kept more) s (λ more. kept_one s items more ∙ ap (λ (all : List Command). all ++ kept more) (sym e)) ts mid y d

  pub commands_fail : (items : List Command) (ts : List Token) (h : Halt) (total : Outcome Token (List Command)) → sees (among begins_statement) ts ≡ true → Fails h (command ts) → commands_onto items ts ≡ total → Fails h total
  commands_fail items = made_fails (among begins_statement) command (command_short n) (λ more. items ++ kept more)

  pub commands_done : (items : List Command) (ts : List Token) → sees (among begins_statement) ts ≡ false → commands_onto items ts ≡ Ok (items, ts)
  commands_done items ts y = made_done (among begins_statement) command (command_short n) (λ more. items ++ kept more) ts y ∙ ap (λ (all : List Command). Ok (all, ts)) (append-nil items)
