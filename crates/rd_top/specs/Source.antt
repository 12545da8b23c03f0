-- Whole sources.
use Rattle.std.specs.Prelude.{◌≡◌, ◌⊎◌, ℕ, List, Option, None, Some, Result, Ok, Err}
use Rattle.rd_syntax.specs.declared.source.SourceError.{SourceError}
use Rattle.rd_syntax.specs.declared.source.SourceError.TheVariants as err
use Rattle.rd_syntax.specs.declared.token.Token.{Token}
use Rattle.rd_syntax.specs.Sources.{Lexes, Refuses}
use Rattle.rd_tree.specs.declared.tree.Module.{Module}
use Rattle.rd_parse.specs.Modules.{IsModule}
use Rattle.rd_parse.specs.Refusals.{RefusedAt}
use Rattle.rd_names.specs.declared.refusal.Refusal.{Refusal}
use Rattle.rd_names.specs.Refusals.{IsFirst}
use Rattle.rd_names.specs.Names.{KeepsNames, refusals}
use Rattle.rd_top.specs.declared.source.Workflow.{Workflow}

-- The bytes are a source of the module: they have tokens, and these spell it.
pub record IsSource (source : List ℕ) (m : Module) : Type 0 where
  pub tokens : List Token
  pub has_tokens : Lexes source tokens
  pub spells : IsModule tokens m

-- The bytes are a source of the module, and its names keep the rules.
pub record IsWorkflow (source : List ℕ) (m : Module) : Type 0 where
  pub reads : IsSource source m
  pub names : KeepsNames m

-- the tokens of the source spell no module, and this is the line
abbrev pub Misspells : List ℕ → ℕ → Type 0
Misspells source line = (tokens : List Token) × Lexes source tokens × RefusedAt tokens line

-- the names of the source's module break a rule first at this line
abbrev pub Misnames : List ℕ → ℕ → Type 0
Misnames source line = (m : Module) × IsSource source m × ((r : Refusal) × IsFirst r (refusals m) × (line ≡ r.line))

-- No workflow has this source, and this is the line: of its tokens, where it has none, else of its grammar, else of its names.
pub record IsRefused (source : List ℕ) (line : ℕ) : Type 0 where
  pub none : (m : Module) → IsWorkflow source m → ⊥
  pub at_line : Refuses source line ⊎ (Misspells source line ⊎ Misnames source line)

-- the answer for names that break a rule, which tell no refusal where memory ran out
abbrev pub refusal_of : Option Refusal → SourceError
refusal_of None = err.OutOfMemory
refusal_of (Some r) = err.Refused r.line

-- the module of what was read
abbrev pub tree_read : Result Workflow SourceError → Result Module SourceError
tree_read (Ok w) = Ok w.tree
tree_read (Err e) = Err e
