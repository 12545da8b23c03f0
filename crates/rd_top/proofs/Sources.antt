-- Whole sources.
use Rattle.std.proofs.Common.{◌≡◌, ℕ, List, Option, None, Some, Err, IfSome, inl, inr, refl, subst}
use Rattle.rd_syntax.specs.declared.token.Token.{Token}
use Rattle.rd_syntax.specs.declared.source.SourceError.{SourceError}
use Rattle.rd_syntax.specs.declared.source.SourceError.TheVariants as err
use Rattle.rd_syntax.specs.Sources.{IsOrMemory, IfRefused, Lexes, Refuses}
use Rattle.rd_syntax.proofs.Stops.{one_answer}
use Rattle.rd_tree.specs.declared.tree.Module.{Module}
use Rattle.rd_parse.specs.Modules.{IsModule}
use Rattle.rd_parse.specs.Refusals.{RefusedAt}
use Rattle.rd_parse.proofs.WholeTexts as texts
use Rattle.rd_names.specs.declared.refusal.Refusal.{Refusal}
use Rattle.rd_names.specs.Refusals.{IsFirst}
use Rattle.rd_names.specs.Names.{KeepsNames, refusals}
use Rattle.rd_top.specs.Source.{IsSource, IsWorkflow, IsRefused, refusal_of}

-- an error that only memory explains explains any value
pub still_memory : {X Y : Type 0} (e : SourceError) (x : X) (y : Y) → IsOrMemory (Err e) x → IsOrMemory (Err e) y
still_memory err.OutOfMemory x y h = tt
still_memory (err.Refused line) x y h = absurd h

-- a source has at most one module
pub one_source : (source : List ℕ) (m n : Module) → IsSource source m → IsSource source n → m ≡ n
one_source source m n p q =
    let P : List Token → Type 0 = λ ts. IsModule ts n in
    texts.one_module p.tokens m n p.spells (subst P (one_answer source q.tokens p.tokens q.has_tokens.has p.has_tokens.has) q.spells)

-- a source is that of at most one workflow
pub one_module : (source : List ℕ) (m n : Module) → IsWorkflow source m → IsWorkflow source n → m ≡ n
one_module source m n p q = one_source source m n p.reads q.reads

-- ---- refusals

-- the tokens of a source are those that it has
same_tokens : (source : List ℕ) (ts us : List Token) → Lexes source ts → Lexes source us → ts ≡ us
same_tokens source ts us h k = one_answer source ts us h.has k.has

-- a source without tokens
pub no_tokens : (source : List ℕ) (e : SourceError) → ((ts : List Token) → Lexes source ts → IsOrMemory (Err e) ts) → IfRefused {X = List Token} (Err e) (λ line. Refuses source line)
    → IfRefused {X = Module} (Err e) (λ line. IsRefused source line)
no_tokens source err.OutOfMemory only h = tt
no_tokens source (err.Refused line) only h = record { none = λ m w. only w.reads.tokens w.reads.has_tokens; at_line = inl h }

pub no_workflow : (source : List ℕ) (e : SourceError) (y : Module) → ((ts : List Token) → Lexes source ts → IsOrMemory (Err e) ts) → IsWorkflow source y → IsOrMemory (Err e) y
no_workflow source e y only w = still_memory e w.reads.tokens y (only w.reads.tokens w.reads.has_tokens)

module _ (source : List ℕ) (ts : List Token) (has : Lexes source ts) where
  spelled : (m : Module) → IsWorkflow source m → IsModule ts m
  spelled m w = subst (λ (us : List Token). IsModule us m) (same_tokens source w.reads.tokens ts w.reads.has_tokens has) w.reads.spells

  -- tokens that spell no module
  pub no_module : (e : SourceError) → ((m : Module) → IsModule ts m → IsOrMemory (Err e) m) → IfRefused {X = Module} (Err e) (λ line. RefusedAt ts line) → IfRefused {X = Module} (Err e) (λ line. IsRefused source line)
  no_module err.OutOfMemory only h = tt
  no_module (err.Refused line) only h = record { none = λ m w. only m (spelled m w); at_line = inr (inl (ts, has, h)) }

  pub only_memory : (e : SourceError) (m : Module) → ((n : Module) → IsModule ts n → IsOrMemory (Err e) n) → IsWorkflow source m → IsOrMemory (Err e) m
  only_memory e m only w = only m (spelled m w)

  pub source_of : (m : Module) → IsModule ts m → IsSource source m
  source_of m h = record { tokens = ts; has_tokens = has; spells = h }

-- a module whose names break a rule
module _ (source : List ℕ) (m : Module) (reads : IsSource source m) where
  broken_names : ¬ KeepsNames m → (n : Module) → IsWorkflow source n → ⊥
  broken_names broken n w = broken (subst KeepsNames (one_source source n m w.reads reads) w.names)

  pub names_only : (o : Option Refusal) → IfSome o (λ r. ¬ KeepsNames m) → (n : Module) → IsWorkflow source n → IsOrMemory (Err (refusal_of o)) n
  names_only None broken n w = tt
  names_only (Some r) broken n w = absurd (broken_names broken n w)

  pub names_refused : (o : Option Refusal) → IfSome o (λ r. ¬ KeepsNames m) → IfSome o (λ r. IsFirst r (refusals m)) → IfRefused {X = Module} (Err (refusal_of o)) (λ line. IsRefused source line)
  names_refused None broken first = tt
  names_refused (Some r) broken first = record { none = broken_names broken; at_line = inr (inr (m, reads, (r, first, refl))) }
