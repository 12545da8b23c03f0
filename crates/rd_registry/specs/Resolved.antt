-- Code whose names are resolved.
use Rattle.std.specs.Prelude.{◌≡◌, ℕ, List, [], ◌∷◌, ◌++◌, map, Option, None, Some}
use Rattle.std.specs.List.{Contains}
use Rattle.std.specs.Cmp.Lexicographic.{slice_cmp}
use Rattle.std.specs.List.Sorted.{IsStrictlySortedBy}
use Rattle.std.specs.Ordering.{nat_cmp}
use Rattle.std.specs.Str.{bytes_eq}
use Rattle.indexmap.specs.IndexMap.{IndexMap, get}
use Rattle.rd_value.specs.declared.signature.Signature.{Signature}
use Rattle.rd_tree.specs.declared.tree.Statement.{Statement}
use Rattle.rd_names.specs.Uses.{joined}
use Rattle.rd_routine.specs.declared.routine.Callee.{Callee}
use Rattle.rd_code.specs.declared.named.Helper.{Helper}
use Rattle.rd_code.specs.declared.named.NamedUse.{NamedUse}
use Rattle.rd_code.specs.declared.code.TaskCode.{TaskCode}
use Rattle.rd_registry.specs.declared.functions.Found.{Found}
use Rattle.rd_registry.specs.Codes.{outside, use_with}
use Rattle.rd_registry.specs.Functions.{callee_in, helper_in}
use Rattle.rd_registry.specs.Reach.{AreReached}

abbrev pub with_helper : Option Helper → List Helper → List Helper
with_helper None hs = hs
with_helper (Some h) hs = h ∷ hs

-- the helpers of these names
abbrev pub helpers_at : (List ℕ → Option Helper) → List (List ℕ) → List Helper
helpers_at helpers [] = []
helpers_at helpers (name ∷ names) = with_helper (helpers name) (helpers_at helpers names)

-- the names that aren't local in a block and in helpers
abbrev pub all_outside : List (Statement (List ℕ)) → List Helper → List (List ℕ)
all_outside block helpers = outside block ++ joined (map (λ h. outside h.block) helpers)

abbrev pub callees_by : {S : Type 0} → IndexMap (List ℕ) Found S → List ℕ → Option Callee
callees_by functions text = callee_in (get bytes_eq functions text)

abbrev pub helpers_by : {S : Type 0} → IndexMap (List ℕ) Found S → List ℕ → Option Helper
helpers_by functions text = helper_in functions text

pub record HasParts (full_name : List ℕ) (signature : Signature) (body : List (Statement (List ℕ))) (code : TaskCode) : Type 0 where
  pub named : code.full_name ≡ full_name
  pub signed : code.signature ≡ signature
  pub bodied : code.body ≡ body

-- each text is below those behind it, in byte order
abbrev pub AreAscending : List (List ℕ) → Type 0
AreAscending = IsStrictlySortedBy (slice_cmp nat_cmp)

-- The helpers are those that the block reaches, and the uses are of the names that aren't local in it and in them. Both ascend.
pub record AreResolved (helpers : List ℕ → Option Helper) (callees : List ℕ → Option Callee) (block : List (Statement (List ℕ))) (found : List Helper) (used : List NamedUse) : Type 0 where
  pub names : List (List ℕ)
  pub reached : AreReached helpers block names
  pub ascend : AreAscending names
  pub there : found ≡ helpers_at helpers names
  pub texts : List (List ℕ)
  pub all : (text : List ℕ) → Contains (all_outside block found) text → Contains texts text
  pub only : (text : List ℕ) → Contains texts text → Contains (all_outside block found) text
  pub texts_ascend : AreAscending texts
  pub uses : used ≡ map (use_with callees) texts

abbrev pub Resolves : (List ℕ → Option Helper) → (List ℕ → Option Callee) → TaskCode → Type 0
Resolves helpers callees code = AreResolved helpers callees code.body code.helpers code.names
