-- The helpers that a block reaches.
use Rattle.std.specs.Prelude.{◌≡◌, ℕ, Bool, true, List, [], filter, is_some, Option, None, Some}
use Rattle.std.specs.List.{Contains}
use Rattle.rd_tree.specs.declared.tree.Statement.{Statement}
use Rattle.rd_code.specs.declared.named.Helper.{Helper}
use Rattle.rd_registry.specs.Codes.{outside}

module _ (helpers : List ℕ → Option Helper) where
  abbrev pub names_helper : List ℕ → Bool
  names_helper text = is_some (helpers text)

  abbrev pub further_of : Option Helper → List (List ℕ)
  further_of None = []
  further_of (Some h) = filter names_helper (outside h.block)

  -- the helpers that the helper of a name names
  abbrev pub further : List ℕ → List (List ℕ)
  further name = further_of (helpers name)

  -- A block reaches the helpers that it names, and those that a helper names that it reaches.
  pub data Reaches (block : List (Statement (List ℕ))) : List ℕ → Type 0 where
    Named : (text : List ℕ) → Contains (filter names_helper (outside block)) text → Reaches block text
    Through : (name text : List ℕ) → Reaches block name → Contains (further name) text → Reaches block text

  -- Each helper that a block names is among these names, and each that one of these helpers names. All are helpers that the block reaches.
  pub record AreReached (block : List (Statement (List ℕ))) (names : List (List ℕ)) : Type 0 where
    pub first : (text : List ℕ) → Contains (filter names_helper (outside block)) text → Contains names text
    pub closed : (name text : List ℕ) → Contains names name → Contains (further name) text → Contains names text
    pub known : (name : List ℕ) → Contains names name → names_helper name ≡ true
    pub only : (name : List ℕ) → Contains names name → Reaches block name
