-- Code whose helpers and names were collected has them resolved.
use Rattle.std.proofs.Common.{◌≡◌, ℕ, List, [], map, Result, Ok, Err, IfOk, sym, subst, ◌∙◌, inl, inr}
use Rattle.std.specs.Prelude.{◌⊎◌, Option}
use Rattle.std.specs.List.{Contains}
use Rattle.rd_base.specs.declared.memory.OutOfMemory.{OutOfMemory}
use Rattle.rd_tree.specs.declared.tree.Statement.{Statement}
use Rattle.rd_names.specs.Names.{with_names}
use Rattle.rd_routine.specs.declared.routine.Callee.{Callee}
use Rattle.rd_code.specs.declared.named.Helper.{Helper}
use Rattle.rd_code.specs.declared.named.NamedUse.{NamedUse}
use Rattle.rd_code.specs.declared.code.TaskCode.{TaskCode}
use Rattle.rd_registry.specs.Codes.{use_with}
use Rattle.rd_registry.specs.Reach.{AreReached}
use Rattle.rd_registry.specs.Resolved.{AreAscending, Resolves, helpers_at, all_outside}
use Rattle.rd_registry.proofs.Elements.{names_put, names_from, nothing_in}

abbrev Block : Type 0
Block = List (Statement (List ℕ))

-- each of the first is one of the second
abbrev pub Within : List (List ℕ) → List (List ℕ) → Type 0
Within xs ys = (t : List ℕ) → Contains xs t → Contains ys t

module _ (helpers : List ℕ → Option Helper) (callees : List ℕ → Option Callee) where
  reached_by : (block : Block) (names sorted : List (List ℕ)) → AreReached helpers block names → Within names sorted → Within sorted names → AreReached helpers block sorted
  reached_by block names sorted u there back = record {
    first = λ t c. there t (u.first t c);
    closed = λ name t c d. there t (u.closed name t (back name c) d);
    known = λ name c. u.known name (back name c);
    only = λ name c. u.only name (back name c);
  }

  module _ (body : Block) (names : List (List ℕ)) (reached : AreReached helpers body names) (sorted : List (List ℕ)) (there : Within names sorted) (back : Within sorted names) (ascend : AreAscending sorted)
      (hs : List Helper) (are_hs : hs ≡ helpers_at helpers sorted) (used : List (List ℕ)) (are_used : used ≡ with_names [] (all_outside body hs)) (listed : List (List ℕ)) (all_listed : Within used listed) (only_listed : Within listed used) (listed_ascend : AreAscending listed)
      (us : List NamedUse) (are_us : us ≡ map (use_with callees) listed) where
    listed_from : (t : List ℕ) → Contains [] t ⊎ Contains (all_outside body hs) t → Contains (all_outside body hs) t
    listed_from t (inl c) = nothing_in t c
    listed_from t (inr c) = c

    resolved : (code : TaskCode) → code.body ≡ body → code.helpers ≡ hs → code.names ≡ us → Resolves helpers callees code
    resolved code b h u = record {
      names = sorted;
      reached = subst (λ x. AreReached helpers x sorted) (sym b) (reached_by body names sorted reached there back);
      ascend = ascend;
      there = h ∙ are_hs;
      texts = listed;
      all = λ t c. all_listed t (subst (λ ns. Contains ns t) (sym are_used) (names_put (all_outside body hs) [] t (subst (λ x. Contains (all_outside x hs) t) b (subst (λ x. Contains (all_outside code.body x) t) h c))));
      only = λ t c. subst (λ x. Contains (all_outside x code.helpers) t) (sym b) (subst (λ x. Contains (all_outside body x) t) (sym h) (listed_from t (names_from (all_outside body hs) [] t (subst (λ ns. Contains ns t) are_used (only_listed t c)))));
      texts_ascend = listed_ascend;
      uses = u ∙ are_us;
    }

    pub resolved_if : (r : Result TaskCode OutOfMemory) → IfOk r (λ code. code.body ≡ body) → IfOk r (λ code. code.helpers ≡ hs) → IfOk r (λ code. code.names ≡ us) → IfOk r (λ code. Resolves helpers callees code)
    resolved_if (Ok code) b h u = resolved code b h u
    resolved_if (Err e) b h u = tt
