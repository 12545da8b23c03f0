-- Functions that are numbered by the same words.
use Rattle.std.proofs.Common.{◌≡◌, ℕ, List, map, ap, ◌∙◌}
use Rattle.std.proofs.Math.Path.{fun_ext}
use Rattle.rd_value.specs.declared.signature.Parameter.{Parameter}
use Rattle.rd_tree.specs.declared.tree.Statement.{Statement}
use Rattle.rd_routine.specs.declared.routine.Routine.{Routine}
use Rattle.rd_routine.specs.declared.routine.Word.{Word}
use Rattle.rd_code.specs.declared.named.Helper.{Helper}
use Rattle.rd_code.specs.declared.named.NamedUse.{NamedUse}
use Rattle.rd_code.specs.Numbering.{numbered, numbered_helper, word_in}

module _ (w : List ℕ → Word) (hs helpers : List Helper) (us uses : List NamedUse) (same : (text : List ℕ) → w text ≡ word_in hs us text) (are_hs : hs ≡ helpers) (are_us : us ≡ uses) where
  words_same : w ≡ word_in helpers uses
  words_same = fun_ext same ∙ ap (λ ks. word_in ks us) are_hs ∙ ap (word_in helpers) are_us

  pub numbered_same : (r : Routine) (ps parameters : List Parameter) (b block : List (Statement (List ℕ))) → r ≡ numbered w ps b → ps ≡ parameters → b ≡ block → r ≡ numbered (word_in helpers uses) parameters block
  numbered_same r ps parameters b block e p q = e ∙ ap (λ v. numbered v ps b) words_same ∙ ap (λ qs. numbered (word_in helpers uses) qs b) p ∙ ap (numbered (word_in helpers uses) parameters) q

  pub all_numbered_same : (rs : List Routine) (ks : List Helper) → rs ≡ map (numbered_helper w) ks → ks ≡ helpers → rs ≡ map (numbered_helper (word_in helpers uses)) helpers
  all_numbered_same rs ks e q = e ∙ ap (λ v. map (numbered_helper v) ks) words_same ∙ ap (map (numbered_helper (word_in helpers uses))) q
