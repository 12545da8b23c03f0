-- What a structure is a function of, and what it says.
use Rattle.std.proofs.Common.{◌≡◌, ◌<◌, ◌^◌, ℕ, List, length, map, Option, Some, refl, sym, ap, subst, ◌∙◌}
use Rattle.std.specs.List.{Contains}
use Rattle.rd_value.specs.declared.value.FileValue.{FileValue}
use Rattle.rd_value.specs.declared.value.Datum.{Datum}
use Rattle.rd_value.specs.declared.signature.Parameter as signature
use Rattle.rd_tree.specs.declared.tree.Function.{Function}
use Rattle.rd_tree.specs.declared.tree.Module.{Module}
use Rattle.rd_tree.specs.declared.tree.Statement.{Statement}
use Rattle.rd_names.specs.Options.{first_space}
use Rattle.rd_routine.specs.declared.routine.Callee.{Callee}
use Rattle.rd_code.specs.declared.code.TaskCode.{TaskCode}
use Rattle.rd_code.specs.declared.named.Helper.{Helper}
use Rattle.rd_code.specs.declared.named.NamedUse.{NamedUse}
use Rattle.rd_code.specs.Numbering as numbering
use Rattle.rd_body.specs.Code.{meaning}
use Rattle.rd_structure.specs.Structure.{structure, structure_of}
use Rattle.rd_structure.proofs.FreeStructures.{structures_apart}
use Rattle.rd_registry.specs.Bodies.{body}
use Rattle.rd_registry.specs.Codes.{block_of, parameter_of, signature_of, use_with}
use Rattle.rd_registry.specs.Reach.{AreReached, Named, Reaches, Through}
use Rattle.rd_registry.specs.Registry.{IsCodeOf, IsMade, callees_in, helpers_in}
use Rattle.rd_registry.specs.Resolved.{AreResolved, all_outside, helpers_at}
use Rattle.rd_registry.specs.Structures.{AreLawful, HasStructure}
use Rattle.rd_registry.proofs.Meanings.{code_means}
use Rattle.rd_registry.proofs.OneOrder.{one_order}

-- ---- the parts are one function's

module _ (helpers : List ℕ → Option Helper) (callees : List ℕ → Option Callee) (block : List (Statement (List ℕ))) where
  -- what is reached is among all names that are reached
  all_reached : (names : List (List ℕ)) → AreReached helpers block names → (text : List ℕ) → Reaches helpers block text → Contains names text
  all_reached names u text (Named t c) = u.first t c
  all_reached names u text (Through name t r c) = u.closed name t (all_reached names u name r) c

  one_reach : (ns ms : List (List ℕ)) → AreReached helpers block ns → AreReached helpers block ms → (t : List ℕ) → Contains ns t → Contains ms t
  one_reach ns ms u v t c = all_reached ms v t (u.only t c)

  pub one_helpers : (hs ks : List Helper) (us ws : List NamedUse) → AreResolved helpers callees block hs us → AreResolved helpers callees block ks ws → hs ≡ ks
  one_helpers hs ks us ws u v =
      let same : u.names ≡ v.names = one_order u.names v.names u.ascend v.ascend (one_reach u.names v.names u.reached v.reached) (one_reach v.names u.names v.reached u.reached) in
      u.there ∙ ap (helpers_at helpers) same ∙ sym v.there

  pub one_uses : (hs ks : List Helper) (us ws : List NamedUse) → hs ≡ ks → AreResolved helpers callees block hs us → AreResolved helpers callees block ks ws → us ≡ ws
  one_uses hs ks us ws e u v =
      let same : u.texts ≡ v.texts =
      one_order u.texts v.texts u.texts_ascend v.texts_ascend
      (λ t c. v.all t (subst (λ xs. Contains (all_outside block xs) t) e (u.only t c)))
      (λ t c. u.all t (subst (λ xs. Contains (all_outside block xs) t) (sym e) (v.only t c))) in
      u.uses ∙ ap (map (use_with callees)) same ∙ sym v.uses

some_same : {A : Type 0} (x y : A) → Some x ≡ Some y → x ≡ y
some_same x y e = cc

module _ (m : Module) (f : Function) where
  pub has_structure : (code : TaskCode) → IsCodeOf m f code → HasStructure m f (structure_of code)
  has_structure code u = record {
    full_name = code.full_name;
    helpers = code.helpers;
    names = code.names;
    named = u.full_name;
    resolved = subst (λ b. AreResolved (helpers_in m) (callees_in m) b code.helpers code.names) u.block u.resolves;
    is = ap (λ ps. structure code.full_name ps code.body code.helpers code.names) u.parameters ∙ ap (λ b. structure code.full_name (map parameter_of f.parameters) b code.helpers code.names) u.block;
  }

  pub one_structure : (s t : List ℕ) → HasStructure m f s → HasStructure m f t → s ≡ t
  one_structure s t u v =
      let block = block_of f.body in
      let ps = map parameter_of f.parameters in
      let name : u.full_name ≡ v.full_name = some_same u.full_name v.full_name (sym u.named ∙ v.named) in
      let helped : u.helpers ≡ v.helpers = one_helpers (helpers_in m) (callees_in m) block u.helpers v.helpers u.names v.names u.resolved v.resolved in
      let used : u.names ≡ v.names = one_uses (helpers_in m) (callees_in m) block u.helpers v.helpers u.names v.names helped u.resolved v.resolved in
      u.is ∙ ap (λ n. structure n ps block u.helpers u.names) name ∙ ap (λ hs. structure v.full_name ps block hs u.names) helped ∙ ap (λ us. structure v.full_name ps block v.helpers us) used ∙ sym v.is

-- ---- meaning

-- the code of these parts
abbrev code_with : List ℕ → List signature.Parameter → List (Statement (List ℕ)) → List Helper → List NamedUse → TaskCode
code_with full_name ps block hs us = record {
  full_name = full_name;
  signature = record { parameters = ps };
  body = block;
  helpers = hs;
  names = us;
  routine = numbering.numbered (numbering.word_in hs us) ps block;
  routines = map (numbering.numbered_helper (numbering.word_in hs us)) hs;
  numbered = refl;
  all_numbered = refl;
}

module _ (m : Module) (f : Function) (s : List ℕ) (u : HasStructure m f s) where
  abbrev pub code : TaskCode
  code = code_with u.full_name (map parameter_of f.parameters) (block_of f.body) u.helpers u.names

  made : IsMade (helpers_in m) (callees_in m) (first_space m.namespaces) f code
  made = record { named = u.named; parts = record { named = refl; signed = refl; bodied = refl }; resolves = u.resolved }

-- code of equal parts is the same
same_code : (n k : List ℕ) (ps qs : List signature.Parameter) (b c : List (Statement (List ℕ))) (hs is : List Helper) (us ws : List NamedUse) → (n ≡ k) × (ps ≡ qs) × (b ≡ c) × (hs ≡ is) × (us ≡ ws) → code_with n ps b hs us ≡ code_with k qs c is ws
same_code n k ps qs b c hs is us ws e =
    ap (λ x. code_with x ps b hs us) e.0 ∙ ap (λ x. code_with k x b hs us) e.1 ∙ ap (λ x. code_with k qs x hs us) e.2 ∙ ap (λ x. code_with k qs c x us) e.3 ∙ ap (λ x. code_with k qs c is x) e.4

module _ (m n : Module) (f g : Function) (s : List ℕ) (u : HasStructure m f s) (lawful : AreLawful f u.helpers) (small : length s < 2 ^ 64) (v : HasStructure n g s) where
  abbrev parts : (u.full_name ≡ v.full_name) × (map parameter_of f.parameters ≡ map parameter_of g.parameters) × (block_of f.body ≡ block_of g.body) × (u.helpers ≡ v.helpers) × (u.names ≡ v.names)
  parts =
      structures_apart u.full_name v.full_name (map parameter_of f.parameters) (map parameter_of g.parameters) (block_of f.body) (block_of g.body) u.helpers v.helpers u.names v.names
      lawful (subst (λ bytes. length bytes < 2 ^ 64) u.is small) (sym u.is ∙ v.is)

  pub same_signatures : signature_of f ≡ signature_of g
  same_signatures = ap (λ ps. record { parameters = ps }) parts.1

  module _ {F : Type 0} (file : F → FileValue) where
    pub same_bodies : (args : List (Datum F)) → body file m f args ≡ body file n g args
    same_bodies args =
        sym (code_means m f (code m f s u) (made m f s u) file args)
        ∙ ap (λ c. meaning file c args) (same_code u.full_name v.full_name (map parameter_of f.parameters) (map parameter_of g.parameters) (block_of f.body) (block_of g.body) u.helpers v.helpers u.names v.names parts)
        ∙ code_means n g (code n g s v) (made n g s v) file args
