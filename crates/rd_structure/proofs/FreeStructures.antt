-- No two codes have one structure.
use Rattle.std.proofs.Common.{◌≡◌, ℕ, suc, ◌<◌, ◌^◌, List, [], ◌∷◌, ◌++◌, map, codes, length, All, Option, None, Some, refl, sym, ap, subst, ◌∙◌, append-nil, append_assoc, arith}
use Rattle.rd_value.specs.Lawful.{IsLawful}
use Rattle.rd_value.specs.Canon.{string}
use Rattle.rd_value.specs.declared.signature.Parameter.{Parameter}
use Rattle.rd_value.proofs.Ind.{Each}
use Rattle.rd_tree.specs.declared.tree.Statement.{Statement}
use Rattle.rd_names.specs.Uses.{joined}
use Rattle.rd_code.specs.declared.named.UseKind.{UseKind}
use Rattle.rd_code.specs.declared.named.UseKind.TheVariants as use_kind
use Rattle.rd_code.specs.declared.named.NamedUse.{NamedUse}
use Rattle.rd_code.specs.declared.named.Helper.{Helper}
use Rattle.rd_structure.specs.Structure.{default_bytes, parameter_bytes, helper_bytes, kind_letter, use_bytes, structure}
use Rattle.rd_structure.specs.Values.{Value, values_in_default, values_in_helper, values_in_code}
use Rattle.rd_structure.proofs.Free.{Part, FreeAt, text, text_free, beside, beside_free, begun, begun_free, group, group_free, run, run_free, many, many_free, kind, kind_named, kind_free, as_free}
use Rattle.rd_structure.proofs.Free.{made_free}
use Rattle.rd_structure.proofs.FreeValues.{spelled, value, value_free, value_begins}
use Rattle.rd_structure.proofs.FreeStatements.{block, block_free}

-- ---- parameters

-- what stands behind the name of a parameter
abbrev default : Part
default = record { of = Option Value; bytes = λ d. default_bytes d ++ codes "e"; values = values_in_default }

given_bytes : (v : Value) → default.bytes (Some v) ≡ (run value).bytes (v ∷ [])
given_bytes v = ap (λ bs. bs ++ codes "e") (sym (append-nil (spelled v)))

default_free : (d : Option Value) → FreeAt default d
default_free None = as_free default (run value) None [] refl (λ ok. ok) view (run_free value value_begins [] tt)
  where
    view : (b : Option Value) → (y : List Value) × (default.bytes b ≡ (run value).bytes y) × (◌≡◌ {A = List Value} [] y → None ≡ b)
    view None = ([], refl, λ e. refl)
    view (Some w) = (w ∷ [], given_bytes w, λ e. cc)
default_free (Some v) = as_free default (run value) (Some v) (v ∷ []) (given_bytes v) (λ ok. ok) view (run_free value value_begins (v ∷ []) (value_free v, tt))
  where
    view : (b : Option Value) → (y : List Value) × (default.bytes b ≡ (run value).bytes y) × (v ∷ [] ≡ y → Some v ≡ b)
    view None = ([], refl, λ e. cc)
    view (Some w) = (w ∷ [], given_bytes w, λ e. cc)

abbrev parameter : Part
parameter = record { of = Parameter; bytes = parameter_bytes; values = λ p. values_in_default p.default }

parameter_free : (p : Parameter) → FreeAt parameter p
parameter_free p =
    made_free parameter (begun (codes "l") (beside text default)) (λ x. record { name = x.0; default = x.1 })
    (λ x. ap (λ bs. codes "l" ++ bs) (append_assoc (string x.0) (default_bytes x.1) (codes "e"))) (λ x ok. ok) (λ q. ((q.name, q.default), refl)) (p.name, p.default)
    (begun_free (codes "l") (beside text default) _ (beside_free text default _ _ (text_free p.name) (default_free p.default)))

each_parameter : (ps : List Parameter) → Each (FreeAt parameter) ps
each_parameter [] = tt
each_parameter (p ∷ ps) = (parameter_free p, each_parameter ps)

parameters_free : (ps : List Parameter) → FreeAt (many parameter) ps
parameters_free ps = many_free parameter (λ p. (108, _, refl, λ e. omega (arith, e))) ps (each_parameter ps)

-- ---- helpers

abbrev helper : Part
helper = record { of = Helper; bytes = helper_bytes; values = values_in_helper }

abbrev helper_parts : Part
helper_parts = beside (beside text (many parameter)) block

helper_free : (h : Helper) → FreeAt helper h
helper_free h =
    let front = beside_free text (many parameter) _ _ (text_free h.name) (parameters_free h.parameters) in
    made_free helper (group helper_parts) (λ x. record { name = x.0.0; parameters = x.0.1; block = x.1 }) (λ x. refl) (λ x ok. ok)
    (λ g. (((g.name, g.parameters), g.block), refl)) ((h.name, h.parameters), h.block)
    (group_free helper_parts _ (beside_free (beside text (many parameter)) block _ _ front (block_free h.block)))

each_helper : (hs : List Helper) → Each (FreeAt helper) hs
each_helper [] = tt
each_helper (h ∷ hs) = (helper_free h, each_helper hs)

helpers_free : (hs : List Helper) → FreeAt (many helper) hs
helpers_free hs = many_free helper (λ h. (108, _, refl, λ e. omega (arith, e))) hs (each_helper hs)

-- ---- names

abbrev use_kinds : List UseKind
use_kinds = use_kind.Task ∷ use_kind.Helper ∷ use_kind.Builtin ∷ use_kind.ErrorClass ∷ []

use_kind_told : (k : UseKind) → kind_named kind_letter use_kind.Task use_kinds (kind_letter k) ≡ k
use_kind_told use_kind.Task = refl
use_kind_told use_kind.Helper = refl
use_kind_told use_kind.Builtin = refl
use_kind_told use_kind.ErrorClass = refl

abbrev named : Part
named = record { of = NamedUse; bytes = use_bytes; values = λ u. [] }

abbrev named_parts : Part
named_parts = beside (beside text (kind kind_letter)) text

named_free : (u : NamedUse) → FreeAt named u
named_free u =
    let letter = kind_free kind_letter use_kind.Task use_kinds use_kind_told u.kind in
    let front = beside_free text (kind kind_letter) _ _ (text_free u.name) letter in
    made_free named (group named_parts) (λ x. record { name = x.0.0; kind = x.0.1; task = x.1 }) (λ x. refl) (λ x ok. tt)
    (λ g. (((g.name, g.kind), g.task), refl)) ((u.name, u.kind), u.task)
    (group_free named_parts _ (beside_free (beside text (kind kind_letter)) text _ _ front (text_free u.task)))

each_named : (us : List NamedUse) → Each (FreeAt named) us
each_named [] = tt
each_named (u ∷ us) = (named_free u, each_named us)

names_free : (us : List NamedUse) → FreeAt (many named) us
names_free us = many_free named (λ u. (108, _, refl, λ e. omega (arith, e))) us (each_named us)

no_values : (us : List NamedUse) → joined (map named.values us) ≡ []
no_values [] = refl
no_values (u ∷ us) = no_values us

-- ---- the code of a task

abbrev head : Part
head = beside text (many parameter)

abbrev head_and_block : Part
head_and_block = beside head block

abbrev without_names : Part
without_names = beside head_and_block (many helper)

abbrev code : Part
code = beside without_names (many named)

code_free : (n : List ℕ) (ps : List Parameter) (b : List (Statement (List ℕ))) (hs : List Helper) (us : List NamedUse) → FreeAt (group code) ((((n, ps), b), hs), us)
code_free n ps b hs us =
    let front = beside_free text (many parameter) _ _ (text_free n) (parameters_free ps) in
    let to_block = beside_free head block _ _ front (block_free b) in
    let to_helpers = beside_free head_and_block (many helper) _ _ to_block (helpers_free hs) in
    group_free code _ (beside_free without_names (many named) _ _ to_helpers (names_free us))

each_of_all : {A : Type 0} (P : A → Type 0) (xs : List A) → All P xs → Each P xs
each_of_all P [] h = tt
each_of_all P (x ∷ xs) h = (h 0 x (omega arith), each_of_all P xs (λ k d lt. h (suc k) d (omega (arith, lt))))

pub structures_apart : (n n' : List ℕ) (ps ps' : List Parameter) (b b' : List (Statement (List ℕ))) (hs hs' : List Helper) (us us' : List NamedUse)
    → All IsLawful (values_in_code ps b hs) → length (structure n ps b hs us) < 2 ^ 64 → structure n ps b hs us ≡ structure n' ps' b' hs' us'
    → (n ≡ n') × (ps ≡ ps') × (b ≡ b') × (hs ≡ hs') × (us ≡ us')
structures_apart n n' ps ps' b b' hs hs' us us' ok small e =
    let values : values_in_code ps b hs ≡ code.values ((((n, ps), b), hs), us) = sym (ap (λ vs. values_in_code ps b hs ++ vs) (no_values us) ∙ append-nil (values_in_code ps b hs)) in
    let t = (code_free n ps b hs us).told (subst (Each IsLawful) values (each_of_all IsLawful _ ok)) small ((((n', ps'), b'), hs'), us') [] [] (ap (λ bs. bs ++ []) e) in
    (ap (λ (x : code.of). x.0.0.0.0) t.0, ap (λ (x : code.of). x.0.0.0.1) t.0, ap (λ (x : code.of). x.0.0.1) t.0, ap (λ (x : code.of). x.0.1) t.0, ap (λ (x : code.of). x.1) t.0)
