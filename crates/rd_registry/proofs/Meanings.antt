-- The code of a task means what the module's function means.
use Rattle.std.proofs.Common.{◌≡◌, ℕ, zero, suc, ◌-◌, ◌≤◌, Bool, true, false, List, [], ◌∷◌, ◌++◌, map, filter, Option, None, Some, is_some, slice_get, refl, sym, ap, subst, subst₂, ◌∙◌, arith, inl, inr}
use Rattle.std.proofs.Math.Path.{fun_ext}
use Rattle.std.proofs.lemmas.List.Elements.{Contains-append_left, Contains-append_right}
use Rattle.std.proofs.lemmas.Option.{slice_get-map}
use Rattle.std.proofs.lemmas.Slice.Eq.{bytes_eq-Decides}
use Rattle.std.specs.Prelude.{◌⊎◌, if◌then◌else◌}
use Rattle.std.specs.List.{Contains, IsAmong}
use Rattle.std.specs.Option.{option_map}
use Rattle.std.specs.Str.{bytes_eq}
use Rattle.rd_value.specs.declared.value.FileValue.{FileValue}
use Rattle.rd_value.specs.declared.value.Datum.{Datum, out-Datum}
use Rattle.rd_value.specs.declared.value.Datum.TheOpen.{Datum-F}
use Rattle.rd_value.specs.declared.expr.Lazy.TheVariants as lazy
use Rattle.rd_tree.specs.declared.tree.Name.{Name}
use Rattle.rd_tree.specs.declared.tree.Parameter.{Parameter}
use Rattle.rd_tree.specs.declared.tree.Statement.{Statement}
use Rattle.rd_tree.specs.declared.tree.TaskOption.{TaskOption}
use Rattle.rd_tree.specs.declared.tree.Function.{Function}
use Rattle.rd_tree.specs.declared.tree.Module.{Module}
use Rattle.rd_names.specs.Options.{first_space}
use Rattle.rd_names.specs.Special.{special_named}
use Rattle.rd_names.specs.Uses.{special_at}
use Rattle.rd_routine.specs.declared.builtin.Builtin.{Builtin}
use Rattle.rd_routine.specs.declared.special.Special.{Special}
use Rattle.rd_routine.specs.Callees.{known, special_of}
use Rattle.rd_routine.specs.declared.routine.Callee.{Callee}
use Rattle.rd_routine.specs.declared.routine.Callee.TheVariants as callee
use Rattle.rd_code.specs.declared.mention.Mention.{Mention}
use Rattle.rd_code.specs.declared.mention.Role.{Role}
use Rattle.rd_code.specs.declared.mention.Role.TheVariants as role
use Rattle.rd_code.specs.declared.named.Helper.{Helper}
use Rattle.rd_code.specs.declared.named.NamedUse.{NamedUse}
use Rattle.rd_code.specs.declared.code.TaskCode.{TaskCode}
use Rattle.rd_code.specs.Known.{builtin_named, special_or, built_in, class_named}
use Rattle.rd_code.specs.Mentions.{plain, mentions_in_block, named_in_block}
use Rattle.rd_code.specs.Numbering.{place_among, use_among, word_by, word_or, word_in, helper_at, literal_value, literal_at}
use Rattle.rd_code.specs.Numbering as numbering
use Rattle.rd_code.specs.Renaming.{renamed_first}
use Rattle.rd_interpreter.specs.Body as body
use Rattle.rd_interpreter.specs.Body.{literal}
use Rattle.rd_interpreter.specs.Running.{own}
use Rattle.rd_body.specs.Code as code
use Rattle.rd_body.specs.Renaming.{mentions_of, IsHelperAt, SameCallee, IsRenamed, AreRenamed}
use Rattle.rd_body.proofs.Renamed.{whole_renamed}
use Rattle.rd_registry.specs.declared.functions.Found.{Found}
use Rattle.rd_registry.specs.Bodies.{callee_by, helpers_with, function_called, helpers_of, task_name_by, callee_or, callee_of, parameter_with_literal, function_of, body}
use Rattle.rd_registry.specs.Codes.{text_of, block_of, parameter_of, helper_of, is_outside, outside_of, outside, use_by, use_or, use_with}
use Rattle.rd_registry.specs.Functions as functions
use Rattle.rd_registry.specs.Functions.{found_of, found_among, callee_in}
use Rattle.rd_registry.specs.Reach.{names_helper, further_of, further}
use Rattle.rd_registry.specs.Registry.{IsCodeOf, IsMade}
use Rattle.rd_registry.specs.Resolved.{Resolves, with_helper, helpers_at}
use Rattle.rd_registry.proofs.HomeModules.{gives_at_home}
use Rattle.rd_registry.proofs.Elements.{first, later, cases, nothing_in, among, in_map, in_filter, in_joined}
use Rattle.rd_registry.proofs.Located.{callee_found, Located, located, some_same}
use Rattle.rd_registry.proofs.Mentioned.{mention_with, block_mentions}

-- ---- what stands in a block under other names

outside_kept : (ms : List (Mention (List ℕ))) (m : Mention (List ℕ)) → is_outside m.role ≡ true → Contains ms m → Contains (outside_of ms) m.name
outside_kept ms m e c = in_map (λ x. x.name) (filter (λ x. is_outside x.role) ms) m (in_filter (λ x. is_outside x.role) ms m e c)

abbrev named_as : Role → Name → Mention Name
named_as r name = record { role = r; name = name }

-- a name with such a role isn't a parameter
not_plain : (ps : List Name) (r : Role) (name : Name) → is_outside r ≡ true → (rest : List (Mention Name)) → Contains (map plain ps ++ rest) (named_as r name) → Contains rest (named_as r name)
not_plain [] r name e rest c = c
not_plain (p ∷ ps) r name e rest c = by (cases (plain p) (map plain ps ++ rest) (named_as r name) c) (not_plain ps r name e rest)
  where
    plain_role : plain p ≡ named_as r name → is_outside r ≡ false
    plain_role q = sym (ap (λ m. is_outside m.role) q)

    by : (plain p ≡ named_as r name) ⊎ Contains (map plain ps ++ rest) (named_as r name) → (Contains (map plain ps ++ rest) (named_as r name) → Contains rest (named_as r name)) → Contains rest (named_as r name)
    by (inl q) more = absurd (let no : true ≡ false = sym e ∙ plain_role q in cc)
    by (inr d) more = more d

-- a name with such a role that stands in a function is one that isn't local there
pub met_outside : (k : Function) (ms : List (Mention Name)) → ms ≡ mentions_in_block special_at k.body → (ps : List Name) (r : Role) (name : Name) → is_outside r ≡ true → IsAmong (map plain ps ++ ms) (named_as r name) → Contains (outside (block_of k.body)) name.text
met_outside k ms q ps r name e u =
    let c : Contains (mentions_in_block special_at k.body) (named_as r name) = subst (λ xs. Contains xs (named_as r name)) q (not_plain ps r name e ms (among (map plain ps ++ ms) (named_as r name) u)) in
    let d : Contains (named_in_block (block_of k.body)) (mention_with text_of (named_as r name)) = subst (λ xs. Contains xs (mention_with text_of (named_as r name))) (sym (block_mentions text_of special_at special_named (λ x. refl) k.body)) (in_map (mention_with text_of) (mentions_in_block special_at k.body) (named_as r name) c) in
    outside_kept (named_in_block (block_of k.body)) (mention_with text_of (named_as r name)) e d

-- ---- literals

literal_twice_at : {F : Type 0} (v : Datum-F FileValue (Datum FileValue)) → literal {F = F} (literal_at v) ≡ lazy.Val (body.literal_at v)
unfolding out-Datum denote.Hole.Carrier.out
literal_twice_at (Datum-F.Bool b) = refl
literal_twice_at (Datum-F.Int n) = refl
literal_twice_at (Datum-F.Text t) = refl
literal_twice_at Datum-F.Nothing = refl
literal_twice_at (Datum-F.List vs) = refl
literal_twice_at (Datum-F.Dict ps) = refl
literal_twice_at (Datum-F.File f) = refl
literal_twice_at (Datum-F.Error e) = refl

default_same : {F : Type 0} (o : Option (Datum FileValue)) → option_map (literal {F = F}) (option_map literal_value o) ≡ option_map literal o
default_same None = refl
default_same (Some v) = ap Some (literal_twice_at (out-Datum FileValue v))

parameters_same : {F : Type 0} (ps : List Parameter) → map (code.parameter_with_literal {F = F}) (map parameter_of ps) ≡ map (renamed_first text_of) (map parameter_with_literal ps)
parameters_same [] = refl
parameters_same {F} (p ∷ ps) =
    ap (λ d. (p.name.text, d) ∷ map (code.parameter_with_literal {F = F}) (map parameter_of ps)) (default_same p.default) ∙ ap (λ qs. (p.name.text, option_map literal p.default) ∷ qs) (parameters_same ps)

plain_parameters : (F : Type 0) (ps : List Parameter) → map (λ p. plain p.0) (map (parameter_with_literal {F = F}) ps) ≡ map plain (map (λ p. p.name) ps)
plain_parameters F [] = refl
plain_parameters F (p ∷ ps) = ap (λ ms. plain p.name ∷ ms) (plain_parameters F ps)

-- ---- what is special

-- no builtin is a helper
no_helper : (s : Option Special) (b : Option Builtin) (p : ℕ) → special_or s b ≡ Some (callee.Helper p) → ⊥
no_helper (Some s) b p e = absurd (let no : Some (callee.Special s) ≡ Some (callee.Helper p) = e in cc)
no_helper None (Some b) p e = absurd (let no : Some (callee.Builtin b) ≡ Some (callee.Helper p) = e in cc)
no_helper None None p e = absurd (let no : None ≡ Some (callee.Helper p) = e in cc)

-- what a call of a name makes
special_callee : (s : Option Special) (b : Option Builtin) (function : Option Callee) → special_of (known function) ≡ None → special_of (callee_or (special_or s b) function) ≡ s
special_callee (Some s) b function e = refl
special_callee None (Some b) function e = refl
special_callee None None function e = e

-- ---- uses

use_name_by : (text : List ℕ) (c : Option Callee) → (use_by text c).name ≡ text
use_name_by text None = refl
use_name_by text (Some (callee.Task task)) = refl
use_name_by text (Some (callee.Helper place)) = refl
use_name_by text (Some (callee.Builtin builtin)) = refl
use_name_by text (Some (callee.Special made)) = refl
use_name_by text (Some callee.Unknown) = refl

use_name_or : (text : List ℕ) (b c : Option Callee) → (use_or text b c).name ≡ text
use_name_or text None c = use_name_by text c
use_name_or text (Some b) c = refl

module _ (callees : List ℕ → Option Callee) where
  use_name : (text : List ℕ) → (use_with callees text).name ≡ text
  use_name text = use_name_or text (built_in text) (callees text)

  use_if : (x t : List ℕ) (ts : List (List ℕ)) (b : Bool) → bytes_eq t (use_with callees x).name ≡ b → (Contains ts t → use_among (map (use_with callees) ts) t ≡ Some (use_with callees t)) → (x ≡ t) ⊎ Contains ts t
      → (if b then Some (use_with callees x) else use_among (map (use_with callees) ts) t) ≡ Some (use_with callees t)
  use_if x t ts true e more c = ap (λ y. Some (use_with callees y)) (sym ((bytes_eq-Decides t (use_with callees x).name).0 e ∙ use_name x))
  use_if x t ts false e more (inl q) = absurd (let no : true ≡ false = sym ((bytes_eq-Decides t (use_with callees x).name).1 (sym q ∙ sym (use_name x))) ∙ e in cc)
  use_if x t ts false e more (inr c) = more c

  -- the use of a name that is there
  use_there : (ts : List (List ℕ)) (t : List ℕ) → Contains ts t → use_among (map (use_with callees) ts) t ≡ Some (use_with callees t)
  use_there [] t c = nothing_in t c
  use_there (x ∷ ts) t c = use_if x t ts (bytes_eq t (use_with callees x).name) refl (use_there ts t) (cases x ts t c)

got_in : {X : Type 0} (xs : List X) (i : ℕ) (x : X) → slice_get xs i ≡ Some x → Contains xs x
got_in [] i x e = absurd (let no : None ≡ Some x = e in cc)
got_in (y ∷ ys) zero x e = subst (λ z. Contains (y ∷ ys) z) (some_same y x e) (first y ys)
got_in (y ∷ ys) (suc i) x e = later y ys x (got_in ys i x e)

no_more_left : (n : ℕ) → n - n ≡ 0
no_more_left n = omega arith

one_more_left : (n q : ℕ) → suc n ≤ q → q - n ≡ suc (q - suc n)
one_more_left n q h = omega (arith, h)

nothing_less : (n : ℕ) → n - 0 ≡ n
nothing_less n = omega arith

-- ---- helpers of a module

module _ (m : Module) where
  abbrev space : Option (List ℕ)
  space = first_space m.namespaces

  abbrev found : List ℕ → Option Found
  found text = found_among space 0 m.functions text

  abbrev helpers : List ℕ → Option Helper
  helpers text = functions.helper_at (found text)

  abbrev callees : List ℕ → Option Callee
  callees text = callee_in (found text)

  -- a helper of the module by its name, and its place among all helpers
  record Named (text : List ℕ) (place : ℕ) : Type 0 where
    function : Function
    task : function.task ≡ None
    there : helpers text ≡ Some (helper_of function)
    named : text ≡ function.name.text
    at : slice_get (helpers_of m) place ≡ Some function

  callee_helper : (name : List ℕ) (o : Option (List TaskOption)) (p q : ℕ) → callee_by p (task_name_by space name o) ≡ callee.Helper q → (o ≡ None) × (p ≡ q)
  callee_helper name None p q e = (refl, cc)
  callee_helper name (Some options) p q e = absurd (let no : callee_by p (task_name_by space name (Some options)) ≡ callee.Helper q = e in cc)

  callee_builtin : (name : List ℕ) (o : Option (List TaskOption)) (p : ℕ) (b : Builtin) → callee_by p (task_name_by space name o) ≡ callee.Builtin b → ⊥
  callee_builtin name None p b e = absurd (let no : callee.Helper p ≡ callee.Builtin b = e in cc)
  callee_builtin name (Some options) p b e = absurd (let no : callee_by p (task_name_by space name (Some options)) ≡ callee.Builtin b = e in cc)

  callee_special : (name : List ℕ) (o : Option (List TaskOption)) (p : ℕ) (b : Special) → callee_by p (task_name_by space name o) ≡ callee.Special b → ⊥
  callee_special name None p b e = absurd (let no : callee.Helper p ≡ callee.Special b = e in cc)
  callee_special name (Some options) p b e = absurd (let no : callee_by p (task_name_by space name (Some options)) ≡ callee.Special b = e in cc)

  none_special_by : (o : Option (List ℕ)) (p : ℕ) → special_of (callee_by p o) ≡ None
  none_special_by None p = refl
  none_special_by (Some full) p = refl

  none_special_if : (b : Bool) (c : Callee) (rest : Option Callee) → special_of c ≡ None → special_of (known rest) ≡ None → special_of (known (if b then Some c else rest)) ≡ None
  none_special_if true c rest e h = e
  none_special_if false c rest e h = h

  -- a function that is found makes nothing special
  no_function_special : (n : ℕ) (fs : List Function) (text : List ℕ) → special_of (known (function_called space n fs text)) ≡ None
  no_function_special n [] text = refl
  no_function_special n (f ∷ fs) text =
      none_special_if (bytes_eq text f.name.text) (callee_by n (task_name_by space f.name.text f.task)) (function_called space (helpers_with n f.task) fs text) (none_special_by (task_name_by space f.name.text f.task) n)
      (no_function_special (helpers_with n f.task) fs text)

  -- no function is special
  no_special : (o : Option Found) (text : List ℕ) (b : Special) → found text ≡ o → callee_in o ≡ Some (callee.Special b) → ⊥
  no_special None text b e h = absurd (let no : None ≡ Some (callee.Special b) = h in cc)
  no_special (Some f) text b e h =
      let u = located space 0 m.functions text f e in
      callee_special u.function.name.text u.function.task u.place b (sym (ap (λ x. x.callee) u.is) ∙ some_same f.callee (callee.Special b) h)

  -- no function is a builtin
  no_builtin : (o : Option Found) (text : List ℕ) (b : Builtin) → found text ≡ o → callee_in o ≡ Some (callee.Builtin b) → ⊥
  no_builtin None text b e h = absurd (let no : None ≡ Some (callee.Builtin b) = h in cc)
  no_builtin (Some f) text b e h =
      let u = located space 0 m.functions text f e in
      callee_builtin u.function.name.text u.function.task u.place b (sym (ap (λ x. x.callee) u.is) ∙ some_same f.callee (callee.Builtin b) h)

  located_helper : (text : List ℕ) (p : ℕ) (f : Found) → found text ≡ Some f → (u : Located space 0 m.functions text f) → u.function.task ≡ None → u.place ≡ p → Named text p
  located_helper text p f e u t q = record {
    function = u.function;
    task = t;
    there = ap functions.helper_at e ∙ ap (λ x. x.helper) u.is ∙ ap (λ o. functions.helper_by o u.function) t;
    named = u.named;
    at = ap (slice_get (helpers_of m)) (sym (nothing_less u.place ∙ q)) ∙ u.at t;
  }

  -- a helper that is called
  named_helper : (o : Option Found) (text : List ℕ) (p : ℕ) → found text ≡ o → callee_in o ≡ Some (callee.Helper p) → Named text p
  named_helper None text p e h = absurd (let no : None ≡ Some (callee.Helper p) = h in cc)
  named_helper (Some f) text p e h =
      let u = located space 0 m.functions text f e in
      let r = callee_helper u.function.name.text u.function.task u.place p (sym (ap (λ x. x.callee) u.is) ∙ some_same f.callee (callee.Helper p) h) in
      located_helper text p f e u r.0 r.1

  helper_name_by : (g : Function) (o : Option (List TaskOption)) (h : Helper) → functions.helper_by o g ≡ Some h → h.name ≡ g.name.text
  helper_name_by g None h e = ap (λ k. k.name) (sym (some_same (helper_of g) h e))
  helper_name_by g (Some options) h e = absurd (let no : None ≡ Some h = e in cc)

  helper_name_of : (o : Option Found) (text : List ℕ) (h : Helper) → found text ≡ o → functions.helper_at o ≡ Some h → h.name ≡ text
  helper_name_of None text h e k = absurd (let no : None ≡ Some h = k in cc)
  helper_name_of (Some f) text h e k =
      let u = located space 0 m.functions text f e in
      helper_name_by u.function u.function.task h (sym (ap (λ x. x.helper) u.is) ∙ k) ∙ sym u.named

  -- a helper has the name under which it was found
  helper_name : (text : List ℕ) (h : Helper) → helpers text ≡ Some h → h.name ≡ text
  helper_name text h k = helper_name_of (found text) text h refl k

  -- ---- the helpers of names

  abbrev PlacedIn : ℕ → List Helper → List ℕ → Helper → Type 0
  PlacedIn n hs text h = (q : ℕ) × (n ≤ q) × (place_among n hs text ≡ Some q) × (slice_get hs (q - n) ≡ Some h)

  placed_if : (n : ℕ) (k : Helper) (hs : List Helper) (text : List ℕ) (h : Helper) (b : Bool) → bytes_eq text k.name ≡ b → (text ≡ k.name → k ≡ h)
      → (bytes_eq text k.name ≡ false → (q : ℕ) × (suc n ≤ q) × (place_among (suc n) hs text ≡ Some q) × (slice_get hs (q - suc n) ≡ Some h))
      → (q : ℕ) × (n ≤ q) × ((if b then Some n else place_among (suc n) hs text) ≡ Some q) × (slice_get (k ∷ hs) (q - n) ≡ Some h)
  placed_if n k hs text h true e same more = (n, omega arith, refl, ap (slice_get (k ∷ hs)) (no_more_left n) ∙ ap Some (same ((bytes_eq-Decides text k.name).0 e)))
  placed_if n k hs text h false e same more =
      let r = more e in
      (r.0, omega (arith, r.1), r.2, ap (slice_get (k ∷ hs)) (one_more_left n r.0 r.1) ∙ r.3)

  placed_one : (n : ℕ) (x : List ℕ) (o : Option Helper) (hs : List Helper) (text : List ℕ) (h : Helper) → helpers x ≡ o → is_some o ≡ true → helpers text ≡ Some h → (bytes_eq text x ≡ false → PlacedIn (suc n) hs text h) → PlacedIn n (with_helper o hs) text h
  placed_one n x None hs text h e k t more = absurd (let no : false ≡ true = k in cc)
  placed_one n x (Some g) hs text h e k t more =
      let own : g.name ≡ x = helper_name x g e in
      placed_if n g hs text h (bytes_eq text g.name) refl (λ q. some_same g h (sym e ∙ ap helpers (sym (q ∙ own)) ∙ t)) (λ f. more (ap (bytes_eq text) (sym own) ∙ f))

  other_than : {P : Type 0} (x text : List ℕ) (names : List (List ℕ)) → (Contains names text → P) → bytes_eq text x ≡ false → (x ≡ text) ⊎ Contains names text → P
  other_than x text names more f (inl q) = absurd (let no : true ≡ false = sym ((bytes_eq-Decides text x).1 (sym q)) ∙ f in cc)
  other_than x text names more f (inr c) = more c

  -- the first helper of a name among the helpers of these names
  placed_there : (names : List (List ℕ)) (n : ℕ) (text : List ℕ) (h : Helper) → ((x : List ℕ) → Contains names x → names_helper helpers x ≡ true) → helpers text ≡ Some h → Contains names text → PlacedIn n (helpers_at helpers names) text h
  placed_there [] n text h known t c = nothing_in text c
  placed_there (x ∷ names) n text h known t c =
      placed_one n x (helpers x) (helpers_at helpers names) text h refl (known x (first x names)) t
      (λ f. other_than x text names (placed_there names (suc n) text h (λ y d. known y (later x names y d)) t) f (cases x names text c))

  -- ---- the code of one task

  module _ (f : Function) (task : TaskCode) (made : IsMade helpers callees space f task) where
    abbrev resolves : Resolves helpers callees task
    resolves = made.resolves

    abbrev names : List (List ℕ)
    names = resolves.names

    -- places of the same helper, which is reached
    record Together (p q : ℕ) : Type 0 where
      function : Function
      here : slice_get (helpers_of m) p ≡ Some function
      there : slice_get task.helpers q ≡ Some (helper_of function)
      reached : Contains names function.name.text
      is : helpers function.name.text ≡ Some (helper_of function)

    -- what a function names is among the names of the code, and each helper among its helpers
    record Complete (k : Function) : Type 0 where
      texts : (t : List ℕ) → Contains (outside (block_of k.body)) t → Contains resolves.texts t
      helped : (t : List ℕ) → Contains (outside (block_of k.body)) t → names_helper helpers t ≡ true → Contains names t

    task_complete : Complete f
    task_complete = record {
      texts = λ t c. resolves.all t (Contains-append_left (outside task.body) _ t (subst (λ b. Contains (outside b) t) (sym made.parts.bodied) c));
      helped = λ t c h. resolves.reached.first t (in_filter (names_helper helpers) (outside task.body) t h (subst (λ b. Contains (outside b) t) (sym made.parts.bodied) c));
    }

    further_is : (g : Function) → helpers g.name.text ≡ Some (helper_of g) → filter (names_helper helpers) (outside (block_of g.body)) ≡ further helpers g.name.text
    further_is g e = ap (further_of helpers) (sym e)

    helper_complete : (p q : ℕ) (w : Together p q) → Complete w.function
    helper_complete p q w =
        let g = w.function in
        record {
          texts = λ t c. resolves.all t (Contains-append_right (outside task.body) _ t (in_joined (map (λ h. outside h.block) task.helpers) (outside (block_of g.body)) t c (in_map (λ h. outside h.block) task.helpers (helper_of g) (got_in task.helpers q (helper_of g) w.there))));
          helped = λ t c h. resolves.reached.closed g.name.text t w.reached (subst (λ xs. Contains xs t) (further_is g w.is) (in_filter (names_helper helpers) (outside (block_of g.body)) t h c));
        }

    -- ---- what is called

    abbrev callee_of_use : NamedUse → Callee
    callee_of_use u = numbering.callee_by u.kind u.name u.task (place_among 0 task.helpers u.name)

    together : (text : List ℕ) (p : ℕ) → Named text p → Contains names text → (q : ℕ) × (place_among 0 task.helpers text ≡ Some q) × Together p q
    together text p w c =
        let placed = placed_there names 0 text (helper_of w.function) resolves.reached.known w.there c in (
          placed.0,
          ap (λ hs. place_among 0 hs text) resolves.there ∙ placed.2,
          record {
            function = w.function;
            here = w.at;
            there = ap (λ hs. slice_get hs placed.0) resolves.there ∙ ap (slice_get (helpers_at helpers names)) (sym (nothing_less placed.0)) ∙ placed.3;
            reached = subst (λ t. Contains names t) w.named c;
            is = ap helpers (sym w.named) ∙ w.there;
          },
        )

    helper_agrees : (text : List ℕ) (p : ℕ) → Named text p → Contains names text → IsHelperAt (Together p) (helper_at (place_among 0 task.helpers text))
    helper_agrees text p w c = let r = together text p w c in subst (λ o. IsHelperAt (Together p) (helper_at o)) (sym r.1) r.2

    is_helped : (text : List ℕ) (p : ℕ) → Named text p → names_helper helpers text ≡ true
    is_helped text p w = ap is_some w.there

    callee_agrees_by : (k : Function) → Complete k → (text : List ℕ) → Contains (outside (block_of k.body)) text → (b c : Option Callee) → built_in text ≡ b → callees text ≡ c
        → SameCallee Together (callee_or b c) (callee_of_use (use_or text b c))
    callee_agrees_by k all text d (Some (callee.Helper p)) c e h = absurd (no_helper (special_named text) (builtin_named text) p e)
    callee_agrees_by k all text d (Some (callee.Task full)) c e h = ap known e
    callee_agrees_by k all text d (Some (callee.Builtin b)) c e h = ap known e
    callee_agrees_by k all text d (Some (callee.Special b)) c e h = ap known e
    callee_agrees_by k all text d (Some callee.Unknown) c e h = ap known e
    callee_agrees_by k all text d None None e h = refl
    callee_agrees_by k all text d None (Some (callee.Task full)) e h = refl
    callee_agrees_by k all text d None (Some (callee.Helper p)) e h =
        let w = named_helper (found text) text p refl h in
        helper_agrees text p w (all.helped text d (is_helped text p w))
    callee_agrees_by k all text d None (Some (callee.Builtin b)) e h = absurd (no_builtin (found text) text b refl h)
    callee_agrees_by k all text d None (Some (callee.Special b)) e h = absurd (no_special (found text) text b refl h)
    callee_agrees_by k all text d None (Some callee.Unknown) e h = refl

    word_is : (text : List ℕ) → Contains resolves.texts text → word_in task.helpers task.names text ≡ word_or text (Some (word_by (place_among 0 task.helpers) (use_with callees text)))
    word_is text c = ap (λ us. word_or text (option_map (word_by (place_among 0 task.helpers)) (use_among us text))) resolves.uses ∙ ap (λ o. word_or text (option_map (word_by (place_among 0 task.helpers)) o)) (use_there callees resolves.texts text c)

    same_known : (text : List ℕ) → callee_of m text ≡ callee_or (built_in text) (callees text)
    same_known text = ap (callee_or (built_in text)) (sym (callee_found space 0 m.functions text))

    callee_agrees : (k : Function) → Complete k → (text : List ℕ) → Contains (outside (block_of k.body)) text → SameCallee Together (callee_of m text) (word_in task.helpers task.names text).callee
    callee_agrees k all text d =
        subst₂ (SameCallee Together) (sym (same_known text)) (sym (ap (λ w. w.callee) (word_is text (all.texts text d))))
        (callee_agrees_by k all text d (built_in text) (callees text) refl refl)

    class_agrees : (k : Function) → Complete k → (text : List ℕ) → Contains (outside (block_of k.body)) text → (word_in task.helpers task.names text).class ≡ class_named text
    class_agrees k all text d = ap (λ w. w.class) (word_is text (all.texts text d)) ∙ ap class_named (use_name callees text)

    -- ---- functions

    module _ {F : Type 0} (file : F → FileValue) where
      abbrev as_code : List Parameter → List (Statement Name) → body.Routine (List ℕ) F
      as_code ps statements = code.function_with task.helpers task.names (map parameter_of ps) (block_of statements)

      mentions_are : (k : Function) → mentions_of (function_of {F = F} m k) ≡ map plain (map (λ p. p.name) k.parameters) ++ mentions_in_block special_at k.body
      mentions_are k =
          ap (λ special. map (λ p. plain p.0) (map (parameter_with_literal {F = F}) k.parameters) ++ mentions_in_block special k.body) (fun_ext (λ x. special_callee (special_named x.text) (builtin_named x.text) (function_called space 0 m.functions x.text) (no_function_special 0 m.functions x.text)))
          ∙ ap (λ ms. ms ++ mentions_in_block special_at k.body) (plain_parameters F k.parameters)

      met : (k : Function) (r : Role) (name : Name) → is_outside r ≡ true → IsAmong (mentions_of (function_of {F = F} m k)) (named_as r name) → Contains (outside (block_of k.body)) name.text
      met k r name e u = met_outside k (mentions_in_block special_at k.body) refl (map (λ p. p.name) k.parameters) r name e (subst (λ ms. IsAmong ms (named_as r name)) (mentions_are k) u)

      renames : (k : Function) → Complete k → IsRenamed Together (function_of {F = F} m k) (as_code k.parameters k.body)
      renames k all = record {
        by = text_of;
        renames = record {
          agrees = record {
            same = λ x n u. refl;
            spelling = λ n u. refl;
            callee = λ name u. callee_agrees k all name.text (met k role.Called name refl u);
            class_of = λ name u. class_agrees k all name.text (met k role.Class name refl u);
          };
          parameters = parameters_same k.parameters;
          block = refl;
        };
      }

      at_same_places : (p q : ℕ) → Together p q → AreRenamed Together (slice_get (map (function_of {F = F} m) (helpers_of m)) p) (slice_get (map (code.helper_with {F = F} task.helpers task.names) task.helpers) q)
      at_same_places p q w =
          subst₂ (AreRenamed Together) (sym (slice_get-map (function_of m) (helpers_of m) p ∙ ap (option_map (function_of m)) w.here)) (sym (slice_get-map (code.helper_with task.helpers task.names) task.helpers q ∙ ap (option_map (code.helper_with task.helpers task.names)) w.there))
          (renames w.function (helper_complete p q w))

      as_task : IsRenamed Together (function_of {F = F} m f) (code.function_with task.helpers task.names task.signature.parameters task.body)
      as_task = subst₂ (λ ps b. IsRenamed Together (function_of {F = F} m f) (code.function_with task.helpers task.names ps b)) (sym (ap (λ x. x.parameters) made.parts.signed)) (sym made.parts.bodied) (renames f task_complete)

      -- the code means what the function means
      pub code_means : (args : List (Datum F)) → code.meaning file task args ≡ body file m f args
      code_means args =
          whole_renamed Together file (map (function_of m) (helpers_of m)) (map (code.helper_with task.helpers task.names) task.helpers) at_same_places
          (function_of m f) (code.function_with task.helpers task.names task.signature.parameters task.body) as_task args

    pub is_code : IsCodeOf m f task
    is_code = record { full_name = made.named; parameters = ap (λ x. x.parameters) made.parts.signed; block = made.parts.bodied; resolves = made.resolves; means = code_means own; at_home = gives_at_home m helpers task made.resolves }
