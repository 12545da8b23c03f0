-- There are no refusals exactly where the rules of names are kept.
use Rattle.std.proofs.Common.{◌≡◌, inl, inr, ℕ, ◌≤◌, Bool, true, false, not, ◌&&◌, ◌||◌, if◌then◌else◌, List, [], ◌∷◌, ◌++◌, map, length, Option, None, Some, IfSome, refl, sym, ap, ◌∙◌, arith}
use Rattle.std.specs.Bool.{Decides}
use Rattle.std.specs.List.{All, AllByRecursion, Contains, IsDistinct}
use Rattle.std.specs.Str.{bytes_eq}
use Rattle.std.proofs.lemmas.Bool.Decides.{Decides-and, Decides-not, Decides-or}
use Rattle.std.proofs.lemmas.Cmp.{nat_list_eq_equiv}
use Rattle.std.proofs.lemmas.List.Elements.{All-nil, All-cons, All-head, All-tail, Contains-append_left}
use Rattle.std.proofs.lemmas.Map.Views.{Contains-from_any, list_any-from_Contains}
use Rattle.std.proofs.lemmas.Map.Made.{AllPairs-from_IsDistinct, IsDistinct-from_AllPairs}
use Rattle.std.proofs.lemmas.Slice.Eq.{bytes_eq-Decides}
use Rattle.rd_tree.specs.declared.tree.Name.{Name}
use Rattle.rd_tree.specs.declared.tree.Statement.{Statement}
use Rattle.rd_tree.specs.declared.tree.TaskOption.{TaskOption}
use Rattle.rd_tree.specs.declared.tree.Function.{Function}
use Rattle.rd_tree.specs.declared.tree.Module.{Module}
use Rattle.rd_names.specs.declared.refusal.Broken.TheVariants as b
use Rattle.rd_names.specs.declared.refusal.Refusal.{Refusal}
use Rattle.rd_names.specs.Spelling.{is_dotted}
use Rattle.rd_names.specs.Options.{is_accepted, first_space}
use Rattle.rd_names.specs.Uses.{Role, Value, Called, Misused, Class, Task, Use, joined, statement_uses, body_uses, locals}
use Rattle.rd_names.specs.Names as spec
use Rattle.rd_names.specs.Names.{Known, offered, later, builtins, error_classes, is_among, with_name, unless, double, doubles, texts, AreDistinct, IsCallable, IsLocal, KeepsRole, KeepsRule, KeepsOptions, KeepsOwn, KeepsNames, is_empty, is_callable, role_refusals, use_refusals, refusals_of, statement_refusals, option_refusals, options_refusals, function_refusals, refusals}
use Rattle.rd_names.proofs.UseLayers.{of_joined}
use Rattle.rd_names.proofs.OneMore.{among_with}

left : {P Q : Type 0} → P × Q → P
left p = p.0

right : {P Q : Type 0} → P × Q → Q
right p = p.1

-- the list is empty exactly where the fact holds
abbrev pub Clear : {X : Type 0} → List X → Type 0 → Type 0
Clear xs P = (xs ≡ [] → P) × (P → xs ≡ [])

not_nil : {X : Type 0} (x : X) (xs : List X) → x ∷ xs ≡ [] → ⊥
not_nil x xs h = let no : false ≡ true = ap is_empty h in cc

nil_both : {X : Type 0} (xs ys : List X) → xs ++ ys ≡ [] → (xs ≡ []) × (ys ≡ [])
nil_both [] ys h = (refl, h)
nil_both (x ∷ xs) ys h = absurd (not_nil x (xs ++ ys) h)

clear_both : {X : Type 0} {P Q : Type 0} (xs ys : List X) → Clear xs P → Clear ys Q → Clear (xs ++ ys) (P × Q)
clear_both xs ys p q = (λ h. let n = nil_both xs ys h in (p.0 n.0, q.0 n.1), λ k. ap (λ r. r ++ ys) (p.1 k.0) ∙ q.1 k.1)

clear_like : {X : Type 0} {P Q : Type 0} (xs : List X) → (P → Q) → (Q → P) → Clear xs P → Clear xs Q
clear_like xs f g p = (λ h. f (p.0 h), λ k. p.1 (g k))

clear_at : {X : Type 0} {P : Type 0} (xs ys : List X) → xs ≡ ys → Clear xs P → Clear ys P
clear_at xs ys e p = (λ h. p.0 (e ∙ h), λ k. sym e ∙ p.1 k)

clear_all : {X Y : Type 0} (f : X → List Y) (P : X → Type 0) → ((x : X) → Clear (f x) (P x)) → (xs : List X) → Clear (joined (map f xs)) (All P xs)
clear_all f P each [] = (λ h. All-nil P, λ k. refl)
clear_all f P each (x ∷ xs) =
    clear_like (f x ++ joined (map f xs)) (λ k. All-cons P x xs k.0 k.1) (λ k. (All-head P x xs k, All-tail P x xs k)) (clear_both (f x) (joined (map f xs)) (each x) (clear_all f P each xs))

clear_unless : {P : Type 0} (t : Bool) (r : Refusal) → Decides t P → Clear (unless t r) P
clear_unless true r d = (λ h. d.0 refl, λ k. refl)
clear_unless false r d = (λ h. absurd (not_nil r [] h), λ k. absurd (let no : false ≡ true = d.1 k in cc))

itself : (t : Bool) → Decides t (t ≡ true)
itself t = (λ h. h, λ h. h)

-- ---- names among names

same_bytes : (x y : List ℕ) → bytes_eq x y ≡ true → x ≡ y
same_bytes x y h = (bytes_eq-Decides x y).0 h

among_decides : (names : List (List ℕ)) (x : List ℕ) → Decides (is_among names x) (Contains names x)
among_decides names x = (λ h. Contains-from_any same_bytes x names h, λ h. list_any-from_Contains nat_list_eq_equiv x names h)

turned : (x y : List ℕ) → bytes_eq x y ≡ false → bytes_eq y x ≡ false
turned x y h = by_test (bytes_eq y x) refl
  where
    by_test : (t : Bool) → bytes_eq y x ≡ t → bytes_eq y x ≡ false
    by_test true e = let no : false ≡ true = sym h ∙ (bytes_eq-Decides x y).1 (sym (same_bytes y x e)) in absurd cc
    by_test false e = e

neither : (p q : Bool) → (p || q) ≡ false → (p ≡ false) × (q ≡ false)
neither true q h = absurd cc
neither false q h = (refl, h)

none_of : (p q : Bool) → p ≡ false → q ≡ false → (p || q) ≡ false
none_of true q h k = absurd cc
none_of false q h k = k

-- ---- names that stand twice

abbrev Unseen : List (List ℕ) → List Name → Type 0
Unseen ks ns = AllByRecursion (λ n. is_among ks n.text ≡ false) ns

parted : (ks : List (List ℕ)) (x : List ℕ) (ns : List Name) → Unseen (with_name ks x) ns → Unseen ks ns × AllByRecursion (λ y. bytes_eq x y ≡ false) (texts ns)
parted ks x [] h = (tt, tt)
parted ks x (n ∷ ns) h =
    let rest = parted ks x ns (right h) in
    let here = neither (bytes_eq n.text x) (is_among ks n.text) (sym (among_with ks x n.text) ∙ left h) in
    ((here.1, rest.0), (turned n.text x here.0, rest.1))

put_together : (ks : List (List ℕ)) (x : List ℕ) (ns : List Name) → Unseen ks ns → AllByRecursion (λ y. bytes_eq x y ≡ false) (texts ns) → Unseen (with_name ks x) ns
put_together ks x [] h k = tt
put_together ks x (n ∷ ns) h k = (among_with ks x n.text ∙ none_of (bytes_eq n.text x) (is_among ks n.text) (turned x n.text (left k)) (left h), put_together ks x ns (right h) (right k))

double_clear : (ks : List (List ℕ)) (n : Name) → Clear (double ks n) (is_among ks n.text ≡ false)
double_clear ks n = clear_unless (not (is_among ks n.text)) (spec.at b.DoubleName n) (opposite (is_among ks n.text))
  where
    opposite : (t : Bool) → Decides (not t) (t ≡ false)
    opposite true = (λ h. absurd cc, λ h. absurd cc)
    opposite false = (λ h. refl, λ h. refl)

doubles_clear : (ks : List (List ℕ)) (ns : List Name) → Clear (doubles ks ns) (Unseen ks ns × IsDistinct bytes_eq (texts ns))
unfolding IsDistinct
doubles_clear ks [] = (λ h. (tt, tt), λ k. refl)
doubles_clear ks (n ∷ ns) =
    clear_like (double ks n ++ doubles (with_name ks n.text) ns) (λ k. let p = parted ks n.text ns (left (right k)) in ((left k, left p), (right p, right (right k))))
    (λ k. (left (left k), (put_together ks n.text ns (right (left k)) (left (right k)), right (right k))))
    (clear_both (double ks n) (doubles (with_name ks n.text) ns) (double_clear ks n) (doubles_clear (with_name ks n.text) ns))

none_seen : (ns : List Name) → Unseen [] ns
none_seen [] = tt
none_seen (n ∷ ns) = (refl, none_seen ns)

distinct_clear : (ns : List Name) → Clear (doubles [] ns) (AreDistinct ns)
distinct_clear ns =
    clear_like (doubles [] ns) (λ k. AllPairs-from_IsDistinct bytes_eq-Decides (texts ns) (right k)) (λ k. (none_seen ns, IsDistinct-from_AllPairs bytes_eq-Decides (texts ns) k)) (doubles_clear [] ns)

-- ---- uses

empty_decides : {X : Type 0} (xs : List X) → Decides (is_empty xs) (xs ≡ [])
empty_decides [] = (λ h. refl, λ h. refl)
empty_decides (x ∷ xs) = (λ h. absurd cc, λ h. absurd (not_nil x xs h))

callable_decides : (functions : List (List ℕ)) (x : List ℕ) (keywords : List Name) → Decides (is_callable (is_among functions) x (is_empty keywords)) (IsCallable functions x keywords)
callable_decides functions x keywords = by_test (is_among builtins x) (among_decides builtins x)
  where
    may : Decides (is_among offered x && is_empty keywords) (Contains offered x × (keywords ≡ []))
    may = Decides-and (is_among offered x) (is_empty keywords) (among_decides offered x) (empty_decides keywords)

    by_test : (t : Bool) → Decides t (Contains builtins x) → Decides (if t then (is_among offered x && is_empty keywords) else is_among functions x) (IsCallable functions x keywords)
    by_test true d = (λ h. inl (may.0 h), back)
      where
        back : IsCallable functions x keywords → (is_among offered x && is_empty keywords) ≡ true
        back (inl k) = may.1 k
        back (inr k) = absurd (left k (d.0 refl))
    by_test false d = (λ h. inr (λ k. let no : false ≡ true = d.1 k in cc, (among_decides functions x).0 h), back)
      where
        back : IsCallable functions x keywords → is_among functions x ≡ true
        back (inl k) = let no : false ≡ true = d.1 (Contains-append_left offered later x (left k)) in absurd cc
        back (inr k) = (among_decides functions x).1 (right k)

-- what names of functions and of tasks tell
abbrev pub by_names : (functions tasks : List (List ℕ)) → Known
by_names functions tasks = record { is_function = is_among functions; is_task = is_among tasks }

role_clear : {local : Type 0} (functions tasks : List (List ℕ)) (t : Bool) → Decides t local → (x : Name) (r : Role) → Clear (role_refusals (by_names functions tasks) t x r) (KeepsRole functions tasks local x.text r)
role_clear functions tasks t d x Value = clear_unless t (spec.at b.UnknownName x) d
role_clear functions tasks t d x (Called keywords) =
    let known = not t && is_callable (is_among functions) x.text (is_empty keywords) in
    clear_both (unless known (spec.at b.UnknownName x)) (doubles [] keywords) (clear_unless known (spec.at b.UnknownName x) (Decides-and _ _ (Decides-not t d) (callable_decides functions x.text keywords))) (distinct_clear keywords)
role_clear functions tasks t d x (Misused keywords) = (λ h. absurd (not_nil (spec.at b.UnknownName x) (doubles [] keywords) h), λ k. absurd k)
role_clear functions tasks t d x Class = clear_unless _ (spec.at b.UnknownName x) (Decides-and _ _ (Decides-not t d) (among_decides error_classes x.text))
role_clear functions tasks t d x Task = clear_unless _ (spec.at b.UnknownName x) (Decides-and _ _ (Decides-not t d) (among_decides tasks x.text))

use_clear : (functions tasks names : List (List ℕ)) (u : Use) → Clear (use_refusals (by_names functions tasks) (is_among names) u) (KeepsRule functions tasks names u)
unfolding use_refusals
use_clear functions tasks names u =
    role_clear functions tasks (is_among u.around u.name.text || is_among names u.name.text) (Decides-or _ _ (among_decides u.around u.name.text) (among_decides names u.name.text)) u.name u.role

body_clear : (functions tasks names : List (List ℕ)) (body : List (Statement Name))
    → Clear (joined (map (statement_refusals (by_names functions tasks) (is_among names)) body)) (All (KeepsRule functions tasks names) (body_uses body))
unfolding refusals_of statement_refusals
body_clear functions tasks names body =
    let known = by_names functions tasks in
    clear_at (refusals_of known (is_among names) (body_uses body)) _ (of_joined known (is_among names) statement_uses body)
    (clear_all (use_refusals known (is_among names)) (KeepsRule functions tasks names) (use_clear functions tasks names) (body_uses body))

-- ---- functions and modules

options_clear : (task : Option (List TaskOption)) → Clear (options_refusals task) (IfSome task KeepsOptions)
options_clear None = (λ h. tt, λ k. refl)
options_clear (Some os) =
    clear_both (doubles [] (spec.option_names os)) (joined (map option_refusals os)) (distinct_clear (spec.option_names os))
    (clear_all option_refusals (λ o. is_accepted o ≡ true) (λ o. clear_unless (is_accepted o) (spec.at b.BadOption o.name) (itself (is_accepted o))) os)

own_clear : (functions tasks : List (List ℕ)) (f : Function) → Clear (function_refusals (by_names functions tasks) f) (KeepsOwn functions tasks f)
own_clear functions tasks f =
    clear_like (function_refusals (by_names functions tasks) f) (λ k. record { options = left k; parameters = left (right k); uses = right (right k) }) (λ k. (k.options, (k.parameters, k.uses)))
    (clear_both _ _ (options_clear f.task) (clear_both _ _ (distinct_clear (spec.parameter_names f.parameters)) (body_clear functions tasks (locals f) f.body)))

one_clear : (ns : List Name) → Clear (spec.second_refusals ns) (length ns ≤ 1)
one_clear [] = (λ h. omega arith, λ k. refl)
one_clear (n ∷ []) = (λ h. omega arith, λ k. refl)
one_clear (n ∷ m ∷ ns) = (λ h. absurd (not_nil (spec.at b.DoubleName m) (map (spec.at b.DoubleName) ns) h), λ k. absurd (omega (arith, k)))

dotted_clear : (ns : List Name) → Clear (joined (map spec.namespace_refusals ns)) (All (λ n. is_dotted n.text ≡ true) ns)
dotted_clear ns = clear_all spec.namespace_refusals (λ n. is_dotted n.text ≡ true) (λ n. clear_unless (is_dotted n.text) (spec.at b.BadOption n) (itself (is_dotted n.text))) ns

free_clear : (fs : List Function) → Clear (joined (map spec.taken_refusals fs)) (All (λ f. spec.IsFree f.name) fs)
free_clear fs =
    clear_all spec.taken_refusals (λ f. spec.IsFree f.name) (
    λ f. clear_unless (spec.is_free f.name.text) (spec.at b.DoubleName f.name) (Decides-and _ _ (Decides-not _ (among_decides builtins f.name.text)) (Decides-not _ (among_decides error_classes f.name.text)))
    ) fs

-- the law: no refusals exactly where the names of a module keep the rules
pub no_refusals : (m : Module) → Clear (refusals m) (KeepsNames m)
no_refusals m =
    let functions = texts (spec.function_names m.functions) in
    let tasks = spec.own_tasks m.functions in
    clear_like (refusals m)
    (λ k. record {
      one_namespace = left k;
      dotted_namespaces = left (right k);
      distinct_functions = left (right (right k));
      free_functions = left (right (right (right k)));
      distinct_tasks = left (right (right (right (right k))));
      each = right (right (right (right (right k))));
    }) (λ k. (k.one_namespace, (k.dotted_namespaces, (k.distinct_functions, (k.free_functions, (k.distinct_tasks, k.each))))))
    (clear_both _ _ (one_clear m.namespaces) (clear_both _ _ (dotted_clear m.namespaces) (clear_both _ _ (distinct_clear (spec.function_names m.functions)) (clear_both _ _ (free_clear m.functions)
    (clear_both _ _ (distinct_clear (spec.task_names (first_space m.namespaces) m.functions)) (clear_all (function_refusals (by_names functions tasks)) (KeepsOwn functions tasks) (own_clear functions tasks) m.functions))))))

-- a list that has an element isn't empty
pub has_some : {X : Type 0} (xs : List X) (x : X) → Contains xs x → xs ≡ [] → ⊥
has_some [] x h e = omega (arith, h.1)
has_some (y ∷ xs) x h e = not_nil y xs e

pub if_any : {X : Type 0} (o : Option X) (P : Type 0) → P → IfSome o (λ x. P)
if_any None P p = tt
if_any (Some x) P p = p
