-- Names that stand twice, along a walk.
use Rattle.std.proofs.Common.{◌≡◌, ℕ, ◌<◌, ◌+◌, List, [], ◌∷◌, ◌++◌, length, drop, get_or, Option, refl, sym, ap, ◌∙◌, append_assoc}
use Rattle.std.proofs.lemmas.List.{drop_more}
use Rattle.rd_tree.specs.declared.tree.Name.{Name}
use Rattle.rd_tree.specs.declared.tree.Function.{Function}
use Rattle.rd_names.specs.declared.refusal.Refusal.{Refusal}
use Rattle.rd_names.specs.Options.{task_name}
use Rattle.rd_names.specs.Names.{texts, double, doubles, with_name, with_names, task_names}

pub doubles_both : (ks : List (List ℕ)) (ms ns : List Name) → doubles ks (ms ++ ns) ≡ doubles ks ms ++ doubles (with_names ks (texts ms)) ns
doubles_both ks [] ns = refl
doubles_both ks (m ∷ ms) ns =
    let later = with_name ks m.text in
    ap (λ rest. double ks m ++ rest) (doubles_both later ms ns) ∙ sym (append_assoc (double ks m) (doubles later ms) (doubles (with_names later (texts ms)) ns))

-- a walk over functions that is one task on
pub tasks_on : (space : Option (List ℕ)) (fs : List Function) (i : ℕ) (f : Function) (seen next : List (List ℕ)) (s t w : List Refusal) → i < length fs → f ≡ get_or fs i f
    → next ≡ with_names seen (texts (task_name space f)) → t ≡ s ++ doubles seen (task_name space f) → s ++ doubles seen (task_names space (drop i fs)) ≡ w
    → t ++ doubles next (task_names space (drop (i + 1) fs)) ≡ w
tasks_on space fs i f seen next s t w lt is grown step before =
    let rest = task_names space (drop (i + 1) fs) in
    let here = task_name space f in
    let opened : task_names space (drop i fs) ≡ here ++ rest = ap (λ ys. task_names space ys) (drop_more fs i f lt) ∙ ap (λ y. task_name space y ++ rest) (sym is) in
    ap (λ k. k ++ doubles next rest) step ∙ append_assoc s (doubles seen here) (doubles next rest) ∙ ap (λ ks. s ++ (doubles seen here ++ doubles ks rest)) grown
    ∙ ap (λ k. s ++ k) (sym (doubles_both seen here rest)) ∙ ap (λ ns. s ++ doubles seen ns) (sym opened) ∙ before
