-- Locals with one more, and without it again.
use Rattle.std.proofs.Common.{◌≡◌, ℕ, Bool, true, false, ◌||◌, if◌then◌else◌, List, [], ◌∷◌, ◌++◌, map, refl, sym, subst, ap, ◌∙◌, length, take}
use Rattle.std.proofs.Math.Bool.{or-false}
use Rattle.std.proofs.Math.Path.{fun_ext}
use Rattle.std.proofs.Math.Seq.{take-length, take-append_seam}
use Rattle.std.specs.Str.{bytes_eq}
use Rattle.std.proofs.lemmas.Slice.Eq.{bytes_eq-Decides}
use Rattle.rd_tree.specs.declared.tree.Name.{Name}
use Rattle.rd_tree.specs.declared.tree.Node.{Node}
use Rattle.rd_tree.specs.declared.tree.Node.TheVariants as node
use Rattle.rd_names.specs.Uses.{joined}
use Rattle.rd_names.specs.Names.{Known, is_among, with_name, with_names, node_refusals}
use Rattle.rd_names.proofs.UseLayers.{and_also, node_comp}

or_last : (p q : Bool) → (p || (q || false)) ≡ (q || p)
or_last true true = refl
or_last true false = refl
or_last false true = refl
or_last false false = refl

or_again : (p q r : Bool) → (p || (q || r)) ≡ ((p || q) || r)
or_again true q r = refl
or_again false q r = refl

among_last : (ks : List (List ℕ)) (x y : List ℕ) → is_among (ks ++ x ∷ []) y ≡ (bytes_eq y x || is_among ks y)
among_last ks x y = spread ks ∙ or_last (is_among ks y) (bytes_eq y x)
  where
    spread : (ks : List (List ℕ)) → is_among (ks ++ x ∷ []) y ≡ (is_among ks y || (bytes_eq y x || false))
    spread [] = refl
    spread (k ∷ ks) = ap (λ t. bytes_eq y k || t) (spread ks) ∙ or_again (bytes_eq y k) (is_among ks y) (bytes_eq y x || false)

-- a name that is there makes no difference
among_there : (ks : List (List ℕ)) (x y : List ℕ) → is_among ks x ≡ true → is_among ks y ≡ (bytes_eq y x || is_among ks y)
among_there ks x y h = by_test (bytes_eq y x) refl
  where
    by_test : (t : Bool) → bytes_eq y x ≡ t → is_among ks y ≡ (t || is_among ks y)
    by_test true e = subst (λ (z : List ℕ). is_among ks z ≡ true) (sym ((bytes_eq-Decides y x).0 e)) h
    by_test false e = refl

pub among_with : (ks : List (List ℕ)) (x y : List ℕ) → is_among (with_name ks x) y ≡ (bytes_eq y x || is_among ks y)
among_with ks x y = by_test (is_among ks x) refl
  where
    by_test : (t : Bool) → is_among ks x ≡ t → is_among (if t then ks else ks ++ x ∷ []) y ≡ (bytes_eq y x || is_among ks y)
    by_test true e = among_there ks x y e
    by_test false e = among_last ks x y

pub also_with : (ks : List (List ℕ)) (x : List ℕ) → is_among (with_name ks x) ≡ and_also (is_among ks) x
unfolding and_also
also_with ks x = fun_ext (among_with ks x)

-- a comprehension, whose name is one local more inside it
pub node_comp_with : (f : Known) (ks : List (List ℕ)) (element : Node Name) (x : Name) (iterable : Node Name) (condition : List (Node Name)) → node_refusals f (is_among ks) (node.Comp element x iterable condition)
    ≡ node_refusals f (is_among ks) iterable ++ (node_refusals f (is_among (with_name ks x.text)) element ++ joined (map (node_refusals f (is_among (with_name ks x.text))) condition))
node_comp_with f ks element x iterable condition =
    node_comp f (is_among ks) element x iterable condition
    ∙ ap (λ inner. node_refusals f (is_among ks) iterable ++ (node_refusals f inner element ++ joined (map (node_refusals f inner) condition))) (sym (also_with ks x.text))

-- cut back to the names before the last was put
pub cut_back : (ks : List (List ℕ)) (x : List ℕ) → take (length ks) (with_name ks x) ≡ ks
cut_back ks x = by_test (is_among ks x)
  where
    by_test : (t : Bool) → take (length ks) (if t then ks else ks ++ x ∷ []) ≡ ks
    by_test true = take-length ks
    by_test false = take-append_seam ks (x ∷ [])

or_turned : (p q r : Bool) → (p || (q || r)) ≡ ((q || p) || r)
or_turned true true r = refl
or_turned true false r = refl
or_turned false true r = refl
or_turned false false r = refl

among_names : (ks xs : List (List ℕ)) (y : List ℕ) → is_among (with_names ks xs) y ≡ (is_among xs y || is_among ks y)
among_names ks [] y = refl
among_names ks (x ∷ xs) y =
    among_names (with_name ks x) xs y ∙ ap (λ t. is_among xs y || t) (among_with ks x y) ∙ or_turned (is_among xs y) (bytes_eq y x) (is_among ks y)

-- a set has the names of which it was made
pub among_all : (xs : List (List ℕ)) → is_among (with_names [] xs) ≡ is_among xs
among_all xs = fun_ext (λ y. among_names [] xs y ∙ or-false (is_among xs y))
