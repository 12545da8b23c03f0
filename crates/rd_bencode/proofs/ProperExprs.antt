-- An expression is proper where its layer and its parts are.
use Rattle.std.proofs.Common.{◌≡◌, ℕ, true, not, refl, ap, List, [], ◌∷◌, map, length}
use Rattle.std.specs.List.{list_all}
use Rattle.std.specs.Str.{IsUtf8}
use Rattle.rd_base.specs.Path.{is_path}
use Rattle.rd_value.specs.declared.class.Class.{Class}
use Rattle.rd_value.specs.declared.value.FileValue.{FileValue}
use Rattle.rd_value.specs.declared.expr.OpKind.{OpKind}
use Rattle.rd_value.specs.declared.expr.Lazy.TheViews as made
use Rattle.rd_value.specs.declared.expr.Lazy.TheVariants as expr
use Rattle.rd_value.specs.declared.expr.Lazy.TheOpen.{Lazy-F}
use Rattle.rd_value.specs.declared.expr.Lazy.TheFolds.{every_made-Lazy}
use Rattle.rd_value.proofs.Ind.{Each, EachSecond}
use Rattle.rd_bencode.specs.Values.{Value}
use Rattle.rd_bencode.specs.Exprs.{Expr, is_val}
use Rattle.rd_bencode.specs.Proper.{IsProper, IsProperExpr, IsProperExprAt, AreNew, AreTexts, AreProperKeys, arity}

abbrev Held : Type 0
Held = (e : Expr) × IsProperExpr e

held : (es : List Expr) → Each IsProperExpr es → List Held
held [] hs = []
held (e ∷ es) hs = (e, hs.0) ∷ held es hs.1

held_is : (es : List Expr) (hs : Each IsProperExpr es) → map (λ h. h.0) (held es hs) ≡ es
unfolding held
held_is [] hs = refl
held_is (e ∷ es) hs = ap (λ xs. e ∷ xs) (held_is es hs.1)

held_seconds : {K : Type 0} (ps : List (K × Expr)) → EachSecond IsProperExpr ps → List (K × Held)
held_seconds [] hs = []
held_seconds (p ∷ ps) hs = (p.0, (p.1, hs.0)) ∷ held_seconds ps hs.1

held_seconds_are : {K : Type 0} (ps : List (K × Expr)) (hs : EachSecond IsProperExpr ps) → map (λ h. (h.0, h.1.0)) (held_seconds ps hs) ≡ ps
unfolding held_seconds
held_seconds_are [] hs = refl
held_seconds_are (p ∷ ps) hs = ap (λ xs. p ∷ xs) (held_seconds_are ps hs.1)

pub proper_val : (v : Value) → IsProper v → IsProperExpr (expr.Val v)
unfolding made.roll-Lazy denote.Hole.Carrier.roll
proper_val v h = every_made-Lazy FileValue IsProperExprAt (Lazy-F.Val v) (Lazy-F.Val v) refl h

pub proper_call : (t : List ℕ) (es : List Expr) (ks : List (List ℕ × Expr)) → IsUtf8 t → AreTexts ks → Each IsProperExpr es → EachSecond IsProperExpr ks → IsProperExpr (expr.Call t es ks)
unfolding made.roll-Lazy denote.Hole.Carrier.roll
proper_call t es ks u us hs gs = every_made-Lazy FileValue IsProperExprAt (Lazy-F.Call t es ks) (Lazy-F.Call t (held es hs) (held_seconds ks gs))
    (λ i. Lazy-F.Call t (held_is es hs i) (held_seconds_are ks gs i)) (u, us)

pub proper_input : (p : List ℕ) → is_path p ≡ true → IsUtf8 p → IsProperExpr (expr.Input p)
unfolding made.roll-Lazy denote.Hole.Carrier.roll
proper_input p h u = every_made-Lazy FileValue IsProperExprAt (Lazy-F.Input p) (Lazy-F.Input p) refl (h, u)

pub proper_op : (o : OpKind) (es : List Expr) → length es ≡ arity o → Each IsProperExpr es → IsProperExpr (expr.Op o es)
unfolding made.roll-Lazy denote.Hole.Carrier.roll
proper_op o es n hs = every_made-Lazy FileValue IsProperExprAt (Lazy-F.Op o es) (Lazy-F.Op o (held es hs)) (ap (Lazy-F.Op o) (held_is es hs)) n

pub proper_list_of : (es : List Expr) → not (list_all is_val es) ≡ true → Each IsProperExpr es → IsProperExpr (expr.ListOf es)
unfolding made.roll-Lazy denote.Hole.Carrier.roll
proper_list_of es n hs = every_made-Lazy FileValue IsProperExprAt (Lazy-F.ListOf es) (Lazy-F.ListOf (held es hs)) (ap Lazy-F.ListOf (held_is es hs)) n

pub proper_dict_of : (ps : List (Value × Expr)) → AreProperKeys ps → AreNew [] ps → not (list_all (λ p. is_val p.1) ps) ≡ true → EachSecond IsProperExpr ps → IsProperExpr (expr.DictOf ps)
unfolding made.roll-Lazy denote.Hole.Carrier.roll
proper_dict_of ps ks new n hs = every_made-Lazy FileValue IsProperExprAt (Lazy-F.DictOf ps) (Lazy-F.DictOf (held_seconds ps hs)) (ap Lazy-F.DictOf (held_seconds_are ps hs)) (ks, new, n)

pub proper_cond : (a b c : Expr) → IsProperExpr a → IsProperExpr b → IsProperExpr c → IsProperExpr (expr.Cond a b c)
unfolding made.roll-Lazy denote.Hole.Carrier.roll
proper_cond a b c f g h = every_made-Lazy FileValue IsProperExprAt (Lazy-F.Cond a b c) (Lazy-F.Cond (a, f) (b, g) (c, h)) refl tt

pub proper_map : (t : List ℕ) (e : Expr) → IsUtf8 t → IsProperExpr e → IsProperExpr (expr.Map t e)
unfolding made.roll-Lazy denote.Hole.Carrier.roll
proper_map t e u h = every_made-Lazy FileValue IsProperExprAt (Lazy-F.Map t e) (Lazy-F.Map t (e, h)) refl u

pub proper_catch : (e : Expr) (c : Class) (t : List ℕ) → IsUtf8 t → IsProperExpr e → IsProperExpr (expr.Catch e c t)
unfolding made.roll-Lazy denote.Hole.Carrier.roll
proper_catch e c t u h = every_made-Lazy FileValue IsProperExprAt (Lazy-F.Catch e c t) (Lazy-F.Catch (e, h) c t) refl u
