-- What a block of statements gives names no other tasks than the function does.
use Rattle.std.proofs.Common.{◌≡◌, ℕ, List, [], ◌∷◌, map, Option, None, Some, Result, Ok, Err, sym, subst}
use Rattle.rd_value.specs.declared.class.Class.{Class}
use Rattle.rd_value.specs.declared.value.ErrorValue.{ErrorValue}
use Rattle.rd_value.specs.declared.value.FileValue.{FileValue}
use Rattle.rd_value.specs.declared.value.Datum.{Datum}
use Rattle.rd_value.specs.declared.value.Datum.TheVariants as value
use Rattle.rd_value.specs.declared.expr.Lazy.{Lazy}
use Rattle.rd_value.specs.declared.expr.Lazy.TheVariants as lazy
use Rattle.rd_value.proofs.Ind.{Each}
use Rattle.rd_tree.specs.declared.tree.Node.{Node}
use Rattle.rd_tree.specs.declared.tree.Statement.{Statement}
use Rattle.rd_tree.specs.declared.tree.Statement.TheViews.{roll-Statement}
use Rattle.rd_tree.specs.declared.tree.Statement.TheOpen.{Statement-F}
use Rattle.rd_tree.specs.declared.tree.Statement.TheFolds.{ind-Statement, map-Statement, fold-roll-Statement}
use Rattle.rd_routine.specs.declared.routine.Callee.TheVariants as callee
use Rattle.rd_interpreter.specs.State.{Part, and_then, answered, in_order, each, loop}
use Rattle.rd_interpreter.specs.Held.{settled, iterated}
use Rattle.rd_interpreter.specs.Builtins.{then_}
use Rattle.rd_interpreter.specs.Methods.{text_of}
use Rattle.rd_interpreter.specs.Body as body
use Rattle.rd_interpreter.specs.Body.{Routine, Calls, raised_text, raising, node, statement, statement_at}
use Rattle.rd_body.proofs.HomeParts.{IfThere, IfFound, Anything, Keeps, then_keeps, either, spend_keeps, answered_keeps, in_order_keeps, each_keeps, loop_keeps}
use Rattle.rd_body.proofs.HomeMakings.{Home, home_val}
use Rattle.rd_body.proofs.HomeNodes.{HomeCalls, Gives, tested_keeps, iterated_keeps, set_safe, node_gives}

raised_fails : {A : Type 0} (P : A → Type 0) (class : Class) (o : Option (List ℕ)) → IfFound P (raised_text class o)
raised_fails P class None = tt
raised_fails P class (Some t) = tt

raising_by : {A F : Type 0} (P : A → Type 0) (class : Class) (x : Result (Datum F) ErrorValue) → IfFound P (then_ x (λ v. raised_text class (text_of v)))
raising_by P class (Ok v) = raised_fails P class (text_of v)
raising_by P class (Err e) = tt

module _ (N F : Type 0) (IsTask : List ℕ → Type 0) (f : Routine N F) (file : F → FileValue) (calls : Calls F) (tasks : (name : N) (task : List ℕ) → f.callee name ≡ callee.Task task → IsTask task) (fine : HomeCalls F IsTask calls) where
  abbrev Own : Lazy F → Type 0
  Own = Home F IsTask

  abbrev Ends : Part N F (Option (Lazy F)) → Type 0
  Ends = Keeps {N = N} Own (IfThere Own)

  abbrev meant : Node N → Part N F (Lazy F)
  meant = node file calls f

  gives : (e : Node N) → Gives N F IsTask (meant e)
  gives = node_gives N F IsTask f file calls tasks fine

  abbrev done : Statement N → Part N F (Option (Lazy F))
  done = statement file calls f

  abbrev StatementEnds : Statement N → Type 0
  StatementEnds x = Ends (done x)

  at_layer : (y : Statement-F N (Statement N)) → Ends (statement_at file calls f (map-Statement N (Statement N) (Part N F (Option (Lazy F))) done y)) → StatementEnds (roll-Statement N y)
  unfolding statement
  at_layer y u = subst Ends (sym (fold-roll-Statement N (Part N F (Option (Lazy F))) (statement_at file calls f) y)) u

  abbrev Held : Type 0
  Held = (x : Statement N) × StatementEnds x

  abbrev statement_of : Held → Statement N
  statement_of h = h.0

  abbrev blocks : {L X Y : Type 0} → (X → Y) → List (L × List X) → List (L × List Y)
  blocks k bs = map (λ b. (b.0, map k b.1)) bs

  parts : (hs : List Held) → Each Ends (map done (map statement_of hs))
  parts [] = tt
  parts (h ∷ hs) = (h.1, parts hs)

  body_ends : (hs : List Held) → Ends (in_order (map done (map statement_of hs)))
  body_ends hs = in_order_keeps Own Own (map done (map statement_of hs)) (parts hs)

  branches_end : (bs : List (Node N × List Held)) (other : Part N F (Option (Lazy F))) → Ends other → Ends (body.branches (map (body.branch file calls f) (blocks done (blocks statement_of bs))) other)
  branches_end [] other w = w
  branches_end (b ∷ bs) other w =
      then_keeps Own Anything (IfThere Own) (body.tested (meant b.0)) _ (tested_keeps N F IsTask (meant b.0) (gives b.0))
      (λ holds x s h. either Own (IfThere Own) holds (in_order (map done (map statement_of b.1)) s) _ (body_ends b.1 s h) (branches_end bs other w s h))

  raise_ends : (name : N) (o : Option Class) (e : Lazy F) → Ends (body.raise f name o e)
  raise_ends name None e = λ s h. tt
  raise_ends name (Some class) e = answered_keeps Own (IfThere Own) (raising class e) (raising_by (IfThere Own) class (settled e))

  step : (y : Statement-F N Held) → StatementEnds (roll-Statement N (map-Statement N Held (Statement N) statement_of y))
  step (Statement-F.Assign name e) =
      at_layer (Statement-F.Assign name e)
      (spend_keeps Own (IfThere Own) 1 (λ t. and_then (meant e t) (λ v u. Ok (None, body.set f name (Some v) u))) (then_keeps Own Own (IfThere Own) (meant e) _ (gives e) (λ v w s h. (tt, set_safe N F IsTask f name (Some v) s w h))))
  step (Statement-F.For name e hs) =
      at_layer (Statement-F.For name e (map statement_of hs))
      (spend_keeps Own (IfThere Own) 1 (λ t. and_then (and_then (meant e t) (λ e u. answered (iterated e) u)) (λ xs u. each (λ x v. in_order (map done (map statement_of hs)) (body.set f name (Some x) v)) xs u))
      (then_keeps Own (Each Own) (IfThere Own) (λ t. and_then (meant e t) (λ e u. answered (iterated e) u)) _ (iterated_keeps N F IsTask (meant e) (gives e))
      (λ xs ws. each_keeps Own Own Own (λ x v. in_order (map done (map statement_of hs)) (body.set f name (Some x) v)) (λ x w s h. body_ends hs (body.set f name (Some x) s) (set_safe N F IsTask f name (Some x) s w h)) xs ws)))
  step (Statement-F.While e hs) =
      at_layer (Statement-F.While e (map statement_of hs))
      (spend_keeps Own (IfThere Own) 1 (loop (body.tested (meant e)) (in_order (map done (map statement_of hs)))) (loop_keeps Own Own (body.tested (meant e)) (in_order (map done (map statement_of hs))) (tested_keeps N F IsTask (meant e) (gives e)) (body_ends hs)))
  step (Statement-F.If bs hs) =
      at_layer (Statement-F.If (blocks statement_of bs) (map statement_of hs))
      (spend_keeps Own (IfThere Own) 1 (body.branches (map (body.branch file calls f) (blocks done (blocks statement_of bs))) (in_order (map done (map statement_of hs)))) (branches_end bs (in_order (map done (map statement_of hs))) (body_ends hs)))
  step (Statement-F.Return None) = at_layer (Statement-F.Return None) (spend_keeps Own (IfThere Own) 1 (λ t. Ok (Some (lazy.Val value.Nothing), t)) (λ s h. (home_val F IsTask value.Nothing, h)))
  step (Statement-F.Return (Some e)) =
      at_layer (Statement-F.Return (Some e)) (spend_keeps Own (IfThere Own) 1 (λ t. and_then (meant e t) (λ v u. Ok (Some v, u))) (then_keeps Own Own (IfThere Own) (meant e) _ (gives e) (λ v w s h. (w, h))))
  step (Statement-F.Raise name e) =
      at_layer (Statement-F.Raise name e)
      (spend_keeps Own (IfThere Own) 1 (λ t. and_then (meant e t) (λ e u. body.raise f name (f.class_of name) e u)) (then_keeps Own Own (IfThere Own) (meant e) _ (gives e) (λ v w. raise_ends name (f.class_of name) v)))
  step Statement-F.Pass = at_layer Statement-F.Pass (spend_keeps Own (IfThere Own) 1 (λ t. Ok (None, t)) (λ s h. (tt, h)))
  step (Statement-F.Expr e) =
      at_layer (Statement-F.Expr e) (spend_keeps Own (IfThere Own) 1 (λ t. and_then (meant e t) (λ v u. Ok (None, u))) (then_keeps Own Own (IfThere Own) (meant e) _ (gives e) (λ v w s h. (tt, h))))

  statement_ends : (x : Statement N) → StatementEnds x
  statement_ends = ind-Statement N StatementEnds (λ x y is. subst (λ z. StatementEnds (roll-Statement N z)) is (step y))

  each_ends : (xs : List (Statement N)) → Each Ends (map done xs)
  each_ends [] = tt
  each_ends (x ∷ xs) = (statement_ends x, each_ends xs)

  pub block_ends : (xs : List (Statement N)) → Ends (body.block file calls f xs)
  block_ends xs = in_order_keeps Own Own (map done xs) (each_ends xs)
