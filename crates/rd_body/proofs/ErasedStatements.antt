-- A statement does the same with other files.
use Rattle.std.proofs.Common.{List, [], ◌∷◌, map, Option, None, Some, Ok, refl, sym, ap, ◌∙◌, subst, subst₂}
use Rattle.std.specs.List.{AllZip}
use Rattle.std.specs.Option.{option_map}
use Rattle.rd_value.specs.declared.class.Class.{Class}
use Rattle.rd_value.specs.declared.value.FileValue.{FileValue}
use Rattle.rd_value.specs.declared.value.Datum.TheVariants.{Nothing}
use Rattle.rd_value.specs.declared.expr.Lazy.{Lazy}
use Rattle.rd_value.specs.declared.expr.Lazy.TheVariants as lazy
use Rattle.rd_value.specs.Erase.{with_files_expr}
use Rattle.rd_tree.specs.declared.tree.Node.{Node}
use Rattle.rd_tree.specs.declared.tree.Statement.{Statement}
use Rattle.rd_tree.specs.declared.tree.Statement.TheViews.{roll-Statement}
use Rattle.rd_tree.specs.declared.tree.Statement.TheOpen.{Statement-F}
use Rattle.rd_tree.specs.declared.tree.Statement.TheFolds.{ind-Statement, map-Statement, fold-roll-Statement}
use Rattle.rd_interpreter.specs.State.{Part, and_then, spend, answered, in_order, each, loop}
use Rattle.rd_interpreter.specs.Held.{iterated}
use Rattle.rd_interpreter.specs.Body as body
use Rattle.rd_interpreter.specs.Body.{Routine, Calls, node, statement, statement_at, branch, branches, raising}
use Rattle.rd_body.proofs.ErasedParts.{state_with, Carries, AllCarry, then_carries, either, spend_carries, answered_carries, in_order_carries, each_carries, loop_carries}
use Rattle.rd_body.proofs.ErasedMaking.{before}
use Rattle.rd_body.proofs.ErasedAnswers.{nothing_held, raising_put}
use Rattle.rd_body.proofs.ErasedNodes.{Gives, CallsAgree, routine_with, tested_carries, iterated_carries, set_carries, node_carries}

module _ {N F G : Type 0} (h : F → G) where
  -- a statement does the same
  abbrev pub Ends : Part N F (Option (Lazy F)) → Part N G (Option (Lazy G)) → Type 0
  Ends = Carries h (option_map (with_files_expr h))

  abbrev pub AllEnd : List (Part N F (Option (Lazy F))) → List (Part N G (Option (Lazy G))) → Type 0
  AllEnd = AllCarry h (option_map (with_files_expr h))

  abbrev BranchEnds : Part N F (Lazy F) × Part N F (Option (Lazy F)) → Part N G (Lazy G) × Part N G (Option (Lazy G)) → Type 0
  BranchEnds p q = Gives h p.0 q.0 × Ends p.1 q.1

  branches_carry : (ps : List (Part N F (Lazy F) × Part N F (Option (Lazy F)))) (qs : List (Part N G (Lazy G) × Part N G (Option (Lazy G)))) (other : Part N F (Option (Lazy F))) (other' : Part N G (Option (Lazy G))) → AllZip BranchEnds ps qs → Ends other other' → Ends (branches ps other) (branches qs other')
  branches_carry [] [] other other' us w = w
  branches_carry [] (q ∷ qs) other other' us w = absurd us
  branches_carry (p ∷ ps) [] other other' us w = absurd us
  branches_carry (p ∷ ps) (q ∷ qs) other other' us w =
      then_carries h (λ b. b) (option_map (with_files_expr h)) (body.tested p.0) (body.tested q.0) _ _ (tested_carries h p.0 q.0 us.0.0)
      (λ holds t. either h (option_map (with_files_expr h)) holds _ _ _ _ (us.0.1 t) (branches_carry ps qs other other' us.1 w t))

  -- a part behind its own step, and what follows it
  stepped : {A A' B B' : Type 0} (k : A → A') (l : B → B') (p : Part N F A) (q : Part N G A') (go : A → Part N F B) (go' : A' → Part N G B')
      → Carries h k p q → ((a : A) → Carries h l (go a) (go' (k a))) → Carries h l (λ s. spend 1 s (λ t. and_then (p t) go)) (λ s. spend 1 s (λ t. and_then (q t) go'))
  stepped k l p q go go' u w = spend_carries h l 1 (λ t. and_then (p t) go) (λ t. and_then (q t) go') (then_carries h k l p q go go' u w)

module _ {N F G : Type 0} (h : F → G) (f : Routine N F) where
  abbrev other : Routine N G
  other = routine_with h f

  raise_as : (name : N) (class : Option Class) (e : Lazy F) → Ends h (body.raise f name class e) (body.raise other name class (with_files_expr h e))
  raise_as name None e = λ s. refl
  raise_as name (Some class) e = answered_carries h (option_map (with_files_expr h)) (raising class e) (raising class (with_files_expr h e)) (raising_put h (option_map (with_files_expr h)) class e)

  module _ (file : G → FileValue) (calls : Calls F) (calls' : Calls G) (agree : CallsAgree h calls calls') where
    abbrev own : F → FileValue
    own = before h file

    abbrev here_one : Statement N → Part N F (Option (Lazy F))
    here_one = statement own calls f

    abbrev there_one : Statement N → Part N G (Option (Lazy G))
    there_one = statement file calls' other

    -- a statement does the same
    abbrev pub StatementCarries : Statement N → Type 0
    StatementCarries x = Ends h (here_one x) (there_one x)

    abbrev value : Node N → Part N F (Lazy F)
    value e = node own calls f e

    abbrev other_value : Node N → Part N G (Lazy G)
    other_value e = node file calls' other e

    value_carries : (e : Node N) → Gives h (value e) (other_value e)
    value_carries e = node_carries h f file calls calls' agree e

    at_layer : (y : Statement-F N (Statement N)) → Ends h (statement_at own calls f (map-Statement N (Statement N) (Part N F (Option (Lazy F))) here_one y)) (statement_at file calls' other (map-Statement N (Statement N) (Part N G (Option (Lazy G))) there_one y))
        → StatementCarries (roll-Statement N y)
    unfolding statement
    at_layer y go =
        subst₂ (Ends h) (sym (fold-roll-Statement N (Part N F (Option (Lazy F))) (statement_at own calls f) y)) (sym (fold-roll-Statement N (Part N G (Option (Lazy G))) (statement_at file calls' other) y)) go

    abbrev Held : Type 0
    Held = (x : Statement N) × StatementCarries x

    abbrev statement_of : Held → Statement N
    statement_of x = x.0

    abbrev here : List Held → List (Part N F (Option (Lazy F)))
    here hs = map here_one (map statement_of hs)

    abbrev there : List Held → List (Part N G (Option (Lazy G)))
    there hs = map there_one (map statement_of hs)

    parts : (hs : List Held) → AllEnd h (here hs) (there hs)
    parts [] = tt
    parts (x ∷ hs) = (x.1, parts hs)

    body_carries : (hs : List Held) → Ends h (in_order (here hs)) (in_order (there hs))
    body_carries hs = in_order_carries h (with_files_expr h) (here hs) (there hs) (parts hs)

    -- the blocks of some branches
    abbrev blocks : {X Y : Type 0} → (X → Y) → List (Node N × List X) → List (Node N × List Y)
    blocks k bs = map (λ b. (b.0, map k b.1)) bs

    abbrev branches_here : List (Node N × List Held) → List (Part N F (Lazy F) × Part N F (Option (Lazy F)))
    branches_here hs = map (branch own calls f) (blocks here_one (blocks statement_of hs))

    abbrev branches_there : List (Node N × List Held) → List (Part N G (Lazy G) × Part N G (Option (Lazy G)))
    branches_there hs = map (branch file calls' other) (blocks there_one (blocks statement_of hs))

    branches_held : (hs : List (Node N × List Held)) → AllZip (BranchEnds {N = N} h) (branches_here hs) (branches_there hs)
    branches_held [] = tt
    branches_held (x ∷ hs) = ((value_carries x.0, body_carries x.1), branches_held hs)

    for_carries : (name : N) (p : Part N F (Lazy F)) (q : Part N G (Lazy G)) (turn : Part N F (Option (Lazy F))) (turn' : Part N G (Option (Lazy G))) → Gives h p q → Ends h turn turn'
        → Ends h (λ s. spend 1 s (λ t. and_then (and_then (p t) (λ e u. answered (iterated e) u)) (λ xs u. each (λ x v. turn (body.set f name (Some x) v)) xs u)))
        (λ s. spend 1 s (λ t. and_then (and_then (q t) (λ e u. answered (iterated e) u)) (λ xs u. each (λ x v. turn' (body.set other name (Some x) v)) xs u)))
    for_carries name p q turn turn' w ws =
        stepped h (map (with_files_expr h)) (option_map (with_files_expr h)) (λ t. and_then (p t) (λ e u. answered (iterated e) u)) (λ t. and_then (q t) (λ e u. answered (iterated e) u))
        (λ xs u. each (λ x v. turn (body.set f name (Some x) v)) xs u) (λ xs u. each (λ x v. turn' (body.set other name (Some x) v)) xs u) (iterated_carries h p q w)
        (each_carries h (with_files_expr h) (with_files_expr h) (λ x v. turn (body.set f name (Some x) v)) (λ x v. turn' (body.set other name (Some x) v))
        (λ x v. ap turn' (set_carries h f name (Some x) v) ∙ ws (body.set f name (Some x) v)))

    step : (y : Statement-F N Held) → StatementCarries (roll-Statement N (map-Statement N Held (Statement N) statement_of y))
    step (Statement-F.Assign name e) =
        at_layer (Statement-F.Assign name e)
        (stepped h (with_files_expr h) (option_map (with_files_expr h)) (value e) (other_value e) (λ v u. Ok (None, body.set f name (Some v) u)) (λ v u. Ok (None, body.set other name (Some v) u)) (value_carries e)
        (λ v u. ap (λ t. Ok (None, t)) (set_carries h f name (Some v) u)))
    step (Statement-F.For name e hs) = at_layer (Statement-F.For name e (map statement_of hs)) (for_carries name (value e) (other_value e) (in_order (here hs)) (in_order (there hs)) (value_carries e) (body_carries hs))
    step (Statement-F.While e hs) =
        at_layer (Statement-F.While e (map statement_of hs))
        (spend_carries h (option_map (with_files_expr h)) 1 (loop (body.tested (value e)) (in_order (here hs))) (loop (body.tested (other_value e)) (in_order (there hs)))
        (loop_carries h (with_files_expr h) (body.tested (value e)) (body.tested (other_value e)) (in_order (here hs)) (in_order (there hs)) (tested_carries h (value e) (other_value e) (value_carries e)) (body_carries hs)))
    step (Statement-F.If bs hs) =
        at_layer (Statement-F.If (blocks statement_of bs) (map statement_of hs))
        (spend_carries h (option_map (with_files_expr h)) 1 (branches (branches_here bs) (in_order (here hs))) (branches (branches_there bs) (in_order (there hs)))
        (branches_carry h (branches_here bs) (branches_there bs) (in_order (here hs)) (in_order (there hs)) (branches_held bs) (body_carries hs)))
    step (Statement-F.Return None) =
        at_layer (Statement-F.Return None)
        (spend_carries h (option_map (with_files_expr h)) 1 (λ t. Ok (Some (lazy.Val Nothing), t)) (λ t. Ok (Some (lazy.Val Nothing), t)) (λ t. ap (λ e. Ok (Some e, state_with h t)) (nothing_held h)))
    step (Statement-F.Return (Some e)) =
        at_layer (Statement-F.Return (Some e)) (stepped h (with_files_expr h) (option_map (with_files_expr h)) (value e) (other_value e) (λ v u. Ok (Some v, u)) (λ v u. Ok (Some v, u)) (value_carries e) (λ v u. refl))
    step (Statement-F.Raise name e) =
        at_layer (Statement-F.Raise name e)
        (stepped h (with_files_expr h) (option_map (with_files_expr h)) (value e) (other_value e) (λ v u. body.raise f name (f.class_of name) v u) (λ v u. body.raise other name (f.class_of name) v u) (value_carries e) (raise_as name (f.class_of name)))
    step Statement-F.Pass = at_layer Statement-F.Pass (spend_carries h (option_map (with_files_expr h)) 1 (λ t. Ok (None, t)) (λ t. Ok (None, t)) (λ t. refl))
    step (Statement-F.Expr e) =
        at_layer (Statement-F.Expr e) (stepped h (with_files_expr h) (option_map (with_files_expr h)) (value e) (other_value e) (λ v u. Ok (None, u)) (λ v u. Ok (None, u)) (value_carries e) (λ v u. refl))

    pub statement_carries : (x : Statement N) → StatementCarries x
    statement_carries = ind-Statement N StatementCarries (λ x y is. subst (λ z. StatementCarries (roll-Statement N z)) is (step y))

    statements_carry : (xs : List (Statement N)) → AllEnd h (map here_one xs) (map there_one xs)
    statements_carry [] = tt
    statements_carry (x ∷ xs) = (statement_carries x, statements_carry xs)

    -- a block
    pub block_carries : (xs : List (Statement N)) → Ends h (body.block own calls f xs) (body.block file calls' other xs)
    block_carries xs = in_order_carries h (with_files_expr h) (map here_one xs) (map there_one xs) (statements_carry xs)
