-- A statement with other names does what the statement does.
use Rattle.std.proofs.Common.{ℕ, List, [], ◌∷◌, ◌++◌, map, Option, None, Some, Ok, refl, sym, ap, ◌∙◌, subst, subst₂}
use Rattle.std.specs.List.{AllZip}
use Rattle.rd_value.specs.declared.class.Class.{Class}
use Rattle.rd_value.specs.declared.value.FileValue.{FileValue}
use Rattle.rd_value.specs.declared.value.Datum.TheVariants.{Nothing}
use Rattle.rd_value.specs.declared.expr.Lazy.{Lazy}
use Rattle.rd_value.specs.declared.expr.Lazy.TheVariants as lazy
use Rattle.rd_value.proofs.Ind.{Each}
use Rattle.rd_tree.specs.declared.tree.Node.{Node}
use Rattle.rd_tree.specs.declared.tree.Statement.{Statement}
use Rattle.rd_tree.specs.declared.tree.Statement.TheViews.{roll-Statement}
use Rattle.rd_tree.specs.declared.tree.Statement.TheOpen.{Statement-F}
use Rattle.rd_tree.specs.declared.tree.Statement.TheFolds.{ind-Statement, map-Statement, fold-roll-Statement}
use Rattle.rd_interpreter.specs.State.{Part, and_then, spend, answered, in_order, each, loop}
use Rattle.rd_interpreter.specs.Held.{iterated}
use Rattle.rd_interpreter.specs.Body as body
use Rattle.rd_interpreter.specs.Body.{Routine, Calls, node, statement, statement_at, branch, branches, raising, kind}
use Rattle.rd_names.specs.Uses.{joined}
use Rattle.rd_code.specs.declared.mention.Mention.{Mention}
use Rattle.rd_code.specs.Mentions.{plain, class, branch_mentions, mentions_in, statement_mentions_at, mentions_in_statement, mentions_in_block}
use Rattle.rd_code.specs.Renaming.{renamed, renamed_branch, renamed_statement_at, renamed_statement}
use Rattle.rd_body.specs.Renaming.{Agrees}
use Rattle.rd_body.proofs.RenamedParts.{ran_through, Carries, AllCarry, then_carries, either, spend_carries, answered_carries, in_order_carries, each_carries, loop_carries}
use Rattle.rd_body.proofs.RenamedNodes.{each_left, each_right, PairCarries, tested_carries, iterated_carries, set_carries, no_name, node_carries, SameCalls}

module _ {N M F : Type 0} (r : N → M) where
  branches_carry : (ps : List (Part N F (Lazy F) × Part N F (Option (Lazy F)))) (qs : List (Part M F (Lazy F) × Part M F (Option (Lazy F)))) (other : Part N F (Option (Lazy F))) (other' : Part M F (Option (Lazy F)))
      → AllZip (PairCarries r) ps qs → Carries r other other' → Carries r (branches ps other) (branches qs other')
  branches_carry [] [] other other' us w = w
  branches_carry [] (q ∷ qs) other other' us w = absurd us
  branches_carry (p ∷ ps) [] other other' us w = absurd us
  branches_carry (p ∷ ps) (q ∷ qs) other other' us w =
      then_carries r (body.tested p.0) (body.tested q.0) _ _ (tested_carries r p.0 q.0 us.0.0) (λ holds t. either r holds _ _ _ _ (us.0.1 t) (branches_carry ps qs other other' us.1 w t))

  -- a part behind its own step, and what follows it
  stepped : {A B : Type 0} (p : Part N F A) (q : Part M F A) (go : A → Part N F B) (go' : A → Part M F B) → Carries r p q → ((a : A) → Carries r (go a) (go' a)) → Carries r (λ s. spend 1 s (λ t. and_then (p t) go)) (λ s. spend 1 s (λ t. and_then (q t) go'))
  stepped p q go go' u w = spend_carries r 1 (λ t. and_then (p t) go) (λ t. and_then (q t) go') (then_carries r p q go go' u w)

module _ {N M F : Type 0} (At : ℕ → ℕ → Type 0) (r : N → M) (Used : Mention N → Type 0) (f : Routine N F) (g : Routine M F) (agrees : Agrees At r Used f g) where
  raise_as : (name : N) → Used (class name) → (class : Option Class) (e : Lazy F) → Carries r (body.raise f name class e) (body.raise g (r name) class e)
  raise_as name u None e = no_name At r Used f g agrees (class name) u
  raise_as name u (Some class) e = answered_carries r (raising class e)

  raise_carries : (name : N) → Used (class name) → (e : Lazy F) → Carries r (body.raise f name (f.class_of name) e) (body.raise g (r name) (g.class_of (r name)) e)
  raise_carries name u e s = raise_as name u (f.class_of name) e s ∙ ap (λ c. ran_through r (body.raise g (r name) c e s)) (sym (agrees.class_of name u))

  module _ (file : F → FileValue) (calls calls' : Calls F) (same_calls : SameCalls At calls calls') where
    abbrev Done : Type 0
    Done = Part N F (Option (Lazy F))

    abbrev DoneBehind : Type 0
    DoneBehind = Part M F (Option (Lazy F))

    abbrev before : Statement N → Done
    before = statement file calls f

    abbrev behind : Statement M → DoneBehind
    behind = statement file calls' g

    abbrev renamed_one : Statement N → Statement M
    renamed_one = renamed_statement r

    abbrev names_in : Node N → List (Mention N)
    names_in = mentions_in (kind f)

    abbrev names_at : Statement-F N (List (Mention N)) → List (Mention N)
    names_at = statement_mentions_at (kind f)

    abbrev names_in_statement : Statement N → List (Mention N)
    names_in_statement = mentions_in_statement (kind f)

    abbrev names_in_block : List (Statement N) → List (Mention N)
    names_in_block = mentions_in_block (kind f)

    abbrev branch_names : Node N × List (List (Mention N)) → List (Mention N)
    branch_names = branch_mentions (kind f)

    -- where the names are in use, a statement with other names does the same
    abbrev pub StatementCarries : Statement N → Type 0
    StatementCarries x = Each Used (names_in_statement x) → Carries r (before x) (behind (renamed_one x))

    abbrev value : Node N → Part N F (Lazy F)
    value e = node file calls f e

    abbrev value_behind : Node N → Part M F (Lazy F)
    value_behind e = node file calls' g (renamed r e)

    value_carries : (e : Node N) → Each Used (names_in e) → Carries r (value e) (value_behind e)
    value_carries e us = node_carries At r Used f g agrees file calls calls' same_calls e us

    at_layer : (y : Statement-F N (Statement N)) → (Each Used (names_at (map-Statement N (Statement N) (List (Mention N)) names_in_statement y))
        → Carries r (statement_at file calls f (map-Statement N (Statement N) Done before y)) (statement_at file calls' g (map-Statement M (Statement M) DoneBehind behind (renamed_statement_at r (map-Statement N (Statement N) (Statement M) renamed_one y)))))
        → StatementCarries (roll-Statement N y)
    unfolding statement
    at_layer y go us =
        subst₂ (Carries r) (sym (fold-roll-Statement N Done (statement_at file calls f) y))
        (sym (ap behind (fold-roll-Statement N (Statement M) (λ x. roll-Statement M (renamed_statement_at r x)) y) ∙ fold-roll-Statement M DoneBehind (statement_at file calls' g) (renamed_statement_at r (map-Statement N (Statement N) (Statement M) renamed_one y))))
        (go (subst (Each Used) (fold-roll-Statement N (List (Mention N)) names_at y) us))

    abbrev Held : Type 0
    Held = (x : Statement N) × StatementCarries x

    abbrev statement_of : Held → Statement N
    statement_of h = h.0

    abbrev here : List Held → List Done
    here hs = map before (map (λ h. h.0) hs)

    abbrev there : List Held → List DoneBehind
    there hs = map behind (map renamed_one (map (λ h. h.0) hs))

    parts : (hs : List Held) → Each Used (joined (map names_in_statement (map statement_of hs))) → AllCarry r (here hs) (there hs)
    parts [] us = tt
    parts (h ∷ hs) us = (h.1 (each_left Used (names_in_statement h.0) _ us), parts hs (each_right Used (names_in_statement h.0) _ us))

    body_carries : (hs : List Held) → Each Used (joined (map names_in_statement (map statement_of hs))) → Carries r (in_order (here hs)) (in_order (there hs))
    body_carries hs us = in_order_carries r _ _ (parts hs us)

    -- the blocks of some branches
    abbrev blocks : {X Y : Type 0} → (X → Y) → List (Node N × List X) → List (Node N × List Y)
    blocks k bs = map (λ b. (b.0, map k b.1)) bs

    abbrev blocks_behind : List (Node M × List (Statement M)) → List (Node M × List DoneBehind)
    blocks_behind bs = map (λ b. (b.0, map behind b.1)) bs

    abbrev branches_here : List (Node N × List Held) → List (Part N F (Lazy F) × Done)
    branches_here hs = map (branch file calls f) (blocks before (blocks statement_of hs))

    abbrev branches_there : List (Node N × List Held) → List (Part M F (Lazy F) × DoneBehind)
    branches_there hs = map (branch file calls' g) (blocks_behind (map (renamed_branch r) (blocks renamed_one (blocks statement_of hs))))

    branches_held : (hs : List (Node N × List Held)) → Each Used (joined (map branch_names (blocks names_in_statement (blocks statement_of hs))))
        → AllZip (PairCarries r) (branches_here hs) (branches_there hs)
    branches_held [] us = tt
    branches_held (h ∷ hs) us =
        let own = each_left Used (names_in h.0 ++ joined (map names_in_statement (map statement_of h.1))) _ us in (
          (value_carries h.0 (each_left Used (names_in h.0) _ own), body_carries h.1 (each_right Used (names_in h.0) _ own)),
          branches_held hs (each_right Used (names_in h.0 ++ joined (map names_in_statement (map statement_of h.1))) _ us),
        )

    for_carries : (name : N) (p : Part N F (Lazy F)) (q : Part M F (Lazy F)) (turn : Done) (turn' : DoneBehind) → Used (plain name) → Carries r p q → Carries r turn turn'
        → Carries r (λ s. spend 1 s (λ t. and_then (and_then (p t) (λ e u. answered (iterated e) u)) (λ xs u. each (λ x v. turn (body.set f name (Some x) v)) xs u)))
        (λ s. spend 1 s (λ t. and_then (and_then (q t) (λ e u. answered (iterated e) u)) (λ xs u. each (λ x v. turn' (body.set g (r name) (Some x) v)) xs u)))
    for_carries name p q turn turn' u w ws =
        stepped r (λ t. and_then (p t) (λ e u. answered (iterated e) u)) (λ t. and_then (q t) (λ e u. answered (iterated e) u))
        (λ xs u. each (λ x v. turn (body.set f name (Some x) v)) xs u) (λ xs u. each (λ x v. turn' (body.set g (r name) (Some x) v)) xs u) (iterated_carries r p q w)
        (each_carries r (λ x v. turn (body.set f name (Some x) v)) (λ x v. turn' (body.set g (r name) (Some x) v))
        (λ x v. ap turn (set_carries At r Used f g agrees name (Some x) u v) ∙ ws (body.set g (r name) (Some x) v)))

    step : (y : Statement-F N Held) → StatementCarries (roll-Statement N (map-Statement N Held (Statement N) statement_of y))
    step (Statement-F.Assign name e) =
        at_layer (Statement-F.Assign name e)
        (λ us. stepped r (value e) (value_behind e) (λ v u. Ok (None, body.set f name (Some v) u)) (λ v u. Ok (None, body.set g (r name) (Some v) u)) (value_carries e us.1)
        (λ v u. ap (λ t. Ok (None, t)) (set_carries At r Used f g agrees name (Some v) us.0 u)))
    step (Statement-F.For name e hs) =
        at_layer (Statement-F.For name e (map statement_of hs))
        (λ us. for_carries name (value e) (value_behind e) (in_order (here hs)) (in_order (there hs)) us.0 (value_carries e (each_left Used (names_in e) _ us.1)) (body_carries hs (each_right Used (names_in e) _ us.1)))
    step (Statement-F.While e hs) =
        at_layer (Statement-F.While e (map statement_of hs))
        (λ us. spend_carries r 1 (loop (body.tested (value e)) (in_order (here hs))) (loop (body.tested (value_behind e)) (in_order (there hs)))
        (loop_carries r (body.tested (value e)) (body.tested (value_behind e)) (in_order (here hs)) (in_order (there hs))
        (tested_carries r (value e) (value_behind e) (value_carries e (each_left Used (names_in e) _ us))) (body_carries hs (each_right Used (names_in e) _ us))))
    step (Statement-F.If bs hs) =
        at_layer (Statement-F.If (blocks statement_of bs) (map statement_of hs))
        (λ us. let names = joined (map branch_names (blocks names_in_statement (blocks statement_of bs))) in
        spend_carries r 1 (branches (branches_here bs) (in_order (here hs))) (branches (branches_there bs) (in_order (there hs)))
        (branches_carry r (branches_here bs) (branches_there bs) (in_order (here hs)) (in_order (there hs)) (branches_held bs (each_left Used names _ us)) (body_carries hs (each_right Used names _ us))))
    step (Statement-F.Return None) =
        at_layer (Statement-F.Return None) (λ us. spend_carries r 1 (λ t. Ok (Some (lazy.Val Nothing), t)) (λ t. Ok (Some (lazy.Val Nothing), t)) (λ t. refl))
    step (Statement-F.Return (Some e)) =
        at_layer (Statement-F.Return (Some e)) (λ us. stepped r (value e) (value_behind e) (λ v u. Ok (Some v, u)) (λ v u. Ok (Some v, u)) (value_carries e us) (λ v u. refl))
    step (Statement-F.Raise name e) =
        at_layer (Statement-F.Raise name e)
        (λ us. stepped r (value e) (value_behind e) (λ v u. body.raise f name (f.class_of name) v u) (λ v u. body.raise g (r name) (g.class_of (r name)) v u) (value_carries e us.1) (λ v. raise_carries name us.0 v))
    step Statement-F.Pass = at_layer Statement-F.Pass (λ us. spend_carries r 1 (λ t. Ok (None, t)) (λ t. Ok (None, t)) (λ t. refl))
    step (Statement-F.Expr e) =
        at_layer (Statement-F.Expr e) (λ us. stepped r (value e) (value_behind e) (λ v u. Ok (None, u)) (λ v u. Ok (None, u)) (value_carries e us) (λ v u. refl))

    pub statement_carries : (x : Statement N) → StatementCarries x
    statement_carries = ind-Statement N StatementCarries (λ x y is. subst (λ z. StatementCarries (roll-Statement N z)) is (step y))

    statements_carry : (xs : List (Statement N)) → Each Used (names_in_block xs) → AllCarry r (map before xs) (map behind (map renamed_one xs))
    statements_carry [] us = tt
    statements_carry (x ∷ xs) us = (statement_carries x (each_left Used (names_in_statement x) _ us), statements_carry xs (each_right Used (names_in_statement x) _ us))

    -- a block
    pub block_carries : (xs : List (Statement N)) → Each Used (names_in_block xs) → Carries r (body.block file calls f xs) (body.block file calls' g (map renamed_one xs))
    block_carries xs us = in_order_carries r _ _ (statements_carry xs us)
