-- What a node or a statement means whose parts are pairs.
use Rattle.std.proofs.Common.{◌≡◌, ◌⊎◌, inl, inr, ℕ, true, List, map, Some, Option, Ok, sym, ap, ◌∙◌}
use Rattle.std.specs.Prelude.{nat_le}
use Rattle.rd_value.specs.declared.value.FileValue.{FileValue}
use Rattle.rd_value.specs.declared.expr.Lazy.{Lazy}
use Rattle.rd_tree.specs.declared.tree.Operator.{Operator}
use Rattle.rd_tree.specs.declared.tree.Node.{Node}
use Rattle.rd_tree.specs.declared.tree.Node.TheViews as made
use Rattle.rd_tree.specs.declared.tree.Node.TheVariants as variant
use Rattle.rd_tree.specs.declared.tree.Node.TheOpen.{Node-F}
use Rattle.rd_tree.specs.declared.tree.Statement.{Statement}
use Rattle.rd_tree.specs.declared.tree.Statement.TheViews as made_statement
use Rattle.rd_tree.specs.declared.tree.Statement.TheVariants as variant_statement
use Rattle.rd_tree.specs.declared.tree.Statement.TheOpen.{Statement-F}
use Rattle.rd_tree.specs.declared.tree.Statement.TheFolds.{fold-roll-Statement}
use Rattle.rd_routine.specs.declared.special.Form.{Form as Read}
use Rattle.rd_routine.specs.declared.special.Form.TheVariants as read
use Rattle.rd_routine.specs.Forms.{Form, Plain, Wrong, held, name_alone, form_of, form_with}
use Rattle.rd_interpreter.specs.declared.scope.Scope.{Scope}
use Rattle.rd_interpreter.specs.State.{State, Part, took, spend, and_then, answered, each}
use Rattle.rd_interpreter.specs.Held.{iterated}
use Rattle.rd_interpreter.specs.Body as body
use Rattle.rd_interpreter.specs.Body.{kind, call, form, formed, statement, statement_at, operators, chain, shown_pairs, comprehended, branches}
use Rattle.rd_interpreter.specs.Running.{own, put, meant, done, all_done, branch_in, calls_in, function_in}
use Rattle.rd_interpreter.proofs.Layers.{other_layer, node_dict, node_comp, node_call}
use Rattle.rd_interpreter.proofs.Operands.{operators_map}

abbrev Meaning : Type 0
Meaning = Part ℕ FileValue (Lazy FileValue)

abbrev Doing : Type 0
Doing = Part ℕ FileValue (Option (Lazy FileValue))

-- behind steps that were taken
pub spent : {A : Type 0} (n : ℕ) (s t : State ℕ FileValue) (go : Part ℕ FileValue A) → nat_le n s.left ≡ true → t ≡ took n s → spend n s go ≡ go t
spent n s t go h e = rw h (ap go (sym e))

module _ (k : Scope) where
  abbrev links_of : List (Operator × Node ℕ) → List (Operator × Meaning)
  links_of rest = map (λ l. (l.0, meant k l.1)) rest

  abbrev pairs_of : List (Node ℕ × Node ℕ) → List (Meaning × Meaning)
  pairs_of pairs = map (λ p. (meant k p.0, meant k p.1)) pairs

  abbrev keywords_of : List (ℕ × Node ℕ) → List (ℕ × Meaning)
  keywords_of keywords = map (λ w. (w.0, meant k w.1)) keywords

  abbrev called_part : ℕ → List (Node ℕ) → List (ℕ × Node ℕ) → Meaning
  called_part name positional keywords =
      formed own (calls_in k) (function_in k) (form own (calls_in k) (function_in k) name positional keywords) name (map (meant k) positional) (keywords_of keywords)

  abbrev blocks_of : List (Node ℕ × List (Statement ℕ)) → List (Node ℕ × List Doing)
  blocks_of bs = map (λ b. (b.0, map (done k) b.1)) bs

  -- ---- the form of a call

  abbrev read_form : ℕ → List (Node ℕ) → List (ℕ × Node ℕ) → Form ℕ (Node ℕ)
  read_form name positional keywords = form_of name_alone (kind (function_in k) name) positional keywords

  pub formed_by : (name : ℕ) (positional : List (Node ℕ)) (keywords : List (ℕ × Node ℕ)) (c : Form ℕ (Node ℕ)) (s : State ℕ FileValue) → read_form name positional keywords ≡ c
      → called_part name positional keywords s ≡ formed own (calls_in k) (function_in k) (form_with (λ n. n) (meant k) c) name (map (meant k) positional) (keywords_of keywords) s
  formed_by name positional keywords c s e = ap (λ c. formed own (calls_in k) (function_in k) (form_with (λ n. n) (meant k) c) name (map (meant k) positional) (keywords_of keywords) s) e

  pub formed_plain : (name : ℕ) (positional : List (Node ℕ)) (keywords : List (ℕ × Node ℕ)) (c : Read ℕ) (s : State ℕ FileValue) → read_form name positional keywords ≡ held c → (c ≡ read.Plain) ⊎ (c ≡ read.Wrong)
      → called_part name positional keywords s ≡ call own (calls_in k) (function_in k) name (map (meant k) positional) (keywords_of keywords) s
  formed_plain name positional keywords c s e (inl w) = formed_by name positional keywords Plain s (e ∙ ap held w)
  formed_plain name positional keywords c s e (inr w) = formed_by name positional keywords Wrong s (e ∙ ap held w)

  module _ (x : Node ℕ) (s : State ℕ FileValue) where
    pub at_Chain : (first : Node ℕ) (rest : List (Operator × Node ℕ)) → x ≡ variant.Chain first rest → meant k x s ≡ spend (operators rest) s (chain own (meant k first) (links_of rest))
    unfolding made.roll-Node denote.Hole.Carrier.roll
    at_Chain first rest e =
        ap (λ y. meant k y s) e ∙ ap (λ part. part s) (other_layer own (calls_in k) (function_in k) (Node-F.Chain first rest) tt)
        ∙ ap (λ n. spend n s (chain own (meant k first) (links_of rest))) (operators_map (λ l. (l.0, meant k l.1)) rest)

    pub at_Dict : (pairs : List (Node ℕ × Node ℕ)) → x ≡ variant.Dict pairs → meant k x s ≡ spend 1 s (shown_pairs own (pairs_of pairs))
    at_Dict pairs e = ap (λ y. meant k y s) e ∙ node_dict own (calls_in k) (function_in k) pairs s

    pub at_Call : (name : ℕ) (positional : List (Node ℕ)) (keywords : List (ℕ × Node ℕ)) → x ≡ variant.Call name positional keywords → meant k x s ≡ spend 1 s (called_part name positional keywords)
    at_Call name positional keywords e = ap (λ y. meant k y s) e ∙ node_call own (calls_in k) (function_in k) name positional keywords s

    pub at_Comp : (part : Node ℕ) (name : ℕ) (iterable : Node ℕ) (conditions : List (Node ℕ)) → x ≡ variant.Comp part name iterable conditions
        → meant k x s ≡ spend 1 s (comprehended own (calls_in k) (function_in k) (meant k part) name (meant k iterable) (map (meant k) conditions))
    at_Comp part name iterable conditions e = ap (λ y. meant k y s) e ∙ node_comp own (calls_in k) (function_in k) part name iterable conditions s

  module _ (x : Statement ℕ) (s : State ℕ FileValue) where
    pub at_If : (bs : List (Node ℕ × List (Statement ℕ))) (other : List (Statement ℕ)) → x ≡ variant_statement.If bs other → done k x s ≡ spend 1 s (branches (map (branch_in k) (blocks_of bs)) (all_done k other))
    unfolding statement made_statement.roll-Statement denote.Hole.Carrier.roll
    at_If bs other e = ap (λ y. done k y s) e ∙ ap (λ part. part s) (fold-roll-Statement ℕ Doing (statement_at own (calls_in k) (function_in k)) (Statement-F.If bs other))

    pub at_For : (name : ℕ) (iterable : Node ℕ) (block : List (Statement ℕ)) → x ≡ variant_statement.For name iterable block
        → done k x s ≡ spend 1 s (λ t. and_then (and_then (meant k iterable t) (λ e u. answered (iterated e) u)) (λ xs u. each (λ y v. all_done k block (body.set (function_in k) name (Some y) v)) xs u))
    unfolding statement made_statement.roll-Statement denote.Hole.Carrier.roll
    at_For name iterable block e = ap (λ y. done k y s) e ∙ ap (λ part. part s) (fold-roll-Statement ℕ Doing (statement_at own (calls_in k) (function_in k)) (Statement-F.For name iterable block))

  -- ---- behind the step

  module _ (x : Node ℕ) (s t : State ℕ FileValue) (enough : nat_le 1 s.left ≡ true) (taken : t ≡ took 1 s) where
    pub on_Dict : (pairs : List (Node ℕ × Node ℕ)) → x ≡ variant.Dict pairs → meant k x s ≡ shown_pairs own (pairs_of pairs) t
    on_Dict pairs e = at_Dict x s pairs e ∙ spent 1 s t (shown_pairs own (pairs_of pairs)) enough taken

    pub on_Call : (name : ℕ) (positional : List (Node ℕ)) (keywords : List (ℕ × Node ℕ)) → x ≡ variant.Call name positional keywords → meant k x s ≡ called_part name positional keywords t
    on_Call name positional keywords e = at_Call x s name positional keywords e ∙ spent 1 s t (called_part name positional keywords) enough taken

    pub on_Comp : (part : Node ℕ) (name : ℕ) (iterable : Node ℕ) (conditions : List (Node ℕ)) → x ≡ variant.Comp part name iterable conditions
        → meant k x s ≡ comprehended own (calls_in k) (function_in k) (meant k part) name (meant k iterable) (map (meant k) conditions) t
    on_Comp part name iterable conditions e =
        at_Comp x s part name iterable conditions e ∙ spent 1 s t (comprehended own (calls_in k) (function_in k) (meant k part) name (meant k iterable) (map (meant k) conditions)) enough taken

  module _ (x : Statement ℕ) (s t : State ℕ FileValue) (enough : nat_le 1 s.left ≡ true) (taken : t ≡ took 1 s) where
    pub on_If : (bs : List (Node ℕ × List (Statement ℕ))) (other : List (Statement ℕ)) → x ≡ variant_statement.If bs other → done k x s ≡ branches (map (branch_in k) (blocks_of bs)) (all_done k other) t
    on_If bs other e = at_If x s bs other e ∙ spent 1 s t (branches (map (branch_in k) (blocks_of bs)) (all_done k other)) enough taken

    pub on_For : (name : ℕ) (iterable : Node ℕ) (block : List (Statement ℕ)) → x ≡ variant_statement.For name iterable block → (xs : List (Lazy FileValue)) (u : State ℕ FileValue)
        → and_then (meant k iterable t) (λ e v. answered (iterated e) v) ≡ Ok (xs, u) → done k x s ≡ each (λ y v. all_done k block (put name (Some y) v)) xs u
    on_For name iterable block e xs u got =
        at_For x s name iterable block e
        ∙ spent 1 s t (λ t. and_then (and_then (meant k iterable t) (λ e u. answered (iterated e) u)) (λ xs u. each (λ y v. all_done k block (body.set (function_in k) name (Some y) v)) xs u)) enough taken
        ∙ ap (λ r. and_then r (λ xs u. each (λ y v. all_done k block (put name (Some y) v)) xs u)) got
