-- Which expressions are operations.
use Rattle.std.proofs.Common.{◌≡◌, ℕ, true, List, refl, sym, subst}
use Rattle.std.proofs.lemmas.Bool.{false≢true}
use Rattle.rd_value.specs.declared.value.FileValue.{FileValue}
use Rattle.rd_value.specs.declared.value.Datum.{Datum}
use Rattle.rd_tree.specs.declared.tree.Name.{Name}
use Rattle.rd_tree.specs.declared.tree.Operator.{Operator}
use Rattle.rd_tree.specs.declared.tree.Comparison.{Comparison}
use Rattle.rd_tree.specs.declared.tree.Node.{Node, out-Node, roll-out-Node}
use Rattle.rd_tree.specs.declared.tree.Node.TheVariants as node
use Rattle.rd_tree.specs.declared.tree.Node.TheViews as made_node
use Rattle.rd_tree.specs.declared.tree.Node.TheOpen.{Node-F}
use Rattle.rd_names.specs.Uses.{is_operation, is_operation_at}

-- no expression of a kind that is no operation
pub record NoOther (n : Node Name) : Type 0 where
  pub lit : (v : Datum FileValue) → n ≡ node.Lit v → ⊥
  pub name : (x : Name) → n ≡ node.Name x → ⊥
  pub call : (x : Name) (positional : List (Node Name)) (keywords : List (Name × Node Name)) → n ≡ node.Call x positional keywords → ⊥
  pub conjunction : (xs : List (Node Name)) → n ≡ node.And xs → ⊥
  pub disjunction : (xs : List (Node Name)) → n ≡ node.Or xs → ⊥
  pub list : (xs : List (Node Name)) → n ≡ node.List xs → ⊥
  pub dict : (ps : List (Node Name × Node Name)) → n ≡ node.Dict ps → ⊥
  pub comprehension : (element : Node Name) (x : Name) (iterable : Node Name) (condition : List (Node Name)) → n ≡ node.Comp element x iterable condition → ⊥

other_layer : (l : Node-F Name (Node Name)) → NoOther (made_node.roll-Node Name l) → is_operation_at l ≡ true
unfolding made_node.roll-Node denote.Hole.Carrier.roll
other_layer (Node-F.Lit v) none = absurd (none.lit v refl)
other_layer (Node-F.Name x) none = absurd (none.name x refl)
other_layer (Node-F.Call x positional keywords) none = absurd (none.call x positional keywords refl)
other_layer (Node-F.And xs) none = absurd (none.conjunction xs refl)
other_layer (Node-F.Or xs) none = absurd (none.disjunction xs refl)
other_layer (Node-F.List xs) none = absurd (none.list xs refl)
other_layer (Node-F.Dict ps) none = absurd (none.dict ps refl)
other_layer (Node-F.Comp element x iterable condition) none = absurd (none.comprehension element x iterable condition refl)
other_layer l none = refl

-- what is of no other kind is an operation
pub is_one : (n : Node Name) → NoOther n → is_operation n ≡ true
is_one n none = other_layer (out-Node Name n) (subst NoOther (sym (roll-out-Node Name n)) none)

-- no operation
pub record NoOperation (n : Node Name) : Type 0 where
  pub method : (receiver : Node Name) (name : List ℕ) (arguments : List (Node Name)) → n ≡ node.Method receiver name arguments → ⊥
  pub index : (receiver index : Node Name) → n ≡ node.Index receiver index → ⊥
  pub path : (part : Node Name) → n ≡ node.Path part → ⊥
  pub negative : (part : Node Name) → n ≡ node.Neg part → ⊥
  pub inversion : (part : Node Name) → n ≡ node.Not part → ⊥
  pub chain : (first : Node Name) (rest : List (Operator × Node Name)) → n ≡ node.Chain first rest → ⊥
  pub comparison : (operator : Comparison) (left right : Node Name) → n ≡ node.Compare operator left right → ⊥
  pub choice : (test when_true when_false : Node Name) → n ≡ node.Cond test when_true when_false → ⊥

operation_layer : (l : Node-F Name (Node Name)) → NoOperation (made_node.roll-Node Name l) → is_operation_at l ≡ true → ⊥
unfolding made_node.roll-Node denote.Hole.Carrier.roll
operation_layer (Node-F.Method receiver name arguments) none h = none.method receiver name arguments refl
operation_layer (Node-F.Index receiver index) none h = none.index receiver index refl
operation_layer (Node-F.Path part) none h = none.path part refl
operation_layer (Node-F.Neg part) none h = none.negative part refl
operation_layer (Node-F.Not part) none h = none.inversion part refl
operation_layer (Node-F.Chain first rest) none h = none.chain first rest refl
operation_layer (Node-F.Compare operator left right) none h = none.comparison operator left right refl
operation_layer (Node-F.Cond test when_true when_false) none h = none.choice test when_true when_false refl
operation_layer l none h = false≢true h

-- an operation is of one of its kinds
pub is_none : (n : Node Name) → NoOperation n → is_operation n ≡ true → ⊥
is_none n none = operation_layer (out-Node Name n) (subst NoOperation (sym (roll-out-Node Name n)) none)
