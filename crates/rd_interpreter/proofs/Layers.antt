-- What an expression means, from one layer of it.
use Rattle.std.proofs.Common.{◌≡◌, ℕ, true, false, List, map, Ok, ap}
use Rattle.rd_value.specs.declared.value.FileValue.{FileValue}
use Rattle.rd_value.specs.declared.value.Datum.{Datum}
use Rattle.rd_value.specs.declared.expr.Lazy.{Lazy}
use Rattle.rd_tree.specs.declared.tree.Comparison.{Comparison}
use Rattle.rd_tree.specs.declared.tree.Node.{Node}
use Rattle.rd_tree.specs.declared.tree.Node.TheVariants as variant
use Rattle.rd_tree.specs.declared.tree.Node.TheViews.{roll-Node}
use Rattle.rd_tree.specs.declared.tree.Node.TheOpen.{Node-F}
use Rattle.rd_tree.specs.declared.tree.Node.TheFolds.{map-Node}
use Rattle.rd_routine.proofs.Forms.{NoCall, folded_call, folded_other}
use Rattle.rd_interpreter.specs.State.{State, Part, spend}
use Rattle.rd_interpreter.specs.Body.{Routine, Calls, literal, found, method, index, path, negation, inversion, comparing, operands, choice, shown_items, shown_pairs, comprehended, formed, call_at, form, kind, node, node_at}

module _ {N F : Type 0} (file : F → FileValue) (calls : Calls F) (f : Routine N F) where
  -- a call by its form
  pub call_layer : (name : N) (positional : List (Node N)) (keywords : List (N × Node N))
      → node file calls f (roll-Node N (Node-F.Call name positional keywords)) ≡ call_at file calls f (form file calls f name positional keywords) name (map (node file calls f) positional) (map (λ k. (k.0, node file calls f k.1)) keywords)
  unfolding node
  call_layer = folded_call (kind f) (call_at file calls f) (node_at file calls f)

  -- all else by its parts
  pub other_layer : (y : Node-F N (Node N)) → NoCall y → node file calls f (roll-Node N y) ≡ node_at file calls f (map-Node N (Node N) (Part N F (Lazy F)) (node file calls f) y)
  unfolding node
  other_layer = folded_other (kind f) (call_at file calls f) (node_at file calls f)

  -- ---- each kind of expression

  pub node_lit : (v : Datum FileValue) (s : State N F) → node file calls f (variant.Lit v) s ≡ spend 1 s (λ t. Ok (literal v, t))
  unfolding roll-Node denote.Hole.Carrier.roll
  node_lit v s = ap (λ (part : Part N F (Lazy F)). part s) (other_layer (Node-F.Lit v) tt)

  pub node_name : (x : N) (s : State N F) → node file calls f (variant.Name x) s ≡ spend 1 s (λ t. found f x (t.names x) t)
  unfolding roll-Node denote.Hole.Carrier.roll
  node_name x s = ap (λ (part : Part N F (Lazy F)). part s) (other_layer (Node-F.Name x) tt)

  pub node_method : (a : Node N) (name : List ℕ) (xs : List (Node N)) (s : State N F) → node file calls f (variant.Method a name xs) s ≡ spend 1 s (method file (node file calls f a) name (map (node file calls f) xs))
  unfolding roll-Node denote.Hole.Carrier.roll
  node_method a name xs s = ap (λ (part : Part N F (Lazy F)). part s) (other_layer (Node-F.Method a name xs) tt)

  pub node_index : (a b : Node N) (s : State N F) → node file calls f (variant.Index a b) s ≡ spend 1 s (index file (node file calls f a) (node file calls f b))
  unfolding roll-Node denote.Hole.Carrier.roll
  node_index a b s = ap (λ (part : Part N F (Lazy F)). part s) (other_layer (Node-F.Index a b) tt)

  pub node_path : (a : Node N) (s : State N F) → node file calls f (variant.Path a) s ≡ spend 1 s (path file (node file calls f a))
  unfolding roll-Node denote.Hole.Carrier.roll
  node_path a s = ap (λ (part : Part N F (Lazy F)). part s) (other_layer (Node-F.Path a) tt)

  pub node_neg : (a : Node N) (s : State N F) → node file calls f (variant.Neg a) s ≡ spend 1 s (negation file (node file calls f a))
  unfolding roll-Node denote.Hole.Carrier.roll
  node_neg a s = ap (λ (part : Part N F (Lazy F)). part s) (other_layer (Node-F.Neg a) tt)

  pub node_not : (a : Node N) (s : State N F) → node file calls f (variant.Not a) s ≡ spend 1 s (inversion (node file calls f a))
  unfolding roll-Node denote.Hole.Carrier.roll
  node_not a s = ap (λ (part : Part N F (Lazy F)). part s) (other_layer (Node-F.Not a) tt)

  pub node_compare : (o : Comparison) (a b : Node N) (s : State N F) → node file calls f (variant.Compare o a b) s ≡ spend 1 s (comparing file o (node file calls f a) (node file calls f b))
  unfolding roll-Node denote.Hole.Carrier.roll
  node_compare o a b s = ap (λ (part : Part N F (Lazy F)). part s) (other_layer (Node-F.Compare o a b) tt)

  pub node_and : (xs : List (Node N)) (s : State N F) → node file calls f (variant.And xs) s ≡ operands false (map (node file calls f) xs) s
  unfolding roll-Node denote.Hole.Carrier.roll
  node_and xs s = ap (λ (part : Part N F (Lazy F)). part s) (other_layer (Node-F.And xs) tt)

  pub node_or : (xs : List (Node N)) (s : State N F) → node file calls f (variant.Or xs) s ≡ operands true (map (node file calls f) xs) s
  unfolding roll-Node denote.Hole.Carrier.roll
  node_or xs s = ap (λ (part : Part N F (Lazy F)). part s) (other_layer (Node-F.Or xs) tt)

  pub node_cond : (a b c : Node N) (s : State N F) → node file calls f (variant.Cond a b c) s ≡ spend 1 s (choice (node file calls f a) (node file calls f b) (node file calls f c))
  unfolding roll-Node denote.Hole.Carrier.roll
  node_cond a b c s = ap (λ (part : Part N F (Lazy F)). part s) (other_layer (Node-F.Cond a b c) tt)

  pub node_list : (xs : List (Node N)) (s : State N F) → node file calls f (variant.List xs) s ≡ spend 1 s (shown_items file (map (node file calls f) xs))
  unfolding roll-Node denote.Hole.Carrier.roll
  node_list xs s = ap (λ (part : Part N F (Lazy F)). part s) (other_layer (Node-F.List xs) tt)

  pub node_dict : (ps : List (Node N × Node N)) (s : State N F) → node file calls f (variant.Dict ps) s ≡ spend 1 s (shown_pairs file (map (λ p. (node file calls f p.0, node file calls f p.1)) ps))
  unfolding roll-Node denote.Hole.Carrier.roll
  node_dict ps s = ap (λ (part : Part N F (Lazy F)). part s) (other_layer (Node-F.Dict ps) tt)

  pub node_comp : (a : Node N) (x : N) (b : Node N) (xs : List (Node N)) (s : State N F) → node file calls f (variant.Comp a x b xs) s ≡ spend 1 s (comprehended file calls f (node file calls f a) x (node file calls f b) (map (node file calls f) xs))
  unfolding roll-Node denote.Hole.Carrier.roll
  node_comp a x b xs s = ap (λ (part : Part N F (Lazy F)). part s) (other_layer (Node-F.Comp a x b xs) tt)

  pub node_call : (x : N) (ps : List (Node N)) (ks : List (N × Node N)) (s : State N F) → node file calls f (variant.Call x ps ks) s ≡ spend 1 s (formed file calls f (form file calls f x ps ks) x (map (node file calls f) ps) (map (λ k. (k.0, node file calls f k.1)) ks))
  unfolding roll-Node denote.Hole.Carrier.roll
  node_call x ps ks s = ap (λ (part : Part N F (Lazy F)). part s) (call_layer x ps ks)
