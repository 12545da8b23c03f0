-- The refusals of expressions and statements, at each kind of them.
use Rattle.std.proofs.Common.{◌≡◌, ℕ, Bool, true, false, ◌||◌, List, [], ◌∷◌, ◌++◌, map, Option, refl, sym, ap, ◌∙◌, append_assoc, append-nil}
use Rattle.std.specs.Str.{bytes_eq}
use Rattle.rd_value.specs.declared.value.FileValue.{FileValue}
use Rattle.rd_value.specs.declared.value.Datum.{Datum}
use Rattle.rd_tree.specs.declared.tree.Name.{Name}
use Rattle.rd_tree.specs.declared.tree.Operator.{Operator}
use Rattle.rd_tree.specs.declared.tree.Comparison.{Comparison}
use Rattle.rd_tree.specs.declared.tree.Node.{Node}
use Rattle.rd_tree.specs.declared.tree.Node.TheVariants as node
use Rattle.rd_tree.specs.declared.tree.Node.TheViews as made_node
use Rattle.rd_tree.specs.declared.tree.Node.TheOpen.{Node-F}
use Rattle.rd_tree.specs.declared.tree.Node.TheFolds.{map-Node}
use Rattle.rd_tree.specs.declared.tree.Statement.{Statement}
use Rattle.rd_tree.specs.declared.tree.Statement.TheVariants as statement
use Rattle.rd_tree.specs.declared.tree.Statement.TheViews as made_statement
use Rattle.rd_tree.specs.declared.tree.Statement.TheOpen.{Statement-F}
use Rattle.rd_tree.specs.declared.tree.Statement.TheFolds.{fold-roll-Statement}
use Rattle.rd_names.specs.declared.refusal.Broken.TheVariants as b
use Rattle.rd_names.specs.declared.refusal.Refusal.{Refusal}
use Rattle.rd_routine.specs.Forms.{Form, Plain, Wrong, Mapping, Catching, name_alone, form_of, form_with}
use Rattle.rd_routine.proofs.Forms.{NoCall, folded_call, folded_other}
use Rattle.rd_names.specs.Uses.{Role, Called, Misused, Class, Task, Use, used, within, joined, keyword_names, call_uses, special_at, uses, uses_at, returned_uses, statement_uses, statement_uses_at}
use Rattle.rd_names.specs.Names.{Known, is_among, unless, at, may_be_called, call_refusals, class_refusals, task_refusals, role_refusals, use_refusals, refusals_of, node_refusals, statement_refusals}
use Rattle.rd_names.proofs.Walking.{map_both, map_same}

-- one test more on the outside or on the inside
turned : (p q r : Bool) → ((p || q) || r) ≡ (q || (p || r))
turned true true r = refl
turned true false r = refl
turned false true r = refl
turned false false r = refl

-- the locals with one more
unfoldable pub and_also : (List ℕ → Bool) → List ℕ → List ℕ → Bool
and_also l x y = bytes_eq y x || l y

-- a name that is called, and the keywords
abbrev pub called : Known → (List ℕ → Bool) → Name → List Name → List Refusal
called f l x ns = call_refusals (may_be_called f (l x.text) x.text ns) x ns

-- each with the uses in what stands behind it
abbrev behind_uses : {K : Type 0} → List (K × Node Name) → List (K × List Use)
behind_uses ks = map (λ k. (k.0, uses k.1)) ks

other_layer : (y : Node-F Name (Node Name)) → NoCall y → uses (made_node.roll-Node Name y) ≡ uses_at (map-Node Name (Node Name) (List Use) uses y)
other_layer = folded_other special_at call_uses uses_at

module _ (f : Known) (l : List ℕ → Bool) where
  pub of_both : (us vs : List Use) → refusals_of f l (us ++ vs) ≡ refusals_of f l us ++ refusals_of f l vs
  unfolding refusals_of
  of_both [] vs = refl
  of_both (u ∷ us) vs = ap (λ rest. use_refusals f l u ++ rest) (of_both us vs) ∙ sym (append_assoc (use_refusals f l u) (joined (map (use_refusals f l) us)) (joined (map (use_refusals f l) vs)))

  pub of_joined : {X : Type 0} (g : X → List Use) (xs : List X) → refusals_of f l (joined (map g xs)) ≡ joined (map (λ x. refusals_of f l (g x)) xs)
  unfolding refusals_of
  of_joined g [] = refl
  of_joined g (x ∷ xs) = of_both (g x) (joined (map g xs)) ∙ ap (λ rest. refusals_of f l (g x) ++ rest) (of_joined g xs)

  use_within : (x : List ℕ) (u : Use) → use_refusals f l (within x u) ≡ use_refusals f (and_also l x) u
  unfolding use_refusals and_also
  use_within x u = ap (λ t. role_refusals f t u.name u.role) (turned (bytes_eq u.name.text x) (is_among u.around u.name.text) (l u.name.text))

  pub of_within : (x : List ℕ) (us : List Use) → refusals_of f l (map (within x) us) ≡ refusals_of f (and_also l x) us
  unfolding refusals_of
  of_within x us = ap joined (map_both (use_refusals f l) (within x) us ∙ map_same (λ u. use_refusals f l (within x u)) (use_refusals f (and_also l x)) (use_within x) us)

  -- ---- expressions

  pub node_name : (x : Name) → node_refusals f l (node.Name x) ≡ unless (l x.text) (at b.UnknownName x)
  unfolding made_node.roll-Node denote.Hole.Carrier.roll node_refusals refusals_of use_refusals
  node_name x = ap (refusals_of f l) (other_layer (Node-F.Name x) tt) ∙ append-nil (unless (l x.text) (at b.UnknownName x))

  -- the refusals of a call, by its form
  abbrev pub by_form : Form Name (Node Name) → Name → List (Node Name) → List (Name × Node Name) → List Refusal
  by_form Plain x ps ks = called f l x (keyword_names ks) ++ (joined (map (node_refusals f l) ps) ++ joined (map (λ k. node_refusals f l k.1) ks))
  by_form Wrong x ps ks = call_refusals false x (keyword_names ks) ++ (joined (map (node_refusals f l) ps) ++ joined (map (λ k. node_refusals f l k.1) ks))
  by_form (Mapping task list) x ps ks = called f l x [] ++ (task_refusals f (l task.text) task ++ node_refusals f l list)
  by_form (Catching tried class task) x ps ks = called f l x [] ++ (node_refusals f l tried ++ (class_refusals (l class.text) class ++ task_refusals f (l task.text) task))

  of_use : (x : Name) (r : Role) (us : List Use) → refusals_of f l (used x r ∷ us) ≡ role_refusals f (l x.text) x r ++ refusals_of f l us
  unfolding refusals_of use_refusals
  of_use x r us = refl

  of_none : refusals_of f l [] ≡ []
  unfolding refusals_of
  of_none = refl

  of_arguments : (ps : List (Node Name)) (ks : List (Name × Node Name))
      → refusals_of f l (joined (map uses ps) ++ joined (map (λ k. k.1) (behind_uses ks))) ≡ joined (map (node_refusals f l) ps) ++ joined (map (λ k. node_refusals f l k.1) ks)
  unfolding node_refusals
  of_arguments ps ks =
      of_both (joined (map uses ps)) (joined (map (λ k. k.1) (behind_uses ks))) ∙ ap (λ rs. rs ++ refusals_of f l (joined (map (λ k. k.1) (behind_uses ks)))) (of_joined uses ps)
      ∙ ap (λ us. joined (map (node_refusals f l) ps) ++ refusals_of f l (joined us)) (map_both (λ k. k.1) (λ k. (k.0, uses k.1)) ks) ∙ ap (λ rs. joined (map (node_refusals f l) ps) ++ rs) (of_joined (λ k. uses k.1) ks)

  keyword_names_as : (ks : List (Name × Node Name)) → keyword_names (behind_uses ks) ≡ keyword_names ks
  keyword_names_as ks = map_both (λ k. k.0) (λ k. (k.0, uses k.1)) ks

  -- a class and a task that stand alone
  of_names : (class task : Name) → refusals_of f l (used class Class ∷ used task Task ∷ []) ≡ class_refusals (l class.text) class ++ task_refusals f (l task.text) task
  of_names class task =
      of_use class Class (used task Task ∷ []) ∙ ap (λ rs. class_refusals (l class.text) class ++ rs) (of_use task Task [] ∙ ap (λ rs. task_refusals f (l task.text) task ++ rs) of_none ∙ append-nil (task_refusals f (l task.text) task))

  of_form : (c : Form Name (Node Name)) (x : Name) (ps : List (Node Name)) (ks : List (Name × Node Name)) → refusals_of f l (call_uses (form_with (λ n. n) uses c) x (map uses ps) (behind_uses ks)) ≡ by_form c x ps ks
  unfolding node_refusals
  of_form Plain x ps ks =
      of_use x (Called (keyword_names (behind_uses ks))) (joined (map uses ps) ++ joined (map (λ k. k.1) (behind_uses ks)))
      ∙ ap (λ ns. called f l x ns ++ refusals_of f l (joined (map uses ps) ++ joined (map (λ k. k.1) (behind_uses ks)))) (keyword_names_as ks)
      ∙ ap (λ rs. called f l x (keyword_names ks) ++ rs) (of_arguments ps ks)
  of_form Wrong x ps ks =
      of_use x (Misused (keyword_names (behind_uses ks))) (joined (map uses ps) ++ joined (map (λ k. k.1) (behind_uses ks)))
      ∙ ap (λ ns. call_refusals false x ns ++ refusals_of f l (joined (map uses ps) ++ joined (map (λ k. k.1) (behind_uses ks)))) (keyword_names_as ks)
      ∙ ap (λ rs. call_refusals false x (keyword_names ks) ++ rs) (of_arguments ps ks)
  of_form (Mapping task list) x ps ks =
      of_use x (Called []) (used task Task ∷ uses list) ∙ ap (λ rs. called f l x [] ++ rs) (of_use task Task (uses list))
  of_form (Catching tried class task) x ps ks =
      of_use x (Called []) (uses tried ++ used class Class ∷ used task Task ∷ [])
      ∙ ap (λ rs. called f l x [] ++ rs)
      (of_both (uses tried) (used class Class ∷ used task Task ∷ []) ∙ ap (λ rs. refusals_of f l (uses tried) ++ rs) (of_names class task))

  -- a call of this form
  pub node_call : (x : Name) (ps : List (Node Name)) (ks : List (Name × Node Name)) (c : Form Name (Node Name)) → form_of name_alone (special_at x) ps ks ≡ c → node_refusals f l (node.Call x ps ks) ≡ by_form c x ps ks
  unfolding made_node.roll-Node denote.Hole.Carrier.roll node_refusals
  node_call x ps ks c is =
      ap (refusals_of f l) (folded_call special_at call_uses uses_at x ps ks) ∙ of_form (form_of name_alone (special_at x) ps ks) x ps ks ∙ ap (λ c. by_form c x ps ks) is

  -- a part, and others behind it
  one_and_many : {X : Type 0} (u : List Use) (g : X → List Use) (xs : List X) → refusals_of f l (u ++ joined (map g xs)) ≡ refusals_of f l u ++ joined (map (λ x. refusals_of f l (g x)) xs)
  one_and_many u g xs = of_both u (joined (map g xs)) ∙ ap (λ rest. refusals_of f l u ++ rest) (of_joined g xs)

  pub node_method : (receiver : Node Name) (name : List ℕ) (arguments : List (Node Name))
      → node_refusals f l (node.Method receiver name arguments) ≡ node_refusals f l receiver ++ joined (map (node_refusals f l) arguments)
  unfolding made_node.roll-Node denote.Hole.Carrier.roll node_refusals
  node_method receiver name arguments = ap (refusals_of f l) (other_layer (Node-F.Method receiver name arguments) tt) ∙ one_and_many (uses receiver) uses arguments

  pub node_index : (a c : Node Name) → node_refusals f l (node.Index a c) ≡ node_refusals f l a ++ node_refusals f l c
  unfolding made_node.roll-Node denote.Hole.Carrier.roll node_refusals
  node_index a c = ap (refusals_of f l) (other_layer (Node-F.Index a c) tt) ∙ of_both (uses a) (uses c)

  pub node_compare : (o : Comparison) (a c : Node Name) → node_refusals f l (node.Compare o a c) ≡ node_refusals f l a ++ node_refusals f l c
  unfolding made_node.roll-Node denote.Hole.Carrier.roll node_refusals
  node_compare o a c = ap (refusals_of f l) (other_layer (Node-F.Compare o a c) tt) ∙ of_both (uses a) (uses c)

  pub node_chain : (first : Node Name) (rest : List (Operator × Node Name)) → node_refusals f l (node.Chain first rest) ≡ node_refusals f l first ++ joined (map (λ p. node_refusals f l p.1) rest)
  unfolding made_node.roll-Node denote.Hole.Carrier.roll node_refusals
  node_chain first rest =
      ap (refusals_of f l) (other_layer (Node-F.Chain first rest) tt) ∙ ap (λ us. refusals_of f l (uses first ++ joined us)) (map_both (λ p. p.1) (λ p. (p.0, uses p.1)) rest)
      ∙ one_and_many (uses first) (λ p. uses p.1) rest

  pub node_and : (xs : List (Node Name)) → node_refusals f l (node.And xs) ≡ joined (map (node_refusals f l) xs)
  unfolding made_node.roll-Node denote.Hole.Carrier.roll node_refusals
  node_and xs = ap (refusals_of f l) (other_layer (Node-F.And xs) tt) ∙ of_joined uses xs

  pub node_or : (xs : List (Node Name)) → node_refusals f l (node.Or xs) ≡ joined (map (node_refusals f l) xs)
  unfolding made_node.roll-Node denote.Hole.Carrier.roll node_refusals
  node_or xs = ap (refusals_of f l) (other_layer (Node-F.Or xs) tt) ∙ of_joined uses xs

  pub node_list : (xs : List (Node Name)) → node_refusals f l (node.List xs) ≡ joined (map (node_refusals f l) xs)
  unfolding made_node.roll-Node denote.Hole.Carrier.roll node_refusals
  node_list xs = ap (refusals_of f l) (other_layer (Node-F.List xs) tt) ∙ of_joined uses xs

  pub node_cond : (t a c : Node Name) → node_refusals f l (node.Cond t a c) ≡ node_refusals f l t ++ (node_refusals f l a ++ node_refusals f l c)
  unfolding made_node.roll-Node denote.Hole.Carrier.roll node_refusals
  node_cond t a c =
      ap (refusals_of f l) (other_layer (Node-F.Cond t a c) tt) ∙ of_both (uses t) (uses a ++ uses c) ∙ ap (λ rest. node_refusals f l t ++ rest) (of_both (uses a) (uses c))

  pub node_dict : (ps : List (Node Name × Node Name)) → node_refusals f l (node.Dict ps) ≡ joined (map (λ p. node_refusals f l p.0 ++ node_refusals f l p.1) ps)
  unfolding made_node.roll-Node denote.Hole.Carrier.roll node_refusals
  node_dict ps =
      ap (refusals_of f l) (other_layer (Node-F.Dict ps) tt) ∙ ap (λ us. refusals_of f l (joined us)) (map_both (λ p. p.0 ++ p.1) (λ p. (uses p.0, uses p.1)) ps)
      ∙ of_joined (λ p. uses p.0 ++ uses p.1) ps
      ∙ ap joined (map_same (λ p. refusals_of f l (uses p.0 ++ uses p.1)) (λ p. node_refusals f l p.0 ++ node_refusals f l p.1) (λ p. of_both (uses p.0) (uses p.1)) ps)

  -- ---- statements

  pub statement_for : (x : Name) (v : Node Name) (body : List (Statement Name)) → statement_refusals f l (statement.For x v body) ≡ node_refusals f l v ++ joined (map (statement_refusals f l) body)
  unfolding made_statement.roll-Statement denote.Hole.Carrier.roll node_refusals statement_refusals
  statement_for x v body = ap (refusals_of f l) (fold-roll-Statement Name (List Use) statement_uses_at (Statement-F.For x v body)) ∙ one_and_many (uses v) statement_uses body

  pub statement_while : (v : Node Name) (body : List (Statement Name)) → statement_refusals f l (statement.While v body) ≡ node_refusals f l v ++ joined (map (statement_refusals f l) body)
  unfolding made_statement.roll-Statement denote.Hole.Carrier.roll node_refusals statement_refusals
  statement_while v body = ap (refusals_of f l) (fold-roll-Statement Name (List Use) statement_uses_at (Statement-F.While v body)) ∙ one_and_many (uses v) statement_uses body

  pub statement_raise : (x : Name) (v : Node Name) → statement_refusals f l (statement.Raise x v) ≡ class_refusals (l x.text) x ++ node_refusals f l v
  unfolding made_statement.roll-Statement denote.Hole.Carrier.roll node_refusals statement_refusals refusals_of use_refusals
  statement_raise x v = ap (refusals_of f l) (fold-roll-Statement Name (List Use) statement_uses_at (Statement-F.Raise x v))

  branch : (c : Node Name × List (Statement Name)) → refusals_of f l (uses c.0 ++ joined (map statement_uses c.1)) ≡ node_refusals f l c.0 ++ joined (map (statement_refusals f l) c.1)
  unfolding node_refusals statement_refusals
  branch c = one_and_many (uses c.0) statement_uses c.1

  pub statement_if : (bs : List (Node Name × List (Statement Name))) (other : List (Statement Name)) → statement_refusals f l (statement.If bs other)
      ≡ joined (map (λ c. node_refusals f l c.0 ++ joined (map (statement_refusals f l) c.1)) bs) ++ joined (map (statement_refusals f l) other)
  unfolding made_statement.roll-Statement denote.Hole.Carrier.roll node_refusals statement_refusals
  statement_if bs other =
      ap (refusals_of f l) (fold-roll-Statement Name (List Use) statement_uses_at (Statement-F.If bs other))
      ∙ ap (λ us. refusals_of f l (joined us ++ joined (map statement_uses other))) (map_both (λ c. uses c.0 ++ joined c.1) (λ c. (c.0, map statement_uses c.1)) bs)
      ∙ one_and_many (joined (map (λ c. uses c.0 ++ joined (map statement_uses c.1)) bs)) statement_uses other
      ∙ ap (λ rs. rs ++ joined (map (statement_refusals f l) other)) (
      of_joined (λ c. uses c.0 ++ joined (map statement_uses c.1)) bs
      ∙ ap joined (map_same (λ c. refusals_of f l (uses c.0 ++ joined (map statement_uses c.1))) (λ c. node_refusals f l c.0 ++ joined (map (statement_refusals f l) c.1)) branch bs)
      )

pub node_comp : (f : Known) (l : List ℕ → Bool) (element : Node Name) (x : Name) (iterable : Node Name) (condition : List (Node Name)) → node_refusals f l (node.Comp element x iterable condition)
    ≡ node_refusals f l iterable ++ (node_refusals f (and_also l x.text) element ++ joined (map (node_refusals f (and_also l x.text)) condition))
unfolding made_node.roll-Node denote.Hole.Carrier.roll node_refusals
node_comp f l element x iterable condition =
    ap (refusals_of f l) (other_layer (Node-F.Comp element x iterable condition) tt)
    ∙ of_both f l (uses iterable) (map (within x.text) (uses element ++ joined (map uses condition)))
    ∙ ap (λ rest. node_refusals f l iterable ++ rest) (of_within f l x.text (uses element ++ joined (map uses condition)) ∙ one_and_many f (and_also l x.text) (uses element) uses condition)

module _ (f : Known) (l : List ℕ → Bool) where
  pub node_lit : (v : Datum FileValue) → node_refusals f l (node.Lit v) ≡ []
  unfolding made_node.roll-Node denote.Hole.Carrier.roll node_refusals refusals_of
  node_lit v = ap (refusals_of f l) (other_layer (Node-F.Lit v) tt)

  pub node_path : (n : Node Name) → node_refusals f l (node.Path n) ≡ node_refusals f l n
  unfolding made_node.roll-Node denote.Hole.Carrier.roll node_refusals
  node_path n = ap (refusals_of f l) (other_layer (Node-F.Path n) tt)

  pub node_neg : (n : Node Name) → node_refusals f l (node.Neg n) ≡ node_refusals f l n
  unfolding made_node.roll-Node denote.Hole.Carrier.roll node_refusals
  node_neg n = ap (refusals_of f l) (other_layer (Node-F.Neg n) tt)

  pub node_not : (n : Node Name) → node_refusals f l (node.Not n) ≡ node_refusals f l n
  unfolding made_node.roll-Node denote.Hole.Carrier.roll node_refusals
  node_not n = ap (refusals_of f l) (other_layer (Node-F.Not n) tt)

  pub statement_assign : (x : Name) (v : Node Name) → statement_refusals f l (statement.Assign x v) ≡ node_refusals f l v
  unfolding made_statement.roll-Statement denote.Hole.Carrier.roll node_refusals statement_refusals
  statement_assign x v = ap (refusals_of f l) (fold-roll-Statement Name (List Use) statement_uses_at (Statement-F.Assign x v))

  pub statement_expr : (v : Node Name) → statement_refusals f l (statement.Expr v) ≡ node_refusals f l v
  unfolding made_statement.roll-Statement denote.Hole.Carrier.roll node_refusals statement_refusals
  statement_expr v = ap (refusals_of f l) (fold-roll-Statement Name (List Use) statement_uses_at (Statement-F.Expr v))

  pub statement_return : (v : Option (Node Name)) → statement_refusals f l (statement.Return v) ≡ refusals_of f l (returned_uses v)
  unfolding made_statement.roll-Statement denote.Hole.Carrier.roll statement_refusals
  statement_return v = ap (refusals_of f l) (fold-roll-Statement Name (List Use) statement_uses_at (Statement-F.Return v))

  pub statement_pass : statement_refusals f l statement.Pass ≡ []
  unfolding made_statement.roll-Statement denote.Hole.Carrier.roll statement_refusals refusals_of
  statement_pass = ap (refusals_of f l) (fold-roll-Statement Name (List Use) statement_uses_at Statement-F.Pass)
