-- The names at nodes and statements of which some parts are pairs.
use Rattle.std.proofs.Common.{◌≡◌, ℕ, List, [], ◌∷◌, ◌++◌, map, refl, sym, ap, ◌∙◌, append_assoc}
use Rattle.rd_value.specs.declared.value.FileValue.{FileValue}
use Rattle.rd_value.specs.declared.value.Datum.{Datum}
use Rattle.rd_tree.specs.declared.tree.Operator.{Operator}
use Rattle.rd_tree.specs.declared.tree.Comparison.{Comparison}
use Rattle.rd_tree.specs.declared.tree.Node.{Node}
use Rattle.rd_tree.specs.declared.tree.Node.TheVariants as variant
use Rattle.rd_tree.specs.declared.tree.Node.TheViews as made
use Rattle.rd_tree.specs.declared.tree.Node.TheOpen.{Node-F}
use Rattle.rd_tree.specs.declared.tree.Node.TheFolds.{map-Node}
use Rattle.rd_tree.specs.declared.tree.Statement.{Statement}
use Rattle.rd_tree.specs.declared.tree.Statement.TheVariants as variant_statement
use Rattle.rd_tree.specs.declared.tree.Statement.TheViews as made_statement
use Rattle.rd_tree.specs.declared.tree.Statement.TheOpen.{Statement-F}
use Rattle.rd_tree.specs.declared.tree.Statement.TheFolds.{fold-roll-Statement}
use Rattle.rd_routine.specs.Forms.{Form, Plain, Wrong, Mapping, Catching, name_alone, form_of, form_with}
use Rattle.rd_routine.proofs.Forms.{NoCall, folded_call, folded_other}
use Rattle.rd_names.specs.Special.{special_named}
use Rattle.rd_names.specs.Uses.{joined}
use Rattle.rd_names.proofs.Walking.{map_both}
use Rattle.rd_code.specs.declared.mention.Mention.{Mention}
use Rattle.rd_code.specs.Mentions.{plain, called, class, keyword_mentions, pair_mentions, call_mentions, branch_mentions, mentions_at, named_in, statement_mentions_at, named_in_statement, named_in_block}

abbrev pub Name : Type 0
Name = List ℕ

abbrev Met : Type 0
Met = List (Mention Name)

pub behind : (s a b : Met) → s ++ (a ++ b) ≡ (s ++ a) ++ b
behind s a b = sym (append_assoc s a b)

-- ---- expressions

abbrev behind_names : {K : Type 0} → List (K × Node Name) → List (K × Met)
behind_names ks = map (λ k. (k.0, named_in k.1)) ks

layer : (y : Node-F Name (Node Name)) → NoCall y → named_in (made.roll-Node Name y) ≡ mentions_at (map-Node Name (Node Name) Met named_in y)
layer = folded_other special_named call_mentions mentions_at

-- the names in a call, by its form
abbrev pub by_form : Form Name (Node Name) → Name → List (Node Name) → List (Name × Node Name) → Met
by_form Plain x ps ks = called x ∷ (joined (map named_in ps) ++ joined (map (λ k. plain k.0 ∷ named_in k.1) ks))
by_form Wrong x ps ks = called x ∷ (joined (map named_in ps) ++ joined (map (λ k. plain k.0 ∷ named_in k.1) ks))
by_form (Mapping task list) x ps ks = called x ∷ (called task ∷ named_in list)
by_form (Catching tried caught recover) x ps ks = called x ∷ (named_in tried ++ (class caught ∷ (called recover ∷ [])))

keywords : (x : Name) (ps : List (Node Name)) (ks : List (Name × Node Name))
    → called x ∷ (joined (map named_in ps) ++ joined (map keyword_mentions (behind_names ks))) ≡ called x ∷ (joined (map named_in ps) ++ joined (map (λ k. plain k.0 ∷ named_in k.1) ks))
keywords x ps ks = ap (λ ms. called x ∷ (joined (map named_in ps) ++ joined ms)) (map_both keyword_mentions (λ k. (k.0, named_in k.1)) ks)

of_form : (c : Form Name (Node Name)) (x : Name) (ps : List (Node Name)) (ks : List (Name × Node Name)) → call_mentions (form_with (λ n. n) named_in c) x (map named_in ps) (behind_names ks) ≡ by_form c x ps ks
of_form Plain x ps ks = keywords x ps ks
of_form Wrong x ps ks = keywords x ps ks
of_form (Mapping task list) x ps ks = refl
of_form (Catching tried caught recover) x ps ks = refl

-- a call of this form
pub mentions_call : (x : Name) (ps : List (Node Name)) (ks : List (Name × Node Name)) (c : Form Name (Node Name)) → form_of name_alone (special_named x) ps ks ≡ c → named_in (variant.Call x ps ks) ≡ by_form c x ps ks
unfolding made.roll-Node denote.Hole.Carrier.roll
mentions_call x ps ks c is = folded_call special_named call_mentions mentions_at x ps ks ∙ of_form (form_of name_alone (special_named x) ps ks) x ps ks ∙ ap (λ c. by_form c x ps ks) is

pub mentions_chain : (first : Node Name) (rest : List (Operator × Node Name)) → named_in (variant.Chain first rest) ≡ named_in first ++ joined (map (λ l. named_in l.1) rest)
unfolding made.roll-Node denote.Hole.Carrier.roll
mentions_chain first rest = layer (Node-F.Chain first rest) tt ∙ ap (λ ns. named_in first ++ joined ns) (map_both (λ l. l.1) (λ l. (l.0, named_in l.1)) rest)

pub mentions_dict : (pairs : List (Node Name × Node Name)) → named_in (variant.Dict pairs) ≡ joined (map (λ p. named_in p.0 ++ named_in p.1) pairs)
unfolding made.roll-Node denote.Hole.Carrier.roll
mentions_dict pairs = layer (Node-F.Dict pairs) tt ∙ ap joined (map_both pair_mentions (λ p. (named_in p.0, named_in p.1)) pairs)

pub mentions_lit : (v : Datum FileValue) → named_in (variant.Lit v) ≡ []
unfolding made.roll-Node denote.Hole.Carrier.roll
mentions_lit v = layer (Node-F.Lit v) tt

pub mentions_name : (x : Name) → named_in (variant.Name x) ≡ plain x ∷ []
unfolding made.roll-Node denote.Hole.Carrier.roll
mentions_name x = layer (Node-F.Name x) tt

pub mentions_method : (a : Node Name) (name : List ℕ) (xs : List (Node Name)) → named_in (variant.Method a name xs) ≡ named_in a ++ joined (map named_in xs)
unfolding made.roll-Node denote.Hole.Carrier.roll
mentions_method a name xs = layer (Node-F.Method a name xs) tt

pub mentions_index : (a b : Node Name) → named_in (variant.Index a b) ≡ named_in a ++ named_in b
unfolding made.roll-Node denote.Hole.Carrier.roll
mentions_index a b = layer (Node-F.Index a b) tt

pub mentions_path : (a : Node Name) → named_in (variant.Path a) ≡ named_in a
unfolding made.roll-Node denote.Hole.Carrier.roll
mentions_path a = layer (Node-F.Path a) tt

pub mentions_neg : (a : Node Name) → named_in (variant.Neg a) ≡ named_in a
unfolding made.roll-Node denote.Hole.Carrier.roll
mentions_neg a = layer (Node-F.Neg a) tt

pub mentions_not : (a : Node Name) → named_in (variant.Not a) ≡ named_in a
unfolding made.roll-Node denote.Hole.Carrier.roll
mentions_not a = layer (Node-F.Not a) tt

pub mentions_compare : (o : Comparison) (a b : Node Name) → named_in (variant.Compare o a b) ≡ named_in a ++ named_in b
unfolding made.roll-Node denote.Hole.Carrier.roll
mentions_compare o a b = layer (Node-F.Compare o a b) tt

pub mentions_and : (xs : List (Node Name)) → named_in (variant.And xs) ≡ joined (map named_in xs)
unfolding made.roll-Node denote.Hole.Carrier.roll
mentions_and xs = layer (Node-F.And xs) tt

pub mentions_or : (xs : List (Node Name)) → named_in (variant.Or xs) ≡ joined (map named_in xs)
unfolding made.roll-Node denote.Hole.Carrier.roll
mentions_or xs = layer (Node-F.Or xs) tt

pub mentions_list : (xs : List (Node Name)) → named_in (variant.List xs) ≡ joined (map named_in xs)
unfolding made.roll-Node denote.Hole.Carrier.roll
mentions_list xs = layer (Node-F.List xs) tt

pub mentions_cond : (a b c : Node Name) → named_in (variant.Cond a b c) ≡ named_in a ++ (named_in b ++ named_in c)
unfolding made.roll-Node denote.Hole.Carrier.roll
mentions_cond a b c = layer (Node-F.Cond a b c) tt

pub mentions_comp : (a : Node Name) (x : Name) (b : Node Name) (xs : List (Node Name)) → named_in (variant.Comp a x b xs) ≡ named_in a ++ (plain x ∷ (named_in b ++ joined (map named_in xs)))
unfolding made.roll-Node denote.Hole.Carrier.roll
mentions_comp a x b xs = layer (Node-F.Comp a x b xs) tt

-- ---- statements

pub mentions_if : (bs : List (Node Name × List (Statement Name))) (otherwise : List (Statement Name)) → named_in_statement (variant_statement.If bs otherwise) ≡ joined (map (λ b. named_in b.0 ++ named_in_block b.1) bs) ++ named_in_block otherwise
unfolding made_statement.roll-Statement denote.Hole.Carrier.roll
mentions_if bs otherwise =
    fold-roll-Statement Name (List (Mention Name)) (statement_mentions_at special_named) (Statement-F.If bs otherwise) ∙ ap (λ ns. joined ns ++ named_in_block otherwise) (map_both (branch_mentions special_named) (λ b. (b.0, map named_in_statement b.1)) bs)
