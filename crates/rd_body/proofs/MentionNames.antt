-- The names that stand in a tree are the same whatever its calls make.
use Rattle.std.proofs.Common.{◌≡◌, List, [], ◌∷◌, ◌++◌, map, Option, None, Some, refl, sym, ap, ◌∙◌, subst, append-nil}
use Rattle.std.proofs.lemmas.List.{map-append}
use Rattle.rd_tree.specs.declared.tree.Operator.{Operator}
use Rattle.rd_tree.specs.declared.tree.Node.{Node, out-Node, roll-out-Node}
use Rattle.rd_tree.specs.declared.tree.Node.TheViews.{roll-Node}
use Rattle.rd_tree.specs.declared.tree.Node.TheOpen.{Node-F}
use Rattle.rd_tree.specs.declared.tree.Node.TheFolds.{ind-Node, map-Node}
use Rattle.rd_tree.specs.declared.tree.Statement.{Statement}
use Rattle.rd_tree.specs.declared.tree.Statement.TheViews.{roll-Statement}
use Rattle.rd_tree.specs.declared.tree.Statement.TheOpen.{Statement-F}
use Rattle.rd_tree.specs.declared.tree.Statement.TheFolds.{ind-Statement, map-Statement, fold-roll-Statement}
use Rattle.rd_routine.specs.declared.special.Special.{Special}
use Rattle.rd_routine.specs.declared.special.Special.TheVariants as special
use Rattle.rd_routine.specs.Forms.{name_at, name_alone, Form, mapping, catching, special_form, form_of, form_with}
use Rattle.rd_routine.proofs.Forms.{NoCall, folded_call, folded_other}
use Rattle.rd_names.specs.Uses.{joined}
use Rattle.rd_code.specs.declared.mention.Mention.{Mention}
use Rattle.rd_code.specs.Mentions.{called, class, plain, keyword_mentions, pair_mentions, call_mentions, branch_mentions, answer_mentions, mentions_at, mentions_in, statement_mentions_at, mentions_in_statement, mentions_in_block}

module _ {N : Type 0} where
  abbrev pub name_of : Mention N → N
  name_of m = m.name

  abbrev pub names : List (Mention N) → List N
  names ms = map name_of ms

  split : (a b : List (Mention N)) → names (a ++ b) ≡ names a ++ names b
  split a b = map-append name_of a b

  both : (a b x y : List (Mention N)) → names a ≡ names x → names b ≡ names y → names (a ++ b) ≡ names (x ++ y)
  both a b x y e h = split a b ∙ ap (λ c. c ++ names b) e ∙ ap (λ c. names x ++ c) h ∙ sym (split x y)

  after : (n : N) (b y : List N) → b ≡ y → n ∷ b ≡ n ∷ y
  after n b y h = ap (λ c. n ∷ c) h

  -- ---- one call

  module _ (kind : N → Option Special) where
    abbrev found : Node N → List (Mention N)
    found = mentions_in kind

    abbrev all_of : List (Node N) → List (Mention N)
    all_of ps = joined (map found ps)

    abbrev behind : List (N × Node N) → List (N × List (Mention N))
    behind ks = map (λ k. (k.0, found k.1)) ks

    named_layer : (y : Node-F N (Node N)) (x : N) → name_at y ≡ Some x → found (roll-Node N y) ≡ plain x ∷ []
    named_layer (Node-F.Name z) x e = folded_other kind call_mentions mentions_at (Node-F.Name z) tt ∙ ap (λ o. plain_or o) e
      where
        plain_or : Option N → List (Mention N)
        plain_or None = []
        plain_or (Some n) = plain n ∷ []
    named_layer y x e = absurd (let none : None ≡ Some x = e in cc)

    -- a name alone
    named : (n : Node N) (x : N) → name_alone n ≡ Some x → found n ≡ plain x ∷ []
    named n x e = ap found (sym (roll-out-Node N n)) ∙ named_layer (out-Node N n) x e

    -- the names of a call where all its arguments are values
    abbrev plainly : N → List (Node N) → List (N × List (Mention N)) → List N
    plainly name ps ks = name ∷ names (all_of ps ++ joined (map keyword_mentions ks))

    abbrev by_form : Form N (Node N) → N → List (Node N) → List (N × List (Mention N)) → List N
    by_form c name ps ks = names (call_mentions (form_with (λ n. n) found c) name (map found ps) ks)

    mapped : (name : N) (a b : Node N) (o : Option N) → name_alone a ≡ o → by_form (mapping o b) name (a ∷ b ∷ []) [] ≡ plainly name (a ∷ b ∷ []) []
    mapped name a b None e = refl
    mapped name a b (Some x) e =
        ap (λ (ms : List (Mention N)). name ∷ (x ∷ names ms)) (sym (append-nil (found b)) ∙ sym (append-nil (found b ++ [])))
        ∙ ap (λ (ms : List (Mention N)). name ∷ names ((ms ++ (found b ++ [])) ++ [])) (sym (named a x e))

    caught : (name : N) (a b c : Node N) (o p : Option N) → name_alone b ≡ o → name_alone c ≡ p → by_form (catching a o p) name (a ∷ b ∷ c ∷ []) [] ≡ plainly name (a ∷ b ∷ c ∷ []) []
    caught name a b c None p e h = refl
    caught name a b c (Some x) None e h = refl
    caught name a b c (Some x) (Some z) e h =
        ap (λ (l : List N). name ∷ l)
        (both (found a) (class x ∷ (called z ∷ [])) (found a) (found b ++ (found c ++ [])) refl (ap (λ (ms : List (Mention N)). names (ms ++ (plain z ∷ []))) (sym (named b x e)) ∙ ap (λ (ms : List (Mention N)). names (found b ++ (ms ++ []))) (sym (named c z h)))
        ∙ ap names (sym (append-nil (found a ++ (found b ++ (found c ++ []))))))

    special_names : (call : Special) (name : N) (ps : List (Node N)) → by_form (special_form name_alone call ps) name ps [] ≡ plainly name ps []
    special_names special.Cond name [] = refl
    special_names special.Cond name (a ∷ []) = refl
    special_names special.Cond name (a ∷ b ∷ []) = refl
    special_names special.Cond name (a ∷ b ∷ c ∷ []) = refl
    special_names special.Cond name (a ∷ b ∷ c ∷ d ∷ ps) = refl
    special_names special.Map name [] = refl
    special_names special.Map name (a ∷ []) = refl
    special_names special.Map name (a ∷ b ∷ []) = mapped name a b (name_alone a) refl
    special_names special.Map name (a ∷ b ∷ c ∷ ps) = refl
    special_names special.Catch name [] = refl
    special_names special.Catch name (a ∷ []) = refl
    special_names special.Catch name (a ∷ b ∷ []) = refl
    special_names special.Catch name (a ∷ b ∷ c ∷ []) = caught name a b c (name_alone b) (name_alone c) refl refl
    special_names special.Catch name (a ∷ b ∷ c ∷ d ∷ ps) = refl

    form_names : (s : Option Special) (name : N) (ps : List (Node N)) (ks : List (N × Node N)) → by_form (form_of name_alone s ps ks) name ps (behind ks) ≡ plainly name ps (behind ks)
    form_names None name ps ks = refl
    form_names (Some call) name ps [] = special_names call name ps
    form_names (Some call) name ps (k ∷ ks) = refl

    call_names : (name : N) (ps : List (Node N)) (ks : List (N × Node N)) → names (found (roll-Node N (Node-F.Call name ps ks))) ≡ plainly name ps (behind ks)
    call_names name ps ks = ap names (folded_call kind call_mentions mentions_at name ps ks) ∙ form_names (kind name) name ps ks

  -- ---- expressions

  module _ (kind other : N → Option Special) where
    abbrev one_way : Node N → List (Mention N)
    one_way = mentions_in kind

    abbrev other_way : Node N → List (Mention N)
    other_way = mentions_in other

    abbrev Alike : Node N → Type 0
    Alike n = names (one_way n) ≡ names (other_way n)

    at_layer : (y : Node-F N (Node N)) → NoCall y → names (mentions_at (map-Node N (Node N) (List (Mention N)) one_way y)) ≡ names (mentions_at (map-Node N (Node N) (List (Mention N)) other_way y)) → Alike (roll-Node N y)
    at_layer y none e = ap names (folded_other kind call_mentions mentions_at y none) ∙ e ∙ sym (ap names (folded_other other call_mentions mentions_at y none))

    abbrev Held : Type 0
    Held = (n : Node N) × Alike n

    abbrev node_of : Held → Node N
    node_of h = h.0

    abbrev seconds : {K X Y : Type 0} → (X → Y) → List (K × X) → List (K × Y)
    seconds k ps = map (λ p. (p.0, k p.1)) ps

    abbrev couples : {X Y : Type 0} → (X → Y) → List (X × X) → List (Y × Y)
    couples k ps = map (λ p. (k p.0, k p.1)) ps

    parts : (hs : List Held) → names (joined (map one_way (map node_of hs))) ≡ names (joined (map other_way (map node_of hs)))
    parts [] = refl
    parts (h ∷ hs) = both (one_way h.0) _ (other_way h.0) _ h.1 (parts hs)

    keywords : (hs : List (N × Held)) → names (joined (map keyword_mentions (seconds one_way (seconds node_of hs)))) ≡ names (joined (map keyword_mentions (seconds other_way (seconds node_of hs))))
    keywords [] = refl
    keywords (h ∷ hs) = both (plain h.0 ∷ one_way h.1.0) _ (plain h.0 ∷ other_way h.1.0) _ (after h.0 _ _ h.1.1) (keywords hs)

    links : (hs : List (Operator × Held)) → names (joined (map (λ l. l.1) (seconds one_way (seconds node_of hs)))) ≡ names (joined (map (λ l. l.1) (seconds other_way (seconds node_of hs))))
    links [] = refl
    links (h ∷ hs) = both (one_way h.1.0) _ (other_way h.1.0) _ h.1.1 (links hs)

    pairs : (hs : List (Held × Held)) → names (joined (map pair_mentions (couples one_way (couples node_of hs)))) ≡ names (joined (map pair_mentions (couples other_way (couples node_of hs))))
    pairs [] = refl
    pairs (h ∷ hs) = both (one_way h.0.0 ++ one_way h.1.0) _ (other_way h.0.0 ++ other_way h.1.0) _ (both (one_way h.0.0) (one_way h.1.0) (other_way h.0.0) (other_way h.1.0) h.0.1 h.1.1) (pairs hs)

    step : (y : Node-F N Held) → Alike (roll-Node N (map-Node N Held (Node N) node_of y))
    step (Node-F.Lit v) = at_layer (Node-F.Lit v) tt refl
    step (Node-F.Name name) = at_layer (Node-F.Name name) tt refl
    step (Node-F.Call name hs ks) =
        call_names kind name (map node_of hs) (seconds node_of ks)
        ∙ after name _ _ (both (joined (map one_way (map node_of hs))) (joined (map keyword_mentions (seconds one_way (seconds node_of ks)))) (joined (map other_way (map node_of hs))) (joined (map keyword_mentions (seconds other_way (seconds node_of ks)))) (parts hs) (keywords ks))
        ∙ sym (call_names other name (map node_of hs) (seconds node_of ks))
    step (Node-F.Method h name hs) = at_layer (Node-F.Method h.0 name (map node_of hs)) tt (both (one_way h.0) _ (other_way h.0) _ h.1 (parts hs))
    step (Node-F.Index a b) = at_layer (Node-F.Index a.0 b.0) tt (both (one_way a.0) _ (other_way a.0) _ a.1 b.1)
    step (Node-F.Path a) = at_layer (Node-F.Path a.0) tt a.1
    step (Node-F.Neg a) = at_layer (Node-F.Neg a.0) tt a.1
    step (Node-F.Not a) = at_layer (Node-F.Not a.0) tt a.1
    step (Node-F.Chain a hs) = at_layer (Node-F.Chain a.0 (seconds node_of hs)) tt (both (one_way a.0) _ (other_way a.0) _ a.1 (links hs))
    step (Node-F.Compare o a b) = at_layer (Node-F.Compare o a.0 b.0) tt (both (one_way a.0) _ (other_way a.0) _ a.1 b.1)
    step (Node-F.And hs) = at_layer (Node-F.And (map node_of hs)) tt (parts hs)
    step (Node-F.Or hs) = at_layer (Node-F.Or (map node_of hs)) tt (parts hs)
    step (Node-F.Cond a b c) = at_layer (Node-F.Cond a.0 b.0 c.0) tt (both (one_way a.0) _ (other_way a.0) _ a.1 (both (one_way b.0) (one_way c.0) (other_way b.0) (other_way c.0) b.1 c.1))
    step (Node-F.List hs) = at_layer (Node-F.List (map node_of hs)) tt (parts hs)
    step (Node-F.Dict hs) = at_layer (Node-F.Dict (couples node_of hs)) tt (pairs hs)
    step (Node-F.Comp a name b hs) =
        at_layer (Node-F.Comp a.0 name b.0 (map node_of hs)) tt
        (both (one_way a.0) _ (other_way a.0) _ a.1 (after name _ _ (both (one_way b.0) (joined (map one_way (map node_of hs))) (other_way b.0) (joined (map other_way (map node_of hs))) b.1 (parts hs))))

    node_names : (n : Node N) → Alike n
    node_names = ind-Node N Alike (λ x y is. subst (λ z. Alike (roll-Node N z)) is (step y))

    -- ---- statements

    abbrev one_statement : Statement N → List (Mention N)
    one_statement = mentions_in_statement kind

    abbrev other_statement : Statement N → List (Mention N)
    other_statement = mentions_in_statement other

    abbrev AlikeStatement : Statement N → Type 0
    AlikeStatement x = names (one_statement x) ≡ names (other_statement x)

    statement_layer : (y : Statement-F N (Statement N))
        → names (statement_mentions_at kind (map-Statement N (Statement N) (List (Mention N)) one_statement y)) ≡ names (statement_mentions_at other (map-Statement N (Statement N) (List (Mention N)) other_statement y)) → AlikeStatement (roll-Statement N y)
    statement_layer y e =
        ap names (fold-roll-Statement N (List (Mention N)) (statement_mentions_at kind) y) ∙ e ∙ sym (ap names (fold-roll-Statement N (List (Mention N)) (statement_mentions_at other) y))

    abbrev HeldStatement : Type 0
    HeldStatement = (x : Statement N) × AlikeStatement x

    abbrev statement_of : HeldStatement → Statement N
    statement_of h = h.0

    abbrev blocks : {L X Y : Type 0} → (X → Y) → List (L × List X) → List (L × List Y)
    blocks k bs = map (λ b. (b.0, map k b.1)) bs

    statements : (hs : List HeldStatement) → names (joined (map one_statement (map statement_of hs))) ≡ names (joined (map other_statement (map statement_of hs)))
    statements [] = refl
    statements (h ∷ hs) = both (one_statement h.0) _ (other_statement h.0) _ h.1 (statements hs)

    branches : (bs : List (Node N × List HeldStatement)) → names (joined (map (branch_mentions kind) (blocks one_statement (blocks statement_of bs)))) ≡ names (joined (map (branch_mentions other) (blocks other_statement (blocks statement_of bs))))
    branches [] = refl
    branches (b ∷ bs) =
        both (one_way b.0 ++ joined (map one_statement (map statement_of b.1))) _ (other_way b.0 ++ joined (map other_statement (map statement_of b.1))) _
        (both (one_way b.0) (joined (map one_statement (map statement_of b.1))) (other_way b.0) (joined (map other_statement (map statement_of b.1))) (node_names b.0) (statements b.1)) (branches bs)

    answers : (e : Option (Node N)) → names (answer_mentions kind e) ≡ names (answer_mentions other e)
    answers None = refl
    answers (Some e) = node_names e

    guarded : (e : Node N) (hs : List HeldStatement) → names (one_way e ++ joined (map one_statement (map statement_of hs))) ≡ names (other_way e ++ joined (map other_statement (map statement_of hs)))
    guarded e hs = both (one_way e) (joined (map one_statement (map statement_of hs))) (other_way e) (joined (map other_statement (map statement_of hs))) (node_names e) (statements hs)

    statement_step : (y : Statement-F N HeldStatement) → AlikeStatement (roll-Statement N (map-Statement N HeldStatement (Statement N) statement_of y))
    statement_step (Statement-F.Assign name e) = statement_layer (Statement-F.Assign name e) (after name _ _ (node_names e))
    statement_step (Statement-F.For name e hs) = statement_layer (Statement-F.For name e (map statement_of hs)) (after name _ _ (guarded e hs))
    statement_step (Statement-F.While e hs) = statement_layer (Statement-F.While e (map statement_of hs)) (guarded e hs)
    statement_step (Statement-F.If bs hs) =
        statement_layer (Statement-F.If (blocks statement_of bs) (map statement_of hs))
        (both (joined (map (branch_mentions kind) (blocks one_statement (blocks statement_of bs)))) (joined (map one_statement (map statement_of hs))) (joined (map (branch_mentions other) (blocks other_statement (blocks statement_of bs)))) (joined (map other_statement (map statement_of hs))) (branches bs) (statements hs))
    statement_step (Statement-F.Return e) = statement_layer (Statement-F.Return e) (answers e)
    statement_step (Statement-F.Raise name e) = statement_layer (Statement-F.Raise name e) (after name _ _ (node_names e))
    statement_step Statement-F.Pass = statement_layer Statement-F.Pass refl
    statement_step (Statement-F.Expr e) = statement_layer (Statement-F.Expr e) (node_names e)

    statement_names : (x : Statement N) → AlikeStatement x
    statement_names = ind-Statement N AlikeStatement (λ x y is. subst (λ z. AlikeStatement (roll-Statement N z)) is (statement_step y))

    pub block_names : (xs : List (Statement N)) → names (mentions_in_block kind xs) ≡ names (mentions_in_block other xs)
    block_names [] = refl
    block_names (x ∷ xs) = both (one_statement x) (mentions_in_block kind xs) (other_statement x) (mentions_in_block other xs) (statement_names x) (block_names xs)
