-- The names that stand in a tree with other names.
use Rattle.std.proofs.Common.{◌≡◌, List, [], ◌∷◌, ◌++◌, map, Option, None, Some, refl, sym, ap, ◌∙◌, subst}
use Rattle.std.proofs.lemmas.List.{map-append}
use Rattle.rd_tree.specs.declared.tree.Operator.{Operator}
use Rattle.rd_tree.specs.declared.tree.Node.{Node}
use Rattle.rd_tree.specs.declared.tree.Node.TheViews.{roll-Node}
use Rattle.rd_tree.specs.declared.tree.Node.TheOpen.{Node-F}
use Rattle.rd_tree.specs.declared.tree.Node.TheFolds.{ind-Node, map-Node}
use Rattle.rd_tree.specs.declared.tree.Statement.{Statement}
use Rattle.rd_tree.specs.declared.tree.Statement.TheViews.{roll-Statement}
use Rattle.rd_tree.specs.declared.tree.Statement.TheOpen.{Statement-F}
use Rattle.rd_tree.specs.declared.tree.Statement.TheFolds.{ind-Statement, map-Statement, fold-roll-Statement}
use Rattle.rd_routine.specs.declared.special.Special.{Special}
use Rattle.rd_routine.specs.Forms.{Form, Plain, Wrong, Mapping, Catching, form_with}
use Rattle.rd_routine.proofs.Forms.{NoCall, folded_call, folded_other}
use Rattle.rd_names.specs.Uses.{joined}
use Rattle.rd_code.specs.declared.mention.Mention.{Mention}
use Rattle.rd_code.specs.Mentions.{called, class, plain, keyword_mentions, pair_mentions, call_mentions, branch_mentions, answer_mentions, mentions_at, mentions_in, statement_mentions_at, mentions_in_statement, mentions_in_block}
use Rattle.rd_body.proofs.RenamedForms.{renamed_roll, held_form, plain_form, other_form}
use Rattle.rd_code.specs.Renaming.{renamed_first, renamed_at, renamed, renamed_branch, renamed_answer, renamed_statement_at, renamed_statement}

module _ {N M : Type 0} (r : N → M) where
  -- the same place under another name
  abbrev pub mention_with : Mention N → Mention M
  mention_with m = record { role = m.role; name = r m.name }

  abbrev all_with : List (Mention N) → List (Mention M)
  all_with ms = map mention_with ms

  both : (a b : List (Mention M)) (x y : List (Mention N)) → a ≡ all_with x → b ≡ all_with y → a ++ b ≡ all_with (x ++ y)
  both a b x y e h = ap (λ c. c ++ b) e ∙ ap (λ c. all_with x ++ c) h ∙ sym (map-append mention_with x y)

  one : (m : Mention N) (b : List (Mention M)) (y : List (Mention N)) → b ≡ all_with y → mention_with m ∷ b ≡ all_with (m ∷ y)
  one m b y h = ap (λ c. mention_with m ∷ c) h

-- `special` and `other` tell of a name, before and behind, what its calls make.
module _ {N M : Type 0} (r : N → M) (special : N → Option Special) (other : M → Option Special) (same : (x : N) → other (r x) ≡ special x) where
  abbrev found : Node N → List (Mention N)
  found = mentions_in special

  abbrev found_behind : Node M → List (Mention M)
  found_behind = mentions_in other

  abbrev all_renamed : List (Mention N) → List (Mention M)
  all_renamed = all_with r

  -- ---- expressions

  abbrev Kept : Node N → Type 0
  Kept n = found_behind (renamed r n) ≡ all_renamed (found n)

  at_layer : (y : Node-F N (Node N)) → NoCall y → NoCall (renamed_at r (map-Node N (Node N) (Node M) (renamed r) y))
      → mentions_at (map-Node M (Node M) (List (Mention M)) found_behind (renamed_at r (map-Node N (Node N) (Node M) (renamed r) y))) ≡ all_renamed (mentions_at (map-Node N (Node N) (List (Mention N)) found y)) → Kept (roll-Node N y)
  at_layer y none nothing e =
      ap found_behind (renamed_roll r y) ∙ folded_other other call_mentions mentions_at (renamed_at r (map-Node N (Node N) (Node M) (renamed r) y)) nothing ∙ e ∙ ap all_renamed (sym (folded_other special call_mentions mentions_at y none))

  abbrev Held : Type 0
  Held = (n : Node N) × Kept n

  abbrev node_of : Held → Node N
  node_of h = h.0

  abbrev seconds : {K X Y : Type 0} → (X → Y) → List (K × X) → List (K × Y)
  seconds k ps = map (λ p. (p.0, k p.1)) ps

  abbrev couples : {X Y : Type 0} → (X → Y) → List (X × X) → List (Y × Y)
  couples k ps = map (λ p. (k p.0, k p.1)) ps

  parts : (hs : List Held) → joined (map found_behind (map (renamed r) (map node_of hs))) ≡ all_renamed (joined (map found (map node_of hs)))
  parts [] = refl
  parts (h ∷ hs) = both r _ _ (found h.0) (joined (map found (map node_of hs))) h.1 (parts hs)

  keywords : (hs : List (N × Held)) → joined (map keyword_mentions (seconds found_behind (map (renamed_first r) (seconds (renamed r) (seconds node_of hs))))) ≡ all_renamed (joined (map keyword_mentions (seconds found (seconds node_of hs))))
  keywords [] = refl
  keywords (h ∷ hs) = both r _ _ (plain h.0 ∷ found h.1.0) (joined (map keyword_mentions (seconds found (seconds node_of hs)))) (one r (plain h.0) _ (found h.1.0) h.1.1) (keywords hs)

  links : (hs : List (Operator × Held)) → joined (map (λ l. l.1) (seconds found_behind (seconds (renamed r) (seconds node_of hs)))) ≡ all_renamed (joined (map (λ l. l.1) (seconds found (seconds node_of hs))))
  links [] = refl
  links (h ∷ hs) = both r _ _ (found h.1.0) (joined (map (λ l. l.1) (seconds found (seconds node_of hs)))) h.1.1 (links hs)

  pairs : (hs : List (Held × Held)) → joined (map pair_mentions (couples found_behind (couples (renamed r) (couples node_of hs)))) ≡ all_renamed (joined (map pair_mentions (couples found (couples node_of hs))))
  pairs [] = refl
  pairs (h ∷ hs) =
      both r _ _ (found h.0.0 ++ found h.1.0) (joined (map pair_mentions (couples found (couples node_of hs))))
      (both r _ _ (found h.0.0) (found h.1.0) h.0.1 h.1.1) (pairs hs)

  -- ---- calls

  abbrev found_of : Held → List (Mention N)
  found_of h = found h.0

  abbrev behind_of : Held → List (Mention M)
  behind_of h = found_behind (renamed r h.0)

  plainly : (name : N) (hs : List Held) (ks : List (N × Held))
      → called (r name) ∷ (joined (map found_behind (map (renamed r) (map node_of hs))) ++ joined (map keyword_mentions (seconds found_behind (map (renamed_first r) (seconds (renamed r) (seconds node_of ks))))))
      ≡ all_renamed (called name ∷ (joined (map found (map node_of hs)) ++ joined (map keyword_mentions (seconds found (seconds node_of ks)))))
  plainly name hs ks =
      one r (called name) _ (joined (map found (map node_of hs)) ++ joined (map keyword_mentions (seconds found (seconds node_of ks))))
      (both r _ _ (joined (map found (map node_of hs))) (joined (map keyword_mentions (seconds found (seconds node_of ks)))) (parts hs) (keywords ks))

  formed : (c : Form N Held) (name : N) (hs : List Held) (ks : List (N × Held))
      → call_mentions (form_with r behind_of c) (r name) (map found_behind (map (renamed r) (map node_of hs))) (seconds found_behind (map (renamed_first r) (seconds (renamed r) (seconds node_of ks))))
      ≡ all_renamed (call_mentions (form_with (λ n. n) found_of c) name (map found (map node_of hs)) (seconds found (seconds node_of ks)))
  formed Plain name hs ks = plainly name hs ks
  formed Wrong name hs ks = plainly name hs ks
  formed (Mapping task h) name hs ks = ap (λ ms. called (r name) ∷ (called (r task) ∷ ms)) h.1
  formed (Catching h caught task) name hs ks =
      ap (λ ms. called (r name) ∷ ms) (both r _ _ (found h.0) (class caught ∷ (called task ∷ [])) h.1 refl)

  call_step : (name : N) (hs : List Held) (ks : List (N × Held)) → Kept (roll-Node N (Node-F.Call name (map node_of hs) (seconds node_of ks)))
  call_step name hs ks =
      let ps = map node_of hs in
      let ls = seconds node_of ks in
      let others = map (renamed_first r) (seconds (renamed r) ls) in
      ap found_behind (renamed_roll r (Node-F.Call name ps ls)) ∙ folded_call other call_mentions mentions_at (r name) (map (renamed r) ps) others
      ∙ ap (λ c. call_mentions c (r name) (map found_behind (map (renamed r) ps)) (seconds found_behind others)) (other_form node_of r found_behind (special name) (other (r name)) (same name) hs ks)
      ∙ formed (held_form node_of (special name) hs ks) name hs ks
      ∙ ap all_renamed (ap (λ c. call_mentions c name (map found ps) (seconds found ls)) (sym (plain_form node_of found (special name) hs ks)) ∙ sym (folded_call special call_mentions mentions_at name ps ls))

  step : (y : Node-F N Held) → Kept (roll-Node N (map-Node N Held (Node N) node_of y))
  step (Node-F.Lit v) = at_layer (Node-F.Lit v) tt tt refl
  step (Node-F.Name name) = at_layer (Node-F.Name name) tt tt refl
  step (Node-F.Call name hs ks) = call_step name hs ks
  step (Node-F.Method h name hs) = at_layer (Node-F.Method h.0 name (map node_of hs)) tt tt (both r _ _ (found h.0) (joined (map found (map node_of hs))) h.1 (parts hs))
  step (Node-F.Index a b) = at_layer (Node-F.Index a.0 b.0) tt tt (both r _ _ (found a.0) (found b.0) a.1 b.1)
  step (Node-F.Path a) = at_layer (Node-F.Path a.0) tt tt a.1
  step (Node-F.Neg a) = at_layer (Node-F.Neg a.0) tt tt a.1
  step (Node-F.Not a) = at_layer (Node-F.Not a.0) tt tt a.1
  step (Node-F.Chain a hs) = at_layer (Node-F.Chain a.0 (seconds node_of hs)) tt tt (both r _ _ (found a.0) (joined (map (λ l. l.1) (seconds found (seconds node_of hs)))) a.1 (links hs))
  step (Node-F.Compare c a b) = at_layer (Node-F.Compare c a.0 b.0) tt tt (both r _ _ (found a.0) (found b.0) a.1 b.1)
  step (Node-F.And hs) = at_layer (Node-F.And (map node_of hs)) tt tt (parts hs)
  step (Node-F.Or hs) = at_layer (Node-F.Or (map node_of hs)) tt tt (parts hs)
  step (Node-F.Cond a b c) = at_layer (Node-F.Cond a.0 b.0 c.0) tt tt (both r _ _ (found a.0) (found b.0 ++ found c.0) a.1 (both r _ _ (found b.0) (found c.0) b.1 c.1))
  step (Node-F.List hs) = at_layer (Node-F.List (map node_of hs)) tt tt (parts hs)
  step (Node-F.Dict hs) = at_layer (Node-F.Dict (couples node_of hs)) tt tt (pairs hs)
  step (Node-F.Comp a name b hs) =
      at_layer (Node-F.Comp a.0 name b.0 (map node_of hs)) tt tt
      (both r _ _ (found a.0) (plain name ∷ (found b.0 ++ joined (map found (map node_of hs)))) a.1
      (one r (plain name) _ (found b.0 ++ joined (map found (map node_of hs))) (both r _ _ (found b.0) (joined (map found (map node_of hs))) b.1 (parts hs))))

  pub node_mentions : (n : Node N) → Kept n
  node_mentions = ind-Node N Kept (λ x y is. subst (λ z. Kept (roll-Node N z)) is (step y))

  -- ---- statements

  abbrev statement_found : Statement N → List (Mention N)
  statement_found = mentions_in_statement special

  abbrev statement_behind : Statement M → List (Mention M)
  statement_behind = mentions_in_statement other

  abbrev KeptStatement : Statement N → Type 0
  KeptStatement x = statement_behind (renamed_statement r x) ≡ all_renamed (statement_found x)

  abbrev renamed_one : Statement N → Statement M
  renamed_one = renamed_statement r

  statement_layer : (y : Statement-F N (Statement N)) →
      statement_mentions_at other (map-Statement M (Statement M) (List (Mention M)) statement_behind (renamed_statement_at r (map-Statement N (Statement N) (Statement M) renamed_one y))) ≡ all_renamed (statement_mentions_at special (map-Statement N (Statement N) (List (Mention N)) statement_found y)) →
      KeptStatement (roll-Statement N y)
  statement_layer y e =
      ap statement_behind (fold-roll-Statement N (Statement M) (λ x. roll-Statement M (renamed_statement_at r x)) y)
      ∙ fold-roll-Statement M (List (Mention M)) (statement_mentions_at other) (renamed_statement_at r (map-Statement N (Statement N) (Statement M) renamed_one y))
      ∙ e ∙ ap all_renamed (sym (fold-roll-Statement N (List (Mention N)) (statement_mentions_at special) y))

  abbrev HeldStatement : Type 0
  HeldStatement = (x : Statement N) × KeptStatement x

  abbrev statement_of : HeldStatement → Statement N
  statement_of h = h.0

  abbrev blocks : {L X Y : Type 0} → (X → Y) → List (L × List X) → List (L × List Y)
  blocks k bs = map (λ b. (b.0, map k b.1)) bs

  abbrev inner : List HeldStatement → List (Mention N)
  inner hs = joined (map statement_found (map statement_of hs))

  statements : (hs : List HeldStatement) → joined (map statement_behind (map renamed_one (map statement_of hs))) ≡ all_renamed (inner hs)
  statements [] = refl
  statements (h ∷ hs) = both r _ _ (statement_found h.0) (inner hs) h.1 (statements hs)

  abbrev branched : List (Node N × List HeldStatement) → List (Mention N)
  branched bs = joined (map (branch_mentions special) (blocks statement_found (blocks statement_of bs)))

  branches : (bs : List (Node N × List HeldStatement)) → joined (map (branch_mentions other) (blocks statement_behind (map (renamed_branch r) (blocks renamed_one (blocks statement_of bs))))) ≡ all_renamed (branched bs)
  branches [] = refl
  branches (b ∷ bs) = both r _ _ (found b.0 ++ inner b.1) (branched bs) (both r _ _ (found b.0) (inner b.1) (node_mentions b.0) (statements b.1)) (branches bs)

  answers : (e : Option (Node N)) → answer_mentions other (renamed_answer r e) ≡ all_renamed (answer_mentions special e)
  answers None = refl
  answers (Some e) = node_mentions e

  statement_step : (y : Statement-F N HeldStatement) → KeptStatement (roll-Statement N (map-Statement N HeldStatement (Statement N) statement_of y))
  statement_step (Statement-F.Assign name e) = statement_layer (Statement-F.Assign name e) (one r (plain name) _ (found e) (node_mentions e))
  statement_step (Statement-F.For name e hs) = statement_layer (Statement-F.For name e (map statement_of hs)) (one r (plain name) _ (found e ++ inner hs) (both r _ _ (found e) (inner hs) (node_mentions e) (statements hs)))
  statement_step (Statement-F.While e hs) = statement_layer (Statement-F.While e (map statement_of hs)) (both r _ _ (found e) (inner hs) (node_mentions e) (statements hs))
  statement_step (Statement-F.If bs hs) = statement_layer (Statement-F.If (blocks statement_of bs) (map statement_of hs)) (both r _ _ (branched bs) (inner hs) (branches bs) (statements hs))
  statement_step (Statement-F.Return e) = statement_layer (Statement-F.Return e) (answers e)
  statement_step (Statement-F.Raise name e) = statement_layer (Statement-F.Raise name e) (one r (class name) _ (found e) (node_mentions e))
  statement_step Statement-F.Pass = statement_layer Statement-F.Pass refl
  statement_step (Statement-F.Expr e) = statement_layer (Statement-F.Expr e) (node_mentions e)

  pub statement_mentions : (x : Statement N) → KeptStatement x
  statement_mentions = ind-Statement N KeptStatement (λ x y is. subst (λ z. KeptStatement (roll-Statement N z)) is (statement_step y))

  pub block_mentions : (xs : List (Statement N)) → mentions_in_block other (map renamed_one xs) ≡ all_renamed (mentions_in_block special xs)
  block_mentions [] = refl
  block_mentions (x ∷ xs) = both r _ _ (statement_found x) (mentions_in_block special xs) (statement_mentions x) (block_mentions xs)
