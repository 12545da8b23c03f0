-- Trees with other names, of which some parts are pairs.
use Rattle.std.proofs.Common.{◌≡◌, ℕ, ◌+◌, ◌<◌, ◌≤◌, max, List, [], ◌∷◌, ◌++◌, map, take, get_or, length, Result, Ok, Err, IfOk, refl, sym, ap, ◌∙◌, arith, rules}
use Rattle.std.proofs.lemmas.List.{map_more, take_all}
use denote.Param.Weighed.{most, at_most}
use Rattle.rd_tree.specs.declared.tree.Operator.{Operator}
use Rattle.rd_tree.specs.declared.tree.Node.{Node, size-Node, the_lemmas}
use Rattle.rd_tree.specs.declared.tree.Node.TheViews as made
use Rattle.rd_tree.specs.declared.tree.Node.TheVariants as variant
use Rattle.rd_tree.specs.declared.tree.Node.TheOpen.{Node-F}
use Rattle.rd_tree.specs.declared.tree.Node.TheFolds.{fold-roll-Node}
use Rattle.rd_tree.specs.declared.tree.Statement.{Statement, size-Statement}
use Rattle.rd_tree.specs.declared.tree.Statement as of_statement
use Rattle.rd_tree.specs.declared.tree.Statement.TheViews as made_statement
use Rattle.rd_tree.specs.declared.tree.Statement.TheVariants as variant_statement
use Rattle.rd_tree.specs.declared.tree.Statement.TheOpen.{Statement-F}
use Rattle.rd_tree.specs.declared.tree.Statement.TheFolds.{fold-roll-Statement}
use Rattle.rd_code.specs.Renaming.{renamed, renamed_at, renamed_first, renamed_keyword, renamed_link, renamed_pair, renamed_branch, renamed_part, renamed_statement, renamed_statement_at}

-- an answer that is the same, told otherwise
same_answer : {A E : Type 0} (result : Result A E) (a b : A) → IfOk result (λ m. m ≡ a) → a ≡ b → IfOk result (λ m. m ≡ b)
same_answer (Ok m) a b h e = h ∙ e
same_answer (Err x) a b h e = h

-- one more item of a list is walked
pub walked_on : {A B : Type 0} (f : A → B) (xs : List A) (i : ℕ) (x : A) (y : B) (items more : List B) → more ≡ items ++ y ∷ [] → items ≡ map f (take i xs) → i < length xs → x ≡ get_or xs i x → y ≡ f x → more ≡ map f (take (i + 1) xs)
walked_on f xs i x y items more p e h k u = p ∙ rw (e, u) (sym (map_more f xs i x h ∙ ap (λ z. map f (take i xs) ++ f z ∷ []) (sym k)))

-- a whole list is walked
pub walked_whole : {A B E : Type 0} (f : A → B) (xs : List A) (i : ℕ) (items : List B) (result : Result (List B) E) → IfOk result (λ m. m ≡ items) → items ≡ map f (take i xs) → length xs ≤ i → IfOk result (λ m. m ≡ map f xs)
walked_whole f xs i items result h e p = same_answer result items (map f xs) h (e ∙ ap (map f) (take_all i xs p))

-- a pair of two equals
pub same_pair : {A B : Type 0} (a c : A) (b d : B) → a ≡ c → b ≡ d → ◌≡◌ {A = A × B} (a, b) (c, d)
same_pair a c b d e h = rw (e, h) refl

-- an item is no deeper than its list
pub item_within : {X : Type 0} (depth : X → ℕ) (xs : List X) (i : ℕ) (x : X) → i < length xs → x ≡ get_or xs i x → depth x ≤ most depth xs
item_within depth xs i x p e = omega (arith, at_most depth xs i x p, ap depth e)

-- the block of a branch is no deeper than the branches
pub block_within : {T X : Type 0} (depth : X → ℕ) (bs : List (T × List X)) (i : ℕ) (b : T × List X) (xs : List X) → i < length bs → b ≡ get_or bs i b → xs ≡ b.1 → most depth xs ≤ most (λ p. most depth p.1) bs
block_within depth bs i b xs p e h = rw h (item_within (λ p. most depth p.1) bs i b p e)

module _ {N : Type 0} where
  size_call : (name : N) (ps : List (Node N)) (ks : List (N × Node N)) → size-Node N (variant.Call name ps ks) ≡ max (most (size-Node N) ps) (most (λ p. size-Node N p.1) ks) + 1
  size_call name ps ks = search (rules, the_lemmas)

  size_chain : (first : Node N) (rest : List (Operator × Node N)) → size-Node N (variant.Chain first rest) ≡ max (size-Node N first) (most (λ p. size-Node N p.1) rest) + 1
  size_chain first rest = search (rules, the_lemmas)

  size_dict : (ps : List (Node N × Node N)) → size-Node N (variant.Dict ps) ≡ most (λ p. max (size-Node N p.0) (size-Node N p.1)) ps + 1
  size_dict ps = search (rules, the_lemmas)

  -- the parts of a node are walked after it
  pub call_falls : (n : Node N) (name : N) (ps qs : List (Node N)) (ks ls : List (N × Node N)) → n ≡ variant.Call name ps ks → qs ≡ ps → ls ≡ ks → max (most (size-Node N) qs) (most (λ p. size-Node N p.1) ls) < size-Node N n
  call_falls n name ps qs ks ls i e h = rw (i, e, h, size_call) (omega arith)

  pub chain_falls : (n : Node N) (first : Node N) (rest links : List (Operator × Node N)) → n ≡ variant.Chain first rest → links ≡ rest → max (size-Node N first) (most (λ p. size-Node N p.1) links) < size-Node N n
  chain_falls n first rest links i e = rw (i, e, size_chain) (omega arith)

  pub dict_falls : (n : Node N) (ps qs : List (Node N × Node N)) → n ≡ variant.Dict ps → qs ≡ ps → most (λ p. max (size-Node N p.0) (size-Node N p.1)) qs < size-Node N n
  dict_falls n ps qs i e = rw (i, e, size_dict) (omega arith)

  size_if : (bs : List (Node N × List (Statement N))) (otherwise : List (Statement N)) → size-Statement N (variant_statement.If bs otherwise) ≡ max (most (λ b. most (size-Statement N) b.1) bs) (most (size-Statement N) otherwise) + 1
  size_if bs otherwise = search (rules, of_statement.the_lemmas)

  -- the blocks of a statement are walked after it
  pub branches_fall : (x : Statement N) (bs cs : List (Node N × List (Statement N))) (otherwise : List (Statement N)) → x ≡ variant_statement.If bs otherwise → cs ≡ bs → most (λ b. most (size-Statement N) b.1) cs < size-Statement N x
  branches_fall x bs cs otherwise i e = rw (i, e, size_if) (omega arith)

  pub otherwise_falls : (x : Statement N) (bs : List (Node N × List (Statement N))) (otherwise other : List (Statement N)) → x ≡ variant_statement.If bs otherwise → other ≡ otherwise → most (size-Statement N) other < size-Statement N x
  otherwise_falls x bs otherwise other i e = rw (i, e, size_if) (omega arith)

module _ {N M : Type 0} (r : N → M) where
  keywords_twice : (ks : List (N × Node N)) → map (renamed_first r) (map (λ k. (k.0, renamed r k.1)) ks) ≡ map (renamed_keyword r) ks
  keywords_twice [] = refl
  keywords_twice (k ∷ ks) = ap (λ ls. renamed_keyword r k ∷ ls) (keywords_twice ks)

  renamed_call : (name : N) (positional : List (Node N)) (keywords : List (N × Node N)) → renamed r (variant.Call name positional keywords) ≡ variant.Call (r name) (map (renamed r) positional) (map (renamed_keyword r) keywords)
  unfolding made.roll-Node denote.Hole.Carrier.roll
  renamed_call name positional keywords =
      fold-roll-Node N (Node M) (λ x. made.roll-Node M (renamed_at r x)) (Node-F.Call name positional keywords) ∙ ap (λ ls. variant.Call (r name) (map (renamed r) positional) ls) (keywords_twice keywords)

  pub call_renamed : {E : Type 0} (n : Node N) (name : N) (ps qs : List (Node N)) (ks ls : List (N × Node N)) (result : Result (Node M) E) → n ≡ variant.Call name ps ks → qs ≡ ps → ls ≡ ks
      → IfOk result (λ m. m ≡ variant.Call (r name) (map (renamed r) qs) (map (renamed_keyword r) ls)) → IfOk result (λ m. m ≡ renamed r n)
  call_renamed n name ps qs ks ls result i e u h =
      same_answer result (variant.Call (r name) (map (renamed r) qs) (map (renamed_keyword r) ls)) (renamed r n) h (rw (e, u, i) (sym (renamed_call name ps ks)))

  renamed_chain : (first : Node N) (rest : List (Operator × Node N)) → renamed r (variant.Chain first rest) ≡ variant.Chain (renamed r first) (map (renamed_link r) rest)
  unfolding made.roll-Node denote.Hole.Carrier.roll
  renamed_chain first rest = fold-roll-Node N (Node M) (λ x. made.roll-Node M (renamed_at r x)) (Node-F.Chain first rest)

  pub chain_renamed : {E : Type 0} (n : Node N) (first : Node N) (rest links : List (Operator × Node N)) (result : Result (Node M) E) → n ≡ variant.Chain first rest → links ≡ rest
      → IfOk result (λ m. m ≡ variant.Chain (renamed r first) (map (renamed_link r) links)) → IfOk result (λ m. m ≡ renamed r n)
  chain_renamed n first rest links result i e h = same_answer result (variant.Chain (renamed r first) (map (renamed_link r) links)) (renamed r n) h (rw (e, i) (sym (renamed_chain first rest)))

  renamed_comprehension : (part : Node N) (name : N) (iterable : Node N) (conditions : List (Node N)) → renamed r (variant.Comp part name iterable conditions) ≡ variant.Comp (renamed r part) (r name) (renamed r iterable) (map (renamed r) conditions)
  unfolding made.roll-Node denote.Hole.Carrier.roll
  renamed_comprehension part name iterable conditions = fold-roll-Node N (Node M) (λ x. made.roll-Node M (renamed_at r x)) (Node-F.Comp part name iterable conditions)

  pub comprehension_renamed : {E : Type 0} (n : Node N) (part : Node N) (name : N) (iterable : Node N) (conditions all : List (Node N)) (result : Result (Node M) E) → n ≡ variant.Comp part name iterable conditions → all ≡ conditions
      → IfOk result (λ m. m ≡ variant.Comp (renamed r part) (r name) (renamed r iterable) (map (renamed r) all)) → IfOk result (λ m. m ≡ renamed r n)
  comprehension_renamed n part name iterable conditions all result i e h =
      same_answer result (variant.Comp (renamed r part) (r name) (renamed r iterable) (map (renamed r) all)) (renamed r n) h (rw (e, i) (sym (renamed_comprehension part name iterable conditions)))

  renamed_method : (receiver : Node N) (name : List ℕ) (others : List (Node N)) → renamed r (variant.Method receiver name others) ≡ variant.Method (renamed r receiver) name (map (renamed r) others)
  unfolding made.roll-Node denote.Hole.Carrier.roll
  renamed_method receiver name others = fold-roll-Node N (Node M) (λ x. made.roll-Node M (renamed_at r x)) (Node-F.Method receiver name others)

  pub method_renamed : {E : Type 0} (n : Node N) (receiver : Node N) (name : List ℕ) (others all : List (Node N)) (result : Result (Node M) E) → n ≡ variant.Method receiver name others → all ≡ others
      → IfOk result (λ m. m ≡ variant.Method (renamed r receiver) name (map (renamed r) all)) → IfOk result (λ m. m ≡ renamed r n)
  method_renamed n receiver name others all result i e h =
      same_answer result (variant.Method (renamed r receiver) name (map (renamed r) all)) (renamed r n) h (rw (e, i) (sym (renamed_method receiver name others)))

  renamed_and : (ps : List (Node N)) → renamed r (variant.And ps) ≡ variant.And (map (renamed r) ps)
  unfolding made.roll-Node denote.Hole.Carrier.roll
  renamed_and ps = fold-roll-Node N (Node M) (λ x. made.roll-Node M (renamed_at r x)) (Node-F.And ps)

  pub and_renamed : (n : Node N) (ps qs : List (Node N)) (ms : List (Node M)) → n ≡ variant.And ps → qs ≡ ps → ms ≡ map (renamed r) qs → variant.And ms ≡ renamed r n
  and_renamed n ps qs ms i e h = rw (h, e, i) (sym (renamed_and ps))

  renamed_or : (ps : List (Node N)) → renamed r (variant.Or ps) ≡ variant.Or (map (renamed r) ps)
  unfolding made.roll-Node denote.Hole.Carrier.roll
  renamed_or ps = fold-roll-Node N (Node M) (λ x. made.roll-Node M (renamed_at r x)) (Node-F.Or ps)

  pub or_renamed : (n : Node N) (ps qs : List (Node N)) (ms : List (Node M)) → n ≡ variant.Or ps → qs ≡ ps → ms ≡ map (renamed r) qs → variant.Or ms ≡ renamed r n
  or_renamed n ps qs ms i e h = rw (h, e, i) (sym (renamed_or ps))

  renamed_list : (ps : List (Node N)) → renamed r (variant.List ps) ≡ variant.List (map (renamed r) ps)
  unfolding made.roll-Node denote.Hole.Carrier.roll
  renamed_list ps = fold-roll-Node N (Node M) (λ x. made.roll-Node M (renamed_at r x)) (Node-F.List ps)

  pub list_renamed : (n : Node N) (ps qs : List (Node N)) (ms : List (Node M)) → n ≡ variant.List ps → qs ≡ ps → ms ≡ map (renamed r) qs → variant.List ms ≡ renamed r n
  list_renamed n ps qs ms i e h = rw (h, e, i) (sym (renamed_list ps))

  renamed_dict : (ps : List (Node N × Node N)) → renamed r (variant.Dict ps) ≡ variant.Dict (map (renamed_pair r) ps)
  unfolding made.roll-Node denote.Hole.Carrier.roll
  renamed_dict ps = fold-roll-Node N (Node M) (λ x. made.roll-Node M (renamed_at r x)) (Node-F.Dict ps)

  pub dict_renamed : (n : Node N) (ps qs : List (Node N × Node N)) (ms : List (Node M × Node M)) → n ≡ variant.Dict ps → qs ≡ ps → ms ≡ map (renamed_pair r) qs → variant.Dict ms ≡ renamed r n
  dict_renamed n ps qs ms i e h = rw (h, e, i) (sym (renamed_dict ps))

  branches_twice : (bs : List (Node N × List (Statement N))) → map (renamed_branch r) (map (λ b. (b.0, map (renamed_statement r) b.1)) bs) ≡ map (renamed_part r) bs
  branches_twice [] = refl
  branches_twice (b ∷ bs) = ap (λ cs. renamed_part r b ∷ cs) (branches_twice bs)

  renamed_if : (bs : List (Node N × List (Statement N))) (otherwise : List (Statement N)) → renamed_statement r (variant_statement.If bs otherwise) ≡ variant_statement.If (map (renamed_part r) bs) (map (renamed_statement r) otherwise)
  unfolding made_statement.roll-Statement denote.Hole.Carrier.roll
  renamed_if bs otherwise =
      fold-roll-Statement N (Statement M) (λ x. made_statement.roll-Statement M (renamed_statement_at r x)) (Statement-F.If bs otherwise) ∙ ap (λ cs. variant_statement.If cs (map (renamed_statement r) otherwise)) (branches_twice bs)

  pub if_renamed : (x : Statement N) (bs ds : List (Node N × List (Statement N))) (otherwise all : List (Statement N)) (cs : List (Node M × List (Statement M))) (other : List (Statement M))
      → x ≡ variant_statement.If bs otherwise → ds ≡ bs → all ≡ otherwise → cs ≡ map (renamed_part r) ds → other ≡ map (renamed_statement r) all → variant_statement.If cs other ≡ renamed_statement r x
  if_renamed x bs ds otherwise all cs other i e k h u = rw (h, u, e, k, i) (sym (renamed_if bs otherwise))

  -- a branch
  pub branch_renamed : (b : Node N × List (Statement N)) (all : List (Statement N)) (test : Node M) (block : List (Statement M)) → all ≡ b.1 → test ≡ renamed r b.0 → block ≡ map (renamed_statement r) all
      → ◌≡◌ {A = Node M × List (Statement M)} (test, block) (renamed_part r b)
  branch_renamed b all test block e h u = rw (h, u, e) refl

  renamed_for : (name : N) (iterable : Node N) (body : List (Statement N)) → renamed_statement r (variant_statement.For name iterable body) ≡ variant_statement.For (r name) (renamed r iterable) (map (renamed_statement r) body)
  unfolding made_statement.roll-Statement denote.Hole.Carrier.roll
  renamed_for name iterable body = fold-roll-Statement N (Statement M) (λ x. made_statement.roll-Statement M (renamed_statement_at r x)) (Statement-F.For name iterable body)

  pub for_renamed : (x : Statement N) (name : N) (iterable : Node N) (body all : List (Statement N)) (m : M) (over : Node M) (block : List (Statement M))
      → x ≡ variant_statement.For name iterable body → all ≡ body → m ≡ r name → over ≡ renamed r iterable → block ≡ map (renamed_statement r) all → variant_statement.For m over block ≡ renamed_statement r x
  for_renamed x name iterable body all m over block i e h u k = rw (h, u, k, e, i) (sym (renamed_for name iterable body))

  renamed_while : (test : Node N) (body : List (Statement N)) → renamed_statement r (variant_statement.While test body) ≡ variant_statement.While (renamed r test) (map (renamed_statement r) body)
  unfolding made_statement.roll-Statement denote.Hole.Carrier.roll
  renamed_while test body = fold-roll-Statement N (Statement M) (λ x. made_statement.roll-Statement M (renamed_statement_at r x)) (Statement-F.While test body)

  pub while_renamed : (x : Statement N) (test : Node N) (body all : List (Statement N)) (other : Node M) (block : List (Statement M))
      → x ≡ variant_statement.While test body → all ≡ body → other ≡ renamed r test → block ≡ map (renamed_statement r) all → variant_statement.While other block ≡ renamed_statement r x
  while_renamed x test body all other block i e h k = rw (h, k, e, i) (sym (renamed_while test body))
