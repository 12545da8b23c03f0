-- Fresh evaluation on the model's files gives what the program's does, with digests in place of texts.
use Rattle.std.proofs.Common.{◌≡◌, ◌≢◌, ℕ, zero, suc, le_refl, Bool, true, false, List, [], ◌∷◌, map, Option, None, Some, Result, Ok, Err, refl, sym, ap, ◌∙◌}
use Rattle.std.specs.Prelude.{if◌then◌else◌}
use Rattle.std.specs.Option.{option_map}
use Rattle.rd_value.specs.declared.value.ErrorValue.{ErrorValue}
use Rattle.rd_value.specs.declared.value.FileValue.{FileValue}
use Rattle.rd_value.specs.declared.value.Datum.{Datum}
use Rattle.rd_value.specs.declared.class.Class.{Class}
use Rattle.rd_value.specs.declared.failure.Failure.{Failure}
use Rattle.rd_value.specs.declared.expr.OpKind.{OpKind}
use Rattle.rd_value.specs.declared.expr.Lazy.{Lazy, out-Lazy}
use Rattle.rd_value.specs.declared.expr.Lazy.TheOpen.{Lazy-F}
use Rattle.rd_value.specs.Bind.{bind}
use Rattle.rd_value.specs.Expand.{expand_map, expand_catch}
use Rattle.rd_value.specs.Truth.{truth}
use Rattle.rd_value.specs.Model.{ModelValue, ModelExpr, file_of}
use Rattle.rd_value.specs.Erase.{with_files, with_files_expr, with_files_key, with_files_keyword, carried, carried_all, carried_expr, erase, erase_expr}
use Rattle.rd_value.proofs.Erased.{repr_with_files}
use Rattle.rd_value.proofs.ErasedBind.{bind_with_files}
use Rattle.rd_value.proofs.ErasedCompare.{truth_with_files}
use Rattle.rd_value.proofs.ErasedExpand.{expand_map_with_files, expand_catch_with_files}
use Rattle.rd_value.proofs.ErasedOperators.{applied_with_files}
use Rattle.rd_meaning.specs.Step.{error_of}
use Rattle.rd_tree.specs.declared.tree.Function.{Function}
use Rattle.rd_tree.specs.declared.tree.Module.{Module}
use Rattle.rd_registry.specs.Bodies.{find_task, signature_of, body}
use Rattle.rd_registry.specs.Fits.{FreshGives}
use Rattle.rd_registry.specs.Fresh as fresh
use Rattle.rd_registry.specs.Fresh.{Answer, Gives, Failed, Deep, Out, Arguments, answer_map, failing, join, on_answer, then_, gathered, alone, beside, second, paired, parts, seconds, arguments, made, on_body, given, recovering, recovered, entered, call, calling, step, at_zero, run, fresh}
use Rattle.rd_top.specs.Running.{own}
use Rattle.rd_top.specs.Shown.{line, value_line}
use Rattle.rd_registry.proofs.Deeper.{deeper}
use Rattle.rd_top.proofs.ErasedLayers.{layer_with, out_with_files_expr, pair_with, kept_list, kept_dict}
use Rattle.rd_registry.proofs.ErasedModules.{signature_with_files, body_with_files}

join_with : {A B C A' B' C' : Type 0} (f : A → B → C) (g : A' → B' → C') (j : A → A') (k : B → B') (l : C → C') → ((a : A) (b : B) → g (j a) (k b) ≡ l (f a b)) → (a : Answer A) (b : Answer B) → join g (answer_map j a) (answer_map k b) ≡ answer_map l (join f a b)
join_with f g j k l same (Gives a) (Gives b) = ap Gives (same a b)
join_with f g j k l same (Gives a) (Failed e) = refl
join_with f g j k l same (Gives a) Deep = refl
join_with f g j k l same (Failed e) (Gives b) = refl
join_with f g j k l same (Failed e) (Failed d) = refl
join_with f g j k l same (Failed e) Deep = refl
join_with f g j k l same Deep b = refl

module _ {F G : Type 0} (h : F → G) where
  -- the files through the map
  abbrev pub through : (G → FileValue) → F → FileValue
  through file f = file (h f)

  -- the second answers, through a map, what the first answers
  abbrev pub Maps : {A B : Type 0} → (A → B) → Out F A → Out G B → Type 0
  Maps k o p = p.answer ≡ answer_map k o.answer

  -- the second answers with other files what the first answers
  abbrev pub Answers : Out F (Datum F) → Out G (Datum G) → Type 0
  Answers = Maps (with_files h)

  abbrev pub Evaluators : (Lazy F → Out F (Datum F)) → (Lazy G → Out G (Datum G)) → Type 0
  Evaluators ev ev' = (e : Lazy F) → Answers (ev e) (ev' (with_files_expr h e))

  -- pairs of which the second parts have other files, and arguments
  abbrev pub keyword_with : List ℕ × Lazy F → List ℕ × Lazy G
  keyword_with p = (p.0, with_files_expr h p.1)

  abbrev pub item_with : Datum F × Lazy F → Datum G × Lazy G
  item_with p = (with_files h p.0, with_files_expr h p.1)

  abbrev pub arguments_with : Arguments F → Arguments G
  arguments_with a = (map (with_files h) a.0, map (with_files_keyword h) a.1)

  pub items_with : (ps : List (Datum F × Lazy F)) → map (with_files_key h) (map (λ p. (p.0, with_files_expr h p.1)) ps) ≡ map item_with ps
  items_with [] = refl
  items_with (p ∷ ps) = ap (λ qs. item_with p ∷ qs) (items_with ps)

  module _ {X Y V W : Type 0} (put : X → Datum F → V) (put' : Y → Datum G → W) (ev : X → Out F (Datum F)) (ev' : Y → Out G (Datum G)) (k : X → Y) (w : V → W) (same : (x : X) (v : Datum F) → put' (k x) (with_files h v) ≡ w (put x v)) (u : (x : X) → Answers (ev x) (ev' (k x))) where
    gathered_with : (xs : List X) → Maps (map w) (gathered put ev xs) (gathered put' ev' (map k xs))
    gathered_with [] = refl
    gathered_with (x ∷ xs) =
        rw (u x, gathered_with xs)
        (join_with (λ v ws. put x v ∷ ws) (λ v ws. put' (k x) v ∷ ws) (with_files h) (map w) (map w) (λ v ws. ap (λ y. y ∷ map w ws) (same x v)) (ev x).answer (gathered put ev xs).answer)

  -- what comes of evaluated parts
  answered_with : {A B : Type 0} (j : A → B) (a : Answer A) (go : A → Out F (Datum F)) (go' : B → Out G (Datum G)) → ((a : A) → Answers (go a) (go' (j a)))
      → Answers (on_answer a go failing) (on_answer (answer_map j a) go' failing)
  answered_with j (Gives a) go go' u = u a
  answered_with j (Failed f) go go' u = refl
  answered_with j Deep go go' u = refl

  after_with : {A B : Type 0} (j : A → B) (o : Out F A) (p : Out G B) (go : A → Out F (Datum F)) (go' : B → Out G (Datum G)) → Maps j o p → ((a : A) → Answers (go a) (go' (j a))) → Answers (then_ o go failing) (then_ p go' failing)
  after_with j o p go go' e u = ap (λ a. (on_answer a go' failing).answer) e ∙ answered_with j o.answer go go' u

  -- the binding to a task's parameters
  pub bound_with : (file : G → FileValue) (f : Function) (args : Arguments F)
      → bind file (signature_of f) (map (with_files h) args.0) (map (with_files_keyword h) args.1) ≡ carried_all h (bind (through file) (signature_of f) args.0 args.1)
  bound_with file f args =
      ap (λ ps. bind file ps (map (with_files h) args.0) (map (with_files_keyword h) args.1)) (sym (signature_with_files h f)) ∙ bind_with_files h file (signature_of f) args.0 args.1

  -- what comes of a failure, where a value stays as it is
  otherwise_with : (a : Answer (Datum F)) (fail : Failure → Out F (Datum F)) (fail' : Failure → Out G (Datum G)) → ((f : Failure) → Answers (fail f) (fail' f))
      → Answers (on_answer a given fail) (on_answer (answer_map (with_files h) a) given fail')
  otherwise_with (Gives v) fail fail' u = refl
  otherwise_with (Failed f) fail fail' u = u f
  otherwise_with Deep fail fail' u = refl

  made_with : (r : Result (Datum F) ErrorValue) → Answers (made r) (made (carried h r))
  made_with (Ok v) = refl
  made_with (Err e) = refl

  module _ (ev : Lazy F → Out F (Datum F)) (ev' : Lazy G → Out G (Datum G)) (u : Evaluators ev ev') where
    pub parts_with : (es : List (Lazy F)) → Maps (map (with_files h)) (parts ev es) (parts ev' (map (with_files_expr h) es))
    parts_with es = gathered_with alone alone ev ev' (with_files_expr h) (with_files h) (λ x v. refl) u es

    keywords_with : (ks : List (List ℕ × Lazy F)) → Maps (map (with_files_keyword h)) (seconds ev ks) (seconds ev' (map keyword_with ks))
    keywords_with ks = gathered_with beside beside (second ev) (second ev') keyword_with (with_files_keyword h) (λ x v. refl) (λ p. u p.1) ks

    pub pairs_with : (ps : List (Datum F × Lazy F)) → Maps (map (pair_with h)) (seconds ev ps) (seconds ev' (map item_with ps))
    pairs_with ps = gathered_with beside beside (second ev) (second ev') item_with (pair_with h) (λ x v. refl) (λ p. u p.1) ps

    pub all_with : (es : List (Lazy F)) (ks : List (List ℕ × Lazy F)) → Maps arguments_with (arguments ev es ks) (arguments ev' (map (with_files_expr h) es) (map keyword_with ks))
    all_with es ks =
        rw (parts_with es, keywords_with ks) (join_with paired paired (map (with_files h)) (map (with_files_keyword h)) arguments_with (λ a b. refl) (parts ev es).answer (seconds ev ks).answer)

    pub bodies_with : (origin : List ℕ) (r : Result (Lazy F) ErrorValue) → Answers (on_body ev origin r) (on_body ev' origin (carried_expr h r))
    bodies_with origin (Ok e) = u e
    bodies_with origin (Err e) = refl

    recovering_with : (f : Failure) (o : Option (Lazy F)) → Answers (recovering ev f o) (recovering ev' f (option_map (with_files_expr h) o))
    recovering_with f (Some e) = u e
    recovering_with f None = refl

    recovered_with : (class : Class) (recover : List ℕ) (f : Failure) → Answers (recovered ev class recover f) (recovered ev' class recover f)
    recovered_with class recover f = ap (λ o. (recovering ev' f o).answer) (expand_catch_with_files h class recover (error_of f)) ∙ recovering_with f (expand_catch class recover (error_of f))

    pub either_with : (b : Bool) (x y : Lazy F) → Answers (ev (if b then x else y)) (ev' (if b then with_files_expr h x else with_files_expr h y))
    either_with true x y = u x
    either_with false x y = u y

    pub branch_with : (x y : Lazy F) (v : Datum F) → Answers (ev (if truth v then x else y)) (ev' (if truth (with_files h v) then with_files_expr h x else with_files_expr h y))
    branch_with x y v = ap (λ b. (ev' (if b then with_files_expr h x else with_files_expr h y)).answer) (truth_with_files h v) ∙ either_with (truth v) x y

    module _ (file : G → FileValue) where
      operated_with : (kind : OpKind) (vs : List (Datum F)) → Answers (fresh.operated (through file) kind vs) (fresh.operated file kind (map (with_files h) vs))
      operated_with kind vs = ap (λ r. (made {F = G} r).answer) (applied_with_files h file kind vs) ∙ made_with _

      pub mapped_with : (task : List ℕ) (v : Datum F) → Answers (fresh.mapped (through file) ev task v) (fresh.mapped file ev' task (with_files h v))
      mapped_with task v = ap (λ r. (on_body ev' [] r).answer) (expand_map_with_files h file task v) ∙ bodies_with [] (expand_map (through file) task v)

      listed_with : (vs : List (Datum F)) → Answers (fresh.listed (through file) vs) (fresh.listed file (map (with_files h) vs))
      listed_with vs = ap (λ r. (made {F = G} r).answer) (kept_list h file vs) ∙ made_with _

      keyed_with : (ps : List (Datum F × Datum F)) → Answers (fresh.keyed (through file) ps) (fresh.keyed file (map (pair_with h) ps))
      keyed_with ps = ap (λ r. (made {F = G} r).answer) (kept_dict h file ps) ∙ made_with _

      step_with : (calls : List ℕ → Arguments F → Out F (Datum F)) (calls' : List ℕ → Arguments G → Out G (Datum G)) → ((task : List ℕ) (args : Arguments F) → Answers (calls task args) (calls' task (arguments_with args)))
          → (x : Lazy-F F (Lazy F)) → Answers (step (through file) calls ev x) (step file calls' ev' (layer_with h x))
      step_with calls calls' c (Lazy-F.Call task es ks) = after_with arguments_with (arguments ev es ks) (arguments ev' (map (with_files_expr h) es) (map keyword_with ks)) (calls task) (calls' task) (all_with es ks) (c task)
      step_with calls calls' c (Lazy-F.ListOf es) = after_with (map (with_files h)) (parts ev es) (parts ev' (map (with_files_expr h) es)) (fresh.listed (through file)) (fresh.listed file) (parts_with es) listed_with
      step_with calls calls' c (Lazy-F.DictOf ps) =
          rw (items_with ps) (after_with (map (pair_with h)) (seconds ev ps) (seconds ev' (map item_with ps)) (fresh.keyed (through file)) (fresh.keyed file) (pairs_with ps) keyed_with)
      step_with calls calls' c (Lazy-F.Op kind es) = after_with (map (with_files h)) (parts ev es) (parts ev' (map (with_files_expr h) es)) (fresh.operated (through file) kind) (fresh.operated file kind) (parts_with es) (operated_with kind)
      step_with calls calls' c (Lazy-F.Cond test x y) = after_with (with_files h) (ev test) (ev' (with_files_expr h test)) _ _ (u test) (branch_with x y)
      step_with calls calls' c (Lazy-F.Map task list) = after_with (with_files h) (ev list) (ev' (with_files_expr h list)) (fresh.mapped (through file) ev task) (fresh.mapped file ev' task) (u list) (mapped_with task)
      step_with calls calls' c (Lazy-F.Catch tried class recover) =
          ap (λ a. (on_answer a given (recovered ev' class recover)).answer) (u tried) ∙ otherwise_with (ev tried).answer (recovered ev class recover) (recovered ev' class recover) (recovered_with class recover)
      step_with calls calls' c (Lazy-F.Val v) = refl
      step_with calls calls' c (Lazy-F.Input path) = refl

      module _ (m : Module) (task : List ℕ) where
        entered_with : (f : Function) (r : Result (List (Datum F)) ErrorValue) → Answers (entered (through file) m ev task f r) (entered file m ev' task f (carried_all h r))
        entered_with f (Ok args) = ap (λ r. (on_body ev' task r).answer) (body_with_files h file m f args) ∙ bodies_with task (body (through file) m f args)
        entered_with f (Err e) = refl

        call_with : (f : Option Function) (args : Arguments F) → Answers (call (through file) m ev task f args) (call file m ev' task f (arguments_with args))
        call_with None args = refl
        call_with (Some f) args = ap (λ r. (entered file m ev' task f r).answer) (bound_with file f args) ∙ entered_with f (bind (through file) (signature_of f) args.0 args.1)

  zero_with : (x : Lazy-F F (Lazy F)) → Answers (at_zero x) (at_zero (layer_with h x))
  zero_with (Lazy-F.Val v) = refl
  zero_with x = refl

  module _ (file : G → FileValue) (m : Module) where
    pub run_with : (n : ℕ) (e : Lazy F) → Answers (run (through file) m n e) (run file m n (with_files_expr h e))
    unfolding run
    run_with zero e = rw (out_with_files_expr h e) (zero_with (out-Lazy F e))
    run_with (suc n) e =
        let ev = run (through file) m n in
        let ev' = run file m n in
        rw (out_with_files_expr h e)
        (step_with ev ev' (run_with n) file (calling (through file) m ev) (calling file m ev') (λ task. call_with ev ev' (run_with n) file m task (find_task m task)) (out-Lazy F e))

module _ (m : Module) where
  -- each expression of the model, as the program holds it
  pub same_erased : (n : ℕ) (e : ModelExpr) → fresh own m n (erase_expr e) ≡ answer_map erase (fresh file_of m n e)
  unfolding fresh
  same_erased n e = run_with file_of own m n e

  stays : (n : ℕ) (e : ModelExpr) → fresh file_of m n e ≢ Deep → FreshGives file_of m e (fresh file_of m n e)
  unfolding fresh
  stays n e h = (n, λ k l. sym (ap (λ o. o.answer) (deeper file_of m n k l e h)))

  -- What the program's evaluation gives, the model's does.
  pub gives_erased : (e : ModelExpr) (x : Answer (Datum FileValue)) → x ≢ Deep → FreshGives own m (erase_expr e) x → (y : Answer ModelValue) × (FreshGives file_of m e y × (x ≡ answer_map erase y))
  gives_erased e x ends g =
      let y = fresh file_of m g.0 e in
      let same : x ≡ answer_map erase y = sym (g.1 g.0 (le_refl g.0)) ∙ same_erased g.0 e in
      (y, (stays g.0 e (λ d. ends (same ∙ ap (answer_map erase) d)), same))

pub erased_line : (v : ModelValue) → value_line own (erase v) ≡ value_line file_of v
erased_line v = ap line (repr_with_files file_of own v)
