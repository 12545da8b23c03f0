-- Evaluation on the model's files meets as many expressions as the program's does, so one fits where the other does.
use Rattle.std.proofs.Common.{◌≡◌, ℕ, zero, suc, ◌+◌, ◌≤◌, Bool, true, false, List, [], ◌∷◌, ◌++◌, map, Option, None, Some, Result, Ok, Err, refl, sym, ap, subst, ◌∙◌, arith}
use Rattle.std.specs.Prelude.{sum, if◌then◌else◌}
use Rattle.std.specs.Option.{option_map}
use Rattle.rd_value.specs.declared.value.ErrorValue.{ErrorValue}
use Rattle.rd_value.specs.declared.value.FileValue.{FileValue}
use Rattle.rd_value.specs.declared.value.Datum.{Datum}
use Rattle.rd_value.specs.declared.value.Datum.TheVariants as value
use Rattle.rd_value.specs.declared.class.Class.{Class}
use Rattle.rd_value.specs.declared.failure.Failure.{Failure}
use Rattle.rd_value.specs.declared.expr.OpKind.{OpKind}
use Rattle.rd_value.specs.declared.expr.Lazy.{Lazy, out-Lazy}
use Rattle.rd_value.specs.declared.expr.Lazy.TheOpen.{Lazy-F}
use Rattle.rd_value.specs.Bind.{bind}
use Rattle.rd_value.specs.Model.{ModelExpr, file_of}
use Rattle.rd_value.specs.Expand.{expand_map, expand_catch}
use Rattle.rd_value.specs.Operators.{applied, kept}
use Rattle.rd_value.specs.Truth.{truth}
use Rattle.rd_value.proofs.ErasedCompare.{truth_with_files}
use Rattle.rd_value.proofs.ErasedExpand.{expand_map_with_files, expand_catch_with_files}
use Rattle.rd_meaning.specs.Step.{error_of}
use Rattle.rd_value.specs.Erase.{with_files, with_files_key, with_file_expr, with_files_expr, carried_all, carried_expr, erase_expr}
use Rattle.rd_value.proofs.ErasedExprs.{fold_with_files_expr}
use Rattle.rd_tree.specs.declared.tree.Function.{Function}
use Rattle.rd_tree.specs.declared.tree.Module.{Module}
use Rattle.rd_registry.specs.Bodies.{find_task, signature_of, body}
use Rattle.rd_registry.specs.Fits.{most_nested, most_met, counts, lazies_at, lazies, count_met, Fits}
use Rattle.rd_registry.specs.Fresh as fresh
use Rattle.rd_registry.specs.Fresh.{Event, Answer, Gives, Failed, Deep, Out, Arguments, answer_map, failing, on_answer, then_, gathered, alone, beside, second, parts, seconds, arguments, made, go_on, on_body, given, recovering, recovered, visit, entered, call, calling, step, at_zero, run, trace}
use Rattle.rd_top.specs.Running.{own}
use Rattle.rd_top.proofs.Evaluated.{count-append, count_under}
use Rattle.rd_top.proofs.ErasedLayers.{layer_with, out_with_files_expr, pair_with}
use Rattle.rd_registry.proofs.ErasedModules.{body_with_files}
use Rattle.rd_top.proofs.Erased.{through, Maps, Evaluators, keyword_with, item_with, arguments_with, items_with, bound_with, parts_with, pairs_with, all_with, run_with, same_erased}

-- what is made of values tells of nothing
made_count : {F : Type 0} (r : Result (Datum F) ErrorValue) → count_met (made r).events ≡ 0
unfolding count_met
made_count (Ok v) = refl
made_count (Err e) = refl

module _ {F G : Type 0} (h : F → G) where
  counts_with : (ps : List (Datum F × ℕ)) → counts (map (with_files_key h) ps) ≡ counts ps
  counts_with [] = refl
  counts_with (p ∷ ps) = ap (λ ns. p.1 ∷ ns) (counts_with ps)

  lazies_layer : (x : Lazy-F F ℕ) → lazies_at (with_file_expr h x) ≡ lazies_at x
  lazies_layer (Lazy-F.DictOf ps) = ap (λ ns. sum ns + 1) (counts_with ps)
  lazies_layer x = refl

  pub lazies_with : (e : Lazy F) → lazies (with_files_expr h e) ≡ lazies e
  lazies_with = fold_with_files_expr h lazies_at lazies_at lazies_layer

  -- as much is met in the second events as in the first
  abbrev Equal : List (Event F) → List (Event G) → Type 0
  Equal es fs = count_met fs ≡ count_met es

  abbrev Counts : {A B : Type 0} → Out F A → Out G B → Type 0
  Counts o p = Equal o.events p.events

  append_count : (es fs : List (Event F)) (es' fs' : List (Event G)) → Equal es es' → Equal fs fs' → Equal (es ++ fs) (es' ++ fs')
  append_count es fs es' fs' i j = omega (arith, count-append es fs, count-append es' fs')

  module _ {X Y V W : Type 0} (put : X → Datum F → V) (put' : Y → Datum G → W) (ev : X → Out F (Datum F)) (ev' : Y → Out G (Datum G)) (k : X → Y) (c : (x : X) → Counts (ev x) (ev' (k x))) where
    gathered_count : (xs : List X) → Counts (gathered put ev xs) (gathered put' ev' (map k xs))
    unfolding count_met
    gathered_count [] = refl
    gathered_count (x ∷ xs) = append_count (ev x).events _ (ev' (k x)).events _ (c x) (gathered_count xs)

  answered_count : {A B : Type 0} (j : A → B) (a : Answer A) (go : A → Out F (Datum F)) (go' : B → Out G (Datum G)) → ((a : A) → Counts (go a) (go' (j a))) → Counts (on_answer a go failing) (on_answer (answer_map j a) go' failing)
  unfolding count_met
  answered_count j (Gives a) go go' u = u a
  answered_count j (Failed f) go go' u = refl
  answered_count j Deep go go' u = refl

  after_count : {A B : Type 0} (j : A → B) (o : Out F A) (p : Out G B) (go : A → Out F (Datum F)) (go' : B → Out G (Datum G)) → Maps h j o p → Counts o p → ((a : A) → Counts (go a) (go' (j a))) → Counts (then_ o go failing) (then_ p go' failing)
  after_count j o p go go' e i u =
      append_count o.events _ p.events _ i (ap (λ a. count_met (on_answer a go' failing).events) e ∙ answered_count j o.answer go go' u)

  -- what comes of a failure, where a value stays as it is
  otherwise_count : (a : Answer (Datum F)) (fail : Failure → Out F (Datum F)) (fail' : Failure → Out G (Datum G)) → ((f : Failure) → Counts (fail f) (fail' f))
      → Counts (on_answer a given fail) (on_answer (answer_map (with_files h) a) given fail')
  unfolding count_met
  otherwise_count (Gives v) fail fail' u = refl
  otherwise_count (Failed f) fail fail' u = u f
  otherwise_count Deep fail fail' u = refl

  module _ (ev : Lazy F → Out F (Datum F)) (ev' : Lazy G → Out G (Datum G)) (u : Evaluators h ev ev') (c : (e : Lazy F) → Counts (ev e) (ev' (with_files_expr h e))) where
    parts_count : (es : List (Lazy F)) → Counts (parts ev es) (parts ev' (map (with_files_expr h) es))
    parts_count es = gathered_count alone alone ev ev' (with_files_expr h) c es

    keywords_count : (ks : List (List ℕ × Lazy F)) → Counts (seconds ev ks) (seconds ev' (map (keyword_with h) ks))
    keywords_count ks = gathered_count beside beside (second ev) (second ev') (keyword_with h) (λ p. c p.1) ks

    pairs_count : (ps : List (Datum F × Lazy F)) → Counts (seconds ev ps) (seconds ev' (map (item_with h) ps))
    pairs_count ps = gathered_count beside beside (second ev) (second ev') (item_with h) (λ p. c p.1) ps

    met_count : (e : Lazy F) → Counts (go_on ev e) (go_on ev' (with_files_expr h e))
    unfolding count_met
    met_count e = cc (lazies_with e, c e)

    body_count : (task : List ℕ) (r : Result (Lazy F) ErrorValue) → Counts (on_body ev task r) (on_body ev' task (carried_expr h r))
    unfolding count_met
    body_count task (Ok e) = met_count e
    body_count task (Err e) = refl

    recovering_count : (f : Failure) (o : Option (Lazy F)) → Counts (recovering ev f o) (recovering ev' f (option_map (with_files_expr h) o))
    unfolding count_met
    recovering_count f (Some e) = met_count e
    recovering_count f None = refl

    recovered_count : (class : Class) (recover : List ℕ) (f : Failure) → Counts (recovered ev class recover f) (recovered ev' class recover f)
    recovered_count class recover f =
        ap (λ o. count_met (recovering ev' f o).events) (expand_catch_with_files h class recover (error_of f)) ∙ recovering_count f (expand_catch class recover (error_of f))

    either_count : (b : Bool) (x y : Lazy F) → Counts (ev (if b then x else y)) (ev' (if b then with_files_expr h x else with_files_expr h y))
    either_count true x y = c x
    either_count false x y = c y

    branch_count : (x y : Lazy F) (v : Datum F) → Counts (ev (if truth v then x else y)) (ev' (if truth (with_files h v) then with_files_expr h x else with_files_expr h y))
    branch_count x y v = ap (λ b. count_met (ev' (if b then with_files_expr h x else with_files_expr h y)).events) (truth_with_files h v) ∙ either_count (truth v) x y

    module _ (file : G → FileValue) where
      operated_count : (kind : OpKind) (vs : List (Datum F)) → Counts (fresh.operated (through h file) kind vs) (fresh.operated file kind (map (with_files h) vs))
      operated_count kind vs = made_count (applied file kind (map (with_files h) vs)) ∙ sym (made_count (applied (through h file) kind vs))

      mapped_count : (task : List ℕ) (v : Datum F) → Counts (fresh.mapped (through h file) ev task v) (fresh.mapped file ev' task (with_files h v))
      mapped_count task v = ap (λ r. count_met (on_body ev' [] r).events) (expand_map_with_files h file task v) ∙ body_count [] (expand_map (through h file) task v)

      listed_count : (vs : List (Datum F)) → Counts (fresh.listed (through h file) vs) (fresh.listed file (map (with_files h) vs))
      listed_count vs = made_count (kept file (value.List (map (with_files h) vs))) ∙ sym (made_count (kept (through h file) (value.List vs)))

      keyed_count : (ps : List (Datum F × Datum F)) → Counts (fresh.keyed (through h file) ps) (fresh.keyed file (map (pair_with h) ps))
      keyed_count ps = made_count (kept file (value.Dict (map (pair_with h) ps))) ∙ sym (made_count (kept (through h file) (value.Dict ps)))

      step_count : (calls : List ℕ → Arguments F → Out F (Datum F)) (calls' : List ℕ → Arguments G → Out G (Datum G)) → ((task : List ℕ) (args : Arguments F) → Counts (calls task args) (calls' task (arguments_with h args)))
          → (x : Lazy-F F (Lazy F)) → Counts (step (through h file) calls ev x) (step file calls' ev' (layer_with h x))
      unfolding count_met
      step_count calls calls' d (Lazy-F.Call task es ks) =
          after_count (arguments_with h) (arguments ev es ks) (arguments ev' (map (with_files_expr h) es) (map (keyword_with h) ks)) (calls task) (calls' task) (all_with h ev ev' u es ks)
          (append_count (parts ev es).events _ (parts ev' (map (with_files_expr h) es)).events _ (parts_count es) (keywords_count ks)) (d task)
      step_count calls calls' d (Lazy-F.ListOf es) =
          after_count (map (with_files h)) (parts ev es) (parts ev' (map (with_files_expr h) es)) (fresh.listed (through h file)) (fresh.listed file) (parts_with h ev ev' u es) (parts_count es) listed_count
      step_count calls calls' d (Lazy-F.DictOf ps) =
          rw (items_with h ps) (after_count (map (pair_with h)) (seconds ev ps) (seconds ev' (map (item_with h) ps)) (fresh.keyed (through h file)) (fresh.keyed file) (pairs_with h ev ev' u ps) (pairs_count ps) keyed_count)
      step_count calls calls' d (Lazy-F.Op kind es) =
          after_count (map (with_files h)) (parts ev es) (parts ev' (map (with_files_expr h) es)) (fresh.operated (through h file) kind) (fresh.operated file kind) (parts_with h ev ev' u es) (parts_count es) (operated_count kind)
      step_count calls calls' d (Lazy-F.Cond test x y) = after_count (with_files h) (ev test) (ev' (with_files_expr h test)) _ _ (u test) (c test) (branch_count x y)
      step_count calls calls' d (Lazy-F.Map task list) = after_count (with_files h) (ev list) (ev' (with_files_expr h list)) (fresh.mapped (through h file) ev task) (fresh.mapped file ev' task) (u list) (c list) (mapped_count task)
      step_count calls calls' d (Lazy-F.Catch tried class recover) =
          append_count (ev tried).events _ (ev' (with_files_expr h tried)).events _ (c tried)
          (ap (λ a. count_met (on_answer a given (recovered ev' class recover)).events) (u tried) ∙ otherwise_count (ev tried).answer (recovered ev class recover) (recovered ev' class recover) (recovered_count class recover))
      step_count calls calls' d (Lazy-F.Val v) = refl
      step_count calls calls' d (Lazy-F.Input path) = refl

      module _ (m : Module) (task : List ℕ) where
        entered_count : (f : Function) (r : Result (List (Datum F)) ErrorValue) → Counts (entered (through h file) m ev task f r) (entered file m ev' task f (carried_all h r))
        unfolding count_met
        entered_count f (Ok args) =
            let b = body (through h file) m f args in
            rw (body_with_files h file m f args)
            (ap (λ n. 0 + n) (count_under (visit task (map (with_files h) args)) (on_body ev' task (carried_expr h b)).events ∙ body_count task b ∙ sym (count_under (visit task args) (on_body ev task b).events)))
        entered_count f (Err e) = refl

        call_count : (f : Option Function) (args : Arguments F) → Counts (call (through h file) m ev task f args) (call file m ev' task f (arguments_with h args))
        unfolding count_met
        call_count None args = refl
        call_count (Some f) args = rw (bound_with h file f args) (entered_count f (bind (through h file) (signature_of f) args.0 args.1))

  zero_count : (x : Lazy-F F (Lazy F)) → Counts (at_zero x) (at_zero (layer_with h x))
  unfolding count_met
  zero_count (Lazy-F.Val v) = refl
  zero_count x = refl

  module _ (file : G → FileValue) (m : Module) where
    pub count_with : (n : ℕ) (e : Lazy F) → count_met (run file m n (with_files_expr h e)).events ≡ count_met (run (through h file) m n e).events
    unfolding run
    count_with zero e = rw (out_with_files_expr h e) (zero_count (out-Lazy F e))
    count_with (suc n) e =
        let ev = run (through h file) m n in
        let ev' = run file m n in
        rw (out_with_files_expr h e)
        (step_count ev ev' (run_with h file m n) (count_with n) file (calling (through h file) m ev) (calling file m ev') (λ task. call_count ev ev' (run_with h file m n) (count_with n) file m task (find_task m task)) (out-Lazy F e))

    trace_with : (n : ℕ) (e : Lazy F) → count_met (trace file m n (with_files_expr h e)) ≡ count_met (trace (through h file) m n e)
    unfolding trace count_met
    trace_with n e = cc (lazies_with e, count_with n e)

-- an answer with other files is as deep
deep_with : {A B : Type 0} (k : A → B) (a : Answer A) → answer_map k a ≡ Deep → a ≡ Deep
deep_with k (Gives a) e = cc
deep_with k (Failed f) e = cc
deep_with k Deep e = refl

module _ (m : Module) where
  same_count : (n : ℕ) (e : ModelExpr) → count_met (trace own m n (erase_expr e)) ≡ count_met (trace file_of m n e)
  same_count n e = trace_with file_of own m n e

  module _ (e : ModelExpr) where
    pub fits_erased : Fits file_of m e → Fits own m (erase_expr e)
    fits_erased f = record {
      ends = λ d. f.ends (deep_with _ _ (sym (same_erased m most_nested e) ∙ d));
      few = subst (λ n. n ≤ most_met) (sym (same_count most_nested e)) f.few;
    }

    pub fits_restored : Fits own m (erase_expr e) → Fits file_of m e
    fits_restored f = record {
      ends = λ d. f.ends (same_erased m most_nested e ∙ ap (answer_map _) d);
      few = subst (λ n. n ≤ most_met) (same_count most_nested e) f.few;
    }
