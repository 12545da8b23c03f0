-- A relation of outcomes that the combinators keep is kept by evaluation.
use Rattle.std.proofs.Common.{ℕ, List, [], ◌∷◌, Option, None, Some, Result, Ok, Err}
use Rattle.std.specs.Prelude.{if◌then◌else◌}
use Rattle.rd_value.specs.declared.value.ErrorValue.{ErrorValue}
use Rattle.rd_value.specs.declared.value.FileValue.{FileValue}
use Rattle.rd_value.specs.declared.value.Datum.{Datum}
use Rattle.rd_value.specs.declared.expr.Lazy.{Lazy}
use Rattle.rd_value.specs.declared.expr.Lazy.TheOpen.{Lazy-F}
use Rattle.rd_value.specs.declared.failure.Failure.{Failure}
use Rattle.rd_value.specs.Bind.{bind}
use Rattle.rd_value.specs.Expand.{expand_map, expand_catch}
use Rattle.rd_value.specs.Truth.{truth}
use Rattle.rd_meaning.specs.Step.{error_of}
use Rattle.rd_tree.specs.declared.tree.Function.{Function}
use Rattle.rd_tree.specs.declared.tree.Module.{Module}
use Rattle.rd_registry.specs.Bodies.{signature_of, body}
use Rattle.rd_registry.specs.Fresh as fresh
use Rattle.rd_registry.specs.Fresh.{Visit, Bound, Met, Event, Out, Arguments, failing, before, both, then_, event, inside, gathered, alone, beside, second, paired, parts, seconds, arguments, go_on, on_body, given, recovering, recovered, visit, entered, call, step}

-- of two outcomes of one type
abbrev pub Relation : Type 0 → Type 1
Relation F = (A : Type 0) → Out F A → Out F A → Type 0

-- what a relation must keep
pub record Keeps (F : Type 0) (R : Relation F) : Type 1 where
  pub same : (A : Type 0) (o : Out F A) → R A o o
  pub after : (A : Type 0) (es : List (Event F)) (o p : Out F A) → R A o p → R A (before es o) (before es p)
  pub within : (A : Type 0) (c : Visit F) (o p : Out F A) → R A o p → R A (inside c o) (inside c p)
  pub pair : (A B C : Type 0) (f : A → B → C) (o o' : Out F A) (p p' : Out F B) → R A o o' → R B p p' → R C (both f o p) (both f o' p')
  pub chain : (A B : Type 0) (o o' : Out F A) (go go' : A → Out F B) (fail fail' : Failure → Out F B) → R A o o' → ((a : A) → R B (go a) (go' a)) → ((f : Failure) → R B (fail f) (fail' f)) → R B (then_ o go fail) (then_ o' go' fail')

module _ {F : Type 0} (R : Relation F) (keeps : Keeps F R) where
  abbrev Evaluator : Type 0
  Evaluator = Lazy F → Out F (Datum F)

  abbrev pub Related : Out F (Datum F) → Out F (Datum F) → Type 0
  Related = R (Datum F)

  abbrev pub Evaluators : Evaluator → Evaluator → Type 0
  Evaluators ev ev' = (e : Lazy F) → Related (ev e) (ev' e)

  gathered_kept : {X W : Type 0} (put : X → Datum F → W) (ev ev' : X → Out F (Datum F)) → ((x : X) → Related (ev x) (ev' x)) → (xs : List X) → R (List W) (gathered put ev xs) (gathered put ev' xs)
  gathered_kept {X} {W} put ev ev' u [] = keeps.same (List W) _
  gathered_kept {X} {W} put ev ev' u (x ∷ xs) = keeps.pair (Datum F) (List W) (List W) (λ v ws. put x v ∷ ws) (ev x) (ev' x) (gathered put ev xs) (gathered put ev' xs) (u x) (gathered_kept put ev ev' u xs)

  -- what comes of evaluated parts
  after_kept : (A : Type 0) (o o' : Out F A) (go go' : A → Out F (Datum F)) → R A o o' → ((a : A) → Related (go a) (go' a)) → Related (then_ o go failing) (then_ o' go' failing)
  after_kept A o o' go go' u w = keeps.chain A (Datum F) o o' go go' failing failing u w (λ f. keeps.same (Datum F) _)

  -- what a body, an expansion or a recovery comes to
  module _ (ev ev' : Evaluator) (u : Evaluators ev ev') where
    met_kept : (e : Lazy F) → Related (go_on ev e) (go_on ev' e)
    met_kept e = keeps.after (Datum F) (event (Met e) ∷ []) (ev e) (ev' e) (u e)

    pub body_kept : (origin : List ℕ) (r : Result (Lazy F) ErrorValue) → Related (on_body ev origin r) (on_body ev' origin r)
    body_kept origin (Ok e) = met_kept e
    body_kept origin (Err e) = keeps.same (Datum F) _

    recovering_kept : (f : Failure) (o : Option (Lazy F)) → Related (recovering ev f o) (recovering ev' f o)
    recovering_kept f (Some e) = met_kept e
    recovering_kept f None = keeps.same (Datum F) _

  module _ (file : F → FileValue) (calls calls' : List ℕ → Arguments F → Out F (Datum F)) (c : (t : List ℕ) (args : Arguments F) → Related (calls t args) (calls' t args)) (ev ev' : Evaluator) (u : Evaluators ev ev') where
    parts_kept : (es : List (Lazy F)) → R (List (Datum F)) (parts ev es) (parts ev' es)
    parts_kept es = gathered_kept alone ev ev' u es

    seconds_kept : (K : Type 0) (ps : List (K × Lazy F)) → R (List (K × Datum F)) (seconds ev ps) (seconds ev' ps)
    seconds_kept K ps = gathered_kept beside (second ev) (second ev') (λ p. u p.1) ps

    pub step_kept : (x : Lazy-F F (Lazy F)) → Related (step file calls ev x) (step file calls' ev' x)
    step_kept (Lazy-F.Call task positional keywords) =
        after_kept (Arguments F) (arguments ev positional keywords) (arguments ev' positional keywords) (calls task) (calls' task)
        (keeps.pair (List (Datum F)) (List (List ℕ × Datum F)) (Arguments F) paired (parts ev positional) (parts ev' positional) (seconds ev keywords) (seconds ev' keywords) (parts_kept positional) (seconds_kept (List ℕ) keywords)) (c task)
    step_kept (Lazy-F.ListOf es) = after_kept (List (Datum F)) (parts ev es) (parts ev' es) (fresh.listed file) (fresh.listed file) (parts_kept es) (λ vs. keeps.same (Datum F) _)
    step_kept (Lazy-F.DictOf ps) = after_kept (List (Datum F × Datum F)) (seconds ev ps) (seconds ev' ps) (fresh.keyed file) (fresh.keyed file) (seconds_kept (Datum F) ps) (λ vs. keeps.same (Datum F) _)
    step_kept (Lazy-F.Op kind es) = after_kept (List (Datum F)) (parts ev es) (parts ev' es) (fresh.operated file kind) (fresh.operated file kind) (parts_kept es) (λ vs. keeps.same (Datum F) _)
    step_kept (Lazy-F.Cond test when_true when_false) = after_kept (Datum F) (ev test) (ev' test) _ _ (u test) (λ v. u (if truth v then when_true else when_false))
    step_kept (Lazy-F.Map task list) = after_kept (Datum F) (ev list) (ev' list) (fresh.mapped file ev task) (fresh.mapped file ev' task) (u list) (λ v. body_kept ev ev' u [] (expand_map file task v))
    step_kept (Lazy-F.Catch tried class recover) =
        keeps.chain (Datum F) (Datum F) (ev tried) (ev' tried) given given (recovered ev class recover) (recovered ev' class recover) (u tried) (λ v. keeps.same (Datum F) _) (λ f. recovering_kept ev ev' u f (expand_catch class recover (error_of f)))
    step_kept (Lazy-F.Val v) = keeps.same (Datum F) _
    step_kept (Lazy-F.Input path) = keeps.same (Datum F) _

  module _ (file : F → FileValue) (m : Module) (ev ev' : Evaluator) (u : Evaluators ev ev') (task : List ℕ) where
    entered_kept : (f : Function) (r : Result (List (Datum F)) ErrorValue) → Related (entered file m ev task f r) (entered file m ev' task f r)
    entered_kept f (Ok args) =
        let c : Visit F = visit task args in
        let o = on_body ev task (body file m f args) in
        let p = on_body ev' task (body file m f args) in
        keeps.after (Datum F) (event (Bound c) ∷ []) (inside c o) (inside c p) (keeps.within (Datum F) c o p (body_kept ev ev' u task (body file m f args)))
    entered_kept f (Err e) = keeps.same (Datum F) _

    pub call_kept : (f : Option Function) (args : Arguments F) → Related (call file m ev task f args) (call file m ev' task f args)
    call_kept None args = keeps.same (Datum F) _
    call_kept (Some f) args = entered_kept f (bind file (signature_of f) args.0 args.1)
