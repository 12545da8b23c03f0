-- What a command comes to, and what is printed of it.
use Rattle.std.proofs.Common.{◌≡◌, ◌≢◌, inl, inr, ℕ, ◌≤◌, Bool, true, false, cond, List, [], ◌∷◌, map, length, codes, Option, None, Some, Result, Ok, Err, IfOk, IfSome, refl, sym, ap, subst, ◌∙◌, arith}
use Rattle.std.specs.Prelude.{nat_le}
use Rattle.std.specs.List.{AllZip}
use Rattle.std.specs.FinMap.{get}
use Rattle.std.proofs.lemmas.Bool.{leb-false}
use Rattle.rd_base.specs.declared.memory.OutOfMemory.{OutOfMemory}
use Rattle.rd_base.specs.declared.status.Status.{Status}
use Rattle.rd_base.specs.declared.status.Status.TheVariants as status
use Rattle.rd_base.specs.Status.{number_of}
use Rattle.rd_base.specs.Sink.{added}
use Rattle.rd_value.specs.Limits.{is_within_expr}
use Rattle.rd_value.specs.Model.{ModelValue, file_of}
use Rattle.rd_value.specs.declared.value.FileValue.{FileValue}
use Rattle.rd_value.specs.declared.expr.Lazy.{Lazy}
use Rattle.rd_value.specs.declared.expr.Lazy.TheVariants as lazy
use Rattle.rd_value.specs.declared.failure.Outcome.{Outcome}
use Rattle.rd_value.specs.declared.failure.Outcome.TheVariants as outcome
use Rattle.rd_tree.specs.declared.tree.Module.{Module}
use Rattle.rd_top.specs.declared.disk.Found.{Found}
use Rattle.rd_top.specs.declared.disk.Found.TheVariants as found_
use Rattle.rd_top.specs.declared.serial.Ending.{Ending}
use Rattle.rd_top.specs.declared.serial.Ending.TheVariants as ending
use Rattle.rd_top.specs.Arguments.{HoldNoFiles}
use Rattle.rd_top.specs.Command.{Argument, IsArgument, AreArguments, IsRun}
use Rattle.rd_top.specs.Disk.{longest, found}
use Rattle.rd_top.specs.Files.{Files}
use Rattle.rd_top.specs.Source.{IsWorkflow, IsRefused}
use Rattle.rd_registry.specs.Words.{find_word}
use Rattle.rd_top.specs.Evaluating.{answer_of}
use Rattle.rd_registry.specs.Fits.{Fits, FreshGives}
use Rattle.rd_registry.specs.Fresh.{Answer, Gives, Failed, Deep}
use Rattle.rd_top.specs.Running.{own}
use Rattle.rd_top.specs.Shown.{value_line, failure_line}
use Rattle.rd_top.specs.Printed.{root, IsShown, ShowsFresh, PrintedIsFresh, outcome_line, outcome_status, line_of, status_of}
use Rattle.rd_top.specs.Answered.{erased, OfTask, OfModule, OfText, OfFiles, Comes, Written, Answered, Completes}
use Rattle.rd_top.proofs.Given.{one_list}
use Rattle.rd_top.proofs.Erased.{gives_erased, erased_line}
use Rattle.rd_top.proofs.ErasedCounts.{fits_erased, fits_restored}
use Rattle.rd_top.proofs.Fitting.{not_deep}
use Rattle.rd_top.proofs.Roots.{root_erased, root_is, root_within}
use Rattle.rd_top.proofs.Sources.{one_module}

-- ---- the task that was called

-- the call as the program makes it
pub is_root : {t task : List ℕ} {ps : List (Lazy FileValue)} {ks : List (List ℕ × Lazy FileValue)} {arguments : List Argument}
    → HoldNoFiles arguments → t ≡ task → ps ≡ [] → ks ≡ map (λ a. (a.0, lazy.Val a.1)) arguments → lazy.Call t ps ks ≡ root task arguments
is_root {task = task} {arguments = arguments} none i j k = rw (i, j, k) (root_is task arguments none)

module _ (m : Module) (word task : List ℕ) (arguments : List Argument) (found : find_word m word ≡ Some task) where
  pub of_outcome : (o : Outcome) → Fits own m (root task arguments) → FreshGives own m (root task arguments) (answer_of o) → OfModule m word arguments (ending.Outcome o)
  of_outcome o fits gives =
      let e : Lazy FileValue = root task arguments in
      let same = root_erased task arguments in
      let y = gives_erased m (root task arguments) (answer_of o) (not_deep o) (subst (λ (e : Lazy FileValue). FreshGives own m e (answer_of o)) same gives) in
      inr (task, found, (fits_restored m (root task arguments) (subst (λ (e : Lazy FileValue). Fits own m e) same fits), (y.0, y.1.0, y.1.1)))

  pub of_too_large : (Fits own m (root task arguments) → ⊥) → OfModule m word arguments ending.TooLarge
  of_too_large large = inr (task, found, λ fits. large (subst (λ (e : Lazy FileValue). Fits own m e) (sym (root_erased task arguments)) (fits_erased m (root task arguments) fits)))

  pub of_words : is_within_expr own (root task arguments) ≡ false → OfModule m word arguments ending.WordsRefused
  of_words past = inr (task, found, sym (root_within task arguments) ∙ past)

-- ---- the file that was read

is_bytes : (b : Bool) (text bytes : List ℕ) → found_.Bytes text ≡ cond b (found_.Bytes bytes) found_.Long → Some bytes ≡ Some text
is_bytes true text bytes e = cc
is_bytes false text bytes e = cc

has_text : (at : Option (List ℕ)) (text : List ℕ) → found_.Bytes text ≡ found at → at ≡ Some text
has_text None text e = cc
has_text (Some bytes) text e = is_bytes (nat_le (length bytes) longest) text bytes e

is_absent : (at : Option (List ℕ)) → found_.Absent ≡ found at → at ≡ None
is_absent None e = refl
is_absent (Some bytes) e = absent (nat_le (length bytes) longest) e
  where
    absent : (b : Bool) → found_.Absent ≡ cond b (found_.Bytes bytes) found_.Long → Some bytes ≡ None
    absent true e = cc
    absent false e = cc

-- a long file has a text that is no source
is_long : (at : Option (List ℕ)) → found_.Long ≡ found at → (text : List ℕ) × (at ≡ Some text) × (nat_le (length text) longest ≡ false)
is_long None e = absurd (apart e)
  where
    apart : found_.Long ≡ found_.Absent → ⊥
    apart e = absurd cc
is_long (Some bytes) e = (bytes, refl, long (nat_le (length bytes) longest) e)
  where
    long : (b : Bool) → found_.Long ≡ cond b (found_.Bytes bytes) found_.Long → b ≡ false
    long true e = cc
    long false e = refl

no_source : (text : List ℕ) → nat_le (length text) longest ≡ false → IsRefused text 1
no_source text long = record {
  none = λ m w. let short = w.reads.has_tokens.short in omega (arith, leb-false (length text) longest long, short);
  at_line = inl (inl (omega (arith, leb-false (length text) longest long), refl));
}

module _ (words : List (List ℕ)) (file word : List ℕ) (arguments : List Argument) (asks : IsRun words file word arguments) where
  comes_at : (told : Option Files) (f : Found) (e : Ending) → IfSome told (λ files. f ≡ found (get files file)) → ((files : Files) → f ≡ found (get files file) → OfFiles files file word arguments e) → Comes words told e
  comes_at None f e at go = inr (file, word, arguments, asks, inr tt)
  comes_at (Some files) f e at go = inr (file, word, arguments, asks, inr (go files at))

  pub comes_of_text : (told : Option Files) (text : List ℕ) → IfSome told (λ files. found_.Bytes text ≡ found (get files file)) → (r : Result Ending OutOfMemory) → IfOk r (OfText text word arguments) → IfOk r (Comes words told)
  comes_of_text told text at (Ok e) h = comes_at told (found_.Bytes text) e at (λ files i. inr (text, has_text (get files file) text i, h))
  comes_of_text told text at (Err e) h = tt

  pub comes_of_long : (told : Option Files) → IfSome told (λ files. found_.Long ≡ found (get files file)) → Comes words told (ending.SourceRefused 1)
  comes_of_long told at = comes_at told found_.Long (ending.SourceRefused 1) at (λ files i. let l = is_long (get files file) i in inr (l.0, l.1, inl (1, no_source l.0 l.2, refl)))

  pub comes_of_absent : (told : Option Files) → IfSome told (λ files. found_.Absent ≡ found (get files file)) → Comes words told (ending.NotFound file)
  comes_of_absent told at = comes_at told found_.Absent (ending.NotFound file) at (λ files i. inl (is_absent (get files file) i, refl))

-- a source never makes the disk unavailable
not_disk : (text word : List ℕ) (arguments : List Argument) (e : Ending) → OfText text word arguments e → e ≢ ending.DiskUnavailable
not_disk text word arguments ending.DiskUnavailable (inl h) d = absurd (apart h.2)
  where
    apart : {n : ℕ} → ending.DiskUnavailable ≡ ending.SourceRefused n → ⊥
    apart e = absurd cc
not_disk text word arguments ending.DiskUnavailable (inr (m, w, inl h)) d = absurd (apart h.1)
  where
    apart : ending.DiskUnavailable ≡ ending.NotFound word → ⊥
    apart e = absurd cc
not_disk text word arguments ending.DiskUnavailable (inr (m, w, inr h)) d = h.2
not_disk text word arguments (ending.Outcome o) h d = absurd cc
not_disk text word arguments ending.WordsRefused h d = absurd cc
not_disk text word arguments (ending.SourceRefused n) h d = absurd cc
not_disk text word arguments ending.TooLarge h d = absurd cc
not_disk text word arguments (ending.NotFound w) h d = absurd cc

pub only_fault : (text word : List ℕ) (arguments : List Argument) (rose : Type 0) (r : Result Ending OutOfMemory) → IfOk r (OfText text word arguments) → r ≡ Ok ending.DiskUnavailable → rose
only_fault text word arguments rose (Ok e) h is = absurd (not_disk text word arguments e h (same is))
  where
    same : {A E : Type 0} {a b : A} → ◌≡◌ {A = Result A E} (Ok a) (Ok b) → a ≡ b
    same e = cc
only_fault text word arguments rose (Err e) h is = absurd cc

-- ---- what is shown

shown_value : (v : _) (y : Answer ModelValue) → Gives v ≡ erased y → IsShown y (outcome_status (outcome.Value v)) (outcome_line (outcome.Value v))
shown_value v (Gives w) e = (refl, ap (value_line own) (same e) ∙ erased_line w)
  where
    same : {A : Type 0} {a b : A} → Gives a ≡ Gives b → a ≡ b
    same e = cc
shown_value v (Failed f) e = absurd (apart e)
  where
    apart : {A : Type 0} {a : A} {f : _} → Gives a ≡ Failed f → ⊥
    apart e = cc
shown_value v Deep e = absurd (not_deep (outcome.Value v) e)

shown_failure : (f : _) (y : Answer ModelValue) → answer_of (outcome.Failed f) ≡ erased y → IsShown y (outcome_status (outcome.Failed f)) (outcome_line (outcome.Failed f))
shown_failure f (Gives w) e = absurd (apart e)
  where
    apart : {A : Type 0} {a : A} {f : _} → Failed f ≡ Gives a → ⊥
    apart e = cc
shown_failure f (Failed g) e = (refl, ap failure_line (same e))
  where
    same : {A : Type 0} {f g : _} → ◌≡◌ {A = Answer A} (Failed f) (Failed g) → f ≡ g
    same e = cc
shown_failure f Deep e = absurd (not_deep (outcome.Failed f) e)

shown : (o : Outcome) (y : Answer ModelValue) → answer_of o ≡ erased y → IsShown y (outcome_status o) (outcome_line o)
shown (outcome.Value v) y e = shown_value v y e
shown (outcome.Failed f) y e = shown_failure f y e

small_outcome : (o : Outcome) → number_of (outcome_status o) ≤ 1
small_outcome (outcome.Value v) = omega arith
small_outcome (outcome.Failed f) = omega arith

-- only an outcome has a status of 0 or 1
outcome_of : (e : Ending) → number_of (status_of e) ≤ 1 → (o : Outcome) × (e ≡ ending.Outcome o)
outcome_of (ending.Outcome o) small = (o, refl)
outcome_of ending.WordsRefused small = absurd (omega (arith, small))
outcome_of (ending.SourceRefused n) small = absurd (omega (arith, small))
outcome_of ending.DiskUnavailable small = absurd (omega (arith, small))
outcome_of ending.TooLarge small = absurd (omega (arith, small))
outcome_of (ending.NotFound word) small = absurd (omega (arith, small))

apart_words : {o : Outcome} → ending.Outcome o ≡ ending.WordsRefused → ⊥
apart_words e = absurd cc

apart_source : {o : Outcome} {n : ℕ} → ending.Outcome o ≡ ending.SourceRefused n → ⊥
apart_source e = absurd cc

apart_disk : {o : Outcome} → ending.Outcome o ≡ ending.DiskUnavailable → ⊥
apart_disk e = absurd cc

apart_found : {o : Outcome} {w : List ℕ} → ending.Outcome o ≡ ending.NotFound w → ⊥
apart_found e = absurd cc

module _ (words : List (List ℕ)) (files : Files) (file word : List ℕ) (arguments : List Argument) (asks : IsRun words file word arguments) (o : Outcome) where
  shows_files : OfFiles files file word arguments (ending.Outcome o) → ShowsFresh words files (outcome_status o) (outcome_line o)
  shows_files (inl h) = absurd (apart_found h.1)
  shows_files (inr (text, at, inl h)) = absurd (apart_source h.2)
  shows_files (inr (text, at, inr (m, w, inl h))) = absurd (apart_found h.1)
  shows_files (inr (text, at, inr (m, w, inr (task, named, (fits, (y, gives, same)))))) =
      record {
        file = file;
        word = word;
        arguments = arguments;
        source = text;
        m = m;
        task = task;
        answer = y;
        asks = asks;
        stands = at;
        reads = w;
        named = named;
        gives = gives;
        shows = shown o y same;
      }

shows_told : (words : List (List ℕ)) (told : Option Files) (file word : List ℕ) (arguments : List Argument) → IsRun words file word arguments → (o : Outcome)
    → IfSome told (λ files. OfFiles files file word arguments (ending.Outcome o)) → IfSome told (λ files. ShowsFresh words files (outcome_status o) (outcome_line o))
shows_told words None file word arguments asks o h = tt
shows_told words (Some files) file word arguments asks o h = shows_files words files file word arguments asks o h

shows_fresh : (words : List (List ℕ)) (told : Option Files) (o : Outcome) → Comes words told (ending.Outcome o) → IfSome told (λ files. ShowsFresh words files (outcome_status o) (outcome_line o))
shows_fresh words told o (inl h) = absurd (apart_words h.1)
shows_fresh words told o (inr (file, word, arguments, asks, inl h)) = absurd (apart_disk h)
shows_fresh words told o (inr (file, word, arguments, asks, inr h)) = shows_told words told file word arguments asks o h

with_text : (words : List (List ℕ)) (told : Option Files) (s : Status) (text : List ℕ) (A : List ℕ → Type 0) → IfSome told (λ files. ShowsFresh words files s text) → A text
    → IfSome told (λ files. (text : List ℕ) × ShowsFresh words files s text × A text)
with_text words None s text A h w = tt
with_text words (Some files) s text A h w = (text, h, w)

module _ (words : List (List ℕ)) (told : Option Files) (before behind : Option (List ℕ)) (ended : Status) where
  printed_ending : (s : Status) (text : List ℕ) (e : Ending) → Comes words told e → s ≡ status_of e → text ≡ line_of e → ended ≡ s → behind ≡ added before text → PrintedIsFresh words told ended before behind
  printed_ending s text e comes s_is text_is ended_is behind_is small =
      let o = outcome_of e (subst (λ t. number_of t ≤ 1) (ended_is ∙ s_is) small) in
      let fresh = shows_fresh words told o.0 (subst (Comes words told) o.1 comes) in
      let line_is : behind ≡ added before (outcome_line o.0) = behind_is ∙ ap (added before) (text_is ∙ ap line_of o.1) in
      subst (λ (t : Status). IfSome told (λ files. (x : List ℕ) × ShowsFresh words files t x × (behind ≡ added before x))) (sym (ended_is ∙ s_is ∙ ap status_of o.1))
      (with_text words told (outcome_status o.0) (outcome_line o.0) (λ x. behind ≡ added before x) fresh line_is)

  ten : ended ≡ status.OutputFailed → number_of ended ≤ 1 → ⊥
  ten is small = let h : 10 ≤ 1 = subst (λ t. number_of t ≤ 1) is small in omega (arith, h)

  six : ended ≡ status.OutOfMemory → number_of ended ≤ 1 → ⊥
  six is small = let h : 6 ≤ 1 = subst (λ t. number_of t ≤ 1) is small in omega (arith, h)

  -- a value or an error that is printed is fresh evaluation's
  pub printed : Answered words told ended before behind → PrintedIsFresh words told ended before behind
  printed (s, text, answers, inr failed) small = absurd (ten failed.0 small)
  printed (s, text, inr memory, inl w) small = absurd (six (w.0 ∙ memory.0) small)
  printed (s, text, inl (e, comes, s_is, text_is), inl w) small = printed_ending s text e comes s_is text_is w.0 w.1 small

-- ---- a task that is there

-- the words of two runs that are the same ask for the same
module _ {file file' word word' : List ℕ} {more more' : List (List ℕ)} (e : codes "run" ∷ file ∷ word ∷ more ≡ codes "run" ∷ file' ∷ word' ∷ more') where
  same_file : file' ≡ file
  same_file = cc

  same_word : word' ≡ word
  same_word = cc

  same_more : more' ≡ more
  same_more = cc

same_arguments : {more more' : List (List ℕ)} (xs bs : List Argument) → more' ≡ more → AreArguments more xs → AreArguments more' bs → bs ≡ xs
same_arguments {more} xs bs e h k = one_list more bs xs (subst (λ (ws : List (List ℕ)). AllZip IsArgument ws bs) e k.0) h.0

same_text : {at : Option (List ℕ)} {text text' : List ℕ} → at ≡ Some text → at ≡ Some text' → text' ≡ text
same_text i j = cc

some_text : {at : Option (List ℕ)} {text : List ℕ} → at ≡ Some text → at ≡ None → ⊥
some_text {text = text} i j = apart (sym i ∙ j)
  where
    apart : Some text ≡ None → ⊥
    apart e = absurd cc

module _ (files : Files) (file word text task : List ℕ) (arguments : List Argument) (m : Module) (at : get files file ≡ Some text) (w : IsWorkflow text m) (there : find_word m word ≡ Some task)
    (within : is_within_expr file_of (root task arguments) ≢ false) (fits : Fits file_of m (root task arguments)) where
  small_task : (e : Ending) → OfTask m task arguments e → number_of (status_of e) ≤ 1
  small_task (ending.Outcome o) h = small_outcome o
  small_task ending.WordsRefused h = absurd (within h)
  small_task ending.TooLarge h = absurd (h fits)
  small_task (ending.SourceRefused n) h = absurd h
  small_task ending.DiskUnavailable h = absurd h
  small_task (ending.NotFound t) h = absurd h

  small_module : (e : Ending) → OfModule m word arguments e → number_of (status_of e) ≤ 1
  small_module e (inl h) = absurd (some_text there h.0)
  small_module e (inr (t, named, h)) = small_task e (subst (λ (x : List ℕ). OfTask m x arguments e) (same_text there named) h)

  small_text : (e : Ending) → OfText text word arguments e → number_of (status_of e) ≤ 1
  small_text e (inl h) = absurd (h.1.none m w)
  small_text e (inr (n, v, h)) = small_module e (subst (λ (o : Module). OfModule o word arguments e) (one_module text n m v w) h)

  small_files : (e : Ending) → OfFiles files file word arguments e → number_of (status_of e) ≤ 1
  small_files e (inl h) = absurd (some_text at h.0)
  small_files e (inr (other, i, h)) = small_text e (subst (λ (t : List ℕ). OfText t word arguments e) (same_text at i) h)

module _ (words : List (List ℕ)) (told : Option Files) (before behind : Option (List ℕ)) (disk_rose output_rose : Type 0) (ended : Status)
    (disk : ended ≡ status.DiskUnavailable → disk_rose) (output : ended ≡ status.OutputFailed → output_rose) where
  ends : (e : Ending) → Comes words told e → ended ≡ status_of e → Completes words told disk_rose output_rose ended
  ends e (inl h) ended_is files file word text task args m is asks at w there within fits no_disk no_output = absurd (h.0 file word args asks)
  ends e (inr (f, t, xs, a, inl d)) ended_is files file word text task args m is asks at w there within fits no_disk no_output = absurd (no_disk (disk (ended_is ∙ ap status_of d)))
  ends e (inr (f, t, xs, a, inr h)) ended_is files file word text task args m is asks at w there within fits no_disk no_output =
      let same = sym asks.words_are ∙ a.words_are in
      let here : OfFiles files f t xs e = subst (λ (o : Option Files). IfSome o (λ fs. OfFiles fs f t xs e)) is h in
      let for_file : OfFiles files file t xs e = subst (λ (x : List ℕ). OfFiles files x t xs e) (same_file same) here in
      let for_word : OfFiles files file word xs e = subst (λ (x : List ℕ). OfFiles files file x xs e) (same_word same) for_file in
      let for_all : OfFiles files file word args e = subst (λ (x : List Argument). OfFiles files file word x e) (same_arguments args xs (same_more same) asks.given a.given) for_word in
      inl (subst (λ (x : Status). number_of x ≤ 1) (sym ended_is) (small_files files file word text task args m at w there within fits e for_all))

  pub complete : Answered words told ended before behind → Completes words told disk_rose output_rose ended
  complete (s, text, answers, inr failed) files file word txt task args m is asks at w there within fits no_disk no_output = absurd (no_output (output failed.0))
  complete (s, text, inr memory, inl r) files file word txt task args m is asks at w there within fits no_disk no_output = inr (r.0 ∙ memory.0)
  complete (s, text, inl (e, comes, s_is, text_is), inl r) files file word txt task args m is asks at w there within fits no_disk no_output =
      ends e comes (r.0 ∙ s_is) files file word txt task args m is asks at w there within fits no_disk no_output

-- a printed status is the answer's, unless the output failed
pub same_disk : (s ended : Status) (text : List ℕ) (before behind : Option (List ℕ)) → Written s text ended before behind → ended ≡ status.DiskUnavailable → s ≡ status.DiskUnavailable
same_disk s ended text before behind (inl w) is = sym w.0 ∙ is
same_disk s ended text before behind (inr w) is = absurd (apart (sym w.0 ∙ is))
  where
    apart : status.OutputFailed ≡ status.DiskUnavailable → ⊥
    apart e = absurd cc
