-- What is written of a record is one item, in which each number has its one spelling.
use Rattle.std.proofs.Common.{◌≡◌, ℕ, suc, ◌+◌, ◌<◌, ◌≤◌, ◌^◌, List, [], ◌∷◌, ◌++◌, length, map, arith}
use Rattle.std.specs.List.{All}
use Rattle.std.proofs.lemmas.List.{length-append}
use Rattle.rd_base.specs.declared.digest.Digest.{Digest}
use Rattle.rd_base.specs.declared.seen.Seen.{Seen}
use Rattle.rd_base.specs.declared.seen.Seen.TheVariants.{Absent, Long, Held}
use Rattle.rd_value.specs.Canon.{string, joined, canon_expr}
use Rattle.rd_value.specs.Class.{name}
use Rattle.rd_value.proofs.Ind.{Each}
use Rattle.rd_bencode.specs.declared.form.Spelling.TheVariants.{One}
use Rattle.rd_bencode.specs.declared.record.CallKey.{CallKey}
use Rattle.rd_bencode.specs.declared.record.Footprint.{Footprint}
use Rattle.rd_bencode.specs.declared.record.JobState.{JobState}
use Rattle.rd_bencode.specs.declared.record.JobState.TheVariants.{Run, Reused, Skipped}
use Rattle.rd_bencode.specs.declared.record.Job.{Job}
use Rattle.rd_bencode.specs.declared.record.Ending.{Ending}
use Rattle.rd_bencode.specs.declared.record.Ending.TheVariants as ending
use Rattle.rd_bencode.specs.declared.record.Execution.{Execution}
use Rattle.rd_bencode.specs.Form.{IsItem, AreItems}
use Rattle.rd_bencode.specs.Proper.{IsProper, IsProperExpr}
use Rattle.rd_bencode.specs.Records.{number, digest_string, listed, canon_args, under_digest, canon_writes, call_key, canon_children, seen, seen_path, canon_footprint, state_number, job, canon_ending, canon_execution}
use Rattle.rd_bencode.specs.Values.{Value}
use Rattle.rd_bencode.proofs.ExprsOnly.{left_short, right_short, text_short}
use Rattle.rd_bencode.proofs.ValuesFound.{spelled}
use Rattle.rd_bencode.proofs.ValuesOnly.{most}
use Rattle.rd_bencode.proofs.Written.{string_item, number_item, items_join, alone, listed_item, value_item}
use Rattle.rd_bencode.proofs.WrittenExprs.{expr_item}

-- bytes that are one item, where they aren't too many
abbrev Written : List ℕ → Type 0
Written bs = length bs ≤ most → IsItem One bs

-- bytes that are items, where they aren't too many
abbrev Parts : List ℕ → Type 0
Parts bs = length bs ≤ most → AreItems One bs

text_written : (t : List ℕ) → Written (string t)
text_written t le = string_item t (text_short t le)

single : (bs : List ℕ) → Written bs → Parts bs
single bs f le = alone bs (f le)

then : (a b : List ℕ) → Parts a → Parts b → Parts (a ++ b)
then a b f g le = items_join a b (f (left_short a b le)) (g (right_short a b le))

-- a list of such parts
in_list : (bs : List ℕ) → Parts bs → Written (108 ∷ (bs ++ (101 ∷ [])))
in_list bs f le = listed_item bs (f (let p : length (bs ++ (101 ∷ [])) ≡ length bs + 1 = length-append bs (101 ∷ []) in omega (arith, p, le)))

each_part : {A : Type 0} (f : A → List ℕ) (xs : List A) → Each (λ x. Written (f x)) xs → Parts (joined (map f xs))
each_part f [] hs le = AreItems.none
each_part f (x ∷ xs) hs le = then (f x) (joined (map f xs)) (single (f x) hs.0) (each_part f xs hs.1) le

all_parts : {A : Type 0} (f : A → List ℕ) (all : (x : A) → Written (f x)) (xs : List A) → Parts (joined (map f xs))
all_parts f all [] le = AreItems.none
all_parts f all (x ∷ xs) le = then (f x) (joined (map f xs)) (single (f x) (all x)) (all_parts f all xs) le

-- what holds at each place holds of each
each_where : {A : Type 0} (P Q : A → Type 0) → ((x : A) → P x → Q x) → (xs : List A) → All P xs → Each Q xs
each_where P Q f [] h = tt
each_where P Q f (x ∷ xs) h = (f x (h 0 x (omega arith)), each_where P Q f xs (λ k d lt. h (suc k) d (omega (arith, lt))))

-- ---- parts of records

digest_written : (d : Digest) → Written (digest_string d)
digest_written d = text_written d.0

entry_written : (p : List ℕ × Digest) → Written (under_digest p)
entry_written p = in_list (string p.0 ++ string p.1.0) (then (string p.0) (string p.1.0) (single (string p.0) (text_written p.0)) (single (string p.1.0) (text_written p.1.0)))

key_written : (k : CallKey) → Written (call_key k)
key_written k = in_list (string k.task.0 ++ string k.args.0) (then (string k.task.0) (string k.args.0) (single (string k.task.0) (digest_written k.task)) (single (string k.args.0) (digest_written k.args)))

seen_written : (s : Seen) → Written (seen s)
seen_written Absent le = number_item 0 (omega arith)
seen_written Long le = number_item 1 (omega arith)
seen_written (Held d) le = digest_written d le

seen_path_written : (p : List ℕ × Seen) → Written (seen_path p)
seen_path_written p = in_list (string p.0 ++ seen p.1) (then (string p.0) (seen p.1) (single (string p.0) (text_written p.0)) (single (seen p.1) (seen_written p.1)))

-- ---- records

pub args_item : (vs : List Value) → All IsProper vs → Written (canon_args (λ f. f) vs)
args_item vs h = in_list (joined (map spelled vs)) (each_part spelled vs (each_where IsProper (λ v. Written (spelled v)) value_item vs h))

pub writes_item : (ws : List (List ℕ × Digest)) → Written (canon_writes ws)
writes_item ws = in_list (joined (map under_digest ws)) (all_parts under_digest entry_written ws)

pub children_item : (ks : List CallKey) → Written (canon_children ks)
children_item ks = in_list (joined (map call_key ks)) (all_parts call_key key_written ks)

pub footprint_item : (f : Footprint) → Written (canon_footprint f)
footprint_item f =
    let tasks : List ℕ = listed (map under_digest f.tasks) in
    let inputs : List ℕ = listed (map seen_path f.inputs) in
    let writes : List ℕ = canon_writes f.writes in
    in_list ((tasks ++ inputs) ++ writes)
    (then (tasks ++ inputs) writes
    (then tasks inputs (single tasks (writes_item f.tasks)) (single inputs (in_list (joined (map seen_path f.inputs)) (all_parts seen_path seen_path_written f.inputs))))
    (single writes (writes_item f.writes)))

state_small : (s : JobState) → state_number s ≤ 2
state_small Run = omega arith
state_small Reused = omega arith
state_small Skipped = omega arith

job_written : (j : Job) → j.parent < 2 ^ 64 → Written (job j)
job_written j small =
    let parent : List ℕ = number j.parent in
    let task : List ℕ = digest_string j.key.task in
    let args : List ℕ = digest_string j.key.args in
    let state : List ℕ = number (state_number j.state) in
    in_list (((parent ++ task) ++ args) ++ state)
    (then ((parent ++ task) ++ args) state
    (then (parent ++ task) args
    (then parent task (single parent (λ le. number_item j.parent small)) (single task (digest_written j.key.task)))
    (single args (digest_written j.key.args)))
    (single state (λ le. number_item (state_number j.state) (omega (arith, state_small j.state)))))

ending_written : (e : Ending) → Written (canon_ending e)
ending_written (ending.Value d) = in_list (number 0 ++ digest_string d) (then (number 0) (digest_string d) (single (number 0) (λ le. number_item 0 (omega arith))) (single (digest_string d) (digest_written d)))
ending_written (ending.Failed f) =
    let one : List ℕ = number 1 in
    let class : List ℕ = string (name f.class) in
    let text : List ℕ = string f.text in
    let origin : List ℕ = string f.origin in
    in_list (one ++ ((class ++ text) ++ origin))
    (then one ((class ++ text) ++ origin)
    (single one (λ le. number_item 1 (omega arith)))
    (then (class ++ text) origin
    (then class text (single class (text_written (name f.class))) (single text (text_written f.text)))
    (single origin (text_written f.origin))))

abbrev pub HasSmallParent : Job → Type 0
HasSmallParent j = j.parent < 2 ^ 64

pub execution_item : (x : Execution) → x.serial < 2 ^ 64 → x.moment < 2 ^ 64 → IsProperExpr x.root → All HasSmallParent x.jobs → Written (canon_execution x)
execution_item x few early proper parents =
    let serial : List ℕ = number x.serial in
    let moment : List ℕ = number x.moment in
    let root : List ℕ = canon_expr (λ f. f) x.root in
    let end : List ℕ = canon_ending x.ending in
    let jobs : List ℕ = listed (map job x.jobs) in
    in_list ((((serial ++ moment) ++ root) ++ end) ++ jobs)
    (then (((serial ++ moment) ++ root) ++ end) jobs
    (then ((serial ++ moment) ++ root) end
    (then (serial ++ moment) root
    (then serial moment (single serial (λ le. number_item x.serial few)) (single moment (λ le. number_item x.moment early)))
    (single root (λ le. expr_item x.root proper le)))
    (single end (ending_written x.ending)))
    (single jobs (in_list (joined (map job x.jobs)) (each_part job x.jobs (each_where HasSmallParent (λ j. Written (job j)) job_written x.jobs parents)))))
