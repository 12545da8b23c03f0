-- The files that the entries of a map make, looked up by the bytes of a path.
use Rattle.std.proofs.Common.{◌≡◌, ℕ, ◌==◌, cond, List, [], ◌∷◌, ap, sym, subst, refl, ◌∙◌, Some, IfOk}
use Rattle.std.specs.declared.option.Option.{Option}
use Rattle.std.specs.Cmp.Lexicographic.{slice_cmp, pointwise, nat_list_cmp_total}
use Rattle.rd_top.specs.Files.{Files, files_of}
use Rattle.rd_top.specs.Disk.{Finds, found}
use Rattle.rd_top.specs.declared.disk.Found.{Found}
use Rattle.rd_top.specs.declared.disk.DiskError.{DiskError}
use Rattle.std.specs.FinMap.{get, insert, find, get-from_entries, get-insert, same_map}
use Rattle.std.specs.declared.result.Result.{Result}
use Rattle.std.specs.Ordering.{nat_cmp, is_eq}
use Rattle.std.specs.Cmp.{eq_by_cmp_equiv}
use Rattle.std.specs.Map.{lookup}
use Rattle.std.specs.Str.{bytes_eq}
use Rattle.std.proofs.lemmas.Map.Lookups.{exact_bytes}
use Rattle.std.proofs.lemmas.Map.Text.{is_eq-slice_cmp}

abbrev pub Entries : Type 0
Entries = List (List ℕ × List ℕ)

-- what a hash map has at a path
abbrev pub at : Entries → List ℕ → Option (List ℕ)
at es q = lookup (pointwise ◌==◌ q) es

find_path : (es : Entries) (q : List ℕ) → find (slice_cmp nat_cmp) q es ≡ at es q
find_path [] q = refl
find_path (e ∷ es) q =
    ap (λ b. cond b (Some e.1) (find (slice_cmp nat_cmp) q es)) (is_eq-slice_cmp q e.0)
    ∙ ap (cond (bytes_eq q e.0) (Some e.1)) (find_path es q)

-- what the files that the entries make have at a path
pub get_path : (es : Entries) (q : List ℕ) → get (files_of es) q ≡ at es q
get_path es q = get-from_entries nat_list_cmp_total es q ∙ find_path es q

-- entries that differ at one path make files that differ there
pub put_path : (es fs : Entries) (k v : List ℕ) → ((q : List ℕ) → at fs q ≡ cond (bytes_eq k q) (Some v) (at es q)) → files_of fs ≡ insert (files_of es) k v
put_path es fs k v h = same_map nat_list_cmp_total exact_bytes _ _ (λ q.
    get_path fs q ∙ h q
    ∙ ap (λ b. cond b (Some v) (at es q)) (sym (is_eq-slice_cmp k q) ∙ (eq_by_cmp_equiv nat_list_cmp_total).symm k q)
    ∙ sym (get-insert nat_list_cmp_total (files_of es) k v q ∙ ap (cond (is_eq (slice_cmp nat_cmp q k)) (Some v)) (get_path es q)))

-- an answer for what stands at the path is what a read finds
pub finds_of : (files : Files) (path : List ℕ) (o : Option (List ℕ)) (r : Result Found DiskError) → get files path ≡ o → IfOk r (λ f. f ≡ found o) → Finds (Some files) path r
finds_of files path o r e h = subst (λ x. IfOk r (λ f. f ≡ found x)) (sym e) h
