-- Code with numbers in the place of names does what the code means.
use Rattle.std.proofs.Common.{◌≡◌, ℕ, zero, suc, Bool, true, false, if◌then◌else◌, List, [], ◌∷◌, ◌++◌, map, Option, None, Some, slice_get, refl, sym, ap, subst, ◌∙◌, arith}
use Rattle.std.proofs.lemmas.List.{map-append}
use Rattle.std.proofs.lemmas.List.Elements.{Contains-append_left, Contains-push}
use Rattle.std.proofs.lemmas.Map.Views.{Contains-from_any}
use Rattle.std.proofs.lemmas.Slice.Eq.{bytes_eq-Decides}
use Rattle.std.specs.List.{IsAmong, Contains, AllZip}
use Rattle.std.specs.Option.{option_map}
use Rattle.std.specs.Str.{bytes_eq}
use Rattle.rd_value.specs.declared.value.FileValue.{FileValue}
use Rattle.rd_value.specs.declared.value.Datum.{Datum}
use Rattle.rd_value.specs.declared.value.Datum.{out-Datum}
use Rattle.rd_value.specs.declared.value.Datum.TheOpen.{Datum-F}
use Rattle.rd_value.specs.declared.expr.Lazy.TheVariants as lazy
use Rattle.rd_value.specs.declared.signature.Parameter.{Parameter}
use Rattle.rd_tree.specs.declared.tree.Statement.{Statement}
use Rattle.rd_names.specs.Names.{is_among, with_name, with_names}
use Rattle.rd_names.specs.Special.{special_named}
use Rattle.rd_names.proofs.Walking.{map_both}
use Rattle.rd_routine.specs.declared.routine.Word.{Word}
use Rattle.rd_code.specs.declared.mention.Mention.{Mention}
use Rattle.rd_code.specs.declared.named.Helper.{Helper}
use Rattle.rd_code.specs.declared.named.NamedUse.{NamedUse}
use Rattle.rd_code.specs.Mentions.{plain, mentions_in_block, named_in_block}
use Rattle.rd_body.proofs.MentionNames.{name_of, names, block_names}
use Rattle.rd_code.specs.Numbering.{place, place_among, use_among, word_by, word_or, word_in, with_mentions, mentions_within, texts_within, literal_at, literal_value, numbered_parameter, numbered, numbered_helper}
use Rattle.rd_code.specs.Renaming.{renamed_first}
use Rattle.rd_interpreter.specs.Body as body
use Rattle.rd_interpreter.specs.Body.{kind, literal, whole}
use Rattle.rd_interpreter.specs.Running.{own, routine_of, parameter_of}
use Rattle.rd_body.specs.Code.{parameter_with_literal, function_with, helper_with, meaning_of}
use Rattle.rd_body.specs.Renaming.{mentions_of, IsRenamed, AreRenamed}
use Rattle.rd_body.proofs.Renamed.{whole_renamed}
use Rattle.rd_body.proofs.RenamedPlaces.{Numbers, numbers_rename, word_of}

-- ---- all texts are there

same_bytes : (x y : List ℕ) → bytes_eq x y ≡ true → x ≡ y
same_bytes x y h = (bytes_eq-Decides x y).0 h

name_kept : (texts : List (List ℕ)) (text other : List ℕ) → Contains texts text → Contains (with_name texts other) text
name_kept texts text other h = by_test (is_among texts other)
  where
    by_test : (t : Bool) → Contains (if t then texts else texts ++ other ∷ []) text
    by_test true = h
    by_test false = Contains-append_left texts (other ∷ []) text h

name_put : (texts : List (List ℕ)) (text : List ℕ) → Contains (with_name texts text) text
name_put texts text = by_test (is_among texts text) refl
  where
    by_test : (t : Bool) → is_among texts text ≡ t → Contains (if t then texts else texts ++ text ∷ []) text
    by_test true e = Contains-from_any same_bytes text texts e
    by_test false e = Contains-push texts text

texts_kept : (ms : List (Mention (List ℕ))) (texts : List (List ℕ)) (text : List ℕ) → Contains texts text → Contains (with_mentions texts ms) text
texts_kept [] texts text h = h
texts_kept (m ∷ ms) texts text h = texts_kept ms (with_name texts m.name) text (name_kept texts text m.name h)

texts_put : (ms : List (Mention (List ℕ))) (texts : List (List ℕ)) (m : Mention (List ℕ)) → IsAmong ms m → Contains (with_mentions texts ms) m.name
texts_put [] texts m u = absurd (omega (arith, u.1.0))
texts_put (x ∷ ms) texts m (zero, u) = texts_kept ms (with_name texts x.name) m.name (subst (λ (y : Mention (List ℕ)). Contains (with_name texts x.name) y.name) (sym u.1) (name_put texts x.name))
texts_put (x ∷ ms) texts m (suc i, u) = texts_put ms (with_name texts x.name) m (i, (omega (arith, u.0), u.1))

among : (texts : List (List ℕ)) (text : List ℕ) → Contains texts text → IsAmong texts text
among texts text h = (h.0, (h.1, sym h.2))

-- ---- one function

-- the texts depend on names alone
with_same : (texts : List (List ℕ)) (xs ys : List (Mention (List ℕ))) → names xs ≡ names ys → with_mentions texts xs ≡ with_mentions texts ys
with_same texts xs ys e = by_names texts xs ∙ ap (with_names texts) e ∙ sym (by_names texts ys)
  where
    by_names : (texts : List (List ℕ)) (ms : List (Mention (List ℕ))) → with_mentions texts ms ≡ with_names texts (names ms)
    by_names texts [] = refl
    by_names texts (m ∷ ms) = by_names (with_name texts m.name) ms

spelled : (text : List ℕ) (o : Option Word) → (word_or text o).spelling ≡ text
spelled text None = refl
spelled text (Some w) = refl

literal_twice_at : (v : Datum-F FileValue (Datum FileValue)) → lazy.Val (literal_at v) ≡ lazy.Val (body.literal_at v)
literal_twice_at (Datum-F.Bool b) = refl
literal_twice_at (Datum-F.Int n) = refl
literal_twice_at (Datum-F.Text t) = refl
literal_twice_at Datum-F.Nothing = refl
literal_twice_at (Datum-F.List vs) = refl
literal_twice_at (Datum-F.Dict ps) = refl
literal_twice_at (Datum-F.File f) = refl
literal_twice_at (Datum-F.Error e) = refl

default_numbered : (o : Option (Datum FileValue)) → option_map (λ (v : Datum FileValue). lazy.Val v) (option_map literal_value o) ≡ option_map literal o
default_numbered None = refl
default_numbered (Some v) = ap Some (literal_twice_at (out-Datum FileValue v))

parameters_numbered : (texts : List (List ℕ)) (ps : List Parameter) → map parameter_of (map (numbered_parameter texts) ps) ≡ map (renamed_first (place texts)) (map parameter_with_literal ps)
parameters_numbered texts [] = refl
parameters_numbered texts (p ∷ ps) =
    ap (λ d. (place texts p.name, d) ∷ map parameter_of (map (numbered_parameter texts) ps)) (default_numbered p.default)
    ∙ ap (λ qs. (place texts p.name, option_map literal p.default) ∷ qs) (parameters_numbered texts ps)

module _ (helpers : List Helper) (uses : List NamedUse) where
  abbrev word : List ℕ → Word
  word = word_in helpers uses

  module _ (ps : List Parameter) (block : List (Statement (List ℕ))) where
    abbrev here : body.Routine (List ℕ) FileValue
    here = function_with helpers uses ps block

    abbrev parameter_names : List (Mention (List ℕ))
    parameter_names = map (λ p. plain p.name) ps

    -- the texts are those of all that stand in the function
    texts_same : with_mentions [] (mentions_of here) ≡ texts_within ps block
    texts_same =
        ap (λ ms. with_mentions [] (ms ++ mentions_in_block (kind here) block)) (map_both _ (parameter_with_literal {F = FileValue}) ps)
        ∙ with_same [] (parameter_names ++ mentions_in_block (kind here) block) (mentions_within ps block)
        (map-append name_of parameter_names (mentions_in_block (kind here) block) ∙ ap (λ ns. names parameter_names ++ ns) (block_names (kind here) special_named block) ∙ sym (map-append name_of parameter_names (named_in_block block)))

    known : (name : List ℕ) → word name ≡ word_of here name
    known name = ap (λ t. record { spelling = t; callee = (word name).callee; class = (word name).class }) (spelled name (option_map (word_by (place_among 0 helpers)) (use_among uses name)))

    numbers_of : Numbers (texts_within ps block) word here (numbered word ps block)
    numbers_of = record {
      same = λ x name. refl;
      known = known;
      words = refl;
      parameters = parameters_numbered (texts_within ps block) ps;
      block = refl;
      all = λ m u. among (texts_within ps block) m.name (subst (λ (texts : List (List ℕ)). Contains texts m.name) texts_same (texts_put (mentions_of here) [] m u));
    }

    pub is_renamed : IsRenamed ◌≡◌ here (routine_of (numbered word ps block))
    is_renamed = record { by = place (texts_within ps block); renames = numbers_rename (texts_within ps block) word here (numbered word ps block) numbers_of }

  are_renamed : (hs : List Helper) → AllZip (IsRenamed ◌≡◌) (map (helper_with {F = FileValue} helpers uses) hs) (map routine_of (map (numbered_helper word) hs))
  are_renamed [] = tt
  are_renamed (h ∷ hs) = (is_renamed h.parameters h.block, are_renamed hs)

-- what stands at the same place of both lists
zipped_at : {N M F : Type 0} (fs : List (body.Routine N F)) (gs : List (body.Routine M F)) → AllZip (IsRenamed ◌≡◌) fs gs → (n : ℕ) → AreRenamed ◌≡◌ (slice_get fs n) (slice_get gs n)
zipped_at [] [] us n = tt
zipped_at [] (g ∷ gs) us n = absurd us
zipped_at (f ∷ fs) [] us n = absurd us
zipped_at (f ∷ fs) (g ∷ gs) us zero = us.0
zipped_at (f ∷ fs) (g ∷ gs) us (suc n) = zipped_at fs gs us.1 n

zipped : {N M F : Type 0} (fs : List (body.Routine N F)) (gs : List (body.Routine M F)) → AllZip (IsRenamed ◌≡◌) fs gs → (place other : ℕ) → place ≡ other → AreRenamed ◌≡◌ (slice_get fs place) (slice_get gs other)
zipped fs gs us place other e = subst (λ n. AreRenamed ◌≡◌ (slice_get fs place) (slice_get gs n)) e (zipped_at fs gs us place)

-- what is run of a task's code comes to what the code means
pub code_runs : (helpers : List Helper) (uses : List NamedUse) (ps : List Parameter) (block : List (Statement (List ℕ))) (args : List (Datum FileValue))
    → whole own (map routine_of (map (numbered_helper (word_in helpers uses)) helpers)) (routine_of (numbered (word_in helpers uses) ps block)) args ≡ meaning_of own helpers uses ps block args
code_runs helpers uses ps block args =
    whole_renamed ◌≡◌ own (map (helper_with helpers uses) helpers) (map routine_of (map (numbered_helper (word_in helpers uses)) helpers))
    (zipped (map (helper_with helpers uses) helpers) (map routine_of (map (numbered_helper (word_in helpers uses)) helpers)) (are_renamed helpers uses helpers))
    (function_with helpers uses ps block) (routine_of (numbered (word_in helpers uses) ps block)) (is_renamed helpers uses ps block) args
