-- The place of a name among words.
use Rattle.std.proofs.Common.{◌≡◌, ℕ, ◌<◌, ◌≤◌, Bool, true, false, cond, List, [], length, None, Some, refl, sym, ap, ◌∙◌, arith, nat_lt, subst}
use Rattle.std.proofs.lemmas.Bool.{ltb-false, ltb-true, eqb-true, eq-eqb}
use Rattle.std.proofs.lemmas.List.Sums.{prefix_len-le-length, fails_before_first, passes_at_first}
use Rattle.std.proofs.lemmas.Option.{slice_get-get_or, slice_get-map}
use Rattle.std.proofs.lemmas.Slice.Eq.{bytes_eq-Decides}
use Rattle.std.specs.Prelude.{not, ◌==◌, slice_index_or, map, slice_get}
use Rattle.std.specs.Bool.{one_answer}
use Rattle.std.specs.List.{IsAmong, position, position_or_len}
use Rattle.std.specs.Option.{option_map}
use Rattle.std.specs.Str.{bytes_eq}
use Rattle.rd_value.specs.declared.value.FileValue.{FileValue}
use Rattle.rd_routine.specs.declared.routine.Callee.{Callee}
use Rattle.rd_routine.specs.declared.routine.Callee.TheVariants as callee
use Rattle.rd_routine.specs.declared.routine.Callee.TheVariants.{Unknown}
use Rattle.rd_routine.specs.declared.routine.Routine.{Routine}
use Rattle.rd_routine.specs.declared.routine.Word.{Word}
use Rattle.rd_interpreter.specs.Body as body
use Rattle.rd_interpreter.specs.Running.{or_at, parameter_of, routine_of}
use Rattle.rd_code.specs.declared.mention.Mention.{Mention}
use Rattle.rd_code.specs.Mentions.{called, class}
use Rattle.rd_code.specs.Numbering.{place}
use Rattle.rd_code.specs.Renaming.{renamed_first, renamed_statement}
use Rattle.rd_body.specs.Renaming.{mentions_of, IsHelperAt, SameCallee, Renames}

not_below : (b : Bool) (m n : ℕ) → nat_lt m n ≡ b → m ≤ n → cond b (Some m) None ≡ None → n ≡ m
not_below true m n e le h = absurd cc
not_below false m n e le h = omega (arith, ltb-false m n e)

pub no_place : {A : Type 0} (p : A → Bool) (xs : List A) → position p xs ≡ None → length xs ≡ position_or_len p xs
no_place p xs h = not_below (nat_lt (position_or_len p xs) (length xs)) (position_or_len p xs) (length xs) refl (prefix_len-le-length (λ x. not (p x)) xs) h

module _ (words : List (List ℕ)) (name : List ℕ) (among : IsAmong words name) where
  own : bytes_eq name name ≡ true
  own = (bytes_eq-Decides name name).1 refl

  not_behind : (b : Bool) → nat_lt (place words name) (length words) ≡ b → place words name < length words
  not_behind true e = ltb-true (place words name) (length words) e
  not_behind false e =
      let before : among.0 < place words name = omega (arith, ltb-false (place words name) (length words) e, among.1.0) in
      let other = fails_before_first (bytes_eq name) words among.0 name before in
      absurd (let no : true ≡ false = sym own ∙ ap (bytes_eq name) among.1.1 ∙ other in cc)

  pub place_within : place words name < length words
  place_within = not_behind (nat_lt (place words name) (length words)) refl

  pub at_place : name ≡ slice_index_or words (place words name) name
  at_place = (bytes_eq-Decides name (slice_index_or words (place words name) name)).0 (passes_at_first (bytes_eq name) words name place_within)

  pub got_at : {A : Type 0} (h : List ℕ → A) → slice_get (map h words) (place words name) ≡ Some (h name)
  got_at h = slice_get-map h words (place words name) ∙ ap (option_map h) (slice_get-get_or words (place words name) name place_within ∙ ap Some (sym at_place))

  one_place : (x : List ℕ) → place words x ≡ place words name → x ≡ name
  one_place x e =
      let within : place words x < length words = subst (λ n. n < length words) (sym e) place_within in
      (bytes_eq-Decides x (slice_index_or words (place words x) name)).0 (passes_at_first (bytes_eq x) words name within) ∙ ap (λ n. slice_index_or words n name) e ∙ sym at_place

  -- other names have other places
  pub place_same : (x : List ℕ) → (place words x == place words name) ≡ bytes_eq x name
  place_same x = one_answer (place words x == place words name) (bytes_eq x name) ((λ e. one_place x (eqb-true (place words x) (place words name) e)), (λ e. eq-eqb (place words x) (place words name) (ap (place words) e))) (bytes_eq-Decides x name)

-- helpers at the same place
same_callee : (c d : Callee) → d ≡ c → SameCallee ◌≡◌ c d
same_callee (callee.Helper place) d e = subst (IsHelperAt (λ other. place ≡ other)) (sym e) refl
same_callee (callee.Task task) d e = e
same_callee (callee.Builtin builtin) d e = e
same_callee (callee.Special made) d e = e
same_callee callee.Unknown d e = e

-- what a function knows of a name
abbrev pub word_of : body.Routine (List ℕ) FileValue → List ℕ → Word
word_of f name = record { spelling = f.spelling name; callee = f.callee name; class = f.class_of name }

-- The second is the first with the places of its names, which are among these texts.
pub record Numbers (texts : List (List ℕ)) (word : List ℕ → Word) (f : body.Routine (List ℕ) FileValue) (g : Routine) : Type 0 where
  pub same : (x name : List ℕ) → f.same x name ≡ bytes_eq x name
  pub known : (name : List ℕ) → word name ≡ word_of f name
  pub words : g.words ≡ map word texts
  pub parameters : map parameter_of g.parameters ≡ map (renamed_first (place texts)) f.parameters
  pub block : g.block ≡ map (renamed_statement (place texts)) f.block
  pub all : (m : Mention (List ℕ)) → IsAmong (mentions_of f) m → IsAmong texts m.name

module _ (texts : List (List ℕ)) (word : List ℕ → Word) (f : body.Routine (List ℕ) FileValue) (g : Routine) (numbers : Numbers texts word f g) where
  word_at : (m : Mention (List ℕ)) → IsAmong (mentions_of f) m → slice_get g.words (place texts m.name) ≡ Some (word_of f m.name)
  word_at m u = ap (λ ws. slice_get ws (place texts m.name)) numbers.words ∙ got_at texts m.name (numbers.all m u) word ∙ ap Some (numbers.known m.name)

  -- a function with numbers in the place of names is the function with other names
  pub numbers_rename : Renames ◌≡◌ (place texts) f (routine_of g)
  numbers_rename = record {
    agrees = record {
      same = λ x m u. place_same texts m.name (numbers.all m u) x ∙ sym (numbers.same x m.name);
      spelling = λ m u. ap (or_at (λ w. w.spelling) []) (word_at m u);
      callee = λ name u. same_callee (f.callee name) _ (ap (or_at (λ w. w.callee) Unknown) (word_at (called name) u));
      class_of = λ name u. ap (or_at (λ w. w.class) None) (word_at (class name) u);
    };
    parameters = numbers.parameters;
    block = numbers.block;
  }
