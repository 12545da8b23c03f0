-- What the methods of dicts give.
use Rattle.std.proofs.Common.{◌≡◌, ℕ, ◌<◌, Bool, true, false, List, [], ◌∷◌, length, map, refl, sym, ap, subst, ◌∙◌, arith, Option, Some, Result, Ok, Err}
use Rattle.std.specs.Prelude.{if◌then◌else◌}
use Rattle.std.specs.Option.{option_map}
use Rattle.rd_value.specs.declared.value.FileValue.{FileValue}
use Rattle.rd_value.specs.declared.value.Datum.{Datum}
use Rattle.rd_value.specs.declared.value.Datum.TheVariants as value
use Rattle.rd_value.specs.declared.expr.Lazy.{Lazy}
use Rattle.rd_value.specs.declared.expr.Lazy.TheVariants as lazy
use Rattle.rd_value.specs.declared.expr.Lazy.TheOpen.{Lazy-F}
use Rattle.rd_value.specs.Compare.{equal}
use Rattle.rd_value.specs.Expand.{listed}
use Rattle.rd_value.specs.Make.{is_key}
use Rattle.rd_value.specs.Operators.{bad_operand}
use Rattle.rd_interpreter.specs.declared.halt.Halt.{Halt}
use Rattle.rd_interpreter.specs.declared.method.Method.{Method}
use Rattle.rd_interpreter.specs.declared.method.Method.TheVariants as method
use Rattle.rd_interpreter.specs.Making.{made}
use Rattle.rd_interpreter.specs.Held.{not_settled}
use Rattle.rd_interpreter.specs.Methods.{value_under, got, or_else, item, on_dict, dict_method, no_method, arguments_of, on_arguments, on_method, of_value, of_held, on_receiver}
use Rattle.rd_interpreter.specs.Running.{Gives, own}
use Rattle.rd_interpreter.specs.State.{State}

module _ {V : Type 0} (h : V → Lazy FileValue) where
  abbrev pairs_held : List (Datum FileValue × V) → List (Datum FileValue × Lazy FileValue)
  pairs_held ps = map (λ p. (p.0, h p.1)) ps

  held_under : (key : Datum FileValue) (ps : List (Datum FileValue × V)) → value_under own key (pairs_held ps) ≡ option_map h (value_under own key ps)
  held_under key [] = refl
  held_under key (p ∷ ps) = by_test (equal own p.0 key) (held_under key ps)
    where
      by_test : (b : Bool) → value_under own key (pairs_held ps) ≡ option_map h (value_under own key ps) → (if b then Some (h p.1) else value_under own key (pairs_held ps)) ≡ option_map h (if b then Some p.1 else value_under own key ps)
      by_test true k = refl
      by_test false k = k

  pub got_held : (ps : List (Datum FileValue × V)) (key other : Datum FileValue) (o : Option V) → is_key key ≡ true → value_under own key ps ≡ o → got own (pairs_held ps) key other ≡ Ok (or_else (option_map h o) (lazy.Val other))
  got_held ps key other o k e = ap (λ b. if b then Ok (or_else (value_under own key (pairs_held ps)) (lazy.Val other)) else Err bad_operand) k ∙ ap (λ x. Ok (or_else x (lazy.Val other))) (held_under key ps ∙ ap (option_map h) e)

  keys_held : (ps : List (Datum FileValue × V)) → map (λ p. lazy.Val p.0) ps ≡ map (λ p. lazy.Val p.0) (pairs_held ps)
  keys_held [] = refl
  keys_held (p ∷ ps) = ap (λ l. lazy.Val p.0 ∷ l) (keys_held ps)

  values_held : (ps : List (Datum FileValue × V)) → map (λ p. h p.1) ps ≡ map (λ p. p.1) (pairs_held ps)
  values_held [] = refl
  values_held (p ∷ ps) = ap (λ l. h p.1 ∷ l) (values_held ps)

  items_held : (ps : List (Datum FileValue × V)) → map (λ p. item own (p.0, h p.1)) ps ≡ map (item own) (pairs_held ps)
  items_held [] = refl
  items_held (p ∷ ps) = ap (λ l. item own (p.0, h p.1) ∷ l) (items_held ps)

  module _ (x : Result (Lazy FileValue) Halt) (new old : State ℕ FileValue) (ps : List (Datum FileValue × V)) where
    -- a list that is shown, of a method without arguments
    shown : (m k : Method) (vs : List (Datum FileValue)) (es fs : List (Lazy FileValue)) → made own (listed own fs) old ≡ on_dict own k (pairs_held ps) [] old → m ≡ k → length vs < 1 → es ≡ fs → Gives x new (made own (listed own es) old) → Gives x new (on_dict own m (pairs_held ps) vs old)
    shown m k [] es fs is e none f g = subst (Gives x new) (ap (λ l. made own (listed own l) old) f ∙ is ∙ ap (λ n. on_dict own n (pairs_held ps) [] old) (sym e)) g
    shown m k (v ∷ vs) es fs is e none f g = absurd (omega arith)

    pub keys_shown : (m : Method) (vs : List (Datum FileValue)) (es : List (Lazy FileValue)) → m ≡ method.Keys → length vs < 1 → es ≡ map (λ p. lazy.Val p.0) ps → Gives x new (made own (listed own es) old) → Gives x new (on_dict own m (pairs_held ps) vs old)
    keys_shown m vs es e none f g = shown m method.Keys vs es _ refl e none (f ∙ keys_held ps) g

    pub values_shown : (m : Method) (vs : List (Datum FileValue)) (es : List (Lazy FileValue)) → m ≡ method.Values → length vs < 1 → es ≡ map (λ p. h p.1) ps → Gives x new (made own (listed own es) old) → Gives x new (on_dict own m (pairs_held ps) vs old)
    values_shown m vs es e none f g = shown m method.Values vs es _ refl e none (f ∙ values_held ps) g

    pub items_shown : (m : Method) (vs : List (Datum FileValue)) (es : List (Lazy FileValue)) → m ≡ method.Items → length vs < 1 → es ≡ map (λ p. item own (p.0, h p.1)) ps → Gives x new (made own (listed own es) old) → Gives x new (on_dict own m (pairs_held ps) vs old)
    items_shown m vs es e none f g = shown m method.Items vs es _ refl e none (f ∙ items_held ps) g

same_pairs : (ps : List (Datum FileValue × Lazy FileValue)) → map (λ p. (p.0, p.1)) ps ≡ ps
same_pairs [] = refl
same_pairs (p ∷ ps) = ap (λ l. p ∷ l) (same_pairs ps)

-- a method that a dict has
module _ (x : Result (Lazy FileValue) Halt) (new old : State ℕ FileValue) (e : Lazy FileValue) (name : List ℕ) (es : List (Lazy FileValue)) (m : Method) (o : Option Method) (known : o ≡ dict_method name) (has : o ≡ Some m) where
  pub on_dict_of : (ps qs : List (Datum FileValue × Lazy FileValue)) → e ≡ lazy.DictOf ps → qs ≡ ps → Gives x new (on_arguments own (on_dict own m (map (λ p. (p.0, p.1)) qs)) (arguments_of m es) old) → Gives x new (on_receiver own e name es old)
  on_dict_of ps qs is same g = subst (Gives x new) (ap (λ l. on_arguments own (on_dict own m l) (arguments_of m es) old) (same_pairs qs ∙ same) ∙ ap (λ k. on_method own (λ n. on_dict own n ps) not_settled k es old) (sym has ∙ known) ∙ ap (λ y. of_held own y name es old) (sym (lazy.outs-DictOf ps)) ∙ ap (λ r. on_receiver own r name es old) (sym is)) g

  pub on_dict_value : (v : Datum FileValue) (ps qs : List (Datum FileValue × Datum FileValue)) → e ≡ lazy.Val v → v ≡ value.Dict ps → qs ≡ ps → Gives x new (on_arguments own (on_dict own m (map (λ p. (p.0, lazy.Val p.1)) qs)) (arguments_of m es) old) → Gives x new (on_receiver own e name es old)
  on_dict_value v ps qs is dict same g = subst (Gives x new) (ap (λ l. on_arguments own (on_dict own m (map (λ p. (p.0, lazy.Val p.1)) l)) (arguments_of m es) old) same ∙ ap (λ k. on_method own (λ n. on_dict own n (map (λ p. (p.0, lazy.Val p.1)) ps)) (no_method name) k es old) (sym has ∙ known) ∙ ap (λ y. of_value own y name es old) (sym (value.outs-Dict ps)) ∙ ap (λ w. of_held own (Lazy-F.Val w) name es old) (sym dict) ∙ ap (λ y. of_held own y name es old) (sym (lazy.outs-Val v)) ∙ ap (λ r. on_receiver own r name es old) (sym is)) g
