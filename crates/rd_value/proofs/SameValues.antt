-- The derived comparison tells each value from every other.
use Rattle.std.proofs.Common.{◌≡◌, ◌==◌, Bool, true, false, refl, sym, ◌∙◌, ap, rules}
use Rattle.std.proofs.Math.Bool.{beq}
use Rattle.std.specs.Ordering.{int_eq}
use Rattle.std.proofs.lemmas.Bool.Decides.{Decides-int_eq}
use Rattle.std.specs.Cmp.Lexicographic.{pointwise, bytes_decides}
use Rattle.std.specs.declared.cmp.PartialEq as eq
use Rattle.std.specs.contracts.cmp.PartialEq.TheBound.{Lawful}
use mathlib.Core.Logic.{inl, inr}
use denote.RattleType.{RattleType}
use denote.Enum.Compared as parts
use denote.Enum.Declared.{Choice}
use mir.Syntax.{Dict}
use Rattle.rd_value.specs.declared.value.ErrorValue.{ErrorValue}
use Rattle.rd_value.specs.declared.value.Datum.{Datum}
use Rattle.rd_value.specs.contracts.value.Datum as made
use Rattle.rd_value.specs.contracts.value.ErrorValuePartialEq.TheImpl as error
use Rattle.rd_value.specs.contracts.value.DatumPartialEq.TheImpl as impl
use Rattle.rd_value.specs.contracts.value.DatumPartialEq.TheImpl.Laws as laws
use Rattle.rd_value.proofs.Ind.{datum_ind}
use Rattle.rd_value.proofs.Telling.{Tells, TellsFields, tells_choice, pair_eq, one_eq, tells_one, tells_list, tells_pairs}

bool_told : (b c : Bool) → beq b c ≡ true → b ≡ c
bool_told b c e = search rules

error_told : (d e : ErrorValue) → error.ghosts.eq d e ≡ true → d ≡ e
error_told d e h = search rules

module _ (R : RattleType) (G : eq.Ghosts R.Denot) (D : Dict) (L : Lawful R G D) (file : (f : R.Denot) → Tells G.eq f) where
  abbrev pub same : Datum R.Denot → Datum R.Denot → Bool
  same = (impl.ghosts R G D).eq

  -- what is asked of two values of one kind
  abbrev each : parts.Each Bool (made.the_parts R)
  each = (
    (λ x y. true),
    (
      one_eq beq,
      (
        one_eq int_eq,
        (
          one_eq (pointwise ◌==◌),
          (
            one_eq (pointwise same),
            (
              one_eq (pointwise (pair_eq same same)),
              (
                one_eq G.eq,
                (
                  one_eq error.ghosts.eq,
                  tt,
                ),
              ),
            ),
          ),
        ),
      ),
    ),
  )

  by_kinds : (a b : Datum R.Denot) → same a b ≡ parts.by false false (made.the_parts R) each (made.as_values R a) (made.as_values R b)
  by_kinds a b = laws.is R G D L a b

  of_kind : (c : Choice (made.the_parts R)) → TellsFields (made.the_parts R) each c → Tells same (made.the_make R c)
  of_kind c h b e =
      let told = tells_choice (made.the_parts R) each c h (made.as_values R b)
      (ap (λ d. parts.by false false (made.the_parts R) each d (made.as_values R b)) (sym (made.the_beta R c)) ∙ (sym (by_kinds (made.the_make R c) b) ∙ e)) in
      ap (made.the_make R) told ∙ made.the_eta R b

  pub tells_value : (v : Datum R.Denot) → Tells same v
  tells_value = datum_ind (Tells same)
      (of_kind (inl tt) (λ y e. refl))
      (λ b. of_kind (inr (inl (b, tt))) (tells_one beq b (bool_told b)))
      (λ n. of_kind (inr (inr (inl (n, tt)))) (tells_one int_eq n (λ m. (Decides-int_eq n m).0)))
      (λ t. of_kind (inr (inr (inr (inl (t, tt))))) (tells_one (pointwise ◌==◌) t (λ u. (bytes_decides t u).0)))
      (λ xs hs. of_kind (inr (inr (inr (inr (inl (xs, tt)))))) (tells_one (pointwise same) xs (tells_list same xs hs)))
      (λ ps hs. of_kind (inr (inr (inr (inr (inr (inl (ps, tt))))))) (tells_one (pointwise (pair_eq same same)) ps (tells_pairs same ps hs)))
      (λ f. of_kind (inr (inr (inr (inr (inr (inr (inl (f, tt)))))))) (tells_one G.eq f (file f)))
      (λ d. of_kind (inr (inr (inr (inr (inr (inr (inr (inl (d, tt))))))))) (tells_one error.ghosts.eq d (error_told d)))
