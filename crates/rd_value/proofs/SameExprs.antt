-- The derived comparison tells each expression from every other.
use Rattle.std.proofs.Common.{◌≡◌, ◌==◌, ℕ, Bool, true, false, sym, ◌∙◌, ap, List, rules}
use Rattle.std.specs.Cmp.Lexicographic.{pointwise, bytes_decides}
use Rattle.std.specs.declared.cmp.PartialEq as eq
use Rattle.std.specs.contracts.cmp.PartialEq.TheBound.{Lawful}
use mathlib.Core.Logic.{inl, inr}
use denote.RattleType.{RattleType}
use denote.Enum.Compared as parts
use denote.Enum.Declared.{Choice}
use mir.Syntax.{Dict}
use Rattle.rd_value.specs.declared.class.Class.{Class}
use Rattle.rd_value.specs.declared.expr.OpKind.{OpKind}
use Rattle.rd_value.specs.declared.value.Datum.{Datum}
use Rattle.rd_value.specs.declared.expr.Lazy.{Lazy}
use Rattle.rd_value.specs.contracts.expr.Lazy as made
use Rattle.rd_value.specs.contracts.class.ClassPartialEq.TheImpl as class
use Rattle.rd_value.specs.contracts.expr.OpKindPartialEq.TheImpl as op
use Rattle.rd_value.specs.contracts.value.DatumPartialEq.TheImpl as value
use Rattle.rd_value.specs.contracts.expr.LazyPartialEq.TheImpl as impl
use Rattle.rd_value.specs.contracts.expr.LazyPartialEq.TheImpl.Laws as laws
use Rattle.rd_value.proofs.Ind.{lazy_ind}
use Rattle.rd_value.proofs.Telling.{Tells, TellsFields, tells_choice, pair_eq, one_eq, tells_one, tells_two, tells_three, tells_list, tells_seconds}
use Rattle.rd_value.proofs.SameValues.{tells_value}

class_told : (c d : Class) → class.ghosts.eq c d ≡ true → c ≡ d
class_told c d e = search rules

op_told : (o p : OpKind) → op.ghosts.eq o p ≡ true → o ≡ p
op_told o p e = search rules

text_told : (t : List ℕ) → Tells (pointwise ◌==◌) t
text_told t u e = (bytes_decides t u).0 e

module _ (R : RattleType) (G : eq.Ghosts R.Denot) (D : Dict) (L : Lawful R G D) (file : (f : R.Denot) → Tells G.eq f) where
  abbrev pub same : Lazy R.Denot → Lazy R.Denot → Bool
  same = (impl.ghosts R G D).eq

  abbrev same_value : Datum R.Denot → Datum R.Denot → Bool
  same_value = (value.ghosts R G D).eq

  abbrev same_text : List ℕ → List ℕ → Bool
  same_text = pointwise ◌==◌

  abbrev same_list : List (Lazy R.Denot) → List (Lazy R.Denot) → Bool
  same_list = pointwise same

  abbrev same_keywords : List (List ℕ × Lazy R.Denot) → List (List ℕ × Lazy R.Denot) → Bool
  same_keywords = pointwise (pair_eq same_text same)

  abbrev same_pairs : List (Datum R.Denot × Lazy R.Denot) → List (Datum R.Denot × Lazy R.Denot) → Bool
  same_pairs = pointwise (pair_eq same_value same)

  -- what is asked of two expressions of one kind
  abbrev each : parts.Each Bool (made.the_parts R)
  each = (
    one_eq same_value,
    (
      pair_eq same_text (pair_eq same_list (one_eq same_keywords)),
      (
        one_eq same_text,
        (
          pair_eq op.ghosts.eq (one_eq same_list),
          (
            one_eq same_list,
            (
              one_eq same_pairs,
              (
                pair_eq same (pair_eq same (one_eq same)),
                (
                  pair_eq same_text (one_eq same),
                  (
                    pair_eq same (pair_eq class.ghosts.eq (one_eq same_text)),
                    tt,
                  ),
                ),
              ),
            ),
          ),
        ),
      ),
    ),
  )

  by_kinds : (a b : Lazy R.Denot) → same a b ≡ parts.by false false (made.the_parts R) each (made.as_values R a) (made.as_values R b)
  by_kinds a b = laws.is R G D L a b

  of_kind : (c : Choice (made.the_parts R)) → TellsFields (made.the_parts R) each c → Tells same (made.the_make R c)
  of_kind c h b e =
      let told = tells_choice (made.the_parts R) each c h (made.as_values R b)
      (ap (λ d. parts.by false false (made.the_parts R) each d (made.as_values R b)) (sym (made.the_beta R c)) ∙ (sym (by_kinds (made.the_make R c) b) ∙ e)) in
      ap (made.the_make R) told ∙ made.the_eta R b

  pub tells_expr : (e : Lazy R.Denot) → Tells same e
  tells_expr = lazy_ind (Tells same)
      (λ v. of_kind (inl (v, tt)) (tells_one same_value v (tells_value R G D L file v)))
      (λ t xs ks hs js. of_kind (inr (inl (t, (xs, (ks, tt)))))
      (tells_three same_text same_list same_keywords t xs ks (text_told t) (tells_list same xs hs) (tells_seconds same_text same text_told ks js)))
      (λ p. of_kind (inr (inr (inl (p, tt)))) (tells_one same_text p (text_told p)))
      (λ o xs hs. of_kind (inr (inr (inr (inl (o, (xs, tt)))))) (tells_two op.ghosts.eq same_list o xs (op_told o) (tells_list same xs hs)))
      (λ xs hs. of_kind (inr (inr (inr (inr (inl (xs, tt)))))) (tells_one same_list xs (tells_list same xs hs)))
      (λ ps hs. of_kind (inr (inr (inr (inr (inr (inl (ps, tt)))))))
      (tells_one same_pairs ps (tells_seconds same_value same (tells_value R G D L file) ps hs)))
      (λ a b c h k l. of_kind (inr (inr (inr (inr (inr (inr (inl (a, (b, (c, tt)))))))))) (tells_three same same same a b c h k l))
      (λ t e h. of_kind (inr (inr (inr (inr (inr (inr (inr (inl (t, (e, tt)))))))))) (tells_two same_text same t e (text_told t) h))
      (λ e c r h. of_kind (inr (inr (inr (inr (inr (inr (inr (inr (inl (e, (c, (r, tt))))))))))))
      (tells_three same class.ghosts.eq same_text e c r h (class_told c) (text_told r)))
