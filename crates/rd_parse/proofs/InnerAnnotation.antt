-- The reader of an annotation one level further in, and that it takes something each time.
use Rattle.std.proofs.Common.{◌≡◌, ℕ, zero, suc, ◌-◌, ◌<◌, List, ap, arith}
use Rattle.rd_syntax.specs.declared.token.Token.{Token}
use Rattle.rd_parse.specs.StatementReading.{read_inner_annotation, read_annotation}

one_less : (n : ℕ) → n ≡ suc n - 1
one_less n = omega arith

pub annotation_below : (n : ℕ) (ts : List Token) → 0 < n → read_inner_annotation n ts ≡ read_annotation (n - 1) ts
unfolding read_inner_annotation
annotation_below zero ts h = absurd (omega arith)
annotation_below (suc n) ts h = ap (λ k. read_annotation k ts) (one_less n)
