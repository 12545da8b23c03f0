use Rattle.rd_bencode.proofs.Apart.{exprs_apart, expr_begins_one}
use Rattle.rd_bencode.proofs.laws.one_expr_spelling.Goals as goal

pub returns : goal.returns
returns c = record {
  apart = exprs_apart;
  no_prefix = expr_begins_one;
}
