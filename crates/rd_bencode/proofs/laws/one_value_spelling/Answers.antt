use Rattle.rd_bencode.proofs.Apart.{values_apart, value_begins_one}
use Rattle.rd_bencode.proofs.laws.one_value_spelling.Goals as goal

pub returns : goal.returns
returns c = record {
  apart = values_apart;
  no_prefix = value_begins_one;
}
