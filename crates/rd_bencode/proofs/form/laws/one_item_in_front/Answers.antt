use Rattle.rd_bencode.proofs.Items.{items_apart, any_item}
use Rattle.rd_bencode.proofs.form.laws.one_item_in_front.Goals as goal

pub returns : goal.returns
returns c = record {
  apart = items_apart;
  any = any_item;
}
