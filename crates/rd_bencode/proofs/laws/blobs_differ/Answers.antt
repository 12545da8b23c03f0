use Rattle.rd_bencode.proofs.Blobs.{blobs_apart}
use Rattle.rd_bencode.proofs.laws.blobs_differ.Goals as goal

pub returns : goal.returns
returns c = blobs_apart
