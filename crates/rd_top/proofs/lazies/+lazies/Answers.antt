use Rattle.std.proofs.Common.{arith}
use Rattle.rd_top.proofs.LazyCounts.{lazies_call, lazies_dict_of}
use Rattle.rd_top.proofs.lazies.+lazies.Goals as goal

pub lazies-returns-in-Call : goal.lazies-returns-in-Call
lazies-returns-in-Call t c = rw (c.in-Call.is, lazies_call, ← c.as_slice.ensures, ← c.as_slice-in-Call.ensures) (omega arith)

pub lazies-returns-in-DictOf : goal.lazies-returns-in-DictOf
lazies-returns-in-DictOf t c = rw (c.in-DictOf.is, lazies_dict_of, ← c.as_slice-in-DictOf.ensures) (omega arith)
