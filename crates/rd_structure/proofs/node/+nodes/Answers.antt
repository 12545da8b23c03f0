use Rattle.rd_structure.proofs.Layers.{bytes_call, bytes_chain, bytes_dict}
use Rattle.rd_structure.proofs.node.+nodes.Goals as goal

pub push_node-returns-in-Call : goal.push_node-returns-in-Call
push_node-returns-in-Call t c = rw (c.in-Call.is, bytes_call, ← c.as_slice.ensures, ← c.as_slice-in-Call.ensures) c.push_call.ensures

pub push_node-returns-in-Chain : goal.push_node-returns-in-Chain
push_node-returns-in-Chain t c = rw (c.in-Chain.is, bytes_chain, ← c.get-in-Chain.ensures, ← c.as_slice-in-Chain.ensures) c.push_chain.ensures

pub push_node-returns-in-Dict : goal.push_node-returns-in-Dict
push_node-returns-in-Dict t c = rw (c.in-Dict.is, bytes_dict, ← c.as_slice-in-Dict.ensures) c.push_dict.ensures
