use Rattle.std.proofs.Common.{max, refl, arith}
use Rattle.rd_tree.specs.declared.tree.Node.{size-Node}
use Rattle.rd_code.specs.Renaming.{renamed, renamed_keyword, renamed_link, renamed_pair}
use Rattle.rd_code.proofs.RenamedTrees.{and_renamed, call_falls, call_renamed, chain_falls, chain_renamed, comprehension_renamed, dict_falls, dict_renamed, item_within, list_renamed, method_renamed, or_renamed, same_pair, walked_on, walked_whole}
use Rattle.rd_code.proofs.renaming.+nodes.Goals as goal

-- what a node becomes

pub renamed_node-returns-in-Call : goal.renamed_node-returns-in-Call
renamed_node-returns-in-Call g t c =
    call_renamed (g.R.Renaming.renamed c.args.by.now) c.args.node.now c.in-Call.name c.in-Call.positional c.as_slice.result.now c.in-Call.keywords c.as_slice-in-Call.result.now c.renamed_call.result
    c.in-Call.is c.as_slice.ensures c.as_slice-in-Call.ensures c.renamed_call.ensures

pub renamed_node-returns-in-Chain : goal.renamed_node-returns-in-Chain
renamed_node-returns-in-Chain g t c =
    chain_renamed (g.R.Renaming.renamed c.args.by.now) c.args.node.now c.in-Chain.first c.in-Chain.rest c.as_slice-in-Chain.result.now c.renamed_chain.result c.in-Chain.is c.as_slice-in-Chain.ensures c.renamed_chain.ensures

pub renamed_node-returns-in-Comp : goal.renamed_node-returns-in-Comp
renamed_node-returns-in-Comp g t c =
    comprehension_renamed (g.R.Renaming.renamed c.args.by.now) c.args.node.now c.in-Comp.element c.in-Comp.name c.in-Comp.iterable c.in-Comp.condition c.as_slice-in-Comp.result.now c.renamed_comprehension.result
    c.in-Comp.is c.as_slice-in-Comp.ensures c.renamed_comprehension.ensures

pub renamed_node-returns-in-Method : goal.renamed_node-returns-in-Method
renamed_node-returns-in-Method g t c =
    method_renamed (g.R.Renaming.renamed c.args.by.now) c.args.node.now c.in-Method.receiver c.in-Method.name c.in-Method.arguments c.as_slice-in-Method.result.now c.renamed_method.result
    c.in-Method.is c.as_slice-in-Method.ensures c.renamed_method.ensures

pub renamed_node-returns-in_ok-renamed_nodes-in-And : goal.renamed_node-returns-in_ok-renamed_nodes-in-And
renamed_node-returns-in_ok-renamed_nodes-in-And g t c =
    and_renamed (g.R.Renaming.renamed c.args.by.now) c.args.node.now c.in-And.operands c.as_slice-in-And.result.now c.in_ok-renamed_nodes-in-And.field-0 c.in-And.is c.as_slice-in-And.ensures c.in_ok-renamed_nodes-in-And.ensures

pub renamed_node-returns-in_ok-renamed_nodes-in-Or : goal.renamed_node-returns-in_ok-renamed_nodes-in-Or
renamed_node-returns-in_ok-renamed_nodes-in-Or g t c =
    or_renamed (g.R.Renaming.renamed c.args.by.now) c.args.node.now c.in-Or.operands c.as_slice-in-Or.result.now c.in_ok-renamed_nodes-in-Or.field-0 c.in-Or.is c.as_slice-in-Or.ensures c.in_ok-renamed_nodes-in-Or.ensures

pub renamed_node-returns-in_ok-renamed_nodes-in-List : goal.renamed_node-returns-in_ok-renamed_nodes-in-List
renamed_node-returns-in_ok-renamed_nodes-in-List g t c =
    list_renamed (g.R.Renaming.renamed c.args.by.now) c.args.node.now c.in-List.items c.as_slice-in-List.result.now c.in_ok-renamed_nodes-in-List.field-0 c.in-List.is c.as_slice-in-List.ensures c.in_ok-renamed_nodes-in-List.ensures

pub renamed_node-returns-in_ok-renamed_pairs-in-Dict : goal.renamed_node-returns-in_ok-renamed_pairs-in-Dict
renamed_node-returns-in_ok-renamed_pairs-in-Dict g t c =
    dict_renamed (g.R.Renaming.renamed c.args.by.now) c.args.node.now c.in-Dict.pairs c.as_slice-in-Dict.result.now c.in_ok-renamed_pairs-in-Dict.field-0 c.in-Dict.is c.as_slice-in-Dict.ensures c.in_ok-renamed_pairs-in-Dict.ensures

-- the parts of a node are walked after it

pub renamed_node-renamed_call-requires : goal.renamed_node-renamed_call-requires
renamed_node-renamed_call-requires g t c κs within =
    let falls = call_falls c.args.node.now c.in-Call.name c.in-Call.positional c.as_slice.result.now c.in-Call.keywords c.as_slice-in-Call.result.now c.in-Call.is c.as_slice.ensures c.as_slice-in-Call.ensures in
    (omega (arith, c.decreases, falls), within)

pub renamed_node-renamed_chain-requires : goal.renamed_node-renamed_chain-requires
renamed_node-renamed_chain-requires g t c κs within =
    let falls = chain_falls c.args.node.now c.in-Chain.first c.in-Chain.rest c.as_slice-in-Chain.result.now c.in-Chain.is c.as_slice-in-Chain.ensures in
    (omega (arith, c.decreases, falls), within)

pub renamed_node-renamed_pairs-requires : goal.renamed_node-renamed_pairs-requires
renamed_node-renamed_pairs-requires g t c κs within =
    let falls = dict_falls c.args.node.now c.in-Dict.pairs c.as_slice-in-Dict.result.now c.in-Dict.is c.as_slice-in-Dict.ensures in
    (omega (arith, c.decreases, falls), within)

-- the items of a list are walked after it

pub renamed_keywords-renamed_node-requires : goal.renamed_keywords-renamed_node-requires
renamed_keywords-renamed_node-requires g t c κs within =
    let inside = item_within (λ p. size-Node g.row.N.Denot p.1) c.args.keywords.now c.loop-keyword.keyword-index c.keyword-item.result c.loop-keyword-test.true c.keyword-item.is in
    (omega (arith, c.decreases, inside), within)

pub renamed_links-renamed_node-requires : goal.renamed_links-renamed_node-requires
renamed_links-renamed_node-requires g t c κs within =
    let inside = item_within (λ p. size-Node g.row.N.Denot p.1) c.args.links.now c.loop-link.link-index c.link-item.result c.loop-link-test.true c.link-item.is in
    (omega (arith, c.decreases, inside), within)

pub renamed_pairs-renamed_node-requires : goal.renamed_pairs-renamed_node-requires
renamed_pairs-renamed_node-requires g t c κs within =
    let inside = item_within (λ p. max (size-Node g.row.N.Denot p.0) (size-Node g.row.N.Denot p.1)) c.args.pairs.now c.loop-pair.pair-index c.pair-item.result c.loop-pair-test.true c.pair-item.is in
    (omega (arith, c.decreases, inside), within)

pub renamed_pairs-renamed_node-requires-in-loop-pair : goal.renamed_pairs-renamed_node-requires-in-loop-pair
renamed_pairs-renamed_node-requires-in-loop-pair g t c κs within =
    let inside = item_within (λ p. max (size-Node g.row.N.Denot p.0) (size-Node g.row.N.Denot p.1)) c.args.pairs.now c.loop-pair.pair-index c.pair-item.result c.loop-pair-test.true c.pair-item.is in
    (omega (arith, c.decreases, inside), within)

-- what a list becomes

pub renamed_nodes-loop-node-preserved : goal.renamed_nodes-loop-node-preserved
renamed_nodes-loop-node-preserved g t c =
    walked_on (renamed (g.R.Renaming.renamed c.args.by.now)) c.args.nodes.now c.loop-node.node-index c.node-item.result c.in_ok-renamed_node.field-0 c.loop-node.all.items c.push.new.self.items
    c.in_ok-push.ensures.items c.loop-node.invariant c.loop-node-test.true c.node-item.is c.in_ok-renamed_node.ensures

pub renamed_nodes-returns : goal.renamed_nodes-returns
renamed_nodes-returns g t c =
    walked_whole (renamed (g.R.Renaming.renamed c.args.by.now)) c.args.nodes.now c.loop-node.node-index c.loop-node.all.items c.from_vec.result c.from_vec.ensures c.loop-node.invariant c.loop-node-test.false

pub renamed_keywords-loop-keyword-preserved : goal.renamed_keywords-loop-keyword-preserved
renamed_keywords-loop-keyword-preserved g t c =
    walked_on (renamed_keyword (g.R.Renaming.renamed c.args.by.now)) c.args.keywords.now c.loop-keyword.keyword-index c.keyword-item.result (c.in_ok-name.field-0, c.in_ok-renamed_node.field-0) c.loop-keyword.all.items c.push.new.self.items
    c.in_ok-push.ensures.items c.loop-keyword.invariant c.loop-keyword-test.true c.keyword-item.is (same_pair _ _ _ _ c.in_ok-name.ensures c.in_ok-renamed_node.ensures)

pub renamed_keywords-returns : goal.renamed_keywords-returns
renamed_keywords-returns g t c =
    walked_whole (renamed_keyword (g.R.Renaming.renamed c.args.by.now)) c.args.keywords.now c.loop-keyword.keyword-index c.loop-keyword.all.items c.from_vec.result c.from_vec.ensures c.loop-keyword.invariant c.loop-keyword-test.false

pub renamed_links-loop-link-preserved : goal.renamed_links-loop-link-preserved
renamed_links-loop-link-preserved g t c =
    walked_on (renamed_link (g.R.Renaming.renamed c.args.by.now)) c.args.links.now c.loop-link.link-index c.link-item.result (c.link-item.result.0, c.in_ok-renamed_node.field-0) c.loop-link.all.items c.push.new.self.items
    c.in_ok-push.ensures.items c.loop-link.invariant c.loop-link-test.true c.link-item.is (same_pair _ _ _ _ refl c.in_ok-renamed_node.ensures)

pub renamed_links-returns : goal.renamed_links-returns
renamed_links-returns g t c =
    walked_whole (renamed_link (g.R.Renaming.renamed c.args.by.now)) c.args.links.now c.loop-link.link-index c.loop-link.all.items c.from_vec.result c.from_vec.ensures c.loop-link.invariant c.loop-link-test.false

pub renamed_pairs-loop-pair-preserved : goal.renamed_pairs-loop-pair-preserved
renamed_pairs-loop-pair-preserved g t c =
    walked_on (renamed_pair (g.R.Renaming.renamed c.args.by.now)) c.args.pairs.now c.loop-pair.pair-index c.pair-item.result (c.in_ok-renamed_node.field-0, c.in_ok-renamed_node-2.field-0) c.loop-pair.all.items c.push.new.self.items
    c.in_ok-push.ensures.items c.loop-pair.invariant c.loop-pair-test.true c.pair-item.is (same_pair _ _ _ _ c.in_ok-renamed_node.ensures c.in_ok-renamed_node-2.ensures)

pub renamed_pairs-returns : goal.renamed_pairs-returns
renamed_pairs-returns g t c =
    walked_whole (renamed_pair (g.R.Renaming.renamed c.args.by.now)) c.args.pairs.now c.loop-pair.pair-index c.loop-pair.all.items c.from_vec.result c.from_vec.ensures c.loop-pair.invariant c.loop-pair-test.false
