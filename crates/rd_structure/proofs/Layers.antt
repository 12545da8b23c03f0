-- The bytes of expressions and statements of which some parts are pairs.
use Rattle.std.proofs.Common.{◌≡◌, ℕ, List, ◌++◌, map, codes, ap, ◌∙◌}
use Rattle.rd_value.specs.Canon.{string}
use Rattle.rd_tree.specs.declared.tree.Operator.{Operator}
use Rattle.rd_tree.specs.declared.tree.Node.{Node}
use Rattle.rd_tree.specs.declared.tree.Node.TheVariants as variant
use Rattle.rd_tree.specs.declared.tree.Node.TheViews as made
use Rattle.rd_tree.specs.declared.tree.Node.TheOpen.{Node-F}
use Rattle.rd_tree.specs.declared.tree.Node.TheFolds.{fold-roll-Node}
use Rattle.rd_tree.specs.declared.tree.Statement.{Statement}
use Rattle.rd_tree.specs.declared.tree.Statement.TheVariants as variant_statement
use Rattle.rd_tree.specs.declared.tree.Statement.TheViews as made_statement
use Rattle.rd_tree.specs.declared.tree.Statement.TheOpen.{Statement-F}
use Rattle.rd_tree.specs.declared.tree.Statement.TheFolds.{fold-roll-Statement}
use Rattle.rd_names.proofs.Walking.{map_both}
use Rattle.rd_structure.specs.Structure.{tagged, all, node_at, node_bytes, keyword_bytes, link_bytes, pair_bytes, statement_at, statement_bytes, block_bytes, branch_bytes}

abbrev Name : Type 0
Name = List ℕ

pub bytes_call : (x : Name) (positional : List (Node Name)) (keywords : List (Name × Node Name)) →
    node_bytes (variant.Call x positional keywords) ≡ tagged (codes "l4:call") (string x ++ all (map node_bytes positional) ++ all (map (λ k. keyword_bytes (k.0, node_bytes k.1)) keywords))
unfolding made.roll-Node denote.Hole.Carrier.roll
bytes_call x positional keywords =
    fold-roll-Node Name (List ℕ) node_at (Node-F.Call x positional keywords)
    ∙ ap (λ ks. tagged (codes "l4:call") (string x ++ all (map node_bytes positional) ++ all ks)) (map_both keyword_bytes (λ k. (k.0, node_bytes k.1)) keywords)

pub bytes_chain : (first : Node Name) (rest : List (Operator × Node Name)) →
    node_bytes (variant.Chain first rest) ≡ tagged (codes "l5:chain") (node_bytes first ++ all (map (λ l. link_bytes (l.0, node_bytes l.1)) rest))
unfolding made.roll-Node denote.Hole.Carrier.roll
bytes_chain first rest =
    fold-roll-Node Name (List ℕ) node_at (Node-F.Chain first rest)
    ∙ ap (λ ls. tagged (codes "l5:chain") (node_bytes first ++ all ls)) (map_both link_bytes (λ l. (l.0, node_bytes l.1)) rest)

pub bytes_dict : (pairs : List (Node Name × Node Name)) → node_bytes (variant.Dict pairs) ≡ tagged (codes "l4:dict") (all (map (λ p. pair_bytes (node_bytes p.0, node_bytes p.1)) pairs))
unfolding made.roll-Node denote.Hole.Carrier.roll
bytes_dict pairs =
    fold-roll-Node Name (List ℕ) node_at (Node-F.Dict pairs)
    ∙ ap (λ ps. tagged (codes "l4:dict") (all ps)) (map_both pair_bytes (λ p. (node_bytes p.0, node_bytes p.1)) pairs)

pub bytes_if : (branches : List (Node Name × List (Statement Name))) (otherwise : List (Statement Name)) →
    statement_bytes (variant_statement.If branches otherwise) ≡ tagged (codes "l2:if") (all (map (λ b. branch_bytes (b.0, map statement_bytes b.1)) branches) ++ block_bytes otherwise)
unfolding made_statement.roll-Statement denote.Hole.Carrier.roll
bytes_if branches otherwise =
    fold-roll-Statement Name (List ℕ) statement_at (Statement-F.If branches otherwise)
    ∙ ap (λ bs. tagged (codes "l2:if") (all bs ++ block_bytes otherwise)) (map_both branch_bytes (λ b. (b.0, map statement_bytes b.1)) branches)
