-- The names that statements give values to, at each kind of statement.
use Rattle.std.proofs.Common.{◌≡◌, ℕ, List, [], ◌∷◌, ◌++◌, map, ap, ◌∙◌}
use Rattle.rd_tree.specs.declared.tree.Name.{Name}
use Rattle.rd_tree.specs.declared.tree.Node.{Node}
use Rattle.rd_tree.specs.declared.tree.Statement.{Statement}
use Rattle.rd_tree.specs.declared.tree.Statement.TheVariants as variant
use Rattle.rd_tree.specs.declared.tree.Statement.TheViews as made
use Rattle.rd_tree.specs.declared.tree.Statement.TheOpen.{Statement-F}
use Rattle.rd_tree.specs.declared.tree.Statement.TheFolds.{fold-roll-Statement}
use Rattle.rd_names.specs.Uses.{joined, assigned, assigned_at, assigned_in}
use Rattle.rd_names.proofs.Walking.{map_both}

pub assigned_assign : (x : Name) (v : Node Name) → assigned (variant.Assign x v) ≡ x.text ∷ []
unfolding made.roll-Statement denote.Hole.Carrier.roll
assigned_assign x v = fold-roll-Statement Name (List (List ℕ)) assigned_at (Statement-F.Assign x v)

pub assigned_for : (x : Name) (v : Node Name) (body : List (Statement Name)) → assigned (variant.For x v body) ≡ x.text ∷ assigned_in body
unfolding made.roll-Statement denote.Hole.Carrier.roll
assigned_for x v body = fold-roll-Statement Name (List (List ℕ)) assigned_at (Statement-F.For x v body)

pub assigned_if : (bs : List (Node Name × List (Statement Name))) (other : List (Statement Name)) → assigned (variant.If bs other) ≡ joined (map (λ b. assigned_in b.1) bs) ++ assigned_in other
unfolding made.roll-Statement denote.Hole.Carrier.roll
assigned_if bs other =
    fold-roll-Statement Name (List (List ℕ)) assigned_at (Statement-F.If bs other)
    ∙ ap (λ names. joined names ++ assigned_in other) (map_both (λ b. joined b.1) (λ b. (b.0, map assigned b.1)) bs)
