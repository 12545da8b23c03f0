-- Trees of one operand, and of more.
use Rattle.std.proofs.Common.{◌≡◌, ◌<◌, List, [], ◌∷◌, ◌++◌, length, refl, arith}
use Rattle.rd_tree.specs.declared.tree.Operator.{Operator}
use Rattle.rd_tree.specs.declared.tree.Node.TheVariants as node
use Rattle.rd_tree.specs.declared.tree.Name.{Name}
use Rattle.rd_parse.specs.declared.expression.arguments.Given.{Given}
use Rattle.rd_parse.specs.Expressions.{Tree, Arguments, sorted, chained, anded, ored}

pub chain_alone : (first : Tree) (more : List (Operator × Tree)) → length more ≡ 0 → first ≡ chained first more
chain_alone first [] h = refl
chain_alone first (l ∷ ls) h = absurd (omega arith)

pub chain_of : (first : Tree) (more : List (Operator × Tree)) → 0 < length more → node.Chain first more ≡ chained first more
chain_of first [] h = absurd (omega arith)
chain_of first (l ∷ ls) h = refl

pub and_alone : (first : Tree) (more : List Tree) → length more ≡ 0 → first ≡ anded first more
and_alone first [] h = refl
and_alone first (e ∷ es) h = absurd (omega arith)

pub and_of : (first : Tree) (more : List Tree) → 0 < length more → node.And (first ∷ more) ≡ anded first more
and_of first [] h = absurd (omega arith)
and_of first (e ∷ es) h = refl

pub or_alone : (first : Tree) (more : List Tree) → length more ≡ 0 → first ≡ ored first more
or_alone first [] h = refl
or_alone first (e ∷ es) h = absurd (omega arith)

pub or_of : (first : Tree) (more : List Tree) → 0 < length more → node.Or (first ∷ more) ≡ ored first more
or_of first [] h = absurd (omega arith)
or_of first (e ∷ es) h = refl

-- those that were put in their place, with those that are left
abbrev pub with_left : List Tree → List (Name × Tree) → List Given → Arguments
with_left ps ks left = (ps ++ (sorted left).0, ks ++ (sorted left).1)
