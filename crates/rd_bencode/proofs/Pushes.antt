-- Pieces added one after the other.
use Rattle.std.proofs.Common.{◌≡◌, ℕ, List, ◌++◌, append_assoc}

pub three_pieces : (a b c d x y z : List ℕ) → b ≡ a ++ x → c ≡ b ++ y → d ≡ c ++ z → d ≡ a ++ ((x ++ y) ++ z)
three_pieces a b c d x y z p q r = rw (r, q, p) (simp append_assoc)
