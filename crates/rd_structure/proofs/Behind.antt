-- Bytes behind bytes.
use Rattle.std.proofs.Common.{◌≡◌, ℕ, List, ◌++◌, sym, append_assoc}

pub behind : (s a b : List ℕ) → s ++ (a ++ b) ≡ (s ++ a) ++ b
behind s a b = sym (append_assoc s a b)
