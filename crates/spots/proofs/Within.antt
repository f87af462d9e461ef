-- Where a step number stands against the end of the list.
use Prim.Native.Nat.{ℕ, ◌≤◌, ◌<◌}
use native.Mathlib.Omega.{arith}
use mathlib.Core.Path.{◌≡◌, refl}
use mathlib.Core.Bool.{Bool, true, false, cond}
use borrow.Author.Tests.{ltb-false, lt-ltb, le-ltb}
use lib.Dec.{ltb}
use Rattle.meaning.specs.Steps.{within}

pub within_in : (n k last : ℕ) → n ≡ k → k ≤ last → within n last ≡ k
unfolding within
within_in n k last e b = rw (le-ltb last n (omega arith)) e

pub within_end : (n last : ℕ) → last < n → within n last ≡ 0
unfolding within
within_end n last b = rw (lt-ltb last n b)

pub within_le : (n last : ℕ) → within n last ≤ last
unfolding within
within_le n last = go (ltb last n) refl
  where
    go : (t : Bool) → ltb last n ≡ t → cond t 0 n ≤ last
    go true e = omega arith
    go false e = ltb-false last n e
