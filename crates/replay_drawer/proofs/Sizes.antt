-- What the tests of a drawer's size and of a piece's tell.
use Prim.Native.Nat.{ℕ, ◌≤◌}
use native.Mathlib.Omega.{arith}
use mathlib.Core.Path.{◌≡◌, refl, sym}
use mathlib.Core.Bool.{Bool, true, false, cond, true≢false}
use mathlib.Core.List.{List}
use lib.IntN.{ℤ, pos, negsuc, nat_abs}
use lib.Signed.{lt_z}
use lib.Dec.{ltb}
use borrow.Author.Tests.{ltb-true, ltb-false}
use Rattle.std.specs.Prelude.{Ok, Err, None, Some}
use Rattle.meaning.specs.Drawer.{longest_drawer, size_at}
use Rattle.replay_drawer.specs.Sized.{size_by}
use Rattle.replay_drawer.specs.declared.NoSize.TheVariants.{Long, Unknown}

pub below : (z : ℤ) → lt_z z (pos 0) ≡ true → Err Unknown ≡ size_by z
unfolding size_by
below (negsuc k) e = refl
below (pos n) e = absurd (omega (arith, ltb-true n 0 e))

pub above : (z : ℤ) → lt_z (pos 16777216) z ≡ true → Err Long ≡ size_by z
unfolding size_by longest_drawer
above (pos n) e = rw e
above (negsuc k) e = absurd (true≢false (sym e))

pub within : (z : ℤ) → lt_z z (pos 0) ≡ false → lt_z (pos 16777216) z ≡ false → Ok (nat_abs z) ≡ size_by z
unfolding size_by longest_drawer
within (pos n) p e = rw e
within (negsuc k) p e = absurd (true≢false p)

of_small : (t : Bool) (m n : ℕ) → ltb 16777216 m ≡ t → Ok n ≡ cond t (Err Long) (Ok m) → n ≤ 16777216
of_small true m n e p = let z : ◌≡◌ {A = ℕ} 0 1 = cc in omega arith
of_small false m n e p = let same : n ≡ m = cc in omega (arith, ltb-false 16777216 m e)

pub sized_small : (z : ℤ) (n : ℕ) → Ok n ≡ size_by z → n ≤ 16777216
unfolding size_by longest_drawer
sized_small (pos m) n p = of_small (ltb 16777216 m) m n refl p
sized_small (negsuc k) n p = let z : ◌≡◌ {A = ℕ} 0 1 = cc in omega arith

-- a piece that is cut has five bytes at least, and no more than are left
pub piece_inside : (s : List ℕ) (left piece : ℕ) → Some piece ≡ cond (ltb left (size_at s 0)) None (Some (size_at s 0)) → (5 ≤ piece) × (piece ≤ left)
unfolding size_at
piece_inside s left piece e = go (ltb left (size_at s 0)) refl e
  where
    go : (t : Bool) → ltb left (size_at s 0) ≡ t → Some piece ≡ cond t None (Some (size_at s 0)) → (5 ≤ piece) × (piece ≤ left)
    go true d w = let z : ◌≡◌ {A = ℕ} 0 1 = cc in absurd (omega arith)
    go false d w = let same : piece ≡ size_at s 0 = cc in (omega arith, omega (arith, ltb-false left (size_at s 0) d))
