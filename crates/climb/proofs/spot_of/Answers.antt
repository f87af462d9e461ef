-- `spot_of`: every attempt has four steps, so quotient and remainders of the place in the climb are what the walk gives.
use Prim.Native.Nat.{ℕ, ◌+◌, ◌-◌, ◌/◌, ◌%◌, ◌≤◌}
use mathlib.Core.Path.{◌≡◌, refl, sym}
use mathlib.Core.Bool.{Bool, true, false, cond}
use native.Mathlib.Omega.{arith}
use borrow.Author.Tests.{leb-true, leb-false}
use lib.Dec.{leb}
use Rattle.meaning.specs.Shape.{formed, highest_shape}
use Rattle.recording.specs.declared.Form.{Form as Told}
use Rattle.spots.specs.Spot.{At, last_step}
use Rattle.spots.proofs.Laws.{spot_at, spot_early}
use Rattle.spots.proofs.Shapes.{opened_two, even_at, even_last, taken_lawful, taken_even}
use Rattle.climb.specs.Climb.{spot_is, nowhere}
use Rattle.climb.proofs.spot_of.Goals as goal

-- a place of 4 to 7 in its eight is in the second attempt
half : (n : ℕ) → n % 8 ≡ cond (leb 4 (n % 8)) 4 0 + n % 4
half n = go (leb 4 (n % 8)) refl
  where
    go : (t : Bool) → leb 4 (n % 8) ≡ t → n % 8 ≡ cond t 4 0 + n % 4
    go true e = omega (arith, leb-true 4 (n % 8) e)
    go false e = omega (arith, leb-false 4 (n % 8) e)

-- a step from 3 on is an addition's
climbs : (f : Told) (p s : ℕ) (adds : Bool) (l i : ℕ) → f.shape ≤ highest_shape → 3 ≤ s → s ≤ last_step (formed f) p adds → l ≡ (s - 3) / 8 → i ≡ (s - 3) % 4
    → At (formed f) p s (record { level = l; second = leb 4 ((s - 3) % 8); position = i })
climbs f p s adds l i shape past last level position =
    let lawful = taken_lawful f.shape shape in
    let even = taken_even (formed f) f.shape shape refl in
    even_at (formed f) 4 p s l i (leb 4 ((s - 3) % 8)) lawful even
    (omega (arith, past, last, even_last (formed f) 4 p adds lawful even, level))
    (omega (arith, position))
    (omega (arith, past, half (s - 3), level, position))

pub returns-then-s-lt3 : goal.returns-then-s-lt3
unfolding spot_is nowhere
returns-then-s-lt3 c p adds low last =
    let a = c.args in
    let F = formed a.f in
    let early = spot_early F p a.s low (omega (arith, c.if-s-lt3.true, opened_two F p (taken_lawful a.f.shape c.requires))) in
    rw c.start.ensures (record { is = sym early; level = low })

pub returns : goal.returns
unfolding spot_is
returns c p adds low last =
    let a = c.args in
    let past : 3 ≤ a.s = omega (arith, c.if-s-lt3.false) in
    record {
      is = sym (spot_at (formed a.f) p a.s _ (climbs a.f p a.s adds _ _ c.requires past last (omega arith) (omega arith)));
      level = omega (arith, (climbs a.f p a.s adds ((a.s - 3) / 8) ((a.s - 3) % 4) c.requires past last refl refl).level);
    }
