-- The forms that are known: their shapes are lawful, and how long their operations are.
use Rattle.std.proofs.Common.{◌≡◌, ℕ, ◌≤◌, Bool, true, false, refl, arith}
use Rattle.recording.specs.declared.Form.{Form as Told}
use Rattle.meaning.specs.Shape.{formed}
use Rattle.spots.specs.Spot.{last_step}
use Rattle.spots.specs.Lawful.{Lawful}
use Rattle.spots.proofs.Laws.{last_addition, last_read}
use Rattle.spots.proofs.Shapes.{Even, even_long, even_last, taken_lawful, taken_even}
use Rattle.climb.specs.Climb.{Known}
use Rattle.machine.specs.Nexts.{highest_step, CanStep}
use Rattle.machine.specs.declared.Process.{Process as Record}

module _ (f : Told) (known : Known f) where
  pub lawful : Lawful (formed f).shape
  lawful = taken_lawful f.shape known.shape

  even : Even (formed f) 4
  even = taken_even (formed f) f.shape known.shape refl

  pub last_three : (p : ℕ) (adds : Bool) → adds ≡ true → 3 ≤ last_step (formed f) p adds
  last_three p adds e = omega (arith, last_addition (formed f) p adds e, even_long (formed f) 4 p lawful even, known.low)

  pub last_few : (p : ℕ) (adds : Bool) → last_step (formed f) p adds ≤ highest_step
  last_few p adds = omega (arith, even_last (formed f) 4 p adds lawful even, known.high)

-- ---- what comes after step 1

pub addition_past_1 : (f : Told) (p : ℕ) (r : Record) → CanStep f p r → 2 ≤ r.step → r.adds ≡ true
addition_past_1 f p r can past = go r.adds refl
  where
    go : (t : Bool) → r.adds ≡ t → t ≡ true
    go true e = refl
    go false e = absurd (omega (arith, last_read (formed f) p r.adds e, can.last, past))
