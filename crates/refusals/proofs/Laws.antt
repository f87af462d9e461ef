-- Each refusal has a number of its own, and none has 0; so two answers with one number are one.
use Rattle.std.proofs.Common.{◌≡◌, ℕ, ◌≤◌, arith, refl, sym, ap, ◌∙◌}
use Rattle.std.specs.Prelude.{Result, Ok, Err}
use mathlib.Core.Bool.{cond}
use lib.Dec.{eqb}
use Rattle.refusals.specs.Table.{number_of, number_told}
use Rattle.refusals.specs.declared.Refusal.{Refusal}
use Rattle.refusals.specs.declared.Refusal.TheVariants.{TooShort, OtherVersion, FalseLength, TooLong, NoHeight, BrokenRecord, NoProcess, Busy, Idle, Full, NoRoom, NoCut, DrawerTooLong}

pub number_positive : (r : Refusal) → 1 ≤ number_of r
number_positive TooShort = omega arith
number_positive OtherVersion = omega arith
number_positive FalseLength = omega arith
number_positive TooLong = omega arith
number_positive NoHeight = omega arith
number_positive BrokenRecord = omega arith
number_positive NoProcess = omega arith
number_positive Busy = omega arith
number_positive Idle = omega arith
number_positive Full = omega arith
number_positive NoRoom = omega arith
number_positive NoCut = omega arith
number_positive DrawerTooLong = omega arith

-- the refusal of a number
abbrev numbered : ℕ → Refusal
numbered n =
    cond (eqb n 1) TooShort
    (cond (eqb n 2) OtherVersion
    (cond (eqb n 3) FalseLength
    (cond (eqb n 4) TooLong
    (cond (eqb n 5) NoHeight
    (cond (eqb n 6) BrokenRecord
    (cond (eqb n 7) NoProcess
    (cond (eqb n 8) Busy
    (cond (eqb n 9) Idle
    (cond (eqb n 10) Full
    (cond (eqb n 11) NoRoom
    (cond (eqb n 12) NoCut
    DrawerTooLong)))))))))))

back : (r : Refusal) → numbered (number_of r) ≡ r
back TooShort = refl
back OtherVersion = refl
back FalseLength = refl
back TooLong = refl
back NoHeight = refl
back BrokenRecord = refl
back NoProcess = refl
back Busy = refl
back Idle = refl
back Full = refl
back NoRoom = refl
back NoCut = refl
back DrawerTooLong = refl

pub number_one : (a b : Refusal) → number_of a ≡ number_of b → a ≡ b
number_one a b h = sym (back a) ∙ ap numbered h ∙ back b

pub told_one : (a b : Result (Unit {0}) Refusal) → number_told a ≡ number_told b → a ≡ b
told_one (Ok x) (Ok y) e = refl
told_one (Ok x) (Err r) e = absurd (omega (arith, number_positive r, e))
told_one (Err r) (Ok x) e = absurd (omega (arith, number_positive r, e))
told_one (Err r) (Err q) e = ap Err (number_one r q e)
