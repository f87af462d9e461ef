-- `cut`: clearing the bit p clears that digit and no other; a u64 has no digit from 64 on.
use mathlib.Core.Path.{refl, sym, ap, ◌∙◌}
use native.Mathlib.Omega.{arith}
use lib.Dec.{eqb}
use mathlib.Core.Logic.{⊎_elim}
use Rattle.std.proofs.Common.{w64, bit_and, ◌-◌, ◌*◌, ◌%◌, ◌<◌}
use Prim.Native.Nat.{◌^◌}
use Rattle.std.proofs.lemmas.Bool.{cases_lt}
use Rattle.std.proofs.lemmas.Nat.{and_le_l}
use Rattle.std.proofs.lemmas.Nat.Bits.{bit_at_clear_same, bit_at_clear_other}
use Rattle.sets.specs.Processes.{is_in}
use Rattle.sets.proofs.Laws.{is_in_beyond, is_without}
use Rattle.sets.proofs.cut.Goals as goal

pub returns-then-p-lt64 : goal.returns-then-p-lt64
unfolding is_in
returns-then-p-lt64 c =
    let s = c.args.set in
    let p = c.args.p in
    let h = c.if-p-lt64.true in
    let fits = c.ranges.set.fits in
    let t = bit_and s (2 ^ 64 - 1 - 1 * 2 ^ p % 2 ^ 64) in
    let below : t < 2 ^ 64 = omega (arith, fits, and_le_l s (2 ^ 64 - 1 - 1 * 2 ^ p % 2 ^ 64)) in
    is_without p (is_in s) (is_in t) (ap (λ x. eqb x 1) (bit_at_clear_same w64 s p h))
    (λ q n. ⊎_elim (λ l. ap (λ x. eqb x 1) (bit_at_clear_other w64 s p h q l n)) (λ l. is_in_beyond t q below l ∙ sym (is_in_beyond s q fits l)) (cases_lt q 64))

pub returns-else-p-lt64 : goal.returns-else-p-lt64
returns-else-p-lt64 c = is_without c.args.p _ _ (is_in_beyond _ _ c.ranges.set.fits c.if-p-lt64.false) (λ q n. refl)
