-- `put`: setting the bit p sets that digit and no other.
use mathlib.Core.Path.{sym, ap}
use lib.Dec.{eqb}
use Rattle.std.proofs.Common.{w64}
use Rattle.std.proofs.lemmas.Nat.Bits.{bit_at_set_same, bit_at_set_other}
use Rattle.sets.specs.Processes.{is_in}
use Rattle.sets.proofs.Laws.{is_with, with_beyond}
use Rattle.sets.proofs.put.Goals as goal

pub returns-then-p-lt64 : goal.returns-then-p-lt64
unfolding is_in
returns-then-p-lt64 c =
    let h = c.if-p-lt64.true in
    is_with c.args.p _ _ h (ap (λ x. eqb x 1) (bit_at_set_same w64 c.args.set c.args.p h)) (λ q n. ap (λ x. eqb x 1) (bit_at_set_other w64 c.args.set c.args.p h q n))

pub returns-else-p-lt64 : goal.returns-else-p-lt64
returns-else-p-lt64 c = sym (with_beyond _ _ c.if-p-lt64.false)
