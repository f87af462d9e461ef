-- `has`: below 64 the test is `is_in` itself, and from 64 on a u64 has no digit.
use mathlib.Core.Path.{ap}
use lib.Dec.{eqb}
use borrow.Author.Tests.{le-ltb}
use Rattle.std.proofs.lemmas.Nat.Bits.{shr_and_one}
use Rattle.sets.specs.Processes.{is_in}
use Rattle.sets.proofs.Laws.{is_in_beyond}
use Rattle.sets.proofs.has.Goals as goal

pub returns-then-p-lt64 : goal.returns-then-p-lt64
unfolding is_in
returns-then-p-lt64 c = ap (λ x. eqb x 1) (shr_and_one c.args.set c.args.p)

pub returns-else-p-lt64 : goal.returns-else-p-lt64
returns-else-p-lt64 c =
    let none = is_in_beyond _ _ c.ranges.set.fits c.if-p-lt64.false in
    let past = le-ltb _ 64 c.if-p-lt64.false in
    cc
