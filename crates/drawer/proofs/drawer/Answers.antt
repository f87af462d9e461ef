-- `drawer` meets its contract: each refusal of the whole, and what the last pass lays.
use Rattle.std.proofs.Common.{ap, arith}
use Rattle.std.proofs.lemmas.Result.{err_from_is_err_and}
use Rattle.refusals.specs.Table.{number_of}
use Rattle.drawer.proofs.Answers.{length_marks, too_long_lem, not_cut, no_room, no_room_marks, all_laid}
use Rattle.entries.specs.Promises.{answer_of}
use Rattle.drawer.proofs.drawer.Goals as goal

pub returns-then-s-gt16777216-clause-draws : goal.returns-then-s-gt16777216-clause-draws
unfolding answer_of
returns-then-s-gt16777216-clause-draws c =
    rw c.from.ensures (too_long_lem _ _ _ (omega (arith, c.if-s-gt16777216.true)))

pub measure-need-requires : goal.measure-need-requires
measure-need-requires c =
    (omega (arith, c.if-s-gt16777216.false), c.in_ok-pieces.ensures)

pub returns-then-out-need-clause-draws : goal.returns-then-out-need-clause-draws
unfolding answer_of
returns-then-out-need-clause-draws c =
    no_room _ _ _ (omega (arith, c.if-s-gt16777216.false)) c.in_ok-pieces.ensures.parts c.in_ok-pieces.ensures.cut _ c.measure-need.ensures (omega (arith, c.if-out-need.true))

pub overflow_mul-pieces : goal.overflow_mul-pieces
overflow_mul-pieces c =
    omega (arith, c.in_ok-pieces.ensures.few, c.if-s-gt16777216.false)

pub overflow_mul-result : goal.overflow_mul-result
overflow_mul-result c =
    omega (arith, c.in_ok-pieces.ensures.few, c.if-s-gt16777216.false)

pub returns-then-marks-pieces-clause-draws : goal.returns-then-marks-pieces-clause-draws
unfolding answer_of
returns-then-marks-pieces-clause-draws c =
    let w = c.in_ok-pieces.ensures in no_room_marks _ _ _ (omega (arith, c.if-s-gt16777216.false)) w.parts w.cut (c.measure-need.ensures.fits w.parts w.cut (omega (arith, c.if-out-need.false))) _ w.number (omega (arith, c.if-marks-pieces.true))

pub lay_all-requires : goal.lay_all-requires
lay_all-requires c =
    let w = c.in_ok-pieces.ensures in record { parts = w.parts; cut = w.cut; for_reports = c.measure-need.ensures.fits w.parts w.cut (omega (arith, c.if-out-need.false)); for_marks = omega (arith, length_marks w.parts, w.number, c.if-marks-pieces.false); short = omega (arith, c.if-s-gt16777216.false) }

pub returns-in_err-pieces-clause-draws : goal.returns-in_err-pieces-clause-draws
unfolding answer_of
returns-in_err-pieces-clause-draws c =
    let p = err_from_is_err_and c.from_residual.result c.from_residual.ensures.1 in
    rw (p.1, p.2) (not_cut _ _ _ (omega (arith, c.if-s-gt16777216.false)) _ _ (ap number_of c.in_err-pieces.ensures.0) c.in_err-pieces.ensures.1)

pub returns-clause-draws : goal.returns-clause-draws
unfolding answer_of
returns-clause-draws c =
    let w = c.in_ok-pieces.ensures in all_laid _ _ _ (omega (arith, c.if-s-gt16777216.false)) w.parts w.cut (c.measure-need.ensures.fits w.parts w.cut (omega (arith, c.if-out-need.false))) _ _ (omega (arith, length_marks w.parts, w.number, c.if-marks-pieces.false)) c.lay_all.ensures
