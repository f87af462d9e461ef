-- `report` meets its contract: the header's refusal with the buffer as it was, or the report with a row of read counts for each process.
use native.Mathlib.Omega.{arith}
use mathlib.Core.Path.{refl, sym}
use Rattle.std.proofs.lemmas.Result.{err_from_is_err_and}
use Rattle.refusals.proofs.Laws.{number_positive}
use lib.Pow.{pow_mono}
use Rattle.meaning.specs.Layout.{height}
use Rattle.meaning.specs.Report.{answer_with, buffer_with}
use Rattle.history.proofs.Passing.{header_passes}
use Rattle.entries.specs.Promises.{answer_of}
use Rattle.engine.proofs.Whole.{head_refused}
use Rattle.entries.proofs.Answers.{reports}
use Rattle.entries.proofs.report.Goals as goal

pub returns-in_err-header : goal.returns-in_err-header
unfolding answer_with buffer_with answer_of
returns-in_err-header c =
    let e = err_from_is_err_and c.from_residual.result c.from_residual.ensures.1 in
    let refusal = c.in_err-header.field-0.0 in
    rw (e.1, e.2) (record {
      reports = reports _ _ _ _ _ (head_refused _ _ c.in_err-header.ensures (λ z. omega (arith, number_positive refusal))) refl refl;
      within = omega arith;
    })

pub bounds-s-5 : goal.bounds-s-5
bounds-s-5 c =
    (header_passes _ _ (sym c.in_ok-header.ensures)).enough

pub report_with-requires : goal.report_with-requires
unfolding height
report_with-requires c =
    ((sym c.in_ok-header.ensures), pow_mono {j = 3} c.if-s-le3.true, omega arith)

pub report_with-requires-then-s-le5 : goal.report_with-requires-then-s-le5
unfolding height
report_with-requires-then-s-le5 c =
    ((sym c.in_ok-header.ensures), pow_mono {j = 5} c.if-s-le5.true, omega arith)

pub report_with-requires-else-s-le5 : goal.report_with-requires-else-s-le5
unfolding height
report_with-requires-else-s-le5 c =
    ((sym c.in_ok-header.ensures), pow_mono {j = 6} (header_passes _ _ (sym c.in_ok-header.ensures)).low, omega arith)
