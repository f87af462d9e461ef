-- `print` meets its contract: the refusal, or the report, by what `report` promises of its answer and its buffer.
use native.Mathlib.Omega.{arith}
use Prim.Native.Nat.{ℕ}
use lib.ListN.{length-replicate}
use borrow.Author.Rules.{rules}
use mathlib.Core.Path.{refl}
use Rattle.refusals.proofs.Laws.{number_positive}
use Rattle.entries.specs.Promises.{answer_of}
use Rattle.meaning.specs.Report.{passes}
use Rattle.printing.proofs.Shown.{refusal_printed, report_printed, prints}
use Rattle.printing.proofs.print.Goals as goal

pub returns-in-Err : goal.returns-in-Err
unfolding answer_of
returns-in-Err c =
    let shown = refusal_printed c.args.rec.now _ _ _ _ c.taken_in.ensures (length-replicate {A = ℕ} 20489 0) c.in-Err.ensures.reports (λ e. omega (arith, number_positive c.in-Err.r.refusal)) in
    prints _ _ _ _ shown c.told-out (omega arith) (rw c.number.ensures at c.lay_refusal.ensures.lays)

pub lay_report-requires : goal.lay_report-requires
unfolding answer_of passes
lay_report-requires c =
    let shown = report_printed c.args.rec.now _ _ _ _ c.taken_in.ensures (length-replicate {A = ℕ} 20489 0) c.in-Ok.ensures.reports refl in record { room = record { long = search rules; enough = omega arith }; row_length_bound = shown.0 }

pub returns-in-Ok : goal.returns-in-Ok
unfolding answer_of passes
returns-in-Ok c =
    let shown = report_printed c.args.rec.now _ _ _ _ c.taken_in.ensures (length-replicate {A = ℕ} 20489 0) c.in-Ok.ensures.reports refl in
    prints _ _ _ _ shown.1 c.told-out (omega arith) c.lay_report.ensures.lays
