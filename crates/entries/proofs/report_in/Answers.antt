-- `report_in` meets its contract: each way out, by how the run ends, with the buffer as it was or the report laid at its front.
use mathlib.Core.Path.{refl, sym, ◌∙◌}
use Rattle.std.proofs.lemmas.Result.{err_from_is_err_and}
use Rattle.history.proofs.Passing.{header_passes}
use Rattle.engine.proofs.Whole.{known_told, same_told, head_told, room_of_told}
use Rattle.entries.proofs.Answers.{report_refused, report_short, report_laid, few_of_ends, bytes_of_ends, within_of_ends}
use native.Mathlib.Omega.{arith}
use Rattle.placing.specs.Placing.{kept_of}
use Rattle.keeping.specs.Keeping.{lent_to}
use Rattle.entries.specs.Promises.{answer_of}
use lib.ListN.{length, length-take}
use Prim.Native.Nat.{◌≤◌}
use Rattle.rows.proofs.Front.{front_report}
use Rattle.entries.proofs.report_in.Goals.{In_ok-e}
use Rattle.entries.proofs.report_in.Goals as goal

pub form_of-requires : goal.form_of-requires
form_of-requires c = (header_passes _ _ c.requires.0).enough

pub run-requires : goal.run-requires
unfolding lent_to
run-requires c =
    let pre = c.requires in
    let w = header_passes _ _ pre.0 in
    let told = c.form_of.ensures in
    (known_told _ w _ told, w.enough, w.short, λ a. (room_of_told _ _ _ told pre.1, omega arith))

pub returns-in_err-e : goal.returns-in_err-e
returns-in_err-e c =
    let p = err_from_is_err_and c.from_residual.result c.from_residual.ensures.1 in
    rw (p.1, p.2) (record {
      reports = report_refused _ _ _ _ _ (same_told _ _ c.form_of.ensures) _ (head_told _ _ _ (sym c.requires.0) refl c.form_of.ensures) c.in_err-e.ensures.ends;
      within = within_of_ends c.in_err-e.ensures.ends;
    })

pub returns-then-out-needed-clause-reports : goal.returns-then-out-needed-clause-reports
unfolding answer_of
returns-then-out-needed-clause-reports c =
    report_short _ _ _ _ _ (same_told _ _ c.form_of.ensures) _ (head_told _ _ _ (sym c.requires.0) refl c.form_of.ensures) c.in_ok-e.ensures.ends (omega (arith, c.if-out-needed.true))

pub returns-then-out-needed-clause-within : goal.returns-then-out-needed-clause-within
returns-then-out-needed-clause-within c =
    omega (arith, few_of_ends c.in_ok-e.ensures.ends)

-- there are as many rows as operations
rows_fit : (c : In_ok-e) → c.in_ok-e.e.operations ≤ length c.run.new.kept.rows.now
rows_fit c =
    let room = c.requires.1 in
    let few = few_of_ends c.in_ok-e.ensures.ends in
    omega (arith, c.in_ok-e.ensures.same.of_rows, room.enough.rows_fit, room.operations _ few (bytes_of_ends c.in_ok-e.ensures.ends))

pub slice_bounds-lay_report-end : goal.slice_bounds-lay_report-end
slice_bounds-lay_report-end c = simp length-take (omega (arith, rows_fit (goal.at.slice_bounds-lay_report-end c).In_ok-e))

pub lay_report-requires : goal.lay_report-requires
lay_report-requires c =
    (simp length-take (omega (arith, few_of_ends c.in_ok-e.ensures.ends)), simp length-take (omega (arith, c.if-out-needed.false)))

pub returns-clause-reports : goal.returns-clause-reports
unfolding answer_of kept_of
returns-clause-reports c =
    report_laid _ _ _ _ _ (same_told _ _ c.form_of.ensures) _ _ (head_told _ _ _ (sym c.requires.0) refl c.form_of.ensures) c.in_ok-e.ensures.ends (omega (arith, c.if-out-needed.false))
    (c.lay_report.ensures ∙ front_report _ _ _ _ _ (omega (arith, rows_fit (goal.at.returns-clause-reports c).In_ok-e)) (omega arith))
