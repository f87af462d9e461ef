-- `lay_piece` meets its contract: the buffer as it was, or the report laid at the front of what is lent of it.
use native.Mathlib.Omega.{arith}
use Prim.Native.Nat.{◌≤◌}
use mathlib.Core.Path.{◌∙◌}
use lib.ListN.{length, length-take, length-drop}
use Rattle.rows.proofs.Front.{front_report}
use Rattle.std.proofs.lemmas.Result.{err_from_is_err_and}
use Rattle.placing.specs.Placing.{kept_of}
use Rattle.keeping.specs.Keeping.{lent_to}
use Rattle.entries.proofs.Answers.{few_of_ends}
use Rattle.drawer.proofs.Alone.{accepted_of_ends, piece_refused, piece_laid}
use Rattle.drawer.proofs.lay_piece.Goals.{In_ok-a}
use Rattle.drawer.proofs.lay_piece.Goals as goal

pub returns-in_err-a-clause-lays : goal.returns-in_err-a-clause-lays
returns-in_err-a-clause-lays c =
    let p = err_from_is_err_and c.from_residual.result c.from_residual.ensures.1 in rw (p.1, p.2) (piece_refused _ _ _ _ c.in_err-a.ensures.ends)

-- there are as many rows as operations
rows_fit : (c : In_ok-a) → c.in_ok-a.a.operations ≤ length c.alone.new.kept.rows.now
unfolding lent_to
rows_fit c =
    let room = c.requires.0 in
    omega (arith, few_of_ends c.in_ok-a.ensures.ends, c.in_ok-a.ensures.same.of_rows, room.enough.rows_fit, room.operations)

pub slice_bounds-lay_report-end-2 : goal.slice_bounds-lay_report-end-2
slice_bounds-lay_report-end-2 c = simp length-take (omega (arith, rows_fit (goal.at.slice_bounds-lay_report-end-2 c).In_ok-a))

pub lay_report-requires : goal.lay_report-requires
lay_report-requires c =
    let ends = c.in_ok-a.ensures.ends in
    (simp length-take (omega (arith, few_of_ends ends)), simp (length-take, length-drop) (omega (arith, c.requires.1, accepted_of_ends _ _ ends)))

pub returns-clause-lays : goal.returns-clause-lays
unfolding kept_of
returns-clause-lays c =
    piece_laid _ _ _ _ _ c.in_ok-a.ensures.ends c.requires.1 (c.lay_report.ensures ∙ front_report _ _ _ _ _ (omega (arith, rows_fit (goal.at.returns-clause-lays c).In_ok-a)) (omega arith))
