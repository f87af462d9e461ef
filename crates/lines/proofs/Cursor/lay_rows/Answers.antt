-- `lay_rows`: the lines of the first i rows are laid, each of at most 82 bytes.
use Rattle.std.proofs.Common.{◌≡◌, arith, rules}
use native.Mathlib.Numerals.{add-one}
use Rattle.lines.specs.Text.{row_texts}
use Rattle.laying.proofs.Laid.{lays_none, lays_then, lays_as}
use Rattle.lines.proofs.Cursor.lay_rows.Goals as goal

pub loop-i-init : goal.loop-i-init
unfolding row_texts
loop-i-init c = record { same_buffer = search rules; laid = lays_none _ _; bound = search rules }

pub loop-i-preserved : goal.loop-i-preserved
unfolding row_texts
loop-i-preserved c = record { same_buffer = search rules; laid = lays_as (rw add-one) (lays_then c.loop-i.invariant.laid c.lay_row.ensures.lays); bound = search rules }

pub returns-clause-lays : goal.returns-clause-lays
returns-clause-lays c =
    let all : c.loop-i.i ≡ c.args.m = omega arith in rw all at c.loop-i.invariant.laid
