-- `close`. The loop's invariant: the rows before the turn's are closed.
use Prim.Native.Nat.{◌/◌, ◌%◌, ◌^◌, ◌<◌}
use mathlib.Core.Path.{◌≡◌, ap}
use native.Mathlib.Omega.{arith}
use lib.ListN.{length, get_or}
use lib.Seq.{set-get_or}
use Rattle.arrays.specs.Arrays.{as_fun}
use Rattle.arrays.specs.Numbers.{row_from, no_row, numbers_of}
use Rattle.arrays.proofs.Rows.{headed_row}
use Rattle.rows.specs.Rows.{process_by}
use Rattle.rows.proofs.Laws.{closed_none}
use Rattle.rows.proofs.Stores.{first_number, finished_stays, unfinished_stored}
use Rattle.rows.proofs.close.Goals as goal
use Rattle.rows.proofs.close.Goals.{After-to_be_bytes, then-finished-eq0, else-finished-eq0}

pub loop-row-init : goal.loop-row-init
loop-row-init c = closed_none _ _

-- the row of this turn, with the first number that it had
in_rows : (c : After-to_be_bytes) → c.loop-row.row-index < length c.args.rows.now
in_rows c = omega arith

head_now : (c : After-to_be_bytes) → (get_or c.loop-row.row-items c.loop-row.row-index no_row).head ≡ numbers_of c.args.rows.now (row_from c.loop-row.row-index)
head_now c = first_number _ _ _ _ c.loop-row.invariant

-- its process and its mark by its bytes
process_now : (c : After-to_be_bytes) → get_or c.to_be_bytes.result 0 0 ≡ process_by (get_or c.loop-row.row-items c.loop-row.row-index no_row).head
unfolding process_by no_row
process_now c = omega (arith, ap (λ xs. get_or xs 0 0) c.to_be_bytes.ensures, head_now c, c.requires.head c.loop-row.row-index (in_rows c))

mark_now : (c : After-to_be_bytes) → get_or c.to_be_bytes.result 2 0 ≡ (get_or c.loop-row.row-items c.loop-row.row-index no_row).head / 2 ^ 8 % 2 ^ 8
unfolding no_row
mark_now c = ap (λ xs. get_or xs 2 0) c.to_be_bytes.ensures

pub bounds-greatest-process : goal.bounds-greatest-process
bounds-greatest-process c =
    let d = (goal.at.bounds-greatest-process c).After-to_be_bytes in
    rw (process_now d, head_now d) (c.requires.process c.loop-row.row-index (in_rows d))

pub overflow_add-row : goal.overflow_add-row
unfolding no_row
overflow_add-row c =
    let d = (goal.at.overflow_add-row c).After-to_be_bytes in
    omega (arith, head_now d, c.requires.head c.loop-row.row-index (in_rows d), c.type_inv.greatest (get_or c.to_be_bytes.result 0 0))

pub loop-row-preserved : goal.loop-row-preserved
unfolding no_row as_fun headed_row
loop-row-preserved c =
    let d = (goal.at.loop-row-preserved c).After-to_be_bytes in
    let loop = c.loop-row in
    elim c.if-finished-eq0.branch [
      | then-finished-eq0 w ↦ rw w.row-items-is (unfinished_stored _ _ _ _ loop.invariant _ (omega arith) (omega (arith, mark_now d, w.if-finished-eq0.true)) (process_now d))
      | else-finished-eq0 w ↦ rw (w.row-items-is, set-get_or) (finished_stays _ _ _ _ loop.invariant (λ e. w.if-finished-eq0.false (omega (arith, mark_now d, e))))
    ]

pub returns : goal.returns
returns c =
    let loop = c.loop-row in
    let all : loop.row-index ≡ length c.args.rows.now = omega arith in
    rw all at loop.invariant
