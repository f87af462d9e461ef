-- `read_row`: each turn stores the next count of the row.
use Rattle.std.proofs.Common.{◌≡◌, ◌∙◌, ℕ, ◌-◌, [], length, get_or, take, drop, List, rules, arith}
use Rattle.std.proofs.lemmas.List.{length-take-le, length-drop}
use Rattle.arrays.specs.Arrays.{as_fun}
use Rattle.counts.proofs.Filled.{part_at, row_stored}
use Rattle.counts.proofs.read_row.Goals as goal

pub returns-clause-read : goal.returns-clause-read
unfolding as_fun
returns-clause-read c =
    let a = c.args in
    let row : List ℕ = get_or a.read.now a.p [] in
    let sized : length row ≡ 64 = search rules in
    let whole : length (take (a.hi - a.lo) (drop a.lo row)) ≡ a.hi - a.lo = length-take-le _ _ (omega (arith, length-drop a.lo row, c.requires.hi_bound)) in
    row_stored a.lo a.hi a.p (as_fun a.row.now) a.read.now c.loop-i.x-items c.requires.p_bound c.requires.lo_bound (omega arith) (omega arith)
    (λ i h. c.loop-i.invariant i (omega arith) ∙ part_at a.lo _ a.row.now i h)
