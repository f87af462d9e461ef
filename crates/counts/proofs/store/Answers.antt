-- `store`: each turn stores the greater of the next two counts.
use Rattle.std.proofs.Common.{◌≡◌, ◌∙◌, ℕ, ◌-◌, [], max, length, get_or, take, drop, ap₂, List, rules, arith}
use Rattle.std.proofs.lemmas.List.{length-take-le, length-drop}
use Rattle.arrays.specs.Arrays.{as_rows, as_fun}
use Rattle.counts.proofs.Filled.{part_at, row_stored}
use Rattle.counts.proofs.store.Goals as goal

pub returns : goal.returns
unfolding as_rows as_fun
returns c =
    let a = c.args in
    let row : List ℕ = get_or a.counts a.l [] in
    let part : List ℕ = take (a.hi - a.lo) (drop a.lo row) in
    let sized : length row ≡ 64 = search rules in
    let whole : length part ≡ a.hi - a.lo = length-take-le _ _ (omega (arith, length-drop a.lo row)) in
    row_stored a.lo a.hi a.l (λ q. max (as_rows a.counts a.l q) (as_rows a.read.now a.p q)) a.counts c.loop-i.x-items (search rules) (search rules) (omega arith) (omega arith)
    (λ i h. c.loop-i.invariant.done i (omega arith) ∙ ap₂ max (part_at a.lo _ row i h) (part_at a.lo _ (get_or a.read.now a.p []) i h))
