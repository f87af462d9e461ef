-- `link`: the cell that `ll` gives is stored, and the step number goes on by one.
use Rattle.std.proofs.Common.{suc, ◌<◌, refl, ap, ◌∙◌, arith}
use Rattle.cell.specs.Cell.{load_linked}
use Rattle.meaning.specs.Shape.{formed}
use Rattle.meaning.specs.Steps.{with_cell, effect, onward, at_step}
use Rattle.spots.specs.Spot.{width}
use Rattle.spots.proofs.Laws.{width_is}
use Rattle.machine.specs.Arrays.{process_of}
use Rattle.machine.proofs.Joined.{joined}
use Rattle.machine.proofs.Tried.{link_is, on_step}
use Rattle.machine.proofs.Process.link.Goals as goal

pub returns : goal.returns
unfolding process_of effect onward at_step
returns c f σ adds there first =
    let a = c.args in
    let cell = c.ll.ensures.cell ∙ ap (load_linked _) c.cell-cell.ensures in
    let room : suc σ.position < width (formed f) a.x = omega (arith, first, width_is (formed f) a.x) in
    joined
    (link_is f a.p a.self a.x σ adds there first)
    (on_step f a.p a.self a.x σ adds there room)
    (record {
      process = refl;
      stored = refl;
      memory = c.put_cell.ensures ∙ ap (with_cell _ _) cell;
    })
