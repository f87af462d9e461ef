-- `store`: the cell that `sc` gives is stored, its answer kept, and `after` says where the process goes on.
use Rattle.std.proofs.Common.{◌≡◌, ℕ, ◌+◌, sym, ap, ◌∙◌, ap₂}
use Rattle.cell.specs.Cell.{State, succeeds, store_conditional}
use Rattle.meaning.specs.Shape.{plus, formed}
use Rattle.meaning.specs.Steps.{cell_at, with_cell, effect, passes_by, within, at_step}
use Rattle.spots.specs.Spot.{attempt_at}
use Rattle.spots.proofs.Laws.{last_addition}
use Rattle.climb.specs.Climb.{spot_is}
use Rattle.machine.specs.Arrays.{memory_of, seen_by, process_of}
use Rattle.machine.specs.Tries.{leads}
use Rattle.machine.proofs.Known.{lawful}
use Rattle.machine.proofs.Joined.{joined}
use Rattle.machine.proofs.Tried.{store_is}
use Rattle.machine.proofs.Process.store.Goals as goal

pub after-requires : goal.after-requires
unfolding spot_is
after-requires c =
    let pre = c.requires in
    record { shape_le_highest_shape = pre.known.shape; s_le_highest_step = pre.step_le_highest_step; level_lt_height = pre.there.at.level }

pub returns : goal.returns
unfolding effect plus seen_by process_of at_step
returns c =
    let did = c.sc-ok in
    let was = c.cell-cell.ensures in
    let a = c.args in
    let r = a.self in
    let F = formed a.f in
    let known = c.requires.known in
    let adds = c.requires.adds_value in
    let there = c.requires.there in
    let sc = c.requires.stores in
    let m = memory_of a.memory.now in
    let joint = sym ((lawful a.f known).sums a.f.height a.x (seen_by r.children)) in
    let ok : did.result ≡ succeeds a.p (cell_at m a.x) = did.ensures.ok ∙ ap (succeeds a.p) was in
    let cell = did.ensures.cell ∙ ap₂ (λ (u : ℕ) (q : State). store_conditional u a.p q) joint was in
    let to = c.after.ensures a.p a.x there sc ∙ ap (leads a.f a.p r.step a.x a.spot) ok in
    joined
    (store_is a.f a.p r a.x a.spot adds there sc)
    (ap (within (r.step + passes_by F (attempt_at a.spot.second) a.x (succeeds a.p (cell_at m a.x)))) (last_addition F a.p r.adds adds))
    (record {
      process = ap (λ (k : ℕ). at_step k (process_of r)) to;
      stored = ok;
      memory = c.put_cell.ensures ∙ ap (with_cell _ _) cell;
    })
