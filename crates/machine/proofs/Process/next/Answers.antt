-- `next`: each arm is the access that the step number says.
use Rattle.std.proofs.Common.{◌≡◌, ℕ, suc, ◌+◌, ◌<◌, ◌≤◌, length, refl, ap, ◌∙◌, arith}
use Rattle.cell.specs.Cell.{read_of}
use Rattle.meaning.specs.Shape.{plus, formed}
use Rattle.meaning.specs.Steps.{Process, cell_at, effect, onward, saw_children, at_step}
use Rattle.spots.specs.Spot.{width}
use Rattle.spots.proofs.Laws.{width_is}
use Rattle.spots.proofs.Shapes.{of_write}
use Rattle.spots.proofs.Within.{within_in}
use Rattle.climb.specs.Climb.{SpotAt}
use Rattle.machine.specs.Arrays.{memory_of, process_of}
use Rattle.machine.specs.declared.Process.{Process as Record}
use Rattle.machine.proofs.Known.{lawful, last_three, last_few, addition_past_1}
use Rattle.machine.proofs.Joined.{joined}
use Rattle.machine.proofs.Tried.{adding, can_climb, there_at, look_is, stores_at, on_step}
use Rattle.machine.proofs.Process.next.Goals.{After-spot_of-spot}
use Rattle.machine.proofs.Process.next.Goals as goal

-- the record at step k with those children seen
abbrev sees : ℕ → Record → (ℕ → ℕ) → Process
sees k r seen = record { step = k; operation = r.operation; adds = r.adds; delta = r.delta; seen = r.seen; children = seen }

-- in the arm of the attempts
past_2 : (c : After-spot_of-spot) → 3 ≤ c.args.self.step
past_2 c = omega (arith, c.requires.busy)

spot_there : (c : After-spot_of-spot) → SpotAt c.args.f c.args.p c.args.self.step c.spot_of-spot.result
spot_there c = c.spot_of-spot.ensures c.args.p c.args.self.adds c.requires.known.low c.requires.last

pub node_of-x-requires : goal.node_of-x-requires
node_of-x-requires c = can_climb c.args.f c.args.p c.args.self c.requires (past_2 c) _ (spot_there c)

pub returns-then-i-eq0 : goal.returns-then-i-eq0
returns-then-i-eq0 c =
    let a = c.args in
    let at = (goal.at.returns-then-i-eq0 c).After-spot_of-spot in
    let past = past_2 at in
    let spot = spot_there at in
    c.link.ensures a.f _ (adding a.f a.p a.self c.requires past _ spot)
    (there_at a.f a.p a.self c.requires past _ spot _ c.node_of-x.ensures)
    (omega (arith, c.if-i-eq0.true))

pub returns-then-i-groups : goal.returns-then-i-groups
unfolding process_of memory_of effect onward saw_children at_step cell_at read_of
returns-then-i-groups c =
    let a = c.args in
    let at = (goal.at.returns-then-i-groups c).After-spot_of-spot in
    let past = past_2 at in
    let spot = spot_there at in
    let σ = c.spot_of-spot.result in
    let x = c.node_of-x.result in
    let adds = adding a.f a.p a.self c.requires past _ spot in
    let there = there_at a.f a.p a.self c.requires past _ spot _ c.node_of-x.ensures in
    let inside : σ.position ≤ length ((formed a.f).shape.groups a.f.height x) = omega (arith, c.groups.ensures.is x, c.if-i-groups.true) in
    let room : suc σ.position < width (formed a.f) x = omega (arith, inside, width_is (formed a.f) x) in
    joined
    (look_is a.f a.p a.self x σ adds there _ (omega (arith, c.if-i-eq0.false)) inside c.group_at.ensures)
    (on_step a.f a.p a.self x σ adds there room)
    (record { process = ap (sees (a.self.step + 1) a.self) c.read_group-next.ensures; stored = refl; memory = refl })

pub store-requires : goal.store-requires
store-requires c =
    let a = c.args in
    let at = (goal.at.store-requires c).After-spot_of-spot in
    let past = past_2 at in
    let spot = spot_there at in
    let node = c.node_of-x.ensures in
    let was = adding a.f a.p a.self c.requires past _ spot in
    let place = there_at a.f a.p a.self c.requires past _ spot _ node in
    record {
      known = c.requires.known;
      adds_value = was;
      there = place;
      stores = stores_at a.f a.p a.self _ _ was place _ c.groups.ensures (omega (arith, c.if-i-groups.false));
      x_bound = node.high;
      step_le_highest_step = omega arith;
    }

pub returns-in-2 : goal.returns-in-2
unfolding process_of effect onward at_step plus
returns-in-2 c =
    let a = c.args in
    let can = c.requires in
    let two : a.self.step ≡ 2 = c.in-2.is in
    let adds = addition_past_1 a.f a.p a.self can (omega (arith, two)) in
    joined
    (of_write (formed a.f) a.p (process_of a.self) (lawful a.f can.known) adds two)
    (within_in _ 3 _ (omega (arith, two)) (last_three a.f can.known a.p a.self.adds adds))
    (record {
      process = refl;
      stored = refl;
      memory = c.put_value.ensures ∙ rw c.leaf_of.ensures.is;
    })

pub returns-in_default-2 : goal.returns-in_default-2
returns-in_default-2 c =
    absurd (omega (arith, c.requires.last, last_few c.args.f c.requires.known c.args.p c.args.self.adds))
