-- `read`: step 1 is the first of its operation's list, the leaf's read or the root's.
use Rattle.std.proofs.Common.{refl, arith}
use Rattle.cell.specs.Cell.{read_of}
use Rattle.meaning.specs.Tree.{root}
use Rattle.meaning.specs.Shape.{formed}
use Rattle.meaning.specs.Steps.{cell_at, effect, onward, saw_it, at_step}
use Rattle.spots.proofs.Shapes.{of_leaf}
use Rattle.spots.proofs.Laws.{last_read, of_read_lem}
use Rattle.spots.proofs.Within.{within_in, within_end}
use Rattle.arrays.specs.Arrays.{as_fun}
use Rattle.machine.specs.Arrays.{memory_of, process_of}
use Rattle.machine.proofs.Known.{lawful, last_three}
use Rattle.machine.proofs.Joined.{joined}
use Rattle.machine.proofs.Process.read.Goals as goal

pub returns-then-self : goal.returns-then-self
unfolding process_of memory_of as_fun effect onward saw_it at_step
returns-then-self c =
    let a = c.args in
    let can = c.requires.can_step in
    let adds = c.if-self.true in
    joined
    (of_leaf (formed a.f) a.p (process_of a.self) (lawful a.f can.known) adds c.requires.step_value)
    (within_in _ 2 _ (omega (arith, c.requires.step_value)) (omega (arith, last_three a.f can.known a.p a.self.adds adds)))
    (record { process = rw (← c.leaf_of.ensures.is); stored = refl; memory = refl })

pub returns-else-self : goal.returns-else-self
unfolding process_of memory_of as_fun effect onward saw_it at_step cell_at read_of root
returns-else-self c =
    let a = c.args in
    let can = c.requires.can_step in
    let adds = c.if-self.false in
    joined
    (of_read_lem (formed a.f) a.p (process_of a.self) adds c.requires.step_value)
    (within_end _ _ (omega (arith, last_read (formed a.f) a.p a.self.adds adds)))
    (record { process = refl; stored = refl; memory = refl })
