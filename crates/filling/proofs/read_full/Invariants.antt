-- `read_full`: what is filled is what was consumed; the measure is the room left.
use Rattle.std.proofs.Common.{◌≡◌, ◌≤◌, ◌-◌, length, take}
use Rattle.std.specs.Io.KnownBytes.{Consumes}
use Rattle.filling.proofs.read_full.Given as goal

abbrev pub invariant-fill : goal.invariant-fill
invariant-fill g l =
    (length l.buf ≡ length l.initial.buf) × (l.done ≤ length l.buf)
    × Consumes (g.R.Read.remaining l.initial.input) (g.R.Read.remaining l.input) (take l.done l.buf)

abbrev pub decreases-fill : goal.decreases-fill
decreases-fill g l = length l.initial.buf - l.done
