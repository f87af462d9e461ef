-- `raise`: each turn raises the next number.
use Rattle.std.proofs.Common.{◌≡◌, max, ◌++◌, take, drop}
use Rattle.std.specs.Prelude.{map}
use Rattle.contention.proofs.raise.Given as goal

abbrev pub invariant-loop-g : goal.invariant-loop-g
invariant-loop-g l = l.g-items ≡ map (λ x. max x l.count) (take l.g-index l.initial.g-items) ++ drop l.g-index l.initial.g-items
