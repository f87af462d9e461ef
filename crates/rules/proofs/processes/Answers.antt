-- `processes` meets its contract: the shift loses nothing.
use mathlib.Core.Path.{◌∙◌}
use native.Mathlib.Omega.{arith}
use native.Mathlib.Nat.{one-mul}
use lib.Pow.{shl_exact}
use Rattle.rules.proofs.processes.Goals as goal

pub returns : goal.returns
returns c = shl_exact 1 _ 64 (omega arith) (omega arith) ∙ one-mul _
