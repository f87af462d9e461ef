-- `leaves_under`: no digit of n << l is lost.
use native.Mathlib.Omega.{arith}
use lib.Pow.{shl_exact}
use Rattle.counts.proofs.leaves_under.Goals as goal

pub returns : goal.returns
returns c = shl_exact 2 _ 64 (omega arith) (omega arith)
