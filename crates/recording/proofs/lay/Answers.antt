-- `lay` meets its contract: one copy, or nothing.
use native.Mathlib.Omega.{arith}
use Rattle.recording.proofs.Lays.{laid, no_room}
use Rattle.recording.proofs.lay.Goals as goal

pub returns-then-buf-needed : goal.returns-then-buf-needed
returns-then-buf-needed c e is = no_room _ is (omega (arith, c.if-buf-needed.true))

pub returns : goal.returns
returns c e is = laid _ is (omega (arith, c.if-buf-needed.false)) c.copy_from_slice.ensures.after
