-- `refusal` meets its contract: each return cites the way out that its tests leave.
use Prim.Native.Nat.{ℕ, ◌^◌, ◌≤◌, ◌<◌}
use mathlib.Core.Path.{◌≡◌, sym}
use native.Mathlib.Omega.{arith}
use borrow.Author.Rules.{rules}
use Rattle.meaning.specs.Run.{process_of}
use Rattle.rules.proofs.Ways.{no_such_process, starts_busy, starts_full, starts, steps, steps_idle}
use Rattle.rules.proofs.refusal.Goals.{Else-processes-process_of}
use Rattle.rules.proofs.refusal.Goals as goal

-- a comparison of two callees' answers, as one of what they are
same_le : {a a' b b' : ℕ} → a ≡ a' → b ≡ b' → a ≤ b → a' ≤ b'
same_le p q h = omega arith

same_lt : {a a' b b' : ℕ} → a ≡ a' → b ≡ b' → a < b → a' < b'
same_lt p q h = omega arith

-- the process is one of the tree
inside : (c : Else-processes-process_of) → process_of c.args.e < 2 ^ c.args.f.height
inside c = same_lt c.process_of.ensures c.processes.ensures c.if-processes-process_of.false

pub returns-then-processes-process_of : goal.returns-then-processes-process_of
returns-then-processes-process_of c = no_such_process _ _ _ _ (same_le c.processes.ensures c.process_of.ensures c.if-processes-process_of.true)

pub returns-in-true-true-default : goal.returns-in-true-true-default
returns-in-true-true-default c =
    starts_busy _ _ _ _ (inside (goal.at.returns-in-true-true-default c).Else-processes-process_of) (sym c.in-true-true-default.ensures) (search rules)

pub returns-in-true-default-true : goal.returns-in-true-default-true
returns-in-true-default-true c =
    starts_full _ _ _ _ (inside (goal.at.returns-in-true-default-true c).Else-processes-process_of) (sym c.in-true-default-true.ensures) (search rules) (search rules)

pub returns-in-false-false-default : goal.returns-in-false-false-default
returns-in-false-false-default c =
    steps_idle _ _ _ _ (inside (goal.at.returns-in-false-false-default c).Else-processes-process_of) (sym c.in-false-false-default.ensures) (search rules)

pub returns-in_default : goal.returns-in_default
returns-in_default c =
    starts _ _ _ _ (inside (goal.at.returns-in_default c).Else-processes-process_of) (sym c.in_default.ensures) (search rules) (search rules)

pub returns-in_default-2 : goal.returns-in_default-2
returns-in_default-2 c =
    steps _ _ _ _ (inside (goal.at.returns-in_default-2 c).Else-processes-process_of) (sym c.in_default.ensures) (search rules)
