-- `busy_after` meets its contract, by whether the step number is 0.
use borrow.Author.Tests.{eq-eqb, ne_eqb}
use native.Mathlib.Omega.{arith}
use Rattle.engine.proofs.busy_after.Goals as goal

pub returns-then-step-eq0 : goal.returns-then-step-eq0
returns-then-step-eq0 c = rw (eq-eqb c.args.step 0 (omega (arith, c.if-step-eq0.true))) c.cut.ensures

pub returns-else-step-eq0 : goal.returns-else-step-eq0
returns-else-step-eq0 c = rw (ne_eqb c.args.step 0 (λ z. omega (arith, c.if-step-eq0.false)))
