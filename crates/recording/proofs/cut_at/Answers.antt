-- `cut_at` meets its contract: each return cites the case of `cut_at` that the tests on the way to it leave.
use mathlib.Core.Path.{refl, sym}
use native.Mathlib.Omega.{arith}
use borrow.Author.Rules.{rules}
use Rattle.recording.specs.Numbers.{four_bytes}
use Rattle.recording.specs.Record.{bytes_of}
use Rattle.recording.proofs.Cases.{step, read, add, shape, ended, broken, found}
use Rattle.recording.proofs.cut_at.Goals as goal

pub returns-then-s-at : goal.returns-then-s-at
returns-then-s-at c = ended _ _ (search rules)

pub returns-then-left-lt3 : goal.returns-then-left-lt3
returns-then-left-lt3 c = broken _ _ (search rules) (λ e w. omega (arith, shape _ _ w))

pub returns-in-2-eq1 : goal.returns-in-2-eq1
unfolding bytes_of
returns-in-2-eq1 c = found _ _ (step (search rules) (search rules) refl (search rules)) (omega arith)

pub returns-in-2-eq2 : goal.returns-in-2-eq2
unfolding bytes_of
returns-in-2-eq2 c = found _ _ (read (search rules) (search rules) refl (search rules)) (omega arith)

pub returns-in-6-eq3 : goal.returns-in-6-eq3
unfolding bytes_of four_bytes
returns-in-6-eq3 c = found _ _ (add (search rules) (search rules) refl (sym c.number_at.ensures) (search rules)) (omega arith)

pub returns-in_default : goal.returns-in_default
returns-in_default c = broken _ _ (search rules) (λ e w. omega (arith, shape _ _ w))

pub returns-in_default-2 : goal.returns-in_default-2
returns-in_default-2 c = broken _ _ (search rules) (λ e w. omega (arith, shape _ _ w))

pub returns-in_default-3 : goal.returns-in_default-3
returns-in_default-3 c = broken _ _ (search rules) (λ e w. omega (arith, shape _ _ w))

pub returns-in_default-4 : goal.returns-in_default-4
returns-in_default-4 c = broken _ _ (search rules) (λ e w. omega (arith, shape _ _ w))
