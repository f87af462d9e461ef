-- `try_at` meets its contract: each way out is one of what a record comes to.
use Rattle.std.proofs.Common.{rules}
use Rattle.engine.proofs.Tries.{tries_end, tries_broken, tries_refused, tries_step, tries_read, tries_add}
use Rattle.engine.proofs.try_at.Goals as goal

pub returns-in_err-found : goal.returns-in_err-found
returns-in_err-found c = search (rules, tries_broken)

pub returns-in_default : goal.returns-in_default
returns-in_default c = tries_end _ _ _ _ _ (rw c.in_default.is at c.in_ok-found.ensures)

pub returns-in-Err : goal.returns-in-Err
returns-in-Err c = tries_refused _ _ _ _ _ _ _ _ (rw c.in-Some.is at c.in_ok-found.ensures) c.process_of-p.ensures c.has.ensures _ c.in-Err.ensures

pub returns-in-Step : goal.returns-in-Step
returns-in-Step c = tries_step _ _ _ _ _ _ _ _ (rw c.in-Some.is at c.in_ok-found.ensures) c.process_of-p.ensures c.has.ensures c.in_default-refusal.ensures _ c.in-Step.is

pub returns-in-Read : goal.returns-in-Read
returns-in-Read c = tries_read _ _ _ _ _ _ _ _ (rw c.in-Some.is at c.in_ok-found.ensures) c.process_of-p.ensures c.has.ensures c.in_default-refusal.ensures _ c.in-Read.is

pub returns-in-Add : goal.returns-in-Add
returns-in-Add c = tries_add _ _ _ _ _ _ _ _ (rw c.in-Some.is at c.in_ok-found.ensures) c.process_of-p.ensures c.has.ensures c.in_default-refusal.ensures _ _ c.in-Add.is
