-- `alone` meets its contract: the header's refusal, the end at once, or the run's.
use mathlib.Core.Path.{refl, sym}
use Rattle.std.proofs.lemmas.Result.{err_from_is_err_and}
use Rattle.refusals.proofs.Laws.{number_positive}
use Rattle.history.proofs.Passing.{header_passes}
use Rattle.engine.proofs.Whole.{ends_by_header, known_told, ends_by_told, ends_at_once, room_told}
use native.Mathlib.Omega.{arith}
use Rattle.engine.proofs.alone.Goals as goal

pub returns-in_err-header-clause-ends : goal.returns-in_err-header-clause-ends
returns-in_err-header-clause-ends g c =
    let e = err_from_is_err_and c.from_residual.result c.from_residual.ensures.1 in
    let refusal = c.in_err-header.field-0.0 in
    rw (e.1, e.2)
    (ends_by_header _ _ _ _ _ c.in_err-header.ensures (λ z. omega (arith, number_positive refusal)) (record { its = refl; there = refl; within = omega arith }))

pub returns-in_err-header-clause-same : goal.returns-in_err-header-clause-same
returns-in_err-header-clause-same g c = g.met.K.Keeper.itself _

pub returns-then-s-eq-FIRST_RECORD-clause-ends : goal.returns-then-s-eq-FIRST_RECORD-clause-ends
returns-then-s-eq-FIRST_RECORD-clause-ends g c = ends_at_once _ _ _ _ c.in_ok-header.ensures refl (omega (arith, c.if-s-eq-FIRST_RECORD.true))

pub returns-then-s-eq-FIRST_RECORD-clause-same : goal.returns-then-s-eq-FIRST_RECORD-clause-same
returns-then-s-eq-FIRST_RECORD-clause-same g c = g.met.K.Keeper.itself _

pub form_of-requires : goal.form_of-requires
form_of-requires g c = (header_passes _ _ (sym c.in_ok-header.ensures)).enough

pub run-requires : goal.run-requires
run-requires g c =
    let w = header_passes _ _ (sym c.in_ok-header.ensures) in
    let told = c.form_of.ensures in
    (known_told _ w _ told, w.enough, w.short, λ a. let room = c.requires a in (room_told _ _ _ told w.low room, room.processes))

pub returns-clause-ends : goal.returns-clause-ends
returns-clause-ends g c = ends_by_told _ _ _ _ _ _ c.in_ok-header.ensures refl c.form_of.ensures c.run.ensures.ends
