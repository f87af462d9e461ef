-- `run` meets its contract: each way out is one of the invariant's, and each turn takes it on by one record.
use Prim.Native.Nat.{◌+◌}
use mathlib.Core.Path.{refl}
use Rattle.climb.specs.Climb.{nowhere}
use Rattle.machine.specs.Arrays.{idle_record}
use Rattle.rows.proofs.Laws.{fewer_to_close}
use Rattle.engine.proofs.Agrees.{still_write}
use Rattle.engine.proofs.Room.{can_keep, can_close, room_as}
use Rattle.engine.proofs.Runs.{runs_stopped, inside, low, acting, room, can_step, runs_kept_step, runs_kept_start, ends_accepted, ends_refused}
use Rattle.engine.proofs.Loop.{begins_kept}
use Rattle.engine.proofs.Tries.{tried_end, tried_stopped, tried_step, tried_start}
use Rattle.std.proofs.lemmas.Result.{err_from_is_err_and}
use native.Mathlib.Omega.{arith}
use Rattle.engine.proofs.run.Goals as goal

pub loop-passed-init : goal.loop-passed-init
loop-passed-init g c = (
  begins_kept c.args.s.now c.args.f c.idle-idle.result c.empty-busy.result c.requires.0 c.requires.1 c.idle-idle.ensures c.empty-busy.ensures c.new-memory.result (c.new-memory.ensures c.args.f c.requires.0.shape) 64 refl _ _ _ c.begin.ensures.begun,
  g.met.K.Keeper.itself _,
)

pub close-requires : goal.close-requires
close-requires g c =
    λ a.
    let K = c.loop-passed.invariant.0 in
    let r = room_as _ _ (g.met.K.Keeper.lends _ _ (g.met.K.Keeper.through _ _ _ c.begin.ensures.same c.loop-passed.invariant.1)) (c.requires.3 a) in (
      omega (arith, K.runs.agrees.operations, K.runs.agrees.good.few),
      omega (arith, r.0.enough.rows_fit, r.0.operations c.loop-passed.m (omega (arith, K.runs.agrees.operations, K.runs.agrees.good.few)) (omega (arith, K.runs.agrees.started, K.runs.within))),
      fewer_to_close _ _ _ _ (omega arith) (can_close _ _ _ _ K.runs.agrees.good (K.ledger a) _ _ K.runs.agrees.operations r.1),
    )

pub returns-clause-ends : goal.returns-clause-ends
returns-clause-ends g c =
    ends_accepted _ _ _ _ _ _ _ _ _ _ _ c.loop-passed.invariant.0 (tried_end _ _ _ _ _ (rw c.in_default.is at c.in_ok-passed.ensures)) c.close.ensures.rows _ refl refl

pub returns-in_err-passed-clause-ends : goal.returns-in_err-passed-clause-ends
returns-in_err-passed-clause-ends g c =
    let e = err_from_is_err_and c.from_residual.result c.from_residual.ensures.1 in
    let stopped = tried_stopped _ _ _ _ _ _ c.in_err-passed.ensures in
    rw (e.1, e.2)
    (ends_refused _ _ _ _ _ _ _ _ (runs_stopped _ _ _ _ _ _ _ c.loop-passed.invariant.0.runs _ _ stopped).0
    (record { its = refl; there = refl; within = omega (arith, stopped.inside, c.requires.2) }))

pub offset_bounds-procs-p : goal.offset_bounds-procs-p
offset_bounds-procs-p g c =
    omega (arith, low _ _ _ _ _ _ _ c.loop-passed.invariant.0.runs _ _ _ (tried_start _ _ _ _ _ _ _ _ (rw (c.in-Some.is, c.in-Start.is) at c.in_ok-passed.ensures)).goes)

pub bounds-procs-p : goal.bounds-procs-p
bounds-procs-p g c =
    low _ _ _ _ _ _ _ c.loop-passed.invariant.0.runs _ _ _ (tried_start _ _ _ _ _ _ _ _ (rw (c.in-Some.is, c.in-Start.is) at c.in_ok-passed.ensures)).goes

pub start-requires : goal.start-requires
start-requires g c =
    let begins = tried_start _ _ _ _ _ _ _ _ (rw (c.in-Some.is, c.in-Start.is) at c.in_ok-passed.ensures) in
    let runs = c.loop-passed.invariant.0.runs in
    let few = room _ _ _ _ _ _ _ runs _ _ _ _ begins in
    let lends = g.met.K.Keeper.lends _ _ (g.met.K.Keeper.through _ _ _ c.begin.ensures.same c.loop-passed.invariant.1) in
    record {
      operation = few;
      process = low _ _ _ _ _ _ _ runs _ _ _ begins.goes;
      row =
          λ a.
          let r = room_as _ _ lends (c.requires.3 a) in
          omega (arith, r.0.enough.rows_fit, r.0.operations (c.loop-passed.m + 1) (omega (arith, few)) (omega (arith, runs.agrees.started, begins.goes.stands.further, begins.goes.stands.within)));
      most = λ a. (room_as _ _ lends (c.requires.3 a)).1;
    }

pub loop-passed-smaller-in-Start : goal.loop-passed-smaller-in-Start
loop-passed-smaller-in-Start g c =
    let w = (tried_start _ _ _ _ _ _ _ _ (rw (c.in-Some.is, c.in-Start.is) at c.in_ok-passed.ensures)).goes.stands in omega (arith, w.further, w.within)

pub loop-passed-preserved-in-Start : goal.loop-passed-preserved-in-Start
loop-passed-preserved-in-Start g c = (
  runs_kept_start _ _ _ _ _ _ _ c.loop-passed.invariant.0.runs _ _ _ _ (tried_start _ _ _ _ _ _ _ _ (rw (c.in-Some.is, c.in-Start.is) at c.in_ok-passed.ensures)) _ _ _ (rw (c.started.ensures, c.is_some-adds.ensures, c.unwrap_or.ensures)) c.put-busy.ensures (omega arith) _ _ _ _ _ c.loop-passed.invariant.0.ledger
      (λ a. (rw c.is_some-adds.ensures at (c.start.ensures.kept a), c.start.ensures.greatest a)),
  g.met.K.Keeper.through _ _ _ c.loop-passed.invariant.1 c.start.ensures.same,
)

pub offset_bounds-procs-p-in-Step : goal.offset_bounds-procs-p-in-Step
offset_bounds-procs-p-in-Step g c =
    omega (arith, low _ _ _ _ _ _ _ c.loop-passed.invariant.0.runs _ _ _ (tried_step _ _ _ _ _ _ _ (rw (c.in-Some.is, c.in-Step.is) at c.in_ok-passed.ensures)))

pub bounds-procs-p-in-Step : goal.bounds-procs-p-in-Step
bounds-procs-p-in-Step g c =
    low _ _ _ _ _ _ _ c.loop-passed.invariant.0.runs _ _ _ (tried_step _ _ _ _ _ _ _ (rw (c.in-Some.is, c.in-Step.is) at c.in_ok-passed.ensures))

pub next-after-requires : goal.next-after-requires
unfolding idle_record nowhere
next-after-requires g c =
    can_step _ _ _ _ _ _ _ c.loop-passed.invariant.0.runs _ _ (tried_step _ _ _ _ _ _ _ (rw (c.in-Some.is, c.in-Step.is) at c.in_ok-passed.ensures))

pub step-requires : goal.step-requires
unfolding idle_record nowhere
step-requires g c =
    λ a.
    let loop = c.loop-passed in
    let pre = c.requires in
    let event = tried_step _ _ _ _ _ _ _ (rw (c.in-Some.is, c.in-Step.is) at c.in_ok-passed.ensures) in
    let runs = loop.invariant.0.runs in
    let its = inside _ _ _ _ _ _ _ runs _ _ _ event in
    let acts = acting _ _ _ _ _ _ _ runs _ _ _ event refl in
    let r = room_as _ _ (g.met.K.Keeper.lends _ _ (g.met.K.Keeper.through _ _ _ c.begin.ensures.same loop.invariant.1)) (pre.3 a) in
    can_keep _ _ _ _ _ _ _ _ _ _ _ runs.agrees (loop.invariant.0.ledger a) _ its acts (omega (arith, event.stands.further, event.stands.within)) pre.2 r.0 r.1 _
    (still_write _ _ _ _ _ _ _ runs.agrees _ its acts _ _ c.next-after.ensures)

pub offset_bounds-procs-p-in-Step-2 : goal.offset_bounds-procs-p-in-Step-2
offset_bounds-procs-p-in-Step-2 g c =
    omega (arith, low _ _ _ _ _ _ _ c.loop-passed.invariant.0.runs _ _ _ (tried_step _ _ _ _ _ _ _ (rw (c.in-Some.is, c.in-Step.is) at c.in_ok-passed.ensures)))

pub bounds-procs-p-in-Step-2 : goal.bounds-procs-p-in-Step-2
bounds-procs-p-in-Step-2 g c =
    low _ _ _ _ _ _ _ c.loop-passed.invariant.0.runs _ _ _ (tried_step _ _ _ _ _ _ _ (rw (c.in-Some.is, c.in-Step.is) at c.in_ok-passed.ensures))

pub loop-passed-smaller : goal.loop-passed-smaller
loop-passed-smaller g c =
    let w = (tried_step _ _ _ _ _ _ _ (rw (c.in-Some.is, c.in-Step.is) at c.in_ok-passed.ensures)).stands in omega (arith, w.further, w.within)

pub loop-passed-preserved : goal.loop-passed-preserved
unfolding idle_record nowhere
loop-passed-preserved g c = (
  runs_kept_step _ _ _ _ _ _ _ c.loop-passed.invariant.0.runs _ _ (tried_step _ _ _ _ _ _ _ (rw (c.in-Some.is, c.in-Step.is) at c.in_ok-passed.ensures)) _ _ c.next-after.ensures _ _ refl c.busy_after-busy.ensures _ _ _ _ _ c.loop-passed.invariant.0.ledger (λ a. (c.step.ensures.kept a, c.step.ensures.greatest a)),
  g.met.K.Keeper.through _ _ _ c.loop-passed.invariant.1 c.step.ensures.same,
)
