-- `lay_digits`: one digit is its own byte; of more the last is laid after the others.
use Rattle.std.proofs.Common.{length, sym, ap, arith}
use Rattle.laying.proofs.Laid.{lays_byte, lays_then, lays_as}
use Rattle.lines.proofs.Digits.{decimal_digit, decimal_last, decimal_few, decimal_longer}
use Rattle.lines.proofs.Left.{room_left}
use Rattle.lines.proofs.+lay_digits.Goals as goal

pub bounds-out-at : goal.bounds-out-at
bounds-out-at t c =
    let one = ap length (decimal_digit c.args.n (omega arith)) in omega (arith, c.requires.enough, one)

pub returns-then-n-lt10-clause-lays : goal.returns-then-n-lt10-clause-lays
returns-then-n-lt10-clause-lays t c =
    let one = ap length (decimal_digit c.args.n (omega arith)) in
    lays_as (sym (decimal_digit c.args.n (omega arith))) (lays_byte _ _ _ (omega (arith, c.requires.enough, one)))

pub lay_digits-last-requires : goal.lay_digits-last-requires
lay_digits-last-requires t c =
    let more = decimal_longer c.args.n (omega arith) (omega arith) in
    (omega arith, record { long = c.requires.long; enough = omega (arith, c.requires.enough, more) })

pub bounds-out-last : goal.bounds-out-last
bounds-out-last t c =
    let more = decimal_longer c.args.n (omega arith) (omega arith) in
    let left = room_left 1 c.requires c.lay_digits-last.ensures.lays (omega (arith, more)) in omega (arith, left.enough)

pub returns-clause-lays : goal.returns-clause-lays
returns-clause-lays t c =
    let more = decimal_longer c.args.n (omega arith) (omega arith) in
    let left = room_left 1 c.requires c.lay_digits-last.ensures.lays (omega (arith, more)) in
    lays_as (sym (decimal_last c.args.n (omega arith) (omega arith))) (lays_then c.lay_digits-last.ensures.lays (lays_byte _ _ _ (omega (arith, left.enough))))

pub returns-clause-upper_bound : goal.returns-clause-upper_bound
returns-clause-upper_bound t c =
    let n = c.args.n in
    let more = decimal_longer n (omega arith) (omega arith) in
    omega (arith, c.lay_digits-last.ensures.lays.place, decimal_few n, more)
