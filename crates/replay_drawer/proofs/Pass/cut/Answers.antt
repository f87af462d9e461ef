-- a piece of five bytes at least is cut, and the pass is further on by it
use Rattle.std.proofs.Common.{sym, ◌∙◌, arith}
use Rattle.replay_drawer.proofs.Sizes.{piece_inside}
use Rattle.replay_drawer.proofs.Pass.cut.Goals as goal
use Rattle.replay_drawer.proofs.Pass.cut.Goals.{then-self+in_ok-print, else-self}

pub print-requires-clause-goes : goal.print-requires-clause-goes
print-requires-clause-goes c =
    let inside = piece_inside _ _ _ (sym c.in_ok-piece.ensures.ok_part ∙ c.size_of_piece.ensures) in
    (c.hold.ensures.goes.0, omega (arith, inside.0), omega (arith, inside.1, c.hold.ensures.goes))

pub returns-clause-next : goal.returns-clause-next
returns-clause-next c =
    let inside = piece_inside _ _ _ (sym c.in_ok-piece.ensures.ok_part ∙ c.size_of_piece.ensures) in
    let held = c.hold.ensures.goes in
    elim c.if-self.branch [
      | then-self+in_ok-print w ↦
          let printed = w.in_ok-print.ensures.next in
          rw w.self-is
          (record {
            same = omega (arith, held, printed.same);
            further = (
              record {
                short = omega (arith, held, printed.same);
                inside = omega (arith, held, printed.same, inside.1);
                few = omega (arith, held, printed.same, printed.next, inside.0);
                part = record { begins = omega (arith, printed.part, printed.same); within = printed.part.within };
              },
              omega (arith, held, printed.same, inside.0),
            );
          })
      | else-self w ↦
          rw w.self-is
          (record {
            same = omega (arith, held);
            further = (
              record {
                short = omega (arith, held);
                inside = omega (arith, held, inside.1);
                few = omega (arith, held, inside.0);
                part = record { begins = omega (arith, held); within = held.0.part.within };
              },
              omega (arith, held, inside.0),
            );
          })
    ]
