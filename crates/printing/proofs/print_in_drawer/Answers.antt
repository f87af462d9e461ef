-- `print_in_drawer`: the heading, and the text after it.
use Prim.Native.Nat.{ℕ}
use mathlib.Core.Path.{ap₂}
use mathlib.Core.List.{List, ◌++◌}
use borrow.Author.Rules.{rules}
use Rattle.laying.proofs.Laid.{lays_then, lays_as}
use Rattle.printing.proofs.Laws.{print_front}
use Rattle.printing.proofs.print_in_drawer.Goals as goal

pub returns : goal.returns
returns c =
    record { lays = lays_as (ap₂ (λ (a b : List ℕ). a ++ b) c.lay_heading-n.ensures.lays.front (print_front c.print-m.ensures)) (lays_then c.lay_word-next.ensures c.lay_word.ensures); upper_bound = search rules }
