-- `Cell::ll`: the value stays, and the links are what `put` gives.
use Prim.Native.Nat.{ℕ}
use mathlib.Core.Path.{ap, ap₂, ◌∙◌}
use native.Mathlib.Omega.{arith}
use Rattle.sets.specs.Processes.{with, is_in}
use Rattle.cell.specs.Cell.{read_of, load_linked, state_of}
use Rattle.cell.proofs.Laws.{state_is}
use Rattle.cell.proofs.Cell.ll.Goals as goal

pub returns : goal.returns
unfolding read_of load_linked state_of
returns c =
    let a = c.args in
    record {
      value = c.read.ensures;
      cell =
          state_is _ _ (load_linked a.p (state_of a.self.now)) (omega arith)
          (ap is_in (omega arith) ∙ c.put-self.ensures ∙ ap₂ (λ (p l : ℕ). with p (is_in l)) (omega arith) (omega arith));
    }
