-- What the two accesses that change a cell give: the response, and the cell afterwards.
use Rattle.std.specs.Prelude.{ℕ, Bool, ◌≡◌}
use Rattle.cell.specs.Cell.{read_of, load_linked, succeeds, store_conditional, state_of}
use Rattle.cell.specs.declared.Cell.{Cell}

pub record Links (p : ℕ) (before : Cell) (answer : ℕ) (after : Cell) : Type 0 where
  pub value : answer ≡ read_of (state_of before)
  pub cell : state_of after ≡ load_linked p (state_of before)

pub record Stores (u p : ℕ) (before : Cell) (answer : Bool) (after : Cell) : Type 0 where
  pub ok : answer ≡ succeeds p (state_of before)
  pub cell : state_of after ≡ store_conditional u p (state_of before)
