-- What print promises.
use Rattle.std.specs.Prelude.{ℕ, ◌≤◌, ◌≡◌, List, ◌++◌, length, drop}
use Rattle.meaning.specs.Printed.{printed}

-- how many bytes there are, and every byte of the buffer: the text at its front, and what was there after it
pub record Prints (s before after : List ℕ) (r : ℕ) : Type 0 where
  pub answer : r ≡ length (printed s)
  pub within : r ≤ length after
  pub buffer : after ≡ printed s ++ drop r before
