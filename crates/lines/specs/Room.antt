-- The buffer that a text is laid in.
use Rattle.std.specs.Prelude.{ℕ, ◌+◌, ◌*◌, ◌≤◌, ◌≡◌, List, length}
use Rattle.meaning.specs.Run.{most_operations}

-- a text's first line has 41 bytes at most, each other one 82
abbrev pub longest_text : ℕ
longest_text = 41 + 82 * most_operations

-- the buffer has room for that many bytes from a place on
pub record Room (buf : List ℕ) (at many : ℕ) : Type 0 where
  pub long : length buf ≡ longest_text
  pub enough : at + many ≤ longest_text
