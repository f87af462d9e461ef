-- What drawer promises.
use Rattle.std.specs.Prelude.{ℕ, ◌≡◌, List}
use Rattle.meaning.specs.Drawer.{drawer_answer, drawer_reports, drawer_marks}
use Rattle.recording.specs.Record.{Answer}

-- the answer, and every byte of both buffers
pub record Draws (s out marks out' marks' : List ℕ) (a : Answer) : Type 0 where
  pub answer : a ≡ drawer_answer s out marks
  pub reports : out' ≡ drawer_reports s out marks
  pub marked : marks' ≡ drawer_marks s out marks
