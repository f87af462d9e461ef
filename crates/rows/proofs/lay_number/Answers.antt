-- `lay_number`: the number's bytes in the place of four.
use Rattle.recording.specs.Numbers.{four_bytes}
use Rattle.rows.proofs.Stores.{number_laid}
use Rattle.rows.proofs.lay_number.Goals as goal

pub returns : goal.returns
unfolding four_bytes
returns c = number_laid _ _ _ _ (rw c.to_be_bytes-bytes.ensures at c.copy_from_slice.ensures.after)
