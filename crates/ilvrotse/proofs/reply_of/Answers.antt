-- `reply_of` meets its contract: 0 and 0, or the refusal's number and place.
use mathlib.Core.Path.{refl}
use Rattle.meaning.specs.Report.{passes}
use Rattle.entries.specs.Promises.{answer_of}
use Rattle.ilvrotse.specs.Replies.{told}
use Rattle.ilvrotse.proofs.reply_of.Goals as goal

pub returns-in-Ok : goal.returns-in-Ok
unfolding told answer_of passes
returns-in-Ok c = rw c.in-Ok.is refl

pub returns-in-Err : goal.returns-in-Err
unfolding told answer_of
returns-in-Err c = rw (c.in-Err.is, c.number.ensures) refl
