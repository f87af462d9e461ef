-- `check` meets its contract: how the recording ends alone.
use Rattle.meaning.specs.Report.{check_answer}
use Rattle.entries.specs.Promises.{answer_of}
use Rattle.entries.proofs.Answers.{check_ends}
use Rattle.entries.proofs.check.Goals as goal

pub returns-in-Err-clause-answer : goal.returns-in-Err-clause-answer
unfolding check_answer answer_of
returns-in-Err-clause-answer c = check_ends _ _ _ _ _ c.in-Err.ensures

pub returns-in-Ok-clause-answer : goal.returns-in-Ok-clause-answer
unfolding check_answer answer_of
returns-in-Ok-clause-answer c = check_ends _ _ _ _ _ c.in-Ok.ensures
