-- `process_of` meets its contract: each arm, at the event that the pattern took apart.
use mathlib.Core.Path.{sym, ap, ◌∙◌}
use Rattle.meaning.specs.Run.{process_of}
use Rattle.rules.proofs.process_of.Goals as goal

pub returns-in-Step : goal.returns-in-Step
unfolding process_of
returns-in-Step c = c.from.ensures ∙ sym (ap process_of c.in-Step.is)

pub returns-in-Read : goal.returns-in-Read
unfolding process_of
returns-in-Read c = c.from-in-Read.ensures ∙ sym (ap process_of c.in-Read.is)

pub returns-in-Add : goal.returns-in-Add
unfolding process_of
returns-in-Add c = c.from-in-Add.ensures ∙ sym (ap process_of c.in-Add.is)
