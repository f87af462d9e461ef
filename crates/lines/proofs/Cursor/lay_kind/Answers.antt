-- `lay_kind`: each branch lays one of the two words.
use borrow.Author.Tests.{eq-eqb, ne_eqb}
use Rattle.meaning.specs.Printed.{text}
use Rattle.lines.specs.Text.{kind_text}
use Rattle.laying.proofs.Laid.{lays_as}
use Rattle.lines.proofs.Cursor.lay_kind.Goals as goal

pub returns-then-kind-eq2-clause-lays : goal.returns-then-kind-eq2-clause-lays
unfolding kind_text text
returns-then-kind-eq2-clause-lays c = lays_as (rw (eq-eqb _ 2 c.if-kind-eq2.true)) c.lay_word.ensures.lays

pub returns-else-kind-eq2-clause-lays : goal.returns-else-kind-eq2-clause-lays
unfolding kind_text text
returns-else-kind-eq2-clause-lays c = lays_as (rw (ne_eqb _ 2 c.if-kind-eq2.false)) c.lay_word-else-kind-eq2.ensures.lays
