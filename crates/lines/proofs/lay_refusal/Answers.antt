-- `lay_refusal`: four parts one after another.
use Rattle.std.proofs.Common.{rules}
use Rattle.meaning.specs.Printed.{text}
use Rattle.laying.proofs.Laid.{lays_then, lays_as}
use Rattle.lines.proofs.Left.{lays_in}
use Rattle.lines.proofs.Texts.{refusal_parts}
use Rattle.lines.proofs.lay_refusal.Goals as goal

pub returns-clause-lays : goal.returns-clause-lays
unfolding text
returns-clause-lays c =
    lays_in {l' = c.end_line.new.self.out.now} (search rules)
    (lays_as (refusal_parts _ _) (lays_then (lays_then (lays_then c.lay_word.ensures.lays c.lay_field.ensures.lays) c.lay_field-2.ensures.lays) c.end_line.ensures.lays))
