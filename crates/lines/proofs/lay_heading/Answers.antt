-- `lay_heading`: its two words.
use Rattle.std.proofs.Common.{rules}
use Rattle.meaning.specs.Printed.{text, heading_of}
use Rattle.lines.proofs.Left.{lays_in}
use Rattle.lines.proofs.lay_heading.Goals as goal

pub returns-clause-lays : goal.returns-clause-lays
unfolding text heading_of
returns-clause-lays c = lays_in {l' = c.lay_line.new.self.out.now} (search rules) c.lay_line.ensures.lays
