-- `needed` meets its contract: the bytes of a report are told by how its run ended.
use mathlib.Core.Path.{sym, ◌∙◌}
use Rattle.drawer.proofs.Alone.{report_of_ends}
use Rattle.drawer.proofs.needed.Goals as goal

pub returns : goal.returns
returns c =
    c.bytes_of.ensures ∙ sym (report_of_ends _ c.ends.ensures)
