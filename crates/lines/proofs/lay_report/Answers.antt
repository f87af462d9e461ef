-- `lay_report`: the first line, and the rows' lines after it.
use Rattle.std.proofs.Common.{rules}
use Prim.Native.Nat.{ℕ, ◌/◌}
use mathlib.Core.Path.{ap₂}
use mathlib.Core.List.{List, ◌++◌}
use Rattle.meaning.specs.Printed.{text}
use Rattle.meaning.specs.Report.{row_length}
use Rattle.lines.specs.Text.{row_texts, first_text, report_text}
use Rattle.laying.proofs.Laid.{lays_then, lays_as}
use Rattle.lines.proofs.Left.{lays_in}
use Rattle.lines.proofs.lay_report.Goals as goal

pub returns-clause-lays : goal.returns-clause-lays
unfolding report_text first_text text
returns-clause-lays c =
    let b : List ℕ = c.args.report.now in
    lays_in {l' = c.lay_rows.new.self.out.now} (search rules)
    (lays_as (ap₂ (λ (n v : ℕ). first_text (n / row_length) v ++ row_texts b (n / row_length)) c.number_at.ensures c.number_at-counter.ensures) (lays_then c.lay_line.ensures.lays c.lay_rows.ensures.lays))
