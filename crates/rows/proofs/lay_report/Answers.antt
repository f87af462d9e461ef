-- `lay_report`: the version byte, two numbers and the rows, each laid right after what is laid already.
use mathlib.Core.Path.{◌∙◌}
use Rattle.rows.proofs.Stores.{report_laid}
use native.Mathlib.Omega.{arith}
use Rattle.rows.proofs.lay_report.Goals as goal

pub returns : goal.returns
returns c =
    c.lay_rows.ensures ∙ rw (c.lay_number-2.ensures, c.lay_number.ensures) (report_laid _ _ _ _ (omega (arith, c.requires)))
