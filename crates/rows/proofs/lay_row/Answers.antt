-- `lay_row`: five numbers laid one after another.
use mathlib.Core.Path.{◌∙◌}
use native.Mathlib.Omega.{arith}
use Rattle.arrays.specs.Arrays.{as_fun}
use Rattle.arrays.specs.Numbers.{numbers_in}
use Rattle.rows.specs.Rows.{numbers_bytes}
use Rattle.rows.proofs.Stores.{row_laid}
use Rattle.rows.proofs.lay_row.Goals as goal

pub returns : goal.returns
unfolding numbers_bytes as_fun numbers_in
returns c =
    c.lay_number-5.ensures ∙ rw (c.lay_number-4.ensures, c.lay_number-3.ensures, c.lay_number-2.ensures, c.lay_number.ensures) (row_laid _ _ _ _ _ _ _ (omega (arith, c.requires)))
