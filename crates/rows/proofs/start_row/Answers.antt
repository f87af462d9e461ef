-- `start_row`: the row stored, with its first number made of its bytes.
use mathlib.Core.Path.{◌≡◌, ◌∙◌}
use native.Mathlib.Omega.{arith}
use Rattle.arrays.specs.Numbers.{numbers_in}
use Rattle.rows.specs.Rows.{fresh_numbers, head}
use Rattle.rows.proofs.Stores.{row_stored}
use Rattle.rows.proofs.start_row.Goals as goal

pub returns : goal.returns
unfolding fresh_numbers head numbers_in
returns c =
    let first : c.from_be_bytes.result ≡ head c.args.p c.args.kind 0 0 = omega (arith, c.from_be_bytes.ensures) in
    row_stored _ _ _ c.requires ∙ rw first
