-- `place_read`: one store, of the next rank.
use Rattle.arrays.specs.Numbers.{no_row}
use Rattle.arrays.proofs.Rows.{ranked_row, rank_set}
use Rattle.meaning.specs.Steps.{upd}
use Rattle.listing.specs.Queue.{ranked}
use Rattle.placing.specs.Placing.{kept_of, read_placed}
use Rattle.placing.proofs.Laws.{kept_is}
use mathlib.Core.Path.{refl, ap, ◌∙◌}
use native.Mathlib.Omega.{arith}
use Rattle.placing.proofs.Ledger.place_read.Goals as goal

pub returns-clause-kept : goal.returns-clause-kept
unfolding kept_of read_placed ranked no_row ranked_row
returns-clause-kept c = kept_is refl refl (omega arith) (rank_set _ _ _ c.requires.0 ∙ ap (upd _ _) (omega arith))
