-- `first_piece` meets its contract: by whether five bytes are left, and whether L passes the end.
use Rattle.std.proofs.Common.{sym, ◌∙◌, inr, arith}
use Rattle.drawer.proofs.Sizes.{few_left, size_first, first_of}
use Rattle.drawer.proofs.first_piece.Goals as goal

pub returns-then-rest-lt5 : goal.returns-then-rest-lt5
returns-then-rest-lt5 c = few_left _ c.if-rest-lt5.true

pub returns-in_err-size : goal.returns-in_err-size
returns-in_err-size c = rw c.from_residual.ensures (inr (size_first _ (omega arith) _ (sym (c.in_err-size.was) ∙ c.size_of_piece.ensures)))

pub returns : goal.returns
returns c = first_of _ (omega arith) _ _ (sym (c.in_ok-size.was) ∙ c.size_of_piece.ensures) c.split_at_checked.ensures.cases
