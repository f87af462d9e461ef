-- `most_of` meets its contract.
use Rattle.std.proofs.Common.{rules, arith}
use Rattle.std.proofs.lemmas.Bool.Decides.{nat_tests}
use Rattle.drawer.specs.Cuts.{most_of}
use Rattle.drawer.proofs.most_of.Goals as goal

pub returns-then-not-contains : goal.returns-then-not-contains
unfolding most_of
returns-then-not-contains c = search rules

pub returns : goal.returns
unfolding most_of
returns c = grind (arith, nat_tests)
