-- `is_counted`: a count that is not there is 0.
use mathlib.Core.Path.{◌≡◌, ap, ◌∙◌}
use lib.ListN.{get_or}
use Rattle.std.specs.Option.{unwrap_or}
use Rattle.std.proofs.lemmas.Bool.Decides.{nat_tests}
use Rattle.taken.specs.CountIn.{is_counted}
use Rattle.arrays.specs.Arrays.{as_fun}
use Rattle.listing.specs.Queue.{waiter_of}
use native.Mathlib.Omega.{arith}
use Rattle.listing.proofs.is_counted.Goals as goal

pub returns : goal.returns
unfolding is_counted as_fun waiter_of
returns c =
    let count : c.unwrap_or.result ≡ get_or c.args.counts.now c.args.w.component 0 = c.unwrap_or.ensures ∙ ap (λ o. unwrap_or o 0) c.copied.ensures ∙ c.get.ensures.lookup.4 (omega arith) 0 in
    grind (arith, nat_tests)
