-- `taken_in`: no more is taken than there is.
use Rattle.std.proofs.Common.{◌≡◌, min, length, arith}
use Rattle.std.proofs.lemmas.List.{take_min}
use Rattle.printing.proofs.taken_in.Goals as goal

pub returns : goal.returns
returns c = let e : c.min.result ≡ min 65537 (length c.args.rec.now) = omega arith in rw e (take_min 65537 _)
