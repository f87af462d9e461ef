-- `Reader::new`: the fields are those of `reader_of`.
use Rattle.std.proofs.Common.{refl}
use Rattle.reader.specs.Reads.{reader_of}
use Rattle.reader.proofs.Reader.new.Goals as goal

pub returns : goal.returns
unfolding reader_of
returns c = refl
