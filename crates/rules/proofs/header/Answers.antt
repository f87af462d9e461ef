-- `header` meets its contract: each return cites the way out that its tests leave.
use borrow.Author.Rules.{rules}
use Rattle.recording.specs.Numbers.{number_at}
use Rattle.meaning.specs.Layout.{version, follows, height}
use Rattle.rules.proofs.Ways.{too_short_lem, other_version_lem, too_long_lem, other_length, no_height_lem, too_high, fine}
use Rattle.rules.proofs.header.Goals as goal

pub returns-then-s-lt-FIRST_RECORD : goal.returns-then-s-lt-FIRST_RECORD
returns-then-s-lt-FIRST_RECORD c = too_short_lem _ (search rules)

pub returns-then-s-ne1 : goal.returns-then-s-ne1
unfolding version
returns-then-s-ne1 c = other_version_lem _ (search rules) (search rules)

pub returns-then-s-gt-LONGEST_RECORDING : goal.returns-then-s-gt-LONGEST_RECORDING
unfolding version
returns-then-s-gt-LONGEST_RECORDING c = too_long_lem _ (search rules) (search rules) (search rules)

pub returns-then-follows-s : goal.returns-then-follows-s
unfolding version follows number_at
returns-then-follows-s c = other_length _ (search rules) (search rules) (search rules) (search rules)

pub returns-then-s-eq0 : goal.returns-then-s-eq0
unfolding version follows number_at height
returns-then-s-eq0 c = no_height_lem _ (search rules) (search rules) (search rules) (search rules) (search rules)

pub returns-then-s-gt-HIGHEST_TREE : goal.returns-then-s-gt-HIGHEST_TREE
unfolding version follows number_at height
returns-then-s-gt-HIGHEST_TREE c = too_high _ (search rules) (search rules) (search rules) (search rules) (search rules) (search rules)

pub returns : goal.returns
unfolding version follows number_at height
returns c = fine _ (search rules) (search rules) (search rules) (search rules) (search rules) (search rules)
