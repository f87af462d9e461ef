-- What a shape must obey, beside being data, for all that is proved of histories.
use Rattle.std.specs.Prelude.{ℕ, ◌<◌, ◌≡◌, true, [], ◌∷◌, length}
use Rattle.recording.specs.declared.Event.{Event}
use Rattle.meaning.specs.Access.{reads_leaf, writes_leaf}
use Rattle.meaning.specs.Shape.{Shape, plus, is_one_of}
use Rattle.meaning.specs.Layout.{kind_byte}
use Rattle.spots.specs.Got.{in_groups}

pub record Lawful (S : Shape) : Type 0 where
  -- an addition reads and writes its process's own leaf, then climbs
  pub opens : (h p : ℕ) → S.opening h p ≡ reads_leaf p ∷ writes_leaf p ∷ []
  -- an attempt reads both children
  pub covers : (h x c : ℕ) → c < 2 → in_groups (S.groups h x) (length (S.groups h x)) c ≡ true
  -- nodes hold sums, from 0 on
  pub sums : (h x : ℕ) (seen : ℕ → ℕ) → S.joins h x seen ≡ plus (seen 0) (seen 1)
  pub zero : S.begins ≡ 0
  -- every event is of one of its kinds
  pub kinds : (e : Event) → is_one_of (kind_byte e) S.kinds ≡ true
