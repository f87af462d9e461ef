-- What the cut tells, and the bytes that the reports have at most.
use Rattle.std.specs.Prelude.{ℕ, ◌+◌, ◌-◌, ◌*◌, ◌/◌, min, ◌≤◌, ◌<◌, ◌≡◌, cond, ◌||◌, List, [], ◌∷◌, length, ltb, Option, None, Some, Result, Ok, Err}
use Rattle.std.specs.List.{IsSplitAt}
use Rattle.refusals.specs.declared.Refusal.TheVariants.{NoCut}
use Rattle.refusals.specs.declared.Refused.{Refused}
use Rattle.meaning.specs.Drawer.{whole, broken, into, fails, found_at, pieces_of, report_of, joined}
use Rattle.engine.specs.declared.Accepted.{Accepted}
use Rattle.drawer.specs.declared.Pieces.{Pieces}

-- the size of the piece at a place, none where none can be cut there
pub data SizeAt (s : List ℕ) (at : ℕ) : Option ℕ → Type 0 where
  cuts : {n : ℕ} → found_at s at ≡ whole n → 5 ≤ n → at + n ≤ length s → SizeAt s at (Some n)
  ends : found_at s at ≡ broken → SizeAt s at None

-- a piece that stands first in what is left of a drawer, and what is left behind it
pub record IsFirst (rest piece after : List ℕ) : Type 0 where
  pub size : SizeAt rest 0 (Some (length piece))
  pub parted : IsSplitAt rest (length piece) piece after

-- the bytes of a report at most, by the bytes of its piece: three for each operation, of which there are at most 1,024
unfoldable pub most_of : ℕ → ℕ
most_of size = cond (ltb size 6 || ltb 65536 size) 0 (9 + 20 * min 1024 ((size - 6) / 3))

unfoldable pub most_in : List (List ℕ) → ℕ
most_in [] = 0
most_in (s ∷ ss) = most_of (length s) + most_in ss

-- a drawer that is cut to its end, with how many pieces and with how many bytes of reports at most
pub record CutInto (s : List ℕ) (pieces most : ℕ) : Type 0 where
  pub parts : List (List ℕ)
  pub cut : pieces_of s ≡ into parts
  pub number : pieces ≡ length parts
  pub bytes : most ≡ most_in parts
  pub few : 5 * pieces ≤ length s
  pub small : most ≤ 7 * length s

abbrev pub Cuts : List ℕ → Result Pieces Refused → Type 0
Cuts s (Ok p) = CutInto s p.number p.most
Cuts s (Err r) = (r.refusal ≡ NoCut) × (pieces_of s ≡ fails r.place) × (r.place < length s)

-- what measuring tells: a number that room has where the reports fit, and their bytes where they do not
pub record Measures (s : List ℕ) (room r : ℕ) : Type 0 where
  pub fits : (ss : List (List ℕ)) → pieces_of s ≡ into ss → r ≤ room → length (joined report_of ss) ≤ room
  pub exact : (ss : List (List ℕ)) → pieces_of s ≡ into ss → room < r → r ≡ length (joined report_of ss)
  pub small : r ≤ 7 * length s

-- the bytes of a report, by how its run ended
abbrev pub bytes_by : Result Accepted Refused → ℕ
bytes_by (Ok a) = 9 + 20 * a.operations
bytes_by (Err r) = 0
