-- Which children of its node an attempt has read, by the groups that it has been through.
use Rattle.std.specs.Prelude.{ℕ, zero, suc, ◌+◌, Bool, false, ◌&&◌, ◌||◌, List, [], ◌∷◌, leb, ltb}
use Rattle.meaning.specs.Shape.{Group, Form}
use Rattle.spots.specs.Spot.{Spot, node_of}

-- whether a group has child number c
unfoldable pub in_group : Group → ℕ → Bool
in_group g c = leb g.from c && ltb c (g.from + g.count)

-- whether one of the first k groups has it
unfoldable pub in_groups : List Group → ℕ → ℕ → Bool
in_groups [] k c = false
in_groups (g ∷ gs) zero c = false
in_groups (g ∷ gs) (suc k) c = in_group g c || in_groups gs k c

-- the groups of the attempt at a spot
abbrev pub groups_at : Form → ℕ → Spot → List Group
groups_at F p σ = F.shape.groups F.height (node_of F p σ)

-- how many groups have been read at a position: the first is read at position 1
unfoldable pub groups_read : ℕ → ℕ
groups_read zero = zero
groups_read (suc i) = i

-- whether the children numbered c have been read
unfoldable pub got_at : Form → ℕ → Spot → ℕ → Bool
got_at F p σ c = in_groups (groups_at F p σ) (groups_read σ.position) c
