-- What the functions of an attempt's accesses ask and promise: where a step is, what a read of children sees, and where an SC leads.
use Rattle.std.specs.Prelude.{◌≡◌, ℕ, suc, ◌+◌, Bool, cond, ◌&&◌, length, nat_le, nat_lt}
use Rattle.recording.specs.declared.Form.{Form as Told}
use Rattle.meaning.specs.Shape.{formed}
use Rattle.meaning.specs.Operations.{addition_steps}
use Rattle.meaning.specs.Steps.{passes_by, within}
use Rattle.spots.specs.Spot.{attempt_at, width, node_of, At}
use Rattle.climb.specs.Climb.{spot_is}
use Rattle.climb.specs.declared.Spot.{Spot}

-- the step s of an addition of process p is at that spot, in an attempt at the node x
pub record There (f : Told) (p s x : ℕ) (σ : Spot) : Type 0 where
  pub at : At (formed f) p s (spot_is σ)
  pub node : x ≡ node_of (formed f) p (spot_is σ)

-- its access is the SC
abbrev pub Stores : Told → ℕ → Spot → Type 0
Stores f x σ = suc σ.position ≡ width (formed f) x

-- the step number that the SC leads to
abbrev pub leads : Told → ℕ → ℕ → ℕ → Spot → Bool → ℕ
leads f p s x σ ok = within (s + passes_by (formed f) (attempt_at σ.second) x ok) (length (addition_steps (formed f) p))

-- what has been seen, by child number, after a read of so many children from one on
abbrev pub copied : ℕ → ℕ → (ℕ → ℕ) → (ℕ → ℕ) → ℕ → ℕ
copied from count value seen c = cond (nat_le from c && nat_lt c (from + count)) (value c) (seen c)
