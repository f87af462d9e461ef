-- Where in its climb an addition is: its step number, decoded by a walk over the widths of the attempts.
use Rattle.std.specs.Prelude.{ℕ, zero, suc, ◌+◌, ◌-◌, ◌<◌, ◌≡◌, Bool, true, false, cond, length, ltb}
use Rattle.meaning.specs.Tree.{leaf_of, parent, ancestor}
use Rattle.meaning.specs.Access.{Attempt, first, second}
use Rattle.meaning.specs.Shape.{Form}
use Rattle.meaning.specs.Operations.{attempt, addition_steps, read_steps}

-- at the node that is so many levels above the first one of the climb, in the first or the second attempt there, and the place in it from 0
pub record Spot : Type 0 where
  pub level : ℕ
  pub second : Bool
  pub position : ℕ

unfoldable pub attempt_at : Bool → Attempt
attempt_at b = cond b second first

-- how many steps an attempt at x has
unfoldable pub width : Form → ℕ → ℕ
width F x = length (attempt F first x)

-- ---- the walk

unfoldable pub raised : Spot → Spot
raised σ = record { level = suc σ.level; second = σ.second; position = σ.position }

-- the spot of place n in the climb of k levels from x
unfoldable pub spot_in : Form → ℕ → ℕ → ℕ → Spot
spot_in F zero x n = record { level = 0; second = false; position = n }
spot_in F (suc k) x n =
    let w : ℕ = width F (parent x) in
    cond (ltb n w) (record { level = 0; second = false; position = n })
    (cond (ltb n (w + w)) (record { level = 0; second = true; position = n - w })
    (raised (spot_in F k (parent x) (n - (w + w)))))

-- ---- and back

-- how many places the first l levels of the climb from x take
unfoldable pub below : Form → ℕ → ℕ → ℕ
below F zero x = 0
below F (suc l) x = below F l x + (width F (ancestor (suc l) x) + width F (ancestor (suc l) x))

unfoldable pub place_in : Form → ℕ → Spot → ℕ
place_in F x σ = below F σ.level x + (cond σ.second (width F (ancestor (suc σ.level) x)) 0 + σ.position)

-- ---- by step number, which counts from 1

-- how many steps come before the climb
unfoldable pub opened : Form → ℕ → ℕ
opened F p = length (F.shape.opening F.height p)

unfoldable pub spot_of : Form → ℕ → ℕ → Spot
spot_of F p s = spot_in F F.height (leaf_of F.height p) (s - suc (opened F p))

unfoldable pub node_of : Form → ℕ → Spot → ℕ
node_of F p σ = ancestor (suc σ.level) (leaf_of F.height p)

unfoldable pub step_of : Form → ℕ → Spot → ℕ
step_of F p σ = suc (opened F p) + place_in F (leaf_of F.height p) σ

-- the step s of an addition of process p is at that spot
pub record At (F : Form) (p s : ℕ) (σ : Spot) : Type 0 where
  pub level : σ.level < F.height
  pub position : σ.position < width F (node_of F p σ)
  pub step : s ≡ step_of F p σ

-- the spot after the next access of the same attempt; the second attempt's first; the first at the node above
unfoldable pub onward : Spot → Spot
onward σ = record { level = σ.level; second = σ.second; position = suc σ.position }

unfoldable pub again : Spot → Spot
again σ = record { level = σ.level; second = true; position = 0 }

unfoldable pub upward : Spot → Spot
upward σ = record { level = suc σ.level; second = false; position = 0 }

-- how many places an SC that is done with its node passes: "a successful first attempt passes over the places of the second"
unfoldable pub passed : Form → ℕ → Spot → ℕ
passed F p σ = cond σ.second 1 (suc (width F (node_of F p σ)))

-- the number of an operation's last step: its list is as long
unfoldable pub last_step : Form → ℕ → Bool → ℕ
last_step F p adds = cond adds (length (addition_steps F p)) (length read_steps)
