-- What a pass over a drawer keeps from one recording to the next.
use Rattle.std.specs.Prelude.{ℕ, ◌+◌, ◌≤◌, ◌<◌, ◌≡◌, Result, OnOk}
use Rattle.replay_drawer.specs.declared.Held.{Held}
use Rattle.replay_drawer.specs.declared.Pass.{Pass}
use Rattle.replay_drawer.specs.declared.Stop.{Stop}

-- what a window of so many bytes holds begins at a place or before it
pub record Holds (room at : ℕ) (h : Held) : Type 0 where
  pub begins : h.from ≤ at
  pub within : h.size ≤ room

-- a pass over a drawer
pub record Goes (p : Pass) : Type 0 where
  pub short : p.size ≤ 16777216
  pub inside : p.at ≤ p.size
  pub few : p.number ≤ p.at
  pub part : Holds 131072 p.at p.held

-- a recording more is printed
pub record Prints (p q : Pass) (r : Result (Unit {0}) Stop) : Type 0 where
  pub same : (q.at ≡ p.at) × (q.size ≡ p.size)
  pub part : Holds 131072 p.at q.held
  pub next : OnOk r (q.number ≡ p.number + 1)

-- the pass is further on
pub record Turns (p q : Pass) (r : Result (Unit {0}) Stop) : Type 0 where
  pub same : q.size ≡ p.size
  pub further : OnOk r (Goes q × (p.at < q.at))
