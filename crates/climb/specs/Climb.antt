-- The numbers of a climb as the code has them: forms, spots and groups, and which node a spot is at.
use Rattle.std.specs.Prelude.{ℕ, suc, ◌+◌, ◌^◌, ◌≤◌, ◌<◌, ◌≡◌, false, length, get_or}
use Rattle.recording.specs.declared.Form.{Form as Told}
use Rattle.meaning.specs.Tree.{leaf_of, ancestor}
use Rattle.meaning.specs.Shape.{the_one, formed, highest_shape}
use Rattle.meaning.specs.Layout.{highest_tree}
use Rattle.spots.specs.Spot.{Spot, spot_of}
use Rattle.climb.specs.declared.Spot.{Spot as At}
use Rattle.climb.specs.declared.Group.{Group}

-- a height of 1 to 6, and a shape that is taken
pub record Known (f : Told) : Type 0 where
  pub low : 1 ≤ f.height
  pub high : f.height ≤ highest_tree
  pub shape : f.shape ≤ highest_shape

-- the spot that the code's is
unfoldable pub spot_is : At → Spot
spot_is σ = record { level = σ.level; second = σ.second; position = σ.position }

-- where idle processes and those that have not begun to climb are
unfoldable pub nowhere : At
nowhere = record { level = 0; second = false; position = 0 }

pub record LeafOf (h p c : ℕ) : Type 0 where
  pub is : c ≡ leaf_of h p
  pub high : c < 128

-- a process of the tree, and a level of its climb
pub record CanClimb (h p l : ℕ) : Type 0 where
  pub high : h ≤ highest_tree
  pub process : p < 2 ^ h
  pub level : l < h

-- the node that many levels above the first of the climb
pub record NodeOf (h p l x : ℕ) : Type 0 where
  pub is : x ≡ ancestor (suc l) (leaf_of h p)
  pub low : 1 ≤ x
  pub high : x < 64

-- how many groups an attempt reads, at whatever node; and the one that it reads at a position, from 1 on
pub record GroupsOf (f : Told) (n : ℕ) : Type 0 where
  pub is : (x : ℕ) → n ≡ length ((formed f).shape.groups f.height x)
  pub few : n ≤ 2

pub record GroupOf (f : Told) (i : ℕ) (g : Group) : Type 0 where
  pub from : (x : ℕ) → g.from ≡ (get_or ((formed f).shape.groups f.height x) i (the_one 0)).from
  pub count : (x : ℕ) → g.count ≡ (get_or ((formed f).shape.groups f.height x) i (the_one 0)).count
  pub some : 1 ≤ g.count
  pub inside : g.from + g.count ≤ 2

-- the spot of a step number, by the walk; and that it is in the tree
pub record SpotAt (f : Told) (p s : ℕ) (σ : At) : Type 0 where
  pub is : spot_is σ ≡ spot_of (formed f) p s
  pub level : σ.level < f.height
