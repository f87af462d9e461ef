-- The accesses of an attempt, over the bounds that the code computes.
use Prim.Native.Nat.{ℕ, suc, ◌+◌, ◌-◌, ◌*◌, ◌^◌, ◌≤◌}
use mathlib.Core.Bool.{Bool, true, false}
use mathlib.Core.Path.{◌≡◌, sym}
use native.Mathlib.Nat.{mul-le-mul_right, pow-suc, mul_comm}
use native.Mathlib.Numerals.{add-one}
use native.Mathlib.Omega.{arith}
use Rattle.recording.specs.declared.Form.{Form as Told}
use Rattle.meaning.specs.Shape.{formed}
use Rattle.spots.specs.Spot.{node_of}
use Rattle.spots.specs.Got.{groups_at}
use Rattle.climb.specs.declared.Spot.{Spot as At}
use Rattle.climb.specs.declared.Group.{Group}
use Rattle.climb.specs.Climb.{spot_is, GroupsOf, GroupOf}
use Rattle.counts.specs.Counts.{Counts, first_under, read_over, stored_over, attempted}
use Rattle.counts.proofs.Laws.{attempted_link, attempted_read, attempted_stored, attempted_failed}

-- the leaves under the node: the first, and that the last is one of the 64
pub record Under (p l lo : ℕ) : Type 0 where
  pub first : lo ≡ first_under (l + 1) p
  pub inside : lo + 2 ^ (l + 1) ≤ 64

both_children : (l : ℕ) → 2 * 2 ^ l ≡ 2 ^ (l + 1)
both_children l = rw (add-one l, pow-suc 2 l) (mul_comm 2 (2 ^ l))

-- those under the first n of its children are among them
pub within_node : {p l lo n k : ℕ} → Under p l lo → n ≤ 2 → k ≡ n * 2 ^ l → lo + k ≤ 64
within_node {l = l} u few e = omega (arith, u.inside, both_children l, mul-le-mul_right (2 ^ l) few)

module _ (f : Told) (p : ℕ) (σ : At) (stored : Bool) (c : Counts) where
  abbrev after : Counts
  after = attempted (groups_at (formed f) p (spot_is σ)) p (spot_is σ) stored c

  pub linked : σ.position ≡ 0 → c ≡ after
  unfolding spot_is
  linked e = sym (attempted_link _ p (spot_is σ) stored c e)

  module _ {lo : ℕ} (u : Under p σ.level lo) where
    pub group_read_lem : {n from to : ℕ} (g : Group) → (σ.position ≡ 0 → ⊥) → σ.position ≤ n → GroupsOf f n → GroupOf f (σ.position - 1) g
        → from ≡ g.from * 2 ^ σ.level → to ≡ (g.from + g.count) * 2 ^ σ.level
        → read_over p σ.level (lo + from) (lo + to) c ≡ after
    unfolding spot_is
    group_read_lem {n} g some h gs at a b =
        let i = σ.position - 1 in
        let x = node_of (formed f) p (spot_is σ) in
        let is : suc i ≡ σ.position = omega arith in
        rw (a, b, u.first, add-one σ.level, at.from x, at.count x)
        (sym (attempted_read _ p (spot_is σ) stored c i (sym is) (omega (arith, gs.is x))))

    pub node_taken_in : {n half : ℕ} → (σ.position ≤ n → ⊥) → GroupsOf f n → stored ≡ true → half ≡ 2 * 2 ^ σ.level
        → stored_over p (suc σ.level) lo (lo + half) c ≡ after
    unfolding spot_is
    node_taken_in past gs t e =
        rw (e, both_children σ.level, u.first, add-one σ.level)
        (sym (attempted_stored _ p (spot_is σ) stored c (omega (arith, past, gs.is (node_of (formed f) p (spot_is σ)))) t))

  pub node_kept : {n : ℕ} → (σ.position ≤ n → ⊥) → GroupsOf f n → stored ≡ false → c ≡ after
  unfolding spot_is
  node_kept past gs t = sym (attempted_failed _ p (spot_is σ) stored c (omega (arith, past, gs.is (node_of (formed f) p (spot_is σ)))) t)
