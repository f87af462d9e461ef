-- The nodes of a climb are inside the arrays, and a step number has one spot.
use Prim.Native.Nat.{ℕ, suc, ◌+◌, ◌/◌, ◌^◌, ◌≤◌, ◌<◌}
use native.Mathlib.Nat.{le-div_iff_mul-le}
use native.Mathlib.Numerals.{add-one, one-add}
use native.Mathlib.Omega.{arith}
use mathlib.Core.Path.{◌≡◌, sym, ◌∙◌}
use lib.Pow.{pow_pos, pow_mono, shr-shr, shr_le}
use Rattle.meaning.specs.Tree.{processes, leaf_of, ancestor}
use Rattle.spots.proofs.Laws.{ancestor_div}
use Rattle.recording.specs.declared.Form.{Form}
use Rattle.climb.specs.Climb.{spot_is, LeafOf, CanClimb, NodeOf, SpotAt}
use Rattle.climb.specs.declared.Spot.{Spot}

ancestor_low : (l h p : ℕ) → l ≤ h → 1 ≤ ancestor l (leaf_of h p)
unfolding leaf_of processes
ancestor_low l h p below = rw ancestor_div ((le-div_iff_mul-le (pow_pos l)).1 (omega (arith, pow_mono below)))

ancestor_high : (l c : ℕ) → c < 128 → ancestor (suc l) c < 64
ancestor_high l c high = rw (ancestor_div, ← one-add l, ← shr-shr c 1 l) (omega (arith, shr_le (c / 2) l))

pub node_of : (h p l c : ℕ) → CanClimb h p l → LeafOf h p c → NodeOf h p l (c / 2 ^ (l + 1))
node_of h p l c can leaf =
    let is : c / 2 ^ (l + 1) ≡ ancestor (suc l) (leaf_of h p) = rw (leaf.is, add-one, ancestor_div) in
    record {
      is = is;
      low = rw is (ancestor_low (suc l) h p (omega (arith, can.level)));
      high = rw (is, ← leaf.is) (ancestor_high l c leaf.high);
    }

same_spot : (σ τ : Spot) → spot_is σ ≡ spot_is τ → σ ≡ τ
unfolding spot_is
same_spot σ τ e = λ i. record { level = (e i).level; position = (e i).position; second = (e i).second }

pub one_spot : (f : Form) (p s : ℕ) (σ τ : Spot) → SpotAt f p s σ → SpotAt f p s τ → σ ≡ τ
one_spot f p s σ τ a b = same_spot σ τ (a.is ∙ sym b.is)
