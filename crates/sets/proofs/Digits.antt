-- The digits of a number, lowest first: `is_in b 0` is b's lowest digit and `is_in b (suc q)` a digit of b / 2, so each law goes by induction.
use Prim.Native.Nat.{ℕ, zero, suc, ◌+◌, ◌/◌, ◌%◌, ◌^◌, ◌<◌}
use mathlib.Core.Bool.{Bool, true, false, cond}
use mathlib.Core.Path.{◌≡◌, refl, sym, ap, ap₂, ◌∙◌, fun_ext}
use native.Mathlib.Nat.{pow-suc}
use native.Mathlib.Omega.{arith}
use borrow.Author.Tests.{eqb-true, eqb-false}
use lib.Arith.{lt-one}
use lib.Count.{ones, ones_in, ones_step}
use lib.Dec.{eqb}
use Rattle.std.proofs.lemmas.Nat.Bits.{bit_at_lowest, bit_at-suc}
use Rattle.sets.specs.Processes.{is_in, count_below}

lowest : (b : ℕ) → is_in b 0 ≡ eqb (b % 2) 1
unfolding is_in
lowest b = ap (λ x. eqb x 1) (bit_at_lowest b)

pub rest : (b q : ℕ) → is_in b (suc q) ≡ is_in (b / 2) q
unfolding is_in
rest b q = ap (λ x. eqb x 1) (bit_at-suc b q)

-- the lowest digit as a number
pub unit : (b : ℕ) → cond (is_in b 0) 1 0 ≡ b % 2
unit b = go (is_in b 0) refl
  where
    go : (t : Bool) → is_in b 0 ≡ t → cond t 1 0 ≡ b % 2
    go true e = sym (eqb-true _ _ (sym (lowest b) ∙ e))
    go false e = let n : b % 2 ≡ 1 → ⊥ = eqb-false _ _ (sym (lowest b) ∙ e) in omega arith

-- ---- the ones of a number of k digits

count_low : (k : ℕ) (s : ℕ → Bool) → count_below (suc k) s ≡ cond (s 0) 1 0 + count_below k (λ q. s (suc q))
unfolding count_below
count_low zero s = omega arith
count_low (suc k) s = omega (arith, count_low k s)

pub ones_count : (k b : ℕ) → b < 2 ^ k → ones b ≡ count_below k (is_in b)
unfolding count_below ones ones_in
ones_count zero b h = ap ones (lt-one h)
ones_count (suc k) b h =
    ones_step b
    ∙ ap₂ (λ (x y : ℕ). x + y) (sym (unit b))
    (ones_count k (b / 2) (omega (arith, pow-suc 2 k)) ∙ ap (count_below k) (fun_ext (λ q. sym (rest b q))))
    ∙ sym (count_low k (is_in b))
