-- The size of a piece, by the tests that the code makes.
use Rattle.std.proofs.Common.{ℕ, ◌+◌, ◌-◌, ◌≤◌, ◌<◌, ◌≡◌, ◌⊎◌, inl, inr, refl, Bool, true, false, cond, List, [], ◌∷◌, length, ltb, Option, None, Some, MatchOption, arith}
use denote.Bor.{Bor}
use Rattle.std.specs.List.{IsSplitAt}
use mathlib.Core.Path.{subst⁻¹}
use borrow.Author.Tests.{lt-ltb, le-ltb, lt-leb, ltb-false}
use Rattle.recording.specs.Numbers.{number_at}
use Rattle.meaning.specs.Drawer.{whole, broken, size_at, found_at}
use Rattle.drawer.specs.Cuts.{SizeAt, cuts, ends, IsFirst}

pub size_told : (s : List ℕ) (left follows : ℕ) (r : Option ℕ) → follows ≡ number_at s 1 → r ≡ cond (ltb left (5 + follows)) None (Some (5 + follows)) → r ≡ cond (ltb left (size_at s 0)) None (Some (size_at s 0))
unfolding size_at
size_told s left follows r e d = rw e at d

pub size_found : {s : List ℕ} {at n : ℕ} → SizeAt s at (Some n) → (found_at s at ≡ whole n) × (5 ≤ n) × (at + n ≤ length s)
size_found (cuts e five b) = (e, five, b)

pub size_broken : {s : List ℕ} {at : ℕ} → SizeAt s at None → found_at s at ≡ broken
size_broken (ends e) = e

module _ (s : List ℕ) (five : 5 ≤ length s) where
  whole_or_broken : (t : Bool) → ltb (length s) (size_at s 0) ≡ t → found_at s 0 ≡ cond t broken (whole (size_at s 0))
  unfolding found_at
  whole_or_broken t e =
      let same : length s - 0 ≡ length s = omega arith in
      rw (same, lt-leb (length s) 0 (omega arith), le-ltb (length s) 5 five, e)

  least : 5 ≤ size_at s 0
  unfolding size_at
  least = omega arith

  -- the size of the piece at the front of what is left, by the test of what is left
  pub size_first : (r : Option ℕ) → r ≡ cond (ltb (length s) (size_at s 0)) None (Some (size_at s 0)) → SizeAt s 0 r
  size_first r e = subst⁻¹ (SizeAt s 0) e (go (ltb (length s) (size_at s 0)) refl)
    where
      go : (t : Bool) → ltb (length s) (size_at s 0) ≡ t → SizeAt s 0 (cond t None (Some (size_at s 0)))
      go true d = ends (whole_or_broken true d)
      go false d = cuts (whole_or_broken false d) least (omega (arith, ltb-false (length s) (size_at s 0) d))

  pub first_of : (n : ℕ) (r : Option (Bor (List ℕ) × Bor (List ℕ))) → Some n ≡ cond (ltb (length s) (size_at s 0)) None (Some (size_at s 0))
      → MatchOption r (length s < n) (λ p. IsSplitAt s n p.0.now p.1.now) → MatchOption r (s ≡ [] ⊎ SizeAt s 0 None) (λ p. IsFirst s p.0.now p.1.now)
  first_of n None e w = absurd (omega (arith, (size_found (size_first (Some n) e)).2))
  first_of n (Some (piece, after)) e w =
      let same : length piece.now ≡ n = w.3 in
      record { size = subst⁻¹ (λ k. SizeAt s 0 (Some k)) same (size_first (Some n) e); parted = subst⁻¹ (λ k. IsSplitAt s k piece.now after.now) same w }

pub few_left : (s : List ℕ) → length s < 5 → (s ≡ [] ⊎ SizeAt s 0 None)
unfolding found_at
few_left [] b = inl refl
few_left (x ∷ l) b =
    let some : length (x ∷ l) - 0 ≡ length (x ∷ l) = omega arith in
    inr (ends (rw (some, lt-leb (length (x ∷ l)) 0 (omega arith), lt-ltb (length (x ∷ l)) 5 b)))
