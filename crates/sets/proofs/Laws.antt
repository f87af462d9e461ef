-- Laws of the sets of processes: a number keeps one set, what `with` and `without` leave in place, and how a count changes with them.
use Prim.Native.Nat.{ℕ, zero, suc, ◌+◌, ◌^◌, ◌≤◌, ◌<◌}
use mathlib.Core.Bool.{Bool, true, false, cond, or-true, or-false, and-true, and-false, true≢false}
use mathlib.Core.Path.{◌≡◌, refl, sym, ap, ap₂, ◌∙◌, fun_ext}
use native.Mathlib.Decide.{ℕ_discrete, le_ind}
use native.Mathlib.Nat.{lt_of_not-le}
use native.Mathlib.Omega.{arith}
use borrow.Author.Tests.{eq-eqb, ne_eqb, lt-ltb, le-ltb}
use lib.Dec.{eqb}
use Rattle.std.specs.Int.{bit_at}
use Rattle.std.proofs.lemmas.Bool.Decides.{nat_tests}
use Rattle.std.proofs.lemmas.Nat.Bits.{same_from_bits_below, bit_at-lt, bit_at-zero, bit_at_above}
use Rattle.sets.specs.Processes.{nobody, with, without, count_below, is_in}

-- ---- numbers as sets

same_bit : (x y : ℕ) → x < 2 → y < 2 → eqb x 1 ≡ eqb y 1 → x ≡ y
same_bit x y h l e = grind (arith, nat_tests)

pub same_set : (a b : ℕ) → a < 2 ^ 64 → b < 2 ^ 64 → is_in a ≡ is_in b → a ≡ b
unfolding is_in
same_set a b h l e = same_from_bits_below 64 a b h l (λ q _. same_bit (bit_at a q) (bit_at b q) (bit_at-lt a q) (bit_at-lt b q) (ap (λ f. f q) e))

pub is_in_empty : is_in 0 ≡ nobody
unfolding is_in nobody
is_in_empty = fun_ext (λ q. ap (λ x. eqb x 1) (bit_at-zero q))

pub is_in_beyond : (b p : ℕ) → b < 2 ^ 64 → 64 ≤ p → is_in b p ≡ false
unfolding is_in
is_in_beyond b p h l = ap (λ x. eqb x 1) (bit_at_above b 64 p h l)

pub is_in-below : (b p : ℕ) → b < 2 ^ 64 → is_in b p ≡ true → p < 64
is_in-below b p h e = lt_of_not-le (λ l. true≢false (sym e ∙ is_in_beyond b p h l))

-- ---- one process more, one less

pub with_same : (p : ℕ) (s : ℕ → Bool) → p < 64 → with p s p ≡ true
unfolding with
with_same p s h = rw (eq-eqb p p refl, lt-ltb p 64 h) (or-true (s p))

pub with_other : (p q : ℕ) (s : ℕ → Bool) → (q ≡ p → ⊥) → with p s q ≡ s q
unfolding with
with_other p q s n = rw (ne_eqb q p n) (or-false (s q))

pub with_beyond : (p : ℕ) (s : ℕ → Bool) → 64 ≤ p → with p s ≡ s
unfolding with
with_beyond p s h = fun_ext (λ q. rw (le-ltb p 64 h, and-false) (or-false (s q)))

pub without_same : (p : ℕ) (s : ℕ → Bool) → without p s p ≡ false
unfolding without
without_same p s = rw (eq-eqb p p refl) (and-false (s p))

pub without_other : (p q : ℕ) (s : ℕ → Bool) → (q ≡ p → ⊥) → without p s q ≡ s q
unfolding without
without_other p q s n = rw (ne_eqb q p n) (and-true (s q))

-- sets that agree at p and at every other process are equal
at_all : (p : ℕ) (s t : ℕ → Bool) → s p ≡ t p → ((q : ℕ) → (q ≡ p → ⊥) → s q ≡ t q) → s ≡ t
at_all p s t e f = fun_ext (λ q. go q (ℕ_discrete q p))
  where
    go : (q : ℕ) → Dec (q ≡ p) → s q ≡ t q
    go q (yes i) = ap s i ∙ e ∙ ap t (sym i)
    go q (no n) = f q n

pub is_with : (p : ℕ) (s t : ℕ → Bool) → p < 64 → t p ≡ true → ((q : ℕ) → (q ≡ p → ⊥) → t q ≡ s q) → t ≡ with p s
is_with p s t h e f = at_all p t (with p s) (e ∙ sym (with_same p s h)) (λ q n. f q n ∙ sym (with_other p q s n))

pub is_without : (p : ℕ) (s t : ℕ → Bool) → t p ≡ false → ((q : ℕ) → (q ≡ p → ⊥) → t q ≡ s q) → t ≡ without p s
is_without p s t e f = at_all p t (without p s) (e ∙ sym (without_same p s)) (λ q n. f q n ∙ sym (without_other p q s n))

-- ---- counts

pub count_same : (k : ℕ) (s t : ℕ → Bool) → ((q : ℕ) → q < k → s q ≡ t q) → count_below k s ≡ count_below k t
unfolding count_below
count_same zero s t f = refl
count_same (suc k) s t f = ap₂ (λ (n : ℕ) (b : Bool). n + cond b 1 0) (count_same k s t (λ q h. f q (omega arith))) (f k (omega arith))

-- two sets that differ at p alone
pub count_differ : (k p : ℕ) (s t : ℕ → Bool) → p < k → s p ≡ false → t p ≡ true → ((q : ℕ) → (q ≡ p → ⊥) → t q ≡ s q)
    → count_below k t ≡ suc (count_below k s)
unfolding count_below
count_differ zero p s t h e d f = omega arith
count_differ (suc k) p s t h e d f =
    elim (ℕ_discrete k p) [
      | yes i ↦ rw (ap s i ∙ e, ap t i ∙ d) (omega (arith, count_same k t s (λ q l. f q (omega arith))))
      | no n ↦ rw (f k n) (omega (arith, count_differ k p s t (omega arith) e d f))
    ]

pub count_with : (k p : ℕ) (s : ℕ → Bool) → p < k → p < 64 → s p ≡ false → count_below k (with p s) ≡ suc (count_below k s)
count_with k p s h l e = count_differ k p s (with p s) h e (with_same p s l) (λ q n. with_other p q s n)

pub count_without : (k p : ℕ) (s : ℕ → Bool) → p < k → s p ≡ true → suc (count_below k (without p s)) ≡ count_below k s
count_without k p s h e = sym (count_differ k p (without p s) s h (without_same p s) e (λ q n. sym (without_other p q s n)))

one_le : (b : Bool) → cond b 1 0 ≤ 1
one_le true = omega arith
one_le false = omega arith

pub count_le : (k : ℕ) (s : ℕ → Bool) → count_below k s ≤ k
unfolding count_below
count_le zero s = omega arith
count_le (suc k) s = omega (arith, count_le k s, one_le (s k))

pub count_beyond : (n k : ℕ) (s : ℕ → Bool) → n ≤ k → ((q : ℕ) → n ≤ q → s q ≡ false) → count_below k s ≡ count_below n s
unfolding count_below
count_beyond n k s h f = le_ind (λ (m : ℕ). count_below m s ≡ count_below n s) refl (λ m l e. rw (f m l) (omega arith)) k h
