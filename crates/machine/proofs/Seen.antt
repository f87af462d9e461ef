-- What is seen of the two children: nothing at first, and after a read of some of them.
use Rattle.std.proofs.Common.{◌≡◌, ℕ, zero, suc, ◌+◌, ◌<◌, ◌≤◌, true, false, cond, ◌&&◌, ltb, leb, ◌⊎◌, refl, inl, inr, arith, le-ltb, lt-ltb, ne_eqb, le-leb}
use mathlib.Core.Path.{fun_ext}
use borrow.Author.Tests.{lt-leb}
use Rattle.machine.specs.Arrays.{seen_by}
use Rattle.machine.specs.declared.Children.{Children}

-- there is no third child
seen_else : (s : Children) (c : ℕ) → 2 ≤ c → seen_by s c ≡ 0
unfolding seen_by
seen_else s c past = rw (ne_eqb c 0 (λ e. omega (arith, e, past)), ne_eqb c 1 (λ e. omega (arith, e, past)))

abbrev none : Children
none = record { left = 0; right = 0 }

pub seen_none : seen_by none ≡ (λ (c : ℕ). 0)
unfolding seen_by
seen_none = fun_ext go
  where
    go : (c : ℕ) → seen_by none c ≡ 0
    go zero = refl
    go (suc zero) = refl
    go (suc (suc c)) = seen_else none (suc (suc c)) (omega arith)

-- what is kept of a child: the value, where it was read, or what was kept
abbrev pub Keeps : Type 0 → ℕ → ℕ → ℕ → Type 0
Keeps read new value old = (read × (new ≡ value)) ⊎ ((read → ⊥) × (new ≡ old))

module _ (from count : ℕ) (some : 1 ≤ count) (inside : from + count ≤ 2) (value : ℕ → ℕ) (s s' : Children) where
  has : (c : ℕ) → from ≤ c → c < from + count → (leb from c && ltb c (from + count)) ≡ true
  has c low high = rw (le-leb from c low, lt-ltb c (from + count) high)

  lower : (c : ℕ) → c < from → (leb from c && ltb c (from + count)) ≡ false
  lower c low = rw (lt-leb from c low)

  higher : (c : ℕ) → from ≤ c → from + count ≤ c → (leb from c && ltb c (from + count)) ≡ false
  higher c low high = rw (le-leb from c low, le-ltb c (from + count) high)

  left_seen : Keeps (from ≡ 0) s'.left (value 0) s.left → s'.left ≡ cond (leb from 0 && ltb 0 (from + count)) (value 0) s.left
  left_seen (inl (e, v)) = rw (has 0 (omega (arith, e)) (omega (arith, some))) v
  left_seen (inr (n, v)) = rw (lower 0 (omega (arith, n))) v

  right_seen : Keeps (from + count ≡ 2) s'.right (value 1) s.right → s'.right ≡ cond (leb from 1 && ltb 1 (from + count)) (value 1) s.right
  right_seen (inl (e, v)) = rw (has 1 (omega (arith, some, e)) (omega (arith, e))) v
  right_seen (inr (n, v)) = rw (higher 1 (omega (arith, some, inside)) (omega (arith, n, inside))) v

  pub looked : Keeps (from ≡ 0) s'.left (value 0) s.left → Keeps (from + count ≡ 2) s'.right (value 1) s.right
      → seen_by s' ≡ (λ (c : ℕ). cond (leb from c && ltb c (from + count)) (value c) (seen_by s c))
  unfolding seen_by
  looked left right = fun_ext go
    where
      go : (c : ℕ) → seen_by s' c ≡ cond (leb from c && ltb c (from + count)) (value c) (seen_by s c)
      go zero = left_seen left
      go (suc zero) = right_seen right
      go (suc (suc c)) =
          rw (higher (suc (suc c)) (omega (arith, some, inside)) (omega (arith, inside)), seen_else s' (suc (suc c)) (omega arith), seen_else s (suc (suc c)) (omega arith))
