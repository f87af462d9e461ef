-- What a start makes of each number, and the loop that does it: the numbers before the next one are raised, the others as they were.
use Prim.Native.Nat.{ℕ, ◌+◌, ◌-◌, max, ◌≤◌, ◌<◌}
use mathlib.Core.Path.{◌≡◌, refl, ap, ap₂, ◌∙◌, fun_ext}
use mathlib.Core.Bool.{Bool, true, false, cond}
use mathlib.Core.List.{List, map, ◌++◌, append-nil}
use native.Mathlib.Omega.{arith}
use lib.ListN.{length, get_or, take, drop, set, get_or-append, length-append}
use lib.Dec.{ltb}
use borrow.Author.Tests.{eq-eqb, ne_eqb, ltb-true, ltb-false, lt-ltb}
use Rattle.std.proofs.lemmas.List.Edits.{map_over_more}
use Rattle.std.proofs.lemmas.List.{get_or_default, take_all, drop_all, get_or-map, get_or-take, get_or-drop, get_or-append_right, length-map, length-take-le}
use Rattle.meaning.specs.Steps.{upd}
use Rattle.arrays.specs.Arrays.{as_fun}
use Rattle.arrays.proofs.Laws.{fun_set}
use Rattle.contention.specs.Greatest.{raised}

module _ (p c : ℕ) (greatest : ℕ → ℕ) (q : ℕ) where
  pub raised_own : q ≡ p → raised p c greatest q ≡ c
  unfolding raised
  raised_own e = rw (eq-eqb q p e)

  pub raised_other : (q ≡ p → ⊥) → q < 64 → raised p c greatest q ≡ max (greatest q) c
  unfolding raised
  raised_other n h = rw (ne_eqb q p n, lt-ltb q 64 h)

-- ---- the code

-- a turn raises the next number of xs
pub raised_more : (c i v : ℕ) (xs ys : List ℕ) → ys ≡ map (λ x. max x c) (take i xs) ++ drop i xs → length ys ≡ length xs → i < length xs → v ≡ max (get_or ys i 0) c
    → set ys i v ≡ map (λ x. max x c) (take (i + 1) xs) ++ drop (i + 1) xs
raised_more c i v xs ys done sized h e =
    ap (set ys i) e ∙ map_over_more (λ x. max x c) xs ys i _ h done (get_or_default ys i 0 _ (omega arith))

-- the front of 64 is raised, and then p's own is set
pub all_raised : (c p i : ℕ) (before front : List ℕ) → front ≡ map (λ x. max x c) (take i (take 64 before)) ++ drop i (take 64 before)
    → length (take 64 before) ≤ i → p < 64 → 64 ≤ length before
    → as_fun (set (front ++ drop 64 before) p c) ≡ raised p c (as_fun before)
unfolding raised upd as_fun
all_raised c p i before front done end h l =
    fun_set now p c (omega (arith, sized, length-append front (drop 64 before))) ∙ fun_ext (λ j. ap (λ (x : ℕ). upd (λ (y : ℕ). x) p c j) (at j))
  where
    now : List ℕ
    now = front ++ drop 64 before

    e : front ≡ map (λ x. max x c) (take 64 before)
    e = done ∙ ap₂ (λ xs ys. map (λ x. max x c) xs ++ ys) (take_all i _ end) (drop_all i _ end) ∙ append-nil _

    sized : length front ≡ 64
    sized = ap length e ∙ length-map (take 64 before) (λ x. max x c) ∙ length-take-le 64 before l

    at : (j : ℕ) → get_or now j 0 ≡ cond (ltb j 64) (max (get_or before j 0) c) (get_or before j 0)
    at j = go (ltb j 64) refl
      where
        go : (t : Bool) → ltb j 64 ≡ t → get_or now j 0 ≡ cond t (max (get_or before j 0) c) (get_or before j 0)
        go true b =
            let h : j < 64 = ltb-true j 64 b in
            get_or-append front (drop 64 before) 0 j (omega (arith, sized)) ∙ ap (λ xs. get_or xs j 0) e
            ∙ get_or-map (λ x. max x c) (take 64 before) j 0 0 (omega (arith, length-take-le 64 before l)) ∙ ap (λ x. max x c) (get_or-take 64 before j 0 h)
        go false b =
            let h : 64 ≤ j = ltb-false j 64 b in
            get_or-append_right front (drop 64 before) 64 j 0 sized h ∙ get_or-drop 64 before (j - 64) 0 ∙ ap (λ i. get_or before i 0) (omega arith)
