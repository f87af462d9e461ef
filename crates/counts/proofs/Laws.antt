-- What callers want of `between` and of `counts_after`: what each is in each of its cases; and that the contract of `take_in` allows one outcome.
use Prim.Native.Nat.{ℕ, suc, ◌-◌, ◌≤◌, ◌<◌}
use mathlib.Core.Bool.{Bool, true, false, cond, ◌&&◌}
use mathlib.Core.List.{List, []}
use mathlib.Core.Path.{◌≡◌, refl, sym, ap, ◌∙◌, fun_ext}
use native.Mathlib.Omega.{arith}
use lib.ListN.{length, get_or}
use lib.Seq.{ext_get_or}
use lib.Dec.{leb, ltb, eqb}
use borrow.Author.Tests.{ltb-true, ltb-false, leb-true, leb-false, le-leb, lt-leb, ne_eqb}
use Rattle.meaning.specs.Shape.{Group, the_one, Form}
use Rattle.spots.specs.Spot.{Spot}
use Rattle.spots.specs.Got.{groups_at}
use Rattle.arrays.specs.Arrays.{as_rows, between}
use Rattle.meaning.proofs.Updates.{upd_other}
use Rattle.arrays.proofs.Laws.{same_list}
use Rattle.counts.specs.declared.Counts.{Counts as Held}
use Rattle.counts.specs.Counts.{Counts, levels, counts_of, wrote, read_over, stored_over, group_read, node_stored, attempted, counts_after}

module _ (lo hi : ℕ) (g f : ℕ → ℕ) where
  -- by whether q lies from lo up to hi, with `between` already computed
  pub between_cases : (P : ℕ → Type 0) (q : ℕ) → (lo ≤ q → q < hi → P (g q)) → ((lo ≤ q → q < hi → ⊥) → P (f q)) → P (between lo hi g f q)
  unfolding between
  between_cases P q inside outside = go (leb lo q) (ltb q hi) refl refl
    where
      go : (a b : Bool) → leb lo q ≡ a → ltb q hi ≡ b → P (cond (a && b) (g q) (f q))
      go true true l h = inside (leb-true lo q l) (ltb-true q hi h)
      go true false l h = outside (λ _ i. omega (arith, ltb-false q hi h))
      go false b l h = outside (λ i _. omega (arith, leb-false lo q l))

  pub between_in : (q : ℕ) → lo ≤ q → q < hi → between lo hi g f q ≡ g q
  between_in q l h = between_cases (λ (x : ℕ). x ≡ g q) q (λ _ _. refl) (λ n. absurd (n l h))

  pub between_out : (q : ℕ) → (lo ≤ q → q < hi → ⊥) → between lo hi g f q ≡ f q
  between_out q n = between_cases (λ (x : ℕ). x ≡ f q) q (λ l h. absurd (n l h)) (λ _. refl)

  -- a function that has g's values from lo up to hi and f's elsewhere
  pub between_is : (h : ℕ → ℕ) → ((q : ℕ) → lo ≤ q → q < hi → h q ≡ g q) → ((q : ℕ) → (lo ≤ q → q < hi → ⊥) → h q ≡ f q) → h ≡ between lo hi g f
  between_is h inside outside = fun_ext (λ q. between_cases (λ (x : ℕ). h q ≡ x) q (inside q) (outside q))

-- an access of an attempt, by its position
module _ (gs : List Group) (p : ℕ) (σ : Spot) (stored : Bool) (c : Counts) where
  pub attempted_link : σ.position ≡ 0 → attempted gs p σ stored c ≡ c
  unfolding attempted
  attempted_link e = rw e

  -- the group i is read at position i + 1
  pub attempted_read : (i : ℕ) → σ.position ≡ suc i → i < length gs → attempted gs p σ stored c ≡ group_read (get_or gs i (the_one 0)) p σ.level c
  unfolding attempted
  attempted_read i e h =
      let before : σ.position - 1 ≡ i = omega (arith, e) in
      rw (ne_eqb σ.position 0 (omega (arith, e)), le-leb σ.position (length gs) (omega (arith, e, h)), before)

  pub attempted_stored : length gs < σ.position → stored ≡ true → attempted gs p σ stored c ≡ node_stored p σ.level c
  unfolding attempted
  attempted_stored h t = rw (ne_eqb σ.position 0 (omega arith), lt-leb σ.position (length gs) h, t)

  pub attempted_failed : length gs < σ.position → stored ≡ false → attempted gs p σ stored c ≡ c
  unfolding attempted
  attempted_failed h t = rw (ne_eqb σ.position 0 (omega arith), lt-leb σ.position (length gs) h, t)

-- a step of an addition, by its number
module _ (F : Form) (p s : ℕ) (σ : Spot) (stored : Bool) (c : Counts) where
  pub after_start : s < 2 → counts_after F p s σ stored c ≡ c
  unfolding counts_after
  after_start h = rw (ne_eqb s 2 (omega arith), lt-leb 3 s (omega arith))

  pub after_write : s ≡ 2 → counts_after F p s σ stored c ≡ wrote p c
  unfolding counts_after
  after_write e = rw e

  pub after_attempt : 3 ≤ s → counts_after F p s σ stored c ≡ attempted (groups_at F p σ) p σ stored c
  unfolding counts_after
  after_attempt h = rw (ne_eqb s 2 (omega arith), le-leb 3 s h)

  -- what the other processes have read stays
  pub after_others_read : (r : ℕ) → (r ≡ p → ⊥) → (counts_after F p s σ stored c).read r ≡ c.read r
  unfolding counts_after attempted wrote read_over stored_over
  after_others_read r n =
      let gs = groups_at F p σ in
      either (eqb s 2) _ _ refl
      (either (leb 3 s) _ _
      (either (eqb σ.position 0) _ _ refl
      (either (leb σ.position (length gs)) _ _ (upd_other _ p _ r n) (either stored _ _ refl refl)))
      refl)
    where
      either : (t : Bool) (a b : Counts) → a.read r ≡ c.read r → b.read r ≡ c.read r → (cond t a b).read r ≡ c.read r
      either true a b x y = x
      either false a b x y = y

-- ---- one outcome

-- arrays of rows that are as many and as long, and have one function, are one
pub record SameSizes (xs ys : List (List ℕ)) : Type 0 where
  pub rows : length xs ≡ length ys
  pub each : (i : ℕ) → length (get_or xs i []) ≡ length (get_or ys i [])

same_rows_list : {xs ys : List (List ℕ)} → SameSizes xs ys → as_rows xs ≡ as_rows ys → xs ≡ ys
unfolding as_rows
same_rows_list {xs} {ys} s e = ext_get_or [] xs ys s.rows (λ i _. same_list (get_or xs i []) (get_or ys i []) (s.each i) (ap (λ f. f i) e))

-- Two outcomes with the counts that the contract of `take_in` says have the same arrays; their sizes are those of their types, and of the
-- rows that were lent.
pub counts_one : (c₁ c₂ : Held) (c : Counts)
    → SameSizes c₁.in_nodes c₂.in_nodes → length c₁.written ≡ length c₂.written → SameSizes c₁.read.now c₂.read.now
    → counts_of c₁ ≡ c → counts_of c₂ ≡ c
    → (c₁.in_nodes ≡ c₂.in_nodes) × (c₁.written ≡ c₂.written) × (c₁.read.now ≡ c₂.read.now)
unfolding counts_of levels
counts_one c₁ c₂ c nodes leaves reads x y =
    let e = x ∙ sym y in
    let at : (l : ℕ) → levels c₁.written c₁.in_nodes l ≡ levels c₂.written c₂.in_nodes l = λ l. ap (λ (d : Counts). d.in_node l) e in
    (same_rows_list nodes (fun_ext (λ l. at (suc l))), same_list c₁.written c₂.written leaves (at 0), same_rows_list reads (ap (λ (d : Counts). d.read) e))
