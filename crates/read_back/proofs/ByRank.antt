-- A list without doubles is made again from the positions of its elements.
use Prim.Native.Nat.{ℕ, zero, suc, ◌≤◌, ◌<◌}
use native.Mathlib.Omega.{arith}
use mathlib.Core.Path.{◌≡◌, refl, sym, ap, ap₂, ◌∙◌}
use mathlib.Core.Bool.{Bool, true, false, cond}
use mathlib.Core.List.{List, [], ◌∷◌, ◌++◌, append-nil, Memᴰ}
use lib.ListN.{length, get_or, take}
use lib.Seq.{take-suc, take_all}
use lib.Dec.{eqb, ltb}
use borrow.Author.Tests.{eqb-true, eqb-false, eq-eqb, ne_eqb, ltb-true, ltb-false}
use Rattle.sets.specs.Processes.{count_below}
use Rattle.sets.proofs.Laws.{count_differ, count_beyond, count_le}
use Rattle.meaning.specs.TakenIn.{further, position_of}
use Rattle.taken.proofs.Lists.{Distinct, nothing, another, listed_some, position_le}
use Rattle.read_back.specs.ReadBack.{with_rank, by_rank}

-- ---- the rows of one rank

module _ (rank : ℕ → ℕ) (r : ℕ) where
  with_none : (m : ℕ) → ((i : ℕ) → i < m → rank i ≡ r → ⊥) → with_rank rank r m ≡ []
  unfolding with_rank
  with_none zero n = refl
  with_none (suc m) n = rw (ne_eqb (rank m) r (n m (omega arith)), with_none m (λ i b. n i (omega arith)))

  with_one : (m i : ℕ) → i < m → rank i ≡ r → ((j : ℕ) → j < m → rank j ≡ r → j ≡ i) → with_rank rank r m ≡ i ∷ []
  unfolding with_rank
  with_one zero i b e only = absurd (omega arith)
  with_one (suc m) i b e only = go (eqb (rank m) r) refl (with_one m i)
    where
      go : (t : Bool) → eqb (rank m) r ≡ t → (i < m → rank i ≡ r → ((j : ℕ) → j < m → rank j ≡ r → j ≡ i) → with_rank rank r m ≡ i ∷ []) → with_rank rank r m ++ cond t (m ∷ []) [] ≡ i ∷ []
      go true d ih =
          let last = only m (omega arith) (eqb-true (rank m) r d) in
          ap₂ (λ (l : List ℕ) (j : ℕ). l ++ (j ∷ [])) (with_none m (λ j c f. omega (arith, only j (omega arith) f, last))) last
      go false d ih =
          let other : i ≡ m → ⊥ = λ z. eqb-false (rank m) r d (ap rank (sym z) ∙ e) in
          append-nil (with_rank rank r m) ∙ ih (omega arith) e (λ j c f. only j (omega arith) f)

-- ---- positions

-- the element at a position
position_at : (j : ℕ) (l : List ℕ) (n : ℕ) → position_of j l ≡ suc n → j ≡ get_or l n 0
unfolding position_of further
position_at j [] n e = absurd (omega arith)
position_at j (x ∷ l) n e = go (eqb j x) refl (position_of j l) refl n e (position_at j l)
  where
    go : (t : Bool) → eqb j x ≡ t → (k : ℕ) → position_of j l ≡ k → (n : ℕ) → cond t 1 (further k) ≡ suc n → ((n : ℕ) → position_of j l ≡ suc n → j ≡ get_or l n 0) → j ≡ get_or (x ∷ l) n 0
    go true d k f zero e ih = eqb-true j x d
    go true d k f (suc n) e ih = absurd (omega arith)
    go false d zero f n e ih = absurd (omega arith)
    go false d (suc k) f zero e ih = absurd (omega arith)
    go false d (suc k) f (suc n) e ih = ih n (f ∙ omega arith)

mem_at : (l : List ℕ) (n : ℕ) → n < length l → Memᴰ (get_or l n 0) l
mem_at [] n b = absurd (omega arith)
mem_at (x ∷ l) zero b = Memᴰ.head refl
mem_at (x ∷ l) (suc n) b = Memᴰ.tail (mem_at l n (omega arith))

at_position : {l : List ℕ} → Distinct l → (n : ℕ) → n < length l → position_of (get_or l n 0) l ≡ suc n
unfolding position_of further
at_position nothing n b = absurd (omega arith)
at_position (another {i = x} {is = l} z d) zero b = rw (eq-eqb x x refl)
at_position (another {i = x} {is = l} z d) (suc n) b =
    rw (ne_eqb (get_or l n 0) x (λ e. listed_some (mem_at l n (omega arith)) (ap (λ (j : ℕ). position_of j l) e ∙ z)), at_position d n (omega arith))

-- ---- a list without doubles of numbers below m has at most m

abbrev some : ℕ → Bool
some zero = false
some (suc k) = true

abbrev is_listed : List ℕ → ℕ → Bool
is_listed l i = some (position_of i l)

listed_more : (i j : ℕ) (l : List ℕ) → (j ≡ i → ⊥) → is_listed (i ∷ l) j ≡ is_listed l j
unfolding position_of further
listed_more i j l n = rw (ne_eqb j i n) (go (position_of j l))
  where
    go : (k : ℕ) → some (further k) ≡ some k
    go zero = refl
    go (suc k) = refl

listed_count : (m : ℕ) {l : List ℕ} → Distinct l → ((i : ℕ) → Memᴰ i l → i < m) → count_below m (is_listed l) ≡ length l
unfolding position_of count_below
listed_count m nothing b = count_beyond 0 m (is_listed []) (omega arith) (λ q h. refl)
listed_count m (another {i} {is} z d) b =
    count_differ m i (is_listed is) (is_listed (i ∷ is)) (b i (Memᴰ.head refl)) (ap some z) (rw (eq-eqb i i refl)) (λ q n. listed_more i q is n)
    ∙ ap suc (listed_count m d (λ j n. b j (Memᴰ.tail n)))

pub few : (m : ℕ) {l : List ℕ} → Distinct l → ((i : ℕ) → Memᴰ i l → i < m) → length l ≤ m
few m {l} d b = omega (arith, listed_count m d b, count_le m (is_listed l))

-- ---- the list again

module _ (m : ℕ) (l : List ℕ) (d : Distinct l) (known : (i : ℕ) → Memᴰ i l → i < m) (rank : ℕ → ℕ) (ranks : (i : ℕ) → i < m → rank i ≡ position_of i l) where
  first_ranks : (n : ℕ) → by_rank rank m n ≡ take n l
  unfolding by_rank
  first_ranks zero = refl
  first_ranks (suc n) = go (ltb n (length l)) refl (first_ranks n)
    where
      go : (t : Bool) → ltb n (length l) ≡ t → by_rank rank m n ≡ take n l → by_rank rank m n ++ with_rank rank (suc n) m ≡ take (suc n) l
      go true e ih =
          let b = ltb-true n (length l) e in
          let i : ℕ = get_or l n 0 in
          let k = known i (mem_at l n b) in
          ap₂ (λ (x y : List ℕ). x ++ y) ih
          (with_one rank (suc n) m i k (ranks i k ∙ at_position d n b) (λ j c f. position_at j l n (sym (ranks j c) ∙ f)))
          ∙ sym (take-suc l n 0 b)
      go false e ih =
          let b = ltb-false n (length l) e in
          ap₂ (λ (x y : List ℕ). x ++ y) ih (with_none rank (suc n) m (λ i c f. omega (arith, ranks i c, position_le i l)))
          ∙ append-nil (take n l) ∙ take_all n l b ∙ sym (take_all (suc n) l (omega arith))

  pub by_rank_lem : by_rank rank m m ≡ l
  by_rank_lem = first_ranks m ∙ take_all m l (few m d known)
