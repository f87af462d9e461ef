-- Lists: a property of every element, what `keep` leaves, where operations stand, and lists without doubles.
use Prim.Native.Nat.{ℕ, zero, suc, ◌+◌, ◌≤◌}
use native.Mathlib.Omega.{arith}
use mathlib.Core.Path.{◌≡◌, refl, sym, ap, ◌∙◌}
use mathlib.Core.Logic.{◌⊎◌, inl, inr, ⊎_elim}
use mathlib.Core.Bool.{Bool, true, false, not, cond, ◌&&◌}
use mathlib.Core.List.Memᴰ
use mathlib.Core.List.{List, [], ◌∷◌, ◌++◌, Memᴰ}
use lib.ListN.{length}
use lib.Dec.{eqb}
use borrow.Author.Tests.{eqb-true, eqb-false, ne_eqb, eq-eqb}
use Rattle.meaning.specs.TakenIn.{keep, further, position_of}
use Rattle.taken.specs.CountIn.{Waiter, operations_of}

-- ---- a property of every element of a list

pub data All {A : Type 0} (P : A → Type 0) : List A → Type 0 where
  none : All P []
  more : {a : A} {l : List A} → P a → All P l → All P (a ∷ l)

module _ {A : Type 0} {P : A → Type 0} where
  pub all_append : {l m : List A} → All P l → All P m → All P (l ++ m)
  all_append none b = b
  all_append (more h a) b = more h (all_append a b)

  pub all_front : (l m : List A) → All P (l ++ m) → All P l
  all_front [] m a = none
  all_front (x ∷ l) m (more h a) = more h (all_front l m a)

  pub all_back : (l m : List A) → All P (l ++ m) → All P m
  all_back [] m a = a
  all_back (x ∷ l) m (more h a) = all_back l m a

  pub all_head : {a : A} {l : List A} → All P (a ∷ l) → P a
  all_head (more h a) = h

  pub all_keep : (p : A → Bool) {l : List A} → All P l → All P (keep p l)
  unfolding keep
  all_keep p none = none
  all_keep p (more {a} {l} h rest) = go (p a) (all_keep p rest)
    where
      go : (t : Bool) → All P (keep p l) → All P (cond t (a ∷ keep p l) (keep p l))
      go true k = more h k
      go false k = k

-- ---- what `keep` leaves

module _ {A : Type 0} (p : A → Bool) where
  pub keep_append : (l m : List A) → keep p (l ++ m) ≡ keep p l ++ keep p m
  unfolding keep
  keep_append [] m = refl
  keep_append (a ∷ l) m = rw (keep_append l m) (go (p a))
    where
      go : (t : Bool) → cond t (a ∷ (keep p l ++ keep p m)) (keep p l ++ keep p m) ≡ cond t (a ∷ keep p l) (keep p l) ++ keep p m
      go true = refl
      go false = refl

  -- those kept and the others are all
  pub length-keep : (l : List A) → length (keep p l) + length (keep (λ a. not (p a)) l) ≡ length l
  unfolding keep
  length-keep [] = refl
  length-keep (a ∷ l) = go (p a) (length-keep l)
    where
      go : (t : Bool) → length (keep p l) + length (keep (λ a. not (p a)) l) ≡ length l
          → length (cond t (a ∷ keep p l) (keep p l)) + length (cond (not t) (a ∷ keep (λ a. not (p a)) l) (keep (λ a. not (p a)) l)) ≡ suc (length l)
      go true e = omega arith
      go false e = omega arith

module _ {A : Type 0} where
  -- an element that is kept is in the list and passes
  pub mem_keep : (p : A → Bool) (l : List A) {a : A} → Memᴰ a (keep p l) → Memᴰ a l × (p a ≡ true)
  unfolding keep
  mem_keep p (x ∷ l) {a} m = go (p x) refl (λ (n : Memᴰ a (keep p l)). mem_keep p l n) m
    where
      go : (t : Bool) → p x ≡ t → (Memᴰ a (keep p l) → Memᴰ a l × (p a ≡ true)) → Memᴰ a (cond t (x ∷ keep p l) (keep p l)) → Memᴰ a (x ∷ l) × (p a ≡ true)
      go true e ih (Memᴰ.head d) = (Memᴰ.head d, ap p d ∙ e)
      go true e ih (Memᴰ.tail n) = let r = ih n in (Memᴰ.tail r.0, r.1)
      go false e ih n = let r = ih n in (Memᴰ.tail r.0, r.1)
  mem_keep p [] m = absurd (Memᴰ.not-nil m)

  -- two tests that agree on the list keep the same
  pub keep_same : (p q : A → Bool) (l : List A) → ((a : A) → Memᴰ a l → p a ≡ q a) → keep p l ≡ keep q l
  unfolding keep
  keep_same p q [] e = refl
  keep_same p q (x ∷ l) e = rw (e x (Memᴰ.head refl), keep_same p q l (λ a m. e a (Memᴰ.tail m)))

  -- two tests after one another
  pub keep_keep : (p q : A → Bool) (l : List A) → keep p (keep q l) ≡ keep (λ a. p a && q a) l
  unfolding keep
  keep_keep p q [] = refl
  keep_keep p q (x ∷ l) = go (q x) (p x) refl (keep_keep p q l)
    where
      go : (t u : Bool) → p x ≡ u → keep p (keep q l) ≡ keep (λ a. p a && q a) l
          → keep p (cond t (x ∷ keep q l) (keep q l)) ≡ cond (u && t) (x ∷ keep (λ a. p a && q a) l) (keep (λ a. p a && q a) l)
      go true true d e = rw d (ap (λ (m : List A). x ∷ m) e)
      go true false d e = rw d e
      go false true d e = e
      go false false d e = e

  pub keep_all : (p : A → Bool) (l : List A) → ((a : A) → Memᴰ a l → p a ≡ true) → keep p l ≡ l
  unfolding keep
  keep_all p [] e = refl
  keep_all p (x ∷ l) e = rw (e x (Memᴰ.head refl)) (ap (λ (m : List A). x ∷ m) (keep_all p l (λ a m. e a (Memᴰ.tail m))))

  pub keep_none : (p : A → Bool) (l : List A) → ((a : A) → Memᴰ a l → p a ≡ false) → keep p l ≡ []
  unfolding keep
  keep_none p [] e = refl
  keep_none p (x ∷ l) e = rw (e x (Memᴰ.head refl)) (keep_none p l (λ a m. e a (Memᴰ.tail m)))

-- ---- operations of a list of waiters

pub mem_operations : {i : ℕ} (l : List Waiter) → Memᴰ i (operations_of l) → (w : Waiter) × Memᴰ w l × (w.operation ≡ i)
unfolding operations_of
mem_operations [] m = absurd (Memᴰ.not-nil m)
mem_operations (w ∷ l) (Memᴰ.head e) = (w, Memᴰ.head refl, sym e)
mem_operations (w ∷ l) (Memᴰ.tail m) = let r = mem_operations l m in (r.0, Memᴰ.tail r.1, r.2)

pub operations_append : (l m : List Waiter) → operations_of (l ++ m) ≡ operations_of l ++ operations_of m
unfolding operations_of
operations_append [] m = refl
operations_append (w ∷ l) m = ap (λ (x : List ℕ). w.operation ∷ x) (operations_append l m)

-- ---- positions

further_none : (n : ℕ) → further n ≡ 0 → n ≡ 0
unfolding further
further_none zero e = refl
further_none (suc n) e = omega arith

pub further_some : (n : ℕ) → (n ≡ 0 → ⊥) → further n ≡ suc n
unfolding further
further_some zero s = absurd (s refl)
further_some (suc n) s = refl

-- what is listed has a position
pub listed_some : {i : ℕ} {is : List ℕ} → Memᴰ i is → position_of i is ≡ 0 → ⊥
unfolding position_of
listed_some {i} (Memᴰ.head {x} {xs} e) z = let t = eq-eqb i x e in let n : ◌≡◌ {A = ℕ} 1 0 = rw t at z in omega arith
listed_some {i} (Memᴰ.tail {x} {xs} m) z = go (eqb i x) (listed_some m) z
  where
    go : (t : Bool) → (position_of i xs ≡ 0 → ⊥) → cond t 1 (further (position_of i xs)) ≡ 0 → ⊥
    go true s e = omega arith
    go false s e = s (further_none _ e)

-- a list without doubles
pub data Distinct : List ℕ → Type 0 where
  nothing : Distinct []
  another : {i : ℕ} {is : List ℕ} → position_of i is ≡ 0 → Distinct is → Distinct (i ∷ is)

no_further : further 0 ≡ 0
unfolding further
no_further = refl

position_head : (i x : ℕ) (l : List ℕ) → i ≡ x → position_of i (x ∷ l) ≡ 1
unfolding position_of
position_head i x l e = rw (eq-eqb i x e)

position_tail : (i x : ℕ) (l : List ℕ) → (i ≡ x → ⊥) → position_of i (x ∷ l) ≡ further (position_of i l)
unfolding position_of
position_tail i x l n = rw (ne_eqb i x n)

-- an operation stands in a list or has no position there
pub found : (i : ℕ) (l : List ℕ) → (position_of i l ≡ 0) ⊎ Memᴰ i l
unfolding position_of
found i [] = inl refl
found i (x ∷ l) = go (eqb i x) refl (found i l)
  where
    go : (t : Bool) → eqb i x ≡ t → (position_of i l ≡ 0) ⊎ Memᴰ i l → (position_of i (x ∷ l) ≡ 0) ⊎ Memᴰ i (x ∷ l)
    go true e r = inr (Memᴰ.head (eqb-true i x e))
    go false e (inl z) = inl (position_tail i x l (eqb-false i x e) ∙ ap further z ∙ no_further)
    go false e (inr m) = inr (Memᴰ.tail m)

pub absent : (i : ℕ) (l : List ℕ) → (Memᴰ i l → ⊥) → position_of i l ≡ 0
absent i l n = ⊎_elim (λ z. z) (λ m. absurd (n m)) (found i l)

-- in two lists one after the other
pub position_le : (i : ℕ) (l : List ℕ) → position_of i l ≤ length l
unfolding position_of further
position_le i [] = omega arith
position_le i (x ∷ l) = go (eqb i x) (position_of i l) (position_le i l)
  where
    go : (t : Bool) (n : ℕ) → n ≤ length l → cond t 1 (further n) ≤ suc (length l)
    go true n b = omega arith
    go false zero b = omega arith
    go false (suc n) b = omega arith

pub position_first : (i : ℕ) (a b : List ℕ) → Memᴰ i a → position_of i (a ++ b) ≡ position_of i a
position_first i (x ∷ a) b m = go (eqb i x) refl (position_first i a b) m
  where
    go : (t : Bool) → eqb i x ≡ t → (Memᴰ i a → position_of i (a ++ b) ≡ position_of i a) → Memᴰ i (x ∷ a) → position_of i (x ∷ (a ++ b)) ≡ position_of i (x ∷ a)
    go true e ih m = position_head i x (a ++ b) (eqb-true i x e) ∙ sym (position_head i x a (eqb-true i x e))
    go false e ih (Memᴰ.head d) = absurd (eqb-false i x e d)
    go false e ih (Memᴰ.tail m) =
        position_tail i x (a ++ b) (eqb-false i x e) ∙ ap further (ih m) ∙ sym (position_tail i x a (eqb-false i x e))
position_first i [] b m = absurd (Memᴰ.not-nil m)

pub position_second : (i : ℕ) (a b : List ℕ) → (Memᴰ i a → ⊥) → Memᴰ i b → position_of i (a ++ b) ≡ length a + position_of i b
position_second i [] b n m = omega arith
position_second i (x ∷ a) b n m =
    let ih = position_second i a b (λ k. n (Memᴰ.tail k)) m in
    position_tail i x (a ++ b) (λ e. n (Memᴰ.head e)) ∙ ap further ih ∙ further_some _ (λ z. listed_some m (omega arith)) ∙ omega arith

pub position_neither : (i : ℕ) (a b : List ℕ) → (Memᴰ i a → ⊥) → (Memᴰ i b → ⊥) → position_of i (a ++ b) ≡ 0
position_neither i a b n m = absent i (a ++ b) (λ k. ⊎_elim n m (Memᴰ.append_cases a k))

pub distinct_more : {l : List ℕ} (i : ℕ) → Distinct l → (Memᴰ i l → ⊥) → Distinct (l ++ (i ∷ []))
distinct_more i nothing n = another (absent i [] n) nothing
distinct_more i (another {i = x} {is = l} z d) n =
    another (position_neither x l (i ∷ []) (λ m. listed_some m z) (λ m. n (Memᴰ.head (sym (Memᴰ.eq_of_singleton m))))) (distinct_more i d (λ m. n (Memᴰ.tail m)))
