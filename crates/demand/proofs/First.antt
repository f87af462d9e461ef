-- The first record after which something is so; and a list that grows at its end stands in the order of these records.
use Prim.Native.Nat.{ℕ, ◌+◌, ◌≤◌, ◌<◌}
use native.Mathlib.Omega.{arith}
use mathlib.Core.Path.{◌≡◌, refl, sym, ap, ◌∙◌, subst, subst⁻¹}
use mathlib.Core.Logic.{◌⊎◌, inl, inr, ⊎_elim}
use mathlib.Core.Bool.{Bool, true, false}
use mathlib.Core.List.Memᴰ
use mathlib.Core.List.{List, [], ◌∷◌, ◌++◌, Memᴰ}
use lib.ListN.{length}
use borrow.Author.Tests.{eq-eqb, ne_eqb}
use Rattle.meaning.specs.Run.{Entry}
use Rattle.meaning.specs.TakenIn.{position_of}
use Rattle.taken.proofs.Agree.{Before, same, later}
use Rattle.history.proofs.Turns.{false_true}
use Rattle.taken.proofs.Lists.{position_le, position_first, position_second}
use Rattle.counter.proofs.Lists.{some_position}
use Rattle.demand.specs.InOrder.{first_after, is_at}

module _ (so : List Entry → Bool) (e : Entry) (es : List Entry) where
  pub first_old : so es ≡ true → first_after so (e ∷ es) ≡ first_after so es
  unfolding first_after
  first_old d = rw d

  pub first_new : so es ≡ false → first_after so (e ∷ es) ≡ length es
  unfolding first_after
  first_new d = rw d

-- ---- the record itself

-- the entry after which it is so, with what came before it
pub record Turned (so : List Entry → Bool) (es : List Entry) : Type 0 where
  pub entry : Entry
  pub old : List Entry
  pub within : Before (entry ∷ old) es
  pub number : length old ≡ first_after so es
  pub was : so old ≡ false
  pub is : so (entry ∷ old) ≡ true

pub turned : (so : List Entry → Bool) (es : List Entry) → so [] ≡ false → so es ≡ true → Turned so es
turned so [] n y = absurd (false_true (sym n ∙ y))
turned so (e ∷ es) n y = go (so es) refl (turned so es n)
  where
    go : (t : Bool) → so es ≡ t → (so es ≡ true → Turned so es) → Turned so (e ∷ es)
    go true d ih =
        let r = ih d in
        record { entry = r.entry; old = r.old; within = later r.within; number = r.number ∙ sym (first_old so e es d); was = r.was; is = r.is }
    go false d ih = record { entry = e; old = es; within = same; number = sym (first_new so e es d); was = d; is = y }

before_length : {a b : List Entry} → Before a b → length a ≤ length b
before_length same = omega arith
before_length (later f) = omega (arith, before_length f)

at_before : (such : Entry → Bool) {e : Entry} {old es : List Entry} → Before (e ∷ old) es → is_at such (length old) es ≡ such e
unfolding is_at
at_before such {old = old} same = rw (eq-eqb (length old) (length old) refl)
at_before such {old = old} (later {es = es} f) = rw (ne_eqb (length old) (length es) (λ d. omega (arith, d, before_length f))) (at_before such f)

-- what the entry is, the record of that number is
pub turned_at : {so : List Entry → Bool} (such : Entry → Bool) {es : List Entry} (c : Turned so es) → such c.entry ≡ true → is_at such (first_after so es) es ≡ true
turned_at {so} such {es} c d = ap (λ (n : ℕ). is_at such n es) (sym c.number) ∙ at_before such c.within ∙ d

-- there is one history of each length
one_before : {a b es : List Entry} → Before a es → Before b es → length a ≡ length b → a ≡ b
one_before same same l = refl
one_before same (later g) l = absurd (omega (arith, before_length g))
one_before (later f) same l = absurd (omega (arith, before_length f))
one_before (later f) (later g) l = one_before f g l

-- two that are so after the same record
pub record Together (so to : List Entry → Bool) : Type 0 where
  pub entry : Entry
  pub old : List Entry
  pub was : so old ≡ false
  pub is : so (entry ∷ old) ≡ true
  pub was' : to old ≡ false
  pub is' : to (entry ∷ old) ≡ true

pub together : {so to : List Entry → Bool} {es : List Entry} → Turned so es → Turned to es → first_after so es ≡ first_after to es → Together so to
together {so} {to} a b e =
    let one : a.entry ∷ a.old ≡ b.entry ∷ b.old = one_before a.within b.within (omega (arith, a.number, b.number)) in
    record {
      entry = b.entry;
      old = b.old;
      was = subst (λ (l : List Entry). so (rest l) ≡ false) one a.was;
      is = subst (λ (l : List Entry). so l ≡ true) one a.is;
      was' = b.was;
      is' = b.is;
    }
  where
    rest : List Entry → List Entry
    rest [] = []
    rest (x ∷ l) = l

pub first_below : (so : List Entry → Bool) (es : List Entry) → so [] ≡ false → so es ≡ true → first_after so es < length es
first_below so es n y = let r = turned so es n y in omega (arith, r.number, before_length r.within)

-- ---- a list that grows

-- L by its history, N what an entry adds; i is in L from the first record after which `so i`. Ties are those added by one entry.
module _ (L : List Entry → List ℕ) (N : Entry → List Entry → List ℕ) (so : ℕ → List Entry → Bool) (Ok : List Entry → Type 0) (Tie : List Entry → ℕ → ℕ → Type 0)
    (none : L [] ≡ []) (grows : (e : Entry) (es : List Entry) → L (e ∷ es) ≡ L es ++ N e es) (less : (e : Entry) (es : List Entry) → Ok (e ∷ es) → Ok es) (begin : (i : ℕ) → so i [] ≡ false)
    (stands : (es : List Entry) → Ok es → (i : ℕ) → Memᴰ i (L es) → so i es ≡ true) (new : (e : Entry) (es : List Entry) → Ok (e ∷ es) → (i : ℕ) → Memᴰ i (N e es) → so i es ≡ false)
    (tie_old : (e : Entry) (es : List Entry) → Ok (e ∷ es) → (i j : ℕ) → Memᴰ i (L es) → Memᴰ j (L es) → Tie (e ∷ es) i j → Tie es i j)
    (tie_new : (e : Entry) (es : List Entry) → Ok (e ∷ es) → (i j : ℕ) → Memᴰ i (N e es) → Memᴰ j (N e es) → Tie (e ∷ es) i j → position_of i (N e es) < position_of j (N e es)) where
  abbrev first : ℕ → List Entry → ℕ
  first i es = first_after (so i) es

  abbrev Earlier : List Entry → ℕ → ℕ → Type 0
  Earlier es i j = (first i es < first j es) ⊎ ((first i es ≡ first j es) × Tie es i j)

  pub in_order : (es : List Entry) → Ok es → (i j : ℕ) → Memᴰ i (L es) → Memᴰ j (L es) → Earlier es i j → position_of i (L es) < position_of j (L es)
  in_order [] ok i j m n b = absurd (Memᴰ.not-nil (subst (Memᴰ i) none m))
  in_order (e ∷ es) ok i j m n b =
      subst⁻¹ (λ (l : List ℕ). position_of i l < position_of j l) (grows e es)
      (⊎_elim (λ x. ⊎_elim (λ y. both_old x y (in_order es (less e es ok) i j x y)) (old_new x) (cases j n)) (λ x. ⊎_elim (new_old x) (both_new x) (cases j n)) (cases i m))
    where
      Goal : Type 0
      Goal = position_of i (L es ++ N e es) < position_of j (L es ++ N e es)

      cases : (x : ℕ) → Memᴰ x (L (e ∷ es)) → Memᴰ x (L es) ⊎ Memᴰ x (N e es)
      cases x k = Memᴰ.append_cases (L es) (subst (Memᴰ x) (grows e es) k)

      old_first : (x : ℕ) → Memᴰ x (L es) → (first x (e ∷ es) ≡ first x es) × (first x es < length es)
      old_first x k = let y = stands es (less e es ok) x k in (first_old (so x) e es y, first_below (so x) es (begin x) y)

      new_first : (x : ℕ) → Memᴰ x (N e es) → first x (e ∷ es) ≡ length es
      new_first x k = first_new (so x) e es (new e es ok x k)

      at_old : (x : ℕ) → Memᴰ x (L es) → position_of x (L es ++ N e es) ≡ position_of x (L es)
      at_old x k = position_first x (L es) (N e es) k

      at_new : (x : ℕ) → Memᴰ x (N e es) → position_of x (L es ++ N e es) ≡ length (L es) + position_of x (N e es)
      at_new x k = position_second x (L es) (N e es) (λ o. false_true (sym (new e es ok x k) ∙ stands es (less e es ok) x o)) k

      both_old : Memᴰ i (L es) → Memᴰ j (L es) → (Earlier es i j → position_of i (L es) < position_of j (L es)) → Goal
      both_old x y ih =
          let was = ⊎_elim {C = Earlier es i j} (λ c. inl (omega (arith, (old_first i x).0, (old_first j y).0, c))) (λ c. inr (omega (arith, (old_first i x).0, (old_first j y).0, c.0), tie_old e es ok i j x y c.1)) b in
          omega (arith, at_old i x, at_old j y, ih was)

      old_new : Memᴰ i (L es) → Memᴰ j (N e es) → Goal
      old_new x y = omega (arith, at_old i x, at_new j y, position_le i (L es), some_position (N e es) y)

      new_old : Memᴰ i (N e es) → Memᴰ j (L es) → Goal
      new_old x y =
          absurd (⊎_elim (λ c. omega (arith, new_first i x, (old_first j y).0, (old_first j y).1, c)) (λ c. omega (arith, new_first i x, (old_first j y).0, (old_first j y).1, c.0)) b)

      both_new : Memᴰ i (N e es) → Memᴰ j (N e es) → Goal
      both_new x y =
          ⊎_elim (λ c. absurd (omega (arith, new_first i x, new_first j y, c))) (λ c. omega (arith, at_new i x, at_new j y, tie_new e es ok i j x y c.1)) b
