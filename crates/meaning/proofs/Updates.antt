-- `upd` is settled by what it has at the index and elsewhere.
use Prim.Native.Nat.{ℕ}
use mathlib.Core.Path.{◌≡◌, refl, ap, ◌∙◌, fun_ext}
use mathlib.Core.Bool.{Bool, true, false, cond}
use lib.Dec.{eqb}
use borrow.Author.Tests.{eq-eqb, ne_eqb, eqb-true, eqb-false}
use Rattle.meaning.specs.Steps.{upd}

module _ {A : Type 0} (f : ℕ → A) (i : ℕ) (v : A) where
  pub upd_same : upd f i v i ≡ v
  unfolding upd
  upd_same = rw (eq-eqb i i refl)

  pub upd_other : (j : ℕ) → (j ≡ i → ⊥) → upd f i v j ≡ f j
  unfolding upd
  upd_other j n = rw (ne_eqb j i n)

  -- by whether j is the index set, with upd already computed
  pub upd_cases : (P : A → Type 0) (j : ℕ) → (j ≡ i → P v) → ((j ≡ i → ⊥) → P (f j)) → P (upd f i v j)
  unfolding upd
  upd_cases P j hit miss = go (eqb j i) refl
    where
      go : (t : Bool) → eqb j i ≡ t → P (cond t v (f j))
      go true e = hit (eqb-true j i e)
      go false e = miss (eqb-false j i e)

  -- a function that has v at i and agrees elsewhere
  pub upd_is : (g : ℕ → A) → g i ≡ v → ((j : ℕ) → (j ≡ i → ⊥) → g j ≡ f j) → g ≡ upd f i v
  upd_is g at else = fun_ext (λ j. upd_cases (λ (x : A). g j ≡ x) j (λ e. ap g e ∙ at) (λ n. else j n))
