-- The log of the writes, the earliest first, and the list that is made of it: which writes a step lists, and the array of components that the
-- list is run over. A write is of any type; component and turn say which component it is to, and how many writes that component had before.
use Rattle.std.specs.Prelude.{ℕ, ◌+◌, ◌≡◌, Bool, true, false, not, cond, ◌&&◌, List, [], ◌∷◌, ◌++◌, ltb, eqb}

module _ {W : Type 0} (component turn : W → ℕ) where
  -- how many of the writes are to component c
  unfoldable pub writes_to : ℕ → List W → ℕ
  writes_to c [] = 0
  writes_to c (w ∷ ws) = cond (eqb c (component w)) 1 0 + writes_to c ws

  -- a write that is in by the counts after a step and was not by those before
  unfoldable pub newly_in : (ℕ → ℕ) → (ℕ → ℕ) → W → Bool
  newly_in before after w = ltb (turn w) (after (component w)) && not (ltb (turn w) (before (component w)))

  -- what a step lists of a log in which each write has its turn: those that are newly in, in the log's order
  pub data Lists (before after : ℕ → ℕ) : List W → List W → Type 0 where
    none : Lists before after [] []
    passes : (w : W) {ws l : List W} → Lists before after ws l → turn w ≡ writes_to (component w) ws → newly_in before after w ≡ false
        → Lists before after (ws ++ (w ∷ [])) l
    takes : (w : W) {ws l : List W} → Lists before after ws l → turn w ≡ writes_to (component w) ws → newly_in before after w ≡ true
        → Lists before after (ws ++ (w ∷ [])) (l ++ (w ∷ []))

  -- the array after the writes of a list, each the update of what its component was
  unfoldable pub applied : {A : Type 0} → (W → A → A) → List W → (ℕ → A) → ℕ → A
  applied update [] a = a
  applied update (w ∷ ws) a = applied update ws (λ c. cond (eqb c (component w)) (update w (a c)) (a c))
