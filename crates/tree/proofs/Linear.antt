-- The list run over the array of components, for any values and any update: where a step lists those writes that are newly in, in the order in
-- which they were made, the array goes from each component's value at its old count to its value at the new one.
use Prim.Native.Nat.{ℕ, suc, ◌+◌, max, min, ◌≤◌, ◌<◌}
use native.Mathlib.Omega.{arith}
use mathlib.Core.Path.{◌≡◌, refl, sym, ap, ◌∙◌, subst, fun_ext}
use mathlib.Core.Bool.{Bool, true, false, not, cond, ◌&&◌}
use mathlib.Core.List.Memᴰ
use mathlib.Core.List.{List, [], ◌∷◌, ◌++◌, Memᴰ}
use lib.Dec.{ltb, eqb}
use borrow.Author.Tests.{ltb-true, ltb-false, eqb-true, eqb-false, eq-eqb, ne_eqb}
use Rattle.tree.specs.Log.{writes_to, newly_in, Lists, none, passes, takes, applied}
use Rattle.tree.proofs.Others.{true_false}
use Rattle.tree.proofs.Moves.{by_number}

-- a count between two bounds that moves on below the one or above the other
clamp_low : (b a k : ℕ) → k < b → max b (min a k) ≡ max b (min a (suc k))
clamp_low b a k l = omega arith

clamp_high : (b a k : ℕ) → a ≤ k → max b (min a k) ≡ max b (min a (suc k))
clamp_high b a k l = omega arith

module _ {W : Type 0} (component turn : W → ℕ) where
  writes_one : (c : ℕ) (ws : List W) (w : W) → writes_to component turn c (ws ++ (w ∷ [])) ≡ writes_to component turn c ws + cond (eqb c (component w)) 1 0
  unfolding writes_to
  writes_one c [] w = omega arith
  writes_one c (v ∷ ws) w = omega (arith, writes_one c ws w)

  pub writes_same : (c : ℕ) (ws : List W) (w : W) → c ≡ component w → writes_to component turn c (ws ++ (w ∷ [])) ≡ suc (writes_to component turn c ws)
  writes_same c ws w e = writes_one c ws w ∙ ap (λ (t : Bool). writes_to component turn c ws + cond t 1 0) (eq-eqb c (component w) e) ∙ omega arith

  pub writes_other : (c : ℕ) (ws : List W) (w : W) → (c ≡ component w → ⊥) → writes_to component turn c (ws ++ (w ∷ [])) ≡ writes_to component turn c ws
  writes_other c ws w n = writes_one c ws w ∙ ap (λ (t : Bool). writes_to component turn c ws + cond t 1 0) (ne_eqb c (component w) n) ∙ omega arith

  module _ {A : Type 0} (update : W → A → A) where
    pub applied_append : (ws vs : List W) (a : ℕ → A) → applied component turn update (ws ++ vs) a ≡ applied component turn update vs (applied component turn update ws a)
    unfolding applied
    applied_append [] vs a = refl
    applied_append (w ∷ ws) vs a = applied_append ws vs (λ c. cond (eqb c (component w)) (update w (a c)) (a c))

    -- value says what a component's first k writes made of it
    module _ (value : ℕ → ℕ → A) (before after : ℕ → ℕ) where
      -- the count reached when these writes have been gone through
      abbrev reached : List W → ℕ → ℕ
      reached ws c = max (before c) (min (after c) (writes_to component turn c ws))

      -- one write more, by whether it is newly in
      module _ (w : W) (ws : List W) (its : turn w ≡ writes_to component turn (component w) ws) where
        elsewhere : (c : ℕ) → (c ≡ component w → ⊥) → reached ws c ≡ reached (ws ++ (w ∷ [])) c
        elsewhere c n = ap (λ (j : ℕ). max (before c) (min (after c) j)) (sym (writes_other c ws w n))

        there : reached (ws ++ (w ∷ [])) (component w) ≡ max (before (component w)) (min (after (component w)) (suc (turn w)))
        there = ap (λ (j : ℕ). max (before (component w)) (min (after (component w)) j)) (writes_same (component w) ws w refl ∙ ap suc (sym its))

        here : reached ws (component w) ≡ max (before (component w)) (min (after (component w)) (turn w))
        here = ap (λ (j : ℕ). max (before (component w)) (min (after (component w)) j)) (sym its)

        passed : newly_in component turn before after w ≡ false → reached ws (component w) ≡ reached (ws ++ (w ∷ [])) (component w)
        unfolding newly_in
        passed e = go (ltb (turn w) (after (component w))) refl (ltb (turn w) (before (component w))) refl e
          where
            go : (t : Bool) → ltb (turn w) (after (component w)) ≡ t → (u : Bool) → ltb (turn w) (before (component w)) ≡ u → (t && not u) ≡ false → reached ws (component w) ≡ reached (ws ++ (w ∷ [])) (component w)
            go true x true y z = here ∙ clamp_low (before (component w)) (after (component w)) (turn w) (ltb-true (turn w) (before (component w)) y) ∙ sym there
            go true x false y z = absurd (true_false z)
            go false x u y z = here ∙ clamp_high (before (component w)) (after (component w)) (turn w) (ltb-false (turn w) (after (component w)) x) ∙ sym there

        inside : newly_in component turn before after w ≡ true → (turn w < after (component w)) × (before (component w) ≤ turn w)
        unfolding newly_in
        inside e = go (ltb (turn w) (after (component w))) refl (ltb (turn w) (before (component w))) refl e
          where
            go : (t : Bool) → ltb (turn w) (after (component w)) ≡ t → (u : Bool) → ltb (turn w) (before (component w)) ≡ u → (t && not u) ≡ true → (turn w < after (component w)) × (before (component w) ≤ turn w)
            go true x true y z = absurd (true_false (sym z))
            go true x false y z = (ltb-true (turn w) (after (component w)) x, ltb-false (turn w) (before (component w)) y)
            go false x u y z = absurd (true_false (sym z))

        -- the array after it
        taken : newly_in component turn before after w ≡ true → value (component w) (suc (turn w)) ≡ update w (value (component w) (turn w))
            → (c : ℕ) → cond (eqb c (component w)) (update w (value c (reached ws c))) (value c (reached ws c)) ≡ value c (reached (ws ++ (w ∷ [])) c)
        taken e u c = go (eqb c (component w)) refl
          where
            i : (turn w < after (component w)) × (before (component w) ≤ turn w)
            i = inside e

            was : reached ws (component w) ≡ turn w
            was = omega (arith, here, i.0, i.1)

            is : reached (ws ++ (w ∷ [])) (component w) ≡ suc (turn w)
            is = omega (arith, there, i.0, i.1)

            at_it : update w (value (component w) (reached ws (component w))) ≡ value (component w) (reached (ws ++ (w ∷ [])) (component w))
            at_it = ap (λ (n : ℕ). update w (value (component w) n)) was ∙ sym u ∙ ap (value (component w)) (sym is)

            go : (t : Bool) → eqb c (component w) ≡ t → cond t (update w (value c (reached ws c))) (value c (reached ws c)) ≡ value c (reached (ws ++ (w ∷ [])) c)
            go true d = subst (λ (x : ℕ). update w (value x (reached ws x)) ≡ value x (reached (ws ++ (w ∷ [])) x)) (sym (eqb-true c (component w) d)) at_it
            go false d = ap (value c) (elsewhere c (eqb-false c (component w) d))

        still : newly_in component turn before after w ≡ false → (c : ℕ) → value c (reached ws c) ≡ value c (reached (ws ++ (w ∷ [])) c)
        still e c = ap (value c) (by_number c (component w) (λ d. subst (λ (x : ℕ). reached ws x ≡ reached (ws ++ (w ∷ [])) x) (sym d) (passed e)) (elsewhere c))

      -- each write of the log is the update of the one before
      abbrev pub Updates : List W → Type 0
      Updates log = (w : W) → Memᴰ w log → value (component w) (suc (turn w)) ≡ update w (value (component w) (turn w))

      run_to : {log l : List W} → Updates log → Lists component turn before after log l → applied component turn update l (λ c. value c (before c)) ≡ (λ c. value c (reached log c))
      unfolding applied writes_to
      run_to u none = fun_ext (λ c. ap (value c) (omega arith))
      run_to u (passes w {ws} r its e) = run_to (λ v m. u v (Memᴰ.append_left (w ∷ []) m)) r ∙ fun_ext (still w ws its e)
      run_to u (takes w {ws} {l} r its e) =
          applied_append l (w ∷ []) _ ∙ ap (applied component turn update (w ∷ [])) (run_to (λ v m. u v (Memᴰ.append_left (w ∷ []) m)) r)
          ∙ fun_ext (taken w ws its e (u w (Memᴰ.append_right ws (Memᴰ.head refl))))

      pub array_run : {log l : List W} → Updates log → ((c : ℕ) → before c ≤ after c) → ((c : ℕ) → after c ≤ writes_to component turn c log) → Lists component turn before after log l
          → applied component turn update l (λ c. value c (before c)) ≡ (λ c. value c (after c))
      array_run u grows capped r = run_to u r ∙ fun_ext (λ c. ap (value c) (omega (arith, grows c, capped c)))
