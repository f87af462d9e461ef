-- A step by cases: which access it is, at which spot, and where it leads.
use Prim.Native.Nat.{ℕ, zero, suc, ◌+◌, ◌≤◌, ◌<◌}
use native.Mathlib.Omega.{arith}
use mathlib.Core.Path.{◌≡◌, refl, sym, ap, ◌∙◌, subst}
use mathlib.Core.Logic.{◌⊎◌, inl, inr, ⊎_elim}
use mathlib.Core.Bool.{Bool, true, false}
use lib.ListN.{length, get_or}
use Rattle.cell.specs.Cell.{succeeds}
use Rattle.meaning.specs.Access.{Access, starts, reads_root, reads_leaf, writes_leaf, links, reads, stores, is_root_read}
use Rattle.meaning.specs.Shape.{Form, the_one}
use Rattle.meaning.specs.Operations.{attempt, addition_steps}
use Rattle.meaning.specs.Steps.{cell_at, Memory, Process, access_of, effect, onward as moves, passes_by, at_step, within, next_record}
use Rattle.spots.specs.Spot.{Spot, attempt_at, width, spot_of, node_of, At, onward, again, upward, passed, last_step}
use Rattle.spots.specs.Got.{groups_at}
use Rattle.spots.proofs.Laws.{width_is, at_spot, attempt_links, attempt_reads, attempt_stores, at_onward, at_again, at_upward, at_end, at_first, at_inside, passes_done, passes_failed, steps_long, last_addition, last_read, of_read_lem, of_attempt}
use Rattle.spots.proofs.Shapes.{opened_two, of_leaf, of_write}
use Rattle.spots.proofs.Within.{within_in, within_end}
use Rattle.spots.specs.Lawful.{Lawful}

-- a step of its operation
pub record CanTurn (F : Form) (p : ℕ) (r : Process) : Type 0 where
  pub lawful : Lawful F.shape
  pub low : 1 ≤ F.height
  pub busy : 1 ≤ r.step
  pub last : r.step ≤ last_step F p r.adds

pub false_true : false ≡ true → ⊥
false_true e = let z : ◌≡◌ {A = ℕ} 0 1 = cc in omega arith

not_both : {b : Bool} → b ≡ true → b ≡ false → ⊥
not_both e d = false_true (sym d ∙ e)

-- an SC is done with its node
abbrev pub Done : Spot → Bool → Type 0
Done σ ok = (ok ≡ true) ⊎ (σ.second ≡ true)

-- after an SC that succeeded or not: on to the second attempt, to the next node, or to the end
pub data After (F : Form) (p : ℕ) (σ : Spot) (ok : Bool) (t : ℕ) : Type 0 where
  retry : σ.second ≡ false → ok ≡ false → At F p t (again σ) → After F p σ ok t
  up : Done σ ok → At F p t (upward σ) → After F p σ ok t
  done : Done σ ok → suc σ.level ≡ F.height → t ≡ 0 → After F p σ ok t

-- the spot where the climb begins
abbrev pub first_spot : Spot
first_spot = record { level = 0; second = false; position = 0 }

-- the access of a process whose record is r, in the memory m, after which its step number is t
pub data Turn (F : Form) (p : ℕ) (r : Process) (m : Memory) (t : ℕ) : Access → Type 0 where
  root : r.adds ≡ false → r.step ≡ 1 → t ≡ 0 → Turn F p r m t reads_root
  leaf : r.adds ≡ true → r.step ≡ 1 → t ≡ 2 → Turn F p r m t (reads_leaf p)
  write : r.adds ≡ true → r.step ≡ 2 → t ≡ 3 → At F p t first_spot → Turn F p r m t (writes_leaf p)
  link : r.adds ≡ true → (σ : Spot) → At F p r.step σ → σ.position ≡ 0 → At F p t (onward σ) → Turn F p r m t (links (attempt_at σ.second) (node_of F p σ))
  group : r.adds ≡ true → (σ : Spot) → At F p r.step σ → (i : ℕ) → i < length (groups_at F p σ) → σ.position ≡ suc i → At F p t (onward σ)
      → Turn F p r m t (reads (node_of F p σ) (get_or (groups_at F p σ) i (the_one 0)).from (get_or (groups_at F p σ) i (the_one 0)).count)
  store : r.adds ≡ true → (σ : Spot) → At F p r.step σ → suc σ.position ≡ width F (node_of F p σ)
      → After F p σ (succeeds p (cell_at m (node_of F p σ))) t → Turn F p r m t (stores (attempt_at σ.second) (node_of F p σ))

module _ {F : Form} {p : ℕ} {r : Process} {m : Memory} {t : ℕ} where
  -- a read reads the root, an addition does not, and nobody else does
  pub reads_the_root : {a : Access} → Turn F p r m t a → r.adds ≡ false → a ≡ reads_root
  reads_the_root (root e w z) d = refl
  reads_the_root (leaf e w z) d = absurd (not_both e d)
  reads_the_root (write e w z f) d = absurd (not_both e d)
  reads_the_root (link e σ c w n) d = absurd (not_both e d)
  reads_the_root (group e σ c i b w n) d = absurd (not_both e d)
  reads_the_root (store e σ c w n) d = absurd (not_both e d)

  pub reads_no_root : {a : Access} → Turn F p r m t a → r.adds ≡ true → is_root_read a ≡ false
  unfolding is_root_read
  reads_no_root (root e w z) d = absurd (not_both d e)
  reads_no_root (leaf e w z) d = refl
  reads_no_root (write e w z f) d = refl
  reads_no_root (link e σ c w n) d = refl
  reads_no_root (group e σ c i b w n) d = refl
  reads_no_root (store e σ c w n) d = refl

  pub root_read_adds_not : {a : Access} → Turn F p r m t a → is_root_read a ≡ true → r.adds ≡ false
  root_read_adds_not u k = go r.adds refl
    where
      go : (b : Bool) → r.adds ≡ b → b ≡ false
      go true e = absurd (not_both k (reads_no_root u e))
      go false e = refl

-- ---- the step number after it

-- the next step number, where the operation is at step s
abbrev pub next_step : Form → ℕ → Process → Memory → Access → ℕ
next_step F p r m a = (next_record F p r (effect F p r m a)).step

module _ (F : Form) (p : ℕ) (r : Process) (m : Memory) where
  pub step_is : (a : Access) → next_step F p r m a ≡ within (r.step + (effect F p r m a).passes) (last_step F p r.adds)
  unfolding next_record at_step
  step_is a = ap (λ (n : ℕ). within (r.step + (effect F p r m a).passes) n) (steps_long F p r)

module _ (F : Form) (p : ℕ) (r : Process) (m : Memory) (can : CanTurn F p r) where
  abbrev Its : Access → Type 0
  Its a = Turn F p r m (next_step F p r m a) a

  is_turn : {a : Access} → access_of F p r ≡ a → Its a → Its (access_of F p r)
  is_turn e u = subst Its (sym e) u

  -- an access that passes one place, to a place of the list
  one_on : (a : Access) → (effect F p r m a).passes ≡ 1 → r.adds ≡ true → (t : ℕ) → t ≡ suc r.step → t ≤ length (addition_steps F p) → next_step F p r m a ≡ t
  one_on a one adds t e b =
      step_is F p r m a ∙ within_in _ t _ (omega (arith, one)) (omega (arith, last_addition F p r.adds adds))

  first_at : At F p 3 first_spot
  first_at = subst (λ (n : ℕ). At F p (suc n) first_spot) (opened_two F p can.lawful) (at_first F p can.low)

  root_turn : r.adds ≡ false → Its (access_of F p r)
  unfolding effect moves
  root_turn e =
      let one : r.step ≡ 1 = omega (arith, last_read F p r.adds e, can.last, can.busy) in
      is_turn (of_read_lem F p r e one) (root e one (step_is F p r m reads_root ∙ within_end _ _ (omega (arith, last_read F p r.adds e))))

  leaf_turn : r.adds ≡ true → r.step ≡ 1 → Its (access_of F p r)
  unfolding effect moves
  leaf_turn e one =
      is_turn (of_leaf F p r can.lawful e one) (leaf e one (one_on (reads_leaf p) refl e 2 (omega arith) (omega (arith, at_inside F p 3 first_spot first_at))))

  write_turn : r.adds ≡ true → r.step ≡ 2 → Its (access_of F p r)
  unfolding effect moves
  write_turn e two =
      let next : next_step F p r m (writes_leaf p) ≡ 3 = one_on (writes_leaf p) refl e 3 (omega arith) (at_inside F p 3 first_spot first_at) in
      is_turn (of_write F p r can.lawful e two) (write e two next (subst (λ (n : ℕ). At F p n first_spot) (sym next) first_at))

  module _ (e : r.adds ≡ true) (σ : Spot) (at : At F p r.step σ) where
    abbrev x : ℕ
    x = node_of F p σ

    -- the next place of the same attempt
    on_spot : (a : Access) → (effect F p r m a).passes ≡ 1 → suc σ.position < width F x → At F p (next_step F p r m a) (onward σ)
    on_spot a one room =
        let next = at_onward F p r.step σ at room in
        subst (λ (n : ℕ). At F p n (onward σ)) (sym (one_on a one e (suc r.step) refl (at_inside F p (suc r.step) (onward σ) next))) next

    link_turn : σ.position ≡ 0 → Its (access_of F p r)
    unfolding effect moves
    link_turn w =
        is_turn (of_attempt F p r σ e at ∙ ap (λ (n : ℕ). get_or (attempt F (attempt_at σ.second) x) n starts) w ∙ attempt_links F (attempt_at σ.second) x)
        (link e σ at w (on_spot (links (attempt_at σ.second) x) refl (omega (arith, w, width_is F x))))

    group_turn : (i : ℕ) → i < length (groups_at F p σ) → σ.position ≡ suc i → Its (access_of F p r)
    unfolding effect moves
    group_turn i b w =
        is_turn (of_attempt F p r σ e at ∙ ap (λ (n : ℕ). get_or (attempt F (attempt_at σ.second) x) n starts) w ∙ attempt_reads F (attempt_at σ.second) x i b)
        (group e σ at i b w (on_spot (reads x (get_or (groups_at F p σ) i (the_one 0)).from (get_or (groups_at F p σ) i (the_one 0)).count) refl (omega (arith, w, b, width_is F x))))

    abbrev ok : Bool
    ok = succeeds p (cell_at m x)

    abbrev sc : Access
    sc = stores (attempt_at σ.second) x

    sc_step : next_step F p r m sc ≡ within (r.step + passes_by F (attempt_at σ.second) x ok) (length (addition_steps F p))
    unfolding effect
    sc_step = step_is F p r m sc ∙ ap (within (r.step + passes_by F (attempt_at σ.second) x ok)) (last_addition F p r.adds e)

    leads : suc σ.position ≡ width F x → After F p σ ok (next_step F p r m sc)
    leads w = go σ.second refl ok refl
      where
        -- done with its node: at the node above, or at the end
        onwards : Done σ ok → (b : ℕ) → After F p σ ok (next_step F p r m sc)
        onwards d b = ⊎_elim above ends (below_or_at σ.level F.height at.level)
          where
            passes : passes_by F (attempt_at σ.second) x ok ≡ passed F p σ
            passes = passes_done F p σ ok d

            below_or_at : (l h : ℕ) → l < h → (suc l < h) ⊎ (suc l ≡ h)
            below_or_at l zero c = elim c [ ]
            below_or_at l (suc zero) c = inr (omega arith)
            below_or_at zero (suc (suc h)) c = inl (omega arith)
            below_or_at (suc l) (suc (suc h)) c = ⊎_elim (λ u. inl (omega arith)) (λ u. inr (omega arith)) (below_or_at l (suc h) (omega arith))

            above : suc σ.level < F.height → After F p σ ok (next_step F p r m sc)
            above c =
                let next = at_upward F p r.step σ at w c in
                up d (subst (λ (n : ℕ). At F p n (upward σ)) (sym (sc_step ∙ within_in _ _ _ (omega (arith, passes)) (at_inside F p (r.step + passed F p σ) (upward σ) next))) next)

            ends : suc σ.level ≡ F.height → After F p σ ok (next_step F p r m sc)
            ends c = done d c (sc_step ∙ within_end _ _ (omega (arith, passes, at_end F p r.step σ at w c)))

        go : (s : Bool) → σ.second ≡ s → (k : Bool) → ok ≡ k → After F p σ ok (next_step F p r m sc)
        go true f k g = onwards (inr f) 0
        go false f true g = onwards (inl g) 0
        go false f false g =
            let next = at_again F p r.step σ at f w in
            let one : passes_by F (attempt_at σ.second) x ok ≡ 1 = ap (passes_by F (attempt_at σ.second) x) g ∙ passes_failed F (attempt_at σ.second) x in
            retry f g (subst (λ (n : ℕ). At F p n (again σ)) (sym (sc_step ∙ within_in _ _ _ (omega (arith, one)) (at_inside F p (suc r.step) (again σ) next))) next)

    store_turn : suc σ.position ≡ width F x → Its (access_of F p r)
    store_turn w =
        is_turn (of_attempt F p r σ e at ∙ ap (λ (n : ℕ). get_or (attempt F (attempt_at σ.second) x) n starts) last ∙ attempt_stores F (attempt_at σ.second) x)
        (store e σ at w (leads w))
      where
        last : σ.position ≡ suc (length (groups_at F p σ))
        last = omega (arith, w, width_is F x)

    -- an attempt links, goes through its groups and stores
    attempt_turn : (n : ℕ) → σ.position ≡ n → Its (access_of F p r)
    attempt_turn zero w = link_turn w
    attempt_turn (suc i) w = ⊎_elim (λ b. group_turn i b w) (λ b. store_turn (omega (arith, w, b, width_is F x))) (below_or_last i (length (groups_at F p σ)) (omega (arith, w, at.position, width_is F x)))
      where
        below_or_last : (i n : ℕ) → i ≤ n → (i < n) ⊎ (i ≡ n)
        below_or_last zero zero b = inr refl
        below_or_last zero (suc n) b = inl (omega arith)
        below_or_last (suc i) (suc n) b = ⊎_elim (λ u. inl (omega arith)) (λ u. inr (omega arith)) (below_or_last i n (omega arith))
        below_or_last (suc i) zero b = absurd (omega arith)

  -- a step number is 1, 2 or of an attempt
  one_two_more : (n : ℕ) → 1 ≤ n → (n ≡ 1) ⊎ ((n ≡ 2) ⊎ (3 ≤ n))
  one_two_more zero b = elim b [ ]
  one_two_more (suc zero) b = inl refl
  one_two_more (suc (suc zero)) b = inr (inl refl)
  one_two_more (suc (suc (suc n))) b = inr (inr (omega arith))

  pub turn : Its (access_of F p r)
  turn = go r.adds refl
    where
      climbing : r.adds ≡ true → 3 ≤ r.step → Its (access_of F p r)
      climbing e past =
          let σ : Spot = spot_of F p r.step in
          attempt_turn e σ (at_spot F p r.step (omega (arith, opened_two F p can.lawful)) (omega (arith, can.last, last_addition F p r.adds e))) σ.position refl

      go : (t : Bool) → r.adds ≡ t → Its (access_of F p r)
      go false e = root_turn e
      go true e = ⊎_elim (λ w. leaf_turn e w) (⊎_elim (λ w. write_turn e w) (λ w. climbing e w)) (one_two_more r.step can.busy)
