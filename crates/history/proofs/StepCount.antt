-- How many steps an operation has taken. A finished read has 1. An unfinished operation has fewer than its list is long; and where every
-- attempt has w steps, a finished addition has 2 + w * h + w * f, where f is its number of second attempts, 0 to h.
use Prim.Native.Nat.{ℕ, suc, ◌+◌, ◌*◌, ◌^◌, ◌≤◌, ◌<◌}
use native.Mathlib.Nat.{mul-zero, mul-suc, add-zero, add-mul, mul_comm}
use native.Mathlib.Omega.{arith}
use mathlib.Core.Path.{◌≡◌, refl, sym, ap, ap₂, ◌∙◌, subst}
use mathlib.Core.Bool.{Bool, true, false, cond}
use lib.ListN.{length}
use lib.Dec.{leb, eqb}
use borrow.Author.Tests.{eqb-true, le-leb}
use Rattle.meaning.specs.Access.{Access, links, is_root_read, is_second_link}
use Rattle.meaning.specs.Shape.{Form}
use Rattle.meaning.specs.Steps.{idle as idleProcess}
use Rattle.meaning.specs.Run.{Row, State, blank, initial, started, kind_of, new_row, start, row_after, most_operations, take_step}
use Rattle.meaning.proofs.Updates.{upd_other}
use Rattle.spots.specs.Spot.{Spot, attempt_at, width, place_in, node_of, step_of, At, onward, again, upward, passed, last_step}
use Rattle.spots.proofs.Laws.{width_is, addition_long, same_spot, at_again, at_upward, at_late, last_addition, last_read}
use Rattle.spots.specs.Lawful.{Lawful}
use Rattle.history.proofs.Turns.{false_true, first_spot, reads_the_root, Turn, root, leaf, write, link, group, store, After, retry, up, done}
use Rattle.history.proofs.Good.{Good, Stepping, not_done, access_by, record_after, turns, root_read_ends, same_operation, same_adds, in_range, by_stepper, by_process, stepped_row, started_row, other}
use Rattle.spots.proofs.Shapes.{Even, opened_two}

abbrev one_if : Bool → ℕ
one_if t = cond t 1 0

-- an addition that is at a spot, has taken n steps and begun f second attempts, g of them at nodes that it is done with; every attempt has w steps
pub record Counts (w : ℕ) (σ : Spot) (n f : ℕ) : Type 0 where
  pub below : ℕ
  pub few : below ≤ σ.level
  pub seconds : f ≡ below + cond σ.second (one_if (leb 1 σ.position)) 0
  pub steps : n ≡ 2 + w * (σ.level + below + one_if σ.second) + σ.position

-- an addition at step s that has taken n steps and begun f second attempts
pub record Going (F : Form) (p s n f : ℕ) : Type 0 where
  pub fewer : n < s
  pub early : s ≤ 2 → (n + 1 ≡ s) × (f ≡ 0)
  pub late : (w : ℕ) → Even F w → (σ : Spot) → At F p s σ → Counts w σ n f

-- one that has finished
abbrev pub Gone : ℕ → ℕ → ℕ → ℕ → Type 0
Gone w h n f = (n ≡ 2 + w * h + w * f) × (f ≤ h)

-- ---- the counts after a step of an attempt

-- one more attempt
one_more : (w a b : ℕ) → b ≡ suc a → w * b ≡ w * a + w
one_more w a b e = ap (λ (n : ℕ). w * n) e ∙ mul-suc w a

times_plus : (w h f : ℕ) → w * (h + f) ≡ w * h + w * f
times_plus w h f = mul_comm w (h + f) ∙ add-mul h f w ∙ ap₂ (λ (a b : ℕ). a + b) (mul_comm h w) (mul_comm f w)

one_small : (t : Bool) → one_if t ≤ 1
one_small true = omega arith
one_small false = omega arith

module _ {w : ℕ} {σ : Spot} {n f : ℕ} (c : Counts w σ n f) where
  -- to the next place of the attempt: d is 1 where this was the LL of the second
  counts_onward : (d : ℕ) → cond σ.second (one_if (leb 1 σ.position)) 0 + d ≡ one_if σ.second → Counts w (onward σ) (suc n) (f + d)
  unfolding onward
  counts_onward d e =
      let now : f + d ≡ c.below + one_if σ.second = omega (arith, c.seconds, e) in
      record {
        below = c.below;
        few = c.few;
        seconds = now ∙ sym (ap (λ (t : Bool). c.below + cond σ.second (one_if t) 0) (le-leb 1 (suc σ.position) (omega arith)));
        steps = omega (arith, c.steps);
      }

  -- at its SC the second attempt has been begun
  begun : 1 ≤ σ.position → f ≡ c.below + one_if σ.second
  begun b = c.seconds ∙ ap (λ (t : Bool). c.below + cond σ.second (one_if t) 0) (le-leb 1 σ.position b)

  counts_again : suc σ.position ≡ w → 1 ≤ σ.position → σ.second ≡ false → Counts w (again σ) (suc n) f
  unfolding again
  counts_again last b e =
      record {
        below = c.below;
        few = c.few;
        seconds = omega (arith, begun b, ap one_if e);
        steps = omega (arith, c.steps, last, one_more w (σ.level + c.below + one_if σ.second) (σ.level + c.below + 1) (omega (arith, ap one_if e)));
      }

  counts_upward : suc σ.position ≡ w → 1 ≤ σ.position → Counts w (upward σ) (suc n) f
  unfolding upward
  counts_upward last b =
      record {
        below = f;
        few = omega (arith, c.few, begun b, one_small σ.second);
        seconds = omega arith;
        steps = omega (arith, c.steps, last, one_more w (σ.level + c.below + one_if σ.second) (suc σ.level + f + 0) (omega (arith, begun b)));
      }

  counts_ends : suc σ.position ≡ w → 1 ≤ σ.position → (h : ℕ) → suc σ.level ≡ h → Gone w h (suc n) f
  counts_ends last b h top = (
    omega (arith, c.steps, last, one_more w (σ.level + c.below + one_if σ.second) (h + f) (omega (arith, begun b)), times_plus w h f),
    omega (arith, c.few, begun b, one_small σ.second),
  )

-- ---- an addition after a step

-- step t comes after step s
module _ (F : Form) (p s t : ℕ) (σ : Spot) (at : At F p s σ) where
  next_onward : At F p t (onward σ) → t ≡ suc s
  unfolding step_of place_in onward
  next_onward n = omega (arith, at.step, n.step)

  next_again : σ.second ≡ false → suc σ.position ≡ width F (node_of F p σ) → At F p t (again σ) → t ≡ suc s
  next_again e w n = n.step ∙ sym (at_again F p s σ at e w).step

  next_upward : suc σ.position ≡ width F (node_of F p σ) → At F p t (upward σ) → s < t
  unfolding upward passed
  next_upward w n = let later = n.step ∙ sym (at_upward F p s σ at w n.level).step in go σ.second later
    where
      go : (b : Bool) → t ≡ s + cond b 1 (suc (width F (node_of F p σ))) → s < t
      go true e = omega arith
      go false e = omega arith

module _ (F : Form) (p s n f : ℕ) (lawful : Lawful F.shape) (g : Going F p s n f) where
  -- past the leaf, at a spot with these counts
  going_at : (t d : ℕ) (τ : Spot) → At F p t τ → s < t → ((w : ℕ) → Even F w → Counts w τ (suc n) (f + d)) → Going F p t (suc n) (f + d)
  going_at t d τ at more counts =
      record {
        fewer = omega (arith, g.fewer);
        early = λ b. absurd (omega (arith, at_late F p t τ at, opened_two F p lawful));
        late = λ w even υ a. subst (λ (x : Spot). Counts w x (suc n) (f + d)) (same_spot F p t τ υ at a) (counts w even);
      }

-- the LL of an attempt is that of a second one, or not
second_link_lem : (b : Bool) (x : ℕ) → is_second_link (links (attempt_at b) x) ≡ b
unfolding is_second_link attempt_at
second_link_lem true x = refl
second_link_lem false x = refl

link_begins : (b : Bool) (i : ℕ) → i ≡ 0 → cond b (one_if (leb 1 i)) 0 + one_if b ≡ one_if b
link_begins true i e = rw e
link_begins false i e = refl

read_begins : (b : Bool) (i j : ℕ) → i ≡ suc j → cond b (one_if (leb 1 i)) 0 + 0 ≡ one_if b
read_begins true i j e = ap (λ (t : Bool). one_if t + 0) (le-leb 1 i (omega arith))
read_begins false i j e = refl

-- ---- the steps of every row

-- how long the list of a row's operation is
abbrev pub list_long : Form → Row → ℕ
list_long F w = last_step F w.process (eqb w.kind 3)

pub record StepCount (F : Form) (st : State) : Type 0 where
  pub kinds : (p : ℕ) → 1 ≤ (st.process p).step → (st.row (st.process p).operation).kind ≡ kind_of (st.process p).adds
  pub reading : (p : ℕ) → 1 ≤ (st.process p).step → (st.process p).adds ≡ false → (st.row (st.process p).operation).steps ≡ 0
  pub adding : (p : ℕ) → 1 ≤ (st.process p).step → (st.process p).adds ≡ true
      → Going F p (st.process p).step (st.row (st.process p).operation).steps (st.row (st.process p).operation).seconds
  pub read : (i : ℕ) → (st.row i).finished ≡ true → (st.row i).kind ≡ 2 → (st.row i).steps ≡ 1
  pub added : (i : ℕ) → (st.row i).finished ≡ true → (st.row i).kind ≡ 3 → (w : ℕ) → Even F w → Gone w F.height (st.row i).steps (st.row i).seconds
  -- no operation takes more steps than its list has, an unfinished one has taken fewer
  pub few : (i : ℕ) → (st.row i).steps ≤ list_long F (st.row i)
  pub short : (i : ℕ) → (st.row i).finished ≡ false → (st.row i).steps < list_long F (st.row i)

pub kind_two : (t : Bool) → kind_of t ≡ 2 → t ≡ false
unfolding kind_of
kind_two true e = absurd (omega arith)
kind_two false e = refl

pub kind_three : (t : Bool) → kind_of t ≡ 3 → t ≡ true
unfolding kind_of
kind_three true e = refl
kind_three false e = absurd (omega arith)

kind_is : (t : Bool) → eqb (kind_of t) 3 ≡ t
unfolding kind_of
kind_is true = refl
kind_is false = refl

-- every list has a step
some_step : (F : Form) (p : ℕ) (t : Bool) → Lawful F.shape → 0 < last_step F p t
some_step F p true lawful = omega (arith, last_addition F p true refl, addition_long F p, opened_two F p lawful)
some_step F p false lawful = omega (arith, last_read F p false refl)

module _ (F : Form) (p : ℕ) (st : State) (s : Stepping F p st) (c : StepCount F st) where
  abbrev w : Row
  w = st.row (st.process p).operation

  abbrev d : ℕ
  d = one_if (is_second_link (access_by F p st))

  -- an SC leads to a spot with its counts, or ends the addition with them
  after_sc : (σ : Spot) (ok : Bool) → At F p (st.process p).step σ → suc σ.position ≡ width F (node_of F p σ) → Going F p (st.process p).step w.steps w.seconds
      → After F p σ ok (record_after F p st).step
      → (1 ≤ (record_after F p st).step → Going F p (record_after F p st).step (suc w.steps) (w.seconds + 0))
      × ((record_after F p st).step ≡ 0 → (v : ℕ) → Even F v → Gone v F.height (suc w.steps) w.seconds)
  after_sc σ ok at last g (retry e k n) = (
    λ b. going_at F p _ _ _ s.good.lawful g _ 0 (again σ) n (omega (arith, next_again F p _ _ σ at e last n))
        (λ v even. plain (counts_again (g.late v even σ at) (last ∙ even _) inner e)),
    λ z. absurd (omega (arith, at_late F p _ _ n)),
  )
    where
      inner : 1 ≤ σ.position
      inner = omega (arith, last, width_is F (node_of F p σ))

      plain : {v : ℕ} → Counts v (again σ) (suc w.steps) w.seconds → Counts v (again σ) (suc w.steps) (w.seconds + 0)
      plain {v} c = subst (Counts v (again σ) (suc w.steps)) (sym (add-zero w.seconds)) c
  after_sc σ ok at last g (up k n) = (
    λ b. going_at F p _ _ _ s.good.lawful g _ 0 (upward σ) n (next_upward F p _ _ σ at last n)
        (λ v even. plain (counts_upward (g.late v even σ at) (last ∙ even _) inner)),
    λ z. absurd (omega (arith, at_late F p _ _ n)),
  )
    where
      inner : 1 ≤ σ.position
      inner = omega (arith, last, width_is F (node_of F p σ))

      plain : {v : ℕ} → Counts v (upward σ) (suc w.steps) w.seconds → Counts v (upward σ) (suc w.steps) (w.seconds + 0)
      plain {v} c = subst (Counts v (upward σ) (suc w.steps)) (sym (add-zero w.seconds)) c
  after_sc σ ok at last g (done k top z) = (
    λ b. absurd (omega arith),
    λ y v even. counts_ends (g.late v even σ at) (last ∙ even _) (omega (arith, last, width_is F (node_of F p σ))) F.height top,
  )

  -- the acting addition: at its next step, or finished
  addition : {a : Access} → Turn F p (st.process p) st.memory (record_after F p st).step a → access_by F p st ≡ a → (st.process p).adds ≡ true
      → (1 ≤ (record_after F p st).step → Going F p (record_after F p st).step (suc w.steps) (w.seconds + d))
      × ((record_after F p st).step ≡ 0 → (v : ℕ) → Even F v → Gone v F.height (suc w.steps) (w.seconds + d))
  unfolding is_second_link
  addition (root e x z) eq a = absurd (false_true (sym e ∙ a))
  addition (leaf e x z) eq a =
      let g = (c.adding p s.acts a).early (omega arith) in
      let none = ap one_if (ap is_second_link eq) in (
        λ b. record {
          fewer = omega (arith, g.0);
          early = λ y. (omega (arith, g.0), omega (arith, g.1, none));
          late = λ v even σ at. absurd (omega (arith, at_late F p _ σ at, opened_two F p s.good.lawful));
        },
        λ y. absurd (omega arith),
      )
  addition (write e x z n) eq a =
      let g = c.adding p s.acts a in
      let q = g.early (omega arith) in
      let none = ap one_if (ap is_second_link eq) in (
        λ b. going_at F p _ _ _ s.good.lawful g _ d first_spot n (omega arith)
            (λ v even. record { below = 0; few = omega arith; seconds = omega (arith, q.1, none); steps = omega (arith, q.0, mul-zero v) }),
        λ y. absurd (omega arith),
      )
  addition (link e σ at x n) eq a =
      let g = c.adding p s.acts a in
      let its : d ≡ one_if σ.second = ap one_if (ap is_second_link eq ∙ second_link_lem σ.second (node_of F p σ)) in (
        λ b. going_at F p _ _ _ s.good.lawful g _ d (onward σ) n (omega (arith, next_onward F p _ _ σ at n))
            (λ v even. counts_onward (g.late v even σ at) d (ap (λ (k : ℕ). cond σ.second (one_if (leb 1 σ.position)) 0 + k) its ∙ link_begins σ.second σ.position x)),
        λ y. absurd (omega (arith, at_late F p _ _ n)),
      )
  addition (group e σ at i l x n) eq a =
      let g = c.adding p s.acts a in
      let none : d ≡ 0 = ap one_if (ap is_second_link eq) in (
        λ b. going_at F p _ _ _ s.good.lawful g _ d (onward σ) n (omega (arith, next_onward F p _ _ σ at n))
            (λ v even. counts_onward (g.late v even σ at) d (ap (λ (k : ℕ). cond σ.second (one_if (leb 1 σ.position)) 0 + k) none ∙ read_begins σ.second σ.position i x)),
        λ y. absurd (omega (arith, at_late F p _ _ n)),
      )
  addition (store e σ at x n) eq a =
      let none : d ≡ 0 = ap one_if (ap is_second_link eq) in
      let r = after_sc σ _ at x (c.adding p s.acts a) n in (
        λ b. subst (λ (k : ℕ). Going F p (record_after F p st).step (suc w.steps) (w.seconds + k)) (sym none) (r.0 b),
        λ y v even. subst (λ (k : ℕ). Gone v F.height (suc w.steps) k) (omega (arith, none)) (r.1 y v even),
      )

  -- a read's step ends it
  read_ends : (st.process p).adds ≡ false → (record_after F p st).step ≡ 0
  unfolding is_root_read
  read_ends a = (root_read_ends F p st s (turns F p st s) (ap is_root_read (reads_the_root (turns F p st s) a))).0

  -- the row after the step, at the acting operation and elsewhere
  at_own : (P : Row → Type 0) → P (row_after (access_by F p st) (record_after F p st) (length st.history) w) → P ((take_step F p st).row (record_after F p st).operation)
  at_own P now = stepped_row F p st s (record_after F p st).operation P (λ e. now) (λ n. absurd (n (same_operation F p st s)))

  at_other : (P : Row → Type 0) (q : ℕ) → (q ≡ p → ⊥) → 1 ≤ (st.process q).step → P (st.row (st.process q).operation) → P ((take_step F p st).row (st.process q).operation)
  at_other P q n b before = stepped_row F p st s (st.process q).operation P (λ e. absurd (other F p st s q n b e)) (λ m. before)

  moves : (st.process p).adds ≡ true
      → (1 ≤ (record_after F p st).step → Going F p (record_after F p st).step (suc w.steps) (w.seconds + d))
      × ((record_after F p st).step ≡ 0 → (v : ℕ) → Even F v → Gone v F.height (suc w.steps) (w.seconds + d))
  moves a = addition (turns F p st s) refl a

  -- its list is its process's
  long_is : list_long F w ≡ last_step F p (st.process p).adds
  long_is = ap₂ (last_step F) (s.good.owner p s.acts) (ap (λ (k : ℕ). eqb k 3) (c.kinds p s.acts) ∙ kind_is (st.process p).adds)

  -- a busy operation has taken fewer steps than its step number, and after its step too where it is not finished
  before : (t : Bool) → (st.process p).adds ≡ t → w.steps < list_long F w
  before true e = omega (arith, long_is, s.good.range p, (c.adding p s.acts e).fewer)
  before false e = omega (arith, long_is, s.good.range p, s.acts, c.reading p s.acts e)

  after : (t : Bool) → (st.process p).adds ≡ t → 1 ≤ (record_after F p st).step → suc w.steps < list_long F w
  after true e b = omega (arith, long_is, in_range F p st s, ap (last_step F p) (same_adds F p st s), ((moves e).0 b).fewer)
  after false e b = absurd (omega (arith, read_ends e))

  pub count_step : StepCount F (take_step F p st)
  unfolding row_after
  count_step =
      record {
        kinds = by_stepper F p st s (λ q r. 1 ≤ r.step → ((take_step F p st).row r.operation).kind ≡ kind_of r.adds)
            (λ b. at_own (λ x. x.kind ≡ kind_of (record_after F p st).adds) (c.kinds p s.acts ∙ ap kind_of (sym (same_adds F p st s))))
            (λ q n b. at_other (λ x. x.kind ≡ kind_of (st.process q).adds) q n b (c.kinds q b));
        reading = by_stepper F p st s (λ q r. 1 ≤ r.step → r.adds ≡ false → ((take_step F p st).row r.operation).steps ≡ 0)
            (λ b d. absurd (omega (arith, read_ends (sym (same_adds F p st s) ∙ d))))
            (λ q n b d. at_other (λ x. x.steps ≡ 0) q n b (c.reading q b d));
        adding = by_stepper F p st s (λ q r. 1 ≤ r.step → r.adds ≡ true → Going F q r.step ((take_step F p st).row r.operation).steps ((take_step F p st).row r.operation).seconds)
            (λ b d. at_own (λ x. Going F p (record_after F p st).step x.steps x.seconds) ((moves (sym (same_adds F p st s) ∙ d)).0 b))
            (λ q n b d. at_other (λ x. Going F q (st.process q).step x.steps x.seconds) q n b (c.adding q b d));
        read = λ i. stepped_row F p st s i (λ x. x.finished ≡ true → x.kind ≡ 2 → x.steps ≡ 1)
            (λ e f k. ap suc (c.reading p s.acts (kind_two (st.process p).adds (sym (c.kinds p s.acts) ∙ k)))) (λ n. c.read i);
        added = λ i. stepped_row F p st s i (λ x. x.finished ≡ true → x.kind ≡ 3 → (v : ℕ) → Even F v → Gone v F.height x.steps x.seconds)
            (λ e f k. (moves (kind_three (st.process p).adds (sym (c.kinds p s.acts) ∙ k))).1 (eqb-true (record_after F p st).step 0 f)) (λ n. c.added i);
        few = λ i. stepped_row F p st s i (λ x. x.steps ≤ list_long F x) (λ e. before (st.process p).adds refl) (λ n. c.few i);
        short = λ i. stepped_row F p st s i (λ x. x.finished ≡ false → x.steps < list_long F x)
            (λ e f. after (st.process p).adds refl (not_done (record_after F p st).step f)) (λ n. c.short i);
      }

-- ---- a start, and the beginning

module _ (F : Form) (p : ℕ) (adds : Bool) (delta : ℕ) (st : State) (g : Good F st) (inside : p < 2 ^ F.height) (free : (st.process p).step ≡ 0) (room : st.operations < most_operations) (c : StepCount F st) where
  -- a busy process's row is none of the new one
  old_row : (P : Row → Type 0) (q : ℕ) → 1 ≤ (st.process q).step → P (st.row (st.process q).operation) → P ((start F p adds delta st).row (st.process q).operation)
  unfolding start
  old_row P q b before = subst P (sym (upd_other st.row st.operations _ (st.process q).operation (λ e. omega (arith, g.owns q b)))) before

  new_row_lem : (P : Row → Type 0) → P (new_row p adds delta (length st.history)) → P ((start F p adds delta st).row st.operations)
  new_row_lem P now = started_row F p adds delta st g inside free room st.operations P now (λ n. absurd (n refl))

  pub count_start : StepCount F (start F p adds delta st)
  unfolding started new_row
  count_start =
      record {
        kinds = by_process F p adds delta st g inside free room (λ q r. 1 ≤ r.step → ((start F p adds delta st).row r.operation).kind ≡ kind_of r.adds)
            (λ b. new_row_lem (λ x. x.kind ≡ kind_of adds) refl) (λ q n b. old_row (λ x. x.kind ≡ kind_of (st.process q).adds) q b (c.kinds q b));
        reading = by_process F p adds delta st g inside free room (λ q r. 1 ≤ r.step → r.adds ≡ false → ((start F p adds delta st).row r.operation).steps ≡ 0)
            (λ b d. new_row_lem (λ x. x.steps ≡ 0) refl) (λ q n b d. old_row (λ x. x.steps ≡ 0) q b (c.reading q b d));
        adding = by_process F p adds delta st g inside free room
            (λ q r. 1 ≤ r.step → r.adds ≡ true → Going F q r.step ((start F p adds delta st).row r.operation).steps ((start F p adds delta st).row r.operation).seconds)
            (λ b d. new_row_lem (λ x. Going F p 1 x.steps x.seconds)
            (record { fewer = omega arith; early = λ y. (refl, refl); late = λ v even σ at. absurd (omega (arith, at_late F p 1 σ at, opened_two F p g.lawful)) }))
            (λ q n b d. old_row (λ x. Going F q (st.process q).step x.steps x.seconds) q b (c.adding q b d));
        read = λ i. started_row F p adds delta st g inside free room i (λ x. x.finished ≡ true → x.kind ≡ 2 → x.steps ≡ 1) (λ f k. absurd (false_true f)) (λ n. c.read i);
        added = λ i. started_row F p adds delta st g inside free room i (λ x. x.finished ≡ true → x.kind ≡ 3 → (v : ℕ) → Even F v → Gone v F.height x.steps x.seconds) (λ f k. absurd (false_true f)) (λ n. c.added i);
        few = λ i. started_row F p adds delta st g inside free room i (λ x. x.steps ≤ list_long F x) (omega arith) (λ n. c.few i);
        short = λ i. started_row F p adds delta st g inside free room i (λ x. x.finished ≡ false → x.steps < list_long F x) (λ f. some_step F p (eqb (kind_of adds) 3) g.lawful) (λ n. c.short i);
      }

pub count_initial : (F : Form) → Lawful F.shape → StepCount F (initial F)
unfolding initial idleProcess blank
count_initial F lawful =
    record {
      kinds = λ p b. absurd (omega arith);
      reading = λ p b d. absurd (omega arith);
      adding = λ p b d. absurd (omega arith);
      read = λ i f k. absurd (false_true f);
      added = λ i f k. absurd (false_true f);
      few = λ i. omega arith;
      short = λ i f. some_step F 0 false lawful;
    }
