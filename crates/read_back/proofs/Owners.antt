-- An unfinished operation is the last that its process started. What a row has while it is no finished read, and how many second attempts
-- go with how many steps.
use Prim.Native.Nat.{ℕ, ◌+◌, ◌*◌, ◌≤◌, ◌<◌}
use native.Mathlib.Omega.{arith}
use mathlib.Core.Path.{◌≡◌, refl, sym, ap, ◌∙◌, subst}
use mathlib.Core.Logic.{◌⊎◌, inl, inr, ⊎_elim}
use mathlib.Core.Bool.{Bool, true, false, cond}
use mathlib.Core.List.Memᴰ
use mathlib.Core.List.{List, [], ◌∷◌, Memᴰ}
use lib.ListN.{length}
use lib.Dec.{leb, eqb}
use borrow.Author.Tests.{leb-true, leb-false, eqb-true, eqb-false}
use Rattle.meaning.specs.Shape.{Form}
use Rattle.meaning.specs.Layout.{form_of}
use Rattle.meaning.specs.Access.{Access, is_root_read, is_leaf_write, is_second_link}
use Rattle.meaning.specs.Operations.{addition_steps}
use Rattle.meaning.specs.Steps.{Process, idle as idleProcess}
use Rattle.meaning.specs.Run.{Entry, State, blank, initial, started, kind_of, new_row, start, row_after, take_step, accepted, outcome}
use Rattle.meaning.specs.TakenIn.{keep, placed, listed}
use Rattle.spots.specs.Spot.{Spot, spot_of, node_of, At}
use Rattle.spots.proofs.Laws.{at_spot, last_addition}
use Rattle.spots.specs.Lawful.{Lawful}
use Rattle.history.proofs.Turns.{reads_the_root, false_true}
use Rattle.spots.proofs.Shapes.{form_lawful, form_even, opened_two, Even}
use Rattle.taken.specs.CountIn.{waiters}
use Rattle.taken.proofs.Agree.{Once, more, written}
use Rattle.history.proofs.Did.{did, did_leaf, did_now, did_on}
use Rattle.taken.proofs.Lists.{mem_keep, mem_operations}
use Rattle.history.proofs.Waiters.{newly, placed_is, waiter_writes}
use Rattle.history.proofs.Listing.{placed_read}
use Rattle.history.proofs.Good.{Good, Stepping, access_by, record_after, turns, same_operation, stepped_row, root_read_ends, row_cases, process_cases}
use Rattle.history.proofs.StepCount.{Counts, Going, StepCount, kind_two, kind_three, count_step, count_start, count_initial}
use Rattle.history.proofs.Held.{Held, of_row}
use Rattle.history.proofs.Accepted.{accepted_keeps}
use Rattle.demand.proofs.Holds.{carried}
use Rattle.read_back.proofs.Starts.{kind_else}

-- f second attempts of n steps, of height h
abbrev pub Attempts : ℕ → ℕ → ℕ → Type 0
Attempts h n f = (f ≤ h) × (8 * f ≤ n + 1) × (n ≤ 2 + 4 * h + 4 * f)

-- an addition at a spot of its climb has made so many, where every attempt has four steps
attempts_at : (h : ℕ) (σ : Spot) (n f : ℕ) → σ.level < h → σ.position < 4 → Counts 4 σ n f → Attempts h n f
attempts_at h σ n f level position c = go σ.second (leb 1 σ.position) refl c.seconds c.steps
  where
    go : (second begun : Bool) → leb 1 σ.position ≡ begun → f ≡ c.below + cond second (cond begun 1 0) 0 → n ≡ 2 + 4 * (σ.level + c.below + cond second 1 0) + σ.position → Attempts h n f
    go true true e x y = let v = leb-true 1 σ.position e in (omega (arith, c.few), omega (arith, c.few), omega arith)
    go true false e x y = let v = leb-false 1 σ.position e in (omega (arith, c.few), omega (arith, c.few), omega arith)
    go false begun e x y = (omega (arith, c.few), omega (arith, c.few), omega arith)

-- an addition under way: so many, and with fewer than two steps it has not made step 2
going_attempts : (F : Form) (p s n f : ℕ) → Lawful F.shape → Even F 4 → s ≤ length (addition_steps F p) → Going F p s n f → Attempts F.height n f × (n < 2 → s ≤ 2)
going_attempts F p s n f lawful even last g = go (leb 3 s) refl
  where
    late : 3 ≤ s → Attempts F.height n f × (n < 2 → s ≤ 2)
    late b =
        let σ : Spot = spot_of F p s in
        let at : At F p s σ = at_spot F p s (omega (arith, opened_two F p lawful)) last in
        let c = g.late 4 even σ at in
        (attempts_at F.height σ n f at.level (omega (arith, at.position, even (node_of F p σ))) c, λ few. omega (arith, c.steps))

    go : (t : Bool) → leb 3 s ≡ t → Attempts F.height n f × (n < 2 → s ≤ 2)
    go true e = late (leb-true 3 s e)
    go false e = let b = leb-false 3 s e in let q = g.early (omega arith) in ((omega (arith, q.1), omega (arith, q.1), omega (arith, q.0)), λ few. omega arith)

record Owned (F : Form) (st : State) : Type 0 where
  -- no row is later than its process's operation
  latest : (i : ℕ) → i < st.operations → i ≤ (st.process (st.row i).process).operation
  -- no answer but a finished read's, and no second attempt of a read
  silent : (i : ℕ) → ((st.row i).kind ≡ 2 → (st.row i).finished ≡ false) → (st.row i).answer ≡ 0
  plain : (i : ℕ) → (st.row i).kind ≡ 2 → (st.row i).seconds ≡ 0

owned_initial : (F : Form) → Owned F (initial F)
unfolding initial idleProcess blank
owned_initial F =
    record {
      latest = λ i b. absurd (omega arith);
      silent = λ i n. refl;
      plain = λ i k. refl;
    }

module _ (F : Form) (p : ℕ) (st : State) (s : Stepping F p st) (c : StepCount F st) (k : Owned F st) where
  abbrev r : Process
  r = st.process p

  is_read_lem : (st.row r.operation).kind ≡ 2 → r.adds ≡ false
  is_read_lem d = kind_two r.adds (sym (c.kinds p s.acts) ∙ d)

  -- a read's step is no second LL
  links_not : r.adds ≡ false → is_second_link (access_by F p st) ≡ false
  unfolding is_second_link
  links_not d = ap is_second_link (reads_the_root (turns F p st s) d)

  -- an answer is given by the step that ends a read
  silent_now : (t : Bool) → is_root_read (access_by F p st) ≡ t → ((st.row r.operation).kind ≡ 2 → eqb (record_after F p st).step 0 ≡ false) → cond t (record_after F p st).seen 0 ≡ 0
  unfolding kind_of
  silent_now true d n =
      let u = root_read_ends F p st s (turns F p st s) d in
      absurd (false_true (sym (n (c.kinds p s.acts ∙ ap kind_of u.1)) ∙ ap (λ (x : ℕ). eqb x 0) u.0))
  silent_now false d n = refl

  owned_step : Owned F (take_step F p st)
  unfolding row_after take_step
  owned_step =
      record {
        latest = λ i b. of_row F p st s i (λ x. i ≤ x.operation) (λ o. omega (arith, same_operation F p st s, k.latest i b, ap (λ (q : ℕ). (st.process q).operation) o)) (λ o. k.latest i b);
        silent = λ i. stepped_row F p st s i (λ w. (w.kind ≡ 2 → w.finished ≡ false) → w.answer ≡ 0) (λ e. silent_now (is_root_read (access_by F p st)) refl) (λ n. k.silent i);
        plain = λ i. stepped_row F p st s i (λ w. w.kind ≡ 2 → w.seconds ≡ 0)
            (λ e d. omega (arith, k.plain r.operation d, ap {B = ℕ} (λ (t : Bool). cond t 1 0) (links_not (is_read_lem d)))) (λ n. k.plain i);
      }

module _ (F : Form) (p : ℕ) (adds : Bool) (delta : ℕ) (st : State) (k : Owned F st) where
  abbrev after : State
  after = start F p adds delta st

  owned_start : Owned F after
  unfolding start started new_row
  owned_start =
      record {
        latest = λ i b. row_cases F p adds delta st i (λ w. i ≤ (after.process w.process).operation)
            (λ e. process_cases F p adds delta st p (λ x. i ≤ x.operation) (λ o. omega arith) (λ n. absurd (n refl)))
            (λ n. process_cases F p adds delta st (st.row i).process (λ x. i ≤ x.operation) (λ o. omega arith) (λ o. k.latest i (omega arith)));
        silent = λ i. row_cases F p adds delta st i (λ w. (w.kind ≡ 2 → w.finished ≡ false) → w.answer ≡ 0) (λ e n. refl) (λ n. k.silent i);
        plain = λ i. row_cases F p adds delta st i (λ w. w.kind ≡ 2 → w.seconds ≡ 0) (λ e d. refl) (λ n. k.plain i);
      }

-- ---- what is listed has read the root or written its leaf

listed_did : (F : Form) (es : List Entry) → Once es → (i : ℕ) → Memᴰ i (listed F es) → (did is_root_read i es ≡ true) ⊎ (did is_leaf_write i es ≡ true)
unfolding listed
listed_did F [] o i m = absurd (Memᴰ.not-nil m)
listed_did F (e ∷ es) (more f o) i m =
    ⊎_elim (λ n. ⊎_elim (λ d. inl (did_on is_root_read i e es d)) (λ d. inr (did_on is_leaf_write i e es d)) (listed_did F es o i n)) (go (is_root_read e.access) refl)
    (Memᴰ.append_cases (listed F es) m)
  where
    go : (t : Bool) → is_root_read e.access ≡ t → Memᴰ i (placed F e es) → (did is_root_read i (e ∷ es) ≡ true) ⊎ (did is_leaf_write i (e ∷ es) ≡ true)
    go true d n = inl (did_now is_root_read i e es d (Memᴰ.eq_of_singleton (subst (Memᴰ i) (placed_read F e es d) n)))
    go false d n =
        let u = mem_operations (keep (newly F e es (more f o)) (waiters es)) (subst (Memᴰ i) (placed_is F e es (more f o) d) n) in
        let w = sym (did_leaf u.0.operation es) ∙ written (waiter_writes es u.0 (mem_keep _ (waiters es) u.1).0) in
        inr (did_on is_leaf_write i e es (subst (λ (j : ℕ). did is_leaf_write j es ≡ true) u.2 w))

-- ---- after every accepted recording

abbrev Both : Form → State → Type 0
Both F st = StepCount F st × Owned F st

module _ (s : List ℕ) (st : State) (e : outcome s ≡ accepted st) where
  good : Good (form_of s) st
  good = (carried s st e).0

  counted : StepCount (form_of s) st
  counted = (carried s st e).1.counted

  holds : Held (form_of s) st
  holds = (carried s st e).1.held

  owned : Owned (form_of s) st
  owned =
      (accepted_keeps Both (λ F lawful. (count_initial F lawful, owned_initial F)) (λ F p x y z. (count_step F p x y z.0, owned_step F p x y z.0 z.1))
      (λ F p a d x g b f o z. (count_start F p a d x g b f o z.0, owned_start F p a d x z.1)) s st e).1.1

  -- an operation whose process starts again has finished
  pub finished_again : (i j : ℕ) → i < j → j < st.operations → (st.row i).process ≡ (st.row j).process → (st.row i).finished ≡ true
  finished_again i j a b same = go (st.row i).finished refl
    where
      go : (t : Bool) → (st.row i).finished ≡ t → t ≡ true
      go true f = refl
      go false f = absurd (omega (arith, (holds.held i (omega arith) f).1, owned.latest j b, ap (λ (q : ℕ). (st.process q).operation) same))

  pub no_answer : (i : ℕ) → ((st.row i).kind ≡ 2 → (st.row i).finished ≡ false) → (st.row i).answer ≡ 0
  no_answer = owned.silent

  pub no_seconds : (i : ℕ) → (st.row i).kind ≡ 2 → (st.row i).seconds ≡ 0
  no_seconds = owned.plain

  -- an unfinished row by its process's record: a read has taken no step, an addition goes on
  abbrev Unread : ℕ → ℕ → Process → Type 0
  Unread i p x = ((st.row i).kind ≡ kind_of x.adds) × (x.adds ≡ false → (st.row i).steps ≡ 0) × (x.adds ≡ true → Going (form_of s) p x.step (st.row i).steps (st.row i).seconds)

  going_row : (i : ℕ) → i < st.operations → (st.row i).finished ≡ false → Unread i (st.row i).process (st.process (st.row i).process)
  going_row i b f =
      let p : ℕ = (st.row i).process in
      let o = holds.held i b f in
      subst (λ (j : ℕ). Unread j p (st.process p)) o.1 (counted.kinds p o.0, counted.reading p o.0, counted.adding p o.0)

  pub unread_steps : (i : ℕ) → i < st.operations → (st.row i).kind ≡ 2 → (st.row i).finished ≡ false → (st.row i).steps ≡ 0
  unread_steps i b d f = let u = going_row i b f in u.1 (kind_two _ (sym u.0 ∙ d))

  under_way_lem : (i : ℕ) → i < st.operations → (st.row i).finished ≡ false → (st.process (st.row i).process).adds ≡ true
      → Attempts (form_of s).height (st.row i).steps (st.row i).seconds × ((st.row i).steps < 2 → (st.process (st.row i).process).step ≤ 2)
  under_way_lem i b f a =
      let p : ℕ = (st.row i).process in
      going_attempts (form_of s) p (st.process p).step (st.row i).steps (st.row i).seconds (form_lawful s) (form_even s) (omega (arith, good.range p, last_addition (form_of s) p (st.process p).adds a)) ((going_row i b f).2 a)

  read_attempts : (i : ℕ) → (st.row i).kind ≡ 2 → (st.row i).steps ≤ 1 → Attempts (form_of s).height (st.row i).steps (st.row i).seconds
  read_attempts i d few = let z = owned.plain i d in (omega arith, omega arith, omega arith)

  pub attempts : (i : ℕ) → i < st.operations → Attempts (form_of s).height (st.row i).steps (st.row i).seconds
  attempts i b = go (st.row i).finished refl (eqb (st.row i).kind 2) refl
    where
      addition : eqb (st.row i).kind 2 ≡ false → (st.row i).kind ≡ 3
      addition d = kind_else s st e i b (eqb-false (st.row i).kind 2 d)

      go : (t : Bool) → (st.row i).finished ≡ t → (r : Bool) → eqb (st.row i).kind 2 ≡ r → Attempts (form_of s).height (st.row i).steps (st.row i).seconds
      go true f true d = let k = eqb-true (st.row i).kind 2 d in read_attempts i k (omega (arith, counted.read i f k))
      go true f false d = let a = counted.added i f (addition d) 4 (form_even s) in (a.1, omega (arith, a.0, a.1), omega (arith, a.0))
      go false f true d = let k = eqb-true (st.row i).kind 2 d in read_attempts i k (omega (arith, unread_steps i b k f))
      go false f false d =
          (under_way_lem i b f (kind_three _ (sym (going_row i b f).0 ∙ addition d))).0

  -- an unfinished read, or an addition that has not written its leaf, is not listed
  pub early_unlisted : (i : ℕ) → i < st.operations → (st.row i).finished ≡ false → (st.row i).steps < 2 → Memᴰ i (listed (form_of s) st.history) → ⊥
  early_unlisted i b f few m =
      let p : ℕ = (st.row i).process in
      let o = holds.held i b f in
      let never : (kind : Access → Bool) → did kind (st.process p).operation st.history ≡ false → did kind i st.history ≡ true → ⊥ = λ kind n d. false_true (sym n ∙ ap (λ (j : ℕ). did kind j st.history) o.1 ∙ d) in
      ⊎_elim (never is_root_read (good.unread p o.0))
      (never is_leaf_write (good.fresh p o.0 (λ a. (under_way_lem i b f a).1 few)))
      (listed_did (form_of s) st.history good.once i m)
