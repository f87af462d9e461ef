-- Which answer of the cut is right: one lemma for each case of `cut_at`. `Whole s at e` says by its three rows what a whole record with the
-- event e at a place is; the cut finds e just where it holds.
use Prim.Native.Nat.{ℕ, ◌+◌, ◌*◌, ◌-◌, ◌/◌, ◌≤◌, ◌<◌}
use mathlib.Core.Path.{◌≡◌, refl, sym, ap, subst, ◌∙◌}
use mathlib.Core.Bool.{Bool, true, false, cond, ◌&&◌, ◌||◌, true≢false}
use mathlib.Core.List.{List}
use mathlib.Core.Logic.{◌⊎◌, inl, inr, ⊎_elim}
use native.Mathlib.Omega.{arith}
use lib.ListN.{length, get_or}
use lib.Dec.{leb, eqb}
use borrow.Author.Tests.{leb-true, leb-false, eqb-true, le-leb, lt-leb}
use Rattle.std.specs.Prelude.{Some, None, Ok, Err}
use Rattle.refusals.specs.declared.Refused.{Refused}
use Rattle.refusals.specs.declared.Refusal.TheVariants.{BrokenRecord}
use Rattle.recording.specs.Numbers.{four_bytes, number_at}
use Rattle.recording.specs.Record.{Cuts, cut_answer, cut_at, read_answer, whole, in_table, event_at, bytes_of, next_inside, Cut, whole_record, no_more, broken_record}
use Rattle.recording.specs.declared.Event.{Event}
use Rattle.recording.specs.declared.Event.TheVariants.{Step, Read, Add}

-- a whole record, by its row of the table
pub data Whole (s : List ℕ) (at : ℕ) : Event → Type 0 where
  step : {p : ℕ} → get_or s at 0 ≡ 2 → get_or s (at + 1) 0 ≡ 1 → get_or s (at + 2) 0 ≡ p → at + 3 ≤ length s → Whole s at (Step p)
  read : {p : ℕ} → get_or s at 0 ≡ 2 → get_or s (at + 1) 0 ≡ 2 → get_or s (at + 2) 0 ≡ p → at + 3 ≤ length s → Whole s at (Read p)
  add : {p d : ℕ} → get_or s at 0 ≡ 6 → get_or s (at + 1) 0 ≡ 3 → get_or s (at + 2) 0 ≡ p → number_at s (at + 3) ≡ d → at + 7 ≤ length s
      → Whole s at (Add p d)

and_true : (a b : Bool) → (a && b) ≡ true → (a ≡ true) × (b ≡ true)
and_true true b h = (refl, h)
and_true false b h = let z : ◌≡◌ {A = Bool} false true = h in (cc, cc)

or_true : (a b : Bool) → (a || b) ≡ true → (a ≡ true) ⊎ (b ≡ true)
or_true true b h = inl refl
or_true false b h = inr h

is_false : (b : Bool) → (b ≡ true → ⊥) → b ≡ false
is_false true h = absurd (h refl)
is_false false h = refl

-- the table's rows
rows : (kind k : ℕ) → in_table kind k ≡ true → ((kind ≡ 1) × (k ≡ 2)) ⊎ (((kind ≡ 2) × (k ≡ 2)) ⊎ ((kind ≡ 3) × (k ≡ 6)))
unfolding in_table
rows kind k h =
    let row : (m n : ℕ) → (eqb kind m && eqb k n) ≡ true → (kind ≡ m) × (k ≡ n) =
    λ m n e. (eqb-true kind m (and_true (eqb kind m) (eqb k n) e).0, eqb-true k n (and_true (eqb kind m) (eqb k n) e).1) in
    ⊎_elim
    (λ e. ⊎_elim (λ e'. inl (row 1 2 e')) (λ e'. inr (inl (row 2 2 e'))) (or_true (eqb kind 1 && eqb k 2) (eqb kind 2 && eqb k 2) e))
    (λ e. inr (inr (row 3 6 e)))
    (or_true ((eqb kind 1 && eqb k 2) || (eqb kind 2 && eqb k 2)) (eqb kind 3 && eqb k 6) h)

-- the way from a found record back through the tests
finds : Cut → Bool
finds (Ok (Some f)) = true
finds (Ok None) = false
finds (Err r) = false

event_or : Event → Cut → Event
event_or e (Ok (Some f)) = f.event
event_or e (Ok None) = e
event_or e (Err r) = e

next_or : ℕ → Cut → ℕ
next_or n (Ok (Some f)) = f.next
next_or n (Ok None) = n
next_or n (Err r) = n

picked : (ends fine : Bool) (e e' : Event) (at n n' : ℕ) → cond ends no_more (cond fine (whole_record e n) (broken_record at)) ≡ whole_record e' n'
    → (fine ≡ true) × (e ≡ e') × (n ≡ n')
unfolding finds event_or next_or
picked true fine e e' at n n' h = absurd (true≢false (sym (ap finds h)))
picked false true e e' at n n' h = (refl, ap (event_or e) h, ap (next_or n) h)
picked false false e e' at n n' h = absurd (true≢false (sym (ap finds h)))

refused_or : Refused → Cut → Refused
refused_or d (Ok (Some f)) = d
refused_or d (Ok None) = d
refused_or d (Err r) = r

refuses : Cut → Bool
refuses (Ok (Some f)) = false
refuses (Ok None) = false
refuses (Err r) = true

-- what is refused at a place is the record there
refused_is : (ends fine : Bool) (e : Event) (at n : ℕ) (r : Refused) → cond ends no_more (cond fine (whole_record e n) (broken_record at)) ≡ Err r
    → (ends ≡ false) × (r ≡ record { refusal = BrokenRecord; place = at })
unfolding refused_or refuses
refused_is true fine e at n r h = absurd (true≢false (sym (ap refuses h)))
refused_is false true e at n r h = absurd (true≢false (sym (ap refuses h)))
refused_is false false e at n r h = (refl, sym (ap (refused_or r) h))

-- there is no more only at the end
ends_is : (ends fine : Bool) (e : Event) (at n : ℕ) → cond ends no_more (cond fine (whole_record e n) (broken_record at)) ≡ no_more → ends ≡ true
unfolding finds refuses
ends_is true fine e at n h = refl
ends_is false true e at n h = absurd (true≢false (ap finds h))
ends_is false false e at n h = absurd (true≢false (ap refuses h))

-- the tabled answer of each case
answered : (ends fine : Bool) (e : Event) (at n : ℕ)
    → cut_answer (cond ends no_more (cond fine (whole_record e n) (broken_record at)))
    ≡ cond ends (record { number = 0; place = 0 }) (cond fine (record { number = 0; place = n }) (record { number = 6; place = at }))
unfolding cut_answer
answered true fine e at n = refl
answered false true e at n = refl
answered false false e at n = refl

module _ (s : List ℕ) (at : ℕ) where
  -- the case settles the answer
  pub answer_is : cut_answer (cut_at s at) ≡ read_answer s at
  unfolding cut_at read_answer
  answer_is = answered (leb (length s) at) (whole s at) (event_at s at) at (at + 1 + get_or s at 0)

  cuts : {r : Cut} → r ≡ cut_at s at → next_inside at (length s) r → Cuts s at r
  cuts is inside = record { answer = ap cut_answer is ∙ answer_is; is = is; inside = inside }

  -- a record that rule 6 does not refuse is whole
  is_whole : whole s at ≡ true → Whole s at (event_at s at)
  unfolding whole event_at
  is_whole h =
      let w = and_true (leb 1 (get_or s at 0) && leb (get_or s at 0) (length s - (at + 1))) (in_table (get_or s (at + 1) 0) (get_or s at 0)) h in
      let room : get_or s at 0 ≤ length s - (at + 1) =
      leb-true _ _ (and_true (leb 1 (get_or s at 0)) (leb (get_or s at 0) (length s - (at + 1))) w.0).1 in
      ⊎_elim (λ r. simp r.0 (step r.1 r.0 refl (omega arith)))
      (⊎_elim (λ r. simp r.0 (read r.1 r.0 refl (omega arith))) (λ r. simp r.0 (add r.1 r.0 refl refl (omega arith))))
      (rows (get_or s (at + 1) 0) (get_or s at 0) w.1)

  -- and a whole record is not refused, has its event, and ends where its bytes end
  whole_is : {e : Event} → Whole s at e → whole s at ≡ true
  unfolding whole in_table
  whole_is (step k kind proc room) = simp (k, kind, le-leb 2 (length s - (at + 1)) (omega arith))
  whole_is (read k kind proc room) = simp (k, kind, le-leb 2 (length s - (at + 1)) (omega arith))
  whole_is (add k kind proc delta room) = simp (k, kind, le-leb 6 (length s - (at + 1)) (omega arith))

  event_is : {e : Event} → Whole s at e → event_at s at ≡ e
  unfolding event_at
  event_is (step k kind proc room) = simp (kind, proc)
  event_is (read k kind proc room) = simp (kind, proc)
  event_is (add k kind proc delta room) = simp (kind, proc, delta)

  next_is : {e : Event} → Whole s at e → at + 1 + get_or s at 0 ≡ at + length (bytes_of e)
  unfolding bytes_of four_bytes
  next_is (step k kind proc room) = omega arith
  next_is (read k kind proc room) = omega arith
  next_is (add k kind proc delta room) = omega arith

  -- every row at once, as omega reads it: k goes by the kind, and the record ends inside
  pub shape : {e : Event} → Whole s at e
      → (1 ≤ get_or s (at + 1) 0) × (get_or s (at + 1) 0 ≤ 3) × (get_or s at 0 ≡ 2 + get_or s (at + 1) 0 / 3 * 4) × (at + 1 + get_or s at 0 ≤ length s)
  shape (step k kind proc room) = omega arith
  shape (read k kind proc room) = omega arith
  shape (add k kind proc delta room) = omega arith

  pub refused_broken : (r : Refused) → cut_at s at ≡ Err r → (at < length s) × (r ≡ record { refusal = BrokenRecord; place = at })
  unfolding cut_at
  refused_broken r h =
      let w = refused_is (leb (length s) at) (whole s at) (event_at s at) at (at + 1 + get_or s at 0) r h in
      (leb-false (length s) at w.0, w.1)

  pub ends_beyond : cut_at s at ≡ no_more → length s ≤ at
  unfolding cut_at
  ends_beyond h = leb-true (length s) at (ends_is (leb (length s) at) (whole s at) (event_at s at) at (at + 1 + get_or s at 0) h)

  pub ended : length s ≤ at → Cuts s at no_more
  unfolding cut_at next_inside
  ended h = cuts (simp (le-leb (length s) at h)) h

  pub broken : at < length s → ((e : Event) → Whole s at e → ⊥) → Cuts s at (broken_record at)
  unfolding cut_at next_inside
  broken h none =
      cuts (simp (lt-leb (length s) at h, is_false (whole s at) (λ w. none (event_at s at) (is_whole w)))) (omega arith)

  pub cut_found : {e : Event} → Whole s at e → cut_at s at ≡ whole_record e (at + length (bytes_of e))
  unfolding cut_at
  cut_found w = simp (lt-leb (length s) at (omega (arith, shape w)), whole_is w, event_is w, next_is w)

  pub found : {e : Event} {next : ℕ} → Whole s at e → next ≡ at + length (bytes_of e) → Cuts s at (whole_record e next)
  unfolding next_inside
  found {e} w n = cuts (ap (whole_record e) n ∙ sym (cut_found w)) (omega (arith, shape w, next_is w))

  -- every place has an answer
  pub cuts_some : Cuts s at (cut_at s at)
  cuts_some = go (leb (length s) at) refl (whole s at) refl
    where
      same : {r : Cut} → Cuts s at r → Cuts s at (cut_at s at)
      same c = subst (Cuts s at) c.is c

      go : (ends : Bool) → leb (length s) at ≡ ends → (fine : Bool) → whole s at ≡ fine → Cuts s at (cut_at s at)
      go true e fine f = same (ended (leb-true (length s) at e))
      go false e true f = same (found (is_whole f) refl)
      go false e false f = same (broken (leb-false (length s) at e) (λ ev w. true≢false (sym (whole_is w) ∙ f)))

  pub found_whole : {e : Event} {next : ℕ} → cut_at s at ≡ whole_record e next → Whole s at e × (next ≡ at + length (bytes_of e))
  unfolding cut_at
  found_whole {e} {next} h =
      let p = picked (leb (length s) at) (whole s at) (event_at s at) e at (at + 1 + get_or s at 0) next h in
      let w : Whole s at e = rw p.1 at (is_whole p.0) in
      (w, sym p.2 ∙ next_is w)
