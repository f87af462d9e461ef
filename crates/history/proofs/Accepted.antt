-- What holds after every accepted recording: an invariant of starts and steps holds of the state that the run ends in.
use Prim.Native.Nat.{ℕ, zero, suc, ◌+◌, ◌*◌, ◌^◌, ◌≤◌, ◌<◌}
use native.Mathlib.Omega.{arith}
use mathlib.Core.Path.{◌≡◌, refl, sym, ap, ◌∙◌, subst}
use mathlib.Core.Bool.{Bool, true, false}
use mathlib.Core.List.{List}
use lib.ListN.{length}
use lib.Dec.{eqb}
use Rattle.std.specs.Prelude.{Some, None, Ok, Err}
use Rattle.recording.specs.Record.{cut_at, next_inside, Cut, no_more}
use Rattle.refusals.specs.declared.Refused.{Refused}
use Rattle.recording.specs.declared.Event.{Event}
use Rattle.recording.specs.declared.Event.TheVariants.{Step, Read, Add}
use Rattle.recording.proofs.Cases.{cuts_some}
use Rattle.meaning.specs.Shape.{Form, highest_shape}
use Rattle.meaning.specs.Layout.{Records, end, broken, event, follow, head_refusal, form_of, records_from, first_record, records_of}
use Rattle.meaning.specs.Alone.{alone}
use Rattle.meaning.specs.Run.{Row, State, initial, busy, process_of as process_in, is_start, start, take_step, take_event, most_operations, record_refusal, Outcome, accepted, unless, run, outcome}
use Rattle.meaning.proofs.EventKinds.{follows_found}
use Rattle.spots.specs.Lawful.{Lawful}
use Rattle.history.proofs.Good.{Good, Stepping, good_step, good_start, good_initial}
use Rattle.history.proofs.StepCount.{list_long, StepCount, count_step, count_start, count_initial}
use Rattle.history.proofs.Alone.{Enough, alone_ends}
use Rattle.history.proofs.Passing.{Passes, header_passes, refusal_passes}
use Rattle.spots.proofs.Shapes.{even_last, form_lawful, form_even}
use Rattle.history.proofs.Busy.{is_busy, is_idle}

-- a refusal that is none lets the run go on
pub none_refused : (k at : ℕ) (o : Outcome) (st : State) → unless k at o ≡ accepted st → (k ≡ 0) × (o ≡ accepted st)
unfolding unless
none_refused zero at o st e = (refl, e)
none_refused (suc k) at o st e = let z : ◌≡◌ {A = ℕ} 0 1 = cc in absurd (omega arith)

module _ (F : Form) (P : State → Type 0) (steps : (p : ℕ) (st : State) → Stepping F p st → P st → P (take_step F p st))
    (begins : (p : ℕ) (adds : Bool) (delta : ℕ) (st : State) → Good F st → p < 2 ^ F.height → (st.process p).step ≡ 0 → st.operations < most_operations → P st → P (start F p adds delta st)) where
  -- one record that passes
  event_keeps : (st : State) (e : Event) → record_refusal F st e ≡ 0 → Good F st → P st → Good F (take_event F st e) × P (take_event F st e)
  unfolding take_event record_refusal process_in is_start
  event_keeps st (Step p) z g i =
      let t = refusal_passes F (Step p) (busy st.process p) st.operations z in
      let s : Stepping F p st = record { good = g; inside = t.inside; acts = is_busy st.process p (t.steps refl) } in
      (good_step F p st s, steps p st s i)
  event_keeps st (Read p) z g i =
      let t = refusal_passes F (Read p) (busy st.process p) st.operations z in
      let free = is_idle st.process p (t.starts refl).0 in
      (good_start F p false 0 st g t.inside free (t.starts refl).1, begins p false 0 st g t.inside free (t.starts refl).1 i)
  event_keeps st (Add p d) z g i =
      let t = refusal_passes F (Add p d) (busy st.process p) st.operations z in
      let free = is_idle st.process p (t.starts refl).0 in
      (good_start F p true d st g t.inside free (t.starts refl).1, begins p true d st g t.inside free (t.starts refl).1 i)

  run_keeps : (st : State) (rs : Records) (last : State) → Good F st → P st → run F st rs ≡ accepted last → Good F last × P last
  unfolding run
  run_keeps st end last g i e = subst (λ (x : State). Good F x × P x) same (g, i)
    where
      same : st ≡ last
      same = cc
  run_keeps st (broken at) last g i e = let z : ◌≡◌ {A = ℕ} 0 1 = cc in absurd (omega arith)
  run_keeps st (event at x rs) last g i e =
      let r = none_refused (record_refusal F st x) at _ last e in
      let k = event_keeps st x r.0 g i in
      run_keeps (take_event F st x) rs last k.0 k.1 r.1

-- an accepted recording's header has passed, and its run is the records'
pub accepted_run : (s : List ℕ) (st : State) → outcome s ≡ accepted st → Passes highest_shape s × (run (form_of s) (initial (form_of s)) (records_of s) ≡ accepted st)
unfolding outcome
accepted_run s st e = let r = none_refused (head_refusal highest_shape s) 0 _ st e in (header_passes highest_shape s r.0, r.1)

-- an invariant of starts and steps holds of the state of every accepted recording
pub accepted_keeps : (P : Form → State → Type 0) → ((F : Form) → Lawful F.shape → P F (initial F)) → ((F : Form) (p : ℕ) (st : State) → Stepping F p st → P F st → P F (take_step F p st))
    → ((F : Form) (p : ℕ) (adds : Bool) (delta : ℕ) (st : State) → Good F st → p < 2 ^ F.height → (st.process p).step ≡ 0 → st.operations < most_operations → P F st → P F (start F p adds delta st))
    → (s : List ℕ) (st : State) → outcome s ≡ accepted st → Good (form_of s) st × P (form_of s) st
unfolding form_of
accepted_keeps P first steps begins s st e =
    let F : Form = form_of s in
    let r = accepted_run s st e in
    run_keeps F (P F) (λ p x y z. steps F p x y z) (λ p a d x g b f o y. begins F p a d x g b f o y) (initial F) (records_of s) st
    (good_initial F (form_lawful s) r.0.high r.0.low) (first F (form_lawful s)) r.1

counted : (s : List ℕ) (st : State) → outcome s ≡ accepted st → Good (form_of s) st × StepCount (form_of s) st
counted s st e = accepted_keeps StepCount count_initial (λ F p x y z. count_step F p x y z) (λ F p a d x g b f o c. count_start F p a d x g b f o c) s st e

pub accepted_good : (s : List ℕ) (st : State) → outcome s ≡ accepted st → Good (form_of s) st
accepted_good s st e = (counted s st e).0

-- "A finished read has 1"; no operation has taken as many steps as its list has and is still unfinished, and none has more
pub accepted_steps : (s : List ℕ) (st : State) → outcome s ≡ accepted st → StepCount (form_of s) st
accepted_steps s st e = (counted s st e).1

-- an addition's list has 2 + 8h steps, a read's 1
pub longest_list : (s : List ℕ) (w : Row) → list_long (form_of s) w ≤ 2 + 8 * (form_of s).height
longest_list s w = omega (arith, even_last (form_of s) 4 w.process (eqb w.kind 3) (form_lawful s) (form_even s))

-- "from the state after any accepted recording a busy process that alone is stepped becomes idle within that number": within what its
-- operation has not yet used of its list, and the rows are then as above
pub accepted_alone : (s : List ℕ) (st : State) → outcome s ≡ accepted st → (p k : ℕ) → Enough (form_of s) p k st
    → (((alone (form_of s) p k st).process p).step ≡ 0) × StepCount (form_of s) (alone (form_of s) p k st)
accepted_alone s st e p k enough = let c = counted s st e in alone_ends (form_of s) p k st c.0 c.1 enough

-- ---- its operations and its bytes

pub accepted_few : (s : List ℕ) (st : State) → outcome s ≡ accepted st → st.operations ≤ most_operations
accepted_few s st e = (counted s st e).0.few

-- an event starts one operation at most
one_more : (F : Form) (st : State) (e : Event) → (take_event F st e).operations ≤ suc st.operations
unfolding take_event take_step start
one_more F st (Step p) = omega arith
one_more F st (Read p) = omega arith
one_more F st (Add p d) = omega arith

never_broken : (F : Form) (st : State) (r : Refused) (rest : ℕ → Records) (at : ℕ) (last : State) → run F st (follow F at (Err r) rest) ≡ accepted last → ⊥
unfolding run follow
never_broken F st r rest at last e = let z : ◌≡◌ {A = ℕ} 0 1 = cc in omega arith

ended : (F : Form) (st : State) (at : ℕ) (rest : ℕ → Records) (last : State) → run F st (follow F at no_more rest) ≡ accepted last → st ≡ last
unfolding run follow
ended F st at rest last e = cc

-- a record takes three bytes at least, so that each operation has three
operations_within : (s : List ℕ) (F : Form) → Lawful F.shape → (most at : ℕ) (st last : State) → at ≤ length s → 3 * st.operations + first_record ≤ at
    → run F st (records_from F most s at) ≡ accepted last → 3 * last.operations + first_record ≤ length s
unfolding run records_from next_inside
operations_within s F lawful zero at st last inside bytes e = let same : st ≡ last = cc in omega (arith, ap (λ (x : State). x.operations) same)
operations_within s F lawful (suc most) at st last inside bytes e = go (cut_at s at) refl e (λ next st' i b z. operations_within s F lawful most next st' last i b z)
  where
    go : (c : Cut) → cut_at s at ≡ c → run F st (follow F at c (records_from F most s)) ≡ accepted last
        → ((next : ℕ) (st' : State) → next ≤ length s → 3 * st'.operations + first_record ≤ next → run F st' (records_from F most s next) ≡ accepted last → 3 * last.operations + first_record ≤ length s)
        → 3 * last.operations + first_record ≤ length s
    go (Ok (Some f)) d z rest =
        let x : Event = f.event in
        let next : ℕ = f.next in
        let further : (at + 3 ≤ next) × (next ≤ length s) = subst (next_inside at (length s)) d (cuts_some s at).inside in
        let on : run F st (event at x (records_from F most s next)) ≡ accepted last = ap (run F st) (sym (follows_found F lawful.kinds at x next (records_from F most s))) ∙ z in
        rest next (take_event F st x) further.1 (omega (arith, one_more F st x)) (none_refused (record_refusal F st x) at _ last on).1
    go (Err r) d z rest = absurd (never_broken F st r (records_from F most s) at last z)
    go (Ok None) d z rest = let same : st ≡ last = ended F st at (records_from F most s) last z in omega (arith, ap (λ (x : State). x.operations) same)

-- an accepted recording has three bytes for each operation after the first six
pub accepted_bytes : (s : List ℕ) (st : State) → outcome s ≡ accepted st → 3 * st.operations + first_record ≤ length s
unfolding records_of initial
accepted_bytes s st e = let r = accepted_run s st e in operations_within s (form_of s) (form_lawful s) (length s) first_record (initial (form_of s)) st r.0.enough (omega arith) r.1
