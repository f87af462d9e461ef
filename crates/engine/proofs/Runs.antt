-- The loops' invariant: the arrays agree with a state from which the rest of the run is the whole run; report's has the ledger besides.
use Prim.Native.Nat.{ℕ, zero, suc, ◌+◌, ◌*◌, ◌^◌, ◌≤◌, ◌<◌}
use native.Mathlib.Omega.{arith}
use mathlib.Core.Path.{◌≡◌, refl, sym, ap, ap₂, ◌∙◌, subst, subst⁻¹}
use mathlib.Core.Bool.{Bool, true, false}
use mathlib.Core.List.{List}
use lib.ListN.{length, get_or, set}
use lib.Dec.{eqb}
use Rattle.std.specs.Prelude.{Ok, Err}
use Rattle.refusals.specs.declared.Refused.{Refused}
use Rattle.recording.specs.Record.{cut_at, Cut, whole_record, no_more, broken_record}
use Rattle.recording.specs.declared.Event.{Event}
use Rattle.recording.specs.declared.Event.TheVariants.{Step, Read, Add}
use Rattle.recording.specs.declared.Form.{Form as Told}
use lib.Pow.{pow_mono}
use Rattle.sets.specs.Processes.{with, count_below, is_in}
use Rattle.arrays.specs.Arrays.{as_fun}
use Rattle.meaning.specs.Layout.{end, broken, event, follow, form_of, records_from, first_record, records_of}
use Rattle.meaning.specs.Shape.{Form, formed}
use Rattle.meaning.specs.Tree.{root}
use Rattle.meaning.specs.Steps.{Memory}
use Rattle.meaning.specs.Contention.{contention}
use Rattle.meaning.specs.TakenIn.{rank}
use Rattle.meaning.specs.Run.{State, initial, kind_of, start, most_operations, take_step, take_event, record_refusal, process_of as process_in, is_start, Outcome, refused, accepted, unless, run, refusal_by}
use Rattle.machine.specs.Arrays.{memory_of, process_of, idle_record, started_record}
use Rattle.machine.specs.Nexts.{Nexts, CanStep}
use Rattle.machine.specs.declared.Memory.{Memory as Nodes}
use Rattle.machine.specs.declared.Process.{Process as Record}
use Rattle.history.proofs.Passing.{Taken, refusal_passes}
use Rattle.meaning.proofs.EventKinds.{form_kinds, follows_found}
use Rattle.rows.specs.Rows.{row_numbers, closed}
use Rattle.rows.proofs.Laws.{RowFits, closed_rows}
use Rattle.history.proofs.Good.{Good}
use Rattle.history.proofs.Turns.{false_true}
use Rattle.ledger.specs.Kept.{Kept, kept_step, kept_start}
use Rattle.contention.specs.Greatest.{raised}
use Rattle.contention.proofs.Greatest.{greatest_closed, shown_small}
use Rattle.engine.specs.Ends.{adds_of, delta_of, Ends, refuses, accepts, Refuses}
use Rattle.engine.specs.declared.Accepted.{Accepted}
use Rattle.engine.specs.Tries.{Stands, Stops, breaks, refuses as refusesEvent, Stopped, Goes, Begins, busy_then}
use Rattle.engine.proofs.Agrees.{Agrees, LedgerAgrees, can_step as can-step-here, agrees_step, agrees_start, ledger_step, ledger_start}

pub record Runs (s : List ℕ) (form : Told) (at : ℕ) (mem : Nodes) (ps : List Record) (set₀ m : ℕ) : Type 0 where
  pub st : State
  pub most : ℕ
  pub agrees : Agrees form at st mem ps set₀ m
  pub enough : length s ≤ most + at
  pub within : at ≤ length s
  pub rest : run (formed form) st (records_from (form_of s) most s at) ≡ run (formed form) (initial (formed form)) (records_of s)

pub record RunsKept (s : List ℕ) (form : Told) (at : ℕ) (mem : Nodes) (ps : List Record) (set₀ m : ℕ) (asked : Bool) (k : Kept) (greatest : ℕ → ℕ) : Type 0 where
  pub runs : Runs s form at mem ps set₀ m
  pub ledger : asked ≡ true → LedgerAgrees (formed form) runs.st k greatest

-- ---- the records from a place, by what is cut there

pub records_end : (F : Form) (most : ℕ) (s : List ℕ) (at : ℕ) → cut_at s at ≡ no_more → records_from F most s at ≡ end
unfolding records_from follow
records_end F zero s at e = refl
records_end F (suc most) s at e = rw e

records_broken : (F : Form) (most : ℕ) (s : List ℕ) (at place : ℕ) → cut_at s at ≡ broken_record place → records_from F (suc most) s at ≡ broken place
unfolding records_from follow
records_broken F most s at place e = rw e

records_found : (s : List ℕ) (most at : ℕ) (e : Event) (next : ℕ) → cut_at s at ≡ whole_record e next → records_from (form_of s) (suc most) s at ≡ event at e (records_from (form_of s) most s next)
unfolding records_from
records_found s most at e next c = ap (λ (x : Cut). follow (form_of s) at x (records_from (form_of s) most s)) c ∙ follows_found (form_of s) (form_kinds s) at e next (records_from (form_of s) most s)

-- ---- the event that a record is

pub take_step_lem : (F : Form) (st : State) (e : Event) → is_start e ≡ false → take_event F st e ≡ take_step F (process_in e) st
unfolding take_event process_in is_start
take_step_lem F st (Step p) n = refl
take_step_lem F st (Read p) n = absurd (false_true (sym n))
take_step_lem F st (Add p d) n = absurd (false_true (sym n))

pub take_start : (F : Form) (st : State) (e : Event) → is_start e ≡ true → take_event F st e ≡ start F (process_in e) (adds_of e) (delta_of e) st
unfolding take_event process_in is_start adds_of delta_of
take_start F st (Step p) n = absurd (false_true n)
take_start F st (Read p) n = refl
take_start F st (Add p d) n = refl

-- ---- the ways out

module _ (s : List ℕ) (form : Told) (at : ℕ) (mem : Nodes) (ps : List Record) (set₀ m : ℕ) (R : Runs s form at mem ps set₀ m) where
  pub runs_end : cut_at s at ≡ no_more → run (formed form) (initial (formed form)) (records_of s) ≡ accepted R.st
  unfolding run
  runs_end e = sym R.rest ∙ ap (run (formed form) R.st) (records_end (form_of s) R.most s at e)

  -- where something is cut, a record at least is left
  left : at < length s → (f : ℕ) × (R.most ≡ suc f)
  left b = go R.most refl
    where
      go : (n : ℕ) → R.most ≡ n → (f : ℕ) × (R.most ≡ suc f)
      go zero d = absurd (omega (arith, R.enough))
      go (suc f) d = (f, d)

  -- the run after an event, unless it is refused
  found_rest : {e : Event} {next n : ℕ} → Stands s form set₀ m at e next n
      → (f : ℕ) × (R.most ≡ suc f) × (run (formed form) (initial (formed form)) (records_of s) ≡ unless n at (run (formed form) (take_event (formed form) R.st e) (records_from (form_of s) f s next)))
  unfolding run record_refusal
  found_rest {e} {next} {n} c =
      let f = left (omega (arith, c.further, c.within)) in (
        f.0,
        f.1,
        sym R.rest ∙ ap (λ (n : ℕ). run (formed form) R.st (records_from (form_of s) n s at)) f.1 ∙ ap (run (formed form) R.st) (records_found s f.0 at e next c.found)
            ∙ ap (λ (x : ℕ). unless x at (run (formed form) (take_event (formed form) R.st e) (records_from (form_of s) f.0 s next))) refusal_here,
      )
    where
      refusal_here : record_refusal (formed form) R.st e ≡ n
      refusal_here = sym (c.number ∙ ap₂ (refusal_by (formed form) e) (ap (λ (f : ℕ → Bool). f (process_in e)) R.agrees.busy_set) R.agrees.operations)

  refused_with : (n : ℕ) (o : Outcome) → (n ≡ 0 → ⊥) → unless n at o ≡ refused (record { number = n; place = at })
  unfolding unless
  refused_with zero o z = absurd (z refl)
  refused_with (suc n) o z = refl

  pub runs_stopped : (n place : ℕ) → Stopped s form set₀ m at n place → (run (formed form) (initial (formed form)) (records_of s) ≡ refused (record { number = n; place = place })) × (1 ≤ n)
  unfolding run
  runs_stopped n place t = go t.why
    where
      go : Stops s form set₀ m at n place → (run (formed form) (initial (formed form)) (records_of s) ≡ refused (record { number = n; place = place })) × (1 ≤ n)
      go (breaks six e b) =
          let f = left b in (
            sym R.rest ∙ ap (λ (x : ℕ). run (formed form) R.st (records_from (form_of s) x s at)) f.1 ∙ ap (run (formed form) R.st) (records_broken (form_of s) f.0 s at place e)
                ∙ ap (λ (x : ℕ). refused (record { number = x; place = place })) (sym six),
            omega arith,
          )
      go (refusesEvent c z here) =
          let f = found_rest c in
          (f.2 ∙ refused_with n _ z ∙ ap (λ (x : ℕ). refused (record { number = n; place = x })) (sym here), omega (arith, positive n z))
        where
          positive : (x : ℕ) → (x ≡ 0 → ⊥) → 1 ≤ x
          positive zero w = absurd (w refl)
          positive (suc x) w = omega arith

  -- ---- an event that passes

  module _ (p next : ℕ) (starts : Bool) (g : Goes s form set₀ m at p next starts) where
    taken : Taken (formed form) g.event (is_in set₀ (process_in g.event)) m
    taken = refusal_passes (formed form) g.event (is_in set₀ (process_in g.event)) m (sym g.stands.number)

    pub inside : p < 2 ^ form.height
    inside = subst (λ (q : ℕ). q < 2 ^ form.height) (sym g.whose) taken.inside

    pub low : p < 64
    low = omega (arith, inside, pow_mono R.agrees.good.high)

    pub acting : starts ≡ false → is_in set₀ p ≡ true
    acting d = ap (is_in set₀) g.whose ∙ taken.steps (g.kind ∙ d)

    free : starts ≡ true → is_in set₀ p ≡ false
    free d = ap (is_in set₀) g.whose ∙ (taken.starts (g.kind ∙ d)).0

    room_left : starts ≡ true → m < most_operations
    room_left d = (taken.starts (g.kind ∙ d)).1

    goes_on : (mem' : Nodes) (ps' : List Record) (set' m' : ℕ) (st' : State) → take_event (formed form) R.st g.event ≡ st' → Agrees form next st' mem' ps' set' m'
        → Runs s form next mem' ps' set' m'
    unfolding unless
    goes_on mem' ps' set' m' st' same A =
        let f = found_rest g.stands in
        record {
          st = st';
          most = f.0;
          agrees = A;
          enough = omega (arith, R.enough, f.1, g.stands.further);
          within = g.stands.within;
          rest = ap (λ (x : State). run (formed form) x (records_from (form_of s) f.0 s next)) (sym same) ∙ sym f.2;
        }

  module _ (p next : ℕ) (g : Goes s form set₀ m at p next false) where
    pub can_step : CanStep form p (get_or ps p idle_record)
    can_step = can-step-here form at R.st mem ps set₀ m R.agrees p (inside p next false g) (acting p next false g refl)

    module _ (mem' : Nodes) (r : Record) (n : Nexts form p (get_or ps p idle_record) mem mem' r) (ps' : List Record) (set' : ℕ)
        (ep : ps' ≡ set ps p r) (es : is_in set' ≡ busy_then (eqb r.step 0) p (is_in set₀)) where
      pub runs_step : Runs s form next mem' ps' set' m
      runs_step =
          goes_on p next false g mem' ps' set' m (take_step (formed form) p R.st) (take_step_lem (formed form) R.st g.event g.kind ∙ ap (λ (q : ℕ). take_step (formed form) q R.st) (sym g.whose))
          (agrees_step form at R.st mem ps set₀ m R.agrees p (inside p next false g) (acting p next false g refl) mem' r n next ps' set' g.stands.further ep es)

      pub runs_kept_step : (asked : Bool) (k k' : Kept) (greatest greatest' : ℕ → ℕ) → (asked ≡ true → LedgerAgrees (formed form) R.st k greatest)
          → (asked ≡ true → (k' ≡ kept_step (formed form) p (process_of (get_or ps p idle_record)) (process_of r) r.stored (greatest p) k) × (greatest' ≡ greatest))
          → RunsKept s form next mem' ps' set' m asked k' greatest'
      unfolding runs_step goes_on
      runs_kept_step asked k k' greatest greatest' L ek =
          record {
            runs = runs_step;
            ledger =
                λ a.
                subst (LedgerAgrees (formed form) (take_step (formed form) p R.st) k') (sym (ek a).1)
                (ledger_step form at R.st mem ps set₀ m R.agrees p (inside p next false g) (acting p next false g refl) mem' r n k k' greatest (L a) (ek a).0);
          }

  module _ (p : ℕ) (adds : Bool) (delta next : ℕ) (b : Begins s form set₀ m at p adds delta next) where
    pub room : m < most_operations
    room = room_left p next true b.goes refl

    module _ (ps' : List Record) (set' m' : ℕ) (ep : ps' ≡ set ps p (started_record m adds delta)) (es : is_in set' ≡ with p (is_in set₀)) (one_more : m' ≡ suc m) where
      pub runs_start : Runs s form next mem ps' set' m'
      runs_start =
          goes_on p next true b.goes mem ps' set' m' (start (formed form) p adds delta R.st)
          (take_start (formed form) R.st b.goes.event b.goes.kind
          ∙ sym (λ i. start (formed form) (b.goes.whose i) (b.kind i) (b.amount i) R.st))
          (subst⁻¹ (Agrees form next (start (formed form) p adds delta R.st) mem ps' set') one_more (agrees_start form at R.st mem ps set₀ m R.agrees p (inside p next true b.goes) (free p next true b.goes refl) room adds delta ps' set' ep es next b.goes.stands.further))

      pub runs_kept_start : (asked : Bool) (k k' : Kept) (greatest greatest' : ℕ → ℕ) → (asked ≡ true → LedgerAgrees (formed form) R.st k greatest)
          → (asked ≡ true → (k' ≡ kept_start m p (kind_of adds) k) × (greatest' ≡ raised p (count_below 64 (is_in set')) greatest)) → RunsKept s form next mem ps' set' m' asked k' greatest'
      unfolding runs_start goes_on
      runs_kept_start asked k k' greatest greatest' L ek =
          record {
            runs = runs_start;
            ledger = λ a. ledger_start form at R.st mem ps set₀ m R.agrees p (inside p next true b.goes) (free p next true b.goes refl) room adds delta ps' set' ep es _ k k' greatest greatest' (L a) refl (ek a).0 (ek a).1;
          }

-- ---- the beginning

pub runs_begin : (s : List ℕ) (form : Told) (mem : Nodes) (ps : List Record) (set₀ : ℕ) → first_record ≤ length s → Agrees form first_record (initial (formed form)) mem ps set₀ 0 → Runs s form first_record mem ps set₀ 0
unfolding records_of
runs_begin s form mem ps set₀ b A = record { st = initial (formed form); most = length s; agrees = A; enough = omega arith; within = b; rest = refl }

pub runs_kept_begin : (s : List ℕ) (form : Told) (mem : Nodes) (ps : List Record) (set₀ : ℕ) (asked : Bool) (k : Kept) (greatest : ℕ → ℕ) → first_record ≤ length s → Agrees form first_record (initial (formed form)) mem ps set₀ 0
    → (asked ≡ true → LedgerAgrees (formed form) (initial (formed form)) k greatest) → RunsKept s form first_record mem ps set₀ 0 asked k greatest
unfolding runs_begin
runs_kept_begin s form mem ps set₀ asked k greatest b A L = record { runs = runs_begin s form mem ps set₀ b A; ledger = L }

-- ---- the ends

-- the numbers of a row fit the report's columns
pub row_fits : (F : Form) (st : State) → Good F st → (i : ℕ) → RowFits (st.row i)
row_fits F st g i = record { process = omega (arith, g.owners i); kind = g.sorts i }

-- the rows closed have every operation's contention
closed_ends : (F : Form) (st : State) (k : Kept) (greatest : ℕ → ℕ) → Good F st → LedgerAgrees F st k greatest → (i j : ℕ) → i < st.operations → j < 5
    → closed greatest st.operations k.rows (5 * i + j) ≡ get_or (row_numbers (st.row i) (contention (st.row i) st.history) (rank F st.history i)) j 0
closed_ends F st k greatest g L i j b c =
    closed_rows greatest st.operations k.rows st.row L.shown (rank F st.history) L.keeps.rows (λ x y. row_fits F st g x) (shown_small F st L.shown greatest g L.most) L.most.unfinished i j b c
    ∙ ap (λ (n : ℕ). get_or (row_numbers (st.row i) n (rank F st.history i)) j 0) (greatest_closed F st L.held L.shown greatest L.most i b)

pub ends_accepted : (s : List ℕ) (form : Told) (at : ℕ) (mem : Nodes) (ps : List Record) (set₀ m : ℕ) (asked : Bool) (k : Kept) (greatest rows : ℕ → ℕ)
    → RunsKept s form at mem ps set₀ m asked k greatest → cut_at s at ≡ no_more → (asked ≡ true → rows ≡ closed greatest m k.rows) → (r : Accepted)
    → r.operations ≡ m → r.counter ≡ get_or mem.values 1 0 → Ends asked (formed form) (length s) rows (Ok r) (run (formed form) (initial (formed form)) (records_of s))
unfolding memory_of as_fun root
ends_accepted s form at mem ps set₀ m asked k greatest rows K e shut r c d =
    let R = K.runs in
    subst (Ends asked (formed form) (length s) rows (Ok r)) (sym (runs_end s form at mem ps set₀ m R e))
    (accepts (c ∙ R.agrees.operations) (d ∙ ap (λ (x : Memory). x.value 1) R.agrees.memory) R.agrees.good.few (omega (arith, R.agrees.operations, R.agrees.started, R.within))
    (λ t i j x y. ap (λ (f : ℕ → ℕ). f (5 * i + j)) (shut t ∙ ap (λ (n : ℕ). closed greatest n k.rows) R.agrees.operations) ∙ closed_ends (formed form) R.st k greatest R.agrees.good (K.ledger t) i j x y))

pub ends_refused : (asked : Bool) (F : Form) (size : ℕ) (rows : ℕ → ℕ) (o : Outcome) (number place : ℕ) (r : Refused) → o ≡ refused (record { number = number; place = place })
    → Refuses number place r → Ends asked F size rows (Err r) o
ends_refused asked F size rows o number place r e f = subst (Ends asked F size rows (Err r)) (sym e) (refuses f)
