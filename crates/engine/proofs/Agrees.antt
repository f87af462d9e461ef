-- The run's arrays agree with the state of the definitions, and stay so through a step and a start: the machine's for check, with the
-- ledger's for report.
use Prim.Native.Nat.{ℕ, suc, ◌+◌, ◌*◌, ◌^◌, ◌≤◌, ◌<◌}
use native.Mathlib.Omega.{arith}
use mathlib.Core.Path.{◌≡◌, refl, sym, ap, ap₂, ◌∙◌, subst, fun_ext}
use mathlib.Core.Bool.{Bool, true, false, not}
use mathlib.Core.List.{List}
use lib.ListN.{length, get_or, set, length-set}
use lib.Seq.{get_or-set_same, get_or-set_other}
use lib.Pow.{pow_mono}
use lib.Dec.{eqb}
use borrow.Author.Tests.{eqb-true, eqb-false}
use Rattle.sets.specs.Processes.{with, count_below, is_in}
use Rattle.sets.proofs.Laws.{is_with, is_without, count_beyond}
use Rattle.meaning.proofs.Updates.{upd_is}
use Rattle.recording.specs.declared.Form.{Form as Told}
use Rattle.meaning.specs.Tree.{processes}
use Rattle.meaning.specs.Shape.{Form, formed}
use Rattle.meaning.specs.Access.{Access}
use Rattle.meaning.specs.Steps.{upd, Memory, Process, effect, onward, access_of, next_record}
use Rattle.meaning.specs.Run.{State, busy, busy_count, started, kind_of, start, most_operations, take_step}
use Rattle.climb.specs.Climb.{Known}
use Rattle.machine.specs.Arrays.{memory_of, process_of, idle_record, started_record}
use Rattle.machine.specs.Nexts.{Nexts, effect_of, CanStep}
use Rattle.spots.specs.Spot.{last_step}
use Rattle.spots.proofs.Shapes.{of_write}
use Rattle.machine.specs.declared.Memory.{Memory as Nodes}
use Rattle.machine.specs.declared.Process.{Process as Record}
use Rattle.ledger.specs.Kept.{Kept, kept_step, kept_start}
use Rattle.machine.proofs.Known.{addition_past_1}
use Rattle.machine.proofs.Laws.{started_is}
use Rattle.history.proofs.Good.{Good, Stepping, good_step, good_start, effect_by, record_after}
use Rattle.ledger.proofs.Keeps.{Keeps, keeps_step, keeps_start}
use Rattle.ledger.proofs.Numbers.{shown_after}
use Rattle.ledger.proofs.Total.{Total, total_step, total_start}
use Rattle.history.proofs.Held.{Held, held_step, held_start}
use Rattle.contention.specs.Greatest.{raised}
use Rattle.history.proofs.Busy.{busy_at, busy_else, is_busy, is_idle}
use Rattle.contention.proofs.Greatest.{Greatest, greatest_step, greatest_start}
use Rattle.engine.specs.Tries.{busy_then}

-- the definition's records of the processes
abbrev pub procs_of : List Record → ℕ → Process
procs_of ps p = process_of (get_or ps p idle_record)

pub record Agrees (form : Told) (at : ℕ) (st : State) (mem : Nodes) (ps : List Record) (set m : ℕ) : Type 0 where
  pub known : Known form
  pub good : Good (formed form) st
  pub memory : memory_of mem ≡ st.memory
  pub procs : procs_of ps ≡ st.process
  pub long : length ps ≡ 64
  pub busy_set : is_in set ≡ busy st.process
  pub operations : m ≡ st.operations
  -- each record takes three bytes at least
  pub place : 3 * length st.history + 6 ≤ at
  pub started : 3 * m + 6 ≤ at

pub record LedgerAgrees (F : Form) (st : State) (k : Kept) (greatest : ℕ → ℕ) : Type 0 where
  -- the contentions that the rows have
  pub shown : ℕ → ℕ
  pub keeps : Keeps F st shown k
  pub total : Total st k
  pub held : Held F st
  pub most : Greatest F st shown greatest

-- the processes' records after a store
procs_set : (ps : List Record) (p : ℕ) (r : Record) → p < length ps → procs_of (set ps p r) ≡ upd (procs_of ps) p (process_of r)
procs_set ps p r b =
    upd_is (procs_of ps) p (process_of r) (procs_of (set ps p r)) (ap process_of (get_or-set_same ps p r idle_record b)) (λ q n. ap process_of (get_or-set_other ps p q r idle_record n))

not_busy : (f : ℕ → Process) (q : ℕ) → (f q).step ≡ 0 → busy f q ≡ false
unfolding busy
not_busy f q e = rw e

busy_step : (f : ℕ → Process) (p : ℕ) (r : Process) → busy f p ≡ true → busy_then (eqb r.step 0) p (busy f) ≡ busy (upd f p r)
busy_step f p r b = go (eqb r.step 0) refl
  where
    go : (t : Bool) → eqb r.step 0 ≡ t → busy_then t p (busy f) ≡ busy (upd f p r)
    go true e = sym (is_without p (busy f) (busy (upd f p r)) (busy_at f p r ∙ ap not e) (busy_else f p r))
    go false e = fun_ext (λ q. by q (eqb q p) refl)
      where
        by : (q : ℕ) (t : Bool) → eqb q p ≡ t → busy f q ≡ busy (upd f p r) q
        by q true d = let same = eqb-true q p d in ap (busy f) same ∙ b ∙ sym (ap not e) ∙ sym (busy_at f p r) ∙ ap (busy (upd f p r)) (sym same)
        by q false d = sym (busy_else f p r q (eqb-false q p d))

-- ---- a step

module _ (form : Told) (at : ℕ) (st : State) (mem : Nodes) (ps : List Record) (set₀ m : ℕ) (A : Agrees form at st mem ps set₀ m)
    (p : ℕ) (inside : p < 2 ^ form.height) (acts : is_in set₀ p ≡ true) where
  its : process_of (get_or ps p idle_record) ≡ st.process p
  its = ap (λ (f : ℕ → Process). f p) A.procs

  pub stepping : Stepping (formed form) p st
  stepping = record { good = A.good; inside = inside; acts = is_busy st.process p (ap (λ (f : ℕ → Bool). f p) (sym A.busy_set) ∙ acts) }

  -- what the code's step may do
  pub can_step : CanStep form p (get_or ps p idle_record)
  unfolding process_of
  can_step =
      record {
        known = A.known;
        process = inside;
        busy = subst (λ (x : Process). 1 ≤ x.step) (sym its) stepping.acts;
        last = subst (λ (x : Process). x.step ≤ last_step (formed form) p x.adds) (sym its) (A.good.range p);
      }

  -- the code's step is the definition's
  module _ (mem' : Nodes) (r : Record) (n : Nexts form p (get_or ps p idle_record) mem mem' r) where
    rec : process_of r ≡ record_after (formed form) p st
    unfolding effect_of
    rec = n.process ∙ ap₂ (λ (x : Process) (w : Memory). next_record (formed form) p x (effect (formed form) p x w (access_of (formed form) p x))) its A.memory

    -- a leaf write is no SC
    pub still_write : (get_or ps p idle_record).step ≡ 2 → r.stored ≡ false
    unfolding effect_of effect onward process_of
    still_write two =
        let own = get_or ps p idle_record in
        n.stored
        ∙ ap (λ (a : Access). (effect (formed form) p (process_of own) (memory_of mem) a).stored)
        (of_write (formed form) p (process_of own) A.good.lawful (addition_past_1 form p own can_step (omega (arith, two))) two)

    pub agrees_step : (next : ℕ) (ps' : List Record) (set' : ℕ) → at + 3 ≤ next → ps' ≡ set ps p r → is_in set' ≡ busy_then (eqb r.step 0) p (is_in set₀)
        → Agrees form next (take_step (formed form) p st) mem' ps' set' m
    unfolding take_step effect_of process_of
    agrees_step next ps' set' further ep es =
        record {
          known = A.known;
          good = good_step (formed form) p st stepping;
          memory = n.memory ∙ ap₂ (λ (x : Process) (w : Memory). (effect (formed form) p x w (access_of (formed form) p x)).memory) its A.memory;
          procs = ap procs_of ep ∙ procs_set ps p r (omega (arith, A.long, pow_mono A.good.high)) ∙ ap₂ (λ (f : ℕ → Process) (x : Process). upd f p x) A.procs rec;
          long = ap length ep ∙ length-set ps p r ∙ A.long;
          busy_set = es ∙ ap (busy_then (eqb r.step 0) p) A.busy_set ∙ ap (λ (x : Process). busy_then (eqb x.step 0) p (busy st.process)) rec ∙ busy_step st.process p (record_after (formed form) p st) busy_now_lem;
          operations = A.operations;
          place = omega (arith, A.place);
          started = omega (arith, A.started);
        }
      where
        busy_now_lem : busy st.process p ≡ true
        busy_now_lem = ap (λ (f : ℕ → Bool). f p) (sym A.busy_set) ∙ acts

    pub ledger_step : (k k' : Kept) (greatest : ℕ → ℕ) → LedgerAgrees (formed form) st k greatest
        → k' ≡ kept_step (formed form) p (process_of (get_or ps p idle_record)) (process_of r) r.stored (greatest p) k → LedgerAgrees (formed form) (take_step (formed form) p st) k' greatest
    unfolding effect_of
    ledger_step k k' greatest L ek =
        record {
          shown = upd L.shown (st.process p).operation (shown_after (record_after (formed form) p st) (greatest p));
          keeps = subst (Keeps (formed form) (take_step (formed form) p st) _) (sym kept) (keeps_step (formed form) p st stepping L.shown k L.keeps none (greatest p));
          total = subst (Total (take_step (formed form) p st)) (sym kept) (total_step (formed form) p st stepping k L.total (greatest p));
          held = held_step (formed form) p st stepping L.held;
          most = greatest_step (formed form) p st stepping L.held L.shown greatest L.most;
        }
      where
        -- its row shows no contention yet
        none : L.shown (st.process p).operation ≡ 0
        none = L.most.unfinished (st.process p).operation (A.good.owns p stepping.acts) (A.good.unfinished p stepping.acts)

        sto : r.stored ≡ (effect_by (formed form) p st).stored
        sto = n.stored ∙ ap₂ (λ (x : Process) (w : Memory). (effect (formed form) p x w (access_of (formed form) p x)).stored) its A.memory

        kept : k' ≡ kept_step (formed form) p (st.process p) (record_after (formed form) p st) (effect_by (formed form) p st).stored (greatest p) k
        kept = ek ∙ (λ i. kept_step (formed form) p (its i) (rec i) (sto i) (greatest p) k)

-- ---- a start

module _ (form : Told) (at : ℕ) (st : State) (mem : Nodes) (ps : List Record) (set₀ m : ℕ) (A : Agrees form at st mem ps set₀ m)
    (p : ℕ) (inside : p < 2 ^ form.height) (free : is_in set₀ p ≡ false) (room : m < most_operations) (adds : Bool) (delta : ℕ) where
  idle_now : (st.process p).step ≡ 0
  idle_now = is_idle st.process p (ap (λ (f : ℕ → Bool). f p) (sym A.busy_set) ∙ free)

  room_now : st.operations < most_operations
  room_now = subst (λ (n : ℕ). n < most_operations) A.operations room

  low : p < 64
  low = omega (arith, pow_mono A.good.high)

  abbrev begun : State
  begun = start (formed form) p adds delta st

  -- the new record is the definition's
  new_record : process_of (started_record m adds delta) ≡ started st.operations adds delta
  new_record = started_is m adds delta ∙ ap (λ (n : ℕ). started n adds delta) A.operations

  module _ (ps' : List Record) (set' : ℕ) (ep : ps' ≡ set ps p (started_record m adds delta)) (es : is_in set' ≡ with p (is_in set₀)) where
    set_now : is_in set' ≡ busy (upd st.process p (started st.operations adds delta))
    unfolding started
    set_now =
        es ∙ ap (with p) A.busy_set
        ∙ sym (is_with p (busy st.process) (busy (upd st.process p (started st.operations adds delta))) low (busy_at st.process p _ ∙ starts_busy) (busy_else st.process p _))
      where
        starts_busy : not (eqb (started st.operations adds delta).step 0) ≡ true
        starts_busy = refl

    pub agrees_start : (next : ℕ) → at + 3 ≤ next → Agrees form next begun mem ps' set' (suc m)
    unfolding start
    agrees_start next further =
        record {
          known = A.known;
          good = good_start (formed form) p adds delta st A.good inside idle_now room_now;
          memory = A.memory;
          procs = procs_now;
          long = ap length ep ∙ length-set ps p _ ∙ A.long;
          busy_set = set_now;
          operations = ap suc A.operations;
          place = omega (arith, A.place);
          started = omega (arith, A.started);
        }
      where
        procs_now : procs_of ps' ≡ upd st.process p (started st.operations adds delta)
        procs_now =
            ap procs_of ep ∙ procs_set ps p (started_record m adds delta) (omega (arith, A.long, low)) ∙ ap₂ (λ (f : ℕ → Process) (x : Process). upd f p x) A.procs new_record

    pub ledger_start : (count : ℕ) (k k' : Kept) (greatest greatest' : ℕ → ℕ) → LedgerAgrees (formed form) st k greatest → count ≡ count_below 64 (is_in set') → k' ≡ kept_start m p (kind_of adds) k
        → greatest' ≡ raised p count greatest → LedgerAgrees (formed form) begun k' greatest'
    unfolding start busy_count processes
    ledger_start count k k' greatest greatest' L ec ek eg =
        record {
          shown = upd L.shown st.operations 0;
          keeps = subst (Keeps (formed form) begun _) (sym kept) (keeps_start (formed form) p adds delta st A.good inside idle_now room_now L.shown k L.keeps);
          total = subst (Total begun) (sym kept) (total_start (formed form) p adds delta st A.good k L.total (kind_of adds));
          held = held_start (formed form) p adds delta st A.good inside idle_now room_now L.held;
          most = subst (Greatest (formed form) begun _) (sym (eg ∙ ap (λ (n : ℕ). raised p n greatest) count_now)) (greatest_start (formed form) p adds delta st A.good inside idle_now room_now L.held L.shown greatest L.most);
        }
      where
        count_now : count ≡ busy_count (formed form) begun.process
        count_now =
            ec ∙ ap (count_below 64) set_now
            ∙ count_beyond (2 ^ form.height) 64 _ (pow_mono A.good.high) (λ q b. not_busy begun.process q ((good_start (formed form) p adds delta st A.good inside idle_now room_now).beyond q b))

        kept : k' ≡ kept_start st.operations p (kind_of adds) k
        kept = ek ∙ ap (λ (i : ℕ). kept_start i p (kind_of adds) k) A.operations
