-- Demand 3 holds of the bytes that report writes: read back with the recording, they give the contentions, the list, the answers and the counter.
use Prim.Native.Nat.{ℕ, zero, suc, ◌+◌, ◌*◌, ◌%◌, ◌^◌, max, ◌≤◌, ◌<◌}
use native.Mathlib.Omega.{arith}
use mathlib.Core.Path.{◌≡◌, refl, sym, ap, ◌∙◌, subst₂, subst⁻¹}
use mathlib.Core.Bool.{Bool, true, false, cond}
use mathlib.Core.List.{List, [], ◌∷◌, ◌++◌, Memᴰ}
use lib.ListN.{length, drop}
use lib.Dec.{leb, eqb}
use Rattle.sets.specs.Processes.{count_below}
use Rattle.sets.proofs.Laws.{count_same}
use Rattle.recording.specs.Record.{Answer}
use Rattle.meaning.specs.Layout.{form_of}
use Rattle.meaning.specs.Shape.{Form, plus}
use Rattle.meaning.specs.Run.{Row, State, Outcome, refused, accepted, outcome}
use Rattle.meaning.specs.Contention.{during}
use Rattle.meaning.specs.TakenIn.{listed, position_of, rank}
use Rattle.meaning.specs.Plain.{number_after, run_down, up_to, times_in}
use Rattle.meaning.specs.Report.{one, report_bytes, needed, passes, answer_with, buffer_with, report_answer, report_buffer}
use Rattle.history.proofs.Good.{Good}
use Rattle.taken.proofs.Lists.{position_le}
use Rattle.history.proofs.UnderWay.{under_way_at, greatest_over, contention_over}
use Rattle.counter.proofs.Number.{run_same}
use Rattle.counter.proofs.Lists.{mem_up_to, times_not, times_once}
use Rattle.counter.proofs.Told.{Told}
use Rattle.entries.specs.Promises.{Reports}
use Rattle.entries.proofs.Laws.{refusal_positive}
use Rattle.demand.specs.Demand3.{Demand3}
use Rattle.read_back.specs.ReadBack.{operations_in, counter_in, process_in, kind_in, finished_in, contention_in, steps_in, answer_in, rank_in, seconds_in, list_in, start_row, start_in, operations_by, under_way, at_once, most_at_once, ReadBack}
use Rattle.demand.proofs.Holds.{carried, demand_3}
use Rattle.read_back.proofs.ByRank.{few, by_rank_lem}
use Rattle.read_back.proofs.Starts.{starts_many, start_in_lem}
use Rattle.read_back.proofs.Records.{ended_before, steps_by_lem, records_many, under_way_lem}
use Rattle.read_back.proofs.Owners.{Attempts, finished_again, no_answer, no_seconds, unread_steps, attempts, early_unlisted}
use Rattle.read_back.proofs.Bytes.{version_in, length_in, operations_in_lem, counter_in_lem, process_in_lem, kind_in_lem, finished_in_lem, contention_in_lem, steps_in_lem, answer_in_lem, rank_in_lem, seconds_in_lem}

-- a recording that report passes is accepted, and its report stands at the buffer's front
passed : (s buf : List ℕ) → report_answer s buf ≡ passes → (st : State) × (outcome s ≡ accepted st) × (report_buffer s buf ≡ report_bytes (form_of s) st ++ drop (needed st) buf)
unfolding report_answer report_buffer answer_with buffer_with passes
passed s buf e = go (outcome s) refl e
  where
    go : (o : Outcome) → outcome s ≡ o → answer_with o (length buf) ≡ passes
        → (st : State) × (o ≡ accepted st) × (buffer_with (form_of s) o buf ≡ report_bytes (form_of s) st ++ drop (needed st) buf)
    go (refused a) d z = absurd (omega (arith, refusal_positive s a d, ap (λ (x : Answer). x.number) z))
    go (accepted st) d z = (st, refl, room (leb (needed st) (length buf)) z)
      where
        room : (t : Bool) → cond t passes (record { number = 11; place = needed st }) ≡ passes → cond t (report_bytes (form_of s) st ++ drop (needed st) buf) buf ≡ report_bytes (form_of s) st ++ drop (needed st) buf
        room true y = refl
        room false y = absurd (omega (arith, ap (λ (x : Answer). x.number) y))

-- the plain number is below 2^32
run_below : (row : ℕ → Row) (v : ℕ) (l : List ℕ) → v < 2 ^ 32 → run_down row v l < 2 ^ 32
unfolding run_down number_after plus
run_below row v [] b = b
run_below row v (i ∷ l) b = run_below row (number_after (row i) v) l (go (eqb (row i).kind 3))
  where
    go : (t : Bool) → cond t ((v + (row i).delta) % 2 ^ 32) v < 2 ^ 32
    go true = omega arith
    go false = b

finished_few : (t : Bool) → one t ≤ 1
unfolding one
finished_few true = omega arith
finished_few false = omega arith

finished_one : (t : Bool) → one t ≡ 1 → t ≡ true
unfolding one
finished_one true e = refl
finished_one false e = absurd (omega arith)

finished_zero : (t : Bool) → one t ≡ 0 → t ≡ false
unfolding one
finished_zero true e = absurd (omega arith)
finished_zero false e = refl

module _ (s : List ℕ) (st : State) (e : outcome s ≡ accepted st) (rest : List ℕ) where
  abbrev F : Form
  F = form_of s

  abbrev b : List ℕ
  b = report_bytes F st ++ rest

  abbrev list : List ℕ
  list = listed F st.history

  good : Good F st
  good = (carried s st e).0

  told : Told F st
  told = (carried s st e).1.told

  demand : Demand3 F st
  demand = demand_3 s st e

  operations : operations_in b ≡ st.operations
  operations = operations_in_lem F st rest good.few

  started : (i : ℕ) → i < operations_in b → i < st.operations
  started i l = omega (arith, operations)

  ranks : (i : ℕ) → i < st.operations → rank_in b i ≡ position_of i list
  unfolding rank
  ranks i l = rank_in_lem F st rest i l (omega (arith, position_le i list, few st.operations told.apart told.known, good.few))

  list_in_lem : list_in b ≡ list
  unfolding list_in
  list_in_lem = rw operations (by_rank_lem st.operations list told.apart told.known (rank_in b) ranks)

  -- the row that start record i tells of
  told_by : (i : ℕ) → i < st.operations → ((start_in s i).process ≡ (st.row i).process) × ((start_in s i).kind ≡ (st.row i).kind) × ((start_in s i).delta ≡ (st.row i).delta)
  unfolding start_row
  told_by i l = let r = start_in_lem s st e i l in (ap (λ (w : Row). w.process) r, ap (λ (w : Row). w.kind) r, ap (λ (w : Row). w.delta) r)

  -- the rows agree on what the plain number takes
  run_in : (l : List ℕ) → ((i : ℕ) → Memᴰ i l → Memᴰ i list) → run_down (start_in s) 0 l ≡ run_down st.row 0 l
  run_in l sub = run_same (start_in s) st.row 0 l (λ i m. let r = told_by i (told.known i (sub i m)) in (r.1, r.2))

  is_read_lem : (i : ℕ) → i < operations_in b → kind_in b i ≡ 2 → (st.row i).kind ≡ 2
  is_read_lem i l k = sym (kind_in_lem F st rest i (started i l)) ∙ k

  is_finished_lem : (i : ℕ) → i < operations_in b → finished_in b i ≡ 1 → (st.row i).finished ≡ true
  is_finished_lem i l f = finished_one (st.row i).finished (sym (finished_in_lem F st rest i (started i l)) ∙ f)

  is_unfinished : (i : ℕ) → i < operations_in b → finished_in b i ≡ 0 → (st.row i).finished ≡ false
  is_unfinished i l f = finished_zero (st.row i).finished (sym (finished_in_lem F st rest i (started i l)) ∙ f)

  answers : (i : ℕ) → i < operations_in b → kind_in b i ≡ 2 → finished_in b i ≡ 1 → answer_in b i ≡ run_down (start_in s) 0 (up_to i (list_in b))
  answers i l k f =
      let a = demand.answers i (is_read_lem i l k) (is_finished_lem i l f) in
      answer_in_lem F st rest i (started i l) (omega (arith, a, run_below st.row 0 (up_to i list) (omega arith))) ∙ a
      ∙ sym (run_in (up_to i list) (λ j m. mem_up_to i j list m)) ∙ ap (λ (x : List ℕ). run_down (start_in s) 0 (up_to i x)) (sym list_in_lem)

  counter : run_down (start_in s) 0 (list_in b) ≡ counter_in b
  counter =
      ap (λ (x : List ℕ). run_down (start_in s) 0 x) list_in_lem ∙ run_in list (λ i m. m) ∙ demand.counter
      ∙ sym (counter_in_lem F st rest (omega (arith, demand.counter, run_below st.row 0 list (omega arith))))

  order : (i j : ℕ) → i < operations_in b → j < operations_in b → finished_in b i ≡ 1 → times_in i (up_to j (operations_by s)) ≡ times_in i (operations_by s)
      → 1 ≤ rank_in b j → rank_in b i < rank_in b j
  unfolding rank
  order i j l m f before r =
      let n = is_finished_lem i l f in
      let x = ranks i (started i l) in
      let y = ranks j (started j m) in
      omega (arith, x, y, demand.order i j n (ended_before s st e i j (started j m) n before) (omega arith))

  steps : (i : ℕ) → i < operations_in b → steps_in b i ≡ (st.row i).steps
  steps i l = steps_in_lem F st rest i (started i l) (omega (arith, attempts s st e i (started i l), good.high))

  seconds : (i : ℕ) → i < operations_in b → seconds_in b i ≡ (st.row i).seconds
  seconds i l = seconds_in_lem F st rest i (started i l) (omega (arith, (attempts s st e i (started i l)).0, good.high))

  same_process : (i : ℕ) → i < operations_in b → process_in b i ≡ (st.row i).process
  same_process i l = process_in_lem F st rest i (started i l)

  -- ---- the contention

  abbrev all : List ℕ
  all = operations_by s

  -- how many are under way right after the record that had k before it
  abbrev now : ℕ → ℕ
  now = under_way_at st.row st.operations

  in_way : (k i : ℕ) → k < length st.history → i < st.operations → under_way b all (suc k) i ≡ during (st.row i) k
  in_way k i m l = under_way_lem s st e b i k l (finished_in_lem F st rest i l) m

  at_once_lem : (k : ℕ) → k < length st.history → at_once b all (suc k) ≡ now k
  unfolding at_once
  at_once_lem k m = ap (λ (n : ℕ). count_below n (under_way b all (suc k))) operations ∙ count_same st.operations _ _ (λ i l. in_way k i m l)

  most_at_once_lem : (i n : ℕ) → i < st.operations → n ≤ length st.history → most_at_once b all i n ≡ greatest_over n (during (st.row i)) now
  unfolding most_at_once greatest_over
  most_at_once_lem i zero l m = refl
  most_at_once_lem i (suc n) l m = λ t. max (most_at_once_lem i n l (omega arith) t) (cond (in_way n i (omega arith) l t) (at_once_lem n (omega arith) t) 0)

  contention_by_lem : (i : ℕ) → i < operations_in b → contention_in b i ≡ most_at_once b all i (length all)
  contention_by_lem i l =
      contention_in_lem F st rest i (started i l) ∙ contention_over F st (carried s st e).1.under_way (st.row i)
      ∙ sym (ap (most_at_once b all i) (records_many s st e) ∙ most_at_once_lem i (length st.history) (started i l) (omega arith))

  -- ---- the other columns

  again : (i j : ℕ) → i < j → j < operations_in b → process_in b i ≡ process_in b j → finished_in b i ≡ 1
  unfolding one
  again i j m l same =
      finished_in_lem F st rest i (omega (arith, started j l))
      ∙ ap one (finished_again s st e i j m (started j l) (sym (same_process i (omega arith)) ∙ same ∙ same_process j l))

  otherwise : (i : ℕ) → i < operations_in b → (kind_in b i ≡ 2 → finished_in b i ≡ 0) → answer_in b i ≡ 0
  otherwise i l n =
      let z = no_answer s st e i (λ k. is_unfinished i l (n (kind_in_lem F st rest i (started i l) ∙ k))) in
      answer_in_lem F st rest i (started i l) (omega (arith, z)) ∙ z

  read_steps : (i : ℕ) → i < operations_in b → kind_in b i ≡ 2 → (steps_in b i ≡ finished_in b i) × (seconds_in b i ≡ 0)
  unfolding one
  read_steps i l k = (steps i l ∙ go (st.row i).finished refl ∙ sym (finished_in_lem F st rest i (started i l)), seconds i l ∙ no_seconds s st e i (is_read_lem i l k))
    where
      go : (t : Bool) → (st.row i).finished ≡ t → (st.row i).steps ≡ one t
      go true f = demand.read_steps i f (is_read_lem i l k)
      go false f = unread_steps s st e i (started i l) (is_read_lem i l k) f

  bytes_read_back : ReadBack s b
  unfolding form_of
  bytes_read_back =
      record {
        header = (version_in F st rest, length_in F st rest good.few ∙ ap (λ (n : ℕ). 4 + 20 * n) (sym operations));
        rows = operations ∙ sym (starts_many s st e);
        process = λ i l. same_process i l ∙ sym (told_by i (started i l)).0;
        kind = λ i l. kind_in_lem F st rest i (started i l) ∙ sym (told_by i (started i l)).1;
        either = λ i l. omega (arith, finished_in_lem F st rest i (started i l), finished_few (st.row i).finished);
        steps = λ i l. steps_by_lem s st e i (started i l) ∙ omega (arith, steps i l);
        contention = contention_by_lem;
        again = again;
        answers = answers;
        counter = counter;
        otherwise = otherwise;
        ranks = λ i l. ap (λ (x : List ℕ). position_of i x) list_in_lem ∙ sym (ranks i (started i l));
        finished = λ i l f. ap (λ (x : List ℕ). times_in i x) list_in_lem ∙ demand.finished i (is_finished_lem i l f);
        unfinished = λ i. rw list_in_lem (times_once i list told.apart);
        early = λ i l f few. ap (λ (x : List ℕ). times_in i x) list_in_lem ∙ times_not i list (early_unlisted s st e i (started i l) (is_unfinished i l f) (omega (arith, steps i l)));
        order = order;
        read_steps = read_steps;
        addition_steps = λ i l f k. omega
            (arith, steps i l, seconds i l, (demand.addition_steps i (is_finished_lem i l f) (sym (kind_in_lem F st rest i (started i l)) ∙ k)).0);
        seconds = λ i l. subst₂ (Attempts F.height) (sym (steps i l)) (sym (seconds i l)) (attempts s st e i (started i l));
        bound = λ i l f. omega (arith, steps i l, demand.bound i (is_unfinished i l f));
      }

-- of the buffer after every report that passes, as the definition has it and as the function promises it
pub read_back : (s buf : List ℕ) → report_answer s buf ≡ passes → ReadBack s (report_buffer s buf)
read_back s buf e = let p = passed s buf e in subst⁻¹ (ReadBack s) p.2 (bytes_read_back s p.0 p.1 (drop (needed p.0) buf))

pub report_reads_back : (s before after : List ℕ) (a : Answer) → Reports s before after a → a ≡ passes → ReadBack s after
report_reads_back s before after a x e = subst⁻¹ (ReadBack s) x.buffer (read_back s before (sym x.answer ∙ e))
