-- Which operation each record is of: as the recording tells it, as the history has it; where an operation's first and last stand.
use Prim.Native.Nat.{ℕ, zero, suc, ◌+◌, ◌^◌, ◌≤◌, ◌<◌}
use native.Mathlib.Nat.{zero-add}
use native.Mathlib.Omega.{arith}
use mathlib.Core.Path.{◌≡◌, refl, sym, ap, ap₂, ◌∙◌}
use mathlib.Core.Logic.{⊎_elim}
use mathlib.Core.Bool.{Bool, true, false, not, cond, ◌&&◌, ◌||◌}
use mathlib.Core.List.Memᴰ
use mathlib.Core.List.{List, [], ◌∷◌, ◌++◌, append-nil, append_assoc, Memᴰ}
use lib.ListN.{length, get_or, take, length-append, get_or-append}
use lib.Seq.{get_or_at, take_all, take-append-le}
use lib.Dec.{eqb, leb, ltb, leb-suc-suc}
use borrow.Author.Tests.{eqb-true, eqb-false, eq-eqb, ne_eqb, ltb-true, ltb-false, le-leb, lt-leb}
use Rattle.meaning.proofs.Updates.{upd_cases}
use Rattle.recording.specs.declared.Event.TheVariants.{Step, Read, Add}
use Rattle.meaning.specs.Shape.{Form}
use Rattle.meaning.specs.Layout.{Records, end, broken, event, form_of, records_of}
use Rattle.meaning.specs.Steps.{upd, next_record, at_step, idle}
use Rattle.meaning.specs.Run.{Entry, State, blank, initial, started, new_row, start, row_after, most_operations, take_step, take_event, record_refusal, accepted, run, outcome}
use Rattle.meaning.specs.Contention.{during}
use Rattle.meaning.specs.Plain.{up_to, times_in}
use Rattle.meaning.specs.Report.{one}
use Rattle.history.proofs.Good.{Good, Stepping, record_after, access_by, stepped_row}
use Rattle.history.proofs.Turns.{false_true}
use Rattle.counter.proofs.Lists.{up_to_first, up_to_last, times_not}
use Rattle.history.proofs.Accepted.{none_refused, accepted_run, accepted_keeps}
use Rattle.read_back.specs.ReadBack.{finished_in, operations_from, operations_by, under_way}
use Rattle.spots.proofs.Laws.{effect_keeps}

-- the operations of the history's entries, the earliest first
abbrev operations_in : List Entry → List ℕ
operations_in [] = []
operations_in (e ∷ es) = operations_in es ++ (e.operation ∷ [])

length_operations : (es : List Entry) → length (operations_in es) ≡ length es
length_operations [] = refl
length_operations (e ∷ es) = length-append (operations_in es) (e.operation ∷ []) ∙ omega (arith, length_operations es)

-- ---- as the recording tells it

module _ (F : Form) (p : ℕ) (st : State) (latest : ℕ → ℕ) (same : (q : ℕ) → latest q ≡ (st.process q).operation) where
  same_step : (q : ℕ) → latest q ≡ ((take_step F p st).process q).operation
  unfolding take_step next_record at_step
  same_step q =
      let keeps = ap (λ (j : ℕ × Bool × ℕ). j.0) (effect_keeps F p (st.process p) st.memory (access_by F p st)) in
      upd_cases st.process p (record_after F p st) (λ r. latest q ≡ r.operation) q (λ e. ap latest e ∙ same p ∙ sym keeps) (λ n. same q)

  same_start : (adds : Bool) (delta q : ℕ) → upd latest p st.operations q ≡ ((start F p adds delta st).process q).operation
  unfolding start upd started
  same_start adds delta q = go (eqb q p)
    where
      go : (t : Bool) → cond t st.operations (latest q) ≡ (cond t (started st.operations adds delta) (st.process q)).operation
      go true = refl
      go false = same q

run_operations : (F : Form) (st : State) (rs : Records) (last : State) (latest : ℕ → ℕ) → ((q : ℕ) → latest q ≡ (st.process q).operation) → run F st rs ≡ accepted last
    → operations_in last.history ≡ operations_in st.history ++ operations_from st.operations latest rs
unfolding run operations_from take_event take_step start
run_operations F st end last latest same e = ap (λ (x : State). operations_in x.history) (sym stays) ∙ sym (append-nil (operations_in st.history))
  where
    stays : st ≡ last
    stays = cc
run_operations F st (broken at) last latest same e = let z : ◌≡◌ {A = ℕ} 0 1 = cc in absurd (omega arith)
run_operations F st (event at (Step p) rs) last latest same e =
    run_operations F (take_step F p st) rs last latest (same_step F p st latest same) (none_refused (record_refusal F st (Step p)) at _ last e).1
    ∙ append_assoc (operations_in st.history) ((st.process p).operation ∷ []) (operations_from st.operations latest rs)
    ∙ ap (λ (i : ℕ). operations_in st.history ++ (i ∷ operations_from st.operations latest rs)) (sym (same p))
run_operations F st (event at (Read p) rs) last latest same e =
    run_operations F (start F p false 0 st) rs last (upd latest p st.operations) (same_start F p st latest same false 0) (none_refused (record_refusal F st (Read p)) at _ last e).1
    ∙ append_assoc (operations_in st.history) (st.operations ∷ []) (operations_from (suc st.operations) (upd latest p st.operations) rs)
run_operations F st (event at (Add p d) rs) last latest same e =
    run_operations F (start F p true d st) rs last (upd latest p st.operations) (same_start F p st latest same true d) (none_refused (record_refusal F st (Add p d)) at _ last e).1
    ∙ append_assoc (operations_in st.history) (st.operations ∷ []) (operations_from (suc st.operations) (upd latest p st.operations) rs)

operations_by_lem : (s : List ℕ) (st : State) → outcome s ≡ accepted st → operations_by s ≡ operations_in st.history
unfolding operations_by initial idle
operations_by_lem s st e = sym (run_operations (form_of s) (initial (form_of s)) (records_of s) st (λ p. 0) (λ q. refl) (accepted_run s st e).1)

-- ---- an operation's first and last

-- i stands at n, and nowhere after it
abbrev Last : List ℕ → ℕ → ℕ → Type 0
Last l i n = (n < length l) × (get_or l n 0 ≡ i) × (times_in i (take (suc n) l) ≡ times_in i l)

record Placed (F : Form) (st : State) : Type 0 where
  known : (i : ℕ) → Memᴰ i (operations_in st.history) → i < st.operations
  begun : (i : ℕ) → i < st.operations → Memᴰ i (operations_in st.history)
  first : (i : ℕ) → i < st.operations → length (up_to i (operations_in st.history)) ≡ (st.row i).started
  last : (i : ℕ) → (st.row i).finished ≡ true → Last (operations_in st.history) i (st.row i).ended
  -- its start and its steps
  many : (i : ℕ) → i < st.operations → times_in i (operations_in st.history) ≡ suc (st.row i).steps

-- one more at the end
times_more : (i j : ℕ) (l : List ℕ) → times_in i (l ++ (j ∷ [])) ≡ times_in i l + cond (eqb i j) 1 0
unfolding times_in
times_more i j [] = omega arith
times_more i j (x ∷ l) = omega (arith, times_more i j l)

times_own : (i j : ℕ) (l : List ℕ) → i ≡ j → times_in i (l ++ (j ∷ [])) ≡ suc (times_in i l)
times_own i j l e = times_more i j l ∙ ap (λ (t : Bool). times_in i l + cond t 1 0) (eq-eqb i j e) ∙ omega arith

times_other : (i j : ℕ) (l : List ℕ) → (i ≡ j → ⊥) → times_in i (l ++ (j ∷ [])) ≡ times_in i l
times_other i j l n = times_more i j l ∙ ap (λ (t : Bool). times_in i l + cond t 1 0) (ne_eqb i j n) ∙ omega arith

-- what is added is the last of its own, and no other's
last_now : (i j n : ℕ) (l : List ℕ) → i ≡ j → length l ≡ n → Last (l ++ (j ∷ [])) i n
last_now i j n l e m =
    let long = length-append l (j ∷ []) in
    (omega (arith, long), get_or_at l j [] 0 n m ∙ sym e, ap (λ (k : List ℕ). times_in i k) (take_all (suc n) (l ++ (j ∷ [])) (omega (arith, long))))

last_stays : (i j n : ℕ) (l : List ℕ) → (i ≡ j → ⊥) → Last l i n → Last (l ++ (j ∷ [])) i n
last_stays i j n l o k = (
  omega (arith, k.0, length-append l (j ∷ [])),
  get_or-append l (j ∷ []) 0 n k.0 ∙ k.1,
  ap (λ (m : List ℕ). times_in i m) (take-append-le (suc n) l (j ∷ []) (omega (arith, k.0))) ∙ k.2 ∙ sym (times_other i j l o),
)

placed_initial : (F : Form) → Placed F (initial F)
unfolding initial blank
placed_initial F =
    record {
      known = λ i m. absurd (Memᴰ.not-nil m);
      begun = λ i b. absurd (omega arith);
      first = λ i b. absurd (omega arith);
      last = λ i f. absurd (false_true f);
      many = λ i b. absurd (omega arith);
    }

placed_step : (F : Form) (p : ℕ) (st : State) → Stepping F p st → Placed F st → Placed F (take_step F p st)
unfolding take_step row_after
placed_step F p st s k =
    record {
      known = λ i m. ⊎_elim (k.known i) (λ n. omega (arith, Memᴰ.eq_of_singleton n, s.good.owns p s.acts)) (Memᴰ.append_cases before m);
      begun = λ i b. Memᴰ.append_left _ (k.begun i b);
      first = λ i b. stepped_row F p st s i (λ w. length (up_to i (before ++ (own ∷ []))) ≡ w.started)
          (λ e. stays i b ∙ ap (λ (j : ℕ). (st.row j).started) e) (λ n. stays i b);
      last = λ i. stepped_row F p st s i (λ w. w.finished ≡ true → Last (before ++ (own ∷ [])) i w.ended)
          (λ e f. last_now i own (length st.history) before e (length_operations st.history)) (λ n f. last_stays i own (st.row i).ended before n (k.last i f));
      many = λ i b. stepped_row F p st s i (λ w. times_in i (before ++ (own ∷ [])) ≡ suc w.steps)
          (λ e. times_own i own before e ∙ ap suc (k.many i b) ∙ ap (λ (j : ℕ). suc (suc (st.row j).steps)) e)
          (λ n. times_other i own before n ∙ k.many i b);
    }
  where
    before : List ℕ
    before = operations_in st.history

    own : ℕ
    own = (st.process p).operation

    stays : (i : ℕ) → i < st.operations → length (up_to i (before ++ (own ∷ []))) ≡ (st.row i).started
    stays i b = ap length (up_to_first i before (own ∷ []) (k.begun i b)) ∙ k.first i b

placed_start : (F : Form) (p : ℕ) (adds : Bool) (delta : ℕ) (st : State) → Good F st → p < 2 ^ F.height → (st.process p).step ≡ 0 → st.operations < most_operations → Placed F st → Placed F (start F p adds delta st)
unfolding start new_row
placed_start F p adds delta st g inside free room k =
    record {
      known = λ i m. ⊎_elim (λ n. omega (arith, k.known i n)) (λ n. omega (arith, Memᴰ.eq_of_singleton n)) (Memᴰ.append_cases before m);
      begun = λ i b. split i (λ e. Memᴰ.append_right before (Memᴰ.head e)) (λ n. Memᴰ.append_left _ (k.begun i (omega arith)));
      first = λ i b. upd_cases st.row new _ (λ w. length (up_to i (before ++ (new ∷ []))) ≡ w.started) i
          (λ e. ap (λ (j : ℕ). length (up_to j (before ++ (new ∷ [])))) e ∙ ap length (up_to_last new before (λ m. omega (arith, k.known new m))) ∙ length_operations st.history)
          (λ n. ap length (up_to_first i before (new ∷ []) (k.begun i (omega arith))) ∙ k.first i (omega arith));
      last = λ i. upd_cases st.row new _ (λ w. w.finished ≡ true → Last (before ++ (new ∷ [])) i w.ended) i
          (λ e f. absurd (false_true f)) (λ n f. last_stays i new (st.row i).ended before n (k.last i f));
      many = λ i b. upd_cases st.row new _ (λ w. times_in i (before ++ (new ∷ [])) ≡ suc w.steps) i
          (λ e. times_own i new before e ∙ ap suc (times_not i before (λ m. omega (arith, k.known i m))))
          (λ n. times_other i new before n ∙ k.many i (omega arith));
    }
  where
    before : List ℕ
    before = operations_in st.history

    new : ℕ
    new = st.operations

    split : (i : ℕ) → {P : Type 0} → (i ≡ new → P) → ((i ≡ new → ⊥) → P) → P
    split i {P} hit miss = go (eqb i new) refl
      where
        go : (t : Bool) → eqb i new ≡ t → P
        go true e = hit (eqb-true i new e)
        go false e = miss (eqb-false i new e)

-- ---- finished before started

times_some : (i n : ℕ) (l : List ℕ) → n < length l → get_or l n 0 ≡ i → 1 ≤ times_in i l
unfolding times_in
times_some i n [] b e = absurd (omega arith)
times_some i zero (x ∷ l) b e = rw (eq-eqb i x (sym e)) (omega arith)
times_some i (suc n) (x ∷ l) b e = omega (arith, times_some i n l (omega arith) e)

-- with what stands at k or after it, the whole list has it more often than the first k
times_front : (i n k : ℕ) (l : List ℕ) → k ≤ n → n < length l → get_or l n 0 ≡ i → times_in i (take k l) < times_in i l
unfolding times_in
times_front i n k [] a b e = absurd (omega arith)
times_front i n zero (x ∷ l) a b e = times_some i n (x ∷ l) b e
times_front i zero (suc k) (x ∷ l) a b e = absurd (omega arith)
times_front i (suc n) (suc k) (x ∷ l) a b e = omega (arith, times_front i n k l (omega arith) (omega arith) e)

-- what stands among the first m alone stands among the first k alone
times_within : (i m k : ℕ) (l : List ℕ) → m ≤ k → times_in i (take m l) ≡ times_in i l → times_in i (take k l) ≡ times_in i l
unfolding times_in
times_within i zero zero l a e = e
times_within i (suc m) zero l a e = absurd (omega arith)
times_within i m (suc k) [] a e = refl
times_within i zero (suc k) (x ∷ l) a e = ap (λ (n : ℕ). cond (eqb i x) 1 0 + n) (times_within i zero k l (omega arith) (omega arith))
times_within i (suc m) (suc k) (x ∷ l) a e = ap (λ (n : ℕ). cond (eqb i x) 1 0 + n) (times_within i m k l (omega arith) (omega arith))

up_to_front : (j : ℕ) (l : List ℕ) → up_to j l ≡ take (length (up_to j l)) l
unfolding up_to
up_to_front j [] = refl
up_to_front j (x ∷ l) = go (eqb j x) (up_to_front j l)
  where
    go : (t : Bool) → up_to j l ≡ take (length (up_to j l)) l → cond t [] (x ∷ up_to j l) ≡ take (length (cond t [] (x ∷ up_to j l))) (x ∷ l)
    go true ih = refl
    go false ih = ap (λ (m : List ℕ). x ∷ m) ih

placed : (s : List ℕ) (st : State) → outcome s ≡ accepted st → Placed (form_of s) st
placed s st e = (accepted_keeps Placed (λ F lawful. placed_initial F) (λ F p x y z. placed_step F p x y z) (λ F p a d x g c f o z. placed_start F p a d x g c f o z) s st e).1

pub ended_before : (s : List ℕ) (st : State) → outcome s ≡ accepted st → (i j : ℕ) → j < st.operations → (st.row i).finished ≡ true
    → times_in i (up_to j (operations_by s)) ≡ times_in i (operations_by s) → (st.row i).ended < (st.row j).started
ended_before s st e i j b f all = go (ltb (st.row i).ended (st.row j).started) refl
  where
    k : Placed (form_of s) st
    k = placed s st e

    list : List ℕ
    list = operations_in st.history

    its : times_in i (up_to j list) ≡ times_in i list
    its = ap (λ (l : List ℕ). times_in i (up_to j l)) (sym (operations_by_lem s st e)) ∙ all ∙ ap (λ (l : List ℕ). times_in i l) (operations_by_lem s st e)

    go : (t : Bool) → ltb (st.row i).ended (st.row j).started ≡ t → (st.row i).ended < (st.row j).started
    go true d = ltb-true (st.row i).ended (st.row j).started d
    go false d =
        let l = k.last i f in
        absurd
        (omega
        (arith, its, ap (λ (m : List ℕ). times_in i m) (up_to_front j list), times_front i (st.row i).ended (length (up_to j list)) list (omega (arith, ltb-false (st.row i).ended (st.row j).started d, k.first j b)) l.0 l.1))

-- an operation's records are its start and its steps
pub steps_by_lem : (s : List ℕ) (st : State) → outcome s ≡ accepted st → (i : ℕ) → i < st.operations → times_in i (operations_by s) ≡ suc (st.row i).steps
steps_by_lem s st e i b = ap (λ (l : List ℕ). times_in i l) (operations_by_lem s st e) ∙ (placed s st e).many i b

-- ---- under way

-- i stands among the first suc k exactly if its first does
begun_by : (i k : ℕ) (l : List ℕ) → k < length l → leb 1 (times_in i (take (suc k) l)) ≡ leb (length (up_to i l)) k
unfolding times_in up_to
begun_by i k [] b = absurd (omega arith)
begun_by i k (x ∷ l) b = go (eqb i x) k b (λ n. begun_by i n l)
  where
    go : (t : Bool) (k : ℕ) → k < suc (length l) → ((n : ℕ) → n < length l → leb 1 (times_in i (take (suc n) l)) ≡ leb (length (up_to i l)) n)
        → leb 1 (cond t 1 0 + times_in i (take k l)) ≡ leb (length (cond t [] (x ∷ up_to i l))) k
    go true k b ih = le-leb 1 (1 + times_in i (take k l)) (omega arith) ∙ sym (le-leb 0 k (omega arith))
    go false zero b ih = sym (lt-leb (suc (length (up_to i l))) 0 (omega arith))
    go false (suc k) b ih = ap (leb 1) (zero-add (times_in i (take (suc k) l))) ∙ ih k (omega arith) ∙ sym (leb-suc-suc (length (up_to i l)) k)

-- and there alone exactly if its last does
ended_by : (i n k : ℕ) (l : List ℕ) → Last l i n → not (eqb (times_in i (take (suc k) l)) (times_in i l)) ≡ ltb k n
ended_by i n k l z = go (ltb k n) refl
  where
    early : ℕ
    early = times_in i (take (suc k) l)

    go : (t : Bool) → ltb k n ≡ t → not (eqb early (times_in i l)) ≡ t
    go true d = ap not (ne_eqb early (times_in i l) (λ e. omega (arith, times_front i n (suc k) l (ltb-true k n d) z.0 z.1)))
    go false d = ap not (eq-eqb early (times_in i l) (times_within i (suc n) (suc k) l (omega (arith, ltb-false k n d)) z.2))

module _ (s : List ℕ) (st : State) (e : outcome s ≡ accepted st) where
  pub records_many : length (operations_by s) ≡ length st.history
  records_many = ap length (operations_by_lem s st e) ∙ length_operations st.history

  pub under_way_lem : (b : List ℕ) (i k : ℕ) → i < st.operations → finished_in b i ≡ one (st.row i).finished → k < length st.history
      → under_way b (operations_by s) (suc k) i ≡ during (st.row i) k
  unfolding under_way during one
  under_way_lem b i k l f m =
      ap (λ (all : List ℕ). under_way b all (suc k) i) (operations_by_lem s st e)
      ∙ ap₂ (λ (x y : Bool). x && y) (begun_by i k list (omega (arith, length_operations st.history)) ∙ ap (λ (n : ℕ). leb n k) ((placed s st e).first i l)) (go (st.row i).finished refl f)
    where
      list : List ℕ
      list = operations_in st.history

      go : (t : Bool) → (st.row i).finished ≡ t → finished_in b i ≡ cond t 1 0 → not (eqb (finished_in b i) 1 && eqb (times_in i (take (suc k) list)) (times_in i list)) ≡ (not t || ltb k (st.row i).ended)
      go true d z = rw z (ended_by i (st.row i).ended k list ((placed s st e).last i d))
      go false d z = rw z
