-- The rows' processes, kinds and deltas are those of the recording's start records, in their order.
use Prim.Native.Nat.{ℕ, zero, suc, ◌<◌}
use native.Mathlib.Omega.{arith}
use mathlib.Core.Path.{◌≡◌, refl, sym, ap, ap₂, ◌∙◌}
use mathlib.Core.Bool.{Bool, true, false}
use mathlib.Core.List.{List, [], ◌∷◌, ◌++◌, append-nil, append_assoc}
use lib.ListN.{length, get_or, length-append, get_or-append}
use lib.Seq.{get_or_at}
use lib.Dec.{ltb}
use borrow.Author.Tests.{ltb-true, ltb-false}
use Rattle.meaning.proofs.Updates.{upd_same, upd_other, upd_cases}
use Rattle.recording.specs.declared.Event.TheVariants.{Step, Read, Add}
use Rattle.meaning.specs.Shape.{Form}
use Rattle.meaning.specs.Layout.{Records, end, broken, event, form_of, records_of}
use Rattle.meaning.specs.Run.{Row, State, blank, initial, kind_of, new_row, start, row_after, take_step, take_event, record_refusal, accepted, run, outcome}
use Rattle.history.proofs.Accepted.{none_refused, accepted_run}
use Rattle.read_back.specs.ReadBack.{start_row, starts_of, start_in}

-- what its start record tells of a row
abbrev start_of : Row → Row
start_of w = start_row w.process w.kind w.delta

-- that of the first k rows
abbrev below : (ℕ → Row) → ℕ → List Row
below row zero = []
below row (suc k) = below row k ++ (start_of (row k) ∷ [])

below_same : (f g : ℕ → Row) (k : ℕ) → ((i : ℕ) → i < k → start_of (f i) ≡ start_of (g i)) → below f k ≡ below g k
below_same f g zero e = refl
below_same f g (suc k) e = ap₂ (λ (l : List Row) (w : Row). l ++ (w ∷ [])) (below_same f g k (λ i b. e i (omega arith))) (e k (omega arith))

length-below : (row : ℕ → Row) (k : ℕ) → length (below row k) ≡ k
length-below row zero = refl
length-below row (suc k) = length-append (below row k) (start_of (row k) ∷ []) ∙ omega (arith, length-below row k)

below_at : (row : ℕ → Row) (k i : ℕ) → i < k → get_or (below row k) i blank ≡ start_of (row i)
below_at row zero i b = absurd (omega arith)
below_at row (suc k) i b = go (ltb i k) refl (below_at row k i)
  where
    go : (t : Bool) → ltb i k ≡ t → (i < k → get_or (below row k) i blank ≡ start_of (row i)) → get_or (below row k ++ (start_of (row k) ∷ [])) i blank ≡ start_of (row i)
    go true e ih = let c = ltb-true i k e in get_or-append (below row k) (start_of (row k) ∷ []) blank i (omega (arith, length-below row k)) ∙ ih c
    go false e ih =
        let same : k ≡ i = omega (arith, ltb-false i k e) in
        get_or_at (below row k) (start_of (row k)) [] blank i (length-below row k ∙ same) ∙ ap (λ (j : ℕ). start_of (row j)) same

abbrev starts_in : State → List Row
starts_in st = below st.row st.operations

-- a step keeps them
step_starts : (F : Form) (p : ℕ) (st : State) → starts_in (take_step F p st) ≡ starts_in st
unfolding take_step row_after
step_starts F p st =
    below_same (take_step F p st).row st.row st.operations
    (λ i b. upd_cases st.row (st.process p).operation _ (λ w. start_of w ≡ start_of (st.row i)) i (λ e. ap (λ (j : ℕ). start_of (st.row j)) (sym e)) (λ n. refl))

-- a start adds its own
start_starts : (F : Form) (p : ℕ) (adds : Bool) (delta : ℕ) (st : State) → starts_in (start F p adds delta st) ≡ starts_in st ++ (start_row p (kind_of adds) delta ∷ [])
unfolding start new_row
start_starts F p adds delta st =
    ap₂ (λ (l : List Row) (w : Row). l ++ (start_of w ∷ [])) (below_same (start F p adds delta st).row st.row st.operations (λ i b. ap start_of (upd_other st.row st.operations _ i (λ e. omega arith))))
    (upd_same st.row st.operations _)

run_starts : (F : Form) (st : State) (rs : Records) (last : State) → run F st rs ≡ accepted last → starts_in last ≡ starts_in st ++ starts_of rs
unfolding run starts_of take_event kind_of
run_starts F st end last e = ap starts_in (sym same) ∙ sym (append-nil (starts_in st))
  where
    same : st ≡ last
    same = cc
run_starts F st (broken at) last e = let z : ◌≡◌ {A = ℕ} 0 1 = cc in absurd (omega arith)
run_starts F st (event at (Step p) rs) last e =
    run_starts F (take_step F p st) rs last (none_refused (record_refusal F st (Step p)) at _ last e).1 ∙ ap (λ (l : List Row). l ++ starts_of rs) (step_starts F p st)
run_starts F st (event at (Read p) rs) last e =
    run_starts F (start F p false 0 st) rs last (none_refused (record_refusal F st (Read p)) at _ last e).1 ∙ ap (λ (l : List Row). l ++ starts_of rs) (start_starts F p false 0 st)
    ∙ append_assoc (starts_in st) (start_row p 2 0 ∷ []) (starts_of rs)
run_starts F st (event at (Add p d) rs) last e =
    run_starts F (start F p true d st) rs last (none_refused (record_refusal F st (Add p d)) at _ last e).1 ∙ ap (λ (l : List Row). l ++ starts_of rs) (start_starts F p true d st)
    ∙ append_assoc (starts_in st) (start_row p 3 d ∷ []) (starts_of rs)

starts_in_lem : (s : List ℕ) (st : State) → outcome s ≡ accepted st → starts_of (records_of s) ≡ starts_in st
unfolding initial
starts_in_lem s st e = sym (run_starts (form_of s) (initial (form_of s)) (records_of s) st (accepted_run s st e).1)

pub starts_many : (s : List ℕ) (st : State) → outcome s ≡ accepted st → length (starts_of (records_of s)) ≡ st.operations
starts_many s st e = ap length (starts_in_lem s st e) ∙ length-below st.row st.operations

-- row i of the state has the process, the kind and the delta of start record i
pub start_in_lem : (s : List ℕ) (st : State) → outcome s ≡ accepted st → (i : ℕ) → i < st.operations
    → start_in s i ≡ start_row (st.row i).process (st.row i).kind (st.row i).delta
unfolding start_in
start_in_lem s st e i b = ap (λ (l : List Row). get_or l i blank) (starts_in_lem s st e) ∙ below_at st.row st.operations i b

-- "kind, 2 or 3"
pub start_kinds : (rs : Records) (i : ℕ) → i < length (starts_of rs) → ((get_or (starts_of rs) i blank).kind ≡ 2 → ⊥) → (get_or (starts_of rs) i blank).kind ≡ 3
unfolding starts_of start_row
start_kinds end i b n = absurd (omega arith)
start_kinds (broken at) i b n = absurd (omega arith)
start_kinds (event at (Step p) rs) i b n = start_kinds rs i b n
start_kinds (event at (Read p) rs) zero b n = absurd (n refl)
start_kinds (event at (Read p) rs) (suc i) b n = start_kinds rs i (omega arith) n
start_kinds (event at (Add p d) rs) zero b n = refl
start_kinds (event at (Add p d) rs) (suc i) b n = start_kinds rs i (omega arith) n

pub kind_else : (s : List ℕ) (st : State) → outcome s ≡ accepted st → (i : ℕ) → i < st.operations → ((st.row i).kind ≡ 2 → ⊥) → (st.row i).kind ≡ 3
unfolding start_in start_row
kind_else s st e i b n =
    let k = ap (λ (w : Row). w.kind) (start_in_lem s st e i b) in
    sym k ∙ start_kinds (records_of s) i (omega (arith, starts_many s st e)) (λ z. n (sym k ∙ z))
