-- Whose operation is whose, through every record: a row's process is one of the tree; a leaf write is to the component of its row's process;
-- and who has read node 1 is a read.
use Prim.Native.Nat.{ℕ, ◌^◌, ◌<◌}
use native.Mathlib.Omega.{arith}
use mathlib.Core.Path.{◌≡◌, refl, sym, ap, ◌∙◌}
use mathlib.Core.Logic.{◌⊎◌, inl, inr, ⊎_elim}
use mathlib.Core.Bool.{Bool, true, false, cond}
use mathlib.Core.List.Memᴰ
use mathlib.Core.List.{List, [], ◌∷◌, Memᴰ}
use lib.Pow.{pow_mono}
use Rattle.meaning.proofs.Updates.{upd_other}
use Rattle.meaning.specs.Shape.{Form}
use Rattle.meaning.specs.Access.{is_leaf_write, component_of, is_root_read}
use Rattle.meaning.specs.Run.{Entry, Row, State, blank, initial, kind_of, new_row, start, row_after, most_operations, take_step}
use Rattle.meaning.specs.TakenIn.{leaf_writes}
use Rattle.history.proofs.Did.{did, did_now, did_on, did_cases}
use Rattle.history.proofs.Turns.{root_read_adds_not, false_true}
use Rattle.history.proofs.Good.{Good, Stepping, access_by, entry_by, begins_by, turns, leaf_write_is, stepped_row, started_row}
use Rattle.history.proofs.StepCount.{StepCount}

pub record Whose (F : Form) (st : State) : Type 0 where
  pub inside : (i : ℕ) → (st.row i).process < 2 ^ F.height
  pub readers : (i : ℕ) → did is_root_read i st.history ≡ true → (st.row i).kind ≡ 2
  pub writers : (w : Entry) → Memᴰ w (leaf_writes st.history) → (st.row w.operation).process ≡ component_of w.access

-- a leaf write is the latest entry's, or older
pub write_cases : (e : Entry) (es : List Entry) (w : Entry) → Memᴰ w (leaf_writes (e ∷ es)) → Memᴰ w (leaf_writes es) ⊎ ((is_leaf_write e.access ≡ true) × (w ≡ e))
unfolding leaf_writes
write_cases e es w m = ⊎_elim (λ n. inl n) (λ n. go (is_leaf_write e.access) refl n) (Memᴰ.append_cases (leaf_writes es) m)
  where
    go : (t : Bool) → is_leaf_write e.access ≡ t → Memᴰ w (cond t (e ∷ []) []) → Memᴰ w (leaf_writes es) ⊎ ((is_leaf_write e.access ≡ true) × (w ≡ e))
    go true d n = inr (d, Memᴰ.eq_of_singleton n)
    go false d n = absurd (Memᴰ.not-nil n)

pub writes_did : (es : List Entry) (w : Entry) → Memᴰ w (leaf_writes es) → did is_leaf_write w.operation es ≡ true
unfolding leaf_writes
writes_did [] w m = absurd (Memᴰ.not-nil m)
writes_did (e ∷ es) w m =
    ⊎_elim (λ n. did_on is_leaf_write w.operation e es (writes_did es w n)) (λ n. did_now is_leaf_write w.operation e es n.0 (ap (λ (x : Entry). x.operation) n.1)) (write_cases e es w m)

-- ---- a step

module _ (F : Form) (p : ℕ) (st : State) (s : Stepping F p st) (c : StepCount F st) (k : Whose F st) where
  abbrev st' : State
  st' = take_step F p st

  -- process and kind of a row stay
  same_row : (i : ℕ) → ((st'.row i).process ≡ (st.row i).process) × ((st'.row i).kind ≡ (st.row i).kind)
  unfolding row_after
  same_row i =
      stepped_row F p st s i (λ w. (w.process ≡ (st.row i).process) × (w.kind ≡ (st.row i).kind))
      (λ j. (ap (λ (x : ℕ). (st.row x).process) (sym j), ap (λ (x : ℕ). (st.row x).kind) (sym j))) (λ n. (refl, refl))

  own_kind : is_root_read (access_by F p st) ≡ true → (st.row (st.process p).operation).kind ≡ 2
  unfolding kind_of
  own_kind d = c.kinds p s.acts ∙ ap (λ (b : Bool). cond b 3 2) (root_read_adds_not (turns F p st s) d)

  writers_step : (w : Entry) → Memᴰ w (leaf_writes (entry_by F p st ∷ st.history)) → (st.row w.operation).process ≡ component_of w.access
  writers_step w m =
      ⊎_elim (k.writers w) (λ d. ap (λ (x : Entry). (st.row x.operation).process) d.1 ∙ s.good.owner p s.acts ∙ sym (ap (λ (x : Entry). component_of x.access) d.1 ∙ (leaf_write_is F p st s (turns F p st s) d.0).2)) (write_cases (entry_by F p st) st.history w m)

  pub whose_step : Whose F st'
  unfolding take_step
  whose_step =
      record {
        inside = λ i. omega (arith, (same_row i).0, k.inside i);
        readers = λ i d. (same_row i).1 ∙ ⊎_elim (k.readers i) (λ r. ap (λ (x : ℕ). (st.row x).kind) r.1 ∙ own_kind r.0) (did_cases is_root_read i (entry_by F p st) st.history d);
        writers = λ w m. (same_row w.operation).0 ∙ writers_step w m;
      }

-- ---- a start, and the beginning

module _ (F : Form) (p : ℕ) (adds : Bool) (delta : ℕ) (st : State) (g : Good F st) (inside : p < 2 ^ F.height) (free : (st.process p).step ≡ 0) (room : st.operations < most_operations) (k : Whose F st) where
  abbrev begins : Entry
  begins = begins_by F p adds delta st

  -- the rows of the operations that had started stay
  old_row : (i : ℕ) → i < st.operations → (start F p adds delta st).row i ≡ st.row i
  unfolding start
  old_row i b = upd_other st.row st.operations _ i (λ j. omega arith)

  readers_start : (i : ℕ) → did is_root_read i (begins ∷ st.history) ≡ true → ((start F p adds delta st).row i).kind ≡ 2
  unfolding is_root_read
  readers_start i d =
      let was = ⊎_elim (λ r. r) (λ r. absurd (false_true r.0)) (did_cases is_root_read i begins st.history d) in
      ap (λ (w : Row). w.kind) (old_row i (g.known is_root_read i was)) ∙ k.readers i was

  writers_start : (w : Entry) → Memᴰ w (leaf_writes (begins ∷ st.history)) → ((start F p adds delta st).row w.operation).process ≡ component_of w.access
  unfolding is_leaf_write
  writers_start w m =
      let was = ⊎_elim (λ n. n) (λ n. absurd (false_true n.0)) (write_cases begins st.history w m) in
      ap (λ (x : Row). x.process) (old_row w.operation (g.known is_leaf_write w.operation (writes_did st.history w was))) ∙ k.writers w was

  inside_start : (i : ℕ) → ((start F p adds delta st).row i).process < 2 ^ F.height
  unfolding new_row
  inside_start i = started_row F p adds delta st g inside free room i (λ w. w.process < 2 ^ F.height) inside (λ n. k.inside i)

  pub whose_start : Whose F (start F p adds delta st)
  unfolding start
  whose_start =
      record {
        inside = inside_start;
        readers = readers_start;
        writers = writers_start;
      }

pub whose_initial : (F : Form) → Whose F (initial F)
unfolding initial blank did leaf_writes
whose_initial F =
    record {
      inside = λ i. omega (arith, pow_mono {i = 0} {j = F.height} (omega arith));
      readers = λ i d. absurd (false_true d);
      writers = λ w m. absurd (Memᴰ.not-nil m);
    }
