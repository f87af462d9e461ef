-- Demand 3, said of the state after an accepted recording whose tree has the form F. The list is `listed`, an operation's place in it its `rank`.
use Rattle.std.specs.Prelude.{ℕ, ◌+◌, ◌*◌, ◌≤◌, ◌<◌, ◌≡◌, true, false, List}
use Rattle.meaning.specs.Shape.{Form}
use Rattle.meaning.specs.Tree.{root}
use Rattle.meaning.specs.Run.{State}
use Rattle.meaning.specs.Alone.{alone}
use Rattle.meaning.specs.TakenIn.{listed, rank}
use Rattle.meaning.specs.Plain.{run_down, up_to, times_in}
use Rattle.demand.specs.InOrder.{ListOf, Places}

pub record Demand3 (F : Form) (st : State) : Type 0 where
  -- "The list of demand 3 holds finished reads, placed at their one step, and additions that are in node 1, placed at the SC that took them
  -- in. Additions with the same SC are ordered by their leaf writes": `listed` is such a list, no other is, and these are the places
  pub list : ListOf F st (listed F st.history)
  pub only : (l : List ℕ) → ListOf F st l → l ≡ listed F st.history
  pub places : Places F st
  -- "One plain number from 0, run down that list modulo 2^32, gives every read its reported answer and ends at the root's value."
  pub answers : (i : ℕ) → (st.row i).kind ≡ 2 → (st.row i).finished ≡ true → (st.row i).answer ≡ run_down st.row 0 (up_to i (listed F st.history))
  pub counter : run_down st.row 0 (listed F st.history) ≡ st.memory.value root
  -- "Each finished operation is listed once, an unfinished one at most once"; an unfinished read never, and nothing that has not started
  pub finished : (i : ℕ) → (st.row i).finished ≡ true → times_in i (listed F st.history) ≡ 1
  pub unfinished : (i : ℕ) → (st.row i).finished ≡ false → times_in i (listed F st.history) ≤ 1
  pub reads : (i : ℕ) → (st.row i).kind ≡ 2 → (st.row i).finished ≡ false → times_in i (listed F st.history) ≡ 0
  pub strangers : (i : ℕ) → st.operations ≤ i → times_in i (listed F st.history) ≡ 0
  -- "One that finished before another started never stands after it": i's last step came before j's start record
  pub order : (i j : ℕ) → (st.row i).finished ≡ true → (st.row i).ended < (st.row j).started → 1 ≤ rank F st.history j
      → rank F st.history i < rank F st.history j
  -- "A finished read has 1. A finished addition has 2 + 4h + 4f, where f is its number of second attempts, 0 to h."
  pub read_steps : (i : ℕ) → (st.row i).finished ≡ true → (st.row i).kind ≡ 2 → (st.row i).steps ≡ 1
  pub addition_steps : (i : ℕ) → (st.row i).finished ≡ true → (st.row i).kind ≡ 3 → ((st.row i).steps ≡ 2 + 4 * F.height + 4 * (st.row i).seconds) × ((st.row i).seconds ≤ F.height)
  -- "No addition has taken 2 + 8h steps and is still unfinished, and [..] a busy process that alone is stepped becomes idle within that number."
  pub bound : (i : ℕ) → (st.row i).finished ≡ false → (st.row i).steps < 2 + 8 * F.height
  pub idles : (p : ℕ) → ((alone F p (2 + 8 * F.height) st).process p).step ≡ 0
