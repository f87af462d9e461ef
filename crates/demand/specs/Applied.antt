-- The recordings A to F, and three more, under demand 3. For each clause of `Demand3` there is a column of the operations that meet its
-- premise, or of their numbers: `reported` asks besides that what the clause says of them is so of the state after the recording, `given`
-- takes it from the clause.
use Rattle.std.specs.Prelude.{ℕ, zero, suc, ◌+◌, ◌*◌, Bool, true, false, not, cond, ◌&&◌, ◌||◌, List, [], ◌∷◌, ◌++◌, map, drop, leb, ltb, eqb}
use Rattle.meaning.specs.Shape.{Form}
use Rattle.meaning.specs.Layout.{form_of}
use Rattle.meaning.specs.Tree.{processes, root}
use Rattle.meaning.specs.Run.{Row, State, initial, Outcome, refused, accepted, outcome}
use Rattle.meaning.specs.Alone.{alone}
use Rattle.meaning.specs.TakenIn.{position_of, listed, rank}
use Rattle.meaning.specs.Plain.{run_down, up_to, times_in}
use Rattle.meaning.specs.Starred.{times, step, reads, adds, recording, cases}
use Rattle.demand.specs.InOrder.{is_listed, place_of, write_of, is_at, is_read_by, is_root_store, is_write_by}

-- A to F are the last six of the starred inputs
unfoldable pub recordings : List (List ℕ)
recordings = map (λ c. c.input) (drop 9 cases)

-- A without its last record: 1's read has taken no step. B without its last: 1 is in its second attempt. F with the processes exchanged: the
-- leaf writes are not in the order of the processes.
unfoldable pub besides : List (List ℕ)
besides =
    recording 29 (adds 0 5 ∷ times 6 (step 0) ∷ reads 1 ∷ [])
    ∷ recording 60 (adds 0 5 ∷ adds 1 7 ∷ times 2 (step 0) ∷ times 2 (step 1) ∷ step 0 ∷ step 1 ∷ times 3 (step 0) ∷ times 6 (step 1) ∷ [])
    ∷ recording 39 (adds 1 5 ∷ times 2 (step 1) ∷ adds 0 7 ∷ times 6 (step 0) ∷ [])
    ∷ []

unfoldable pub state_of : Form → Outcome → State
state_of F (refused a) = initial F
state_of F (accepted st) = st

unfoldable pub is_accepted : Outcome → Bool
is_accepted (refused a) = false
is_accepted (accepted st) = true

unfoldable pub all_accepted : List (List ℕ) → Bool
all_accepted [] = true
all_accepted (s ∷ l) = is_accepted (outcome s) && all_accepted l

-- ---- columns

-- the numbers below k that pass
unfoldable pub those : (ℕ → Bool) → ℕ → List ℕ
those p zero = []
those p (suc k) = those p k ++ cond (p k) (k ∷ []) []

-- the pairs of one below k and one below m that pass
unfoldable pub pairs : (ℕ → ℕ → Bool) → ℕ → ℕ → List (ℕ × ℕ)
pairs p m zero = []
pairs p m (suc k) = pairs p m k ++ map (λ j. (k, j)) (those (p k) m)

unfoldable pub anyone : ℕ → Bool
anyone i = true

-- a finished operation of kind k; a listed one
unfoldable pub is_done : ℕ → Row → Bool
is_done k w = eqb w.kind k && w.finished

unfoldable pub is_listed_of : ℕ → Form → State → ℕ → Bool
is_listed_of k F st i = is_listed F st i && eqb (st.row i).kind k

-- whether i is placed at the earlier record; whether both are additions placed at the same, i with the earlier leaf write
unfoldable pub is_earlier : Form → State → ℕ → ℕ → Bool
is_earlier F st i j = is_listed F st i && is_listed F st j && ltb (place_of F st i) (place_of F st j)

unfoldable pub is_tie : Form → State → ℕ → ℕ → Bool
is_tie F st i j =
    is_listed_of 3 F st i && is_listed_of 3 F st j && eqb (place_of F st i) (place_of F st j) && ltb (write_of st i) (write_of st j)

unfoldable pub is_before : List ℕ → ℕ → ℕ → Bool
is_before l i j = ltb (position_of i l) (position_of j l)

-- whether i has finished before j started, and j is listed
unfoldable pub is_over : Form → State → ℕ → ℕ → Bool
is_over F st i j = (st.row i).finished && ltb (st.row i).ended (st.row j).started && leb 1 (rank F st.history j)

-- ---- whether l meets the clauses of `ListOf`, tried on the operations that have started

unfoldable pub every : (ℕ → Bool) → ℕ → Bool
every p zero = true
every p (suc k) = every p k && p k

unfoldable pub all_below : ℕ → List ℕ → Bool
all_below m [] = true
all_below m (i ∷ l) = ltb i m && all_below m l

unfoldable pub meets : Form → State → List ℕ → Bool
meets F st l =
    all_below st.operations l && every (λ i. eqb (times_in i l) (cond (is_listed F st i) 1 0)) st.operations
    && every (λ i. every (λ j. not (is_earlier F st i j || is_tie F st i j) || is_before l i j) st.operations) st.operations

-- ---- the two sides, by clauses: the list and the records of its order

pub record Listing : Type 0 where
  pub list : List ℕ
  pub who : List ℕ
  pub reads : List ℕ
  pub additions : List ℕ
  pub writes : List ℕ
  pub earlier : List (ℕ × ℕ)
  pub ties : List (ℕ × ℕ)

unfoldable pub listing_seen : Form → State → Listing
listing_seen F st =
    let l : List ℕ = listed F st.history in
    record {
      list = l;
      who = map (λ i. times_in i l) (those anyone st.operations);
      reads = map (place_of F st) (those (λ i. is_listed_of 2 F st i && is_at (is_read_by i) (place_of F st i) st.history) st.operations);
      additions = map (place_of F st) (those (λ i. is_listed_of 3 F st i && is_at is_root_store (place_of F st i) st.history) st.operations);
      writes = map (write_of st) (those (λ i. is_listed_of 3 F st i && is_at (is_write_by i) (write_of st i) st.history) st.operations);
      earlier = pairs (λ i j. is_earlier F st i j && is_before l i j) st.operations st.operations;
      ties = pairs (λ i j. is_tie F st i j && is_before l i j) st.operations st.operations;
    }

-- by a list l that meets the clauses
unfoldable pub listing_given : Form → State → List ℕ → Listing
listing_given F st l =
    record {
      list = l;
      who = map (λ i. cond (is_listed F st i) 1 0) (those anyone st.operations);
      reads = map (place_of F st) (those (is_listed_of 2 F st) st.operations);
      additions = map (place_of F st) (those (is_listed_of 3 F st) st.operations);
      writes = map (write_of st) (those (is_listed_of 3 F st) st.operations);
      earlier = pairs (is_earlier F st) st.operations st.operations;
      ties = pairs (is_tie F st) st.operations st.operations;
    }

-- ---- who is listed how often, and finished before started

pub record Standing : Type 0 where
  pub finished : List ℕ
  pub unfinished : List ℕ
  pub reads : List ℕ
  pub strangers : ℕ
  pub order : List (ℕ × ℕ)

unfoldable pub standing_seen : Form → State → Standing
standing_seen F st =
    let l : List ℕ = listed F st.history in
    record {
      finished = those (λ i. (st.row i).finished && eqb (times_in i l) 1) st.operations;
      unfinished = those (λ i. not (st.row i).finished && leb (times_in i l) 1) st.operations;
      reads = those (λ i. eqb (st.row i).kind 2 && not (st.row i).finished && eqb (times_in i l) 0) st.operations;
      strangers = times_in st.operations l;
      order = pairs (λ i j. is_over F st i j && ltb (rank F st.history i) (rank F st.history j)) st.operations st.operations;
    }

unfoldable pub standing_given : Form → State → Standing
standing_given F st =
    record {
      finished = those (λ i. (st.row i).finished) st.operations;
      unfinished = those (λ i. not (st.row i).finished) st.operations;
      reads = those (λ i. eqb (st.row i).kind 2 && not (st.row i).finished) st.operations;
      strangers = 0;
      order = pairs (is_over F st) st.operations st.operations;
    }

-- ---- the reads' answers, and the counter

pub record Numbers : Type 0 where
  pub answers : List ℕ
  pub counter : ℕ

unfoldable pub numbers_seen : Form → State → Numbers
numbers_seen F st = record { answers = map (λ i. (st.row i).answer) (those (λ i. is_done 2 (st.row i)) st.operations); counter = st.memory.value root }

unfoldable pub numbers_given : Form → State → Numbers
numbers_given F st =
    let l : List ℕ = listed F st.history in
    record { answers = map (λ i. run_down st.row 0 (up_to i l)) (those (λ i. is_done 2 (st.row i)) st.operations); counter = run_down st.row 0 l }

-- ---- the steps; of each process, its step number after as many steps as the bound alone

pub record Counts : Type 0 where
  pub reads : List ℕ
  pub additions : List ℕ
  pub seconds : List ℕ
  pub bound : List ℕ
  pub idles : List ℕ

unfoldable pub counts_seen : Form → State → Counts
counts_seen F st =
    record {
      reads = map (λ i. (st.row i).steps) (those (λ i. is_done 2 (st.row i)) st.operations);
      additions = map (λ i. (st.row i).steps) (those (λ i. is_done 3 (st.row i)) st.operations);
      seconds = those (λ i. is_done 3 (st.row i) && leb (st.row i).seconds F.height) st.operations;
      bound = those (λ i. not (st.row i).finished && ltb (st.row i).steps (2 + 8 * F.height)) st.operations;
      idles = map (λ p. ((alone F p (2 + 8 * F.height) st).process p).step) (those anyone (processes F.height));
    }

unfoldable pub counts_given : Form → State → Counts
counts_given F st =
    record {
      reads = map (λ i. 1) (those (λ i. is_done 2 (st.row i)) st.operations);
      additions = map (λ i. 2 + 4 * F.height + 4 * (st.row i).seconds) (those (λ i. is_done 3 (st.row i)) st.operations);
      seconds = those (λ i. is_done 3 (st.row i)) st.operations;
      bound = those (λ i. not (st.row i).finished) st.operations;
      idles = map (λ p. 0) (those anyone (processes F.height));
    }

-- ---- all columns

pub record Columns : Type 0 where
  pub listing : Listing
  pub standing : Standing
  pub numbers : Numbers
  pub counts : Counts

unfoldable pub reported : List ℕ → Columns
reported s =
    let st : State = state_of (form_of s) (outcome s) in
    record { listing = listing_seen (form_of s) st; standing = standing_seen (form_of s) st; numbers = numbers_seen (form_of s) st; counts = counts_seen (form_of s) st }

unfoldable pub given : List ℕ → List ℕ → Columns
given s l =
    let st : State = state_of (form_of s) (outcome s) in
    record { listing = listing_given (form_of s) st l; standing = standing_given (form_of s) st; numbers = numbers_given (form_of s) st; counts = counts_given (form_of s) st }

-- each recording with the list that the document gives it
unfoldable pub all_meet : List (List ℕ) → List (List ℕ) → Bool
all_meet [] ls = true
all_meet (s ∷ rs) [] = false
all_meet (s ∷ rs) (l ∷ ls) = meets (form_of s) (state_of (form_of s) (outcome s)) l && all_meet rs ls

unfoldable pub all_given : List (List ℕ) → List (List ℕ) → List Columns
all_given [] ls = []
all_given (s ∷ rs) [] = []
all_given (s ∷ rs) (l ∷ ls) = given s l ∷ all_given rs ls

-- Written out from the document's words, and for the three more by its rules. Operations and records are numbered from 0.
unfoldable pub documented : List Columns
documented =
    -- A: 0's addition is finished before 1's read starts
    record {
      listing = record { list = 0 ∷ 1 ∷ []; who = 1 ∷ 1 ∷ []; reads = 8 ∷ []; additions = 6 ∷ []; writes = 2 ∷ []; earlier = (0, 1) ∷ []; ties = [] };
      standing = record { finished = 0 ∷ 1 ∷ []; unfinished = []; reads = []; strangers = 0; order = (0, 1) ∷ [] };
      numbers = record { answers = 5 ∷ []; counter = 5 };
      counts = record { reads = 1 ∷ []; additions = 6 ∷ []; seconds = 0 ∷ []; bound = []; idles = 0 ∷ 0 ∷ [] };
    }
    -- B: 0's SC takes both in
    ∷ record {
      listing = record { list = 0 ∷ 1 ∷ []; who = 1 ∷ 1 ∷ []; reads = []; additions = 10 ∷ 10 ∷ []; writes = 3 ∷ 5 ∷ []; earlier = []; ties = (0, 1) ∷ [] };
      standing = record { finished = 0 ∷ 1 ∷ []; unfinished = []; reads = []; strangers = 0; order = [] };
      numbers = record { answers = []; counter = 12 };
      counts = record { reads = []; additions = 6 ∷ 10 ∷ []; seconds = 0 ∷ 1 ∷ []; bound = []; idles = 0 ∷ 0 ∷ [] };
    }
    -- C: 1 reads before 0's SC
    ∷ record {
      listing = record { list = 1 ∷ 0 ∷ []; who = 1 ∷ 1 ∷ []; reads = 4 ∷ []; additions = 8 ∷ []; writes = 2 ∷ []; earlier = (1, 0) ∷ []; ties = [] };
      standing = record { finished = 0 ∷ 1 ∷ []; unfinished = []; reads = []; strangers = 0; order = [] };
      numbers = record { answers = 0 ∷ []; counter = 5 };
      counts = record { reads = 1 ∷ []; additions = 6 ∷ []; seconds = 0 ∷ []; bound = []; idles = 0 ∷ 0 ∷ [] };
    }
    -- D: 1's addition is finished before its read starts
    ∷ record {
      listing = record { list = 0 ∷ 2 ∷ 1 ∷ []; who = 1 ∷ 1 ∷ 1 ∷ []; reads = 11 ∷ []; additions = 9 ∷ 15 ∷ []; writes = 2 ∷ 7 ∷ []; earlier = (0, 1) ∷ (0, 2) ∷ (2, 1) ∷ []; ties = [] };
      standing = record { finished = 0 ∷ 1 ∷ 2 ∷ []; unfinished = []; reads = []; strangers = 0; order = (0, 2) ∷ [] };
      numbers = record { answers = 7 ∷ []; counter = 12 };
      counts = record { reads = 1 ∷ []; additions = 6 ∷ 6 ∷ []; seconds = 0 ∷ 1 ∷ []; bound = []; idles = 0 ∷ 0 ∷ [] };
    }
    -- E: 0's first addition is finished before its second starts
    ∷ record {
      listing = record { list = 0 ∷ 1 ∷ []; who = 1 ∷ 1 ∷ []; reads = []; additions = 6 ∷ 13 ∷ []; writes = 2 ∷ 9 ∷ []; earlier = (0, 1) ∷ []; ties = [] };
      standing = record { finished = 0 ∷ 1 ∷ []; unfinished = []; reads = []; strangers = 0; order = (0, 1) ∷ [] };
      numbers = record { answers = []; counter = 1 };
      counts = record { reads = []; additions = 6 ∷ 6 ∷ []; seconds = 0 ∷ 1 ∷ []; bound = []; idles = 0 ∷ 0 ∷ [] };
    }
    -- F: 1's SC takes both in
    ∷ record {
      listing = record { list = 0 ∷ 1 ∷ []; who = 1 ∷ 1 ∷ []; reads = []; additions = 9 ∷ 9 ∷ []; writes = 2 ∷ 5 ∷ []; earlier = []; ties = (0, 1) ∷ [] };
      standing = record { finished = 1 ∷ []; unfinished = 0 ∷ []; reads = []; strangers = 0; order = [] };
      numbers = record { answers = []; counter = 12 };
      counts = record { reads = []; additions = 6 ∷ []; seconds = 1 ∷ []; bound = 0 ∷ []; idles = 0 ∷ 0 ∷ [] };
    }
    -- A without its last record
    ∷ record {
      listing = record { list = 0 ∷ []; who = 1 ∷ 0 ∷ []; reads = []; additions = 6 ∷ []; writes = 2 ∷ []; earlier = []; ties = [] };
      standing = record { finished = 0 ∷ []; unfinished = 1 ∷ []; reads = 1 ∷ []; strangers = 0; order = [] };
      numbers = record { answers = []; counter = 5 };
      counts = record { reads = []; additions = 6 ∷ []; seconds = 0 ∷ []; bound = 1 ∷ []; idles = 0 ∷ 0 ∷ [] };
    }
    -- B without its last record: 1 has taken 9 steps, 2 + 8h less one
    ∷ record {
      listing = record { list = 0 ∷ 1 ∷ []; who = 1 ∷ 1 ∷ []; reads = []; additions = 10 ∷ 10 ∷ []; writes = 3 ∷ 5 ∷ []; earlier = []; ties = (0, 1) ∷ [] };
      standing = record { finished = 0 ∷ []; unfinished = 1 ∷ []; reads = []; strangers = 0; order = [] };
      numbers = record { answers = []; counter = 12 };
      counts = record { reads = []; additions = 6 ∷ []; seconds = 0 ∷ []; bound = 1 ∷ []; idles = 0 ∷ 0 ∷ [] };
    }
    -- F with the processes exchanged
    ∷ record {
      listing = record { list = 0 ∷ 1 ∷ []; who = 1 ∷ 1 ∷ []; reads = []; additions = 9 ∷ 9 ∷ []; writes = 2 ∷ 5 ∷ []; earlier = []; ties = (0, 1) ∷ [] };
      standing = record { finished = 1 ∷ []; unfinished = 0 ∷ []; reads = []; strangers = 0; order = [] };
      numbers = record { answers = []; counter = 12 };
      counts = record { reads = []; additions = 6 ∷ []; seconds = 1 ∷ []; bound = 0 ∷ []; idles = 0 ∷ 0 ∷ [] };
    }
    ∷ []

unfoldable pub lists : List (List ℕ)
lists = map (λ c. c.listing.list) documented
