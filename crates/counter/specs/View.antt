-- The state after some records as a machine that climbs the counter's tree: its counts, targets and what its processes hold are told by the
-- history, where its processes stand by their spots.
use Rattle.std.specs.Prelude.{ℕ, ◌%◌, not, cond, ◌&&◌, List, [], ◌∷◌, leb, ltb, eqb}
use Rattle.meaning.specs.Tree.{leaf_of, ancestor}
use Rattle.meaning.specs.Access.{is_leaf_write, component_of}
use Rattle.meaning.specs.Steps.{Process}
use Rattle.meaning.specs.Shape.{Form, plus}
use Rattle.meaning.specs.Run.{Entry, State}
use Rattle.meaning.specs.TakenIn.{before_read}
use Rattle.spots.specs.Spot.{Spot, spot_of, node_of}
use Rattle.spots.specs.Got.{got_at}
use Rattle.taken.specs.CountIn.{writes_to, count_in}
use Rattle.tree.specs.Machine.{Memory, Stand, Climber, Machine}
use Rattle.counter.specs.SumTree.{level_over}

-- the value of component c after its first k writes, each of its operation's delta
unfoldable pub value_after : (ℕ → ℕ) → ℕ → ℕ → List Entry → ℕ
value_after delta c k [] = 0
value_after delta c k (e ∷ es) =
    cond (is_leaf_write e.access && eqb c (component_of e.access) && ltb (writes_to c es) k) (plus (value_after delta c k es) (delta e.operation))
    (value_after delta c k es)

unfoldable pub deltas : State → ℕ → ℕ
deltas st i = (st.row i).delta

unfoldable pub places_of : Form → State → Memory ℕ
places_of F st =
    record {
      value = st.memory.value;
      linked = st.memory.linked;
      count = λ x q. count_in F.height (level_over F.height x q) q st.history;
      history = λ q k. value_after (deltas st) q k st.history;
    }

-- an addition climbs from step 3 on; its place, its attempt and its position in it are its spot's
unfoldable pub stand_of : Form → ℕ → Process → ℕ → Stand
stand_of F p r target =
    let σ : Spot = spot_of F p r.step in
    record {
      climbs = r.adds && leb 3 r.step;
      component = p;
      target = target;
      place = node_of F p σ;
      second = σ.second;
      begun = not (eqb σ.position 0);
    }

-- a child's number is its parity: 0 is the left one, 1 the right one
unfoldable pub climber_of : Form → ℕ → Process → ℕ → (ℕ → ℕ) → Climber ℕ
climber_of F p r target holds =
    record {
      stand = stand_of F p r target;
      got = λ y. got_at F p (spot_of F p r.step) (y % 2);
      seen = λ y. r.children (y % 2);
      holds = holds;
    }

-- how many of q's additions were in the child, towards q, of process p's node when p read it
unfoldable pub held_by : Form → ℕ → Process → List Entry → ℕ → ℕ
held_by F p r es q =
    let l : ℕ = (spot_of F p r.step).level in
    count_in F.height l q (before_read p (ancestor l (leaf_of F.height q)) es)

unfoldable pub view : Form → State → Machine ℕ
view F st =
    record {
      memory = places_of F st;
      process = λ p. climber_of F p (st.process p) (writes_to p st.history) (held_by F p (st.process p) st.history);
    }
