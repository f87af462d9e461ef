-- Demand 3 holds after every accepted recording, of every height.
use Prim.Native.Nat.{ℕ, ◌+◌, ◌*◌, ◌^◌, ◌<◌}
use native.Mathlib.Omega.{arith}
use mathlib.Core.Path.{◌≡◌, sym, ◌∙◌}
use mathlib.Core.Logic.{⊎_elim}
use mathlib.Core.Bool.{Bool}
use mathlib.Core.List.{List}
use Rattle.meaning.specs.Shape.{Form}
use Rattle.meaning.specs.Layout.{form_of}
use Rattle.meaning.specs.Run.{State, start, most_operations, take_step, accepted, outcome}
use Rattle.meaning.specs.TakenIn.{listed, rank}
use Rattle.spots.proofs.Shapes.{form_even}
use Rattle.history.proofs.Good.{Good, Stepping}
use Rattle.history.proofs.Turns.{false_true}
use Rattle.taken.proofs.Lists.{found}
use Rattle.history.proofs.StepCount.{StepCount, count_step, count_start, count_initial}
use Rattle.history.proofs.Held.{Held, held_step, held_start, held_initial}
use Rattle.history.proofs.UnderWay.{UnderWay, under_way_step, under_way_start, under_way_initial}
use Rattle.counter.proofs.Tied.{Tied, tied_step, tied_start, tied_initial}
use Rattle.counter.proofs.Told.{Told, told_step, told_start, told_initial, root_value}
use Rattle.counter.proofs.Whose.{Whose, whose_step, whose_start, whose_initial}
use Rattle.counter.proofs.Lists.{times_some, times_not, times_once}
use Rattle.history.proofs.Accepted.{accepted_keeps, longest_list, accepted_alone}
use Rattle.demand.specs.InOrder.{ListOf}
use Rattle.demand.specs.Demand3.{Demand3}
use Rattle.demand.proofs.OneList.{list_of, list_one, places}

-- what is carried through the records
pub record Carried (F : Form) (st : State) : Type 0 where
  pub counted : StepCount F st
  pub tied : Tied F st
  pub held : Held F st
  pub told : Told F st
  pub whose : Whose F st
  pub under_way : UnderWay F st

carried_step : (F : Form) (p : ℕ) (st : State) → Stepping F p st → Carried F st → Carried F (take_step F p st)
carried_step F p st s c =
    let t = tied_step F p st s c.tied in
    record {
      counted = count_step F p st s c.counted;
      tied = t;
      held = held_step F p st s c.held;
      told = told_step F p st s c.counted c.held c.tied t c.told;
      whose = whose_step F p st s c.counted c.whose;
      under_way = under_way_step F p st s c.held c.under_way;
    }

carried_start : (F : Form) (p : ℕ) (adds : Bool) (delta : ℕ) (st : State) → Good F st → p < 2 ^ F.height → (st.process p).step ≡ 0 → st.operations < most_operations → Carried F st → Carried F (start F p adds delta st)
carried_start F p adds delta st g b f o c =
    record {
      counted = count_start F p adds delta st g b f o c.counted;
      tied = tied_start F p adds delta st g b f o c.tied;
      held = held_start F p adds delta st g b f o c.held;
      told = told_start F p adds delta st g b f o c.told;
      whose = whose_start F p adds delta st g b f o c.whose;
      under_way = under_way_start F p adds delta st b f c.held c.under_way;
    }

-- it holds after every accepted recording
pub carried : (s : List ℕ) (st : State) → outcome s ≡ accepted st → Good (form_of s) st × Carried (form_of s) st
carried s st e =
    accepted_keeps Carried
    (λ F lawful. record { counted = count_initial F lawful; tied = tied_initial F lawful; held = held_initial F; told = told_initial F; whose = whose_initial F; under_way = under_way_initial F })
    (λ F p x y z. carried_step F p x y z)
    (λ F p a d x y b f o z. carried_start F p a d x y b f o z) s st e

pub demand_3 : (s : List ℕ) (st : State) → outcome s ≡ accepted st → Demand3 (form_of s) st
unfolding rank
demand_3 s st e =
    record {
      list = its;
      only = λ l a. list_one (form_of s) st g.0 c.told c.whose l (listed (form_of s) st.history) a its;
      places = places (form_of s) st g.0 c.told c.whose;
      answers = λ i k f. c.told.answers i f k;
      counter = c.told.counter ∙ sym (root_value (form_of s) st g.0 c.tied);
      finished = λ i f. times_some i (listed (form_of s) st.history) c.told.apart (c.told.finished i f);
      unfinished = λ i f. times_once i (listed (form_of s) st.history) c.told.apart;
      reads = λ i k f. times_not i (listed (form_of s) st.history) (λ m. false_true (sym f ∙ c.told.reads i m k));
      strangers = λ i b. times_not i (listed (form_of s) st.history) (λ m. omega (arith, c.told.known i m));
      order = λ i j f b l. c.told.order i j f (omega (arith, b)) (⊎_elim (λ z. absurd (omega arith)) (λ m. m) (found j (listed (form_of s) st.history)));
      read_steps = c.counted.read;
      addition_steps = λ i f k. c.counted.added i f k 4 (form_even s);
      bound = λ i f. omega (arith, c.counted.short i f, longest_list s (st.row i));
      idles = λ p. (accepted_alone s st e p (2 + 8 * (form_of s).height) (λ b. omega (arith, longest_list s (st.row (st.process p).operation)))).0;
    }
  where
    g : Good (form_of s) st × Carried (form_of s) st
    g = carried s st e

    c : Carried (form_of s) st
    c = g.1

    its : ListOf (form_of s) st (listed (form_of s) st.history)
    its = list_of (form_of s) st g.0 c.told c.whose

-- the clauses leave one list
pub one_list : (s : List ℕ) (st : State) → outcome s ≡ accepted st → (l m : List ℕ) → ListOf (form_of s) st l → ListOf (form_of s) st m → l ≡ m
one_list s st e l m a b = let d = demand_3 s st e in d.only l a ∙ sym (d.only m b)
