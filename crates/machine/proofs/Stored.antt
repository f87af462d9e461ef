-- A store in the values or the link sets is one of the memory that the two are.
use Rattle.std.proofs.Common.{◌≡◌, ℕ, Bool, true, false, cond, eqb, List, refl, ap, ◌∙◌}
use mathlib.Core.Path.{fun_ext}
use Rattle.sets.specs.Processes.{is_in}
use Rattle.cell.specs.Cell.{state_of}
use Rattle.cell.specs.declared.Cell.{Cell}
use Rattle.meaning.specs.Steps.{upd, with_cell, with_value}
use Rattle.arrays.specs.Arrays.{as_fun}
use Rattle.machine.specs.Arrays.{memory_of}
use Rattle.machine.specs.declared.Memory.{Memory as Nodes}

-- the sets that a list of numbers keeps
sets_upd : (f : ℕ → ℕ) (i v : ℕ) → (λ (x : ℕ). is_in (upd f i v x)) ≡ upd (λ (x : ℕ). is_in (f x)) i (is_in v)
unfolding upd
sets_upd f i v = fun_ext (λ j. go j (eqb j i))
  where
    go : (j : ℕ) (t : Bool) → is_in (cond t v (f j)) ≡ cond t (is_in v) (is_in (f j))
    go j true = refl
    go j false = refl

pub value_stored : (m : Nodes) (vals : List ℕ) (x v : ℕ) → as_fun vals ≡ upd (as_fun m.values) x v
    → memory_of (record { values = vals; links = m.links }) ≡ with_value (memory_of m) x v
unfolding memory_of with_value
value_stored m vals x v e = λ i. record { value = e i; linked = λ y. is_in (as_fun m.links y) }

pub cell_stored : (m m' : Nodes) (x : ℕ) (c : Cell) → as_fun m'.values ≡ upd (as_fun m.values) x c.value
    → as_fun m'.links ≡ upd (as_fun m.links) x c.links → memory_of m' ≡ with_cell (memory_of m) x (state_of c)
unfolding memory_of with_cell state_of
cell_stored m m' x c e d =
    let sets = ap {B = ℕ → ℕ → Bool} (λ f y. is_in (f y)) d ∙ sets_upd (as_fun m.links) x c.links in
    λ i. record { value = e i; linked = sets i }
