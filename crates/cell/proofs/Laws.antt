-- Laws of the LL/SC cell: how SC's two cases compute, and that a contract allows one outcome, since a u64 keeps one set.
use Prim.Native.Nat.{ℕ, ◌^◌, ◌<◌}
use mathlib.Core.Bool.{Bool, true, false}
use mathlib.Core.Path.{◌≡◌, sym, ap, ◌∙◌}
use Rattle.sets.specs.Processes.{nobody, is_in}
use Rattle.sets.proofs.Laws.{same_set}
use Rattle.cell.specs.Cell.{State, state_of, succeeds, store_conditional}
use Rattle.cell.specs.Done.{Links, Stores}
use Rattle.cell.specs.declared.Cell.{Cell}

-- a cell of the program keeps the state that has its value and its links
pub state_is : (v l : ℕ) (q : State) → v ≡ q.value → is_in l ≡ q.linked → state_of (record { value = v; links = l }) ≡ q
unfolding state_of
state_is v l q value linked = λ i. record { value = value i; linked = linked i }

pub sc_succeeds : (u p : ℕ) (q : State) → succeeds p q ≡ true → store_conditional u p q ≡ record { value = u; linked = nobody }
unfolding succeeds store_conditional
sc_succeeds u p q e = rw e

pub sc_fails : (u p : ℕ) (q : State) → succeeds p q ≡ false → store_conditional u p q ≡ q
unfolding succeeds store_conditional
sc_fails u p q e = rw e

pub same_cell : (a b : Cell) → a.links < 2 ^ 64 → b.links < 2 ^ 64 → state_of a ≡ state_of b → a ≡ b
unfolding state_of
same_cell a b h l e =
    let links = same_set a.links b.links h l (ap (λ (q : State). q.linked) e) in
    λ i. record { value = (e i).value; links = links i }

pub same_loaded : (p : ℕ) (c : Cell) (v : ℕ) (a : Cell) (w : ℕ) (b : Cell) → a.links < 2 ^ 64 → b.links < 2 ^ 64 → Links p c v a → Links p c w b
    → (v ≡ w) × (a ≡ b)
same_loaded p c v a w b h l x y = (x.value ∙ sym y.value, same_cell a b h l (x.cell ∙ sym y.cell))

pub same_stored : (u p : ℕ) (c : Cell) (ok : Bool) (a : Cell) (done : Bool) (b : Cell) → a.links < 2 ^ 64 → b.links < 2 ^ 64 → Stores u p c ok a
    → Stores u p c done b → (ok ≡ done) × (a ≡ b)
same_stored u p c ok a done b h l x y = (x.ok ∙ sym y.ok, same_cell a b h l (x.cell ∙ sym y.cell))
