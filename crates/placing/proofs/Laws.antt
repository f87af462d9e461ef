-- What an addition's step does to the list, by its cases: a store at node 1 or not, a leaf write or not; and that it changes ranks alone.
use Prim.Native.Nat.{ℕ, suc, ◌%◌}
use mathlib.Core.Path.{◌≡◌, refl}
use mathlib.Core.Bool.{Bool, true, false, cond}
use mathlib.Core.List.{List, [], ◌∷◌, ◌++◌, append-nil}
use borrow.Author.Tests.{ne_eqb, eq-eqb}
use Rattle.meaning.specs.Shape.{Form}
use Rattle.meaning.specs.Steps.{Process}
use Rattle.meaning.specs.TakenIn.{keep}
use Rattle.spots.specs.Spot.{Spot, spot_of}
use Rattle.taken.specs.CountIn.{Waiter, is_counted, operations_of}
use Rattle.counts.specs.Counts.{Counts, counts_after}
use Rattle.listing.proofs.Laws.{ranked_beside}
use Rattle.ledger.specs.Kept.{Kept, at_root, queue_then, list_then, wait_then}
use Rattle.placing.specs.Placing.{addition_placed}

-- what is kept is settled by its four parts
pub kept_is : {a b : Kept} → a.counts ≡ b.counts → a.queue ≡ b.queue → a.listed ≡ b.listed → a.rows ≡ b.rows → a ≡ b
kept_is c q l r = λ i. record { counts = c i; queue = q i; listed = l i; rows = r i }

-- ---- a store at node 1, or not

module _ (F : Form) (σ : Spot) {stored : Bool} where
  pub at_root_lem : stored ≡ true → suc σ.level ≡ F.height → at_root F σ stored ≡ true
  unfolding at_root
  at_root_lem e i = rw (e, eq-eqb (suc σ.level) F.height i)

  pub not_stored : stored ≡ false → at_root F σ stored ≡ false
  unfolding at_root
  not_stored e = rw e

pub below_root : (F : Form) (σ : Spot) (stored : Bool) → (suc σ.level ≡ F.height → ⊥) → at_root F σ stored ≡ false
unfolding at_root
below_root F σ true i = ne_eqb (suc σ.level) F.height i
below_root F σ false i = refl

-- ---- the listing of an addition's step

module _ (F : Form) (p : ℕ) (r : Process) (stored : Bool) (k : Kept) where
  pub queue_joined : r.step ≡ 2 → queue_then p r k ≡ k.queue ++ (record { operation = r.operation; component = p; turn = k.counts.in_node 0 p } ∷ [])
  unfolding queue_then
  queue_joined e = rw (eq-eqb r.step 2 e)

  pub queue_stays : (r.step ≡ 2 → ⊥) → queue_then p r k ≡ k.queue
  unfolding queue_then
  queue_stays n = rw (ne_eqb r.step 2 n, append-nil)

  pub waits : at_root F (spot_of F p r.step) stored ≡ false
      → addition_placed F p r stored k ≡ wait_then (queue_then p r k) (counts_after F p r.step (spot_of F p r.step) stored k.counts) k
  unfolding addition_placed
  waits e = rw e

  pub lists : at_root F (spot_of F p r.step) stored ≡ true → (r.step ≡ 2 → ⊥)
      → addition_placed F p r stored k
      ≡ list_then ((counts_after F p r.step (spot_of F p r.step) stored k.counts).in_node F.height) k.queue (counts_after F p r.step (spot_of F p r.step) stored k.counts) k
  unfolding addition_placed
  lists e n = rw (e, queue_stays n)

  -- an addition's listing changes ranks alone
  pub addition_beside : (j : ℕ) → (j % 5 ≡ 3 → ⊥) → (addition_placed F p r stored k).rows j ≡ k.rows j
  unfolding addition_placed list_then wait_then
  addition_beside j n = go (at_root F (spot_of F p r.step) stored)
    where
      c : Counts
      c = counts_after F p r.step (spot_of F p r.step) stored k.counts

      ws : List Waiter
      ws = queue_then p r k

      go : (t : Bool) → (cond t (list_then (c.in_node F.height) ws c k) (wait_then ws c k)).rows j ≡ k.rows j
      go true = ranked_beside (operations_of (keep (is_counted (c.in_node F.height)) ws)) k.listed k.rows j n
      go false = refl
