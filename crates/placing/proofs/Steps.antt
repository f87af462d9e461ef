-- What the arrays are after each kind of step beside its row, from what the callees promise.
use Prim.Native.Nat.{ℕ, zero, suc, ◌+◌, ◌-◌, ◌^◌, ◌≤◌, ◌<◌}
use mathlib.Core.Path.{◌≡◌, sym, ap, ◌∙◌, subst}
use mathlib.Core.Bool.{Bool, true, false}
use mathlib.Core.List.{List, []}
use native.Mathlib.Numerals.{add-one}
use native.Mathlib.Omega.{arith}
use lib.ListN.{get_or}
use lib.Pow.{pow_mono}
use Rattle.recording.specs.declared.Form.{Form as Told}
use Rattle.meaning.specs.Shape.{Form, formed}
use Rattle.meaning.specs.Steps.{upd}
use Rattle.arrays.specs.Arrays.{as_fun, as_rows}
use Rattle.arrays.specs.Numbers.{numbers_of}
use Rattle.spots.specs.Spot.{Spot, spot_of}
use Rattle.taken.specs.CountIn.{Waiter}
use Rattle.counts.specs.Counts.{Counts, levels, counts_of, counts_after}
use Rattle.listing.specs.Queue.{waiters_of, queue_of, Lists}
use Rattle.listing.specs.declared.Listed.{Listed}
use Rattle.listing.proofs.Laws.{queue_of_more}
use Rattle.climb.specs.Climb.{Known, spot_is, SpotAt}
use Rattle.climb.specs.declared.Spot.{Spot as At}
use Rattle.machine.specs.Arrays.{process_of}
use Rattle.machine.specs.declared.Process.{Process as Record}
use Rattle.ledger.specs.Kept.{Kept, at_root, list_then, wait_then}
use Rattle.placing.specs.Placing.{kept_of, addition_placed}
use Rattle.placing.specs.declared.Ledger.{Ledger}
use Rattle.placing.proofs.Laws.{kept_is, at_root_lem, below_root, not_stored, queue_joined, queue_stays, waits, lists}

-- a process of the tree is one of 64
pub one_of_64 : (f : Told) (p : ℕ) → Known f → p < 2 ^ f.height → p < 64
one_of_64 f p known inside = omega (arith, inside, pow_mono known.high)

-- at the spot that is decoded from the step number the counts are what the walk's spot gives, and so is the test for node 1
module _ (f : Told) (p : ℕ) (r : Record) where
  pub counts_there : (stored : Bool) (before after : Counts) (σ : At) → SpotAt f p r.step σ
      → after ≡ counts_after (formed f) p r.step (spot_is σ) stored before → after ≡ counts_after (formed f) p r.step (spot_of (formed f) p r.step) stored before
  counts_there stored before after σ spot e = e ∙ ap (λ (τ : Spot). counts_after (formed f) p r.step τ stored before) spot.is

  level_there : (σ : At) → SpotAt f p r.step σ → (spot_of (formed f) p r.step).level ≡ σ.level
  unfolding spot_is
  level_there σ spot = sym (ap (λ (τ : Spot). τ.level) spot.is)

  pub stored_at_root : {stored : Bool} (σ : At) → SpotAt f p r.step σ → stored ≡ true → σ.level + 1 ≡ f.height
      → at_root (formed f) (spot_of (formed f) p r.step) stored ≡ true
  stored_at_root σ spot e top = at_root_lem (formed f) (spot_of (formed f) p r.step) e (omega (arith, level_there σ spot, top))

  pub stored_below : (stored : Bool) (σ : At) → SpotAt f p r.step σ → (σ.level + 1 ≡ f.height → ⊥)
      → at_root (formed f) (spot_of (formed f) p r.step) stored ≡ false
  stored_below stored σ spot below = below_root (formed f) (spot_of (formed f) p r.step) stored (λ e. below (omega (arith, level_there σ spot, e)))

-- the row of counts at the level of node 1
root_row : (h : ℕ) (written : List ℕ) (counts : List (List ℕ)) → 1 ≤ h → levels written counts h ≡ as_fun (get_or counts (h - 1) [])
unfolding levels as_rows
root_row zero written counts low = absurd (omega arith)
root_row (suc l) written counts low = let e : suc l - 1 ≡ l = omega arith in rw e

module _ (l l' : Ledger) (F : Form) (p : ℕ) (r : Record) (stored : Bool)
    (now : counts_of l'.counts ≡ counts_after F p r.step (spot_of F p r.step) stored (counts_of l.counts)) where
  -- a leaf write joins the queue
  pub joins : l'.listed.waiting ≡ l.listed.waiting + 1 → l'.listed.rank ≡ l.listed.rank → l'.rows.now ≡ l.rows.now → r.step ≡ 2 → stored ≡ false
      → waiters_of l'.waiters.now ≡ upd (waiters_of l.waiters.now) l.listed.waiting (record { operation = r.operation; component = p; turn = as_fun l.counts.written p })
      → kept_of l' ≡ addition_placed F p (process_of r) stored (kept_of l)
  unfolding kept_of wait_then process_of counts_of levels
  joins more rank rows e still q =
      let k : Kept = kept_of l in
      kept_is now (rw (more, add-one, q) (queue_of_more _ _ _ ∙ sym (queue_joined F p (process_of r) stored k e))) rank (ap numbers_of rows)
      ∙ sym (waits F p (process_of r) stored k (not_stored F (spot_of F p r.step) still))

  -- any other step that is no store at node 1 leaves it
  pub leaves : l'.listed ≡ l.listed → l'.waiters.now ≡ l.waiters.now → l'.rows.now ≡ l.rows.now → (r.step ≡ 2 → ⊥) → at_root F (spot_of F p r.step) stored ≡ false
      → kept_of l' ≡ addition_placed F p (process_of r) stored (kept_of l)
  unfolding kept_of wait_then process_of
  leaves listed queue rows n e =
      let k : Kept = kept_of l in
      kept_is now ((λ i. queue_of (waiters_of (queue i)) (listed i).waiting) ∙ sym (queue_stays F p (process_of r) stored k n)) (λ i. (listed i).rank) (ap numbers_of rows)
      ∙ sym (waits F p (process_of r) stored k e)

  -- a store at node 1 lists
  pub clears : (r.step ≡ 2 → ⊥) → 1 ≤ F.height → at_root F (spot_of F p r.step) stored ≡ true
      → Lists (queue_of (waiters_of l.waiters.now) l.listed.waiting) (as_fun (get_or l'.counts.in_nodes (F.height - 1) [])) l.listed.rank (numbers_of l.rows.now) (numbers_of l'.rows.now)
      (waiters_of l'.waiters.now) l'.listed
      → kept_of l' ≡ addition_placed F p (process_of r) stored (kept_of l)
  unfolding kept_of list_then process_of counts_of
  clears n low e lists_now =
      let k : Kept = kept_of l in
      let count = sym (ap (λ (c : Counts). c.in_node F.height) now) ∙ root_row F.height l'.counts.written l'.counts.in_nodes low in
      rw (lists F p (process_of r) stored k e n, count) (kept_is now lists_now.waiting lists_now.rank lists_now.rows)

-- a listing by a row of counts that is another
pub lists_by : {ws : List Waiter} {k : ℕ} {f f' : ℕ → ℕ} {q' : ℕ → Waiter} {r : Listed} (x y : List ℕ) → x ≡ y → Lists ws (as_fun x) k f f' q' r → Lists ws (as_fun y) k f f' q' r
lists_by {ws} {k} {f} {f'} {q'} {r} x y e l = subst (λ (z : List ℕ). Lists ws (as_fun z) k f f' q' r) e l
