-- The plain number run down a list of additions is the sum of the array that the list runs over; so it goes from the sum at the old counts
-- to the sum at the new ones.
use Prim.Native.Nat.{ℕ, suc, ◌+◌, ◌%◌, ◌^◌, ◌≤◌, ◌<◌}
use native.Mathlib.Omega.{arith}
use mathlib.Core.Path.{◌≡◌, refl, sym, ap, ap₂, ◌∙◌, subst, subst⁻¹}
use mathlib.Core.Bool.{Bool, true, false, not, cond, ◌&&◌}
use mathlib.Core.List.{List, [], ◌∷◌, ◌++◌, append-nil, Memᴰ}
use lib.Dec.{ltb, eqb}
use borrow.Author.Tests.{eq-eqb, ne_eqb}
use Rattle.meaning.specs.Access.{is_leaf_write, component_of}
use Rattle.meaning.specs.Shape.{plus}
use Rattle.meaning.specs.Run.{Entry, Row}
use Rattle.meaning.specs.TakenIn.{keep}
use Rattle.meaning.specs.Plain.{number_after, run_down}
use Rattle.taken.specs.CountIn.{writes_to, Waiter, waiter_of, waiters, is_counted, operations_of}
use Rattle.taken.proofs.Agree.{Writes, here, there, turn_below}
use Rattle.taken.proofs.Lists.{keep_append, mem_keep}
use Rattle.history.proofs.Waiters.{waiter_writes}
use Rattle.tree.specs.Log.{writes_to as writesIn, newly_in, Lists, none, passes, takes, applied}
use Rattle.tree.proofs.Moves.{by_number}
use Rattle.tree.proofs.Linear.{writes_same, writes_other, array_run}
use Rattle.counter.specs.SumTree.{sum_below}
use Rattle.counter.specs.View.{value_after}
use Rattle.counter.proofs.Sums.{sum_plus}
use Rattle.counter.proofs.Values.{value_still, value_next}

pub run_append : (row : ℕ → Row) (v : ℕ) (l m : List ℕ) → run_down row v (l ++ m) ≡ run_down row (run_down row v l) m
unfolding run_down
run_append row v [] m = refl
run_append row v (i ∷ l) m = run_append row (number_after (row i) v) l m

-- rows that agree on kind and delta give the same number
pub run_same : (f g : ℕ → Row) (v : ℕ) (l : List ℕ) → ((i : ℕ) → Memᴰ i l → ((f i).kind ≡ (g i).kind) × ((f i).delta ≡ (g i).delta)) → run_down f v l ≡ run_down g v l
unfolding run_down number_after
run_same f g v [] e = refl
run_same f g v (i ∷ l) e =
    ap (λ (n : ℕ). run_down f n l) (ap₂ (λ (k d : ℕ). cond (eqb k 3) (plus v d) v) (e i (Memᴰ.head refl)).0 (e i (Memᴰ.head refl)).1) ∙ run_same f g (number_after (g i) v) l (λ j m. e j (Memᴰ.tail m))

-- ---- the leaf writes as a log of the tree's components

abbrev component_in : Waiter → ℕ
component_in w = w.component

abbrev turn_of : Waiter → ℕ
turn_of w = w.turn

log_writes : (q : ℕ) (es : List Entry) → writesIn component_in turn_of q (waiters es) ≡ writes_to q es
unfolding waiters writesIn writes_to waiter_of
log_writes q [] = refl
log_writes q (e ∷ es) = go (is_leaf_write e.access) refl (log_writes q es)
  where
    go : (t : Bool) → is_leaf_write e.access ≡ t → writesIn component_in turn_of q (waiters es) ≡ writes_to q es
        → writesIn component_in turn_of q (waiters es ++ cond t (waiter_of e es ∷ []) []) ≡ writes_to q es + cond (t && eqb q (component_of e.access)) 1 0
    go true w ih = by_number q (component_of e.access) (λ d. writes_same component_in turn_of q (waiters es) (waiter_of e es) d ∙ ap suc ih ∙ more d) (λ n. writes_other component_in turn_of q (waiters es) (waiter_of e es) n ∙ ih ∙ none n)
      where
        more : q ≡ component_of e.access → suc (writes_to q es) ≡ writes_to q es + cond (eqb q (component_of e.access)) 1 0
        more d = rw (eq-eqb q (component_of e.access) d) (omega arith)

        none : (q ≡ component_of e.access → ⊥) → writes_to q es ≡ writes_to q es + cond (eqb q (component_of e.access)) 1 0
        none n = rw (ne_eqb q (component_of e.access) n) (omega arith)
    go false w ih = ap (writesIn component_in turn_of q) (append-nil (waiters es)) ∙ ih ∙ omega arith

-- what a step lists of it
log_lists : (before after : ℕ → ℕ) (es : List Entry) → Lists component_in turn_of before after (waiters es) (keep (λ w. is_counted after w && not (is_counted before w)) (waiters es))
unfolding waiters keep is_counted newly_in waiter_of
log_lists before after [] = none
log_lists before after (e ∷ es) = go (is_leaf_write e.access) (log_lists before after es)
  where
    new : Waiter → Bool
    new w = ltb w.turn (after w.component) && not (ltb w.turn (before w.component))

    one : (t : Bool) → new (waiter_of e es) ≡ t → Lists component_in turn_of before after (waiters es) (keep new (waiters es))
        → Lists component_in turn_of before after (waiters es ++ (waiter_of e es ∷ [])) (keep new (waiters es) ++ cond t (waiter_of e es ∷ []) [])
    one true d r = takes (waiter_of e es) r (sym (log_writes (component_of e.access) es)) d
    one false d r = subst⁻¹ (Lists component_in turn_of before after (waiters es ++ (waiter_of e es ∷ []))) (append-nil (keep new (waiters es))) (passes (waiter_of e es) r (sym (log_writes (component_of e.access) es)) d)

    go : (t : Bool) → Lists component_in turn_of before after (waiters es) (keep new (waiters es))
        → Lists component_in turn_of before after (waiters es ++ cond t (waiter_of e es ∷ []) []) (keep new (waiters es ++ cond t (waiter_of e es ∷ []) []))
    go true r = subst⁻¹ (Lists component_in turn_of before after (waiters es ++ (waiter_of e es ∷ []))) (keep_append new (waiters es) (waiter_of e es ∷ [])) (one (new (waiter_of e es)) refl r)
    go false r = subst⁻¹ (λ (l : List Waiter). Lists component_in turn_of before after l (keep new l)) (append-nil (waiters es)) r

-- a write is the update of the one before, wherever it stands in the history
value_turn : (f : ℕ → ℕ) {i p k : ℕ} {es : List Entry} → Writes i p k es → value_after f p (suc k) es ≡ plus (value_after f p k es) (f i)
value_turn f {i} {p} {k} (here {e} {es} w o q t) =
    subst (λ (j : ℕ). value_after f p (suc j) (e ∷ es) ≡ plus (value_after f p j (e ∷ es)) (f i)) t
    (value_next f p e es w q ∙ ap₂ plus (sym (value_still f p (writes_to p es) e es (omega arith))) (ap f o))
value_turn f {i} {p} {k} (there {e} {es} w) =
    let b = turn_below w in
    value_still f p (suc k) e es (omega arith) ∙ value_turn f w ∙ ap (λ (n : ℕ). plus n (f i)) (sym (value_still f p k e es (omega arith)))

module _ (n : ℕ) (row : ℕ → Row) where
  abbrev adds : Waiter → ℕ → ℕ
  adds w v = plus v (row w.operation).delta

  -- the number is the sum of the array
  run_sum : (ws : List Waiter) (a : ℕ → ℕ) → ((w : Waiter) → Memᴰ w ws → ((row w.operation).kind ≡ 3) × (w.component < n))
      → run_down row (sum_below n a % 2 ^ 32) (operations_of ws) ≡ sum_below n (applied component_in turn_of adds ws a) % 2 ^ 32
  unfolding run_down operations_of applied number_after
  run_sum [] a each = refl
  run_sum (w ∷ ws) a each =
      let k = each w (Memᴰ.head refl) in
      ap (λ (v : ℕ). run_down row v (operations_of ws))
      (ap (λ (t : Bool). cond t (plus (sum_below n a % 2 ^ 32) (row w.operation).delta) (sum_below n a % 2 ^ 32)) (eq-eqb (row w.operation).kind 3 k.0)
      ∙ sym (sum_plus n w.component (row w.operation).delta a (λ c. cond (eqb c w.component) (adds w (a c)) (a c)) k.1 (ap (λ (t : Bool). cond t (adds w (a w.component)) (a w.component)) (eq-eqb w.component w.component refl))
      (λ q b m. ap (λ (t : Bool). cond t (adds w (a q)) (a q)) (ne_eqb q w.component m))))
      ∙ run_sum ws (λ c. cond (eqb c w.component) (adds w (a c)) (a c)) (λ v m. each v (Memᴰ.tail m))

  -- from the sum at the old counts to the sum at the new ones
  pub run_newly : (es : List Entry) (before after : ℕ → ℕ) → ((q : ℕ) → before q ≤ after q) → ((q : ℕ) → after q ≤ writes_to q es)
      → ((w : Waiter) → Memᴰ w (waiters es) → ((row w.operation).kind ≡ 3) × (w.component < n))
      → run_down row (sum_below n (λ q. value_after (λ i. (row i).delta) q (before q) es) % 2 ^ 32) (operations_of (keep (λ w. is_counted after w && not (is_counted before w)) (waiters es)))
      ≡ sum_below n (λ q. value_after (λ i. (row i).delta) q (after q) es) % 2 ^ 32
  run_newly es before after grows capped each =
      run_sum (keep _ (waiters es)) _ (λ w m. each w (mem_keep _ (waiters es) m).0)
      ∙ ap (λ (a : ℕ → ℕ). sum_below n a % 2 ^ 32)
      (array_run component_in turn_of adds (λ q k. value_after (λ i. (row i).delta) q k es) before after (λ w m. value_turn (λ i. (row i).delta) (waiter_writes es w m)) grows
      (λ q. omega (arith, log_writes q es, capped q)) (log_lists before after es))
