-- The levels as the arrays have them, and what the code's three stores make of the counts.
use Prim.Native.Nat.{ℕ, zero, suc, ◌+◌, ◌-◌, max, ◌<◌}
use mathlib.Core.List.{List, []}
use mathlib.Core.Path.{◌≡◌, refl, ap, ◌∙◌}
use native.Mathlib.Omega.{arith}
use lib.ListN.{length, get_or, set}
use Rattle.meaning.specs.Steps.{upd}
use Rattle.arrays.specs.Arrays.{as_fun, as_rows, between}
use Rattle.arrays.proofs.Laws.{fun_set}
use Rattle.meaning.proofs.Updates.{upd_same, upd_other, upd_is}
use Rattle.counts.specs.declared.Counts.{Counts as Held}
use Rattle.counts.specs.Counts.{levels, counts_of, wrote, read_over, stored_over}

module _ (written : List ℕ) (counts : List (List ℕ)) where
  pub leaves_level : (l : ℕ) → l ≡ 0 → as_fun written ≡ levels written counts l
  unfolding levels
  leaves_level l e = rw e

  pub node_level : (l : ℕ) → (l ≡ 0 → ⊥) → as_fun (get_or counts (l - 1) []) ≡ levels written counts l
  unfolding levels as_rows
  node_level zero n = absurd (n refl)
  node_level (suc l) n = ap (as_rows counts) (omega arith)

  levels_leaf : (p v : ℕ) → p < length written → levels (set written p v) counts ≡ upd (levels written counts) 0 (upd (as_fun written) p v)
  unfolding levels
  levels_leaf p v h = upd_is (levels written counts) 0 (upd (as_fun written) p v) (levels (set written p v) counts) (fun_set written p v h) other
    where
      other : (j : ℕ) → (j ≡ 0 → ⊥) → levels (set written p v) counts j ≡ levels written counts j
      other zero n = absurd (n refl)
      other (suc j) n = refl

  levels_node : (counts' : List (List ℕ)) (l : ℕ) (row : ℕ → ℕ) → as_rows counts' ≡ upd (as_rows counts) l row → levels written counts' ≡ upd (levels written counts) (suc l) row
  unfolding levels
  levels_node counts' l row e = upd_is (levels written counts) (suc l) row (levels written counts') at other
    where
      at : as_rows counts' l ≡ row
      at = ap (λ (f : ℕ → ℕ → ℕ). f l) e ∙ upd_same (as_rows counts) l row

      other : (j : ℕ) → (j ≡ suc l → ⊥) → levels written counts' j ≡ levels written counts j
      other zero n = refl
      other (suc j) n = ap (λ (f : ℕ → ℕ → ℕ). f j) e ∙ upd_other (as_rows counts) l row j (λ d. n (ap suc d))

module _ (c c' : Held) where
  pub leaf_stored : (p : ℕ) → p < length c.written → c'.in_nodes ≡ c.in_nodes → c'.written ≡ set c.written p (as_fun c.written p + 1) → c'.read.now ≡ c.read.now
      → counts_of c' ≡ wrote p (counts_of c)
  unfolding counts_of wrote levels
  leaf_stored p h n w r = let e = levels_leaf c.written c.in_nodes p (as_fun c.written p + 1) h in rw (n, w, r) (λ i. record { in_node = e i; read = as_rows c.read.now })

  pub read_stored : (p l lo hi : ℕ) (child : ℕ → ℕ)
      → child ≡ levels c.written c.in_nodes l → c'.in_nodes ≡ c.in_nodes → c'.written ≡ c.written
      → as_rows c'.read.now ≡ upd (as_rows c.read.now) p (between lo hi child (as_rows c.read.now p))
      → counts_of c' ≡ read_over p l lo hi (counts_of c)
  unfolding counts_of read_over
  read_stored p l lo hi child is n w e =
      let r = rw is at e in
      rw (n, w) (λ i. record { in_node = levels c.written c.in_nodes; read = r i })

  pub node_stored_lem : (p l lo hi : ℕ)
      → as_rows c'.in_nodes ≡ upd (as_rows c.in_nodes) l (between lo hi (λ q. max (as_rows c.in_nodes l q) (as_rows c.read.now p q)) (as_rows c.in_nodes l))
      → c'.written ≡ c.written → c'.read.now ≡ c.read.now
      → counts_of c' ≡ stored_over p (suc l) lo hi (counts_of c)
  unfolding counts_of stored_over levels
  node_stored_lem p l lo hi e w r =
      let n = levels_node c.written c.in_nodes c'.in_nodes l _ e in
      rw (w, r) (λ i. record { in_node = n i; read = as_rows c.read.now })
