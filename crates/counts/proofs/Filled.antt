-- Storing over a part of a row, from lo up to hi: there the row is as the goal, elsewhere as it was.
use Prim.Native.Nat.{ℕ, ◌+◌, ◌-◌, ◌≤◌, ◌<◌}
use mathlib.Core.Path.{◌≡◌, ap, ◌∙◌}
use mathlib.Core.List.{List, []}
use native.Mathlib.Omega.{arith}
use lib.ListN.{length, get_or, set, take, drop}
use borrow.Rule.Slice.PartMut.{put_mid}
use Rattle.std.proofs.lemmas.List.{get_or-take, get_or-drop, places}
use Rattle.meaning.specs.Steps.{upd}
use Rattle.arrays.specs.Arrays.{as_fun, as_rows, between}
use Rattle.arrays.proofs.Laws.{rows_set}
use Rattle.counts.proofs.Laws.{between_is}

pub part_at : (lo n : ℕ) (xs : List ℕ) (i : ℕ) → i < n → get_or (take n (drop lo xs)) i 0 ≡ get_or xs (lo + i) 0
part_at lo n xs i h = get_or-take n (drop lo xs) i 0 h ∙ get_or-drop lo xs i 0

module _ (lo hi : ℕ) (g : ℕ → ℕ) (to part : List ℕ) (order : lo ≤ hi) (inside : hi ≤ length to) (sized : length part ≡ hi - lo) (stored : (i : ℕ) → i < hi - lo → get_or part i 0 ≡ g (lo + i)) where
  abbrev now : List ℕ
  now = put_mid lo (hi - lo) to part

  within : (q : ℕ) → lo ≤ q → q < hi → get_or now q 0 ≡ get_or part (q - lo) 0
  within q l h = grind (arith, places)

  outside : (q : ℕ) → (lo ≤ q → q < hi → ⊥) → get_or now q 0 ≡ get_or to q 0
  outside q n = grind (arith, places)

  pub part_stored : as_fun now ≡ between lo hi g (as_fun to)
  unfolding as_fun
  part_stored = between_is lo hi g (λ q. get_or to q 0) (λ q. get_or now q 0) (λ q l h. within q l h ∙ stored (q - lo) (omega arith) ∙ ap g (omega arith)) outside

-- the same in a row of an array of rows
pub row_stored : (lo hi l : ℕ) (g : ℕ → ℕ) (rows : List (List ℕ)) (part : List ℕ) → l < length rows → lo ≤ hi → hi ≤ length (get_or rows l []) → length part ≡ hi - lo
    → ((i : ℕ) → i < hi - lo → get_or part i 0 ≡ g (lo + i))
    → as_rows (set rows l (put_mid lo (hi - lo) (get_or rows l []) part)) ≡ upd (as_rows rows) l (between lo hi g (as_rows rows l))
unfolding as_rows
row_stored lo hi l g rows part there order inside sized stored =
    rows_set rows l _ there ∙ ap (upd (as_rows rows) l) (part_stored lo hi g (get_or rows l []) part order inside sized stored)
