-- Storing in an array is `upd` of its function.
use Prim.Native.Nat.{ℕ, zero, suc, ◌<◌}
use mathlib.Core.Path.{◌≡◌, refl, ap, fun_ext}
use mathlib.Core.List.{List, []}
use lib.ListN.{length, get_or, set, replicate}
use lib.Seq.{get_or-set_same, get_or-set_other, ext_get_or}
use Rattle.meaning.specs.Steps.{upd}
use Rattle.meaning.proofs.Updates.{upd_is}
use Rattle.arrays.specs.Arrays.{as_fun, as_rows}

pub fun_set : (xs : List ℕ) (i v : ℕ) → i < length xs → as_fun (set xs i v) ≡ upd (as_fun xs) i v
unfolding as_fun
fun_set xs i v h =
    upd_is (λ (j : ℕ). get_or xs j 0) i v (λ (j : ℕ). get_or (set xs i v) j 0) (get_or-set_same xs i v 0 h) (λ j n. get_or-set_other xs i j v 0 n)

pub rows_set : (xs : List (List ℕ)) (i : ℕ) (v : List ℕ) → i < length xs → as_rows (set xs i v) ≡ upd (as_rows xs) i (as_fun v)
unfolding as_rows
rows_set xs i v h =
    upd_is (λ (j : ℕ). as_fun (get_or xs j [])) i (as_fun v) (λ (j : ℕ). as_fun (get_or (set xs i v) j []))
    (ap as_fun (get_or-set_same xs i v [] h)) (λ j n. ap as_fun (get_or-set_other xs i j v [] n))

-- an array of zeros
zero_at : (n i : ℕ) → get_or (replicate n 0) i 0 ≡ zero
zero_at zero i = refl
zero_at (suc n) zero = refl
zero_at (suc n) (suc i) = zero_at n i

pub fun_zeros : (n : ℕ) → as_fun (replicate n 0) ≡ (λ (i : ℕ). zero)
unfolding as_fun
fun_zeros n = fun_ext (zero_at n)

-- two arrays of one length and one function are one list
pub same_list : (xs ys : List ℕ) → length xs ≡ length ys → as_fun xs ≡ as_fun ys → xs ≡ ys
unfolding as_fun
same_list xs ys l e = ext_get_or 0 xs ys l (λ i h. ap (λ (f : ℕ → ℕ). f i) e)
