-- Sets of processes. There are 64 processes, 0 to 63; a number of 64 or above names none.
use Rattle.std.specs.Prelude.{ℕ, zero, suc, ◌+◌, ◌/◌, ◌%◌, ◌^◌, Bool, false, not, cond, ◌&&◌, ◌||◌, ltb, eqb}

-- no process
unfoldable pub nobody : ℕ → Bool
nobody q = false

-- the processes of s, and p
unfoldable pub with : ℕ → (ℕ → Bool) → ℕ → Bool
with p s q = s q || (eqb q p && ltb p 64)

-- the processes of s but p
unfoldable pub without : ℕ → (ℕ → Bool) → ℕ → Bool
without p s q = s q && not (eqb q p)

-- how many of the processes 0 to k - 1 are in s
unfoldable pub count_below : ℕ → (ℕ → Bool) → ℕ
count_below zero s = 0
count_below (suc k) s = count_below k s + cond (s k) 1 0

-- the set that a number keeps: p is in it where the digit of weight 2 ^ p is 1
unfoldable pub is_in : ℕ → ℕ → Bool
is_in b p = eqb (b / 2 ^ p % 2) 1
