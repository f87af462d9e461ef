-- The digits of a number: its last digit after those of a tenth of it, and how many there are.
use Prim.Native.Nat.{ℕ, zero, suc, ◌+◌, ◌*◌, ◌/◌, ◌%◌, ◌^◌, ◌≤◌, ◌<◌}
use native.Mathlib.Omega.{arith}
use mathlib.Core.Path.{◌≡◌, refl, sym, ap, ◌∙◌}
use mathlib.Core.Bool.{Bool, true, false, cond}
use mathlib.Core.List.{List, [], ◌∷◌, ◌++◌, append_assoc}
use lib.ListN.{length, length-append}
use lib.Dec.{ltb}
use borrow.Author.Tests.{lt-ltb, le-ltb, ltb-false}
use Rattle.meaning.specs.Printed.{digits_of, decimal}

-- the least number of more than k digits
abbrev beyond : ℕ → ℕ
beyond zero = 1
beyond (suc k) = beyond k * 10

digits_rest : (k n : ℕ) (rest : List ℕ) → digits_of k n rest ≡ digits_of k n [] ++ rest
unfolding digits_of
digits_rest zero n rest = refl
digits_rest (suc k) n rest = go (ltb n 10) (digits_rest k (n / 10))
  where
    last : ℕ
    last = 48 + n % 10

    go : (t : Bool) → ((more : List ℕ) → digits_of k (n / 10) more ≡ digits_of k (n / 10) [] ++ more)
        → cond t ((48 + n) ∷ rest) (digits_of k (n / 10) (last ∷ rest)) ≡ cond t ((48 + n) ∷ []) (digits_of k (n / 10) (last ∷ [])) ++ rest
    go true ih = refl
    go false ih =
        ih (last ∷ rest)
        ∙ sym (ap (λ (l : List ℕ). l ++ rest) (ih (last ∷ [])) ∙ append_assoc (digits_of k (n / 10) []) (last ∷ []) rest)

-- room for one digit more changes nothing
digits_more : (k n : ℕ) (rest : List ℕ) → 1 ≤ k → n < beyond k → digits_of k n rest ≡ digits_of (suc k) n rest
unfolding digits_of
digits_more zero n rest some small = absurd (omega arith)
digits_more (suc k) n rest some small = go (ltb n 10) refl (digits_more k (n / 10) ((48 + n % 10) ∷ rest))
  where
    r : List ℕ
    r = (48 + n % 10) ∷ rest

    positive : (k : ℕ) → n < beyond k * 10 → 10 ≤ n → 1 ≤ k
    positive zero b l = absurd (omega arith)
    positive (suc k) b l = omega arith

    go : (t : Bool) → ltb n 10 ≡ t → (1 ≤ k → n / 10 < beyond k → digits_of k (n / 10) r ≡ digits_of (suc k) (n / 10) r)
        → cond t ((48 + n) ∷ rest) (digits_of k (n / 10) r) ≡ cond t ((48 + n) ∷ rest) (digits_of (suc k) (n / 10) r)
    go true e ih = refl
    go false e ih = ih (positive k small (ltb-false n 10 e)) (omega arith)

digits_last : (k n : ℕ) → 1 ≤ k → 10 ≤ n → n / 10 < beyond k → digits_of (suc k) n [] ≡ digits_of (suc k) (n / 10) [] ++ ((48 + n % 10) ∷ [])
unfolding digits_of
digits_last k n some large small = first ∙ digits_more k (n / 10) ((48 + n % 10) ∷ []) some small ∙ digits_rest (suc k) (n / 10) ((48 + n % 10) ∷ [])
  where
    first : digits_of (suc k) n [] ≡ digits_of k (n / 10) ((48 + n % 10) ∷ [])
    first = rw (le-ltb n 10 large)

digits_few : (k n : ℕ) → length (digits_of k n []) ≤ k
unfolding digits_of
digits_few zero n = omega arith
digits_few (suc k) n = go (ltb n 10) (digits_few k (n / 10))
  where
    go : (t : Bool) → length (digits_of k (n / 10) []) ≤ k → length (cond t ((48 + n) ∷ []) (digits_of k (n / 10) ((48 + n % 10) ∷ []))) ≤ suc k
    go true ih = omega arith
    go false ih = rw (digits_rest k (n / 10) ((48 + n % 10) ∷ []), length-append) (omega arith)

-- ---- of a number below 2^32

pub decimal_digit : (n : ℕ) → n < 10 → decimal n ≡ (48 + n) ∷ []
unfolding decimal digits_of
decimal_digit n small = rw (lt-ltb n 10 small)

pub decimal_last : (n : ℕ) → n < 2 ^ 32 → 10 ≤ n → decimal n ≡ decimal (n / 10) ++ ((48 + n % 10) ∷ [])
unfolding decimal
decimal_last n small large = digits_last 9 n (omega arith) large (omega arith)

pub decimal_longer : (n : ℕ) → n < 2 ^ 32 → 10 ≤ n → length (decimal n) ≡ length (decimal (n / 10)) + 1
decimal_longer n small large = ap length (decimal_last n small large) ∙ length-append (decimal (n / 10)) ((48 + n % 10) ∷ [])

pub decimal_few : (n : ℕ) → length (decimal n) ≤ 10
unfolding decimal
decimal_few n = digits_few 10 n
