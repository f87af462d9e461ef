-- "All numbers are big-endian."
use Rattle.std.specs.Prelude.{ℕ, ◌+◌, ◌*◌, ◌/◌, ◌%◌, ◌^◌, List, [], ◌∷◌, get_or}

-- the four bytes of x, highest first
unfoldable pub four_bytes : ℕ → List ℕ
four_bytes x = x / 2 ^ 24 % 256 ∷ x / 2 ^ 16 % 256 ∷ x / 2 ^ 8 % 256 ∷ x % 256 ∷ []

-- the number that the four bytes from place at on make
unfoldable pub number_at : List ℕ → ℕ → ℕ
number_at s at = get_or s at 0 * 2 ^ 24 + get_or s (at + 1) 0 * 2 ^ 16 + get_or s (at + 2) 0 * 2 ^ 8 + get_or s (at + 3) 0
