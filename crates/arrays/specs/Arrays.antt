-- Arrays as functions of the index: what the definitions say of functions, the code does to arrays.
use Rattle.std.specs.Prelude.{ℕ, cond, ◌&&◌, List, [], get_or, leb, ltb}

unfoldable pub as_fun : List ℕ → ℕ → ℕ
as_fun xs i = get_or xs i 0

-- an array of arrays, by both indices
unfoldable pub as_rows : List (List ℕ) → ℕ → ℕ → ℕ
as_rows xs i = as_fun (get_or xs i [])

-- f, but g from lo up to hi
unfoldable pub between : ℕ → ℕ → (ℕ → ℕ) → (ℕ → ℕ) → ℕ → ℕ
between lo hi g f q = cond (leb lo q && ltb q hi) (g q) (f q)
