-- Refusal numbers and the order in which they are tried.
use Rattle.std.specs.Prelude.{ℕ, Bool, cond, List, [], ◌∷◌}

-- a refusal number, and whether its case is given
pub record Refusal : Type 0 where
  pub number : ℕ
  pub given : Bool

infix 68 ◌when◌
abbrev pub ◌when◌ : ℕ → Bool → Refusal
◌when◌ k b = record { number = k; given = b }

-- "The first found is given": its number, or 0 where none is
unfoldable pub first_of : List Refusal → ℕ
first_of [] = 0
first_of (r ∷ rs) = cond r.given r.number (first_of rs)
