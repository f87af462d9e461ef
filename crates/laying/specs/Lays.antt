-- What laying bytes does to a buffer.
use Rattle.std.specs.Prelude.{ℕ, ◌+◌, ◌≡◌, List, ◌++◌, length, take, drop}

-- These bytes are laid from a place on, and next is the place after them: what was before and after them stays.
pub record Lays (before : List ℕ) (at : ℕ) (bytes after : List ℕ) (next : ℕ) : Type 0 where
  pub place : next ≡ at + length bytes
  pub front : take next after ≡ take at before ++ bytes
  pub rest : drop next after ≡ drop next before
  pub same : length after ≡ length before
