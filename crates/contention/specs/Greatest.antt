-- The greatest count of busy processes since each process's start, one number for each process, after a start.
use Rattle.std.specs.Prelude.{ℕ, max, cond, ltb, eqb}

-- after a start of p that leaves c processes busy: c for p itself; each other of the 64 is raised to c at least
unfoldable pub raised : ℕ → ℕ → (ℕ → ℕ) → ℕ → ℕ
raised p c greatest q = cond (eqb q p) c (cond (ltb q 64) (max (greatest q) c) (greatest q))
