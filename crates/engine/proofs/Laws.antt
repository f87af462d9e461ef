-- Two ends of a run that the contract allows are equal.
use Prim.Native.Nat.{ℕ, ◌+◌, ◌*◌, ◌<◌}
use native.Mathlib.Omega.{arith}
use mathlib.Core.Path.{◌≡◌, sym, ap, ◌∙◌, subst}
use mathlib.Core.Bool.{Bool, true}
use Rattle.std.specs.Prelude.{Result, Ok, Err}
use Rattle.refusals.specs.Table.{number_of}
use Rattle.refusals.specs.declared.Refused.{Refused}
use Rattle.refusals.proofs.Laws.{number_one}
use Rattle.meaning.specs.Shape.{Form}
use Rattle.meaning.specs.Run.{Outcome}
use Rattle.engine.specs.Ends.{Ends, refuses, accepts}
use Rattle.engine.specs.declared.Accepted.{Accepted}

pub same_refused : (r r' : Refused) → number_of r.refusal ≡ number_of r'.refusal → r.place ≡ r'.place → r ≡ r'
same_refused r r' e d = λ i. record { refusal = number_one r.refusal r'.refusal e i; place = d i }

-- how many operations there are rows of
abbrev pub operations_told : Result Accepted Refused → ℕ
operations_told (Ok a) = a.operations
operations_told (Err r) = 0

module _ (asked : Bool) (F : Form) (size : ℕ) (rows rows' : ℕ → ℕ) where
  -- the same end, and where a report is asked for the same rows of every operation
  pub ends_one : {r r' : Result Accepted Refused} {o : Outcome} → Ends asked F size rows r o → Ends asked F size rows' r' o
      → (r ≡ r') × (asked ≡ true → (i j : ℕ) → i < operations_told r → j < 5 → rows (5 * i + j) ≡ rows' (5 * i + j))
  ends_one (refuses {r = r} f) (refuses {r = r'} g) = (
    ap Err (same_refused r r' (f.its ∙ sym g.its) (f.there ∙ sym g.there)),
    λ a i j b. absurd (omega arith),
  )
  ends_one (accepts {r = r} c d e l f) (accepts {r = r'} c' d' e' l' f') = (
    λ i. Ok (record { operations = (c ∙ sym c') i; counter = (d ∙ sym d') i }),
    λ t i j x y. f t i j (subst (λ (n : ℕ). i < n) c x) y ∙ sym (f' t i j (subst (λ (n : ℕ). i < n) c x) y),
  )
