-- The contention of an operation: how many processes were busy at its worst moment. Said of the history, the latest entry first.
use Rattle.std.specs.Prelude.{ℕ, max, Bool, not, cond, ◌&&◌, ◌||◌, List, [], ◌∷◌, length, leb, ltb}
use Rattle.meaning.specs.Run.{Entry, Row}

-- whether the record that had k before it is one "from the start up to, but without, the operation's last step; for an unfinished one, up to
-- the end"
unfoldable pub during : Row → ℕ → Bool
during w k = leb w.started k && (not w.finished || ltb k w.ended)

-- "the greatest count of ones in the busy set right after any record" of these
unfoldable pub contention : Row → List Entry → ℕ
contention w [] = 0
contention w (e ∷ es) = max (contention w es) (cond (during w (length es)) e.busy 0)
