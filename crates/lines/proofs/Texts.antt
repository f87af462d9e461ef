-- The parts that are laid one after another are the lines.
use Prim.Native.Nat.{ℕ}
use mathlib.Core.Path.{◌≡◌}
use mathlib.Core.List.{List, [], ◌∷◌, ◌++◌, append_assoc}
use Rattle.meaning.specs.Printed.{text, decimal, line}
use Rattle.lines.specs.Text.{field, bytes_text, numbers_text, row_text, refusal_text}

pub line_parts : (word other : List ℕ) (a b : ℕ)
    → word ++ field a ++ text " " ++ other ++ field b ++ text "\n" ≡ line (word ∷ decimal a ∷ other ∷ decimal b ∷ [])
unfolding field line
line_parts word other a b = simp append_assoc

pub refusal_parts : (number place : ℕ) → text "refused" ++ field number ++ field place ++ text "\n" ≡ refusal_text number place
unfolding text field refusal_text line
refusal_parts number place = simp append_assoc

pub row_parts : (b : List ℕ) (at : ℕ) → bytes_text b at ++ numbers_text b at ≡ row_text b at
unfolding field bytes_text numbers_text row_text line
row_parts b at = simp append_assoc
