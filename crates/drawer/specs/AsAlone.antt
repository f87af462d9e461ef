-- "each exactly as if run alone": how an accepted drawer's two buffers stand to check and report.
use Rattle.std.specs.Prelude.{ℕ, ◌+◌, ◌*◌, ◌<◌, ◌≡◌, List, [], ◌∷◌, length, get_or, take, drop}
use Rattle.recording.specs.Record.{Answer}
use Rattle.recording.specs.Numbers.{four_bytes}
use Rattle.meaning.specs.Layout.{follows}
use Rattle.meaning.specs.Report.{check_answer}
use Rattle.meaning.specs.Drawer.{into, pieces_of, report_of, joined}
use Rattle.entries.specs.Promises.{Reports}

-- so many bytes from a place on
unfoldable pub bytes_from : ℕ → ℕ → List ℕ → List ℕ
bytes_from at n buf = take n (drop at buf)

-- Piece p, the i-th of ss, by the answer of any run of report and of check on it alone.
pub record AsAlone (ss : List (List ℕ)) (out marks : List ℕ) (i : ℕ) (p : List ℕ) : Type 0 where
  -- its report in out, behind those of the pieces before it, is what report lays
  pub report : (before after : List ℕ) (a : Answer) → Reports p before after a → a.number ≡ 0
      → bytes_from (length (joined report_of (take i ss))) (length (report_of p)) out ≡ bytes_from 0 (length (report_of p)) after
  -- "a refused one adds no bytes there"
  pub nothing : (a : Answer) → a ≡ check_answer p → (a.number ≡ 0 → ⊥) → length (report_of p) ≡ 0
  -- its mark is what check answers
  pub mark : (a : Answer) → a ≡ check_answer p → bytes_from (5 * i) 5 marks ≡ a.number ∷ four_bytes a.place

-- The pieces make up the drawer, none is left out, and each has the bytes that its L says.
pub record Cutting (s : List ℕ) (ss : List (List ℕ)) : Type 0 where
  pub cut : pieces_of s ≡ into ss
  pub whole : joined (λ p. p) ss ≡ s
  pub each : (i : ℕ) → i < length ss → length (get_or ss i []) ≡ 5 + follows (get_or ss i [])

pub record EachAlone (s out marks : List ℕ) : Type 0 where
  pub pieces : List (List ℕ)
  pub cutting : Cutting s pieces
  pub alone : (i : ℕ) → i < length pieces → AsAlone pieces out marks i (get_or pieces i [])
