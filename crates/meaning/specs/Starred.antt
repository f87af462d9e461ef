-- The starred inputs of "Recordings on both sides of each line", each with its answer, its whole report and its printed text, written out
-- from the document. What the definitions make of each is set beside it; proofs/Starred.antt shows that the two lists are one.
use Rattle.std.specs.Prelude.{ℕ, zero, suc, List, [], ◌∷◌, ◌++◌, length, drop, replicate}
use Prim.Native.String.{String}
use Rattle.recording.specs.Record.{Answer}
use Rattle.meaning.specs.Report.{check_answer, report_answer, report_buffer}
use Rattle.meaning.specs.Printed.{text, printed}

-- an input, and what the document says of it: number and place, the report's bytes, none for a refusal, and the text
pub record Case : Type 0 where
  pub input : List ℕ
  pub number : ℕ
  pub place : ℕ
  pub report : List ℕ
  pub says : String

-- ---- writing a case down

unfoldable pub join : List (List ℕ) → List ℕ
join [] = []
join (x ∷ xs) = x ++ join xs

unfoldable pub times : ℕ → List ℕ → List ℕ
times zero x = []
times (suc k) x = x ++ times k x

unfoldable pub step : ℕ → List ℕ
step p = 2 ∷ 1 ∷ p ∷ []

unfoldable pub reads : ℕ → List ℕ
reads p = 2 ∷ 2 ∷ p ∷ []

-- a number below 256, in four bytes
abbrev pub low : ℕ → List ℕ
low b = 0 ∷ 0 ∷ 0 ∷ b ∷ []

-- the delta's four bytes are given
abbrev pub adds_of : ℕ → List ℕ → List ℕ
adds_of p delta = 6 ∷ 3 ∷ p ∷ delta

unfoldable pub adds : ℕ → ℕ → List ℕ
adds p d = adds_of p (low d)

-- version 1, L's four bytes, the height
abbrev pub recording_of : List ℕ → ℕ → List (List ℕ) → List ℕ
recording_of len h records = 1 ∷ len ++ (h ∷ join records)

unfoldable pub recording : ℕ → List (List ℕ) → List ℕ
recording len = recording_of (low len) 1

-- version 1, the four bytes of the length and of the counter
abbrev pub report_with : List ℕ → List ℕ → List (List ℕ) → List ℕ
report_with len counter rows = 1 ∷ len ++ (counter ++ join rows)

unfoldable pub report_of : ℕ → ℕ → List (List ℕ) → List ℕ
report_of len counter = report_with (low len) (low counter)

-- process, kind, finished, contention; steps, the answer's four bytes, rank, second attempts
abbrev pub row_of : ℕ → ℕ → ℕ → ℕ → ℕ → List ℕ → ℕ → ℕ → List ℕ
row_of p kind finished contention steps answer rank seconds =
    (p ∷ kind ∷ finished ∷ contention ∷ []) ++ (low steps ++ (answer ++ (low rank ++ low seconds)))

unfoldable pub row : ℕ → ℕ → ℕ → ℕ → ℕ → ℕ → ℕ → ℕ → List ℕ
row p kind finished contention steps answer = row_of p kind finished contention steps (low answer)

unfoldable pub refusal : List ℕ → ℕ → ℕ → String → Case
refusal s k at t = record { input = s; number = k; place = at; report = []; says = t }

unfoldable pub acceptance : List ℕ → List ℕ → String → Case
acceptance s r t = record { input = s; number = 0; place = 0; report = r; says = t }

-- ---- the cases

unfoldable pub cases : List Case
cases =
    refusal [] 1 0 "refused 1 0\n"
    ∷ refusal (0 ∷ 0 ∷ 0 ∷ 0 ∷ 0 ∷ []) 1 0 "refused 1 0\n"
    ∷ acceptance (1 ∷ 0 ∷ 0 ∷ 0 ∷ 1 ∷ 1 ∷ []) (1 ∷ 0 ∷ 0 ∷ 0 ∷ 4 ∷ 0 ∷ 0 ∷ 0 ∷ 0 ∷ []) "operations 0 counter 0\n"
    ∷ refusal (0 ∷ 0 ∷ 0 ∷ 0 ∷ 1 ∷ 1 ∷ []) 2 0 "refused 2 0\n"
    ∷ refusal (1 ∷ 0 ∷ 0 ∷ 0 ∷ 1 ∷ 0 ∷ []) 5 0 "refused 5 0\n"
    ∷ refusal (1 ∷ 0 ∷ 0 ∷ 0 ∷ 1 ∷ 7 ∷ []) 5 0 "refused 5 0\n"
    ∷ refusal (recording 4 (reads 2 ∷ [])) 7 6 "refused 7 6\n"
    ∷ refusal (recording 7 (reads 0 ∷ reads 0 ∷ [])) 8 9 "refused 8 9\n"
    ∷ refusal (recording 4 (step 0 ∷ [])) 9 6 "refused 9 6\n"
    -- A: 0 adds 5 to the end, then 1 reads
    ∷ acceptance (recording 32 (adds 0 5 ∷ times 6 (step 0) ∷ reads 1 ∷ step 1 ∷ []))
    (report_of 44 5 (row 0 3 1 1 6 0 1 0 ∷ row 1 2 1 1 1 5 2 0 ∷ []))
    "operations 2 counter 5\n0 add 1 1 6 0 1 0\n1 read 1 1 1 5 2 0\n"
    -- B: both link before 0 stores, so that 1's first SC fails
    ∷ acceptance
    (recording 63
    (adds 0 5 ∷ adds 1 7 ∷ times 2 (step 0) ∷ times 2 (step 1) ∷ step 0 ∷ step 1 ∷ times 3 (step 0) ∷ times 7 (step 1) ∷ []))
    (report_of 44 12 (row 0 3 1 2 6 0 1 0 ∷ row 1 3 1 2 10 0 2 1 ∷ []))
    "operations 2 counter 12\n0 add 1 2 6 0 1 0\n1 add 1 2 10 0 2 1\n"
    -- C: 1 reads 0 while 0's addition is in its leaf alone
    ∷ acceptance (recording 32 (adds 0 5 ∷ times 2 (step 0) ∷ reads 1 ∷ step 1 ∷ times 4 (step 0) ∷ []))
    (report_of 44 5 (row 0 3 1 2 6 0 2 0 ∷ row 1 2 1 2 1 0 1 0 ∷ []))
    "operations 2 counter 5\n0 add 1 2 6 0 2 0\n1 read 1 2 1 0 1 0\n"
    -- D: 0 writes its leaf after 1 has read it, so that 1's store does not take 0's addition in
    ∷ acceptance
    (recording 57
    (adds 1 7 ∷ times 4 (step 1) ∷ adds 0 5 ∷ times 2 (step 0) ∷ times 2 (step 1) ∷ reads 1 ∷ step 1 ∷ times 4 (step 0) ∷ []))
    (report_of 64 12 (row 1 3 1 2 6 0 1 0 ∷ row 0 3 1 2 6 0 3 0 ∷ row 1 2 1 2 1 7 2 0 ∷ []))
    "operations 3 counter 12\n1 add 1 2 6 0 1 0\n0 add 1 2 6 0 3 0\n1 read 1 2 1 7 2 0\n"
    -- E: the sum wraps
    ∷ acceptance
    (recording 51
    (adds_of 0 (255 ∷ 255 ∷ 255 ∷ 255 ∷ []) ∷ times 6 (step 0) ∷ adds 0 2 ∷ times 6 (step 0) ∷ []))
    (report_of 44 1 (row 0 3 1 1 6 0 1 0 ∷ row 0 3 1 1 6 0 2 0 ∷ []))
    "operations 2 counter 1\n0 add 1 1 6 0 1 0\n0 add 1 1 6 0 2 0\n"
    -- F: 0 stops after its leaf write, and 1's store takes its addition in
    ∷ acceptance (recording 39 (adds 0 5 ∷ times 2 (step 0) ∷ adds 1 7 ∷ times 6 (step 1) ∷ []))
    (report_of 44 12 (row 0 3 0 2 2 0 1 0 ∷ row 1 3 1 2 6 0 2 0 ∷ []))
    "operations 2 counter 12\n0 add 0 2 2 0 1 0\n1 add 1 2 6 0 2 0\n"
    ∷ []

-- ---- the two sides

-- what check answers, what report answers, the report buffer afterwards, what the program prints
pub record Seen : Type 0 where
  pub check : Answer
  pub answer : Answer
  pub buffer : List ℕ
  pub says : List ℕ

-- with a lent buffer that has room enough
abbrev pub defined_in : List ℕ → Case → Seen
defined_in buf c =
    record {
      check = check_answer c.input;
      answer = report_answer c.input buf;
      buffer = report_buffer c.input buf;
      says = printed c.input;
    }

abbrev pub documented_in : List ℕ → Case → Seen
documented_in buf c =
    record {
      check = record { number = c.number; place = c.place };
      answer = record { number = c.number; place = c.place };
      buffer = c.report ++ drop (length c.report) buf;
      says = text c.says;
    }

-- a buffer with room for three rows and eleven bytes more
unfoldable pub lent : List ℕ
lent = replicate 80 238

unfoldable pub defined : Case → Seen
defined = defined_in lent

unfoldable pub documented : Case → Seen
documented = documented_in lent
