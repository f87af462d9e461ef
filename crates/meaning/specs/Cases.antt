-- Further inputs beside the starred ones: each clause of the definitions has one here, or in Direct, that comes out otherwise where the clause
-- is wrong. Answers, reports and texts are worked out from the document. proofs/Cases.antt holds the definitions to them.
use Rattle.std.specs.Prelude.{ℕ, List, [], ◌∷◌, ◌++◌, length, drop, replicate}
use Rattle.recording.specs.Record.{Answer}
use Rattle.meaning.specs.Report.{report_answer, report_buffer}
use Rattle.meaning.specs.Starred.{Case, Seen, times, step, reads, low, adds_of, adds, recording_of, recording, report_with, report_of, row_of, row, refusal, acceptance, defined_in, documented_in}

-- ---- accepted recordings

unfoldable pub runs : List Case
runs =
    -- B with both deltas 0: the root is 0 throughout, and 1's first SC must fail all the same
    acceptance
    (recording 63 (adds 0 0 ∷ adds 1 0 ∷ times 2 (step 0) ∷ times 2 (step 1) ∷ step 0 ∷ step 1 ∷ times 3 (step 0) ∷ times 7 (step 1) ∷ []))
    (report_of 44 0 (row 0 3 1 2 6 0 1 0 ∷ row 1 3 1 2 10 0 2 1 ∷ []))
    "operations 2 counter 0\n0 add 1 2 6 0 1 0\n1 add 1 2 10 0 2 1\n"
    -- 1's SC fails twice at node 1, each time by a store of 0 since its LL; it is finished and was taken in by 0's first store
    ∷ acceptance
    (recording 88 (adds 1 7 ∷ times 3 (step 1) ∷ adds 0 5 ∷ times 6 (step 0) ∷ times 4 (step 1) ∷ adds 0 1 ∷ times 6 (step 0)
    ∷ times 3 (step 1) ∷ []))
    (report_of 64 13 (row 1 3 1 2 10 0 1 1 ∷ row 0 3 1 2 6 0 2 0 ∷ row 0 3 1 2 6 0 3 0 ∷ []))
    "operations 3 counter 13\n1 add 1 2 10 0 1 1\n0 add 1 2 6 0 2 0\n0 add 1 2 6 0 3 0\n"
    -- 0 stores and links again before 1's SC: 0's link does not serve 1, whose own is gone
    ∷ acceptance
    (recording 100 (adds 1 7 ∷ times 3 (step 1) ∷ adds 0 5 ∷ times 6 (step 0) ∷ adds 0 1 ∷ times 3 (step 0) ∷ times 7 (step 1)
    ∷ times 7 (step 0) ∷ []))
    (report_of 64 13 (row 1 3 1 2 10 0 1 1 ∷ row 0 3 1 2 6 0 2 0 ∷ row 0 3 1 2 10 0 3 1 ∷ []))
    "operations 3 counter 13\n1 add 1 2 10 0 1 1\n0 add 1 2 6 0 2 0\n0 add 1 2 10 0 3 1\n"
    -- 1 reads the left child before 0's second leaf write and again after it: the store takes in by its own, the latest read
    ∷ acceptance
    (recording 82 (adds 1 7 ∷ times 3 (step 1) ∷ adds 0 5 ∷ times 6 (step 0) ∷ step 1 ∷ adds 0 1 ∷ times 2 (step 0) ∷ times 6 (step 1)
    ∷ reads 1 ∷ step 1 ∷ []))
    (report_of 84 13 (row 1 3 1 2 10 0 1 1 ∷ row 0 3 1 2 6 0 2 0 ∷ row 0 3 0 2 2 0 3 0 ∷ row 1 2 1 2 1 13 4 0 ∷ []))
    "operations 4 counter 13\n1 add 1 2 10 0 1 1\n0 add 1 2 6 0 2 0\n0 add 0 2 2 0 3 0\n1 read 1 2 1 13 4 0\n"
    -- 0 reads the left child with its 5 before 1 stores; 1 itself read it before the 5 was there, and does not take it in
    ∷ acceptance
    (recording 69 (adds 1 7 ∷ times 4 (step 1) ∷ adds 0 5 ∷ times 5 (step 0) ∷ times 2 (step 1) ∷ reads 1 ∷ step 1 ∷ times 5 (step 0) ∷ []))
    (report_of 64 12 (row 1 3 1 2 6 0 1 0 ∷ row 0 3 1 2 10 0 3 1 ∷ row 1 2 1 2 1 7 2 0 ∷ []))
    "operations 3 counter 12\n1 add 1 2 6 0 1 0\n0 add 1 2 10 0 3 1\n1 read 1 2 1 7 2 0\n"
    -- the same with 0 for 1: 1 reads the right child with its 5 before 0 stores
    ∷ acceptance
    (recording 69 (adds 0 7 ∷ times 5 (step 0) ∷ adds 1 5 ∷ times 5 (step 1) ∷ step 0 ∷ reads 0 ∷ step 0 ∷ times 5 (step 1) ∷ []))
    (report_of 64 12 (row 0 3 1 2 6 0 1 0 ∷ row 1 3 1 2 10 0 3 1 ∷ row 0 2 1 2 1 7 2 0 ∷ []))
    "operations 3 counter 12\n0 add 1 2 6 0 1 0\n1 add 1 2 10 0 3 1\n0 read 1 2 1 7 2 0\n"
    -- D, but 0 starts first: 1's leaf write, which was before 1's read of the left child, says nothing of 0's
    ∷ acceptance
    (recording 57 (adds 0 5 ∷ adds 1 7 ∷ times 4 (step 1) ∷ times 2 (step 0) ∷ times 2 (step 1) ∷ reads 1 ∷ step 1 ∷ times 4 (step 0) ∷ []))
    (report_of 64 12 (row 0 3 1 2 6 0 3 0 ∷ row 1 3 1 2 6 0 1 0 ∷ row 1 2 1 2 1 7 2 0 ∷ []))
    "operations 3 counter 12\n0 add 1 2 6 0 3 0\n1 add 1 2 6 0 1 0\n1 read 1 2 1 7 2 0\n"
    -- 1's failed SC, whose own reads had the 7, takes nothing in: 0 then reads 5
    ∷ acceptance
    (recording 69 (adds 0 5 ∷ times 5 (step 0) ∷ adds 1 7 ∷ times 3 (step 1) ∷ step 0 ∷ times 3 (step 1) ∷ reads 0 ∷ step 0
    ∷ times 4 (step 1) ∷ []))
    (report_of 64 12 (row 0 3 1 2 6 0 1 0 ∷ row 1 3 1 2 10 0 3 1 ∷ row 0 2 1 2 1 5 2 0 ∷ []))
    "operations 3 counter 12\n0 add 1 2 6 0 1 0\n1 add 1 2 10 0 3 1\n0 read 1 2 1 5 2 0\n"
    -- one SC takes in both; 1 wrote its leaf first, though 0 started first
    ∷ acceptance
    (recording 39 (adds 0 5 ∷ adds 1 7 ∷ times 2 (step 1) ∷ times 6 (step 0) ∷ []))
    (report_of 44 12 (row 0 3 1 2 6 0 2 0 ∷ row 1 3 0 2 2 0 1 0 ∷ []))
    "operations 2 counter 12\n0 add 1 2 6 0 2 0\n1 add 0 2 2 0 1 0\n"
    -- the largest counter; then the sum of the children wraps
    ∷ acceptance
    (recording 63 (adds_of 0 (255 ∷ 255 ∷ 255 ∷ 255 ∷ []) ∷ times 6 (step 0) ∷ reads 1 ∷ step 1 ∷ adds 1 2 ∷ times 6 (step 1) ∷ reads 0
    ∷ step 0 ∷ []))
    (report_of 84 1 (row 0 3 1 1 6 0 1 0 ∷ row_of 1 2 1 1 1 (255 ∷ 255 ∷ 255 ∷ 255 ∷ []) 2 0 ∷ row 1 3 1 1 6 0 3 0 ∷ row 0 2 1 1 1 1 4 0
    ∷ []))
    "operations 4 counter 1\n0 add 1 1 6 0 1 0\n1 read 1 1 1 4294967295 2 0\n1 add 1 1 6 0 3 0\n0 read 1 1 1 1 4 0\n"
    -- a delta, a counter and an answer of four bytes each
    ∷ acceptance
    (recording 32 (adds_of 1 (1 ∷ 2 ∷ 3 ∷ 4 ∷ []) ∷ times 6 (step 1) ∷ reads 0 ∷ step 0 ∷ []))
    (report_with (low 44) (1 ∷ 2 ∷ 3 ∷ 4 ∷ []) (row 1 3 1 1 6 0 1 0 ∷ row_of 0 2 1 1 1 (1 ∷ 2 ∷ 3 ∷ 4 ∷ []) 2 0 ∷ []))
    "operations 2 counter 16909060\n1 add 1 1 6 0 1 0\n0 read 1 1 1 16909060 2 0\n"
    -- an addition before its leaf write, and a read before its step: neither is finished or listed
    ∷ acceptance
    (recording 14 (adds 0 1 ∷ step 0 ∷ reads 1 ∷ []))
    (report_of 44 0 (row 0 3 0 2 1 0 0 0 ∷ row 1 2 0 2 0 0 0 0 ∷ []))
    "operations 2 counter 0\n0 add 0 2 1 0 0 0\n1 read 0 2 0 0 0 0\n"
    -- an addition that is in its leaf alone is not listed
    ∷ acceptance
    (recording 17 (adds 0 1 ∷ times 3 (step 0) ∷ []))
    (report_of 24 0 (row 0 3 0 1 3 0 0 0 ∷ []))
    "operations 1 counter 0\n0 add 0 1 3 0 0 0\n"
    -- h = 2: 1 has second attempts at both levels, and at node 1 both fail; 2's store takes in all three
    ∷ acceptance
    (recording_of (low 136) 2 (adds 0 1 ∷ adds 1 2 ∷ adds 2 4 ∷ times 2 (step 0) ∷ times 2 (step 1) ∷ times 2 (step 2) ∷ step 0 ∷ step 1
    ∷ times 3 (step 0) ∷ times 7 (step 1) ∷ times 4 (step 2) ∷ step 1 ∷ times 4 (step 2) ∷ times 4 (step 1) ∷ times 4 (step 0)
    ∷ times 3 (step 1) ∷ []))
    (report_of 64 7 (row 0 3 1 3 10 0 1 0 ∷ row 1 3 1 3 18 0 2 2 ∷ row 2 3 1 3 10 0 3 0 ∷ []))
    "operations 3 counter 7\n0 add 1 3 10 0 1 0\n1 add 1 3 18 0 2 2\n2 add 1 3 10 0 3 0\n"
    -- h = 2: both attempts of 1 at node 2 fail and it goes up. Its reads there had 0's 8, which no store at node 2 has: 3's store at node 1 does
    -- not take it in
    ∷ acceptance
    (recording_of (low 204) 2 (adds 1 2 ∷ times 3 (step 1) ∷ adds 0 1 ∷ times 10 (step 0) ∷ times 4 (step 1) ∷ adds 0 4 ∷ times 10 (step 0)
    ∷ adds 0 8 ∷ times 2 (step 0) ∷ times 7 (step 1) ∷ adds 3 16 ∷ times 10 (step 3) ∷ reads 2 ∷ step 2 ∷ times 8 (step 0) ∷ []))
    (report_of 124 31 (row 1 3 1 2 14 0 1 1 ∷ row 0 3 1 2 10 0 2 0 ∷ row 0 3 1 2 10 0 3 0 ∷ row 0 3 1 2 10 0 6 0 ∷ row 3 3 1 2 10 0 4 0
    ∷ row 2 2 1 2 1 23 5 0 ∷ []))
    "operations 6 counter 31\n1 add 1 2 14 0 1 1\n0 add 1 2 10 0 2 0\n0 add 1 2 10 0 3 0\n0 add 1 2 10 0 6 0\n3 add 1 2 10 0 4 0\n2 read 1 2 1 23 5 0\n"
    -- h = 2: 2 reads node 2 before 0's SC there, so that only 1's store takes in 0's addition, through node 2
    ∷ acceptance
    (recording_of (low 106) 2 (adds 0 1 ∷ times 2 (step 0) ∷ adds 2 4 ∷ times 8 (step 2) ∷ times 4 (step 0) ∷ times 2 (step 2) ∷ reads 3
    ∷ step 3 ∷ adds 1 2 ∷ times 10 (step 1) ∷ []))
    (report_of 84 7 (row 0 3 0 2 6 0 3 0 ∷ row 2 3 1 2 10 0 1 0 ∷ row 3 2 1 2 1 4 2 0 ∷ row 1 3 1 2 10 0 4 0 ∷ []))
    "operations 4 counter 7\n0 add 0 2 6 0 3 0\n2 add 1 2 10 0 1 0\n3 read 1 2 1 4 2 0\n1 add 1 2 10 0 4 0\n"
    -- h = 2: 0 comes to its node first, 3 wrote its leaf first: one SC at node 1, 3 before 0
    ∷ acceptance
    (recording_of (low 63) 2 (adds 0 1 ∷ adds 3 8 ∷ times 2 (step 3) ∷ times 6 (step 0) ∷ times 8 (step 3) ∷ []))
    (report_of 44 9 (row 0 3 0 2 6 0 2 0 ∷ row 3 3 1 2 10 0 1 0 ∷ []))
    "operations 2 counter 9\n0 add 0 2 6 0 2 0\n3 add 1 2 10 0 1 0\n"
    -- h = 2: contention to 4; three processes that read, one that has come to its LL
    ∷ acceptance
    (recording_of (low 47) 2 (reads 0 ∷ adds 1 9 ∷ reads 2 ∷ reads 3 ∷ step 2 ∷ reads 2 ∷ times 3 (step 1) ∷ step 3 ∷ step 2 ∷ reads 3
    ∷ step 0 ∷ reads 0 ∷ []))
    (report_of 144 0 (row 0 2 1 4 1 0 4 0 ∷ row 1 3 0 4 3 0 0 0 ∷ row 2 2 1 4 1 0 1 0 ∷ row 3 2 1 4 1 0 2 0 ∷ row 2 2 1 4 1 0 3 0
    ∷ row 3 2 0 3 0 0 0 0 ∷ row 0 2 0 3 0 0 0 0 ∷ []))
    "operations 7 counter 0\n0 read 1 4 1 0 4 0\n1 add 0 4 3 0 0 0\n2 read 1 4 1 0 1 0\n3 read 1 4 1 0 2 0\n2 read 1 4 1 0 3 0\n3 read 0 3 0 0 0 0\n0 read 0 3 0 0 0 0\n"
    -- h = 2: what comes after a last step does not count; what comes before it does, and all that follows an operation that stops, also after
    -- its own latest step
    ∷ acceptance
    (recording_of (low 75) 2 (adds 0 1 ∷ reads 1 ∷ step 1 ∷ reads 2 ∷ step 2 ∷ times 10 (step 0) ∷ adds 3 4 ∷ step 3 ∷ reads 0 ∷ reads 1
    ∷ step 0 ∷ reads 2 ∷ step 1 ∷ []))
    (report_of 144 1 (row 0 3 1 2 10 0 3 0 ∷ row 1 2 1 2 1 0 1 0 ∷ row 2 2 1 2 1 0 2 0 ∷ row 3 3 0 3 1 0 0 0 ∷ row 0 2 1 3 1 1 4 0
    ∷ row 1 2 1 3 1 1 5 0 ∷ row 2 2 0 3 0 0 0 0 ∷ []))
    "operations 7 counter 1\n0 add 1 2 10 0 3 0\n1 read 1 2 1 0 1 0\n2 read 1 2 1 0 2 0\n3 add 0 3 1 0 0 0\n0 read 1 3 1 1 4 0\n1 read 1 3 1 1 5 0\n2 read 0 3 0 0 0 0\n"
    -- h = 3: 7 has a second attempt at each level; 6's stores take in both
    ∷ acceptance
    (recording_of (low 135) 3 (adds 6 1 ∷ adds 7 2 ∷ times 2 (step 6) ∷ times 2 (step 7) ∷ step 6 ∷ step 7 ∷ times 3 (step 6)
    ∷ times 8 (step 7) ∷ times 4 (step 6) ∷ times 8 (step 7) ∷ times 4 (step 6) ∷ times 7 (step 7) ∷ []))
    (report_of 44 3 (row 6 3 1 2 14 0 1 0 ∷ row 7 3 1 2 26 0 2 3 ∷ []))
    "operations 2 counter 3\n6 add 1 2 14 0 1 0\n7 add 1 2 26 0 2 3\n"
    -- h = 3: 4's addition goes up by the stores of 5, 6 and 0, one at each level; a read before the last store answers 0
    ∷ acceptance
    (recording_of (low 137) 3 (adds 4 1 ∷ times 2 (step 4) ∷ adds 5 2 ∷ times 6 (step 5) ∷ adds 6 4 ∷ times 10 (step 6) ∷ adds 0 8
    ∷ times 13 (step 0) ∷ reads 1 ∷ step 1 ∷ step 0 ∷ reads 1 ∷ step 1 ∷ []))
    (report_of 124 15 (row 4 3 0 5 2 0 2 0 ∷ row 5 3 0 5 6 0 3 0 ∷ row 6 3 0 5 10 0 4 0 ∷ row 0 3 1 5 14 0 5 0 ∷ row 1 2 1 5 1 0 1 0
    ∷ row 1 2 1 4 1 15 6 0 ∷ []))
    "operations 6 counter 15\n4 add 0 5 2 0 2 0\n5 add 0 5 6 0 3 0\n6 add 0 5 10 0 4 0\n0 add 1 5 14 0 5 0\n1 read 1 5 1 0 1 0\n1 read 1 4 1 15 6 0\n"
    -- h = 6: process 63
    ∷ acceptance
    (recording_of (low 7) 6 (reads 63 ∷ step 63 ∷ []))
    (report_of 24 0 (row 63 2 1 1 1 0 1 0 ∷ []))
    "operations 1 counter 0\n63 read 1 1 1 0 1 0\n"
    ∷ []

-- ---- refusals: each on its side of the line, and each pair in its order

-- a recording of that many bytes more than six, all 0: what follows the header is a record with k = 0
abbrev pub long : List ℕ → ℕ → ℕ → List ℕ
long len h more = 1 ∷ len ++ (h ∷ replicate more 0)

unfoldable pub refusals : List Case
refusals =
    -- 5 bytes, with all else true; 1 before 2 is starred
    refusal (1 ∷ 0 ∷ 0 ∷ 0 ∷ 0 ∷ []) 1 0 "refused 1 0\n"
    -- version 2; 2 before 3 and 5
    ∷ refusal (2 ∷ 0 ∷ 0 ∷ 0 ∷ 1 ∷ 1 ∷ []) 2 0 "refused 2 0\n"
    ∷ refusal (2 ∷ 0 ∷ 0 ∷ 0 ∷ 9 ∷ 9 ∷ []) 2 0 "refused 2 0\n"
    -- L one too large, one too small; 3 before 5
    ∷ refusal (1 ∷ 0 ∷ 0 ∷ 0 ∷ 2 ∷ 1 ∷ []) 3 0 "refused 3 0\n"
    ∷ refusal (1 ∷ 0 ∷ 0 ∷ 0 ∷ 0 ∷ 1 ∷ []) 3 0 "refused 3 0\n"
    ∷ refusal (1 ∷ 0 ∷ 0 ∷ 0 ∷ 2 ∷ 7 ∷ []) 3 0 "refused 3 0\n"
    -- 5 before 6
    ∷ refusal (long (low 2) 7 1) 5 0 "refused 5 0\n"
    -- k is 0, or in no pair of the table; 6 before 7 and before 9
    ∷ refusal (long (low 4) 1 3) 6 6 "refused 6 6\n"
    ∷ refusal (recording 4 ((1 ∷ 1 ∷ 0 ∷ []) ∷ [])) 6 6 "refused 6 6\n"
    ∷ refusal (recording 4 ((2 ∷ 0 ∷ 9 ∷ []) ∷ [])) 6 6 "refused 6 6\n"
    ∷ refusal (recording 4 ((2 ∷ 3 ∷ 9 ∷ []) ∷ [])) 6 6 "refused 6 6\n"
    ∷ refusal (recording 5 ((3 ∷ 2 ∷ 9 ∷ 0 ∷ []) ∷ [])) 6 6 "refused 6 6\n"
    ∷ refusal (recording 8 ((6 ∷ 1 ∷ 0 ∷ 0 ∷ 0 ∷ 0 ∷ 0 ∷ []) ∷ [])) 6 6 "refused 6 6\n"
    ∷ refusal (recording 8 ((6 ∷ 2 ∷ 0 ∷ 0 ∷ 0 ∷ 0 ∷ 0 ∷ []) ∷ [])) 6 6 "refused 6 6\n"
    ∷ refusal (recording 8 ((6 ∷ 4 ∷ 0 ∷ 0 ∷ 0 ∷ 0 ∷ 0 ∷ []) ∷ [])) 6 6 "refused 6 6\n"
    ∷ refusal (recording 7 ((5 ∷ 3 ∷ 0 ∷ 0 ∷ 0 ∷ 0 ∷ []) ∷ [])) 6 6 "refused 6 6\n"
    ∷ refusal (recording 9 ((7 ∷ 3 ∷ 0 ∷ 0 ∷ 0 ∷ 0 ∷ 0 ∷ 0 ∷ []) ∷ [])) 6 6 "refused 6 6\n"
    -- fewer than k bytes remain: by one, by all
    ∷ refusal (recording 6 (reads 0 ∷ (2 ∷ 1 ∷ []) ∷ [])) 6 9 "refused 6 9\n"
    ∷ refusal (recording 5 (reads 0 ∷ (2 ∷ []) ∷ [])) 6 9 "refused 6 9\n"
    ∷ refusal (recording 10 (reads 0 ∷ (6 ∷ 3 ∷ 0 ∷ 0 ∷ 0 ∷ 0 ∷ []) ∷ [])) 6 9 "refused 6 9\n"
    -- process n: a read's is starred; 7 before 9, and before 8
    ∷ refusal (recording 4 (step 2 ∷ [])) 7 6 "refused 7 6\n"
    ∷ refusal (recording_of (low 11) 2 (reads 3 ∷ adds 4 0 ∷ [])) 7 9 "refused 7 9\n"
    ∷ refusal (recording_of (low 4) 6 (reads 64 ∷ [])) 7 6 "refused 7 6\n"
    -- a start for a busy process, also an addition and one that has taken steps; a step once it is idle again
    ∷ refusal (recording 18 (adds 0 1 ∷ step 0 ∷ adds 0 1 ∷ [])) 8 16 "refused 8 16\n"
    ∷ refusal (recording 10 (reads 1 ∷ step 1 ∷ step 1 ∷ [])) 9 12 "refused 9 12\n"
    ∷ refusal (recording 29 (adds 0 1 ∷ times 7 (step 0) ∷ [])) 9 31 "refused 9 31\n"
    ∷ refusal (recording 7 (reads 0 ∷ step 1 ∷ [])) 9 9 "refused 9 9\n"
    -- the first record that is refused: 9 before a later 6, 8 before a later 7
    ∷ refusal (recording 5 (step 0 ∷ (9 ∷ []) ∷ [])) 9 6 "refused 9 6\n"
    ∷ refusal (recording 10 (reads 0 ∷ reads 0 ∷ reads 9 ∷ [])) 8 9 "refused 8 9\n"
    ∷ []

-- with room for seven rows and eleven bytes more
unfoldable pub defined_wide : Case → Seen
defined_wide = defined_in (replicate 160 238)

unfoldable pub documented_wide : Case → Seen
documented_wide = documented_in (replicate 160 238)

-- ---- the report buffer's room

-- an input, the bytes lent, and what the document says of report: number and place, and the bytes laid, none for a refusal
pub record Lent : Type 0 where
  pub input : List ℕ
  pub room : ℕ
  pub number : ℕ
  pub place : ℕ
  pub report : List ℕ

pub record Given : Type 0 where
  pub answer : Answer
  pub buffer : List ℕ

unfoldable pub defined_given : Lent → Given
defined_given c =
    record { answer = report_answer c.input (replicate c.room 238); buffer = report_buffer c.input (replicate c.room 238) }

unfoldable pub documented_given : Lent → Given
documented_given c =
    record {
      answer = record { number = c.number; place = c.place };
      buffer = c.report ++ drop (length c.report) (replicate c.room 238);
    }

abbrev pub laid : List ℕ → ℕ → List ℕ → Lent
laid s room r = record { input = s; room = room; number = 0; place = 0; report = r }

abbrev pub unlaid : List ℕ → ℕ → ℕ → ℕ → Lent
unlaid s room k at = record { input = s; room = room; number = k; place = at; report = [] }

unfoldable pub rooms : List Lent
rooms =
    -- no operation: 9 bytes, 8 bytes, none
    laid (recording 1 []) 9 (report_of 4 0 [])
    ∷ unlaid (recording 1 []) 8 11 9
    ∷ unlaid (recording 1 []) 0 11 9
    -- two operations: 49 bytes, 48
    ∷ laid (recording 7 (reads 0 ∷ reads 1 ∷ [])) 49 (report_of 44 0 (row 0 2 0 2 0 0 0 0 ∷ row 1 2 0 2 0 0 0 0 ∷ []))
    ∷ unlaid (recording 7 (reads 0 ∷ reads 1 ∷ [])) 48 11 49
    -- 11 is tried last: a header and a record that are refused
    ∷ unlaid [] 0 1 0
    ∷ unlaid (recording 4 (step 0 ∷ [])) 3 9 6
    ∷ []
