-- One record of a recording: its bytes, and what reading at a place finds.
use Rattle.std.specs.Prelude.{ℕ, ◌+◌, ◌-◌, ◌^◌, ◌≤◌, ◌<◌, ◌≡◌, Bool, cond, ◌&&◌, ◌||◌, List, [], ◌∷◌, length, get_or, leb, eqb, Option, Some, None, Result, Ok, Err}
use Rattle.refusals.specs.Table.{number_of}
use Rattle.refusals.specs.declared.Refused.{Refused}
use Rattle.refusals.specs.declared.Refusal.TheVariants.{BrokenRecord}
use Rattle.recording.specs.Numbers.{four_bytes, number_at}
use Rattle.recording.specs.declared.Event.{Event}
use Rattle.recording.specs.declared.Event.TheVariants.{Step, Read, Add}
use Rattle.recording.specs.declared.Found.{Found}

-- An answer in the table's numbers: a refusal number, or 0, and a place.
pub record Answer : Type 0 where
  pub number : ℕ
  pub place : ℕ

-- "A record is a length byte k, then k bytes: kind, process, and for kind 3 a delta of four bytes."
unfoldable pub bytes_of : Event → List ℕ
bytes_of (Step p) = 2 ∷ 1 ∷ p ∷ []
bytes_of (Read p) = 2 ∷ 2 ∷ p ∷ []
bytes_of (Add p d) = 6 ∷ 3 ∷ p ∷ four_bytes d

-- an event whose numbers fit their bytes: the process byte below 256, the delta below 2 ^ 32
abbrev pub EventFits : Event → Type 0
EventFits (Step p) = p < 256
EventFits (Read p) = p < 256
EventFits (Add p d) = (p < 256) × (d < 2 ^ 32)

-- the table: which kinds there are, and the k of each
unfoldable pub in_table : ℕ → ℕ → Bool
in_table kind k = (eqb kind 1 && eqb k 2) || (eqb kind 2 && eqb k 2) || (eqb kind 3 && eqb k 6)

-- what rule 6 does not refuse: "k is 0, or fewer than k bytes remain after the length byte, or the pair of kind and k is not in the table"
unfoldable pub whole : List ℕ → ℕ → Bool
whole s at = leb 1 (get_or s at 0) && leb (get_or s at 0) (length s - (at + 1)) && in_table (get_or s (at + 1) 0) (get_or s at 0)

-- the event of a whole record
unfoldable pub event_at : List ℕ → ℕ → Event
event_at s at =
    cond (eqb (get_or s (at + 1) 0) 1) (Step (get_or s (at + 2) 0))
    (cond (eqb (get_or s (at + 1) 0) 2) (Read (get_or s (at + 2) 0))
    (Add (get_or s (at + 2) 0) (number_at s (at + 3))))

-- what stands at a place: a whole record, its event with the place of the next; no more bytes; or a record that rule 6 refuses
abbrev pub Cut : Type 0
Cut = Result (Option Found) Refused

abbrev pub whole_record : Event → ℕ → Cut
whole_record e next = Ok (Some (record { event = e; next = next }))

abbrev pub no_more : Cut
no_more = Ok None

abbrev pub broken_record : ℕ → Cut
broken_record at = Err (record { refusal = BrokenRecord; place = at })

-- What reading at a place finds: "with no bytes left, or with a place beyond the lent bytes", the end; a whole record, its event and the
-- place of the next; or a record that rule 6 refuses.
unfoldable pub cut_at : List ℕ → ℕ → Cut
cut_at s at =
    cond (leb (length s) at) no_more
    (cond (whole s at) (whole_record (event_at s at) (at + 1 + get_or s at 0))
    (broken_record at))

-- the tabled number and place for each case: the next place, "6 with that record's offset", the end
unfoldable pub cut_answer : Cut → Answer
cut_answer (Ok (Some found)) = record { number = 0; place = found.next }
cut_answer (Ok None) = record { number = 0; place = 0 }
cut_answer (Err refused) = record { number = number_of refused.refusal; place = refused.place }

-- The answer to reading at a place, in those numbers: "with no bytes left, or with a place beyond the lent bytes", the end; for a record that
-- rule 6 does not refuse the next place; else "6 with that record's offset".
unfoldable pub read_answer : List ℕ → ℕ → Answer
read_answer s at =
    cond (leb (length s) at) (record { number = 0; place = 0 })
    (cond (whole s at) (record { number = 0; place = at + 1 + get_or s at 0 })
    (record { number = 6; place = at }))

-- the next place lies beyond this one and inside the bytes
unfoldable pub next_inside : ℕ → ℕ → Cut → Type 0
next_inside at len (Ok (Some found)) = (at + 3 ≤ found.next) × (found.next ≤ len)
next_inside at len (Ok None) = len ≤ at
next_inside at len (Err refused) = refused.place ≤ len

-- what the cut promises: its answer in the table's numbers, the case with its event, and that the next place lies inside
pub record Cuts (s : List ℕ) (at : ℕ) (r : Cut) : Type 0 where
  pub answer : cut_answer r ≡ read_answer s at
  pub is : r ≡ cut_at s at
  pub inside : next_inside at (length s) r
