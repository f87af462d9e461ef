-- What follows from the definitions alone: the contract leaves one outcome, a refusal and the end leave the reader as it was, an event moves
-- it past its bytes, and a record that was written is read back.
use Prim.Native.Nat.{ℕ, ◌+◌, ◌≤◌}
use mathlib.Core.Path.{◌≡◌, refl, sym, ap, ◌∙◌}
use mathlib.Core.List.{List, ◌++◌}
use native.Mathlib.Omega.{arith}
use lib.ListN.{length, drop}
use Rattle.recording.specs.Record.{Cuts, EventFits, bytes_of, cut_answer, cut_at, Cut, whole_record, no_more}
use Rattle.recording.specs.Written.{Writes, Written}
use Rattle.recording.specs.declared.Event.{Event}
use Rattle.recording.specs.declared.Found.{Found}
use Rattle.std.specs.Prelude.{Option, Some, None, Ok, Err}
use Rattle.refusals.specs.declared.Refused.{Refused}
use Rattle.recording.proofs.Cases.{ended, found_whole, refused_broken, ends_beyond}
use Rattle.recording.proofs.Laws.{cuts_one, lays, written_reads_back}
use Rattle.reader.specs.Reads.{Reads, ReadsAt, place_after}
use Rattle.reader.specs.declared.Reader.{Reader}
use Rattle.reader.specs.declared.Reading.{Reading}

-- ---- the reading, and the reader that takes it on

pub reads_at_lem : {s : List ℕ} {at : ℕ} {r : Cut} (place : ℕ) → Cuts s at r → place ≡ place_after at r
    → ReadsAt s at (record { cut = r; place = place })
reads_at_lem place c h = record { cuts = c; moves = h }

-- by what the cut's answer is
module _ {s : List ℕ} {at : ℕ} {r : Cut} (c : Cuts s at r) where
  pub reads_found : {o : Option Found} {f : Found} → r ≡ Ok o → o ≡ Some f → ReadsAt s at (record { cut = r; place = f.next })
  unfolding place_after
  reads_found e d = reads_at_lem _ c (sym (ap (place_after at) (e ∙ ap Ok d)))

  pub reads_end : {o : Option Found} → r ≡ Ok o → o ≡ None → ReadsAt s at (record { cut = r; place = at })
  unfolding place_after
  reads_end e d = reads_at_lem _ c (sym (ap (place_after at) (e ∙ ap Ok d)))

  pub reads_refused : {x : Refused} → r ≡ Err x → ReadsAt s at (record { cut = r; place = at })
  unfolding place_after
  reads_refused e = reads_at_lem _ c (sym (ap (place_after at) e))

pub reads_on : (before : Reader) (r : Reading) → ReadsAt before.rec.now before.place r
    → Reads before (record { rec = before.rec; place = r.place }) r.cut
reads_on before r p = record { gives = p; keeps = refl }

-- ---- the contract leaves one answer and one reader

same_reader : {a b : Reader} → a.rec ≡ b.rec → a.place ≡ b.place → a ≡ b
same_reader p q = λ i. record { rec = p i; place = q i }

pub readings_one : {s : List ℕ} {at : ℕ} {a b : Reading} → ReadsAt s at a → ReadsAt s at b → a ≡ b
readings_one {at = at} p q =
    let e = cuts_one p.cuts q.cuts in
    let place = p.moves ∙ ap (place_after at) e ∙ sym q.moves in
    λ i. record { cut = e i; place = place i }

pub reads_one : {before a b : Reader} {x y : Cut} → Reads before a x → Reads before b y → (x ≡ y) × (a ≡ b)
reads_one p q =
    let e = readings_one p.gives q.gives in
    (ap (λ (x : Reading). x.cut) e, same_reader (p.keeps ∙ sym q.keeps) (ap (λ (x : Reading). x.place) e))

-- ---- where the place stays, and where it goes

pub broken_at : (s : List ℕ) (at : ℕ) {r : Refused} → cut_at s at ≡ Err r → r.place ≡ at
broken_at s at {r} h = ap (λ (x : Refused). x.place) (refused_broken s at r h).1

-- "it answers 6 with that record's offset and its place does not move"
pub refused_stays : {before after : Reader} {r : Cut} → Reads before after r → (cut_answer r).number ≡ 6
    → ((cut_answer r).place ≡ before.place) × (after ≡ before)
unfolding cut_answer place_after
refused_stays {r = Ok (Some found)} p six = absurd (omega arith)
refused_stays {before} {r = Err refused} p six =
    (broken_at before.rec.now before.place (sym p.gives.cuts.is), same_reader p.keeps p.gives.moves)
refused_stays {r = Ok None} p six = absurd (omega arith)

-- "With no bytes left, or with a place beyond the lent bytes, it says that the end is reached", and only there; the place stays
pub beyond_ends : {before after : Reader} {r : Cut} → Reads before after r → length before.rec.now ≤ before.place
    → (r ≡ no_more) × (after ≡ before)
unfolding place_after
beyond_ends {before} p h =
    let e = p.gives.cuts.is ∙ sym (ended before.rec.now before.place h).is in
    (e, same_reader p.keeps (p.gives.moves ∙ ap (place_after before.place) e))

pub end_is_beyond : {before after : Reader} → Reads before after no_more → length before.rec.now ≤ before.place
end_is_beyond {before} p = ends_beyond before.rec.now before.place (sym p.gives.cuts.is)

-- an event moves the place past its bytes
pub event_moves : {before after : Reader} {e : Event} {next : ℕ} → Reads before after (whole_record e next)
    → (after.place ≡ next) × (next ≡ before.place + length (bytes_of e))
unfolding place_after
event_moves {before} p = (p.gives.moves, (found_whole before.rec.now before.place (sym p.gives.cuts.is)).1)

-- ---- written, and read back: what the writer left in a buffer with room is handed out, wherever the buffer stands in the recording

pub written_is_read : (front : List ℕ) {e : Event} {buf left : List ℕ} {w : Written} → EventFits e → length (bytes_of e) ≤ length buf
    → Writes e buf left w → {before after : Reader} {r : Cut} → Reads before after r → before.rec.now ≡ front ++ left
    → before.place ≡ length front
    → (r ≡ whole_record e (length front + length (bytes_of e))) × (after.place ≡ length front + length (bytes_of e))
unfolding place_after
written_is_read front {e} {buf} fits room w {before} p bytes place =
    let there = bytes ∙ ap (λ (s : List ℕ). front ++ s) (lays room w).1 in
    let here = ap (cut_at before.rec.now) place ∙ ap (λ (s : List ℕ). cut_at s (length front)) there in
    let found = p.gives.cuts.is ∙ here ∙ written_reads_back front (drop (length (bytes_of e)) buf) e fits in
    (found, p.gives.moves ∙ ap (place_after before.place) found)
