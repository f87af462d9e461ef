-- Turns in a row hand out the records of the definition: those that `records_of` lists, and no others.
use Prim.Native.Nat.{ℕ, zero, suc, ◌+◌, ◌≤◌}
use mathlib.Core.Path.{◌≡◌, refl, sym, ap, ◌∙◌, subst}
use mathlib.Core.Bool.{true}
use mathlib.Core.List.{List}
use native.Mathlib.Omega.{arith}
use lib.ListN.{length}
use denote.Ref.{Bor}
use Rattle.recording.specs.Record.{bytes_of, cut_at, Cut, whole_record}
use Rattle.recording.specs.declared.Event.{Event}
use Rattle.recording.specs.declared.Event.TheVariants.{Step, Read, Add}
use Rattle.std.specs.Prelude.{Some, None, Ok, Err}
use Rattle.recording.proofs.Cases.{cuts_some}
use Rattle.meaning.specs.Shape.{Form, is_one_of}
use Rattle.meaning.specs.Layout.{form_of, Records, event, kind_byte, follow, records_from, records_of}
use Rattle.meaning.proofs.EventKinds.{form_kinds, follows_found}
use Rattle.reader.specs.Reads.{Reads, place_after, reader_of}
use Rattle.reader.specs.InARow.{HandsOut, ends, refuses, hands}
use Rattle.reader.specs.declared.Reader.{Reader}
use Rattle.reader.proofs.Laws.{beyond_ends, event_moves, reads_at_lem}

-- every event has a byte at least
bytes_some : (e : Event) → 1 ≤ length (bytes_of e)
unfolding bytes_of
bytes_some (Step p) = omega arith
bytes_some (Read p) = omega arith
bytes_some (Add p d) = omega arith

module _ (F : Form) where
  -- one record of the definition, by what a turn hands out
  followed : {r r' : Reader} {c : Cut} → Reads r r' c → (most : ℕ)
      → records_from F (suc most) r.rec.now r.place ≡ follow F r.place c (records_from F most r.rec.now)
  unfolding records_from
  followed {r} p most = ap (λ (c : Cut). follow F r.place c (records_from F most r.rec.now)) (sym p.gives.cuts.is)

  -- the definition goes on where the reader now stands
  goes_on : {r r' : Reader} {e : Event} {next : ℕ} → Reads r r' (whole_record e next) → (most : ℕ)
      → records_from F most r'.rec.now r'.place ≡ records_from F most r.rec.now next
  goes_on {r} {r'} p most =
      ap (λ (s : List ℕ). records_from F most s r'.place) (ap (λ x. x.now) p.keeps) ∙ ap (records_from F most r.rec.now) (event_moves p).0

-- with one record less to come
fewer : {r r' : Reader} {e : Event} {next : ℕ} → Reads r r' (whole_record e next) → (most : ℕ) → length r.rec.now ≤ r.place + suc most
    → length r'.rec.now ≤ r'.place + most
fewer {e = e} p most enough = omega (arith, ap (λ x. length x.now) p.keeps, bytes_some e, (event_moves p).0, (event_moves p).1)

-- a shape that has every kind
module _ (F : Form) (all : (e : Event) → is_one_of (kind_byte e) F.shape.kinds ≡ true) where
  pub hands_from : {r : Reader} {rs : Records} → HandsOut r rs → (most : ℕ) → length r.rec.now ≤ r.place + most
      → rs ≡ records_from F most r.rec.now r.place
  unfolding records_from follow
  hands_from (ends p) zero enough = refl
  hands_from (refuses p) zero enough =
      let e = (beyond_ends p (omega arith)).0 in let z : ◌≡◌ {A = ℕ} 0 1 = cc in absurd (omega arith)
  hands_from (hands p rest) zero enough =
      let e = (beyond_ends p (omega arith)).0 in let z : ◌≡◌ {A = ℕ} 0 1 = cc in absurd (omega arith)
  hands_from (ends p) (suc most) enough = sym (followed F p most)
  hands_from (refuses p) (suc most) enough = sym (followed F p most)
  hands_from {r} (hands {e = e} {next = next} p rest) (suc most) enough =
      ap (event r.place e) (hands_from rest most (fewer p most enough) ∙ goes_on F p most)
      ∙ sym (follows_found F all r.place e next (records_from F most r.rec.now)) ∙ sym (followed F p most)

-- whatever a new reader hands out is what the definition lists
pub hands_all : (rec : Bor (List ℕ)) {rs : Records} → HandsOut (reader_of rec) rs → rs ≡ records_of rec.now
unfolding reader_of records_of
hands_all rec h = hands_from (form_of rec.now) (form_kinds rec.now) h (length rec.now) (omega arith)

-- ---- and all of it is handed out

-- every reader has a turn
abbrev moved : Reader → Reader
moved r = record { rec = r.rec; place = place_after r.place (cut_at r.rec.now r.place) }

turn : (r : Reader) → Reads r (moved r) (cut_at r.rec.now r.place)
turn r = record { gives = reads_at_lem _ (cuts_some r.rec.now r.place) refl; keeps = refl }

module _ (F : Form) (all : (e : Event) → is_one_of (kind_byte e) F.shape.kinds ≡ true) where
  hands_on : {r r' : Reader} {c : Cut} → Reads r r' c → (most : ℕ)
      → ((e : Event) (next : ℕ) → Reads r r' (whole_record e next) → HandsOut r' (records_from F most r.rec.now next))
      → HandsOut r (follow F r.place c (records_from F most r.rec.now))
  unfolding follow
  hands_on {r} {c = Ok (Some found)} p most rest =
      subst (HandsOut r) (sym (follows_found F all r.place found.event found.next (records_from F most r.rec.now)))
      (hands p (rest found.event found.next p))
  hands_on {c = Err refused} p most rest = refuses p
  hands_on {c = Ok None} p most rest = ends p

  hands_enough : (most : ℕ) (r : Reader) → length r.rec.now ≤ r.place + most → HandsOut r (records_from F most r.rec.now r.place)
  unfolding records_from
  hands_enough zero r enough = ends (rw (beyond_ends (turn r) (omega arith)).0 at (turn r))
  hands_enough (suc most) r enough =
      rw (followed F (turn r) most)
      (hands_on (turn r) most (λ e next p. rw (goes_on F p most) at (hands_enough most (moved r) (fewer p most enough))))

pub hands_some : (rec : Bor (List ℕ)) → HandsOut (reader_of rec) (records_of rec.now)
unfolding reader_of records_of
hands_some rec = hands_enough (form_of rec.now) (form_kinds rec.now) (length rec.now) (reader_of rec) (omega arith)
