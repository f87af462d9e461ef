-- What follows from the definitions alone: the four bytes of a number and back, a record written and read back, a record read and written
-- back, that each contract leaves one answer, and the two round trips over the contracts.
use Prim.Native.Nat.{ℕ, zero, suc, ◌+◌, ◌*◌, ◌-◌, ◌/◌, ◌%◌, ◌^◌, ◌≤◌, ◌<◌}
use mathlib.Core.Path.{◌≡◌, refl, sym, ap, ◌∙◌}
use mathlib.Core.Bool.{Bool, true, false, cond}
use mathlib.Core.List.{List, [], ◌∷◌, ◌++◌}
use native.Mathlib.Omega.{arith}
use native.Mathlib.Nat.{add_assoc, add-zero, zero-add}
use native.Mathlib.Numerals.{add-one}
use lib.ListN.{length, get_or, take, drop, length-append, length-drop}
use lib.Seq.{drop-cons, take-append_seam, drop-append_seam, get_or-append_seam, get_or-append-add}
use lib.Pow.{recompose, mod-pow-add}
use lib.Dec.{leb}
use borrow.Author.Tests.{le-leb, leb-true}
use Rattle.std.specs.Prelude.{Ok, Err}
use Rattle.refusals.proofs.Laws.{number_positive, number_one}
use Rattle.recording.specs.Numbers.{four_bytes, number_at}
use Rattle.recording.specs.Record.{Answer, Cuts, EventFits, bytes_of, cut_at, Cut, whole_record}
use Rattle.recording.specs.Written.{Writes, write_answer, write_buffer, written_answer, Written}
use Rattle.recording.specs.declared.Event.{Event}
use Rattle.recording.specs.declared.Event.TheVariants.{Step, Read, Add}
use Rattle.recording.proofs.Cases.{Whole, step, read, add, cut_found, found_whole}

-- ---- the four bytes of a number

pub length-four_bytes : (x : ℕ) → length (four_bytes x) ≡ 4
unfolding four_bytes
length-four_bytes x = refl

four_bytes_lem : (a b c d : ℕ) → a < 256 → b < 256 → c < 256 → d < 256 → four_bytes (a * 2 ^ 24 + b * 2 ^ 16 + c * 2 ^ 8 + d) ≡ a ∷ b ∷ c ∷ d ∷ []
unfolding four_bytes
four_bytes_lem a b c d ha hb hc hd =
    let n = a * 2 ^ 24 + b * 2 ^ 16 + c * 2 ^ 8 + d in
    let ea : n / 2 ^ 24 % 256 ≡ a = omega arith in
    let eb : n / 2 ^ 16 % 256 ≡ b = omega arith in
    let ec : n / 2 ^ 8 % 256 ≡ c = omega arith in
    let ed : n % 256 ≡ d = omega arith in
    simp (ea, eb, ec, ed)

-- a number looked up past the front of a list
pub number_there : (front s : List ℕ) (at : ℕ) → number_at (front ++ s) (length front + at) ≡ number_at s at
unfolding number_at
number_there front s at = simp (add_assoc, get_or-append-add front s)

pub number_of_bytes : (x : ℕ) (rest : List ℕ) → x < 2 ^ 32 → number_at (four_bytes x ++ rest) 0 ≡ x
unfolding four_bytes number_at
number_of_bytes x rest h = omega (arith, recompose 8 24 h, mod-pow-add x 8 16, mod-pow-add x 8 8)

pub number_of_bytes_there : (front : List ℕ) (x : ℕ) (rest : List ℕ) → x < 2 ^ 32
    → number_at (front ++ (four_bytes x ++ rest)) (length front) ≡ x
number_of_bytes_there front x rest h =
    simp add-zero at (number_there front (four_bytes x ++ rest) 0) ∙ number_of_bytes x rest h

-- ---- written, and read back

whole_there : (front rest : List ℕ) (e : Event) → EventFits e → Whole (front ++ (bytes_of e ++ rest)) (length front) e
unfolding bytes_of
whole_there front rest (Step p) h =
    let at = get_or-append-add front (2 ∷ 1 ∷ p ∷ rest) in
    step (get_or-append_seam front 2 (1 ∷ p ∷ rest) 0) (at 1 0) (at 2 0) (simp length-append (omega arith))
whole_there front rest (Read p) h =
    let at = get_or-append-add front (2 ∷ 2 ∷ p ∷ rest) in
    read (get_or-append_seam front 2 (2 ∷ p ∷ rest) 0) (at 1 0) (at 2 0) (simp length-append (omega arith))
whole_there front rest (Add p d) h =
    let s : List ℕ = 6 ∷ 3 ∷ p ∷ (four_bytes d ++ rest) in
    let at = get_or-append-add front s in
    add (get_or-append_seam front 6 (3 ∷ p ∷ (four_bytes d ++ rest)) 0) (at 1 0) (at 2 0)
    (number_there front s 3 ∙ number_of_bytes_there (6 ∷ 3 ∷ p ∷ []) d rest h.1)
    (simp (length-append, length-four_bytes) (omega arith))

pub written_reads_back : (front rest : List ℕ) (e : Event) → EventFits e
    → cut_at (front ++ (bytes_of e ++ rest)) (length front) ≡ whole_record e (length front + length (bytes_of e))
written_reads_back front rest e h = cut_found _ _ (whole_there front rest e h)

-- ---- read, and written back

-- the n elements from a place on, one by one
abbrev from : List ℕ → ℕ → ℕ → List ℕ
from s at zero = []
from s at (suc n) = get_or s at 0 ∷ from s (at + 1) n

take_from : (s : List ℕ) (at n : ℕ) → at + n ≤ length s → take n (drop at s) ≡ from s at n
take_from s at zero room = refl
take_from s at (suc n) room =
    let here : at < length s = omega arith in
    rw (drop-cons s at 0, ← add-one at) (ap (λ l. get_or s at 0 ∷ l) (take_from s (at + 1) n (omega arith)))

module _ (s : List ℕ) (bytes : (i : ℕ) → get_or s i 0 < 256) where
  pub number_below : (at : ℕ) → number_at s at < 2 ^ 32
  unfolding number_at
  number_below at = omega (arith, bytes at, bytes (at + 1), bytes (at + 2), bytes (at + 3))

  pub bytes_of_number : (at : ℕ) → at + 4 ≤ length s → four_bytes (number_at s at) ≡ take 4 (drop at s)
  unfolding number_at
  bytes_of_number at room =
      four_bytes_lem _ _ _ _ (bytes at) (bytes (at + 1)) (bytes (at + 2)) (bytes (at + 3)) ∙ sym (take_from s at 4 room ∙ simp add_assoc)

  fits : (at : ℕ) {e : Event} → Whole s at e → EventFits e
  fits at (step k kind proc room) = omega (arith, bytes (at + 2))
  fits at (read k kind proc room) = omega (arith, bytes (at + 2))
  fits at (add k kind proc delta room) = (omega (arith, bytes (at + 2)), omega (arith, number_below (at + 3)))

  pub found_fits : (at : ℕ) {e : Event} {next : ℕ} → cut_at s at ≡ whole_record e next → EventFits e
  found_fits at h = fits at (found_whole s at h).0

  taken : (at : ℕ) {e : Event} → Whole s at e → take (length (bytes_of e)) (drop at s) ≡ bytes_of e
  unfolding bytes_of
  taken at (step k kind proc room) = take_from s at 3 room ∙ simp (add_assoc, k, kind, proc)
  taken at (read k kind proc room) = take_from s at 3 room ∙ simp (add_assoc, k, kind, proc)
  taken at (add {d = d} k kind proc delta room) =
      let room' : at + 3 + 4 ≤ length s = omega arith in
      let four : four_bytes d ≡ from s (at + 3) 4 = ap four_bytes (sym delta) ∙ bytes_of_number (at + 3) room' ∙ take_from s (at + 3) 4 room' in
      rw four (take_from s at 7 room ∙ simp (add_assoc, k, kind, proc))

  pub read_writes_back : (at : ℕ) {e : Event} {next : ℕ} → cut_at s at ≡ whole_record e next
      → (take (length (bytes_of e)) (drop at s) ≡ bytes_of e) × (next ≡ at + length (bytes_of e))
  read_writes_back at h = (taken at (found_whole s at h).0, (found_whole s at h).1)

-- ---- each contract leaves one answer

pub cuts_one : {s : List ℕ} {at : ℕ} {a b : Cut} → Cuts s at a → Cuts s at b → a ≡ b
cuts_one p q = p.is ∙ sym q.is

pub written_injective : (a b : Written) → written_answer a ≡ written_answer b → a ≡ b
unfolding written_answer
written_injective (Ok j) (Ok k) h = ap Ok (ap (λ (x : Answer). x.place) h)
written_injective (Ok j) (Err r) h = absurd (omega (arith, number_positive r.refusal, ap (λ (x : Answer). x.number) h))
written_injective (Err r) (Ok k) h = absurd (omega (arith, number_positive r.refusal, ap (λ (x : Answer). x.number) h))
written_injective (Err r) (Err r') h =
    let refusal = number_one r.refusal r'.refusal (ap (λ (x : Answer). x.number) h) in
    let place = ap (λ (x : Answer). x.place) h in
    λ i. Err (record { refusal = refusal i; place = place i })

pub writes_one : {e : Event} {before after after' : List ℕ} {a b : Written} → Writes e before after a → Writes e before after' b
    → (a ≡ b) × (after ≡ after')
writes_one {a = a} {b = b} p q = (written_injective a b (p.answer ∙ sym q.answer), p.buffer ∙ sym q.buffer)

-- ---- round trips over the contracts: of whatever `write` leaves, and of whatever `cut_at` answers

-- with room: what is answered, and the bytes laid before those that stay
pub lays : {e : Event} {before after : List ℕ} {r : Written} → length (bytes_of e) ≤ length before → Writes e before after r
    → (r ≡ Ok (length (bytes_of e))) × (after ≡ bytes_of e ++ drop (length (bytes_of e)) before)
unfolding write_answer write_buffer written_answer
lays {e} {before} {after} {r} room w =
    let fits = le-leb (length (bytes_of e)) (length before) room in
    (written_injective r (Ok (length (bytes_of e))) (w.answer ∙ simp fits), w.buffer ∙ simp fits)

-- what `write` leaves in a buffer with room is found by `cut_at`, and the next place is what `write` answered
pub written_is_found : {e : Event} {before after : List ℕ} {r : Written} {c : Cut} → EventFits e → length (bytes_of e) ≤ length before
    → Writes e before after r → Cuts after 0 c → (r ≡ Ok (length (bytes_of e))) × (c ≡ whole_record e (length (bytes_of e)))
written_is_found {e} {before} fits room w cut =
    let there = written_reads_back [] (drop (length (bytes_of e)) before) e fits in
    ((lays room w).0, rw (lays room w).1 at cut.is ∙ simp zero-add at there)

-- an event that `cut_at` found, written into any buffer with room: the recording's bytes from its place to the next, and the others stay
pub found_is_written : (s : List ℕ) → ((i : ℕ) → get_or s i 0 < 256) → {at next : ℕ} {e : Event} → Cuts s at (whole_record e next)
    → {before after : List ℕ} {r : Written} → next - at ≤ length before → Writes e before after r
    → (r ≡ Ok (next - at)) × (take (next - at) after ≡ take (next - at) (drop at s)) × (drop (next - at) after ≡ drop (next - at) before)
found_is_written s bytes {at} {next} {e} cut {before} {after} {r} room w =
    let found = read_writes_back s bytes at (sym cut.is) in
    let long : next - at ≡ length (bytes_of e) = omega (arith, found.1) in
    let laid = lays (rw long at room) w in
    rw long (
      laid.0,
      ap (take (length (bytes_of e))) laid.1 ∙ take-append_seam (bytes_of e) _ ∙ sym found.0,
      ap (drop (length (bytes_of e))) laid.1 ∙ drop-append_seam (bytes_of e) _,
    )

-- ---- the buffer keeps its length

keeps : (b : Bool) (x y : List ℕ) → (b ≡ true → length x ≡ length y) → length (cond b x y) ≡ length y
keeps true x y h = h refl
keeps false x y h = refl

pub length-write_buffer : (e : Event) (buf : List ℕ) → length (write_buffer e buf) ≡ length buf
unfolding write_buffer
length-write_buffer e buf =
    keeps (leb (length (bytes_of e)) (length buf)) (bytes_of e ++ drop (length (bytes_of e)) buf) buf
    (λ t. simp (length-append, length-drop) (omega (arith, leb-true (length (bytes_of e)) (length buf) t)))

pub writes_keep_length : {e : Event} {before after : List ℕ} {r : Written} → Writes e before after r → length after ≡ length before
writes_keep_length {e} {before} w = ap length w.buffer ∙ length-write_buffer e before
