-- A whole recording: what its header comes to, what it is where it has no records, and arrays that are enough for it.
use Prim.Native.Nat.{ℕ, zero, suc, ◌≤◌}
use native.Mathlib.Omega.{arith}
use mathlib.Core.Path.{◌≡◌, refl, sym, ap, ◌∙◌, subst}
use mathlib.Core.Bool.{Bool}
use mathlib.Core.List.{List}
use lib.ListN.{length}
use lib.Pow.{pow_mono}
use borrow.Author.Tests.{le-leb}
use Rattle.std.specs.Prelude.{Result, Ok, Err}
use Rattle.refusals.specs.declared.Refused.{Refused}
use Rattle.recording.specs.Record.{cut_at}
use Rattle.recording.specs.declared.Form.{Form as Told}
use Rattle.meaning.specs.Layout.{end, head_refusal, height, highest_tree, told, form_of, records_of}
use Rattle.meaning.specs.Shape.{Form, formed, highest_shape}
use Rattle.meaning.specs.Run.{initial, refused, unless, run, outcome}
use Rattle.climb.specs.Climb.{Known}
use Rattle.history.proofs.Passing.{Passes}
use Rattle.spots.proofs.Shapes.{form_lawful}
use Rattle.keeping.specs.Keeping.{Lent}
use Rattle.engine.specs.Ends.{Ends, accepts, Refuses, RoomFor, RoomForAny}
use Rattle.engine.specs.declared.Accepted.{Accepted}
use Rattle.engine.proofs.Runs.{records_end, ends_refused}

-- ---- the header

pub head_refused : (s : List ℕ) (k : ℕ) → k ≡ head_refusal highest_shape s → (k ≡ 0 → ⊥) → outcome s ≡ refused (record { number = k; place = 0 })
unfolding outcome unless
head_refused s zero e n = absurd (n refl)
head_refused s (suc k) e n = rw (← e)

pub head_passed : (s : List ℕ) (k : ℕ) → k ≡ head_refusal highest_shape s → k ≡ 0 → outcome s ≡ run (form_of s) (initial (form_of s)) (records_of s)
unfolding outcome unless
head_passed s k e z = ap (λ (n : ℕ). unless n 0 (run (form_of s) (initial (form_of s)) (records_of s))) (sym e ∙ z)

pub ends_by_header : (asked : Bool) (s : List ℕ) (rows : ℕ → ℕ) (k : ℕ) (r : Refused) → k ≡ head_refusal highest_shape s → (k ≡ 0 → ⊥) → Refuses k 0 r → Ends asked (form_of s) (length s) rows (Err r) (outcome s)
ends_by_header asked s rows k r e n f = ends_refused asked (form_of s) (length s) rows (outcome s) k 0 r (head_refused s k e n) f

pub ends_by_run : (asked : Bool) (s : List ℕ) (rows : ℕ → ℕ) (k : ℕ) (r : Result Accepted Refused) → k ≡ head_refusal highest_shape s → k ≡ 0 → Ends asked (form_of s) (length s) rows r (run (form_of s) (initial (form_of s)) (records_of s))
    → Ends asked (form_of s) (length s) rows r (outcome s)
ends_by_run asked s rows k r e z x = subst (Ends asked (form_of s) (length s) rows r) (sym (head_passed s k e z)) x

-- what the header's form gives the run
pub known_told : (s : List ℕ) → Passes highest_shape s → (f : Told) → f ≡ told s → Known f
known_told s w f e = subst Known (sym e) (record { low = w.high; high = w.low; shape = w.shape })

pub same_told : (s : List ℕ) (f : Told) → f ≡ told s → formed f ≡ form_of s
unfolding form_of
same_told s f e = ap formed e

pub head_told : (s : List ℕ) (k : ℕ) (f : Told) → k ≡ head_refusal highest_shape s → k ≡ 0 → f ≡ told s → outcome s ≡ run (formed f) (initial (formed f)) (records_of s)
head_told s k f e z same = head_passed s k e z ∙ ap (λ (F : Form). run F (initial F) (records_of s)) (sym (same_told s f same))

pub ends_by_told : (asked : Bool) (s : List ℕ) (rows : ℕ → ℕ) (k : ℕ) (r : Result Accepted Refused) (f : Told) → k ≡ head_refusal highest_shape s → k ≡ 0 → f ≡ told s
    → Ends asked (formed f) (length s) rows r (run (formed f) (initial (formed f)) (records_of s)) → Ends asked (form_of s) (length s) rows r (outcome s)
ends_by_told asked s rows k r f e z same x =
    ends_by_run asked s rows k r e z (subst (λ (F : Form). Ends asked F (length s) rows r (run F (initial F) (records_of s))) (same_told s f same) x)

-- ---- no records

no_records : (s : List ℕ) → length s ≡ 6 → records_of s ≡ end
unfolding records_of cut_at
no_records s six = records_end (form_of s) (length s) s 6 (rw (le-leb (length s) 6 (omega arith)))

pub ends_at_once : (asked : Bool) (s : List ℕ) (rows : ℕ → ℕ) (k : ℕ) → k ≡ head_refusal highest_shape s → k ≡ 0 → length s ≡ 6
    → Ends asked (form_of s) (length s) rows (Ok (record { operations = 0; counter = 0 })) (outcome s)
unfolding run initial
ends_at_once asked s rows k e z six =
    subst (Ends asked (form_of s) (length s) rows _) (sym (head_passed s k e z ∙ ap (run (form_of s) (initial (form_of s))) (no_records s six)))
    (accepts refl (sym (form_lawful s).zero) (omega arith) (omega arith) (λ a i j b. absurd (omega arith)))

-- ---- the room

room_for : (s : List ℕ) (l : Lent) → height s ≤ highest_tree → RoomForAny l → RoomFor s (height s) l
room_for s l low r = record { readers = omega (arith, pow_mono low, r.readers); enough = r.enough; operations = λ m few long. omega (arith, r.operations) }

pub room_of_told : (s : List ℕ) (f : Told) (l : Lent) → f ≡ told s → RoomFor s (height s) l → RoomFor s f.height l
room_of_told s f l e r = subst (λ (g : Told). RoomFor s g.height l) (sym e) r

pub room_told : (s : List ℕ) (f : Told) (l : Lent) → f ≡ told s → height s ≤ highest_tree → RoomForAny l → RoomFor s f.height l
room_told s f l e low r = room_of_told s f l e (room_for s l low r)
