-- What follows from the promises of check and report: one outcome each, check as report with room enough, which numbers a refusal has, and
-- acceptance exactly where the definition accepts.
use Prim.Native.Nat.{ℕ, zero, suc, ◌≤◌}
use native.Mathlib.Omega.{arith}
use mathlib.Core.Path.{◌≡◌, refl, sym, ap, ◌∙◌}
use mathlib.Core.Bool.{Bool, true, false, cond, false≢true}
use mathlib.Core.List.{List, [], ◌∷◌}
use lib.ListN.{length}
use borrow.Author.Tests.{le-leb}
use Rattle.std.specs.Prelude.{Result, Ok, Err}
use Rattle.refusals.specs.declared.Refused.{Refused}
use Rattle.refusals.proofs.Laws.{number_positive}
use Rattle.recording.specs.Record.{Answer}
use Rattle.recording.specs.declared.Event.{Event}
use Rattle.meaning.specs.Refusals.{Refusal, first_of}
use Rattle.meaning.specs.Layout.{Records, end, broken, event, unknown_shape, head_refusal, shape_of, form_of, records_of}
use Rattle.meaning.specs.Shape.{Form, highest_shape}
use Rattle.meaning.specs.Run.{State, initial, take_event, refusal_by, record_refusal, Outcome, refused, accepted, unless, run, outcome}
use Rattle.meaning.specs.Report.{needed, passes, answer_with, report_answer, check_with, check_answer}
use Rattle.engine.proofs.Laws.{same_refused}
use Rattle.entries.specs.Promises.{answer_of, Reports}

-- ---- one outcome

-- no answer but passes is 0, and each refusal has a number of its own
pub same_result : (a b : Result (Unit {0}) Refused) → answer_of a ≡ answer_of b → a ≡ b
unfolding answer_of passes
same_result (Ok x) (Ok y) e = refl
same_result (Ok x) (Err r) e = absurd (omega (arith, number_positive r.refusal, ap (λ (z : Answer). z.number) e))
same_result (Err r) (Ok x) e = absurd (omega (arith, number_positive r.refusal, ap (λ (z : Answer). z.number) e))
same_result (Err r) (Err q) e = ap Err (same_refused r q (ap (λ (z : Answer). z.number) e) (ap (λ (z : Answer). z.place) e))

pub check_one : (s : List ℕ) (a b : Result (Unit {0}) Refused) → answer_of a ≡ check_answer s → answer_of b ≡ check_answer s → a ≡ b
check_one s a b x y = same_result a b (x ∙ sym y)

pub report_one : (s before after after' : List ℕ) (a b : Result (Unit {0}) Refused) → Reports s before after (answer_of a) → Reports s before after' (answer_of b) → (a ≡ b) × (after ≡ after')
report_one s before after after' a b x y = (same_result a b (x.answer ∙ sym y.answer), x.buffer ∙ sym y.buffer)

-- ---- check is report with room enough

with_room : (n : ℕ) (o : Outcome) → ((st : State) → o ≡ accepted st → needed st ≤ n) → check_with o ≡ answer_with o n
unfolding check_with answer_with
with_room n (refused a) room = refl
with_room n (accepted st) room = rw (le-leb (needed st) n (room st refl))

pub check_is_report : (s buf : List ℕ) → ((st : State) → outcome s ≡ accepted st → needed st ≤ length buf) → check_answer s ≡ report_answer s buf
unfolding check_answer report_answer
check_is_report s buf room = with_room (length buf) (outcome s) room

-- ---- a refusal's number is 1 to 10

abbrev Few : List Refusal → Type 0
Few [] = Unit {0}
Few (r ∷ rs) = (r.given ≡ true → r.number ≤ 10) × Few rs

first_few : (rs : List Refusal) → Few rs → first_of rs ≤ 10
unfolding first_of
first_few [] f = omega arith
first_few (r ∷ rs) f = go r.given refl (first_few rs f.1)
  where
    go : (b : Bool) → r.given ≡ b → first_of rs ≤ 10 → cond b r.number (first_of rs) ≤ 10
    go true e later = f.0 e
    go false e later = later

-- no recording of version 1 has an unknown shape
head_few : (s : List ℕ) → head_refusal highest_shape s ≤ 10
unfolding head_refusal unknown_shape shape_of
head_few s = first_few _ (λ g. omega arith, (λ g. omega arith, (λ g. omega arith, (λ g. omega arith, (λ g. omega arith, (λ g. absurd (false≢true g), tt))))))

record_few : (F : Form) (st : State) (e : Event) → record_refusal F st e ≤ 10
unfolding record_refusal refusal_by
record_few F st e = first_few _ (λ g. omega arith, (λ g. omega arith, (λ g. omega arith, (λ g. omega arith, tt))))

same_number : {a b : Answer} → refused a ≡ refused b → a.number ≡ b.number
same_number e = cc

unless_number : (k at : ℕ) (o : Outcome) (a : Answer) → k ≤ 10 → ((b : Answer) → o ≡ refused b → (1 ≤ b.number) × (b.number ≤ 10)) → unless k at o ≡ refused a
    → (1 ≤ a.number) × (a.number ≤ 10)
unfolding unless
unless_number zero at o a few f e = f a e
unless_number (suc k) at o a few f e = let n : suc k ≡ a.number = same_number e in omega arith

run_number : (F : Form) (st : State) (rs : Records) (a : Answer) → run F st rs ≡ refused a → (1 ≤ a.number) × (a.number ≤ 10)
unfolding run
run_number F st end a e = let z : ◌≡◌ {A = ℕ} 0 1 = cc in omega arith
run_number F st (broken at) a e = let n : 6 ≡ a.number = same_number e in omega arith
run_number F st (event at x rs) a e = unless_number (record_refusal F st x) at _ a (record_few F st x) (λ b d. run_number F (take_event F st x) rs b d) e

pub refusal_number : (s : List ℕ) (a : Answer) → outcome s ≡ refused a → (1 ≤ a.number) × (a.number ≤ 10)
unfolding outcome
refusal_number s a e = unless_number (head_refusal highest_shape s) 0 _ a (head_few s) (λ b d. run_number (form_of s) (initial (form_of s)) (records_of s) b d) e

pub refusal_positive : (s : List ℕ) (a : Answer) → outcome s ≡ refused a → 1 ≤ a.number
refusal_positive s a e = (refusal_number s a e).0

-- ---- acceptance

-- "Acceptance is answered by number 0, place 0", exactly where the definition accepts
pub accepts_when : (s : List ℕ) → (check_answer s).number ≡ 0 → (st : State) × (outcome s ≡ accepted st)
unfolding check_answer check_with
accepts_when s z = go (outcome s) refl z
  where
    go : (o : Outcome) → outcome s ≡ o → (check_with o).number ≡ 0 → (st : State) × (outcome s ≡ accepted st)
    go (refused a) e n = absurd (omega (arith, refusal_positive s a e))
    go (accepted st) e n = (st, e)

pub when_accepted : (s : List ℕ) (st : State) → outcome s ≡ accepted st → check_answer s ≡ passes
unfolding check_answer check_with
when_accepted s st e = ap check_with e
