-- A piece alone: how many bytes its report has at most; and by how its run ended its report's bytes, its mark, and what is laid of it.
use Prim.Native.Nat.{ℕ, ◌+◌, ◌*◌, ◌-◌, ◌/◌, min, ◌≤◌}
use native.Mathlib.Nat.{add-zero}
use native.Mathlib.Omega.{arith}
use mathlib.Core.Path.{◌≡◌, refl, sym, ap, ◌∙◌, subst}
use mathlib.Core.Bool.{Bool, true, false, cond, ◌||◌}
use mathlib.Core.List.{List, [], ◌∷◌, ◌++◌}
use lib.ListN.{length, take, drop, set, length-set}
use lib.Dec.{ltb}
use borrow.Author.Tests.{ltb-false, le-ltb}
use Rattle.std.specs.Prelude.{Result, Ok, Err}
use Rattle.refusals.specs.declared.Refused.{Refused}
use Rattle.recording.specs.Numbers.{four_bytes}
use Rattle.recording.specs.Record.{Answer}
use Rattle.recording.proofs.Laws.{length-four_bytes}
use Rattle.meaning.specs.Shape.{Form}
use Rattle.meaning.specs.Layout.{form_of}
use Rattle.meaning.specs.Run.{State, Outcome, refused, accepted, outcome}
use Rattle.meaning.specs.Report.{report_bytes, needed, check_answer}
use Rattle.meaning.specs.Drawer.{report_with, report_of, mark_of}
use Rattle.rows.specs.Rows.{laid_at, laid_report}
use Rattle.rows.proofs.Laws.{length-report_bytes}
use Rattle.laying.specs.Lays.{Lays}
use Rattle.laying.proofs.Laid.{lays_none, lays_byte, lays_at, lays_lent, lays_then, lays_as}
use Rattle.engine.specs.Ends.{Ends, refuses, accepts}
use Rattle.engine.specs.declared.Accepted.{Accepted}
use Rattle.history.proofs.Accepted.{accepted_run, accepted_few, accepted_bytes}
use Rattle.entries.proofs.Answers.{check_ends, laid_bytes, within_of_ends}
use Rattle.drawer.specs.Cuts.{most_of, bytes_by}
use Rattle.drawer.specs.Lending.{mark_by, LaysReport}

-- ---- the bytes of a report

pub report_length : (F : Form) (st : State) → length (report_bytes F st) ≡ 9 + 20 * st.operations
unfolding needed
report_length F st = length-report_bytes F st

-- an accepted recording's report has at most as many as its bytes allow
most_enough : (n m : ℕ) → 6 ≤ n → n ≤ 65536 → m ≤ 1024 → 3 * m + 6 ≤ n → 9 + 20 * m ≤ most_of n
unfolding most_of
most_enough n m enough short few bytes = rw (le-ltb n 6 enough, le-ltb 65536 n short) (omega arith)

pub report_most : (s : List ℕ) → length (report_of s) ≤ most_of (length s)
unfolding report_of report_with
report_most s = go (outcome s) refl
  where
    go : (o : Outcome) → outcome s ≡ o → length (report_with (form_of s) o) ≤ most_of (length s)
    go (refused a) e = omega arith
    go (accepted st) e =
        let w = (accepted_run s st e).0 in
        rw (report_length (form_of s) st) (most_enough (length s) st.operations w.enough w.short (accepted_few s st e) (accepted_bytes s st e))

most_cases : (P : ℕ → Type 0) (n : ℕ) → P 0 → (6 ≤ n → P (9 + 20 * min 1024 ((n - 6) / 3))) → P (most_of n)
unfolding most_of
most_cases P n none some = go (ltb n 6) (ltb 65536 n) refl
  where
    go : (a b : Bool) → ltb n 6 ≡ a → P (cond (a || b) 0 (9 + 20 * min 1024 ((n - 6) / 3)))
    go true b e = none
    go false true e = none
    go false false e = some (ltb-false n 6 e)

pub most_small : (n : ℕ) → most_of n ≤ 7 * n
most_small n = most_cases (λ (x : ℕ). x ≤ 7 * n) n (omega arith) (λ b. omega arith)

pub report_few : (n : ℕ) (s : List ℕ) → n ≡ length (report_of s) → n ≤ 20489
report_few n s e = most_cases (λ (x : ℕ). length (report_of s) ≤ x → n ≤ 20489) (length s) (λ a. omega arith) (λ b a. omega arith) (report_most s)

-- ---- by how the run ended

module _ {asked : Bool} {F : Form} {size : ℕ} {rows : ℕ → ℕ} where
  report_with_ends : (G : Form) {r : Result Accepted Refused} {o : Outcome} → Ends asked F size rows r o → length (report_with G o) ≡ bytes_by r
  unfolding report_with
  report_with_ends G (refuses w) = refl
  report_with_ends G (accepts {st} c d e l f) = omega (arith, report_length G st)

  module _ (s : List ℕ) where
    pub report_of_ends : {r : Result Accepted Refused} → Ends asked F size rows r (outcome s) → length (report_of s) ≡ bytes_by r
    unfolding report_of
    report_of_ends ends = report_with_ends (form_of s) ends

    pub accepted_of_ends : (a : Accepted) → Ends asked F size rows (Ok a) (outcome s) → length (report_of s) ≡ 9 + 20 * a.operations
    accepted_of_ends a ends = report_of_ends ends

    pub mark_of_ends : {r : Result Accepted Refused} → Ends asked F size rows r (outcome s) → mark_by r ≡ mark_of s
    unfolding mark_of check_answer
    mark_of_ends {r} ends = ap (λ (a : Answer). a.number ∷ four_bytes a.place) (check_ends asked F size rows r ends)

  refused_with_ends : (G : Form) (r : Refused) {o : Outcome} → Ends asked F size rows (Err r) o → report_with G o ≡ []
  unfolding report_with
  refused_with_ends G r (refuses w) = refl

  -- a refused piece leaves the buffer as it was
  pub piece_refused : (s before : List ℕ) (at : ℕ) (r : Refused) → Ends asked F size rows (Err r) (outcome s) → LaysReport s before at before (Err r)
  unfolding report_of
  piece_refused s before at r ends =
      let none : report_of s ≡ [] = refused_with_ends (form_of s) r ends in
      record { laid = lays_as (sym none) (subst (λ (k : ℕ). Lays before at [] before k) (sym (add-zero at)) (lays_none before at)); mark = mark_of_ends s ends; within = within_of_ends ends }

-- an accepted piece's report, laid at the front of what is lent from a place to the end of the buffer
pub piece_laid : {size : ℕ} {rows : ℕ → ℕ} (a : Accepted) (s before : List ℕ) (at : ℕ) (part : List ℕ) → Ends true (form_of s) size rows (Ok a) (outcome s)
    → at + length (report_of s) ≤ length before → part ≡ laid_report a.operations a.counter rows (take (length before - at) (drop at before))
    → LaysReport s before at (take at before ++ (part ++ drop (length before - at) (drop at before))) (Ok a)
unfolding report_of
piece_laid {size} {rows} a s before at part ends room laid =
    let lent : List ℕ = take (length before - at) (drop at before) in
    let long : length (report_of s) ≡ 9 + 20 * a.operations = accepted_of_ends s a ends in
    record {
      laid = lays_lent before at (9 + 20 * a.operations) (length before - at) (report_of s) part long (omega (arith, long)) (omega arith) (laid ∙ laid_bytes s lent (form_of s) size rows refl a refl ends);
      mark = mark_of_ends s ends;
      within = tt;
    }

-- ---- a mark

pub mark_laid : (before after : List ℕ) (at number place : ℕ) → at + 5 ≤ length before → after ≡ laid_at (set before at number) (at + 1) 4 (four_bytes place)
    → Lays before at (number ∷ four_bytes place) after (at + 5)
unfolding laid_at
mark_laid before after at number place room laid =
    let five : at + 1 + 4 ≡ at + 5 = omega arith in
    rw (laid, ← five)
    (lays_then (lays_byte before at number (omega arith))
    (lays_at (set before at number) (at + 1) 4 (four_bytes place) (length-four_bytes place) (simp length-set (omega arith))))
