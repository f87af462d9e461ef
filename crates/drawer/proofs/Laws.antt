-- What follows from drawer's promise: one outcome, every piece as if run alone, and one true recording as report has it.
use Prim.Native.Nat.{ℕ, suc, ◌+◌, ◌*◌, ◌≤◌, ◌<◌}
use native.Mathlib.Omega.{arith}
use mathlib.Core.Path.{◌≡◌, refl, sym, ap, ◌∙◌}
use mathlib.Core.Bool.{Bool, true, false, cond}
use mathlib.Core.List.{List, [], ◌∷◌, ◌++◌, append_assoc, append-nil}
use lib.ListN.{length, get_or, take, drop}
use lib.Seq.{length-take-le, take-append_seam, drop-append_seam, split_at}
use lib.Dec.{ltb, leb, eqb}
use borrow.Author.Tests.{eq-eqb, le-ltb, le-leb, lt-leb, ltb-true, ltb-false}
use Rattle.recording.specs.Numbers.{four_bytes}
use Rattle.recording.specs.Record.{Answer}
use Rattle.meaning.specs.Shape.{highest_shape}
use Rattle.meaning.specs.Layout.{head_refusal, form_of}
use Rattle.meaning.specs.Run.{State, Outcome, refused, accepted, outcome}
use Rattle.meaning.specs.Report.{report_bytes, needed, passes, answer_with, buffer_with, report_answer, report_buffer, check_with, check_answer}
use Rattle.meaning.specs.Drawer.{Pieces, into, fails, pieces_of, report_with, report_of, mark_of, joined, longest_drawer, answer_within, answer_cut, drawer_answer, over, given, drawer_reports, drawer_marks}
use Rattle.history.proofs.Accepted.{none_refused, accepted_run}
use Rattle.entries.specs.Promises.{answer_of, Reports}
use Rattle.std.specs.Prelude.{Result}
use Rattle.refusals.specs.declared.Refused.{Refused}
use Rattle.entries.proofs.Laws.{same_result, refusal_positive}
use Rattle.drawer.specs.Draws.{Draws}
use Rattle.drawer.specs.AsAlone.{bytes_from, AsAlone, EachAlone}
use Rattle.drawer.proofs.Reached.{joined_append}
use Rattle.drawer.proofs.Alone.{report_length}
use Rattle.drawer.proofs.Passes.{length-mark}
use Rattle.drawer.proofs.Answers.{length_marks}
use Rattle.drawer.proofs.Cutting.{cutting, one_piece}

-- ---- one outcome

pub draws_one : (s out marks out₁ marks₁ out₂ marks₂ : List ℕ) (a b : Result (Unit {0}) Refused) → Draws s out marks out₁ marks₁ (answer_of a) → Draws s out marks out₂ marks₂ (answer_of b) → (a ≡ b) × (out₁ ≡ out₂) × (marks₁ ≡ marks₂)
draws_one s out marks out₁ marks₁ out₂ marks₂ a b x y = (same_result a b (x.answer ∙ sym y.answer), x.reports ∙ sym y.reports, x.marked ∙ sym y.marked)

-- ---- the whole accepted

-- what the i-th piece gives stands behind what those before it give
part : (f : List ℕ → List ℕ) (ss : List (List ℕ)) (i : ℕ) (rest : List ℕ) → i < length ss
    → bytes_from (length (joined f (take i ss))) (length (f (get_or ss i []))) (joined f ss ++ rest) ≡ f (get_or ss i [])
unfolding bytes_from joined
part f ss i rest b =
    ap (λ (l : List ℕ). take (length (f (get_or ss i []))) (drop (length (joined f (take i ss))) (l ++ rest))) parted
    ∙ ap (λ (l : List ℕ). take (length (f (get_or ss i []))) (drop (length (joined f (take i ss))) l)) (append_assoc (joined f (take i ss)) _ rest)
    ∙ ap (take (length (f (get_or ss i [])))) (drop-append_seam (joined f (take i ss)) _)
    ∙ ap (take (length (f (get_or ss i [])))) (append_assoc (f (get_or ss i [])) _ rest)
    ∙ take-append_seam (f (get_or ss i [])) _
  where
    parted : joined f ss ≡ joined f (take i ss) ++ (f (get_or ss i []) ++ joined f (drop (suc i) ss))
    parted = ap (joined f) (split_at ss i [] b) ∙ joined_append f (take i ss) (get_or ss i [] ∷ drop (suc i) ss)

-- an answer of 0 means that the drawer is cut to its end, and both buffers have their bytes
module _ (s out marks : List ℕ) where
  cut_accepted : (drawer_answer s out marks).number ≡ 0 → (ss : List (List ℕ)) × (pieces_of s ≡ into ss)
  unfolding drawer_answer answer_cut
  cut_accepted z = go (pieces_of s) refl (ltb longest_drawer (length s)) z
    where
      go : (p : Pieces) → pieces_of s ≡ p → (b : Bool) → (cond b (record { number = 19; place = 0 }) (answer_cut p (length out) (length marks))).number ≡ 0 → (ss : List (List ℕ)) × (pieces_of s ≡ into ss)
      go (into ss) e b n = (ss, e)
      go (fails at) e true n = absurd (omega arith)
      go (fails at) e false n = absurd (omega arith)

  -- and then both have what the pieces give
  given_all : (f : List ℕ → List ℕ) (ss : List (List ℕ)) → (drawer_answer s out marks).number ≡ 0 → pieces_of s ≡ into ss → given f (drawer_answer s out marks) (pieces_of s) ≡ joined f ss
  unfolding given
  given_all f ss z e = ap (given f (drawer_answer s out marks)) e ∙ rw (eq-eqb (drawer_answer s out marks).number 0 z)

-- ---- a piece alone

-- what report lays for an accepted piece
report_front : (p before after : List ℕ) (r : Answer) → Reports p before after r → r.number ≡ 0 → bytes_from 0 (length (report_of p)) after ≡ report_of p
unfolding bytes_from report_of report_answer report_buffer answer_with buffer_with report_with passes
report_front p before after r w z = go (outcome p) refl (ap (λ (a : Answer). a.number) w.answer) w.buffer
  where
    laid : (st : State) (b : Bool) → r.number ≡ (cond b passes (record { number = 11; place = needed st })).number → after ≡ cond b (report_bytes (form_of p) st ++ drop (needed st) before) before
        → take (length (report_bytes (form_of p) st)) after ≡ report_bytes (form_of p) st
    laid st true n e = ap (take (length (report_bytes (form_of p) st))) e ∙ take-append_seam (report_bytes (form_of p) st) (drop (needed st) before)
    laid st false n e = absurd (omega arith)

    go : (o : Outcome) → outcome p ≡ o → r.number ≡ (answer_with o (length before)).number → after ≡ buffer_with (form_of p) o before
        → take (length (report_with (form_of p) o)) after ≡ report_with (form_of p) o
    go (refused a) e n b = absurd (omega (arith, refusal_positive p a e))
    go (accepted st) e n b = laid st (leb (needed st) (length before)) n b

nothing_refused : (p : List ℕ) (r : Answer) → r ≡ check_answer p → (r.number ≡ 0 → ⊥) → length (report_of p) ≡ 0
unfolding report_of report_with check_answer check_with passes
nothing_refused p r e n = go (outcome p) (ap (λ (a : Answer). a.number) e)
  where
    go : (o : Outcome) → r.number ≡ (check_with o).number → length (report_with (form_of p) o) ≡ 0
    go (refused a) d = refl
    go (accepted st) d = absurd (n d)

mark_is : (p : List ℕ) (r : Answer) → r ≡ check_answer p → mark_of p ≡ r.number ∷ four_bytes r.place
unfolding mark_of
mark_is p r e = ap (λ (a : Answer). a.number ∷ four_bytes a.place) (sym e)

mark_here : (ss : List (List ℕ)) (i : ℕ) (rest : List ℕ) → i < length ss → bytes_from (5 * i) 5 (joined mark_of ss ++ rest) ≡ mark_of (get_or ss i [])
mark_here ss i rest b =
    let place : 5 * i ≡ length (joined mark_of (take i ss)) = omega (arith, length_marks (take i ss), length-take-le i ss (omega arith)) in
    ap (λ (at : ℕ). bytes_from at 5 (joined mark_of ss ++ rest)) place
    ∙ ap (λ (n : ℕ). bytes_from (length (joined mark_of (take i ss))) n (joined mark_of ss ++ rest)) (sym (length-mark (get_or ss i []))) ∙ part mark_of ss i rest b

-- "each exactly as if run alone"
pub each_alone : (s out marks out' marks' : List ℕ) (r : Answer) → Draws s out marks out' marks' r → r.number ≡ 0 → EachAlone s out' marks'
unfolding drawer_reports drawer_marks over
each_alone s out marks out' marks' r w z =
    record { pieces = c.0; cutting = cutting s c.0 c.1; alone = alone }
  where
    accepts : (drawer_answer s out marks).number ≡ 0
    accepts = ap (λ (a : Answer). a.number) (sym w.answer) ∙ z

    c : (ss : List (List ℕ)) × (pieces_of s ≡ into ss)
    c = cut_accepted s out marks accepts

    reports : out' ≡ joined report_of c.0 ++ drop (length (joined report_of c.0)) out
    reports = w.reports ∙ ap (λ (l : List ℕ). l ++ drop (length l) out) (given_all s out marks report_of c.0 accepts c.1)

    marked : marks' ≡ joined mark_of c.0 ++ drop (length (joined mark_of c.0)) marks
    marked = w.marked ∙ ap (λ (l : List ℕ). l ++ drop (length l) marks) (given_all s out marks mark_of c.0 accepts c.1)

    alone : (i : ℕ) → i < length c.0 → AsAlone c.0 out' marks' i (get_or c.0 i [])
    alone i b =
        record {
          report = λ before after q x y.
              ap (bytes_from (length (joined report_of (take i c.0))) (length (report_of (get_or c.0 i [])))) reports
              ∙ part report_of c.0 i _ b ∙ sym (report_front (get_or c.0 i []) before after q x y);
          nothing = λ q x y. nothing_refused (get_or c.0 i []) q x y;
          mark = λ q x. ap (bytes_from (5 * i) 5) marked ∙ mark_here c.0 i _ b ∙ mark_is (get_or c.0 i []) q x;
        }

-- ---- one recording

module _ (s : List ℕ) (st : State) (e : outcome s ≡ accepted st) where
  one : pieces_of s ≡ into (s ∷ [])
  unfolding outcome
  one = one_piece s (none_refused (head_refusal highest_shape s) 0 _ st e).0

  one_report : joined report_of (s ∷ []) ≡ report_bytes (form_of s) st
  unfolding joined report_of report_with
  one_report = append-nil (report_of s) ∙ ap (report_with (form_of s)) e

  one_mark : length (joined mark_of (s ∷ [])) ≡ 5
  one_mark = length_marks (s ∷ [])

  module _ (out marks : List ℕ) (room : 5 ≤ length marks) where
    -- a drawer of one true recording is answered as report answers it
    pub one_answer : drawer_answer s out marks ≡ report_answer s out
    unfolding drawer_answer answer_cut answer_within longest_drawer report_answer answer_with needed
    one_answer =
        rw (le-ltb 16777216 (length s) (omega (arith, (accepted_run s st e).0.short)), one, one_report, report_length (form_of s) st, e, le-ltb (length marks) (length (joined mark_of (s ∷ []))) (omega (arith, one_mark)))
        (go (ltb (length out) (9 + 20 * st.operations)) refl)
      where
        go : (b : Bool) → ltb (length out) (9 + 20 * st.operations) ≡ b
            → cond b (record { number = 11; place = 9 + 20 * st.operations }) passes ≡ cond (leb (9 + 20 * st.operations) (length out)) passes (record { number = 11; place = 9 + 20 * st.operations })
        go true d = rw (lt-leb (9 + 20 * st.operations) (length out) (ltb-true (length out) (9 + 20 * st.operations) d))
        go false d = rw (le-leb (9 + 20 * st.operations) (length out) (ltb-false (length out) (9 + 20 * st.operations) d))

    one_buffer : drawer_reports s out marks ≡ report_buffer s out
    unfolding drawer_reports report_buffer over given report_answer answer_with buffer_with needed passes
    one_buffer = rw (one_answer, one, one_report, e) (go (leb (9 + 20 * st.operations) (length out)))
      where
        bytes : List ℕ
        bytes = report_bytes (form_of s) st

        go : (b : Bool)
            → over (cond (eqb (cond b passes (record { number = 11; place = 9 + 20 * st.operations })).number 0) bytes []) out ≡ cond b (bytes ++ drop (9 + 20 * st.operations) out) out
        go true = ap (λ (n : ℕ). bytes ++ drop n out) (report_length (form_of s) st)
        go false = refl

    -- one true recording: the answer and out are those of report
    pub one_told : (out' marks' out'' : List ℕ) (a b : Answer) → Draws s out marks out' marks' a → Reports s out out'' b → (a ≡ b) × (out' ≡ out'')
    one_told out' marks' out'' a b x y = (x.answer ∙ one_answer ∙ sym y.answer, x.reports ∙ one_buffer ∙ sym y.buffer)

    pub one_recording : (out' marks' out'' : List ℕ) (r q : Result (Unit {0}) Refused) → Draws s out marks out' marks' (answer_of r) → Reports s out out'' (answer_of q) → (r ≡ q) × (out' ≡ out'')
    one_recording out' marks' out'' r q x y =
        let one = one_told out' marks' out'' (answer_of r) (answer_of q) x y in (same_result r q one.0, one.1)
