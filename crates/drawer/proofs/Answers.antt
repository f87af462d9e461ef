-- From the passes to what drawer answers and leaves in the two buffers.
use Prim.Native.Nat.{ℕ, ◌*◌, ◌≤◌, ◌<◌}
use native.Mathlib.Omega.{arith}
use mathlib.Core.Path.{◌≡◌, refl, sym, ap, ◌∙◌}
use mathlib.Core.List.{List, [], ◌∷◌, ◌++◌}
use lib.ListN.{length, drop, length-append}
use borrow.Author.Tests.{lt-ltb, le-ltb, ne_eqb}
use Rattle.recording.specs.Record.{Answer}
use Rattle.meaning.specs.Report.{passes}
use Rattle.meaning.specs.Drawer.{Pieces, into, fails, pieces_of, report_of, mark_of, joined, longest_drawer, answer_within, answer_cut, drawer_answer, over, given, drawer_reports, drawer_marks}
use Rattle.meaning.proofs.Drawers.{above, above_unwritten}
use Rattle.laying.proofs.Laid.{lays_all}
use Rattle.drawer.specs.Cuts.{Measures}
use Rattle.drawer.specs.Lending.{LaysAll}
use Rattle.drawer.specs.Draws.{Draws}
use Rattle.drawer.proofs.Passes.{length-mark}

pub length_marks : (ss : List (List ℕ)) → length (joined mark_of ss) ≡ 5 * length ss
unfolding joined
length_marks [] = refl
length_marks (s ∷ ss) = omega (arith, length-append (mark_of s) (joined mark_of ss), length-mark s, length_marks ss)

-- ---- the refusals

nothing_given : (f : List ℕ → List ℕ) (a : Answer) (p : Pieces) → (a.number ≡ 0 → ⊥) → given f a p ≡ []
unfolding given
nothing_given f a (fails at) n = refl
nothing_given f a (into ss) n = rw (ne_eqb a.number 0 n)

module _ (s out marks : List ℕ) where
  -- a refusal writes nothing
  refuses : (a r : Answer) → drawer_answer s out marks ≡ a → (a.number ≡ 0 → ⊥) → r ≡ a → Draws s out marks out marks r
  unfolding drawer_reports drawer_marks over
  refuses a r e n d =
      record {
        answer = d ∙ sym e;
        reports = sym (ap (λ (x : List ℕ). x ++ drop (length x) out) (nothing report_of));
        marked = sym (ap (λ (x : List ℕ). x ++ drop (length x) marks) (nothing mark_of));
      }
    where
      nothing : (f : List ℕ → List ℕ) → given f (drawer_answer s out marks) (pieces_of s) ≡ []
      nothing f = ap (λ (x : Answer). given f x (pieces_of s)) e ∙ nothing_given f a (pieces_of s) n

  pub too_long_lem : 16777216 < length s → Draws s out marks out marks (record { number = 19; place = 0 })
  too_long_lem b = let w = above_unwritten s out marks b in record { answer = sym (above s out marks b); reports = sym w.0; marked = sym w.1 }

  module _ (short : length s ≤ 16777216) where
    by_cut : drawer_answer s out marks ≡ answer_cut (pieces_of s) (length out) (length marks)
    unfolding drawer_answer longest_drawer
    by_cut = rw (le-ltb 16777216 (length s) short)

    pub not_cut : (number at : ℕ) → number ≡ 12 → pieces_of s ≡ fails at → Draws s out marks out marks (record { number = number; place = at })
    unfolding answer_cut
    not_cut number at twelve e =
        refuses (record { number = 12; place = at }) _ (by_cut ∙ ap (λ (p : Pieces). answer_cut p (length out) (length marks)) e) (λ z. omega arith)
        (ap (λ (n : ℕ). record { number = n; place = at }) twelve)

    module _ (ss : List (List ℕ)) (whole : pieces_of s ≡ into ss) where
      within : drawer_answer s out marks ≡ answer_within ss (length out) (length marks)
      unfolding answer_cut
      within = by_cut ∙ ap (λ (p : Pieces). answer_cut p (length out) (length marks)) whole

      pub no_room : (need : ℕ) → Measures s (length out) need → length out < need → Draws s out marks out marks (record { number = 11; place = need })
      unfolding answer_within
      no_room need m b =
          let exact : need ≡ length (joined report_of ss) = m.exact ss whole b in
          refuses (record { number = 11; place = length (joined report_of ss) }) _
          (within ∙ rw (lt-ltb (length out) (length (joined report_of ss)) (omega arith))) (λ z. omega arith) (ap (λ (n : ℕ). record { number = 11; place = n }) exact)

      module _ (room : length (joined report_of ss) ≤ length out) where
        pub no_room_marks : (n : ℕ) → n ≡ length ss → length marks < 5 * n → Draws s out marks out marks (record { number = 11; place = 5 * n })
        unfolding answer_within
        no_room_marks n e b =
            refuses (record { number = 11; place = length (joined mark_of ss) }) _
            (within ∙ rw (le-ltb (length out) (length (joined report_of ss)) room, lt-ltb (length marks) (length (joined mark_of ss)) (omega (arith, length_marks ss)))) (λ z. omega arith)
            (ap (λ (k : ℕ). record { number = 11; place = k }) (omega (arith, length_marks ss)))

        -- ---- acceptance

        pub all_laid : (out' marks' : List ℕ) → length (joined mark_of ss) ≤ length marks → LaysAll s out marks out' marks' → Draws s out marks out' marks' passes
        unfolding answer_within drawer_reports drawer_marks over given passes
        all_laid out' marks' also-room l =
            record {
              answer = sym accepted;
              reports = lays_all l.reports_laid ∙ ap (λ (x : List ℕ). x ++ drop (length x) out) (laid report_of);
              marked = lays_all l.marks_laid ∙ ap (λ (x : List ℕ). x ++ drop (length x) marks) (laid mark_of);
            }
          where
            accepted : drawer_answer s out marks ≡ passes
            accepted = within ∙ rw (le-ltb (length out) (length (joined report_of ss)) room, le-ltb (length marks) (length (joined mark_of ss)) also-room)

            laid : (f : List ℕ → List ℕ) → joined f l.parts ≡ given f (drawer_answer s out marks) (pieces_of s)
            laid f = sym (ap (λ (x : Answer). given f x (pieces_of s)) accepted ∙ ap (given f passes) l.cut)
