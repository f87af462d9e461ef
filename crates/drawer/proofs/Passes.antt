-- What the passes over a drawer know at each cut.
use Rattle.std.proofs.Common.{ℕ, ◌+◌, ◌-◌, ◌*◌, ◌≤◌, ◌<◌, ◌≡◌, ◌⊎◌, inl, inr, refl, sym, ap, ◌∙◌, subst, List, [], ◌∷◌, ◌++◌, length, take, drop, length-append, length-drop, zero-add, None, arith}
use mathlib.Core.Path.{subst⁻¹}
use lib.Seq.{drop-drop, get_or-drop}
use borrow.Author.Tests.{lt-leb}
use Rattle.recording.specs.Numbers.{number_at}
use Rattle.recording.proofs.Laws.{length-four_bytes}
use Rattle.meaning.specs.Drawer.{into, fails, size_at, found_at, pieces_of, report_of, mark_of, joined}
use Rattle.laying.specs.Lays.{Lays}
use Rattle.laying.proofs.Laid.{lays_none, lays_then, lays_as}
use Rattle.placing.specs.Placing.{Same}
use Rattle.placing.specs.declared.Ledger.{Ledger}
use Rattle.keeping.specs.Keeping.{lent_to, same_lent}
use Rattle.engine.specs.Ends.{RoomForAny}
use Rattle.std.specs.Prelude.{Result}
use Rattle.refusals.specs.declared.Refused.{Refused}
use Rattle.engine.specs.declared.Accepted.{Accepted}
use Rattle.drawer.specs.Cuts.{SizeAt, IsFirst, most_of, most_in, CutInto, Measures, bytes_by}
use Rattle.drawer.specs.Lending.{mark_by, LaysReport, RoomForAll, LaysAll}
use Rattle.drawer.proofs.Sizes.{size_found, size_broken}
use Rattle.drawer.proofs.Alone.{report_most, most_small}
use Rattle.drawer.proofs.Reached.{Reached, reached_none, reached_next, reached_end, reached_broken, reached_tail, fails_not, same_parts, joined_append, joined_next, most_append, most_next}

-- ---- what is left of a drawer

-- what is left behind some pieces
pub record Behind (s rest : List ℕ) (done : List (List ℕ)) : Type 0 where
  pub at : ℕ
  pub left : rest ≡ drop at s
  pub reached : Reached s at done

pub behind_none : (s : List ℕ) → Behind s s []
behind_none s = record { at = 0; left = refl; reached = reached_none s }

size_left : (s : List ℕ) (at : ℕ) → size_at (drop at s) 0 ≡ size_at s at
unfolding size_at number_at
size_left s at =
    let a : at + 1 + 1 ≡ at + 2 = omega arith in
    let b : at + 1 + 2 ≡ at + 3 = omega arith in
    let c : at + 1 + 3 ≡ at + 4 = omega arith in
    rw (get_or-drop at s 1 0, get_or-drop at s 2 0, get_or-drop at s 3 0, get_or-drop at s 4 0, a, b, c)

found_left : (s : List ℕ) (at : ℕ) → at < length s → found_at (drop at s) 0 ≡ found_at s at
unfolding found_at
found_left s at b =
    let same : length (drop at s) - 0 ≡ length s - at = omega (arith, length-drop at s) in
    rw (same, size_left s at, lt-leb (length (drop at s)) 0 (omega (arith, length-drop at s)), lt-leb (length s) at b)

module _ (s rest : List ℕ) (done : List (List ℕ)) (B : Behind s rest done) where
  pub behind_length : length rest + B.at ≡ length s
  behind_length = omega (arith, ap length B.left, length-drop B.at s, B.reached.within)

  pub behind_next : (piece after : List ℕ) → IsFirst rest piece after → Behind s after (done ++ (piece ∷ []))
  behind_next piece after w =
      let f = size_found w.size in
      let n = length piece in
      let here : B.at < length s = omega (arith, behind_length, f.1, f.2) in
      let same : piece ≡ take n (drop B.at s) = w.parted.1 ∙ ap (take n) B.left in
      record {
        at = B.at + n;
        left = w.parted.2 ∙ ap (drop n) B.left ∙ drop-drop n B.at s;
        reached = subst⁻¹ (λ (x : List ℕ). Reached s (B.at + n) (done ++ (x ∷ []))) same
            (reached_next s B.at done B.reached n here (sym (found_left s B.at here) ∙ ap (λ (x : List ℕ). found_at x 0) (sym B.left) ∙ f.0) f.1 (omega (arith, behind_length, f.2)));
      }

  pub behind_end : length rest ≡ 0 → pieces_of s ≡ into done
  behind_end z = reached_end s B.at done B.reached (omega (arith, behind_length))

  pub behind_broken : 0 < length rest → SizeAt rest 0 None → pieces_of s ≡ fails (length s - length rest)
  behind_broken b w =
      let here : B.at < length s = omega (arith, behind_length) in
      let place : B.at ≡ length s - length rest = omega (arith, behind_length) in
      reached_broken s B.at done B.reached here (sym (found_left s B.at here) ∙ ap (λ (x : List ℕ). found_at x 0) (sym B.left) ∙ size_broken w) ∙ ap fails place

  pub behind_tail : (ss : List (List ℕ)) → pieces_of s ≡ into ss → (tail : List (List ℕ)) × (ss ≡ done ++ tail)
  behind_tail = reached_tail s B.at done B.reached

  -- a drawer that is cut to its end is left off nowhere else
  pub behind_all : (ss : List (List ℕ)) → pieces_of s ≡ into ss → (rest ≡ [] ⊎ SizeAt rest 0 None) → pieces_of s ≡ into done
  behind_all ss e (inl z) = behind_end (ap length z)
  behind_all ss e (inr w) = go rest refl
    where
      go : (l : List ℕ) → rest ≡ l → pieces_of s ≡ into done
      go [] z = behind_end (ap length z)
      go (x ∷ l) z = absurd (fails_not s _ ss (behind_broken (omega (arith, ap length z)) w) e)

-- ---- the first pass

pub record CutTo (s rest : List ℕ) (pieces most : ℕ) : Type 0 where
  pub done : List (List ℕ)
  pub behind : Behind s rest done
  pub number : pieces ≡ length done
  pub bytes : most ≡ most_in done
  pub few : 5 * pieces + length rest ≤ length s
  pub small : most + 7 * length rest ≤ 7 * length s

pub cut_none : (s : List ℕ) → CutTo s s 0 0
unfolding most_in
cut_none s = record { done = []; behind = behind_none s; number = refl; bytes = refl; few = omega arith; small = omega arith }

pub cut_next : (s rest piece after : List ℕ) (pieces most more : ℕ) → CutTo s rest pieces most → IsFirst rest piece after → more ≡ most_of (length piece) → CutTo s after (pieces + 1) (most + more)
cut_next s rest piece after pieces most more C w e =
    record {
      done = C.done ++ (piece ∷ []);
      behind = behind_next s rest C.done C.behind piece after w;
      number = simp length-append (omega (arith, C.number));
      bytes = omega (arith, C.bytes, most_next C.done piece);
      few = omega (arith, C.few, (size_found w.size).1, w.parted.4);
      small = omega (arith, C.small, most_small (length piece), w.parted.4);
    }

pub cut_into : (s rest : List ℕ) (pieces most : ℕ) → CutTo s rest pieces most → length rest ≡ 0 → CutInto s pieces most
cut_into s rest pieces most C z =
    record {
      parts = C.done;
      cut = behind_end s rest C.done C.behind z;
      number = C.number;
      bytes = C.bytes;
      few = omega (arith, C.few);
      small = omega (arith, C.small);
    }

pub cut_broken : (s rest : List ℕ) (pieces most : ℕ) → CutTo s rest pieces most → 0 < length rest → (rest ≡ [] ⊎ SizeAt rest 0 None) → pieces_of s ≡ fails (length s - length rest)
cut_broken s rest pieces most C b (inl z) = absurd (omega (arith, ap length z))
cut_broken s rest pieces most C b (inr w) = behind_broken s rest C.done C.behind b w

-- ---- the pass that measures

pub record MeasuredTo (s rest : List ℕ) (most need : ℕ) : Type 0 where
  pub done : List (List ℕ)
  pub behind : Behind s rest done
  pub known : need + most_in done ≡ most + length (joined report_of done)

pub measured_none : (s : List ℕ) (most : ℕ) → MeasuredTo s s most most
unfolding most_in joined
measured_none s most = record { done = []; behind = behind_none s; known = refl }

joined_most : (ps : List (List ℕ)) → length (joined report_of ps) ≤ most_in ps
unfolding joined most_in
joined_most [] = omega arith
joined_most (p ∷ ps) = omega (arith, length-append (report_of p) (joined report_of ps), report_most p, joined_most ps)

module _ (s rest : List ℕ) (pieces most need : ℕ) (M : MeasuredTo s rest most need) (C : CutInto s pieces most) where
  -- what is not yet run counts with its most
  rest_counts : (tail : List (List ℕ)) → C.parts ≡ M.done ++ tail → need ≡ length (joined report_of M.done) + most_in tail
  rest_counts tail e = omega (arith, M.known, C.bytes, ap most_in e, most_append M.done tail)

  module _ (piece after : List ℕ) (w : IsFirst rest piece after) where
    next_behind : Behind s after (M.done ++ (piece ∷ []))
    next_behind = behind_next s rest M.done M.behind piece after w

    pub most_counts : most_of (length piece) ≤ need
    most_counts =
        let t = behind_tail s after _ next_behind C.parts C.cut in
        omega (arith, M.known, C.bytes, ap most_in t.1, most_append (M.done ++ (piece ∷ [])) t.0, most_next M.done piece)

    pub measured_next : (more bytes need' : ℕ) → more ≡ most_of (length piece) → bytes ≡ length (report_of piece) → need' ≡ need - more + bytes → MeasuredTo s after most need'
    measured_next more bytes need' e d sum =
        record {
          done = M.done ++ (piece ∷ []);
          behind = next_behind;
          known = omega (arith, M.known, most_counts, most_next M.done piece, ap length (joined_next report_of M.done piece), length-append (joined report_of M.done) (report_of piece));
        }

  pub need_small : need ≤ 7 * length s
  need_small = let t = behind_tail s rest M.done M.behind C.parts C.cut in omega (arith, M.known, joined_most M.done, C.small)

  -- enough by what is known
  pub measured_fits : (room : ℕ) → need ≤ room → Measures s room need
  measured_fits room b =
      record {
        fits = λ ss e l.
            let t = behind_tail s rest M.done M.behind ss e in
            omega
            (arith, rest_counts t.0 (same_parts C.parts ss C.cut e ∙ t.1), ap (λ (x : List (List ℕ)). length (joined report_of x)) t.1, ap length (joined_append report_of M.done t.0), length-append (joined report_of M.done) (joined report_of t.0), joined_most t.0);
        exact = λ ss e l. absurd (omega arith);
        small = need_small;
      }

  -- every piece was run
  pub measured_all : (room : ℕ) → (rest ≡ [] ⊎ SizeAt rest 0 None) → Measures s room need
  unfolding most_in
  measured_all room b =
      let all : (ss : List (List ℕ)) → pieces_of s ≡ into ss → need ≡ length (joined report_of ss) = λ ss e.
      let mine = behind_all s rest M.done M.behind ss e b in
      omega (arith, M.known, C.bytes, ap most_in (same_parts C.parts M.done C.cut mine), ap (λ (x : List (List ℕ)). length (joined report_of x)) (same_parts M.done ss mine e)) in
      record { fits = λ ss e l. omega (arith, all ss e); exact = λ ss e l. all ss e; small = need_small }

-- ---- the pass that lays

pub length-mark : (p : List ℕ) → length (mark_of p) ≡ 5
unfolding mark_of
length-mark p = simp length-four_bytes refl

pub record LaidTo (s out marks rest out' marks' : List ℕ) (laid marked : ℕ) : Type 0 where
  pub done : List (List ℕ)
  pub behind : Behind s rest done
  pub reports_laid : Lays out 0 (joined report_of done) out' laid
  pub marks_laid : Lays marks 0 (joined mark_of done) marks' marked

pub laid_none : (s out marks : List ℕ) → LaidTo s out marks s out marks 0 0
unfolding joined
laid_none s out marks = record { done = []; behind = behind_none s; reports_laid = lays_none out 0; marks_laid = lays_none marks 0 }

module _ (s out marks rest out' marks' : List ℕ) (laid marked : ℕ) (L : LaidTo s out marks rest out' marks' laid marked) (C : RoomForAll s out marks) where
  module _ (p after : List ℕ) (w : IsFirst rest p after) where
    one_more : Behind s after (L.done ++ (p ∷ []))
    one_more = behind_next s rest L.done L.behind p after w

    -- what is laid and the piece's are part of the whole
    part_of : (f : List ℕ → List ℕ) → length (joined f L.done) + length (f p) ≤ length (joined f C.parts)
    part_of f =
        let t = behind_tail s after _ one_more C.parts C.cut in
        omega
        (arith, ap (λ (x : List (List ℕ)). length (joined f x)) t.1, ap length (joined_append f (L.done ++ (p ∷ [])) t.0), length-append (joined f (L.done ++ (p ∷ []))) (joined f t.0), ap length (joined_next f L.done p), length-append (joined f L.done) (f p))

    pub room_report : laid + length (report_of p) ≤ length out'
    room_report = omega (arith, part_of report_of, L.reports_laid.place, L.reports_laid.same, C.for_reports)

    pub room_mark : marked + 5 ≤ length marks'
    room_mark = omega (arith, part_of mark_of, length-mark p, L.marks_laid.place, L.marks_laid.same, C.for_marks)

    pub laid_next : (out'' marks'' : List ℕ) (e : Result Accepted Refused) (bytes : ℕ) → LaysReport p out' laid out'' e → Lays marks' marked (mark_by e) marks'' (marked + 5) → bytes ≡ bytes_by e
        → LaidTo s out marks after out'' marks'' (laid + bytes) (marked + 5)
    laid_next out'' marks'' e bytes r m d =
        record {
          done = L.done ++ (p ∷ []);
          behind = one_more;
          reports_laid = lays_as (sym (joined_next report_of L.done p)) (lays_then L.reports_laid (subst⁻¹ (λ (k : ℕ). Lays out' laid (report_of p) out'' (laid + k)) d r.laid));
          marks_laid = lays_as (sym (joined_next mark_of L.done p)) (lays_then L.marks_laid (lays_as r.mark m));
        }

  pub laid_all : (rest ≡ [] ⊎ SizeAt rest 0 None) → LaysAll s out marks out' marks'
  laid_all b =
      record {
        parts = L.done;
        cut = behind_all s rest L.done L.behind C.parts C.cut b;
        reports_laid = subst (Lays out 0 (joined report_of L.done) out') (L.reports_laid.place ∙ zero-add _) L.reports_laid;
        marks_laid = subst (Lays marks 0 (joined mark_of L.done) marks') (L.marks_laid.place ∙ zero-add _) L.marks_laid;
      }

-- room for any recording stays where as much is lent
pub room_still : (l l' : Ledger) → Same l l' → RoomForAny (lent_to l) → RoomForAny (lent_to l')
room_still l l' same room = subst RoomForAny (sym (same_lent l l' same)) room
