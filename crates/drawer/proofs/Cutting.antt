-- The pieces of a drawer that is cut to its end make it up, and each has the bytes that its L says.
use Prim.Native.Nat.{ℕ, zero, suc, ◌+◌, ◌-◌, ◌≤◌, ◌<◌}
use native.Mathlib.Omega.{arith}
use mathlib.Core.Path.{◌≡◌, refl, sym, ap, ◌∙◌, subst, subst⁻¹}
use mathlib.Core.Bool.{Bool, true, false, cond, ◌||◌}
use mathlib.Core.List.{List, [], ◌∷◌, ◌++◌}
use lib.ListN.{length, get_or, take, drop, take-append-drop, drop_of_length-le}
use lib.Seq.{drop-drop, get_or-take, get_or-drop, take_all}
use lib.Dec.{leb, ltb}
use borrow.Author.Tests.{leb-true, leb-false, ltb-false, le-leb, lt-leb, le-ltb}
use Rattle.recording.specs.Numbers.{number_at}
use Rattle.meaning.specs.Shape.{highest_shape}
use Rattle.meaning.specs.Layout.{follows, head_refusal}
use Rattle.meaning.specs.Drawer.{Found, none, whole, broken, Pieces, into, fails, size_at, found_at, also, onward, pieces_from, pieces_of, joined}
use Rattle.history.proofs.Passing.{header_passes}
use Rattle.drawer.specs.AsAlone.{Cutting}
use Rattle.drawer.proofs.Reached.{same_parts, piece_length}

-- ---- what a cut finds

-- by the cases of the cut
found_cases : (s : List ℕ) (at : ℕ) (P : Found → Type 0) → (length s ≤ at → P none) → (at < length s → at + size_at s at ≤ length s → P (whole (size_at s at))) → P broken → P (found_at s at)
unfolding found_at
found_cases s at P none' whole' broken' = go (leb (length s) at) (ltb (length s - at) 5) (ltb (length s - at) (size_at s at)) refl refl
  where
    go : (a b c : Bool) → leb (length s) at ≡ a → ltb (length s - at) (size_at s at) ≡ c → P (cond a none (cond (b || c) broken (whole (size_at s at))))
    go true b c d e = none' (leb-true (length s) at d)
    go false true c d e = broken'
    go false false true d e = broken'
    go false false false d e =
        whole' (leb-false (length s) at d) (omega (arith, leb-false (length s) at d, ltb-false (length s - at) (size_at s at) e))

-- ---- the pieces one by one

-- what holds of the pieces from a place on
record Makes (s : List ℕ) (at : ℕ) (ss : List (List ℕ)) : Type 0 where
  pub all : joined (λ p. p) ss ≡ drop at s
  pub each : (i : ℕ) → i < length ss → length (get_or ss i []) ≡ 5 + follows (get_or ss i [])

makes_none : (s : List ℕ) (at : ℕ) → length s ≤ at → Makes s at []
unfolding joined
makes_none s at b = record { all = sym (drop_of_length-le s b); each = λ i h. absurd (omega arith) }

-- L as it stands in the piece
l_inside : (s : List ℕ) (at n : ℕ) → 5 ≤ n → follows (take n (drop at s)) ≡ number_at s (at + 1)
unfolding follows number_at
l_inside s at n five =
    let one = get_or-take n (drop at s) 1 0 (omega arith) ∙ get_or-drop at s 1 0 in
    let two = get_or-take n (drop at s) 2 0 (omega arith) ∙ get_or-drop at s 2 0 in
    let three = get_or-take n (drop at s) 3 0 (omega arith) ∙ get_or-drop at s 3 0 in
    let four = get_or-take n (drop at s) 4 0 (omega arith) ∙ get_or-drop at s 4 0 in
    let a : at + 1 + 1 ≡ at + 2 = omega arith in
    let b : at + 1 + 2 ≡ at + 3 = omega arith in
    let c : at + 1 + 3 ≡ at + 4 = omega arith in
    rw (a, b, c, one, two, three, four)

makes_next : (s : List ℕ) (at : ℕ) (ss : List (List ℕ)) → at + size_at s at ≤ length s → Makes s (at + size_at s at) ss → Makes s at (take (size_at s at) (drop at s) ∷ ss)
unfolding joined size_at
makes_next s at ss b m =
    record {
      all = ap (λ (l : List ℕ). take (5 + number_at s (at + 1)) (drop at s) ++ l) (m.all ∙ sym (drop-drop (5 + number_at s (at + 1)) at s)) ∙ take-append-drop (5 + number_at s (at + 1)) (drop at s);
      each = first;
    }
  where
    first : (i : ℕ) → i < suc (length ss) → length (get_or (take (5 + number_at s (at + 1)) (drop at s) ∷ ss) i []) ≡ 5 + follows (get_or (take (5 + number_at s (at + 1)) (drop at s) ∷ ss) i [])
    first zero h = piece_length s at (5 + number_at s (at + 1)) b ∙ ap (λ (n : ℕ). 5 + n) (sym (l_inside s at (5 + number_at s (at + 1)) (omega arith)))
    first (suc i) h = m.each i (omega arith)

-- a piece has five bytes at least
least : (s : List ℕ) (at : ℕ) → 5 ≤ size_at s at
unfolding size_at
least s at = omega arith

-- what `also` made
also_into : (p : List ℕ) (x : Pieces) (ss : List (List ℕ)) → also p x ≡ into ss → (tt : List (List ℕ)) × (x ≡ into tt) × (ss ≡ p ∷ tt)
unfolding also
also_into p (into tt) ss e = (tt, refl, sym (same_parts (p ∷ tt) ss refl e))
also_into p (fails at) ss e = let z : ◌≡◌ {A = ℕ} 0 1 = cc in absurd (omega arith)

makes : (most : ℕ) (s : List ℕ) (at : ℕ) (ss : List (List ℕ)) → length s ≤ most + at → at ≤ length s → pieces_from most s at ≡ into ss → Makes s at ss
unfolding pieces_from onward
makes zero s at ss enough inside e = subst (Makes s at) (same_parts [] ss refl e) (makes_none s at (omega arith))
makes (suc most) s at ss enough inside e =
    found_cases s at (λ (f : Found). onward s at f (pieces_from most s) ≡ into ss → Makes s at ss) ended
    (λ a b. next b (λ tt x. makes most s (at + size_at s at) tt (omega (arith, least s at)) b x))
    failed e
  where
    ended : length s ≤ at → into [] ≡ into ss → Makes s at ss
    ended b d = subst (Makes s at) (same_parts [] ss refl d) (makes_none s at b)

    next : at + size_at s at ≤ length s → ((tt : List (List ℕ)) → pieces_from most s (at + size_at s at) ≡ into tt → Makes s (at + size_at s at) tt)
        → also (take (size_at s at) (drop at s)) (pieces_from most s (at + size_at s at)) ≡ into ss → Makes s at ss
    next b rest d = let t = also_into _ _ ss d in subst⁻¹ (Makes s at) t.2 (makes_next s at t.0 b (rest t.0 t.1))

    failed : fails at ≡ into ss → Makes s at ss
    failed d = let z : ◌≡◌ {A = ℕ} 0 1 = cc in absurd (omega arith)

pub cutting : (s : List ℕ) (ss : List (List ℕ)) → pieces_of s ≡ into ss → Cutting s ss
unfolding pieces_of
cutting s ss e = let m = makes (length s) s 0 ss (omega arith) (omega arith) e in record { cut = e; whole = m.all; each = m.each }

-- ---- a recording whose header passes is a drawer of one piece

pub one_piece : (s : List ℕ) → head_refusal highest_shape s ≡ 0 → pieces_of s ≡ into (s ∷ [])
unfolding pieces_of pieces_from onward also found_at size_at follows
one_piece s z = go (length s) refl
  where
    go : (n : ℕ) → length s ≡ n → pieces_from n s 0 ≡ into (s ∷ [])
    go zero d = absurd (omega (arith, (header_passes highest_shape s z).enough))
    go (suc n) d = first n
      where
        size : size_at s 0 ≡ length s
        size = omega (arith, (header_passes highest_shape s z).right, (header_passes highest_shape s z).enough)

        found : found_at s 0 ≡ whole (length s)
        found = rw (lt-leb (length s) 0 (omega (arith, (header_passes highest_shape s z).enough)), size, le-ltb (length s - 0) 5 (omega (arith, (header_passes highest_shape s z).enough)), le-ltb (length s - 0) (length s) (omega arith))

        rest : (m : ℕ) → pieces_from m s (0 + length s) ≡ into []
        rest zero = refl
        rest (suc m) = rw (le-leb (length s) (0 + length s) (omega arith))

        first : (m : ℕ) → pieces_from (suc m) s 0 ≡ into (s ∷ [])
        first m = rw (found, rest m, take_all (length s) (drop 0 s) (omega arith))
