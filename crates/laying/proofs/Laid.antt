-- Bytes laid one after another are laid together.
use Prim.Native.Nat.{ℕ, ◌+◌, ◌≤◌, ◌<◌}
use native.Mathlib.Omega.{arith}
use native.Mathlib.Numerals.{add-one}
use mathlib.Core.Path.{◌≡◌, refl, sym, ap, ◌∙◌, subst}
use mathlib.Core.List.{List, [], ◌∷◌, ◌++◌, append_assoc, append-nil}
use lib.ListN.{length, get_or, take, drop, set, length-append, length-set, length-drop, take-append-drop}
use lib.Seq.{take-suc, take-suc-set, drop-set-lt, drop-drop, drop-append-le, length-take-le, take_at, drop_at}
use Rattle.laying.specs.Lays.{Lays}

pub lays_none : (l : List ℕ) (at : ℕ) → Lays l at [] l at
lays_none l at = record { place = omega arith; front = sym (append-nil (take at l)); rest = refl; same = refl }

pub lays_byte : (l : List ℕ) (at x : ℕ) → at < length l → Lays l at (x ∷ []) (set l at x) (at + 1)
lays_byte l at x room =
    record {
      place = refl;
      front = rw add-one (take-suc-set l at x room);
      rest = drop-set-lt (at + 1) l at x (omega arith);
      same = length-set l at x;
    }

-- bytes put in place of as many from a place on
pub lays_at : (l : List ℕ) (at n : ℕ) (bytes : List ℕ) → length bytes ≡ n → at + n ≤ length l → Lays l at bytes (take at l ++ bytes ++ drop (at + n) l) (at + n)
lays_at l at n bytes e room =
    let front : length (take at l ++ bytes) ≡ at + n = simp (length-append, length-take-le at l (omega arith), e) in
    record {
      place = omega arith;
      front = take_at (take at l ++ bytes) (drop (at + n) l) (at + n) front;
      rest = drop_at (take at l ++ bytes) (drop (at + n) l) (at + n) front;
      same = length-append (take at l ++ bytes) (drop (at + n) l) ∙ simp (front, length-drop) (omega arith);
    }

-- the same at the front of the k bytes that are lent from a place on
pub lays_lent : (l : List ℕ) (at n k : ℕ) (bytes part : List ℕ) → length bytes ≡ n → n ≤ k → at + k ≤ length l → part ≡ bytes ++ drop n (take k (drop at l))
    → Lays l at bytes (take at l ++ (part ++ drop k (drop at l))) (at + n)
lays_lent l at n k bytes part e fits room laid =
    subst (λ (x : List ℕ). Lays l at bytes x (at + n)) (append_assoc (take at l) bytes (drop (at + n) l) ∙ ap (λ (x : List ℕ). take at l ++ x) (sym rest)) (lays_at l at n bytes e (omega arith))
  where
    long : length (take k (drop at l)) ≡ k
    long = length-take-le k (drop at l) (simp length-drop (omega arith))

    rest : part ++ drop k (drop at l) ≡ bytes ++ drop (at + n) l
    rest =
        let inside : n ≤ length (take k (drop at l)) = omega (arith, long) in
        rw (laid, append_assoc, ← drop-append-le n (take k (drop at l)) (drop k (drop at l)) inside, take-append-drop, drop-drop)

pub lays_then : {l l' l'' : List ℕ} {at n n' : ℕ} {a b : List ℕ} → Lays l at a l' n → Lays l' n b l'' n' → Lays l at (a ++ b) l'' n'
lays_then {l} {l'} {l''} {at} {n} {n'} {a} {b} x y =
    record {
      place = omega (arith, x.place, y.place, length-append a b);
      front = y.front ∙ ap (λ (k : List ℕ). k ++ b) x.front ∙ append_assoc (take at l) a b;
      rest = y.rest ∙ ap (λ (k : ℕ). drop k l') y.place ∙ sym (drop-drop (length b) n l') ∙ ap (drop (length b)) x.rest
          ∙ drop-drop (length b) n l ∙ ap (λ (k : ℕ). drop k l) (sym y.place);
      same = y.same ∙ x.same;
    }

pub lays_as : {l l' : List ℕ} {at n : ℕ} {a b : List ℕ} → a ≡ b → Lays l at a l' n → Lays l at b l' n
lays_as {l} {l'} {at} {n} e x = subst (λ (k : List ℕ). Lays l at k l' n) e x

-- what is laid at the front of a buffer settles every byte of it
pub lays_all : {l l' : List ℕ} {n : ℕ} {a : List ℕ} → Lays l 0 a l' n → l' ≡ a ++ drop n l
lays_all {l} {l'} {n} {a} x = sym (take-append-drop n l') ∙ ap (λ (k : List ℕ). k ++ drop n l') x.front ∙ ap (λ (k : List ℕ). a ++ k) x.rest

-- one byte more of a list
pub lays_more : {l l' l'' : List ℕ} {at n n' : ℕ} (w : List ℕ) (j : ℕ) → j < length w → Lays l at (take j w) l' n → Lays l' n (get_or w j 0 ∷ []) l'' n'
    → Lays l at (take (j + 1) w) l'' n'
lays_more w j inside x y = lays_as (rw add-one (sym (take-suc w j 0 inside))) (lays_then x y)
