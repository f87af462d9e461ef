-- How far a drawer is cut: the pieces before a place, such that the cut from there on makes up the whole cut.
use Prim.Native.Nat.{ℕ, zero, suc, ◌+◌, ◌≤◌, ◌<◌}
use native.Mathlib.Omega.{arith}
use mathlib.Core.Path.{◌≡◌, refl, sym, ap, ◌∙◌}
use mathlib.Core.List.{List, [], ◌∷◌, ◌++◌, append_assoc, append-nil}
use lib.ListN.{length, take, drop, length-drop}
use lib.Seq.{length-take-le}
use borrow.Author.Tests.{le-leb}
use Rattle.meaning.specs.Drawer.{whole, broken, Pieces, into, fails, found_at, also, onward, pieces_from, pieces_of, joined}
use Rattle.drawer.specs.Cuts.{most_of, most_in}

-- pieces put before what the rest is cut into
unfoldable pub before : List (List ℕ) → Pieces → Pieces
before [] x = x
before (p ∷ ps) x = also p (before ps x)

before_into : (ps ss : List (List ℕ)) → before ps (into ss) ≡ into (ps ++ ss)
unfolding before also
before_into [] ss = refl
before_into (p ∷ ps) ss = rw (before_into ps ss)

before_fails : (ps : List (List ℕ)) (at : ℕ) → before ps (fails at) ≡ fails at
unfolding before also
before_fails [] at = refl
before_fails (p ∷ ps) at = rw (before_fails ps at)

before_also : (ps : List (List ℕ)) (p : List ℕ) (x : Pieces) → before ps (also p x) ≡ before (ps ++ (p ∷ [])) x
unfolding before
before_also [] p x = refl
before_also (q ∷ ps) p x = ap (also q) (before_also ps p x)

pub record Reached (s : List ℕ) (at : ℕ) (done : List (List ℕ)) : Type 0 where
  pub most : ℕ
  pub rest : before done (pieces_from most s at) ≡ pieces_of s
  pub enough : length s ≤ most + at
  pub within : at ≤ length s

pub reached_none : (s : List ℕ) → Reached s 0 []
unfolding pieces_of before
reached_none s = record { most = length s; rest = refl; enough = omega arith; within = omega arith }

-- where bytes are left, a cut at least is left
left : (s : List ℕ) (at : ℕ) (done : List (List ℕ)) (R : Reached s at done) → at < length s → (f : ℕ) × (R.most ≡ suc f)
left s at done R b = go R.most refl
  where
    go : (n : ℕ) → R.most ≡ n → (f : ℕ) × (R.most ≡ suc f)
    go zero d = absurd (omega (arith, R.enough))
    go (suc f) d = (f, d)

pieces_next : (most : ℕ) (s : List ℕ) (at n : ℕ) → found_at s at ≡ whole n → pieces_from (suc most) s at ≡ also (take n (drop at s)) (pieces_from most s (at + n))
unfolding pieces_from onward
pieces_next most s at n e = rw e

pieces_broken : (most : ℕ) (s : List ℕ) (at : ℕ) → found_at s at ≡ broken → pieces_from (suc most) s at ≡ fails at
unfolding pieces_from onward
pieces_broken most s at e = rw e

pieces_end : (most : ℕ) (s : List ℕ) (at : ℕ) → length s ≤ at → pieces_from most s at ≡ into []
unfolding pieces_from onward found_at
pieces_end zero s at b = refl
pieces_end (suc most) s at b = rw (le-leb (length s) at b)

module _ (s : List ℕ) (at : ℕ) (done : List (List ℕ)) (R : Reached s at done) where
  pub reached_next : (n : ℕ) → at < length s → found_at s at ≡ whole n → 5 ≤ n → at + n ≤ length s → Reached s (at + n) (done ++ (take n (drop at s) ∷ []))
  reached_next n b e five inside =
      let f = left s at done R b in
      record {
        most = f.0;
        rest = sym (before_also done _ _) ∙ ap (before done) (sym (pieces_next f.0 s at n e)) ∙ ap (λ (m : ℕ). before done (pieces_from m s at)) (sym f.1) ∙ R.rest;
        enough = omega (arith, R.enough, f.1);
        within = inside;
      }

  pub reached_end : length s ≤ at → pieces_of s ≡ into done
  reached_end b = sym R.rest ∙ ap (before done) (pieces_end R.most s at b) ∙ before_into done [] ∙ ap into (append-nil done)

  pub reached_broken : at < length s → found_at s at ≡ broken → pieces_of s ≡ fails at
  reached_broken b e =
      let f = left s at done R b in
      sym R.rest ∙ ap (λ (m : ℕ). before done (pieces_from m s at)) f.1 ∙ ap (before done) (pieces_broken f.0 s at e) ∙ before_fails done at

  -- what is done is the front of the whole
  pub reached_tail : (ss : List (List ℕ)) → pieces_of s ≡ into ss → (tail : List (List ℕ)) × (ss ≡ done ++ tail)
  reached_tail ss e = go (pieces_from R.most s at) refl
    where
      parts : Pieces → List (List ℕ)
      parts (into x) = x
      parts (fails y) = []

      go : (x : Pieces) → pieces_from R.most s at ≡ x → (tail : List (List ℕ)) × (ss ≡ done ++ tail)
      go (into tail) d = (tail, ap parts (sym e ∙ sym R.rest ∙ ap (before done) d ∙ before_into done tail))
      go (fails y) d = absurd (no_way (sym (before_fails done y) ∙ sym (ap (before done) d) ∙ R.rest ∙ e))
        where
          no_way : fails y ≡ into ss → ⊥
          no_way w = let z : ◌≡◌ {A = ℕ} 0 1 = cc in omega arith

-- a cut that fails is no cut to the end
pub fails_not : (s : List ℕ) (at : ℕ) (ss : List (List ℕ)) → pieces_of s ≡ fails at → pieces_of s ≡ into ss → ⊥
fails_not s at ss e d = let z : ◌≡◌ {A = ℕ} 0 1 = cc in omega arith

pub same_parts : (ss tt : List (List ℕ)) {x : Pieces} → x ≡ into ss → x ≡ into tt → ss ≡ tt
same_parts ss tt e d = ap parts (sym e ∙ d)
  where
    parts : Pieces → List (List ℕ)
    parts (into x) = x
    parts (fails y) = []

-- the bytes of a piece
pub piece_length : (s : List ℕ) (at n : ℕ) → at + n ≤ length s → length (take n (drop at s)) ≡ n
piece_length s at n b = length-take-le n (drop at s) (omega (arith, length-drop at s))

-- ---- what the pieces give, one after another

pub joined_append : (f : List ℕ → List ℕ) (ps ss : List (List ℕ)) → joined f (ps ++ ss) ≡ joined f ps ++ joined f ss
unfolding joined
joined_append f [] ss = refl
joined_append f (p ∷ ps) ss = rw (joined_append f ps ss) (sym (append_assoc (f p) (joined f ps) (joined f ss)))

pub joined_next : (f : List ℕ → List ℕ) (ps : List (List ℕ)) (p : List ℕ) → joined f (ps ++ (p ∷ [])) ≡ joined f ps ++ f p
unfolding joined
joined_next f ps p = joined_append f ps (p ∷ []) ∙ ap (λ (l : List ℕ). joined f ps ++ l) (append-nil (f p))

pub most_append : (ps ss : List (List ℕ)) → most_in (ps ++ ss) ≡ most_in ps + most_in ss
unfolding most_in
most_append [] ss = omega arith
most_append (p ∷ ps) ss = omega (arith, most_append ps ss)

pub most_next : (ps : List (List ℕ)) (p : List ℕ) → most_in (ps ++ (p ∷ [])) ≡ most_in ps + most_of (length p)
unfolding most_in
most_next ps p = omega (arith, most_append ps (p ∷ []))
