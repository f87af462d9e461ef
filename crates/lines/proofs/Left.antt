-- Bytes laid by a copy, and the room that is left after bytes are laid.
use Prim.Native.Nat.{ℕ, ◌+◌, ◌≤◌}
use native.Mathlib.Omega.{arith}
use mathlib.Core.Path.{◌≡◌, refl, sym, ap₂, ◌∙◌, subst}
use mathlib.Core.List.{List, ◌++◌, append_assoc}
use lib.ListN.{length, take, drop}
use lib.Seq.{drop-drop}
use borrow.Rule.Slice.PartMut.{put_mid}
use Rattle.laying.specs.Lays.{Lays}
use Rattle.laying.proofs.Laid.{lays_at}
use Rattle.lines.specs.Room.{Room}

pub room_left : {l l' a : List ℕ} {at many n : ℕ} (few : ℕ) → Room l at many → Lays l at a l' n → length a + few ≤ many → Room l' n few
room_left few r x b = record { long = x.same ∙ r.long; enough = omega (arith, x.place, r.enough) }

-- bytes that a copy puts over as many from a place on
pub lays_copied : (l : List ℕ) (at a k n : ℕ) (bytes part : List ℕ) → a ≡ at → k ≡ length bytes → n ≡ at + length bytes → part ≡ bytes → at + length bytes ≤ length l
    → Lays l at bytes (put_mid a k l part) n
lays_copied l at a k n bytes part from many next is room =
    rw (from, many, next)
    (subst (λ x. Lays l at bytes x (at + length bytes)) (append_assoc (take at l) bytes (drop (at + length bytes) l) ∙ ap₂ (λ x y. take at l ++ (x ++ y)) (sym is) (sym (drop-drop (length bytes) at l)))
    (lays_at l at (length bytes) bytes refl room))

-- what is laid in a buffer is in it once the cursor is let go
pub lays_in : {l l' l'' a : List ℕ} {at n : ℕ} → l' ≡ l'' → Lays l at a l' n → Lays l at a l'' n
lays_in {l} {a = a} {at = at} {n = n} e x = subst (λ k. Lays l at a k n) e x
