-- What follows for every lawful shape, and that the shapes are lawful. A new shape has two lemmas here: its laws, and its width if it has one.
use Prim.Native.Nat.{ℕ, zero, suc, ◌+◌, ◌*◌, ◌≤◌, ◌<◌}
use native.Mathlib.Nat.{mul-zero, mul-suc}
use native.Mathlib.Omega.{arith}
use mathlib.Core.Path.{◌≡◌, refl, sym, ap, ◌∙◌, subst}
use mathlib.Core.Bool.{Bool, true, false, cond}
use mathlib.Core.List.{List}
use lib.ListN.{length}
use Rattle.meaning.specs.Tree.{leaf_of, ancestor}
use Rattle.meaning.specs.Access.{reads_leaf, writes_leaf}
use Rattle.meaning.specs.Shape.{Form, counting, numbered, highest_shape}
use Rattle.meaning.specs.Layout.{shape_of, form_of}
use Rattle.meaning.specs.Operations.{addition_steps}
use Rattle.meaning.specs.Steps.{Process, access_of}
use Rattle.meaning.proofs.EventKinds.{counting_kinds}
use Rattle.spots.specs.Spot.{width, below, opened, place_in, step_of, At, last_step}
use Rattle.spots.specs.Got.{in_group, in_groups}
use Rattle.spots.specs.Lawful.{Lawful}
use Rattle.spots.proofs.Laws.{width_is, addition_long, last_addition, last_read, of_addition}

-- ---- the two steps at the leaf

pub opened_two : (F : Form) (p : ℕ) → Lawful F.shape → opened F p ≡ 2
unfolding opened
opened_two F p lawful = ap length (lawful.opens F.height p)

pub of_leaf : (F : Form) (p : ℕ) (r : Process) → Lawful F.shape → r.adds ≡ true → r.step ≡ 1 → access_of F p r ≡ reads_leaf p
unfolding addition_steps
of_leaf F p r lawful adds step = of_addition F p r adds ∙ rw (step, lawful.opens F.height p)

pub of_write : (F : Form) (p : ℕ) (r : Process) → Lawful F.shape → r.adds ≡ true → r.step ≡ 2 → access_of F p r ≡ writes_leaf p
unfolding addition_steps
of_write F p r lawful adds step = of_addition F p r adds ∙ rw (step, lawful.opens F.height p)

-- ---- attempts of one width

-- every attempt has w steps
abbrev pub Even : Form → ℕ → Type 0
Even F w = (x : ℕ) → width F x ≡ w

below_even : (F : Form) (w : ℕ) → Even F w → (l x : ℕ) → below F l x ≡ (w + w) * l
unfolding below
below_even F w even zero x = sym (mul-zero (w + w))
below_even F w even (suc l) x = omega (arith, below_even F w even l x, even (ancestor (suc l) x), mul-suc (w + w) l)

-- then an addition's list is two steps at the leaf and two attempts at each level
pub even_long : (F : Form) (w p : ℕ) → Lawful F.shape → Even F w → length (addition_steps F p) ≡ 2 + (w + w) * F.height
even_long F w p lawful even = addition_long F p ∙ omega (arith, opened_two F p lawful, below_even F w even F.height (leaf_of F.height p))

pub even_last : (F : Form) (w p : ℕ) (adds : Bool) → Lawful F.shape → Even F w → last_step F p adds ≤ 2 + (w + w) * F.height
even_last F w p true lawful even = omega (arith, last_addition F p true refl, even_long F w p lawful even)
even_last F w p false lawful even = omega (arith, last_read F p false refl)

-- and a step's place in that list says where it is
pub even_at : (F : Form) (w p s l i : ℕ) (b : Bool) → Lawful F.shape → Even F w → l < F.height → i < w → s ≡ 3 + ((w + w) * l + (cond b w 0 + i))
    → At F p s (record { level = l; second = b; position = i })
unfolding step_of place_in
even_at F w p s l i b lawful even level position step =
    record {
      level = level;
      position = rw (even _) position;
      step = rw (opened_two F p lawful, below_even F w even l (leaf_of F.height p), even (ancestor (suc l) (leaf_of F.height p))) step;
    }

-- ---- shape 0

counting_lawful : Lawful counting
unfolding counting in_groups in_group
counting_lawful =
    record {
      opens = λ h p. refl;
      covers = λ h x. covers;
      sums = λ h x seen. refl;
      zero = refl;
      kinds = counting_kinds;
    }
  where
    covers : (c : ℕ) → c < 2 → in_groups (counting.groups 0 0) 2 c ≡ true
    covers zero b = refl
    covers (suc zero) b = refl
    covers (suc (suc c)) b = absurd (omega arith)

-- four steps in every attempt
counting_even : (F : Form) → F.shape ≡ counting → Even F 4
unfolding counting
counting_even F e x = width_is F x ∙ rw e

-- ---- the shapes that are taken

pub shape_numbered : (k : ℕ) → k ≤ highest_shape → numbered k ≡ counting
unfolding numbered
shape_numbered zero b = refl
shape_numbered (suc k) b = absurd (omega arith)

pub taken_lawful : (k : ℕ) → k ≤ highest_shape → Lawful (numbered k)
taken_lawful k b = subst Lawful (sym (shape_numbered k b)) counting_lawful

pub taken_even : (F : Form) (k : ℕ) → k ≤ highest_shape → F.shape ≡ numbered k → Even F 4
taken_even F k b e = counting_even F (e ∙ shape_numbered k b)

-- every recording's form
pub form_lawful : (s : List ℕ) → Lawful (form_of s).shape
unfolding form_of shape_of
form_lawful s = taken_lawful 0 (omega arith)

pub form_even : (s : List ℕ) → Even (form_of s) 4
unfolding form_of shape_of
form_even s = taken_even (form_of s) 0 (omega arith) refl
