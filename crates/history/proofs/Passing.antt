-- What is known where nothing is refused, since every test of the list failed.
use Prim.Native.Nat.{ℕ, suc, ◌-◌, ◌^◌, ◌≤◌, ◌<◌}
use mathlib.Core.Path.{◌≡◌, refl}
use mathlib.Core.Bool.{Bool, true, false, not, cond, ◌&&◌, ◌||◌}
use mathlib.Core.List.{List}
use native.Mathlib.Omega.{arith}
use lib.ListN.{length}
use lib.Dec.{leb, ltb, eqb}
use borrow.Author.Tests.{ltb-false, leb-false, eqb-true, eqb-false, not-false}
use Rattle.recording.specs.declared.Event.{Event}
use Rattle.meaning.specs.Refusals.{first_of}
use Rattle.meaning.specs.Shape.{Form}
use Rattle.meaning.specs.Layout.{version, follows, height, shape_of, longest_recording, highest_tree, too_short, other_version, too_long, false_length, no_height, unknown_shape, head_refusal}
use Rattle.meaning.specs.Tree.{processes}
use Rattle.meaning.specs.Run.{process_of, is_start, most_operations, refusal_by}

-- a header that is not refused
pub record Passes (highest : ℕ) (s : List ℕ) : Type 0 where
  pub enough : 6 ≤ length s
  pub known : version s ≡ 1
  pub short : length s ≤ longest_recording
  pub right : follows s ≡ length s - 5
  pub high : 1 ≤ height s
  pub low : height s ≤ highest_tree
  pub shape : shape_of s ≤ highest

-- a record that is not refused
pub record Taken (F : Form) (e : Event) (b : Bool) (m : ℕ) : Type 0 where
  pub inside : process_of e < 2 ^ F.height
  pub starts : is_start e ≡ true → (b ≡ false) × (m < most_operations)
  pub steps : is_start e ≡ false → b ≡ true

-- the first of a list is not given, and none of the others is
none : (k : ℕ) (b : Bool) (rest : ℕ) → cond b (suc k) rest ≡ 0 → (b ≡ false) × (rest ≡ 0)
none k true rest z = absurd (omega arith)
none k false rest z = (refl, z)

or_false : (a b : Bool) → (a || b) ≡ false → (a ≡ false) × (b ≡ false)
or_false true b e = let z : ◌≡◌ {A = Bool} true false = e in (z, cc)
or_false false b e = (refl, e)

pub header_passes : (highest : ℕ) (s : List ℕ) → head_refusal highest s ≡ 0 → Passes highest s
unfolding head_refusal first_of too_short other_version too_long false_length no_height unknown_shape
header_passes highest s z =
    let a = none 0 (ltb (length s) 6) _ z in
    let b = none 1 (not (eqb (version s) 1)) _ a.1 in
    let c = none 3 (ltb longest_recording (length s)) _ b.1 in
    let d = none 2 (not (eqb (follows s) (length s - 5))) _ c.1 in
    let e = none 4 (eqb (height s) 0 || ltb highest_tree (height s)) _ d.1 in
    let f = or_false (eqb (height s) 0) (ltb highest_tree (height s)) e.0 in
    let not_zero : height s ≡ 0 → ⊥ = eqb-false _ _ f.0 in
    record {
      enough = ltb-false _ _ a.0;
      known = eqb-true _ _ (not-false _ b.0);
      short = ltb-false _ _ c.0;
      right = eqb-true _ _ (not-false _ d.0);
      high = omega arith;
      low = ltb-false _ _ f.1;
      shape = ltb-false _ _ (none 12 (ltb highest (shape_of s)) _ e.1).0;
    }

-- by the four tests of a record
free : (p s b m : Bool) → ◌≡◌ {A = ℕ} (cond p 7 (cond (s && b) 8 (cond (not s && not b) 9 (cond (s && m) 10 0)))) 0
    → (p ≡ false) × (s ≡ true → (b ≡ false) × (m ≡ false)) × (s ≡ false → b ≡ true)
free p true true m z = absurd (omega (arith, (none 6 p 8 z).1))
free p true false m z =
    let a = none 6 p (cond m 10 0) z in
    (a.0, λ s. (refl, (none 9 m 0 a.1).0), λ s. cc)
free p false true m z = ((none 6 p 0 z).0, λ s. let w : ◌≡◌ {A = Bool} false true = s in (cc, cc), λ s. refl)
free p false false m z = absurd (omega (arith, (none 6 p 9 z).1))

pub refusal_passes : (F : Form) (e : Event) (b : Bool) (m : ℕ) → refusal_by F e b m ≡ 0 → Taken F e b m
unfolding refusal_by first_of processes
refusal_passes F e b m z =
    let t = free (leb (2 ^ F.height) (process_of e)) (is_start e) b (leb most_operations m) z in
    record {
      inside = leb-false _ _ t.0;
      starts = λ s. ((t.1 s).0, leb-false _ _ (t.1 s).1);
      steps = t.2;
    }
