-- One lemma for each way out: the tests passed on the way to it, and the refusal that they leave.
use Prim.Native.Nat.{ℕ, ◌-◌, ◌^◌, ◌≤◌, ◌<◌}
use mathlib.Core.Path.{◌≡◌}
use mathlib.Core.Bool.{Bool, true, false}
use mathlib.Core.List.{List}
use native.Mathlib.Omega.{arith}
use lib.ListN.{length}
use lib.Dec.{leb, ltb, eqb}
use borrow.Author.Tests.{lt-ltb, le-ltb, eq-eqb, ne_eqb, le-leb, lt-leb}
use Rattle.recording.specs.declared.Event.{Event}
use Rattle.recording.specs.declared.Form.{Form}
use Rattle.meaning.specs.Refusals.{first_of}
use Rattle.meaning.specs.Shape.{formed, highest_shape}
use Rattle.meaning.specs.Layout.{version, follows, height, shape_of, longest_recording, highest_tree, too_short, other_version, too_long, false_length, no_height, unknown_shape, head_refusal}
use Rattle.meaning.specs.Tree.{processes}
use Rattle.meaning.specs.Run.{process_of, is_start, most_operations, refusal_by}

-- ---- the header

module _ (s : List ℕ) where
  pub too_short_lem : length s < 6 → 1 ≡ head_refusal highest_shape s
  unfolding head_refusal first_of too_short other_version too_long false_length no_height unknown_shape shape_of
  too_short_lem h = simp (lt-ltb (length s) 6 h)

  module _ (enough : 6 ≤ length s) where
    enough? : ltb (length s) 6 ≡ false
    enough? = le-ltb (length s) 6 enough

    pub other_version_lem : (version s ≡ 1 → ⊥) → 2 ≡ head_refusal highest_shape s
    unfolding head_refusal first_of too_short other_version too_long false_length no_height unknown_shape shape_of
    other_version_lem h = simp (enough?, ne_eqb (version s) 1 h)

    module _ (known : version s ≡ 1) where
      pub too_long_lem : longest_recording < length s → 4 ≡ head_refusal highest_shape s
      unfolding head_refusal first_of too_short other_version too_long false_length no_height unknown_shape shape_of
      too_long_lem h = simp (enough?, known, lt-ltb longest_recording (length s) h)

      module _ (short : length s ≤ longest_recording) where
        short? : ltb longest_recording (length s) ≡ false
        short? = le-ltb longest_recording (length s) short

        pub other_length : (follows s ≡ length s - 5 → ⊥) → 3 ≡ head_refusal highest_shape s
        unfolding head_refusal first_of too_short other_version too_long false_length no_height unknown_shape shape_of
        other_length h = simp (enough?, known, short?, ne_eqb (follows s) (length s - 5) h)

        module _ (right : follows s ≡ length s - 5) where
          right? : eqb (follows s) (length s - 5) ≡ true
          right? = eq-eqb (follows s) (length s - 5) right

          pub no_height_lem : height s ≡ 0 → 5 ≡ head_refusal highest_shape s
          unfolding head_refusal first_of too_short other_version too_long false_length no_height unknown_shape shape_of
          no_height_lem h = simp (enough?, known, short?, right?, h)

          module _ (high : 1 ≤ height s) where
            high? : eqb (height s) 0 ≡ false
            high? = ne_eqb (height s) 0 (λ e. omega arith)

            pub too_high : highest_tree < height s → 5 ≡ head_refusal highest_shape s
            unfolding head_refusal first_of too_short other_version too_long false_length no_height unknown_shape shape_of
            too_high h = simp (enough?, known, short?, right?, high?, lt-ltb highest_tree (height s) h)

            pub fine : height s ≤ highest_tree → 0 ≡ head_refusal highest_shape s
            unfolding head_refusal first_of too_short other_version too_long false_length no_height unknown_shape shape_of
            fine h = simp (enough?, known, short?, right?, high?, le-ltb highest_tree (height s) h)

-- ---- a record

module _ (f : Form) (e : Event) (b : Bool) (m : ℕ) where
  pub no_such_process : 2 ^ f.height ≤ process_of e → 7 ≡ refusal_by (formed f) e b m
  unfolding refusal_by first_of processes
  no_such_process x = simp (le-leb (2 ^ f.height) (process_of e) x)

  module _ (inside : process_of e < 2 ^ f.height) where
    inside? : leb (2 ^ f.height) (process_of e) ≡ false
    inside? = lt-leb (2 ^ f.height) (process_of e) inside

    pub starts_busy : is_start e ≡ true → b ≡ true → 8 ≡ refusal_by (formed f) e b m
    unfolding refusal_by first_of processes
    starts_busy s x = simp (inside?, s, x)

    pub starts_full : is_start e ≡ true → b ≡ false → leb most_operations m ≡ true → 10 ≡ refusal_by (formed f) e b m
    unfolding refusal_by first_of processes
    starts_full s x y = simp (inside?, s, x, y)

    pub starts : is_start e ≡ true → b ≡ false → leb most_operations m ≡ false → 0 ≡ refusal_by (formed f) e b m
    unfolding refusal_by first_of processes
    starts s x y = simp (inside?, s, x, y)

    pub steps : is_start e ≡ false → b ≡ true → 0 ≡ refusal_by (formed f) e b m
    unfolding refusal_by first_of processes
    steps s x = simp (inside?, s, x)

    pub steps_idle : is_start e ≡ false → b ≡ false → 9 ≡ refusal_by (formed f) e b m
    unfolding refusal_by first_of processes
    steps_idle s x = simp (inside?, s, x)
