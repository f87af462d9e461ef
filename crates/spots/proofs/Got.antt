-- Which children an attempt has read: none before its first group, one group more at each, and is_read_of tells the children of a group.
use Prim.Native.Nat.{ℕ, zero, suc, ◌+◌, ◌<◌}
use native.Mathlib.Omega.{arith}
use mathlib.Core.Path.{◌≡◌, refl, sym, ap, ◌∙◌}
use mathlib.Core.Bool.{Bool, true, false, ◌&&◌, ◌||◌}
use mathlib.Core.List.{List, [], ◌∷◌}
use lib.ListN.{length, get_or}
use lib.Dec.{leb, ltb}
use borrow.Author.Tests.{le-leb, lt-leb, leb-true, leb-false, lt-ltb, le-ltb, ltb-true, ltb-false}
use Rattle.meaning.specs.Tree.{left, child}
use Rattle.meaning.specs.Access.{reads, is_read_of}
use Rattle.meaning.specs.Shape.{Group, the_one, Form}
use Rattle.spots.specs.Spot.{Spot, node_of, onward}
use Rattle.spots.specs.Got.{in_group, in_groups, groups_at, groups_read, got_at}

pub none_in : (gs : List Group) (c : ℕ) → in_groups gs 0 c ≡ false
unfolding in_groups
none_in [] c = refl
none_in (g ∷ gs) c = refl

or_assoc : (a b c : Bool) → (a || (b || c)) ≡ ((a || b) || c)
or_assoc true b c = refl
or_assoc false b c = refl

or_false : (a : Bool) → (a || false) ≡ a
or_false true = refl
or_false false = refl

-- one group more
pub more_in : (gs : List Group) (i c : ℕ) → i < length gs → in_groups gs (suc i) c ≡ (in_groups gs i c || in_group (get_or gs i (the_one 0)) c)
unfolding in_groups
more_in [] i c b = absurd (omega (arith, b))
more_in (g ∷ gs) zero c b = ap (λ (t : Bool). in_group g c || t) (none_in gs c) ∙ or_false (in_group g c)
more_in (g ∷ gs) (suc i) c b = ap (λ (t : Bool). in_group g c || t) (more_in gs i c (omega (arith, b))) ∙ or_assoc (in_group g c) (in_groups gs i c) _

module _ (F : Form) (p : ℕ) (σ : Spot) (c : ℕ) where
  -- nothing before the first read
  pub got_none : groups_read σ.position ≡ 0 → got_at F p σ c ≡ false
  unfolding got_at
  got_none e = ap (λ (k : ℕ). in_groups (groups_at F p σ) k c) e ∙ none_in (groups_at F p σ) c

  pub got_at_link : σ.position ≡ 0 → (got_at F p σ c ≡ false) × (got_at F p (onward σ) c ≡ false)
  unfolding got_at onward node_of groups_read
  got_at_link e =
      (ap (λ (k : ℕ). in_groups (groups_at F p σ) (groups_read k) c) e ∙ none_in (groups_at F p σ) c, ap (λ (k : ℕ). in_groups (groups_at F p σ) k c) e ∙ none_in (groups_at F p σ) c)

  -- a read of group i
  pub got_onward : (i : ℕ) → i < length (groups_at F p σ) → σ.position ≡ suc i → got_at F p (onward σ) c ≡ (got_at F p σ c || in_group (get_or (groups_at F p σ) i (the_one 0)) c)
  unfolding got_at onward node_of groups_read
  got_onward i b e =
      ap (λ (k : ℕ). in_groups (groups_at F p σ) k c) e ∙ more_in (groups_at F p σ) i c b
      ∙ ap (λ (k : ℕ). in_groups (groups_at F p σ) (groups_read k) c || in_group (get_or (groups_at F p σ) i (the_one 0)) c) (sym e)

  -- at the SC all groups have been read
  pub got_all : σ.position ≡ suc (length (groups_at F p σ)) → got_at F p σ c ≡ in_groups (groups_at F p σ) (length (groups_at F p σ)) c
  unfolding got_at groups_read
  got_all e = ap (λ (k : ℕ). in_groups (groups_at F p σ) (groups_read k) c) e

-- a read of a group is one of the children that it has
pub reads_child : (x c : ℕ) (g : Group) → is_read_of (child x c) (reads x g.from g.count) ≡ in_group g c
unfolding is_read_of in_group child
reads_child x c g = go (leb g.from c) refl (ltb c (g.from + g.count)) refl
  where
    go : (s : Bool) → leb g.from c ≡ s → (t : Bool) → ltb c (g.from + g.count) ≡ t
        → (leb (left x + g.from) (left x + c) && ltb (left x + c) (left x + (g.from + g.count))) ≡ (s && t)
    go true a true b = rw (le-leb (left x + g.from) (left x + c) (omega (arith, leb-true g.from c a)), lt-ltb (left x + c) (left x + (g.from + g.count)) (omega (arith, ltb-true c (g.from + g.count) b)))
    go true a false b = rw (le-leb (left x + g.from) (left x + c) (omega (arith, leb-true g.from c a)), le-ltb (left x + c) (left x + (g.from + g.count)) (omega (arith, ltb-false c (g.from + g.count) b)))
    go false a t b = rw (lt-leb (left x + g.from) (left x + c) (omega (arith, leb-false g.from c a)))
