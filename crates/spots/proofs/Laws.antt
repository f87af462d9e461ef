-- The laws of the walk: a step number and its spot tell each other, the list of an addition's steps by spot, and where each step leads.
use Prim.Native.Nat.{ℕ, zero, suc, ◌+◌, ◌-◌, ◌/◌, ◌^◌, ◌≤◌, ◌<◌}
use native.Mathlib.Nat.{add-zero}
use native.Mathlib.Numerals.{add-one}
use native.Mathlib.Omega.{arith}
use mathlib.Core.Path.{◌≡◌, refl, sym, ap, ◌∙◌}
use mathlib.Core.Logic.{◌⊎◌, inl, inr}
use mathlib.Core.Bool.{Bool, true, false, cond, false≢true}
use mathlib.Core.List.{List, [], ◌∷◌, ◌++◌, map}
use borrow.Author.Tests.{ltb-true, ltb-false, lt-ltb, le-ltb}
use lib.Dec.{ltb}
use lib.ListN.{length, get_or, length-append, length-map, get_or-append, get_or-map}
use lib.Seq.{get_or-append-add}
use lib.Pow.{shr-shr}
use Rattle.meaning.specs.Tree.{leaf_of, parent, ancestor}
use Rattle.meaning.specs.Access.{Access, starts, reads_root, reads_leaf, writes_leaf, links, reads, stores, Attempt, first, second}
use Rattle.meaning.specs.Shape.{Group, the_one, Form}
use Rattle.meaning.specs.Operations.{attempt, climb, addition_steps, read_steps}
use Rattle.meaning.specs.Steps.{Memory, Process, steps_of, access_of, effect, onward as moves, saw_it, saw_children, passes_by}
use Rattle.spots.specs.Spot.{Spot, attempt_at, width, raised, spot_in, below, place_in, opened, spot_of, node_of, step_of, At, onward, again, upward, passed, last_step}

-- ---- an attempt's list

abbrev groups_at : Form → ℕ → List Group
groups_at F x = F.shape.groups F.height x

-- the accesses of an attempt between its LL and its SC
abbrev reads_at : Form → ℕ → List Access
reads_at F x = map (λ (g : Group). reads x g.from g.count) (groups_at F x)

reads_long : (F : Form) (x : ℕ) → length (reads_at F x) ≡ length (groups_at F x)
reads_long F x = length-map (groups_at F x) (λ (g : Group). reads x g.from g.count)

attempt_count : (F : Form) (a : Attempt) (x : ℕ) → length (attempt F a x) ≡ suc (suc (length (groups_at F x)))
unfolding attempt
attempt_count F a x = ap suc (length-append (reads_at F x) (stores a x ∷ []) ∙ ap (λ (n : ℕ). n + 1) (reads_long F x) ∙ omega arith)

pub width_is : (F : Form) (x : ℕ) → width F x ≡ suc (suc (length (F.shape.groups F.height x)))
unfolding width
width_is F x = attempt_count F first x

pub attempt_long : (F : Form) (a : Attempt) (x : ℕ) → length (attempt F a x) ≡ width F x
attempt_long F a x = attempt_count F a x ∙ sym (width_is F x)

pub attempt_links : (F : Form) (a : Attempt) (x : ℕ) → get_or (attempt F a x) 0 starts ≡ links a x
unfolding attempt
attempt_links F a x = refl

-- inside a list what is given for outside does not matter
get_d_inside : {A : Type 0} (l : List A) (i : ℕ) (d e : A) → i < length l → get_or l i d ≡ get_or l i e
get_d_inside [] i d e b = absurd (omega (arith, b))
get_d_inside (x ∷ xs) zero d e b = refl
get_d_inside (x ∷ xs) (suc i) d e b = get_d_inside xs i d e (omega (arith, b))

pub attempt_reads : (F : Form) (a : Attempt) (x i : ℕ) → i < length (F.shape.groups F.height x)
    → get_or (attempt F a x) (suc i) starts
    ≡ reads x (get_or (F.shape.groups F.height x) i (the_one 0)).from (get_or (F.shape.groups F.height x) i (the_one 0)).count
unfolding attempt
attempt_reads F a x i b =
    let read : Group → Access = λ g. reads x g.from g.count in
    let c : i < length (reads_at F x) = rw (reads_long F x) b in
    get_or-append (reads_at F x) (stores a x ∷ []) starts i c
    ∙ get_d_inside (reads_at F x) i starts (read (the_one 0)) c
    ∙ get_or-map read (groups_at F x) i (the_one 0)

pub attempt_stores : (F : Form) (a : Attempt) (x : ℕ) → get_or (attempt F a x) (suc (length (F.shape.groups F.height x))) starts ≡ stores a x
unfolding attempt
attempt_stores F a x =
    let e : length (groups_at F x) ≡ length (reads_at F x) + 0 = rw (reads_long F x) (omega arith) in
    ap (λ (n : ℕ). get_or (reads_at F x ++ (stores a x ∷ [])) n starts) e ∙ get_or-append-add (reads_at F x) (stores a x ∷ []) 0 starts

-- ---- the levels of a climb, from its first and from its last

pub ancestor_div : (l x : ℕ) → ancestor l x ≡ x / 2 ^ l
unfolding ancestor parent
ancestor_div zero x = omega arith
ancestor_div (suc l) x = rw (ancestor_div l x) (shr-shr x l 1 ∙ ap (λ (k : ℕ). x / 2 ^ k) (add-one l))

ancestor_parent : (l x : ℕ) → ancestor l (parent x) ≡ parent (ancestor l x)
unfolding ancestor
ancestor_parent zero x = refl
ancestor_parent (suc l) x = ap parent (ancestor_parent l x)

-- the node one level further up, counted from the parent
ancestor_above : (l x : ℕ) → ancestor l (parent x) ≡ ancestor (suc l) x
unfolding ancestor
ancestor_above l x = ancestor_parent l x

one_up : (x : ℕ) → ancestor 1 x ≡ parent x
unfolding ancestor
one_up x = refl

below_more : (F : Form) (l x : ℕ) → below F (suc l) x ≡ below F l x + (width F (ancestor (suc l) x) + width F (ancestor (suc l) x))
unfolding below
below_more F l x = refl

below_front : (F : Form) (l x : ℕ) → below F (suc l) x ≡ width F (parent x) + width F (parent x) + below F l (parent x)
unfolding below
below_front F zero x = rw (one_up x) (omega arith)
below_front F (suc l) x =
    rw (below_front F l x, ancestor_above (suc l) x) (omega arith)

climb_long : (F : Form) (k x : ℕ) → length (climb F k x) ≡ below F k x
unfolding climb below
climb_long F zero x = refl
climb_long F (suc k) x =
    let a = attempt F first (parent x) in
    let b = attempt F second (parent x) in
    length-append a (b ++ climb F k (parent x))
    ∙ ap (λ (n : ℕ). length a + n) (length-append b (climb F k (parent x)))
    ∙ omega (arith, attempt_long F first (parent x), attempt_long F second (parent x), climb_long F k (parent x), below_front F k x)

pub addition_long : (F : Form) (p : ℕ) → length (addition_steps F p) ≡ opened F p + below F F.height (leaf_of F.height p)
unfolding addition_steps opened
addition_long F p =
    length-append (F.shape.opening F.height p) (climb F F.height (leaf_of F.height p))
    ∙ ap (λ (n : ℕ). length (F.shape.opening F.height p) + n) (climb_long F F.height (leaf_of F.height p))

-- ---- places of a climb and spots

-- the place of a spot told by its parts
abbrev place_at : Form → ℕ → ℕ → Bool → ℕ → ℕ
place_at F x l b i = below F l x + (cond b (width F (ancestor (suc l) x)) 0 + i)

place_first : (F : Form) (x i : ℕ) → place_at F x 0 false i ≡ i
unfolding below
place_first F x i = omega arith

place_second : (F : Form) (x i : ℕ) → place_at F x 0 true i ≡ width F (parent x) + i
unfolding below
place_second F x i = rw (one_up x) (omega arith)

place_up : (F : Form) (x l : ℕ) (b : Bool) (i : ℕ)
    → place_at F x (suc l) b i ≡ width F (parent x) + width F (parent x) + place_at F (parent x) l b i
place_up F x l b i = rw (below_front F l x, ancestor_above (suc l) x) (omega arith)

-- place n of the climb of k levels from x is at that spot
record In (F : Form) (k x n : ℕ) (σ : Spot) : Type 0 where
  level : σ.level < k
  position : σ.position < width F (ancestor (suc σ.level) x)
  place : n ≡ place_at F x σ.level σ.second σ.position

-- the spot of place n in the climb of one level more, by the two tests and the spot above
abbrev spot_by : Form → ℕ → ℕ → Bool → Bool → Spot → Spot
spot_by F x n t u σ =
    cond t (record { level = 0; second = false; position = n })
    (cond u (record { level = 0; second = true; position = n - width F (parent x) })
    (record { level = suc σ.level; second = σ.second; position = σ.position }))

spot_more : (F : Form) (k x n : ℕ)
    → spot_in F (suc k) x n
    ≡ spot_by F x n (ltb n (width F (parent x))) (ltb n (width F (parent x) + width F (parent x))) (spot_in F k (parent x) (n - (width F (parent x) + width F (parent x))))
unfolding spot_in raised
spot_more F k x n = refl

in_more : (F : Form) (k x n : ℕ) (t u : Bool) (σ : Spot) → n < below F (suc k) x
    → ltb n (width F (parent x)) ≡ t → ltb n (width F (parent x) + width F (parent x)) ≡ u
    → (n - (width F (parent x) + width F (parent x)) < below F k (parent x) → In F k (parent x) (n - (width F (parent x) + width F (parent x))) σ)
    → In F (suc k) x n (spot_by F x n t u σ)
in_more F k x n true u σ b e f rest =
    record { level = omega arith; position = rw (one_up x) (ltb-true n (width F (parent x)) e); place = sym (place_first F x n) }
in_more F k x n false true σ b e f rest =
    let w = width F (parent x) in
    record {
      level = omega arith;
      position = rw (one_up x) (omega (arith, ltb-false n w e, ltb-true n (w + w) f));
      place = omega (arith, place_second F x (n - w), ltb-false n w e);
    }
in_more F k x n false false σ b e f rest =
    let w = width F (parent x) in
    let i = rest (omega (arith, b, below_front F k x, ltb-false n (w + w) f)) in
    record {
      level = omega (arith, i.level);
      position = rw (← ancestor_above (suc σ.level) x) i.position;
      place = omega (arith, i.place, place_up F x σ.level σ.second σ.position, ltb-false n (w + w) f);
    }

spot_in_lem : (F : Form) (k x n : ℕ) → n < below F k x → In F k x n (spot_in F k x n)
unfolding below
spot_in_lem F zero x n b = absurd (omega (arith, b))
spot_in_lem F (suc k) x n b =
    let w = width F (parent x) in
    rw (spot_more F k x n)
    (in_more F k x n (ltb n w) (ltb n (w + w)) (spot_in F k (parent x) (n - (w + w))) b refl refl (spot_in_lem F k (parent x) (n - (w + w))))

-- a spot told by its parts is found again from its place
spot_back : (F : Form) (k x l : ℕ) (b : Bool) (i : ℕ) → l < k → i < width F (ancestor (suc l) x)
    → spot_in F k x (place_at F x l b i) ≡ record { level = l; second = b; position = i }
spot_back F zero x l b i high c = absurd (omega (arith, high))
spot_back F (suc k) x zero false i high c =
    let w = width F (parent x) in
    let d : i < w = rw (← one_up x) c in
    rw (place_first F x i, spot_more F k x i, lt-ltb i w d)
spot_back F (suc k) x zero true i high c =
    let w = width F (parent x) in
    let d : i < w = rw (← one_up x) c in
    let e : w + i - w ≡ i = omega arith in
    rw (place_second F x i, spot_more F k x (w + i), le-ltb (w + i) w (omega arith), lt-ltb (w + i) (w + w) (omega arith), e)
spot_back F (suc k) x (suc l) b i high c =
    let w = width F (parent x) in
    let m = place_at F (parent x) l b i in
    let e : w + w + m - (w + w) ≡ m = omega arith in
    let ih = spot_back F k (parent x) l b i (omega (arith, high)) (rw (ancestor_above (suc l) x) c) in
    rw (place_up F x l b i, spot_more F k x (w + w + m), le-ltb (w + w + m) w (omega arith), le-ltb (w + w + m) (w + w) (omega arith), e, ih)

-- ---- the climb's list by spot

climb_more : (F : Form) (k x : ℕ)
    → climb F (suc k) x ≡ attempt F first (parent x) ++ (attempt F second (parent x) ++ climb F k (parent x))
unfolding climb
climb_more F k x = refl

climb_at : (F : Form) (k x l : ℕ) (b : Bool) (i : ℕ) → l < k → i < width F (ancestor (suc l) x)
    → get_or (climb F k x) (place_at F x l b i) starts ≡ get_or (attempt F (attempt_at b) (ancestor (suc l) x)) i starts
unfolding attempt_at
climb_at F zero x l b i high c = absurd (omega (arith, high))
climb_at F (suc k) x zero false i high c =
    let d : i < width F (parent x) = rw (← one_up x) c in
    let f = attempt F first (parent x) in
    let g = attempt F second (parent x) in
    rw (place_first F x i, climb_more F k x, one_up x)
    (get_or-append f (g ++ climb F k (parent x)) starts i (rw (attempt_long F first (parent x)) d))
climb_at F (suc k) x zero true i high c =
    let d : i < width F (parent x) = rw (← one_up x) c in
    let f = attempt F first (parent x) in
    let g = attempt F second (parent x) in
    rw (place_second F x i, climb_more F k x, one_up x, ← attempt_long F first (parent x))
    (get_or-append-add f (g ++ climb F k (parent x)) i starts
    ∙ get_or-append g (climb F k (parent x)) starts i (rw (attempt_long F second (parent x)) d))
climb_at F (suc k) x (suc l) b i high c =
    let f = attempt F first (parent x) in
    let g = attempt F second (parent x) in
    let rest = climb F k (parent x) in
    let m = place_at F (parent x) l b i in
    let e : place_at F x (suc l) b i ≡ length f + (length g + m) = omega (arith, place_up F x l b i, attempt_long F first (parent x), attempt_long F second (parent x)) in
    let ih = climb_at F k (parent x) l b i (omega (arith, high)) (rw (ancestor_above (suc l) x) c) in
    rw (e, climb_more F k x)
    (get_or-append-add f (g ++ rest) (length g + m) starts ∙ get_or-append-add g rest m starts ∙ ih
    ∙ ap (λ (y : ℕ). get_or (attempt F (attempt_at b) y) i starts) (ancestor_above (suc l) x))

-- ---- by step number

-- the step's place, with the definitions of the walk open
at_place : (F : Form) (p s : ℕ) (σ : Spot) → At F p s σ
    → s ≡ suc (opened F p) + place_at F (leaf_of F.height p) σ.level σ.second σ.position
unfolding step_of place_in
at_place F p s σ at = at.step

at_width : (F : Form) (p s : ℕ) (σ : Spot) → At F p s σ → σ.position < width F (ancestor (suc σ.level) (leaf_of F.height p))
unfolding node_of
at_width F p s σ at = at.position

pub at_late : (F : Form) (p s : ℕ) (σ : Spot) → At F p s σ → opened F p < s
at_late F p s σ at = omega (arith, at_place F p s σ at)

pub at_spot : (F : Form) (p s : ℕ) → opened F p < s → s ≤ length (addition_steps F p) → At F p s (spot_of F p s)
unfolding spot_of step_of place_in node_of
at_spot F p s late inside =
    let n = s - suc (opened F p) in
    let i = spot_in_lem F F.height (leaf_of F.height p) n (omega (arith, late, inside, addition_long F p)) in
    record { level = i.level; position = i.position; step = omega (arith, i.place, late) }

pub spot_at : (F : Form) (p s : ℕ) (σ : Spot) → At F p s σ → spot_of F p s ≡ σ
unfolding spot_of
spot_at F p s σ at =
    let c = leaf_of F.height p in
    let e : s - suc (opened F p) ≡ place_at F c σ.level σ.second σ.position = omega (arith, at_place F p s σ at) in
    rw e (spot_back F F.height c σ.level σ.second σ.position at.level (at_width F p s σ at))

pub same_spot : (F : Form) (p s : ℕ) (σ τ : Spot) → At F p s σ → At F p s τ → σ ≡ τ
same_spot F p s σ τ at too = sym (spot_at F p s σ at) ∙ spot_at F p s τ too

pub access_at : (F : Form) (p s : ℕ) (σ : Spot) → At F p s σ
    → get_or (addition_steps F p) (s - 1) starts ≡ get_or (attempt F (attempt_at σ.second) (node_of F p σ)) σ.position starts
unfolding addition_steps opened node_of
access_at F p s σ at =
    let c = leaf_of F.height p in
    let o = F.shape.opening F.height p in
    let e : s - 1 ≡ length o + place_at F c σ.level σ.second σ.position = omega (arith, at_place F p s σ at) in
    rw e
    (get_or-append-add o (climb F F.height c) (place_at F c σ.level σ.second σ.position) starts
    ∙ climb_at F F.height c σ.level σ.second σ.position at.level (at_width F p s σ at))

-- ---- the first spot and the last

-- fewer levels take no more places
below_le : (F : Form) (x l d : ℕ) → below F l x ≤ below F (l + d) x
below_le F x l zero = omega (arith, ap (λ (k : ℕ). below F k x) (add-zero l))
below_le F x l (suc d) =
    let e : l + suc d ≡ suc (l + d) = omega arith in
    rw e (omega (arith, below_le F x l d, below_more F (l + d) x))

-- the places of a level are among those of the climb
level_inside : (F : Form) (x l k : ℕ) → l < k
    → below F l x + (width F (ancestor (suc l) x) + width F (ancestor (suc l) x)) ≤ below F k x
level_inside F x l k high =
    let e : suc l + (k - suc l) ≡ k = omega arith in
    let b : below F (suc l) x ≤ below F k x = rw (← e) (below_le F x (suc l) (k - suc l)) in
    omega (arith, b, below_more F l x)

-- the places before a spot in its level are those of at most one attempt
one_attempt : (b : Bool) (w : ℕ) → cond b w 0 ≤ w
one_attempt true w = omega arith
one_attempt false w = omega arith

pub at_inside : (F : Form) (p s : ℕ) (σ : Spot) → At F p s σ → s ≤ length (addition_steps F p)
at_inside F p s σ at =
    let c = leaf_of F.height p in
    omega (
      arith,
      at_place F p s σ at,
      at_width F p s σ at,
      addition_long F p,
      level_inside F c σ.level F.height at.level,
      one_attempt σ.second (width F (ancestor (suc σ.level) c)),
    )

width_some : (F : Form) (x : ℕ) → 0 < width F x
width_some F x = omega (arith, width_is F x)

pub at_first : (F : Form) (p : ℕ) → 1 ≤ F.height → At F p (suc (opened F p)) (record { level = 0; second = false; position = 0 })
unfolding step_of place_in
at_first F p high =
    record {
      level = high;
      position = width_some F (node_of F p (record { level = 0; second = false; position = 0 }));
      step = omega (arith, place_first F (leaf_of F.height p) 0);
    }

-- before the climb the walk stands where it begins
pub spot_early : (F : Form) (p s : ℕ) → 1 ≤ F.height → s ≤ suc (opened F p) → spot_of F p s ≡ record { level = 0; second = false; position = 0 }
unfolding spot_of
spot_early F p s high early =
    let e : s - suc (opened F p) ≡ suc (opened F p) - suc (opened F p) = omega (arith, early) in
    ap (spot_in F F.height (leaf_of F.height p)) e ∙ spot_at F p (suc (opened F p)) (record { level = 0; second = false; position = 0 }) (at_first F p high)

-- ---- where a step leads

pub at_onward : (F : Form) (p s : ℕ) (σ : Spot) → At F p s σ → suc σ.position < width F (node_of F p σ) → At F p (suc s) (onward σ)
unfolding step_of place_in node_of onward
at_onward F p s σ at more = record { level = at.level; position = more; step = omega (arith, at_place F p s σ at) }

pub at_again : (F : Form) (p s : ℕ) (σ : Spot) → At F p s σ → σ.second ≡ false → suc σ.position ≡ width F (node_of F p σ)
    → At F p (suc s) (again σ)
unfolding step_of place_in node_of again
at_again F p s σ at e last =
    let c = leaf_of F.height p in
    let b : cond σ.second (width F (ancestor (suc σ.level) c)) 0 ≡ 0 = rw e in
    record {
      level = at.level;
      position = width_some F (ancestor (suc σ.level) c);
      step = omega (arith, at_place F p s σ at, last, b);
    }

-- the places up to the end of an attempt and those passed are both attempts' places
both_passed : (b : Bool) (i w : ℕ) → suc i ≡ w → cond b w 0 + i + cond b 1 (suc w) ≡ w + w
both_passed true i w e = omega (arith, e)
both_passed false i w e = omega (arith, e)

pub at_upward : (F : Form) (p s : ℕ) (σ : Spot) → At F p s σ → suc σ.position ≡ width F (node_of F p σ) → suc σ.level < F.height
    → At F p (s + passed F p σ) (upward σ)
unfolding step_of place_in node_of upward passed
at_upward F p s σ at last high =
    let c = leaf_of F.height p in
    let w = width F (ancestor (suc σ.level) c) in
    record {
      level = high;
      position = width_some F (ancestor (suc (suc σ.level)) c);
      step = omega (arith, at_place F p s σ at, both_passed σ.second σ.position w last, below_more F σ.level c);
    }

pub at_end : (F : Form) (p s : ℕ) (σ : Spot) → At F p s σ → suc σ.position ≡ width F (node_of F p σ) → suc σ.level ≡ F.height
    → s + passed F p σ ≡ suc (length (addition_steps F p))
unfolding node_of passed
at_end F p s σ at last top =
    let c = leaf_of F.height p in
    let w = width F (ancestor (suc σ.level) c) in
    let e : below F F.height c ≡ below F (suc σ.level) c = ap (λ (l : ℕ). below F l c) (sym top) in
    omega (arith, at_place F p s σ at, both_passed σ.second σ.position w last, below_more F σ.level c, addition_long F p, e)

-- ---- how many places an SC passes

pub passes_first : (F : Form) (x : ℕ) → passes_by F first x true ≡ suc (width F x)
unfolding passes_by
passes_first F x = omega (arith, attempt_long F second x)

pub passes_failed : (F : Form) (a : Attempt) (x : ℕ) → passes_by F a x false ≡ 1
unfolding passes_by
passes_failed F first x = refl
passes_failed F second x = refl

pub passes_second : (F : Form) (x : ℕ) (ok : Bool) → passes_by F second x ok ≡ 1
unfolding passes_by
passes_second F x ok = refl

-- the same by the attempt's mark
passes_by_lem : (F : Form) (x : ℕ) (b ok : Bool) → (ok ≡ true) ⊎ (b ≡ true) → passes_by F (attempt_at b) x ok ≡ cond b 1 (suc (width F x))
unfolding attempt_at
passes_by_lem F x true ok done = passes_second F x ok
passes_by_lem F x false ok (inl e) = rw e (passes_first F x)
passes_by_lem F x false ok (inr e) = absurd (false≢true e)

pub passes_done : (F : Form) (p : ℕ) (σ : Spot) (ok : Bool) → (ok ≡ true) ⊎ (σ.second ≡ true)
    → passes_by F (attempt_at σ.second) (node_of F p σ) ok ≡ passed F p σ
unfolding passed
passes_done F p σ ok done = passes_by_lem F (node_of F p σ) σ.second ok done

-- ---- the list of a process's operation

pub steps_long : (F : Form) (p : ℕ) (r : Process) → length (steps_of F p r) ≡ last_step F p r.adds
unfolding steps_of last_step
steps_long F p r = go r.adds
  where
    go : (t : Bool) → length (cond t (addition_steps F p) read_steps) ≡ cond t (length (addition_steps F p)) (length read_steps)
    go true = refl
    go false = refl

pub last_addition : (F : Form) (p : ℕ) (adds : Bool) → adds ≡ true → last_step F p adds ≡ length (addition_steps F p)
unfolding last_step
last_addition F p adds e = rw e

pub last_read : (F : Form) (p : ℕ) (adds : Bool) → adds ≡ false → last_step F p adds ≡ 1
unfolding last_step read_steps
last_read F p adds e = rw e

-- which access its step is
module _ (F : Form) (p : ℕ) (r : Process) where
  pub of_read_lem : r.adds ≡ false → r.step ≡ 1 → access_of F p r ≡ reads_root
  unfolding access_of steps_of read_steps
  of_read_lem adds step = rw (adds, step)

  pub of_addition : r.adds ≡ true → access_of F p r ≡ get_or (addition_steps F p) (r.step - 1) starts
  unfolding access_of steps_of
  of_addition adds = rw adds

  pub of_attempt : (σ : Spot) → r.adds ≡ true → At F p r.step σ → access_of F p r ≡ get_or (attempt F (attempt_at σ.second) (node_of F p σ)) σ.position starts
  of_attempt σ adds at = of_addition adds ∙ access_at F p r.step σ at

-- ---- what an access leaves as it was

abbrev pub job : Process → ℕ × Bool × ℕ
job r = (r.operation, r.adds, r.delta)

pub effect_keeps : (F : Form) (p : ℕ) (r : Process) (m : Memory) (a : Access) → job (effect F p r m a).process ≡ job r
unfolding effect moves saw_it saw_children
effect_keeps F p r m starts = refl
effect_keeps F p r m reads_root = refl
effect_keeps F p r m (reads_leaf c) = refl
effect_keeps F p r m (writes_leaf c) = refl
effect_keeps F p r m (links a x) = refl
effect_keeps F p r m (reads x from count) = refl
effect_keeps F p r m (stores a x) = refl
