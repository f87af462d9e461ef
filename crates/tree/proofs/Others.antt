-- What any step of process p leaves alone, and that the invariant of every other process and of every other two is carried over it.
use Prim.Native.Nat.{ℕ, ◌≤◌}
use native.Mathlib.Omega.{arith}
use mathlib.Core.Path.{◌≡◌, sym, ◌∙◌, subst}
use mathlib.Core.Bool.{Bool, true, false}
use Rattle.tree.specs.Tree.{Tree, Laws}
use Rattle.tree.specs.Machine.{Memory, Stand, Climber, Remembers}
use Rattle.tree.proofs.Invariant.{Places, ClimbingOf, AtRisk, later, lost, Pair, PairOf}

pub true_false : true ≡ false → ⊥
true_false e = let z : ◌≡◌ {A = ℕ} 0 1 = cc in omega arith

module _ {A : Type 0} (T : Tree A) where
  -- A node after a step of p: nothing stored and nobody else's link moved, or p has stored there and nobody is linked.
  pub data AfterStep (p : ℕ) (r : Climber A) (m m' : Memory A) (x : ℕ) : Type 0 where
    untouched : ((q : ℕ) → (q ≡ p → ⊥) → m'.linked x q ≡ m.linked x q) → ((d : ℕ) → T.Over x d → m'.count x d ≡ m.count x d) → AfterStep p r m m' x
    stored : ((q : ℕ) → m'.linked x q ≡ false) → r.stand.climbs ≡ true → r.stand.place ≡ x → m.linked x p ≡ true → ((y : ℕ) → T.Child x y → r.got y ≡ true)
        → ((d : ℕ) → T.Over x d → r.holds d ≤ m'.count x d) → AfterStep p r m m' x

  pub record Frame (p : ℕ) (r : Climber A) (m m' : Memory A) : Type 0 where
    pub grow : (y d : ℕ) → T.Over y d → m.count y d ≤ m'.count y d
    pub remembers : Remembers T m m'
    pub nodes : (x : ℕ) → T.Inner x → AfterStep p r m m' x

  module _ (L : Laws T) (p : ℕ) (r : Climber A) (m m' : Memory A) (f : Frame p r m m') (places : Places T m) where
    -- values read keep what they stand for
    pub still_saw : (y : ℕ) (holds : ℕ → ℕ) → ((d : ℕ) → T.Over y d → holds d ≤ m.count y d)
        → T.joined y (λ d. m.history d (holds d)) ≡ T.joined y (λ d. m'.history d (holds d))
    still_saw y holds most =
        L.joined_of y _ _ (λ d o. sym (f.remembers.still d (holds d) (omega (arith, most d o, places.cap y d o))))

    -- another process q
    module _ (q : ℕ) (n : q ≡ p → ⊥) (t : Climber A) (c : ClimbingOf T m q t) (pair : PairOf T m q t p r) where
      abbrev s : Stand
      s = t.stand

      least_on : (y d : ℕ) → s.climbs ≡ true → t.got y ≡ true → T.Child s.place y → T.Over y d → m'.linked s.place q ≡ true → m'.count s.place d ≤ t.holds d
      least_on y d a g h o e = go (f.nodes s.place (L.inner h))
        where
          go : AfterStep p r m m' s.place → m'.count s.place d ≤ t.holds d
          go (untouched l k) = omega (arith, k d (L.parts h o), c.least y d a g h o (sym (l q n) ∙ e))
          go (stored l a b i g h) = absurd (true_false (sym e ∙ l q))

      second_on : s.climbs ≡ true → s.second ≡ true → s.begun ≡ true → m'.linked s.place q ≡ false → s.target ≤ m'.count s.place s.component
      second_on a b g e = go (c.stands a) (f.nodes s.place (c.stands a).0)
        where
          go : T.Inner s.place × T.Over s.place s.component → AfterStep p r m m' s.place → s.target ≤ m'.count s.place s.component
          go w (untouched l k) = omega (arith, k s.component w.1, c.second a b g (sym (l q n) ∙ e))
          go w (stored l a' same i g' h) =
              let v = L.toward w.0 w.1 in
              omega (
                arith,
                h s.component w.1,
                pair.carried v.0 a a' (sym same) (later b) (subst (λ (x : ℕ). m.linked x p ≡ true) (sym same) i) (g' v.0 v.1) (subst (λ (x : ℕ). T.Child x v.0) (sym same) v.1) v.2,
              )

      pub climbing_on : ClimbingOf T m' q t
      climbing_on =
          record {
            stands = c.stands;
            below = λ y a h o. omega (arith, c.below y a h o, f.grow y s.component o);
            most = λ y d a g h o. omega (arith, c.most y d a g h o, f.grow y d o);
            least = least_on;
            mine = c.mine;
            second = second_on;
            home = λ a o. omega (arith, c.home a o, f.grow T.root s.component o);
            saw = λ y a g h. c.saw y a g h ∙ still_saw y t.holds (λ d o. c.most y d a g h o);
          }

    -- whether q' is at risk was so before, where its node has not been stored at
    pub risk_before : (q' : ℕ) → (q' ≡ p → ⊥) → (s : Stand) → m'.linked s.place q' ≡ m.linked s.place q' → AtRisk T m' q' s → AtRisk T m q' s
    risk_before q' n s e (later b) = later b
    risk_before q' n s e (lost b l) = lost b (sym e ∙ l)

    -- two others
    pub pair_on : (q : ℕ) → (q ≡ p → ⊥) → (s : Stand) → (q' : ℕ) → (q' ≡ p → ⊥) → (t : Stand) (got : ℕ → Bool) (holds : ℕ → ℕ)
        → Pair T m q s q' t got holds → Pair T m' q s q' t got holds
    pair_on q n s q' n' t got holds old = record { carried = λ y a b same risk l g h o. go y a b same risk l g h o (f.nodes t.place (L.inner h)) }
      where
        go : (y : ℕ) → s.climbs ≡ true → t.climbs ≡ true → s.place ≡ t.place → AtRisk T m' q s → m'.linked t.place q' ≡ true → got y ≡ true
            → T.Child t.place y → T.Over y s.component → AfterStep p r m m' t.place → s.target ≤ holds s.component
        go y a b same risk l g h o (untouched e k) =
            old.carried y a b same (risk_before q n s (subst (λ (x : ℕ). m'.linked x q ≡ m.linked x q) (sym same) (e q n)) risk) (sym (e q' n') ∙ l) g h o
        go y a b same risk l g h o (stored e a' same' i g' h') = absurd (true_false (sym l ∙ e q'))
