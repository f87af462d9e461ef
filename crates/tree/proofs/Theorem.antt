-- The paper's Theorem 5, as far as it speaks of the tree: the invariant holds through every step. So at every time each place holds the
-- value that belongs to those writes that are in it, and a process that has done with the root finds its own write in the root.
use Prim.Native.Nat.{ℕ}
use native.Mathlib.Omega.{arith}
use mathlib.Core.Path.{◌≡◌, sym, ap, ◌∙◌, subst⁻¹}
use mathlib.Core.Bool.{false}
use Rattle.tree.specs.Tree.{Tree, Laws}
use Rattle.tree.specs.Machine.{Climber, Machine, Move, rests, writes, links, reads, stores, fails, Step}
use Rattle.tree.proofs.Invariant.{ClimbingOf, PairOf, Invariant}
use Rattle.tree.proofs.Others.{true_false, climbing_on, pair_on}
use Rattle.tree.proofs.Stands.{resting}
use Rattle.tree.proofs.Moves.{by_number, Shown, rest, link, read, fail, store, write}

module _ {A : Type 0} (T : Tree A) (L : Laws T) where
  -- the invariant at the beginning: nothing written, nobody climbs, and every place holds what belongs there
  pub begins : (s : Machine A) → ((y d : ℕ) → s.memory.count y d ≡ 0) → ((y : ℕ) → s.memory.value y ≡ T.joined y (λ d. s.memory.history d 0))
      → ((p : ℕ) → (s.process p).stand.climbs ≡ false) → ((p : ℕ) → (s.process p).stand.target ≡ 0) → Invariant T s
  begins s none values idle unwritten =
      record {
        places =
            record {
              mono = λ x y d h o. omega (arith, none x d);
              cap = λ y d o. omega (arith, none y d);
              values = λ y. values y ∙ L.joined_of y _ _ (λ d o. ap (s.memory.history d) (sym (none y d)));
            };
        climbing = λ p. (resting T L s.memory p s.process (s.process p) (idle p) (λ o. omega (arith, unwritten p))).climbing;
        pair = λ p q. record { carried = λ y a b same risk l g h o. absurd (true_false (sym a ∙ idle p)) };
      }

  module _ (p : ℕ) (s s' : Machine A) (i : Invariant T s) where
    shown : Move T p s.memory s'.memory (s.process p) (s'.process p)
        → Shown T L p s.memory s'.memory (s.process p) (s'.process p) s.process i.places (i.climbing p) (λ q. i.pair p q) (λ q. i.pair q p) i.climbing
    shown (rests a) = rest T L p _ _ _ _ _ _ _ _ _ _ a
    shown (writes c x a) = write T L p _ _ _ _ _ _ _ _ _ _ c x a
    shown (links c k x b a) = link T L p _ _ _ _ _ _ _ _ _ _ c k x b a
    shown (reads c k x b a) = read T L p _ _ _ _ _ _ _ _ _ _ c k x b a
    shown (stores c k x b a) = store T L p _ _ _ _ _ _ _ _ _ _ c k x b a
    shown (fails c k x b a) = fail T L p _ _ _ _ _ _ _ _ _ _ c k x b a

    pub keeps : Step T p s s' → Invariant T s'
    keeps st = record { places = v.places'; climbing = λ q. climbing_at q; pair = λ q t. pair_at q t }
      where
        v : Shown T L p s.memory s'.memory (s.process p) (s'.process p) s.process i.places (i.climbing p) (λ q. i.pair p q) (λ q. i.pair q p) i.climbing
        v = shown st.move

        climbing_at : (q : ℕ) → ClimbingOf T s'.memory q (s'.process q)
        climbing_at q =
            by_number q p (λ e. subst⁻¹ (λ (x : ℕ). ClimbingOf T s'.memory x (s'.process x)) e v.acting.climbing)
            (λ n. subst⁻¹ (ClimbingOf T s'.memory q) (st.others q n) (climbing_on T L p (s.process p) _ _ v.frame i.places q n (s.process q) (i.climbing q) (i.pair q p)))

        pair_at : (q t : ℕ) → PairOf T s'.memory q (s'.process q) t (s'.process t)
        pair_at q t =
            by_number q p
            (λ e. subst⁻¹ (λ (x : ℕ). PairOf T s'.memory x (s'.process x) t (s'.process t)) e
            (by_number t p
            (λ d. subst⁻¹ (λ (x : ℕ). PairOf T s'.memory p (s'.process p) x (s'.process x)) d
            (record { carried = λ y a b same risk l g h o. v.acting.climbing.mine y a g h o }))
            (λ m. subst⁻¹ (PairOf T s'.memory p (s'.process p) t) (st.others t m) (v.acting.ahead t m))))
            (λ n. by_number t p
            (λ d. subst⁻¹ (λ (x : ℕ). PairOf T s'.memory q (s'.process q) x (s'.process x)) d
            (subst⁻¹ (λ (r : Climber A). PairOf T s'.memory q r p (s'.process p)) (st.others q n) (v.acting.behind q n)))
            (λ m. subst⁻¹ (PairOf T s'.memory q (s'.process q) t) (st.others t m)
            (subst⁻¹ (λ (r : Climber A). PairOf T s'.memory q r t (s.process t)) (st.others q n)
            (pair_on T L p (s.process p) _ _ v.frame i.places q n (s.process q).stand t m (s.process t).stand (s.process t).got (s.process t).holds (i.pair q t)))))
