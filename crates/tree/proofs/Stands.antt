-- The acting process after its step, by where it then stands: resting, before an attempt, or done with a node.
use Prim.Native.Nat.{ℕ, ◌≤◌}
use mathlib.Core.Path.{◌≡◌, sym, ◌∙◌, subst, subst⁻¹}
use mathlib.Core.Bool.{Bool, true, false}
use Rattle.tree.specs.Tree.{Tree, Laws}
use Rattle.tree.specs.Machine.{Memory, Stand, Climber, trying, before, Onward, up, end}
use Rattle.tree.proofs.Invariant.{Climbing, ClimbingOf, AtRisk, later, lost, Pair, PairOf}
use Rattle.tree.proofs.Others.{true_false}

module _ {A : Type 0} (T : Tree A) (L : Laws T) (m : Memory A) (p : ℕ) where
  -- The acting process's part of the invariant: its own, and with every other.
  pub record Acting (r : Climber A) (process : ℕ → Climber A) : Type 0 where
    pub climbing : ClimbingOf T m p r
    pub ahead : (q : ℕ) → (q ≡ p → ⊥) → PairOf T m p r q (process q)
    pub behind : (q : ℕ) → (q ≡ p → ⊥) → PairOf T m q (process q) p r

  module _ (process : ℕ → Climber A) where
    -- one that does not climb
    pub resting : (r : Climber A) → r.stand.climbs ≡ false → (T.Over T.root r.stand.component → r.stand.target ≤ m.count T.root r.stand.component) → Acting r process
    resting r e home =
        record {
          climbing =
              record {
                stands = λ a. absurd (no a);
                below = λ y a h o. absurd (no a);
                most = λ y d a g h o. absurd (no a);
                least = λ y d a g h o l. absurd (no a);
                mine = λ y a g h o. absurd (no a);
                second = λ a b g l. absurd (no a);
                home = λ a o. home o;
                saw = λ y a g h. absurd (no a);
              };
          ahead = λ q n. record { carried = λ y a b same risk l g h o. absurd (no a) };
          behind = λ q n. record { carried = λ y a b same risk l g h o. absurd (no b) };
        }
      where
        no : r.stand.climbs ≡ true → ⊥
        no a = true_false (sym a ∙ e)

    module _ (c k x : ℕ) (second : Bool) (got : ℕ → Bool) (none : (y : ℕ) → got y ≡ false) (node : T.Inner x) (over : T.Over x c)
        (below : (y : ℕ) → T.Child x y → T.Over y c → k ≤ m.count y c) where
      unread : (y : ℕ) → got y ≡ true → ⊥
      unread y g = true_false (sym g ∙ none y)

      fresh_climbing : (seen : ℕ → A) (holds : ℕ → ℕ) → Climbing T m p (before c k x second) got seen holds
      unfolding before trying
      fresh_climbing seen holds =
          record {
            stands = λ a. (node, over);
            below = λ y a h o. below y h o;
            most = λ y d a g h o. absurd (unread y g);
            least = λ y d a g h o l. absurd (unread y g);
            mine = λ y a g h o. absurd (unread y g);
            second = λ a b g l. absurd (true_false (sym g));
            home = λ a o. absurd (true_false a);
            saw = λ y a g h. absurd (unread y g);
          }

      fresh_behind : (q : ℕ) (s : Stand) (holds : ℕ → ℕ) → Pair T m q s p (before c k x second) got holds
      fresh_behind q s holds = record { carried = λ y a b same risk l g h o. absurd (unread y g) }

    -- one that stands before an attempt and has read nothing; where it is the second, what is at risk must be shown
    pub waiting : (c k x : ℕ) (second : Bool) (r : Climber A) → r.stand ≡ before c k x second → ((y : ℕ) → r.got y ≡ false) → T.Inner x → T.Over x c
        → ((y : ℕ) → T.Child x y → T.Over y c → k ≤ m.count y c)
        → ((q : ℕ) → (q ≡ p → ⊥) → Pair T m p (before c k x second) q (process q).stand (process q).got (process q).holds)
        → Acting r process
    waiting c k x second r is none node over below ahead =
        record {
          climbing = subst⁻¹ (λ (s : Stand). Climbing T m p s r.got r.seen r.holds) is (fresh_climbing c k x second r.got none node over below r.seen r.holds);
          ahead = λ q n. subst⁻¹ (λ (s : Stand). Pair T m p s q (process q).stand (process q).got (process q).holds) is (ahead q n);
          behind = λ q n. subst⁻¹ (λ (s : Stand). Pair T m q (process q).stand p s r.got r.holds) is (fresh_behind c k x second r.got none node over below q (process q).stand r.holds);
        }

    -- before a first attempt nothing is at risk
    pub safe : (c k x : ℕ) (q : ℕ) (t : Stand) (got : ℕ → Bool) (holds : ℕ → ℕ) → Pair T m p (before c k x false) q t got holds
    unfolding before trying
    safe c k x q t got holds = record { carried = λ y a b same risk l g h o. absurd (no risk) }
      where
        no : AtRisk T m p (before c k x false) → ⊥
        no (later b) = true_false (sym b)
        no (lost b l) = true_false (sym b)

    -- one that is done with x, where its write is
    pub onward : (c k x : ℕ) (r : Climber A) → T.Over x c → k ≤ m.count x c → Onward T c k x r → Acting r process
    onward c k x r over taken (up z h is none) =
        waiting c k z false r is none (L.inner h) (L.parts h over)
        (λ y g o. subst (λ (w : ℕ). k ≤ m.count w c) (L.only h g over o) taken)
        (λ q n. safe c k z q (process q).stand (process q).got (process q).holds)
    onward c k x r over taken (end top e d t) =
        resting r e (λ o. subst⁻¹ (λ (w : ℕ). w ≤ m.count T.root r.stand.component) t (subst⁻¹ (λ (w : ℕ). k ≤ m.count T.root w) d (subst (λ (w : ℕ). k ≤ m.count w c) top taken)))
