-- Each kind of step: what it does to the places, and where the acting process then stands.
use Prim.Native.Nat.{ℕ, ◌≤◌}
use native.Mathlib.Omega.{arith}
use mathlib.Core.Path.{◌≡◌, refl, sym, ap, ◌∙◌, subst, subst⁻¹}
use mathlib.Core.Logic.{⊎_elim}
use mathlib.Core.Bool.{Bool, true, false}
use lib.Dec.{eqb}
use borrow.Author.Tests.{eqb-true, eqb-false}
use Rattle.tree.specs.Tree.{Tree, Laws}
use Rattle.tree.specs.Machine.{Memory, Stand, Climber, trying, before, Stays, Rests, Writes, Links, Got, now, earlier, Reads, Stores, Failed, again, enough, Fails}
use Rattle.tree.proofs.Invariant.{Places, Climbing, ClimbingOf, AtRisk, later, lost, Pair, PairOf}
use Rattle.tree.proofs.Others.{true_false, AfterStep, untouched, stored, Frame, still_saw}
use Rattle.tree.proofs.Stands.{Acting, resting, waiting, safe, onward}

-- one number or another
pub by_number : {P : Type 0} (a b : ℕ) → (a ≡ b → P) → ((a ≡ b → ⊥) → P) → P
by_number {P} a b same other = go (eqb a b) refl
  where
    go : (t : Bool) → eqb a b ≡ t → P
    go true e = same (eqb-true a b e)
    go false e = other (eqb-false a b e)

module _ {A : Type 0} (T : Tree A) (L : Laws T) (p : ℕ) (m m' : Memory A) (r r' : Climber A) (process : ℕ → Climber A)
    (places : Places T m) (climbing : ClimbingOf T m p r) (ahead : (q : ℕ) → PairOf T m p r q (process q)) (behind : (q : ℕ) → PairOf T m q (process q) p r)
    (each : (q : ℕ) → ClimbingOf T m q (process q)) where
  -- what a step shows
  pub record Shown : Type 0 where
    pub frame : Frame T p r m m'
    pub places' : Places T m'
    pub acting : Acting T L m' p r' process

  -- ---- values and counts stay

  stay_frame : Stays T m m' → ((x q : ℕ) → (q ≡ p → ⊥) → m'.linked x q ≡ m.linked x q) → Frame T p r m m'
  stay_frame s links =
      record {
        grow = λ y d o. omega (arith, s.count y d o);
        remembers = s.remembers;
        nodes = λ x i. untouched (λ q n. links x q n) (λ d o. s.count x d o);
      }

  stay_places : Stays T m m' → Places T m'
  stay_places s =
      record {
        mono = λ x y d h o. omega (arith, s.count x d (L.parts h o), s.count y d o, places.mono x y d h o);
        cap = λ y d o. omega (arith, s.count y d o, places.cap y d o, s.count (T.leaf d) d (L.lies o));
        values = λ y. s.value y ∙ places.values y ∙ L.joined_of y _ _ (λ d o. sym (ap (m'.history d) (s.count y d o) ∙ s.remembers.still d (m.count y d) (places.cap y d o)));
      }

  -- ---- resting, LL, child reads, failed SC

  pub rest : Rests T p m m' r r' → Shown
  rest s =
      record {
        frame = stay_frame s.stays (λ x q n. s.links x q);
        places' = stay_places s.stays;
        acting = resting T L m' p process r' s.is (λ o. ⊎_elim (kept o) (λ z. omega (arith, z)) s.home);
      }
    where
      kept : T.Over T.root r'.stand.component → (r'.stand.component ≡ r.stand.component) × (r'.stand.target ≡ r.stand.target)
          → r'.stand.target ≤ m'.count T.root r'.stand.component
      kept o e =
          let o' = subst (T.Over T.root) e.0 o in
          subst⁻¹ (λ (d : ℕ). r'.stand.target ≤ m'.count T.root d) e.0
          (omega (arith, e.1, climbing.home s.was o', s.stays.count T.root r.stand.component o'))

  -- where the process stood at an attempt at x
  module _ (c k x : ℕ) (second : Bool) where
    module _ (begun : Bool) (was : r.stand ≡ trying c k x second begun) where
      abbrev here : Stand
      here = trying c k x second begun

      was_climbing : Climbing T m p here r.got r.seen r.holds
      was_climbing = subst (λ (s : Stand). Climbing T m p s r.got r.seen r.holds) was climbing

      was_ahead : (q : ℕ) → Pair T m p here q (process q).stand (process q).got (process q).holds
      was_ahead q = subst (λ (s : Stand). Pair T m p s q (process q).stand (process q).got (process q).holds) was (ahead q)

      was_behind : (q : ℕ) → Pair T m q (process q).stand p here r.got r.holds
      was_behind q = subst (λ (s : Stand). Pair T m q (process q).stand p s r.got r.holds) was (behind q)

      standing : T.Inner x × T.Over x c
      unfolding trying
      standing = was_climbing.stands refl

      -- its write is in the child, and stays there
      pub below_here : Frame T p r m m' → (y : ℕ) → T.Child x y → T.Over y c → k ≤ m'.count y c
      unfolding trying
      below_here f y h o = omega (arith, was_climbing.below y refl h o, f.grow y c o)

    pub link : Links T c k x second p m m' r r' → Shown
    unfolding before trying
    link s =
        record {
          frame = f;
          places' = stay_places s.stays;
          acting =
              record {
                climbing = subst⁻¹ (λ (t : Stand). Climbing T m' p t r'.got r'.seen r'.holds) s.stand now_climbing;
                ahead = λ q n. subst⁻¹ (λ (t : Stand). Pair T m' p t q (process q).stand (process q).got (process q).holds) s.stand (now_ahead q n);
                behind = λ q n. subst⁻¹ (λ (t : Stand). Pair T m' q (process q).stand p t r'.got r'.holds) s.stand (record { carried = λ y a b same risk l g h o. absurd (unread y g) });
              };
        }
      where
        f : Frame T p r m m'
        f = stay_frame s.stays (λ y q n. s.others y q n)

        unread : (y : ℕ) → r'.got y ≡ true → ⊥
        unread y g = true_false (sym g ∙ s.got y)

        now_climbing : Climbing T m' p (trying c k x second true) r'.got r'.seen r'.holds
        now_climbing =
            record {
              stands = λ a. standing false s.was;
              below = λ y a h o. below_here false s.was f y h o;
              most = λ y d a g h o. absurd (unread y g);
              least = λ y d a g h o l. absurd (unread y g);
              mine = λ y a g h o. absurd (unread y g);
              second = λ a b g l. absurd (true_false (sym s.linked ∙ l));
              home = λ a o. absurd (true_false a);
              saw = λ y a g h. absurd (unread y g);
            }

        was_at_risk : AtRisk T m' p (trying c k x second true) → AtRisk T m p (trying c k x second false)
        was_at_risk (later b) = later b
        was_at_risk (lost b l) = absurd (true_false (sym s.linked ∙ l))

        now_ahead : (q : ℕ) → (q ≡ p → ⊥) → Pair T m' p (trying c k x second true) q (process q).stand (process q).got (process q).holds
        now_ahead q n =
            record { carried = λ y a b same risk l g h o. (was_ahead false s.was q).carried y a b same (was_at_risk risk) (sym (s.others (process q).stand.place q n) ∙ l) g h o }

    pub read : Reads T c k x second p m m' r r' → Shown
    unfolding trying
    read s =
        record {
          frame = f;
          places' = places'';
          acting =
              record {
                climbing = subst⁻¹ (λ (t : Stand). Climbing T m' p t r'.got r'.seen r'.holds) s.stand now_climbing;
                ahead = λ q n. subst⁻¹ (λ (t : Stand). Pair T m' p t q (process q).stand (process q).got (process q).holds) s.stand (now_ahead q);
                behind = λ q n. subst⁻¹ (λ (t : Stand). Pair T m' q (process q).stand p t r'.got r'.holds) s.stand (now_behind q n);
              };
        }
      where
        f : Frame T p r m m'
        f = stay_frame s.stays (λ y q n. s.links y q)

        places'' : Places T m'
        places'' = stay_places s.stays

        old : Climbing T m p (trying c k x second true) r.got r.seen r.holds
        old = was_climbing true s.was

        most_of_lem : (y d : ℕ) → T.Child x y → T.Over y d → Got T y m r r' → r'.holds d ≤ m'.count y d
        most_of_lem y d h o (now v e) = omega (arith, e d o, s.stays.count y d o)
        most_of_lem y d h o (earlier g v e) = omega (arith, e d o, old.most y d refl g h o, s.stays.count y d o)

        least_of : (y d : ℕ) → T.Child x y → T.Over y d → m'.linked x p ≡ true → Got T y m r r' → m'.count x d ≤ r'.holds d
        least_of y d h o l (now v e) = omega (arith, e d o, places.mono x y d h o, s.stays.count x d (L.parts h o))
        least_of y d h o l (earlier g v e) = omega (arith, e d o, old.least y d refl g h o (sym (s.links x p) ∙ l), s.stays.count x d (L.parts h o))

        mine_of : (y : ℕ) → T.Child x y → T.Over y c → Got T y m r r' → k ≤ r'.holds c
        mine_of y h o (now v e) = omega (arith, e c o, old.below y refl h o)
        mine_of y h o (earlier g v e) = omega (arith, e c o, old.mine y refl g h o)

        saw_of : (y : ℕ) → T.Child x y → Got T y m r r' → r'.seen y ≡ T.joined y (λ d. m'.history d (r'.holds d))
        saw_of y h (now v e) = v ∙ sym (s.stays.value y) ∙ places''.values y ∙ L.joined_of y _ _ (λ d o. ap (m'.history d) (s.stays.count y d o ∙ sym (e d o)))
        saw_of y h (earlier g v e) =
            v ∙ old.saw y refl g h ∙ still_saw T L p r m m' f places y r.holds (λ d o. old.most y d refl g h o) ∙ L.joined_of y _ _ (λ d o. ap (m'.history d) (sym (e d o)))

        now_climbing : Climbing T m' p (trying c k x second true) r'.got r'.seen r'.holds
        now_climbing =
            record {
              stands = old.stands;
              below = λ y a h o. below_here true s.was f y h o;
              most = λ y d a g h o. most_of_lem y d h o (s.got y h g);
              least = λ y d a g h o l. least_of y d h o l (s.got y h g);
              mine = λ y a g h o. mine_of y h o (s.got y h g);
              second = λ a b g l. omega (arith, old.second a b g (sym (s.links x p) ∙ l), s.stays.count x c (standing true s.was).1);
              home = λ a o. absurd (true_false a);
              saw = λ y a g h. saw_of y h (s.got y h g);
            }

        was_at_risk : (q : ℕ) (t : Stand) → AtRisk T m' q t → AtRisk T m q t
        was_at_risk q t (later b) = later b
        was_at_risk q t (lost b l) = lost b (sym (s.links t.place q) ∙ l)

        now_ahead : (q : ℕ) → Pair T m' p (trying c k x second true) q (process q).stand (process q).got (process q).holds
        now_ahead q =
            record { carried = λ y a b same risk l g h o. (was_ahead true s.was q).carried y a b same (was_at_risk p _ risk) (sym (s.links (process q).stand.place q) ∙ l) g h o }

        now_behind : (q : ℕ) → (q ≡ p → ⊥) → Pair T m' q (process q).stand p (trying c k x second true) r'.got r'.holds
        now_behind q n = record { carried = λ y a b same risk l g h o. go y a same risk l h o (s.got y h g) }
          where
            t : Stand
            t = (process q).stand

            go : (y : ℕ) → t.climbs ≡ true → t.place ≡ x → AtRisk T m' q t → m'.linked x p ≡ true → T.Child x y → T.Over y t.component → Got T y m r r'
                → t.target ≤ r'.holds t.component
            go y a same risk l h o (now v e) = omega (arith, e t.component o, (each q).below y a (subst⁻¹ (λ (w : ℕ). T.Child w y) same h) o)
            go y a same risk l h o (earlier g v e) =
                omega (arith, e t.component o, (was_behind true s.was q).carried y a refl same (was_at_risk q t risk) (sym (s.links x p) ∙ l) g h o)

    pub fail : Fails T c k x second p m m' r r' → Shown
    unfolding before trying
    fail s = record { frame = f; places' = stay_places s.stays; acting = go second refl s.then }
      where
        f : Frame T p r m m'
        f = stay_frame s.stays (λ y q n. s.links y q)

        w : T.Inner x × T.Over x c
        w = standing true s.was

        now_ahead : (t : Bool) (q : ℕ) → Pair T m' p (trying c k x t false) q (process q).stand (process q).got (process q).holds
        now_ahead t q =
            record { carried = λ y a b same risk l g h o. (was_ahead true s.was q).carried y refl b same (lost refl s.unlinked) (sym (s.links (process q).stand.place q) ∙ l) g h o }

        go : (t : Bool) → second ≡ t → Failed T c k x r' t → Acting T L m' p r' process
        go false e (again is none) = waiting T L m' p process c k x true r' is none w.0 w.1 (below_here true s.was f) (λ q n. now_ahead true q)
        go true e (enough o) =
            onward T L m' p process c k x r' w.1 (omega (arith, (was_climbing true s.was).second refl e refl s.unlinked, s.stays.count x c w.1)) o

    -- ---- a successful SC

    pub store : Stores T c k x second p m m' r r' → Shown
    unfolding trying
    store s =
        record {
          frame = f;
          places' = record { mono = λ z y d h o. mono_of z y d h o; cap = λ y d o. cap_of y d o; values = values_of };
          acting = onward T L m' p process c k x r' w.1 taken s.onward;
        }
      where
        old : Climbing T m p (trying c k x second true) r.got r.seen r.holds
        old = was_climbing true s.was

        w : T.Inner x × T.Over x c
        w = standing true s.was

        grow_of : (y d : ℕ) → T.Over y d → m.count y d ≤ m'.count y d
        grow_of y d o =
            by_number y x
            (λ e. subst⁻¹ (λ (z : ℕ). m.count z d ≤ m'.count z d) e (omega (arith, s.count d (subst (λ (z : ℕ). T.Over z d) e o))))
            (λ n. omega (arith, s.elsewhere.count y d n o))

        -- what is held is in the child towards it
        held : (d : ℕ) → T.Over x d → (y : ℕ) × T.Child x y × T.Over y d × (r.holds d ≤ m.count y d) × (m.count x d ≤ r.holds d)
        held d o =
            let v = L.toward w.0 o in
            (v.0, v.1, v.2, old.most v.0 d refl (s.read v.0 v.1) v.1 v.2, old.least v.0 d refl (s.read v.0 v.1) v.1 v.2 s.linked)

        f : Frame T p r m m'
        f =
            record {
              grow = grow_of;
              remembers = s.remembers;
              nodes = λ z i. by_number z x
                  (λ e. subst⁻¹ (AfterStep T p r m m') e
                  (stored s.emptied (ap (λ (t : Stand). t.climbs) s.was) (ap (λ (t : Stand). t.place) s.was) s.linked s.read (λ d o. omega (arith, s.count d o))))
                  (λ n. untouched (λ q a. s.others z q n) (λ d o. s.elsewhere.count z d n o));
            }

        taken : k ≤ m'.count x c
        taken = let v = L.toward w.0 w.1 in omega (arith, s.count c w.1, old.mine v.0 refl (s.read v.0 v.1) v.1 v.2)

        mono_of : (z y d : ℕ) → T.Child z y → T.Over y d → m'.count z d ≤ m'.count y d
        mono_of z y d h o =
            by_number z x
            (λ e. let h' = subst (λ (v : ℕ). T.Child v y) e h in
            subst⁻¹ (λ (v : ℕ). m'.count v d ≤ m'.count y d) e
            (omega (arith, s.count d (L.parts h' o), places.mono x y d h' o, old.most y d refl (s.read y h') h' o, grow_of y d o)))
            (λ n. omega (arith, s.elsewhere.count z d n (L.parts h o), places.mono z y d h o, grow_of y d o))

        cap_of : (y d : ℕ) → T.Over y d → m'.count y d ≤ m'.count (T.leaf d) d
        cap_of y d o =
            by_number y x
            (λ e. let o' = subst (λ (v : ℕ). T.Over v d) e o in
            let v = held d o' in
            subst⁻¹ (λ (v : ℕ). m'.count v d ≤ m'.count (T.leaf d) d) e
            (omega (arith, s.count d o', places.cap x d o', places.cap v.0 d v.2, v.3, grow_of (T.leaf d) d (L.lies o))))
            (λ n. omega (arith, s.elsewhere.count y d n o, places.cap y d o, grow_of (T.leaf d) d (L.lies o)))

        values_of : (y : ℕ) → m'.value y ≡ T.joined y (λ d. m'.history d (m'.count y d))
        values_of y =
            by_number y x (λ e. subst⁻¹ (λ (v : ℕ). m'.value v ≡ T.joined v (λ d. m'.history d (m'.count v d))) e here)
            (λ n. s.elsewhere.value y n ∙ places.values y ∙ L.joined_of y _ _ (λ d o. sym (ap (m'.history d) (s.elsewhere.count y d n o) ∙ s.remembers.still d (m.count y d) (places.cap y d o))))
          where
            whole : (d : ℕ) → T.Over x d → r.holds d ≡ m'.count x d
            whole d o = let v = held d o in omega (arith, s.count d o, v.4)

            known : (d : ℕ) → T.Over x d → m.history d (r.holds d) ≡ m'.history d (m'.count x d)
            known d o =
                let v = held d o in
                sym (s.remembers.still d (r.holds d) (omega (arith, v.3, places.cap v.0 d v.2))) ∙ ap (m'.history d) (whole d o)

            here : m'.value x ≡ T.joined x (λ d. m'.history d (m'.count x d))
            here =
                s.value ∙ L.node_of x r.seen (λ z. T.joined z (λ d. m.history d (r.holds d))) w.0 (λ z h. old.saw z refl (s.read z h) h)
                ∙ sym (L.at_node x (λ d. m.history d (r.holds d)) w.0) ∙ L.joined_of x _ _ known

  -- ---- the write at a component

  pub write : (c x : ℕ) → Writes T c x p m m' r r' → Shown
  write c x s =
      record {
        frame = f;
        places' = record { mono = mono_of; cap = cap_of; values = values_of };
        acting = waiting T L m' p process c (m'.count (T.leaf c) c) x false r' s.stand s.got (L.inner s.above) (L.parts s.above s.leaf) below
            (λ q n. safe T L m' p process c (m'.count (T.leaf c) c) x q (process q).stand (process q).got (process q).holds);
      }
    where
      not_leaf : (z : ℕ) → T.Inner z → z ≡ T.leaf c → ⊥
      not_leaf z i e = L.outer s.leaf (subst T.Inner e i)

      grow_of : (y d : ℕ) → T.Over y d → m.count y d ≤ m'.count y d
      grow_of y d o =
          by_number y (T.leaf c)
          (λ e. let d' = L.own s.leaf (subst (λ (z : ℕ). T.Over z d) e o) in
          subst⁻¹ (λ (v : ℕ). m.count v d ≤ m'.count v d) e (subst⁻¹ (λ (v : ℕ). m.count (T.leaf c) v ≤ m'.count (T.leaf c) v) d' (omega (arith, s.count))))
          (λ n. omega (arith, s.elsewhere.count y d n o))

      f : Frame T p r m m'
      f =
          record {
            grow = grow_of;
            remembers = s.remembers;
            nodes = λ z i. untouched (λ q n. s.links z q) (λ d o. s.elsewhere.count z d (not_leaf z i) o);
          }

      below : (y : ℕ) → T.Child x y → T.Over y c → m'.count (T.leaf c) c ≤ m'.count y c
      below y h o = subst (λ (z : ℕ). m'.count (T.leaf c) c ≤ m'.count z c) (L.only s.above h s.leaf o) (omega arith)

      mono_of : (z y d : ℕ) → T.Child z y → T.Over y d → m'.count z d ≤ m'.count y d
      mono_of z y d h o = omega (arith, s.elsewhere.count z d (not_leaf z (L.inner h)) (L.parts h o), places.mono z y d h o, grow_of y d o)

      cap_of : (y d : ℕ) → T.Over y d → m'.count y d ≤ m'.count (T.leaf d) d
      cap_of y d o =
          by_number y (T.leaf c)
          (λ e. let d' = L.own s.leaf (subst (λ (z : ℕ). T.Over z d) e o) in
          subst⁻¹ (λ (v : ℕ). m'.count v d ≤ m'.count (T.leaf d) d) e (subst⁻¹ (λ (v : ℕ). m'.count (T.leaf c) v ≤ m'.count (T.leaf v) v) d' (omega arith)))
          (λ n. omega (arith, s.elsewhere.count y d n o, places.cap y d o, grow_of (T.leaf d) d (L.lies o)))

      values_of : (y : ℕ) → m'.value y ≡ T.joined y (λ d. m'.history d (m'.count y d))
      values_of y =
          by_number y (T.leaf c)
          (λ e. subst⁻¹ (λ (v : ℕ). m'.value v ≡ T.joined v (λ d. m'.history d (m'.count v d))) e (s.value ∙ sym (L.at_leaf c (λ d. m'.history d (m'.count (T.leaf c) d)) s.leaf)))
          (λ n. s.elsewhere.value y n ∙ places.values y ∙ L.joined_of y _ _ (λ d o. sym (ap (m'.history d) (s.elsewhere.count y d n o) ∙ s.remembers.still d (m.count y d) (places.cap y d o))))
