-- Each column of `reported` is that of `given`, by its clause of demand 3; and a list that passes `meets` meets the clauses of `ListOf`.
use Prim.Native.Nat.{ℕ, zero, suc, ◌+◌, ◌*◌, ◌≤◌, ◌<◌}
use native.Mathlib.Omega.{arith}
use mathlib.Core.Path.{◌≡◌, refl, sym, ap, ap₂, ◌∙◌, fun_ext}
use mathlib.Core.Bool.{Bool, true, false, not, cond, ◌&&◌, ◌||◌}
use mathlib.Core.List.{List, [], ◌∷◌, ◌++◌, map, map-append}
use lib.Dec.{ltb, eqb}
use borrow.Author.Tests.{eqb-true, eqb-false, eq-eqb, ne_eqb, ltb-true, ltb-false, lt-ltb, leb-true, le-leb, not-true}
use Rattle.meaning.specs.Shape.{Form}
use Rattle.meaning.specs.Tree.{processes}
use Rattle.meaning.specs.Run.{State}
use Rattle.meaning.specs.TakenIn.{position_of, listed, rank}
use Rattle.meaning.specs.Plain.{times_in}
use Rattle.history.proofs.Turns.{false_true}
use Rattle.counter.proofs.Overs.{and_both}
use Rattle.demand.specs.InOrder.{is_listed, place_of, write_of, ListOf}
use Rattle.demand.specs.Demand3.{Demand3}
use Rattle.demand.specs.Applied.{those, pairs, anyone, is_done, is_listed_of, is_earlier, is_tie, is_before, is_over, every, all_below, meets, listing_seen, listing_given, standing_seen, standing_given, numbers_seen, numbers_given, counts_seen, counts_given}

-- ---- columns

and_is : (a b : Bool) → (a ≡ true → b ≡ true) → (a && b) ≡ a
and_is true b f = f refl
and_is false b f = refl

-- where the premise gives the rest, those that meet both are those that meet the premise
those_meet : (p c : ℕ → Bool) → ((i : ℕ) → p i ≡ true → c i ≡ true) → (k : ℕ) → those (λ i. p i && c i) k ≡ those p k
those_meet p c f k = ap (λ (q : ℕ → Bool). those q k) (fun_ext (λ i. and_is (p i) (c i) (f i)))

pairs_meet : (p c : ℕ → ℕ → Bool) → ((i j : ℕ) → p i j ≡ true → c i j ≡ true) → (m k : ℕ) → pairs (λ i j. p i j && c i j) m k ≡ pairs p m k
pairs_meet p c f m k = ap (λ (q : ℕ → ℕ → Bool). pairs q m k) (fun_ext (λ i. fun_ext (λ j. and_is (p i j) (c i j) (f i j))))

-- two numbers that agree on those
map_same : (p : ℕ → Bool) (f g : ℕ → ℕ) → ((i : ℕ) → p i ≡ true → f i ≡ g i) → (k : ℕ) → map f (those p k) ≡ map g (those p k)
unfolding those
map_same p f g same zero = refl
map_same p f g same (suc k) =
    map-append f (those p k) _ ∙ ap₂ (λ (a b : List ℕ). a ++ b) (map_same p f g same k) (go (p k) refl) ∙ sym (map-append g (those p k) _)
  where
    go : (t : Bool) → p k ≡ t → map f (cond t (k ∷ []) []) ≡ map g (cond t (k ∷ []) [])
    go true e = ap (λ (x : ℕ). x ∷ []) (same k e)
    go false e = refl

-- ---- the clauses

module _ (F : Form) (st : State) (d : Demand3 F st) where
  abbrev its : List ℕ
  its = listed F st.history

  of_kind : (k i : ℕ) → is_listed_of k F st i ≡ true → (is_listed F st i ≡ true) × ((st.row i).kind ≡ k)
  unfolding is_listed_of
  of_kind k i e = let v = and_both (is_listed F st i) _ e in (v.0, eqb-true (st.row i).kind k v.1)

  done : (k i : ℕ) → is_done k (st.row i) ≡ true → ((st.row i).kind ≡ k) × ((st.row i).finished ≡ true)
  unfolding is_done
  done k i e = let v = and_both (eqb (st.row i).kind k) _ e in (eqb-true (st.row i).kind k v.0, v.1)

  earlier_is : (n : List ℕ) → ListOf F st n → (i j : ℕ) → is_earlier F st i j ≡ true → position_of i n < position_of j n
  unfolding is_earlier
  earlier_is n c i j e =
      let v = and_both (is_listed F st i && is_listed F st j) _ e in
      let w = and_both (is_listed F st i) (is_listed F st j) v.0 in
      c.earlier i j w.0 w.1 (ltb-true (place_of F st i) (place_of F st j) v.1)

  tie_is : (n : List ℕ) → ListOf F st n → (i j : ℕ) → is_tie F st i j ≡ true → position_of i n < position_of j n
  unfolding is_tie place_of write_of
  tie_is n c i j e =
      let v = and_both (is_listed_of 3 F st i && is_listed_of 3 F st j && eqb (place_of F st i) (place_of F st j)) _ e in
      let w = and_both (is_listed_of 3 F st i && is_listed_of 3 F st j) _ v.0 in
      let u = and_both (is_listed_of 3 F st i) (is_listed_of 3 F st j) w.0 in
      let a = of_kind 3 i u.0 in
      let b = of_kind 3 j u.1 in
      c.ties i j a.0 b.0 a.1 b.1 (eqb-true (place_of F st i) (place_of F st j) w.1) (ltb-true (write_of st i) (write_of st j) v.1)

  pub listing_same : (n : List ℕ) → ListOf F st n → listing_seen F st ≡ listing_given F st n
  unfolding listing_seen listing_given is_before
  listing_same n c =
      λ t. record {
        list = sym (d.only n c) t;
        who = map_same anyone _ _ (λ i e. d.list.who i) st.operations t;
        reads = ap (map (place_of F st)) (those_meet (is_listed_of 2 F st) _ (λ i e. let v = of_kind 2 i e in d.places.reads i v.0 v.1) st.operations) t;
        additions = ap (map (place_of F st)) (those_meet (is_listed_of 3 F st) _ (λ i e. let v = of_kind 3 i e in d.places.additions i v.0 v.1) st.operations) t;
        writes = ap (map (write_of st)) (those_meet (is_listed_of 3 F st) _ (λ i e. let v = of_kind 3 i e in d.places.writes i v.0 v.1) st.operations) t;
        earlier = pairs_meet (is_earlier F st) _ (λ i j e. lt-ltb (position_of i its) (position_of j its) (earlier_is its d.list i j e)) st.operations st.operations t;
        ties = pairs_meet (is_tie F st) _ (λ i j e. lt-ltb (position_of i its) (position_of j its) (tie_is its d.list i j e)) st.operations st.operations t;
      }

  over_is : (i j : ℕ) → is_over F st i j ≡ true → rank F st.history i < rank F st.history j
  unfolding is_over
  over_is i j e =
      let v = and_both ((st.row i).finished && ltb (st.row i).ended (st.row j).started) _ e in
      let w = and_both (st.row i).finished _ v.0 in
      d.order i j w.0 (omega (arith, ltb-true (st.row i).ended (st.row j).started w.1)) (leb-true 1 (rank F st.history j) v.1)

  pub standing_same : standing_seen F st ≡ standing_given F st
  unfolding standing_seen standing_given
  standing_same =
      λ t. record {
        finished = those_meet (λ i. (st.row i).finished) _ (λ i e. eq-eqb (times_in i its) 1 (d.finished i e)) st.operations t;
        unfinished = those_meet (λ i. not (st.row i).finished) _ (λ i e. le-leb (times_in i its) 1 (d.unfinished i (not-true (st.row i).finished e))) st.operations t;
        reads = those_meet (λ i. eqb (st.row i).kind 2 && not (st.row i).finished) _ never st.operations t;
        strangers = d.strangers st.operations (omega arith) t;
        order = pairs_meet (is_over F st) _ (λ i j e. lt-ltb (rank F st.history i) (rank F st.history j) (over_is i j e)) st.operations st.operations t;
      }
    where
      never : (i : ℕ) → (eqb (st.row i).kind 2 && not (st.row i).finished) ≡ true → eqb (times_in i its) 0 ≡ true
      never i e =
          let v = and_both (eqb (st.row i).kind 2) _ e in
          eq-eqb (times_in i its) 0 (d.reads i (eqb-true (st.row i).kind 2 v.0) (not-true (st.row i).finished v.1))

  pub numbers_same : numbers_seen F st ≡ numbers_given F st
  unfolding numbers_seen numbers_given
  numbers_same = λ t. record { answers = map_same (λ i. is_done 2 (st.row i)) _ _ (λ i e. let v = done 2 i e in d.answers i v.0 v.1) st.operations t; counter = sym d.counter t }

  pub counts_same : counts_seen F st ≡ counts_given F st
  unfolding counts_seen counts_given
  counts_same =
      λ t. record {
        reads = map_same (λ i. is_done 2 (st.row i)) _ _ (λ i e. let v = done 2 i e in d.read_steps i v.1 v.0) st.operations t;
        additions = map_same (λ i. is_done 3 (st.row i)) _ _ (λ i e. let v = done 3 i e in (d.addition_steps i v.1 v.0).0) st.operations t;
        seconds = those_meet (λ i. is_done 3 (st.row i)) _ (λ i e. let v = done 3 i e in le-leb (st.row i).seconds F.height (d.addition_steps i v.1 v.0).1) st.operations t;
        bound = those_meet (λ i. not (st.row i).finished) _ (λ i e. lt-ltb (st.row i).steps (2 + 8 * F.height) (d.bound i (not-true (st.row i).finished e))) st.operations t;
        idles = map_same anyone _ _ (λ p e. d.idles p) (processes F.height) t;
      }

  -- ---- a list that passes

  every_is : (p : ℕ → Bool) (k : ℕ) → every p k ≡ true → (i : ℕ) → i < k → p i ≡ true
  unfolding every
  every_is p zero e i b = absurd (omega arith)
  every_is p (suc k) e i b =
      let v = and_both (every p k) (p k) e in
      go (eqb i k) refl v.1 (every_is p k v.0 i)
    where
      go : (t : Bool) → eqb i k ≡ t → p k ≡ true → (i < k → p i ≡ true) → p i ≡ true
      go true z last ih = ap p (eqb-true i k z) ∙ last
      go false z last ih = ih (let n = eqb-false i k z in omega arith)

  below_none : (n : List ℕ) → all_below st.operations n ≡ true → (i : ℕ) → st.operations ≤ i → times_in i n ≡ 0
  unfolding all_below times_in
  below_none [] e i b = refl
  below_none (x ∷ n) e i b =
      let v = and_both (ltb x st.operations) _ e in
      rw (ne_eqb i x (λ z. omega (arith, ltb-true x st.operations v.0, z))) (omega (arith, below_none n v.1 i b))

  -- nobody is listed who has not started
  nobody_else : (i : ℕ) → st.operations ≤ i → is_listed F st i ≡ false
  nobody_else i b = go (is_listed F st i) refl
    where
      go : (t : Bool) → is_listed F st i ≡ t → t ≡ false
      go true e = absurd (omega (arith, d.strangers i b, d.list.who i, ap {B = ℕ} (λ t. cond t 1 0) e))
      go false e = refl

  started : (i : ℕ) → is_listed F st i ≡ true → i < st.operations
  started i e = go (ltb i st.operations) refl
    where
      go : (t : Bool) → ltb i st.operations ≡ t → i < st.operations
      go true z = ltb-true i st.operations z
      go false z = absurd (false_true (sym (nobody_else i (ltb-false i st.operations z)) ∙ e))

  -- either premise is met
  earlier_true : (i j : ℕ) → is_listed F st i ≡ true → is_listed F st j ≡ true → place_of F st i < place_of F st j → (is_earlier F st i j || is_tie F st i j) ≡ true
  unfolding is_earlier
  earlier_true i j a b lt = rw (a, b, lt-ltb (place_of F st i) (place_of F st j) lt)

  tie_true : (i j : ℕ) → is_listed F st i ≡ true → is_listed F st j ≡ true → (st.row i).kind ≡ 3 → (st.row j).kind ≡ 3 → place_of F st i ≡ place_of F st j → write_of st i < write_of st j
      → (is_earlier F st i j || is_tie F st i j) ≡ true
  unfolding is_tie is_listed_of
  tie_true i j a b x y z lt =
      rw (a, b, eq-eqb (st.row i).kind 3 x, eq-eqb (st.row j).kind 3 y, eq-eqb (place_of F st i) (place_of F st j) z, lt-ltb (write_of st i) (write_of st j) lt) (or_true (is_earlier F st i j))
    where
      or_true : (t : Bool) → (t || true) ≡ true
      or_true true = refl
      or_true false = refl

  pub meets_is : (n : List ℕ) → meets F st n ≡ true → ListOf F st n
  unfolding meets is_before place_of write_of
  meets_is n e =
      record {
        who = λ i. who i (ltb i st.operations) refl;
        earlier = λ i j a b lt. first i j a b (earlier_true i j a b lt);
        ties = λ i j a b x y z lt. first i j a b (tie_true i j a b x y z lt);
      }
    where
      pairs_pass : ((all_below st.operations n && every (λ i. eqb (times_in i n) (cond (is_listed F st i) 1 0)) st.operations) ≡ true)
          × (every (λ i. every (λ j. not (is_earlier F st i j || is_tie F st i j) || is_before n i j) st.operations) st.operations ≡ true)
      pairs_pass = and_both (all_below st.operations n && every (λ i. eqb (times_in i n) (cond (is_listed F st i) 1 0)) st.operations) _ e

      all_pass : (all_below st.operations n ≡ true) × (every (λ i. eqb (times_in i n) (cond (is_listed F st i) 1 0)) st.operations ≡ true)
      all_pass = and_both (all_below st.operations n) _ pairs_pass.0

      who : (i : ℕ) (t : Bool) → ltb i st.operations ≡ t → times_in i n ≡ cond (is_listed F st i) 1 0
      who i true z = eqb-true (times_in i n) (cond (is_listed F st i) 1 0) (every_is _ st.operations all_pass.1 i (ltb-true i st.operations z))
      who i false z =
          let b = ltb-false i st.operations z in
          below_none n all_pass.0 i b ∙ sym (ap {B = ℕ} (λ t. cond t 1 0) (nobody_else i b))

      first : (i j : ℕ) → is_listed F st i ≡ true → is_listed F st j ≡ true → (is_earlier F st i j || is_tie F st i j) ≡ true → position_of i n < position_of j n
      first i j a b c =
          let pass = every_is _ st.operations (every_is _ st.operations pairs_pass.1 i (started i a)) j (started j b) in
          ltb-true (position_of i n) (position_of j n) (sym (ap (λ (t : Bool). not t || ltb (position_of i n) (position_of j n)) c) ∙ pass)
