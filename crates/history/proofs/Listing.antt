-- Who is listed, and who waits to be, by the history.
use Prim.Native.Nat.{ℕ, ◌+◌}
use native.Mathlib.Omega.{arith}
use mathlib.Core.Path.{◌≡◌, refl, sym, ap, ◌∙◌, subst}
use mathlib.Core.Logic.{⊎_elim}
use mathlib.Core.Bool.{Bool, true, false, not, ◌&&◌}
use mathlib.Core.List.Memᴰ
use mathlib.Core.List.{List, [], ◌∷◌, ◌++◌, Memᴰ}
use lib.ListN.{length, length-append}
use borrow.Author.Tests.{ltb-true, lt-ltb}
use Rattle.meaning.specs.Shape.{Form}
use Rattle.meaning.specs.Access.{is_leaf_write, is_root_read}
use Rattle.meaning.specs.Run.{Entry}
use Rattle.meaning.specs.TakenIn.{keep, placed, listed}
use Rattle.taken.specs.CountIn.{Waiter, waiter_of, waiters, is_counted, operations_of}
use Rattle.taken.proofs.Agree.{Once, more}
use Rattle.taken.proofs.Lists.{keep_append, mem_keep, keep_same, keep_keep, keep_all, keep_none, mem_operations}
use Rattle.history.proofs.Did.{did, did_now, did_on}
use Rattle.history.proofs.Waiters.{root_count, newly, placed_is, waiters_write, waiters_still, count_grows}

-- a waiter that is counted stays counted
counted_on : (F : Form) (e : Entry) (es : List Entry) (w : Waiter) → is_counted (root_count F es) w ≡ true → is_counted (root_count F (e ∷ es)) w ≡ true
unfolding is_counted
counted_on F e es w c =
    lt-ltb w.turn (root_count F (e ∷ es) w.component) (omega (arith, ltb-true w.turn (root_count F es w.component) c, count_grows F.height F.height w.component e es))

-- ---- who is listed

pub data IsListed (F : Form) (es : List Entry) (i : ℕ) : Type 0 where
  read : did is_root_read i es ≡ true → IsListed F es i
  taken : (w : Waiter) → Memᴰ w (waiters es) → w.operation ≡ i → is_counted (root_count F es) w ≡ true → IsListed F es i

pub placed_read : (F : Form) (e : Entry) (es : List Entry) → is_root_read e.access ≡ true → placed F e es ≡ e.operation ∷ []
unfolding placed
placed_read F e es k = rw k

pub still_waits : (e : Entry) (es : List Entry) (w : Waiter) → Memᴰ w (waiters es) → Memᴰ w (waiters (e ∷ es))
unfolding waiters
still_waits e es w m = Memᴰ.append_left _ m

pub who_is_listed : (F : Form) (es : List Entry) → Once es → (i : ℕ) → Memᴰ i (listed F es) → IsListed F es i
unfolding listed
who_is_listed F [] o i m = absurd (Memᴰ.not-nil m)
who_is_listed F (e ∷ es) (more f o) i m =
    ⊎_elim (λ a. before (who_is_listed F es o i a)) (λ b. go (is_root_read e.access) refl b) (Memᴰ.append_cases (listed F es) m)
  where
    before : IsListed F es i → IsListed F (e ∷ es) i
    before (read d) = read (did_on is_root_read i e es d)
    before (taken w a b c) = taken w (still_waits e es w a) b (counted_on F e es w c)

    go : (t : Bool) → is_root_read e.access ≡ t → Memᴰ i (placed F e es) → IsListed F (e ∷ es) i
    go true k n = read (did_now is_root_read i e es k (Memᴰ.eq_of_singleton (subst (Memᴰ i) (placed_read F e es k) n)))
    go false k n =
        let r = mem_operations (keep (newly F e es (more f o)) (waiters es)) (subst (Memᴰ i) (placed_is F e es (more f o) k) n) in
        let s = mem_keep (newly F e es (more f o)) (waiters es) r.1 in
        taken r.0 (still_waits e es r.0 s.0) r.2 (and_left _ _ s.1)
      where
        and_left : (a b : Bool) → (a && b) ≡ true → a ≡ true
        and_left true b d = refl
        and_left false b d = d

-- ---- the queue

-- those that are in their leaves and not in node 1, in the order of their leaf writes
abbrev pub waiting_of : Form → List Entry → List Waiter
waiting_of F es = keep (λ w. not (is_counted (root_count F es) w)) (waiters es)

not_both : (a b : Bool) → (a ≡ true → b ≡ true) → (not b && not a) ≡ not b
not_both true b f = rw (f refl)
not_both false true f = refl
not_both false false f = refl

module _ (F : Form) (e : Entry) (es : List Entry) (o : Once (e ∷ es)) where
  abbrev now : Waiter → Bool
  now = is_counted (root_count F (e ∷ es))

  -- what the entry adds to the list: those of the queue that are counted now
  pub placed_queue : is_root_read e.access ≡ false → placed F e es ≡ operations_of (keep now (waiting_of F es))
  placed_queue k = placed_is F e es o k ∙ ap operations_of (sym (keep_keep now (λ w. not (is_counted (root_count F es) w)) (waiters es)))

  -- the queue afterwards: the others, and a new leaf write
  still_waiting : keep (λ w. not (now w)) (waiters es) ≡ keep (λ w. not (now w)) (waiting_of F es)
  still_waiting =
      sym (keep_keep (λ w. not (now w)) (λ w. not (is_counted (root_count F es) w)) (waiters es)
      ∙ keep_same _ _ (waiters es) (λ w m. not_both (is_counted (root_count F es) w) (now w) (counted_on F e es w)))

  pub waiting_still : is_leaf_write e.access ≡ false → waiting_of F (e ∷ es) ≡ keep (λ w. not (now w)) (waiting_of F es)
  waiting_still k = ap (keep (λ w. not (now w))) (waiters_still e es k) ∙ still_waiting

  pub waiting_write : is_leaf_write e.access ≡ true → waiting_of F (e ∷ es) ≡ keep (λ w. not (now w)) (waiting_of F es ++ (waiter_of e es ∷ []))
  waiting_write k =
      ap (keep (λ w. not (now w))) (waiters_write e es k) ∙ keep_append _ (waiters es) _ ∙ ap (λ (l : List Waiter). l ++ keep (λ w. not (now w)) (waiter_of e es ∷ [])) still_waiting
      ∙ sym (keep_append _ (waiting_of F es) _)

-- where the entry changes no count at node 1, nothing of a list of waiters that were not counted is listed, and all wait on
module _ (F : Form) (e : Entry) (es : List Entry) (ws : List Waiter) (uncounted : (w : Waiter) → Memᴰ w ws → is_counted (root_count F (e ∷ es)) w ≡ false) where
  pub none_counted : keep (is_counted (root_count F (e ∷ es))) ws ≡ []
  none_counted = keep_none _ _ uncounted

  pub all_wait : keep (λ w. not (is_counted (root_count F (e ∷ es)) w)) ws ≡ ws
  all_wait = keep_all _ _ (λ w m. ap not (uncounted w m))

-- ---- how many are listed

pub listed_more : (F : Form) (e : Entry) (es : List Entry) (ps : List ℕ) → placed F e es ≡ ps → listed F (e ∷ es) ≡ listed F es ++ ps
unfolding listed
listed_more F e es ps is = ap (λ (l : List ℕ). listed F es ++ l) is

pub length-listed : (F : Form) (e : Entry) (es : List Entry) (ps : List ℕ) → placed F e es ≡ ps → length (listed F (e ∷ es)) ≡ length (listed F es) + length ps
length-listed F e es ps is = ap length (listed_more F e es ps is) ∙ length-append (listed F es) ps
