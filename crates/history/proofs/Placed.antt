-- What a step adds to the list is new to it, and told apart.
use Prim.Native.Nat.{ℕ}
use mathlib.Core.Path.{◌≡◌, refl, sym, ap, ◌∙◌, subst}
use mathlib.Core.Bool.{Bool, true, false, not}
use mathlib.Core.List.Memᴰ
use mathlib.Core.List.{[], ◌∷◌, Memᴰ}
use Rattle.meaning.specs.Shape.{Form}
use Rattle.meaning.specs.Access.{is_root_read}
use Rattle.meaning.specs.Run.{State, take_step}
use Rattle.meaning.specs.TakenIn.{in_leaf, keep, placed, listed}
use Rattle.taken.specs.CountIn.{Waiter, waiters, is_counted}
use Rattle.taken.proofs.Agree.{Once, written}
use Rattle.taken.proofs.Lists.{Distinct, nothing, another, mem_keep, mem_operations, absent}
use Rattle.history.proofs.Did.{did, did_leaf}
use Rattle.history.proofs.Turns.{root_read_adds_not, false_true}
use Rattle.history.proofs.Good.{Stepping, access_by, entry_by, turns, good_step}
use Rattle.history.proofs.Waiters.{root_count, newly, placed_is, waiter_writes, same_waiter, distinct_waiters}
use Rattle.history.proofs.Listing.{IsListed, read, taken, who_is_listed, placed_read, waiting_of, placed_queue}

module _ (F : Form) (p : ℕ) (st : State) (s : Stepping F p st) where
  pub once_on : Once (entry_by F p st ∷ st.history)
  unfolding take_step
  once_on = (good_step F p st s).once

  -- a waiting operation is not listed
  pub unlisted : (w : Waiter) → Memᴰ w (waiting_of F st.history) → Memᴰ w.operation (listed F st.history) → ⊥
  unlisted w m l = go (who_is_listed F st.history s.good.once w.operation l)
    where
      its : Memᴰ w (waiters st.history) × (not (is_counted (root_count F st.history) w) ≡ true)
      its = mem_keep _ (waiters st.history) m

      go : IsListed F st.history w.operation → ⊥
      go (read d) =
          false_true (sym (s.good.kinds w.operation (sym (did_leaf w.operation st.history) ∙ written (waiter_writes st.history w its.0))) ∙ d)
      go (taken v n i c) =
          let same : v ≡ w = same_waiter st.history v w s.good.once n its.0 i in
          false_true (sym (ap not (ap (is_counted (root_count F st.history)) (sym same) ∙ c)) ∙ its.1)

  -- nor is a read before its one step
  pub read_unlisted : (st.process p).adds ≡ false → (i : ℕ) → Memᴰ i ((st.process p).operation ∷ []) → Memᴰ i (listed F st.history) → ⊥
  read_unlisted reads i m l = go (who_is_listed F st.history s.good.once i l)
    where
      its : i ≡ (st.process p).operation
      its = Memᴰ.eq_of_singleton m

      go : IsListed F st.history i → ⊥
      go (read d) = false_true (sym (s.good.unread p s.acts) ∙ ap (λ (x : ℕ). did is_root_read x st.history) (sym its) ∙ d)
      go (taken v n j c) =
          false_true
          (sym (s.good.fresh p s.acts (λ a. absurd (false_true (sym reads ∙ a))))
          ∙ sym (did_leaf (st.process p).operation st.history) ∙ ap (λ (x : ℕ). in_leaf x st.history) (sym (j ∙ its)) ∙ written (waiter_writes st.history v n))

  pub placed_new : (i : ℕ) → Memᴰ i (placed F (entry_by F p st) st.history) → Memᴰ i (listed F st.history) → ⊥
  placed_new i m l = go (is_root_read (access_by F p st)) refl
    where
      go : (t : Bool) → is_root_read (access_by F p st) ≡ t → ⊥
      go true k = read_unlisted (root_read_adds_not (turns F p st s) k) i (subst (Memᴰ i) (placed_read F (entry_by F p st) st.history k) m) l
      go false k =
          let r = mem_operations (keep (is_counted (root_count F (entry_by F p st ∷ st.history))) (waiting_of F st.history)) (subst (Memᴰ i) (placed_queue F (entry_by F p st) st.history once_on k) m) in
          unlisted r.0 (mem_keep _ (waiting_of F st.history) r.1).0 (subst (λ (x : ℕ). Memᴰ x (listed F st.history)) (sym r.2) l)

  pub placed_apart : Distinct (placed F (entry_by F p st) st.history)
  placed_apart = go (is_root_read (access_by F p st)) refl
    where
      go : (t : Bool) → is_root_read (access_by F p st) ≡ t → Distinct (placed F (entry_by F p st) st.history)
      go true k = subst Distinct (sym (placed_read F (entry_by F p st) st.history k)) (another (absent (st.process p).operation [] (λ m. Memᴰ.not-nil m)) nothing)
      go false k = subst Distinct (sym (placed_is F (entry_by F p st) st.history once_on k)) (distinct_waiters (newly F (entry_by F p st) st.history once_on) st.history s.good.once)
