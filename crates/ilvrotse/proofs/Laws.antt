-- A host program has one reply, and one content of each buffer; and the same of a drawer of one true recording as of the recording.
use Prim.Native.Nat.{ℕ, ◌≤◌}
use mathlib.Core.Path.{◌≡◌, sym, ◌∙◌}
use mathlib.Core.List.{List}
use lib.ListN.{length}
use Rattle.meaning.specs.Run.{State, accepted, outcome}
use Rattle.meaning.specs.Report.{check_answer}
use Rattle.entries.specs.Promises.{Reports}
use Rattle.drawer.specs.Draws.{Draws}
use Rattle.drawer.proofs.Laws.{one_told}
use Rattle.ilvrotse.specs.Replies.{told}
use Rattle.ilvrotse.specs.declared.Reply.{Reply}

pub same_reply : (a b : Reply) → told a ≡ told b → a ≡ b
unfolding told
same_reply a b e = λ i. record { number = (e i).number; place = (e i).place }

pub check_reply_one : (s : List ℕ) (a b : Reply) → told a ≡ check_answer s → told b ≡ check_answer s → a ≡ b
check_reply_one s a b x y = same_reply a b (x ∙ sym y)

pub report_reply_one : (s before after after' : List ℕ) (a b : Reply) → Reports s before after (told a) → Reports s before after' (told b) → (a ≡ b) × (after ≡ after')
report_reply_one s before after after' a b x y = (same_reply a b (x.answer ∙ sym y.answer), x.buffer ∙ sym y.buffer)

pub drawer_reply_one : (s out marks out₁ marks₁ out₂ marks₂ : List ℕ) (a b : Reply) → Draws s out marks out₁ marks₁ (told a) → Draws s out marks out₂ marks₂ (told b)
    → (a ≡ b) × (out₁ ≡ out₂) × (marks₁ ≡ marks₂)
drawer_reply_one s out marks out₁ marks₁ out₂ marks₂ a b x y = (same_reply a b (x.answer ∙ sym y.answer), x.reports ∙ sym y.reports, x.marked ∙ sym y.marked)

pub one_recording_reply : (s : List ℕ) (st : State) → outcome s ≡ accepted st → (out marks : List ℕ) → 5 ≤ length marks → (out' marks' out'' : List ℕ) (r q : Reply)
    → Draws s out marks out' marks' (told r) → Reports s out out'' (told q) → (r ≡ q) × (out' ≡ out'')
one_recording_reply s st e out marks room out' marks' out'' r q x y =
    let one = one_told s st e out marks room out' marks' out'' (told r) (told q) x y in (same_reply r q one.0, one.1)
