-- `after`: the step numbers of the three ways, and which of them the SC's answer and the spot lead to.
use Rattle.std.proofs.Common.{◌≡◌, ℕ, suc, ◌<◌, Bool, true, ◌⊎◌, sym, ◌∙◌, inl, inr, arith}
use Rattle.recording.specs.declared.Form.{Form as Told}
use Rattle.meaning.specs.Shape.{formed}
use Rattle.spots.proofs.Laws.{width_is}
use Rattle.climb.specs.declared.Spot.{Spot}
use Rattle.machine.specs.Tries.{There, Stores, leads}
use Rattle.machine.proofs.Tried.{again_step, end_step, up_second, up_first}
use Rattle.machine.proofs.after.Goals.{Joined-spot-f, then-spot, else-spot, then-spot-f, else-spot-f, then-spot-2, else-spot-2}
use Rattle.machine.proofs.after.Goals as goal

-- done with the node: the SC succeeded, or the attempt was the second
module _ (c : Joined-spot-f) where
  abbrev f : Told
  f = c.args.f

  abbrev s : ℕ
  s = c.args.s

  abbrev σ : Spot
  σ = c.args.spot

  abbrev ok : Bool
  ok = c.args.ok

  module _ (p x : ℕ) (there : There f p s x σ) (stores : Stores f x σ) (done : (ok ≡ true) ⊎ (σ.second ≡ true)) where
    above : suc σ.level < f.height → c.if-spot.next ≡ leads f p s x σ ok
    above higher =
        elim c.if-spot.branch [
          | then-spot w ↦ omega (arith, w.next-is, up_second f p s x σ there stores ok done w.if-spot.true higher)
          | else-spot w ↦ omega (arith, w.next-is, w.groups.ensures.is x, width_is (formed f) x, up_first f p s x σ there stores ok done w.if-spot.false higher)
        ]

    upward : c.if-spot-f.up ≡ leads f p s x σ ok
    upward =
        elim c.if-spot-f.branch [
          | then-spot-f w ↦ w.up-is ∙ sym (end_step f p s x σ there stores ok done (omega (arith, w.if-spot-f.true)))
          | else-spot-f w ↦ w.up-is ∙ above (omega (arith, w.if-spot-f.false, c.requires.level_lt_height))
        ]

pub returns-then-ok : goal.returns-then-ok
returns-then-ok c p x there stores = upward (goal.at.returns-then-ok c).Joined-spot-f p x there stores (inl c.if-ok.true)

pub returns-else-ok : goal.returns-else-ok
returns-else-ok c p x there stores =
    let a = c.args in
    let up = upward (goal.at.returns-else-ok c).Joined-spot-f p x there stores in
    elim c.if-spot-2.branch [
      | then-spot-2 w ↦ w.failed-is ∙ up (inr w.if-spot-2.true)
      | else-spot-2 w ↦ omega (arith, w.failed-is, again_step a.f p a.s x a.spot there stores a.ok c.if-ok.false w.if-spot-2.false)
    ]
