-- `Children::read_group`: the children of the group are seen, the others stay as they were.
use Rattle.std.proofs.Common.{◌≡◌, ℕ, ◌*◌, refl, ap, ◌∙◌, inl, inr, arith}
use Rattle.meaning.specs.Tree.{left, child}
use Rattle.arrays.specs.Arrays.{as_fun}
use Rattle.machine.specs.Arrays.{memory_of}
use Rattle.machine.proofs.Seen.{Keeps, looked}
use Rattle.machine.proofs.Children.read_group.Goals.{Joined-g-eq0, then-g-eq0, else-g-eq0}
use Rattle.machine.proofs.Children.read_group.Goals as goal

-- what is kept of the left child
nearer : (c : Joined-g-eq0)
    → Keeps (c.args.g.from ≡ 0) c.if-g-eq0.left ((memory_of c.args.memory.now).value (child c.args.x 0)) c.args.self.left
unfolding memory_of as_fun child left
nearer c =
    let a = c.args in
    let even : 2 * a.x ≡ child a.x 0 = omega arith in
    elim c.if-g-eq0.branch [
      | then-g-eq0 w ↦ inl (w.if-g-eq0.true, w.left-is ∙ ap (λ (k : ℕ). as_fun a.memory.now.values k) even)
      | else-g-eq0 w ↦ inr (w.if-g-eq0.false, w.left-is)
    ]

pub returns-then-g-eq2 : goal.returns-then-g-eq2
unfolding memory_of as_fun child left
returns-then-g-eq2 c =
    let pre = c.requires in
    looked _ _ pre.le_count pre.count_bound _ _ _ (nearer (goal.at.returns-then-g-eq2 c).Joined-g-eq0) (inl (omega (arith, c.if-g-eq2.true), refl))

pub returns-else-g-eq2 : goal.returns-else-g-eq2
unfolding memory_of as_fun child left
returns-else-g-eq2 c =
    let pre = c.requires in
    looked _ _ pre.le_count pre.count_bound _ _ _ (nearer (goal.at.returns-else-g-eq2 c).Joined-g-eq0) (inr ((λ e. c.if-g-eq2.false (omega (arith, e))), refl))
