-- `Cell::sc`: `has` says whether SC succeeds, and each branch is one of SC's two cases. The answer's numbers are compared by their values.
use mathlib.Core.Path.{◌≡◌, refl, sym, ap, ◌∙◌}
use mathlib.Core.Bool.{Bool, true, false, ◌&&◌}
use native.Mathlib.Omega.{arith}
use borrow.Author.Tests.{eq-eqb}
use Rattle.sets.specs.Processes.{nobody, is_in}
use Rattle.cell.specs.Cell.{succeeds, state_of}
use Rattle.cell.proofs.Laws.{state_is, sc_succeeds, sc_fails}
use Rattle.cell.proofs.Cell.sc.Goals as goal

-- what the test says of `ok`, also where it asks besides for what always holds
both : (a b : Bool) → (a && b) ≡ true → a ≡ true
both true b h = refl
both false b h = h

always : (a b : Bool) → b ≡ true → (a && b) ≡ false → a ≡ false
always true b e h = sym e ∙ h
always false b e h = refl

pub returns-then-ok : goal.returns-then-ok
unfolding succeeds state_of
returns-then-ok c =
    let a = c.args in
    let h = c.has-ok in
    let ok : h.result ≡ is_in a.self.now.links a.p = h.ensures ∙ ap (is_in a.self.now.links) (omega arith) in
    let linked : h.result ≡ true = search (both, c.if-ok) in
    record {
      ok = ok;
      cell =
          state_is _ _ (record { value = a.u; linked = nobody }) (omega arith) (ap is_in (omega arith) ∙ c.empty-none.ensures)
          ∙ sym (sc_succeeds a.u a.p (state_of a.self.now) (sym ok ∙ linked));
    }

pub returns-else-ok : goal.returns-else-ok
unfolding succeeds state_of
returns-else-ok c =
    let a = c.args in
    let h = c.has-ok in
    let ok : h.result ≡ is_in a.self.now.links a.p = h.ensures ∙ ap (is_in a.self.now.links) (omega arith) in
    let unlinked : h.result ≡ false = search (always, eq-eqb, c.if-ok) in
    record {
      ok = ok;
      cell =
          state_is _ _ (state_of a.self.now) (omega arith) (ap is_in (omega arith))
          ∙ sym (sc_fails a.u a.p (state_of a.self.now) (sym ok ∙ unlinked));
    }
