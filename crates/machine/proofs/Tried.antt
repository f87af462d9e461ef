-- An attempt's accesses: which one it is at its position, and the step number that it leads to.
use Rattle.std.proofs.Common.{◌≡◌, ℕ, suc, ◌+◌, ◌-◌, ◌<◌, ◌≤◌, Bool, true, false, ◌⊎◌, length, get_or, sym, refl, ap, ◌∙◌, subst, ap₂, arith}
use Rattle.recording.specs.declared.Form.{Form as Told}
use Rattle.meaning.specs.Access.{starts, links, reads, stores, Attempt}
use Rattle.meaning.specs.Shape.{Form, formed}
use Rattle.meaning.specs.Operations.{attempt}
use Rattle.meaning.specs.Steps.{access_of, passes_by, within}
use Rattle.spots.specs.Spot.{attempt_at, width, node_of, At, onward, again, upward, passed, last_step}
use Rattle.spots.proofs.Laws.{width_is, attempt_links, attempt_reads, attempt_stores, at_spot, at_inside, at_onward, at_again, at_upward, at_end, passes_failed, passes_done, last_addition, of_attempt}
use Rattle.spots.proofs.Shapes.{opened_two}
use Rattle.spots.proofs.Within.{within_in, within_end}
use Rattle.climb.specs.Climb.{spot_is, CanClimb, NodeOf, GroupsOf, GroupOf, SpotAt}
use Rattle.climb.specs.declared.Group.{Group}
use Rattle.climb.specs.declared.Spot.{Spot}
use Rattle.machine.specs.Arrays.{process_of}
use Rattle.machine.specs.Nexts.{CanStep}
use Rattle.machine.specs.Tries.{There, Stores, leads}
use Rattle.machine.specs.declared.Process.{Process as Record}
use Rattle.machine.proofs.Known.{lawful, addition_past_1}

-- from step 3 on an addition is in an attempt, at its step number's spot
module _ (f : Told) (p : ℕ) (r : Record) (can : CanStep f p r) (past : 3 ≤ r.step) (σ : Spot) (spot : SpotAt f p r.step σ) where
  pub adding : r.adds ≡ true
  adding = addition_past_1 f p r can (omega (arith, past))

  pub can_climb : CanClimb f.height p σ.level
  can_climb = record { high = can.known.high; process = can.process; level = spot.level }

  pub there_at : (x : ℕ) → NodeOf f.height p σ.level x → There f p r.step x σ
  unfolding spot_is node_of
  there_at x node =
      record {
        at =
            subst (At (formed f) p r.step) (sym spot.is)
            (at_spot (formed f) p r.step (omega (arith, past, opened_two (formed f) p (lawful f can.known))) (omega (arith, can.last, last_addition (formed f) p r.adds adding)));
        node = node.is;
      }

-- ---- the access, and on in the same attempt

module _ (f : Told) (p : ℕ) (r : Record) (x : ℕ) (σ : Spot) (adds : r.adds ≡ true) (there : There f p r.step x σ) where
  abbrev F : Form
  F = formed f

  abbrev which : Attempt
  which = attempt_at σ.second

  access_is : access_of F p (process_of r) ≡ get_or (attempt F which x) σ.position starts
  unfolding process_of spot_is
  access_is = of_attempt F p (process_of r) (spot_is σ) adds there.at ∙ ap (λ (y : ℕ). get_or (attempt F which y) σ.position starts) (sym there.node)

  by_position : (i : ℕ) → σ.position ≡ i → access_of F p (process_of r) ≡ get_or (attempt F which x) i starts
  by_position i e = access_is ∙ ap (λ (j : ℕ). get_or (attempt F which x) j starts) e

  pub link_is : σ.position ≡ 0 → access_of F p (process_of r) ≡ links which x
  link_is e = by_position 0 e ∙ attempt_links F which x

  pub look_is : (g : Group) → 1 ≤ σ.position → σ.position ≤ length (F.shape.groups F.height x) → GroupOf f (σ.position - 1) g
      → access_of F p (process_of r) ≡ reads x g.from g.count
  look_is g past inside group =
      let i = σ.position - 1 in
      by_position (suc i) (omega (arith, past))
      ∙ attempt_reads F which x i (omega (arith, past, inside))
      ∙ ap₂ (reads x) (sym (group.from x)) (sym (group.count x))

  pub store_is : Stores f x σ → access_of F p (process_of r) ≡ stores which x
  store_is last = by_position (suc (length (F.shape.groups F.height x))) (omega (arith, last, width_is F x)) ∙ attempt_stores F which x

  -- behind its groups an attempt has its SC
  pub stores_at : (n : ℕ) → GroupsOf f n → n < σ.position → Stores f x σ
  unfolding spot_is
  stores_at n groups past =
      let high : σ.position < width F x = rw there.node there.at.position in
      omega (arith, groups.is x, past, width_is F x, high)

  pub on_step : suc σ.position < width F x → within (r.step + 1) (last_step F p r.adds) ≡ r.step + 1
  unfolding spot_is
  on_step room =
      let more = at_onward F p r.step (spot_is σ) there.at (rw (← there.node) room) in
      within_in _ _ _ refl (omega (arith, at_inside F p (suc r.step) (onward (spot_is σ)) more, last_addition F p r.adds adds))

-- ---- after the SC

module _ (f : Told) (p s x : ℕ) (σ : Spot) (there : There f p s x σ) (stores : Stores f x σ) (ok : Bool) where
  abbrev G : Form
  G = formed f

  ends : suc (spot_is σ).position ≡ width G (node_of G p (spot_is σ))
  unfolding spot_is
  ends = rw (← there.node) stores

  -- to the second attempt
  pub again_step : ok ≡ false → σ.second ≡ false → leads f p s x σ ok ≡ s + 1
  unfolding spot_is
  again_step failed first =
      let one : passes_by G (attempt_at σ.second) x ok ≡ 1 = rw failed (passes_failed G (attempt_at σ.second) x) in
      let retry = at_again G p s (spot_is σ) there.at first ends in
      within_in _ _ _ (omega (arith, one)) (omega (arith, at_inside G p (suc s) (again (spot_is σ)) retry))

  -- done with the node: to the one above, or to the end
  module _ (done : (ok ≡ true) ⊎ (σ.second ≡ true)) where
    passes : passes_by G (attempt_at σ.second) x ok ≡ passed G p (spot_is σ)
    unfolding spot_is
    passes = ap (λ (y : ℕ). passes_by G (attempt_at σ.second) y ok) there.node ∙ passes_done G p (spot_is σ) ok done

    pub end_step : suc σ.level ≡ f.height → leads f p s x σ ok ≡ 0
    unfolding spot_is
    end_step top = within_end _ _ (omega (arith, passes, at_end G p s (spot_is σ) there.at ends top))

    up_step : (k : ℕ) → suc σ.level < f.height → k ≡ s + passed G p (spot_is σ) → leads f p s x σ ok ≡ k
    unfolding spot_is
    up_step k above e =
        let higher = at_upward G p s (spot_is σ) there.at ends above in
        within_in _ _ _ (omega (arith, passes, e)) (omega (arith, at_inside G p (s + passed G p (spot_is σ)) (upward (spot_is σ)) higher, e))

    pub up_second : σ.second ≡ true → suc σ.level < f.height → leads f p s x σ ok ≡ s + 1
    unfolding passed spot_is
    up_second e above = up_step (s + 1) above (rw e)

    pub up_first : σ.second ≡ false → suc σ.level < f.height → leads f p s x σ ok ≡ s + suc (width G x)
    unfolding passed spot_is
    up_first e above = let node : node_of G p (spot_is σ) ≡ x = sym there.node in up_step (s + suc (width G x)) above (rw (node, e))
