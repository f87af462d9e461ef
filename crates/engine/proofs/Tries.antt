-- What trying a record comes to: from the cut and the refusal, and for the loops by each way it goes.
use Prim.Native.Nat.{ℕ}
use native.Mathlib.Omega.{arith}
use mathlib.Core.Path.{◌≡◌, refl, sym, ap, ◌∙◌}
use mathlib.Core.Bool.{Bool, true, false}
use mathlib.Core.List.{List}
use Rattle.std.specs.Prelude.{Option, Some, None, Ok, Err, is_some, unwrap_or}
use Rattle.refusals.specs.Table.{number_of}
use Rattle.refusals.specs.declared.Refused.{Refused}
use Rattle.refusals.specs.declared.Refusal.{Refusal}
use Rattle.refusals.proofs.Laws.{number_positive}
use Rattle.recording.specs.Record.{cut_at, next_inside, Cuts, no_more}
use Rattle.recording.specs.declared.Event.TheVariants.{Step as AStep, Read, Add}
use Rattle.recording.specs.declared.Found.{Found}
use Rattle.recording.specs.declared.Form.{Form as Told}
use Rattle.recording.proofs.Cases.{refused_broken}
use Rattle.sets.specs.Processes.{is_in}
use Rattle.meaning.specs.Shape.{formed}
use Rattle.meaning.specs.Run.{process_of, is_start, refusal_by}
use Rattle.engine.specs.Ends.{adds_of, delta_of}
use Rattle.engine.specs.Tries.{Stands, breaks, refuses, Stopped, Goes, Begins, Tries}
use Rattle.engine.specs.declared.Passed.TheVariants.{Step, Start}

module _ (s : List ℕ) (form : Told) (set₀ m at : ℕ) where
  pub tries_end : Cuts s at no_more → Tries s form set₀ m at (Ok None)
  unfolding Tries
  tries_end c = sym c.is

  pub tries_broken : (r : Refused) → Cuts s at (Err r) → Tries s form set₀ m at (Err r)
  unfolding Tries next_inside
  tries_broken r c =
      let b = refused_broken s at r (sym c.is) in
      let name = ap (λ (x : Refused). x.refusal) b.1 in
      record { why = breaks (ap number_of name) (sym c.is ∙ (λ i. Err (record { refusal = name i; place = r.place }))) b.0; inside = c.inside }

  -- an event was cut, and n is its refusal
  module _ (found : Found) (p : ℕ) (b : Bool) (c : Cuts s at (Ok (Some found))) (whose : p ≡ process_of found.event) (test : b ≡ is_in set₀ p) where
    stands : (n : ℕ) → n ≡ refusal_by (formed form) found.event b m → Stands s form set₀ m at found.event found.next n
    unfolding next_inside
    stands n number =
        record {
          found = sym c.is;
          further = c.inside.0;
          within = c.inside.1;
          number = number ∙ ap (λ (t : Bool). refusal_by (formed form) found.event t m) (test ∙ ap (is_in set₀) whose);
        }

    pub tries_refused : (r : Refusal) → number_of r ≡ refusal_by (formed form) found.event b m → Tries s form set₀ m at (Err (record { refusal = r; place = at }))
    unfolding Tries
    tries_refused r number =
        let w = stands (number_of r) number in
        record { why = refuses w (λ z. omega (arith, number_positive r)) refl; inside = omega (arith, w.further, w.within) }

    module _ (passes : 0 ≡ refusal_by (formed form) found.event b m) where
      abbrev passing : (starts : Bool) → is_start found.event ≡ starts → Goes s form set₀ m at p found.next starts
      passing starts kind = record { event = found.event; stands = stands 0 passes; whose = whose; kind = kind }

      pub tries_step : (q : ℕ) → found.event ≡ AStep q → Tries s form set₀ m at (Ok (Some (Step p found.next)))
      unfolding Tries is_start
      tries_step q e = passing false (ap is_start e)

      begins : (delta : Option ℕ) → is_start found.event ≡ true → is_some delta ≡ adds_of found.event → unwrap_or delta 0 ≡ delta_of found.event
          → Tries s form set₀ m at (Ok (Some (Start p delta found.next)))
      unfolding Tries
      begins delta starts adds amount = record { goes = passing true starts; kind = adds; amount = amount }

      pub tries_read : (q : ℕ) → found.event ≡ Read q → Tries s form set₀ m at (Ok (Some (Start p None found.next)))
      unfolding is_start adds_of delta_of
      tries_read q e = begins None (ap is_start e) (sym (ap adds_of e)) (sym (ap delta_of e))

      pub tries_add : (q d : ℕ) → found.event ≡ Add q d → Tries s form set₀ m at (Ok (Some (Start p (Some d) found.next)))
      unfolding is_start adds_of delta_of
      tries_add q d e = begins (Some d) (ap is_start e) (sym (ap adds_of e)) (sym (ap delta_of e))

  -- ---- for the loops

  pub tried_end : Tries s form set₀ m at (Ok None) → cut_at s at ≡ no_more
  unfolding Tries
  tried_end t = t

  pub tried_stopped : (r : Refused) → Tries s form set₀ m at (Err r) → Stopped s form set₀ m at (number_of r.refusal) r.place
  unfolding Tries
  tried_stopped r t = t

  pub tried_step : (p next : ℕ) → Tries s form set₀ m at (Ok (Some (Step p next))) → Goes s form set₀ m at p next false
  unfolding Tries
  tried_step p next t = t

  pub tried_start : (p : ℕ) (delta : Option ℕ) (next : ℕ) → Tries s form set₀ m at (Ok (Some (Start p delta next)))
      → Begins s form set₀ m at p (is_some delta) (unwrap_or delta 0) next
  unfolding Tries
  tried_start p delta next t = t
