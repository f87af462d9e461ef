-- What trying the record at a place comes to, by what the run keeps.
use Rattle.std.specs.Prelude.{ℕ, ◌+◌, ◌≤◌, ◌<◌, ◌≡◌, Bool, true, false, cond, List, length, Option, Some, None, Result, Ok, Err, is_some, unwrap_or}
use Rattle.refusals.specs.Table.{number_of}
use Rattle.refusals.specs.declared.Refused.{Refused}
use Rattle.recording.specs.Record.{cut_at, whole_record, no_more, broken_record}
use Rattle.recording.specs.declared.Event.{Event}
use Rattle.sets.specs.Processes.{without, is_in}
use Rattle.recording.specs.declared.Form.{Form as Told}
use Rattle.meaning.specs.Shape.{formed}
use Rattle.meaning.specs.Run.{process_of, is_start, refusal_by}
use Rattle.engine.specs.Ends.{adds_of, delta_of}
use Rattle.engine.specs.declared.Passed.{Passed}
use Rattle.engine.specs.declared.Passed.TheVariants.{Step, Start}

-- an event stands at the place, with the place of the next record and its refusal's number
pub record Stands (s : List ℕ) (f : Told) (set m at : ℕ) (e : Event) (next n : ℕ) : Type 0 where
  pub found : cut_at s at ≡ whole_record e next
  pub further : at + 3 ≤ next
  pub within : next ≤ length s
  pub number : n ≡ refusal_by (formed f) e (is_in set (process_of e)) m

-- a refusal: by rule 6, or of an event
pub data Stops (s : List ℕ) (f : Told) (set m at n place : ℕ) : Type 0 where
  breaks : n ≡ 6 → cut_at s at ≡ broken_record place → at < length s → Stops s f set m at n place
  refuses : {e : Event} {next : ℕ} → Stands s f set m at e next n → (n ≡ 0 → ⊥) → place ≡ at → Stops s f set m at n place

pub record Stopped (s : List ℕ) (f : Told) (set m at n place : ℕ) : Type 0 where
  pub why : Stops s f set m at n place
  pub inside : place ≤ length s

-- an event that passes, a start or a step, of process p
pub record Goes (s : List ℕ) (f : Told) (set m at p next : ℕ) (starts : Bool) : Type 0 where
  pub event : Event
  pub stands : Stands s f set m at event next 0
  pub whose : p ≡ process_of event
  pub kind : is_start event ≡ starts

pub record Begins (s : List ℕ) (f : Told) (set m at p : ℕ) (adds : Bool) (delta next : ℕ) : Type 0 where
  pub goes : Goes s f set m at p next true
  pub kind : adds ≡ adds_of goes.event
  pub amount : delta ≡ delta_of goes.event

-- a start tells an addition's delta, and of a read none
unfoldable pub Tries : List ℕ → Told → ℕ → ℕ → ℕ → Result (Option Passed) Refused → Type 0
Tries s f set m at (Ok None) = cut_at s at ≡ no_more
Tries s f set m at (Ok (Some (Step p next))) = Goes s f set m at p next false
Tries s f set m at (Ok (Some (Start p delta next))) = Begins s f set m at p (is_some delta) (unwrap_or delta 0) next
Tries s f set m at (Err r) = Stopped s f set m at (number_of r.refusal) r.place

-- who is busy after a step of p: p no more where it is idle now
abbrev pub busy_then : Bool → ℕ → (ℕ → Bool) → ℕ → Bool
busy_then done p s = cond done (without p s) s
