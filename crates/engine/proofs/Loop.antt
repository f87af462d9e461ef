-- Where the loop begins.
use Prim.Native.Nat.{ℕ, zero, suc, ◌≤◌}
use native.Mathlib.Omega.{arith}
use mathlib.Core.Path.{◌≡◌, refl, ap, ◌∙◌, fun_ext}
use mathlib.Core.Bool.{Bool, true}
use mathlib.Core.List.{List}
use lib.ListN.{length, get_or, replicate, length-replicate}
use Rattle.sets.specs.Processes.{nobody, is_in}
use Rattle.recording.specs.declared.Form.{Form as Told}
use Rattle.meaning.specs.Shape.{formed}
use Rattle.meaning.specs.Layout.{first_record}
use Rattle.meaning.specs.Steps.{idle}
use Rattle.climb.specs.Climb.{Known}
use Rattle.meaning.specs.Run.{initial, busy}
use Rattle.machine.specs.Arrays.{memory_of, process_of, idle_record}
use Rattle.machine.specs.declared.Memory.{Memory as Nodes}
use Rattle.machine.specs.declared.Process.{Process as Record}
use Rattle.ledger.specs.Kept.{Kept}
use Rattle.machine.proofs.Laws.{idle_is}
use Rattle.spots.specs.Lawful.{Lawful}
use Rattle.history.proofs.Good.{good_initial}
use Rattle.spots.proofs.Shapes.{taken_lawful}
use Rattle.ledger.proofs.Keeps.{keeps_initial}
use Rattle.ledger.proofs.Total.{total_initial}
use Rattle.history.proofs.Held.{held_initial}
use Rattle.contention.proofs.Greatest.{greatest_initial}
use Rattle.keeping.specs.Keeping.{Begun}
use Rattle.engine.proofs.Agrees.{Agrees, procs_of}
use Rattle.engine.proofs.Runs.{RunsKept, runs_kept_begin}

-- ---- the beginning

all_same : {A : Type 0} (n p : ℕ) (a : A) → get_or (replicate n a) p a ≡ a
all_same zero p a = refl
all_same (suc n) zero a = refl
all_same (suc n) (suc p) a = all_same n p a

-- over the arrays' sizes
module _ (s : List ℕ) (form : Told) (a : Record) (set₀ : ℕ) (known : Known form) (enough : first_record ≤ length s) (rests : a ≡ idle_record) (none : is_in set₀ ≡ nobody) (mem : Nodes) (zeros : memory_of mem ≡ (initial (formed form)).memory) (n : ℕ) (all : n ≡ 64) where
  lawful : Lawful (formed form).shape
  lawful = taken_lawful form.shape known.shape

  all_idle : procs_of (replicate n a) ≡ (initial (formed form)).process
  unfolding initial
  all_idle = fun_ext (λ p. ap (λ (x : Record). process_of (get_or (replicate n x) p idle_record)) rests ∙ ap process_of (all_same n p idle_record) ∙ idle_is)

  none_busy : is_in set₀ ≡ busy (initial (formed form)).process
  unfolding initial busy idle nobody
  none_busy = none

  agreed : Agrees form first_record (initial (formed form)) mem (replicate n a) set₀ 0
  unfolding initial
  agreed =
      record {
        known = known;
        good = good_initial (formed form) lawful known.low known.high;
        memory = zeros;
        procs = all_idle;
        long = length-replicate n a ∙ all;
        busy_set = none_busy;
        operations = refl;
        place = omega arith;
        started = omega arith;
      }

  pub begins_kept : (asked : Bool) (k : Kept) (greatest : ℕ → ℕ) → (asked ≡ true → Begun k) → RunsKept s form first_record mem (replicate n a) set₀ 0 asked k greatest
  begins_kept asked k greatest B =
      runs_kept_begin s form _ _ set₀ asked k greatest enough agreed
      (λ t. let b = B t in record {
        shown = λ i. 0;
        keeps = keeps_initial (formed form) (λ i. 0) k b.counts b.queue b.listed;
        total = total_initial (formed form) k b.queue b.listed;
        held = held_initial (formed form);
        most = greatest_initial (formed form) (λ i. 0) greatest;
      })
