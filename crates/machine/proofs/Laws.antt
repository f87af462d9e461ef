-- Laws of a step: where a record begins, what a step leaves as it was, and that its contract allows one outcome.
use Rattle.std.proofs.Common.{◌≡◌, ℕ, ◌^◌, ◌<◌, ◌≤◌, Bool, false, List, length, get_or, sym, ap, ◌∙◌, ext_get_or}
use Rattle.sets.specs.Processes.{is_in}
use Rattle.sets.proofs.Laws.{same_set}
use Rattle.recording.specs.declared.Form.{Form as Told}
use Rattle.meaning.specs.Shape.{Form, formed}
use Rattle.meaning.specs.Steps.{Memory, Process, idle, access_of, at_step, next_record}
use Rattle.meaning.specs.Run.{started}
use Rattle.spots.specs.Spot.{last_step}
use Rattle.spots.proofs.Laws.{steps_long, job, effect_keeps}
use Rattle.spots.proofs.Within.{within_le}
use Rattle.arrays.specs.Arrays.{as_fun}
use Rattle.arrays.proofs.Laws.{same_list}
use Rattle.machine.specs.Arrays.{memory_of, seen_by, process_of, idle_record, started_record}
use Rattle.machine.specs.Nexts.{CanStep, Nexts, effect_of}
use Rattle.machine.specs.declared.Memory.{Memory as Nodes}
use Rattle.machine.specs.declared.Process.{Process as Record}
use Rattle.machine.proofs.Seen.{seen_none}

-- ---- where a record begins

pub idle_is : process_of idle_record ≡ idle
unfolding process_of idle_record idle
idle_is = ap (λ (f : ℕ → ℕ). record { step = 0; operation = 0; adds = false; delta = 0; seen = 0; children = f }) seen_none

pub started_is : (i : ℕ) (adds : Bool) (delta : ℕ) → process_of (started_record i adds delta) ≡ started i adds delta
unfolding process_of started_record started
started_is i adds delta = ap (λ (f : ℕ → ℕ). record { step = 1; operation = i; adds = adds; delta = delta; seen = 0; children = f }) seen_none

-- ---- what a step leaves as it was

pub record Kept (F : Form) (p : ℕ) (r r' : Record) : Type 0 where
  pub operation : r'.operation ≡ r.operation
  pub adds : r'.adds ≡ r.adds
  pub delta : r'.delta ≡ r.delta
  pub last : r'.step ≤ last_step F p r'.adds

pub next_keeps : (f : Told) (p : ℕ) (r : Record) (before after : Nodes) (r' : Record) → Nexts f p r before after r' → Kept (formed f) p r r'
unfolding process_of next_record at_step effect_of
next_keeps f p r before after r' n =
    let F = formed f in
    let same = ap job n.process ∙ effect_keeps F p (process_of r) (memory_of before) (access_of F p (process_of r)) in
    let adds : r'.adds ≡ r.adds = ap (λ (q : ℕ × Bool × ℕ). q.1) same in
    let step = ap (λ (q : Process). q.step) n.process in
    record {
      operation = ap (λ (q : ℕ × Bool × ℕ). q.0) same;
      adds = adds;
      delta = ap (λ (q : ℕ × Bool × ℕ). q.2) same;
      last = rw (adds, ← steps_long F p (process_of r), step) (within_le _ _);
    }

pub next_can : (f : Told) (p : ℕ) (r : Record) (before after : Nodes) (r' : Record) → CanStep f p r → Nexts f p r before after r'
    → 1 ≤ r'.step → CanStep f p r'
next_can f p r before after r' can n busy =
    let kept = next_keeps f p r before after r' n in
    record { known = can.known; process = can.process; busy = busy; last = kept.last }

-- ---- one outcome

pub same_links : (xs ys : List ℕ) → length xs ≡ length ys → ((x : ℕ) → x < length xs → as_fun xs x < 2 ^ 64)
    → ((x : ℕ) → x < length xs → as_fun ys x < 2 ^ 64) → ((x : ℕ) → is_in (as_fun xs x) ≡ is_in (as_fun ys x)) → xs ≡ ys
unfolding as_fun
same_links xs ys long f g e = ext_get_or 0 xs ys long (λ i b. same_set (get_or xs i 0) (get_or ys i 0) (f i b) (g i b) (e i))

same_process : (r q : Record) → process_of r ≡ process_of q → r.stored ≡ q.stored → r ≡ q
unfolding process_of seen_by
same_process r q e d =
    λ i. record {
      delta = (e i).delta;
      seen = (e i).seen;
      children = record { left = (e i).children 0; right = (e i).children 1 };
      operation = (e i).operation;
      step = (e i).step;
      adds = (e i).adds;
      stored = d i;
    }

-- the memory as the code has it
pub record Sized (m : Nodes) : Type 0 where
  pub values : length m.values ≡ 128
  pub links : length m.links ≡ 64
  pub fits : (x : ℕ) → x < 64 → as_fun m.links x < 2 ^ 64

pub same_memory : (m n : Nodes) → Sized m → Sized n → memory_of m ≡ memory_of n → m ≡ n
unfolding memory_of
same_memory m n a b e =
    let values = same_list m.values n.values (a.values ∙ sym b.values) (ap (λ (x : Memory). x.value) e) in
    let inside : (x : ℕ) → x < length m.links → x < 64 = λ x l. rw a.links at l in
    let links = same_links m.links n.links (a.links ∙ sym b.links) (λ x l. a.fits x (inside x l)) (λ x l. b.fits x (inside x l)) (λ x. ap (λ (y : Memory). y.linked x) e) in
    λ i. record { values = values i; links = links i }

-- what two outcomes of one step are
pub record SameOutcome (m : Nodes) (r : Record) (n : Nodes) (r' : Record) : Type 0 where
  pub process : r ≡ r'
  pub memory : m ≡ n

pub same_next : (f : Told) (p : ℕ) (r : Record) (before m : Nodes) (r₁ : Record) (n : Nodes) (r₂ : Record) → Sized m → Sized n → Nexts f p r before m r₁
    → Nexts f p r before n r₂ → SameOutcome m r₁ n r₂
same_next f p r before m r₁ n r₂ a b x y =
    record {
      process = same_process r₁ r₂ (x.process ∙ sym y.process) (x.stored ∙ sym y.stored);
      memory = same_memory m n a b (x.memory ∙ sym y.memory);
    }
