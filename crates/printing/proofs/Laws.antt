-- What follows from the promise of print: one outcome, and the text at the buffer's front.
use Prim.Native.Nat.{ℕ}
use mathlib.Core.Path.{◌≡◌, sym, ap, ◌∙◌}
use mathlib.Core.List.{List, ◌++◌}
use lib.ListN.{take, drop}
use lib.Seq.{take_at}
use Rattle.meaning.specs.Printed.{printed}
use Rattle.printing.specs.Prints.{Prints}

pub print_one : {s before after after' : List ℕ} {a b : ℕ} → Prints s before after a → Prints s before after' b → (a ≡ b) × (after ≡ after')
print_one {s} {before} x y =
    let same = x.answer ∙ sym y.answer in
    (same, x.buffer ∙ ap (λ (n : ℕ). printed s ++ drop n before) same ∙ sym y.buffer)

pub print_front : {s before after : List ℕ} {r : ℕ} → Prints s before after r → take r after ≡ printed s
print_front {s} {before} {r = r} x = ap (take r) x.buffer ∙ take_at (printed s) (drop r before) r (sym x.answer)
