-- `Memory::new`: no value but 0, which is what a lawful shape's nodes begin with, and nobody linked.
use Rattle.std.proofs.Common.{ℕ, sym, ap, ◌∙◌}
use mathlib.Core.Path.{fun_ext}
use Rattle.sets.specs.Processes.{is_in}
use Rattle.sets.proofs.Laws.{is_in_empty}
use Rattle.meaning.specs.Run.{initial}
use Rattle.spots.proofs.Shapes.{taken_lawful}
use Rattle.arrays.proofs.Laws.{fun_zeros}
use Rattle.machine.specs.Arrays.{memory_of}
use Rattle.machine.proofs.Memory.new.Goals as goal

pub returns : goal.returns
unfolding memory_of initial
returns c f taken =
    let begins = fun_zeros 128 ∙ fun_ext (λ x. sym (taken_lawful f.shape taken).zero) in
    λ i. record { value = begins i; linked = λ x. (ap (λ (f : ℕ → ℕ). is_in (f x)) (fun_zeros 64) ∙ is_in_empty) i }
