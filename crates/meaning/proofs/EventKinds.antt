-- Every event is of one of the kinds that a recording's shape has, so that a whole record is never refused for its kind.
use Prim.Native.Nat.{ℕ}
use mathlib.Core.Path.{◌≡◌, refl, ap}
use mathlib.Core.Bool.{Bool, true, cond}
use mathlib.Core.List.{List}
use Rattle.recording.specs.declared.Event.{Event}
use Rattle.recording.specs.declared.Event.TheVariants.{Step, Read, Add}
use Rattle.recording.specs.Record.{whole_record}
use Rattle.meaning.specs.Shape.{Form, counting, numbered, formed, is_one_of}
use Rattle.meaning.specs.Layout.{shape_of, form_of, Records, broken, event, kind_byte, follow}

pub counting_kinds : (e : Event) → is_one_of (kind_byte e) counting.kinds ≡ true
unfolding counting is_one_of kind_byte
counting_kinds (Step p) = refl
counting_kinds (Read p) = refl
counting_kinds (Add p d) = refl

pub form_kinds : (s : List ℕ) (e : Event) → is_one_of (kind_byte e) (form_of s).shape.kinds ≡ true
unfolding form_of formed shape_of numbered
form_kinds s e = counting_kinds e

-- what follows a whole record, where the shape has every kind
pub follows_found : (F : Form) → ((e : Event) → is_one_of (kind_byte e) F.shape.kinds ≡ true) → (at : ℕ) (e : Event) (next : ℕ) (rest : ℕ → Records)
    → follow F at (whole_record e next) rest ≡ event at e (rest next)
unfolding follow
follows_found F all at e next rest = ap (λ (t : Bool). cond t (event at e (rest next)) (broken at)) (all e)
