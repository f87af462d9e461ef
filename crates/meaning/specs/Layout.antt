-- The recording: its header, and its records to the end.
use Rattle.std.specs.Prelude.{ℕ, zero, suc, ◌-◌, Bool, not, cond, ◌||◌, List, [], ◌∷◌, length, get_or, ltb, eqb, Some, None, Ok, Err}
use Rattle.recording.specs.Numbers.{number_at}
use Rattle.recording.specs.Record.{cut_at, Cut}
use Rattle.recording.specs.declared.Form.{Form as Told}
use Rattle.recording.specs.declared.Event.{Event}
use Rattle.recording.specs.declared.Event.TheVariants.{Step, Read, Add}
use Rattle.meaning.specs.Refusals.{◌when◌, first_of}
use Rattle.meaning.specs.Shape.{Form, formed, is_one_of}

-- "Byte 0: version, 1. Bytes 1 to 4: L, the number of bytes that follow byte 4. Byte 5: height h, 1 to 6."
unfoldable pub version : List ℕ → ℕ
version s = get_or s 0 0

unfoldable pub follows : List ℕ → ℕ
follows s = number_at s 1

unfoldable pub height : List ℕ → ℕ
height s = get_or s 5 0

-- the shape's number: version 1 counts as shape 0
unfoldable pub shape_of : List ℕ → ℕ
shape_of s = 0

-- height and shape as the header tells them, and the form that they are
abbrev pub told : List ℕ → Told
told s = record { height = height s; shape = shape_of s }

unfoldable pub form_of : List ℕ → Form
form_of s = formed (told s)

-- ---- the cases of the header

-- 1: "fewer than 6 bytes in all"
unfoldable pub too_short : List ℕ → Bool
too_short s = ltb (length s) 6

-- 2: "version is not 1"
unfoldable pub other_version : List ℕ → Bool
other_version s = not (eqb (version s) 1)

-- 4: "total longer than 65,536 bytes"
abbrev pub longest_recording : ℕ
longest_recording = 65536

unfoldable pub too_long : List ℕ → Bool
too_long s = ltb longest_recording (length s)

-- 3: "L differs from the total length minus 5"
unfoldable pub false_length : List ℕ → Bool
false_length s = not (eqb (follows s) (length s - 5))

-- 5: "h is 0 or above 6"
abbrev pub highest_tree : ℕ
highest_tree = 6

unfoldable pub no_height : List ℕ → Bool
no_height s = eqb (height s) 0 || ltb highest_tree (height s)

-- 13: a shape above the highest that the tool takes, which no recording of version 1 has
unfoldable pub unknown_shape : ℕ → List ℕ → Bool
unknown_shape highest s = ltb highest (shape_of s)

-- "Refusals 1, 2, 4, 3, 5 are tried in that order", then 13
unfoldable pub head_refusal : ℕ → List ℕ → ℕ
head_refusal highest s =
    first_of
    (1 when too_short s
    ∷ 2 when other_version s
    ∷ 4 when too_long s
    ∷ 3 when false_length s
    ∷ 5 when no_height s
    ∷ 13 when unknown_shape highest s
    ∷ [])

-- "Then records to the end": the events, each with its record's offset, up to the end or to the first record that rule 6 refuses
pub data Records : Type 0 where
  end : Records
  broken : (at : ℕ) → Records
  event : (at : ℕ) → Event → Records → Records

-- the kind that an event's record has
unfoldable pub kind_byte : Event → ℕ
kind_byte (Step p) = 1
kind_byte (Read p) = 2
kind_byte (Add p d) = 3

-- the next event, where its kind is one of the shape's; "the pair of kind and k is not in the table" otherwise
unfoldable pub follow : Form → ℕ → Cut → (ℕ → Records) → Records
follow F at (Ok (Some found)) rest = cond (is_one_of (kind_byte found.event) F.shape.kinds) (event at found.event (rest found.next)) (broken at)
follow F at (Ok None) rest = end
follow F at (Err refused) rest = broken refused.place

-- the records from a place on, of which there are at most as many as the first number says
unfoldable pub records_from : Form → ℕ → List ℕ → ℕ → Records
records_from F zero s at = end
records_from F (suc most) s at = follow F at (cut_at s at) (records_from F most s)

-- Records start at byte 6; each takes a byte at least, so there are fewer than bytes.
abbrev pub first_record : ℕ
first_record = 6

unfoldable pub records_of : List ℕ → Records
records_of s = records_from (form_of s) (length s) s first_record
