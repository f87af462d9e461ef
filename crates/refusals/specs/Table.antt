-- The table of refusals: the number of each, 0 where nothing is refused.
use Rattle.std.specs.Prelude.{ℕ, Result, Ok, Err}
use Rattle.refusals.specs.declared.Refusal.{Refusal}
use Rattle.refusals.specs.declared.Refused.{Refused}
use Rattle.refusals.specs.declared.Refusal.TheVariants.{TooShort, OtherVersion, FalseLength, TooLong, NoHeight, BrokenRecord, NoProcess, Busy, Idle, Full, NoRoom, NoCut, DrawerTooLong}

abbrev pub number_of : Refusal → ℕ
number_of TooShort = 1
number_of OtherVersion = 2
number_of FalseLength = 3
number_of TooLong = 4
number_of NoHeight = 5
number_of BrokenRecord = 6
number_of NoProcess = 7
number_of Busy = 8
number_of Idle = 9
number_of Full = 10
number_of NoRoom = 11
number_of NoCut = 12
number_of DrawerTooLong = 19

abbrev pub number_told : {T : Type 0} → Result T Refusal → ℕ
number_told (Ok x) = 0
number_told (Err r) = number_of r

-- a refusal of the bytes as a whole: "place is 0"
abbrev pub of_whole : Refusal → Refused
of_whole r = record { refusal = r; place = 0 }
