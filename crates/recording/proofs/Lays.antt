-- The writer's two answers, for an event with its bytes written out: with room, the bytes are laid over the first ones; without, nothing is done.
use Prim.Native.Nat.{ℕ, ◌≤◌, ◌<◌}
use mathlib.Core.Path.{◌≡◌}
use mathlib.Core.List.{List, ◌++◌}
use lib.ListN.{length, drop}
use borrow.Author.Tests.{le-leb, lt-leb}
use Rattle.recording.specs.Record.{bytes_of}
use Rattle.std.specs.Prelude.{Ok}
use Rattle.recording.specs.Written.{Writes, write_answer, write_buffer, written_answer, needs_room}
use Rattle.recording.specs.declared.Event.{Event}

module _ {e : Event} {bytes : List ℕ} (buf : List ℕ) (is : bytes_of e ≡ bytes) where
  pub laid : {new : List ℕ} → length bytes ≤ length buf → new ≡ bytes → Writes e buf (new ++ drop (length bytes) buf) (Ok (length bytes))
  unfolding write_answer write_buffer written_answer
  laid h same = record { answer = simp (is, le-leb (length bytes) (length buf) h); buffer = simp (is, same, le-leb (length bytes) (length buf) h) }

  pub no_room : length buf < length bytes → Writes e buf buf (needs_room (length bytes))
  unfolding write_answer write_buffer written_answer
  no_room h = record { answer = simp (is, lt-leb (length bytes) (length buf) h); buffer = simp (is, lt-leb (length bytes) (length buf) h) }
