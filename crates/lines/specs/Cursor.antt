-- A buffer that is being filled, and the place of the next byte.
use Rattle.std.specs.Prelude.{ℕ, List}
use Rattle.laying.specs.Lays.{Lays}
use Rattle.lines.specs.Room.{Room}
use Rattle.lines.specs.declared.Cursor.{Cursor}

-- there is room for that many bytes more
abbrev pub RoomFor : Cursor → ℕ → Type 0
RoomFor c many = Room c.out.now c.at many

-- these bytes are laid, and nothing else
abbrev pub Adds : Cursor → List ℕ → Cursor → Type 0
Adds before bytes after = Lays before.out.now before.at bytes after.out.now after.at
