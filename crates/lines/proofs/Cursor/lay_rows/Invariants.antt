-- `lay_rows`: the lines of the first i rows are laid, each of at most 82 bytes.
use Rattle.std.proofs.Common.{◌≡◌, ◌+◌, ◌*◌, ◌≤◌}
use Rattle.lines.specs.Text.{row_texts}
use Rattle.lines.specs.Cursor.{Adds}
use Rattle.lines.proofs.Cursor.lay_rows.Given as goal

abbrev pub invariant-loop-i : goal.invariant-loop-i
invariant-loop-i l = record {
  same_buffer : l.self.out.ghost_name ≡ l.initial.self.out.ghost_name;
  laid : Adds l.initial.self (row_texts l.report l.i) l.self;
  bound : l.self.at ≤ l.initial.self.at + 82 * l.i;
}
