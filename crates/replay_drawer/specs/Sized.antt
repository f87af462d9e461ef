-- What the place where a file ends tells of a drawer.
use Rattle.std.specs.Prelude.{cond, ℕ, ℤ, pos, negsuc, ltb, Result, Ok, Err}
use Rattle.meaning.specs.Drawer.{longest_drawer}
use Rattle.replay_drawer.specs.declared.NoSize.{NoSize}
use Rattle.replay_drawer.specs.declared.NoSize.TheVariants.{Long, Unknown}

-- a number below 0 is no place
unfoldable pub size_by : ℤ → Result ℕ NoSize
size_by (negsuc k) = Err Unknown
size_by (pos n) = cond (ltb longest_drawer n) (Err Long) (Ok n)
