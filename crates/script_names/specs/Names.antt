-- New names of functions without a name of their own.
use Rattle.std.specs.Prelude.{ℕ, List, Option, replicate}
use Rattle.std.specs.BTreeMap.{is_at}
use Rattle.std.specs.Cmp.Lexicographic.{slice_cmp}
use Rattle.std.specs.Map.{lookup}
use Rattle.std.specs.Ordering.{nat_cmp}
use Rattle.rhai_base.specs.Value.{Text}
use Rattle.theory_naming.specs.Alike.{or_unread}
use Rattle.theory_naming.specs.Renaming.{with_mark}
use Rattle.script_names.specs.declared.naming.Names.{Names}
use Rattle.script_names.specs.declared.naming.Names.TheVariants.{Marked, Listed}

-- so many
abbrev pub underscores : ℕ → Text
underscores n = replicate n 95

-- what a map gives
abbrev pub listed : List (Text × Text) → Text → Option Text
listed es f = lookup (is_at (slice_cmp nat_cmp f)) es

-- the name that a function of this name has then
abbrev pub stands : Names → Text → Text
stands (Marked n) f = with_mark (underscores n) f
stands (Listed es) f = or_unread (listed es f) f
