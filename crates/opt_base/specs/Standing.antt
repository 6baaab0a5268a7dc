-- What may stand where.
use Rattle.std.specs.Prelude.{Bool, true, not, is_some}
use Rattle.theory_meaning.specs.Desugar.{root_of}
use Rattle.theory_meaning.specs.Queries.{is_unit}
use Rattle.theory_meaning.specs.Tree.{Expr}
use Rattle.theory_rewriting.specs.Steps.{Place, Anywhere, AsBase, AsGuard}

abbrev pub is_root : Expr → Bool
is_root e = is_some (root_of e)

-- whether what is neither a place nor a literal unit may become this expression there
abbrev pub may_stand : Place → Expr → Bool
may_stand Anywhere e = true
may_stand AsBase e = not (is_root e)
may_stand AsGuard e = not (is_unit e)
