-- What stands around a node.
use Rattle.std.specs.Prelude.{Option, Some, None}
use Rattle.rhai_ast.specs.declared.faults.around.Around.{Around}
use Rattle.rhai_ast.specs.declared.faults.around.Role.{Role}
use Rattle.rhai_ast.specs.declared.faults.around.Role.TheVariants.{Whole, Member, Rest}
use Rattle.theory_meaning.specs.Walk as walk
use Rattle.rhai_ast.specs.Nodes.{is_dot}

abbrev pub role_of : Role → walk.Role
role_of Whole = walk.Whole
role_of Member = walk.Member
role_of (Rest chain) = walk.Rest (is_dot chain)

abbrev pub around_of : Around → walk.Around
around_of a = record { in_loop = a.in_loop; role = role_of a.role }

-- around a child that stands there
abbrev pub around_at : Option walk.Spot → walk.Around → walk.Around
around_at None a = a
around_at (Some s) a = walk.around_spot s a
