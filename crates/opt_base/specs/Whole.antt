-- Constants whose parts are reduced.
use Rattle.std.specs.Prelude.{Bool, true, false, ◌&&◌}
use Rattle.theory_meaning.specs.Constants.{are_floatless}
use Rattle.theory_meaning.specs.Tree.{Expr, DynamicConstant, BoolConstant, IntegerConstant, FloatConstant, CharConstant, StringConstant, UnitConstant, InterpolatedString, ArrayOf, MapOf, Exprs, no_exprs, expr, Pairs, no_pairs, pair}

-- a constant that is no literal of parts
abbrev pub is_whole : Expr → Bool
is_whole (DynamicConstant v) = true
is_whole (BoolConstant b) = true
is_whole (IntegerConstant n) = true
is_whole (FloatConstant x) = true
is_whole (CharConstant c) = true
is_whole (StringConstant t) = true
is_whole UnitConstant = true
is_whole _ = false

abbrev pub are_whole : Exprs → Bool
are_whole no_exprs = true
are_whole (expr e es) = is_whole e && are_whole es

abbrev pub are_whole_members : Pairs → Bool
are_whole_members no_pairs = true
are_whole_members (pair k e ps) = is_whole e && are_whole_members ps

-- a constant, where each part that is one stands as its value
abbrev pub has_whole_parts : Expr → Bool
has_whole_parts (InterpolatedString es) = are_floatless es && are_whole es
has_whole_parts (ArrayOf es) = are_whole es
has_whole_parts (MapOf ps template) = are_whole_members ps
has_whole_parts e = is_whole e
