-- A constant does what giving its value does, and arguments that are constant give theirs.
use Rattle.std.proofs.Common.{◌≡◌, ◌≤◌, Bool, Some, None, arith}
use Rattle.rhai_base.specs.Value.{Value, UnitV}
use Rattle.theory_meaning.specs.Constants.{constant_bool}
use Rattle.theory_meaning.specs.Tree.{Expr, UnitConstant, ArrayOf, BlockExpr, FnCall}
use Rattle.theory_meaning.specs.Walk.{Node, Around, whole, throughout, over_expr}
use Rattle.theory_meaning.specs.Weight.{expr_weight}
use Rattle.theory_rewriting.specs.Parts.{constant_of}
use Rattle.theory_rewriting.proofs.rules.Lasting.{Lasting}

pub constant_of_light : (v : Value) → expr_weight (constant_of v) ≤ 2
constant_of_light UnitV = omega arith
constant_of_light _ = omega arith

pub constant_of_keeps : (P : Around → Node → Type 0) (l : Bool) → Lasting P l → (v : Value) → over_expr (throughout P) (constant_of v) (whole l)
constant_of_keeps P l lasts UnitV = (lasts.value UnitV, tt)
constant_of_keeps P l lasts v = (lasts.value v, tt)

pub heavy : (e : Expr) → 1 ≤ expr_weight e
heavy UnitConstant = omega arith
heavy (ArrayOf es) = omega arith
heavy (BlockExpr ss) = omega arith
heavy (FnCall c es) = omega arith
heavy _ = omega arith

-- a constant bool is heavier than unit
pub bool_heavy : (e : Expr) (b : Bool) → constant_bool e ≡ Some b → 2 ≤ expr_weight e
bool_heavy UnitConstant b h = absurd (let z : None ≡ Some b = h in cc)
bool_heavy (ArrayOf es) b h = omega arith
bool_heavy (BlockExpr ss) b h = omega arith
bool_heavy (FnCall c es) b h = omega arith
bool_heavy _ b h = omega arith
