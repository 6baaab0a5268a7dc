-- What the kind of a statement says of it.
use Rattle.std.proofs.Common.{◌≡◌, Bool, true, false, refl, sym}
use Rattle.std.specs.Prelude.{◌&&◌}
use Rattle.theory_meaning.specs.Queries.{is_pure_expr, is_internally_pure, is_internally_pure_expr}
use Rattle.theory_meaning.specs.Tree.{Expr, BlockExpr, Stmt, Noop, While, Do, For, Var, Assignment, TryCatch, ExprStmt, Import, Export}
use Rattle.theory_rewriting.specs.Context.{ListKind}
use Rattle.theory_rewriting.specs.Rules.{is_pure_in}
use Rattle.theory_rewriting.specs.SurelyUnit.{is_surely_unit}
use Rattle.opt_lists.specs.Sweep.{is_in_braces, differs_inside, holds_nothing, is_pure_by_itself, is_inside_by_itself, is_pure_unit, may_be_unit}

-- ---- not pure by itself, and not so inside a list either

acts_bare : (e : Expr) → is_pure_expr e ≡ false → is_in_braces e ≡ false → false ≡ is_internally_pure_expr e
acts_bare (BlockExpr ss) p d = absurd cc
acts_bare _ p d = sym p

pub acts_inside : (s : Stmt) → is_pure_by_itself s ≡ false → differs_inside s ≡ false → false ≡ is_inside_by_itself s
acts_inside (Var constant exported x e) p d = absurd cc
acts_inside (Import e x) p d = absurd cc
acts_inside (Export x y) p d = absurd cc
acts_inside (ExprStmt e) p d = acts_bare e p d
acts_inside _ p d = sym p

-- what differs inside holds no list
pub holds_none : (s : Stmt) → differs_inside s ≡ true → is_internally_pure s ≡ is_inside_by_itself s
holds_none (Var constant exported x e) d = refl
holds_none (Import e x) d = refl
holds_none (Export x y) d = refl
holds_none (ExprStmt e) d = refl
holds_none _ d = absurd cc

-- ---- not surely unit

not_unit : (s : Stmt) → may_be_unit s ≡ false → is_surely_unit s ≡ false
not_unit Noop h = absurd cc
not_unit (Var constant exported x e) h = absurd cc
not_unit (Assignment op l e) h = absurd cc
not_unit (TryCatch x a b) h = absurd cc
not_unit (While e b) h = absurd cc
not_unit (Do negated exported e b) h = absurd cc
not_unit (For x i e b) h = absurd cc
not_unit _ h = refl

neither : (a b : Bool) → b ≡ false → false ≡ a && b
neither true b h = sym h
neither false b h = refl

pub no_pure_unit : (m : ListKind) (s : Stmt) → may_be_unit s ≡ false → false ≡ is_pure_unit m s
no_pure_unit m s h = neither (holds_nothing s && is_pure_in m s) (is_surely_unit s) (not_unit s h)
