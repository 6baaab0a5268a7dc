-- Values and nodes by their kinds.
use Rattle.std.proofs.Common.{◌≡◌, List, false, refl}
use Rattle.rhai_base.specs.declared.dynamic.Dynamic.{Dynamic}
use Rattle.rhai_base.specs.Reading.{value_of, DynamicCase, fn_ptr_case, dynamic_cases}
use Rattle.rhai_base.specs.Value.{Value}
use Rattle.theory_meaning.specs.Constants.{constant_for}
use Rattle.theory_meaning.specs.Tree.{Expr}
use Rattle.ast_types.proofs.Cases.{ExprCase, dot_case, index_case}
use Rattle.theory_rewriting.specs.Parts.{constant_of}
use Rattle.theory_rewriting.specs.Steps.{Place}
use Rattle.theory_meaning.specs.Engine.{Engine}
use Rattle.theory_rewriting.specs.Known.{Known}
use Rattle.ast_types.specs.declared.expr.Expr as declared_expr
use Rattle.ast_types.proofs.OtherKinds.{NoDot, NoIndex}
use Rattle.opt_chains.specs.Chains.{ends_in_unit, IsQuietChain}
use Rattle.opt_chains.specs.Onward.{argument, goes_on, onward}
use Rattle.rhai_base.proofs.OtherKinds.{NoPointer}

-- the constant of what is no pointer
no_pointer : {v : Dynamic} {w : Value} → DynamicCase v w → NoPointer v → constant_for w ≡ constant_of w
no_pointer (fn_ptr_case p) n = absurd (n p refl)
no_pointer _ n = refl

pub plain_constant : (v : Dynamic) → NoPointer v → constant_for (value_of v) ≡ constant_of (value_of v)
plain_constant v n = no_pointer (dynamic_cases v) n

pub itself : {x : declared_expr.Expr} {e : Expr} → ExprCase x e → NoDot x → NoIndex x → e ≡ argument false e
itself (dot_case b k p) d i = absurd (d b k p refl)
itself (index_case b k p) d i = absurd (i b k p refl)
itself _ d i = refl

pub ends : {x : declared_expr.Expr} {e : Expr} → ExprCase x e → NoDot x → NoIndex x → false ≡ goes_on false e
ends (dot_case b k p) d i = absurd (d b k p refl)
ends (index_case b k p) d i = absurd (i b k p refl)
ends _ d i = refl

pub ends_nowhere : (p : Place) {x : declared_expr.Expr} {e : Expr} → ExprCase x e → NoDot x → NoIndex x → false ≡ ends_in_unit p e
ends_nowhere p (dot_case b k q) d i = absurd (d b k q refl)
ends_nowhere p (index_case b k q) d i = absurd (i b k q refl)
ends_nowhere p _ d i = refl

pub quiet_otherwise : (r : Engine) (ks : List Known) (p : Place) {x : declared_expr.Expr} {e : Expr} → ExprCase x e → NoDot x → NoIndex x → IsQuietChain r ks p e
quiet_otherwise r ks p (dot_case b k q) d i = absurd (d b k q refl)
quiet_otherwise r ks p (index_case b k q) d i = absurd (i b k q refl)
quiet_otherwise r ks p _ d i = tt

pub nothing_left : {x : declared_expr.Expr} {e : Expr} → ExprCase x e → NoDot x → NoIndex x → (part : Expr) → part ≡ onward false e part
nothing_left (dot_case b k q) d i part = absurd (d b k q refl)
nothing_left (index_case b k q) d i part = absurd (i b k q refl)
nothing_left _ d i part = refl
