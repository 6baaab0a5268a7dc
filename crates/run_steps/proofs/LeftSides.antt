-- Left sides of assignments by their kind.
use Rattle.std.proofs.Common.{◌≡◌, Bool, false, refl}
use Rattle.ast_types.specs.declared.expr.Expr.{Expr}
use Rattle.ast_types.specs.declared.expr.Expr.TheVariants as kind
use Rattle.ast_types.proofs.Cases.{ExprCase, dot_case, index_case, method_call_case}
use Rattle.theory_meaning.specs.Desugar.{ends_in_call}
use Rattle.theory_meaning.specs.Tree as tree
use Rattle.ast_types.proofs.OtherKinds.{NoMethod, NoDot, NoIndex}

pub no_call_end : {x : Expr} {e : tree.Expr} (dot last : Bool) → ExprCase x e
    → NoMethod x → NoDot x → NoIndex x
    → false ≡ ends_in_call dot last e
no_call_end dot last (method_call_case c p) m d i = absurd (m c p refl)
no_call_end dot last (dot_case s k p) m d i = absurd (d s k p refl)
no_call_end dot last (index_case s k p) m d i = absurd (i s k p refl)
no_call_end dot last _ m d i = refl
