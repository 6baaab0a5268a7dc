-- Short forms of trees.
use Rattle.std.specs.Prelude.{[], false, true}
use Rattle.base_tokens.specs.declared.flags.ASTFlags.{ASTFlags}
use Rattle.rhai_base.specs.Value.{Text}
use Rattle.theory_meaning.specs.Tree.{Callee, CallToken, ChainFlags, Expr, Variable, FnCall, Index, no_exprs, expr}

-- what is called by its name alone
abbrev pub called : Text → CallToken → Callee
called name token = record { namespace = []; name = name; captures = false; token = token }

abbrev pub variable : Text → Expr
variable name = Variable [] name

abbrev pub operation : Text → CallToken → Expr → Expr → Expr
operation name token lhs rhs = FnCall (called name token) (expr lhs (expr rhs no_exprs))

-- the last index of a chain ends it
abbrev pub ending : ChainFlags
ending = record { negated = false; breaks = true; exported = false }

-- the flag BREAK alone
abbrev pub ends_here : ASTFlags
ends_here = record { 0 = 8 }

abbrev pub element : Expr → Expr → Expr
element e index = Index ending e index
