-- What holds of every node of a list holds of every node of what a sweep keeps of it: also where the expression of a `return` stands for it.
use Rattle.std.proofs.Common.{Bool, false}
use Rattle.theory_meaning.specs.Engine.{Engine}
use Rattle.theory_meaning.specs.Tree.{Expr, Noop, ExprStmt, Return, an_expr, Stmts}
use Rattle.theory_meaning.specs.Walk.{Node, OfStmt, every, over_stmts}
use Rattle.theory_rewriting.specs.Reducible.{IsIrreducibleNode}
use Rattle.opt_lists.specs.Sweep.{Keeps, keeps_none, keeps, skips, keeps_noop, keeps_bared}

kept_every : (P : Node → Type 0) → P (OfStmt Noop) → ((exported : Bool) (e : Expr) → P (OfStmt (Return false exported (an_expr e))) → P (OfStmt (ExprStmt e))) → {b : Bool} {ss rest : Stmts} → Keeps b ss rest → over_stmts (every P) ss → over_stmts (every P) rest
kept_every P n f keeps_none h = tt
kept_every P n f (keeps k) h = (h.0, kept_every P n f k h.1)
kept_every P n f (skips k) h = kept_every P n f k h.1
kept_every P n f keeps_noop h = ((n, tt), tt)
kept_every P n f (keeps_bared {exported = exported} {e = e}) h = ((f exported e h.0.0, h.0.1), tt)

-- no node of the whole language becomes reducible
pub kept_irreducible : (r : Engine) {b : Bool} {ss rest : Stmts} → Keeps b ss rest → over_stmts (every (IsIrreducibleNode r)) ss → over_stmts (every (IsIrreducibleNode r)) rest
kept_irreducible r k h = kept_every (IsIrreducibleNode r) (record { alone = tt; lists = tt; expressions = tt }) (λ exported e i. record { alone = tt; lists = tt; expressions = i.expressions }) k h
