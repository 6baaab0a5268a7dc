-- Statements all of whose calls are those of operators stay so.
use Rattle.std.proofs.Common.{◌≡◌, Bool, true, false}
use Rattle.rhai_base.specs.Value.{Value, UnitV, PointerV}
use Rattle.theory_meaning.specs.Constants.{constant_for}
use Rattle.theory_meaning.specs.OperatorCalls.{CallsOperator}
use Rattle.theory_meaning.specs.Tree.{ChainFlags, Expr, Stmts}
use Rattle.theory_meaning.specs.Walk.{Node, OfExpr, Around, outermost, every, throughout, over_stmts}
use Rattle.theory_meaning.proofs.Walk.{stmts_alongside, every_throughout}
use Rattle.theory_rewriting.specs.Context.{Context, ListKind}
use Rattle.theory_rewriting.specs.Rewriting.{StmtsTo}
use Rattle.theory_rewriting.specs.Parts.{constant_of, link}
use Rattle.theory_rewriting.proofs.Plain.{is_plain_value}
use Rattle.theory_rewriting.proofs.rules.Lasting.{SameNode, same_call, same_call_statement, same_and, same_or, same_coalesce, same_text, same_while, same_share, same_switch, same_map, same_method, same_dot, same_index, same_do, same_for, same_var, same_assignment, same_try, same_break, same_return, same_import, Lasting}
use Rattle.theory_soundness.proofs.kept.Lasting.{stmts_keep}

-- a constant is no call
constant_callless : (v : Value) → is_plain_value v ≡ true → CallsOperator (OfExpr (constant_for v))
constant_callless (PointerV f vs) p = absurd cc
constant_callless _ p = tt

callee_again : {n n' : Node} → SameNode n n' → CallsOperator n → CallsOperator n'
callee_again (same_call e) h = h
callee_again (same_call_statement e) h = h
callee_again (same_and e) h = h
callee_again (same_or e) h = h
callee_again (same_coalesce e) h = h
callee_again same_text h = h
callee_again same_while h = h
callee_again (same_switch e) h = h
callee_again (same_map e) h = h
callee_again (same_method e) h = h
callee_again (same_dot e) h = h
callee_again (same_index e) h = h
callee_again same_share h = h
callee_again same_do h = h
callee_again same_for h = h
callee_again same_var h = h
callee_again (same_assignment e q) h = h
callee_again same_try h = h
callee_again same_break h = h
callee_again same_return h = h
callee_again same_import h = h
callee_again _ h = tt

value_callless : (v : Value) → CallsOperator (OfExpr (constant_of v))
value_callless UnitV = tt
value_callless _ = tt

no_chain : (dot dot' : Bool) (f m : ChainFlags) (e a e' r : Expr) → f.breaks ≡ false → CallsOperator (OfExpr (link dot f e (link dot' m a r))) → (b : Around) → CallsOperator (OfExpr (link dot' m a r)) → CallsOperator (OfExpr (link dot' m e' r))
no_chain true dot' f m e a e' r q h b j = absurd h
no_chain false dot' f m e a e' r q h b j = absurd h

operators_last : (l : Bool) → Lasting (λ a n. CallsOperator n) l
operators_last l = record {
  again = callee_again;
  constant = constant_callless;
  value = value_callless;
  pointer = λ ns x f h. absurd h;
  noop = tt;
  branching = λ e a b. tt;
  block = λ ss. tt;
  expression = λ e. tt;
  onward = no_chain;
  conjunction = λ es h. tt;
  call = λ c es h. h;
  call_statement = λ c es h. h;
}

pub calls_stay : {k : Context} {m : ListKind} {d d' : Bool} {ss ss' : Stmts} → StmtsTo k m d d' ss ss' → over_stmts (every CallsOperator) ss → over_stmts (every CallsOperator) ss'
calls_stay {ss = ss} {ss' = ss'} to h =
    let before = stmts_alongside (λ p q. (a : Around) → (p → q a) × (q a → p)) (every CallsOperator) (throughout (λ a n. CallsOperator n)) (every_throughout CallsOperator) ss outermost in
    let after = stmts_alongside (λ p q. (a : Around) → (p → q a) × (q a → p)) (every CallsOperator) (throughout (λ a n. CallsOperator n)) (every_throughout CallsOperator) ss' outermost in
    after.1 (stmts_keep (λ a n. CallsOperator n) operators_last false to (before.0 h))
