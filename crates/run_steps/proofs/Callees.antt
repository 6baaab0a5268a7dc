-- Operator calls by their tokens.
use Rattle.std.proofs.Common.{◌≡◌, ℕ, suc, Bool, true, false, not, ◌&&◌, if◌then◌else◌, List, [], ◌∷◌, length, Option, Some, None, refl, sym, ap, ◌∙◌}
use Rattle.std.proofs.lemmas.Bool.{and_parts}
use Rattle.base_tokens.specs.declared.token.Token.{Token}
use Rattle.base_tokens.specs.declared.token.Token.TheVariants as token
use Rattle.rhai_base.specs.Operators.{Operator, NoEntry, symbol}
use Rattle.rhai_base.specs.Builtin.{operator_of}
use Rattle.base_tokens.specs.Symbols.{token_text}
use Rattle.rhai_base.specs.Value.{Text, Value}
use Rattle.ast_types.specs.declared.expr.Expr.{Expr}
use Rattle.theory_meaning.specs.Act.{World}
use Rattle.theory_meaning.specs.ActForms.{ask_host}
use Rattle.theory_meaning.specs.Calls.{called, of_table, operate}
use Rattle.theory_meaning.specs.Core as core
use Rattle.theory_meaning.specs.Desugar as desugar
use Rattle.theory_meaning.specs.Desugar.{callee_by}
use Rattle.theory_meaning.specs.Shape.{is_none, has_token, is_barred, is_callable}
use Rattle.ast_types.specs.Reading.{exprs_of}
use Rattle.theory_meaning.specs.Tree.{CallToken, NoToken, OfOperator, OfOther, Callee, count_exprs}
use Rattle.base_engine.specs.EngineInfo.{built_in_of, built_in_at}
use Rattle.run_steps.specs.Operators.{operator_by, called_operator}
use Rattle.run_steps.specs.Variables.{in_module}

pub count_exprs_of : (xs : List Expr) → count_exprs (exprs_of xs) ≡ length xs
count_exprs_of [] = refl
count_exprs_of (x ∷ xs) = ap suc (count_exprs_of xs)

-- an operator's call names it
operator_by_if : (b : Bool) (p o : Operator) → Some p ≡ (if b then Some o else None) → p ≡ o
operator_by_if true p o h = cc
operator_by_if false p o h = cc

operator_callee_by : (k : Callee) (n : ℕ) (m : CallToken) (p : Operator) → Some p ≡ operator_by k n m → callee_by k m ≡ core.OnOperator p
operator_callee_by k n NoToken p h = cc
operator_callee_by k n (OfOperator o) p h = ap core.OnOperator (sym (operator_by_if (has_token k n (OfOperator o)) p o h))
operator_callee_by k n OfOther p h = cc

pub operator_callee : (k : Callee) (n : ℕ) (p : Operator) → Some p ≡ called_operator k n → callee_by k k.token ≡ core.OnOperator p
operator_callee k n p h = operator_callee_by k n k.token p h

-- another call stands for a name
no_operator_if : (b : Bool) (o : Operator) → None ≡ (if b then Some o else None) → b ≡ true → ⊥
no_operator_if true o h e = cc
no_operator_if false o h e = cc

name_callee_by : (k : Callee) (n : ℕ) (m : CallToken) → (has_token k n m && not (is_barred k)) ≡ true → None ≡ operator_by k n m → callee_by k m ≡ desugar.by_name k k.namespace
name_callee_by k n NoToken h e = refl
name_callee_by k n (OfOperator o) h e = absurd (no_operator_if (has_token k n (OfOperator o)) o e (and_parts (has_token k n (OfOperator o)) (not (is_barred k)) h).0)
name_callee_by k n OfOther h e = refl

by_names : (k : Callee) (ns : List Text) → is_none ns ≡ true → desugar.by_name k ns ≡ core.ByName k.name k.captures
by_names k [] h = refl
by_names k (m ∷ ms) h = cc

by_modules : (w : World) (k : Callee) (ns : List Text) (vs : List Value) → is_none ns ≡ false → called w (desugar.by_name k ns) vs ≡ in_module ns k.name (λ f. ask_host f vs)
by_modules w k [] vs h = cc
by_modules w k (m ∷ ms) vs h = refl

module _ (k : Callee) (n : ℕ) (h : is_callable k n ≡ true) (e : None ≡ called_operator k n) where
  pub named_callee : is_none k.namespace ≡ true → callee_by k k.token ≡ core.ByName k.name k.captures
  named_callee s = name_callee_by k n k.token h e ∙ by_names k k.namespace s

  pub qualified_callee : (w : World) (vs : List Value) → is_none k.namespace ≡ false → called w (callee_by k k.token) vs ≡ in_module k.namespace k.name (λ f. ask_host f vs)
  qualified_callee w vs s = ap (λ f. called w f vs) (name_callee_by k n k.token h e) ∙ by_modules w k k.namespace vs s

-- ---- the host in place of an operator

symbol_or : Text → Option Operator → Text
symbol_or t (Some op) = symbol op
symbol_or t None = t

-- an operator's token is written as the operator
written : (t : Token) → token_text t ≡ symbol_or (token_text t) (operator_of t)
unfolding symbol_or
written token.Plus = refl
written _ = refl

symbol_written : (t : Token) (op : Operator) → operator_of t ≡ Some op → token_text t ≡ symbol op
unfolding symbol_or
symbol_written t op h = written t ∙ ap (symbol_or (token_text t)) h

-- an operator that is not built in at these values is the host's
pub operates_by_host : (w : World) (t : Token) (op : Operator) (vs : List Value) → NoEntry ≡ built_in_at w.engine t vs → operator_of t ≡ Some op → operate w op vs ≡ ask_host (token_text t) vs
operates_by_host w t op vs e h =
    ap (of_table (symbol op) vs) (sym (e ∙ ap (built_in_of w.engine vs) h)) ∙ ap (λ f. ask_host f vs) (sym (symbol_written t op h))
