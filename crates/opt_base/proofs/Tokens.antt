-- What a token's operator folds to is what is built in at it.
use Rattle.std.proofs.Common.{◌≡◌, ◌<◌, ◌≤◌, List, [], ◌∷◌, length, Option, Some, None, refl, sym, ap, ◌∙◌, arith}
use Rattle.base_tokens.specs.declared.token.Token.{Token}
use Rattle.rhai_base.specs.Operators.{Operator}
use Rattle.rhai_base.specs.Builtin.{operator_of}
use Rattle.rhai_base.specs.Value.{Value}
use Rattle.theory_meaning.specs.Constants.{computed_value, value_and, constant_value, constant_values}
use Rattle.theory_meaning.specs.Engine.{Engine}
use Rattle.theory_meaning.specs.Tree.{CallToken, NoToken, OfOperator, OfOther}
use Rattle.base_engine.specs.EngineInfo.{built_in_of, built_in_at}
use Rattle.base_engine.proofs.Operands.{built_in-few, built_in-many}
use Rattle.ast_types.specs.declared.expr.Expr.{Expr}
use Rattle.ast_types.specs.Reading.{mark_by, mark_of, expr_of, exprs_of}
use Rattle.theory_rewriting.specs.Folding.{folded_values}

folded-by : (engine : Engine) (vs : List Value) (o : Option Operator) → folded_values engine (mark_by o) (Some vs) ≡ computed_value (built_in_of engine vs o)
folded-by engine vs None = refl
folded-by engine vs (Some op) = refl

folded-at : (engine : Engine) (t : Token) (vs : List Value) → folded_values engine (mark_of (Some t)) (Some vs) ≡ computed_value (built_in_at engine t vs)
folded-at engine t vs = folded-by engine vs (operator_of t)

folded-no_values : (engine : Engine) (m : CallToken) → folded_values engine m None ≡ None
folded-no_values engine NoToken = refl
folded-no_values engine (OfOperator op) = refl
folded-no_values engine OfOther = refl

-- ---- what is no constant

pub first-unfolded : (engine : Engine) (m : CallToken) {v : Option Value} (vs : Option (List Value)) → v ≡ None → None ≡ folded_values engine m (value_and v vs)
first-unfolded engine m vs h = sym (ap (λ o. folded_values engine m (value_and o vs)) h ∙ folded-no_values engine m)

pub second-unfolded : (engine : Engine) (m : CallToken) (u : Option Value) {v : Option Value} (vs : Option (List Value)) → v ≡ None → None ≡ folded_values engine m (value_and u (value_and v vs))
second-unfolded engine m None vs h = sym (folded-no_values engine m)
second-unfolded engine m (Some x) vs h = sym (ap (λ o. folded_values engine m (value_and (Some x) (value_and o vs))) h ∙ folded-no_values engine m)

-- ---- no operands, or more than two

folded-three : (engine : Engine) (t : Token) (a b c : Option Value) (vs : Option (List Value)) → None ≡ folded_values engine (mark_of (Some t)) (value_and a (value_and b (value_and c vs)))
folded-three engine t None b c vs = sym (folded-no_values engine (mark_of (Some t)))
folded-three engine t (Some a) None c vs = sym (folded-no_values engine (mark_of (Some t)))
folded-three engine t (Some a) (Some b) None vs = sym (folded-no_values engine (mark_of (Some t)))
folded-three engine t (Some a) (Some b) (Some c) None = sym (folded-no_values engine (mark_of (Some t)))
folded-three engine t (Some a) (Some b) (Some c) (Some vs) =
    let many = built_in-many engine t (a ∷ b ∷ c ∷ vs) (omega arith) in
    ap computed_value many ∙ sym (folded-at engine t (a ∷ b ∷ c ∷ vs))

pub folded-few : (engine : Engine) (t : Token) (l : List Expr) → length l < 1 → None ≡ folded_values engine (mark_of (Some t)) (constant_values (exprs_of l))
folded-few engine t [] h = ap computed_value (built_in-few engine t [] h) ∙ sym (folded-at engine t [])
folded-few engine t (e ∷ l) h = absurd (omega arith)

pub folded-many : (engine : Engine) (t : Token) (l : List Expr) → 3 ≤ length l → None ≡ folded_values engine (mark_of (Some t)) (constant_values (exprs_of l))
folded-many engine t [] h = absurd (omega arith)
folded-many engine t (a ∷ []) h = absurd (omega arith)
folded-many engine t (a ∷ b ∷ []) h = absurd (omega arith)
folded-many engine t (a ∷ b ∷ c ∷ l) h = folded-three engine t (constant_value (expr_of a)) (constant_value (expr_of b)) (constant_value (expr_of c)) (constant_values (exprs_of l))
