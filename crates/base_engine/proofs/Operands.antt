-- The table has no entry for no operands, nor for more than two.
use Rattle.std.proofs.Common.{◌≡◌, ◌<◌, ◌≤◌, Bool, true, false, if◌then◌else◌, List, [], ◌∷◌, length, Option, Some, None, refl, sym, arith}
use Rattle.base_tokens.specs.declared.token.Token.{Token}
use Rattle.rhai_base.specs.Operators.{Operator, Computed, NoEntry, computed}
use Rattle.rhai_base.specs.Builtin.{operator_of}
use Rattle.rhai_base.specs.Value.{Value}
use Rattle.theory_meaning.specs.Engine.{Engine, is_open}
use Rattle.base_engine.specs.EngineInfo.{built_in_of, built_in_at}

no_entry : (b : Bool) (c : Computed) → c ≡ NoEntry → NoEntry ≡ (if b then c else NoEntry)
no_entry true c h = sym h
no_entry false c h = refl

no_operand : (op : Operator) → computed op [] ≡ NoEntry
unfolding computed
no_operand op = refl

three_operands : (op : Operator) (u v w : Value) (vs : List Value) → computed op (u ∷ v ∷ w ∷ vs) ≡ NoEntry
unfolding computed
three_operands op u v w vs = refl

few : (e : Engine) (vs : List Value) (o : Option Operator) → length vs < 1 → NoEntry ≡ built_in_of e vs o
few e vs None h = refl
few e [] (Some op) h = no_entry (is_open e op []) _ (no_operand op)
few e (v ∷ vs) (Some op) h = absurd (omega arith)

many : (e : Engine) (vs : List Value) (o : Option Operator) → 3 ≤ length vs → NoEntry ≡ built_in_of e vs o
many e vs None h = refl
many e [] (Some op) h = absurd (omega arith)
many e (u ∷ []) (Some op) h = absurd (omega arith)
many e (u ∷ v ∷ []) (Some op) h = absurd (omega arith)
many e (u ∷ v ∷ w ∷ vs) (Some op) h = no_entry (is_open e op (u ∷ v ∷ w ∷ vs)) _ (three_operands op u v w vs)

pub built_in-few : (e : Engine) (op : Token) (vs : List Value) → length vs < 1 → NoEntry ≡ built_in_at e op vs
built_in-few e op vs h = few e vs (operator_of op) h

pub built_in-many : (e : Engine) (op : Token) (vs : List Value) → 3 ≤ length vs → NoEntry ≡ built_in_at e op vs
built_in-many e op vs h = many e vs (operator_of op) h
