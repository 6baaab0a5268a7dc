-- The operator of a call, by its token.
use Rattle.std.specs.Prelude.{◌≡◌, ℕ, Option, Some, None, if◌then◌else◌}
use Rattle.base_tokens.specs.declared.token.Token.{Token}
use Rattle.rhai_base.specs.Operators.{Operator}
use Rattle.rhai_base.specs.Builtin.{operator_of}
use Rattle.theory_meaning.specs.Shape.{has_token}
use Rattle.theory_meaning.specs.Tree.{CallToken, NoToken, OfOperator, OfOther, Callee}

abbrev pub operator_by : Callee → ℕ → CallToken → Option Operator
operator_by c n NoToken = None
operator_by c n (OfOperator op) = if has_token c n (OfOperator op) then Some op else None
operator_by c n OfOther = None

-- the operator that is called over as many operands as it has
abbrev pub called_operator : Callee → ℕ → Option Operator
called_operator c n = operator_by c n c.token

-- the token stands for the operator; no token for none
abbrev pub StandsFor : Option Token → Option Operator → Type 0
StandsFor (Some op) o = (p : Operator) × (operator_of op ≡ Some p) × (Some p ≡ o)
StandsFor None o = None ≡ o
