-- The numbers of operators and tokens tell them apart.
use Rattle.std.proofs.Common.{◌≡◌, ℕ, false, List, [], ◌∷◌, Option, Some, None, get_or, refl, sym, ap, ◌∙◌}
use Rattle.base_tokens.specs.declared.token.Token.{Token}
use Rattle.base_tokens.specs.declared.token.Token.TheVariants as token
use Rattle.base_tokens.specs.Assignments.{is_no_equals}
use Rattle.rhai_base.specs.Builtin.{operator_of}
use Rattle.rhai_base.specs.Operators.{Operator, Plus, Minus, Multiply, Divide, Modulo, Power, ShiftLeft, ShiftRight, BitAnd, BitOr, BitXor, EqualTo, NotEqualTo, Less, Greater, LessOrEqual, GreaterOrEqual, UpTo, Through, Not, Negative, Positive}
use Rattle.theory_meaning.specs.Tree.{CallToken, NoToken, OfOperator, OfOther}
use Rattle.ast_types.specs.Reading.{mark_by}
use Rattle.ast_same.specs.Alike.{operator_number, token_number}

-- the tokens by their numbers
abbrev numbered : List CallToken
numbered =
    OfOther ∷ OfOperator Plus ∷ OfOperator Minus ∷ OfOperator Multiply ∷ OfOperator Divide ∷ OfOperator Modulo
    ∷ OfOperator Power ∷ OfOperator ShiftLeft ∷ OfOperator ShiftRight ∷ OfOperator BitAnd ∷ OfOperator BitOr
    ∷ OfOperator BitXor ∷ OfOperator EqualTo ∷ OfOperator NotEqualTo ∷ OfOperator Less ∷ OfOperator Greater
    ∷ OfOperator LessOrEqual ∷ OfOperator GreaterOrEqual ∷ OfOperator UpTo ∷ OfOperator Through ∷ OfOperator Not
    ∷ OfOperator Negative ∷ OfOperator Positive ∷ NoToken ∷ []

abbrev token_at : ℕ → CallToken
token_at n = get_or numbered n OfOther

token_found : (t : CallToken) → token_at (token_number t) ≡ t
token_found OfOther = refl
token_found NoToken = refl
token_found (OfOperator Plus) = refl
token_found (OfOperator Minus) = refl
token_found (OfOperator Multiply) = refl
token_found (OfOperator Divide) = refl
token_found (OfOperator Modulo) = refl
token_found (OfOperator Power) = refl
token_found (OfOperator ShiftLeft) = refl
token_found (OfOperator ShiftRight) = refl
token_found (OfOperator BitAnd) = refl
token_found (OfOperator BitOr) = refl
token_found (OfOperator BitXor) = refl
token_found (OfOperator EqualTo) = refl
token_found (OfOperator NotEqualTo) = refl
token_found (OfOperator Less) = refl
token_found (OfOperator Greater) = refl
token_found (OfOperator LessOrEqual) = refl
token_found (OfOperator GreaterOrEqual) = refl
token_found (OfOperator UpTo) = refl
token_found (OfOperator Through) = refl
token_found (OfOperator Not) = refl
token_found (OfOperator Negative) = refl
token_found (OfOperator Positive) = refl

pub token_exact : (t u : CallToken) → token_number t ≡ token_number u → t ≡ u
token_exact t u h = sym (token_found t) ∙ ap token_at h ∙ token_found u

pub token_number-by : (o : Option Operator) → token_number (mark_by o) ≡ operator_number o
token_number-by None = refl
token_number-by (Some op) = refl

marked : (o p : Option Operator) → mark_by o ≡ mark_by p → o ≡ p
marked None None h = refl
marked None (Some b) h = absurd (cc)
marked (Some a) None h = absurd (cc)
marked (Some a) (Some b) h = cc

pub operator_exact : (o p : Option Operator) → operator_number o ≡ operator_number p → o ≡ p
operator_exact o p h = marked o p (token_exact (mark_by o) (mark_by p) (token_number-by o ∙ h ∙ sym (token_number-by p)))

-- a straight assignment has no operator
pub operator_number-straight : (op : Token) → is_no_equals op ≡ false → operator_number (operator_of op) ≡ 0
operator_number-straight token.Equals h = refl
operator_number-straight _ h = absurd (cc)

pub ruleset numbers = (token_number-by, operator_number-straight)
