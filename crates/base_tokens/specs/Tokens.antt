-- Which token is written as a text, and which operators have an `op=` form.
use Rattle.std.specs.Prelude.{Bool, true, false, Option, Some, None, List, [], ◌∷◌, if◌then◌else◌}
use Rattle.base_tokens.specs.declared.token.Token.{Token}
use Rattle.base_tokens.specs.declared.token.Token.TheVariants as token
use Rattle.base_tokens.specs.Symbols.{token_text}
use Rattle.base_text.specs.Text.{Text, same_text}

-- all tokens but the two unary operators that are written as binary ones
abbrev pub symbols : List Token
symbols =
    token.Plus ∷ token.Minus ∷ token.Multiply ∷ token.Divide ∷ token.Modulo
    ∷ token.PowerOf ∷ token.LeftShift ∷ token.RightShift ∷ token.Ampersand ∷ token.Pipe
    ∷ token.XOr ∷ token.EqualsTo ∷ token.NotEqualsTo ∷ token.LessThan ∷ token.LessThanEqualsTo
    ∷ token.GreaterThan ∷ token.GreaterThanEqualsTo ∷ token.ExclusiveRange ∷ token.InclusiveRange ∷ token.Bang
    ∷ token.PlusAssign ∷ token.MinusAssign ∷ token.MultiplyAssign ∷ token.DivideAssign ∷ token.ModuloAssign
    ∷ token.PowerOfAssign ∷ token.LeftShiftAssign ∷ token.RightShiftAssign ∷ token.AndAssign ∷ token.OrAssign
    ∷ token.XOrAssign ∷ token.Equals ∷ token.Period ∷ token.Elvis ∷ token.LeftBracket
    ∷ token.QuestionBracket ∷ token.LeftParen ∷ token.Unit ∷ token.DoubleColon ∷ []

abbrev pub first_written : Text → List Token → Option Token
first_written text [] = None
first_written text (t ∷ ts) = if same_text (token_text t) text then Some t else first_written text ts

-- the token that is written so
abbrev pub token_named : Text → Option Token
token_named text = first_written text symbols

-- an operator's `op=` form
abbrev pub assignment_of : Token → Option Token
assignment_of token.Plus = Some token.PlusAssign
assignment_of token.Minus = Some token.MinusAssign
assignment_of token.Multiply = Some token.MultiplyAssign
assignment_of token.Divide = Some token.DivideAssign
assignment_of token.Modulo = Some token.ModuloAssign
assignment_of token.PowerOf = Some token.PowerOfAssign
assignment_of token.LeftShift = Some token.LeftShiftAssign
assignment_of token.RightShift = Some token.RightShiftAssign
assignment_of token.Ampersand = Some token.AndAssign
assignment_of token.Pipe = Some token.OrAssign
assignment_of token.XOr = Some token.XOrAssign
assignment_of _ = None

-- the operator of an `op=` form
abbrev pub base_of : Token → Option Token
base_of token.PlusAssign = Some token.Plus
base_of token.MinusAssign = Some token.Minus
base_of token.MultiplyAssign = Some token.Multiply
base_of token.DivideAssign = Some token.Divide
base_of token.ModuloAssign = Some token.Modulo
base_of token.PowerOfAssign = Some token.PowerOf
base_of token.LeftShiftAssign = Some token.LeftShift
base_of token.RightShiftAssign = Some token.RightShift
base_of token.AndAssign = Some token.Ampersand
base_of token.OrAssign = Some token.Pipe
base_of token.XOrAssign = Some token.XOr
base_of _ = None

-- the operator that an assignment applies; `=` stands for none
abbrev pub applied : Token → Option Token
applied token.Equals = Some token.Equals
applied t = base_of t

-- the operators that make ranges, which no host can take over
abbrev pub makes_range : Token → Bool
makes_range token.ExclusiveRange = true
makes_range token.InclusiveRange = true
makes_range _ = false
