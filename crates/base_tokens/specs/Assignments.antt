-- Straight assignments and those by an operator.
use Rattle.std.specs.Prelude.{◌≡◌, Bool, true, false, Option, Some, None, Result, Err, IfOk, IsOk, is_some, if◌then◌else◌}
use Rattle.base_tokens.specs.declared.op_assignment.OpAssignment.{OpAssignment}
use Rattle.base_tokens.specs.declared.error.AstError.{AstError}
use Rattle.base_tokens.specs.declared.position.Position.{Position}
use Rattle.base_tokens.specs.declared.token.Token.{Token}
use Rattle.base_tokens.specs.declared.token.Token.TheVariants as token
use Rattle.base_tokens.specs.Tokens.{assignment_of, base_of, token_named}
use Rattle.base_text.specs.Text.{Text}

abbrev pub IsStraight : Position → OpAssignment → Type 0
IsStraight pos a = (a.op_assign ≡ token.Equals) × (a.op ≡ token.Equals) × (a.pos ≡ pos)

-- this `op=` with the operator that it applies
abbrev pub IsBy : Token → Position → OpAssignment → Type 0
IsBy form pos a = (a.op_assign ≡ form) × (base_of form ≡ Some a.op) × (a.pos ≡ pos)

abbrev pub is_no_equals : Token → Bool
is_no_equals token.Equals = false
is_no_equals _ = true

abbrev pub is_by_operator : OpAssignment → Bool
is_by_operator a = is_no_equals a.op

abbrev form_alone : Option Token → Option Token
form_alone None = None
form_alone (Some t) = if is_some (base_of t) then Some t else None

-- the `op=` that is written so
abbrev pub form_written : Text → Option Token
form_written text = form_alone (token_named text)

abbrev form_of : Option Token → Option Token
form_of None = None
form_of (Some t) = assignment_of t

-- the `op=` form of the operator that is written so
abbrev pub form_of_written : Text → Option Token
form_of_written text = form_of (token_named text)

-- the `op=` that is asked for, or the refusal where there is none
abbrev pub Answers : Option Token → AstError → Position → Result OpAssignment AstError → Type 0
Answers None e pos r = r ≡ Err e
Answers (Some form) e pos r = IsOk r × IfOk r (IsBy form pos)
