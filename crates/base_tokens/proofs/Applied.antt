-- The operator that an assignment applies.
use Rattle.std.proofs.Common.{◌≡◌, true, false, Some, IsSome, refl, ◌∙◌}
use Rattle.base_tokens.specs.declared.token.Token.{Token}
use Rattle.base_tokens.specs.declared.token.Token.TheVariants as token
use Rattle.base_tokens.specs.Assignments.{is_no_equals, form_written, form_of_written}
use Rattle.base_tokens.specs.Symbols.{token_text}
use Rattle.base_tokens.specs.Tokens.{applied, assignment_of, base_of}

-- an `op=` applies its operator
pub applied_by : (form op : Token) → base_of form ≡ Some op → applied form ≡ Some op
applied_by token.Equals op e = absurd (cc)
applied_by _ op e = e

-- what applies an operator is that operator's `op=`
pub applies : (form op : Token) → applied form ≡ Some op → is_no_equals op ≡ true → base_of form ≡ Some op
applies token.Equals op e h = absurd (let p : token.Equals ≡ op = cc in cc)
applies _ op e h = e

-- ---- the texts of tokens name these tokens

pub written_form : (form : Token) → IsSome (base_of form) → form_written (token_text form) ≡ Some form
written_form token.PlusAssign h = refl
written_form token.MinusAssign h = refl
written_form token.MultiplyAssign h = refl
written_form token.DivideAssign h = refl
written_form token.ModuloAssign h = refl
written_form token.PowerOfAssign h = refl
written_form token.LeftShiftAssign h = refl
written_form token.RightShiftAssign h = refl
written_form token.AndAssign h = refl
written_form token.OrAssign h = refl
written_form token.XOrAssign h = refl
written_form _ h = absurd (let p : false ≡ true = h in cc)

written_base : (op : Token) → IsSome (assignment_of op) → form_of_written (token_text op) ≡ assignment_of op
written_base token.Plus h = refl
written_base token.Minus h = refl
written_base token.Multiply h = refl
written_base token.Divide h = refl
written_base token.Modulo h = refl
written_base token.PowerOf h = refl
written_base token.LeftShift h = refl
written_base token.RightShift h = refl
written_base token.Ampersand h = refl
written_base token.Pipe h = refl
written_base token.XOr h = refl
written_base _ h = absurd (let p : false ≡ true = h in cc)

pub written_base_as : (op form : Token) → IsSome (assignment_of op) → assignment_of op ≡ Some form → form_of_written (token_text op) ≡ Some form
written_base_as op form h e = written_base op h ∙ e
