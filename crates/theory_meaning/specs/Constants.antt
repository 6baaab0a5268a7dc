-- Constants and literals, their values, and the constant for a value.
use Rattle.std.specs.Prelude.{Bool, true, false, not, ◌&&◌, List, [], ◌∷◌, Option, Some, None, codes, is_some, if◌then◌else◌}
use Rattle.rhai_base.specs.Value.{Text, Value, UnitV, BoolV, IntV, FloatV, CharV, TextV, ArrayV, MapV, PointerV, no_values, values, same_text, holds_float, text_of}
use Rattle.rhai_base.specs.Operators.{Operator, UpTo, Through, Computed, NoEntry, Is, Overflows, binary}
use Rattle.base_tokens.specs.Names.{is_valid_name}
use Rattle.theory_meaning.specs.ActForms.{truth}
use Rattle.theory_meaning.specs.Control.{texts_joined}
use Rattle.theory_meaning.specs.Elements.{fields_of}
use Rattle.theory_meaning.specs.Engine.{or_else}
use Rattle.theory_meaning.specs.Shape.{is_none}
use Rattle.theory_meaning.specs.Tree.{NoToken, Expr, DynamicConstant, BoolConstant, IntegerConstant, FloatConstant, CharConstant, StringConstant, UnitConstant, InterpolatedString, ArrayOf, MapOf, FnCall, Exprs, no_exprs, expr, Pairs, no_pairs, pair}

-- ---- constants

abbrev pub array_value : Option (List Value) → Option Value
array_value (Some vs) = Some (ArrayV (values vs))
array_value None = None

abbrev pub map_value : Option (List (Text × Value)) → Option Value
map_value (Some vs) = Some (MapV (fields_of vs))
map_value None = None

abbrev pub joined_value : Option (List Value) → Option Value
joined_value (Some vs) = Some (TextV (texts_joined text_of vs))
joined_value None = None

abbrev pub where_floatless : Bool → Option (List Value) → Option (List Value)
where_floatless true o = o
where_floatless false o = None

abbrev pub value_and : Option Value → Option (List Value) → Option (List Value)
value_and (Some v) (Some vs) = Some (v ∷ vs)
value_and _ _ = None

abbrev pub entry_and : Text → Option Value → Option (List (Text × Value)) → Option (List (Text × Value))
entry_and k (Some v) (Some vs) = Some ((k, v) ∷ vs)
entry_and k _ _ = None

-- a constant whose parts are no floats and hold none
abbrev mutual
  pub is_floatless : Expr → Bool
  is_floatless (DynamicConstant v) = not (holds_float v)
  is_floatless (FloatConstant x) = false
  is_floatless (ArrayOf es) = are_floatless es
  is_floatless (MapOf ps template) = pairs_are_floatless ps
  is_floatless _ = true

  pub are_floatless : Exprs → Bool
  are_floatless no_exprs = true
  are_floatless (expr e es) = is_floatless e && are_floatless es

  pub pairs_are_floatless : Pairs → Bool
  pairs_are_floatless no_pairs = true
  pairs_are_floatless (pair k e ps) = is_floatless e && pairs_are_floatless ps

-- The value of a constant; None: no constant. A text in which a part holds a float is the host's to write.
abbrev mutual
  pub constant_value : Expr → Option Value
  constant_value (DynamicConstant v) = Some v
  constant_value (BoolConstant b) = Some (BoolV b)
  constant_value (IntegerConstant n) = Some (IntV n)
  constant_value (FloatConstant x) = Some (FloatV x)
  constant_value (CharConstant c) = Some (CharV c)
  constant_value (StringConstant t) = Some (TextV t)
  constant_value UnitConstant = Some UnitV
  constant_value (InterpolatedString es) = joined_value (where_floatless (are_floatless es) (constant_values es))
  constant_value (ArrayOf es) = array_value (constant_values es)
  constant_value (MapOf ps template) = map_value (constant_entries ps)
  constant_value _ = None

  pub constant_values : Exprs → Option (List Value)
  constant_values no_exprs = Some []
  constant_values (expr e es) = value_and (constant_value e) (constant_values es)

  pub constant_entries : Pairs → Option (List (Text × Value))
  constant_entries no_pairs = Some []
  constant_entries (pair k e ps) = entry_and k (constant_value e) (constant_entries ps)

-- the values of a text's parts, where all are constants that hold no float
abbrev pub text_constants : Exprs → Option (List Value)
text_constants es = where_floatless (are_floatless es) (constant_values es)

abbrev pub is_constant : Expr → Bool
is_constant e = is_some (constant_value e)

abbrev pub are_constant : Exprs → Bool
are_constant es = is_some (constant_values es)

abbrev pub truth_of : Option Value → Option Bool
truth_of (Some v) = truth v
truth_of None = None

-- what a constant condition decides
abbrev pub constant_bool : Expr → Option Bool
constant_bool e = truth_of (constant_value e)

abbrev pub is_literal_unit : Expr → Bool
is_literal_unit UnitConstant = true
is_literal_unit _ = false

-- ---- the constant for a value

-- the call that makes a pointer to the function of a name
abbrev pub pointer_call : Text → Expr
pointer_call f = FnCall (record { namespace = []; name = codes "Fn"; captures = false; token = NoToken }) (expr (StringConstant f) no_exprs)

-- the expression for a value: a constant, but for a pointer without values, which is the call that makes it
abbrev pub constant_for : Value → Expr
constant_for UnitV = UnitConstant
constant_for (BoolV b) = BoolConstant b
constant_for (IntV n) = IntegerConstant n
constant_for (FloatV x) = FloatConstant x
constant_for (CharV c) = CharConstant c
constant_for (TextV t) = StringConstant t
constant_for (PointerV f no_values) = pointer_call f
constant_for v = DynamicConstant v

-- ---- literals: constants, and the calls that make a pointer or a range of constants

-- the value of an operator's answer; a fault is none
abbrev pub computed_value : Computed → Option Value
computed_value NoEntry = None
computed_value (Is v) = Some v
computed_value Overflows = None

-- the pointer to the function of a name, where a function may have it
abbrev pub pointer_to : Text → Option Value
pointer_to f = if is_valid_name f then Some (PointerV f no_values) else None

abbrev pub pointer_literal : Expr → Option Value
pointer_literal (StringConstant f) = pointer_to f
pointer_literal _ = None

-- an end of a range that is written out, unit where it is left out
abbrev pub range_end : Expr → Option Value
range_end (IntegerConstant n) = Some (IntV n)
range_end UnitConstant = Some UnitV
range_end _ = None

-- what a range's operator makes of its ends
abbrev pub range_literal : Operator → Option Value → Option Value → Option Value
range_literal op (Some v) (Some w) = computed_value (binary op v w)
range_literal op _ _ = None

-- the value that a call of a name writes out: a pointer or a range
abbrev pub named_value : Text → Exprs → Option Value
named_value f (expr e no_exprs) = if same_text f (codes "Fn") then pointer_literal e else None
named_value f (expr d (expr e no_exprs)) =
    if same_text f (codes "..") then range_literal UpTo (range_end d) (range_end e)
    else if same_text f (codes "..=") then range_literal Through (range_end d) (range_end e)
    else None
named_value f _ = None

-- a call under a namespace is none
abbrev pub call_value : Expr → Option Value
call_value (FnCall c es) = if is_none c.namespace then named_value c.name es else None
call_value _ = None

-- the value of a literal; None: no literal
abbrev pub literal_value : Expr → Option Value
literal_value e = or_else (constant_value e) (call_value e)
