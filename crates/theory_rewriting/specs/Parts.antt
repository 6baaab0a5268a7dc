-- The constant that a rule leaves, the callees of the language's own functions, and the nodes of chains.
use Rattle.std.specs.Prelude.{Bool, true, false, []}
use Rattle.rhai_base.specs.Value.{Text, Value, UnitV, BoolV, IntV, FloatV, CharV, TextV}
use Rattle.theory_meaning.specs.Tree.{ChainFlags, Callee, NoToken, Expr, DynamicConstant, BoolConstant, IntegerConstant, FloatConstant, CharConstant, StringConstant, UnitConstant, Dot, Index}

-- the constant of a value; a pointer is one too
abbrev pub constant_of : Value → Expr
constant_of UnitV = UnitConstant
constant_of (BoolV b) = BoolConstant b
constant_of (IntV n) = IntegerConstant n
constant_of (FloatV x) = FloatConstant x
constant_of (CharV c) = CharConstant c
constant_of (TextV t) = StringConstant t
constant_of v = DynamicConstant v

-- a callee by a name alone; captures: it sees the caller's names
abbrev pub named : Text → Bool → Callee
named f captures = record { namespace = []; name = f; captures = captures; token = NoToken }

-- a `Dot` (dot) or an `Index`
abbrev pub link : (dot : Bool) → ChainFlags → Expr → Expr → Expr
link true f l r = Dot f l r
link false f l r = Index f l r
