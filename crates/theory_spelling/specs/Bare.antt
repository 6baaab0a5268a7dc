-- Trees without what depends on how they are spelled: constants are written out, braces around one expression are gone,
-- and so on. Two scripts are the same but for how they are spelled where this makes one of both, whatever the order of functions.
use Rattle.std.specs.Prelude.{ℕ, zero, suc, Bool, true, false, not, cond, ◌&&◌, List, [], ◌∷◌, map, Option, Some, None, codes}
use Rattle.rhai_base.specs.Value.{Text, Value, UnitV, BoolV, IntV, FloatV, CharV, TextV, ArrayV, MapV, PointerV, RangeV, RangeInclusiveV, Values, no_values, item, Fields, no_fields, field, same_fields}
use Rattle.rhai_base.specs.Operators.{Operator, UpTo, Through, symbol}
use Rattle.base_tokens.specs.Names.{is_valid_name}
use Rattle.theory_meaning.specs.Constants.{is_literal_unit, pointer_call}
use Rattle.theory_meaning.specs.Elements.{fields_of}
use Rattle.theory_meaning.specs.Shape.{is_true, condition_at, are_distinct}
use Rattle.theory_meaning.specs.Tree.{CallToken, NoToken, OfOperator, Callee, ChainFlags, Expr, DynamicConstant, BoolConstant, IntegerConstant, FloatConstant, CharConstant, StringConstant, UnitConstant, InterpolatedString, ArrayOf, MapOf, Variable, ThisPtr, Property, MethodCall, BlockExpr, FnCall, Dot, Index, And, Or, Coalesce, Exprs, no_exprs, expr, Pairs, no_pairs, pair, MaybeExpr, no_expr, an_expr, Arms, no_arms, arm, Stmt, Noop, If, Switch, While, Do, For, Var, Assignment, FnCallStmt, Block, TryCatch, ExprStmt, BreakLoop, Return, Import, Stmts, no_stmts, stmt, Function, Script}
use Rattle.theory_naming.specs.Alike.{SameByKey, SameBut, AreApart}
use Rattle.theory_naming.specs.Renaming.{is_anonymous}
use Rattle.theory_spelling.specs.Captures.{grouped, settled}
use Rattle.theory_spelling.specs.Listed.{listed_switch}

-- ---- values, written out

-- the members of a map, as a list
abbrev pub members : Fields → List (Text × Value)
members no_fields = []
members (field k v fs) = (k, v) ∷ members fs

abbrev pub names_of : Fields → List Text
names_of no_fields = []
names_of (field k v fs) = k ∷ names_of fs

-- whether a literal that lists these members in their order has this value
abbrev pub are_listed : Fields → Bool
are_listed fs = are_distinct (names_of fs) && same_fields (fields_of (members fs)) fs

abbrev pub callee : Text → CallToken → Callee
callee f token = record { namespace = []; name = f; captures = false; token = token }

-- the operator of a range between two integers
abbrev pub range_call : Operator → Expr → Expr → Expr
range_call op a b = FnCall (callee (symbol op) (OfOperator op)) (expr a (expr b no_exprs))

-- a pointer: the call that makes it; one to a closure's function, which no text names, stays
abbrev pub pointer_literal : Text → Expr
pointer_literal f = cond (is_anonymous f) (DynamicConstant (PointerV f no_values)) (pointer_call f)

-- and the call that adds values to it
abbrev pub curried_call : Text → Exprs → Expr
curried_call f no_exprs = pointer_literal f
curried_call f (expr e es) = FnCall (callee (codes "curry") NoToken) (expr (pointer_literal f) (expr e es))

abbrev mutual
  -- the expression that writes a value out; what no expression writes out stays a constant
  pub literal_of : Value → Expr
  literal_of UnitV = UnitConstant
  literal_of (BoolV b) = BoolConstant b
  literal_of (IntV n) = IntegerConstant n
  literal_of (FloatV x) = FloatConstant x
  literal_of (CharV c) = CharConstant c
  literal_of (TextV t) = StringConstant t
  literal_of (ArrayV vs) = ArrayOf (literals_of vs)
  literal_of (MapV fs) = cond (are_listed fs) (MapOf (entries_of fs) (names_of fs)) (DynamicConstant (MapV fs))
  literal_of (PointerV f vs) = cond (is_valid_name f) (curried_call f (literals_of vs)) (DynamicConstant (PointerV f vs))
  literal_of (RangeV a b) = range_call UpTo (IntegerConstant a) (IntegerConstant b)
  literal_of (RangeInclusiveV a b) = range_call Through (IntegerConstant a) (IntegerConstant b)

  pub literals_of : Values → Exprs
  literals_of no_values = no_exprs
  literals_of (item v vs) = expr (literal_of v) (literals_of vs)

  pub entries_of : Fields → Pairs
  entries_of no_fields = no_pairs
  entries_of (field k v fs) = pair k (literal_of v) (entries_of fs)

-- a constant unit has no meaning, so it stays
abbrev pub bare_constant : Value → Expr
bare_constant UnitV = DynamicConstant UnitV
bare_constant v = literal_of v

-- ---- braces

-- what stands in braces around one expression, however many there are
abbrev pub inside_braces : Expr → Expr
inside_braces (BlockExpr (stmt (ExprStmt e) no_stmts)) = inside_braces e
inside_braces e = e

abbrev pub in_braces : Expr → Expr
in_braces e = BlockExpr (stmt (ExprStmt e) no_stmts)

-- braces around one expression, or around one block, are gone
abbrev pub unbraced : Stmts → Expr
unbraced (stmt (ExprStmt e) no_stmts) = e
unbraced (stmt (Block ss) no_stmts) = BlockExpr ss
unbraced ss = BlockExpr ss

-- an expression as a statement: braces are a block
abbrev pub evaluated : Expr → Stmt
evaluated (BlockExpr ss) = Block ss
evaluated e = ExprStmt e

-- what a node around it takes for more than its value: a place, a link of a chain
abbrev pub has_role : Expr → Bool
has_role (Variable p x) = true
has_role ThisPtr = true
has_role (Property p) = true
has_role (MethodCall c es) = true
has_role (Dot k l r) = true
has_role (Index k l r) = true
has_role _ = false

abbrev pub braced_if : Bool → Expr → Expr
braced_if true e = in_braces e
braced_if false e = e

-- braces stay around what would take a role without them
abbrev pub as_side : (had : Bool) → Expr → Expr
as_side had e = braced_if (not had && has_role e) e

-- around what would make a loop endless
abbrev pub as_guard : (had : Bool) → Expr → Expr
as_guard had e = braced_if (not had && is_literal_unit e) e

-- a catch name, or a literal unit for none
abbrev pub as_catch : (had had_unit : Bool) → Expr → Expr
as_catch had had_unit e = as_guard had_unit (as_side had e)

-- and around what would be literally true; that is asked of the default of a `switch`
abbrev pub as_condition : (had : Bool) → Expr → Expr
as_condition had e = braced_if (not had && is_true e) e

-- ---- other nodes

-- whether a `Dot` ends a chain by what stands at its right
abbrev pub is_last : (dot : Bool) → Expr → Bool
is_last dot (Dot k l r) = false
is_last dot (Index k l r) = false
is_last dot _ = dot

-- the last `Dot` of a chain needs no mark that it ends the chain, and no export has a meaning in chains
abbrev pub bare_flags : (dot : Bool) → ChainFlags → Expr → ChainFlags
bare_flags dot k r = record { negated = k.negated; breaks = cond (is_last dot r) false k.breaks; exported = false }

-- a text without parts
abbrev pub bare_text : Exprs → Expr
bare_text no_exprs = StringConstant []
bare_text es = InterpolatedString es

-- one operand, with the other that changes nothing
abbrev pub with_other : Expr → Exprs → Exprs
with_other d (expr e no_exprs) = expr e (expr d no_exprs)
with_other d es = es

-- whether the default of a `switch` is literally true
abbrev pub has_true_default : Arms → Option ℕ → Bool
has_true_default as' None = true
has_true_default as' (Some d) = condition_at as' d

abbrev pub with_condition_at : (had : Bool) → Arms → ℕ → Arms
with_condition_at had no_arms d = no_arms
with_condition_at had (arm c a as') zero = arm (as_condition had c) a as'
with_condition_at had (arm c a as') (suc d) = arm c a (with_condition_at had as' d)

abbrev pub with_default : (had : Bool) → Arms → Option ℕ → Arms
with_default had as' None = as'
with_default had as' (Some d) = with_condition_at had as' d

-- ---- trees

abbrev mutual
  pub bare_expr : Expr → Expr
  bare_expr (DynamicConstant v) = bare_constant v
  bare_expr (InterpolatedString es) = bare_text (bare_exprs es)
  bare_expr (ArrayOf es) = ArrayOf (bare_exprs es)
  bare_expr (MapOf ps template) = MapOf (bare_pairs ps) template
  bare_expr (MethodCall c es) = MethodCall c (bare_exprs es)
  bare_expr (BlockExpr ss) = unbraced (settled (bare_stmts ss))
  bare_expr (FnCall c es) = FnCall c (bare_exprs es)
  bare_expr (Dot k l r) = Dot (bare_flags true k r) (as_side (has_role l) (bare_expr l)) (as_side (has_role r) (bare_expr r))
  bare_expr (Index k l r) = Index (bare_flags false k r) (as_side (has_role l) (bare_expr l)) (as_side (has_role r) (bare_expr r))
  bare_expr (And es) = And (with_other (BoolConstant true) (bare_exprs es))
  bare_expr (Or es) = Or (with_other (BoolConstant false) (bare_exprs es))
  bare_expr (Coalesce es) = Coalesce (with_other UnitConstant (bare_exprs es))
  bare_expr e = e

  pub bare_exprs : Exprs → Exprs
  bare_exprs no_exprs = no_exprs
  bare_exprs (expr e es) = expr (bare_expr e) (bare_exprs es)

  pub bare_pairs : Pairs → Pairs
  bare_pairs no_pairs = no_pairs
  bare_pairs (pair k e ps) = pair k (bare_expr e) (bare_pairs ps)

  pub bare_maybe : MaybeExpr → MaybeExpr
  bare_maybe no_expr = no_expr
  bare_maybe (an_expr e) = an_expr (bare_expr e)

  pub bare_arms : Arms → Arms
  bare_arms no_arms = no_arms
  bare_arms (arm c a as') = arm (bare_expr c) (bare_expr a) (bare_arms as')

  pub bare_stmt : Stmt → Stmt
  bare_stmt Noop = Block no_stmts
  bare_stmt (If e a b) = If (bare_expr e) (bare_stmts a) (bare_stmts b)
  bare_stmt (Switch e as' t) = listed_switch (bare_expr e) (with_default (has_true_default as' t.default) (bare_arms as') t.default) t
  bare_stmt (While e b) = While (as_guard (is_literal_unit e) (bare_expr e)) (bare_stmts b)
  bare_stmt (Do negated exported e b) = Do negated false (bare_expr e) (bare_stmts b)
  bare_stmt (For x i e b) = For x i (bare_expr e) (bare_stmts b)
  bare_stmt (Var constant exported x e) = Var constant exported x (bare_expr e)
  bare_stmt (Assignment op l e) = Assignment op (as_side (has_role l) (bare_expr l)) (bare_expr e)
  bare_stmt (FnCallStmt c es) = ExprStmt (FnCall c (bare_exprs es))
  bare_stmt (Block ss) = evaluated (unbraced (settled (bare_stmts ss)))
  bare_stmt (TryCatch x a b) = TryCatch (as_catch (has_role x) (is_literal_unit x) (bare_expr x)) (bare_stmts a) (bare_stmts b)
  bare_stmt (ExprStmt e) = evaluated (bare_expr e)
  bare_stmt (BreakLoop breaks exported m) = BreakLoop breaks false (bare_maybe m)
  bare_stmt (Return throws exported m) = Return throws false (bare_maybe m)
  bare_stmt (Import e x) = Import (bare_expr e) x
  bare_stmt s = s

  pub bare_stmts : Stmts → Stmts
  bare_stmts no_stmts = no_stmts
  bare_stmts (stmt s ss) = grouped (bare_stmt s) (bare_stmts ss)

-- ---- scripts

abbrev pub is_empty_block : Stmt → Bool
is_empty_block (Block no_stmts) = true
is_empty_block _ = false

abbrev pub is_one_empty : Stmts → Bool
is_one_empty (stmt s no_stmts) = is_empty_block s
is_one_empty _ = false

-- a body of one empty block has no statements
abbrev pub emptied : Stmts → Stmts
emptied ss = cond (is_one_empty ss) no_stmts ss

abbrev pub bare_function : Function → Function
bare_function f = record { name = f.name; this_type = f.this_type; params = f.params; body = emptied (bare_stmts f.body) }

abbrev pub bare_script : Script → Script
bare_script p = record { statements = bare_stmts p.statements; functions = map bare_function p.functions }

-- They are the same but for how they are spelled, and for the order of functions.
abbrev pub SpelledAlike : Script → Script → Type 0
SpelledAlike p q = SameByKey (bare_script p) (bare_script q)

-- And but for names: a function of the second has in the first the name that `named` gives it.
abbrev pub SpelledBut : (Text → Text) → Script → Script → Type 0
SpelledBut named p q = SameBut named (bare_script p) (bare_script q)

-- by names that are as different as their own
pub record SpelledButNames (p q : Script) : Type 0 where
  pub named : Text → Text
  pub apart : AreApart named
  pub spelled : SpelledBut named p q
