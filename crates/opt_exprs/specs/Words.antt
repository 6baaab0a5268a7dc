-- What calls over constants answer without asking the host.
use Rattle.std.specs.Prelude.{Bool, true, false, List, [], ◌∷◌, ◌++◌, map, Option, Some, None, codes, if◌then◌else◌}
use Rattle.std.specs.Option.{option_map}
use Rattle.rhai_base.specs.declared.fn_ptr.FnPtr.{FnPtr}
use Rattle.rhai_base.specs.Reading.{value_of}
use Rattle.rhai_base.specs.Value.{Text, Value, BoolV, TextV, PointerV, items, values, same_text}
use Rattle.theory_meaning.specs.Constants.{constant_values, pointer_to}
use Rattle.theory_meaning.specs.Engine.{Engine, mapped_type_name}
use Rattle.theory_meaning.specs.Shape.{is_none}
use Rattle.theory_meaning.specs.Tree.{CallToken, NoToken, Callee, Expr, FnCall, Exprs, Stmt, FnCallStmt}
use Rattle.theory_rewriting.specs.Folding.{folded}
use Rattle.opt_exprs.specs.declared.calls.calls.Word.{Word}
use Rattle.opt_exprs.specs.declared.calls.calls.Word.TheVariants as word_kind

-- ---- at values

-- the value of one argument alone
abbrev pub only : Option (List Value) → Option Value
only (Some (v ∷ [])) = Some v
only _ = None

abbrev pub type_of : Engine → Value → Value
type_of r v = TextV (mapped_type_name r v)

abbrev pub is_shared : Value → Value
is_shared v = BoolV false

-- the pointer to the function that a text names, where a function may have the name
abbrev pub pointer_named : Option Value → Option Value
pointer_named (Some (TextV f)) = pointer_to f
pointer_named _ = None

-- a pointer with further values, where there are any
abbrev pub with_values : Text → List Value → Option (List Value) → Option Value
with_values f us None = None
with_values f us (Some vs) = Some (PointerV f (values (us ++ vs)))

abbrev pub curried : Option (List Value) → Option Value
curried (Some (PointerV f us ∷ vs)) = with_values f (items us) (Some vs)
curried _ = None

-- ---- pointers

abbrev pub values_of : FnPtr → List Value
values_of p = map value_of p.curried

abbrev pub pointer_value : FnPtr → Value
pointer_value p = PointerV p.name (values (values_of p))

abbrev pub is_pointer : Value → Bool
is_pointer (PointerV f us) = true
is_pointer _ = false

abbrev pub pointer_alone : Option Value → Option Value
pointer_alone (Some (PointerV f us)) = Some (PointerV f us)
pointer_alone _ = None

-- ---- calls

-- by the function's name; vs: the values of the arguments, where all are constants
abbrev pub word_value : Engine → Text → Option (List Value) → Option Value
word_value r f vs =
    if same_text f (codes "type_of") then option_map (type_of r) (only vs)
    else if same_text f (codes "is_shared") then option_map is_shared (only vs)
    else if same_text f (codes "Fn") then pointer_named (only vs)
    else if same_text f (codes "curry") then curried vs
    else None

-- which function of the language's own has a name
abbrev pub word_named : Text → Option Word
word_named f =
    if same_text f (codes "type_of") then Some word_kind.TypeOf
    else if same_text f (codes "is_shared") then Some word_kind.IsShared
    else if same_text f (codes "Fn") then Some word_kind.Fn
    else if same_text f (codes "curry") then Some word_kind.Curry
    else None

abbrev pub word_called : Callee → Option Word
word_called c = if is_none c.namespace then word_named c.name else None

abbrev pub value_of_word : Engine → Word → Option (List Value) → Option Value
value_of_word r word_kind.TypeOf vs = option_map (type_of r) (only vs)
value_of_word r word_kind.IsShared vs = option_map is_shared (only vs)
value_of_word r word_kind.Fn vs = pointer_named (only vs)
value_of_word r word_kind.Curry vs = curried vs

-- by a name alone
abbrev pub unqualified_value : Engine → Callee → Option (List Value) → Option Value
unqualified_value r c vs = if is_none c.namespace then word_value r c.name vs else None

-- without an operator's token by its name, else by the operator
abbrev pub value_by : Engine → CallToken → Callee → Exprs → Option Value
value_by r NoToken c es = unqualified_value r c (constant_values es)
value_by r _ c es = folded r c es

abbrev pub call_value : Engine → Callee → Exprs → Option Value
call_value r c es = value_by r c.token c es

abbrev pub expr_value : Engine → Expr → Option Value
expr_value r (FnCall c es) = call_value r c es
expr_value r _ = None

abbrev pub statement_value : Engine → Stmt → Option Value
statement_value r (FnCallStmt c es) = call_value r c es
statement_value r _ = None

abbrev pub is_call : Expr → Bool
is_call (FnCall c es) = true
is_call _ = false

abbrev pub is_call_statement : Stmt → Bool
is_call_statement (FnCallStmt c es) = true
is_call_statement _ = false
