-- Worked runs of calls: the language's own functions, function pointers and script functions.
use Rattle.std.specs.Prelude.{◌≡◌, Bool, true, false, List, [], ◌∷◌, Some, None, codes, refl}
use Prim.Native.String.{String}
use Rattle.rhai_base.specs.Value.{Text, Value, UnitV, TextV, PointerV, values}
use Rattle.rhai_base.specs.Operators.{computed}
use Rattle.theory_meaning.specs.Act.{IsVariable, ScopeEntry, Unbound, WrongKind, Key, Gives, Ended, At, Store, ScriptCall, run_all, IsStuck, OutOfTurns, Halted, World, Invoke}
use Rattle.theory_meaning.specs.Calls.{key, call_named, call_pointer}
use Rattle.theory_meaning.specs.ActForms.{give}
use Rattle.theory_meaning.specs.Desugar.{core_expr}
use Rattle.theory_meaning.specs.Core as core
use Rattle.theory_meaning.specs.Engine.{Engine}
use Rattle.theory_meaning.specs.Meaning.{acts}
use Rattle.theory_meaning.specs.Run.{AtFunction, WithValue, WithThrown, WithStuck, WithoutTurns, Report, called_from, entered, env_at, invoke_at, report_of, run_script, started, world_of}
use Rattle.theory_meaning.specs.Tree.{Function, Expr, StringConstant, Stmt, ExprStmt, stmts, FnCall, NoToken, exprs}
use Rattle.theory_meaning.specs.WorkedForms.{int, call, nothing_set, joins, joining, ran_with, ran, ends, asked, i}

-- ---- short forms

abbrev text : String → Expr
text t = StringConstant (codes t)

abbrev does : Expr → List Stmt
does e = ExprStmt e ∷ []

abbrev function : String → List Text → List Stmt → Function
function f xs ss = record { name = codes f; this_type = None; params = xs; body = stmts ss }

abbrev mapped : String → String → String → Engine
mapped from first last = record nothing_set { type_names = record { from = codes from; to = codes first } ∷ record { from = codes from; to = codes last } ∷ [] }

-- ---- the language's own functions

-- type_of(1): the type's own name; a mapped one, the later of two; another type's isn't taken
type_plain : ran nothing_set joining (does (call "type_of" (int 1 ∷ []))) ≡ ends (WithValue (TextV (codes "i64"))) []
unfolding ran
type_plain = refl

type_mapped : ran (mapped "i64" "first" "last") joining (does (call "type_of" (int 1 ∷ []))) ≡ ends (WithValue (TextV (codes "last"))) []
unfolding ran
type_mapped = refl

type_of_another : ran (mapped "bool" "first" "last") joining (does (call "type_of" (int 1 ∷ []))) ≡ ends (WithValue (TextV (codes "i64"))) []
unfolding ran
type_of_another = refl

-- type_of(1, 2): with another count of arguments it is a function of the host
type_of_two : ran nothing_set joining (does (call "type_of" (int 1 ∷ int 2 ∷ []))) ≡ ends (WithValue (TextV (codes "12"))) (asked "type_of" (i 1 ∷ i 2 ∷ []) ∷ [])
unfolding ran
type_of_two = refl

-- Fn("f"), Fn("1f") and Fn(1)
pointer_made : ran nothing_set joining (does (call "Fn" (text "f" ∷ []))) ≡ ends (WithValue (PointerV (codes "f") (values []))) []
unfolding ran
pointer_made = refl

pointer_to_no_name : ran nothing_set joining (does (call "Fn" (text "1f" ∷ []))) ≡ ends (WithThrown (TextV (codes "function name"))) []
unfolding ran
pointer_to_no_name = refl

pointer_to_no_text : ran nothing_set joining (does (call "Fn" (int 1 ∷ []))) ≡ ends (WithStuck WrongKind) []
unfolding ran
pointer_to_no_text = refl

-- curry(curry(Fn("f"), 1), 2, 3): what was curried first stands first
curried_twice : ran nothing_set joining (does (call "curry" (call "curry" (call "Fn" (text "f" ∷ []) ∷ int 1 ∷ []) ∷ int 2 ∷ int 3 ∷ []))) ≡ ends (WithValue (PointerV (codes "f") (values (i 1 ∷ i 2 ∷ i 3 ∷ [])))) []
unfolding ran
curried_twice = refl

-- curry(1, 2)
curried_number : ran nothing_set joining (does (call "curry" (int 1 ∷ int 2 ∷ []))) ≡ ends (WithStuck WrongKind) []
unfolding ran
curried_number = refl

-- call(curry(Fn("f"), 1), 2, 3): the curried values stand before the arguments
curried_called : ran nothing_set joining (does (call "call" (call "curry" (call "Fn" (text "f" ∷ []) ∷ int 1 ∷ []) ∷ int 2 ∷ int 3 ∷ []))) ≡ ends (WithValue (TextV (codes "12"))) (asked "f" (i 1 ∷ i 2 ∷ i 3 ∷ []) ∷ [])
unfolding ran
curried_called = refl

-- call("f"): a text is no pointer
called_text : ran nothing_set joining (does (call "call" (text "f" ∷ []))) ≡ ends (WithStuck WrongKind) []
unfolding ran
called_text = refl

-- eval("1"): barred, and so without meaning
barred_call : ran nothing_set joining (does (call "eval" (text "1" ∷ []))) ≡ ends (WithStuck WrongKind) []
unfolding ran
barred_call = refl

-- ---- script functions

-- fn f(x) { 7 } f(1); f(2): each call takes a turn
two_calls : ran_with nothing_set joining (function "f" (codes "x" ∷ []) (does (int 7)) ∷ []) 2 (ExprStmt (call "f" (int 1 ∷ [])) ∷ ExprStmt (call "f" (int 2 ∷ [])) ∷ []) ≡ ends (WithValue (i 7)) []
unfolding ran_with
two_calls = refl

-- with one turn, the second call has none; with none, the first
one_turn : ran_with nothing_set joining (function "f" (codes "x" ∷ []) (does (call "g" [])) ∷ []) 1 (ExprStmt (call "f" (int 1 ∷ [])) ∷ ExprStmt (call "f" (int 2 ∷ [])) ∷ []) ≡ ends WithoutTurns (asked "g" [] ∷ [])
unfolding ran_with
one_turn = refl

no_turn : ran_with nothing_set joining (function "f" (codes "x" ∷ []) (does (call "g" [])) ∷ []) 0 (does (call "f" (int 1 ∷ []))) ≡ ends WithoutTurns []
unfolding ran_with
no_turn = refl

turns_left : ran_with nothing_set joining (function "f" [] (does (int 7)) ∷ []) 3 (does (call "f" [])) ≡ record (ends (WithValue (i 7)) []) { turns = 2 }
unfolding ran_with
turns_left = refl

-- fn f() { f() } f()
without_end : ran_with nothing_set joining (function "f" [] (does (call "f" [])) ∷ []) 3 (does (call "f" [])) ≡ ends WithoutTurns []
unfolding ran_with
without_end = refl

-- fn f() { 1 } fn f(x) { 2 } fn f(x) { 3 } f(0): by the number of arguments, and the first of two
first_that_fits : ran_with nothing_set joining (function "f" [] (does (int 1)) ∷ function "f" (codes "x" ∷ []) (does (int 2)) ∷ function "f" (codes "x" ∷ []) (does (int 3)) ∷ []) 1 (does (call "f" (int 0 ∷ []))) ≡ ends (WithValue (i 2)) []
unfolding ran_with
first_that_fits = refl

-- a function for a receiver isn't called without one
for_a_receiver : ran_with nothing_set joining (record (function "f" [] (does (int 1))) { this_type = Some (codes "i64") } ∷ []) 1 (does (call "f" [])) ≡ record (ends (WithValue UnitV) (asked "f" [] ∷ [])) { turns = 1 }
unfolding ran_with
for_a_receiver = refl

-- fn print() { 1 } print(): the host's all the same
print_of_the_host : ran_with nothing_set joining (function "print" [] (does (int 1)) ∷ []) 1 (does (call "print" [])) ≡ record (ends (WithValue UnitV) (asked "print" [] ∷ [])) { turns = 1 }
unfolding ran_with
print_of_the_host = refl

debug_of_the_host : ran_with nothing_set joining (function "debug" [] (does (int 1)) ∷ []) 1 (does (call "debug" [])) ≡ record (ends (WithValue UnitV) (asked "debug" [] ∷ [])) { turns = 1 }
unfolding ran_with
debug_of_the_host = refl

-- fn f(x, y) { 7 } Fn("f").call by a pointer with one value: call(curry(Fn("f"), 1), 2)
pointer_to_function : ran_with nothing_set joining (function "f" (codes "x" ∷ codes "y" ∷ []) (does (int 7)) ∷ []) 1 (does (call "call" (call "curry" (call "Fn" (text "f" ∷ []) ∷ int 1 ∷ []) ∷ int 2 ∷ []))) ≡ ends (WithValue (i 7)) []
unfolding ran_with
pointer_to_function = refl

-- ---- where a body starts, and where it is left

abbrev body : core.Stmts
body = core.stmt (core.Does (core.Evaluate (core.Constant (i 7)))) core.no_stmts

abbrev two_parameters : core.Function
two_parameters = record { name = codes "f"; this_type = None; params = codes "x" ∷ codes "y" ∷ []; body = body }

abbrev variable : String → Value → ScopeEntry
variable x v = record { name = codes x; kind = IsVariable; value = v }

abbrev world : World
world = world_of nothing_set joining (two_parameters ∷ [])

abbrev the_call : Bool → ScriptCall
the_call captures = record { function = key (codes "f") 2 None; captures = captures; this = Some (i 5); arguments = i 1 ∷ i 2 ∷ [] }

-- f!(1, 2): the call of a function, capturing or not, without `this`
named_call : (captures : Bool) → call_named world captures (codes "f") (i 1 ∷ i 2 ∷ []) ≡ Invoke (record (the_call captures) { this = None }) (λ v u. give v)
named_call captures = refl

pointer_call : (captures : Bool) → call_pointer world captures (PointerV (codes "f") (values (i 1 ∷ []))) (i 2 ∷ []) ≡ Invoke (record (the_call captures) { this = None }) (λ v u. give v)
pointer_call captures = refl

captures_kept : core_expr false (FnCall (record { namespace = []; name = codes "f"; captures = true; token = NoToken }) (exprs (int 1 ∷ []))) ≡ core.FnCall (core.ByName (codes "f") true) (core.expr (core.Constant (i 1)) core.no_exprs)
captures_kept = refl

-- the script's own list calls, with a name and a constant that functions see
abbrev caller : Store
caller = record (started (variable "z" (i 3) ∷ [])) { globals = record { name = codes "k"; value = i 4 } ∷ [] }

abbrev body_left : List ScopeEntry → Store
body_left es = called_from caller es (Some (i 5))

-- the parameters in order, the latest first; of the caller's scope nothing
enters_alone : invoke_at true world (two_parameters ∷ []) 1 (the_call false) (record caller { calls = asked "g" [] ∷ [] }) 4 ≡ At (Ended (Gives (i 7))) (record (body_left (variable "y" (i 2) ∷ variable "x" (i 1) ∷ [])) { calls = asked "g" [] ∷ [] }) 3
enters_alone = refl

-- a call that captures: on top of the caller's scope
enters_capturing : invoke_at true world (two_parameters ∷ []) 1 (the_call true) caller 4 ≡ At (Ended (Gives (i 7))) (body_left (variable "y" (i 2) ∷ variable "x" (i 1) ∷ variable "z" (i 3) ∷ [])) 3
enters_capturing = refl

-- but where bodies see no scope
enters_unlent : invoke_at false world (two_parameters ∷ []) 1 (the_call true) caller 4 ≡ At (Ended (Gives (i 7))) (body_left (variable "y" (i 2) ∷ variable "x" (i 1) ∷ [])) 3
enters_unlent = refl

-- as deep as calls may nest
too_deep : invoke_at true world (two_parameters ∷ []) 0 (the_call false) caller 4 ≡ At (Halted OutOfTurns) (called_from caller [] None) 4
too_deep = refl

-- no such function
no_function : invoke_at true world [] 1 (the_call false) caller 4 ≡ At (Halted (IsStuck Unbound)) (called_from caller [] None) 4
no_function = refl

-- the value of a list, and that of one whose value isn't wanted
value_wanted : run_all world (env_at true world [] 0) (acts world true body UnitV) (entered true two_parameters (the_call false) caller) 0 ≡ At (Ended (Gives (i 7))) (entered true two_parameters (the_call false) caller) 0
value_wanted = refl

value_unwanted : run_all world (env_at true world [] 0) (acts world false body UnitV) (entered true two_parameters (the_call false) caller) 0 ≡ At (Ended (Gives UnitV)) (entered true two_parameters (the_call false) caller) 0
value_unwanted = refl

-- ---- a function as entry: it takes a turn, and has `this` but no variables

unfoldable entered_by : core.Function → Key → Report
unfolding run_script computed joins
entered_by f k = let e = AtFunction k (Some (i 5)) (i 1 ∷ i 2 ∷ []) in report_of e (run_script nothing_set joining (record { statements = core.no_stmts; functions = f ∷ [] }) e (variable "z" (i 3) ∷ []) 1)

function_entered : entered_by two_parameters (key (codes "f") 2 None) ≡ record { ended = WithValue (i 7); variables = []; exports = []; this = Some (i 5); calls = []; turns = 0 }
unfolding entered_by
function_entered = refl

function_missed : entered_by two_parameters (key (codes "f") 1 None) ≡ record { ended = WithStuck Unbound; variables = []; exports = []; this = None; calls = []; turns = 1 }
unfolding entered_by
function_missed = refl
