-- Short forms for trees that are written by hand, and the host of the program.
use Rattle.std.specs.Prelude.{ℕ, true, false, List, [], ◌∷◌, ◌++◌, Option, Some, None, codes, if◌then◌else◌}
use Prim.Native.String.{String}
use Rattle.rhai_base.specs.Value.{Value, UnitV, BoolV, TextV, ArrayV, items, values, same_text, text_of, type_name}
use Rattle.theory_meaning.specs.Act.{IsVariable, IsConstant, HostCall, ScopeEntry, Host, Answer, Answers}
use Rattle.theory_meaning.specs.Engine.{Engine}
use Rattle.theory_meaning.specs.Tree.{Callee, NoToken, Function, Expr, Stmt, Stmts, Variable, FnCall, Dot, Index, Property, MethodCall, exprs, Var, ArrayOf, MapOf, pair, no_pairs}
use Rattle.theory_meaning.specs.Desugar.{core_script}
use Rattle.theory_meaning.specs.Run.{EntryPoint, Report, report_of, run_script}
pub use Rattle.theory_meaning.specs.WorkedForms.{int, op, asked, i, nothing_set}

abbrev pub var : String → Expr
var x = Variable [] (codes x)

abbrev pub callee : String → Callee
callee f = record { namespace = []; name = codes f; captures = false; token = NoToken }

abbrev pub fn : String → List Expr → Expr
fn f es = FnCall (callee f) (exprs es)

abbrev pub let' : String → Expr → Stmt
let' x e = Var false false (codes x) e

abbrev pub const' : String → Expr → Stmt
const' x e = Var true false (codes x) e

abbrev pub array : List Expr → Expr
array es = ArrayOf (exprs es)

-- the last step of a chain
abbrev pub at : Expr → Expr → Expr
at e i = Index (record { negated = false; breaks = true; exported = false }) e i

abbrev pub dot : Expr → Expr → Expr
dot l r = Dot (record { negated = false; breaks = false; exported = false }) l r

abbrev pub prop : String → Expr
prop p = Property (record { getter = codes "get$" ++ codes p; setter = codes "set$" ++ codes p; name = codes p })

abbrev pub meth : String → List Expr → Expr
meth f es = MethodCall (callee f) (exprs es)

abbrev pub map_one : String → Expr → Expr
map_one k e = MapOf (pair (codes k) e no_pairs) (codes k ∷ [])

-- ---- host and record

abbrev pub pushed : Option Value → List Value → Answer
pushed (Some (ArrayV vs)) (v ∷ []) = Answers UnitV (Some (ArrayV (values (items vs ++ v ∷ []))))
pushed _ _ = Answers UnitV None

unfoldable pub joined_two : List Value → Answer
unfolding text_of
joined_two (v ∷ w ∷ []) = Answers (TextV (text_of v ++ text_of w)) None
joined_two _ = Answers UnitV None

unfoldable pub program_answer : List HostCall → HostCall → Answer
unfolding joined_two
program_answer past call =
    if same_text call.name (codes "f") then Answers (BoolV true) None else
    (if same_text call.name (codes "+") then joined_two call.arguments else
    (if same_text call.name (codes "push") then pushed call.receiver call.arguments else Answers UnitV None))

abbrev pub program_host : Host
program_host = record { answer = λ past call. program_answer past call; module_value = λ x. None; module_of = λ p. None; text = type_name }

-- record, host and functions of a run
pub record World : Type 0 where
  pub engine : Engine
  pub host : Host
  pub functions : List Function

abbrev pub world_with : List Function → World
world_with ds = record { engine = nothing_set; host = program_host; functions = ds }

abbrev pub world : World
world = world_with []

abbrev pub var_is : String → Value → ScopeEntry
var_is x v = record { name = codes x; kind = IsVariable; value = v }

abbrev pub const_is : String → Value → ScopeEntry
const_is x v = record { name = codes x; kind = IsConstant; value = v }

unfoldable pub run : World → Stmts → EntryPoint → List ScopeEntry → ℕ → Report
unfolding run_script
run w ss e names n = report_of e (run_script w.engine w.host (core_script (record { statements = ss; functions = w.functions })) e names n)
