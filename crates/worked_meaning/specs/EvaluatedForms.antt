-- Short forms for runs that an evaluator of its own computed: scripts, hosts by the number of past calls, reports.
use Rattle.std.specs.Prelude.{ℕ, zero, suc, Bool, false, cond, List, [], ◌∷◌, length, Option, None, Some}
use Rattle.rhai_base.specs.Value.{Text, Value, UnitV, same_text, text_of, type_name}
use Rattle.rhai_base.specs.Operators.{computed, on_chars}
use Rattle.theory_meaning.specs.Act.{ScopeEntry, HostCall, Key, Host, Answer, Answers}
use Rattle.theory_meaning.specs.Control.{texts_joined}
use Rattle.theory_meaning.specs.Desugar.{name_kind, core_script}
use Rattle.theory_meaning.specs.Elements.{character}
use Rattle.theory_meaning.specs.Engine.{Engine, Binding, Override, TypeName}
use Rattle.theory_meaning.specs.Run.{EntryPoint, End, Report, report_of, run_script}
use Rattle.theory_meaning.specs.Tree.{CallToken, Callee, ChainFlags, SwitchCase, SwitchRange, SwitchTable, Expr, Property, Stmt, Function, stmts}

abbrev pub callee : List Text → Text → Bool → CallToken → Callee
callee ns f c m = record { namespace = ns; name = f; captures = c; token = m }

abbrev pub flags : Bool → Bool → ChainFlags
flags n b = record { negated = n; breaks = b; exported = false }

abbrev pub property : Text → Text → Text → Expr
property g s p = Property (record { getter = g; setter = s; name = p })

abbrev pub table : List SwitchCase → List SwitchRange → Option ℕ → SwitchTable
table ls rs d = record { cases = ls; ranges = rs; default = d }

abbrev pub case : Value → List ℕ → SwitchCase
case v ns = record { value = v; arms = ns }

abbrev pub function : Option Text → Text → List Text → List Stmt → Function
function t f xs ss = record { name = f; this_type = t; params = xs; body = stmts ss }

abbrev pub entry : Text → Bool → Value → ScopeEntry
entry x c v = record { name = x; kind = name_kind c; value = v }

abbrev pub asked : Option Value → Text → List Value → HostCall
asked r f vs = record { name = f; receiver = r; arguments = vs }

abbrev pub binding : Text → Value → Binding
binding x v = record { name = x; value = v }

abbrev pub override : Text → List Text → Override
override f ts = record { name = f; types = ts }

abbrev pub renamed : Text → Text → TypeName
renamed a b = record { from = a; to = b }

abbrev pub engine : List Binding → List Override → List TypeName → Bool → Engine
engine cs os ts fast = record { constants = cs; overrides = os; type_names = ts; fast_operators = fast }

abbrev pub function_key : Text → ℕ → Option Text → Key
function_key f n t = record { name = f; arity = n; this_type = t }

abbrev pub ends : End → List ScopeEntry → Option Value → List HostCall → ℕ → Report
ends e vs this cs n = record { ended = e; variables = vs; exports = []; this = this; calls = cs; turns = n }

-- the answer at this number of past calls, unit past the end
abbrev pub nth : List Answer → ℕ → Answer
nth [] n = Answers UnitV None
nth (a ∷ as') zero = a
nth (a ∷ as') (suc n) = nth as' n

-- what the host answers to the calls of one name
pub record Named : Type 0 where
  pub name : Text
  pub answers : List Answer

abbrev pub named : Text → List Answer → Named
named f as' = record { name = f; answers = as' }

abbrev pub answers_of : List Named → List Answer → Text → List Answer
answers_of [] others f = others
answers_of (n ∷ ns) others f = cond (same_text n.name f) n.answers (answers_of ns others f)

abbrev pub value_of : List Binding → Text → Option Value
value_of [] x = None
value_of (b ∷ bs) x = cond (same_text b.name x) (Some b.value) (value_of bs x)

abbrev pub host : List Named → List Answer → List Binding → Host
host ns others bs = record { answer = λ past c. nth (answers_of ns others c.name) (length past); module_value = λ x. value_of bs x; module_of = λ p. None; text = type_name }

unfoldable pub ran : Engine → Host → List Function → List Stmt → EntryPoint → List ScopeEntry → ℕ → Report
unfolding run_script computed on_chars character text_of texts_joined
ran e h fs ss at scope n = report_of at (run_script e h (core_script (record { statements = stmts ss; functions = fs })) at scope n)
