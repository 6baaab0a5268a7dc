-- Short forms for worked runs: trees and hosts that are written by hand.
use Rattle.std.specs.Prelude.{ℕ, Bool, false, List, [], ◌∷◌, ◌++◌, None, pos, codes}
use Prim.Native.String.{String}
use Rattle.rhai_base.specs.Value.{Text, Value, UnitV, IntV, TextV, type_name, text_of}
use Rattle.rhai_base.specs.Operators.{Operator, symbol, computed}
use Rattle.theory_meaning.specs.Act.{HostCall, Host, Answer, Answers, AnswersThrow}
use Rattle.theory_meaning.specs.Desugar.{core_script}
use Rattle.theory_meaning.specs.Engine.{Engine}
use Rattle.theory_meaning.specs.Run.{AtStatements, End, Report, report_of, run_script}
use Rattle.theory_meaning.specs.Tree.{Function, OfOperator, NoToken, Expr, IntegerConstant, FnCall, Stmt, exprs, stmts}

abbrev pub int : ℕ → Expr
int n = IntegerConstant (pos n)

abbrev pub op : Operator → List Expr → Expr
op o es = FnCall (record { namespace = []; name = symbol o; captures = false; token = OfOperator o }) (exprs es)

abbrev pub call : String → List Expr → Expr
call f es = FnCall (record { namespace = []; name = codes f; captures = false; token = NoToken }) (exprs es)

abbrev pub nothing_set : Engine
nothing_set = record { constants = []; overrides = []; type_names = []; fast_operators = false }

-- the host of the program answers unit but to `+`, which joins texts
unfoldable pub joins : HostCall → Answer
unfolding text_of
joins c = elim c.arguments [ [] ↦ Answers UnitV None | v ∷ vs ↦ elim vs [ [] ↦ Answers UnitV None | w ∷ ws ↦ Answers (TextV (text_of v ++ text_of w)) None ] ]

abbrev pub joining : Host
joining = record { answer = λ past c. joins c; module_value = λ x. None; module_of = λ p. None; text = type_name }

abbrev pub throwing : Host
throwing = record { answer = λ past c. AnswersThrow (TextV c.name); module_value = λ x. None; module_of = λ p. None; text = type_name }

abbrev pub overriding : Text → List Text → Bool → Engine
overriding f types fast = record nothing_set { overrides = record { name = f; types = types } ∷ []; fast_operators = fast }

-- the run of a script with functions, from an empty scope, and that of statements alone, without a turn
unfoldable pub ran_with : Engine → Host → List Function → ℕ → List Stmt → Report
unfolding run_script computed joins
ran_with engine host fs n ss = report_of AtStatements (run_script engine host (core_script (record { statements = stmts ss; functions = fs })) AtStatements [] n)

unfoldable pub ran : Engine → Host → List Stmt → Report
unfolding ran_with
ran engine host ss = ran_with engine host [] 0 ss

abbrev pub ends : End → List HostCall → Report
ends e cs = record { ended = e; variables = []; exports = []; this = None; calls = cs; turns = 0 }

abbrev pub asked : String → List Value → HostCall
asked f vs = record { name = codes f; receiver = None; arguments = vs }

abbrev pub i : ℕ → Value
i n = IntV (pos n)
