use Rattle.std.proofs.Common.{◌≡◌, ◌<◌, List, [], ◌∷◌, length, ap, arith}
use Rattle.std.proofs.lemmas.Grind.{common_steps}
use Rattle.ast_types.specs.declared.stmt.Stmt.{Stmt}
use Rattle.ast_types.specs.Reading.{stmt_of, stmts_of}
use Rattle.script_queries.specs.Literals.{Comes, Sought, left_to, sought_as, sought_at, sought_in}
use Rattle.script_queries.proofs.Seeking.{fewer, passed-end, passed-found, passed-next, passed-refused, passed-start, split}
use Rattle.script_queries.proofs.literals.LiteralVariablesIterator.next.Goals as goal

pub loop-stmt-init : goal.loop-stmt-init
loop-stmt-init c = passed-start (left_to c.args.self.now)

pub loop-stmt-preserved : goal.loop-stmt-preserved
loop-stmt-preserved c =
    let now = c.loop-stmt.self in
    let cut : now.statements.now ≡ c.in-Some.stmt.now ∷ c.in-Some.rest.now = grind (arith, common_steps) in
    passed-next (left_to c.args.self.now) (left_to now) (sought_at now.constants now.variables (stmt_of c.in-Some.stmt.now)) (sought_in now.constants now.variables (stmts_of c.in-Some.rest.now)) c.loop-stmt.invariant
    (split now.constants now.variables now.statements.now c.in-Some.stmt.now c.in-Some.rest.now cut) (rw c.in-Ok-None.field-0-is at c.in-Ok-None.ensures)

pub returns-in-Ok-Some-clause-steps : goal.returns-in-Ok-Some-clause-steps
returns-in-Ok-Some-clause-steps c =
    let now = c.loop-stmt.self in
    let cut : now.statements.now ≡ c.in-Some.stmt.now ∷ c.in-Some.rest.now = grind (arith, common_steps) in
    passed-found (left_to c.args.self.now) (left_to now) (sought_at now.constants now.variables (stmt_of c.in-Some.stmt.now)) (sought_in now.constants now.variables (stmts_of c.in-Some.rest.now)) c.loop-stmt.invariant
    (split now.constants now.variables now.statements.now c.in-Some.stmt.now c.in-Some.rest.now cut) c.in-Ok-Some.variable (rw c.in-Ok-Some.field-0-is at c.in-Ok-Some.ensures)

pub returns-in-Ok-Some-clause-goes : goal.returns-in-Ok-Some-clause-goes
returns-in-Ok-Some-clause-goes c =
    let now = c.loop-stmt.self in
    let rest : List Sought = sought_in now.constants now.variables (stmts_of c.in-Some.rest.now) in
    let less : length rest < length (left_to c.args.self.now) = fewer (left_to c.args.self.now) rest (sought_as c.in-Ok-Some.variable) (returns-in-Ok-Some-clause-steps c) in
    record { on = λ _. (tt, tt, less); keeps = tt; rests = λ _. tt }

pub returns-in-Err-clause-steps : goal.returns-in-Err-clause-steps
returns-in-Err-clause-steps c =
    let now = c.loop-stmt.self in
    let cut : now.statements.now ≡ c.in-Some.stmt.now ∷ c.in-Some.rest.now = grind (arith, common_steps) in
    passed-refused (left_to c.args.self.now) (left_to now) (sought_at now.constants now.variables (stmt_of c.in-Some.stmt.now)) (sought_in now.constants now.variables (stmts_of c.in-Some.rest.now)) c.loop-stmt.invariant
    (split now.constants now.variables now.statements.now c.in-Some.stmt.now c.in-Some.rest.now cut) c.in-Err.ensures

pub returns-in-Err-clause-goes : goal.returns-in-Err-clause-goes
returns-in-Err-clause-goes c =
    let now = c.loop-stmt.self in
    let rest : List Sought = sought_in now.constants now.variables (stmts_of c.in-Some.rest.now) in
    let comes : (s : Sought) × Comes (left_to c.args.self.now) s rest = returns-in-Err-clause-steps c in
    let less : length rest < length (left_to c.args.self.now) = fewer (left_to c.args.self.now) rest comes.0 comes.1 in
    record { on = λ _. (tt, tt, less); keeps = tt; rests = λ _. tt }

pub returns-clause-steps : goal.returns-clause-steps
returns-clause-steps c =
    let now = c.loop-stmt.self in
    let none : now.statements.now ≡ [] = grind (arith, common_steps) in
    let left : left_to now ≡ [] = ap (λ (ss : List Stmt). sought_in now.constants now.variables (stmts_of ss)) none in
    (passed-end (left_to c.args.self.now) (left_to now) c.loop-stmt.invariant left, left)
