-- Worked runs with hosts by rows, and with records that let the host answer operators.
use Rattle.std.specs.Prelude.{◌≡◌, true, false, List, [], ◌∷◌, Some, None, pos, codes, refl}
use Rattle.rhai_base.specs.Value.{Value, UnitV, BoolV, TextV, RangeV}
use Rattle.rhai_base.specs.Operators.{Plus, UpTo}
use Rattle.theory_meaning.specs.Act.{HostCall, Answers, AnswersThrow, Host}
use Rattle.theory_meaning.specs.Host.{Row, host_of}
use Rattle.theory_meaning.specs.Run.{WithValue, WithThrown}
use Rattle.theory_meaning.specs.Tree.{BoolConstant, ExprStmt}
use Rattle.theory_meaning.specs.WorkedForms.{int, op, call, nothing_set, joining, overriding, ran, ends, asked, i}

abbrev answers : List HostCall → HostCall → Value → Row
answers past c v = record { past = past; call = c; answer = Answers v None }

abbrev by : List Row → Host
by rows = host_of rows [] []

-- ---- rows: each with the calls before it

-- f(1), with rows for f(2) and f(1)
second_row : ran nothing_set (by (answers [] (asked "f" (i 2 ∷ [])) (i 20) ∷ answers [] (asked "f" (i 1 ∷ [])) (i 10) ∷ [])) (ExprStmt (call "f" (int 1 ∷ [])) ∷ []) ≡ ends (WithValue (i 10)) (asked "f" (i 1 ∷ []) ∷ [])
unfolding ran
second_row = refl

-- two rows for f(1)
first_row : ran nothing_set (by (answers [] (asked "f" (i 1 ∷ [])) (i 10) ∷ answers [] (asked "f" (i 1 ∷ [])) (i 20) ∷ [])) (ExprStmt (call "f" (int 1 ∷ [])) ∷ []) ≡ ends (WithValue (i 10)) (asked "f" (i 1 ∷ []) ∷ [])
unfolding ran
first_row = refl

-- f(); f(): the second call after the first
by_past : ran nothing_set (by (answers [] (asked "f" []) (i 10) ∷ answers (asked "f" [] ∷ []) (asked "f" []) (i 20) ∷ [])) (ExprStmt (call "f" []) ∷ ExprStmt (call "f" []) ∷ []) ≡ ends (WithValue (i 20)) (asked "f" [] ∷ asked "f" [] ∷ [])
unfolding ran
by_past = refl

-- no row: unit
no_row : ran nothing_set (by (answers [] (asked "f" (i 2 ∷ [])) (i 20) ∷ answers (asked "g" [] ∷ []) (asked "f" (i 1 ∷ [])) (i 10) ∷ [])) (ExprStmt (call "f" (int 1 ∷ [])) ∷ []) ≡ ends (WithValue UnitV) (asked "f" (i 1 ∷ []) ∷ [])
unfolding ran
no_row = refl

row_that_throws : ran nothing_set (by (record { past = []; call = asked "f" []; answer = AnswersThrow (i 3) } ∷ [])) (ExprStmt (call "f" []) ∷ ExprStmt (call "g" []) ∷ []) ≡ ends (WithThrown (i 3)) (asked "f" [] ∷ [])
unfolding ran
row_that_throws = refl

-- a row for a method is another call
with_receiver : (by (answers [] (record (asked "f" []) { receiver = Some (i 1) }) (i 10) ∷ [])).answer [] (asked "f" []) ≡ Answers UnitV None
with_receiver = refl

by_receiver : (by (answers [] (record (asked "f" []) { receiver = Some (i 1) }) (i 10) ∷ [])).answer [] (record (asked "f" []) { receiver = Some (i 1) }) ≡ Answers (i 10) None
by_receiver = refl

-- values of modules: the first of a name
module_named : (host_of [] (record { name = codes "m::x"; value = i 1 } ∷ record { name = codes "m::x"; value = i 2 } ∷ []) []).module_value (codes "m::x") ≡ Some (i 1)
module_named = refl

module_after : (host_of [] (record { name = codes "m::x"; value = i 1 } ∷ record { name = codes "m::y"; value = i 2 } ∷ []) []).module_value (codes "m::y") ≡ Some (i 2)
module_after = refl

module_missing : (host_of [] (record { name = codes "m::x"; value = i 1 } ∷ []) []).module_value (codes "x") ≡ None
module_missing = refl

-- modules: the first of a path
path_named : (host_of [] [] (record { path = codes "p"; name = codes "m" } ∷ record { path = codes "q"; name = codes "n" } ∷ record { path = codes "q"; name = codes "o" } ∷ [])).module_of (codes "q") ≡ Some (codes "n")
path_named = refl

path_missing : (host_of [] [] (record { path = codes "p"; name = codes "m" } ∷ [])).module_of (codes "m") ≡ None
path_missing = refl

-- ---- operators that the host answers: at these types, in this order, with this name

at_types : ran (overriding (codes "+") (codes "string" ∷ codes "i64" ∷ []) false) joining (ExprStmt (op Plus (int 1 ∷ int 2 ∷ [])) ∷ []) ≡ ends (WithValue (i 3)) []
unfolding ran
at_types = refl

with_name : ran (overriding (codes "-") (codes "i64" ∷ codes "i64" ∷ []) false) joining (ExprStmt (op Plus (int 1 ∷ int 2 ∷ [])) ∷ []) ≡ ends (WithValue (i 3)) []
unfolding ran
with_name = refl

-- where the table has no entry, the host is asked without an override
no_entry : ran nothing_set joining (ExprStmt (op Plus (int 1 ∷ BoolConstant true ∷ [])) ∷ []) ≡ ends (WithValue (TextV (codes "1true"))) (asked "+" (i 1 ∷ BoolV true ∷ []) ∷ [])
unfolding ran
no_entry = refl

-- 1..2 is never the host's
range_stays : ran (overriding (codes "..") (codes "i64" ∷ codes "i64" ∷ []) false) joining (ExprStmt (op UpTo (int 1 ∷ int 2 ∷ [])) ∷ []) ≡ ends (WithValue (RangeV (pos 1) (pos 2))) []
unfolding ran
range_stays = refl
