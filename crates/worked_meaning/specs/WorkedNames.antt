-- Worked runs of acts: names, `this`, braces, ends, loops and turns.
use Rattle.std.specs.Prelude.{◌≡◌, ℕ, true, false, List, [], ◌∷◌, Some, None, codes, refl}
use Prim.Native.String.{String}
use Rattle.rhai_base.specs.Value.{Value, UnitV, TextV}
use Rattle.theory_meaning.specs.Act.{IsVariable, IsConstant, ScopeEntry, Store, Unbound, UnboundThis, WriteToConstant, WrongKind, Ending, Exit, Returns, Breaks, Continues, Throws, Again, Gives, Leaves, IsStuck, OutOfTurns, Ended, Halted, Result, At, Root, OfName, OfThis, Act, Stop, Fail, Then, Turn, Read, Write, Invoke, Loop, Scoped, Acts, Only, Named, Finish, Env, World, inside, run, run_all}
use Rattle.theory_meaning.specs.ActForms.{give, unit, ◌>>=◌, then_line, on_throw, end_round, again_then, ask_host, ask_method}
use Rattle.theory_meaning.specs.Engine.{Engine}
use Rattle.theory_meaning.specs.Run.{AtStatements, called_from, report_of, started, world_of, WithValue, WithThrown, WithStuck, end_of}
use Rattle.theory_meaning.specs.WorkedForms.{nothing_set, joins, joining, throwing, asked, i}

-- ---- short forms

abbrev variable : String → Value → ScopeEntry
variable x v = record { name = codes x; kind = IsVariable; value = v }

abbrev constant : String → Value → ScopeEntry
constant x v = record { name = codes x; kind = IsConstant; value = v }

-- x = 1, and under it y = 2 and an older x = 3, a constant c = 4
abbrev some_names : List ScopeEntry
some_names = variable "x" (i 1) ∷ variable "y" (i 2) ∷ variable "x" (i 3) ∷ constant "c" (i 4) ∷ []

abbrev stored : List ScopeEntry → Store
stored es = started es

-- a record with two constants of one name, and one that a name of the scope hides
abbrev with_constants : Engine
with_constants = record nothing_set { constants = record { name = codes "k"; value = i 7 } ∷ record { name = codes "k"; value = i 8 } ∷ record { name = codes "y"; value = i 9 } ∷ [] }

abbrev world : World
world = world_of with_constants joining []

-- two rounds at most, and a script call that ends as its first argument says: `this` is 6 after it, and its names go
abbrev calls_as : Ending → Env
calls_as e = record { rounds = 2; invoke = λ a s t. At (Ended e) (record (called_from s (variable "z" (i 0) ∷ []) (Some (i 6))) { calls = asked "g" [] ∷ s.calls }) t }

abbrev ran : Act → Store → ℕ → Result
ran a s t = run world (calls_as (Gives (i 5))) a s t

abbrev name : String → Root
name x = OfName (codes x)

abbrev leaving : Exit → Act
leaving x = Stop (Leaves x)

abbrev ended : Ending → Store → Result
ended e s = At (Ended e) s 0

-- ---- names

latest_name : ran (Read (name "x")) (stored some_names) 0 ≡ ended (Gives (i 1)) (stored some_names)
latest_name = refl

name_before_record : ran (Read (name "y")) (stored some_names) 0 ≡ ended (Gives (i 2)) (stored some_names)
name_before_record = refl

later_of_two_constants : ran (Read (name "k")) (stored some_names) 0 ≡ ended (Gives (i 8)) (stored some_names)
later_of_two_constants = refl

constant_of_record : ran (Read (name "y")) (stored []) 0 ≡ ended (Gives (i 9)) (stored [])
constant_of_record = refl

no_such_name : ran (Read (name "q")) (stored some_names) 0 ≡ At (Halted (IsStuck Unbound)) (stored some_names) 0
no_such_name = refl

latest_written : ran (Write true (name "x") (i 5)) (stored some_names) 0 ≡ ended (Gives UnitV) (stored (variable "x" (i 5) ∷ variable "y" (i 2) ∷ variable "x" (i 3) ∷ constant "c" (i 4) ∷ []))
latest_written = refl

constant_not_written : ran (Write true (name "c") (i 5)) (stored some_names) 0 ≡ At (Halted (IsStuck WriteToConstant)) (stored some_names) 0
constant_not_written = refl

record_not_written : ran (Write true (name "k") (i 5)) (stored some_names) 0 ≡ At (Halted (IsStuck WriteToConstant)) (stored some_names) 0
record_not_written = refl

no_name_written : ran (Write true (name "q") (i 5)) (stored some_names) 0 ≡ At (Halted (IsStuck Unbound)) (stored some_names) 0
no_name_written = refl

abbrev with_this : Store
with_this = record (stored []) { this = Some (i 1) }

this_read : ran (Read OfThis) with_this 0 ≡ ended (Gives (i 1)) with_this
this_read = refl

this_written : ran (Write true OfThis (i 2)) with_this 0 ≡ ended (Gives UnitV) (record with_this { this = Some (i 2) })
this_written = refl

no_this : ran (Read OfThis) (stored []) 0 ≡ At (Halted (IsStuck UnboundThis)) (stored []) 0
no_this = refl

no_this_written : ran (Write true OfThis (i 2)) (stored []) 0 ≡ At (Halted (IsStuck UnboundThis)) (stored []) 0
no_this_written = refl

-- ---- braces: { const x = 10; { let x = 20; x = 21; y = 22; } x }

abbrev inner : Acts
inner = Named (codes "x") IsVariable (i 20) (then_line (Write true (name "x") (i 21)) (λ v. then_line (Write true (name "y") (i 22)) (λ u. Only unit)))

braces_in_braces : ran (Scoped (Named (codes "x") IsConstant (i 10) (then_line (Scoped inner) (λ v. Only (Read (name "x")))))) (stored some_names) 0 ≡ ended (Gives (i 10)) (stored (variable "x" (i 1) ∷ variable "y" (i 22) ∷ variable "x" (i 3) ∷ constant "c" (i 4) ∷ []))
braces_in_braces = refl

-- const x = 10; x = 11: a constant hides the variable
hidden_by_constant : ran (Scoped (Named (codes "x") IsConstant (i 10) (Only (Write true (name "x") (i 11))))) (stored some_names) 0 ≡ At (Halted (IsStuck WriteToConstant)) (stored some_names) 0
hidden_by_constant = refl

-- what leaves braces takes their names away too
left_braces : ran (Scoped (Named (codes "z") IsVariable (i 10) (Only (leaving (Breaks (i 1)))))) (stored some_names) 0 ≡ ended (Leaves (Breaks (i 1))) (stored some_names)
left_braces = refl

-- names of a list stay without braces
names_stay : run_all world (calls_as (Gives UnitV)) (Named (codes "z") IsVariable (i 10) (Only unit)) (stored []) 0 ≡ ended (Gives UnitV) (stored (variable "z" (i 10) ∷ []))
names_stay = refl

-- a constant of the script's own list is one that functions see, and that of another list is not
own_constant : run_all world (calls_as (Gives UnitV)) (Named (codes "z") IsConstant (i 10) (Only unit)) (stored []) 0 ≡ ended (Gives UnitV) (record (stored (constant "z" (i 10) ∷ [])) { globals = record { name = codes "z"; value = i 10 } ∷ [] })
own_constant = refl

other_constant : run_all world (calls_as (Gives UnitV)) (Named (codes "z") IsConstant (i 10) (Only unit)) (inside (stored [])) 0 ≡ ended (Gives UnitV) (inside (stored (constant "z" (i 10) ∷ [])))
other_constant = refl

-- variables are reported in the order in which they were declared
in_order : (report_of AtStatements (ended (Gives UnitV) (stored some_names))).variables ≡ constant "c" (i 4) ∷ variable "x" (i 3) ∷ variable "y" (i 2) ∷ variable "x" (i 1) ∷ []
in_order = refl

-- ---- one after another

value_goes_on : ran (give (i 5) >>= λ v. Write true (name "x") v) (stored (variable "x" (i 1) ∷ [])) 0 ≡ ended (Gives UnitV) (stored (variable "x" (i 5) ∷ []))
value_goes_on = refl

leaving_goes_past : ran (leaving (Throws (i 1)) >>= λ v. Write true (name "x") (i 9)) (stored some_names) 0 ≡ ended (Leaves (Throws (i 1))) (stored some_names)
leaving_goes_past = refl

thrown_is_caught : ran (Then (leaving (Throws (i 4))) (on_throw give)) (stored []) 0 ≡ ended (Gives (i 4)) (stored [])
thrown_is_caught = refl

return_is_not : ran (Then (leaving (Returns (i 4))) (on_throw give)) (stored []) 0 ≡ ended (Leaves (Returns (i 4))) (stored [])
return_is_not = refl

try_gives_unit : ran (Then (give (i 4)) (on_throw give)) (stored []) 0 ≡ ended (Gives UnitV) (stored [])
try_gives_unit = refl

stuck_is_not_caught : ran (Then (Fail WrongKind) (on_throw give)) (stored []) 0 ≡ At (Halted (IsStuck WrongKind)) (stored []) 0
stuck_is_not_caught = refl

-- ---- the end of a body

abbrev finished : Ending → Result
finished e = run_all world (calls_as e) (Finish (Only (Stop e))) (stored []) 0

return_is_the_value : finished (Leaves (Returns (i 1))) ≡ ended (Gives (i 1)) (stored [])
return_is_the_value = refl

value_stays : finished (Gives (i 1)) ≡ ended (Gives (i 1)) (stored [])
value_stays = refl

thrown_stays : finished (Leaves (Throws (i 1))) ≡ ended (Leaves (Throws (i 1))) (stored [])
thrown_stays = refl

break_of_no_loop : finished (Leaves (Breaks (i 1))) ≡ At (Halted (IsStuck WrongKind)) (stored []) 0
break_of_no_loop = refl

continue_of_no_loop : finished (Leaves Continues) ≡ At (Halted (IsStuck WrongKind)) (stored []) 0
continue_of_no_loop = refl

again_of_no_loop : finished (Leaves Again) ≡ At (Halted (IsStuck WrongKind)) (stored []) 0
again_of_no_loop = refl

-- how a run is reported that is left so
report_return : end_of (Ended (Leaves (Returns (i 1)))) ≡ WithValue (i 1)
report_return = refl

report_thrown : end_of (Ended (Leaves (Throws (i 1)))) ≡ WithThrown (i 1)
report_thrown = refl

report_break : end_of (Ended (Leaves (Breaks (i 1)))) ≡ WithStuck WrongKind
report_break = refl

report_stuck : end_of (Halted (IsStuck Unbound)) ≡ WithStuck Unbound
report_stuck = refl

-- ---- loops and turns

-- a round that takes a turn, asks the host and is followed by another
abbrev round : Act
round = Turn (ask_host (codes "g") [] >>= λ v. leaving Again)

-- two turns are two rounds; the third has none
loop_out_of_turns : ran (Loop round) (stored []) 2 ≡ At (Halted OutOfTurns) (record (stored []) { calls = asked "g" [] ∷ asked "g" [] ∷ [] }) 0
unfolding joins
loop_out_of_turns = refl

-- no more rounds than the environment lets
loop_out_of_rounds : ran (Loop round) (stored []) 9 ≡ At (Halted OutOfTurns) (record (stored []) { calls = asked "g" [] ∷ asked "g" [] ∷ asked "g" [] ∷ [] }) 6
unfolding joins
loop_out_of_rounds = refl

-- a loop's body: a value and `continue` are followed by another round, `break` ends the loop with its value
loop_broken : ran (Loop (Then (leaving (Breaks (i 3))) end_round)) (stored []) 0 ≡ ended (Gives (i 3)) (stored [])
loop_broken = refl

loop_goes_on : ran (Loop (Turn (Then (give (i 3)) end_round))) (stored []) 1 ≡ At (Halted OutOfTurns) (stored []) 0
loop_goes_on = refl

loop_continues : ran (Loop (Turn (Then (leaving Continues) end_round))) (stored []) 1 ≡ At (Halted OutOfTurns) (stored []) 0
loop_continues = refl

loop_left : ran (Loop (Then (leaving (Returns (i 3))) end_round)) (stored []) 0 ≡ ended (Leaves (Returns (i 3))) (stored [])
loop_left = refl

-- what follows where there is another round
again_followed : ran (Then (leaving Again) (again_then (give (i 1)))) (stored []) 0 ≡ ended (Gives (i 1)) (stored [])
again_followed = refl

not_again : ran (Then (give (i 2)) (again_then (give (i 1)))) (stored []) 0 ≡ ended (Gives (i 2)) (stored [])
not_again = refl

no_turn : ran (Turn unit) (stored []) 0 ≡ At (Halted OutOfTurns) (stored []) 0
no_turn = refl

a_turn : ran (Turn unit) (stored []) 3 ≡ At (Ended (Gives UnitV)) (stored []) 2
a_turn = refl

-- ---- after a script call: the caller's names and `this`, the calls of both; the last `this` of the body is at hand

abbrev calling : Act
calling = Invoke (record { function = record { name = codes "f"; arity = 0; this_type = None }; captures = false; this = None; arguments = [] }) (λ v u. elim u [ None ↦ unit | Some x ↦ Write true (name "x") x ])

call_and_back : ran calling (stored (variable "x" (i 1) ∷ [])) 0 ≡ ended (Gives UnitV) (record (stored (variable "x" (i 6) ∷ [])) { calls = asked "g" [] ∷ [] })
call_and_back = refl

call_that_throws : run world (calls_as (Leaves (Throws (i 2)))) calling (stored (variable "x" (i 1) ∷ [])) 0 ≡ ended (Leaves (Throws (i 2))) (record (stored (variable "x" (i 1) ∷ [])) { calls = asked "g" [] ∷ [] })
call_that_throws = refl

-- ---- the host

-- a method is asked with its receiver, and what the host throws is thrown
method_thrown : run (world_of nothing_set throwing []) (calls_as (Gives UnitV)) (ask_method (codes "m") (i 1) (i 2 ∷ []) (λ v u. give v)) (stored []) 0 ≡ ended (Leaves (Throws (TextV (codes "m")))) (record (stored []) { calls = record { name = codes "m"; receiver = Some (i 1); arguments = i 2 ∷ [] } ∷ [] })
method_thrown = refl
