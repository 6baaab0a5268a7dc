-- What is printed goes down a level, or at the same one from what stands around to what stands within.
use Rattle.std.proofs.Common.{◌*◌, ◌+◌, ◌≤◌}
use Rattle.syntax_print.proofs.printer.Printer.+print.Given as goal

abbrev pub decreases-answer : goal.decreases-answer
decreases-answer l = l.inside.levels * 16 + 8

abbrev pub decreases-arm : goal.decreases-arm
decreases-arm l = l.inside.levels * 16 + 9

abbrev pub decreases-assignment : goal.decreases-assignment
decreases-assignment l = l.inside.levels * 16 + 1

abbrev pub decreases-bare : goal.decreases-bare
decreases-bare l = l.inside.levels * 16 + 10

abbrev pub decreases-block : goal.decreases-block
decreases-block l = l.inside.levels * 16 + 7

abbrev pub decreases-block_expression : goal.decreases-block_expression
decreases-block_expression l = l.inside.levels * 16 + 8

abbrev pub decreases-body_behind : goal.decreases-body_behind
decreases-body_behind l = l.inside.levels * 16 + 7

abbrev pub decreases-bracketed : goal.decreases-bracketed
decreases-bracketed l = l.inside.levels * 16 + 1

abbrev pub decreases-call : goal.decreases-call
decreases-call l = l.inside.levels * 16 + 2

abbrev pub decreases-carried : goal.decreases-carried
decreases-carried l = l.inside.levels * 16 + 1

abbrev pub decreases-chain : goal.decreases-chain
decreases-chain l = l.inside.levels * 16 + 1

abbrev pub decreases-choice : goal.decreases-choice
decreases-choice l = l.inside.levels * 16 + 8

abbrev pub decreases-closure : goal.decreases-closure
decreases-closure l = l.inside.levels * 16 + 0

abbrev pub decreases-closure_body : goal.decreases-closure_body
decreases-closure_body l = l.inside.levels * 16 + 8

abbrev pub decreases-condition : goal.decreases-condition
decreases-condition l = l.inside.levels * 16 + 1

abbrev pub decreases-constant : goal.decreases-constant
decreases-constant l = l.inside.levels * 16 + 1

abbrev pub decreases-declaration : goal.decreases-declaration
decreases-declaration l = l.inside.levels * 16 + 1

abbrev pub decreases-default : goal.decreases-default
decreases-default l = l.inside.levels * 16 + 9

abbrev pub decreases-do_loop : goal.decreases-do_loop
decreases-do_loop l = l.inside.levels * 16 + 8

abbrev pub decreases-expr : goal.decreases-expr
decreases-expr l = l.inside.levels * 16 + 0

abbrev pub decreases-for_loop : goal.decreases-for_loop
decreases-for_loop l = l.inside.levels * 16 + 8

abbrev pub decreases-import : goal.decreases-import
decreases-import l = l.inside.levels * 16 + 1

abbrev pub decreases-infix : goal.decreases-infix
decreases-infix l = l.inside.levels * 16 + 1

abbrev pub decreases-inner_block : goal.decreases-inner_block
decreases-inner_block l = l.inside.levels * 16 + 8

abbrev pub decreases-lines : goal.decreases-lines
decreases-lines l = l.inside.levels * 16 + 6

abbrev pub decreases-link : goal.decreases-link
decreases-link l = l.inside.levels * 16 + 3

abbrev pub decreases-list : goal.decreases-list
decreases-list l = l.inside.levels * 16 + 1

abbrev pub decreases-map : goal.decreases-map
decreases-map l = l.inside.levels * 16 + 1

abbrev pub decreases-method : goal.decreases-method
decreases-method l = l.inside.levels * 16 + 2

abbrev pub decreases-out_of_loop : goal.decreases-out_of_loop
decreases-out_of_loop l = l.inside.levels * 16 + 2

abbrev pub decreases-part : goal.decreases-part
decreases-part l = l.inside.levels * 16 + 8

abbrev pub decreases-return_or_throw : goal.decreases-return_or_throw
decreases-return_or_throw l = l.inside.levels * 16 + 2

abbrev pub decreases-rows : goal.decreases-rows
decreases-rows l = l.inside.levels * 16 + 10

abbrev pub decreases-sharing : goal.decreases-sharing
decreases-sharing l = l.inside.levels * 16 + 4

abbrev pub decreases-statement : goal.decreases-statement
decreases-statement l = l.inside.levels * 16 + 0

abbrev pub decreases-step : goal.decreases-step
decreases-step l = l.inside.levels * 16 + 0

abbrev pub decreases-switch : goal.decreases-switch
decreases-switch l = l.inside.levels * 16 + 11

abbrev pub decreases-text : goal.decreases-text
decreases-text l = l.inside.levels * 16 + 9

abbrev pub decreases-try_catch : goal.decreases-try_catch
decreases-try_catch l = l.inside.levels * 16 + 8

abbrev pub decreases-while_loop : goal.decreases-while_loop
decreases-while_loop l = l.inside.levels * 16 + 8

abbrev pub decreases-members : goal.decreases-members
decreases-members l = l.inside.levels * 16 + 1

abbrev pub decreases-pointer : goal.decreases-pointer
decreases-pointer l = l.inside.levels * 16 + 2

abbrev pub decreases-pointed : goal.decreases-pointed
decreases-pointed l = l.inside.levels * 16 + 1

abbrev pub decreases-value : goal.decreases-value
decreases-value l = l.inside.levels * 16 + 0

abbrev pub decreases-values : goal.decreases-values
decreases-values l = l.inside.levels * 16 + 1

abbrev pub decreases-case : goal.decreases-case
decreases-case l = l.inside.levels * 16 + 4

abbrev pub decreases-choosers : goal.decreases-choosers
decreases-choosers l = l.inside.levels * 16 + 5

abbrev pub decreases-known_ones : goal.decreases-known_ones
decreases-known_ones l = l.inside.levels * 16 + 2

abbrev pub decreases-known : goal.decreases-known
decreases-known l = l.inside.levels * 16 + 1

abbrev pub decreases-with_constants : goal.decreases-with_constants
decreases-with_constants l = l.inside.levels * 16 + 2

abbrev pub decreases-written_closure : goal.decreases-written_closure
decreases-written_closure l = l.inside.levels * 16 + 9

abbrev pub decreases-names_to_take : goal.decreases-names_to_take
decreases-names_to_take l = l.inside.levels * 16 + 9

abbrev pub decreases-line_of : goal.decreases-line_of
decreases-line_of l = l.inside.levels * 16 + 5

abbrev pub invariant-list-loop-operand : goal.invariant-list-loop-operand
invariant-list-loop-operand l = l.behind.levels ≤ l.fn.inside.levels
