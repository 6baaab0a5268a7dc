-- What is read goes down a level, or at the same one from what stands around to what stands within.
use Rattle.std.proofs.Common.{◌*◌, ◌+◌}
use Rattle.syntax_parser.proofs.parser.Parser.+parse.Given as goal

abbrev pub decreases-answer : goal.decreases-answer
decreases-answer l = l.inside.levels * 16 + 1

abbrev pub decreases-arguments : goal.decreases-arguments
decreases-arguments l = l.inside.levels * 16 + 2

abbrev pub decreases-arm : goal.decreases-arm
decreases-arm l = l.inside.levels * 16 + 4

abbrev pub decreases-arm_condition : goal.decreases-arm_condition
decreases-arm_condition l = l.inside.levels * 16 + 3

abbrev pub decreases-array : goal.decreases-array
decreases-array l = l.inside.levels * 16 + 2

abbrev pub decreases-assignment : goal.decreases-assignment
decreases-assignment l = l.inside.levels * 16 + 2

abbrev pub decreases-back_ticks : goal.decreases-back_ticks
decreases-back_ticks l = l.inside.levels * 16 + 3

abbrev pub decreases-begun_with : goal.decreases-begun_with
decreases-begun_with l = l.inside.levels * 16 + 7

abbrev pub decreases-block : goal.decreases-block
decreases-block l = l.inside.levels * 16 + 2

abbrev pub decreases-block_expression : goal.decreases-block_expression
decreases-block_expression l = l.inside.levels * 16 + 3

abbrev pub decreases-capturing : goal.decreases-capturing
decreases-capturing l = l.inside.levels * 16 + 3

abbrev pub decreases-carried : goal.decreases-carried
decreases-carried l = l.inside.levels * 16 + 2

abbrev pub decreases-chain : goal.decreases-chain
decreases-chain l = l.inside.levels * 16 + 0

abbrev pub decreases-closure : goal.decreases-closure
decreases-closure l = l.inside.levels * 16 + 3

abbrev pub decreases-condition : goal.decreases-condition
decreases-condition l = l.inside.levels * 16 + 2

abbrev pub decreases-declaration : goal.decreases-declaration
decreases-declaration l = l.inside.levels * 16 + 3

abbrev pub decreases-do_loop : goal.decreases-do_loop
decreases-do_loop l = l.inside.levels * 16 + 3

abbrev pub decreases-endless_loop : goal.decreases-endless_loop
decreases-endless_loop l = l.inside.levels * 16 + 3

abbrev pub decreases-expr : goal.decreases-expr
decreases-expr l = l.inside.levels * 16 + 1

abbrev pub decreases-expr_within : goal.decreases-expr_within
decreases-expr_within l = l.inside.levels * 16 + 0

abbrev pub decreases-expression_or_assignment : goal.decreases-expression_or_assignment
decreases-expression_or_assignment l = l.inside.levels * 16 + 3

abbrev pub decreases-flow : goal.decreases-flow
decreases-flow l = l.inside.levels * 16 + 6

abbrev pub decreases-flow_expression : goal.decreases-flow_expression
decreases-flow_expression l = l.inside.levels * 16 + 7

abbrev pub decreases-for_loop : goal.decreases-for_loop
decreases-for_loop l = l.inside.levels * 16 + 3

abbrev pub decreases-go_on_with : goal.decreases-go_on_with
decreases-go_on_with l = l.inside.levels * 16 + 0

abbrev pub decreases-if_else : goal.decreases-if_else
decreases-if_else l = l.inside.levels * 16 + 4

abbrev pub decreases-import : goal.decreases-import
decreases-import l = l.inside.levels * 16 + 2

abbrev pub decreases-initial : goal.decreases-initial
decreases-initial l = l.inside.levels * 16 + 2

abbrev pub decreases-items : goal.decreases-items
decreases-items l = l.inside.levels * 16 + 1

abbrev pub decreases-map : goal.decreases-map
decreases-map l = l.inside.levels * 16 + 2

abbrev pub decreases-member : goal.decreases-member
decreases-member l = l.inside.levels * 16 + 3

abbrev pub decreases-named : goal.decreases-named
decreases-named l = l.inside.levels * 16 + 4

abbrev pub decreases-operand : goal.decreases-operand
decreases-operand l = l.inside.levels * 16 + 10

abbrev pub decreases-otherwise : goal.decreases-otherwise
decreases-otherwise l = l.inside.levels * 16 + 3

abbrev pub decreases-out_of_loop : goal.decreases-out_of_loop
decreases-out_of_loop l = l.inside.levels * 16 + 3

abbrev pub decreases-parenthesised : goal.decreases-parenthesised
decreases-parenthesised l = l.inside.levels * 16 + 2

abbrev pub decreases-primary : goal.decreases-primary
decreases-primary l = l.inside.levels * 16 + 9

abbrev pub decreases-reserved : goal.decreases-reserved
decreases-reserved l = l.inside.levels * 16 + 4

abbrev pub decreases-return_or_throw : goal.decreases-return_or_throw
decreases-return_or_throw l = l.inside.levels * 16 + 3

abbrev pub decreases-right_side : goal.decreases-right_side
decreases-right_side l = l.inside.levels * 16 + 0

abbrev pub decreases-root : goal.decreases-root
decreases-root l = l.inside.levels * 16 + 8

abbrev pub decreases-statement : goal.decreases-statement
decreases-statement l = l.inside.levels * 16 + 0

abbrev pub decreases-statements : goal.decreases-statements
decreases-statements l = l.inside.levels * 16 + 1

abbrev pub decreases-step : goal.decreases-step
decreases-step l = l.inside.levels * 16 + 4

abbrev pub decreases-switch : goal.decreases-switch
decreases-switch l = l.inside.levels * 16 + 5

abbrev pub decreases-try_catch : goal.decreases-try_catch
decreases-try_catch l = l.inside.levels * 16 + 3

abbrev pub decreases-while_loop : goal.decreases-while_loop
decreases-while_loop l = l.inside.levels * 16 + 3
