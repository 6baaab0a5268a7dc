use Rattle.std.proofs.Common.{◌≡◌, false, drop}
use Rattle.base_text.specs.Text.{Text}
use Rattle.ast_types.specs.Reading.{exprs_of, pairs_of}
use Rattle.theory_grammar.specs.Grammar.{ReadsItems, ReadsMore, ReadsPairs, Run, run_level, run_sign}
use Rattle.syntax_grammar.proofs.exprs.+grammar.Given as goal

-- what is left decides
abbrev pub invariant-further-loop-i : goal.invariant-further-loop-i
invariant-further-loop-i l = (k : Run) (rest : Text) → l.sign ≡ run_sign k → l.level ≡ run_level k → ReadsMore k (drop l.place l.text) (exprs_of (drop l.i l.operands)) rest → ReadsMore k (drop l.at l.text) (exprs_of (drop 1 l.operands)) rest

abbrev pub invariant-items-loop-expr : goal.invariant-items-loop-expr
invariant-items-loop-expr l = (rest : Text) → ReadsItems l.end l.owed (drop l.place l.text) (exprs_of (drop l.expr-index l.exprs)) rest → ReadsItems l.end false (drop l.at l.text) (exprs_of l.exprs) rest

abbrev pub invariant-properties-loop-pair : goal.invariant-properties-loop-pair
invariant-properties-loop-pair l = (rest : Text) → ReadsPairs l.owed (drop l.place l.text) (pairs_of (drop l.pair-index l.pairs)) rest → ReadsPairs false (drop l.at l.text) (pairs_of l.pairs) rest
