-- What is left to be tried of the arms of a `switch`.
use Rattle.std.specs.Prelude.{ℕ, Bool, true, false, List, [], ◌∷◌, Option, Some, None}
use Rattle.theory_meaning.specs.Tree.{Arms}
use Rattle.theory_rewriting.specs.Tables.{arm_of, arm_decides, left_arms}
use Rattle.opt_switch.specs.declared.choice.Choice.{Choice}
use Rattle.opt_switch.specs.declared.choice.Choice.TheVariants.{Nothing, Answer, Only, Several}

-- an arm before any other, by what its condition decides
abbrev pub first_of : Option Bool → ℕ → Choice
first_of (Some false) i = Nothing
first_of (Some true) i = Answer i
first_of None i = Only i

-- an arm behind one whose condition is open
abbrev pub after_only : Option Bool → ℕ → Choice
after_only (Some false) j = Only j
after_only (Some true) j = Several
after_only None j = Several

-- an arm behind others
abbrev pub behind : Choice → ℕ → Option Bool → Choice
behind Nothing i d = first_of d i
behind (Answer j) i d = Answer j
behind (Only j) i d = after_only d j
behind Several i d = Several

-- of arms of which none is false
abbrev pub choice_of : Arms → List ℕ → Choice
choice_of as' [] = Nothing
choice_of as' (i ∷ []) = first_of (arm_decides (arm_of as' i)) i
choice_of as' (i ∷ j ∷ is) = Several

-- some arms, of which none is false, behind others
abbrev pub only_then : ℕ → List ℕ → Choice
only_then j [] = Only j
only_then j (k ∷ is) = Several

abbrev pub followed : Choice → Arms → List ℕ → Choice
followed Nothing as' is = choice_of as' is
followed (Answer j) as' is = Answer j
followed (Only j) as' is = only_then j is
followed Several as' is = Several

-- what is left with some arms behind others
abbrev pub choice_behind : Choice → Arms → List ℕ → Choice
choice_behind c as' is = followed c as' (left_arms as' is)
