-- When a test of a tree answers a fault.
use Rattle.std.specs.Prelude.{◌≡◌, Option, Some, None, Result, MatchResult}
use Rattle.base_tokens.specs.declared.error.TreeFault.{TreeFault}
use Rattle.base_tokens.specs.declared.error.TreeFault.TheVariants.{OutOfMemory}

-- the fault that is found; want of memory says nothing of the tree
abbrev pub meant : TreeFault → Option TreeFault
meant OutOfMemory = None
meant f = Some f

abbrev pub IsTheFirst : Option TreeFault → Option TreeFault → Type 0
IsTheFirst first (Some f) = first ≡ Some f
IsTheFirst first None = Unit {0}

-- of a tree with this first fault, if any: nothing where there is none, else that fault; or that memory was wanting
abbrev pub Finds : {A : Type 0} → Option TreeFault → Result A TreeFault → Type 0
Finds first r = MatchResult r (λ _. first ≡ None) (λ f. IsTheFirst first (meant f))
