use Rattle.notation_read.proofs.letters.Letters.+value.Given as goal

abbrev pub decreases-items : goal.decreases-items
decreases-items g l = l.depth

abbrev pub decreases-members : goal.decreases-members
decreases-members g l = l.depth

abbrev pub decreases-value_within : goal.decreases-value_within
decreases-value_within g l = l.depth

abbrev pub decreases-pointer : goal.decreases-pointer
decreases-pointer g l = l.depth
