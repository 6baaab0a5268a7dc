use Rattle.notation_read.proofs.letters.Letters.+read.Given as goal

abbrev pub decreases-arm : goal.decreases-arm
decreases-arm g l = l.depth

abbrev pub decreases-assigned : goal.decreases-assigned
decreases-assigned g l = l.depth

abbrev pub decreases-block : goal.decreases-block
decreases-block g l = l.depth

abbrev pub decreases-expr : goal.decreases-expr
decreases-expr g l = l.depth

abbrev pub decreases-link : goal.decreases-link
decreases-link g l = l.depth

abbrev pub decreases-many : goal.decreases-many
decreases-many g l = l.depth

abbrev pub decreases-maybe : goal.decreases-maybe
decreases-maybe g l = l.depth

abbrev pub decreases-pair : goal.decreases-pair
decreases-pair g l = l.depth

abbrev pub decreases-part : goal.decreases-part
decreases-part g l = l.depth

abbrev pub decreases-parts : goal.decreases-parts
decreases-parts g l = l.depth

abbrev pub decreases-statement : goal.decreases-statement
decreases-statement g l = l.depth
