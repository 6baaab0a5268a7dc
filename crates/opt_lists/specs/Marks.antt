-- The mark that a declared one stands for.
use Rattle.opt_lists.specs.declared.mark.ListMark.{ListMark}
use Rattle.opt_lists.specs.declared.mark.ListMark.TheVariants as declared_mark
use Rattle.theory_rewriting.specs.Context.{ListKind, Whole, Inside}

abbrev pub mark_of : ListMark → ListKind
mark_of declared_mark.Whole = Whole
mark_of (declared_mark.Inside is_wanted) = Inside is_wanted
