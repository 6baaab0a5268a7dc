use Rattle.std.proofs.Common.{refl, sym, ◌∙◌}
use Rattle.ast_types.specs.Reading.{expr_of}
use Rattle.opt_base.proofs.WholeParts.{has_whole-constant, whole_parts}
use Rattle.opt_base.proofs.putting.fold_constant.Goals as goal

pub returns-then-not-has_whole_parts : goal.returns-then-not-has_whole_parts
returns-then-not-has_whole_parts c = (λ r h. whole_parts r (expr_of c.args.expr.now) h ∙ sym c.has_whole_parts.ensures ∙ c.if-not-has_whole_parts.true, refl, refl)

pub take_constant-requires : goal.take_constant-requires
take_constant-requires c = has_whole-constant (expr_of c.args.expr.now) (sym c.has_whole_parts.ensures ∙ c.if-not-has_whole_parts.false)
