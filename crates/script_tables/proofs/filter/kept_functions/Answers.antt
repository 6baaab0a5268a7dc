use Rattle.std.proofs.Common.{map, refl, of_calls}
use Rattle.std.specs.Rc.{rc_value}
use Rattle.script_tables.specs.Filter.{AnswersShort}
use Rattle.script_tables.proofs.Choices.{chosen-alike, ok_alike}
use Rattle.script_tables.proofs.filter.kept_functions.Goals as goal

pub returns-clause-filtered : goal.returns-clause-filtered
returns-clause-filtered g c = ok_alike c.chosen_functions.result _ _ (λ kept. chosen-alike _ (AnswersShort g.F.Fn) _ c.args.filter.now (λ f b left a. (a.same, record { name = a.name; shows = a.shows; says = search (of_calls, a.says); same = refl })) c.args.lib.now.functions (map rc_value kept.items)) c.chosen_functions.ensures.filtered
