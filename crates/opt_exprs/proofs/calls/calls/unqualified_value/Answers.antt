use Rattle.std.proofs.Common.{◌≡◌, Option, sym, ◌∙◌}
use Rattle.std.proofs.lemmas.Result.{IfOk-weaker}
use Rattle.std.specs.Option.{option_map}
use Rattle.rhai_base.specs.declared.dynamic.Dynamic.{Dynamic}
use Rattle.rhai_base.specs.Reading.{value_of}
use Rattle.base_engine.specs.EngineInfo.{engine_of}
use Rattle.theory_meaning.specs.Constants.{constant_values}
use Rattle.ast_types.specs.Reading.{callee_of, exprs_of}
use Rattle.opt_exprs.specs.Words.{value_of_word}
use Rattle.opt_exprs.proofs.Called.{word_called_value, no_word_called}
use Rattle.opt_exprs.proofs.calls.calls.unqualified_value.Goals as goal

pub returns-in-Some : goal.returns-in-Some
returns-in-Some c =
    let r = engine_of c.args.info.now in
    let vs = constant_values (exprs_of c.args.call.now.args) in
    let P : Option Dynamic → Type 0 = λ v. option_map value_of v ≡ value_of_word r c.in-Some.word vs in
    IfOk-weaker _ P _ (λ v x. x ∙ word_called_value r vs (callee_of c.args.call.now) c.in-Some.word (sym c.word_called.ensures ∙ c.in-Some.is)) (rw c.as_slice.ensures at c.word_folds.ensures)

pub returns-in-None : goal.returns-in-None
returns-in-None c = no_word_called (engine_of c.args.info.now) (constant_values (exprs_of c.args.call.now.args)) (callee_of c.args.call.now) (sym c.word_called.ensures ∙ c.in-None.is)
