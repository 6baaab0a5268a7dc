use Rattle.base_engine.specs.EngineInfo.{engine_of}
use Rattle.rhai_script.specs.Contents.{contents}
use Rattle.rhai_script.specs.Script.{script_of}
use Rattle.syntax_source.proofs.Doing.{becomes_read}
use Rattle.syntax_source.proofs.optimized.optimize_text_by.Goals as goal

pub returns-clause-becomes : goal.returns-clause-becomes
returns-clause-becomes g c =
    becomes_read (engine_of c.args.info.now) c.args.level (contents c.in_ok-clone.field-0) (contents c.in_ok-given.given) (contents c.in_ok-optimized.optimized)
    c.in_ok-clone.ensures.cases.0 c.in_ok-optimized.ensures (script_of c.in_ok-text.field-0.script) c.in_ok-text.ensures.same
