use Rattle.base_engine.specs.EngineInfo.{engine_of}
use Rattle.syntax_source.proofs.Doing.{becomes_text}
use Rattle.syntax_source.proofs.optimized.optimize_text.Goals as goal

pub returns-in-Rhai : goal.returns-in-Rhai
returns-in-Rhai c =
    becomes_text c.optimize_text_by.result (engine_of c.args.info.now) c.args.level c.args.syntax c.in-Rhai.options c.args.text.now c.in-Rhai.is
    c.optimize_text_by.ensures.reads c.optimize_text_by.ensures.becomes
