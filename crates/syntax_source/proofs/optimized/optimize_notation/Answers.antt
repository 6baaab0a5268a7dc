use Rattle.std.specs.Prelude.{string_bytes}
use Rattle.base_engine.specs.EngineInfo.{engine_of}
use Rattle.rhai_script.specs.Contents.{contents}
use Rattle.rhai_script.specs.Script.{script_of}
use Rattle.syntax_source.proofs.Doing.{becomes_notation}
use Rattle.syntax_source.proofs.optimized.optimize_notation.Goals as goal

pub returns : goal.returns
returns c = (
  c.in_ok-given.ensures,
  becomes_notation (engine_of c.args.info.now) c.args.level (contents c.in_ok-clone.field-0) (contents c.in_ok-given.given) (contents c.in_ok-optimized.optimized)
      c.in_ok-clone.ensures.cases.0 c.in_ok-optimized.ensures (string_bytes c.in_ok-text.field-0.text) (script_of c.in_ok-text.field-0.script) c.in_ok-text.ensures,
)
