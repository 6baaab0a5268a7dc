use Rattle.std.proofs.Common.{rules, false}
use Rattle.std.proofs.lemmas.Fmt.{hex_byte}
use Rattle.tool_report.proofs.letters.push_code.Goals as goal

pub returns : goal.returns
returns c = let h = hex_byte false c.args.code c.requires in search (rules, h)
