use Rattle.std.proofs.Common.{arith, map, string_bytes, Global}
use Rattle.std.proofs.lemmas.Grind.{common_steps}
use Rattle.std.proofs.lemmas.List.{length-map}
use Rattle.demo.proofs.Turns.{request_of-two, request_of-many}
use Rattle.demo.proofs.request.Request.parse.Goals as goal

pub returns-in-len1 : goal.returns-in-len1
returns-in-len1 c = grind (arith, common_steps)

pub returns-in_default-3 : goal.returns-in_default-3
returns-in_default-3 c =
    let same = length-map c.args.words.now (string_bytes {Z = Global}) in
    request_of-two (map (string_bytes {Z = Global}) c.args.words.now) (omega (arith, same)) (omega (arith, same))

pub returns-in_default-6 : goal.returns-in_default-6
returns-in_default-6 c =
    request_of-many (map (string_bytes {Z = Global}) c.args.words.now) (omega (arith, length-map c.args.words.now (string_bytes {Z = Global})))
