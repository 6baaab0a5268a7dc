use Rattle.std.proofs.Common.{sym, ap, ◌∙◌, arith}
use Rattle.theory_meaning.specs.Faults as faults
use Rattle.rhai_ast.specs.MapKeys.{names_of}
use Rattle.rhai_ast.proofs.KeyLists.{length-names_of, get_or-names_of, names_so_far-none, names_so_far-more, names_so_far-twice, names_so_far-all}
use Rattle.rhai_ast.proofs.faults.map_keys.distinct_names.Goals as goal

pub loop-member-init : goal.loop-member-init
loop-member-init c = names_so_far-none (names_of c.args.members.now) c.new-names.result c.new-names.ensures.empty

pub returns-then-not-branch-clause-finds : goal.returns-then-not-branch-clause-finds
returns-then-not-branch-clause-finds c =
    let members = c.args.members.now in
    let i = c.loop-member.member-index in
    ap (λ b. faults.unless b faults.DuplicateMapKey)
    (names_so_far-twice (names_of members) i c.as_str.result c.loop-member.names _
    (omega (arith, length-names_of members))
    (c.as_str.ensures ∙ ap (λ m. m.0.name) c.member-item.is ∙ sym (get_or-names_of members i c.member-item.result c.loop-member-test.true))
    c.loop-member.invariant c.in_ok-insert.ensures.added c.if-not-branch.true)

pub loop-member-preserved : goal.loop-member-preserved
loop-member-preserved c =
    let members = c.args.members.now in
    let i = c.loop-member.member-index in
    names_so_far-more (names_of members) i c.as_str.result c.loop-member.names c.insert.new.self _
    (omega (arith, length-names_of members))
    (c.as_str.ensures ∙ ap (λ m. m.0.name) c.member-item.is ∙ sym (get_or-names_of members i c.member-item.result c.loop-member-test.true))
    c.loop-member.invariant c.in_ok-insert.ensures.added c.in_ok-insert.ensures.keys c.if-not-branch.false

pub returns-clause-finds : goal.returns-clause-finds
returns-clause-finds c =
    let members = c.args.members.now in
    ap (λ b. faults.unless b faults.DuplicateMapKey)
    (names_so_far-all (names_of members) c.loop-member.member-index c.loop-member.names (omega (arith, length-names_of members)) c.loop-member.invariant).0

pub returns-clause-names : goal.returns-clause-names
returns-clause-names c =
    let members = c.args.members.now in
    (names_so_far-all (names_of members) c.loop-member.member-index c.loop-member.names (omega (arith, length-names_of members)) c.loop-member.invariant).1
