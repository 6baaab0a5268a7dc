use Rattle.std.proofs.Common.{List, ◌++◌, subst}
use Rattle.rhai_ast.specs.Standing.{statements_standing}
use Rattle.rhai_ast.specs.Walking.{Path, Refused, Walks}
use Rattle.rhai_ast.specs.declared.walker.node.ASTNode.{ASTNode}
use Rattle.rhai_ast.proofs.Paths.{over_two, paths_of, walked}
use Rattle.rhai_ast.proofs.Walking.{first_agrees, first_refuses, first_short}
use Rattle.script_queries.specs.Scripts.{bodies_standing}
use Rattle.script_queries.proofs.Bodies.{bodies_paths}
use Rattle.script_queries.proofs.script.ASTScriptQueries.walk.Goals as goal

pub returns-in_err-walk_statements-clause-walks : goal.returns-in_err-walk_statements-clause-walks
returns-in_err-walk_statements-clause-walks g c =
    let ps : List Path = paths_of (statements_standing c.args.self.now.body.block) in
    let qs : List Path = bodies_paths c.args.self.now.lib.value.functions in (
      c.walk_statements.new.path.items,
      over_two g.F.FnMut (statements_standing c.args.self.now.body.block) (bodies_standing c.args.self.now.lib.value.functions) (subst (λ (front : List ASTNode). Walks g.F.FnMut front c.from_residual.result c.args.on_node.now (ps ++ qs) c.walk_statements.new.on_node c.walk_statements.new.path.items) c.new-path.ensures.items
          (first_short g.F.FnMut c.new-path.result.items c.args.on_node.now ps qs c.from_residual.result c.walk_statements.new.on_node c.walk_statements.new.path.items c.from_residual.ensures.0 (walked g.F.FnMut (rw c.statements.ensures at c.in_err-walk_statements.ensures.walks)))),
    )

pub returns-then-not-branch-clause-walks : goal.returns-then-not-branch-clause-walks
returns-then-not-branch-clause-walks g c =
    let ps : List Path = paths_of (statements_standing c.args.self.now.body.block) in
    let qs : List Path = bodies_paths c.args.self.now.lib.value.functions in (
      c.walk_statements.new.path.items,
      over_two g.F.FnMut (statements_standing c.args.self.now.body.block) (bodies_standing c.args.self.now.lib.value.functions) (subst (λ (front : List ASTNode). Refused g.F.FnMut front c.args.on_node.now (ps ++ qs) c.walk_statements.new.on_node c.walk_statements.new.path.items) c.new-path.ensures.items
          (first_refuses g.F.FnMut c.new-path.result.items c.args.on_node.now ps qs _ c.walk_statements.new.on_node c.walk_statements.new.path.items c.if-not-branch.true (walked g.F.FnMut (rw c.statements.ensures at c.in_ok-walk_statements.ensures.walks)))),
    )

pub returns-clause-walks : goal.returns-clause-walks
returns-clause-walks g c =
    let ps : List Path = paths_of (statements_standing c.args.self.now.body.block) in
    let qs : List Path = bodies_paths c.args.self.now.lib.value.functions in (
      c.walk_bodies.new.path.items,
      over_two g.F.FnMut (statements_standing c.args.self.now.body.block) (bodies_standing c.args.self.now.lib.value.functions) (subst (λ (front : List ASTNode). Walks g.F.FnMut front c.walk_bodies.result c.args.on_node.now (ps ++ qs) c.walk_bodies.new.on_node c.walk_bodies.new.path.items) c.new-path.ensures.items
          (first_agrees g.F.FnMut c.new-path.result.items c.args.on_node.now ps qs _ c.walk_statements.new.on_node c.walk_statements.new.path.items c.walk_bodies.result c.walk_bodies.new.on_node c.walk_bodies.new.path.items c.if-not-branch.false (walked g.F.FnMut (rw c.statements.ensures at c.in_ok-walk_statements.ensures.walks)) (walked g.F.FnMut (rw (c.deref-lib.ensures, c.shared_lib.ensures) at c.walk_bodies.ensures.walks)))),
    )
