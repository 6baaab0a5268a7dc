-- What is found below a node, child by child.
use Rattle.std.proofs.Common.{◌≡◌, List, [], Option, None, Some, refl, sym, ap, ◌∙◌}
use Rattle.std.proofs.Math.Path.{fun_ext}
use Rattle.theory_meaning.specs.Faults.{TreeFault, finding, ◌then◌}
use Rattle.theory_meaning.specs.Walk as walk
use Rattle.theory_meaning.specs.Walk.{Node, over_stmts}
use Rattle.ast_types.specs.declared.stmt.Stmt.{Stmt}
use Rattle.ast_types.specs.Reading.{stmts_of}
use Rattle.rhai_ast.specs.Children.{children, over_children, over_parts}
use Rattle.rhai_ast.specs.Left.{left_of, statements_left}
use Rattle.rhai_ast.specs.declared.walker.children.Children.{Children}
use Rattle.rhai_ast.proofs.Folding.{Folds, of_stmts, over_parts-children}

-- ---- the first fault

pub then_assoc : (o p q : Option TreeFault) → (o then p) then q ≡ o then (p then q)
then_assoc None p q = refl
then_assoc (Some f) p q = refl

then_none : (o : Option TreeFault) → o then None ≡ o
then_none None = refl
then_none (Some f) = refl

finding_folds : Folds finding
finding_folds = record {
  left = λ p. refl;
  right = λ p. fun_ext (λ a. then_none (p a));
  assoc = λ p q r. fun_ext (λ a. then_assoc (p a) (q a) (r a));
  nowhere = λ s. refl;
  across = λ s p q. refl;
  listed_arms = λ t as'. refl;
}

abbrev pub left_found : Children → walk.Around → Option TreeFault
left_found cs a = over_children finding (left_of cs) a

pub found-start : (n : Node) (cs : Children) (a : walk.Around) → left_of cs ≡ children n → over_parts finding n a ≡ left_found cs a
found-start n cs a e = ap (λ (p : walk.Around → Option TreeFault). p a) (over_parts-children finding finding_folds n) ∙ ap (λ ds. over_children finding ds a) (sym e)

pub found-end : (cs : Children) (a : walk.Around) → left_of cs ≡ [] → left_found cs a ≡ None
found-end cs a e = ap (λ ds. over_children finding ds a) e

-- statements one after another
pub found-statements : (ss : List Stmt) (a : walk.Around) → over_children finding (statements_left ss) a ≡ over_stmts finding (stmts_of ss) a
found-statements ss a = ap (λ (p : walk.Around → Option TreeFault). p a) (of_stmts finding finding_folds (stmts_of ss))
