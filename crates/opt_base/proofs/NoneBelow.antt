-- Calls of `eval` child by child.
use Rattle.std.proofs.Common.{◌≡◌, true, false, ◌&&◌, Bool, refl, sym, ap, ◌∙◌}
use Rattle.theory_meaning.specs.Walk.{Node}
use Rattle.theory_meaning.proofs.Truth.{and_assoc}
use Rattle.theory_rewriting.specs.Evals.{eval_walk}
use Rattle.rhai_ast.specs.Children.{children, over_children, over_parts}
use Rattle.rhai_ast.specs.Left.{left_of}
use Rattle.rhai_ast.specs.declared.walker.children.Children.{Children}
use Rattle.rhai_ast.proofs.Folding.{Folds, over_parts-children}

and_true : (a : Bool) → (a && true) ≡ a
and_true true = refl
and_true false = refl

folds : Folds eval_walk
folds = record {
  left = λ a. refl;
  right = and_true;
  assoc = and_assoc;
  nowhere = λ s. refl;
  across = λ s a b. refl;
  listed_arms = λ t as'. refl;
}

abbrev pub left_none : Children → Bool
left_none cs = over_children eval_walk (left_of cs)

pub none-start : (n : Node) (cs : Children) → left_of cs ≡ children n → over_parts eval_walk n ≡ left_none cs
none-start n cs e = over_parts-children eval_walk folds n ∙ ap (over_children eval_walk) (sym e)
