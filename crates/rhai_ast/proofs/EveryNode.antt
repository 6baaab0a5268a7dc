-- What is asked of every node, child by child, and of functions, one by one.
use Rattle.std.proofs.Common.{◌≡◌, ℕ, ◌+◌, ◌<◌, true, false, ◌&&◌, Bool, List, length, map, get_or, drop, add-one, refl, sym, ap, ◌∙◌}
use Rattle.std.proofs.Math.Seq.{drop-cons, drop-length}
use Rattle.std.specs.declared.alloc.Global.{Global}
use Rattle.std.specs.declared.rc.Rc.{Rc}
use Rattle.theory_meaning.specs.Plain.{all_true}
use Rattle.theory_meaning.specs.Walk.{Node, over_functions, over_stmts}
use Rattle.theory_meaning.proofs.Truth.{and_assoc}
use Rattle.ast_types.specs.declared.script_fn.ScriptFuncDef.{ScriptFuncDef}
use Rattle.ast_types.specs.declared.stmt.Stmt.{Stmt}
use Rattle.ast_types.specs.Reading.{function_of, stmts_of}
use Rattle.rhai_ast.specs.Children.{children, over_children, over_parts}
use Rattle.rhai_ast.specs.Left.{left_of, statements_left}
use Rattle.rhai_ast.specs.declared.walker.children.Children.{Children}
use Rattle.rhai_ast.proofs.Folding.{Folds, of_stmts, over_parts-children}

and_true : (a : Bool) → (a && true) ≡ a
and_true true = refl
and_true false = refl

module _ (P : Node → Bool) where
  folds : Folds (all_true P)
  folds = record {
    left = λ a. refl;
    right = and_true;
    assoc = and_assoc;
    nowhere = λ s. refl;
    across = λ s a b. refl;
    listed_arms = λ t as'. refl;
  }

  abbrev pub left_true : Children → Bool
  left_true cs = over_children (all_true P) (left_of cs)

  pub true-start : (n : Node) (cs : Children) → left_of cs ≡ children n → over_parts (all_true P) n ≡ left_true cs
  true-start n cs e = over_parts-children (all_true P) folds n ∙ ap (over_children (all_true P)) (sym e)

  pub true-statements : (ss : List Stmt) → over_children (all_true P) (statements_left ss) ≡ over_stmts (all_true P) (stmts_of ss)
  true-statements ss = of_stmts (all_true P) folds (stmts_of ss)

  abbrev pub bodies_true : List (Rc ScriptFuncDef Global) → Bool
  bodies_true fs = over_functions (all_true P) (map (λ f. function_of f.value) fs)

  pub bodies-drop : (fs : List (Rc ScriptFuncDef Global)) (i : ℕ) (d : Rc ScriptFuncDef Global) → i < length fs
      → bodies_true (drop i fs) ≡ (over_stmts (all_true P) (stmts_of (get_or fs i d).value.body.block) && bodies_true (drop (i + 1) fs))
  bodies-drop fs i d h = rw (add-one, drop-cons fs i d) refl

  pub bodies-end : (fs : List (Rc ScriptFuncDef Global)) → bodies_true (drop (length fs) fs) ≡ true
  bodies-end fs = ap bodies_true (drop-length fs)

pub ruleset bodies = (bodies-drop, bodies-end)
