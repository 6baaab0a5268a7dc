-- The guard of a loop, and blocks that are not empty.
use Rattle.std.proofs.Common.{◌≡◌, false, ◌==◌, List, [], ◌∷◌, ◌++◌, codes, length, refl, ap, append_assoc, ◌∙◌}
use Rattle.ast_types.specs.declared.stmt.Stmt as declared
use Rattle.rhai_base.specs.Value.{Text}
use Rattle.theory_meaning.specs.Tree.{DynamicConstant, BoolConstant, IntegerConstant, FloatConstant, CharConstant, StringConstant, UnitConstant, InterpolatedString, ArrayOf, MapOf, Variable, ThisPtr, Property, MethodCall, BlockExpr, FnCall, Dot, Index, And, Or, Coalesce, Expr, Stmts, While}
use Rattle.ast_types.specs.Reading.{stmts_of}
use Rattle.notation_print.specs.Nodes.{block_text, guard_text, stmt_text, stmts_text}

pub guarded : (e : Expr) (ss : Stmts) → stmt_text (While e ss) ≡ guard_text e ++ block_text ss
guarded (DynamicConstant v) ss = refl
guarded (BoolConstant b) ss = refl
guarded (IntegerConstant n) ss = refl
guarded (FloatConstant x) ss = refl
guarded (CharConstant c) ss = refl
guarded (StringConstant t) ss = refl
guarded UnitConstant ss = refl
guarded (InterpolatedString es) ss = refl
guarded (ArrayOf es) ss = refl
guarded (MapOf ps template) ss = refl
guarded (Variable ms x) ss = refl
guarded ThisPtr ss = refl
guarded (Property p) ss = refl
guarded (MethodCall f es) ss = refl
guarded (BlockExpr ts) ss = refl
guarded (FnCall f es) ss = refl
guarded (Dot f l r) ss = refl
guarded (Index f l r) ss = refl
guarded (And es) ss = refl
guarded (Or es) ss = refl
guarded (Coalesce es) ss = refl

-- a block that is not empty
braced : (xs : List declared.Stmt) → false ≡ (length xs == 0) → (codes "{ " ++ stmts_text [] (stmts_of xs)) ++ codes " }" ≡ block_text (stmts_of xs)
braced [] h = cc
braced (x ∷ xs) h = refl

-- such a block, brace by brace
pub pushed_braces : (xs ys : List declared.Stmt) (old m n k : Text) → xs ≡ ys → false ≡ (length xs == 0) → m ≡ old ++ codes "{ "
    → n ≡ m ++ stmts_text [] (stmts_of xs) → k ≡ n ++ codes " }" → k ≡ old ++ block_text (stmts_of ys)
pushed_braces xs ys old m n k same h e f g =
    g ∙ ap (λ t. t ++ codes " }") (f ∙ ap (λ t. t ++ stmts_text [] (stmts_of xs)) e ∙ append_assoc old (codes "{ ") (stmts_text [] (stmts_of xs)))
    ∙ append_assoc old (codes "{ " ++ stmts_text [] (stmts_of xs)) (codes " }")
    ∙ ap (λ t. old ++ t) (braced xs h ∙ ap (λ (zs : List declared.Stmt). block_text (stmts_of zs)) same)

pub ruleset nodes = (guarded)
