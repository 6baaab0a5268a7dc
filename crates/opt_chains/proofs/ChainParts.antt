-- Parts that a step answers: they are no places, and as reduced and as clear as the base that they were parts of.
use Rattle.std.proofs.Common.{◌≡◌, ℕ, zero, suc, Bool, true, false, cond, List, Option, Some, None, refl, subst}
use Rattle.std.specs.Prelude.{◌&&◌}
use Rattle.rhai_base.specs.Value.{Text, Value, UnitV, same_text}
use Rattle.theory_meaning.specs.Desugar.{root_of}
use Rattle.theory_meaning.specs.Engine.{Engine, or_else}
use Rattle.theory_meaning.specs.Queries.{is_pure_expr, are_pure_exprs, are_pure_pairs, is_pure, are_pure}
use Rattle.theory_meaning.specs.Tree.{Expr, UnitConstant, ArrayOf, MapOf, Variable, BlockExpr, And, Or, Coalesce, Exprs, no_exprs, expr, Pairs, no_pairs, pair, Stmt, If, Block, ExprStmt, Stmts, no_stmts, stmt}
use Rattle.theory_meaning.specs.Walk.{OfExpr, over_exprs, over_pairs}
use Rattle.theory_meaning.proofs.PureTrees.{split}
use Rattle.theory_rewriting.specs.Answering.{AnswersNothing, of_first}
use Rattle.theory_rewriting.specs.Clear.{IsClearExpr, AreClearExprs, HasClearParts, IsClear, AreClear}
use Rattle.theory_rewriting.specs.Context.{known_behind}
use Rattle.theory_rewriting.specs.Indexing.{expr_at, pair_for, or_unit}
use Rattle.theory_rewriting.specs.Evals.{keeps_names}
use Rattle.theory_rewriting.specs.Known.{Known}
use Rattle.theory_rewriting.specs.Parts.{constant_of}
use Rattle.theory_rewriting.specs.Residue.{IsReducedExpr, AreReducedExprs, AreReducedPairs}
use Rattle.theory_rewriting.proofs.Clearing.{unclaimed}
use Rattle.theory_rewriting.proofs.Reducing.{root_of_value}
use Rattle.theory_rewriting.proofs.rules.Literals.{element_root, entry_root}

pub record IsPart (e part : Expr) : Type 0 where
  pub no_root : root_of part ≡ None
  pub clear : (ks : List Known) → HasClearParts ks part
  pub reduced : (r : Engine) → IsReducedExpr r e → IsReducedExpr r part × AnswersNothing (OfExpr part)

-- ---- constants

unit_reduced : (r : Engine) → IsReducedExpr r UnitConstant × AnswersNothing (OfExpr UnitConstant)
unit_reduced r = ((tt, (tt, (tt, tt))), refl)

constant_reduced : (r : Engine) (v : Value) → IsReducedExpr r (constant_of v) × AnswersNothing (OfExpr (constant_of v))
constant_reduced r UnitV = unit_reduced r
constant_reduced r _ = ((tt, (tt, (tt, tt))), refl)

constant_clear : (ks : List Known) (v : Value) → HasClearParts ks (constant_of v)
constant_clear ks UnitV = tt
constant_clear ks _ = tt

pub constant_is_part : (e : Expr) (v : Value) → IsPart e (constant_of v)
constant_is_part e v = record { no_root = root_of_value v; clear = λ ks. constant_clear ks v; reduced = λ r h. constant_reduced r v }

-- ---- what is pure tests no name

no : {A : Type 0} → false ≡ true → A
no h = absurd (let z : false ≡ true = h in cc)

mutual
  expr_clear : (ks : List Known) (e : Expr) → is_pure_expr e ≡ true → IsClearExpr ks e
  expr_clear ks (Variable ns x) h = no h
  expr_clear ks (BlockExpr ss) h = stmts_clear ks ss h
  expr_clear ks (And es) h = exprs_clear ks es h
  expr_clear ks (Or es) h = exprs_clear ks es h
  expr_clear ks (Coalesce es) h = exprs_clear ks es h
  expr_clear ks _ h = tt

  exprs_clear : (ks : List Known) (es : Exprs) → are_pure_exprs es ≡ true → AreClearExprs ks es
  exprs_clear ks no_exprs h = tt
  exprs_clear ks (expr e es) h = let z = split (is_pure_expr e) (are_pure_exprs es) h in (expr_clear ks e z.0, exprs_clear ks es z.1)

  stmt_clear : (ks : List Known) (s : Stmt) → is_pure s ≡ true → IsClear ks s
  stmt_clear ks (If c a b) h =
      let z = split (is_pure_expr c) (are_pure a && are_pure b) h in
      let y = split (are_pure a) (are_pure b) z.1 in (expr_clear ks c z.0, (stmts_clear ks a y.0, stmts_clear ks b y.1))
  stmt_clear ks (Block ss) h = stmts_clear ks ss h
  stmt_clear ks (ExprStmt e) h = expr_clear ks e h
  stmt_clear ks _ h = tt

  stmts_clear : (ks : List Known) (ss : Stmts) → are_pure ss ≡ true → AreClear ks ss
  stmts_clear ks no_stmts h = tt
  stmts_clear ks (stmt s ss) h = let z = split (is_pure s) (are_pure ss) h in (stmt_clear ks s z.0, unclaimed (keeps_names s) (stmts_clear (known_behind s ks) ss z.1))

parts_clear : (ks : List Known) (e : Expr) → is_pure_expr e ≡ true → HasClearParts ks e
parts_clear ks (BlockExpr ss) h = stmts_clear ks ss h
parts_clear ks (And es) h = exprs_clear ks es h
parts_clear ks (Or es) h = exprs_clear ks es h
parts_clear ks (Coalesce es) h = exprs_clear ks es h
parts_clear ks _ h = tt

-- ---- parts of literals whose parts are pure

some_is : {A : Type 0} (d e : A) → Some d ≡ Some e → d ≡ e
some_is d e h = cc

element_pure : (es : Exprs) (i : ℕ) (e : Expr) → are_pure_exprs es ≡ true → expr_at es i ≡ Some e → is_pure_expr e ≡ true
element_pure no_exprs i e h q = absurd (let z : None ≡ Some e = q in cc)
element_pure (expr d es) zero e h q = subst (λ x. is_pure_expr x ≡ true) (some_is d e q) (split (is_pure_expr d) (are_pure_exprs es) h).0
element_pure (expr d es) (suc i) e h q = element_pure es i e (split (is_pure_expr d) (are_pure_exprs es) h).1 q

element_reduced : (r : Engine) (es : Exprs) (i : ℕ) (e : Expr) → expr_at es i ≡ Some e → AreReducedExprs r es → over_exprs (of_first AnswersNothing) es → IsReducedExpr r e × AnswersNothing (OfExpr e)
element_reduced r no_exprs i e q h a = absurd (let z : None ≡ Some e = q in cc)
element_reduced r (expr d es) zero e q h a = subst (λ x. IsReducedExpr r x × AnswersNothing (OfExpr x)) (some_is d e q) (h.0, a.0)
element_reduced r (expr d es) (suc i) e q h a = element_reduced r es i e q h.1 a.1

pub element_is_part : (es : Exprs) (i : ℕ) (e : Expr) → are_pure_exprs es ≡ true → expr_at es i ≡ Some e → IsPart (ArrayOf es) e
element_is_part es i e h q = record {
  no_root = element_root es i e h q;
  clear = λ ks. parts_clear ks e (element_pure es i e h q);
  reduced = λ r p. element_reduced r es i e q p.1.1.1 p.1.1.0;
}

entry_pure : (ps : Pairs) (x : Text) → are_pure_pairs ps ≡ true → is_pure_expr (or_unit (pair_for ps x)) ≡ true
entry_pure no_pairs x h = refl
entry_pure (pair k e ps) x h = let z = split (is_pure_expr e) (are_pure_pairs ps) h in by (pair_for ps x) (same_text k x) z.0 (entry_pure ps x z.1) where
  by : (o : Option Expr) (b : Bool) → is_pure_expr e ≡ true → is_pure_expr (or_unit o) ≡ true → is_pure_expr (or_unit (or_else o (cond b (Some e) None))) ≡ true
  by (Some y) b p q = q
  by None true p q = p
  by None false p q = refl

abbrev Claimed : Engine → Expr → Type 0
Claimed r d = IsReducedExpr r d × AnswersNothing (OfExpr d)

entry_reduced : (r : Engine) (ps : Pairs) (x : Text) → AreReducedPairs r ps → over_pairs (of_first AnswersNothing) ps → IsReducedExpr r (or_unit (pair_for ps x)) × AnswersNothing (OfExpr (or_unit (pair_for ps x)))
entry_reduced r no_pairs x h a = unit_reduced r
entry_reduced r (pair k e ps) x h a = by (pair_for ps x) (same_text k x) (h.0, a.0) (entry_reduced r ps x h.1 a.1) where
  by : (o : Option Expr) (b : Bool) → Claimed r e → Claimed r (or_unit o) → Claimed r (or_unit (or_else o (cond b (Some e) None)))
  by (Some y) b p q = q
  by None true p q = p
  by None false p q = unit_reduced r

pub entry_is_part : (ps : Pairs) (template : List Text) (x : Text) → are_pure_pairs ps ≡ true → IsPart (MapOf ps template) (or_unit (pair_for ps x))
entry_is_part ps template x h = record {
  no_root = entry_root ps x h;
  clear = λ ks. parts_clear ks (or_unit (pair_for ps x)) (entry_pure ps x h);
  reduced = λ r p. entry_reduced r ps x p.1.1.1 p.1.1.0;
}
