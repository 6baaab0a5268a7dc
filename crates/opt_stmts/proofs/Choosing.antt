-- An `if` that is decided, has no statements, or stays.
use Rattle.std.proofs.Common.{◌≡◌, Bool, true, false, not, ◌&&◌, ◌↔◌, IsTrue, List, [], ◌∷◌, Option, Some, None, is_some, refl, sym, ap, ◌∙◌, subst}
use Rattle.ast_types.specs.declared.stmt.Stmt as declared_stmt
use Rattle.theory_meaning.specs.Constants.{constant_bool}
use Rattle.theory_meaning.specs.Tree.{Expr, Stmt, Noop, If, Block, Stmts, no_stmts, stmt}
use Rattle.ast_types.specs.Reading.{stmts_of}
use Rattle.theory_rewriting.specs.Rules as rule
use Rattle.theory_rewriting.specs.Rules.{block_or_noop, condition_alone}
use Rattle.theory_rewriting.specs.Steps.{StmtRewrite}
use Rattle.theory_rewriting.proofs.Keeping.{keeps_condition}
use Rattle.opt_base.proofs.Places.{not-true}
use Rattle.opt_base.specs.declared.step.NodeStep.{NodeStep}
use Rattle.opt_base.specs.NodeSteps.{step_by}
use Rattle.opt_stmts.specs.ChoiceSteps.{answer, answer_by}
use Rattle.opt_stmts.specs.SettledChoices.{is_empty, is_settled_if, is_settled, is_nest, opens_if, reopens}

-- ---- blocks

pub block_or_noop-none : (ss : Stmts) → true ≡ is_empty ss → Noop ≡ block_or_noop ss
block_or_noop-none no_stmts h = refl
block_or_noop-none (stmt s ss) h = absurd cc

pub block_or_noop-some : (ss : Stmts) → false ≡ is_empty ss → Block ss ≡ block_or_noop ss
block_or_noop-some no_stmts h = absurd cc
block_or_noop-some (stmt s ss) h = refl

pub empty-of : (l : List declared_stmt.Stmt) (b : Bool) → (IsTrue b ↔ (l ≡ [])) → b ≡ is_empty (stmts_of l)
empty-of [] b h = h.1 refl
empty-of (s ∷ l) true h = let k = h.0 refl in absurd cc
empty-of (s ∷ l) false h = refl

pub bare-if : (e : Expr) (a b : Stmts) → true ≡ is_empty a && is_empty b → If e a b ≡ If e no_stmts no_stmts
bare-if e no_stmts no_stmts h = refl
bare-if e no_stmts (stmt s b) h = absurd cc
bare-if e (stmt s a) b h = absurd cc

pub settled_if-none : (e : Expr) (a b : Stmts) → true ≡ is_empty a && is_empty b → false ≡ is_settled_if e a b
settled_if-none e no_stmts no_stmts h = refl
settled_if-none e no_stmts (stmt s b) h = absurd cc
settled_if-none e (stmt s a) b h = absurd cc

undecided-if : (empty : Bool) (o : Option Bool) → false ≡ empty → o ≡ None → not empty && not (is_some o) ≡ true
undecided-if true o h i = absurd cc
undecided-if false None h i = refl
undecided-if false (Some x) h i = absurd cc

-- an `if` with statements that is not decided stays
pub settled_if-some : (e : Expr) (a b : Stmts) → false ≡ is_empty a && is_empty b → constant_bool e ≡ None → is_settled_if e a b ≡ true
settled_if-some e a b h i = undecided-if (is_empty a && is_empty b) (constant_bool e) h i

decided-if : (empty : Bool) (o : Option Bool) (d : Bool) → o ≡ Some d → not empty && not (is_some o) ≡ false
decided-if true o d i = refl
decided-if false None d i = absurd cc
decided-if false (Some x) d i = refl

none-of : {A : Type 0} (o : Option A) → is_some o ≡ false → o ≡ None
none-of None h = refl
none-of (Some x) h = absurd cc

right-true : (a b : Bool) → a && b ≡ true → b ≡ true
right-true true b h = h
right-true false b h = absurd cc

pub settled_if : (e : Expr) (a b : Stmts) → is_settled_if e a b ≡ true → constant_bool e ≡ None
settled_if e a b h = none-of (constant_bool e) (not-true (is_some (constant_bool e)) (right-true (not (is_empty a && is_empty b)) _ h))

-- an `if` with two empty blocks
pub bare_if : (w : Bool) (e : Expr) → StmtRewrite w w (If e no_stmts no_stmts) (condition_alone w e)
bare_if true e = record { rule = λ k. rule.if_without_blocks; keeps = λ h. absurd cc }
bare_if false e = record { rule = λ k. rule.if_without_blocks; keeps = λ h. keeps_condition e }

opens-all : (w empty : Bool) → true ≡ empty → w && empty ≡ w
opens-all true empty h = sym h
opens-all false empty h = refl

opens-none : (w empty : Bool) → false ≡ empty → w && empty ≡ false
opens-none true empty h = sym h
opens-none false empty h = refl

-- what came of an `if` that does not stay
pub reduces_bare : (w : Bool) (e : Expr) (a b : Stmts) {s' : Stmt} {n : NodeStep} → true ≡ is_empty a && is_empty b → n ≡ step_by w → StmtRewrite w w (If e no_stmts no_stmts) s' → (is_settled_if e a b ≡ false) × (n ≡ step_by (opens_if w a b)) × StmtRewrite (opens_if w a b) w (If e a b) s'
reduces_bare w e a b {s' = s'} h n r =
    let o = sym (opens-all w (is_empty a && is_empty b) h) in
    (sym (settled_if-none e a b h), n ∙ ap step_by o, subst (λ o. StmtRewrite o w (If e a b) s') o (subst (λ x. StmtRewrite w w x s') (sym (bare-if e a b h)) r))

pub reduces_decided : (w : Bool) (e : Expr) (a b : Stmts) {s' : Stmt} (d : Bool) → false ≡ is_empty a && is_empty b → constant_bool e ≡ Some d → StmtRewrite false w (If e a b) s' → (is_settled_if e a b ≡ false) × (step_by false ≡ step_by (opens_if w a b)) × StmtRewrite (opens_if w a b) w (If e a b) s'
reduces_decided w e a b {s' = s'} d h i r =
    let o = sym (opens-none w (is_empty a && is_empty b) h) in
    (decided-if (is_empty a && is_empty b) (constant_bool e) d i, ap step_by o, subst (λ o. StmtRewrite o w (If e a b) s') o r)

-- what comes of an `if`, by its tests
pub answer_of : (w : Bool) (x : Stmt) {a b : Bool} → is_settled x ≡ a → is_nest x ≡ b → answer_by a b (reopens w x) ≡ answer w x
answer_of w x {a = a} {b = b} h i = sym (ap (λ z. answer_by z (is_nest x) (reopens w x)) h ∙ ap (λ z. answer_by a z (reopens w x)) i)
