-- What a `switch` is decided to, by what is left of its arms.
use Rattle.std.proofs.Common.{◌≡◌, ℕ, Bool, true, false, cond, List, [], ◌∷◌, Option, Some, None, refl, sym, ap, ◌∙◌, subst}
use Rattle.std.specs.Option.{option_map}
use Rattle.std.proofs.lemmas.Bool.Decides.{Decides-eqb}
use Rattle.rhai_base.specs.Value.{Value, is_hashable}
use Rattle.theory_meaning.specs.Constants.{constant_value}
use Rattle.theory_meaning.specs.Control.{chosen}
use Rattle.theory_meaning.specs.Tree.{SwitchTable, Expr, Arms, Stmt, If, Switch, ExprStmt, no_stmts, stmt}
use Rattle.ast_nodes.specs.Blocks.{answered}
use Rattle.theory_rewriting.specs.Context.{Context}
use Rattle.theory_rewriting.specs.Rules.{StmtRule, switch_answers, switch_is_if, switch_defaults}
use Rattle.theory_rewriting.specs.Tables.{arm_of, arm_decides, left_with, left_arms, answer_of_arm, default_answer, default_stmt, default_branch}
use Rattle.opt_switch.specs.declared.choice.Choice.{Choice}
use Rattle.opt_switch.specs.declared.choice.Choice.TheVariants.{Nothing, Answer, Only, Several}
use Rattle.opt_switch.specs.Choices.{first_of, choice_of}
use Rattle.opt_switch.specs.Deciding.{hashable, is_default, but_default, choice_over, choice_at, if_of, Becomes}

-- ---- of a constant subject

pub over_constant : {R : Type 0} (o : Option Value) (as' : Arms) (t : SwitchTable) (c : Choice) → (Several ≡ c → ⊥) → choice_over as' t (hashable o) ≡ c → ((v : Value) → o ≡ Some v → is_hashable v ≡ true → but_default t.default (choice_of as' (left_arms as' (chosen t v))) ≡ c → R) → R
over_constant None as' t c n h f = absurd (n h)
over_constant {R = R} (Some v) as' t c n h f = by (is_hashable v) refl h where
  by : (b : Bool) → is_hashable v ≡ b → choice_over as' t (cond b (Some v) None) ≡ c → R
  by true i q = f v refl i q
  by false i q = absurd (n q)

-- ---- the default aside

abbrev place_of : Choice → ℕ
place_of (Answer i) = i
place_of (Only i) = i
place_of _ = 0

answer_left : (d : Option ℕ) (c : Choice) (j : ℕ) → but_default d c ≡ Answer j → c ≡ Answer j
answer_left d Nothing j h = absurd (let z : Nothing ≡ Answer j = h in cc)
answer_left d (Answer i) j h = h
answer_left d (Only i) j h = by (is_default d i) h where
  by : (b : Bool) → cond b Several (Only i) ≡ Answer j → Only i ≡ Answer j
  by true q = absurd (let z : Several ≡ Answer j = q in cc)
  by false q = q
answer_left d Several j h = absurd (let z : Several ≡ Answer j = h in cc)

nothing_left : (d : Option ℕ) (c : Choice) → but_default d c ≡ Nothing → c ≡ Nothing
nothing_left d Nothing h = h
nothing_left d (Answer i) h = absurd (let z : Answer i ≡ Nothing = h in cc)
nothing_left d (Only i) h = by (is_default d i) h where
  by : (b : Bool) → cond b Several (Only i) ≡ Nothing → Only i ≡ Nothing
  by true q = absurd (let z : Several ≡ Nothing = q in cc)
  by false q = q
nothing_left d Several h = absurd (let z : Several ≡ Nothing = h in cc)

no_default : (d : Option ℕ) (j : ℕ) → is_default d j ≡ false → d ≡ Some j → ⊥
no_default d j h e = let z : true ≡ false = sym ((Decides-eqb j j).1 refl) ∙ sym (ap (λ o. is_default o j) e) ∙ h in cc

only_left : (d : Option ℕ) (c : Choice) (j : ℕ) → but_default d c ≡ Only j → (c ≡ Only j) × (d ≡ Some j → ⊥)
only_left d Nothing j h = absurd (let z : Nothing ≡ Only j = h in cc)
only_left d (Answer i) j h = absurd (let z : Answer i ≡ Only j = h in cc)
only_left d (Only i) j h = by (is_default d i) refl h where
  by : (b : Bool) → is_default d i ≡ b → cond b Several (Only i) ≡ Only j → (Only i ≡ Only j) × (d ≡ Some j → ⊥)
  by true e q = absurd (let z : Several ≡ Only j = q in cc)
  by false e q = (q, no_default d j (ap (is_default d) (sym (ap place_of q)) ∙ e))
only_left d Several j h = absurd (let z : Several ≡ Only j = h in cc)

-- ---- which arms are left

abbrev first_or : ℕ → List ℕ → ℕ
first_or n [] = n
first_or n (k ∷ ks) = k

-- the first that is left is not false
head_open : (as' : Arms) (is : List ℕ) (i : ℕ) (l : List ℕ) → left_arms as' is ≡ i ∷ l → arm_decides (arm_of as' i) ≡ Some false → ⊥
head_open as' [] i l h q = let z : [] ≡ i ∷ l = h in cc
head_open as' (j ∷ is) i l h q = by (arm_decides (arm_of as' j)) refl h (λ r. head_open as' is i l r q) where
  same : {o : Option Bool} → arm_decides (arm_of as' j) ≡ o → j ≡ i → o ≡ Some false
  same e x = sym e ∙ ap (λ n. arm_decides (arm_of as' n)) x ∙ q

  by : (o : Option Bool) → arm_decides (arm_of as' j) ≡ o → left_with o j (left_arms as' is) ≡ i ∷ l → (left_arms as' is ≡ i ∷ l → ⊥) → ⊥
  by (Some false) e r k = k r
  by (Some true) e r k = let z : Some true ≡ Some false = same e (ap (first_or j) r) in cc
  by None e r k = let z : None ≡ Some false = same e (ap (first_or j) r) in cc

of_first_answer : (o : Option Bool) (i j : ℕ) → first_of o i ≡ Answer j → (o ≡ Some true) × (i ≡ j)
of_first_answer (Some true) i j h = (refl, ap place_of h)
of_first_answer (Some false) i j h = absurd (let z : Nothing ≡ Answer j = h in cc)
of_first_answer None i j h = absurd (let z : Only i ≡ Answer j = h in cc)

of_first_only : (o : Option Bool) (i j : ℕ) → first_of o i ≡ Only j → i ≡ j
of_first_only (Some true) i j h = absurd (let z : Answer i ≡ Only j = h in cc)
of_first_only (Some false) i j h = absurd (let z : Nothing ≡ Only j = h in cc)
of_first_only None i j h = ap place_of h

of_first_nothing : (o : Option Bool) (i : ℕ) → first_of o i ≡ Nothing → o ≡ Some false
of_first_nothing (Some true) i h = absurd (let z : Answer i ≡ Nothing = h in cc)
of_first_nothing (Some false) i h = refl
of_first_nothing None i h = absurd (let z : Only i ≡ Nothing = h in cc)

of_answer : (as' : Arms) (l : List ℕ) (j : ℕ) → choice_of as' l ≡ Answer j → (l ≡ j ∷ []) × (arm_decides (arm_of as' j) ≡ Some true)
of_answer as' [] j h = absurd (let z : Nothing ≡ Answer j = h in cc)
of_answer as' (i ∷ []) j h =
    let z = of_first_answer (arm_decides (arm_of as' i)) i j h in
    (ap (λ n. n ∷ []) z.1, ap (λ n. arm_decides (arm_of as' n)) (sym z.1) ∙ z.0)
of_answer as' (i ∷ k ∷ l) j h = absurd (let z : Several ≡ Answer j = h in cc)

of_only : (as' : Arms) (l : List ℕ) (j : ℕ) → choice_of as' l ≡ Only j → l ≡ j ∷ []
of_only as' [] j h = absurd (let z : Nothing ≡ Only j = h in cc)
of_only as' (i ∷ []) j h = ap (λ n. n ∷ []) (of_first_only (arm_decides (arm_of as' i)) i j h)
of_only as' (i ∷ k ∷ l) j h = absurd (let z : Several ≡ Only j = h in cc)

of_nothing : (as' : Arms) (is l : List ℕ) → left_arms as' is ≡ l → choice_of as' l ≡ Nothing → l ≡ []
of_nothing as' is [] e h = refl
of_nothing as' is (i ∷ []) e h = absurd (head_open as' is i [] e (of_first_nothing (arm_decides (arm_of as' i)) i h))
of_nothing as' is (i ∷ k ∷ l) e h = absurd (let z : Several ≡ Nothing = h in cc)

-- ---- the rules

pub as_made : (o p : Option Stmt) (x x' : Stmt) → o ≡ p → Becomes p x x' → Becomes o x x'
as_made o p x x' e h = subst (λ y. Becomes y x x') (sym e) h

pub answers : (e : Expr) (as' : Arms) (t : SwitchTable) (j : ℕ) (x' : Stmt) → choice_at (Switch e as' t) ≡ Answer j → Becomes (option_map ExprStmt (answer_of_arm (arm_of as' j))) (Switch e as' t) x'
answers e as' t j x' h = by (arm_of as' j) refl where
  by : (o : Option (Expr × Expr)) → arm_of as' j ≡ o → Becomes (option_map ExprStmt (answer_of_arm o)) (Switch e as' t) x'
  by None q = absurd (over_constant (constant_value e) as' t (Answer j) (λ z. cc) h (λ v c i b. let z : Some false ≡ Some true = sym (ap arm_decides q) ∙ (of_answer as' _ j (answer_left t.default _ j b)).1 in cc))
  by (Some p) q =
      λ k w. over_constant (constant_value e) as' t (Answer j) (λ z. cc) h (λ v c i b.
      let l = of_answer as' _ j (answer_left t.default _ j b) in
      switch_answers v j [] c i l.0 q (sym (ap arm_decides q) ∙ l.1))

-- an `if` with the default as its branch
branch_is : (o : Option Expr) → answered o ≡ default_branch o
branch_is None = refl
branch_is (Some e) = refl

pub is_if : (e : Expr) (as' : Arms) (t : SwitchTable) (j : ℕ) (x' : Stmt) → choice_at (Switch e as' t) ≡ Only j → Becomes (option_map (if_of (default_answer as' t.default)) (arm_of as' j)) (Switch e as' t) x'
is_if e as' t j x' h = by (arm_of as' j) refl where
  by : (o : Option (Expr × Expr)) → arm_of as' j ≡ o → Becomes (option_map (if_of (default_answer as' t.default)) o) (Switch e as' t) x'
  by None q = absurd (over_constant (constant_value e) as' t (Only j) (λ z. cc) h (λ v d i b. head_open as' (chosen t v) j [] (of_only as' _ j (only_left t.default _ j b).0) (ap arm_decides q)))
  by (Some p) q =
      λ k w. over_constant (constant_value e) as' t (Only j) (λ z. cc) h (λ v d i b.
      let l = only_left t.default _ j b in
      subst (λ ss. StmtRule k w (Switch e as' t) (If p.0 (stmt (ExprStmt p.1) no_stmts) ss)) (sym (branch_is (default_answer as' t.default)))
      (switch_is_if v j d i (of_only as' _ j l.0) q l.1))

pub defaults : (e : Expr) (as' : Arms) (t : SwitchTable) → choice_at (Switch e as' t) ≡ Nothing → (k : Context) (w : Bool) → StmtRule k w (Switch e as' t) (default_stmt (default_answer as' t.default))
defaults e as' t h k w = over_constant (constant_value e) as' t Nothing (λ z. cc) h (λ v d i b. switch_defaults v d i (of_nothing as' (chosen t v) _ refl (nothing_left t.default _ b)))

-- an open arm that is left alone is not the default too
pub not_default_too : (e : Expr) (as' : Arms) (t : SwitchTable) (j : ℕ) → choice_at (Switch e as' t) ≡ Only j → t.default ≡ Some j → ⊥
not_default_too e as' t j h q = over_constant (constant_value e) as' t (Only j) (λ z. cc) h (λ v c i b. (only_left t.default _ j b).1 q)
