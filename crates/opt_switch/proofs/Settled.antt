-- At a `switch` that is not decided and whose table stays no rule applies.
use Rattle.std.proofs.Common.{◌≡◌, ℕ, zero, suc, Bool, true, false, cond, not, List, [], ◌∷◌, Option, Some, None, set, replicate, refl, sym, ap, ◌∙◌, subst}
use Rattle.std.specs.Prelude.{◌||◌, ◌==◌, slice_get}
use Rattle.std.proofs.lemmas.Bool.{or_parts}
use Rattle.std.proofs.lemmas.Bool.Decides.{Decides-eqb}
use Rattle.rhai_base.specs.Value.{Value, is_hashable}
use Rattle.theory_meaning.specs.Constants.{constant_value, is_literal_unit}
use Rattle.theory_meaning.specs.Control.{chosen}
use Rattle.theory_meaning.specs.Queries.{is_unit}
use Rattle.theory_meaning.specs.Shape.{names_arm}
use Rattle.theory_meaning.specs.Tree.{SwitchTable, Expr, UnitConstant, Arms, no_arms, arm, count_arms, Stmt, Switch}
use Rattle.theory_meaning.specs.Walk.{listed}
use Rattle.ast_types.specs.declared.stmt.Stmt as declared_stmt
use Rattle.ast_types.proofs.Cases.{StmtCase, switch_case}
use Rattle.ast_types.proofs.OtherKinds.{NoSwitch}
use Rattle.theory_rewriting.specs.Context.{Context}
use Rattle.theory_rewriting.specs.Rules as rule
use Rattle.theory_rewriting.specs.Steps.{NoStmtRule}
use Rattle.theory_rewriting.specs.Tables.{arm_of, arm_decides, left_with, left_arms}
use Rattle.opt_switch.specs.declared.choice.Choice.TheVariants.{Nothing, Answer, Only, Several}
use Rattle.opt_switch.specs.Choices.{first_of, choice_of}
use Rattle.opt_switch.specs.Deciding.{hashable, is_default, but_default, choice_over, choice_at}
use Rattle.opt_switch.specs.Forgetting.{marked, loses_answer, loses_answers}
use Rattle.opt_switch.specs.Steps.{is_switch, marks_of, IsNarrowOver, IsSmall}
use Rattle.opt_switch.proofs.Forgotten.{unequal}

-- ---- the rules by which its subject decides it

-- what is left decides
decided_by : (e : Expr) (as' : Arms) (t : SwitchTable) (v : Value) (l : List ℕ) → constant_value e ≡ Some v → is_hashable v ≡ true → left_arms as' (chosen t v) ≡ l → choice_over as' t (hashable (constant_value e)) ≡ but_default t.default (choice_of as' l)
decided_by e as' t v l q b h =
    ap (λ o. choice_over as' t (hashable o)) q
    ∙ ap (λ x. choice_over as' t (cond x (Some v) None)) b
    ∙ ap (λ is. but_default t.default (choice_of as' is)) h

abbrev first_or : ℕ → List ℕ → ℕ
first_or n [] = n
first_or n (k ∷ ks) = k

abbrev rest_of : List ℕ → List ℕ
rest_of [] = []
rest_of (k ∷ ks) = ks

-- behind a true arm none is left
none_behind : (as' : Arms) (is : List ℕ) (j : ℕ) (js : List ℕ) → left_arms as' is ≡ j ∷ js → arm_decides (arm_of as' j) ≡ Some true → js ≡ []
none_behind as' [] j js h d = absurd (let z : [] ≡ j ∷ js = h in cc)
none_behind as' (i ∷ is) j js h d = by (arm_decides (arm_of as' i)) refl h (λ r. none_behind as' is j js r d) where
  by : (o : Option Bool) → arm_decides (arm_of as' i) ≡ o → left_with o i (left_arms as' is) ≡ j ∷ js → (left_arms as' is ≡ j ∷ js → js ≡ []) → js ≡ []
  by (Some false) e r k = k r
  by (Some true) e r k = sym (ap rest_of r)
  by None e r k = absurd (let z : None ≡ Some true = sym e ∙ ap (λ n. arm_decides (arm_of as' n)) (ap (first_or j) r) ∙ d in cc)

answered : (as' : Arms) (d : Option ℕ) (j : ℕ) (js : List ℕ) → js ≡ [] → arm_decides (arm_of as' j) ≡ Some true → but_default d (choice_of as' (j ∷ js)) ≡ Answer j
answered as' d j js h q = ap (λ l. but_default d (choice_of as' (j ∷ l))) h ∙ ap (λ o. but_default d (first_of o j)) q

no_default : (d : Option ℕ) (j : ℕ) → (d ≡ Some j → ⊥) → is_default d j ≡ false
no_default None j h = refl
no_default (Some i) j h = unequal i j (λ e. h (ap Some e))

-- one arm alone that is no default decides
one_decides : (as' : Arms) (d : Option ℕ) (j : ℕ) → (d ≡ Some j → ⊥) → but_default d (choice_of as' (j ∷ [])) ≡ Several → ⊥
one_decides as' d j n h = by (arm_decides (arm_of as' j)) h where
  by : (o : Option Bool) → but_default d (first_of o j) ≡ Several → ⊥
  by (Some false) q = let z : Nothing ≡ Several = q in cc
  by (Some true) q = let z : Answer j ≡ Several = q in cc
  by None q = let z : Only j ≡ Several = sym (ap (λ b. cond b Several (Only j)) (no_default d j n)) ∙ q in cc

-- ---- the rule by which an arm forgets its answer

other_set : (ms : List Bool) (j i : ℕ) → (i ≡ j → ⊥) → slice_get ms i ≡ Some false → slice_get (set ms j true) i ≡ Some false
other_set [] zero i n h = h
other_set [] (suc j) i n h = h
other_set (m ∷ ms) zero zero n h = absurd (n refl)
other_set (m ∷ ms) zero (suc i) n h = h
other_set (m ∷ ms) (suc j) zero n h = h
other_set (m ∷ ms) (suc j) (suc i) n h = other_set ms j i (λ e. n (ap suc e)) h

-- what is not named is not marked
unmarked : (ms : List Bool) (is : List ℕ) (i : ℕ) → slice_get ms i ≡ Some false → names_arm i is ≡ false → slice_get (marked ms is) i ≡ Some false
unmarked ms [] i h n = h
unmarked ms (j ∷ is) i h n =
    let z = or_parts (i == j) (names_arm i is) n in
    unmarked (set ms j true) is i (other_set ms j i (λ e. let y : true ≡ false = sym ((Decides-eqb i j).1 e) ∙ z.0 in cc) h) z.1

-- at first none is
no_mark_there : (as' : Arms) (i : ℕ) (p : Expr × Expr) → arm_of as' i ≡ Some p → slice_get (replicate (count_arms as') false) i ≡ Some false
no_mark_there no_arms i p h = absurd (let z : None ≡ Some p = h in cc)
no_mark_there (arm c a as') zero p h = refl
no_mark_there (arm c a as') (suc i) p h = no_mark_there as' i p h

abbrev answer_in : Expr → Option (Expr × Expr) → Expr
answer_in a None = a
answer_in a (Some p) = p.1

abbrev mark_or : Bool → Option Bool → Bool
mark_or m None = m
mark_or m (Some b) = b

either_true : (a b : Bool) → b ≡ true → a || b ≡ true
either_true true b h = refl
either_true false b h = h

loses_one : (ms : List Bool) (as' : Arms) (i : ℕ) (c a : Expr) → arm_of as' i ≡ Some (c, a) → slice_get ms i ≡ Some false → is_unit a ≡ false → loses_answers ms as' ≡ true
loses_one ms no_arms i c a h m u = absurd (let z : None ≡ Some (c, a) = h in cc)
loses_one [] (arm d b as') zero c a h m u = absurd (let z : None ≡ Some false = m in cc)
loses_one [] (arm d b as') (suc i) c a h m u = absurd (let z : None ≡ Some false = m in cc)
loses_one (k ∷ ms) (arm d b as') zero c a h m u =
    ap (λ x. loses_answer x b || loses_answers ms as') (ap (mark_or k) m)
    ∙ ap (λ x. not x || loses_answers ms as') (ap is_unit (ap (answer_in b) h) ∙ u)
loses_one (k ∷ ms) (arm d b as') (suc i) c a h m u = either_true (loses_answer k b) (loses_answers ms as') (loses_one ms as' i c a h m u)

no_unit : (a : Expr) → is_literal_unit a ≡ false → is_unit a ≡ false
no_unit UnitConstant h = absurd (let z : true ≡ false = h in cc)
no_unit _ h = refl

-- ---- the node

no_rule_at : (k : Context) (e : Expr) (as' : Arms) (t : SwitchTable) → choice_over as' t (hashable (constant_value e)) ≡ Several → IsSmall (Switch e as' t) → NoStmtRule k (Switch e as' t)
no_rule_at k e as' t c h w x' (rule.switch_answers v j js q b l a d) =
    let y : arm_decides (arm_of as' j) ≡ Some true = ap arm_decides a ∙ d in
    let z : Several ≡ Answer j = sym c ∙ decided_by e as' t v (j ∷ js) q b l ∙ answered as' t.default j js (none_behind as' (chosen t v) j js l y) y in
    cc
no_rule_at k e as' t c h w x' (rule.switch_is_if v j q b l a d) = one_decides as' t.default j d (sym (decided_by e as' t v (j ∷ []) q b l) ∙ c)
no_rule_at k e as' t c h w x' (rule.switch_defaults v q b l) = let z : Several ≡ Nothing = sym c ∙ decided_by e as' t v [] q b l in cc
no_rule_at k e as' t c h w x' (rule.switch_narrows v q b n) = let z : true ≡ false = sym n ∙ subst (IsNarrowOver as' t) q h.0.0 b in cc
no_rule_at k e as' t c h w x' (rule.switch_shrinks d n) = let z : true ≡ false = sym n ∙ h.0.1 in cc
no_rule_at k e as' t c h w x' (rule.switch_forgets {c = d} {a = a} j q u n) =
    let m = unmarked (replicate (count_arms as') false) (listed t) j (no_mark_there as' j (d, a) q) n in
    let z : true ≡ false = sym (loses_one (marks_of as' t) as' j d a q m (no_unit a u)) ∙ h.1 in
    cc

pub no_rule : (k : Context) (x : Stmt) → is_switch x ≡ true → choice_at x ≡ Several → IsSmall x → NoStmtRule k x
no_rule k (Switch e as' t) i c h = no_rule_at k e as' t c h
no_rule k _ i c h = absurd (let z : false ≡ true = i in cc)

-- ---- statements that are no `switch`

pub small_there : {x : declared_stmt.Stmt} {s : Stmt} → StmtCase x s → NoSwitch x → IsSmall s
small_there (switch_case b p) h = absurd (h b p refl)
small_there _ h = ((tt, tt), tt)
