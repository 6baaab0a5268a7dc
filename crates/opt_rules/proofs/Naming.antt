-- A name that is known as a constant.
use Rattle.std.proofs.Common.{◌≡◌, Bool, true, false, cond, List, [], ◌∷◌, Option, Some, None, refl, sym, ap, ◌∙◌, subst}
use Rattle.std.specs.Prelude.{if◌then◌else◌}
use Rattle.rhai_base.specs.Value.{Text, Value, UnitV, BoolV, IntV, FloatV, CharV, TextV, PointerV, no_values, is_unit}
use Rattle.base_tokens.specs.Names.{is_valid_name}
use Rattle.theory_meaning.specs.Act.{OfName, OfGlobal}
use Rattle.theory_meaning.specs.Constants.{constant_for, literal_value, pointer_call}
use Rattle.theory_meaning.specs.Desugar.{is_global, name_root, root_of}
use Rattle.theory_meaning.specs.Engine.{Engine}
use Rattle.theory_meaning.specs.Queries.{is_unit as is_unit_expr}
use Rattle.theory_meaning.specs.Tree.{Expr, Variable}
use Rattle.theory_rewriting.specs.Context.{Context}
use Rattle.theory_rewriting.specs.Known.{Known, look_global, known_at}
use Rattle.theory_rewriting.specs.Parts.{constant_of}
use Rattle.theory_rewriting.specs.Rules as rule
use Rattle.theory_rewriting.specs.Rules.{ExprRule}
use Rattle.theory_rewriting.specs.Steps.{Progress, here, Place, Anywhere, AsBase, AsGuard, MayBecome}
use Rattle.theory_rewriting.proofs.Keeping.{keeps_constant}
use Rattle.theory_rewriting.proofs.Reducing.{root_of_value, unit_of_value, unit_for_value}
use Rattle.opt_base.specs.NodeSteps.{Puts, ExprStep}
use Rattle.opt_base.proofs.Stepping.{expr_stays}
use Rattle.opt_rules.specs.Settled.{is_variable, unless_unit, known_there, known_value}

valid_of : (b : Bool) (f : Text) → (if b then Some (PointerV f no_values) else None) ≡ Some (PointerV f no_values) → b ≡ true
valid_of true f h = refl
valid_of false f h = absurd cc

known_folds : {k : Context} {ns : List Text} {x : Text} (v : Value) → known_at k.known ns x ≡ Some v → literal_value (constant_for v) ≡ Some v → ExprRule k (Variable ns x) (constant_for v)
known_folds UnitV h l = rule.known_name UnitV h
known_folds (BoolV b) h l = rule.known_name (BoolV b) h
known_folds (IntV n) h l = rule.known_name (IntV n) h
known_folds (FloatV x) h l = rule.known_name (FloatV x) h
known_folds (CharV c) h l = rule.known_name (CharV c) h
known_folds (TextV t) h l = rule.known_name (TextV t) h
known_folds (PointerV f no_values) h l = rule.known_pointer f h (valid_of (is_valid_name f) f l)
known_folds v h l = rule.known_name v h

unless_unit_some : (o : Option Value) (v : Value) → Some v ≡ unless_unit o → (o ≡ Some v) × (is_unit v ≡ false)
unless_unit_some None v h = absurd cc
unless_unit_some (Some u) v h = by (is_unit u) refl where
  by : (b : Bool) → is_unit u ≡ b → (Some u ≡ Some v) × (is_unit v ≡ false)
  by true q = absurd (let z : Some v ≡ None = h ∙ ap (λ b. if b then None else Some u) q in cc)
  by false q = let z : Some v ≡ Some u = h ∙ ap (λ b. if b then None else Some u) q in let y : v ≡ u = cc in (sym z, ap is_unit y ∙ q)

-- it may become this value where it stands
known_fits : (p : Place) (ks : List Known) (ns : List Text) (x : Text) (v : Value) → Some v ≡ known_there p ks (Variable ns x) → (known_value ks (Variable ns x) ≡ Some v) × MayBecome p (Variable ns x) (constant_for v)
known_fits Anywhere ks ns x v h = (sym h, tt)
known_fits AsBase ks ns x v h = absurd cc
known_fits AsGuard ks ns x v h = let z = unless_unit_some (known_value ks (Variable ns x)) v h in (z.0, unit_for_value v ∙ z.1)

known_rule : (k : Context) (ns : List Text) (x : Text) (v : Value) → known_value k.known (Variable ns x) ≡ Some v → literal_value (constant_for v) ≡ Some v → ExprRule k (Variable ns x) (constant_for v)
known_rule k ns x v h l = known_folds v h l

pub name_put : {p : Place} {s s' : Progress} {e' : Expr} {v : Value} (e : Expr) → is_variable e ≡ true → Some v ≡ known_there p s.known e → Puts s s' e' v → (r : Engine) → ExprStep true r p s s' e e'
name_put {p = p} {s = s} {s' = s'} {v = v} (Variable ns x) i h q r =
    let z = known_fits p s.known ns x v h in
    subst (λ a. ExprStep true r p s s' (Variable ns x) a) (sym q.constant)
    (record { rule = known_rule (here r s) ns x v z.0 (ap literal_value (sym q.constant) ∙ q.literal); stays = z.1; fired = q.fired; known = q.known }, keeps_constant (Variable ns x) v)
name_put _ i h q r = absurd cc

-- what a known name may become it does not stay
unless_unit_of : (o : Option Value) (v : Value) → o ≡ Some v → is_unit v ≡ false → unless_unit o ≡ Some v
unless_unit_of o v h u = ap unless_unit h ∙ ap (λ b. if b then None else Some v) u

-- what is known of has a value of its own
global_rooted : {A : Type 0} (ks : List Known) (m x : Text) (v : Value) (b : Bool) → cond b (look_global ks x) None ≡ Some v → cond b (Some (OfGlobal x)) None ≡ None → A
global_rooted ks m x v true h r = absurd (let z : Some (OfGlobal x) ≡ None = r in cc)
global_rooted ks m x v false h r = absurd (let z : None ≡ Some v = h in cc)

known_rooted : {A : Type 0} (ks : List Known) (ns : List Text) (x : Text) (v : Value) → known_at ks ns x ≡ Some v → name_root ns x ≡ None → A
known_rooted ks [] x v h r = absurd (let z : Some (OfName x) ≡ None = r in cc)
known_rooted ks (m ∷ []) x v h r = global_rooted ks m x v (is_global m) h r
known_rooted ks (m ∷ n ∷ ns) x v h r = absurd (let z : None ≡ Some v = h in cc)

known_becomes : (p : Place) (ks : List Known) (ns : List Text) (x : Text) (v : Value) (e' : Expr) → known_at ks ns x ≡ Some v → root_of e' ≡ None → is_unit_expr e' ≡ is_unit v → MayBecome p (Variable ns x) e' → known_there p ks (Variable ns x) ≡ Some v
known_becomes Anywhere ks ns x v e' h r u m = h
known_becomes AsBase ks ns x v e' h r u m = known_rooted ks ns x v h (sym m ∙ r)
known_becomes AsGuard ks ns x v e' h r u m = unless_unit_of (known_at ks ns x) v h (sym u ∙ m)

abbrev Unknown : Place → List Known → Expr → Type 0
Unknown p ks (Variable ns x) = None ≡ known_there p ks (Variable ns x)
Unknown p ks _ = ⊥

name_rules : (p : Place) {k : Context} {e e' : Expr} → ExprRule k e e' → Unknown p k.known e → MayBecome p e e' → ⊥
name_rules p {k = k} (rule.known_name {ns = ns} {x = x} v i) h m =
    let z : None ≡ Some v = h ∙ known_becomes p k.known ns x v (constant_of v) i (root_of_value v) (unit_of_value v) m in cc
name_rules p {k = k} (rule.known_pointer {ns = ns} {x = x} f i q) h m =
    let z : None ≡ Some (PointerV f no_values) = h ∙ known_becomes p k.known ns x (PointerV f no_values) (pointer_call f) i refl refl m in cc
name_rules p _ h m = h

pub name_stays : {p : Place} {s : Progress} (e : Expr) → is_variable e ≡ true → None ≡ known_there p s.known e → (r : Engine) → ExprStep false r p s s e e
name_stays {p = p} {s = s} (Variable ns x) i h r = expr_stays tt refl (λ q. sym (h ∙ ap (λ y. known_there y s.known (Variable ns x)) q)) (λ n e' q m. name_rules p q h m)
name_stays _ i h r = absurd cc
