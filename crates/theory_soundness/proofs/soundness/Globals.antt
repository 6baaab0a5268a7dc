-- What is known of the constants of the script's own list is what it declares.
use Rattle.std.proofs.Common.{◌≡◌, Bool, true, false, not, cond, ◌&&◌, ◌||◌, List, [], ◌∷◌, ◌++◌, Option, Some, None, refl, sym, ap, ◌∙◌, subst, append_assoc, append-nil}
use Rattle.std.proofs.lemmas.Slice.Eq.{bytes_eq-Decides}
use Rattle.rhai_base.specs.Value.{Text, Value, UnitV, BoolV, IntV, FloatV, CharV, TextV, same_text}
use Rattle.theory_meaning.specs.Act.{EntryKind, IsVariable, IsConstant, IsAlias, IsExport, is_published, ScopeEntry, Root, OfName, OfGlobal, OfThis, World, Ending, Gives, Leaves, Act, Stop, Acts, Only, Do, Named}
use Rattle.theory_meaning.specs.ActForms.{each_value, then_line}
use Rattle.theory_meaning.specs.Core as core
use Rattle.theory_meaning.specs.Core.{Constant, Ill}
use Rattle.theory_meaning.specs.Desugar.{core_expr, core_stmt, core_stmts}
use Rattle.theory_meaning.specs.Engine.{Engine, Binding}
use Rattle.theory_meaning.specs.Meaning.{exporting, act, acts}
use Rattle.theory_meaning.specs.Shape.{is_unit}
use Rattle.theory_meaning.specs.Tree.{Expr, DynamicConstant, BoolConstant, IntegerConstant, FloatConstant, CharConstant, StringConstant, UnitConstant, Stmt, Var, Import, Export, Stmts, no_stmts, stmt}
use Rattle.theory_rewriting.specs.Known.{Known, is_of_name, look, look_global}
use Rattle.theory_rewriting.specs.Scripts.{fixed_value, known_in, known_of, known_at_top, known_in_bodies, literal_value, declares_constant, known_globals}
use Rattle.theory_rewriting.proofs.rules.Equality.{text_is}
use Rattle.theory_soundness.proofs.simulation.Agreement.{KnowsNoGlobal}
use Rattle.theory_soundness.proofs.simulation.Declaring.{Fair, only, does, given, names}

-- ---- statements that declare what is known

abbrev pub Promises : List Known → core.Stmts → Type 0
Promises ks core.no_stmts = Unit {0}
Promises ks (core.stmt (core.Var b o x e) ss) = ((w : Value) → is_published b ≡ true → look_global ks x ≡ Some w → e ≡ Constant w) × Promises ks ss
Promises ks (core.stmt (core.Does d) ss) = Promises ks ss

none_is_some : {A : Type 0} {v : Value} {o : Option Value} → o ≡ None → o ≡ Some v → A
none_is_some {v = v} h q = absurd (let z : None ≡ Some v = sym h ∙ q in cc)

some_is : (v w : Value) → Some v ≡ Some w → v ≡ w
some_is v w h = let z : Some v ≡ Some w = h in cc

false_is_true : {A : Type 0} {b : Bool} → b ≡ false → b ≡ true → A
false_is_true h q = absurd (let z : false ≡ true = sym h ∙ q in cc)

fair_each : {ks : List Known} (f : Value → Acts) → ((v : Value) → Fair ks (f v)) → (e : Ending) → Fair ks (each_value f e)
fair_each f h (Gives v) = h v
fair_each f h (Leaves x) = only _

fair_export : {ks : List Known} (o : Bool) (x : Text) (v : Value) {p : Acts} → Fair ks p → Fair ks (exporting o x v p)
fair_export true x v h = names x IsExport v _ (λ w q. false_is_true refl q) h
fair_export false x v h = h

-- a declaration, and what comes after it
module _ (w : World) (ks : List Known) (k : EntryKind) (o : Bool) (x : Text) (p : Acts) (h : Fair ks p) where
  abbrev after : Value → Acts
  after u = Named x k u (exporting o x u p)

  fair_by : (e : core.Expr) (c : Bool) (q : Option Value) → is_published k ≡ c → look_global ks x ≡ q → ((u : Value) → c ≡ true → q ≡ Some u → e ≡ Constant u) → Fair ks (then_line (act w e) after)
  fair_by e false q i j f = does _ _ (fair_each after (λ u. names x k u _ (λ z a b. false_is_true i a) (fair_export o x u h)))
  fair_by e true None i j f = does _ _ (fair_each after (λ u. names x k u _ (λ z a b. none_is_some j b) (fair_export o x u h)))
  fair_by e true (Some u) i j f = subst (λ d. Fair ks (then_line (act w d) after)) (sym (f u refl refl))
      (given u (each_value after) (names x k u _ (λ z a b. some_is u z (sym j ∙ b)) (fair_export o x u h)))

pub fair_acts : (w : World) (ks : List Known) (b : Bool) (ss : core.Stmts) (v : Value) → Promises ks ss → Fair ks (acts w b ss v)
fair_acts w ks b core.no_stmts v p = only _
fair_acts w ks b (core.stmt (core.Does d) ss) v p = does _ _ (fair_each (λ u. acts w b ss u) (λ u. fair_acts w ks b ss u p))
fair_acts w ks b (core.stmt (core.Var k o x e) ss) v p =
    fair_by w ks k o x (acts w b ss UnitV) (fair_acts w ks b ss UnitV p.1) e (is_published k) (look_global ks x) refl refl (λ u i q. p.0 u i q)

-- where as much is known
pub promises_as : (ks ls : List Known) → ((x : Text) → look_global ks x ≡ look_global ls x) → (ss : core.Stmts) → Promises ls ss → Promises ks ss
promises_as ks ls h core.no_stmts p = tt
promises_as ks ls h (core.stmt (core.Var b o x e) ss) p = (λ w i q. p.0 w i (sym (h x) ∙ q), promises_as ks ls h ss p.1)
promises_as ks ls h (core.stmt (core.Does d) ss) p = promises_as ks ls h ss p

pub promises_nothing : (ks : List Known) → KnowsNoGlobal ks → (ss : core.Stmts) → Promises ks ss
promises_nothing ks n core.no_stmts = tt
promises_nothing ks n (core.stmt (core.Var b o x e) ss) = (λ w i q. none_is_some (n x) q, promises_nothing ks n ss)
promises_nothing ks n (core.stmt (core.Does d) ss) = promises_nothing ks n ss

-- ---- what a list declares

literal_constant : (loop : Bool) (e : Expr) (v : Value) → literal_value e ≡ Some v → core_expr loop e ≡ Constant v
literal_constant loop (DynamicConstant u) v h = by (is_unit u) h where
  by : (b : Bool) → cond b None (Some u) ≡ Some v → cond b Ill (Constant u) ≡ Constant v
  by true q = none_is_some refl q
  by false q = ap Constant (some_is u v q)
literal_constant loop (BoolConstant b) v h = ap Constant (some_is (BoolV b) v h)
literal_constant loop (IntegerConstant n) v h = ap Constant (some_is (IntV n) v h)
literal_constant loop (FloatConstant x) v h = ap Constant (some_is (FloatV x) v h)
literal_constant loop (CharConstant c) v h = ap Constant (some_is (CharV c) v h)
literal_constant loop (StringConstant t) v h = ap Constant (some_is (TextV t) v h)
literal_constant loop UnitConstant v h = ap Constant (some_is UnitV v h)
literal_constant loop _ v h = none_is_some refl h

same_self : (x : Text) → same_text x x ≡ true
same_self x = (bytes_eq-Decides x x).1 refl

-- what is known of the constants of a list is known by the list alone
abbrev Covers : List Known → Stmts → Type 0
Covers ks ss = (x : Text) (w : Value) → declares_constant x ss ≡ true → look_global ks x ≡ Some w → look_global (known_globals ss) x ≡ Some w

module _ (ks : List Known) (o : Bool) (y : Text) (e : Expr) (ss : Stmts) (c : Covers ks (stmt (Var true o y e) ss)) where
  abbrev held : Option Value
  held = cond (declares_constant y ss) None (literal_value e)

  -- it is declared once, by a literal
  declared_so : (w : Value) → look_global ks y ≡ Some w → literal_value e ≡ Some w
  declared_so w q = by (declares_constant y ss) (ap (λ b. cond b held (look_global (known_globals ss) y)) (sym (same_self y)) ∙ c y w (ap (λ b. b || declares_constant y ss) (same_self y)) q) where
    by : (b : Bool) → cond b None (literal_value e) ≡ Some w → literal_value e ≡ Some w
    by true h = none_is_some refl h
    by false h = h

  covers_rest : Covers ks ss
  covers_rest x w d q = by (same_text y x) refl (c x w (by_any (same_text y x) d) q) where
    by_any : (b : Bool) → declares_constant x ss ≡ true → b || declares_constant x ss ≡ true
    by_any true h = refl
    by_any false h = h

    by : (b : Bool) → same_text y x ≡ b → cond (same_text y x) held (look_global (known_globals ss) x) ≡ Some w → look_global (known_globals ss) x ≡ Some w
    by true i h = none_is_some (ap (λ b. cond b held (look_global (known_globals ss) x)) i ∙ ap (λ z. cond (declares_constant z ss) None (literal_value e)) (text_is y x i) ∙ ap (λ b. cond b None (literal_value e)) d) h
    by false i h = ap (λ b. cond b held (look_global (known_globals ss) x)) (sym i) ∙ h

promised_from : (loop : Bool) (ks : List Known) (ss : Stmts) → Covers ks ss → Promises ks (core_stmts loop ss)
promised_from loop ks no_stmts c = tt
promised_from loop ks (stmt (Var true o y e) ss) c = (λ w i q. literal_constant loop e w (declared_so ks o y e ss c w q), promised_from loop ks ss (covers_rest ks o y e ss c))
promised_from loop ks (stmt (Var false o y e) ss) c = (λ w i q. false_is_true refl i, promised_from loop ks ss c)
promised_from loop ks (stmt (Import e []) ss) c = promised_from loop ks ss c
promised_from loop ks (stmt (Import e (x ∷ xs)) ss) c = (λ w i q. false_is_true refl i, promised_from loop ks ss c)
promised_from loop ks (stmt (Export x y) ss) c = (λ w i q. false_is_true refl i, promised_from loop ks ss c)
promised_from loop ks (stmt s ss) c = promised_from loop ks ss c

pub promised : (loop : Bool) (ss : Stmts) → Promises (known_globals ss) (core_stmts loop ss)
promised loop ss = promised_from loop (known_globals ss) ss (λ x w d q. q)

-- ---- beside the names

look_after : (ks gs : List Known) (x : Text) → ((y : Text) → look gs y ≡ None) → look (ks ++ gs) x ≡ look ks x
look_after [] gs x n = n x
look_after (k ∷ ks) gs x n = ap (cond (is_of_name k.root x) k.value) (look_after ks gs x n)

pub globals_unnamed : (ss : Stmts) (x : Text) → look (known_globals ss) x ≡ None
globals_unnamed no_stmts x = refl
globals_unnamed (stmt (Var true o y e) ss) x = globals_unnamed ss x
globals_unnamed (stmt s ss) x = globals_unnamed ss x

pub look_with_globals : (ks : List Known) (ss : Stmts) (x : Text) → look (ks ++ known_globals ss) x ≡ look ks x
look_with_globals ks ss x = look_after ks (known_globals ss) x (globals_unnamed ss)

-- those of a record and of a scope are names alone
of_record : (bs : List Binding) (gs : List Known) (x : Text) → look_global (known_of bs ++ gs) x ≡ look_global gs x
of_record [] gs x = refl
of_record (b ∷ bs) gs x =
    let k : Known = record { root = OfName b.name; value = Some b.value } in
    ap (λ ls. look_global ls x) (append_assoc (known_of bs) (k ∷ []) gs) ∙ of_record bs (k ∷ gs) x

of_scope : (es : List ScopeEntry) (gs : List Known) (x : Text) → look_global (known_in es ++ gs) x ≡ look_global gs x
of_scope [] gs x = refl
of_scope (e ∷ es) gs x = of_scope es gs x

pub none_at_top : (engine : Engine) (scope : List ScopeEntry) → KnowsNoGlobal (known_at_top engine scope)
none_at_top engine scope x = of_scope scope (known_of engine.constants) x ∙ ap (λ ls. look_global ls x) (sym (append-nil (known_of engine.constants))) ∙ of_record engine.constants [] x

pub globals_in_bodies : (engine : Engine) (scope : List ScopeEntry) (gs : List Known) (x : Text) → look_global (known_in_bodies engine scope ++ gs) x ≡ look_global gs x
globals_in_bodies engine scope gs x = ap (λ ls. look_global ls x) (append_assoc (known_of engine.constants) (known_in scope) gs) ∙ of_record engine.constants (known_in scope ++ gs) x ∙ of_scope scope gs x
