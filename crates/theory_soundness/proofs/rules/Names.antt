-- The rules of names that are known: a lemma each, of the rule's name.
use Rattle.std.proofs.Common.{◌≡◌, true, ℕ, Bool, false, cond, List, [], ◌∷◌, Option, Some, None, refl, sym, subst, ap}
use Rattle.std.specs.Prelude.{◌&&◌, codes}
use Rattle.rhai_base.specs.Value.{Text, Value, Fields, TextV, MapV, PointerV, values}
use Rattle.base_tokens.specs.Names.{is_valid_name}
use Rattle.theory_meaning.specs.Act.{ScopeEntry, Store, World, Unbound, Gives, Ended, At, Root, OfName, OfGlobal, Act, Read, found, read, read_global}
use Rattle.theory_meaning.specs.ActForms.{give, throw, choose, ◌>>=◌}
use Rattle.theory_meaning.specs.Chains.{OfProperty, OfIndex, applied}
use Rattle.theory_meaning.specs.Constants.{constant_value, pointer_call}
use Rattle.theory_meaning.specs.Core as core
use Rattle.theory_meaning.specs.Desugar.{based, core_expr, in_module, is_global, name_root, root_of, steps_of, variable}
use Rattle.theory_meaning.specs.Elements.{entry}
use Rattle.theory_meaning.specs.Engine.{constant_named}
use Rattle.theory_meaning.specs.Meaning.{act, access, steps}
use Rattle.theory_meaning.specs.Places.{Current, or_no_place, along, at_root, refreshed}
use Rattle.theory_meaning.specs.Relations.{here}
use Rattle.theory_meaning.specs.Shape.{is_unit, is_chain}
use Rattle.theory_meaning.specs.Tree.{ChainFlags, PropertyNames, Expr, Variable, Property, Dot, Index}
use Rattle.theory_rewriting.specs.Context.{Context}
use Rattle.theory_rewriting.specs.Known.{look_global, known_at, Fits, Suits}
use Rattle.theory_rewriting.specs.Parts.{constant_of}
use Rattle.theory_soundness.proofs.simulation.Setting.{Setting, world, run_from}
use Rattle.theory_soundness.proofs.simulation.Simulation.{OrStuck, equal, is_stuck, Simulates, simulates_trans, simulates_refl, simulates_equal, simulates_or_stuck}
use Rattle.theory_soundness.proofs.simulation.Forms.{simulates_bind}
use Rattle.theory_rewriting.proofs.rules.Steps.{index_last}
use Rattle.theory_soundness.proofs.rules.Steps.{not_unit, no_unit, to_constant}
use Rattle.theory_soundness.proofs.rules.Given.{constant_then, expr_meant}
use Rattle.theory_soundness.proofs.rules.Sound.{ExprSound}

-- a name that fits gives its value, or isn't found
read_fits : (v : Value) (o : Option ScopeEntry) (s : Store) (t : ℕ) → Fits v o → OrStuck (read o s t) (At (Ended (Gives v)) s t)
read_fits v None s t h = is_stuck Unbound t here
read_fits v (Some e) s t h = subst (λ u. OrStuck (At (Ended (Gives e.value)) s t) (At (Ended (Gives u)) s t)) h.1 equal

-- so does a constant of the script's own list
read_suits : (v : Value) (o : Option Value) (s : Store) (t : ℕ) → Suits v o → OrStuck (read_global o s t) (At (Ended (Gives v)) s t)
read_suits v None s t h = is_stuck Unbound t here
read_suits v (Some w) s t h = subst (λ u. OrStuck (At (Ended (Gives w)) s t) (At (Ended (Gives u)) s t)) h equal

no_value : {A : Type 0} {v : Value} → None ≡ Some v → A
no_value {v = v} h = absurd (let z : None ≡ Some v = h in cc)

-- a name that has a value of its own reads it
named_reads : (w : World) (ns : List Text) (x : Text) (r : Root) → name_root ns x ≡ Some r → act w (variable ns x) ≡ Read r
named_reads w [] x r h = ap Read (let z : Some (OfName x) ≡ Some r = h in cc)
named_reads w (m ∷ []) x r h = by (is_global m) h where
  by : (b : Bool) → cond b (Some (OfGlobal x)) None ≡ Some r → act w (in_module b m x) ≡ Read r
  by true q = ap Read (let z : Some (OfGlobal x) ≡ Some r = q in cc)
  by false q = absurd (let z : None ≡ Some r = q in cc)
named_reads w (m ∷ n ∷ ns) x r h = absurd (let z : None ≡ Some r = h in cc)

module _ {k : Context} (c : Setting k) where
  -- what is known of has a value of its own, and reads it
  record Reads (ns : List Text) (x : Text) (v : Value) : Type 0 where
    root : Root
    names : name_root ns x ≡ Some root
    gives : Simulates c (Read root) (give v)

  reads_global : (m x : Text) (v : Value) (b : Bool) → is_global m ≡ b → cond b (look_global k.known x) None ≡ Some v → Reads (m ∷ []) x v
  reads_global m x v true i h = record {
    root = OfGlobal x;
    names = ap (λ b. cond b (Some (OfGlobal x)) None) i;
    gives = simulates_or_stuck (λ s. read_suits v (constant_named s.store.globals x) s.store s.turns (s.agrees.1.is x v h));
  }
  reads_global m x v false i h = no_value h

  reads : (ns : List Text) (x : Text) (v : Value) → known_at k.known ns x ≡ Some v → Reads ns x v
  reads [] x v h = record {
    root = OfName x;
    names = refl;
    gives = simulates_or_stuck (λ m. read_fits v (found k.engine.constants m.store.scope x) m.store m.turns (m.agrees.0.is x v h));
  }
  reads (m ∷ []) x v h = reads_global m x v (is_global m) refl h
  reads (m ∷ n ∷ ns) x v h = no_value h

  value_reads : (ns : List Text) (x : Text) (v : Value) → known_at k.known ns x ≡ Some v → Simulates c (act (world c) (variable ns x)) (give v)
  value_reads ns x v h =
      let z = reads ns x v h in
      subst (λ a. Simulates c a (give v)) (sym (named_reads (world c) ns x z.root z.names)) z.gives

  -- what has this value
  module _ (r : Root) (v : Value) (gives : Simulates c (Read r) (give v)) where
    -- what comes after has its value
    read_then : (f : Value → Act) → Simulates c (Read r >>= f) (f v)
    read_then f = simulates_trans {b = give v >>= f} (simulates_bind gives (λ u. simulates_refl)) (simulates_equal (λ m. refl))

    -- where it stands it is read again
    again_then : (f : Current → Act) → Simulates c (refreshed (at_root v r) f) (f (at_root v r))
    again_then f =
        simulates_trans {b = give v >>= λ u. f (at_root u r)}
        (simulates_bind (read_then (λ u. or_no_place (along u []) give)) (λ u. simulates_refl)) (simulates_equal (λ m. refl))

  module _ (r : Root) (fs : Fields) (gives : Simulates c (Read r) (give (MapV fs))) where
    -- a step from a constant map
    map_step : (o : Bool) (y : Text) (p : core.Step) → Simulates c (access (world c) p (λ q. refreshed (at_root (MapV fs) r) (λ d. applied (world c) q d (λ z. give z.value)))) (give (entry fs y)) → Simulates c (act (world c) (core.Chain (core.OnPlace r) (core.last o p))) (give (entry fs y))
    map_step o y p j =
        simulates_trans (read_then r (MapV fs) gives (λ v. steps (world c) (core.last o p) (at_root v r)))
        (not_unit c (o && is_unit (MapV fs)) _ _ _ (no_unit c o false refl) j)

    property_step : (p : PropertyNames) → Simulates c (refreshed (at_root (MapV fs) r) (λ d. applied (world c) (OfProperty p) d (λ z. give z.value))) (give (entry fs p.name))
    property_step p = simulates_trans (again_then r (MapV fs) gives (λ d. applied (world c) (OfProperty p) d (λ z. give z.value))) simulates_refl

    entry_step : (i : Expr) (y : Text) → constant_value i ≡ Some (TextV y) → Simulates c (access (world c) (core.Index (core_expr c.in_loop i)) (λ q. refreshed (at_root (MapV fs) r) (λ d. applied (world c) q d (λ z. give z.value)))) (give (entry fs y))
    entry_step i y q =
        simulates_trans (constant_then c i (TextV y) (λ u. refreshed (at_root (MapV fs) r) (λ d. applied (world c) (OfIndex u) d (λ z. give z.value))) q)
        (simulates_trans (again_then r (MapV fs) gives (λ d. applied (world c) (OfIndex (TextV y)) d (λ z. give z.value))) simulates_refl)

pub known_name : {k : Context} {ns : List Text} {x : Text} (v : Value) → known_at k.known ns x ≡ Some v → ExprSound k (Variable ns x) (constant_of v)
known_name {ns = ns} {x = x} v h = record {
  sound = λ c. to_constant c (act (world c) (variable ns x)) v (value_reads c ns x v h);
}

pub known_pointer : {k : Context} {ns : List Text} {x : Text} (f : Text) → known_at k.known ns x ≡ Some (PointerV f (values [])) → is_valid_name f ≡ true → ExprSound k (Variable ns x) (pointer_call f)
known_pointer {ns = ns} {x = x} f h q = record {
  sound = λ c. simulates_trans (value_reads c ns x (PointerV f (values [])) h)
      (simulates_equal (λ m. ap (λ b. run_from c m (choose b (give (PointerV f (values []))) (throw (codes "function name")))) (sym q)));
}

-- the base of a chain that is known
based_on : (ns : List Text) (x : Text) (r : Root) → name_root ns x ≡ Some r → (e : core.Expr) → based (root_of (Variable ns x)) e ≡ core.OnPlace r
based_on ns x r h e = ap (λ o. based o e) h

pub known_property : {k : Context} {f : ChainFlags} {ns : List Text} {x : Text} {p : PropertyNames} (fs : Fields) → known_at k.known ns x ≡ Some (MapV fs) → ExprSound k (Dot f (Variable ns x) (Property p)) (constant_of (entry fs p.name))
known_property {f = f} {ns = ns} {x = x} {p = p} fs h = record {
  sound = λ c.
      let z = reads c ns x (MapV fs) h in
      let s = core.last f.negated (core.Property p) in
      let b = based_on ns x z.root z.names (core_expr c.in_loop (Variable ns x)) in
      to_constant c _ (entry fs p.name) (expr_meant (is_chain true f (Property p)) (core.Chain (based (root_of (Variable ns x)) (core_expr c.in_loop (Variable ns x))) s)
      (subst (λ d. Simulates c (act (world c) (core.Chain d s)) (give (entry fs p.name))) (sym b) (map_step c z.root fs z.gives f.negated p.name (core.Property p) (property_step c z.root fs z.gives p))));
}

pub known_entry : {k : Context} {f : ChainFlags} {ns : List Text} {x : Text} {i : Expr} (fs : Fields) (y : Text) → known_at k.known ns x ≡ Some (MapV fs) → constant_value i ≡ Some (TextV y) → ExprSound k (Index f (Variable ns x) i) (constant_of (entry fs y))
known_entry {f = f} {ns = ns} {x = x} {i = i} fs y h q = record {
  sound = λ c.
      let z = reads c ns x (MapV fs) h in
      let s = core.Index (core_expr c.in_loop i) in
      let b = based_on ns x z.root z.names (core_expr c.in_loop (Variable ns x)) in
      to_constant c _ (entry fs y) (expr_meant (is_chain false f i) (core.Chain (based (root_of (Variable ns x)) (core_expr c.in_loop (Variable ns x))) (steps_of c.in_loop false f s i))
      (subst (λ d. Simulates c (act (world c) (core.Chain d (steps_of c.in_loop false f s i))) (give (entry fs y))) (sym b)
      (subst (λ d. Simulates c (act (world c) (core.Chain (core.OnPlace z.root) d)) (give (entry fs y))) (sym (index_last c.in_loop f s i (TextV y) q))
      (map_step c z.root fs z.gives f.negated y s (entry_step c z.root fs z.gives i y q)))));
}
