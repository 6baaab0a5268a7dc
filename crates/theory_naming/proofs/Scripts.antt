-- Scripts that are the same but for names run alike but for names.
use Rattle.std.proofs.Common.{◌≡◌, ℕ, Bool, true, false, cond, ◌&&◌, ◌==◌, List, [], ◌∷◌, ◌++◌, length, map, Option, Some, None, ◌⊎◌, inl, inr, refl, sym, ap, ◌∙◌, subst}
use Rattle.std.specs.Prelude.{codes}
use Rattle.std.specs.Cmp.{unsigned_Decides}
use Rattle.std.proofs.lemmas.Slice.Eq.{bytes_eq-Decides}
use Rattle.rhai_base.specs.Value.{Text, PointerV, Values, same_text, shown, form, inner}
use Rattle.theory_meaning.specs.Act.{ScopeEntry, Host, Key}
use Rattle.theory_meaning.specs.Calls.{same_key, same_type, key}
use Rattle.theory_meaning.specs.Core as core
use Rattle.theory_meaning.specs.Desugar.{core_function, core_script, core_stmts}
use Rattle.theory_meaning.specs.Run.{EntryPoint, key_of, function_of, run_script}
use Rattle.theory_meaning.specs.Engine.{Engine}
use Rattle.theory_meaning.specs.Tree.{Function, Script}
use Rattle.theory_meaning.proofs.PureTrees.{split}
use Rattle.theory_naming.specs.Alike.{RunBut, AreApart, key_at, function_at, renamed_key, IsCovered, AreCovered, IsWanted, AreWanted, SameBut, SameByKey, AreThere, AreKeyed}
use Rattle.theory_naming.specs.Naming.{OptionOf, both_none, both_some, KeyLike, key_like, FunctionLike, ScriptLike, StmtsLike}
use Rattle.theory_naming.specs.Renaming.{Stands, renamed_function}
use Rattle.theory_naming.proofs.Itself.{tables_by_key}
use Rattle.theory_naming.proofs.Runs.{names_do_not_matter}
use Rattle.theory_naming.proofs.Operators.{computed_like}
use Rattle.theory_naming.proofs.Renamed.{stmts_renamed, function_renamed}
use Rattle.theory_naming.proofs.Shown.{text_kept}

-- ---- keys

type_exact : (t u : Option Text) → same_type t u ≡ true → t ≡ u
type_exact None None h = refl
type_exact (Some t) (Some u) h = ap Some ((bytes_eq-Decides t u).0 h)
type_exact None (Some u) h = absurd (cc)
type_exact (Some t) None h = absurd (cc)

pub key_exact : (k l : Key) → same_key k l ≡ true → k ≡ l
key_exact k l h =
    let z = split (same_text k.name l.name && k.arity == l.arity) (same_type k.this_type l.this_type) h in
    let y = split (same_text k.name l.name) (k.arity == l.arity) z.0 in
    λ i. record { name = (bytes_eq-Decides k.name l.name).0 y.0 i; arity = (unsigned_Decides k.arity l.arity).0 y.1 i; this_type = type_exact k.this_type l.this_type z.1 i }

-- ---- what is found in a table

abbrev map_core : Option Function → Option core.Function
map_core None = None
map_core (Some f) = Some (core_function f)

find_or : (b : Bool) (f : Function) (o : Option Function) (p : Option core.Function) → p ≡ map_core o → cond b (Some (core_function f)) p ≡ map_core (cond b (Some f) o)
find_or true f o p h = refl
find_or false f o p h = h

found_core : (fs : List Function) (k : Key) → function_of (map core_function fs) k ≡ map_core (function_at fs k)
found_core [] k = refl
found_core (f ∷ fs) k = find_or (same_key (key_at f) k) f (function_at fs k) _ (found_core fs k)

found_by : (b : Bool) (f g : Function) (fs : List Function) (k : Key) → same_key (key_at f) k ≡ b → cond b (Some f) (function_at fs k) ≡ Some g → (function_at fs k ≡ Some g → key_at g ≡ k) → key_at g ≡ k
found_by true f g fs k e h r = let q : f ≡ g = cc in subst (λ x. key_at x ≡ k) q (key_exact (key_at f) k e)
found_by false f g fs k e h r = r h

found_key : (fs : List Function) (k : Key) (g : Function) → function_at fs k ≡ Some g → key_at g ≡ k
found_key [] k g h = absurd (cc)
found_key (f ∷ fs) k g h = found_by (same_key (key_at f) k) f g fs k refl h (found_key fs k g)

module _ (named : Text → Text) where
  covered_by : (b : Bool) (fs gs : List Function) (g x : Function) (k : Key) → cond b (Some g) (function_at gs k) ≡ Some x → IsCovered named fs g → (function_at gs k ≡ Some x → IsCovered named fs x) → IsCovered named fs x
  covered_by true fs gs g x k h c r = let q : g ≡ x = cc in subst (λ y. IsCovered named fs y) q c
  covered_by false fs gs g x k h c r = r h

  covered_at : (fs gs : List Function) → AreCovered named fs gs → (k : Key) (x : Function) → function_at gs k ≡ Some x → IsCovered named fs x
  covered_at fs [] c k x h = absurd (cc)
  covered_at fs (g ∷ gs) c k x h = covered_by (same_key (key_at g) k) fs gs g x k h c.0 (covered_at fs gs c.1 k x)

  wanted_by : (b : Bool) (gs fs : List Function) (f x : Function) (k : Key) → cond b (Some f) (function_at fs k) ≡ Some x → IsWanted named gs f → (function_at fs k ≡ Some x → IsWanted named gs x) → IsWanted named gs x
  wanted_by true gs fs f x k h c r = let q : f ≡ x = cc in subst (λ y. IsWanted named gs y) q c
  wanted_by false gs fs f x k h c r = r h

  wanted_at : (gs fs : List Function) → AreWanted named gs fs → (k : Key) (x : Function) → function_at fs k ≡ Some x → IsWanted named gs x
  wanted_at gs [] c k x h = absurd (cc)
  wanted_at gs (f ∷ fs) c k x h = wanted_by (same_key (key_at f) k) gs fs f x k h c.0 (wanted_at gs fs c.1 k x)

module _ (named : Text → Text) (a : AreApart named) where
  functions_like : (fs gs : List Function) → AreCovered named fs gs → AreWanted named gs fs → (l : Key) → OptionOf (FunctionLike (Stands named)) (map_core (function_at fs (renamed_key named l))) (map_core (function_at gs l))
  functions_like fs gs c w l = both (function_at gs l) refl (function_at fs (renamed_key named l)) refl where
    both : (o : Option Function) → function_at gs l ≡ o → (p : Option Function) → function_at fs (renamed_key named l) ≡ p → OptionOf (FunctionLike (Stands named)) (map_core p) (map_core o)
    both None h None k = both_none
    both None h (Some f) k = let z = wanted_at named gs fs w _ f k l (found_key fs _ f k) in let y : None ≡ Some z.0 = sym h ∙ z.1 in absurd (cc)
    both (Some g) h p k =
        let z = covered_at named fs gs c l g h in
        let e : renamed_key named (key_at g) ≡ renamed_key named l = ap (renamed_key named) (found_key gs l g h) in
        let q : p ≡ Some (renamed_function named g) = sym k ∙ ap (function_at fs) (sym e) ∙ z.there in
        subst (λ o. OptionOf (FunctionLike (Stands named)) (map_core o) (Some (core_function g))) (sym q) (both_some (function_renamed named a.own g z.by_name))

  key_renamed : (k l : Key) → KeyLike (Stands named) k l → k ≡ renamed_key named l
  key_renamed _ _ (key_like {f = f} {g = g} n t e) = λ i. record { name = e i; arity = n; this_type = t }

  script_like : (p q : Script) → SameBut named p q → ScriptLike (Stands named) (core_script p) (core_script q)
  script_like p q s = record {
    statements = subst (λ ss. StmtsLike (Stands named) (core_stmts false ss) (core_stmts false q.statements)) (sym s.statements) (stmts_renamed named a.own false q.statements s.by_name);
    functions = λ k l j.
        subst (λ o. OptionOf (FunctionLike (Stands named)) o (function_of (map core_function q.functions) l)) (sym (ap (function_of (map core_function p.functions)) (key_renamed k l j) ∙ found_core p.functions (renamed_key named l)))
        (subst (λ o. OptionOf (FunctionLike (Stands named)) (map_core (function_at p.functions (renamed_key named l))) o) (sym (found_core q.functions l)) (functions_like p.functions q.functions s.covered s.wanted l));
  }

  one : (f f' g g' : Text) → Stands named f f' → Stands named g g' → same_text f g ≡ same_text f' g'
  one f f' g g' h k = (λ i. same_text (h i) (k i)) ∙ a.apart f' g'

  pointer_shown : (f g : Text) (vs ws : Values) → Stands named f g → inner (PointerV f vs) ≡ inner (PointerV g ws)
  unfolding form
  pointer_shown f g vs ws h = ap (λ t. codes "Fn(" ++ shown t ++ codes ")") h ∙ ap (λ t. codes "Fn(" ++ t ++ codes ")") (a.shown g)

  pub same_but_names : (p q : Script) → SameBut named p q → RunBut named p q
  same_but_names p q s = record {
    runs = λ engine known h h' hosts e e' entry es es' scope n.
        names_do_not_matter (Stands named) one (text_kept (Stands named) pointer_shown) (computed_like (Stands named)) engine known h h' hosts (core_script p) (core_script q) (script_like p q s) e e' entry es es' scope n;
  }

-- ---- the same names

some_by : (b : Bool) (f g x : Function) (o : Option Function) → cond b (Some f) o ≡ Some x → f ≡ x ⊎ (o ≡ Some x)
some_by true f g x o h = let z : f ≡ x = cc in inl z
some_by false f g x o h = inr h

there_at : (fs gs : List Function) → AreThere fs gs → (k : Key) (x : Function) → function_at gs k ≡ Some x → function_at fs (key_at x) ≡ Some x
there_at fs [] c k x h = absurd (cc)
there_at fs (g ∷ gs) c k x h = elim (some_by (same_key (key_at g) k) g g x (function_at gs k) h) [ inl e ↦ subst (λ y. function_at fs (key_at y) ≡ Some y) e c.0 | inr e ↦ there_at fs gs c.1 k x e ]

keyed_at : (gs fs : List Function) → AreKeyed gs fs → (k : Key) (x : Function) → function_at fs k ≡ Some x → (g : Function) × (function_at gs (key_at x) ≡ Some g)
keyed_at gs [] c k x h = absurd (cc)
keyed_at gs (f ∷ fs) c k x h = elim (some_by (same_key (key_at f) k) f f x (function_at fs k) h) [ inl e ↦ subst (λ y. (g : Function) × (function_at gs (key_at y) ≡ Some g)) e c.0 | inr e ↦ keyed_at gs fs c.1 k x e ]

pub tables_same : (fs gs : List Function) → AreThere fs gs → AreKeyed gs fs → (k : Key) → function_at fs k ≡ function_at gs k
tables_same fs gs c w k = both (function_at gs k) refl (function_at fs k) refl where
  both : (o : Option Function) → function_at gs k ≡ o → (p : Option Function) → function_at fs k ≡ p → p ≡ o
  both None h None j = refl
  both None h (Some f) j =
      let z = keyed_at gs fs w k f j in
      let y : None ≡ Some z.0 = sym h ∙ sym (ap (function_at gs) (found_key fs k f j)) ∙ z.1 in absurd (cc)
  both (Some g) h p j = sym j ∙ sym (ap (function_at fs) (found_key gs k g h)) ∙ there_at fs gs c k g h

pub same_by_key_runs : (p q : Script) → SameByKey p q → (engine : Engine) (host : Host) (e : EntryPoint) (scope : List ScopeEntry) (n : ℕ) → run_script engine host (core_script p) e scope n ≡ run_script engine host (core_script q) e scope n
same_by_key_runs p q s engine host e scope n =
    tables_by_key (core_script p) (core_script q) (ap (core_stmts false) s.statements)
    (λ k. found_core p.functions k ∙ ap map_core (s.functions k) ∙ sym (found_core q.functions k)) engine host e scope n
