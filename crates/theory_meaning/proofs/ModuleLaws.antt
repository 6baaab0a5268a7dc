-- The laws on exports and aliases.
use Rattle.std.proofs.Common.{◌≡◌, ℕ, Bool, true, false, cond, ◌&&◌, List, ◌∷◌, Some, refl, sym, ap, ◌∙◌}
use Rattle.std.proofs.lemmas.Slice.Eq.{bytes_eq-Decides}
use Rattle.rhai_base.specs.Value.{Text, Value, UnitV, same_text}
use Rattle.theory_meaning.specs.Act.{EntryKind, IsVariable, IsConstant, IsExport, is_constant, is_alias, module_name, resolved, found, read, declared, World, ScopeEntry, Store, Ending, Gives, Leaves, OfName, Act, Read, Acts, Named, Env, and_then, run, run_all}
use Rattle.theory_meaning.specs.ActForms.{each_value, then_line}
use Rattle.theory_meaning.specs.Desugar.{name_kind, core_expr}
use Rattle.theory_meaning.specs.Laws.{ExportedLaw, UnexportedLaw}
use Rattle.theory_meaning.specs.Meaning.{act}
use Rattle.theory_meaning.specs.Run.{exports, is_export}
use Rattle.theory_meaning.specs.Tree.{Expr}
use Rattle.theory_meaning.proofs.Relations.{Keeps, none, one, changed}
use Rattle.theory_meaning.proofs.Preserves.{preserves}
use Rattle.theory_meaning.proofs.Sequencing.{then_same}

-- ---- a declaration with EXPORTED

module _ (w : World) (env : Env) (next : Value → Acts) where
  -- the name that was added is found
  found_there : (k : Bool) (x : Text) (v : Value) (es : List ScopeEntry) → found w.engine.constants (record { name = x; kind = name_kind k; value = v } ∷ es) x ≡ Some (record { name = x; kind = name_kind k; value = v })
  found_there true x v es = ap (λ b. cond b (Some (record { name = x; kind = IsConstant; value = v })) (found w.engine.constants es x)) ((bytes_eq-Decides x x).1 refl)
  found_there false x v es = ap (λ b. cond b (Some (record { name = x; kind = IsVariable; value = v })) (found w.engine.constants es x)) ((bytes_eq-Decides x x).1 refl)

  exports_it : (k : Bool) (x : Text) (v : Value) (s : Store) (t : ℕ) → run_all w env (Named x (name_kind k) v (Named x IsExport v (next UnitV))) s t ≡ run_all w env (Named x (name_kind k) v (then_line (Read (OfName x)) (λ u. Named x IsExport u (next UnitV)))) s t
  exports_it k x v s t =
      let s1 = declared x (name_kind k) v s in
      ap (λ o. and_then (read o s1 t) (λ e. run_all w env (each_value (λ u. Named x IsExport u (next UnitV)) e))) (sym (found_there k x v s.scope))

  each_exports : (k : Bool) (x : Text) (e : Ending) (s : Store) (t : ℕ) → run_all w env (each_value (λ v. Named x (name_kind k) v (Named x IsExport v (next UnitV))) e) s t ≡ run_all w env (each_value (λ v. Named x (name_kind k) v (then_line (Read (OfName x)) (λ u. Named x IsExport u (next UnitV)))) e) s t
  each_exports k x (Gives v) s t = exports_it k x v s t
  each_exports k x (Leaves y) s t = refl

pub exported_law : (c : Bool) (x : Text) (e : Expr) → ExportedLaw c x e
exported_law c x e next = record { at = λ w env adds loop s t. then_same (run w env (act w (core_expr loop e)) s t) _ _ (each_exports w env next c x) }

-- ---- what acts leave alone

unexported : (k : EntryKind) → is_constant k ≡ false → is_export k ≡ false
unexported IsVariable h = refl
unexported _ h = absurd (let z : true ≡ false = h in cc)

unaliased : (k : EntryKind) → is_constant k ≡ false → is_alias k ≡ false
unaliased IsVariable h = refl
unaliased _ h = absurd (let z : true ≡ false = h in cc)

exports_kept : {es fs : List ScopeEntry} → Keeps es fs → exports fs ≡ exports es
exports_kept none = refl
exports_kept (one {e = e} p) = ap (λ l. cond (is_export e.kind) ((e.name, e.value) ∷ l) l) (exports_kept p)
exports_kept (changed {e = e} {v = v} {es = es} {fs = fs} c p) =
    let q = unexported e.kind c in
    ap (λ b. cond b ((e.name, v) ∷ exports fs) (exports fs)) q ∙ exports_kept p ∙ sym (ap (λ b. cond b ((e.name, e.value) ∷ exports es) (exports es)) q)

aliases_kept : {es fs : List ScopeEntry} → Keeps es fs → (a : Text) → resolved fs a ≡ resolved es a
aliases_kept none a = refl
aliases_kept (one {e = e} p) a = ap (cond (is_alias e.kind && same_text e.name a) (module_name e.value)) (aliases_kept p a)
aliases_kept (changed {e = e} {v = v} {es = es} {fs = fs} c p) a =
    let q = unaliased e.kind c in
    ap (λ b. cond (b && same_text e.name a) (module_name v) (resolved fs a)) q ∙ aliases_kept p a ∙ sym (ap (λ b. cond (b && same_text e.name a) (module_name e.value) (resolved es a)) q)

pub unexported_law : (a : Act) → UnexportedLaw a
unexported_law a w env adds s t = let k = (preserves w env adds a s t).scope in record { exports = exports_kept k; aliases = aliases_kept k }
