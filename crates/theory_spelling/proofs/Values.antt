-- An expression that writes a value out gives that value.
use Rattle.std.proofs.Common.{◌≡◌, Bool, true, false, cond, ◌&&◌, ◌||◌, List, [], ◌∷◌, codes, ℤ, refl, ap, ◌∙◌}
use Rattle.std.proofs.lemmas.Bool.{and_parts}
use Rattle.std.proofs.lemmas.Slice.Eq.{bytes_eq-Decides}
use Rattle.rhai_base.specs.Value.{Text, Value, UnitV, BoolV, IntV, FloatV, CharV, TextV, ArrayV, MapV, PointerV, RangeV, RangeInclusiveV, Values, no_values, item, Fields, no_fields, field, items, values, same_text, same_fields}
use Rattle.rhai_base.proofs.Same.{same_exact}
use Rattle.base_tokens.specs.Names.{is_among, are_all, is_valid_name}
use Rattle.rhai_base.specs.Operators.{UpTo, Through, computed, binary}
use Rattle.theory_meaning.specs.Act.{World, Env, Act}
use Rattle.theory_meaning.specs.ActForms.{give, ◌>>=◌, choose}
use Rattle.theory_meaning.specs.Calls.{called}
use Rattle.theory_meaning.specs.Core as core
use Rattle.theory_meaning.specs.Desugar.{core_expr, core_exprs, core_pairs}
use Rattle.theory_meaning.specs.Elements.{fields_of}
use Rattle.theory_meaning.specs.Meaning.{act, with_args, with_pairs}
use Rattle.theory_meaning.specs.Shape.{keys, are_distinct, are_among, is_map}
use Rattle.theory_meaning.specs.Tree.{Expr, DynamicConstant, IntegerConstant, MapOf, Exprs, expr}
use Rattle.theory_meaning.specs.Constants.{pointer_call}
use Rattle.theory_naming.specs.Renaming.{is_anonymous}
use Rattle.theory_spelling.specs.Bare.{members, names_of, are_listed, range_call, curried_call, literal_of, literals_of, entries_of, bare_constant}
use Rattle.theory_spelling.proofs.Acts.{Same, same_refl, same_path, same_trans, same_bind}

-- ---- lists

values_items : (vs : Values) → values (items vs) ≡ vs
values_items no_values = refl
values_items (item v vs) = ap (item v) (values_items vs)

names_listed : (fs : Fields) → keys (entries_of fs) ≡ names_of fs
names_listed no_fields = refl
names_listed (field k v fs) = ap (λ ks. k ∷ ks) (names_listed fs)

-- each name of a list is among it
itself : (k : Text) → same_text k k ≡ true
itself k = (bytes_eq-Decides k k).1 refl

or_first : (a b : Bool) → a ≡ true → (a || b) ≡ true
or_first a b h = ap (λ c. c || b) h

or_second : (a b : Bool) → b ≡ true → (a || b) ≡ true
or_second true b h = refl
or_second false b h = h

both_true : (a b : Bool) → a ≡ true → b ≡ true → (a && b) ≡ true
both_true a b h k = ap (λ c. c && b) h ∙ k

all_among : (ks ls : List Text) → ((k : Text) → is_among k ks ≡ true → is_among k ls ≡ true) → are_all (λ k. is_among k ls) ks ≡ true
all_among [] ls h = refl
all_among (k ∷ ks) ls h = both_true _ _ (h k (or_first (same_text k k) (is_among k ks) (itself k))) (all_among ks ls (λ j q. h j (or_second (same_text k j) (is_among j ks) q)))

are_a_map : (fs : Fields) → are_distinct (names_of fs) ≡ true → is_map (names_of fs) (entries_of fs) ≡ true
are_a_map fs h =
    ap (λ ks. are_distinct ks && are_among ks (names_of fs) && are_among (names_of fs) ks) (names_listed fs)
    ∙ both_true _ _ (both_true _ _ h (all_among (names_of fs) (names_of fs) (λ k q. q))) (all_among (names_of fs) (names_of fs) (λ k q. q))

module _ (w : World) (env : Env) (loop : Bool) where
  given : (v : Value) (f : Value → Act) → Same w env (give v >>= f) (f v)
  given v f = record { at = λ s t. refl }

  abbrev Written : Expr → Value → Type 0
  Written e v = Same w env (act w (core_expr loop e)) (give v)

  -- ---- maps

  map_given : (b : Bool) (ps : core.Pairs) (v : Value) → b ≡ true → Same w env (with_pairs w ps (λ vs. give (MapV (fields_of vs)))) (give v) → Same w env (act w (cond b (core.MapOf ps) core.Ill)) (give v)
  map_given true ps v h k = k
  map_given false ps v h k = absurd (let z : false ≡ true = h in cc)

  map_written : (fs : Fields) → Same w env (with_pairs w (core_pairs loop (entries_of fs)) (λ vs. give (MapV (fields_of vs)))) (give (MapV (fields_of (members fs)))) → (b : Bool) → are_listed fs ≡ b → Written (cond b (MapOf (entries_of fs) (names_of fs)) (DynamicConstant (MapV fs))) (MapV fs)
  map_written fs k true h =
      let q = and_parts (are_distinct (names_of fs)) (same_fields (fields_of (members fs)) fs) h in
      map_given (is_map (names_of fs) (entries_of fs)) (core_pairs loop (entries_of fs)) (MapV fs) (are_a_map fs q.0)
      (same_trans k (same_path (ap give (same_exact (MapV (fields_of (members fs))) (MapV fs) q.1))))
  map_written fs k false h = same_refl

  -- ---- pointers

  chosen : (b : Bool) (a c : Act) → b ≡ true → Same w env (choose b a c) a
  chosen true a c h = same_refl
  chosen false a c h = absurd (let z : false ≡ true = h in cc)

  pointer_written : (f : Text) → is_valid_name f ≡ true → Written (pointer_call f) (PointerV f no_values)
  pointer_written f h = same_trans (given (TextV f) _) (chosen (is_valid_name f) _ _ h)

  literal_pointer : (f : Text) → is_valid_name f ≡ true → (b : Bool) → Written (cond b (DynamicConstant (PointerV f no_values)) (pointer_call f)) (PointerV f no_values)
  literal_pointer f h true = same_refl
  literal_pointer f h false = pointer_written f h

  curried_given : (f : Text) (e : Expr) (es : Exprs) (vs : List Value) → is_valid_name f ≡ true → ((next : List Value → Act) → Same w env (with_args w (core_exprs loop (expr e es)) next) (next vs)) → Written (curried_call f (expr e es)) (PointerV f (values vs))
  curried_given f e es vs h k =
      same_trans (same_bind (literal_pointer f h (is_anonymous f)) (λ p. same_refl)) (same_trans (given (PointerV f no_values) (λ p. with_args w (core_exprs loop (expr e es)) (λ us. called w (core.ByName (codes "curry") false) (p ∷ us)))) (k (λ us. called w (core.ByName (codes "curry") false) (PointerV f no_values ∷ us))))

  curried_written : (f : Text) (vs : Values) (b : Bool) → is_valid_name f ≡ b → ((next : List Value → Act) → Same w env (with_args w (core_exprs loop (literals_of vs)) next) (next (items vs))) → Written (cond b (curried_call f (literals_of vs)) (DynamicConstant (PointerV f vs))) (PointerV f vs)
  curried_written f no_values true h k = literal_pointer f h (is_anonymous f)
  curried_written f (item v vs) true h k = same_trans (curried_given f (literal_of v) (literals_of vs) (v ∷ items vs) h k) (same_path (ap (λ us. give (PointerV f (item v us))) (values_items vs)))
  curried_written f vs false h k = same_refl

  -- ---- ranges

  range_written : (a b : ℤ) → Written (range_call UpTo (IntegerConstant a) (IntegerConstant b)) (RangeV a b)
  unfolding computed binary
  range_written a b = record { at = λ s t. refl }

  inclusive_written : (a b : ℤ) → Written (range_call Through (IntegerConstant a) (IntegerConstant b)) (RangeInclusiveV a b)
  unfolding computed binary
  inclusive_written a b = record { at = λ s t. refl }

  mutual
    pub literal_written : (v : Value) → Written (literal_of v) v
    literal_written UnitV = same_refl
    literal_written (BoolV b) = same_refl
    literal_written (IntV n) = same_refl
    literal_written (FloatV x) = same_refl
    literal_written (CharV c) = same_refl
    literal_written (TextV t) = same_refl
    literal_written (ArrayV vs) = same_trans (literals_written vs (λ us. give (ArrayV (values us)))) (same_path (ap (λ us. give (ArrayV us)) (values_items vs)))
    literal_written (MapV fs) = map_written fs (entries_written fs (λ vs. give (MapV (fields_of vs)))) (are_listed fs) refl
    literal_written (PointerV f vs) = curried_written f vs (is_valid_name f) refl (literals_written vs)
    literal_written (RangeV a b) = range_written a b
    literal_written (RangeInclusiveV a b) = inclusive_written a b

    literals_written : (vs : Values) (next : List Value → Act) → Same w env (with_args w (core_exprs loop (literals_of vs)) next) (next (items vs))
    literals_written no_values next = same_refl
    literals_written (item v vs) next = same_trans (same_bind (literal_written v) (λ u. same_refl)) (same_trans (given v _) (literals_written vs (λ us. next (v ∷ us))))

    entries_written : (fs : Fields) (next : List (Text × Value) → Act) → Same w env (with_pairs w (core_pairs loop (entries_of fs)) next) (next (members fs))
    entries_written no_fields next = same_refl
    entries_written (field k v fs) next = same_trans (same_bind (literal_written v) (λ u. same_refl)) (same_trans (given v _) (entries_written fs (λ us. next ((k, v) ∷ us))))

  pub constant_kept : (v : Value) → Same w env (act w (core_expr loop (bare_constant v))) (act w (core_expr loop (DynamicConstant v)))
  constant_kept UnitV = same_refl
  constant_kept (BoolV b) = same_refl
  constant_kept (IntV n) = same_refl
  constant_kept (FloatV x) = same_refl
  constant_kept (CharV c) = same_refl
  constant_kept (TextV t) = same_refl
  constant_kept (ArrayV vs) = literal_written (ArrayV vs)
  constant_kept (MapV fs) = literal_written (MapV fs)
  constant_kept (PointerV f vs) = literal_written (PointerV f vs)
  constant_kept (RangeV a b) = literal_written (RangeV a b)
  constant_kept (RangeInclusiveV a b) = literal_written (RangeInclusiveV a b)
