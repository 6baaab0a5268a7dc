-- A part of a literal whose parts are pure: the other parts go, and what comes after has its value.
use Rattle.std.proofs.Common.{◌≡◌, ℕ, zero, suc, Bool, true, false, cond, List, [], ◌∷◌, length, Option, Some, None, refl, ap, subst}
use Rattle.std.specs.Prelude.{ℤ}
use Rattle.rhai_base.specs.Value.{Text, Value, Fields, UnitV, ArrayV, MapV, same_text, values}
use Rattle.theory_meaning.specs.Act.{Act, Fail, WrongKind}
use Rattle.theory_meaning.specs.ActForms.{give, ◌>>=◌}
use Rattle.theory_meaning.specs.Core as core
use Rattle.theory_meaning.specs.Desugar.{core_expr, core_exprs, core_pairs}
use Rattle.theory_meaning.specs.Elements.{value_at, index_in, element, entry, fields_of}
use Rattle.theory_meaning.specs.Engine.{or_else}
use Rattle.theory_meaning.specs.Meaning.{act, with_args, with_pairs}
use Rattle.theory_meaning.specs.Queries.{is_pure_expr, are_pure_exprs, are_pure_pairs}
use Rattle.theory_meaning.specs.Shape.{is_map}
use Rattle.theory_meaning.specs.Tree.{Expr, ArrayOf, MapOf, Exprs, no_exprs, expr, count_exprs, Pairs, no_pairs, pair}
use Rattle.theory_meaning.proofs.PureActs.{Pure}
use Rattle.theory_meaning.proofs.PureTrees.{split, pure_expr}
use Rattle.theory_rewriting.specs.Context.{Context}
use Rattle.theory_rewriting.specs.Indexing.{expr_at, pair_for, or_unit}
use Rattle.theory_soundness.proofs.simulation.Laws.{simulates_assoc, simulates_stuck, pure_goes}
use Rattle.theory_soundness.proofs.simulation.Setting.{Setting, world}
use Rattle.theory_soundness.proofs.simulation.Simulation.{Simulates, simulates_trans, simulates_refl, simulates_equal}
use Rattle.theory_soundness.proofs.simulation.Forms.{simulates_bind}
use Rattle.theory_rewriting.proofs.rules.Entries.{value_or, entry_for, element_is}
use Rattle.theory_rewriting.proofs.rules.Literals.{some_is}

-- ---- what it does

module _ {k : Context} (c : Setting k) where
  abbrev here_of : Expr → core.Expr
  here_of e = core_expr c.in_loop e

  args_then : (es : core.Exprs) (f : List Value → Act) (g : Value → Act) → Simulates c (with_args (world c) es f >>= g) (with_args (world c) es (λ vs. f vs >>= g))
  args_then core.no_exprs f g = simulates_refl
  args_then (core.expr e es) f g = simulates_trans (simulates_assoc (act (world c) e) (λ v. with_args (world c) es (λ vs. f (v ∷ vs))) g) (simulates_bind simulates_refl (λ v. args_then es (λ vs. f (v ∷ vs)) g))

  pairs_then : (ps : core.Pairs) (f : List (Text × Value) → Act) (g : Value → Act) → Simulates c (with_pairs (world c) ps f >>= g) (with_pairs (world c) ps (λ vs. f vs >>= g))
  pairs_then core.no_pairs f g = simulates_refl
  pairs_then (core.pair x e ps) f g = simulates_trans (simulates_assoc (act (world c) e) (λ v. with_pairs (world c) ps (λ vs. f ((x, v) ∷ vs))) g) (simulates_bind simulates_refl (λ v. pairs_then ps (λ vs. f ((x, v) ∷ vs)) g))

  pairs_alike : (ps : core.Pairs) (f g : List (Text × Value) → Act) → ((vs : List (Text × Value)) → Simulates c (f vs) (g vs)) → Simulates c (with_pairs (world c) ps f) (with_pairs (world c) ps g)
  pairs_alike core.no_pairs f g h = h []
  pairs_alike (core.pair x e ps) f g h = simulates_bind simulates_refl (λ v. pairs_alike ps _ _ (λ vs. h ((x, v) ∷ vs)))

  args_go : (es : Exprs) → are_pure_exprs es ≡ true → (f : List Value → Act) (b : Act) → ((vs : List Value) → length vs ≡ count_exprs es → Simulates c (f vs) b) → Simulates c (with_args (world c) (core_exprs c.in_loop es) f) b
  args_go no_exprs h f b j = j [] refl
  args_go (expr e es) h f b j =
      let z = split (is_pure_expr e) (are_pure_exprs es) h in
      pure_goes _ _ b (pure_expr (world c) c.in_loop e z.0) (λ v. args_go es z.1 _ b (λ vs n. j (v ∷ vs) (ap suc n)))

  pairs_go : (ps : Pairs) → are_pure_pairs ps ≡ true → (f : List (Text × Value) → Act) (b : Act) → ((vs : List (Text × Value)) → Simulates c (f vs) b) → Simulates c (with_pairs (world c) (core_pairs c.in_loop ps) f) b
  pairs_go no_pairs h f b j = j []
  pairs_go (pair x e ps) h f b j =
      let z = split (is_pure_expr e) (are_pure_pairs ps) h in
      pure_goes _ _ b (pure_expr (world c) c.in_loop e z.0) (λ v. pairs_go ps z.1 _ b (λ vs. j ((x, v) ∷ vs)))

  -- a literal goes before what is the same for every array, or map
  pub array_goes : (es : Exprs) (f : Value → Act) (b : Act) → are_pure_exprs es ≡ true → ((vs : List Value) → Simulates c (f (ArrayV (values vs))) b) → Simulates c (act (world c) (here_of (ArrayOf es)) >>= f) b
  array_goes es f b h j =
      simulates_trans (args_then (core_exprs c.in_loop es) (λ vs. give (ArrayV (values vs))) f)
      (args_go es h _ b (λ vs n. simulates_trans (simulates_equal {b = f (ArrayV (values vs))} (λ y. refl)) (j vs)))

  pub map_goes : (ps : Pairs) (template : List Text) (f : Value → Act) (b : Act) → are_pure_pairs ps ≡ true → ((fs : Fields) → Simulates c (f (MapV fs)) b) → Simulates c (act (world c) (here_of (MapOf ps template)) >>= f) b
  map_goes ps template f b h j = by (is_map template ps) where
    by : (x : Bool) → Simulates c (act (world c) (cond x (core.MapOf (core_pairs c.in_loop ps)) core.Ill) >>= f) b
    by false = simulates_trans (simulates_equal {b = Fail WrongKind} (λ m. refl)) (simulates_stuck WrongKind _)
    by true =
        simulates_trans (pairs_then (core_pairs c.in_loop ps) (λ vs. give (MapV (fields_of vs))) f)
        (pairs_go ps h _ b (λ vs. simulates_trans (simulates_equal {b = f (MapV (fields_of vs))} (λ m. refl)) (j (fields_of vs))))

  args_pick : (es : Exprs) → are_pure_exprs es ≡ true → (i : ℕ) (e : Expr) → expr_at es i ≡ Some e → (f : List Value → Act) (g : Value → Act) → ((vs : List Value) (u : Value) → length vs ≡ count_exprs es → value_at (values vs) i ≡ Some u → Simulates c (f vs) (g u)) → Simulates c (with_args (world c) (core_exprs c.in_loop es) f) (act (world c) (here_of e) >>= g)
  args_pick no_exprs h i e q f g j = absurd (let z : None ≡ Some e = q in cc)
  args_pick (expr d es) h zero e q f g j =
      let z = split (is_pure_expr d) (are_pure_exprs es) h in
      subst (λ x. Simulates c (with_args (world c) (core_exprs c.in_loop (expr d es)) f) (act (world c) (here_of x) >>= g)) (some_is d e q)
      (simulates_bind simulates_refl (λ v. args_go es z.1 _ (g v) (λ vs n. j (v ∷ vs) v (ap suc n) refl)))
  args_pick (expr d es) h (suc i) e q f g j =
      let z = split (is_pure_expr d) (are_pure_exprs es) h in
      pure_goes _ _ _ (pure_expr (world c) c.in_loop d z.0) (λ v. args_pick es z.1 i e q _ g (λ vs u n p. j (v ∷ vs) u (ap suc n) p))

  -- an element of an array literal, by what comes after the array
  pub element_picked : (es : Exprs) (n : ℤ) (j : ℕ) (e : Expr) (f g : Value → Act) → are_pure_exprs es ≡ true → index_in (count_exprs es) n ≡ Some j → expr_at es j ≡ Some e → ((vs : List Value) (u : Value) → element (values vs) n ≡ Some u → Simulates c (f (ArrayV (values vs))) (g u)) → Simulates c (act (world c) (here_of (ArrayOf es)) >>= f) (act (world c) (here_of e) >>= g)
  element_picked es n j e f g h r x s =
      simulates_trans (args_then (core_exprs c.in_loop es) (λ vs. give (ArrayV (values vs))) f)
      (args_pick es h j e x _ g (λ vs u m p. simulates_trans (simulates_equal {b = f (ArrayV (values vs))} (λ y. refl)) (s vs u (element_is vs (count_exprs es) j n u m r p))))

  -- the last of a key, or what stood before
  abbrev act_or : Value → Option Expr → (Value → Act) → Act
  act_or u None g = g u
  act_or u (Some e) g = act (world c) (here_of e) >>= g

  abbrev rest_of : Pairs → Text → Value → (Value → Act) → Act
  rest_of ps x u g = with_pairs (world c) (core_pairs c.in_loop ps) (λ vs. g (value_or u vs x))

  pick_by : (e : Expr) (ps : Pairs) (x : Text) (u : Value) (g : Value → Act) (o : Option Expr) (b : Bool) → Pure (world c) (act (world c) (here_of e)) → ((v : Value) → Simulates c (rest_of ps x (cond b v u) g) (act_or (cond b v u) o g)) → Simulates c (act (world c) (here_of e) >>= λ v. rest_of ps x (cond b v u) g) (act_or u (or_else o (cond b (Some e) None)) g)
  pick_by e ps x u g (Some y) b p ih = pure_goes _ _ _ p ih
  pick_by e ps x u g None true p ih = simulates_bind simulates_refl ih
  pick_by e ps x u g None false p ih = pure_goes _ _ _ p ih

  pairs_pick : (ps : Pairs) → are_pure_pairs ps ≡ true → (u : Value) (x : Text) (g : Value → Act) → Simulates c (rest_of ps x u g) (act_or u (pair_for ps x) g)
  pairs_pick no_pairs h u x g = simulates_refl
  pairs_pick (pair m e ps) h u x g =
      let z = split (is_pure_expr e) (are_pure_pairs ps) h in
      pick_by e ps x u g (pair_for ps x) (same_text m x) (pure_expr (world c) c.in_loop e z.0) (λ v. pairs_pick ps z.1 (cond (same_text m x) v u) x g)

  or_unit_act : (o : Option Expr) (g : Value → Act) → Simulates c (act_or UnitV o g) (act (world c) (here_of (or_unit o)) >>= g)
  or_unit_act None g = simulates_equal (λ m. refl)
  or_unit_act (Some e) g = simulates_refl

  -- an entry of a map literal, by what comes after the map
  pub entry_picked : (ps : Pairs) (template : List Text) (x : Text) (f g : Value → Act) → are_pure_pairs ps ≡ true → ((fs : Fields) → Simulates c (f (MapV fs)) (g (entry fs x))) → Simulates c (act (world c) (here_of (MapOf ps template)) >>= f) (act (world c) (here_of (or_unit (pair_for ps x))) >>= g)
  entry_picked ps template x f g h j = by (is_map template ps) where
    by : (b : Bool) → Simulates c (act (world c) (cond b (core.MapOf (core_pairs c.in_loop ps)) core.Ill) >>= f) (act (world c) (here_of (or_unit (pair_for ps x))) >>= g)
    by false = simulates_trans (simulates_equal {b = Fail WrongKind} (λ m. refl)) (simulates_stuck WrongKind _)
    by true =
        simulates_trans (pairs_then (core_pairs c.in_loop ps) (λ vs. give (MapV (fields_of vs))) f)
        (simulates_trans (pairs_alike (core_pairs c.in_loop ps) _ (λ vs. g (value_or UnitV vs x)) (λ vs. simulates_trans (simulates_equal {b = f (MapV (fields_of vs))} (λ m. refl)) (subst (λ u. Simulates c (f (MapV (fields_of vs))) (g u)) (entry_for vs x) (j (fields_of vs)))))
        (simulates_trans (pairs_pick ps h UnitV x g) (or_unit_act (pair_for ps x) g)))
