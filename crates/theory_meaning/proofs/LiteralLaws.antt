-- The laws on literals: their value is that of each run, a constant has one, and so has the constant for a value.
use Rattle.std.proofs.Common.{◌≡◌, ℕ, Bool, true, false, not, cond, ◌&&◌, List, [], ◌∷◌, Option, Some, None, refl, sym, ap, ◌∙◌, subst}
use Rattle.std.specs.Prelude.{codes, if◌then◌else◌, ◌==◌}
use Rattle.std.proofs.lemmas.Slice.Eq.{bytes_eq-Decides}
use Rattle.rhai_base.specs.Value.{Text, Value, UnitV, TextV, ArrayV, PointerV, no_values, item, values, same_text, text_of}
use Rattle.rhai_base.specs.Operators.{Operator, Plus, UpTo, Through, symbol, arity, computed, binary}
use Rattle.base_tokens.specs.Names.{is_valid_name}
use Rattle.theory_meaning.specs.Act.{World, Store, Gives, Ended, At, Act, Env, and_then, run}
use Rattle.theory_meaning.specs.ActForms.{give, value_then, choose}
use Rattle.theory_meaning.specs.Constants.{array_value, map_value, joined_value, text_constants, value_and, entry_and, constant_value, constant_values, constant_entries, range_end, range_literal, pointer_literal, named_value, call_value, literal_value, constant_for}
use Rattle.theory_meaning.specs.Engine.{or_else}
use Rattle.theory_meaning.specs.Control.{text_in, texts_joined}
use Rattle.theory_meaning.specs.Core as core
use Rattle.theory_meaning.specs.Desugar.{core_expr, core_exprs, core_pairs, call_of}
use Rattle.theory_meaning.specs.Faults.{TreeFault, ◌then◌, unless, map_fault, faultless, IsWellFormedExpr, AreWellFormedExprs}
use Rattle.theory_meaning.specs.Laws.{LiteralLaw, ConstantLaw, IsNamed}
use Rattle.theory_meaning.specs.Meaning.{text, act, with_args, with_pairs}
use Rattle.theory_meaning.specs.Shape.{is_none, is_unit, is_map, has_token, keys, are_distinct, are_among}
use Rattle.theory_meaning.specs.Tree.{CallToken, NoToken, OfOperator, OfOther, Callee, Expr, DynamicConstant, BoolConstant, IntegerConstant, FloatConstant, CharConstant, StringConstant, UnitConstant, InterpolatedString, ArrayOf, MapOf, FnCall, Exprs, no_exprs, expr, count_exprs, Pairs, no_pairs, pair}
use Rattle.theory_meaning.specs.Walk.{Around, over_pairs}
use Rattle.theory_meaning.proofs.Floatless.{text_parts, texts_constant}
use Rattle.theory_meaning.proofs.PureTrees.{no, split}

abbrev or_this : {A : Type 0} → A → Option A → A
or_this a None = a
or_this a (Some b) = b

some_is : {A : Type 0} (a b : A) → Some a ≡ Some b → a ≡ b
some_is a b h = ap (or_this a) h

no_value : {A B : Type 0} {b : B} → None ≡ Some b → A
no_value {b = b} h = absurd (let z : None ≡ Some b = h in cc)

-- a node without this fault passed its test
passed : (b : Bool) (f : TreeFault) → unless b f ≡ None → b ≡ true
passed true f h = refl
passed false f h = absurd (let z : Some f ≡ None = h in cc)

passed_two : (a b : Bool) (f g : TreeFault) → (unless a f then unless b g) ≡ None → (a ≡ true) × (b ≡ true)
passed_two true b f g h = (refl, passed b g h)
passed_two false b f g h = absurd (let z : Some f ≡ None = h in cc)

not_true : (b : Bool) → not b ≡ true → b ≡ false
not_true false h = refl
not_true true h = no h

or_none : (o : Option Value) (v : Value) → or_else o None ≡ Some v → o ≡ Some v
or_none None v h = h
or_none (Some u) v h = h

module _ (w : World) (env : Env) (loop : Bool) where
  abbrev Runs : Expr → Value → Type 0
  Runs e v = (s : Store) (t : ℕ) → run w env (act w (core_expr loop e)) s t ≡ At (Ended (Gives v)) s t

  abbrev ArgsRun : Exprs → List Value → Type 0
  ArgsRun es vs = (next : List Value → Act) (s : Store) (t : ℕ) → run w env (with_args w (core_exprs loop es) next) s t ≡ run w env (next vs) s t

  abbrev PairsRun : Pairs → List (Text × Value) → Type 0
  PairsRun ps vs = (next : List (Text × Value) → Act) (s : Store) (t : ℕ) → run w env (with_pairs w (core_pairs loop ps) next) s t ≡ run w env (next vs) s t

  own_runs : (b : Bool) (v : Value) → b ≡ false → (s : Store) (t : ℕ) → run w env (act w (cond b core.Ill (core.Constant v))) s t ≡ At (Ended (Gives v)) s t
  own_runs true v h s t = absurd (let z : true ≡ false = h in cc)
  own_runs false v h s t = refl

  array_runs : (es : Exprs) (v : Value) (o : Option (List Value)) → ((vs : List Value) → o ≡ Some vs → ArgsRun es vs) → array_value o ≡ Some v → (s : Store) (t : ℕ) → run w env (with_args w (core_exprs loop es) (λ vs. give (ArrayV (values vs)))) s t ≡ At (Ended (Gives v)) s t
  array_runs es v (Some vs) k h s t = k vs refl _ s t ∙ ap (λ z. At (Ended (Gives z)) s t) (some_is _ v h)
  array_runs es v None k h s t = no_value h

  text_runs : (es : Exprs) (v : Value) (o : Option (List Value)) → ((vs : List Value) → o ≡ Some vs → ArgsRun es vs) → ((vs : List Value) → o ≡ Some vs → texts_joined (text_in w.host) vs ≡ texts_joined text_of vs) → joined_value o ≡ Some v → (s : Store) (t : ℕ) → run w env (with_args w (core_exprs loop es) (text w)) s t ≡ At (Ended (Gives v)) s t
  text_runs es v (Some vs) k q h s t = k vs refl _ s t ∙ ap (λ z. At (Ended (Gives (TextV z))) s t) (q vs refl) ∙ ap (λ z. At (Ended (Gives z)) s t) (some_is _ v h)
  text_runs es v None k q h s t = no_value h

  map_runs : (b : Bool) → b ≡ true → (ps : Pairs) (v : Value) (o : Option (List (Text × Value))) → ((vs : List (Text × Value)) → o ≡ Some vs → PairsRun ps vs) → map_value o ≡ Some v → (s : Store) (t : ℕ) → run w env (act w (cond b (core.MapOf (core_pairs loop ps)) core.Ill)) s t ≡ At (Ended (Gives v)) s t
  map_runs true g ps v (Some vs) k h s t = k vs refl _ s t ∙ ap (λ z. At (Ended (Gives z)) s t) (some_is _ v h)
  map_runs true g ps v None k h s t = no_value h
  map_runs false g ps v o k h s t = no g

  more_args : (e : Expr) (es : Exprs) (vs : List Value) (o : Option Value) (os : Option (List Value)) → ((v : Value) → o ≡ Some v → Runs e v) → ((us : List Value) → os ≡ Some us → ArgsRun es us) → value_and o os ≡ Some vs → ArgsRun (expr e es) vs
  more_args e es vs (Some u) (Some us) j k h next s t =
      ap (λ r. and_then r (λ i. run w env (value_then (λ z. with_args w (core_exprs loop es) (λ zs. next (z ∷ zs))) i))) (j u refl s t)
      ∙ k us refl (λ zs. next (u ∷ zs)) s t
      ∙ ap (λ zs. run w env (next zs) s t) (some_is (u ∷ us) vs h)
  more_args e es vs None os j k h next s t = no_value h
  more_args e es vs (Some u) None j k h next s t = no_value h

  more_pairs : (n : Text) (e : Expr) (ps : Pairs) (vs : List (Text × Value)) (o : Option Value) (os : Option (List (Text × Value))) → ((v : Value) → o ≡ Some v → Runs e v) → ((us : List (Text × Value)) → os ≡ Some us → PairsRun ps us) → entry_and n o os ≡ Some vs → PairsRun (pair n e ps) vs
  more_pairs n e ps vs (Some u) (Some us) j k h next s t =
      ap (λ r. and_then r (λ i. run w env (value_then (λ z. with_pairs w (core_pairs loop ps) (λ zs. next ((n, z) ∷ zs))) i))) (j u refl s t)
      ∙ k us refl (λ zs. next ((n, u) ∷ zs)) s t
      ∙ ap (λ zs. run w env (next zs) s t) (some_is ((n, u) ∷ us) vs h)
  more_pairs n e ps vs None os j k h next s t = no_value h
  more_pairs n e ps vs (Some u) None j k h next s t = no_value h

  template_fits : (ps : Pairs) (template : List Text) → map_fault (keys ps) template ≡ None → is_map template ps ≡ true
  template_fits ps template h =
      let y = passed_two (are_distinct (keys ps)) (are_among (keys ps) template && are_among template (keys ps)) _ _ h in
      let z = split (are_among (keys ps) template) (are_among template (keys ps)) y.1 in
      ap (λ b. b && are_among (keys ps) template && are_among template (keys ps)) y.0 ∙ ap (λ b. b && are_among template (keys ps)) z.0 ∙ z.1

  -- ---- constants

  mutual
    pub constant_runs : (a : Around) (e : Expr) → IsWellFormedExpr a e → (v : Value) → constant_value e ≡ Some v → Runs e v
    constant_runs a (DynamicConstant u) g v h s t = own_runs (is_unit u) u (not_true (is_unit u) (passed _ _ g.0)) s t ∙ ap (λ z. At (Ended (Gives z)) s t) (some_is u v h)
    constant_runs a (BoolConstant b) g v h s t = ap (λ z. At (Ended (Gives z)) s t) (some_is _ v h)
    constant_runs a (IntegerConstant n) g v h s t = ap (λ z. At (Ended (Gives z)) s t) (some_is _ v h)
    constant_runs a (FloatConstant x) g v h s t = ap (λ z. At (Ended (Gives z)) s t) (some_is _ v h)
    constant_runs a (CharConstant c) g v h s t = ap (λ z. At (Ended (Gives z)) s t) (some_is _ v h)
    constant_runs a (StringConstant x) g v h s t = ap (λ z. At (Ended (Gives z)) s t) (some_is _ v h)
    constant_runs a UnitConstant g v h s t = ap (λ z. At (Ended (Gives z)) s t) (some_is _ v h)
    constant_runs a (InterpolatedString es) g v h s t = text_runs es v (text_constants es) (λ vs q. args_run _ es g.1 vs (text_parts es vs q).1) (λ vs q. texts_constant w.host es vs q) h s t
    constant_runs a (ArrayOf es) g v h s t = array_runs es v (constant_values es) (λ vs q. args_run _ es g.1 vs q) h s t
    constant_runs a (MapOf ps template) g v h s t = map_runs (is_map template ps) (template_fits ps template g.0) ps v (constant_entries ps) (λ vs q. pairs_run _ ps g.1 vs q) h s t
    constant_runs a _ g v h s t = no_value h

    args_run : (a : Around) (es : Exprs) → AreWellFormedExprs a es → (vs : List Value) → constant_values es ≡ Some vs → ArgsRun es vs
    args_run a no_exprs g vs h next s t = ap (λ us. run w env (next us) s t) (some_is [] vs h)
    args_run a (expr e es) g vs h next s t = more_args e es vs (constant_value e) (constant_values es) (λ v q. constant_runs a e g.0 v q) (λ us q. args_run a es g.1 us q) h next s t

    pairs_run : (a : Around) (ps : Pairs) → over_pairs faultless ps a → (vs : List (Text × Value)) → constant_entries ps ≡ Some vs → PairsRun ps vs
    pairs_run a no_pairs g vs h next s t = ap (λ us. run w env (next us) s t) (some_is [] vs h)
    pairs_run a (pair n e ps) g vs h next s t = more_pairs n e ps vs (constant_value e) (constant_entries ps) (λ v q. constant_runs a e g.0 v q) (λ us q. pairs_run a ps g.1 us q) h next s t

  -- ---- calls that make pointers and ranges

  abbrev callee : Text → Bool → CallToken → Callee
  callee f captures token = record { namespace = []; name = f; captures = captures; token = token }

  CallRuns : Callee → Exprs → Value → Type 0
  CallRuns c es v = (s : Store) (t : ℕ) → run w env (act w (call_of c (count_exprs es) (core_exprs loop es))) s t ≡ At (Ended (Gives v)) s t

  no_symbol : (op : Operator) → same_text (codes "Fn") (symbol op) ≡ false
  no_symbol Plus = refl
  no_symbol _ = refl

  -- `Fn` of a valid name
  pointer_chosen : (b : Bool) (v : Value) (other : Act) → b ≡ true → (s : Store) (t : ℕ) → run w env (choose b (give v) other) s t ≡ At (Ended (Gives v)) s t
  pointer_chosen true v other h s t = refl
  pointer_chosen false v other h s t = no h

  another_name : (a b c : Bool) → a ≡ false → a && b && c ≡ true → false ≡ true
  another_name true b c h k = absurd (let z : true ≡ false = h in cc)
  another_name false b c h k = k

  pointer_runs : (captures : Bool) (token : CallToken) (x : Text) → has_token (callee (codes "Fn") captures token) 1 token ≡ true → is_valid_name x ≡ true → CallRuns (callee (codes "Fn") captures token) (expr (StringConstant x) no_exprs) (PointerV x no_values)
  unfolding CallRuns
  pointer_runs captures NoToken x g h s t = pointer_chosen (is_valid_name x) (PointerV x no_values) _ h s t
  pointer_runs captures (OfOperator op) x g h s t = no (another_name (same_text (codes "Fn") (symbol op)) (1 == arity op) (not captures) (no_symbol op) g)
  pointer_runs captures OfOther x g h s t = no g

  -- `..` and `..=` between literal ends
  abbrev ends_run : Operator → Expr → Expr → Value → Type 0
  ends_run op a b v = (s : Store) (t : ℕ) → run w env (act w (core.FnCall (core.OnOperator op) (core_exprs loop (expr a (expr b no_exprs))))) s t ≡ At (Ended (Gives v)) s t

  open_ends : (a b : Expr) (v : Value) → range_literal UpTo (range_end a) (range_end b) ≡ Some v → ends_run UpTo a b v
  unfolding computed binary
  open_ends (IntegerConstant m) (IntegerConstant n) v h s t = ap (λ z. At (Ended (Gives z)) s t) (some_is _ v h)
  open_ends (IntegerConstant m) UnitConstant v h s t = ap (λ z. At (Ended (Gives z)) s t) (some_is _ v h)
  open_ends UnitConstant (IntegerConstant n) v h s t = ap (λ z. At (Ended (Gives z)) s t) (some_is _ v h)
  open_ends _ _ v h s t = no_value h

  closed_ends : (a b : Expr) (v : Value) → range_literal Through (range_end a) (range_end b) ≡ Some v → ends_run Through a b v
  unfolding computed binary
  closed_ends (IntegerConstant m) (IntegerConstant n) v h s t = ap (λ z. At (Ended (Gives z)) s t) (some_is _ v h)
  closed_ends (IntegerConstant m) UnitConstant v h s t = ap (λ z. At (Ended (Gives z)) s t) (some_is _ v h)
  closed_ends UnitConstant (IntegerConstant n) v h s t = ap (λ z. At (Ended (Gives z)) s t) (some_is _ v h)
  closed_ends _ _ v h s t = no_value h

  open_runs : (captures : Bool) (token : CallToken) (a b : Expr) (v : Value) → has_token (callee (codes "..") captures token) 2 token ≡ true → range_literal UpTo (range_end a) (range_end b) ≡ Some v → CallRuns (callee (codes "..") captures token) (expr a (expr b no_exprs)) v
  unfolding CallRuns
  open_runs false (OfOperator UpTo) a b v g h s t = open_ends a b v h s t
  open_runs true (OfOperator UpTo) a b v g h s t = no g
  open_runs captures (OfOperator op) a b v g h s t = no g
  open_runs captures NoToken a b v g h s t = no g
  open_runs captures OfOther a b v g h s t = no g

  closed_runs : (captures : Bool) (token : CallToken) (a b : Expr) (v : Value) → has_token (callee (codes "..=") captures token) 2 token ≡ true → range_literal Through (range_end a) (range_end b) ≡ Some v → CallRuns (callee (codes "..=") captures token) (expr a (expr b no_exprs)) v
  unfolding CallRuns
  closed_runs false (OfOperator Through) a b v g h s t = closed_ends a b v h s t
  closed_runs true (OfOperator Through) a b v g h s t = no g
  closed_runs captures (OfOperator op) a b v g h s t = no g
  closed_runs captures NoToken a b v g h s t = no g
  closed_runs captures OfOther a b v g h s t = no g

  -- by the name that is found
  abbrev Named : Text → Bool → CallToken → Exprs → Value → Type 0
  Named f captures token es v = has_token (callee f captures token) (count_exprs es) token ≡ true → CallRuns (callee f captures token) es v

  valid_runs : (captures : Bool) (token : CallToken) (x : Text) (v : Value) (b : Bool) → is_valid_name x ≡ b → (if b then Some (PointerV x no_values) else None) ≡ Some v → Named (codes "Fn") captures token (expr (StringConstant x) no_exprs) v
  unfolding CallRuns
  valid_runs captures token x v true p h g s t = pointer_runs captures token x g p s t ∙ ap (λ z. At (Ended (Gives z)) s t) (some_is _ v h)
  valid_runs captures token x v false p h g s t = no_value h

  fn_runs : (captures : Bool) (token : CallToken) (a : Expr) (v : Value) → pointer_literal a ≡ Some v → Named (codes "Fn") captures token (expr a no_exprs) v
  fn_runs captures token (StringConstant x) v h = valid_runs captures token x v (is_valid_name x) refl h
  fn_runs captures token _ v h = no_value h

  is_name : (f g : Text) → same_text f g ≡ true → f ≡ g
  is_name f g h = (bytes_eq-Decides f g).0 h

  one_runs : (f : Text) (captures : Bool) (token : CallToken) (a : Expr) (v : Value) (b : Bool) → same_text f (codes "Fn") ≡ b → (if b then pointer_literal a else None) ≡ Some v → Named f captures token (expr a no_exprs) v
  one_runs f captures token a v true p h = subst (λ g. Named g captures token (expr a no_exprs) v) (sym (is_name f (codes "Fn") p)) (fn_runs captures token a v h)
  one_runs f captures token a v false p h = no_value h

  two_closed : (f : Text) (captures : Bool) (token : CallToken) (a b : Expr) (v : Value) (d : Bool) → same_text f (codes "..=") ≡ d → (if d then range_literal Through (range_end a) (range_end b) else None) ≡ Some v → Named f captures token (expr a (expr b no_exprs)) v
  two_closed f captures token a b v true p h = subst (λ g. Named g captures token (expr a (expr b no_exprs)) v) (sym (is_name f (codes "..=") p)) (λ g. closed_runs captures token a b v g h)
  two_closed f captures token a b v false p h = no_value h

  two_runs : (f : Text) (captures : Bool) (token : CallToken) (a b : Expr) (v : Value) (d : Bool) → same_text f (codes "..") ≡ d → (if d then range_literal UpTo (range_end a) (range_end b) else (if same_text f (codes "..=") then range_literal Through (range_end a) (range_end b) else None)) ≡ Some v → Named f captures token (expr a (expr b no_exprs)) v
  two_runs f captures token a b v true p h = subst (λ g. Named g captures token (expr a (expr b no_exprs)) v) (sym (is_name f (codes "..") p)) (λ g. open_runs captures token a b v g h)
  two_runs f captures token a b v false p h = two_closed f captures token a b v (same_text f (codes "..=")) refl h

  call_runs : (f : Text) (captures : Bool) (token : CallToken) (es : Exprs) (v : Value) → named_value f es ≡ Some v → Named f captures token es v
  call_runs f captures token no_exprs v h = no_value h
  call_runs f captures token (expr a no_exprs) v h = one_runs f captures token a v (same_text f (codes "Fn")) refl h
  call_runs f captures token (expr a (expr b no_exprs)) v h = two_runs f captures token a b v (same_text f (codes "..")) refl h
  call_runs f captures token (expr a (expr b (expr d es))) v h = no_value h

  -- a call with a namespace is no literal
  unqualified_runs : (ns : List Text) (f : Text) (captures : Bool) (token : CallToken) (es : Exprs) (v : Value) → (if is_none ns then named_value f es else None) ≡ Some v → has_token (record { namespace = ns; name = f; captures = captures; token = token }) (count_exprs es) token ≡ true → CallRuns (record { namespace = ns; name = f; captures = captures; token = token }) es v
  unqualified_runs [] f captures token es v h g = call_runs f captures token es v h g
  unqualified_runs (m ∷ ms) f captures token es v h g = no_value h

  pub literal_runs : (a : Around) (e : Expr) → IsWellFormedExpr a e → (v : Value) → literal_value e ≡ Some v → (s : Store) (t : ℕ) → run w env (act w (core_expr loop e)) s t ≡ At (Ended (Gives v)) s t
  unfolding CallRuns
  literal_runs a (FnCall c es) g v h s t = unqualified_runs c.namespace c.name c.captures c.token es v h (passed _ _ g.0) s t
  literal_runs a (DynamicConstant u) g v h s t = constant_runs a (DynamicConstant u) g v h s t
  literal_runs a (BoolConstant b) g v h s t = constant_runs a (BoolConstant b) g v h s t
  literal_runs a (IntegerConstant n) g v h s t = constant_runs a (IntegerConstant n) g v h s t
  literal_runs a (FloatConstant x) g v h s t = constant_runs a (FloatConstant x) g v h s t
  literal_runs a (CharConstant c) g v h s t = constant_runs a (CharConstant c) g v h s t
  literal_runs a (StringConstant x) g v h s t = constant_runs a (StringConstant x) g v h s t
  literal_runs a UnitConstant g v h s t = constant_runs a UnitConstant g v h s t
  literal_runs a (InterpolatedString es) g v h s t = constant_runs a (InterpolatedString es) g v (or_none _ v h) s t
  literal_runs a (ArrayOf es) g v h s t = constant_runs a (ArrayOf es) g v (or_none _ v h) s t
  literal_runs a (MapOf ps template) g v h s t = constant_runs a (MapOf ps template) g v (or_none _ v h) s t
  literal_runs a _ g v h s t = no_value h

-- the value of a literal is that of each run
pub literal_law : (e : Expr) → LiteralLaw e
literal_law e a g v h = record { at = λ w env adds loop s t. literal_runs w env loop a e g v h s t }

-- a constant has a literal value
pub constant_is_literal : (e : Expr) → ConstantLaw e
constant_is_literal e v h = ap (λ o. or_else o (call_value e)) h

valid_or_none : (b : Bool) (v : Value) → b ≡ true → (if b then Some v else None) ≡ Some v
valid_or_none true v h = refl
valid_or_none false v h = no h

-- the constant for a value has that value
pub constant_for_law : (v : Value) → IsNamed v → literal_value (constant_for v) ≡ Some v
constant_for_law UnitV h = refl
constant_for_law (PointerV f no_values) h = valid_or_none (is_valid_name f) (PointerV f no_values) h
constant_for_law (PointerV f (item u us)) h = refl
constant_for_law _ h = refl
