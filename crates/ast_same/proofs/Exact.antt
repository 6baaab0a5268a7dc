-- Trees that are alike are equal, and only those.
use Rattle.std.proofs.Common.{◌≡◌, ℕ, ℤ, pos, negsuc, Bool, true, false, ◌&&◌, ◌==◌, ◌↔◌, IsTrue, List, [], ◌∷◌, Option, Some, None, refl, sym, ap, ◌∙◌}
use Rattle.std.specs.Cmp.{unsigned_Decides}
use Rattle.std.proofs.lemmas.Bool.{and_parts}
use Rattle.std.proofs.lemmas.Slice.Eq.{bytes_eq-Decides}
use Rattle.rhai_base.specs.Value.{Text, same_bool, same_int, same_text}
use Rattle.rhai_base.proofs.Same.{same_exact, same_itself}
use Rattle.theory_meaning.specs.Calls.{same_type}
use Rattle.theory_meaning.specs.Engine.{same_texts}
use Rattle.theory_meaning.specs.Tree.{Callee, ChainFlags, PropertyNames, IntRange, ExclusiveInt, InclusiveInt, SwitchCase, SwitchRange, SwitchTable, Expr, DynamicConstant, BoolConstant, IntegerConstant, FloatConstant, CharConstant, StringConstant, UnitConstant, InterpolatedString, ArrayOf, MapOf, Variable, ThisPtr, Property, MethodCall, BlockExpr, FnCall, Dot, Index, And, Or, Coalesce, Exprs, no_exprs, expr, Pairs, no_pairs, pair, MaybeExpr, no_expr, an_expr, Arms, no_arms, arm, Stmt, Noop, If, Switch, While, Do, For, Var, Assignment, FnCallStmt, Block, TryCatch, ExprStmt, BreakLoop, Return, Import, Export, Share, Stmts, no_stmts, stmt, Function, Script}
use Rattle.ast_same.specs.Alike.{operator_number, token_number, alike_callee, alike_flags, alike_property, is_inclusive, start_of, end_of, alike_range, alike_ranges, alike_case, alike_cases, alike_default, alike_table, alike_expr, alike_exprs, alike_pairs, alike_maybe, alike_arms, alike_stmt, alike_stmts, nameless, alike_but_name, alike_function, alike_functions, alike_script}
use Rattle.ast_same.proofs.Tokens.{operator_exact, token_exact}

-- ---- parts of answers

fst : (a b : Bool) → (a && b) ≡ true → a ≡ true
fst a b h = (and_parts a b h).0

snd : (a b : Bool) → (a && b) ≡ true → b ≡ true
snd a b h = (and_parts a b h).1

both : {a b : Bool} → a ≡ true → b ≡ true → (a && b) ≡ true
both {b = b} h k = ap (λ c. c && b) h ∙ k

-- ---- what is alike is equal

bool_exact : (a b : Bool) → same_bool a b ≡ true → a ≡ b
bool_exact true b h = sym h
bool_exact false true h = absurd (cc)
bool_exact false false h = refl

int_exact : (a b : ℤ) → same_int a b ≡ true → a ≡ b
int_exact (pos a) (pos b) h = ap pos ((unsigned_Decides a b).0 h)
int_exact (negsuc a) (negsuc b) h = ap negsuc ((unsigned_Decides a b).0 h)
int_exact (pos a) (negsuc b) h = absurd (cc)
int_exact (negsuc a) (pos b) h = absurd (cc)

number_exact : (a b : ℕ) → (a == b) ≡ true → a ≡ b
number_exact a b h = (unsigned_Decides a b).0 h

text_exact : (a b : Text) → same_text a b ≡ true → a ≡ b
text_exact a b h = (bytes_eq-Decides a b).0 h

texts_exact : (as' bs : List Text) → same_texts as' bs ≡ true → as' ≡ bs
texts_exact [] [] h = refl
texts_exact (a ∷ as') (b ∷ bs) h = λ i. text_exact a b (fst _ _ h) i ∷ texts_exact as' bs (snd _ _ h) i
texts_exact [] (b ∷ bs) h = absurd (cc)
texts_exact (a ∷ as') [] h = absurd (cc)

type_exact : (a b : Option Text) → same_type a b ≡ true → a ≡ b
type_exact None None h = refl
type_exact (Some a) (Some b) h = ap Some (text_exact a b h)
type_exact None (Some b) h = absurd (cc)
type_exact (Some a) None h = absurd (cc)

callee_exact : (a b : Callee) → alike_callee a b ≡ true → a ≡ b
callee_exact a b h = λ i. record {
  namespace = texts_exact a.namespace b.namespace (fst _ _ (fst _ _ (fst _ _ h))) i;
  name = text_exact a.name b.name (snd _ _ (fst _ _ (fst _ _ h))) i;
  captures = bool_exact a.captures b.captures (snd _ _ (fst _ _ h)) i;
  token = token_exact a.token b.token (number_exact _ _ (snd _ _ h)) i;
}

flags_exact : (a b : ChainFlags) → alike_flags a b ≡ true → a ≡ b
flags_exact a b h = λ i. record {
  negated = bool_exact a.negated b.negated (fst _ _ (fst _ _ h)) i;
  breaks = bool_exact a.breaks b.breaks (snd _ _ (fst _ _ h)) i;
  exported = bool_exact a.exported b.exported (snd _ _ h) i;
}

property_exact : (a b : PropertyNames) → alike_property a b ≡ true → a ≡ b
property_exact a b h = λ i. record {
  getter = text_exact a.getter b.getter (fst _ _ (fst _ _ h)) i;
  setter = text_exact a.setter b.setter (snd _ _ (fst _ _ h)) i;
  name = text_exact a.name b.name (snd _ _ h) i;
}

ends_exact : (r s : IntRange) → is_inclusive r ≡ is_inclusive s → start_of r ≡ start_of s → end_of r ≡ end_of s → r ≡ s
ends_exact (ExclusiveInt a b) (ExclusiveInt c d) h e f = λ i. ExclusiveInt (e i) (f i)
ends_exact (InclusiveInt a b) (InclusiveInt c d) h e f = λ i. InclusiveInt (e i) (f i)
ends_exact (ExclusiveInt a b) (InclusiveInt c d) h e f = absurd (cc)
ends_exact (InclusiveInt a b) (ExclusiveInt c d) h e f = absurd (cc)

range_exact : (a b : SwitchRange) → alike_range a b ≡ true → a ≡ b
range_exact a b h = λ i. record {
  range = ends_exact a.range b.range (bool_exact _ _ (fst _ _ (fst _ _ (fst _ _ h)))) (int_exact _ _ (snd _ _ (fst _ _ (fst _ _ h)))) (int_exact _ _ (snd _ _ (fst _ _ h))) i;
  arm = number_exact a.arm b.arm (snd _ _ h) i;
}

ranges_exact : (as' bs : List SwitchRange) → alike_ranges as' bs ≡ true → as' ≡ bs
ranges_exact [] [] h = refl
ranges_exact (a ∷ as') (b ∷ bs) h = λ i. range_exact a b (fst _ _ h) i ∷ ranges_exact as' bs (snd _ _ h) i
ranges_exact [] (b ∷ bs) h = absurd (cc)
ranges_exact (a ∷ as') [] h = absurd (cc)

case_exact : (a b : SwitchCase) → alike_case a b ≡ true → a ≡ b
case_exact a b h = λ i. record { value = same_exact a.value b.value (fst _ _ h) i; arms = (bytes_eq-Decides a.arms b.arms).0 (snd _ _ h) i }

cases_exact : (as' bs : List SwitchCase) → alike_cases as' bs ≡ true → as' ≡ bs
cases_exact [] [] h = refl
cases_exact (a ∷ as') (b ∷ bs) h = λ i. case_exact a b (fst _ _ h) i ∷ cases_exact as' bs (snd _ _ h) i
cases_exact [] (b ∷ bs) h = absurd (cc)
cases_exact (a ∷ as') [] h = absurd (cc)

default_exact : (a b : Option ℕ) → alike_default a b ≡ true → a ≡ b
default_exact None None h = refl
default_exact (Some a) (Some b) h = ap Some (number_exact a b h)
default_exact None (Some b) h = absurd (cc)
default_exact (Some a) None h = absurd (cc)

table_exact : (a b : SwitchTable) → alike_table a b ≡ true → a ≡ b
table_exact a b h = λ i. record {
  cases = cases_exact a.cases b.cases (fst _ _ (fst _ _ h)) i;
  ranges = ranges_exact a.ranges b.ranges (snd _ _ (fst _ _ h)) i;
  default = default_exact a.default b.default (snd _ _ h) i;
}

mutual
  expr_exact : (e f : Expr) → alike_expr e f ≡ true → e ≡ f
  expr_exact (DynamicConstant a) (DynamicConstant b) h = ap DynamicConstant (same_exact a b h)
  expr_exact (BoolConstant a) (BoolConstant b) h = ap BoolConstant (bool_exact a b h)
  expr_exact (IntegerConstant a) (IntegerConstant b) h = ap IntegerConstant (int_exact a b h)
  expr_exact (FloatConstant a) (FloatConstant b) h = ap FloatConstant (number_exact a b h)
  expr_exact (CharConstant a) (CharConstant b) h = ap CharConstant (number_exact a b h)
  expr_exact (StringConstant a) (StringConstant b) h = ap StringConstant (text_exact a b h)
  expr_exact UnitConstant UnitConstant h = refl
  expr_exact (InterpolatedString a) (InterpolatedString b) h = ap InterpolatedString (exprs_exact a b h)
  expr_exact (ArrayOf a) (ArrayOf b) h = ap ArrayOf (exprs_exact a b h)
  expr_exact (MapOf a k) (MapOf b l) h = λ i. MapOf (pairs_exact a b (fst _ _ h) i) (texts_exact k l (snd _ _ h) i)
  expr_exact (Variable m a) (Variable n b) h = λ i. Variable (texts_exact m n (fst _ _ h) i) (text_exact a b (snd _ _ h) i)
  expr_exact ThisPtr ThisPtr h = refl
  expr_exact (Property a) (Property b) h = ap Property (property_exact a b h)
  expr_exact (MethodCall f a) (MethodCall g b) h = λ i. MethodCall (callee_exact f g (fst _ _ h) i) (exprs_exact a b (snd _ _ h) i)
  expr_exact (BlockExpr a) (BlockExpr b) h = ap BlockExpr (stmts_exact a b h)
  expr_exact (FnCall f a) (FnCall g b) h = λ i. FnCall (callee_exact f g (fst _ _ h) i) (exprs_exact a b (snd _ _ h) i)
  expr_exact (Dot k a c) (Dot l b d) h = λ i. Dot (flags_exact k l (fst _ _ (fst _ _ h)) i) (expr_exact a b (snd _ _ (fst _ _ h)) i) (expr_exact c d (snd _ _ h) i)
  expr_exact (Index k a c) (Index l b d) h = λ i. Index (flags_exact k l (fst _ _ (fst _ _ h)) i) (expr_exact a b (snd _ _ (fst _ _ h)) i) (expr_exact c d (snd _ _ h) i)
  expr_exact (And a) (And b) h = ap And (exprs_exact a b h)
  expr_exact (Or a) (Or b) h = ap Or (exprs_exact a b h)
  expr_exact (Coalesce a) (Coalesce b) h = ap Coalesce (exprs_exact a b h)
  expr_exact _ _ h = absurd (cc)

  exprs_exact : (as' bs : Exprs) → alike_exprs as' bs ≡ true → as' ≡ bs
  exprs_exact no_exprs no_exprs h = refl
  exprs_exact (expr a as') (expr b bs) h = λ i. expr (expr_exact a b (fst _ _ h) i) (exprs_exact as' bs (snd _ _ h) i)
  exprs_exact _ _ h = absurd (cc)

  pairs_exact : (as' bs : Pairs) → alike_pairs as' bs ≡ true → as' ≡ bs
  pairs_exact no_pairs no_pairs h = refl
  pairs_exact (pair x a as') (pair y b bs) h = λ i. pair (text_exact x y (fst _ _ (fst _ _ h)) i) (expr_exact a b (snd _ _ (fst _ _ h)) i) (pairs_exact as' bs (snd _ _ h) i)
  pairs_exact _ _ h = absurd (cc)

  maybe_exact : (a b : MaybeExpr) → alike_maybe a b ≡ true → a ≡ b
  maybe_exact no_expr no_expr h = refl
  maybe_exact (an_expr a) (an_expr b) h = ap an_expr (expr_exact a b h)
  maybe_exact _ _ h = absurd (cc)

  arms_exact : (as' bs : Arms) → alike_arms as' bs ≡ true → as' ≡ bs
  arms_exact no_arms no_arms h = refl
  arms_exact (arm a c as') (arm b d bs) h = λ i. arm (expr_exact a b (fst _ _ (fst _ _ h)) i) (expr_exact c d (snd _ _ (fst _ _ h)) i) (arms_exact as' bs (snd _ _ h) i)
  arms_exact _ _ h = absurd (cc)

  stmt_exact : (s t : Stmt) → alike_stmt s t ≡ true → s ≡ t
  stmt_exact Noop Noop h = refl
  stmt_exact (If a ss ts) (If b us vs) h = λ i. If (expr_exact a b (fst _ _ (fst _ _ h)) i) (stmts_exact ss us (snd _ _ (fst _ _ h)) i) (stmts_exact ts vs (snd _ _ h) i)
  stmt_exact (Switch a as' t) (Switch b bs u) h = λ i. Switch (expr_exact a b (fst _ _ (fst _ _ h)) i) (arms_exact as' bs (snd _ _ (fst _ _ h)) i) (table_exact t u (snd _ _ h) i)
  stmt_exact (While a ss) (While b us) h = λ i. While (expr_exact a b (fst _ _ h) i) (stmts_exact ss us (snd _ _ h) i)
  stmt_exact (Do n x a ss) (Do m y b us) h = λ i. Do (bool_exact n m (fst _ _ (fst _ _ (fst _ _ h))) i) (bool_exact x y (snd _ _ (fst _ _ (fst _ _ h))) i) (expr_exact a b (snd _ _ (fst _ _ h)) i) (stmts_exact ss us (snd _ _ h) i)
  stmt_exact (For x j a ss) (For y k b us) h = λ i. For (text_exact x y (fst _ _ (fst _ _ (fst _ _ h))) i) (type_exact j k (snd _ _ (fst _ _ (fst _ _ h))) i) (expr_exact a b (snd _ _ (fst _ _ h)) i) (stmts_exact ss us (snd _ _ h) i)
  stmt_exact (Var c x f a) (Var d y g b) h = λ i. Var (bool_exact c d (fst _ _ (fst _ _ (fst _ _ h))) i) (bool_exact x y (snd _ _ (fst _ _ (fst _ _ h))) i) (text_exact f g (snd _ _ (fst _ _ h)) i) (expr_exact a b (snd _ _ h) i)
  stmt_exact (Assignment o a c) (Assignment p b d) h = λ i. Assignment (operator_exact o p (number_exact _ _ (fst _ _ (fst _ _ h))) i) (expr_exact a b (snd _ _ (fst _ _ h)) i) (expr_exact c d (snd _ _ h) i)
  stmt_exact (FnCallStmt f a) (FnCallStmt g b) h = λ i. FnCallStmt (callee_exact f g (fst _ _ h) i) (exprs_exact a b (snd _ _ h) i)
  stmt_exact (Block ss) (Block us) h = ap Block (stmts_exact ss us h)
  stmt_exact (TryCatch a ss ts) (TryCatch b us vs) h = λ i. TryCatch (expr_exact a b (fst _ _ (fst _ _ h)) i) (stmts_exact ss us (snd _ _ (fst _ _ h)) i) (stmts_exact ts vs (snd _ _ h) i)
  stmt_exact (ExprStmt a) (ExprStmt b) h = ap ExprStmt (expr_exact a b h)
  stmt_exact (BreakLoop c x a) (BreakLoop d y b) h = λ i. BreakLoop (bool_exact c d (fst _ _ (fst _ _ h)) i) (bool_exact x y (snd _ _ (fst _ _ h)) i) (maybe_exact a b (snd _ _ h) i)
  stmt_exact (Return c x a) (Return d y b) h = λ i. Return (bool_exact c d (fst _ _ (fst _ _ h)) i) (bool_exact x y (snd _ _ (fst _ _ h)) i) (maybe_exact a b (snd _ _ h) i)
  stmt_exact (Import a x) (Import b y) h = λ i. Import (expr_exact a b (fst _ _ h) i) (text_exact x y (snd _ _ h) i)
  stmt_exact (Export a x) (Export b y) h = λ i. Export (text_exact a b (fst _ _ h) i) (text_exact x y (snd _ _ h) i)
  stmt_exact (Share a) (Share b) h = ap Share (texts_exact a b h)
  stmt_exact _ _ h = absurd (cc)

  stmts_exact : (ss us : Stmts) → alike_stmts ss us ≡ true → ss ≡ us
  stmts_exact no_stmts no_stmts h = refl
  stmts_exact (stmt a ss) (stmt b us) h = λ i. stmt (stmt_exact a b (fst _ _ h) i) (stmts_exact ss us (snd _ _ h) i)
  stmts_exact _ _ h = absurd (cc)

but_name_exact : (a b : Function) → alike_but_name a b ≡ true → nameless a ≡ nameless b
but_name_exact a b h = λ i. record {
  name = [];
  this_type = type_exact a.this_type b.this_type (fst _ _ (fst _ _ h)) i;
  params = texts_exact a.params b.params (snd _ _ (fst _ _ h)) i;
  body = stmts_exact a.body b.body (snd _ _ h) i;
}

function_exact : (a b : Function) → alike_function a b ≡ true → a ≡ b
function_exact a b h = λ i. record {
  name = text_exact a.name b.name (fst _ _ h) i;
  this_type = (but_name_exact a b (snd _ _ h) i).this_type;
  params = (but_name_exact a b (snd _ _ h) i).params;
  body = (but_name_exact a b (snd _ _ h) i).body;
}

functions_exact : (as' bs : List Function) → alike_functions as' bs ≡ true → as' ≡ bs
functions_exact [] [] h = refl
functions_exact (a ∷ as') (b ∷ bs) h = λ i. function_exact a b (fst _ _ h) i ∷ functions_exact as' bs (snd _ _ h) i
functions_exact [] (b ∷ bs) h = absurd (cc)
functions_exact (a ∷ as') [] h = absurd (cc)

script_exact : (a b : Script) → alike_script a b ≡ true → a ≡ b
script_exact a b h = λ i. record { statements = stmts_exact a.statements b.statements (fst _ _ h) i; functions = functions_exact a.functions b.functions (snd _ _ h) i }

-- ---- each is like itself

bool_itself : (a : Bool) → same_bool a a ≡ true
bool_itself true = refl
bool_itself false = refl

int_itself : (a : ℤ) → same_int a a ≡ true
int_itself (pos a) = (unsigned_Decides a a).1 refl
int_itself (negsuc a) = (unsigned_Decides a a).1 refl

number_itself : (a : ℕ) → (a == a) ≡ true
number_itself a = (unsigned_Decides a a).1 refl

text_itself : (a : Text) → same_text a a ≡ true
text_itself a = (bytes_eq-Decides a a).1 refl

texts_itself : (as' : List Text) → same_texts as' as' ≡ true
texts_itself [] = refl
texts_itself (a ∷ as') = both (text_itself a) (texts_itself as')

type_itself : (a : Option Text) → same_type a a ≡ true
type_itself None = refl
type_itself (Some a) = text_itself a

callee_itself : (a : Callee) → alike_callee a a ≡ true
callee_itself a = both (both (both (texts_itself a.namespace) (text_itself a.name)) (bool_itself a.captures)) (number_itself (token_number a.token))

flags_itself : (a : ChainFlags) → alike_flags a a ≡ true
flags_itself a = both (both (bool_itself a.negated) (bool_itself a.breaks)) (bool_itself a.exported)

property_itself : (a : PropertyNames) → alike_property a a ≡ true
property_itself a = both (both (text_itself a.getter) (text_itself a.setter)) (text_itself a.name)

range_itself : (a : SwitchRange) → alike_range a a ≡ true
range_itself a = both (both (both (bool_itself (is_inclusive a.range)) (int_itself (start_of a.range))) (int_itself (end_of a.range))) (number_itself a.arm)

ranges_itself : (as' : List SwitchRange) → alike_ranges as' as' ≡ true
ranges_itself [] = refl
ranges_itself (a ∷ as') = both (range_itself a) (ranges_itself as')

case_itself : (a : SwitchCase) → alike_case a a ≡ true
case_itself a = both (same_itself a.value) ((bytes_eq-Decides a.arms a.arms).1 refl)

cases_itself : (as' : List SwitchCase) → alike_cases as' as' ≡ true
cases_itself [] = refl
cases_itself (a ∷ as') = both (case_itself a) (cases_itself as')

default_itself : (a : Option ℕ) → alike_default a a ≡ true
default_itself None = refl
default_itself (Some a) = number_itself a

table_itself : (a : SwitchTable) → alike_table a a ≡ true
table_itself a = both (both (cases_itself a.cases) (ranges_itself a.ranges)) (default_itself a.default)

mutual
  expr_itself : (e : Expr) → alike_expr e e ≡ true
  expr_itself (DynamicConstant a) = same_itself a
  expr_itself (BoolConstant a) = bool_itself a
  expr_itself (IntegerConstant a) = int_itself a
  expr_itself (FloatConstant a) = number_itself a
  expr_itself (CharConstant a) = number_itself a
  expr_itself (StringConstant a) = text_itself a
  expr_itself UnitConstant = refl
  expr_itself (InterpolatedString a) = exprs_itself a
  expr_itself (ArrayOf a) = exprs_itself a
  expr_itself (MapOf a k) = both (pairs_itself a) (texts_itself k)
  expr_itself (Variable m a) = both (texts_itself m) (text_itself a)
  expr_itself ThisPtr = refl
  expr_itself (Property a) = property_itself a
  expr_itself (MethodCall f a) = both (callee_itself f) (exprs_itself a)
  expr_itself (BlockExpr a) = stmts_itself a
  expr_itself (FnCall f a) = both (callee_itself f) (exprs_itself a)
  expr_itself (Dot k a c) = both (both (flags_itself k) (expr_itself a)) (expr_itself c)
  expr_itself (Index k a c) = both (both (flags_itself k) (expr_itself a)) (expr_itself c)
  expr_itself (And a) = exprs_itself a
  expr_itself (Or a) = exprs_itself a
  expr_itself (Coalesce a) = exprs_itself a

  exprs_itself : (as' : Exprs) → alike_exprs as' as' ≡ true
  exprs_itself no_exprs = refl
  exprs_itself (expr a as') = both (expr_itself a) (exprs_itself as')

  pairs_itself : (as' : Pairs) → alike_pairs as' as' ≡ true
  pairs_itself no_pairs = refl
  pairs_itself (pair x a as') = both (both (text_itself x) (expr_itself a)) (pairs_itself as')

  maybe_itself : (a : MaybeExpr) → alike_maybe a a ≡ true
  maybe_itself no_expr = refl
  maybe_itself (an_expr a) = expr_itself a

  arms_itself : (as' : Arms) → alike_arms as' as' ≡ true
  arms_itself no_arms = refl
  arms_itself (arm a c as') = both (both (expr_itself a) (expr_itself c)) (arms_itself as')

  stmt_itself : (s : Stmt) → alike_stmt s s ≡ true
  stmt_itself Noop = refl
  stmt_itself (If a ss ts) = both (both (expr_itself a) (stmts_itself ss)) (stmts_itself ts)
  stmt_itself (Switch a as' t) = both (both (expr_itself a) (arms_itself as')) (table_itself t)
  stmt_itself (While a ss) = both (expr_itself a) (stmts_itself ss)
  stmt_itself (Do n x a ss) = both (both (both (bool_itself n) (bool_itself x)) (expr_itself a)) (stmts_itself ss)
  stmt_itself (For x j a ss) = both (both (both (text_itself x) (type_itself j)) (expr_itself a)) (stmts_itself ss)
  stmt_itself (Var c x f a) = both (both (both (bool_itself c) (bool_itself x)) (text_itself f)) (expr_itself a)
  stmt_itself (Assignment o a c) = both (both (number_itself (operator_number o)) (expr_itself a)) (expr_itself c)
  stmt_itself (FnCallStmt f a) = both (callee_itself f) (exprs_itself a)
  stmt_itself (Block ss) = stmts_itself ss
  stmt_itself (TryCatch a ss ts) = both (both (expr_itself a) (stmts_itself ss)) (stmts_itself ts)
  stmt_itself (ExprStmt a) = expr_itself a
  stmt_itself (BreakLoop c x a) = both (both (bool_itself c) (bool_itself x)) (maybe_itself a)
  stmt_itself (Return c x a) = both (both (bool_itself c) (bool_itself x)) (maybe_itself a)
  stmt_itself (Import a x) = both (expr_itself a) (text_itself x)
  stmt_itself (Export a x) = both (text_itself a) (text_itself x)
  stmt_itself (Share a) = texts_itself a

  stmts_itself : (ss : Stmts) → alike_stmts ss ss ≡ true
  stmts_itself no_stmts = refl
  stmts_itself (stmt a ss) = both (stmt_itself a) (stmts_itself ss)

but_name_itself : (a : Function) → alike_but_name a a ≡ true
but_name_itself a = both (both (type_itself a.this_type) (texts_itself a.params)) (stmts_itself a.body)

function_itself : (a : Function) → alike_function a a ≡ true
function_itself a = both (text_itself a.name) (but_name_itself a)

functions_itself : (as' : List Function) → alike_functions as' as' ≡ true
functions_itself [] = refl
functions_itself (a ∷ as') = both (function_itself a) (functions_itself as')

script_itself : (a : Script) → alike_script a a ≡ true
script_itself a = both (stmts_itself a.statements) (functions_itself a.functions)

-- ---- answers by cases are exact

pub same_exprs : (b : Bool) (e f : Expr) → b ≡ alike_expr e f → IsTrue b ↔ (e ≡ f)
same_exprs b e f h = (λ p. expr_exact e f (sym h ∙ p), λ p. h ∙ ap (alike_expr e) (sym p) ∙ expr_itself e)

pub same_statements : (b : Bool) (s t : Stmt) → b ≡ alike_stmt s t → IsTrue b ↔ (s ≡ t)
same_statements b s t h = (λ p. stmt_exact s t (sym h ∙ p), λ p. h ∙ ap (alike_stmt s) (sym p) ∙ stmt_itself s)

pub same_lists : (b : Bool) (s t : Stmts) → b ≡ alike_stmts s t → IsTrue b ↔ (s ≡ t)
same_lists b s t h = (λ p. stmts_exact s t (sym h ∙ p), λ p. h ∙ ap (alike_stmts s) (sym p) ∙ stmts_itself s)

pub same_functions : (b : Bool) (f g : Function) → b ≡ alike_function f g → IsTrue b ↔ (f ≡ g)
same_functions b f g h = (λ p. function_exact f g (sym h ∙ p), λ p. h ∙ ap (alike_function f) (sym p) ∙ function_itself f)

pub same_but_names : (b : Bool) (f g : Function) → b ≡ alike_but_name f g → IsTrue b ↔ (nameless f ≡ nameless g)
same_but_names b f g h = (λ p. but_name_exact f g (sym h ∙ p), λ p. h ∙ ap (alike_but_name (nameless f)) (sym p) ∙ but_name_itself (nameless f))

pub same_scripts : (b : Bool) (s t : Script) → b ≡ alike_script s t → IsTrue b ↔ (s ≡ t)
same_scripts b s t h = (λ p. script_exact s t (sym h ∙ p), λ p. h ∙ ap (alike_script s) (sym p) ∙ script_itself s)
