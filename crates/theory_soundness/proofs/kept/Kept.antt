-- What is asked of every node of a script lasts over its rewriting: it stays plain and well-formed, its left sides places,
-- and no call that captures is made anew.
use Rattle.std.proofs.Common.{◌≡◌, ◌≤◌, ℕ, Bool, true, false, List, [], ◌∷◌, refl, sym, ap, ◌∙◌, arith}
use Rattle.std.specs.Prelude.{◌&&◌, not}
use Rattle.rhai_base.specs.Value.{Value, UnitV, PointerV}
use Rattle.theory_meaning.specs.Constants.{constant_for}
use Rattle.theory_meaning.specs.Engine.{Engine}
use Rattle.theory_meaning.specs.Faults.{is_reserved, AreWellFormedFunctions, IsWellFormedScript}
use Rattle.theory_meaning.specs.Plain.{all_true, is_plain_node, is_plain}
use Rattle.theory_meaning.specs.Tree.{ChainFlags, Callee, Expr, Stmts, Function, Script}
use Rattle.theory_meaning.specs.Walk.{Node, OfExpr, Around, around_spot, around_parts, outermost, every, throughout, over_stmts, over_functions, over_script, arm_at, arms_at, listed}
use Rattle.theory_meaning.specs.Weight.{weight}
use Rattle.theory_meaning.proofs.PureTrees.{split}
use Rattle.theory_meaning.proofs.Walk.{Alongside, stmts_alongside, every_throughout}
use Rattle.theory_rewriting.specs.Context.{Context, ListKind, ListContext}
use Rattle.theory_soundness.specs.Kept.{AreNoHeavier, Keeps}
use Rattle.theory_rewriting.specs.Known.{Known}
use Rattle.theory_rewriting.specs.Parts.{constant_of, link}
use Rattle.theory_rewriting.specs.Rewriting.{RestTo}
use Rattle.theory_rewriting.specs.Scripts.{Captures, is_capturing, captures_nothing, assigns_to_place, FunctionTo, FunctionsTo, no_functions, functions, ScriptTo}
use Rattle.theory_rewriting.proofs.Plain.{is_plain_value}
use Rattle.theory_rewriting.proofs.Weights.{stmts_fall}
use Rattle.theory_rewriting.proofs.rules.Lasting.{SameNode, same_call, same_assignment, Lasting}
use Rattle.theory_soundness.proofs.kept.Lasting.{stmts_keep}
use Rattle.theory_soundness.proofs.kept.OperatorCalls.{calls_stay}
use Rattle.theory_soundness.proofs.kept.WellFormed.{stmts_well}

-- ---- a test of every node, and where it stands

abbrev Agree : Bool → (Around → Type 0) → Type 0
Agree b q = (a : Around) → (b ≡ true → q a) × (q a → b ≡ true)

both_hold : (b c : Bool) → b ≡ true → c ≡ true → b && c ≡ true
both_hold b c h k = ap (λ x. x && c) h ∙ k

listed_true : (bs : List Bool) (qs : List (Around → Type 0)) → ((i : ℕ) → Agree (arm_at true bs i) (arm_at (λ a. Unit {0}) qs i)) → (is : List ℕ) → Agree (arms_at true (λ p q. p && q) bs is) (arms_at (λ a. Unit {0}) (λ p q a. p a × q a) qs is)
listed_true bs qs h [] a = ((λ u. tt), (λ u. refl))
listed_true bs qs h (i ∷ is) a =
    let z = listed_true bs qs h is a in
    ((λ x. let y = split (arm_at true bs i) (arms_at true (λ p q. p && q) bs is) x in ((h i a).0 y.0, z.0 y.1)), (λ x. both_hold _ _ ((h i a).1 x.0) (z.1 x.1)))

true_throughout : (P : Node → Bool) → Alongside Agree (all_true P) (throughout (λ a n. P n ≡ true))
true_throughout P = record {
  none = λ a. ((λ u. tt), (λ u. refl));
  both = λ b c q r h k a. ((λ x. let y = split b c x in ((h a).0 y.0, (k a).0 y.1)), (λ x. both_hold b c ((h a).1 x.0) ((k a).1 x.1)));
  node = λ n b q h a. ((λ x. let y = split (P n) b x in (y.0, (h (around_parts n a)).0 y.1)), (λ x. both_hold (P n) b x.0 ((h (around_parts n a)).1 x.1)));
  within = λ s b q h a. h (around_spot s a);
  arms = λ t bs qs h. listed_true bs qs h (listed t);
}

-- ---- scripts

module _ (P : Node → Bool) (lasts : (l : Bool) → Lasting (λ a n. P n ≡ true) l) where
  list_true : {k : ListContext} {m : ListKind} {u d d' : Bool} {ss ss' : Stmts} → RestTo k m u d d' ss ss' → over_stmts (all_true P) ss ≡ true → over_stmts (all_true P) ss' ≡ true
  list_true {ss = ss} {ss' = ss'} to h =
      let before = stmts_alongside Agree (all_true P) (throughout (λ a n. P n ≡ true)) (true_throughout P) ss outermost in
      let after = stmts_alongside Agree (all_true P) (throughout (λ a n. P n ≡ true)) (true_throughout P) ss' outermost in
      after.1 (stmts_keep (λ a n. P n ≡ true) lasts false to (before.0 h))

  functions_true : {k : Context} {fs fs' : List Function} → FunctionsTo k fs fs' → over_functions (all_true P) fs ≡ true → over_functions (all_true P) fs' ≡ true
  functions_true no_functions h = h
  functions_true (functions {f = f} {f' = f'} {fs = fs} {fs' = fs'} p q) h =
      let z = split (over_stmts (all_true P) f.body) (over_functions (all_true P) fs) h in
      both_hold _ _ (list_true p.body z.0) (functions_true q z.1)

  script_true : {engine : Engine} {top inner : List Known} {p p' : Script} → ScriptTo engine top inner p p' → over_script (all_true P) p ≡ true → over_script (all_true P) p' ≡ true
  script_true {p = p} to h =
      let z = split (over_stmts (all_true P) p.statements) (over_functions (all_true P) p.functions) h in
      both_hold _ _ (list_true to.statements z.0) (functions_true to.functions z.1)

-- ---- plain scripts

plain_again : {n n' : Node} → SameNode n n' → is_plain_node n ≡ true → is_plain_node n' ≡ true
plain_again (same_call e) h = h
plain_again _ h = h

constant_plain : (v : Value) → is_plain_value v ≡ true → is_plain_node (OfExpr (constant_for v)) ≡ true
constant_plain (PointerV f vs) p = absurd cc
constant_plain _ p = refl

value_plain : (v : Value) → is_plain_node (OfExpr (constant_of v)) ≡ true
value_plain UnitV = refl
value_plain _ = refl

onward_plain : (dot dot' : Bool) (f m : ChainFlags) (e a e' r : Expr) → f.breaks ≡ false → is_plain_node (OfExpr (link dot f e (link dot' m a r))) ≡ true → (b : Around) → is_plain_node (OfExpr (link dot' m a r)) ≡ true → is_plain_node (OfExpr (link dot' m e' r)) ≡ true
onward_plain dot true f m e a e' r q h b j = j
onward_plain dot false f m e a e' r q h b j = j

plain_lasts : (l : Bool) → Lasting (λ a n. is_plain_node n ≡ true) l
plain_lasts l = record {
  again = plain_again;
  constant = constant_plain;
  value = value_plain;
  pointer = λ ns x f h. refl;
  noop = refl;
  branching = λ e a b. refl;
  block = λ ss. refl;
  expression = λ e. refl;
  onward = onward_plain;
  conjunction = λ es h. refl;
  call = λ c es h. h;
  call_statement = λ c es h. h;
}

pub plain_stays : {engine : Engine} {top inner : List Known} {p p' : Script} → ScriptTo engine top inner p p' → is_plain p ≡ true → is_plain p' ≡ true
plain_stays to h = script_true is_plain_node plain_lasts to h

-- ---- left sides that are places

place_again : {n n' : Node} → SameNode n n' → assigns_to_place n ≡ true → assigns_to_place n' ≡ true
place_again (same_assignment e q) h = sym q ∙ h
place_again _ h = refl

constant_no_assignment : (v : Value) → is_plain_value v ≡ true → assigns_to_place (OfExpr (constant_for v)) ≡ true
constant_no_assignment v p = refl

places_last : (l : Bool) → Lasting (λ a n. assigns_to_place n ≡ true) l
places_last l = record {
  again = place_again;
  constant = constant_no_assignment;
  value = λ v. refl;
  pointer = λ ns x f h. refl;
  noop = refl;
  branching = λ e a b. refl;
  block = λ ss. refl;
  expression = λ e. refl;
  onward = λ dot dot' f m e a e' r q h b j. refl;
  conjunction = λ es h. refl;
  call = λ c es h. refl;
  call_statement = λ c es h. refl;
}

pub places_stay : {engine : Engine} {top inner : List Known} {p p' : Script} → ScriptTo engine top inner p p' → over_script (all_true assigns_to_place) p ≡ true → over_script (all_true assigns_to_place) p' ≡ true
places_stay to h = script_true assigns_to_place places_last to h

-- ---- calls that capture

apart_again : {n n' : Node} → SameNode n n' → not (is_capturing n) ≡ true → not (is_capturing n') ≡ true
apart_again (same_call e) h = h
apart_again _ h = h

constant_apart : (v : Value) → is_plain_value v ≡ true → not (is_capturing (OfExpr (constant_for v))) ≡ true
constant_apart (PointerV f vs) p = absurd cc
constant_apart _ p = refl

value_apart : (v : Value) → not (is_capturing (OfExpr (constant_of v))) ≡ true
value_apart UnitV = refl
value_apart _ = refl

onward_apart : (dot dot' : Bool) (f m : ChainFlags) (e a e' r : Expr) → f.breaks ≡ false → not (is_capturing (OfExpr (link dot f e (link dot' m a r)))) ≡ true → (b : Around) → not (is_capturing (OfExpr (link dot' m a r))) ≡ true → not (is_capturing (OfExpr (link dot' m e' r))) ≡ true
onward_apart dot true f m e a e' r q h b j = refl
onward_apart dot false f m e a e' r q h b j = refl

apart_lasts : (l : Bool) → Lasting (λ a n. not (is_capturing n) ≡ true) l
apart_lasts l = record {
  again = apart_again;
  constant = constant_apart;
  value = value_apart;
  pointer = λ ns x f h. refl;
  noop = refl;
  branching = λ e a b. refl;
  block = λ ss. refl;
  expression = λ e. refl;
  onward = onward_apart;
  conjunction = λ es h. refl;
  call = λ c es h. h;
  call_statement = λ c es h. h;
}

pub captures_nothing_still : {engine : Engine} {top inner : List Known} {p p' : Script} → ScriptTo engine top inner p p' → captures_nothing p ≡ true → captures_nothing p' ≡ true
captures_nothing_still to h = script_true (λ n. not (is_capturing n)) apart_lasts to h

module _ (Q : Callee → Type 0) where
  captures_again : {n n' : Node} → SameNode n n' → Captures Q n → Captures Q n'
  captures_again (same_call e) h = h
  captures_again _ h = h

  constant_captures : (v : Value) → is_plain_value v ≡ true → Captures Q (OfExpr (constant_for v))
  constant_captures (PointerV f vs) p = absurd cc
  constant_captures _ p = tt

  value_captures : (v : Value) → Captures Q (OfExpr (constant_of v))
  value_captures UnitV = tt
  value_captures _ = tt

  onward_captures : (dot dot' : Bool) (f m : ChainFlags) (e a e' r : Expr) → f.breaks ≡ false → Captures Q (OfExpr (link dot f e (link dot' m a r))) → (b : Around) → Captures Q (OfExpr (link dot' m a r)) → Captures Q (OfExpr (link dot' m e' r))
  onward_captures dot true f m e a e' r q h b j = tt
  onward_captures dot false f m e a e' r q h b j = tt

  captures_last : (l : Bool) → Lasting (λ a n. Captures Q n) l
  captures_last l = record {
    again = captures_again;
    constant = constant_captures;
    value = value_captures;
    pointer = λ ns x f h z. absurd (let y : false ≡ true = z in cc);
    noop = tt;
    branching = λ e a b. tt;
    block = λ ss. tt;
    expression = λ e. tt;
    onward = onward_captures;
    conjunction = λ es h. tt;
    call = λ c es h. h;
    call_statement = λ c es h. h;
  }

  -- so none is made anew: Q may say which there were
  pub none_captures_anew : {k : ListContext} {m : ListKind} {u d d' : Bool} {ss ss' : Stmts} → RestTo k m u d d' ss ss' → over_stmts (every (Captures Q)) ss → over_stmts (every (Captures Q)) ss'
  none_captures_anew {ss = ss} {ss' = ss'} to h =
      let before = stmts_alongside (λ p q. (a : Around) → (p → q a) × (q a → p)) (every (Captures Q)) (throughout (λ a n. Captures Q n)) (every_throughout (Captures Q)) ss outermost in
      let after = stmts_alongside (λ p q. (a : Around) → (p → q a) × (q a → p)) (every (Captures Q)) (throughout (λ a n. Captures Q n)) (every_throughout (Captures Q)) ss' outermost in
      after.1 (stmts_keep (λ a n. Captures Q n) captures_last false to (before.0 h))

  functions_capture : {k : Context} {fs fs' : List Function} → FunctionsTo k fs fs' → over_functions (every (Captures Q)) fs → over_functions (every (Captures Q)) fs'
  functions_capture no_functions h = h
  functions_capture (functions p q) h = (none_captures_anew p.body h.0, functions_capture q h.1)

  pub no_capture_anew : {engine : Engine} {top inner : List Known} {p p' : Script} → ScriptTo engine top inner p p' → over_script (every (Captures Q)) p → over_script (every (Captures Q)) p'
  no_capture_anew to h = (none_captures_anew to.statements h.0, functions_capture to.functions h.1)

-- ---- well-formed scripts

functions_well : {k : Context} {fs fs' : List Function} → FunctionsTo k fs fs' → AreWellFormedFunctions fs → AreWellFormedFunctions fs'
functions_well no_functions h = h
functions_well (functions p q) h = (ap is_reserved p.name ∙ h.0, stmts_well false p.body h.1, functions_well q h.2)

pub well_formed_stays : {engine : Engine} {top inner : List Known} {p p' : Script} → ScriptTo engine top inner p p' → IsWellFormedScript p → IsWellFormedScript p'
well_formed_stays to h = (stmts_well false to.statements h.0, functions_well to.functions h.1)

-- ---- weights

pub body_lighter : {k : Context} {f f' : Function} → FunctionTo k f f' → weight f'.body ≤ weight f.body
body_lighter p = omega (arith, stmts_fall p.body)

pub statements_lighter : {engine : Engine} {top inner : List Known} {p p' : Script} → ScriptTo engine top inner p p' → weight p'.statements ≤ weight p.statements
statements_lighter to = omega (arith, stmts_fall to.statements)

-- ---- all of it

bodies_lighter : {k : Context} {fs fs' : List Function} → FunctionsTo k fs fs' → AreNoHeavier fs fs'
bodies_lighter no_functions = tt
bodies_lighter (functions p q) = (body_lighter p, bodies_lighter q)

pub script_keeps : {engine : Engine} {top inner : List Known} {p p' : Script} → ScriptTo engine top inner p p' → Keeps p p'
script_keeps to = record {
  well_formed = well_formed_stays to;
  plain = plain_stays to;
  places = places_stay to;
  captures = λ Q. no_capture_anew (λ c. Q c ≡ true) to;
  operators = calls_stay to.statements;
  statements = statements_lighter to;
  functions = bodies_lighter to.functions;
}
