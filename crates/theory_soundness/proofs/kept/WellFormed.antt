-- A well-formed tree stays well-formed.
use Rattle.std.proofs.Common.{◌≡◌, Bool, true, false, Some, None, refl, ap, subst}
use Rattle.std.specs.Prelude.{◌||◌, ◌&&◌, not, if◌then◌else◌}
use Rattle.rhai_base.specs.Value.{Value, UnitV, PointerV}
use Rattle.theory_meaning.specs.Constants.{constant_for}
use Rattle.theory_meaning.specs.Faults.{NoOperands, ChainShape, AssignTarget, SwitchFault, unless, call_fault, map_fault, is_member_role, is_inside_chain, ◌then◌, IsFaultless, AreWellFormed}
use Rattle.theory_meaning.specs.Shape.{is_argument, is_rest, is_table}
use Rattle.theory_meaning.specs.Tree.{ChainFlags, Expr, Stmts}
use Rattle.theory_meaning.specs.Walk.{Node, OfExpr, Around, whole}
use Rattle.theory_rewriting.specs.Context.{Context, ListKind}
use Rattle.theory_rewriting.specs.Rewriting.{StmtsTo}
use Rattle.theory_rewriting.specs.Parts.{constant_of, link}
use Rattle.theory_rewriting.proofs.Plain.{is_plain_value}
use Rattle.theory_rewriting.proofs.rules.Lasting.{SameNode, same_call, same_call_statement, same_and, same_or, same_coalesce, same_switch, same_map, same_method, same_dot, same_index, same_assignment, same_try, same_break, Lasting}
use Rattle.theory_soundness.proofs.kept.Lasting.{stmts_keep}

constant_faultless : (l : Bool) (v : Value) → is_plain_value v ≡ true → IsFaultless (whole l) (OfExpr (constant_for v))
constant_faultless l (PointerV f vs) p = absurd cc
constant_faultless l _ p = refl

table_again : (b b' : Bool) → (b ≡ true → b' ≡ true) → unless b SwitchFault ≡ None → unless b' SwitchFault ≡ None
table_again true b' e h = ap (λ x. unless x SwitchFault) (e refl)
table_again false b' e h = absurd (let z : Some SwitchFault ≡ None = h in cc)

faultless_again : (a : Around) {n n' : Node} → SameNode n n' → IsFaultless a n → IsFaultless a n'
faultless_again a (same_call {c = c} e) h = subst (λ n. call_fault c n ≡ None) e h
faultless_again a (same_call_statement {c = c} e) h = subst (λ n. call_fault c n ≡ None) e h
faultless_again a (same_and e) h = ap (λ b. unless b NoOperands) e
faultless_again a (same_or e) h = ap (λ b. unless b NoOperands) e
faultless_again a (same_coalesce e) h = ap (λ b. unless b NoOperands) e
faultless_again a (same_switch {as' = as'} {bs = bs} {t = t} {t' = t'} e) h = table_again (is_table as' t) (is_table bs t') e h
faultless_again a (same_map {template = template} e) h = subst (λ ks. map_fault ks template ≡ None) e h
faultless_again a (same_method {c = c} e) h = subst (λ n. (unless (is_member_role a.role) ChainShape then call_fault c n) ≡ None) e h
faultless_again a (same_dot e) h = subst (λ b. unless (is_inside_chain a.role || b) ChainShape ≡ None) e h
faultless_again a (same_index e) h = subst (λ b. unless (is_inside_chain a.role || b) ChainShape ≡ None) e h
faultless_again a (same_assignment e q) h = subst (λ b. unless b AssignTarget ≡ None) e h
faultless_again a same_try h = h
faultless_again a same_break h = h
faultless_again a _ h = refl

value_faultless : (l : Bool) (v : Value) → IsFaultless (whole l) (OfExpr (constant_of v))
value_faultless l UnitV = refl
value_faultless l _ = refl

-- the rest of a chain fits its second step as it fitted the first
rest_fits : (x y : Bool) → unless (x && y) ChainShape ≡ None → unless y ChainShape ≡ None
rest_fits true y h = h
rest_fits false true h = refl
rest_fits false false h = h

fits_onward : (dot dot' : Bool) (f m : ChainFlags) (a r : Expr) → f.breaks ≡ false → unless (is_rest dot f.breaks (link dot' m a r)) ChainShape ≡ None → unless (is_rest dot' m.breaks r) ChainShape ≡ None
fits_onward dot true f m a r q h = rest_fits (is_argument dot a) (is_rest true m.breaks r) (subst (λ b. unless (if b then not dot else (is_argument dot a && is_rest true m.breaks r)) ChainShape ≡ None) q h)
fits_onward dot false f m a r q h = rest_fits (is_argument dot a) (is_rest false m.breaks r) (subst (λ b. unless (if b then not dot else (is_argument dot a && is_rest false m.breaks r)) ChainShape ≡ None) q h)

onward_faultless : (l dot dot' : Bool) (f m : ChainFlags) (e a e' r : Expr) → f.breaks ≡ false → IsFaultless (whole l) (OfExpr (link dot f e (link dot' m a r))) → (b : Around) → IsFaultless b (OfExpr (link dot' m a r)) → IsFaultless (whole l) (OfExpr (link dot' m e' r))
onward_faultless l true true f m e a e' r q h b j = fits_onward true true f m a r q h
onward_faultless l true false f m e a e' r q h b j = fits_onward true false f m a r q h
onward_faultless l false true f m e a e' r q h b j = fits_onward false true f m a r q h
onward_faultless l false false f m e a e' r q h b j = fits_onward false false f m a r q h

faultless_lasts : (l : Bool) → Lasting IsFaultless l
faultless_lasts l = record {
  again = λ {a} s h. faultless_again a s h;
  constant = constant_faultless l;
  value = value_faultless l;
  pointer = λ ns x f h. refl;
  noop = refl;
  branching = λ e a b. refl;
  block = λ ss. refl;
  expression = λ e. refl;
  onward = onward_faultless l;
  conjunction = λ es h. ap (λ b. unless b NoOperands) h;
  call = λ c es h. h;
  call_statement = λ c es h. h;
}

pub stmts_well : {k : Context} {m : ListKind} {d d' : Bool} {ss ss' : Stmts} (l : Bool) → StmtsTo k m d d' ss ss' → AreWellFormed (whole l) ss → AreWellFormed (whole l) ss'
stmts_well l p h = stmts_keep IsFaultless faultless_lasts l p h
