-- Statements without blocks, and what statements have between their parts.
use Rattle.std.proofs.Common.{◌≡◌, ◌==◌, ◌∙◌, Bool, true, false, Some, None, List, [], ◌∷◌, length, arith, sym, subst, refl, codes}
use Rattle.std.proofs.lemmas.Bool.Decides.{nat_tests}
use Rattle.base_text.specs.Text.{Text}
use Rattle.base_tokens.specs.Assignments.{is_by_operator, is_no_equals}
use Rattle.base_tokens.specs.Symbols.{token_text}
use Rattle.base_tokens.specs.Tokens.{base_of}
use Rattle.base_tokens.specs.declared.op_assignment.OpAssignment.{OpAssignment}
use Rattle.base_tokens.specs.declared.token.Token.{Token}
use Rattle.base_tokens.specs.declared.token.Token.TheVariants as token
use Rattle.rhai_base.specs.Builtin.{operator_of}
use Rattle.theory_meaning.specs.Tree.{BreakLoop, Expr, MaybeExpr, Return, UnitConstant, Var, Variable, no_expr}
use Rattle.theory_grammar.specs.Words.{Letters, Next, Sign, is_name}
use Rattle.theory_grammar.specs.Statements.{Parted, ReadsAlias, ReadsAssign, ReadsCarried, ReadsCaught, ReadsLoopNames, ReadsName, ReadsSimple, ReadsTop, ReadsValue, ReadsVar, a_name, a_value, alias, assigned, broken, by_operator, carried, caught, continued, counted, declared, declaring, evaluated, exported, imported, leaving, left, named_export, no_alias, no_value, not_carried, nothing, semicolon, straight, uncounted, unnamed, var}

pub name_at : {ws rest : Text} (x : Text) → is_name x ≡ true → Next ws (Letters x) rest → ReadsName ws x rest
name_at x h w = a_name x h w

no_operator : (t : Token) → is_no_equals t ≡ false → operator_of t ≡ None
no_operator token.Equals h = refl
no_operator t h = absurd (grind (arith, h))

pub straight_at : {ws rest : Text} (a : OpAssignment) → is_by_operator a ≡ false → Next ws (Sign (token_text token.Equals)) rest → ReadsAssign ws (operator_of a.op) rest
straight_at {ws = ws} {rest = rest} a h w = subst (λ op. ReadsAssign ws op rest) (sym (no_operator a.op h)) (straight w)

pub assign_at : {ws rest : Text} (t base op : Token) → base_of t ≡ Some base → base ≡ op → Next ws (Sign (token_text t)) rest → ReadsAssign ws (operator_of op) rest
assign_at {ws = ws} {rest = rest} t base op h is w = subst (λ x. ReadsAssign ws (operator_of x) rest) is (by_operator t base h w)

no_alias_by : {ws : Text} (x : Text) → true ≡ (length x == 0) → ReadsAlias ws x ws
no_alias_by [] h = no_alias
no_alias_by (c ∷ x) h = absurd (grind (arith, nat_tests))

pub no_alias_at : {ws : Text} (x : Text) (r : Bool) → r ≡ (length x == 0) → r ≡ true → ReadsAlias ws x ws
no_alias_at x r h k = no_alias_by x (sym k ∙ h)

pub caught_at : {ws mid behind rest x : Text} (path : List Text) → path ≡ [] → Next ws (Sign (codes "(")) mid → ReadsName mid x behind → Next behind (Sign (codes ")")) rest → ReadsCaught ws (Variable path x) rest
caught_at {ws = ws} {rest = rest} {x = x} path is v n w = subst (λ p. ReadsCaught ws (Variable p x) rest) (sym is) (caught v n w)

pub ruleset part_steps = (nothing, semicolon, name_at, straight_at, assign_at, alias, no_alias_at, uncounted, counted, caught_at, unnamed)

pub var_at : {ws mid behind rest x : Text} {e : Expr} (constant : Bool) → Next ws (Letters (declaring constant)) mid → ReadsName mid x behind → ReadsValue behind e rest → ReadsVar ws constant x e rest
var_at constant w n v = var constant w n v

pub no_value_at : {ws : Text} (e : Expr) → e ≡ UnitConstant → ReadsValue ws e ws
no_value_at {ws = ws} e is = subst (λ x. ReadsValue ws x ws) (sym is) no_value

pub declared_at : {ws rest x : Text} {e : Expr} (constant read seen : Bool) → read ≡ constant → seen ≡ false → ReadsVar ws read x e rest → ReadsSimple ws (Var constant seen x e) rest
declared_at {ws = ws} {rest = rest} {x = x} {e = e} constant read seen is h r = subst (λ b. ReadsSimple ws (Var constant b x e) rest) (sym h) (subst (λ b. ReadsSimple ws (Var b false x e) rest) is (declared r))

pub exported_at : {ws mid rest x : Text} {e : Expr} (constant read seen : Bool) → read ≡ constant → seen ≡ true → Next ws (Letters (codes "export")) mid → ReadsVar mid read x e rest → ReadsTop ws (Var constant seen x e) rest
exported_at {ws = ws} {rest = rest} {x = x} {e = e} constant read seen is h w r = subst (λ b. ReadsTop ws (Var constant b x e) rest) (sym h) (subst (λ b. ReadsTop ws (Var b true x e) rest) is (exported w r))

pub left_at : {ws mid rest : Text} {e : MaybeExpr} (throws read seen : Bool) → read ≡ throws → seen ≡ false → Next ws (Letters (leaving read)) mid → ReadsCarried mid e rest → ReadsSimple ws (Return throws seen e) rest
left_at {ws = ws} {rest = rest} {e = e} throws read seen is h w r = subst (λ b. ReadsSimple ws (Return throws b e) rest) (sym h) (subst (λ b. ReadsSimple ws (Return b false e) rest) is (left read w r))

pub broken_at : {ws mid rest : Text} {e : MaybeExpr} (breaks seen : Bool) → breaks ≡ true → seen ≡ false → Next ws (Letters (codes "break")) mid → ReadsCarried mid e rest → ReadsSimple ws (BreakLoop breaks seen e) rest
broken_at {ws = ws} {rest = rest} {e = e} breaks seen is h w r = subst (λ b. ReadsSimple ws (BreakLoop breaks b e) rest) (sym h) (subst (λ b. ReadsSimple ws (BreakLoop b false e) rest) (sym is) (broken w r))

pub continued_at : {ws rest : Text} (breaks seen : Bool) → breaks ≡ false → seen ≡ false → Next ws (Letters (codes "continue")) rest → ReadsSimple ws (BreakLoop breaks seen no_expr) rest
continued_at {ws = ws} {rest = rest} breaks seen is h w = subst (λ b. ReadsSimple ws (BreakLoop breaks b no_expr) rest) (sym h) (subst (λ b. ReadsSimple ws (BreakLoop b false no_expr) rest) (sym is) (continued w))

pub ruleset simple_steps = (evaluated, var_at, a_value, no_value_at, declared_at, exported_at, assigned, left_at, broken_at, continued_at, carried, not_carried, imported, named_export)
