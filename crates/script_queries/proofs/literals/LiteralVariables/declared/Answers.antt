use Rattle.std.proofs.Common.{◌≡◌, Bool, Some, if◌then◌else◌, sym, ap, ◌∙◌}
use Rattle.std.specs.Option.{option_map}
use Rattle.rhai_base.specs.Reading.{value_of}
use Rattle.theory_meaning.specs.Constants.{literal_value}
use Rattle.theory_meaning.specs.Tree.{Var}
use Rattle.ast_types.specs.Reading.{expr_of, is_const, is_exported}
use Rattle.script_queries.specs.Literals.{sought_at}
use Rattle.script_queries.proofs.Seeking.{tries_refused, unwanted, wanted_found, wanted_none, wanted_refused}
use Rattle.script_queries.proofs.literals.LiteralVariables.declared.Goals as goal

pub returns-then-not-wants : goal.returns-then-not-wants
returns-then-not-wants c =
    let self = c.args.self.now in
    let wants : c.wants.result ≡ (if is_const c.args.options then self.constants else self.variables) = c.wants.ensures ∙ ap (λ (b : Bool). if b then self.constants else self.variables) c.declares_constant-constant.ensures in
    unwanted self.constants self.variables (is_const c.args.options) (is_exported c.args.options) c.args.parts.now.0.name (expr_of c.args.parts.now.1) c.wants.result wants c.if-not-wants.true

pub returns-in_err-value : goal.returns-in_err-value
returns-in_err-value c =
    let self = c.args.self.now in
    let x = c.args.parts.now.0.name in
    let e = expr_of c.args.parts.now.1 in
    let wants : c.wants.result ≡ (if is_const c.args.options then self.constants else self.variables) = c.wants.ensures ∙ ap (λ (b : Bool). if b then self.constants else self.variables) c.declares_constant-constant.ensures in
    tries_refused c.from_residual.result (sought_at self.constants self.variables (Var (is_const c.args.options) (is_exported c.args.options) x e)) c.from_residual.ensures.0
    (wanted_refused self.constants self.variables (is_const c.args.options) (is_exported c.args.options) x e c.wants.result wants c.if-not-wants.false)

pub returns-in-Some : goal.returns-in-Some
returns-in-Some c =
    let self = c.args.self.now in
    let x = c.args.parts.now.0.name in
    let e = expr_of c.args.parts.now.1 in
    let wants : c.wants.result ≡ (if is_const c.args.options then self.constants else self.variables) = c.wants.ensures ∙ ap (λ (b : Bool). if b then self.constants else self.variables) c.declares_constant-constant.ensures in
    let is : Some (value_of c.in-Some.value) ≡ literal_value e = ap (option_map value_of) (sym c.in-Some.is) ∙ c.in_ok-value.ensures.value in
    wanted_found self.constants self.variables (is_const c.args.options) (is_exported c.args.options) x e c.wants.result wants (c.as_str.result, c.declares_constant-constant.result, c.in-Some.value) c.if-not-wants.false is c.as_str.ensures c.declares_constant-constant.ensures

pub returns-in-None : goal.returns-in-None
returns-in-None c =
    let self = c.args.self.now in
    let x = c.args.parts.now.0.name in
    let e = expr_of c.args.parts.now.1 in
    let wants : c.wants.result ≡ (if is_const c.args.options then self.constants else self.variables) = c.wants.ensures ∙ ap (λ (b : Bool). if b then self.constants else self.variables) c.declares_constant-constant.ensures in
    wanted_none self.constants self.variables (is_const c.args.options) (is_exported c.args.options) x e c.wants.result wants c.if-not-wants.false
    (ap (option_map value_of) (sym c.in-None.is) ∙ c.in_ok-value.ensures.value)
