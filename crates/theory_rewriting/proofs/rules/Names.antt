-- The rules of names that are known: a lemma each, of the rule's name.
use Rattle.std.proofs.Common.{◌≡◌, true, List, [], Some, arith}
use Rattle.rhai_base.specs.Value.{Text, Value, Fields, TextV, MapV, PointerV, values}
use Rattle.base_tokens.specs.Names.{is_valid_name}
use Rattle.theory_meaning.specs.Constants.{constant_value, pointer_call}
use Rattle.theory_meaning.specs.Elements.{entry}
use Rattle.theory_meaning.specs.Tree.{ChainFlags, PropertyNames, Expr, Variable, Property, Dot, Index}
use Rattle.theory_rewriting.specs.Context.{Context}
use Rattle.theory_rewriting.specs.Known.{known_at}
use Rattle.theory_rewriting.specs.Parts.{constant_of}
use Rattle.theory_rewriting.proofs.rules.Given.{constant_of_light, constant_of_keeps}
use Rattle.theory_rewriting.proofs.rules.Obligation.{ExprObligation}

pub known_name : {k : Context} {ns : List Text} {x : Text} (v : Value) → known_at k.known ns x ≡ Some v → ExprObligation k (Variable ns x) (constant_of v)
known_name {x = x} v h = record {
  lighter = omega (arith, constant_of_light v);
  keeps = λ P l lasts j. constant_of_keeps P l lasts v;
}

pub known_pointer : {k : Context} {ns : List Text} {x : Text} (f : Text) → known_at k.known ns x ≡ Some (PointerV f (values [])) → is_valid_name f ≡ true → ExprObligation k (Variable ns x) (pointer_call f)
known_pointer {ns = ns} {x = x} f h q = record {
  lighter = omega arith;
  keeps = λ P l lasts j. (lasts.pointer ns x f j.0, ((lasts.value (TextV f), tt), tt));
}

pub known_property : {k : Context} {f : ChainFlags} {ns : List Text} {x : Text} {p : PropertyNames} (fs : Fields) → known_at k.known ns x ≡ Some (MapV fs) → ExprObligation k (Dot f (Variable ns x) (Property p)) (constant_of (entry fs p.name))
known_property {f = f} {x = x} {p = p} fs h = record {
  lighter = omega (arith, constant_of_light (entry fs p.name));
  keeps = λ P l lasts j. constant_of_keeps P l lasts (entry fs p.name);
}

pub known_entry : {k : Context} {f : ChainFlags} {ns : List Text} {x : Text} {i : Expr} (fs : Fields) (y : Text) → known_at k.known ns x ≡ Some (MapV fs) → constant_value i ≡ Some (TextV y) → ExprObligation k (Index f (Variable ns x) i) (constant_of (entry fs y))
known_entry {f = f} {x = x} {i = i} fs y h q = record {
  lighter = omega (arith, constant_of_light (entry fs y));
  keeps = λ P l lasts j. constant_of_keeps P l lasts (entry fs y);
}
