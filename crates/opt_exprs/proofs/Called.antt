-- What a call answers, by which of the language's own functions it is of.
use Rattle.std.proofs.Common.{◌≡◌, Bool, true, false, List, Option, Some, None, refl, ap, if◌then◌else◌}
use Rattle.std.specs.Prelude.{codes}
use Rattle.std.specs.Option.{option_map}
use Rattle.rhai_base.specs.Value.{Text, Value, same_text}
use Rattle.theory_meaning.specs.Engine.{Engine}
use Rattle.theory_meaning.specs.Shape.{is_none}
use Rattle.theory_meaning.specs.Tree.{Callee}
use Rattle.opt_exprs.specs.declared.calls.calls.Word.{Word}
use Rattle.opt_exprs.specs.declared.calls.calls.Word.TheVariants as word_kind
use Rattle.opt_exprs.specs.Words.{only, type_of, is_shared, pointer_named, curried, word_named, word_called, word_value, value_of_word, unqualified_value}

module _ (r : Engine) (vs : Option (List Value)) where
  by_one : (a b c d : Bool) (w : Word) → (if a then Some word_kind.TypeOf else if b then Some word_kind.IsShared else if c then Some word_kind.Fn else if d then Some word_kind.Curry else None) ≡ Some w → value_of_word r w vs ≡ (if a then option_map (type_of r) (only vs) else if b then option_map is_shared (only vs) else if c then pointer_named (only vs) else if d then curried vs else None)
  by_one true b c d w h = ap (λ x. value_of_word r x vs) (let same : w ≡ word_kind.TypeOf = cc in same)
  by_one false true c d w h = ap (λ x. value_of_word r x vs) (let same : w ≡ word_kind.IsShared = cc in same)
  by_one false false true d w h = ap (λ x. value_of_word r x vs) (let same : w ≡ word_kind.Fn = cc in same)
  by_one false false false true w h = ap (λ x. value_of_word r x vs) (let same : w ≡ word_kind.Curry = cc in same)
  by_one false false false false w h = absurd cc

  by_none : (a b c d : Bool) → (if a then Some word_kind.TypeOf else if b then Some word_kind.IsShared else if c then Some word_kind.Fn else if d then Some word_kind.Curry else None) ≡ None → None ≡ (if a then option_map (type_of r) (only vs) else if b then option_map is_shared (only vs) else if c then pointer_named (only vs) else if d then curried vs else None)
  by_none true b c d h = absurd cc
  by_none false true c d h = absurd cc
  by_none false false true d h = absurd cc
  by_none false false false true h = absurd cc
  by_none false false false false h = refl

  by_path : (b : Bool) (f : Text) (w : Word) → (if b then word_named f else None) ≡ Some w → value_of_word r w vs ≡ (if b then word_value r f vs else None)
  by_path true f w h = by_one (same_text f (codes "type_of")) (same_text f (codes "is_shared")) (same_text f (codes "Fn")) (same_text f (codes "curry")) w h
  by_path false f w h = absurd cc

  by_no_path : (b : Bool) (f : Text) → (if b then word_named f else None) ≡ None → None ≡ (if b then word_value r f vs else None)
  by_no_path true f h = by_none (same_text f (codes "type_of")) (same_text f (codes "is_shared")) (same_text f (codes "Fn")) (same_text f (codes "curry")) h
  by_no_path false f h = refl

  pub word_called_value : (c : Callee) (w : Word) → word_called c ≡ Some w → value_of_word r w vs ≡ unqualified_value r c vs
  word_called_value c w h = by_path (is_none c.namespace) c.name w h

  pub no_word_called : (c : Callee) → word_called c ≡ None → None ≡ unqualified_value r c vs
  no_word_called c h = by_no_path (is_none c.namespace) c.name h
