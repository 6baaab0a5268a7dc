-- Texts that begin with letters.
use Rattle.std.proofs.Common.{◌≡◌, ℕ, Bool, true, false, ◌&&◌, ◌==◌, List, [], ◌∷◌, ◌++◌, length, Option, Some, None, refl, sym, ap, ◌∙◌}
use Rattle.std.specs.Prelude.{if◌then◌else◌}
use Rattle.std.specs.List.{starts_with}
use Rattle.base_tokens.specs.Names.{after}
use Rattle.rhai_base.specs.Value.{Text}

begins_by : (b : Bool) (r : Bool) (o : Option Text) → r ≡ elim o [ None ↦ false | Some t ↦ true ] → b && r ≡ elim (if b then o else None) [ None ↦ false | Some t ↦ true ]
begins_by true r o h = h
begins_by false r o h = refl

pub begins : (p f : Text) → starts_with (λ a b. a == b) f p ≡ elim (after p f) [ None ↦ false | Some t ↦ true ]
begins [] f = refl
begins (c ∷ p) [] = refl
begins (c ∷ p) (d ∷ f) = begins_by (c == d) (starts_with (λ a b. a == b) f p) (after p f) (begins p f)
