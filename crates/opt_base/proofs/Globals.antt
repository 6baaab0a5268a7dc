-- What is known of names beside the constants of the script's own list.
use Rattle.std.proofs.Common.{◌≡◌, cond, List, [], ◌∷◌, ◌++◌, Option, Some, None, refl, sym, ap, ◌∙◌}
use Rattle.base_text.specs.Text.{Text}
use Rattle.std.specs.Option.{option_map}
use Rattle.rhai_base.specs.declared.dynamic.Dynamic.{Dynamic}
use Rattle.rhai_base.specs.Reading.{value_of}
use Rattle.rhai_base.specs.Value.{Value, same_text}
use Rattle.theory_rewriting.specs.Known.{Known, look, look_global}
use Rattle.opt_base.specs.State.{known_of, global_entry, globals_known}

abbrev Entries : Type 0
Entries = List (Text × Option Dynamic)

unnamed : (gs : Option Entries) (x : Text) → look (globals_known gs) x ≡ None
unnamed None x = refl
unnamed (Some []) x = refl
unnamed (Some (g ∷ gs)) x = unnamed (Some gs) x

pub look-names : (es : Entries) (gs : Option Entries) (x : Text) → look (known_of es) x ≡ look (known_of es ++ globals_known gs) x
look-names [] gs x = sym (unnamed gs x)
look-names (e ∷ es) gs x = ap (cond (same_text e.0 x) (option_map value_of e.1)) (look-names es gs x)

pub look-globals : (es : Entries) (gs : Entries) (x : Text) → look (known_of gs) x ≡ look_global (known_of es ++ globals_known (Some gs)) x
look-globals [] [] x = refl
look-globals [] (g ∷ gs) x = ap (cond (same_text g.0 x) (option_map value_of g.1)) (look-globals [] gs x)
look-globals (e ∷ es) gs x = look-globals es gs x

pub look-no-globals : (es : Entries) (x : Text) → None ≡ look_global (known_of es ++ []) x
look-no-globals [] x = refl
look-no-globals (e ∷ es) x = look-no-globals es x

pub ruleset looking = (look-names, look-globals, look-no-globals)
