-- Scripts whose statements and tables are the same, or the same but for names.
use Rattle.std.proofs.Common.{◌≡◌, Bool, true, false, List, map, Result, Ok, Err, sym, ap, ◌∙◌, subst}
use Rattle.std.specs.Prelude.{IfOk, IsTrue}
use Rattle.rhai_base.specs.Value.{Text}
use Rattle.theory_meaning.specs.Act.{Key}
use Rattle.theory_meaning.specs.Plain.{all_true}
use Rattle.theory_meaning.specs.Tree.{Function, Script}
use Rattle.theory_meaning.specs.Walk.{over_stmts}
use Rattle.theory_naming.specs.Alike.{AreApart, AreCovered, AreKeyed, AreThere, AreWanted, IsWanted, function_at, key_at, or_unread}
use Rattle.theory_naming.specs.Renaming.{calls_by_name, is_anonymous, renamed_stmts}
use Rattle.theory_naming.proofs.Apart.{found_names_apart}
use Rattle.theory_naming.proofs.Scripts.{tables_same}
use Rattle.theory_naming.proofs.Wanted.{wanted_own}
use Rattle.theory_spelling.specs.Bare.{SpelledAlike, SpelledButNames, bare_script}
use Rattle.script_names.specs.Names.{listed, stands}
use Rattle.ast_alike.specs.Scripts.{ArePairs, HasKey}
use Rattle.ast_alike.specs.declared.closures.Closures.{Closures}

module _ {E : Type 0} (F G : List Function) where
  pub by_key : (r : Result Bool E) → AreThere F G → IfOk r (λ all. IsTrue all → AreKeyed G F) → IfOk r (λ alike. IsTrue alike → (k : Key) → function_at F k ≡ function_at G k)
  by_key (Ok b) there keyed = λ h. tables_same F G there (keyed h)
  by_key (Err e) there keyed = tt

  pub alike_scripts : (P Q : Script) (r : Result Bool E) → F ≡ (bare_script P).functions → G ≡ (bare_script Q).functions → (bare_script P).statements ≡ (bare_script Q).statements
      → IfOk r (λ alike. IsTrue alike → (k : Key) → function_at F k ≡ function_at G k) → IfOk r (λ alike. IsTrue alike → SpelledAlike P Q)
  alike_scripts P Q (Ok b) f g s t = λ h. record {
    statements = s;
    functions = λ k. (λ i. function_at (sym f i) k) ∙ t h k ∙ (λ i. function_at (g i) k);
  }
  alike_scripts P Q (Err e) f g s t = tt

module _ (c : Closures) (p : ArePairs c) where
  abbrev named : Text → Text
  named = stands c.names

  names_apart : AreApart named
  names_apart = subst (λ names. AreApart (stands names)) (sym p.names_are) (found_names_apart (listed p.names) (listed c.back) p.paired)

  pub own_wanted : {E : Type 0} (r : Result Bool E) (gs : List Function) (f : Function) → is_anonymous f.name ≡ false → IfOk r (λ has. IsTrue has → HasKey gs (key_at f)) → IfOk r (λ wanted. IsTrue wanted → IsWanted named gs f)
  own_wanted (Ok b) gs f own has = λ h. subst (λ names. IsWanted (stands names) gs f) (sym p.names_are) (wanted_own (listed p.names) (listed c.back) p.paired gs f own (has h))
  own_wanted (Err e) gs f own has = tt

  pub alike_names : {E : Type 0} (F G : List Function) (P Q : Script) (r : Result Bool E) → F ≡ (bare_script P).functions → G ≡ (bare_script Q).functions
      → (bare_script P).statements ≡ renamed_stmts named (bare_script Q).statements → over_stmts (all_true calls_by_name) (bare_script Q).statements ≡ true
      → IfOk r (λ alike. IsTrue alike → AreCovered named F G × AreWanted named G F) → IfOk r (λ alike. IsTrue alike → SpelledButNames P Q)
  alike_names F G P Q (Ok b) f g s n t = λ h. record {
    named = named;
    apart = names_apart;
    spelled = record {
      statements = s;
      by_name = n;
      covered = subst (λ fs. AreCovered named fs (bare_script Q).functions) f (subst (λ gs. AreCovered named F gs) g (t h).0);
      wanted = subst (λ fs. AreWanted named (bare_script Q).functions fs) f (subst (λ gs. AreWanted named gs F) g (t h).1);
    };
  }
  alike_names F G P Q (Err e) f g s n t = tt
