-- What is read again does what was printed, and refines what it was optimised from.
use Rattle.std.proofs.Common.{◌≡◌, Bool, true, false, [], Result, Ok, Err, sym, subst, None}
use Rattle.std.specs.Prelude.{IfOk, IsTrue, string_bytes}
use Rattle.rhai_base.specs.Value.{Text}
use Rattle.opt_base.specs.declared.level.OptimizationLevel.{OptimizationLevel}
use Rattle.theory_meaning.specs.Engine.{Engine}
use Rattle.theory_meaning.specs.Faults.{script_fault}
use Rattle.theory_meaning.specs.Tree.{Script}
use Rattle.theory_soundness.specs.Refines.{RefinesWhere}
use Rattle.theory_rewriting.specs.Scripts.{known_at_top}
use Rattle.theory_spelling.specs.Bare.{SpelledButNames}
use Rattle.theory_spelling.specs.Runs.{DoTheSame}
use Rattle.theory_spelling.proofs.Scripts.{renamed_do_the_same}
use Rattle.syntax_source.specs.Refined.{refined}
use Rattle.syntax_source.proofs.Following.{refined_by}
use Rattle.rhai_optimizer.specs.Optimised.{Optimised}
use Rattle.rhai_script.specs.Contents.{Contents, meant}
use Rattle.rhai_script.specs.Script.{script_of}
use Rattle.syntax_source.specs.Texts.{BecomesRead, BecomesText, IsReadAs, IsWrittenAs}
use Rattle.syntax_source.specs.declared.optimized.OptimizedText.{OptimizedText}
use Rattle.syntax_source.specs.declared.printed.Written.{Written}
use Rattle.syntax_source.specs.declared.syntax.Syntax.{Syntax}
use Rattle.syntax_source.specs.declared.syntax.Syntax.TheVariants as syntax
use Rattle.syntax_parser.specs.declared.options.ParseOptions.{ParseOptions}

pub same_but_names : {E : Type 0} (r : Result Bool E) (p q : Script) → IfOk r (λ alike. IsTrue alike → SpelledButNames p q) → IfOk r (λ same. IsTrue same → DoTheSame p q)
same_but_names (Ok b) p q h = λ t. renamed_do_the_same p q (h t)
same_but_names (Err e) p q h = tt

pub read_again : {E : Type 0} (made : Result Written E) (reads : Text → Script → Type 0) (text : Text) (q : Script) → reads text q
    → IfOk made (λ w. string_bytes w.text ≡ text) → IfOk made (λ w. script_of w.script ≡ q) → IfOk made (λ w. reads (string_bytes w.text) (script_of w.script))
read_again (Ok w) reads text q h t s = subst (λ x. reads x (script_of w.script)) (sym t) (subst (λ x. reads text x) (sym s) h)
read_again (Err e) reads text q h t s = tt

module _ (r : Engine) (l : OptimizationLevel) (a g o : Contents) (same : a ≡ g) (optimized : Optimised r [] l a o) where
  pub becomes_read : (q : Script) → DoTheSame (meant o) q → BecomesRead r l (meant g) q
  becomes_read q h = subst (λ (c : Contents). BecomesRead r l (meant c) q) same (record {
    optimized = meant o;
    becomes = optimized.script;
    same = h;
    refines = refined_by r (known_at_top r []) (meant a) (meant o) optimized.script.refines q h;
  })

  pub becomes_notation : (text : Text) (q : Script) → IsWrittenAs syntax.Notation (meant o) text q → BecomesText r syntax.Notation l (meant g) text q
  becomes_notation text q written = subst (λ (c : Contents). BecomesText r syntax.Notation l (meant c) text q) same (record {
    optimized = meant o;
    becomes = optimized.script;
    written = written;
    refines = refined (subst (λ p. RefinesWhere r (known_at_top r []) (meant a) p) (sym written.1) optimized.script.refines);
  })

-- in rhai's own syntax
pub becomes_text : {E : Type 0} (made : Result OptimizedText E) (r : Engine) (l : OptimizationLevel) (s : Syntax) (bounds : ParseOptions) (text : Text) → s ≡ syntax.Rhai bounds
    → IfOk made (λ m. script_fault (script_of m.given) ≡ None) → IfOk made (λ m. BecomesRead r l (script_of m.given) (script_of m.script))
    → IfOk made (λ m. IsReadAs s text (script_of m.given) × BecomesText r s l (script_of m.given) (string_bytes m.text) (script_of m.script))
becomes_text (Ok m) r l s bounds text is h b =
    subst (λ t. IsReadAs t text (script_of m.given) × BecomesText r t l (script_of m.given) (string_bytes m.text) (script_of m.script)) (sym is)
    (h, record { optimized = b.optimized; becomes = b.becomes; written = b.same; refines = b.refines })
becomes_text (Err e) r l s bounds text is h b = tt
