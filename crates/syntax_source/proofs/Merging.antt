-- Two scripts that were read and merged, and what is written of them.
use Rattle.std.proofs.Common.{◌≡◌, Result, Ok, Err, subst}
use Rattle.std.specs.Prelude.{IfOk, string_bytes}
use Rattle.rhai_base.specs.Value.{Text}
use Rattle.rhai_script.specs.Contents.{Contents, contents, meant, merged}
use Rattle.rhai_script.specs.Renamed.{Apart}
use Rattle.rhai_script.specs.Script.{script_of}
use Rattle.rhai_script.specs.declared.ast.AST.{AST}
use Rattle.syntax_source.specs.Texts.{AreMerged, IsReadAs, IsWrittenAs}
use Rattle.syntax_source.specs.declared.syntax.Syntax.{Syntax}
use Rattle.syntax_source.specs.declared.printed.Written.{Written}

pub are_merged : {E : Type 0} (made : Result Written E) (s : Syntax) (x y : Text) (a b m : AST) (put_in : Contents)
    → IsReadAs s x (script_of a) → IsReadAs s y (script_of b)
    → Apart a.lib.value.functions (contents b) put_in → contents m ≡ merged (contents a) put_in put_in.functions
    → IfOk made (λ w. IsWrittenAs s (script_of m) (string_bytes w.text) (script_of w.script))
    → IfOk made (λ w. AreMerged s x y (string_bytes w.text) (script_of w.script))
are_merged (Ok w) s x y a b m put_in reads_a reads_b apart merges writes =
    record {
      one = contents a;
      other = contents b;
      reads_one = reads_a;
      reads_other = reads_b;
      put_in = put_in;
      apart = apart;
      written = subst (λ (c : Contents). IsWrittenAs s (meant c) (string_bytes w.text) (script_of w.script)) merges writes;
    }
are_merged (Err e) s x y a b m put_in reads_a reads_b apart merges writes = tt
