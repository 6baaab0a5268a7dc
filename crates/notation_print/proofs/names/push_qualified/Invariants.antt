use Rattle.std.proofs.Common.{◌≡◌, ◌++◌, drop, string_bytes}
use Rattle.notation_print.proofs.NameLists.{after_modules}
use Rattle.notation_print.proofs.names.push_qualified.Given as goal

abbrev pub invariant-loop-module : goal.invariant-loop-module
invariant-loop-module l =
    string_bytes l.text ++ after_modules (drop l.module-index l.modules.path) l.name ≡ string_bytes l.initial.text ++ after_modules l.modules.path l.name
