-- What the host of the runs answers: a function of the call alone.
use Rattle.std.specs.Prelude.{None, true, false, pos, codes, if◌then◌else◌, ◌||◌}
use Rattle.rhai_base.specs.Value.{BoolV, IntV, same_text}
use Rattle.theory_meaning.specs.Act.{HostCall, Answer, Answers}
use Rattle.demo.specs.ProgramHost.{program_answer}

abbrev pub usual_answer : HostCall → Answer
usual_answer c =
    if same_text c.name (codes "len") then Answers (IntV (pos 3)) None
    else if same_text c.name (codes "contains") then Answers (BoolV true) None
    else if same_text c.name (codes "!") then Answers (BoolV false) None
    else if same_text c.name (codes "<") then Answers (BoolV false) None
    else if same_text c.name (codes "<=") then Answers (BoolV false) None
    else if same_text c.name (codes ">") then Answers (BoolV false) None
    else if same_text c.name (codes ">=") then Answers (BoolV false) None
    else program_answer c
