-- The grammar of statements, functions and scripts: which texts spell them. `ReadsStmt ws s rest`: the statement s is read
-- at the head of the text ws, and rest is left behind it. What may stand at the left of an assignment the tree's shape says.
use Rattle.std.specs.Prelude.{◌≡◌, zero, Bool, true, false, not, List, [], ◌∷◌, Option, Some, None, codes, if◌then◌else◌}
use Rattle.base_tokens.specs.declared.token.Token.{Token}
use Rattle.base_tokens.specs.Symbols.{token_text}
use Rattle.base_tokens.specs.Tokens.{base_of}
use Rattle.base_text.specs.Text.{Text, same_text}
use Rattle.rhai_base.specs.Builtin.{operator_of}
use Rattle.rhai_base.specs.Operators.{Operator}
use Rattle.theory_meaning.specs.Tree.{Expr, UnitConstant, Variable, MaybeExpr, no_expr, an_expr, Stmt, If, Switch, While, Do, For, Var, Assignment, Block, TryCatch, ExprStmt, BreakLoop, Return, Import, Export, Stmts, no_stmts, stmt, Function, Script}
use Rattle.theory_grammar.specs.Words.{Blanks, Letters, Next, Quoted, Sign, is_name}
use Rattle.theory_grammar.specs.Grammar.{Opens, Reads}

-- ---- words

abbrev pub declaring : Bool → Text
declaring true = codes "const"
declaring false = codes "let"

abbrev pub leaving : Bool → Text
leaving true = codes "throw"
leaving false = codes "return"

-- the word before the condition behind a block
abbrev pub repeating : Bool → Text
repeating true = codes "until"
repeating false = codes "while"

-- the name of the type that a receiver's is written as
abbrev pub type_named : Text → Text
type_named t = if same_text t (codes "int") then codes "i64" else t

-- ---- parts

-- what stands between statements: any number of `;`, and one at least where one is owed
pub data Parted : Bool → Text → Text → Type 0 where
  nothing : {ws : Text} → Parted false ws ws
  semicolon : {owed : Bool} {ws mid rest : Text} → Parted false ws mid → Next mid (Sign (codes ";")) rest → Parted owed ws rest

-- none is owed behind statements that end by a brace, but for `do`
abbrev pub ends_by_itself : Stmt → Bool
ends_by_itself (If e b o) = true
ends_by_itself (Switch e a t) = true
ends_by_itself (While e b) = true
ends_by_itself (For x i e b) = true
ends_by_itself (Block b) = true
ends_by_itself (TryCatch e b o) = true
ends_by_itself s = false

pub data ReadsName : Text → Text → Text → Type 0 where
  a_name : {ws rest : Text} (x : Text) → is_name x ≡ true → Next ws (Letters x) rest → ReadsName ws x rest

-- the value of a declaration; unit where none is written
pub data ReadsValue : Text → Expr → Text → Type 0 where
  a_value : {ws mid rest : Text} {e : Expr} → Next ws (Sign (codes "=")) mid → Reads zero mid e rest → ReadsValue ws e rest
  no_value : {ws : Text} → ReadsValue ws UnitConstant ws

-- a declaration: constant or not, its name, its value
pub data ReadsVar : Text → Bool → Text → Expr → Text → Type 0 where
  var : {ws mid behind rest x : Text} {e : Expr} (constant : Bool) → Next ws (Letters (declaring constant)) mid → ReadsName mid x behind → ReadsValue behind e rest → ReadsVar ws constant x e rest

-- the sign of an assignment, and the operator that it applies
pub data ReadsAssign : Text → Option Operator → Text → Type 0 where
  straight : {ws rest : Text} → Next ws (Sign (codes "=")) rest → ReadsAssign ws None rest
  by_operator : {ws rest : Text} (t base : Token) → base_of t ≡ Some base → Next ws (Sign (token_text t)) rest → ReadsAssign ws (operator_of base) rest

-- the expression that a statement carries out, where one is written
pub data ReadsCarried : Text → MaybeExpr → Text → Type 0 where
  carried : {ws rest : Text} {e : Expr} → Reads zero ws e rest → ReadsCarried ws (an_expr e) rest
  not_carried : {ws : Text} → ReadsCarried ws no_expr ws

-- the name behind an `as`; none where there is no `as`
pub data ReadsAlias : Text → Text → Text → Type 0 where
  alias : {ws mid rest x : Text} → Next ws (Letters (codes "as")) mid → ReadsName mid x rest → ReadsAlias ws x rest
  no_alias : {ws : Text} → ReadsAlias ws [] ws

-- the variable of a loop, or with its counter in parentheses
pub data ReadsLoopNames : Text → Text → Option Text → Text → Type 0 where
  uncounted : {ws rest x : Text} → ReadsName ws x rest → ReadsLoopNames ws x None rest
  counted : {ws first second third last rest x i : Text} → Next ws (Sign (codes "(")) first → ReadsName first x second → Next second (Sign (codes ",")) third → ReadsName third i last → Next last (Sign (codes ")")) rest → ReadsLoopNames ws x (Some i) rest

-- the variable of a `catch`; unit where it names none
pub data ReadsCaught : Text → Expr → Text → Type 0 where
  caught : {ws mid behind rest x : Text} → Next ws (Sign (codes "(")) mid → ReadsName mid x behind → Next behind (Sign (codes ")")) rest → ReadsCaught ws (Variable [] x) rest
  unnamed : {ws : Text} → ReadsCaught ws UnitConstant ws

-- ---- statements

-- those without blocks
pub data ReadsSimple : Text → Stmt → Text → Type 0 where
  evaluated : {ws rest : Text} {e : Expr} → Reads zero ws e rest → ReadsSimple ws (ExprStmt e) rest
  declared : {ws rest x : Text} {constant : Bool} {e : Expr} → ReadsVar ws constant x e rest → ReadsSimple ws (Var constant false x e) rest
  assigned : {ws mid behind rest : Text} {a b : Expr} {op : Option Operator} → Reads zero ws a mid → ReadsAssign mid op behind → Reads zero behind b rest → ReadsSimple ws (Assignment op a b) rest
  left : {ws mid rest : Text} {e : MaybeExpr} (throws : Bool) → Next ws (Letters (leaving throws)) mid → ReadsCarried mid e rest → ReadsSimple ws (Return throws false e) rest
  broken : {ws mid rest : Text} {e : MaybeExpr} → Next ws (Letters (codes "break")) mid → ReadsCarried mid e rest → ReadsSimple ws (BreakLoop true false e) rest
  continued : {ws rest : Text} → Next ws (Letters (codes "continue")) rest → ReadsSimple ws (BreakLoop false false no_expr) rest
  imported : {ws mid behind rest x : Text} {e : Expr} → Next ws (Letters (codes "import")) mid → Reads zero mid e behind → ReadsAlias behind x rest → ReadsSimple ws (Import e x) rest

mutual
  pub data ReadsStmt : Text → Stmt → Text → Type 0 where
    simple : {ws rest : Text} {s : Stmt} → ReadsSimple ws s rest → ReadsStmt ws s rest
    block : {ws rest : Text} {ss : Stmts} → ReadsBlock ws ss rest → ReadsStmt ws (Block ss) rest
    choice : {ws rest : Text} {s : Stmt} → ReadsIf ws s rest → ReadsStmt ws s rest
    while_loop : {ws mid behind rest : Text} {e : Expr} {ss : Stmts} → Next ws (Letters (codes "while")) mid → Reads zero mid e behind → ReadsBlock behind ss rest → ReadsStmt ws (While e ss) rest
    endless : {ws mid rest : Text} {ss : Stmts} → Next ws (Letters (codes "loop")) mid → ReadsBlock mid ss rest → ReadsStmt ws (While UnitConstant ss) rest
    do_loop : {ws mid behind last rest : Text} {e : Expr} {ss : Stmts} (until : Bool) → Next ws (Letters (codes "do")) mid → ReadsBlock mid ss behind → Next behind (Letters (repeating until)) last → Reads zero last e rest → ReadsStmt ws (Do until false e ss) rest
    for_loop : {ws first second third last rest x : Text} {i : Option Text} {e : Expr} {ss : Stmts} → Next ws (Letters (codes "for")) first → ReadsLoopNames first x i second → Next second (Letters (codes "in")) third → Reads zero third e last → ReadsBlock last ss rest → ReadsStmt ws (For x i e ss) rest
    try_catch : {ws first second third last rest : Text} {e : Expr} {ss cs : Stmts} → Next ws (Letters (codes "try")) first → ReadsBlock first ss second → Next second (Letters (codes "catch")) third → ReadsCaught third e last → ReadsBlock last cs rest → ReadsStmt ws (TryCatch e ss cs) rest

  -- an `if`, and what stands behind its block
  pub data ReadsIf : Text → Stmt → Text → Type 0 where
    if_else : {ws first second third rest : Text} {e : Expr} {ss os : Stmts} → Next ws (Letters (codes "if")) first → Reads zero first e second → ReadsBlock second ss third → ReadsElse third os rest → ReadsIf ws (If e ss os) rest

  pub data ReadsElse : Text → Stmts → Text → Type 0 where
    no_else : {ws : Text} → ReadsElse ws no_stmts ws
    else_block : {ws mid rest : Text} {ss : Stmts} → Next ws (Letters (codes "else")) mid → ReadsBlock mid ss rest → ReadsElse ws ss rest
    else_if : {ws mid rest : Text} {s : Stmt} → Next ws (Letters (codes "else")) mid → ReadsIf mid s rest → ReadsElse ws (stmt s no_stmts) rest

  -- a list in braces
  pub data ReadsBlock : Text → Stmts → Text → Type 0 where
    braces : {ws mid behind rest : Text} {ss : Stmts} → Next ws (Sign (codes "{")) mid → ReadsStmts false mid ss behind → Next behind (Sign (codes "}")) rest → ReadsBlock ws ss rest

  -- a list; whether a `;` is owed before its first statement
  pub data ReadsStmts : Bool → Text → Stmts → Text → Type 0 where
    no_more : {owed : Bool} {ws rest : Text} → Parted false ws rest → ReadsStmts owed ws no_stmts rest
    one_more : {owed : Bool} {ws mid behind rest : Text} {s : Stmt} {ss : Stmts} → Parted owed ws mid → ReadsStmt mid s behind → ReadsStmts (not (ends_by_itself s)) behind ss rest → ReadsStmts owed ws (stmt s ss) rest

-- ---- functions

-- the type of a receiver: a name or a text
pub data ReadsType : Text → Text → Text → Type 0 where
  type_name : {ws rest : Text} (t : Text) → ReadsName ws t rest → ReadsType ws (type_named t) rest
  type_text : {ws rest : Text} (t : Text) → Next ws (Quoted t) rest → ReadsType ws (type_named t) rest

-- the name of a function, behind the type of its receiver where it has one
pub data ReadsHead : Text → Option Text → Text → Text → Type 0 where
  untyped : {ws rest f : Text} → ReadsName ws f rest → ReadsHead ws None f rest
  typed : {ws mid behind rest t f : Text} → ReadsType ws t mid → Next mid (Sign (codes ".")) behind → ReadsName behind f rest → ReadsHead ws (Some t) f rest

-- names up to the parenthesis that ends them; whether one stands before, without its comma
pub data ReadsNames : Bool → Text → List Text → Text → Type 0 where
  names_ended : {owed : Bool} {ws rest : Text} → Next ws (Sign (codes ")")) rest → ReadsNames owed ws [] rest
  names_comma : {ws mid rest : Text} {xs : List Text} → Next ws (Sign (codes ",")) mid → ReadsNames false mid xs rest → ReadsNames true ws xs rest
  names_more : {ws mid rest x : Text} {xs : List Text} → ReadsName ws x mid → ReadsNames true mid xs rest → ReadsNames false ws (x ∷ xs) rest

-- parameters in their parentheses
pub data ReadsParams : Text → List Text → Text → Type 0 where
  no_params : {ws rest : Text} → Next ws (Sign (codes "()")) rest → ReadsParams ws [] rest
  params : {ws mid rest : Text} {xs : List Text} → Next ws (Sign (codes "(")) mid → ReadsNames false mid xs rest → ReadsParams ws xs rest

-- the words before a function's name
pub data ReadsFn : Text → Text → Type 0 where
  public : {ws rest : Text} → Next ws (Letters (codes "fn")) rest → ReadsFn ws rest
  private : {ws mid rest : Text} → Next ws (Letters (codes "private")) mid → Next mid (Letters (codes "fn")) rest → ReadsFn ws rest

pub data ReadsFunction : Text → Function → Text → Type 0 where
  function : {ws first second third rest : Text} (f : Function) → ReadsFn ws first → ReadsHead first f.this_type f.name second → ReadsParams second f.params third → ReadsBlock third f.body rest → ReadsFunction ws f rest

-- ---- scripts

-- a statement of the script's own: any, or an export
pub data ReadsTop : Text → Stmt → Text → Type 0 where
  inner : {ws rest : Text} {s : Stmt} → ReadsStmt ws s rest → ReadsTop ws s rest
  exported : {ws mid rest x : Text} {constant : Bool} {e : Expr} → Next ws (Letters (codes "export")) mid → ReadsVar mid constant x e rest → ReadsTop ws (Var constant true x e) rest
  named_export : {ws mid behind rest x y : Text} → Next ws (Letters (codes "export")) mid → ReadsName mid x behind → ReadsAlias behind y rest → ReadsTop ws (Export x y) rest

-- statements and functions, as they stand among one another
pub data ReadsScript : Bool → Text → Stmts → List Function → Text → Type 0 where
  over : {owed : Bool} {ws rest : Text} → Parted false ws rest → ReadsScript owed ws no_stmts [] rest
  a_statement : {owed : Bool} {ws mid behind rest : Text} {s : Stmt} {ss : Stmts} {fs : List Function} → Parted owed ws mid → ReadsTop mid s behind → ReadsScript (not (ends_by_itself s)) behind ss fs rest → ReadsScript owed ws (stmt s ss) fs rest
  a_function : {owed : Bool} {ws mid behind rest : Text} {ss : Stmts} {f : Function} {fs : List Function} → Parted owed ws mid → ReadsFunction mid f behind → ReadsScript false behind ss fs rest → ReadsScript owed ws ss (f ∷ fs) rest

-- the whole text spells a script
pub record SpellsScript (ws : Text) (p : Script) : Type 0 where
  pub start : Text
  pub opens : Opens ws start
  pub rest : Text
  pub reads : ReadsScript false start p.statements p.functions rest
  pub ends : Blanks rest []
