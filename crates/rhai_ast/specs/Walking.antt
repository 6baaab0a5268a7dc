-- What a walk asks of a closure, and where it ends.
use Rattle.std.specs.Prelude.{◌≡◌, ◌++◌, Bool, true, false, List, [], ◌∷◌, map, Result, Ok, Err}
use Rattle.std.specs.Borrow.{Bor}
use Rattle.std.specs.Fn.{Mut, CalledAt}
use Rattle.base_tokens.specs.declared.error.OutOfMemory.{OutOfMemory}
use Rattle.rhai_ast.specs.Standing.{Declared, Standing, below, declared_of}
use Rattle.rhai_ast.specs.declared.walker.node.ASTNode.{ASTNode}
use Rattle.rhai_ast.specs.declared.walker.stop.Stop.{Stop}
use Rattle.rhai_ast.specs.declared.walker.stop.Stop.TheVariants as stop

-- from the top down to a node
abbrev pub Path : Type 0
Path = List Declared

abbrev pub path_of : List ASTNode → Path
path_of nodes = map declared_of nodes

-- the path of a node, then those of what is below it, each with the node in front
abbrev pub through : Declared → List Path → List Path
through n inner = (n ∷ []) ∷ map (λ p. n ∷ p) inner

-- the paths to nodes one after another and to all below them, in the order of a walk
pub data Lists : List Standing → List Path → Type 0 where
  nothing : Lists [] []
  next : {inner others : List Path} (s : Standing) (rest : List Standing) → Lists (below s.node) inner → Lists rest others → Lists (s ∷ rest) (through s.node inner ++ others)

-- what a caller is told of a walk that ended so
abbrev pub ended : Result Unit Stop → Result Bool OutOfMemory
ended (Ok u) = Ok true
ended (Err stop.Refused) = Ok false
ended (Err (stop.OutOfMemory e)) = Err e

-- paths are those below the front, the path on which the walk begins
module _ {F : Type 0} (g : Mut F (Bor (List ASTNode) × Unit {0}) Bool) (front : List ASTNode) where
  -- the closure, shown a path behind the front, answers so
  pub record Asked (f : F) (path : Path) (answer : Bool) (f' : F) : Type 0 where
    pub nodes : List ASTNode
    pub are : path_of nodes ≡ path
    pub called : CalledAt g f (front ++ nodes) answer f'

  -- shown each path in turn, it answers true
  abbrev pub Agrees : F → List Path → F → Type 0
  Agrees f [] last = last ≡ f
  Agrees f (p ∷ ps) last = (next : F) × Asked f p true next × Agrees next ps last

  -- it agreed to all paths, and what is left is the front
  pub record Finished (f : F) (paths : List Path) (last : F) (left : List ASTNode) : Type 0 where
    pub agrees : Agrees f paths last
    pub restored : left ≡ front

  -- it refused a path, at which the walk stopped
  pub record Refused (f : F) (paths : List Path) (last : F) (left : List ASTNode) : Type 0 where
    pub before : List Path
    pub path : Path
    pub after : List Path
    pub are : paths ≡ before ++ path ∷ after
    pub asked : F
    pub agrees : Agrees f before asked
    pub refuses : Asked asked path false last
    pub nodes : List ASTNode
    pub stays : path_of nodes ≡ path
    pub is_left : left ≡ front ++ nodes

  -- it agreed to the paths before that of a node for which there was no room; that of its parent is left
  pub record Short (f : F) (paths : List Path) (last : F) (left : List ASTNode) : Type 0 where
    pub before : List Path
    pub parent : Path
    pub unseen : Declared
    pub after : List Path
    pub are : paths ≡ before ++ (parent ++ unseen ∷ []) ∷ after
    pub agrees : Agrees f before last
    pub nodes : List ASTNode
    pub stays : path_of nodes ≡ parent
    pub is_left : left ≡ front ++ nodes

  -- how a walk ends by its answer
  abbrev pub Ends : Bool → F → List Path → F → List ASTNode → Type 0
  Ends true f paths last left = Finished f paths last left
  Ends false f paths last left = Refused f paths last left

  abbrev pub Walks : {E : Type 0} → Result Bool E → F → List Path → F → List ASTNode → Type 0
  Walks (Ok answer) f paths last left = Ends answer f paths last left
  Walks (Err e) f paths last left = Short f paths last left

  -- a walk over nodes one after another and all below them
  pub record WalksOver {E : Type 0} (r : Result Bool E) (f : F) (nodes : List Standing) (last : F) (left : List ASTNode) : Type 0 where
    pub paths : List Path
    pub lists : Lists nodes paths
    pub walks : Walks r f paths last left

  -- going down to a node: it stands at the end of the path that is shown, which stays; for want of memory nothing changes
  abbrev pub Enters : {E : Type 0} → Result Bool E → F → ASTNode → F → List ASTNode → Type 0
  Enters (Ok b) f n last left = CalledAt g f (front ++ n ∷ []) b last × (left ≡ front ++ n ∷ [])
  Enters (Err e) f n last left = (last ≡ f) × (left ≡ front)
