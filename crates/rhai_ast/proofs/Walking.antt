-- Ends of walks over paths one after another, and below a node.
use Rattle.std.proofs.Common.{◌≡◌, Bool, true, false, IsErr, IsErrAnd, List, [], ◌∷◌, ◌++◌, ℕ, ◌-◌, length, take, map, Result, Ok, Err, refl, sym, ap, subst, ◌∙◌, append_assoc, arith}
use Rattle.std.proofs.lemmas.List.{append-nil, length-append, map-append}
use Rattle.std.proofs.Math.Seq.{take-append_seam}
use Rattle.std.specs.Borrow.{Bor}
use Rattle.std.specs.Fn.{Mut, CalledAt}
use Rattle.rhai_ast.specs.declared.walker.node.ASTNode.{ASTNode}
use Rattle.rhai_ast.specs.declared.walker.stop.Stop.{Stop}
use Rattle.rhai_ast.specs.declared.walker.stop.Stop.TheVariants as stop
use Rattle.rhai_ast.specs.Standing.{declared_of}
use Rattle.rhai_ast.specs.Walking.{Path, ended, through, Asked, Agrees, Finished, Refused, Short, Ends, Walks, Enters}

-- all paths of a node by those of its parts
abbrev pub below : ASTNode → List Path → List Path
below n ps = through (declared_of n) ps

module _ {F : Type 0} (g : Mut F (Bor (List ASTNode) × Unit {0}) Bool) where
  agrees-then : (front : List ASTNode) (f m l : F) (ps qs : List Path) → Agrees g front f ps m → Agrees g front m qs l → Agrees g front f (ps ++ qs) l
  agrees-then front f m l [] qs a b = subst (λ x. Agrees g front x qs l) a b
  agrees-then front f m l (p ∷ ps) qs a b = (a.0, a.1, agrees-then front a.0 m l ps qs a.2 b)

  -- ---- paths after others

  pub nothing : (front : List ASTNode) (f : F) → Finished g front f [] f front
  nothing front f = record { agrees = refl; restored = refl }

  pub finished-then : (front : List ASTNode) (f : F) (ps : List Path) (m : F) (here : List ASTNode) (qs : List Path) (last : F) (left : List ASTNode) → Finished g front f ps m here → Finished g here m qs last left → Finished g front f (ps ++ qs) last left
  finished-then front f ps m here qs last left a b =
      record { agrees = agrees-then front f m last ps qs a.agrees (subst (λ h. Agrees g h m qs last) a.restored b.agrees); restored = b.restored ∙ a.restored }

  pub refused-then : (front : List ASTNode) (f : F) (ps : List Path) (m : F) (here : List ASTNode) (qs : List Path) (last : F) (left : List ASTNode) → Finished g front f ps m here → Refused g here m qs last left → Refused g front f (ps ++ qs) last left
  refused-then front f ps m here qs last left a b =
      let c = subst (λ h. Refused g h m qs last left) a.restored b in
      record {
        before = ps ++ c.before;
        path = c.path;
        after = c.after;
        are = ap (λ rest. ps ++ rest) c.are ∙ sym (append_assoc ps c.before (c.path ∷ c.after));
        asked = c.asked;
        agrees = agrees-then front f m c.asked ps c.before a.agrees c.agrees;
        refuses = c.refuses;
        nodes = c.nodes;
        stays = c.stays;
        is_left = c.is_left;
      }

  pub short-then : (front : List ASTNode) (f : F) (ps : List Path) (m : F) (here : List ASTNode) (qs : List Path) (last : F) (left : List ASTNode) → Finished g front f ps m here → Short g here m qs last left → Short g front f (ps ++ qs) last left
  short-then front f ps m here qs last left a b =
      let c = subst (λ h. Short g h m qs last left) a.restored b in
      record {
        before = ps ++ c.before;
        parent = c.parent;
        unseen = c.unseen;
        after = c.after;
        are = ap (λ rest. ps ++ rest) c.are ∙ sym (append_assoc ps c.before ((c.parent ++ c.unseen ∷ []) ∷ c.after));
        agrees = agrees-then front f m last ps c.before a.agrees c.agrees;
        nodes = c.nodes;
        stays = c.stays;
        is_left = c.is_left;
      }

  pub walks-then : {E : Type 0} {front : List ASTNode} {f : F} {ps : List Path} {m : F} {here : List ASTNode} (r : Result Bool E) (qs : List Path) (last : F) (left : List ASTNode) → Finished g front f ps m here → Walks g here r m qs last left → Walks g front r f (ps ++ qs) last left
  walks-then {E} {front} {f} {ps} {m} {here} (Ok true) qs last left a b = finished-then front f ps m here qs last left a b
  walks-then {E} {front} {f} {ps} {m} {here} (Ok false) qs last left a b = refused-then front f ps m here qs last left a b
  walks-then {E} {front} {f} {ps} {m} {here} (Err e) qs last left a b = short-then front f ps m here qs last left a b

  pub refused-stops : (front : List ASTNode) (f : F) (ps qs : List Path) (last : F) (left : List ASTNode) → Refused g front f ps last left → Refused g front f (ps ++ qs) last left
  refused-stops front f ps qs last left c =
      record {
        before = c.before;
        path = c.path;
        after = c.after ++ qs;
        are = ap (λ rest. rest ++ qs) c.are ∙ append_assoc c.before (c.path ∷ c.after) qs;
        asked = c.asked;
        agrees = c.agrees;
        refuses = c.refuses;
        nodes = c.nodes;
        stays = c.stays;
        is_left = c.is_left;
      }

  pub short-stops : (front : List ASTNode) (f : F) (ps qs : List Path) (last : F) (left : List ASTNode) → Short g front f ps last left → Short g front f (ps ++ qs) last left
  short-stops front f ps qs last left c =
      record {
        before = c.before;
        parent = c.parent;
        unseen = c.unseen;
        after = c.after ++ qs;
        are = ap (λ rest. rest ++ qs) c.are ∙ append_assoc c.before ((c.parent ++ c.unseen ∷ []) ∷ c.after) qs;
        agrees = c.agrees;
        nodes = c.nodes;
        stays = c.stays;
        is_left = c.is_left;
      }

  -- ---- a node and what is below it

  asked-below : (front : List ASTNode) (n : ASTNode) (f : F) (p : Path) (b : Bool) (f' : F) → Asked g (front ++ n ∷ []) f p b f' → Asked g front f (declared_of n ∷ p) b f'
  asked-below front n f p b f' a =
      record {
        nodes = n ∷ a.nodes;
        are = ap (λ q. declared_of n ∷ q) a.are;
        called = subst (λ shown. CalledAt g f shown b f') (append_assoc front (n ∷ []) a.nodes) a.called;
      }

  agrees-below : (front : List ASTNode) (n : ASTNode) (f : F) (ps : List Path) (l : F) → Agrees g (front ++ n ∷ []) f ps l → Agrees g front f (map (λ p. declared_of n ∷ p) ps) l
  agrees-below front n f [] l a = a
  agrees-below front n f (p ∷ ps) l a = (a.0, asked-below front n f p true a.0 a.1, agrees-below front n a.0 ps l a.2)

  shown : (front : List ASTNode) (n : ASTNode) (f : F) (b : Bool) (m : F) → CalledAt g f (front ++ n ∷ []) b m → Asked g front f (declared_of n ∷ []) b m
  shown front n f b m c = record { nodes = n ∷ []; are = refl; called = c }

  pub no_room : (front : List ASTNode) (n : ASTNode) (f : F) (ps : List Path) (last : F) (left : List ASTNode) → (last ≡ f) × (left ≡ front) → Short g front f (below n ps) last left
  no_room front n f ps last left e =
      record {
        before = [];
        parent = [];
        unseen = declared_of n;
        after = map (λ p. declared_of n ∷ p) ps;
        are = refl;
        agrees = e.0;
        nodes = [];
        stays = refl;
        is_left = e.1 ∙ sym (append-nil front);
      }

  pub refused-at : (front : List ASTNode) (n : ASTNode) (f : F) (ps : List Path) (last : F) (left : List ASTNode) → CalledAt g f (front ++ n ∷ []) false last × (left ≡ front ++ n ∷ []) → Refused g front f (below n ps) last left
  refused-at front n f ps last left c =
      record {
        before = [];
        path = declared_of n ∷ [];
        after = map (λ p. declared_of n ∷ p) ps;
        are = refl;
        asked = f;
        agrees = refl;
        refuses = shown front n f false last c.0;
        nodes = n ∷ [];
        stays = refl;
        is_left = c.1;
      }

  pub finished-below : (front : List ASTNode) (n : ASTNode) (f m : F) (here : List ASTNode) (ps : List Path) (last : F) (left popped : List ASTNode) → CalledAt g f (front ++ n ∷ []) true m × (here ≡ front ++ n ∷ []) → Finished g here m ps last left → popped ≡ front → Finished g front f (below n ps) last popped
  finished-below front n f m here ps last left popped c a e =
      record {
        agrees = (m, shown front n f true m c.0, agrees-below front n m ps last (subst (λ h. Agrees g h m ps last) c.1 a.agrees));
        restored = e;
      }

  pub refused-below : (front : List ASTNode) (n : ASTNode) (f m : F) (here : List ASTNode) (ps : List Path) (last : F) (left : List ASTNode) → CalledAt g f (front ++ n ∷ []) true m × (here ≡ front ++ n ∷ []) → Refused g here m ps last left → Refused g front f (below n ps) last left
  refused-below front n f m here ps last left c a =
      let b = subst (λ h. Refused g h m ps last left) c.1 a in
      record {
        before = below n b.before;
        path = declared_of n ∷ b.path;
        after = map (λ p. declared_of n ∷ p) b.after;
        are = ap (λ rest. (declared_of n ∷ []) ∷ rest) (ap (map (λ p. declared_of n ∷ p)) b.are ∙ map-append (λ p. declared_of n ∷ p) b.before (b.path ∷ b.after));
        asked = b.asked;
        agrees = (m, shown front n f true m c.0, agrees-below front n m b.before b.asked b.agrees);
        refuses = asked-below front n b.asked b.path false last b.refuses;
        nodes = n ∷ b.nodes;
        stays = ap (λ p. declared_of n ∷ p) b.stays;
        is_left = b.is_left ∙ append_assoc front (n ∷ []) b.nodes;
      }

  pub short-below : (front : List ASTNode) (n : ASTNode) (f m : F) (here : List ASTNode) (ps : List Path) (last : F) (left : List ASTNode) → CalledAt g f (front ++ n ∷ []) true m × (here ≡ front ++ n ∷ []) → Short g here m ps last left → Short g front f (below n ps) last left
  short-below front n f m here ps last left c a =
      let b = subst (λ h. Short g h m ps last left) c.1 a in
      record {
        before = below n b.before;
        parent = declared_of n ∷ b.parent;
        unseen = b.unseen;
        after = map (λ p. declared_of n ∷ p) b.after;
        are = ap (λ rest. (declared_of n ∷ []) ∷ rest) (ap (map (λ p. declared_of n ∷ p)) b.are ∙ map-append (λ p. declared_of n ∷ p) b.before ((b.parent ++ b.unseen ∷ []) ∷ b.after));
        agrees = (m, shown front n f true m c.0, agrees-below front n m b.before last b.agrees);
        nodes = n ∷ b.nodes;
        stays = ap (λ p. declared_of n ∷ p) b.stays;
        is_left = b.is_left ∙ append_assoc front (n ∷ []) b.nodes;
      }

  -- ---- part of the way

  -- it agreed to the paths before those that are left, and the path is as it was
  pub record Partly (front : List ASTNode) (f : F) (all : List Path) (here : List ASTNode) (now : F) (rest : List Path) : Type 0 where
    pub before : List Path
    pub are : all ≡ before ++ rest
    pub finished : Finished g front f before now here

  pub partly-start : (front : List ASTNode) (f : F) (all : List Path) → Partly front f all front f all
  partly-start front f all = record { before = []; are = refl; finished = nothing front f }

  module _ (front : List ASTNode) (f : F) (all : List Path) (here : List ASTNode) (now : F) (rest : List Path) (so_far : Partly front f all here now rest) where
    pub partly-end : rest ≡ [] → Finished g front f all now here
    partly-end none = subst (λ ps. Finished g front f ps now here) (sym (so_far.are ∙ ap (λ ps. so_far.before ++ ps) none ∙ append-nil so_far.before)) so_far.finished

    module _ (ps qs : List Path) (are : rest ≡ ps ++ qs) (last : F) (left : List ASTNode) where
      all_are : all ≡ so_far.before ++ (ps ++ qs)
      all_are = so_far.are ∙ ap (λ rest. so_far.before ++ rest) are

      pub partly-next : Finished g here now ps last left → Partly front f all left last qs
      partly-next a = record {
        before = so_far.before ++ ps;
        are = all_are ∙ sym (append_assoc so_far.before ps qs);
        finished = finished-then front f so_far.before now here ps last left so_far.finished a;
      }

      pub partly-refused : Refused g here now ps last left → Refused g front f all last left
      partly-refused a = subst (λ l. Refused g front f l last left) (sym all_are) (refused-then front f so_far.before now here (ps ++ qs) last left so_far.finished (refused-stops here now ps qs last left a))

      pub partly-short : Short g here now ps last left → Short g front f all last left
      partly-short a = subst (λ l. Short g front f l last left) (sym all_are) (short-then front f so_far.before now here (ps ++ qs) last left so_far.finished (short-stops here now ps qs last left a))

-- ---- by the answers of the parts

-- the path without its last node
pub without_last : {A : Type 0} (front all left : List A) (n : A) (size : ℕ) → all ≡ front ++ n ∷ [] → size ≡ length all → left ≡ take (size - 1) all → left ≡ front
without_last front all left n size is sized taken =
    let l : size - 1 ≡ length front = omega (arith, length-append front (n ∷ []), ap length is) in
    taken ∙ ap (λ k. take k all) l ∙ ap (take (length front)) is ∙ take-append_seam front (n ∷ [])

module _ {F : Type 0} (g : Mut F (Bor (List ASTNode) × Unit {0}) Bool) where
  by_err : {E : Type 0} (front : List ASTNode) (r : Result Bool E) (f : F) (ps : List Path) (last : F) (left : List ASTNode) → IsErr r → Short g front f ps last left → Walks g front r f ps last left
  by_err front (Ok b) f ps last left e h = absurd (let z : false ≡ true = e in cc)
  by_err front (Err x) f ps last left e h = h

  by_true : (front : List ASTNode) (b : Bool) (f : F) (ps : List Path) (last : F) (left : List ASTNode) → b ≡ true → Ends g front b f ps last left → Finished g front f ps last left
  by_true front b f ps last left e h = subst (λ (a : Bool). Ends g front a f ps last left) e h

  by_false : (front : List ASTNode) (b : Bool) (f : F) (ps : List Path) (last : F) (left : List ASTNode) → b ≡ false → Ends g front b f ps last left → Refused g front f ps last left
  by_false front b f ps last left e h = subst (λ (a : Bool). Ends g front a f ps last left) e h

  -- two parts, the first of which ends the walk, or not
  module _ (front : List ASTNode) (f : F) (ps qs : List Path) where
    pub first_short : {E : Type 0} (r : Result Bool E) (last : F) (left : List ASTNode) → IsErr r → Short g front f ps last left → Walks g front r f (ps ++ qs) last left
    first_short r last left e h = by_err front r f (ps ++ qs) last left e (short-stops g front f ps qs last left h)

    pub first_refuses : (b : Bool) (last : F) (left : List ASTNode) → b ≡ false → Ends g front b f ps last left → Refused g front f (ps ++ qs) last left
    first_refuses b last left e h = refused-stops g front f ps qs last left (by_false front b f ps last left e h)

    pub first_agrees : {E : Type 0} (b : Bool) (m : F) (here : List ASTNode) (r : Result Bool E) (last : F) (left : List ASTNode) → b ≡ true → Ends g front b f ps m here → Walks g here r m qs last left → Walks g front r f (ps ++ qs) last left
    first_agrees b m here r last left e a h = walks-then g r qs last left (by_true front b f ps m here e a) h

  -- a part of those that are left
  module _ (front : List ASTNode) (f : F) (all : List Path) (here : List ASTNode) (now : F) (rest : List Path) (so_far : Partly g front f all here now rest) (ps qs : List Path) (are : rest ≡ ps ++ qs) where
    pub next_short : {E : Type 0} (r : Result Bool E) (last : F) (left : List ASTNode) → IsErr r → Short g here now ps last left → Walks g front r f all last left
    next_short r last left e h = by_err front r f all last left e (partly-short g front f all here now rest so_far ps qs are last left h)

    pub next_refuses : (b : Bool) (last : F) (left : List ASTNode) → b ≡ false → Ends g here b now ps last left → Refused g front f all last left
    next_refuses b last left e h = partly-refused g front f all here now rest so_far ps qs are last left (by_false here b now ps last left e h)

    pub next_agrees : (b : Bool) (last : F) (left : List ASTNode) → b ≡ true → Ends g here b now ps last left → Partly g front f all left last qs
    next_agrees b last left e h = partly-next g front f all here now rest so_far ps qs are last left (by_true here b now ps last left e h)

-- ---- by the ends of the recursion

same_end : (r : Result Unit Stop) (e : Stop) → IsErrAnd r (λ (y : Stop). y ≡ e) → r ≡ Err e
same_end (Ok u) e h = absurd h
same_end (Err y) e h = ap (λ (x : Stop). Err x) h

module _ {F : Type 0} (g : Mut F (Bor (List ASTNode) × Unit {0}) Bool) where
  -- what stops the walk over the first paths stops that over all
  stops : (e : Stop) (front : List ASTNode) (f : F) (ps qs : List Path) (last : F) (left : List ASTNode) → Walks g front (ended (Err e)) f ps last left → Walks g front (ended (Err e)) f (ps ++ qs) last left
  stops stop.Refused front f ps qs last left h = refused-stops g front f ps qs last left h
  stops (stop.OutOfMemory e) front f ps qs last left h = short-stops g front f ps qs last left h

  enter_stops_at : (e : Stop) (front : List ASTNode) (n : ASTNode) (f : F) (ps : List Path) (last : F) (left : List ASTNode) → Enters g front (ended (Err e)) f n last left → Walks g front (ended (Err e)) f (below n ps) last left
  enter_stops_at stop.Refused front n f ps last left h = refused-at g front n f ps last left h
  enter_stops_at (stop.OutOfMemory e) front n f ps last left h = no_room g front n f ps last left h

  parts_stop_at : (e : Stop) (front : List ASTNode) (n : ASTNode) (f m : F) (here : List ASTNode) (ps : List Path) (last : F) (left : List ASTNode) → CalledAt g f (front ++ n ∷ []) true m × (here ≡ front ++ n ∷ []) → Walks g here (ended (Err e)) m ps last left → Walks g front (ended (Err e)) f (below n ps) last left
  parts_stop_at stop.Refused front n f m here ps last left entered h = refused-below g front n f m here ps last left entered h
  parts_stop_at (stop.OutOfMemory e) front n f m here ps last left entered h = short-below g front n f m here ps last left entered h

  -- as the `?` passes on what stopped the walk
  module _ (r : Result Unit Stop) (e : Stop) (passed : IsErrAnd r (λ (y : Stop). y ≡ e)) where
    pub first_stops : (front : List ASTNode) (f : F) (ps qs : List Path) (last : F) (left : List ASTNode) → Walks g front (ended (Err e)) f ps last left → Walks g front (ended r) f (ps ++ qs) last left
    first_stops front f ps qs last left h = rw (same_end r e passed) (stops e front f ps qs last left h)

    pub enter_stops : (front : List ASTNode) (n : ASTNode) (f : F) (ps : List Path) (last : F) (left : List ASTNode) → Enters g front (ended (Err e)) f n last left → Walks g front (ended r) f (below n ps) last left
    enter_stops front n f ps last left h = rw (same_end r e passed) (enter_stops_at e front n f ps last left h)

    pub parts_stop : {f m : F} {here : List ASTNode} (front : List ASTNode) (n : ASTNode) (ps : List Path) (last : F) (left : List ASTNode) → CalledAt g f (front ++ n ∷ []) true m × (here ≡ front ++ n ∷ []) → Walks g here (ended (Err e)) m ps last left → Walks g front (ended r) f (below n ps) last left
    parts_stop {f} {m} {here} front n ps last left entered h = rw (same_end r e passed) (parts_stop_at e front n f m here ps last left entered h)

    pub next_stops : {front : List ASTNode} {f : F} {all : List Path} {here : List ASTNode} {now : F} {rest : List Path} (ps qs : List Path) (last : F) (left : List ASTNode) → Partly g front f all here now rest → rest ≡ ps ++ qs → Walks g here (ended (Err e)) now ps last left → Walks g front (ended r) f all last left
    next_stops {front} {f} {all} {here} {now} {rest} ps qs last left so_far are h =
        let all_are : all ≡ so_far.before ++ (ps ++ qs) = so_far.are ∙ ap (λ rest. so_far.before ++ rest) are in
        subst (λ l. Walks g front (ended r) f l last left) (sym all_are) (walks-then g (ended r) (ps ++ qs) last left so_far.finished (first_stops here now ps qs last left h))

  pub next_seen : {front : List ASTNode} {f : F} {all : List Path} {here : List ASTNode} {now : F} {rest ps qs : List Path} {last : F} {left : List ASTNode} → Partly g front f all here now rest → rest ≡ ps ++ qs → Finished g here now ps last left → Partly g front f all left last qs
  next_seen {front} {f} {all} {here} {now} {rest} {ps} {qs} {last} {left} so_far are h = partly-next g front f all here now rest so_far ps qs are last left h

  -- a node whose parts were all seen
  pub parts_seen : {front : List ASTNode} {f m : F} {here : List ASTNode} {ps : List Path} {last : F} {left popped : List ASTNode} {size : ℕ} (n : ASTNode) → CalledAt g f (front ++ n ∷ []) true m × (here ≡ front ++ n ∷ []) → Finished g here m ps last left → size ≡ length left → popped ≡ take (size - 1) left → Finished g front f (below n ps) last popped
  parts_seen {front} {f} {m} {here} {ps} {last} {left} {popped} {size} n entered h sized taken =
      finished-below g front n f m here ps last left popped entered h (without_last front left popped n size (h.restored ∙ entered.1) sized taken)
