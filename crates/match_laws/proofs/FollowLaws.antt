-- The terms along the paths of one choice of matches.
use Rattle.std.proofs.Common.{◌≡◌, ℕ, zero, suc, List, [], ◌∷◌, Option, Some, None, slice_get, All, refl, sym, ap, subst, ◌∙◌}
use Rattle.std.proofs.lemmas.Option.{none-some, same_Some}
use Rattle.graph_terms.proofs.ListLaws.{All-slice_get}
use Rattle.graph_trigger.specs.declared.trigger.Trigger.{Trigger}
use Rattle.graph_trigger.specs.declared.pattern_row.PatternRow.{PatternRow}
use Rattle.graph_trigger.specs.declared.pattern_row.PatternRow.TheVariants.{Var, App}
use Rattle.graph_terms.specs.declared.term_row.TermRow.{TermRow}
use Rattle.graph_terms.specs.Terms.{term_row, HasRow}
use Rattle.graph_trigger.specs.Trigger.{Occurs, at_root, below, IsApplication}
use Rattle.graph_meaning.specs.Same.{Derives}
use Rattle.graph_meaning.specs.Match.{MatchesTerm, at, MatchesClass, variable, application, MatchesEach, none, more}

-- an application names its symbol and its parts
symbol_of : PatternRow → ℕ
symbol_of (Var index) = 0
symbol_of (App symbol parts) = symbol

parts_of : PatternRow → List ℕ
parts_of (Var index) = []
parts_of (App symbol parts) = parts

index_of : PatternRow → ℕ
index_of (Var index) = index
index_of (App symbol parts) = 0

pub same_symbol : (patterns : List PatternRow) (row f g : ℕ) (ps qs : List ℕ) → slice_get patterns row ≡ Some (App f ps) → slice_get patterns row ≡ Some (App g qs) → f ≡ g
unfolding symbol_of
same_symbol patterns row f g ps qs one other = ap symbol_of (same_Some (App f ps) (App g qs) (sym one ∙ other))

pub same_parts : (patterns : List PatternRow) (row f g : ℕ) (ps qs : List ℕ) → slice_get patterns row ≡ Some (App f ps) → slice_get patterns row ≡ Some (App g qs) → ps ≡ qs
unfolding parts_of
same_parts patterns row f g ps qs one other = ap parts_of (same_Some (App f ps) (App g qs) (sym one ∙ other))

pub same_index : (patterns : List PatternRow) (row i j : ℕ) → slice_get patterns row ≡ Some (Var i) → slice_get patterns row ≡ Some (Var j) → i ≡ j
unfolding index_of
same_index patterns row i j one other = ap index_of (same_Some (Var i) (Var j) (sym one ∙ other))

pub no_variable : (patterns : List PatternRow) (row i f : ℕ) (ps : List ℕ) → slice_get patterns row ≡ Some (Var i) → slice_get patterns row ≡ Some (App f ps) → ⊥
no_variable patterns row i f ps one other = let e : Var i ≡ App f ps = same_Some (Var i) (App f ps) (sym one ∙ other) in cc

-- a path is turned round, and others come below it
abbrev pub onto : List ℕ → List ℕ → List ℕ
onto [] down = down
onto (place ∷ path) down = onto path (place ∷ down)

module _ {rows : List TermRow} {merges : List (ℕ × ℕ)} {patterns : List PatternRow} {binding : List ℕ} where
  -- the term down the places in the match: the root, or an argument
  abbrev mutual
    pub follow_term : {pattern term : ℕ} → MatchesTerm rows merges patterns binding pattern term → List ℕ → Option ℕ
    follow_term {term = term} (at shape has each) [] = Some term
    follow_term (at shape has each) (place ∷ down) = follow_each each place down

    pub follow_class : {pattern term : ℕ} → MatchesClass rows merges patterns binding pattern term → List ℕ → Option ℕ
    follow_class {term = term} (variable shape bound same) [] = Some term
    follow_class (variable shape bound same) (place ∷ down) = None
    follow_class {term = term} (application same inner) [] = Some term
    follow_class (application same inner) (place ∷ down) = follow_term inner (place ∷ down)

    pub follow_each : {parts args : List ℕ} → MatchesEach rows merges patterns binding parts args → ℕ → List ℕ → Option ℕ
    follow_each none place down = None
    follow_each (more m rest) zero down = follow_class m down
    follow_each (more m rest) (suc place) down = follow_each rest place down

  -- a match at a term, opened
  pub record Opened (pattern term : ℕ) (match : MatchesTerm rows merges patterns binding pattern term) : Type 0 where
    pub symbol : ℕ
    pub parts : List ℕ
    pub args : List ℕ
    pub shape : slice_get patterns pattern ≡ Some (App symbol parts)
    pub has : HasRow rows term (term_row symbol args)
    pub each : MatchesEach rows merges patterns binding parts args
    pub follows : (place : ℕ) (down : List ℕ) → follow_term match (place ∷ down) ≡ follow_each each place down

  pub opened : {pattern term : ℕ} (match : MatchesTerm rows merges patterns binding pattern term) → Opened pattern term match
  opened (at {symbol = symbol} {parts = parts} {args = args} shape has each) = record { symbol = symbol; parts = parts; args = args; shape = shape; has = has; each = each; follows = λ place down. refl }

  -- the match of one part
  pub record PartAt (parts args : List ℕ) (each : MatchesEach rows merges patterns binding parts args) (place part : ℕ) : Type 0 where
    pub pattern : ℕ
    pub is : pattern ≡ part
    pub arg : ℕ
    pub at : slice_get args place ≡ Some arg
    pub inner : MatchesClass rows merges patterns binding pattern arg
    pub follows : (down : List ℕ) → follow_each each place down ≡ follow_class inner down

  pub part_at : {parts args : List ℕ} (each : MatchesEach rows merges patterns binding parts args) (place part : ℕ) → slice_get parts place ≡ Some part → PartAt parts args each place part
  part_at none place part there = absurd (none-some part there)
  part_at (more {pattern = pattern} {term = term} m rest) zero part there = record { pattern = pattern; is = same_Some pattern part there; arg = term; at = refl; inner = m; follows = λ down. refl }
  part_at (more m rest) (suc place) part there = let found = part_at rest place part there in record { pattern = found.pattern; is = found.is; arg = found.arg; at = found.at; inner = found.inner; follows = found.follows }

  -- the match of an application in a class
  pub record InnerAt (pattern term : ℕ) (m : MatchesClass rows merges patterns binding pattern term) : Type 0 where
    pub member : ℕ
    pub same : Derives rows merges member term
    pub inner : MatchesTerm rows merges patterns binding pattern member
    pub follows : (place : ℕ) (down : List ℕ) → follow_class m (place ∷ down) ≡ follow_term inner (place ∷ down)

  pub inner_at : {pattern term : ℕ} (m : MatchesClass rows merges patterns binding pattern term) (symbol : ℕ) (parts : List ℕ) → slice_get patterns pattern ≡ Some (App symbol parts) → InnerAt pattern term m
  inner_at {pattern} (variable {index = index} is bound same) symbol parts shape = absurd (no_variable patterns pattern index symbol parts is shape)
  inner_at (application {other = other} same inner) symbol parts shape = record { member = other; same = same; inner = inner; follows = λ place down. refl }

  -- the match of a variable
  pub record BoundAt (pattern term index : ℕ) (m : MatchesClass rows merges patterns binding pattern term) : Type 0 where
    pub bound : ℕ
    pub has : slice_get binding index ≡ Some bound
    pub same : Derives rows merges bound term
    pub follows : follow_class m [] ≡ Some term

  pub bound_at : {pattern term : ℕ} (m : MatchesClass rows merges patterns binding pattern term) (index : ℕ) → slice_get patterns pattern ≡ Some (Var index) → BoundAt pattern term index m
  bound_at {pattern} (variable {index = found} {bound = bound} is has same) index shape = record { bound = bound; has = subst (λ i. slice_get binding i ≡ Some bound) (same_index patterns pattern found index is shape) has; same = same; follows = refl }
  bound_at {pattern} (application same (at {symbol = symbol} {parts = parts} is has each)) index shape = absurd (no_variable patterns pattern index symbol parts shape is)

-- a match of each pattern at a term of its own
pub data MatchesRoots (rows : List TermRow) (merges : List (ℕ × ℕ)) (patterns : List PatternRow) (binding : List ℕ) : List ℕ → Type 0 where
  no_root : MatchesRoots rows merges patterns binding []
  one_root : {root : ℕ} {roots : List ℕ} (term : ℕ) → MatchesTerm rows merges patterns binding root term → MatchesRoots rows merges patterns binding roots → MatchesRoots rows merges patterns binding (root ∷ roots)

module _ {rows : List TermRow} {merges : List (ℕ × ℕ)} {patterns : List PatternRow} {binding : List ℕ} where
  -- the term down the places in the match of the pattern at `start`
  abbrev pub follow : {roots : List ℕ} → MatchesRoots rows merges patterns binding roots → ℕ → List ℕ → Option ℕ
  follow no_root start down = None
  follow (one_root term match rest) zero down = follow_term match down
  follow (one_root term match rest) (suc start) down = follow rest start down

  pub record RootAt (roots : List ℕ) (all : MatchesRoots rows merges patterns binding roots) (start root : ℕ) : Type 0 where
    pub pattern : ℕ
    pub is : pattern ≡ root
    pub term : ℕ
    pub match : MatchesTerm rows merges patterns binding pattern term
    pub follows : (down : List ℕ) → follow all start down ≡ follow_term match down

  pub root_at : {roots : List ℕ} (all : MatchesRoots rows merges patterns binding roots) (start root : ℕ) → slice_get roots start ≡ Some root → RootAt roots all start root
  root_at no_root start root there = absurd (none-some root there)
  root_at (one_root {root = pattern} term match rest) zero root there = record { pattern = pattern; is = same_Some pattern root there; term = term; match = match; follows = λ down. refl }
  root_at (one_root term match rest) (suc start) root there = let found = root_at rest start root there in record { pattern = found.pattern; is = found.is; term = found.term; match = found.match; follows = found.follows }

-- along a path of a trigger
module _ {rows : List TermRow} {merges : List (ℕ × ℕ)} (trigger : Trigger) {binding : List ℕ} (all : MatchesRoots rows merges trigger.rows binding trigger.roots) where
  pub record AppliedAt (start : ℕ) (path : List ℕ) (row : ℕ) : Type 0 where
    pub pattern : ℕ
    pub is : pattern ≡ row
    pub term : ℕ
    pub match : MatchesTerm rows merges trigger.rows binding pattern term
    pub follows : (place : ℕ) (down : List ℕ) → follow all start (onto path (place ∷ down)) ≡ follow_term match (place ∷ down)

  -- one part of the application that is matched at a path
  record BelowAt (start : ℕ) (path : List ℕ) (place part symbol : ℕ) : Type 0 where
    pub pattern : ℕ
    pub is : pattern ≡ part
    pub parent : ℕ
    pub args : List ℕ
    pub has : HasRow rows parent (term_row symbol args)
    pub arg : ℕ
    pub at : slice_get args place ≡ Some arg
    pub inner : MatchesClass rows merges trigger.rows binding pattern arg
    pub follows : (down : List ℕ) → follow all start (onto path (place ∷ down)) ≡ follow_class inner down

  below_at : {start : ℕ} {path : List ℕ} {row : ℕ} → AppliedAt start path row → (symbol : ℕ) (parts : List ℕ) → slice_get trigger.rows row ≡ Some (App symbol parts) → (place part : ℕ) → slice_get parts place ≡ Some part → BelowAt start path place part symbol
  below_at {start} {path} {row} up symbol parts shape place part there =
      let o = opened up.match in
      let here : slice_get trigger.rows row ≡ Some (App o.symbol o.parts) = subst (λ p. slice_get trigger.rows p ≡ Some (App o.symbol o.parts)) up.is o.shape in
      let found = part_at o.each place part (subst (λ ps. slice_get ps place ≡ Some part) (same_parts trigger.rows row symbol o.symbol parts o.parts shape here) there) in
      record {
        pattern = found.pattern;
        is = found.is;
        parent = up.term;
        args = o.args;
        has = subst (λ f. HasRow rows up.term (term_row f o.args)) (same_symbol trigger.rows row o.symbol symbol o.parts parts here shape) o.has;
        arg = found.arg;
        at = found.at;
        inner = found.inner;
        follows = λ down. up.follows place down ∙ o.follows place down ∙ found.follows down;
      }

  pub applied : {start : ℕ} {path : List ℕ} {row : ℕ} → Occurs trigger start path row → (symbol : ℕ) (parts : List ℕ) → slice_get trigger.rows row ≡ Some (App symbol parts) → AppliedAt start path row
  applied {start} (at_root {row = row} is) symbol parts shape = let found = root_at all start row is in record { pattern = found.pattern; is = found.is; term = found.term; match = found.match; follows = λ place down. found.follows (place ∷ down) }
  applied (below {path = path} {parts = above_parts} {place = place} {row = above_row} {part = part} {symbol = above} occurs above_shape there) symbol parts shape =
      let one = below_at (applied occurs above above_parts above_shape) above above_parts above_shape place part there in
      let next = inner_at one.inner symbol parts (subst (λ p. slice_get trigger.rows p ≡ Some (App symbol parts)) (sym one.is) shape) in
      record { pattern = one.pattern; is = one.is; term = next.member; match = next.inner; follows = λ deeper down. one.follows (deeper ∷ down) ∙ next.follows deeper down }

  -- where a variable was matched
  pub record Home (index term : ℕ) : Type 0 where
    pub start : ℕ
    pub above : List ℕ
    pub place : ℕ
    pub row : ℕ
    pub occurs : Occurs trigger start (place ∷ above) row
    pub is_variable : slice_get trigger.rows row ≡ Some (Var index)
    pub above_row : ℕ
    pub symbol : ℕ
    pub parts : List ℕ
    pub above_occurs : Occurs trigger start above above_row
    pub above_shape : slice_get trigger.rows above_row ≡ Some (App symbol parts)
    pub parent : ℕ
    pub args : List ℕ
    pub has : HasRow rows parent (term_row symbol args)
    pub at : slice_get args place ≡ Some term
    pub bound : ℕ
    pub is_bound : slice_get binding index ≡ Some bound
    pub same : Derives rows merges bound term
    pub follows : follow all start (onto (place ∷ above) []) ≡ Some term

  pub home : All (IsApplication trigger.rows) trigger.roots → {start : ℕ} {path : List ℕ} {row : ℕ} → Occurs trigger start path row → (index : ℕ) → slice_get trigger.rows row ≡ Some (Var index) → (term : ℕ) × Home index term
  home applications {start} (at_root {row = row} is) index shape = let app = All-slice_get (IsApplication trigger.rows) trigger.roots start row applications is in absurd (no_variable trigger.rows row index app.0 app.1 shape app.2)
  home applications {start} (below {path = path} {parts = parts} {place = place} {row = above_row} {part = part} {symbol = symbol} occurs above_shape there) index shape =
      let one = below_at (applied occurs symbol parts above_shape) symbol parts above_shape place part there in
      let found = bound_at one.inner index (subst (λ p. slice_get trigger.rows p ≡ Some (Var index)) (sym one.is) shape) in (
        one.arg,
        record {
          start = start;
          above = path;
          place = place;
          row = part;
          occurs = below occurs above_shape there;
          is_variable = shape;
          above_row = above_row;
          symbol = symbol;
          parts = parts;
          above_occurs = occurs;
          above_shape = above_shape;
          parent = one.parent;
          args = one.args;
          has = one.has;
          at = one.at;
          bound = found.bound;
          is_bound = found.has;
          same = found.same;
          follows = one.follows [] ∙ found.follows;
        },
      )
