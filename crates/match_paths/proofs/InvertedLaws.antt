-- Climbing an inverted path is going down the path.
use Rattle.std.proofs.Common.{◌≡◌, ◌⊎◌, inl, inr, ⊎_elim, ℕ, List, [], ◌∷◌, refl, subst}
use Rattle.graph_meaning.specs.declared.done.Done.{Done}
use Rattle.graph_trigger.specs.declared.trigger.Trigger.{Trigger}
use Rattle.graph_terms.specs.Terms.{term_row, HasRow}
use Rattle.graph_meaning.specs.Standing.{terms_of}
use Rattle.graph_meaning.specs.Same.{Same, turned, joined}
use Rattle.graph_meaning.specs.Questions.{IsParent}
use Rattle.graph_meaning.specs.Justified.{AppliesAt, Reach, from_root, further, LinksAt, parent_and_child, parent_and_parent, Through}
use Rattle.match_paths.specs.declared.link.Link.{Link}
use Rattle.match_paths.specs.declared.link.Link.TheVariants.{Member, Argument, Above}
use Rattle.match_paths.specs.Inverted.{Begins, Climbs, top, up, AreLinks, last, next, BeginsAt, child, parent, LeadsUp}

no_links : {trigger : Trigger} {start : ℕ} {path : List ℕ} {links : List Link} → AreLinks trigger start path links → links ≡ [] → ⊥
no_links (last applies) e = cc
no_links (next applies are) e = cc

-- a way up for a way down
pub record GoesUp (standing : List Done) (trigger : Trigger) (start root : ℕ) (path : List ℕ) (term : ℕ) : Type 0 where
  pub links : List Link
  pub are : AreLinks trigger start path links
  pub climbs : (class : ℕ) → Same standing term class → Climbs standing links class root

-- the way goes on above a parent
pub record ClimbsOn (standing : List Done) (symbol place : ℕ) (links : List Link) (class root : ℕ) : Type 0 where
  pub above : ℕ
  pub is_parent : IsParent standing class symbol place above
  pub rest : Climbs standing links above root

-- one step of a climb
pub record ClimbStep (standing : List Done) (link : Link) (rest : List Link) (class root : ℕ) : Type 0 where
  pub symbol : ℕ
  pub place : ℕ
  pub is : link ≡ Above symbol place
  pub cases : ((rest ≡ []) × IsParent standing class symbol place root) ⊎ ClimbsOn standing symbol place rest class root

module _ {standing : List Done} where
  pub climb_step : {link : Link} {rest : List Link} {class root : ℕ} → Climbs standing (link ∷ rest) class root → ClimbStep standing link rest class root
  climb_step (top {symbol = symbol} {place = place} is) = record { symbol = symbol; place = place; is = refl; cases = inl (refl, is) }
  climb_step (up {symbol = symbol} {place = place} {parent = above} is rest) = record { symbol = symbol; place = place; is = refl; cases = inr (record { above = above; is_parent = is; rest = rest }) }

  pub climb_cases : {symbol place class root : ℕ} {links : List Link} → Climbs standing (Above symbol place ∷ links) class root → ((links ≡ []) × IsParent standing class symbol place root) ⊎ ClimbsOn standing symbol place links class root
  climb_cases (top is) = inl (refl, is)
  climb_cases (up {parent = above} is rest) = inr (record { above = above; is_parent = is; rest = rest })

  pub no_climb : {class root : ℕ} → Climbs standing [] class root → ⊥
  no_climb climbs = elim climbs [ ]

  pub climb_same : {links : List Link} {class other root : ℕ} → Climbs standing links class root → Same standing class other → Climbs standing links other root
  climb_same (top is) d = top (is.0, is.1, is.2, is.3, joined is.4 d)
  climb_same (up is rest) d = up (is.0, is.1, is.2, is.3, joined is.4 d) rest

  goes_up : {trigger : Trigger} {start root place term : ℕ} {path : List ℕ} → Reach standing trigger start root (place ∷ path) term → GoesUp standing trigger start root (place ∷ path) term
  goes_up (from_root {place = place} {symbol = symbol} {arg = arg} applies has) = record { links = Above symbol place ∷ []; are = last applies; climbs = λ class d. top (has.0, arg, has.1, has.2, d) }
  goes_up (further {step = step} {place = place} {symbol = symbol} {arg = arg} reach applies e has) =
      let above = goes_up reach in
      record { links = Above symbol place ∷ above.links; are = next applies above.are; climbs = λ class d. up (has.0, arg, has.1, has.2, d) (above.climbs _ (turned e)) }

  -- the root has the symbol of the pattern
  top_symbol : {trigger : Trigger} {start : ℕ} {path : List ℕ} {links : List Link} {class root : ℕ} → AreLinks trigger start path links → Climbs standing links class root → (symbol : ℕ) × (args : List ℕ) × AppliesAt trigger start [] symbol × HasRow (terms_of standing) root (term_row symbol args)
  top_symbol (last {symbol = symbol} applies) climbs = ⊎_elim (λ p. (symbol, p.1.0, applies, p.1.2)) (λ on. absurd (no_climb on.rest)) (climb_cases climbs)
  top_symbol (next applies are) climbs = ⊎_elim (λ p. absurd (no_links are p.0)) (λ on. top_symbol are on.rest) (climb_cases climbs)

  -- and the way down reaches the class
  comes_down : {trigger : Trigger} {start : ℕ} {path : List ℕ} {links : List Link} {class root : ℕ} → AreLinks trigger start path links → Climbs standing links class root → (place : ℕ) × (rest : List ℕ) × (term : ℕ) × (path ≡ place ∷ rest) × Reach standing trigger start root path term × Same standing term class
  comes_down (last {place = place} {symbol = symbol} applies) climbs = ⊎_elim (λ p. (place, [], p.1.1, refl, from_root applies (p.1.0, p.1.2, p.1.3), p.1.4)) (λ on. absurd (no_climb on.rest)) (climb_cases climbs)
  comes_down (next {place = place} {step = step} {symbol = symbol} {path = path} applies are) climbs =
      ⊎_elim
      (λ p. absurd (no_links are p.0))
      (λ on. let down = comes_down are on.rest in (place, step ∷ path, on.is_parent.1, refl, further down.4 applies (turned down.5) (on.is_parent.0, on.is_parent.2, on.is_parent.3), on.is_parent.4))
      (climb_cases climbs)

  begins_same : {trigger : Trigger} {start : ℕ} (begin : Link) (path : List ℕ) (term class : ℕ) → BeginsAt trigger start path begin → Begins standing begin class → Same standing class term → LinksAt standing trigger start path term
  begins_same begin path term class (child applies) has d = parent_and_child applies (has.0, has.1, joined has.2 d, has.3)
  begins_same begin path term class (parent is other apart applies) has d = parent_and_parent is other apart applies (has.0, has.1, has.2, joined has.3 d)

  begin_for : {trigger : Trigger} {start : ℕ} {path : List ℕ} {term : ℕ} → LinksAt standing trigger start path term → (class : ℕ) → Same standing term class → (begin : Link) × BeginsAt trigger start path begin × Begins standing begin class
  begin_for (parent_and_child {symbol = symbol} applies has) class d = (Member symbol, child applies, (has.0, has.1, joined has.2 d, has.3))
  begin_for (parent_and_parent {symbol = symbol} {place = place} is other apart applies has) class d = (Argument symbol place, parent is other apart applies, (has.0, has.1, has.2, joined has.3 d))

  -- through a class is up an inverted path from it
  pub leads_up : {trigger : Trigger} {start root class : ℕ} → Through standing trigger start root class → LeadsUp standing trigger start root class
  leads_up {class = class} through =
      let way = goes_up through.reached in
      let begin = begin_for through.links class through.same in
      record { begin = begin.0; links = way.links; inverted = record { path = through.place ∷ through.path; begins = begin.1; are = way.are }; holds = begin.2; climbs = way.climbs class through.same }

  pub leads_through : {trigger : Trigger} {start root class : ℕ} → LeadsUp standing trigger start root class → Through standing trigger start root class
  leads_through {trigger} {start} {root} {class} leads =
      let down = comes_down leads.inverted.are leads.climbs in
      let place = down.0 in
      let rest = down.1 in
      let is : leads.inverted.path ≡ place ∷ rest = down.3 in
      record {
        root_symbol = top_symbol leads.inverted.are leads.climbs;
        place = place;
        path = rest;
        term = down.2;
        reached = subst (λ p. Reach standing trigger start root p down.2) is down.4;
        same = down.5;
        links = subst (λ p. LinksAt standing trigger start p down.2) is (begins_same leads.begin leads.inverted.path down.2 class leads.inverted.begins leads.holds (turned down.5));
      }
