-- The paths that are wanted from the places of a trigger are its inverted paths.
use Rattle.std.proofs.Common.{◌≡◌, ◌≢◌, ◌<◌, ◌+◌, inl, inr, ⊎_elim, ℕ, List, [], ◌∷◌, ◌++◌, length, slice_get, Some, refl, sym, ap, ap₂, subst, ◌∙◌, arith, length-append}
use Rattle.std.proofs.lemmas.Bool.{cases_lt, cases_eq}
use Rattle.std.proofs.lemmas.Option.{same_Some, slice_get_within}
use Rattle.graph_terms.proofs.ListLaws.{push_cases, slice_get-push, slice_get-append_left, slice_get-take, slice_get-take_below, element_at}
use Rattle.graph_trigger.specs.declared.trigger.Trigger.{Trigger}
use Rattle.graph_trigger.specs.declared.pattern_row.PatternRow.TheVariants.{Var, App}
use Rattle.graph_trigger.specs.Trigger.{Occurs, IsValid}
use Rattle.graph_trigger.specs.Trigger as pattern
use Rattle.graph_meaning.specs.Justified.{AppliesAt}
use Rattle.match_laws.proofs.FollowLaws.{same_symbol, same_parts}
use Rattle.match_trees.specs.declared.entry.Entry.{Entry}
use Rattle.match_paths.specs.declared.link.Link.{Link}
use Rattle.match_paths.specs.declared.link.Link.TheVariants.{Above}
use Rattle.match_paths.specs.declared.occurrence.Occurrence.{Occurrence}
use Rattle.match_trees.specs.Trees.{Trees, Way, AreTrees}
use Rattle.match_trees.specs.TreeLaws.{WayLaws, GrowthLaws}
use Rattle.match_trees.specs.EntryList.{EntryList, ExtendsList, entry_of}
use Rattle.match_paths.specs.Inverted.{AreLinks, last, next, BeginsAt, child, parent, IsInverted}
use Rattle.match_paths.specs.Occurrences.{LinksOf, root, below, IsOccurrence, IsAmong, AreOccurrences}
use Rattle.match_paths.specs.Wants.{BeginsFrom, application, variable, IsWanted, AddsWays}
use Rattle.match_paths.specs.Paths.{Paths, Serves}

-- what stands above a place
record AboveOf (trigger : Trigger) (start place : ℕ) (path : List ℕ) (part : ℕ) : Type 0 where
  pub row : ℕ
  pub symbol : ℕ
  pub parts : List ℕ
  pub occurs : Occurs trigger start path row
  pub shape : slice_get trigger.rows row ≡ Some (App symbol parts)
  pub is_part : slice_get parts place ≡ Some part

-- the links tell the places
abbrev places_of : List Link → List ℕ
places_of [] = []
places_of (Above symbol place ∷ links) = place ∷ places_of links
places_of (link ∷ links) = places_of links

record LinksBelow (trigger : Trigger) (start place : ℕ) (path : List ℕ) (links : List Link) : Type 0 where
  pub symbol : ℕ
  pub rest : List Link
  pub is : links ≡ Above symbol place ∷ rest
  pub applies : AppliesAt trigger start path symbol
  pub above : LinksOf trigger start path rest

record LinksFront (trigger : Trigger) (start symbol place : ℕ) (path : List ℕ) : Type 0 where
  pub above : List ℕ
  pub is : path ≡ place ∷ above
  pub applies : AppliesAt trigger start above symbol

module _ {trigger : Trigger} {start : ℕ} where
  above_of_part : {place : ℕ} {path : List ℕ} {part : ℕ} → Occurs trigger start (place ∷ path) part → AboveOf trigger start place path part
  above_of_part (pattern.below {parts = parts} {row = row} {symbol = symbol} occurs shape is_part) = record { row = row; symbol = symbol; parts = parts; occurs = occurs; shape = shape; is_part = is_part }

  root_row : {row : ℕ} → Occurs trigger start [] row → slice_get trigger.roots start ≡ Some row
  root_row (pattern.at_root is) = is

  -- one row stands at a place
  occurs_one : (path : List ℕ) (r s : ℕ) → Occurs trigger start path r → Occurs trigger start path s → r ≡ s
  occurs_one [] r s one other = same_Some r s (sym (root_row one) ∙ root_row other)
  occurs_one (place ∷ path) r s one other =
      let a = above_of_part one in
      let b = above_of_part other in
      let same = occurs_one path a.row b.row a.occurs b.occurs in
      let shape : slice_get trigger.rows a.row ≡ Some (App b.symbol b.parts) = subst (λ x. slice_get trigger.rows x ≡ Some (App b.symbol b.parts)) (sym same) b.shape in
      let parts = same_parts trigger.rows a.row a.symbol b.symbol a.parts b.parts a.shape shape in
      same_Some r s (sym a.is_part ∙ ap (λ ps. slice_get ps place) parts ∙ b.is_part)

  applies_one : (path : List ℕ) (f g : ℕ) → AppliesAt trigger start path f → AppliesAt trigger start path g → f ≡ g
  applies_one path f g one other =
      let same = occurs_one path one.0 other.0 one.2 other.2 in
      same_symbol trigger.rows one.0 f g one.1 other.1 one.3 (subst (λ x. slice_get trigger.rows x ≡ Some (App g other.1)) (sym same) other.3)

  path_is : {path : List ℕ} {links : List Link} → LinksOf trigger start path links → path ≡ places_of links
  path_is root = refl
  path_is (below {place = place} applies links) = ap (λ p. place ∷ p) (path_is links)

  links_below : {place : ℕ} {path : List ℕ} {links : List Link} → LinksOf trigger start (place ∷ path) links → LinksBelow trigger start place path links
  links_below (below {symbol = symbol} {links = rest} applies above) = record { symbol = symbol; rest = rest; is = refl; applies = applies; above = above }

  links_root : {links : List Link} → LinksOf trigger start [] links → links ≡ []
  links_root root = refl

  -- and the places tell the links
  links_one : (path : List ℕ) (a b : List Link) → LinksOf trigger start path a → LinksOf trigger start path b → a ≡ b
  links_one [] a b one other = links_root one ∙ sym (links_root other)
  links_one (place ∷ path) a b one other =
      let x = links_below one in
      let y = links_below other in
      x.is ∙ ap₂ (λ f ls. Above f place ∷ ls) (applies_one path x.symbol y.symbol x.applies y.applies) (links_one path x.rest y.rest x.above y.above) ∙ sym y.is

  to_links : {path : List ℕ} {links : List Link} → AreLinks trigger start path links → LinksOf trigger start path links
  to_links (last applies) = below applies root
  to_links (next applies are) = below applies (to_links are)

  from_links : {path : List ℕ} {links : List Link} → LinksOf trigger start path links → links ≢ [] → AreLinks trigger start path links
  from_links root some = absurd (some refl)
  from_links (below applies root) some = last applies
  from_links (below applies (below more links)) some = next applies (from_links (below more links) (λ e. cc))

  links_front : {symbol place : ℕ} {path : List ℕ} {rest : List Link} → LinksOf trigger start path (Above symbol place ∷ rest) → LinksFront trigger start symbol place path
  links_front (below {path = above} applies links) = record { above = above; is = refl; applies = applies }

  some_links : {path : List ℕ} {links : List Link} → AreLinks trigger start path links → links ≢ []
  some_links (last applies) = λ e. cc
  some_links (next applies are) = λ e. cc

module _ (trigger : Trigger) (valid : IsValid trigger) (all : List Occurrence) (are : AreOccurrences trigger all) where
  begins_at : (o : Occurrence) (io : IsOccurrence trigger o) (begin : Link) → BeginsFrom trigger all o begin → BeginsAt trigger o.start io.path begin
  begins_at o io begin (application {parts = parts} shape) = child (o.row, parts, io.occurs, shape)
  begins_at o io begin (variable {index = index} {symbol = symbol} {place = place} {other = p} {rest = rest} shape has row_is differs links_are) =
      let ip = are.sound p has in
      let front = links_front (subst (LinksOf trigger p.start ip.path) links_are ip.links) in
      let occurs : Occurs trigger p.start (place ∷ front.above) p.row = subst (λ path. Occurs trigger p.start path p.row) front.is ip.occurs in
      parent (o.row, io.occurs, shape) (p.row, occurs, subst (λ r. slice_get trigger.rows r ≡ Some (Var index)) (sym row_is) shape)
      (⊎_elim inl
      (λ other_links. ⊎_elim
      (λ one_start. inr (λ one_path. other_links (links_one io.path p.links o.links (subst (λ s. LinksOf trigger s io.path p.links) one_start (subst (λ path. LinksOf trigger p.start path p.links) (front.is ∙ one_path) ip.links)) io.links)))
      inl
      (cases_eq p.start o.start))
      differs)
      front.applies

  pub wanted_inverted : (start : ℕ) (begin : Link) (links : List Link) → IsWanted trigger all start begin links → IsInverted trigger start begin links
  wanted_inverted start begin links w =
      let o = w.occurrence in
      let io = are.sound o w.is in
      let here : IsInverted trigger o.start begin o.links = record { path = io.path; begins = begins_at o io begin w.begins; are = from_links io.links (subst (λ ls. ls ≢ []) (sym w.links_are) w.some) } in
      subst (λ ls. IsInverted trigger start begin ls) w.links_are (subst (λ s. IsInverted trigger s begin o.links) w.start_is here)

  -- the place at a path
  place_at : (start : ℕ) (path : List ℕ) (row : ℕ) (links : List Link) → Occurs trigger start path row → AreLinks trigger start path links → (among : IsAmong trigger start path row all) × (among.occurrence.links ≡ links)
  place_at start path row links occurs are_links = let among = are.complete start path row occurs in (among, links_one path among.occurrence.links links among.links (to_links are_links))

  inverted_begins : (start : ℕ) (path : List ℕ) (begin : Link) (links : List Link) → BeginsAt trigger start path begin → AreLinks trigger start path links → IsWanted trigger all start begin links
  inverted_begins start path begin links (child {symbol = symbol} applies) are_links =
      let here = place_at start path applies.0 links applies.2 are_links in
      let o = here.0.occurrence in
      record { occurrence = o; is = here.0.is; start_is = here.0.start_is; links_are = here.1; some = some_links are_links; begins = application (subst (λ r. slice_get trigger.rows r ≡ Some (App symbol applies.1)) (sym here.0.row_is) applies.3) }
  inverted_begins start path begin links (parent {index = index} {symbol = symbol} {place = place} {other = other} {above = above} is elsewhere apart applies) are_links =
      let here = place_at start path is.0 links is.1 are_links in
      let o = here.0.occurrence in
      let there = are.complete other (place ∷ above) elsewhere.0 elsewhere.1 in
      let p = there.occurrence in
      let one_row : elsewhere.0 ≡ is.0 = valid.once elsewhere.0 is.0 (Var index) elsewhere.2 is.2 in
      let front = links_below there.links in
      record {
        occurrence = o;
        is = here.0.is;
        start_is = here.0.start_is;
        links_are = here.1;
        some = some_links are_links;
        begins = variable (subst (λ r. slice_get trigger.rows r ≡ Some (Var index)) (sym here.0.row_is) is.2) there.is (there.row_is ∙ one_row ∙ sym here.0.row_is)
            (⊎_elim (λ other_start. inl (λ e. other_start (sym there.start_is ∙ e ∙ here.0.start_is))) (λ other_path. inr (λ e. other_path (path_is there.links ∙ ap places_of e ∙ sym (path_is here.0.links)))) apart)
            (front.is ∙ ap (λ f. Above f place ∷ front.rest) (applies_one above front.symbol symbol front.applies applies));
      }

  pub inverted_wanted : (start : ℕ) (begin : Link) (links : List Link) → IsInverted trigger start begin links → IsWanted trigger all start begin links
  inverted_wanted start begin links inverted = inverted_begins start inverted.path begin links inverted.begins inverted.are

-- an old entry in a longer list, and back
module _ (list list' : EntryList) (extends : ExtendsList list list') (same : length list.ends ≡ length list.entries) where
  pub old_entry : (n : ℕ) (entry : Entry) → n < length list.entries → slice_get list'.entries n ≡ Some entry → slice_get list.entries n ≡ Some entry
  old_entry n entry lt at = subst (λ (es : List Entry). slice_get es n ≡ Some entry) (ap (λ (l : EntryList). l.entries) extends.front) (slice_get-take_below (length list.entries) list'.entries n entry lt at)

  pub old_end : (n end : ℕ) → n < length list.entries → slice_get list'.ends n ≡ Some end → slice_get list.ends n ≡ Some end
  old_end n end lt at = subst (λ es. slice_get es n ≡ Some end) (ap (λ (l : EntryList). l.ends) extends.front) (slice_get-take_below (length list.entries) list'.ends n end lt at)

  pub still_entry : (n : ℕ) (entry : Entry) → slice_get list.entries n ≡ Some entry → slice_get list'.entries n ≡ Some entry
  still_entry n entry at = slice_get-take (length list.entries) list'.entries n entry (subst (λ (es : List Entry). slice_get es n ≡ Some entry) (sym (ap (λ (l : EntryList). l.entries) extends.front)) at)

  pub still_end : (n end : ℕ) → slice_get list.ends n ≡ Some end → slice_get list'.ends n ≡ Some end
  still_end n end at = slice_get-take (length list.entries) list'.ends n end (subst (λ es. slice_get es n ≡ Some end) (sym (ap (λ (l : EntryList). l.ends) extends.front)) at)

same_front : (a b : Link) (xs ys : List Link) → a ∷ xs ≡ b ∷ ys → (a ≡ b) × (xs ≡ ys)
same_front a b xs ys e = (cc, cc)

-- a trigger comes, with the ways of exactly its inverted paths
pub serves_more : WayLaws Link → GrowthLaws Link → (paths : Paths) (trees' : Trees Link) (list' : EntryList) (triggers : List Trigger) (trigger : Trigger) → AreTrees trees' → length paths.list.ends ≡ length paths.list.entries → length list'.ends ≡ length list'.entries → Serves paths triggers → AddsWays (length triggers) (IsInverted trigger) paths.trees trees' paths.list list' → Serves (record { trees = trees'; list = list'; triggers = paths.triggers + 1 }) (triggers ++ trigger ∷ [])
serves_more ways grows paths trees' list' triggers trigger are same same' serves adds = record {
  many = omega (arith, serves.many, length-append triggers (trigger ∷ []));
  led = λ n end at.
      ⊎_elim
      (λ old. let way = serves.led n end (old_end list list' adds.list_extends same n end old at) in (way.0, grows.way paths.trees trees' end way.0 adds.trees_extend way.1))
      (λ new.
      let lt = slice_get_within list'.ends n end at in
      let entry = element_at list'.entries n (omega (arith, lt, same')) in
      let its = (adds.sound n end entry.0 new entry.1 at).1 in
      (its.0 ∷ its.1, its.2))
      (cases_lt n (length list.entries));
  sound = λ n end entry begin links has ends way.
      ⊎_elim
      (λ old.
      let old_ends = old_end list list' adds.list_extends same n end old ends in
      let there = serves.led n end old_ends in
      let one : there.0 ≡ begin ∷ links = ways.one_way trees' end there.0 (begin ∷ links) are (grows.way paths.trees trees' end there.0 adds.trees_extend there.1) way in
      let of = serves.sound n end entry begin links (old_entry list list' adds.list_extends same n entry old has) old_ends (subst (Way paths.trees end) one there.1) in
      (of.0, slice_get-append_left triggers (trigger ∷ []) entry.trigger of.0 of.1, of.2))
      (λ new.
      let added = adds.sound n end entry new has ends in
      let its = added.1 in
      let one = same_front its.0 begin its.1 links (ways.one_way trees' end (its.0 ∷ its.1) (begin ∷ links) are its.2 way) in
      (trigger, subst (λ k. slice_get (triggers ++ trigger ∷ []) k ≡ Some trigger) (sym added.0) (slice_get-push triggers trigger), subst (IsInverted trigger entry.start begin) one.1 (subst (λ (b : Link). IsInverted trigger entry.start b its.1) one.0 its.3)))
      (cases_lt n (length list.entries));
  all = λ number start other begin links at inverted.
      ⊎_elim
      (λ old.
      let of = serves.all number start other begin links old inverted in
      (of.0, of.1, still_entry list list' adds.list_extends same of.0 (entry_of number start) of.2, still_end list list' adds.list_extends same of.0 of.1 of.3, grows.way paths.trees trees' of.1 (begin ∷ links) adds.trees_extend of.4))
      (λ new.
      let of = adds.complete start begin links (subst (λ (t : Trigger). IsInverted t start begin links) new.1 inverted) in
      (of.0, of.1, subst (λ k. slice_get list'.entries of.0 ≡ Some (entry_of k start)) (sym new.0) of.2, of.3, of.4))
      (push_cases triggers trigger number other at);
}
  where
    list : EntryList
    list = paths.list
