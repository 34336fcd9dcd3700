-- What stays when operations come: matches, and the reasons of claims.
use Rattle.std.proofs.Common.{◌≡◌, ℕ, zero, suc, List, Some, slice_get, refl, subst, arith}
use Rattle.std.proofs.lemmas.Option.{none-some, same_Some}
use Rattle.graph_trigger.specs.declared.trigger.Trigger.{Trigger}
use Rattle.graph_meaning.specs.declared.done.Done.{Done}
use Rattle.graph_trigger.specs.declared.pattern_row.PatternRow.{PatternRow}
use Rattle.graph_terms.specs.declared.term_row.TermRow.{TermRow}
use Rattle.graph_terms.specs.Terms.{term_row}
use Rattle.graph_meaning.specs.Same.{Derives, DerivesEach, Same, turned, joined}
use Rattle.graph_meaning.specs.Same as same
use Rattle.graph_meaning.specs.Match.{at, variable, application, none, more, At, Match, MatchEach, IsMatch, IsItemMatch}
use Rattle.graph_meaning.specs.declared.claim.Claim.{Claim}
use Rattle.graph_meaning.specs.Justified.{Justified, new_term, new_trigger, JoinedSince, HasArg, Reach, at_root, from_root, further, ClassHasSymbol, LinksAt, parent_and_child, parent_and_parent, Through}
use Rattle.graph_meaning.specs.Justified as why
use Rattle.match_laws.specs.StepLaw.{AreSame}
use Rattle.match_laws.proofs.WalkLaws.{Continues}
use Rattle.match_laws.proofs.StepLaws.{still_same, rebind_term}

module _ {rows : List TermRow} {merges : List (ℕ × ℕ)} where
  -- what stands at a place of two tuples that are the same
  pub same_place : {xs ys : List ℕ} → DerivesEach rows merges xs ys → (i x : ℕ) → slice_get xs i ≡ Some x → (y : ℕ) × (slice_get ys i ≡ Some y) × Derives rows merges y x
  same_place same.none i x h = absurd (none-some x h)
  same_place (same.more {s = s} {t = t} d rest) zero x h = (t, refl, subst (λ z. Derives rows merges t z) (same_Some s x h) (turned d))
  same_place (same.more d rest) (suc i) x h = same_place rest i x h

  pub both_each : {xs ys zs : List ℕ} → DerivesEach rows merges xs ys → DerivesEach rows merges ys zs → DerivesEach rows merges xs zs
  both_each same.none same.none = same.none
  both_each (same.more d rest) (same.more e others) = same.more (joined d e) (both_each rest others)

module _ {before now : List Done} (continues : Continues before now) where
  mutual
    -- a match stays a match
    pub still_matches : {patterns : List PatternRow} {binding : List ℕ} {pattern term : ℕ} → At before patterns binding pattern term → At now patterns binding pattern term
    still_matches (at {term = term} {symbol = symbol} {args = args} shape has each) = at shape (continues.grown term (term_row symbol args) has) (still_matches_each each)

    still_matches_class : {patterns : List PatternRow} {binding : List ℕ} {pattern term : ℕ} → Match before patterns binding pattern term → Match now patterns binding pattern term
    still_matches_class (variable shape has d) = variable shape has (still_same continues d)
    still_matches_class (application d inner) = application (still_same continues d) (still_matches inner)

    still_matches_each : {patterns : List PatternRow} {binding : List ℕ} {parts args : List ℕ} → MatchEach before patterns binding parts args → MatchEach now patterns binding parts args
    still_matches_each none = none
    still_matches_each (more m rest) = more (still_matches_class m) (still_matches_each rest)

  -- a match of an item stays one, under the leaders of now
  pub item_stays : (trigger : Trigger) (start root : ℕ) (earlier binding : List ℕ) → IsItemMatch before trigger start root earlier → AreSame now earlier binding → IsMatch now trigger binding → IsItemMatch now trigger start root binding
  item_stays trigger start root earlier binding item alike is_match = record { is_match = is_match; begins = (item.begins.0, item.begins.1, rebind_term (same_place alike) (still_matches item.begins.2)) }

  has_arg_stays : (term symbol place arg : ℕ) → HasArg before term symbol place arg → HasArg now term symbol place arg
  has_arg_stays term symbol place arg has = (has.0, continues.grown term (term_row symbol has.0) has.1, has.2)

  reach_stays : {trigger : Trigger} {start root : ℕ} {path : List ℕ} {term : ℕ} → Reach before trigger start root path term → Reach now trigger start root path term
  reach_stays at_root = at_root
  reach_stays {root = root} (from_root {place = place} {symbol = symbol} {arg = arg} applies has) = from_root applies (has_arg_stays root symbol place arg has)
  reach_stays (further {place = place} {symbol = symbol} {term = term} {arg = arg} reach applies d has) = further (reach_stays reach) applies (still_same continues d) (has_arg_stays term symbol place arg has)

  links_stay : {trigger : Trigger} {start : ℕ} {path : List ℕ} {term : ℕ} → LinksAt before trigger start path term → LinksAt now trigger start path term
  links_stay (parent_and_child {symbol = symbol} applies has) = parent_and_child applies (has.0, has.1, still_same continues has.2, continues.grown has.0 (term_row symbol has.1) has.3)
  links_stay (parent_and_parent {symbol = symbol} {place = place} is other apart applies has) = parent_and_parent is other apart applies (has.0, has.1, has_arg_stays has.0 symbol place has.1 has.2, still_same continues has.3)

  pub through_stays : {trigger : Trigger} {start root class : ℕ} → Through before trigger start root class → Through now trigger start root class
  through_stays {root = root} through = record {
    root_symbol = (through.root_symbol.0, through.root_symbol.1, through.root_symbol.2, continues.grown root (term_row through.root_symbol.0 through.root_symbol.1) through.root_symbol.3);
    place = through.place;
    path = through.path;
    term = through.term;
    reached = reach_stays through.reached;
    same = still_same continues through.same;
    links = links_stay through.links;
  }

  -- a claim that is justified stays so
  pub justified_stays : {base : List Done} {claim : Claim} → Justified base before claim → Justified base now claim
  justified_stays (new_term h) = new_term h
  justified_stays (new_trigger h) = new_trigger h
  justified_stays {claim = claim} (why.joined {trigger = trigger} is_live since through) = why.joined (continues.grown_trigger claim.trigger trigger is_live) (record { same = still_same continues since.same; apart = since.apart }) (through_stays through)

  -- and what is justified since then is so since any earlier list
  pub justified_since : {later : List Done} {claim : Claim} → Justified now later claim → Justified before later claim
  justified_since (new_term h) = new_term (omega (arith, h, continues.longer))
  justified_since (new_trigger h) = new_trigger (omega (arith, h, continues.more_triggers))
  justified_since (why.joined is_live since through) = why.joined is_live (record { same = since.same; apart = λ d. since.apart (still_same continues d) }) through
