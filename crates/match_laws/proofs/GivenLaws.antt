-- That an operation gives each claim that it justifies, and no other.
use Rattle.std.proofs.Common.{◌≡◌, inl, ℕ, suc, ◌+◌, ◌<◌, ◌≤◌, List, ◌∷◌, length, Some, slice_get, Contains, sym, subst, ⊎_elim, arith}
use Rattle.std.proofs.lemmas.Bool.{cases_lt}
use Rattle.std.proofs.lemmas.Option.{slice_get_within}
use Rattle.graph_terms.proofs.ListLaws.{All-slice_get, place_from_Contains}
use Rattle.graph_meaning.specs.declared.done.Done.{Done}
use Rattle.graph_trigger.specs.declared.trigger.Trigger.{Trigger}
use Rattle.graph_meaning.specs.declared.union.Union.{Union}
use Rattle.graph_terms.specs.Terms.{term_row, IsTable}
use Rattle.graph_meaning.specs.Standing.{terms_of, merges_of, triggers_of}
use Rattle.graph_meaning.specs.Lawful.{EndsBelow}
use Rattle.graph_meaning.specs.Same.{Same, same_term}
use Rattle.graph_meaning.specs.Same as same
use Rattle.graph_meaning.specs.Justified as why
use Rattle.graph_meaning.specs.declared.claim.Claim.{Claim}
use Rattle.graph_meaning.specs.Justified.{Justified, new_term, new_trigger, HasArg, Reach, from_root, further, Through}
use Rattle.match_laws.proofs.DecideLaws.{derived_terms}
use Rattle.match_laws.proofs.WalkLaws.{Continues}
use Rattle.match_laws.proofs.StepLaws.{still_same}
use Rattle.graph_meaning.specs.Unions.{Generated, was, listed, turned, joined, WasSame, ListsUnions}
use Rattle.match_laws.specs.Given.{IsOnSymbol, IsGiven, by_term, by_trigger, by_union}

-- the unions make the new classes of the old ones, and each joins two terms that were apart
pub record JoinUp (before now : List Done) (unions : List Union) : Type 0 where
  pub generated : (s t : ℕ) → Same now s t → Generated (WasSame before (length (terms_of now))) unions s t
  pub held : (s t : ℕ) → Generated (WasSame before (length (terms_of now))) unions s t → Same now s t
  pub apart : (union : Union) → Contains unions union → Same before union.left union.right → ⊥

module _ {before now : List Done} (continues : Continues before now) (table : IsTable (terms_of now)) (ends : EndsBelow (merges_of now) (length (terms_of now))) (unions : List Union) (joins : JoinUp before now unions) where
  -- two terms that are the same now were so before, or are one, or their class was joined
  data Linked (s t : ℕ) : Type 0 where
    before_too : Same before s t → Linked s t
    one_term : s ≡ t → s < length (terms_of now) → Linked s t
    by_a_union : {union : Union} → Contains unions union → Same now s union.left → Linked s t

  linked : {s t : ℕ} → Generated (WasSame before (length (terms_of now))) unions s t → Linked s t
  linked (was h) = ⊎_elim before_too (λ p. one_term p.0 p.1) h
  linked (listed {s} {t} h) = by_a_union h (same_term (derived_terms ends (joins.held s t (listed h))).0)
  linked (turned {s} {t} d) = turn (linked d)
    where
      turn : Linked s t → Linked t s
      turn (before_too h) = before_too (same.turned h)
      turn (one_term is lt) = one_term (sym is) (subst (λ x. x < length (terms_of now)) is lt)
      turn (by_a_union has h) = by_a_union has (same.joined (same.turned (joins.held s t d)) h)
  linked (joined {s} {t} {u} d e) = both (linked d) (linked e)
    where
      both : Linked s t → Linked t u → Linked s u
      both (by_a_union has h) other = by_a_union has h
      both (before_too h) (before_too k) = before_too (same.joined h k)
      both (before_too h) (one_term is lt) = before_too (subst (Same before s) is h)
      both (before_too h) (by_a_union has k) = by_a_union has (same.joined (still_same continues h) k)
      both (one_term is lt) other = subst (λ x. Linked x u) (sym is) other

  linked_now : (s t : ℕ) → Same now s t → Linked s t
  linked_now s t d = linked (joins.generated s t d)

  -- what a path leads to is an argument
  is_argument : {trigger : Trigger} {start root place : ℕ} {path : List ℕ} {term : ℕ} → Reach now trigger start root (place ∷ path) term → suc term < length (terms_of now)
  is_argument {root = root} (from_root {symbol = symbol} {arg = arg} applies has) = let less = All-slice_get (λ a. a < root) has.0 _ arg (table.earlier root (term_row symbol has.0) has.1) has.2 in let within = slice_get_within (terms_of now) root (term_row symbol has.0) has.1 in omega (arith, less, within)
  is_argument (further {symbol = symbol} {term = term} {arg = arg} reach applies d has) = let less = All-slice_get (λ a. a < term) has.0 _ arg (table.earlier term (term_row symbol has.0) has.1) has.2 in let within = slice_get_within (terms_of now) term (term_row symbol has.0) has.1 in omega (arith, less, within)

  module _ (at_most_one : length (terms_of now) ≤ length (terms_of before) + 1) (claim : Claim) (trigger : Trigger) (is_live : slice_get (triggers_of now) claim.trigger ≡ Some trigger) where
    -- through a class that has two terms that were apart goes a union
    given_by_union : (left right : ℕ) → (Same before left right → ⊥) → Same now left right → Through now trigger claim.start claim.root left → IsGiven before now unions claim
    given_by_union left right apart alike through = first (linked_now left right alike)
      where
        second : left ≡ right → left < length (terms_of now) → Linked through.term left → IsGiven before now unions claim
        second is lt (before_too h) = absurd (apart (subst (Same before left) is (same_term (derived_terms continues.ends h).1)))
        second is lt (by_a_union has h) = by_union is_live has (record { root_symbol = through.root_symbol; place = through.place; path = through.path; term = through.term; reached = through.reached; same = h; links = through.links })
        second is lt (one_term e _) =
            ⊎_elim (λ old. absurd (apart (subst (Same before left) is (same_term old)))) (λ new. absurd (let deep = is_argument through.reached in omega (arith, deep, e, at_most_one, new, lt))) (cases_lt left (length (terms_of before)))

        first : Linked left right → IsGiven before now unions claim
        first (before_too h) = absurd (apart h)
        first (by_a_union has h) = by_union is_live has (record { root_symbol = through.root_symbol; place = through.place; path = through.path; term = through.term; reached = through.reached; same = same.joined through.same h; links = through.links })
        first (one_term is lt) = second is lt (linked_now through.term left through.same)

  -- each claim that the operation justifies is given
  pub given : length (terms_of now) ≤ length (terms_of before) + 1 → (claim : Claim) → IsOnSymbol now claim → Justified before now claim → IsGiven before now unions claim
  given at_most_one claim on (new_term h) = by_term on h
  given at_most_one claim on (new_trigger h) = by_trigger on h
  given at_most_one claim on (why.joined {trigger = trigger} {left = left} {right = right} is_live since through) = given_by_union at_most_one claim trigger is_live left right since.apart since.same through

  -- and each that is given is justified
  pub given_justified : (claim : Claim) → IsGiven before now unions claim → Justified before now claim
  given_justified claim (by_term on h) = new_term h
  given_justified claim (by_trigger on h) = new_trigger h
  given_justified claim (by_union {trigger = trigger} {union = union} is_live has through) = why.joined {left = union.left} {right = union.right} is_live (record { same = joins.held union.left union.right (listed has); apart = joins.apart union has }) through

-- what is listed joins terms that were apart: at its moment each union does, and what is apart later was so before
pub join_up : (before now : List Done) (unions : List Union) → ListsUnions before now unions →
    JoinUp before now unions
join_up before now unions are = record {
  generated = are.generated;
  held = are.held;
  apart = λ union has h. let at = place_from_Contains unions union has in are.apart at.0 union at.1 (was (inl h));
}
