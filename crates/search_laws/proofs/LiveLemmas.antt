-- A forall that is asserted stays so on the way of a search.
use Rattle.std.proofs.Common.{◌≡◌, ◌≢◌, ℕ, List, [], ◌∷◌, ◌++◌, slice_get, Option, Some, None}
use Rattle.std.proofs.Common.{Contains, refl, sym, ap, subst}
use Rattle.std.specs.Option.{option_map_or}
use Rattle.std.proofs.lemmas.Option.{none-some, same_Some}
use Rattle.match_store.specs.declared.instance.Instance.{Instance}
use Rattle.formula_table.specs.declared.node.Node.{Node}
use Rattle.formula_table.specs.declared.node.Node.TheVariants.{Equal, Atom, And, Or, Forall}
use Rattle.formula_table.specs.Formulas.{Formulas}
use Rattle.formula_value.specs.Holds.{HasNode}
use Rattle.formula_assert.specs.Held.{Held}
use Rattle.formula_assert.specs.Asserts.{Asserts}
use Rattle.search_laws.specs.Branch.{Branch, forall_in, foralls_among}
use Rattle.search_laws.specs.Closing.{Closes}
use Rattle.search_laws.specs.Closing as closing
use Rattle.search_laws.specs.Path.{Path}
use Rattle.search_laws.specs.Rounds.{EntersOne, EntersAll}
use Rattle.search_laws.specs.Rounds as entering
use Rattle.search_laws.specs.Verdict.{Ending, sat, Verdict}
use Rattle.search_laws.specs.Verdict as verdict
use Rattle.search_laws.proofs.Places.{at_front, contains_none, contains_head, filter_map_keeps, filter_map_from}
use Rattle.search_laws.proofs.CompleteLemmas.{asserts_grow}

-- some asserted node is a forall
pub record IsLive (nodes : List Node) (asserted : List ℕ) : Type 0 where
  pub n : ℕ
  pub forall : ℕ
  pub is_asserted : Contains asserted n
  pub has : HasNode nodes n (Forall forall)

-- of the path
abbrev pub IsLivePath : Path → Type 0
IsLivePath path = IsLive path.formulas.nodes path.branch.held.asserted

-- a list that is not empty has a first element
some_first : {X : Type 0} (xs : List X) → xs ≢ [] → (x : X) × Contains xs x
some_first [] not = absurd (not refl)
some_first (x ∷ xs) not = (x, contains_head x xs)

-- the node whose forall is read is that one
forall_of : (node : Node) (forall : ℕ) → forall_in node ≡ Some forall → node ≡ Forall forall
forall_of (Equal positive left right) forall e = absurd (none-some forall e)
forall_of (Atom positive term) forall e = absurd (none-some forall e)
forall_of (And parts) forall e = absurd (none-some forall e)
forall_of (Or parts) forall e = absurd (none-some forall e)
forall_of (Forall other) forall e = ap Forall (same_Some other forall e)

found_forall : (found : Option Node) (forall : ℕ) → option_map_or forall_in found None ≡ Some forall →
    found ≡ Some (Forall forall)
found_forall None forall e = absurd (none-some forall e)
found_forall (Some node) forall e = ap Some (forall_of node forall e)

-- where the live foralls are not none there is one, and where there is one they are not none
pub live_from : (nodes : List Node) (asserted : List ℕ) → foralls_among nodes asserted ≢ [] → IsLive nodes asserted
live_from nodes asserted not =
    let first = some_first (foralls_among nodes asserted) not in
    let from = filter_map_from (λ n. option_map_or forall_in (slice_get nodes n) None) asserted first.0 first.1 in
    record {
      n = from.0;
      forall = first.0;
      is_asserted = from.1;
      has = found_forall (slice_get nodes from.0) first.0 from.2;
    }

pub live_not_none : (nodes : List Node) (asserted : List ℕ) → IsLive nodes asserted →
    foralls_among nodes asserted ≡ [] → ⊥
live_not_none nodes asserted live none = contains_none live.forall
    (subst (λ foralls. Contains foralls live.forall) none
    (filter_map_keeps (λ n. option_map_or forall_in (slice_get nodes n) None) asserted live.n live.forall
    live.is_asserted (ap (λ found. option_map_or forall_in found None) live.has)))

-- it is live where more is asserted, and where further nodes stand at the end
live_later : (nodes : List Node) (before after : List ℕ) →
    ((n : ℕ) → Contains before n → Contains after n) → IsLive nodes before → IsLive nodes after
live_later nodes before after more live = record {
  n = live.n;
  forall = live.forall;
  is_asserted = more live.n live.is_asserted;
  has = live.has;
}

live_longer : (nodes added : List Node) (asserted : List ℕ) → IsLive nodes asserted → IsLive (nodes ++ added) asserted
live_longer nodes added asserted live = record {
  n = live.n;
  forall = live.forall;
  is_asserted = live.is_asserted;
  has = at_front nodes added live.n (Forall live.forall) live.has;
}

-- so it is where a node is asserted
live_asserts : (formulas : Formulas) {n : ℕ} {before after : Held} → Asserts formulas n before after →
    IsLive formulas.nodes before.asserted → IsLive formulas.nodes after.asserted
live_asserts formulas {n} {before} {after} asserts live =
    live_later formulas.nodes before.asserted after.asserted (asserts_grow formulas asserts).asserted live

-- where a branch closes
live_closes : (formulas : Formulas) {branch last : Branch} → Closes formulas branch last →
    IsLive formulas.nodes branch.held.asserted → IsLive formulas.nodes last.held.asserted
live_closes formulas (closing.Closes.conflict c) live = live
live_closes formulas (closing.Closes.closed quiet rest) live = live
live_closes formulas (closing.Closes.step quiet unit asserts others) live =
    live_closes formulas others (live_asserts formulas asserts live)

-- and where instances are entered
live_one : {instance : Instance} {before after : Path} → EntersOne instance before after → IsLivePath before →
    IsLivePath after
live_one {instance} {before} {after} one live =
    let grows = one.enters.enters.table_grows in
    let longer : IsLive after.formulas.nodes before.branch.held.asserted =
    subst (λ (formulas : Formulas). IsLive formulas.nodes before.branch.held.asserted) (sym grows.new_is)
    (live_longer before.formulas.nodes grows.nodes before.branch.held.asserted live) in
    live_asserts after.formulas one.asserts longer

pub live_all : {instances : List Instance} {before after : Path} → EntersAll instances before after →
    IsLivePath before → IsLivePath after
live_all entering.none live = live
live_all (entering.more one rest) live = live_all rest (live_one one live)

-- So a path on which some forall is live does not end with a way out.
pub no_way_out : {rounds : ℕ} {path : Path} {ending : Ending} → Verdict rounds path ending → (last : Path) →
    ending ≡ sat last → IsLivePath path → ⊥
no_way_out (verdict.conflict closes c) last e live = cc
no_way_out (verdict.first_half {path} quiet split asserts after not) last e live =
    no_way_out after last e (live_asserts path.formulas asserts (live_closes path.formulas quiet.closes live))
no_way_out (verdict.second_half {path} quiet split asserts lost has after) last e live =
    no_way_out after last e (live_closes path.formulas quiet.closes live)
no_way_out (verdict.satisfied {path} {closed} decided no_live) last e live =
    live_not_none path.formulas.nodes closed.held.asserted (live_closes path.formulas decided.quiet.closes live)
    no_live
no_way_out (verdict.nothing_new undecided none) last e live = cc
no_way_out (verdict.no_round undecided new spent) last e live = cc
no_way_out (verdict.round {path} undecided new less enters after) last e live =
    no_way_out after last e (live_all enters (live_closes path.formulas undecided.decided.quiet.closes live))
no_way_out (verdict.past_limit undecided new less over) last e live = cc
