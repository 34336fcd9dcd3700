-- What a `ClaimLog` keeps.
use Rattle.std.specs.Prelude.{◌≡◌, ◌+◌, ◌<◌, ◌≤◌, ◌&&◌, ℕ, suc, Bool, true, false, not, cond, nat_eq, is_some}
use Rattle.std.specs.Prelude.{Option, Some, None, List, [], ◌∷◌, ◌++◌, map, length, take, slice_get}
use Rattle.std.specs.Option.{option_map_or}
use Rattle.indexmap.specs.IndexMap.{IndexMap, get}
use Rattle.graph_meaning.specs.declared.claim.Claim.{Claim}
use Rattle.match_owed.specs.declared.claim_key.ClaimKey.{ClaimKey}
use Rattle.match_owed.specs.declared.event.Event.{Event}
use Rattle.match_owed.specs.declared.noted.Noted.{Noted}
use Rattle.match_owed.specs.OwedLog.{IsLastGift}

-- the claim as a key
abbrev pub key_of : Claim → ClaimKey
key_of claim = record { trigger = claim.trigger; start = claim.start; root = claim.root }

-- whether two keys are one
abbrev pub is_same : ClaimKey → ClaimKey → Bool
is_same a b = nat_eq a.trigger b.trigger && (nat_eq a.start b.start && nat_eq a.root b.root)

-- the events
abbrev pub log_of : List Noted → List Event
log_of notes = map (λ noted. noted.event) notes

-- the place of the last event of the claim with the key
abbrev pub last_place : List Event → ClaimKey → Option ℕ
last_place [] key = None
last_place (event ∷ events) key =
    option_map_or (λ place. Some (suc place)) (last_place events key)
    (cond (is_same (key_of event.claim) key) (Some 0) None)

-- whether there is an event at the place that gives a claim
abbrev pub gives_at : List Event → Option ℕ → Bool
gives_at log place = option_map_or (λ p. option_map_or (λ (event : Event). event.gives) (slice_get log p) false) place
    false

-- the claims that are owed, in the order in which they were given last
abbrev pub owed_claims : List Event → List Claim
owed_claims [] = []
owed_claims (event ∷ events) =
    cond (event.gives && not (is_some (last_place events (key_of event.claim))))
    (event.claim ∷ owed_claims events) (owed_claims events)

-- the last places, and of each event the place of its claim's event before it; how many claims are owed, and a place is
-- kept free for the discharge of each
pub record IsKept {S : Type 0} (notes : List Noted) (last : IndexMap ClaimKey ℕ S) (owed capacity : ℕ) : Type 0 where
  pub places : (key : ClaimKey) → get is_same last key ≡ last_place (log_of notes) key
  pub before : (place : ℕ) (noted : Noted) → slice_get notes place ≡ Some noted →
      noted.before ≡ last_place (take place (log_of notes)) (key_of noted.event.claim)
  pub count : owed ≡ length (owed_claims (log_of notes))
  pub room : length notes + owed ≤ capacity

-- the claim of the event at the place came last, where the event is the last one of its claim and gives it
pub data PutsOwed (log : List Event) (place : ℕ) (old new : List Claim) : Type 0 where
  put : {claim : Claim} → IsLastGift log claim place → new ≡ old ++ claim ∷ [] → PutsOwed log place old new
  passed : ((claim : Claim) → IsLastGift log claim place → ⊥) → new ≡ old → PutsOwed log place old new
