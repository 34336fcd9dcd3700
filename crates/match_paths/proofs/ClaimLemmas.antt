-- Claims of keys, one by one.
use Rattle.std.proofs.Common.{◌≡◌, ◌≢◌, ℕ, List, slice_get, slice_index_or, Some, Contains, AllPairs}
use Rattle.std.proofs.Common.{sym, ap, ◌∙◌, arith}
use Rattle.std.specs.Option.{option_map}
use Rattle.std.proofs.lemmas.List.{length-map, map-append}
use Rattle.std.proofs.lemmas.Option.{same_Some, slice_get-map, slice_get_within, get_or_from_slice_get}
use Rattle.graph_terms.proofs.ListLaws.{element_at, place_from_Contains, Contains-slice_get}
use Rattle.graph_meaning.specs.declared.claim.Claim.{Claim}
use Rattle.match_paths.specs.declared.claim_key.ClaimKey.{ClaimKey}
use Rattle.match_paths.specs.Claims.{claim_of, claims_of}
use Rattle.match_paths.specs.Climbing.{PutsIn}

module _ (keys : List ClaimKey) where
  -- the claim of a key stands at its place
  pub claim_at : (i : ℕ) (key : ClaimKey) → slice_get keys i ≡ Some key →
      slice_get (claims_of keys) i ≡ Some (claim_of key)
  claim_at i key at = slice_get-map claim_of keys i ∙ ap (option_map claim_of) at

  pub Contains-claims : (key : ClaimKey) → Contains keys key → Contains (claims_of keys) (claim_of key)
  Contains-claims key c =
      let at = place_from_Contains keys key c in
      Contains-slice_get (claims_of keys) at.0 (claim_of key) (claim_at at.0 key at.1)

  -- and each claim is that of a key
  pub key_of : (claim : Claim) → Contains (claims_of keys) claim → (key : ClaimKey) × Contains keys key ×
      (claim ≡ claim_of key)
  key_of claim c =
      let at = place_from_Contains (claims_of keys) claim c in
      let below = slice_get_within (claims_of keys) at.0 claim at.1 in
      let there = element_at keys at.0 (omega (arith, below, length-map keys claim_of)) in (
        there.0,
        Contains-slice_get keys at.0 there.0 there.1,
        same_Some claim (claim_of there.0) (sym at.1 ∙ claim_at at.0 there.0 there.1),
      )

-- a key that was put in puts its claim in
pub PutsIn-claims : {old new : List ClaimKey} {key : ClaimKey} → PutsIn old new key →
    PutsIn (claims_of old) (claims_of new) (claim_of key)
PutsIn-claims {old} {new} {key} puts = record {
  grew = record {
    more = claims_of puts.grew.more;
    is = ap claims_of puts.grew.is ∙ map-append claim_of old puts.grew.more;
    are = λ claim c. let of_key = key_of puts.grew.more claim c in of_key.2 ∙ ap claim_of (puts.grew.are of_key.0 of_key.1);
  };
  has = Contains-claims new key puts.has;
}

key_from : Claim → ClaimKey
key_from claim = record { trigger = claim.trigger; start = claim.start; root = claim.root }

-- two keys have two claims
pub AllPairs-claims : (keys : List ClaimKey) → AllPairs (λ a b. a ≢ b) keys → AllPairs (λ a b. a ≢ b) (claims_of keys)
unfolding key_from
AllPairs-claims keys apart i j claim less below same =
    let second = element_at keys j (omega (arith, below, length-map keys claim_of)) in
    let first = element_at keys i (omega (arith, less, below, length-map keys claim_of)) in
    let at_first = is_at (claims_of keys) i claim (claim_of first.0) (claim_at keys i first.0 first.1) in
    let at_second = is_at (claims_of keys) j claim (claim_of second.0) (claim_at keys j second.0 second.1) in
    let is : first.0 ≡ second.0 = ap key_from (sym at_first ∙ same ∙ at_second) in
    apart i j first.0 less (omega (arith, below, length-map keys claim_of))
    (is_at keys i first.0 first.0 first.1 ∙ is ∙ sym (is_at keys j first.0 second.0 second.1))
  where
    is_at : {X : Type 0} (xs : List X) (k : ℕ) (d x : X) → slice_get xs k ≡ Some x → slice_index_or xs k d ≡ x
    is_at xs k d x at = get_or_from_slice_get xs k x d at
