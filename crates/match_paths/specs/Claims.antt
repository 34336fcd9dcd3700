-- The claims of a set of keys.
use Rattle.std.specs.Prelude.{List, map}
use Rattle.graph_meaning.specs.declared.claim.Claim.{Claim}
use Rattle.match_paths.specs.declared.claim_key.ClaimKey.{ClaimKey}

-- the claim of a key
abbrev pub claim_of : ClaimKey → Claim
claim_of key = record { trigger = key.trigger; start = key.start; root = key.root }

abbrev pub claims_of : List ClaimKey → List Claim
claims_of keys = map claim_of keys
