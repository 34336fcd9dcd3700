-- What one operation more, or several, do to the matches.
use Rattle.std.specs.Prelude.{◌≡◌, ◌<◌, ◌⊎◌, ℕ, List, ◌++◌, length, slice_get, Some}
use Rattle.graph_trigger.specs.declared.trigger.Trigger.{Trigger}
use Rattle.graph_meaning.specs.declared.done.Done.{Done}
use Rattle.graph_meaning.specs.Standing.{terms_of, merges_of, triggers_of}
use Rattle.graph_meaning.specs.Same.{DerivesEach}
use Rattle.graph_meaning.specs.Lawful.{IsLawful}
use Rattle.graph_meaning.specs.Match.{IsItemMatch}
use Rattle.graph_meaning.specs.declared.claim.Claim.{Claim}
use Rattle.graph_meaning.specs.Justified.{Justified}

-- it holds, or it does not
abbrev pub Decided : Type 0 → Type 0
Decided P = P ⊎ (P → ⊥)

-- the tuples are the same, place by place
abbrev pub AreSame : List Done → List ℕ → List ℕ → Type 0
AreSame standing xs ys = DerivesEach (terms_of standing) (merges_of standing) xs ys

-- it matched at this very root before, up to classes
pub record MatchedBefore (before now : List Done) (number : ℕ) (trigger : Trigger) (start root : ℕ)
    (binding : List ℕ) : Type 0 where
  pub was_live : slice_get (triggers_of before) number ≡ Some trigger
  pub was_term : root < length (terms_of before)
  pub earlier : List ℕ
  pub matched : IsItemMatch before trigger start root earlier
  pub same : AreSame now earlier binding

-- a claim that is justified since then has the match
pub record IsClaimed (before now : List Done) (number : ℕ) (trigger : Trigger) (binding : List ℕ) : Type 0 where
  pub claim : Claim
  pub names : claim.trigger ≡ number
  pub justified : Justified before now claim
  pub matched : IsItemMatch now trigger claim.start claim.root binding

-- whatever operations come at the end, each match of an item was there before, or a claim that they justify has it
abbrev pub StepLaw : Type 0
StepLaw = (before more : List Done) → IsLawful (before ++ more) → (number : ℕ) (trigger : Trigger) (start root : ℕ)
    (binding : List ℕ) → slice_get (triggers_of (before ++ more)) number ≡ Some trigger →
    IsItemMatch (before ++ more) trigger start root binding →
    MatchedBefore before (before ++ more) number trigger start root binding ⊎
    IsClaimed before (before ++ more) number trigger binding
