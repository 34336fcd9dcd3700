-- How the partners of the tokens of a command are found.
use Rattle.std.specs.Prelude.{◌≡◌, ◌⊎◌, ℕ, ◌+◌, ◌-◌, ◌<◌, ◌≤◌}
use Rattle.std.specs.Prelude.{◌^◌, List, [], ◌∷◌, length, slice_index, slice_index_or}
use Rattle.smt_text.specs.Word.{AreInPlace}
use Rattle.smt_text.specs.Partners.{opened, closed, span, Closes, IsPartner}
use Rattle.smt_text.specs.declared.token.Kind.{Kind}
use Rattle.smt_text.specs.declared.token.Kind.TheVariants.{Left}
use Rattle.smt_text.specs.declared.token.Token.{Token}

-- the kinds of the tokens
abbrev pub token_kinds : List Token → List Kind
token_kinds [] = []
token_kinds (token ∷ tokens) = token.kind ∷ token_kinds tokens

-- the tokens but for their partners
abbrev pub bare : List Token → List Token
bare [] = []
bare (token ∷ tokens) = record token { partner = 0 } ∷ bare tokens

-- The parenthesis at p is open before place n, with so many others that were opened behind it, itself counted.
pub record IsOpenAt (kinds : List Kind) (n count p : ℕ) : Type 0 where
  pub before : p < n
  pub deep : opened (span kinds p n) ≡ closed (span kinds p n) + count
  pub least : (k : ℕ) → p < k → k ≤ n → closed (span kinds p k) < opened (span kinds p k)

-- it is one of those listed
pub record IsAmong (listed : List ℕ) (i : ℕ) : Type 0 where
  pub k : ℕ
  pub there : k < length listed
  pub is : slice_index listed k ≡ i

-- the token at a place has its partner
abbrev pub HasPartner : List Kind → List Token → ℕ → Type 0
HasPartner kinds tokens i = (d : Token) → IsPartner kinds i (slice_index_or tokens i d).partner
    (slice_index_or kinds i Left)

-- Before place n each token has its partner or is listed as open, and those listed are all that are open, the
-- innermost last.
pub record Paired (kinds : List Kind) (tokens : List Token) (listed : List ℕ) (n : ℕ) : Type 0 where
  pub stack : (k : ℕ) → k < length listed → IsOpenAt kinds n (length listed - k) (slice_index listed k)
  pub all : opened (span kinds 0 n) ≡ closed (span kinds 0 n) + length listed
  pub done : (i : ℕ) → i < n → IsAmong listed i ⊎ HasPartner kinds tokens i

-- each token has its partner
abbrev pub AllPaired : List Token → Type 0
AllPaired tokens = (i : ℕ) → i < length tokens → HasPartner (token_kinds tokens) tokens i

-- tokens of a whole command, with their texts one after another and their partners
pub record IsTree (tokens : List Token) (text : List ℕ) : Type 0 where
  pub few : length tokens < 2 ^ 32
  pub placed : AreInPlace 0 tokens text
  pub whole : Closes (token_kinds tokens) 0 (length tokens - 1)
  pub paired : AllPaired tokens
