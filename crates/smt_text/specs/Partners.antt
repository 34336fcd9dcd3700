-- How the parentheses of a command belong together.
use Rattle.std.specs.Prelude.{◌≡◌, ℕ, ◌+◌, ◌-◌, ◌<◌, ◌≤◌, List, [], ◌∷◌, length, take, drop}
use Rattle.smt_text.specs.Word.{Word}
use Rattle.smt_text.specs.Script.{Script, End, Fault, Command}
use Rattle.smt_text.specs.declared.token.Kind.{Kind}
use Rattle.smt_text.specs.declared.token.Kind.TheVariants.{Left, Right}

-- the kinds of the tokens
abbrev pub kinds : List Word → List Kind
kinds [] = []
kinds (word ∷ words) = word.kind ∷ kinds words

-- how many parentheses a token opens
abbrev pub opens : Kind → ℕ
opens Left = 1
opens kind = 0

-- how many it closes
abbrev pub closes : Kind → ℕ
closes Right = 1
closes kind = 0

-- how many parentheses these tokens open
abbrev pub opened : List Kind → ℕ
opened [] = 0
opened (kind ∷ kinds) = opens kind + opened kinds

-- how many they close
abbrev pub closed : List Kind → ℕ
closed [] = 0
closed (kind ∷ kinds) = closes kind + closed kinds

-- the tokens from place i on to before place j
abbrev pub span : List Kind → ℕ → ℕ → List Kind
span kinds i j = take (j - i) (drop i kinds)

-- The parenthesis at i is closed by that at j: the least later place by which as many are closed as were opened since
-- i.
pub record Closes (kinds : List Kind) (i j : ℕ) : Type 0 where
  pub later : i < j
  pub there : j < length kinds
  pub even : closed (span kinds i (j + 1)) ≡ opened (span kinds i (j + 1))
  pub least : (k : ℕ) → i < k → k ≤ j → closed (span kinds i k) < opened (span kinds i k)

-- The partner of a token of this kind at i is at j: the matching parenthesis, or the token itself.
abbrev pub IsPartner : List Kind → ℕ → ℕ → Kind → Type 0
IsPartner kinds i j Left = Closes kinds i j
IsPartner kinds i j Right = Closes kinds j i
IsPartner kinds i j kind = j ≡ i

-- one command: its last token closes its first
abbrev pub IsWhole : List Word → Type 0
IsWhole words = Closes (kinds words) 0 (length words - 1)

-- each command of a script is whole
abbrev pub AllWhole : Script → Type 0
AllWhole End = Unit {0}
AllWhole (Fault fault) = Unit {0}
AllWhole (Command words rest) = IsWhole words × AllWhole rest
