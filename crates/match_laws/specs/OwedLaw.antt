-- The laws of owed work.
use Rattle.std.specs.Prelude.{◌+◌, ◌≤◌, ◌⊎◌, ◌↔◌, List, [], ◌++◌, length, Contains}
use Rattle.graph_meaning.specs.declared.claim.Claim.{Claim}
use Rattle.graph_meaning.specs.declared.done.Done.{Done}
use Rattle.graph_meaning.specs.declared.union.Union.{Union}
use Rattle.graph_meaning.specs.Standing.{terms_of}
use Rattle.graph_meaning.specs.Lawful.{IsLawful}
use Rattle.graph_meaning.specs.Justified.{Justified}
use Rattle.graph_meaning.specs.Unions.{ListsUnions}
use Rattle.match_laws.specs.Given.{IsOnSymbol, IsGiven}
use Rattle.match_laws.specs.Due.{Stored, IsComplete, IsSound, AreJustified, Covers, IsAnswered, StaysStored, StaysOwed}

-- each claim at a root of its symbol that the later list justifies is among these
abbrev pub HasJustified : List Done → List Done → List Claim → Type 0
HasJustified before now owed = (claim : Claim) → IsOnSymbol now claim → Justified before now claim →
    Contains owed claim

-- an operation that adds at most one term gives exactly the claims that it justifies at roots of their symbol
abbrev pub GivenLaw : Type 0
GivenLaw = (before later : List Done) (unions : List Union) → IsLawful (before ++ later) →
    length (terms_of (before ++ later)) ≤ length (terms_of before) + 1 → ListsUnions before (before ++ later) unions →
    (claim : Claim) → IsOnSymbol (before ++ later) claim →
    Justified before (before ++ later) claim ↔ IsGiven before (before ++ later) unions claim

-- where what is owed stays owed and what operations justify comes to it, each match is still stored or owed
abbrev pub CompleteLaw : Type 0
CompleteLaw = (before later : List Done) → IsLawful (before ++ later) → (owed owed' : List Claim) (stored : Stored) →
    StaysOwed owed owed' → HasJustified before (before ++ later) owed' → IsComplete before owed stored →
    IsComplete (before ++ later) owed' stored

-- where nothing else comes to it, each claim that is owed still has a reason that came after the base
abbrev pub JustifiedLaw : Type 0
JustifiedLaw = (base middle later : List Done) → IsLawful (base ++ middle) → IsLawful ((base ++ middle) ++ later) →
    (owed owed' : List Claim) →
    ((claim : Claim) → Contains owed' claim →
    Contains owed claim ⊎ Justified (base ++ middle) ((base ++ middle) ++ later) claim) →
    AreJustified base (base ++ middle) owed → AreJustified base ((base ++ middle) ++ later) owed'

-- stored tuples stay matches when operations come
abbrev pub SoundLaw : Type 0
SoundLaw = (before later : List Done) → IsLawful (before ++ later) → (stored : Stored) → IsSound before stored →
    IsSound (before ++ later) stored

-- nothing has come where nothing was done
abbrev pub NothingCameLaw : Type 0
NothingCameLaw = (standing : List Done) → IsLawful standing → Covers standing standing []

-- where what came stays and what operations justify comes to it, it still has each match that was not there before
abbrev pub CoversLaw : Type 0
CoversLaw = (before middle later : List Done) → IsLawful ((before ++ middle) ++ later) → (came came' : List Claim) →
    StaysOwed came came' → HasJustified (before ++ middle) ((before ++ middle) ++ later) came' →
    Covers before (before ++ middle) came → Covers before ((before ++ middle) ++ later) came'

-- claims that were answered in an earlier list may go, where those that came since stay
abbrev pub LateLaw : Type 0
LateLaw = (before now : List Done) → (owed owed' came : List Claim) (stored stored' : Stored) →
    Covers before now came → StaysOwed came owed' →
    ((claim : Claim) → Contains owed claim → Contains owed' claim ⊎ IsAnswered before stored' claim) →
    StaysStored stored stored' → IsComplete now owed stored → IsComplete now owed' stored'

-- where each claim that is owed was answered, each match is stored and nothing is owed
abbrev pub SettledLaw : Type 0
SettledLaw = (standing : List Done) → IsLawful standing → (owed : List Claim) (stored stored' : Stored) →
    ((claim : Claim) → Contains owed claim → IsAnswered standing stored' claim) → StaysStored stored stored' →
    IsComplete standing owed stored → IsComplete standing [] stored'
