-- The places of a trigger's patterns.
use Rattle.std.specs.Prelude.{◌≡◌, ℕ, List, [], ◌∷◌, slice_get, Some, Contains}
use Rattle.graph_trigger.specs.declared.trigger.Trigger.{Trigger}
use Rattle.graph_trigger.specs.declared.pattern_row.PatternRow.TheVariants.{App}
use Rattle.graph_trigger.specs.Trigger.{Occurs}
use Rattle.graph_meaning.specs.Justified.{AppliesAt}
use Rattle.match_paths.specs.declared.link.Link.{Link}
use Rattle.match_paths.specs.declared.link.Link.TheVariants.{Above}
use Rattle.match_paths.specs.declared.occurrence.Occurrence.{Occurrence}

-- the links from the end of the path up to the root, none at the root
pub data LinksOf (trigger : Trigger) (start : ℕ) : List ℕ → List Link → Type 0 where
  root : LinksOf trigger start [] []
  below : {place symbol : ℕ} {path : List ℕ} {links : List Link} → AppliesAt trigger start path symbol →
      LinksOf trigger start path links → LinksOf trigger start (place ∷ path) (Above symbol place ∷ links)

-- the place is one of the trigger's
pub record IsOccurrence (trigger : Trigger) (occurrence : Occurrence) : Type 0 where
  pub path : List ℕ
  pub occurs : Occurs trigger occurrence.start path occurrence.row
  pub links : LinksOf trigger occurrence.start path occurrence.links

-- the place of the path is among these
pub record IsAmong (trigger : Trigger) (start : ℕ) (path : List ℕ) (row : ℕ) (all : List Occurrence) : Type 0 where
  pub occurrence : Occurrence
  pub is : Contains all occurrence
  pub start_is : occurrence.start ≡ start
  pub row_is : occurrence.row ≡ row
  pub links : LinksOf trigger start path occurrence.links

-- exactly the places of the trigger's patterns
pub record AreOccurrences (trigger : Trigger) (all : List Occurrence) : Type 0 where
  pub sound : (occurrence : Occurrence) → Contains all occurrence → IsOccurrence trigger occurrence
  pub complete : (start : ℕ) (path : List ℕ) (row : ℕ) → Occurs trigger start path row →
      IsAmong trigger start path row all

-- the place of a part
abbrev pub part_at : Occurrence → ℕ → ℕ → ℕ → Occurrence
part_at above symbol place part = record { start = above.start; row = part; links = Above symbol place ∷ above.links }

-- the second is the place of a part of the first
abbrev pub IsPartOf : Trigger → Occurrence → Occurrence → Type 0
IsPartOf trigger above other = (symbol : ℕ) × (parts : List ℕ) × (place : ℕ) × (part : ℕ) ×
    (slice_get trigger.rows above.row ≡ Some (App symbol parts)) × (slice_get parts place ≡ Some part) ×
    (other ≡ part_at above symbol place part)

-- exactly the places of the parts
pub record AreParts (trigger : Trigger) (above : Occurrence) (parts : List Occurrence) : Type 0 where
  pub sound : (other : Occurrence) → Contains parts other → IsPartOf trigger above other
  pub complete : (other : Occurrence) → IsPartOf trigger above other → Contains parts other

-- the place of one of these parts
abbrev pub IsPartIn : Occurrence → ℕ → List ℕ → Occurrence → Type 0
IsPartIn above symbol args other = (place : ℕ) × (part : ℕ) × (slice_get args place ≡ Some part) ×
    (other ≡ part_at above symbol place part)

-- exactly the places of these parts
pub record ArePartsIn (above : Occurrence) (symbol : ℕ) (args : List ℕ) (parts : List Occurrence) : Type 0 where
  pub sound : (other : Occurrence) → Contains parts other → IsPartIn above symbol args other
  pub complete : (other : Occurrence) → IsPartIn above symbol args other → Contains parts other

-- the place of the root of a pattern
abbrev pub IsRootOf : Trigger → Occurrence → Type 0
IsRootOf trigger occurrence = (slice_get trigger.roots occurrence.start ≡ Some occurrence.row) ×
    (occurrence.links ≡ [])

-- the places of the roots
pub record AreRoots (trigger : Trigger) (all : List Occurrence) : Type 0 where
  pub sound : (occurrence : Occurrence) → Contains all occurrence → IsRootOf trigger occurrence
  pub complete : (start row : ℕ) → slice_get trigger.roots start ≡ Some row →
      Contains all (record { start = start; row = row; links = [] })
