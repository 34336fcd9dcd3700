-- Parts of nodes, and places whose part a node is.
use Rattle.std.specs.Prelude.{◌≡◌, ℕ, ◌+◌, ◌<◌, ◌^◌, ◌==◌, List, [], ◌∷◌, ◌++◌, length, slice_index_or, take, Contains}
use Rattle.std.specs.Prelude.{if◌then◌else◌}
use Rattle.search_values.specs.declared.up.Up.{Up}

-- for each node its parts, and the places whose part it is
pub record Wires : Type 0 where
  pub parts : List (List ℕ)
  pub ups : List (List Up)

-- the place of the node
abbrev pub up : ℕ → ℕ → Up
up node place = record { node = node; place = place }

-- the parts of a node
abbrev pub parts_at : Wires → ℕ → List ℕ
parts_at wires n = slice_index_or wires.parts n []

-- the part at a place of a node
abbrev pub part_at : Wires → ℕ → ℕ → ℕ
part_at wires n i = slice_index_or (parts_at wires n) i 0

-- the places whose part a node is
abbrev pub ups_at : Wires → ℕ → List Up
ups_at wires n = slice_index_or wires.ups n []

-- one of the places whose part a node is
abbrev pub up_at : Wires → ℕ → ℕ → Up
up_at wires n k = slice_index_or (ups_at wires n) k (up 0 0)

-- the node has this place
pub record IsPlace (wires : Wires) (n i : ℕ) : Type 0 where
  pub node : n < length wires.parts
  pub place : i < length (parts_at wires n)

-- the places of a node whose part is m, where these are its parts from a place on
abbrev pub places_with : ℕ → ℕ → ℕ → List ℕ → List Up
places_with m node place [] = []
places_with m node place (part ∷ parts) =
    (if part == m then up node place ∷ [] else []) ++ places_with m node (place + 1) parts

-- the places whose part is m, where these are the parts of the nodes from a node on, in order
abbrev pub ups_from : ℕ → ℕ → List (List ℕ) → List Up
ups_from m node [] = []
ups_from m node (parts ∷ rest) = places_with m node 0 parts ++ ups_from m (node + 1) rest

-- parts are earlier nodes, and each node knows the places whose part it is, in order
pub record IsWired (wires : Wires) : Type 0 where
  pub aligned : length wires.ups ≡ length wires.parts
  pub few : length wires.parts < 2 ^ 32
  pub earlier : (n i : ℕ) → IsPlace wires n i → part_at wires n i < n
  pub are : (m : ℕ) → ups_at wires m ≡ ups_from m 0 wires.parts
  pub listed : (n i : ℕ) → IsPlace wires n i → Contains (ups_at wires (part_at wires n i)) (up n i)
  pub is_place : (n k : ℕ) → n < length wires.parts → k < length (ups_at wires n) →
      IsPlace wires (up_at wires n k).node (up_at wires n k).place
  pub is_part : (n k : ℕ) → n < length wires.parts → k < length (ups_at wires n) →
      part_at wires (up_at wires n k).node (up_at wires n k).place ≡ n

-- the first nodes, so many, without the places whose part each is
abbrev pub front : Wires → ℕ → Wires
front wires count = record { parts = take count wires.parts; ups = [] }
