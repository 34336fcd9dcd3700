-- Levels and what was saved for them.
use Rattle.std.proofs.Common.{zero, suc, ◌≡◌, ◌<◌, ◌≤◌, ◌+◌, ◌-◌, ◌⊎◌, inl, inr, ℕ, List, [], ◌∷◌, ◌++◌, length, map, take, slice_index, slice_index_or, refl, sym, ◌∙◌, ap, subst, arith, length-append}
use Rattle.std.proofs.lemmas.List.{map-append, length-map, take-map, get_or-map, length-take, drop_all, take_all}
use Rattle.graph_trail.specs.Undo.{state_before}
use Rattle.search_board.specs.Board.{Shown, no_nodes}
use Rattle.search_board.specs.Undo.{before_change}
use Rattle.search_values.specs.declared.noted.Noted.{Noted}
use Rattle.search_values.specs.declared.up.Up.{Up}
use Rattle.search_values.specs.Wiring.{Wires, IsWired, front}
use Rattle.search_values.specs.Settled.{AreWires, IsSettled}
use Rattle.search_values.specs.History.{now, notes, board_at, KeepsHistory}
use Rattle.search_values.proofs.WireLemmas.{take_take}
use Rattle.search_values.specs.Kept.{Kept, popped, IsStacked}
use Rattle.search_values.specs.KeptInside.{IsRight, IsRightFront, AreLevels}

map_same : {A : Type 0} (f g : ℕ → A) (xs : List ℕ) → ((k : ℕ) → k < length xs → f (slice_index xs k) ≡ g (slice_index xs k)) → map f xs ≡ map g xs
map_same f g [] same = refl
map_same f g (x ∷ xs) same = both _ _ _ _ (same 0 (omega arith)) (map_same f g xs (λ k h. same (suc k) (omega arith)))
  where
    both : {A : Type 0} (a b : A) (xs ys : List A) → a ≡ b → xs ≡ ys → a ∷ xs ≡ b ∷ ys
    both a b xs ys p q = cc

-- what was saved stays
pub saved_stay : (wires : Wires) (old new : Noted) (levels : List ℕ) → AreLevels wires old levels → KeepsHistory old new → map (board_at new) levels ≡ map (board_at old) levels
saved_stay wires old new levels are history = map_same (board_at new) (board_at old) levels (λ k h. history.at (slice_index levels k) (are.stand k h))

pub levels_stay : (wires : Wires) (old new : Noted) (levels : List ℕ) → AreLevels wires old levels → KeepsHistory old new → AreLevels wires new levels
levels_stay wires old new levels are history = record {
  stand = λ k h. omega (arith, are.stand k h, history.longer);
  ascend = are.ascend;
  right = λ k h. subst (λ (s : Shown). IsRightFront wires s) (sym (history.at (slice_index levels k) (are.stand k h))) (are.right k h);
  rising = λ j k le h. omega (arith, nodes j (omega (arith, le, h)), nodes k h, are.rising j k le h);
}
  where
    nodes : (k : ℕ) → k < length levels → length (board_at new (slice_index levels k)).kinds ≡ length (board_at old (slice_index levels k)).kinds
    nodes k h = ap (λ (s : Shown). length s.kinds) (history.at (slice_index levels k) (are.stand k h))

-- the board at the last mark is the one at hand
pub at_end : (noted : Noted) (mark : ℕ) → mark ≡ length (notes noted) → board_at noted mark ≡ now noted
at_end noted mark e = ap (λ ns. state_before before_change ns (now noted)) (drop_all mark (notes noted) (omega arith))

-- what came past a mark was taken back
pub record WentBack (old new : Noted) : Type 0 where
  pub same : now new ≡ now old
  pub history : KeepsHistory old new

pub went_back : (old mid new : Noted) (mark : ℕ) → KeepsHistory old mid → mark ≡ length (notes old) → now new ≡ board_at mid mark → notes new ≡ take mark (notes mid) → ((m : ℕ) → m ≤ mark → board_at new m ≡ board_at mid m) → WentBack old new
went_back old mid new mark history e gives kept at = record {
  same = gives ∙ history.at mark (omega arith) ∙ at_end old mark e;
  history = record {
    longer = omega (arith, ap length kept, length-take mark (notes mid), history.longer);
    at = λ m h. at m (omega arith) ∙ history.at m h;
  };
}

pub back_right : (wires : Wires) (old new : Noted) → IsRight wires (now old) → WentBack old new → IsRight wires (now new)
back_right wires old new right back = subst (λ (s : Shown). IsRight wires s) (sym back.same) right

-- ---- a level is opened

pub saved_push : (noted : Noted) (levels : List ℕ) (mark : ℕ) → mark ≡ length (notes noted) → map (board_at noted) (levels ++ mark ∷ []) ≡ map (board_at noted) levels ++ now noted ∷ []
saved_push noted levels mark e = map-append (board_at noted) levels (mark ∷ []) ∙ ap (λ s. map (board_at noted) levels ++ s ∷ []) (at_end noted mark e)

get_push : (xs : List ℕ) (x k : ℕ) → k < length xs → slice_index (xs ++ x ∷ []) k ≡ slice_index xs k
get_push [] x k h = absurd (omega arith)
get_push (y ∷ ys) x zero h = refl
get_push (y ∷ ys) x (suc k) h = get_push ys x k (omega arith)

get_last : (xs : List ℕ) (x : ℕ) → slice_index (xs ++ x ∷ []) (length xs) ≡ x
get_last [] x = refl
get_last (y ∷ ys) x = get_last ys x

same_or_less : (k n : ℕ) → k < n + 1 → (k ≡ n) ⊎ (k < n)
same_or_less k n h = search arith

-- ---- the first nodes

abbrev nodes_of : Shown → ℕ
nodes_of s = length s.kinds

length_cut : {A : Type 0} (xs : List A) (n : ℕ) → length (take n xs) ≡ n → n ≤ length xs
length_cut xs n e = omega (arith, e, length-take n xs)

-- a board of the first nodes has no more than there are
pub front_within : (wires : Wires) (s : Shown) → IsRightFront wires s → length s.kinds ≤ length wires.parts
front_within wires s right = length_cut wires.parts (length s.kinds) right.are.nodes

-- where the parts are the same, a board is as right
are_over : (parts : List (List ℕ)) (ups more : List (List Up)) (s : Shown) → (let one : Wires = record { parts = parts; ups = ups } in let other : Wires = record { parts = parts; ups = more } in AreWires one s → AreWires other s)
are_over parts ups more s are = record { aligned = are.aligned; nodes = are.nodes; places = are.places }

settled_over : (parts : List (List ℕ)) (ups more : List (List Up)) (s : Shown) → (let one : Wires = record { parts = parts; ups = ups } in let other : Wires = record { parts = parts; ups = more } in IsSettled one s → IsSettled other s)
settled_over parts ups more s settled = record {
  past = λ n i at. settled.past n i (record { node = at.node; place = at.place });
  told = λ n i at. elim (settled.told n i (record { node = at.node; place = at.place })) [ inl waits ↦ inl waits | inr is ↦ inr (record { told = is.told; taken = is.taken }) ];
  values = settled.values;
}

-- a board that is right is of the first nodes, which are all
pub right_front : (wires : Wires) (s : Shown) → IsRight wires s → IsRightFront wires s
right_front wires s right =
    let all : wires.parts ≡ take (length s.kinds) wires.parts = sym (take_all (length s.kinds) wires.parts (omega (arith, right.are.nodes))) in
    record {
      are = subst (λ (ps : List (List ℕ)). (let w : Wires = record { parts = ps; ups = [] } in AreWires w s)) all (are_over wires.parts wires.ups [] s right.are);
      settled = subst (λ (ps : List (List ℕ)). (let w : Wires = record { parts = ps; ups = [] } in IsSettled w s)) all (settled_over wires.parts wires.ups [] s right.settled);
    }

-- and where only the first nodes are left, it is right
pub front_right : (wires after : Wires) (s : Shown) → IsRightFront wires s → IsWired after → after.parts ≡ take (length s.kinds) wires.parts → IsRight after s
front_right wires after s right wired is = record {
  wired = wired;
  are = subst (λ (ps : List (List ℕ)). (let w : Wires = record { parts = ps; ups = after.ups } in AreWires w s)) (sym is) (are_over (take (length s.kinds) wires.parts) [] after.ups s right.are);
  settled = subst (λ (ps : List (List ℕ)). (let w : Wires = record { parts = ps; ups = after.ups } in IsSettled w s)) (sym is) (settled_over (take (length s.kinds) wires.parts) [] after.ups s right.settled);
}

-- it is as right where the first nodes are the same
front_same : (wires after : Wires) (s : Shown) → take (length s.kinds) after.parts ≡ take (length s.kinds) wires.parts → IsRightFront wires s → IsRightFront after s
front_same wires after s is right = record {
  are = subst (λ (ps : List (List ℕ)). (let w : Wires = record { parts = ps; ups = [] } in AreWires w s)) (sym is) right.are;
  settled = subst (λ (ps : List (List ℕ)). (let w : Wires = record { parts = ps; ups = [] } in IsSettled w s)) (sym is) right.settled;
}

take_of_push : {A : Type 0} (xs : List A) (x : A) (n : ℕ) → n ≤ length xs → take n (xs ++ x ∷ []) ≡ take n xs
take_of_push [] x zero h = refl
take_of_push [] x (suc n) h = absurd (omega arith)
take_of_push (y ∷ ys) x zero h = refl
take_of_push (y ∷ ys) x (suc n) h = ap (λ zs. y ∷ zs) (take_of_push ys x n (omega arith))

-- the levels stay where a node came
pub levels_grow : (wires after : Wires) (noted : Noted) (levels : List ℕ) (parts : List ℕ) → after.parts ≡ wires.parts ++ parts ∷ [] → AreLevels wires noted levels → AreLevels after noted levels
levels_grow wires after noted levels parts is are = record {
  stand = are.stand;
  ascend = are.ascend;
  right = λ k h. let s = board_at noted (slice_index levels k) in
      front_same wires after s (ap (take (length s.kinds)) is ∙ take_of_push wires.parts parts (length s.kinds) (front_within wires s (are.right k h))) (are.right k h);
  rising = are.rising;
}

pub levels_push : (wires : Wires) (noted : Noted) (levels : List ℕ) (mark : ℕ) → mark ≡ length (notes noted) → IsRight wires (now noted) → AreLevels wires noted levels → AreLevels wires noted (levels ++ mark ∷ [])
levels_push wires noted levels mark e right are = record {
  stand = λ k h. elim (cases k h) [
    | inl last ↦ omega (arith, at_last k last, e)
    | inr before ↦ omega (arith, get_push levels mark k before, are.stand k before)
  ];
  ascend = λ j k le h. elim (cases k h) [
    | inl last ↦ elim (cases j (omega arith)) [
      | inl also ↦ omega (arith, at_last k last, at_last j also)
      | inr before ↦ omega (arith, at_last k last, get_push levels mark j before, are.stand j before, e)
    ]
    | inr before ↦ omega (arith, get_push levels mark k before, get_push levels mark j (omega arith), are.ascend j k le before)
  ];
  right = λ k h. elim (cases k h) [
    | inl last ↦ subst (λ (s : Shown). IsRightFront wires s) (sym (board_last k last)) (right_front wires (now noted) right)
    | inr before ↦ subst (λ (s : Shown). IsRightFront wires s) (sym (board_before k before)) (are.right k before)
  ];
  rising = λ j k le h. elim (cases k h) [
    | inl last ↦ elim (cases j (omega (arith, le, h))) [
      | inl also ↦ omega (arith, ap nodes_of (board_last k last), ap nodes_of (board_last j also))
      | inr before ↦ omega (arith, ap nodes_of (board_last k last), ap nodes_of (board_before j before), front_within wires (board_at noted (slice_index levels j)) (are.right j before), right.are.nodes)
    ]
    | inr before ↦ omega (arith, ap nodes_of (board_before k before), ap nodes_of (board_before j (omega (arith, le, before))), are.rising j k le before)
  ];
}
  where
    cases : (k : ℕ) → k < length (levels ++ mark ∷ []) → (k ≡ length levels) ⊎ (k < length levels)
    cases k h = same_or_less k (length levels) (omega (arith, length-append levels (mark ∷ [])))

    at_last : (k : ℕ) → k ≡ length levels → slice_index (levels ++ mark ∷ []) k ≡ mark
    at_last k last = ap (slice_index (levels ++ mark ∷ [])) last ∙ get_last levels mark

    board_last : (k : ℕ) → k ≡ length levels → board_at noted (slice_index (levels ++ mark ∷ []) k) ≡ now noted
    board_last k last = ap (board_at noted) (at_last k last) ∙ at_end noted mark e

    board_before : (k : ℕ) → k < length levels → board_at noted (slice_index (levels ++ mark ∷ []) k) ≡ board_at noted (slice_index levels k)
    board_before k before = ap (board_at noted) (get_push levels mark k before)

take_front : (xs : List ℕ) (x : ℕ) → take (length xs) (xs ++ x ∷ []) ≡ xs
take_front [] x = refl
take_front (y ∷ ys) x = ap (λ zs. y ∷ zs) (take_front ys x)

-- ---- a level ends

module _ (wires after : Wires) (old new : Noted) (levels : List ℕ) (mark : ℕ) (are : AreLevels wires old (levels ++ mark ∷ [])) (at : (m : ℕ) → m ≤ mark → board_at new m ≡ board_at old m) where
  count : length (levels ++ mark ∷ []) ≡ length levels + 1
  count = length-append levels (mark ∷ [])

  pub level_stands : mark ≤ length (notes old)
  level_stands = omega (arith, get_last levels mark, are.stand (length levels) (omega (arith, count)))

  below : (k : ℕ) → k < length levels → slice_index levels k ≤ mark
  below k h = omega (arith, get_last levels mark, get_push levels mark k h, are.ascend k (length levels) (omega arith) (omega (arith, count)))

  -- the boards at the outer levels are the same
  same_board : (k : ℕ) → k < length levels → board_at new (slice_index levels k) ≡ board_at old (slice_index (levels ++ mark ∷ []) k)
  same_board k h = at (slice_index levels k) (below k h) ∙ ap (board_at old) (sym (get_push levels mark k h))

  -- and so is that at the level that ends
  last_board : (s : Shown) → s ≡ board_at old mark → board_at old (slice_index (levels ++ mark ∷ []) (length levels)) ≡ s
  last_board s gives = ap (board_at old) (get_last levels mark) ∙ sym gives

  right_last : (s : Shown) → s ≡ board_at old mark → IsRightFront wires s
  right_last s gives = subst (λ (x : Shown). IsRightFront wires x) (last_board s gives) (are.right (length levels) (omega (arith, count)))

  pub right_pop : now new ≡ board_at old mark → IsWired after → after.parts ≡ take (length (now new).kinds) wires.parts → IsRight after (now new)
  right_pop gives wired is = front_right wires after (now new) (right_last (now new) gives) wired is

  pub levels_pop : notes new ≡ take mark (notes old) → now new ≡ board_at old mark → after.parts ≡ take (length (now new).kinds) wires.parts → AreLevels after new levels
  levels_pop kept gives is = record {
    stand = λ k h. omega (arith, below k h, ap length kept, length-take mark (notes old), level_stands);
    ascend = λ j k le h. omega (arith, get_push levels mark j (omega arith), get_push levels mark k h, are.ascend j k le (omega (arith, count)));
    right = λ k h. let s = board_at new (slice_index levels k) in
        let fewer = are.rising k (length levels) (omega (arith, h)) (omega (arith, count)) in
        let within : length s.kinds ≤ length (now new).kinds = omega (arith, fewer, ap nodes_of (same_board k h), ap nodes_of (last_board (now new) gives)) in
        front_same wires after s (ap (take (length s.kinds)) is ∙ take_take wires.parts (length s.kinds) (length (now new).kinds) within)
        (subst (λ (x : Shown). IsRightFront wires x) (sym (same_board k h)) (are.right k (omega (arith, h, count))));
    rising = λ j k le h. omega (arith, ap nodes_of (same_board j (omega (arith, le, h))), ap nodes_of (same_board k h), are.rising j k le (omega (arith, h, count)));
  }

  pub saved_pop : now new ≡ board_at old mark → after.parts ≡ take (length (now new).kinds) wires.parts → (let kept : Kept = record { parts = wires.parts; shown = now old; saved = map (board_at old) (levels ++ mark ∷ []) } in let left : Kept = record { parts = after.parts; shown = now new; saved = map (board_at new) levels } in left ≡ popped kept)
  saved_pop gives is = same_kept _ _ _ _ _ _ (is ∙ ap (λ (s : Shown). take (length s.kinds) wires.parts) (gives ∙ sym shown)) (gives ∙ sym shown) (map_same (board_at new) (board_at old) levels (λ k h. at (slice_index levels k) (below k h)) ∙ sym rest)
    where
      same_kept : (ps qs : List (List ℕ)) (s t : Shown) (xs ys : List Shown) → ps ≡ qs → s ≡ t → xs ≡ ys → (let one : Kept = record { parts = ps; shown = s; saved = xs } in let two : Kept = record { parts = qs; shown = t; saved = ys } in one ≡ two)
      same_kept ps qs s t xs ys o p q = cc

      many : length (map (board_at old) (levels ++ mark ∷ [])) - 1 ≡ length levels
      many = omega (arith, length-map (levels ++ mark ∷ []) (board_at old), count)

      shown : slice_index_or (map (board_at old) (levels ++ mark ∷ [])) (length (map (board_at old) (levels ++ mark ∷ [])) - 1) (now old) ≡ board_at old mark
      shown = ap (λ k. slice_index_or (map (board_at old) (levels ++ mark ∷ [])) k (now old)) many ∙ get_or-map (board_at old) (levels ++ mark ∷ []) (length levels) 0 (now old) (omega (arith, count)) ∙ ap (board_at old) (get_last levels mark)

      rest : take (length (map (board_at old) (levels ++ mark ∷ [])) - 1) (map (board_at old) (levels ++ mark ∷ [])) ≡ map (board_at old) levels
      rest = ap (λ k. take k (map (board_at old) (levels ++ mark ∷ []))) many ∙ take-map (board_at old) (length levels) (levels ++ mark ∷ []) ∙ ap (map (board_at old)) (take_front levels mark)

-- where no level is open all stays
pub popped_none : (wires : Wires) (s : Shown) → IsRight wires s → (let kept : Kept = record { parts = wires.parts; shown = s; saved = [] } in kept ≡ popped kept)
popped_none wires s right = ap (λ (ps : List (List ℕ)). (let kept : Kept = record { parts = ps; shown = s; saved = [] } in kept)) (sym (take_all (length s.kinds) wires.parts (omega (arith, right.are.nodes))))

index_is : (xs : List ℕ) (k : ℕ) → k < length xs → slice_index xs k ≡ slice_index_or xs k 0
index_is [] k h = absurd (omega arith)
index_is (x ∷ xs) zero h = refl
index_is (x ∷ xs) (suc k) h = index_is xs k (omega arith)

-- each level has its nodes
pub stacked : (wires : Wires) (noted : Noted) (levels : List ℕ) → IsRight wires (now noted) → AreLevels wires noted levels → (let kept : Kept = record { parts = wires.parts; shown = now noted; saved = map (board_at noted) levels } in IsStacked kept)
stacked wires noted levels right are = record {
  nodes = right.are.nodes;
  rising = λ j k le lt. omega (arith, many j (omega (arith, lt, le)), many k lt, are.rising j k le (omega (arith, lt, length-map levels (board_at noted))));
  within = λ k lt. omega (arith, many k lt, front_within wires (board_at noted (slice_index levels k)) (are.right k (omega (arith, lt, length-map levels (board_at noted)))), right.are.nodes);
}
  where
    many : (k : ℕ) → k < length (map (board_at noted) levels) → length (slice_index_or (map (board_at noted) levels) k no_nodes).kinds ≡ length (board_at noted (slice_index levels k)).kinds
    many k lt =
        let within : k < length levels = omega (arith, lt, length-map levels (board_at noted)) in
        ap (λ (s : Shown). length s.kinds) (get_or-map (board_at noted) levels k 0 no_nodes within ∙ ap (board_at noted) (sym (index_is levels k within)))
