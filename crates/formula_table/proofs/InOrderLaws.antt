-- Things become items, one after another, in one way.
use Rattle.std.proofs.Common.{◌≡◌, ℕ, zero, suc, ◌+◌, ◌-◌, ◌<◌, ◌≤◌, ◌⊎◌, ◌↔◌, List, [], ◌∷◌, ◌++◌, length, get_or}
use Rattle.std.proofs.Common.{slice_get, Some, refl, sym, ap, subst, ◌∙◌, inl, inr, ⊎_elim, append_assoc, arith}
use Rattle.std.specs.Prelude.{slice_index}
use Rattle.std.proofs.lemmas.Bool.{cases_lt}
use Rattle.std.proofs.lemmas.List.{length-append, get_or_append_left}
use Rattle.std.proofs.lemmas.Option.{none-some, same_Some, slice_get_within, get_or_from_slice_get}
use Rattle.graph_terms.proofs.ListLaws.{slice_get-append_left, slice_get-push, push_cases, element_at}
use Rattle.formula_draft.proofs.ReachLaws.{back}
use Rattle.formula_table.specs.InOrder.{AreInOrder, StandsNowhere, IsFullFor}

-- a list is empty or has a last element
pub last_cases : {X : Type 0} (xs : List X) → (xs ≡ []) ⊎ ((front : List X) × (last : X) × (xs ≡ front ++ last ∷ []))
last_cases [] = inl refl
last_cases (x ∷ xs) = ⊎_elim (λ none. inr ([], x, ap (λ ys. x ∷ ys) none))
    (λ more. inr (x ∷ more.0, more.1, ap (λ ys. x ∷ ys) more.2)) (last_cases xs)

module _ {X : Type 0} where
  -- the thing with this number put an item last
  pub record PutLast (Becomes : ℕ → X → Type 0) (items : List X) (limit n : ℕ) (added : List X)
      (numbers : List ℕ) : Type 0 where
    pub front : List X
    pub item : X
    pub added_is : added ≡ front ++ item ∷ []
    pub before : AreInOrder Becomes items limit n front numbers
    pub becomes : Becomes n item
    pub nowhere : StandsNowhere (items ++ front) item
    pub number_is : slice_index numbers n ≡ length (items ++ front)
    pub room : length (items ++ front) < limit

  module _ (Becomes : ℕ → X → Type 0) (items : List X) (limit : ℕ) (numbers : List ℕ) where
    -- before the first thing nothing was added
    pub none_added : (added : List X) → AreInOrder Becomes items limit 0 added numbers → added ≡ []
    none_added added is = ⊎_elim (λ none. none)
        (λ more.
        let item : slice_get added (length more.0) ≡ Some more.1 = ap (λ xs. slice_get xs (length more.0)) more.2
        ∙ slice_get-push more.0 more.1 in
        let thing = element_at is.things (length more.0) (let within = slice_get_within added (length more.0) more.1
        item in omega (arith, within, is.count)) in
        absurd (let was = is.each (length more.0) thing.0 more.1 thing.1 item in omega (arith, was.0)))
        (last_cases added)

    module _ (n : ℕ) (added : List X) (is : AreInOrder Becomes items limit (suc n) added numbers) where
      -- where all things are earlier, the last one added nothing
      keeps : ((k m : ℕ) → slice_get is.things k ≡ Some m → m < n) → AreInOrder Becomes items limit n added numbers
      keeps below = record {
        stand = λ m x less. is.stand m x (omega (arith, less));
        things = is.things;
        rising = is.rising;
        count = is.count;
        each = λ k m x thing item. (below k m thing, (is.each k m x thing item).1);
        first = is.first;
        once = is.once;
        room = is.room;
      }

      module _ (earlier : List ℕ) (last : ℕ) (things_are : is.things ≡ earlier ++ last ∷ []) where
        thing_before : (k m : ℕ) → slice_get earlier k ≡ Some m → slice_get is.things k ≡ Some m
        thing_before k m at = ap (λ xs. slice_get xs k) things_are ∙ slice_get-append_left earlier (last ∷ []) k m at

        last_thing : slice_get is.things (length earlier) ≡ Some last
        last_thing = ap (λ xs. slice_get xs (length earlier)) things_are ∙ slice_get-push earlier last

        -- the things before the last are lower
        lower : (k m : ℕ) → slice_get earlier k ≡ Some m → m < last
        lower k m at =
            let within = slice_get_within earlier k m at in
            let length_is = slice_get_within is.things (length earlier) last last_thing in
            let up = is.rising k (length earlier) 0 within length_is in
            let this = get_or_from_slice_get is.things k m 0 (thing_before k m at) in
            let that = get_or_from_slice_get is.things (length earlier) last 0 last_thing in
            omega (arith, up, this, that)

        all_lower : last < n → (k m : ℕ) → slice_get is.things k ≡ Some m → m < n
        all_lower less k m at = ⊎_elim (λ old. let low = lower k m old in
            omega (arith, low, less)) (λ new. omega (arith, new.1, less))
            (push_cases earlier last k m (ap (λ xs. slice_get xs k) (sym things_are) ∙ at))

        as_many : (front : List X) (item : X) → added ≡ front ++ item ∷ [] → length earlier ≡ length front
        as_many front item added_is = omega (
          arith,
          is.count,
          ap length things_are,
          ap length added_is,
          length-append earlier (last ∷ []),
          length-append front (item ∷ []),
        )

        module _ (at : last ≡ n) (front : List X) (item : X) (added_is : added ≡ front ++ item ∷ []) where
          this_thing : slice_get is.things (length front) ≡ Some n
          this_thing = ap (slice_get is.things) (sym (as_many front item added_is)) ∙ last_thing ∙ ap Some at

          this_item : slice_get added (length front) ≡ Some item
          this_item = ap (λ xs. slice_get xs (length front)) added_is ∙ slice_get-push front item

          becomes_item : Becomes n item
          becomes_item = (is.each (length front) n item this_thing this_item).1

          all_items : items ++ added ≡ (items ++ front) ++ item ∷ []
          all_items = ap (λ xs. items ++ xs) added_is ∙ sym (append_assoc items front (item ∷ []))

          item_stands : slice_get (items ++ added) (length (items ++ front)) ≡ Some item
          item_stands = ap (λ xs. slice_get xs (length (items ++ front))) all_items
              ∙ slice_get-push (items ++ front) item

          stood_before : (k : ℕ) (x : X) → slice_get (items ++ front) k ≡ Some x →
              slice_get (items ++ added) k ≡ Some x
          stood_before k x at_k = ap (λ xs. slice_get xs k) all_items
              ∙ slice_get-append_left (items ++ front) (item ∷ []) k x at_k

          item_before : (k : ℕ) (x : X) → slice_get front k ≡ Some x → slice_get added k ≡ Some x
          item_before k x at_k = ap (λ xs. slice_get xs k) added_is ∙ slice_get-append_left front (item ∷ []) k x at_k

          behind : length items ≤ length (items ++ front)
          behind = omega (arith, length-append items front)

          has_room : length (items ++ front) < limit
          has_room = ⊎_elim
              (λ none. absurd (omega (arith, none, ap length added_is, length-append front (item ∷ []))))
              (λ room. omega (
                arith,
                room,
                ap length added_is,
                length-append front (item ∷ []),
                length-append items front,
              ))
              is.room

          -- the last of the things put an item last
          puts : PutLast Becomes items limit n added numbers
          puts = record {
            front = front;
            item = item;
            added_is = added_is;
            before = record {
              stand = λ m x less becomes. ⊎_elim
                  (λ old. old)
                  (λ new. absurd (is.first (length front) m n item this_thing this_item less
                  (subst (Becomes m) new.1 becomes)))
                  (push_cases (items ++ front) item (slice_index numbers m) x
                  (ap (λ xs. slice_get xs (slice_index numbers m)) (sym all_items)
                  ∙ is.stand m x (omega (arith, less)) becomes));
              things = earlier;
              rising = λ i j d less within.
                  let up = is.rising i j d less (omega (
                    arith,
                    within,
                    ap length things_are,
                    length-append earlier (last ∷ []),
                  )) in
                  let this : get_or is.things i d ≡ get_or earlier i d = ap (λ xs. get_or xs i d) things_are
                  ∙ get_or_append_left earlier (last ∷ []) d i (omega (arith, less, within)) in
                  let that : get_or is.things j d ≡ get_or earlier j d = ap (λ xs. get_or xs j d) things_are
                  ∙ get_or_append_left earlier (last ∷ []) d j within in
                  omega (arith, up, this, that);
              count = as_many front item added_is;
              each = λ k m x thing found. (
                let low = lower k m thing in omega (arith, low, at),
                (is.each k m x (thing_before k m thing) (item_before k x found)).1,
              );
              first = λ k l m x thing found. is.first k l m x (thing_before k m thing) (item_before k x found);
              once = λ i j x at_i at_j. is.once i j x (stood_before i x at_i) (stood_before j x at_j);
              room = inr (omega (arith, has_room, length-append items front));
            };
            becomes = becomes_item;
            nowhere = λ k found.
                let same = is.once k (length (items ++ front)) item (stood_before k item found) item_stands behind in
                let within = slice_get_within (items ++ front) k item found in
                absurd (omega (arith, same, within));
            number_is = is.once (slice_index numbers n) (length (items ++ front)) item
                (is.stand n item (omega arith) becomes_item) item_stands behind;
            room = has_room;
          }

      -- the last of the things added nothing, or it put an item last
      pub last_step : AreInOrder Becomes items limit n added numbers ⊎ PutLast Becomes items limit n added numbers
      last_step = ⊎_elim
          (λ none. inl (keeps (λ k m at. absurd (none-some m (ap (λ xs. slice_get xs k) (sym none) ∙ at)))))
          (λ more. ⊎_elim
          (λ less. inl (keeps (all_lower more.0 more.1 more.2 less)))
          (λ not_less. inr (by_last more.0 more.1 more.2 not_less))
          (cases_lt more.1 n))
          (last_cases is.things)
        where
          by_last : (earlier : List ℕ) (last : ℕ) → is.things ≡ earlier ++ last ∷ [] → n ≤ last →
              PutLast Becomes items limit n added numbers
          by_last earlier last things_are not_less = ⊎_elim
              (λ none. absurd (omega (
                arith,
                is.count,
                ap length things_are,
                length-append earlier (last ∷ []),
                ap length none,
              )))
              (λ more.
              let counts = as_many earlier last things_are more.0 more.1 more.2 in
              let thing = last_thing earlier last things_are in
              let item = ap (λ xs. slice_get xs (length earlier)) more.2
              ∙ ap (slice_get (more.0 ++ more.1 ∷ [])) counts ∙ slice_get-push more.0 more.1 in
              let was = is.each (length earlier) last more.1 thing item in
              puts earlier last things_are (omega (arith, not_less, was.0)) more.0 more.1 more.2)
              (last_cases added)

    -- as many items stand as may, at most
    pub still_within : (n : ℕ) (added : List X) → AreInOrder Becomes items limit n added numbers →
        length items ≤ limit → length (items ++ added) ≤ limit
    still_within n added is within = ⊎_elim (λ none. omega (arith, none, within, length-append items added))
        (λ room. omega (arith, room, length-append items added)) is.room

    -- things that became items in order did so when there were fewer of them
    pub cut_back : (b d : ℕ) (added : List X) → AreInOrder Becomes items limit (b + d) added numbers →
        (front : List X) × AreInOrder Becomes items limit b front numbers
    cut_back b zero added is = let same : b + 0 ≡ b = omega arith in
        (added, subst (λ n. AreInOrder Becomes items limit n added numbers) same is)
    cut_back b (suc d) added is =
        let same : b + suc d ≡ suc (b + d) = omega arith in
        ⊎_elim (λ kept. cut_back b d added kept) (λ put. cut_back b d put.front put.before)
        (last_step (b + d) added (subst (λ n. AreInOrder Becomes items limit n added numbers) same is))

    -- where none of the items stood twice, none does after
    pub stand_once : ((i j : ℕ) (x : X) → slice_get items i ≡ Some x → slice_get items j ≡ Some x → i ≡ j) →
        (n : ℕ) (added : List X) → AreInOrder Becomes items limit n added numbers → (i j : ℕ) (x : X) →
        slice_get (items ++ added) i ≡ Some x → slice_get (items ++ added) j ≡ Some x → i ≡ j
    stand_once once n added is i j x at_i at_j = ⊎_elim
        (λ old_j. ⊎_elim
        (λ old_i. once i j x (back items added i x old_i at_i) (back items added j x old_j at_j))
        (λ new_i. sym (is.once j i x at_j at_i new_i))
        (cases_lt i (length items)))
        (λ new_j. is.once i j x at_i at_j new_j)
        (cases_lt j (length items))

-- where a thing becomes the same in both ways once the numbers before it are the same, there is one way
module _ {X : Type 0} (P Q : ℕ → X → Type 0) (items : List X) (limit : ℕ) (numbers others : List ℕ)
    (once : (i j : ℕ) (x : X) → slice_get items i ≡ Some x → slice_get items j ≡ Some x → i ≡ j)
    (step : (n : ℕ) → ((m : ℕ) (x : X) → m < n → P m x → slice_index numbers m ≡ slice_index others m) → (x : X) →
    P n x ↔ Q n x) where
  -- the things before a number have the same numbers
  abbrev Agree : ℕ → Type 0
  Agree n = (m : ℕ) (x : X) → m < n → P m x → slice_index numbers m ≡ slice_index others m

  next_agree : (n : ℕ) → Agree n → ((x : X) → P n x → slice_index numbers n ≡ slice_index others n) → Agree (suc n)
  next_agree n agree here m x less becomes = ⊎_elim
      (λ earlier. agree m x earlier becomes)
      (λ not_earlier. let at : m ≡ n = omega (arith, less, not_earlier) in
      subst (λ k. slice_index numbers k ≡ slice_index others k) (sym at) (here x (subst (λ k. P k x) at becomes)))
      (cases_lt m n)

  module _ (n : ℕ) (xs ys : List X) (is : AreInOrder P items limit (suc n) xs numbers)
      (second : AreInOrder Q items limit (suc n) ys others) where
    -- the last thing added nothing in either way
    both_kept : AreInOrder P items limit n xs numbers → (xs ≡ ys) × Agree n → (xs ≡ ys) × Agree (suc n)
    both_kept kept same = (
      same.0,
      next_agree n same.1 (λ x becomes.
          let one = is.stand n x (omega arith) becomes in
          let other = second.stand n x (omega arith) ((step n same.1 x).0 becomes) in
          stand_once P items limit numbers once n xs kept (slice_index numbers n) (slice_index others n) x one
          (ap (λ zs. slice_get (items ++ zs) (slice_index others n)) same.0 ∙ other)),
    )

    -- it put an item last in both ways
    both_put : (one : PutLast P items limit n xs numbers) (other : PutLast Q items limit n ys others) →
        (one.front ≡ other.front) × Agree n → (xs ≡ ys) × Agree (suc n)
    both_put one other same =
        let becomes = (step n same.1 other.item).1 other.becomes in
        let item : one.item ≡ other.item = same_Some one.item other.item
        (sym (is.stand n one.item (omega arith) one.becomes) ∙ is.stand n other.item (omega arith) becomes) in (
          one.added_is ∙ ap (λ zs. zs ++ one.item ∷ []) same.0 ∙ ap (λ x. other.front ++ x ∷ []) item
              ∙ sym other.added_is,
          next_agree n same.1 (λ x b. one.number_is ∙ ap (λ zs. length (items ++ zs)) same.0 ∙ sym other.number_is),
        )

    -- it put an item last in one way alone
    not_second : (other : PutLast Q items limit n ys others) → (xs ≡ other.front) × Agree n → ⊥
    not_second other same = other.nowhere (slice_index numbers n)
        (ap (λ zs. slice_get (items ++ zs) (slice_index numbers n)) (sym same.0)
        ∙ is.stand n other.item (omega arith) ((step n same.1 other.item).1 other.becomes))

    not_first : (one : PutLast P items limit n xs numbers) → (one.front ≡ ys) × Agree n → ⊥
    not_first one same = one.nowhere (slice_index others n)
        (ap (λ zs. slice_get (items ++ zs) (slice_index others n)) same.0
        ∙ second.stand n one.item (omega arith) ((step n same.1 one.item).0 one.becomes))

  -- the same items are added, and the things get the same numbers
  pub one_in_order : (n : ℕ) (xs ys : List X) → AreInOrder P items limit n xs numbers →
      AreInOrder Q items limit n ys others → (xs ≡ ys) × ((m : ℕ) (x : X) → m < n → P m x →
      slice_index numbers m ≡ slice_index others m)
  one_in_order zero xs ys is second = (
    none_added P items limit numbers xs is
        ∙ sym (none_added Q items limit others ys second),
    λ m x less. absurd (omega (arith, less)),
  )
  one_in_order (suc n) xs ys is second = ⊎_elim
      (λ kept. ⊎_elim
      (λ also. both_kept n xs ys is second kept (one_in_order n xs ys kept also))
      (λ put. absurd (not_second n xs ys is second put (one_in_order n xs put.front kept put.before)))
      (last_step Q items limit others n ys second))
      (λ put. ⊎_elim
      (λ also. absurd (not_first n xs ys is second put (one_in_order n put.front ys put.before also)))
      (λ other. both_put n xs ys is second put other (one_in_order n put.front other.front put.before other.before))
      (last_step Q items limit others n ys second))
      (last_step P items limit numbers n xs is)

  -- where a thing has no room, no more things were entered
  pub full_stops : (b c : ℕ) (xs ys : List X) → AreInOrder P items limit b xs numbers →
      IsFullFor (P b) (items ++ xs) limit → b < c → AreInOrder Q items limit c ys others → ⊥
  full_stops b c xs ys is full less second = at_next cut.0 cut.1
    where
      far : suc b + (c - suc b) ≡ c
      far = omega (arith, less)

      cut : (front : List X) × AreInOrder Q items limit (suc b) front others
      cut = cut_back Q items limit others (suc b) (c - suc b) ys
          (subst (λ n. AreInOrder Q items limit n ys others) (sym far) second)

      at_next : (front : List X) → AreInOrder Q items limit (suc b) front others → ⊥
      at_next front next = ⊎_elim
          (λ kept.
          let same = one_in_order b xs front is kept in
          full.2 (slice_index others b) (ap (λ zs. slice_get (items ++ zs) (slice_index others b)) same.0
          ∙ next.stand b full.0 (omega arith) ((step b same.1 full.0).0 full.1)))
          (λ put.
          let same = one_in_order b xs put.front is put.before in
          omega (arith, put.room, full.3, ap (λ zs. length (items ++ zs)) same.0))
          (last_step Q items limit others b front next)
