-- Items under their keys.
use Rattle.std.proofs.Common.{◌≡◌, ℕ, zero, suc, ◌+◌, ◌<◌, ◌≤◌, Bool, true, false, cond}
use Rattle.std.proofs.Common.{nat_eq, nat_lt, List, [], ◌∷◌, ◌++◌, length, take, position, Option, Some}
use Rattle.std.proofs.Common.{None, Vec, refl, sym, ap, subst, ◌∙◌, ⊎_elim, arith}
use Rattle.std.specs.declared.alloc.Global.{Global}
use Rattle.std.specs.Option.{option_map}
use Rattle.std.specs.Map.{keys_of, values_of, lookup}
use Rattle.std.specs.List.{position_from}
use Rattle.std.specs.Cmp.Lexicographic.{pointwise}
use Rattle.std.proofs.lemmas.Iterator.Adapters.{position_from-zero}
use Rattle.std.proofs.lemmas.List.{length-append}
use Rattle.std.proofs.lemmas.Map.Entries.{length-values_of}
use Rattle.std.proofs.lemmas.Option.{none-some, same_Some}
use Rattle.graph_terms.proofs.ListLaws.{push_cases, slice_get-take}
use Rattle.formula_draft.specs.Items.{with_item, item_or_new, same_key, AreKeyed}

cond_none : {X : Type 0} (b : Bool) (x : X) (o : Option X) → cond b (Some x) o ≡ None → (b ≡ false) × (o ≡ None)
cond_none true x o h = absurd (none-some x (sym h))
cond_none false x o h = (refl, h)

-- where no key passes, nothing is found
lookup_none : {K X : Type 0} (test : K → Bool) (entries : List (K × X)) (j : ℕ) →
    position_from test j (keys_of entries) ≡ None → lookup test entries ≡ None
lookup_none test [] j none = refl
lookup_none test (e ∷ entries) j none =
    let p = cond_none (test e.0) j (position_from test (j + 1) (keys_of entries)) none in
    ap (λ b. cond b (Some e.1) (lookup test entries)) p.0 ∙ lookup_none test entries (j + 1) p.1

-- the values after a push
values_of-push : {K X : Type 0} (entries : List (K × X)) (entry : K × X) →
    values_of (entries ++ entry ∷ []) ≡ values_of entries ++ entry.1 ∷ []
values_of-push [] entry = refl
values_of-push (e ∷ entries) entry = ap (λ items. e.1 ∷ items) (values_of-push entries entry)

-- the values of a front
pub values_of-take : {K X : Type 0} (n : ℕ) (entries : List (K × X)) →
    values_of (take n entries) ≡ take n (values_of entries)
values_of-take zero entries = refl
values_of-take (suc n) [] = refl
values_of-take (suc n) (e ∷ entries) = ap (λ items. e.1 ∷ items) (values_of-take n entries)

module _ {X : Type 0} where
  -- an entry is found where its key is
  by_key : (key : Vec ℕ Global) (item : X) (entries : List (Vec ℕ Global × X)) (j : ℕ) →
      position_from (same_key (key, item)) j entries ≡ position_from
      (λ (k : Vec ℕ Global). pointwise nat_eq key.items k.items) j (keys_of entries)
  by_key key item [] j = refl
  by_key key item (e ∷ entries) j = ap (cond (pointwise nat_eq key.items e.0.items) (Some j))
      (by_key key item entries (j + 1))

  pub place : (key : Vec ℕ Global) (item : X) (entries : List (Vec ℕ Global × X)) →
      position_from (same_key (key, item)) 0 entries ≡ position
      (λ (k : Vec ℕ Global). pointwise nat_eq key.items k.items) (keys_of entries)
  place key item entries = by_key key item entries 0 ∙ sym
      (position_from-zero (λ (k : Vec ℕ Global). pointwise nat_eq key.items k.items) (keys_of entries))

  pub missed : (key : Vec ℕ Global) (item : X) (entries : List (Vec ℕ Global × X)) →
      position_from (same_key (key, item)) 0 entries ≡ None →
      lookup (λ (k : Vec ℕ Global). pointwise nat_eq key.items k.items) entries ≡ None
  missed key item entries none = lookup_none (λ (k : Vec ℕ Global). pointwise nat_eq key.items k.items) entries 0
      (sym (by_key key item entries 0) ∙ none)

  -- entries that are cut stand under their keys
  pub AreKeyed-take : (key : X → List ℕ) (n : ℕ) (entries : List (Vec ℕ Global × X)) → AreKeyed key entries →
      AreKeyed key (take n entries)
  AreKeyed-take key n entries keyed i entry at = keyed i entry (slice_get-take n entries i entry at)

  AreKeyed-push : (key : X → List ℕ) (entries : List (Vec ℕ Global × X)) (entry : Vec ℕ Global × X) →
      AreKeyed key entries → entry.0.items ≡ key entry.1 → AreKeyed key (entries ++ entry ∷ [])
  AreKeyed-push key entries entry keyed is i e at = ⊎_elim (keyed i e)
      (λ p. subst (λ (x : Vec ℕ Global × X). x.0.items ≡ key x.1) (sym p.1) is) (push_cases entries entry i e at)

  module _ (key_of : X → List ℕ) (same : X → X → Bool) (by_keys : (a b : X) →
      pointwise nat_eq (key_of a) (key_of b) ≡ same a b) where
    -- an item is found where its key is
    place_of_item : (key : Vec ℕ Global) (item : X) (entries : List (Vec ℕ Global × X)) (j : ℕ) →
        AreKeyed key_of entries → key.items ≡ key_of item →
        position_from (same item) j (values_of entries) ≡ position_from (same_key (key, item)) j entries
    place_of_item key item [] j keyed is = refl
    place_of_item key item (e ∷ entries) j keyed is =
        let first : same item e.1 ≡ pointwise nat_eq key.items e.0.items = sym (by_keys item e.1)
        ∙ ap (λ k. pointwise nat_eq k (key_of e.1)) (sym is)
        ∙ ap (pointwise nat_eq key.items) (sym (keyed 0 e refl)) in
        ap (λ b. cond b (Some j) (position_from (same item) (j + 1) (values_of entries))) first
        ∙ ap (cond (pointwise nat_eq key.items e.0.items) (Some j))
        (place_of_item key item entries (j + 1) (λ n. keyed (suc n)) is)

    put_values : (most : ℕ) (key : Vec ℕ Global) (item : X) (entries : List (Vec ℕ Global × X)) (o : Option ℕ) →
        item_or_new most item (values_of entries) o ≡ option_map
        (λ (p : ℕ × List (Vec ℕ Global × X)). (p.0, values_of p.1)) (item_or_new most (key, item) entries o)
    put_values most key item entries (Some n) = refl
    put_values most key item entries None = fits (nat_lt (length entries) most) refl
      where
        fits : (b : Bool) → nat_lt (length entries) most ≡ b →
            item_or_new most item (values_of entries) None ≡ option_map
            (λ (p : ℕ × List (Vec ℕ Global × X)). (p.0, values_of p.1)) (item_or_new most (key, item) entries None)
        fits true room =
            ap (λ n. cond (nat_lt n most) (Some (n, values_of entries ++ item ∷ [])) None) (length-values_of entries)
            ∙ ap (λ b. cond b (Some (length entries, values_of entries ++ item ∷ [])) None) room
            ∙ ap (λ items. Some (length entries, items)) (sym (values_of-push entries (key, item)))
            ∙ ap (λ b. option_map (λ (p : ℕ × List (Vec ℕ Global × X)). (p.0, values_of p.1))
            (cond b (Some (length entries, entries ++ (key, item) ∷ [])) None)) (sym room)
        fits false room =
            ap (λ n. cond (nat_lt n most) (Some (n, values_of entries ++ item ∷ [])) None) (length-values_of entries)
            ∙ ap (λ b. cond b (Some (length entries, values_of entries ++ item ∷ [])) None) room
            ∙ ap (λ b. option_map (λ (p : ℕ × List (Vec ℕ Global × X)). (p.0, values_of p.1))
            (cond b (Some (length entries, entries ++ (key, item) ∷ [])) None)) (sym room)

    -- an item is put as its entry is
    pub with_item-keyed : (most : ℕ) (key : Vec ℕ Global) (item : X) (entries : List (Vec ℕ Global × X)) →
        AreKeyed key_of entries → key.items ≡ key_of item →
        with_item same most item (values_of entries) ≡ option_map
        (λ (p : ℕ × List (Vec ℕ Global × X)). (p.0, values_of p.1)) (with_item same_key most (key, item) entries)
    with_item-keyed most key item entries keyed is =
        ap (item_or_new most item (values_of entries)) (place_of_item key item entries 0 keyed is)
        ∙ put_values most key item entries (position_from (same_key (key, item)) 0 entries)

same_pair : {A B : Type 0} (a c : A) (b d : B) → ◌≡◌ {A = Option (A × B)} (Some (a, b)) (Some (c, d)) → (a ≡ c) ×
    (b ≡ d)
same_pair {A} {B} a c b d e = let inside : (a, b) ≡ (c, d) = same_Some (a, b) (c, d) e in
    (ap (λ (p : A × B). p.0) inside, ap (λ (p : A × B). p.1) inside)

not_lt : (m n : ℕ) → nat_lt m n ≡ false → n ≤ m
not_lt m n h = grind arith

lt_from : (m n : ℕ) → nat_lt m n ≡ true → m < n
lt_from m n h = grind arith

-- what an answer says of the items
module _ {X : Type 0} (same : X → X → Bool) (most : ℕ) (new : X) (items : List X) where
  by_place : (P : ℕ → List X → Type 0) (o : Option ℕ) → ((n : ℕ) → o ≡ Some n → P n items) →
      (o ≡ None → length items < most → P (length items) (items ++ new ∷ [])) → (n : ℕ) (after : List X) →
      item_or_new most new items o ≡ Some (n, after) → P n after
  by_place P (Some m) old fresh n after is = let both = same_pair m n items after is in
      subst (λ k. P k after) both.0 (subst (P m) both.1 (old m refl))
  by_place P None old fresh n after is = room (nat_lt (length items) most) refl
    where
      room : (b : Bool) → nat_lt (length items) most ≡ b → P n after
      room true fits =
          let put : Some (length items, items ++ new ∷ []) ≡ Some (
            n,
            after,
          ) = ap (λ b. cond b (Some (length items, items ++ new ∷ [])) None) (sym fits) ∙ is in
          let both = same_pair (length items) n (items ++ new ∷ []) after put in
          subst (λ k. P k after) both.0 (subst (P (length items)) both.1 (fresh refl (lt_from _ _ fits)))
      room false full = absurd (none-some (n, after) (ap (λ b. cond b (Some (length items, items ++ new ∷ [])) None)
          (sym full) ∙ is))

  -- an item that was put stood, or it is a new one at the end
  pub put_cases : (P : ℕ → List X → Type 0) → ((n : ℕ) → position_from (same new) 0 items ≡ Some n → P n items) →
      (position_from (same new) 0 items ≡ None → length items < most → P (length items) (items ++ new ∷ [])) →
      (n : ℕ) (after : List X) → with_item same most new items ≡ Some (n, after) → P n after
  put_cases P = by_place P (position_from (same new) 0 items)

-- entries that were put stand under their keys
pub AreKeyed-put : {X : Type 0} (key_of : X → List ℕ) (most : ℕ) (key : Vec ℕ Global) (item : X)
    (entries : List (Vec ℕ Global × X)) → AreKeyed key_of entries → key.items ≡ key_of item →
    (n : ℕ) (after : List (Vec ℕ Global × X)) → with_item same_key most (key, item) entries ≡ Some (n, after) →
    AreKeyed key_of after
AreKeyed-put {X} key_of most key item entries keyed is = put_cases same_key most (
  key,
  item,
) entries (λ _ after. AreKeyed key_of after) (λ _ _. keyed)
    (λ _ _. AreKeyed-push key_of entries (key, item) keyed is)

-- what came of putting an entry came of putting its item
module _ {X : Type 0} (key_of : X → List ℕ) (same : X → X → Bool) (by_keys : (a b : X) →
    pointwise nat_eq (key_of a) (key_of b) ≡ same a b) (most : ℕ) (key : Vec ℕ Global) (item : X)
    (entries : List (Vec ℕ Global × X)) (keyed : AreKeyed key_of entries) (is : key.items ≡ key_of item) where
  pub item_put : (n : ℕ) (after : List (Vec ℕ Global × X)) →
      with_item same_key most (key, item) entries ≡ Some (n, after) →
      with_item same most item (values_of entries) ≡ Some (n, values_of after)
  item_put n after put = with_item-keyed key_of same by_keys most key item entries keyed is
      ∙ ap (option_map (λ (p : ℕ × List (Vec ℕ Global × X)). (p.0, values_of p.1))) put

  pub item_full : with_item same_key most (key, item) entries ≡ None →
      with_item same most item (values_of entries) ≡ None
  item_full full = with_item-keyed key_of same by_keys most key item entries keyed is
      ∙ ap (option_map (λ (p : ℕ × List (Vec ℕ Global × X)). (p.0, values_of p.1))) full

-- items that were put are no more than may be
pub within-put : {X : Type 0} (same : X → X → Bool) (most : ℕ) (new : X) (items : List X) → length items ≤ most →
    (n : ℕ) (after : List X) → with_item same most new items ≡ Some (n, after) → length after ≤ most
within-put same most new items within = put_cases same most new items (λ _ after. length after ≤ most) (λ _ _. within)
    (λ _ room. omega (arith, length-append items (new ∷ [])))

-- there is no room for an item that isn't found, where as many stand as may
pub full_cases : {X : Type 0} (same : X → X → Bool) (most : ℕ) (new : X) (items : List X) →
    with_item same most new items ≡ None → (position_from (same new) 0 items ≡ None) × (most ≤ length items)
full_cases {X} same most new items = by (position_from (same new) 0 items)
  where
    by : (o : Option ℕ) → item_or_new most new items o ≡ None → (o ≡ None) × (most ≤ length items)
    by (Some n) h = absurd (none-some (n, items) (sym h))
    by None h = room (nat_lt (length items) most) refl
      where
        room : (b : Bool) → nat_lt (length items) most ≡ b → (◌≡◌ {A = Option ℕ} None None) × (most ≤ length items)
        room true fits = absurd (none-some (length items, items ++ new ∷ []) (sym h
            ∙ ap (λ b. cond b (Some (length items, items ++ new ∷ [])) None) fits))
        room false full = (refl, not_lt (length items) most full)
