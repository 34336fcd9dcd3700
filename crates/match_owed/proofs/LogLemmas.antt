-- The last event of a claim in a log, and which claims are owed.
use Rattle.std.proofs.Common.{◌≡◌, ◌+◌, ◌<◌, ◌≤◌, ◌&&◌, ◌⊎◌, ◌↔◌, inl, inr, ⊎_elim, ℕ, zero, suc, Bool, true, false, not, cond, is_some, nat_eq}
use Rattle.std.proofs.Common.{Option, Some, None, List, [], ◌∷◌, ◌++◌, length, slice_get, Contains, refl, sym, ap, ap₂, subst, ◌∙◌, arith, true≢false}
use Rattle.std.specs.Option.{option_map_or}
use Rattle.std.proofs.lemmas.Bool.{cases_eq, cases_lt}
use Rattle.std.proofs.lemmas.Grind.{common_steps}
use Rattle.std.proofs.lemmas.List.Elements.{Contains-push, Contains-push_cases, Contains-append_left}
use Rattle.std.proofs.lemmas.Option.{none-some, same_Some, slice_get_within}
use Rattle.graph_terms.proofs.ListLaws.{slice_get-append_left, slice_get-push, push_cases, Contains-slice_get, place_from_Contains}
use Rattle.graph_meaning.specs.declared.claim.Claim.{Claim}
use Rattle.match_owed.specs.declared.claim_key.ClaimKey.{ClaimKey}
use Rattle.match_owed.specs.declared.event.Event.{Event}
use Rattle.match_owed.specs.OwedLog.{gave, discharged, Owes, IsLastGift, IsEachOnce, AreOwed}
use Rattle.match_owed.specs.LogInside.{key_of, is_same, last_place, gives_at, owed_claims, PutsOwed, put, passed}

-- the test tells whether two keys are one
pub same_is : (a b : ClaimKey) → is_same a b ≡ true → a ≡ b
same_is a b h =
    let trigger : a.trigger ≡ b.trigger = grind (arith, common_steps) in
    let start : a.start ≡ b.start = grind (arith, common_steps) in
    let root : a.root ≡ b.root = grind (arith, common_steps) in
    ap₂ (λ (p : ℕ × ℕ) k. record { trigger = p.0; start = p.1; root = k }) (ap₂ (λ m n. (m, n)) trigger start) root

pub same_itself : (a : ClaimKey) → is_same a a ≡ true
same_itself a = grind (arith, common_steps)

pub same_turned : (a b : ClaimKey) → is_same a b ≡ is_same b a
same_turned a b = by (is_same a b) refl (is_same b a) refl
  where
    by : (x : Bool) → is_same a b ≡ x → (y : Bool) → is_same b a ≡ y → x ≡ y
    by true p true q = refl
    by false p false q = refl
    by true p false q = sym (subst (λ k. is_same k a ≡ true) (same_is a b p) (same_itself a)) ∙ q
    by false p true q = sym p ∙ subst (λ k. is_same a k ≡ true) (sym (same_is b a q)) (same_itself a)

pub claim_from_key : (a b : Claim) → key_of a ≡ key_of b → a ≡ b
claim_from_key a b e = ap (λ (k : ClaimKey). record { trigger = k.trigger; start = k.start; root = k.root }) e

-- the last place after one event more
pub last_push : (log : List Event) (event : Event) (key : ClaimKey) →
    last_place (log ++ event ∷ []) key ≡ cond (is_same (key_of event.claim) key) (Some (length log)) (last_place log key)
last_push [] event key = refl
last_push (x ∷ xs) event key = ap (λ o. option_map_or (λ p. Some (suc p)) o here) (last_push xs event key) ∙ by (is_same (key_of event.claim) key)
  where
    here : Option ℕ
    here = cond (is_same (key_of x.claim) key) (Some 0) None

    by : (b : Bool) → option_map_or (λ p. Some (suc p)) (cond b (Some (length xs)) (last_place xs key)) here ≡ cond b (Some (suc (length xs))) (option_map_or (λ p. Some (suc p)) (last_place xs key) here)
    by true = refl
    by false = refl

-- an event of the key stands there, and none later
pub record IsLast (log : List Event) (key : ClaimKey) (place : ℕ) : Type 0 where
  pub event : Event
  pub at : slice_get log place ≡ Some event
  pub is : key_of event.claim ≡ key
  pub after : (later : ℕ) (other : Event) → place < later → slice_get log later ≡ Some other → key_of other.claim ≡ key → ⊥

-- no event of the key stands there
abbrev pub HasNone : List Event → ClaimKey → Type 0
HasNone log key = (place : ℕ) (event : Event) → slice_get log place ≡ Some event → key_of event.claim ≡ key → ⊥

none_after : (x : Event) (xs : List Event) (key : ClaimKey) (o : Option ℕ) → (o ≡ None → HasNone xs key) → (b : Bool) → is_same (key_of x.claim) key ≡ b → option_map_or (λ p. Some (suc p)) o (cond b (Some 0) None) ≡ None → HasNone (x ∷ xs) key
none_after x xs key (Some p) rest b same h place event at is = none-some (suc p) (sym h)
none_after x xs key None rest true same h place event at is = none-some 0 (sym h)
none_after x xs key None rest false same h zero event at is = true≢false (sym (subst (λ k. is_same k key ≡ true) (sym (ap (λ (v : Event). key_of v.claim) (same_Some x event at) ∙ is)) (same_itself key)) ∙ same)
none_after x xs key None rest false same h (suc place) event at is = rest refl place event at is

pub last_none : (log : List Event) (key : ClaimKey) → last_place log key ≡ None → HasNone log key
last_none [] key h = λ place event at is. none-some event at
last_none (x ∷ xs) key h = none_after x xs key (last_place xs key) (last_none xs key) (is_same (key_of x.claim) key) refl h

later_than : (x : Event) (xs : List Event) (key : ClaimKey) (p : ℕ) → IsLast xs key p → (later : ℕ) (other : Event) → suc p < later → slice_get (x ∷ xs) later ≡ Some other → key_of other.claim ≡ key → ⊥
later_than x xs key p inner zero other lt at is = absurd (omega (arith, lt))
later_than x xs key p inner (suc l) other lt at is = inner.after l other (omega (arith, lt)) at is

first_alone : (x : Event) (xs : List Event) (key : ClaimKey) → HasNone xs key → (later : ℕ) (other : Event) → 0 < later → slice_get (x ∷ xs) later ≡ Some other → key_of other.claim ≡ key → ⊥
first_alone x xs key rest zero other lt at is = absurd (omega (arith, lt))
first_alone x xs key rest (suc l) other lt at is = rest l other at is

found_after : (x : Event) (xs : List Event) (key : ClaimKey) (o : Option ℕ) → ((p : ℕ) → o ≡ Some p → IsLast xs key p) → (o ≡ None → HasNone xs key) → (b : Bool) → is_same (key_of x.claim) key ≡ b → (place : ℕ) → option_map_or (λ p. Some (suc p)) o (cond b (Some 0) None) ≡ Some place → IsLast (x ∷ xs) key place
found_after x xs key (Some p) found rest b same place h =
    let inner = found p refl in
    subst (IsLast (x ∷ xs) key) (same_Some (suc p) place h) (record { event = inner.event; at = inner.at; is = inner.is; after = later_than x xs key p inner })
found_after x xs key None found rest true same place h =
    subst (IsLast (x ∷ xs) key) (same_Some 0 place h) (record { event = x; at = refl; is = same_is (key_of x.claim) key same; after = first_alone x xs key (rest refl) })
found_after x xs key None found rest false same place h = absurd (none-some place h)

pub last_found : (log : List Event) (key : ClaimKey) (place : ℕ) → last_place log key ≡ Some place → IsLast log key place
last_found [] key place h = absurd (none-some place h)
last_found (x ∷ xs) key place h = found_after x xs key (last_place xs key) (last_found xs key) (last_none xs key) (is_same (key_of x.claim) key) refl place h

-- there is one last place
pub last_is : (log : List Event) (key : ClaimKey) (place : ℕ) → IsLast log key place → last_place log key ≡ Some place
last_is log key place last = by (last_place log key) refl
  where
    by : (o : Option ℕ) → last_place log key ≡ o → o ≡ Some place
    by None e = absurd (last_none log key e place last.event last.at last.is)
    by (Some p) e =
        let other = last_found log key p e in
        ⊎_elim
        (λ less. absurd (other.after place last.event less last.at last.is))
        (λ not_less. ⊎_elim (λ more. absurd (last.after p other.event more other.at other.is)) (λ not_more. ap Some (omega (arith, not_less, not_more))) (cases_lt place p))
        (cases_lt p place)

gives_event : (log : List Event) (place : ℕ) (event : Event) → slice_get log place ≡ Some event → gives_at log (Some place) ≡ event.gives
gives_event log place event at = ap (λ o. option_map_or (λ (e : Event). e.gives) o false) at

is_gave : (event : Event) (claim : Claim) → key_of event.claim ≡ key_of claim → event.gives ≡ true → event ≡ gave claim
is_gave event claim key gives = ap₂ (λ c g. record { claim = c; gives = g }) (claim_from_key event.claim claim key) gives

is_discharged : (event : Event) (claim : Claim) → key_of event.claim ≡ key_of claim → event.gives ≡ false → event ≡ discharged claim
is_discharged event claim key gives = ap₂ (λ c g. record { claim = c; gives = g }) (claim_from_key event.claim claim key) gives

module _ (log : List Event) (claim : Claim) where
  -- the last event, where it gives the claim
  pub gift_of : (place : ℕ) → last_place log (key_of claim) ≡ Some place → gives_at log (Some place) ≡ true → IsLastGift log claim place
  gift_of place last gives =
      let is = last_found log (key_of claim) place last in
      record {
        given = is.at ∙ ap Some (is_gave is.event claim is.is (sym (gives_event log place is.event is.at) ∙ gives));
        after = λ later event less at same. is.after later event less at (ap key_of same);
      }

  pub gift_owes : (place : ℕ) → IsLastGift log claim place → Owes log claim
  gift_owes place gift = record { place = place; given = gift.given; since = λ later less at. gift.after later (discharged claim) less at refl }

  pub gift_last : (place : ℕ) → IsLastGift log claim place → last_place log (key_of claim) ≡ Some place
  gift_last place gift = last_is log (key_of claim) place (record { event = gave claim; at = gift.given; is = refl; after = λ later event less at same. gift.after later event less at (claim_from_key event.claim claim same) })

  -- what is owed was given last
  pub owes_gift : Owes log claim → (place : ℕ) × IsLastGift log claim place
  owes_gift owes = by (last_place log (key_of claim)) refl
    where
      at_last : (p : ℕ) (last : IsLast log (key_of claim) p) → slice_get log p ≡ Some (gave claim)
      at_last p last =
          ⊎_elim
          (λ less. absurd (last.after owes.place (gave claim) less owes.given refl))
          (λ not_less. ⊎_elim
          (λ more. later_gift more)
          (λ not_more. subst (λ k. slice_get log k ≡ Some (gave claim)) (omega (arith, not_less, not_more)) owes.given)
          (cases_lt owes.place p))
          (cases_lt p owes.place)
        where
          later_gift : owes.place < p → slice_get log p ≡ Some (gave claim)
          later_gift more = by_gives last.event.gives refl
            where
              by_gives : (b : Bool) → last.event.gives ≡ b → slice_get log p ≡ Some (gave claim)
              by_gives true e = last.at ∙ ap Some (is_gave last.event claim last.is e)
              by_gives false e = absurd (owes.since p more (last.at ∙ ap Some (is_discharged last.event claim last.is e)))

      by : (o : Option ℕ) → last_place log (key_of claim) ≡ o → (place : ℕ) × IsLastGift log claim place
      by None e = absurd (last_none log (key_of claim) e owes.place (gave claim) owes.given refl)
      by (Some p) e =
          let last = last_found log (key_of claim) p e in
          (p, record { given = at_last p last; after = λ later event less at same. last.after later event less at (ap key_of same) })

  pub owes_true : Owes log claim → gives_at log (last_place log (key_of claim)) ≡ true
  owes_true owes = let gift = owes_gift owes in ap (gives_at log) (gift_last gift.0 gift.1) ∙ gives_event log gift.0 (gave claim) gift.1.given

  pub true_gift : gives_at log (last_place log (key_of claim)) ≡ true → (place : ℕ) × IsLastGift log claim place
  true_gift h = by (last_place log (key_of claim)) refl
    where
      by : (o : Option ℕ) → last_place log (key_of claim) ≡ o → (place : ℕ) × IsLastGift log claim place
      by None e = absurd (true≢false (sym (sym (ap (gives_at log) e) ∙ h)))
      by (Some p) e = (p, gift_of p e (sym (ap (gives_at log) e) ∙ h))

  pub false_not : gives_at log (last_place log (key_of claim)) ≡ false → Owes log claim → ⊥
  false_not h owes = true≢false (sym (owes_true owes) ∙ h)

-- whether the claim of a key is owed, after the first event
gives_first : (x : Event) (xs : List Event) (key : ClaimKey) →
    gives_at (x ∷ xs) (last_place (x ∷ xs) key) ≡ cond (is_some (last_place xs key)) (gives_at xs (last_place xs key)) (is_same (key_of x.claim) key && x.gives)
gives_first x xs key = by (last_place xs key) (is_same (key_of x.claim) key)
  where
    by : (o : Option ℕ) (s : Bool) → gives_at (x ∷ xs) (option_map_or (λ p. Some (suc p)) o (cond s (Some 0) None)) ≡ cond (is_some o) (gives_at xs o) (s && x.gives)
    by (Some p) s = refl
    by None true = refl
    by None false = refl

abbrev bit : Bool → ℕ
bit b = cond b 1 0

balance : (s g is_x is_e was gives : Bool) (a b : ℕ) → (s ≡ true → is_x ≡ is_e) → (is_e ≡ false → was ≡ false) → a + bit was ≡ b + bit gives →
    bit (g && not (cond s true is_x)) + a + bit (cond is_e was (s && g)) ≡ bit (g && not is_x) + b + bit gives
balance false g is_x true was gives a b same not_was h = omega (arith, h)
balance false g is_x false was gives a b same not_was h = let w : bit was ≡ 0 = ap bit (not_was refl) in omega (arith, h, w)
balance true true true true was gives a b same not_was h = omega (arith, h)
balance true false true true was gives a b same not_was h = omega (arith, h)
balance true true false false was gives a b same not_was h = let w : bit was ≡ 0 = ap bit (not_was refl) in omega (arith, h, w)
balance true false false false was gives a b same not_was h = let w : bit was ≡ 0 = ap bit (not_was refl) in omega (arith, h, w)
balance true g true false was gives a b same not_was h = absurd (true≢false (same refl))
balance true g false true was gives a b same not_was h = absurd (true≢false (sym (same refl)))

length_cond : (b : Bool) (claim : Claim) (claims : List Claim) → length (cond b (claim ∷ claims) claims) ≡ bit b + length claims
length_cond true claim claims = omega arith
length_cond false claim claims = omega arith

some_cond : (s : Bool) (n : ℕ) (o : Option ℕ) → is_some (cond s (Some n) o) ≡ cond s true (is_some o)
some_cond true n o = refl
some_cond false n o = refl

none_false : (log : List Event) (o : Option ℕ) → is_some o ≡ false → gives_at log o ≡ false
none_false log None h = refl
none_false log (Some p) h = absurd (true≢false h)

-- how many claims are owed after one event more
pub count_push : (log : List Event) (event : Event) →
    length (owed_claims (log ++ event ∷ [])) + bit (gives_at log (last_place log (key_of event.claim))) ≡ length (owed_claims log) + bit event.gives
count_push [] event = by event.gives
  where
    by : (b : Bool) → length (cond (b && true) (event.claim ∷ []) []) + 0 ≡ 0 + bit b
    by true = refl
    by false = refl
count_push (x ∷ xs) event =
    let key = key_of event.claim in
    let first = key_of x.claim in
    let s = is_same key first in
    let new : List Claim = owed_claims (xs ++ event ∷ []) in
    let old : List Claim = owed_claims xs in
    let left : length (owed_claims (x ∷ xs ++ event ∷ [])) ≡ bit (x.gives && not (cond s true (is_some (last_place xs first)))) + length new =
    length_cond (x.gives && not (is_some (last_place (xs ++ event ∷ []) first))) x.claim new ∙ ap (λ o. bit (x.gives && not o) + length new) (ap is_some (last_push xs event first) ∙ some_cond s (length xs) (last_place xs first)) in
    let was : bit (gives_at (x ∷ xs) (last_place (x ∷ xs) key)) ≡ bit (cond (is_some (last_place xs key)) (gives_at xs (last_place xs key)) (s && x.gives)) =
    ap bit (gives_first x xs key ∙ ap (λ t. cond (is_some (last_place xs key)) (gives_at xs (last_place xs key)) (t && x.gives)) (same_turned first key)) in
    let right : length (owed_claims (x ∷ xs)) ≡ bit (x.gives && not (is_some (last_place xs first))) + length old = length_cond (x.gives && not (is_some (last_place xs first))) x.claim old in
    let all = balance s x.gives (is_some (last_place xs first)) (is_some (last_place xs key)) (gives_at xs (last_place xs key)) event.gives (length new) (length old)
    (λ h. ap (λ k. is_some (last_place xs k)) (sym (same_is key first h))) (none_false xs (last_place xs key)) (count_push xs event) in
    ap₂ (λ a b. a + b) left was ∙ all ∙ ap (λ a. a + bit event.gives) (sym right)

contains_first : (x : Claim) (xs : List Claim) → Contains (x ∷ xs) x
contains_first x xs = Contains-slice_get (x ∷ xs) 0 x refl

contains_later : (x : Claim) (xs : List Claim) (y : Claim) → Contains xs y → Contains (x ∷ xs) y
contains_later x xs y has = let at = place_from_Contains xs y has in Contains-slice_get (x ∷ xs) (suc at.0) y at.1

first_or : (x : Claim) (xs : List Claim) (y : Claim) → Contains (x ∷ xs) y → (y ≡ x) ⊎ Contains xs y
first_or x xs y has = by (place_from_Contains (x ∷ xs) y has).0 (place_from_Contains (x ∷ xs) y has).1
  where
    by : (i : ℕ) → slice_get (x ∷ xs) i ≡ Some y → (y ≡ x) ⊎ Contains xs y
    by zero at = inl (sym (same_Some x y at))
    by (suc i) at = inr (Contains-slice_get xs i y at)

module _ (x : Event) (xs : List Event) where
  abbrev shown : Bool
  shown = x.gives && not (is_some (last_place xs (key_of x.claim)))

  first_shown : shown ≡ true → (x.gives ≡ true) × (is_some (last_place xs (key_of x.claim)) ≡ false)
  first_shown h = by x.gives refl (is_some (last_place xs (key_of x.claim))) refl
    where
      by : (g : Bool) → x.gives ≡ g → (o : Bool) → is_some (last_place xs (key_of x.claim)) ≡ o → (x.gives ≡ true) × (is_some (last_place xs (key_of x.claim)) ≡ false)
      by true p false q = (p, q)
      by true p true q = absurd (true≢false (sym h ∙ ap₂ (λ a b. a && not b) p q))
      by false p o q = absurd (true≢false (sym h ∙ ap₂ (λ a b. a && not b) p q))

-- what is listed as owed is
pub listed_owed : (log : List Event) (claim : Claim) → Contains (owed_claims log) claim → gives_at log (last_place log (key_of claim)) ≡ true
listed_owed [] claim has = absurd (omega (arith, has.1))
listed_owed (x ∷ xs) claim has = gives_first x xs (key_of claim) ∙ by (listed_owed xs claim) (shown x xs) refl
  where
    Value : Type 0
    Value = cond (is_some (last_place xs (key_of claim))) (gives_at xs (last_place xs (key_of claim))) (is_same (key_of x.claim) (key_of claim) && x.gives) ≡ true

    later : gives_at xs (last_place xs (key_of claim)) ≡ true → Value
    later h = go (is_some (last_place xs (key_of claim))) refl
      where
        go : (b : Bool) → is_some (last_place xs (key_of claim)) ≡ b → cond b (gives_at xs (last_place xs (key_of claim))) (is_same (key_of x.claim) (key_of claim) && x.gives) ≡ true
        go true e = h
        go false e = absurd (true≢false (sym h ∙ none_false xs (last_place xs (key_of claim)) e))

    here : shown x xs ≡ true → claim ≡ x.claim → Value
    here e is =
        let f = first_shown x xs e in
        ap₂ (λ o s. cond o (gives_at xs (last_place xs (key_of claim))) (s && x.gives)) (ap (λ (c : Claim). is_some (last_place xs (key_of c))) is ∙ f.1)
        (ap (λ (c : Claim). is_same (key_of x.claim) (key_of c)) is ∙ same_itself (key_of x.claim)) ∙ f.0

    by : (Contains (owed_claims xs) claim → gives_at xs (last_place xs (key_of claim)) ≡ true) → (b : Bool) → shown x xs ≡ b → Value
    by rest true e = ⊎_elim (λ is. here e is) (λ old. later (rest old)) (first_or x.claim (owed_claims xs) claim (subst (λ b. Contains (cond b (x.claim ∷ owed_claims xs) (owed_claims xs)) claim) e has))
    by rest false e = later (rest (subst (λ b. Contains (cond b (x.claim ∷ owed_claims xs) (owed_claims xs)) claim) e has))

-- and what is owed is listed
pub owed_listed : (log : List Event) (claim : Claim) → gives_at log (last_place log (key_of claim)) ≡ true → Contains (owed_claims log) claim
owed_listed [] claim h = absurd (true≢false (sym h))
owed_listed (x ∷ xs) claim h = by (owed_listed xs claim) (is_some (last_place xs (key_of claim))) refl
  where
    value : (b : Bool) → is_some (last_place xs (key_of claim)) ≡ b → cond b (gives_at xs (last_place xs (key_of claim))) (is_same (key_of x.claim) (key_of claim) && x.gives) ≡ true
    value b e = sym (ap (λ o. cond o (gives_at xs (last_place xs (key_of claim))) (is_same (key_of x.claim) (key_of claim) && x.gives)) e) ∙ sym (gives_first x xs (key_of claim)) ∙ h

    kept : Contains (owed_claims xs) claim → Contains (owed_claims (x ∷ xs)) claim
    kept old = go (shown x xs)
      where
        go : (b : Bool) → Contains (cond b (x.claim ∷ owed_claims xs) (owed_claims xs)) claim
        go true = contains_later x.claim (owed_claims xs) claim old
        go false = old

    first : is_same (key_of x.claim) (key_of claim) ≡ true → x.gives ≡ true → is_some (last_place xs (key_of claim)) ≡ false → Contains (owed_claims (x ∷ xs)) claim
    first same gives none =
        let is : x.claim ≡ claim = claim_from_key x.claim claim (same_is (key_of x.claim) (key_of claim) same) in
        let shows : shown x xs ≡ true = ap₂ (λ a b. a && not b) gives (ap (λ (c : Claim). is_some (last_place xs (key_of c))) is ∙ none) in
        subst (λ b. Contains (cond b (x.claim ∷ owed_claims xs) (owed_claims xs)) claim) (sym shows) (subst (λ c. Contains (x.claim ∷ owed_claims xs) c) is (contains_first x.claim (owed_claims xs)))

    and_both : (a b : Bool) → a && b ≡ true → (a ≡ true) × (b ≡ true)
    and_both true true h = (refl, refl)
    and_both true false h = absurd (true≢false (sym h))
    and_both false b h = absurd (true≢false (sym h))

    by : (gives_at xs (last_place xs (key_of claim)) ≡ true → Contains (owed_claims xs) claim) → (b : Bool) → is_some (last_place xs (key_of claim)) ≡ b → Contains (owed_claims (x ∷ xs)) claim
    by rest true e = kept (rest (value true e))
    by rest false e = let both = and_both (is_same (key_of x.claim) (key_of claim)) x.gives (value false e) in first both.0 both.1 e

-- each once
pub owed_once : (log : List Event) (i j : ℕ) (claim : Claim) → slice_get (owed_claims log) i ≡ Some claim → slice_get (owed_claims log) j ≡ Some claim → i ≡ j
owed_once [] i j claim at at' = absurd (none-some claim at)
owed_once (x ∷ xs) i j claim at at' = by (λ k l. owed_once xs k l claim) (shown x xs) refl
  where
    apart : shown x xs ≡ true → (k : ℕ) → slice_get (owed_claims xs) k ≡ Some x.claim → ⊥
    apart e k has = true≢false (sym (listed_owed xs x.claim (Contains-slice_get (owed_claims xs) k x.claim has)) ∙ none_false xs (last_place xs (key_of x.claim)) (first_shown x xs e).1)

    two : ((k l : ℕ) → slice_get (owed_claims xs) k ≡ Some claim → slice_get (owed_claims xs) l ≡ Some claim → k ≡ l) → shown x xs ≡ true → (i j : ℕ) → slice_get (x.claim ∷ owed_claims xs) i ≡ Some claim → slice_get (x.claim ∷ owed_claims xs) j ≡ Some claim → i ≡ j
    two rest e zero zero h k = refl
    two rest e zero (suc j) h k = absurd (apart e j (k ∙ sym h))
    two rest e (suc i) zero h k = absurd (apart e i (h ∙ sym k))
    two rest e (suc i) (suc j) h k = ap suc (rest i j h k)

    by : ((k l : ℕ) → slice_get (owed_claims xs) k ≡ Some claim → slice_get (owed_claims xs) l ≡ Some claim → k ≡ l) → (b : Bool) → shown x xs ≡ b → i ≡ j
    by rest true e = two rest e i j (subst (λ b. slice_get (cond b (x.claim ∷ owed_claims xs) (owed_claims xs)) i ≡ Some claim) e at) (subst (λ b. slice_get (cond b (x.claim ∷ owed_claims xs) (owed_claims xs)) j ≡ Some claim) e at')
    by rest false e = rest i j (subst (λ b. slice_get (cond b (x.claim ∷ owed_claims xs) (owed_claims xs)) i ≡ Some claim) e at) (subst (λ b. slice_get (cond b (x.claim ∷ owed_claims xs) (owed_claims xs)) j ≡ Some claim) e at')

pub are_owed : (log : List Event) → AreOwed log (owed_claims log)
are_owed log = record {
  once = owed_once log;
  exact = λ claim. (λ has. let gift = true_gift log claim (listed_owed log claim has) in gift_owes log claim gift.0 gift.1, λ owes. owed_listed log claim (owes_true log claim owes));
}

-- the claims owed that were given last before a place, each once
pub record FirstOwed (log : List Event) (k : ℕ) (claims : List Claim) : Type 0 where
  pub once : IsEachOnce claims
  pub sound : (claim : Claim) → Contains claims claim → (place : ℕ) × (place < k) × IsLastGift log claim place
  pub complete : (claim : Claim) (place : ℕ) → place < k → IsLastGift log claim place → Contains claims claim

pub first_none : (log : List Event) → FirstOwed log 0 []
first_none log = record {
  once = λ i j claim at at'. absurd (none-some claim at);
  sound = λ claim has. absurd (omega (arith, has.1));
  complete = λ claim place lt gift. absurd (omega (arith, lt));
}

pub first_next : (log : List Event) (k : ℕ) (old new : List Claim) → PutsOwed log k old new → FirstOwed log k old → FirstOwed log (k + 1) new
first_next log k old new (passed not is) first = subst (FirstOwed log (k + 1)) (sym is) (record {
  once = first.once;
  sound = λ claim has. let there = first.sound claim has in (there.0, omega (arith, there.1), there.2);
  complete = λ claim place lt gift. ⊎_elim (λ less. first.complete claim place less gift)
      (λ not_less. let this : place ≡ k = omega (arith, lt, not_less) in absurd (not claim (subst (IsLastGift log claim) this gift))) (cases_lt place k);
})
first_next log k old new (put {claim = claim} gift is) first = subst (FirstOwed log (k + 1)) (sym is) (record {
  once = λ i j other at at'. ⊎_elim
      (λ was. ⊎_elim (λ was'. first.once i j other was was') (λ new'. absurd (apart i (subst (λ c. slice_get old i ≡ Some c) new'.1 was))) (push_cases old claim j other at'))
      (λ is_new. ⊎_elim (λ was'. absurd (apart j (subst (λ c. slice_get old j ≡ Some c) is_new.1 was'))) (λ new'. is_new.0 ∙ sym new'.0) (push_cases old claim j other at'))
      (push_cases old claim i other at);
  sound = λ other has. ⊎_elim (λ was. let there = first.sound other was in (there.0, omega (arith, there.1), there.2))
      (λ same. (k, omega arith, subst (λ c. IsLastGift log c k) same gift)) (Contains-push_cases old claim other has);
  complete = λ other place lt is_gift. ⊎_elim (λ less. Contains-append_left old (claim ∷ []) other (first.complete other place less is_gift))
      (λ not_less.
      let this : place ≡ k = omega (arith, lt, not_less) in
      let same : claim ≡ other = ap (λ (e : Event). e.claim) (same_Some (gave claim) (gave other) (sym gift.given ∙ ap (slice_get log) (sym this) ∙ is_gift.given)) in
      subst (Contains (old ++ claim ∷ [])) same (Contains-push old claim)) (cases_lt place k);
})
  where
    apart : (i : ℕ) → slice_get old i ≡ Some claim → ⊥
    apart i at =
        let there = first.sound claim (Contains-slice_get old i claim at) in
        let same : there.0 ≡ k = same_Some there.0 k (sym (gift_last log claim there.0 there.2) ∙ gift_last log claim k gift) in
        omega (arith, there.1, same)

pub first_all : (log : List Event) (k : ℕ) (claims : List Claim) → length log ≤ k → FirstOwed log k claims → AreOwed log claims
first_all log k claims past first = record {
  once = first.once;
  exact = λ claim. (
    (λ has. let there = first.sound claim has in gift_owes log claim there.0 there.2),
    (λ owes. let there = owes_gift log claim owes in first.complete claim there.0 (let lt = slice_get_within log there.0 (gave claim) there.1.given in omega (arith, lt, past)) there.1),
  );
}

pub some_owed : (log : List Event) (claim : Claim) → gives_at log (last_place log (key_of claim)) ≡ true → 0 < length (owed_claims log)
some_owed log claim h = let has = owed_listed log claim h in omega (arith, has.1)

same_event : (log : List Event) (place : ℕ) (event : Event) → slice_get log place ≡ Some event → (claim : Claim) → IsLastGift log claim place → event.claim ≡ claim
same_event log place event at claim gift = ap (λ (e : Event). e.claim) (same_Some event (gave claim) (sym at ∙ gift.given))

pub given_later : (log : List Event) (place : ℕ) (event : Event) → slice_get log place ≡ Some event → (last : ℕ) → IsLastGift log event.claim last → (last ≡ place → ⊥) → (claim : Claim) → IsLastGift log claim place → ⊥
given_later log place event at last gift apart claim here =
    let same = same_event log place event at claim here in
    apart (same_Some last place (sym (gift_last log claim last (subst (λ c. IsLastGift log c last) same gift)) ∙ gift_last log claim place here))

pub not_owed : (log : List Event) (place : ℕ) (event : Event) → slice_get log place ≡ Some event → (Owes log event.claim → ⊥) → (claim : Claim) → IsLastGift log claim place → ⊥
not_owed log place event at none claim here = none (subst (Owes log) (sym (same_event log place event at claim here)) (gift_owes log claim place here))
