-- What a log keeps when events come and go.
use Rattle.std.proofs.Common.{◌≡◌, ◌+◌, ◌-◌, ◌<◌, ◌≤◌, inl, inr, ⊎_elim, ℕ, zero, suc, Bool, true, false, cond, List, [], ◌∷◌, ◌++◌, map, length, take, slice_get}
use Rattle.std.proofs.Common.{Option, Some, None, refl, sym, ap, subst, ◌∙◌, arith}
use Rattle.std.proofs.lemmas.List.{length-map, length_push, map-append, take-append-le, take_all}
use Rattle.std.proofs.lemmas.Option.{none-some, same_Some, slice_get_within}
use Rattle.graph_terms.proofs.ListLaws.{element_at, push_cases, slice_get-append_left, slice_get-push, take-slice_get}
use Rattle.std.specs.Option.{option_map_or}
use Rattle.indexmap.specs.IndexMap.{IndexMap, get, Updates}
use Rattle.match_owed.specs.declared.claim_key.ClaimKey.{ClaimKey}
use Rattle.match_owed.specs.declared.event.Event.{Event}
use Rattle.match_owed.specs.declared.noted.Noted.{Noted}
use Rattle.match_owed.specs.LogInside.{key_of, is_same, log_of, last_place, gives_at, owed_claims, IsKept}
use Rattle.match_owed.proofs.LogLemmas.{last_push, last_found, count_push, same_is, same_itself, some_owed}

abbrev pub bit : Bool → ℕ
bit b = cond b 1 0

module _ (notes : List Noted) (noted : Noted) where
  log_pushed : log_of (notes ++ noted ∷ []) ≡ log_of notes ++ noted.event ∷ []
  log_pushed = map-append (λ (n : Noted). n.event) notes (noted ∷ [])

  many : length (log_of notes) ≡ length notes
  many = length-map notes (λ (n : Noted). n.event)

  take_front : (place : ℕ) → place ≤ length notes → take place (log_of (notes ++ noted ∷ [])) ≡ take place (log_of notes)
  take_front place le = ap (take place) log_pushed ∙ take-append-le place (log_of notes) (noted.event ∷ []) (omega (arith, le, many))

  pub kept_push : {S : Type 0} (last last' : IndexMap ClaimKey ℕ S) (owed owed' cap cap' : ℕ) → noted.before ≡ last_place (log_of notes) (key_of noted.event.claim) →
      Updates is_same last last' (key_of noted.event.claim) (Some (length notes)) →
      owed' + bit (gives_at (log_of notes) noted.before) ≡ owed + bit noted.event.gives → length notes + 1 + owed' ≤ cap' →
      IsKept notes last owed cap → IsKept (notes ++ noted ∷ []) last' owed' cap'
  kept_push last last' owed owed' cap cap' before updates counts room kept = record {
    places = λ key. updates.0 key ∙ ap (cond (is_same (key_of noted.event.claim) key) (Some (length notes))) (kept.places key)
        ∙ ap (λ n. cond (is_same (key_of noted.event.claim) key) (Some n) (last_place (log_of notes) key)) (sym many)
        ∙ sym (last_push (log_of notes) noted.event key) ∙ ap (λ l. last_place l key) (sym log_pushed);
    before = λ place one at. ⊎_elim
        (λ old. let lt = slice_get_within notes place one old in kept.before place one old ∙ ap (λ l. last_place l (key_of one.event.claim)) (sym (take_front place (omega (arith, lt)))))
        (λ new. subst (λ (n : Noted). n.before ≡ last_place (take place (log_of (notes ++ noted ∷ []))) (key_of n.event.claim)) (sym new.1)
        (before ∙ ap (λ l. last_place l (key_of noted.event.claim)) (sym (take_front place (omega (arith, new.0)) ∙ take_all place (log_of notes) (omega (arith, new.0, many))))))
        (push_cases notes noted place one at);
    count =
        let step = count_push (log_of notes) noted.event in
        let was : bit (gives_at (log_of notes) noted.before) ≡ bit (gives_at (log_of notes) (last_place (log_of notes) (key_of noted.event.claim))) = ap (λ o. bit (gives_at (log_of notes) o)) before in
        let same : length (owed_claims (log_of notes ++ noted.event ∷ [])) ≡ owed' = omega (arith, step, was, counts, kept.count) in
        sym same ∙ ap (λ l. length (owed_claims l)) (sym log_pushed);
    room = omega (arith, room, length_push notes noted);
  }

  gives_front : (o : Option ℕ) → ((p : ℕ) → o ≡ Some p → p < length (log_of notes)) → gives_at (log_of (notes ++ noted ∷ [])) o ≡ gives_at (log_of notes) o
  gives_front None within = refl
  gives_front (Some p) within = ap (λ (l : List Event). gives_at l (Some p)) log_pushed ∙ front (log_of notes) p (within p refl)
    where
      front : (xs : List Event) (p : ℕ) → p < length xs → gives_at (xs ++ noted.event ∷ []) (Some p) ≡ gives_at xs (Some p)
      front xs p lt = let there = element_at xs p lt in ap (λ o. option_map_or (λ (event : Event). event.gives) o false) (slice_get-append_left xs (noted.event ∷ []) p there.0 there.1 ∙ sym there.1)

  pub kept_pop : {S : Type 0} (last last' : IndexMap ClaimKey ℕ S) (owed owed' cap : ℕ) →
      Updates is_same last last' (key_of noted.event.claim) noted.before →
      owed' + bit noted.event.gives ≡ owed + bit (gives_at (log_of (notes ++ noted ∷ [])) noted.before) →
      IsKept (notes ++ noted ∷ []) last owed cap → IsKept notes last' owed' cap
  kept_pop last last' owed owed' cap updates counts kept = record {
    places = λ key. updates.0 key ∙ by key (is_same (key_of noted.event.claim) key) refl;
    before = λ place one at. let lt = slice_get_within notes place one at in kept.before place one (slice_get-append_left notes (noted ∷ []) place one at) ∙ ap (λ l. last_place l (key_of one.event.claim)) (take_front place (omega (arith, lt)));
    count =
        let step = count_push (log_of notes) noted.event in
        let was : bit (gives_at (log_of notes) noted.before) ≡ bit (gives_at (log_of notes) (last_place (log_of notes) (key_of noted.event.claim))) = ap (λ o. bit (gives_at (log_of notes) o)) before_is in
        let whole : bit (gives_at (log_of (notes ++ noted ∷ [])) noted.before) ≡ bit (gives_at (log_of notes) noted.before) = ap bit (gives_front noted.before within) in
        let all : owed ≡ length (owed_claims (log_of notes ++ noted.event ∷ [])) = kept.count ∙ ap (λ l. length (owed_claims l)) log_pushed in
        omega (arith, step, was, whole, all, counts);
    room = let one = at_most (gives_at (log_of (notes ++ noted ∷ [])) noted.before) in omega (arith, kept.room, counts, one, length_push notes noted);
  }
    where
      before_is : noted.before ≡ last_place (log_of notes) (key_of noted.event.claim)
      before_is = kept.before (length notes) noted (slice_get-push notes noted) ∙ ap (λ l. last_place l (key_of noted.event.claim)) (take_front (length notes) (omega arith) ∙ take_all (length notes) (log_of notes) (omega (arith, many)))

      within : (p : ℕ) → noted.before ≡ Some p → p < length (log_of notes)
      within p is = let last = last_found (log_of notes) (key_of noted.event.claim) p (sym before_is ∙ is) in slice_get_within (log_of notes) p last.event last.at

      at_most : (b : Bool) → bit b ≤ 1
      at_most true = omega arith
      at_most false = omega arith

      old_place : (key : ClaimKey) → get is_same last key ≡ cond (is_same (key_of noted.event.claim) key) (Some (length (log_of notes))) (last_place (log_of notes) key)
      old_place key = kept.places key ∙ ap (λ l. last_place l key) log_pushed ∙ last_push (log_of notes) noted.event key

      by : (key : ClaimKey) (b : Bool) → is_same (key_of noted.event.claim) key ≡ b → cond (is_same (key_of noted.event.claim) key) noted.before (get is_same last key) ≡ last_place (log_of notes) key
      by key true e = ap (λ s. cond s noted.before (get is_same last key)) e ∙ before_is ∙ ap (last_place (log_of notes)) (same_is (key_of noted.event.claim) key e)
      by key false e = ap (λ s. cond s noted.before (get is_same last key)) e ∙ old_place key ∙ ap (λ s. cond s (Some (length (log_of notes))) (last_place (log_of notes) key)) e

  last_here : last_place (log_of (notes ++ noted ∷ [])) (key_of noted.event.claim) ≡ Some (length (log_of notes))
  last_here = ap (λ l. last_place l (key_of noted.event.claim)) log_pushed ∙ last_push (log_of notes) noted.event (key_of noted.event.claim) ∙ ap (λ s. cond s (Some (length (log_of notes))) (last_place (log_of notes) (key_of noted.event.claim))) (same_itself (key_of noted.event.claim))

  -- the last event of its claim
  pub kept_has : {S : Type 0} (last : IndexMap ClaimKey ℕ S) (owed cap : ℕ) → IsKept (notes ++ noted ∷ []) last owed cap → get is_same last (key_of noted.event.claim) ≡ Some (length (log_of notes))
  kept_has last owed cap kept = kept.places (key_of noted.event.claim) ∙ last_here

  pub kept_gives : {S : Type 0} (last : IndexMap ClaimKey ℕ S) (owed cap : ℕ) → IsKept (notes ++ noted ∷ []) last owed cap → noted.event.gives ≡ true → 0 < owed
  kept_gives last owed cap kept gives =
      let whole = log_of (notes ++ noted ∷ []) in
      let at : slice_get whole (length (log_of notes)) ≡ Some noted.event = ap (λ (l : List Event). slice_get l (length (log_of notes))) log_pushed ∙ slice_get-push (log_of notes) noted.event in
      let lt = some_owed whole noted.event.claim (ap (gives_at whole) last_here ∙ ap (λ o. option_map_or (λ (event : Event). event.gives) o false) at ∙ gives) in
      omega (arith, lt, kept.count)

-- a list is its front and its last element
pub last_split : (notes : List Noted) (noted : Noted) (place : ℕ) → place + 1 ≡ length notes → slice_get notes place ≡ Some noted → take place notes ++ noted ∷ [] ≡ notes
last_split notes noted place is at = sym (take-slice_get notes place noted at) ∙ take_all (place + 1) notes (omega (arith, is))

pub take_log : (place : ℕ) (notes : List Noted) → log_of (take place notes) ≡ take place (log_of notes)
take_log zero notes = refl
take_log (suc place) [] = refl
take_log (suc place) (noted ∷ notes) = ap (λ (l : List Event). noted.event ∷ l) (take_log place notes)

pub many_events : (notes : List Noted) → length (log_of notes) ≡ length notes
many_events notes = length-map notes (λ (n : Noted). n.event)
