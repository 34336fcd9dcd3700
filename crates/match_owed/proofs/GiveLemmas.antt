-- Giving claims, one after another.
use Rattle.std.proofs.Common.{◌≡◌, ◌≤◌, ◌<◌, ◌+◌, ◌⊎◌, inl, inr, ⊎_elim, ℕ, suc, zero, true, false, List, [], ◌∷◌, ◌++◌, length, slice_get}
use Rattle.std.proofs.Common.{Option, Some, None, Contains, refl, sym, ap, ap₂, subst, ◌∙◌, append-nil, append_assoc, arith, true≢false}
use Rattle.std.proofs.lemmas.Bool.{cases_lt}
use Rattle.std.proofs.lemmas.Option.{none-some, same_Some, slice_get_within}
use Rattle.std.proofs.lemmas.List.{length_push}
use Rattle.graph_terms.proofs.ListLaws.{slice_get-append_left, slice_get-push, push_cases, place_from_Contains, Contains-slice_get}
use Rattle.graph_meaning.proofs.OneListLaws.{one_list}
use Rattle.graph_meaning.specs.Questions.{AreAll, IsNth}
use Rattle.graph_meaning.specs.declared.claim.Claim.{Claim}
use Rattle.match_owed.specs.declared.event.Event.{Event}
use Rattle.match_owed.specs.OwedLog.{OwedLog, gave, discharged, Owes, CameAnew, Grows, IsLastGift, SameButLog}
use Rattle.match_owed.proofs.LogLemmas.{gift_owes}
use Rattle.match_owed.specs.Giving.{IsAnew, GivesSome, GivesAll, HasCome}

-- a gift is no discharge
pub other_event : {a b : Claim} → gave a ≡ discharged b → ⊥
other_event e = true≢false (ap (λ (event : Event). event.gives) e)

pub same_gift : {a b : Claim} → gave a ≡ gave b → a ≡ b
same_gift e = ap (λ (event : Event). event.claim) e

pub rest_same : (s : OwedLog) → SameButLog s s
rest_same s = record { levels = refl; begun = refl; batch = refl; items = refl }

pub rest_on : {a b c : OwedLog} → SameButLog a b → SameButLog b c → SameButLog a c
rest_on one two = record { levels = two.levels ∙ one.levels; begun = two.begun ∙ one.begun; batch = two.batch ∙ one.batch; items = two.items ∙ one.items }

pub grows_same : (log : List Event) → Grows log log
grows_same log = ([], sym (append-nil log))

pub grows_on : (a b c : List Event) → Grows a b → Grows b c → Grows a c
grows_on a b c one two = (one.0 ++ two.0, two.1 ∙ ap (λ (xs : List Event). xs ++ two.0) one.1 ∙ append_assoc a one.0 two.0)

-- what came anew has so when more events come
pub anew_on : (a b : List Event) (mark : ℕ) (claim : Claim) → Grows a b → CameAnew a mark claim → CameAnew b mark claim
anew_on a b mark claim grows came = (came.0, came.1, subst (λ (log : List Event). slice_get log came.0 ≡ Some (gave claim)) (sym grows.1) (slice_get-append_left a grows.0 came.0 (gave claim) came.2))

-- nothing came
pub some_nothing : (P : Claim → Type 0) (s : OwedLog) → GivesSome P s s
some_nothing P s = record { grows = grows_same s.log; stays = λ c o. o; only = λ c o. inl o; anew_stays = λ c a. a; anew_only = λ c a. inl a; rest = rest_same s }

pub some_none : (P : Claim → Type 0) (old new : OwedLog) → new ≡ old → GivesSome P old new
some_none P old new is = subst (GivesSome P old) (sym is) (some_nothing P old)

-- nothing is due
pub all_none : (P : Claim → Type 0) (s : OwedLog) → ((claim : Claim) → P claim → ⊥) → GivesAll P s s
all_none P s none = record { some = some_nothing P s; owed = λ c p. absurd (none c p); anew = λ c mark p is. absurd (none c p) }

pub some_as : (P Q : Claim → Type 0) {old new : OwedLog} → ((claim : Claim) → P claim → Q claim) → GivesSome P old new → GivesSome Q old new
some_as P Q to some = record {
  grows = some.grows;
  stays = some.stays;
  only = λ c o. ⊎_elim inl (λ p. inr (to c p)) (some.only c o);
  anew_stays = some.anew_stays;
  anew_only = λ c a. ⊎_elim inl (λ p. inr (to c p)) (some.anew_only c a);
  rest = some.rest;
}

pub all_as : (P Q : Claim → Type 0) {old new : OwedLog} → ((claim : Claim) → P claim → Q claim) → ((claim : Claim) → Q claim → P claim) → GivesAll P old new → GivesAll Q old new
all_as P Q to from all = record { some = some_as P Q to all.some; owed = λ c q. all.owed c (from c q); anew = λ c mark q is. all.anew c mark (from c q) is }

module _ (P Q R : Claim → Type 0) {a b c : OwedLog} where
  pub some_on : ((claim : Claim) → P claim → R claim) → ((claim : Claim) → Q claim → R claim) → GivesSome P a b → GivesSome Q b c → GivesSome R a c
  some_on one two p q = record {
    grows = grows_on a.log b.log c.log p.grows q.grows;
    stays = λ x o. q.stays x (p.stays x o);
    only = λ x o. ⊎_elim (λ mid. ⊎_elim inl (λ h. inr (one x h)) (p.only x mid)) (λ h. inr (two x h)) (q.only x o);
    anew_stays = λ x o. q.anew_stays x (p.anew_stays x o);
    anew_only = λ x o. ⊎_elim (λ mid. ⊎_elim inl (λ h. inr (one x h)) (p.anew_only x mid)) (λ h. inr (two x h)) (q.anew_only x o);
    rest = rest_on p.rest q.rest;
  }

  pub all_on : ((claim : Claim) → P claim → R claim) → ((claim : Claim) → Q claim → R claim) → ((claim : Claim) → R claim → P claim ⊎ Q claim) → GivesAll P a b → GivesAll Q b c → GivesAll R a c
  all_on one two cases p q = record {
    some = some_on one two p.some q.some;
    owed = λ x r. ⊎_elim (λ h. q.some.stays x (p.owed x h)) (λ h. q.owed x h) (cases x r);
    anew = λ x mark r is. ⊎_elim (λ h. anew_on b.log c.log mark x q.some.grows (p.anew x mark h is)) (λ h. q.anew x mark h (p.some.rest.batch ∙ is)) (cases x r);
  }

-- one claim came
module _ (s : OwedLog) (claim : Claim) (taken : (mark : ℕ) → s.batch ≡ Some mark → mark ≤ length s.log) where
  new_state : OwedLog
  new_state = record s { log = s.log ++ gave claim ∷ [] }

  owes_last : Owes (s.log ++ gave claim ∷ []) claim
  owes_last = record {
    place = length s.log;
    given = slice_get-push s.log (gave claim);
    since = λ later less at. let within = slice_get_within (s.log ++ gave claim ∷ []) later (discharged claim) at in omega (arith, within, less, length_push s.log (gave claim));
  }

  owes_old : (other : Claim) → Owes s.log other → Owes (s.log ++ gave claim ∷ []) other
  owes_old other owes = record {
    place = owes.place;
    given = slice_get-append_left s.log (gave claim ∷ []) owes.place (gave other) owes.given;
    since = λ later less at. ⊎_elim (λ old. owes.since later less old) (λ new. other_event (sym new.1)) (push_cases s.log (gave claim) later (discharged other) at);
  }

  pub gives_one : GivesAll (λ other. other ≡ claim) s (record s { log = s.log ++ gave claim ∷ [] })
  gives_one = record {
    some = record {
      grows = (gave claim ∷ [], refl);
      stays = owes_old;
      only = λ other owes. ⊎_elim
          (λ old. inl (record { place = owes.place; given = old; since = λ later less at. owes.since later less (slice_get-append_left s.log (gave claim ∷ []) later (discharged other) at) }))
          (λ new. inr (same_gift new.1)) (push_cases s.log (gave claim) owes.place (gave other) owes.given);
      anew_stays = λ other came. (came.0, came.1, anew_on s.log (s.log ++ gave claim ∷ []) came.0 other (gave claim ∷ [], refl) came.2);
      anew_only = λ other came. ⊎_elim (λ old. inl (came.0, came.1, (came.2.0, came.2.1, old))) (λ new. inr (same_gift new.1)) (push_cases s.log (gave claim) came.2.0 (gave other) came.2.2);
      rest = record { levels = refl; begun = refl; batch = refl; items = refl };
    };
    owed = λ other is. subst (Owes (s.log ++ gave claim ∷ [])) (sym is) owes_last;
    anew = λ other mark is out. subst (CameAnew (s.log ++ gave claim ∷ []) mark) (sym is) (length s.log, taken mark out, slice_get-push s.log (gave claim));
  }

-- the claim had come already
pub gives_come : (s : OwedLog) (claim : Claim) → HasCome s claim → GivesAll (λ other. other ≡ claim) s s
gives_come s claim has = record {
  some = some_nothing (λ other. other ≡ claim) s;
  owed = λ other is. subst (Owes s.log) (sym is) has.owed;
  anew = λ other mark is out. subst (CameAnew s.log mark) (sym is) (has.anew mark out);
}

-- the claims that have the property with one of the first numbers
abbrev pub Below : (ℕ → Claim → Type 0) → ℕ → Claim → Type 0
Below At k claim = (j : ℕ) × (j < k) × At j claim

pub below_none : (At : ℕ → Claim → Type 0) (s : OwedLog) → GivesAll (Below At 0) s s
below_none At s = all_none (Below At 0) s (λ claim h. absurd (omega (arith, h.1)))

pub below_next : (At : ℕ → Claim → Type 0) (k : ℕ) {old now new : OwedLog} → GivesAll (At k) now new → GivesAll (Below At k) old now → GivesAll (Below At (k + 1)) old new
below_next At k gives given =
    all_on (Below At k) (At k) (Below At (k + 1)) (λ c h. (h.0, omega (arith, h.1), h.2)) (λ c h. (k, omega arith, h))
    (λ c h. ⊎_elim (λ less. inl (h.0, less, h.2)) (λ not_less. let this : h.0 ≡ k = omega (arith, h.1, not_less) in inr (subst (λ j. At j c) this h.2)) (cases_lt h.0 k)) given gives

-- some of them came, and then some with the next number
pub below_some : (At : ℕ → Claim → Type 0) (P : Claim → Type 0) (k : ℕ) {old now new : OwedLog} → ((j : ℕ) (claim : Claim) → j ≤ k → At j claim → P claim) → GivesSome (At k) now new → GivesAll (Below At k) old now → GivesSome P old new
below_some At P k to gives given = some_on (Below At k) (At k) P (λ c h. to h.0 c (omega (arith, h.1)) h.2) (λ c h. to k c (omega arith) h) given.some gives

-- the claim at the place of a list
abbrev pub AtPlace : List Claim → ℕ → Claim → Type 0
AtPlace claims j claim = slice_get claims j ≡ Some claim

pub at_place : (claims : List Claim) (k : ℕ) (claim : Claim) {now new : OwedLog} → slice_get claims k ≡ Some claim → GivesAll (λ other. other ≡ claim) now new → GivesAll (AtPlace claims k) now new
at_place claims k claim at = all_as (λ other. other ≡ claim) (AtPlace claims k) (λ c is. at ∙ ap Some (sym is)) (λ c h. same_Some c claim (sym h ∙ at))

pub all_places : (claims : List Claim) (k : ℕ) {old now : OwedLog} → length claims ≤ k → GivesAll (Below (AtPlace claims) k) old now → GivesAll (λ claim. Contains claims claim) old now
all_places claims k past = all_as (Below (AtPlace claims) k) (λ claim. Contains claims claim) (λ c h. Contains-slice_get claims h.0 c h.2)
    (λ c h. let at = place_from_Contains claims c h in let lt = slice_get_within claims at.0 c at.1 in (at.0, omega (arith, lt, past), at.1))

-- the claim of a trigger, a start and a root
abbrev pub claim_at : ℕ → ℕ → ℕ → Claim
claim_at trigger start root = record { trigger = trigger; start = start; root = root }

-- the claim of a trigger and a start at the term that has the place among those with the property
abbrev pub AtTerm : (ℕ → Type 0) → ℕ → ℕ → ℕ → Claim → Type 0
AtTerm P trigger start k claim = (claim.trigger ≡ trigger) × (claim.start ≡ start) × IsNth P k (Some claim.root)

no_more : (terms : List ℕ) (k i term : ℕ) → slice_get terms k ≡ None → k ≤ i → slice_get terms i ≡ Some term → ⊥
no_more [] k i term none le has = none-some term has
no_more (y ∷ ys) zero i term none le has = none-some y (sym none)
no_more (y ∷ ys) (suc k) zero term none le has = absurd (omega arith)
no_more (y ∷ ys) (suc k) (suc i) term none le has = no_more ys k i term none (omega arith) has

module _ (P : ℕ → Type 0) (trigger start : ℕ) where
  pub at_term : (k root : ℕ) {now new : OwedLog} → IsNth P k (Some root) → GivesAll (λ other. other ≡ claim_at trigger start root) now new → GivesAll (AtTerm P trigger start k) now new
  at_term k root nth = all_as (λ other. other ≡ claim_at trigger start root) (AtTerm P trigger start k)
      (λ c is. (ap (λ (x : Claim). x.trigger) is, ap (λ (x : Claim). x.start) is, subst (λ r. IsNth P k (Some r)) (sym (ap (λ (x : Claim). x.root) is)) nth))
      (λ c h.
      let same : c.root ≡ root = same_Some c.root root (h.2.2 ∙ ap (λ xs. slice_get xs k) (one_list P h.2.0 nth.0 h.2.1 nth.1) ∙ sym nth.2) in
      ap₂ (λ (p : ℕ × ℕ) r. claim_at p.0 p.1 r) (ap₂ (λ t s. (t, s)) h.0 h.1) same)

  pub has_it : (j root : ℕ) → IsNth P j (Some root) → P root
  has_it j root nth = (nth.1.exact root).0 (Contains-slice_get nth.0 j root (sym nth.2))

  pub all_terms : (k : ℕ) {old now : OwedLog} → IsNth P k None → GivesAll (Below (AtTerm P trigger start) k) old now → GivesAll (λ claim. (claim.trigger ≡ trigger) × (claim.start ≡ start) × P claim.root) old now
  all_terms k nth = all_as (Below (AtTerm P trigger start) k) (λ claim. (claim.trigger ≡ trigger) × (claim.start ≡ start) × P claim.root)
      (λ c h. (h.2.0, h.2.1, has_it h.0 c.root h.2.2))
      (λ c h. let at = place_from_Contains nth.0 c.root ((nth.1.exact c.root).1 h.2) in (at.0, ⊎_elim (λ less. less) (λ past. absurd (no_more nth.0 k at.0 c.root (sym nth.2) past at.1)) (cases_lt at.0 k), (h.0, h.1, (nth.0, nth.1, sym at.1))))

-- a claim that was given at a mark or later
pub has_come : (s : OwedLog) (claim : Claim) (place : ℕ) → IsLastGift s.log claim place → ((mark : ℕ) → s.batch ≡ Some mark → mark ≤ place) → HasCome s claim
has_come s claim place gift late = record { owed = gift_owes s.log claim place gift; anew = λ mark out. (place, late mark out, gift.given) }

-- some of the claims that have the property with one of the first numbers came
pub below_all : (At : ℕ → Claim → Type 0) (P : Claim → Type 0) (k : ℕ) {old now : OwedLog} → ((j : ℕ) (claim : Claim) → At j claim → P claim) → GivesAll (Below At k) old now → GivesSome P old now
below_all At P k to given = some_as (Below At k) P (λ c h. to h.0 c h.2) given.some
