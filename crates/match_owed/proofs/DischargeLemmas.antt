-- What discharges do to what is owed.
use Rattle.std.proofs.Common.{◌≡◌, ◌<◌, ◌≤◌, ◌+◌, ◌⊎◌, inl, inr, ⊎_elim, ℕ, List, [], ◌∷◌, ◌++◌, length, get_or, slice_get, Some, Contains, refl, sym, ap, subst, ◌∙◌, arith}
use Rattle.std.proofs.lemmas.Bool.{cases_eq, cases_lt}
use Rattle.std.proofs.lemmas.Option.{same_Some, slice_get_within, get_or_from_slice_get}
use Rattle.graph_terms.proofs.ListLaws.{element_at, slice_get-append_left, slice_get-push, push_cases, place_from_Contains, Contains-slice_get}
use Rattle.graph_meaning.specs.declared.claim.Claim.{Claim}
use Rattle.match_owed.specs.declared.event.Event.{Event}
use Rattle.match_owed.specs.OwedLog.{gave, discharged, Owes, CountsOwed, CameAnew, Grows, IsBusy, IsIdle, IsLastGift, OwedLog, TakesOff}
use Rattle.match_owed.proofs.GiveLemmas.{other_event, grows_same, grows_on, anew_on}

-- whether two claims are one can be told
decide_claim : (x y : Claim) → (x ≡ y) ⊎ (x ≡ y → ⊥)
decide_claim x y =
    ⊎_elim
    (λ a. ⊎_elim (λ b. ⊎_elim (λ c. inl (ap (λ t. record { trigger = t; start = x.start; root = x.root }) a ∙ ap (λ s. record { trigger = y.trigger; start = s; root = x.root }) b ∙ ap (λ r. record { trigger = y.trigger; start = y.start; root = r }) c)) (λ apart. inr (λ e. apart (ap (λ (z : Claim). z.root) e))) (cases_eq x.root y.root)) (λ apart. inr (λ e. apart (ap (λ (z : Claim). z.start) e))) (cases_eq x.start y.start))
    (λ apart. inr (λ e. apart (ap (λ (z : Claim). z.trigger) e)))
    (cases_eq x.trigger y.trigger)

module _ (log : List Event) (claim : Claim) where
  -- what was given before the last discharge was given
  given_old : (place : ℕ) (other : Claim) → slice_get (log ++ discharged claim ∷ []) place ≡ Some (gave other) → slice_get log place ≡ Some (gave other)
  given_old place other h = ⊎_elim (λ old. old) (λ new. absurd (other_event new.1)) (push_cases log (discharged claim) place (gave other) h)

  owes_old : (other : Claim) → Owes (log ++ discharged claim ∷ []) other → Owes log other
  owes_old other owes = record { place = owes.place; given = given_old owes.place other owes.given; since = λ later after h. owes.since later after (slice_get-append_left log (discharged claim ∷ []) later (discharged other) h) }

  owes_new : (other : Claim) → Owes log other → Owes (log ++ discharged claim ∷ []) other ⊎ (other ≡ claim)
  owes_new other owes = ⊎_elim inr
      (λ apart. inl (record {
        place = owes.place;
        given = slice_get-append_left log (discharged claim ∷ []) owes.place (gave other) owes.given;
        since = λ later after h. ⊎_elim (λ old. owes.since later after old) (λ new. apart (ap (λ (event : Event). event.claim) new.1)) (push_cases log (discharged claim) later (discharged other) h);
      }))
      (decide_claim other claim)

  owes_not : Owes (log ++ discharged claim ∷ []) claim → ⊥
  owes_not owes = owes.since (length log) (slice_get_within log owes.place (gave claim) (given_old owes.place claim owes.given)) (slice_get-push log (discharged claim))

  -- what was given last before the mark has not come anew
  not_anew : (mark place : ℕ) → IsLastGift log claim place → place < mark → CameAnew log mark claim → ⊥
  not_anew mark place gift early came = gift.after came.0 (gave claim) (omega (arith, early, came.1)) came.2 refl

  -- the claim was given last before the mark, and is discharged
  pub takes_one : (mark place : ℕ) → IsLastGift log claim place → place < mark → TakesOff mark (λ other. other ≡ claim) log (log ++ discharged claim ∷ [])
  takes_one mark place gift early = record {
    grows = (discharged claim ∷ [], refl);
    only = owes_old;
    left = owes_new;
    stays = λ other owed anew. ⊎_elim (λ still. still) (λ e. absurd (not_anew mark place gift early (subst (CameAnew log mark) e anew))) (owes_new other owed);
    goes = λ other e owed. absurd (owes_not (subst (Owes (log ++ discharged claim ∷ [])) e owed));
    anew = λ other came. (came.0, came.1, given_old came.0 other came.2);
  }

pub takes_nothing : (log : List Event) (mark : ℕ) (P : Claim → Type 0) → ((claim : Claim) → P claim → Owes log claim → CameAnew log mark claim) → TakesOff mark P log log
takes_nothing log mark P came = record { grows = grows_same log; only = λ c o. o; left = λ c o. inl o; stays = λ c o a. o; goes = came; anew = λ c a. a }

-- one after another
pub takes_on : (mark : ℕ) (P Q R : Claim → Type 0) (a b c : List Event) → ((claim : Claim) → P claim → R claim) → ((claim : Claim) → Q claim → R claim) → ((claim : Claim) → R claim → P claim ⊎ Q claim) → TakesOff mark P a b → TakesOff mark Q b c → TakesOff mark R a c
takes_on mark P Q R a b c one two cases p q = record {
  grows = grows_on a b c p.grows q.grows;
  only = λ x o. p.only x (q.only x o);
  left = λ x o. ⊎_elim (λ still. ⊎_elim inl (λ h. inr (two x h)) (q.left x still)) (λ h. inr (one x h)) (p.left x o);
  stays = λ x o came. q.stays x (p.stays x o came) (anew_on a b mark x p.grows came);
  goes = λ x r o. ⊎_elim (λ h. p.goes x h (q.only x o)) (λ h. p.anew x (q.goes x h o)) (cases x r);
  anew = λ x came. p.anew x (q.anew x came);
}

-- the claims at the first places of a list
abbrev pub IsBelow : List Claim → ℕ → Claim → Type 0
IsBelow claims k claim = (j : ℕ) × (j < k) × (slice_get claims j ≡ Some claim)

pub takes_none : (log : List Event) (mark : ℕ) (claims : List Claim) → TakesOff mark (IsBelow claims 0) log log
takes_none log mark claims = takes_nothing log mark (IsBelow claims 0) (λ claim h owes. absurd (omega (arith, h.1)))

pub takes_next : (mark : ℕ) (claims : List Claim) (k : ℕ) (claim : Claim) (old now new : List Event) → slice_get claims k ≡ Some claim → TakesOff mark (λ other. other ≡ claim) now new → TakesOff mark (IsBelow claims k) old now → TakesOff mark (IsBelow claims (k + 1)) old new
takes_next mark claims k claim old now new at one first =
    takes_on mark (IsBelow claims k) (λ other. other ≡ claim) (IsBelow claims (k + 1)) old now new
    (λ c h. (h.0, omega (arith, h.1), h.2)) (λ c is. (k, omega arith, at ∙ ap Some (sym is)))
    (λ c h. ⊎_elim (λ less. inl (h.0, less, h.2)) (λ not_less. let this : h.0 ≡ k = omega (arith, h.1, not_less) in inr (same_Some c claim (sym h.2 ∙ ap (slice_get claims) this ∙ at))) (cases_lt h.0 k))
    first one

pub takes_all : (mark : ℕ) (claims : List Claim) (k : ℕ) (old now : List Event) → length claims ≤ k → TakesOff mark (IsBelow claims k) old now → TakesOff mark (λ claim. Contains claims claim) old now
takes_all mark claims k old now past takes = record {
  grows = takes.grows;
  only = takes.only;
  left = λ c o. ⊎_elim inl (λ h. inr (Contains-slice_get claims h.0 c h.2)) (takes.left c o);
  stays = takes.stays;
  goes = λ c has. let at = place_from_Contains claims c has in takes.goes c (at.0, (let lt = slice_get_within claims at.0 c at.1 in omega (arith, lt, past)), at.1);
  anew = takes.anew;
}

-- the claims of the list at the place
pub takes_list : (mark : ℕ) (lists : List (List Claim)) (place : ℕ) (claims : List Claim) (old now : List Event) → slice_get lists place ≡ Some claims → TakesOff mark (λ claim. Contains claims claim) old now → TakesOff mark (λ claim. Contains (get_or lists place []) claim) old now
takes_list mark lists place claims old now at takes = subst (λ (xs : List Claim). TakesOff mark (λ claim. Contains xs claim) old now) (sym (get_or_from_slice_get lists place claims [] at)) takes

-- no level is open and nothing is owed, by the count
pub idle_from : (s : OwedLog) (count : ℕ) → CountsOwed s.log count → length s.levels ≡ 0 → count ≡ 0 → IsIdle s
idle_from s count counts none zero = record {
  no_level = none;
  nothing = λ claim owes. absurd (let has = (counts.1.exact claim).1 owes in omega (arith, has.1, counts.2, zero));
}

-- something is owed, by the count
pub busy_from : (s : OwedLog) (count : ℕ) → CountsOwed s.log count → 0 < count → IsBusy s
busy_from s count counts some =
    let first = element_at counts.0 0 (omega (arith, counts.2, some)) in
    inr (first.0, (counts.1.exact first.0).0 (Contains-slice_get counts.0 0 first.0 first.1))
