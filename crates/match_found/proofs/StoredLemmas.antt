-- Leaders of stored tuples, in the lists of their triggers.
use Rattle.std.proofs.Common.{◌≡◌, ℕ, ◌<◌, ◌↔◌, ⊎_elim, List, [], ◌∷◌, ◌++◌, length, replicate, get_or, Contains, sym, ap, subst, ◌∙◌, arith}
use Rattle.std.proofs.lemmas.Bool.{cases_eq}
use Rattle.std.proofs.lemmas.List.{get_or-replicate, get_or-set_same, get_or-set_other, length-replicate, length-set}
use Rattle.std.proofs.lemmas.List.Elements.{All-nil, All-push, Contains-append_left, Contains-push, Contains-push_cases}
use Rattle.graph_terms.specs.declared.term_row.TermRow.{TermRow}
use Rattle.graph_meaning.specs.declared.done.Done.{Done}
use Rattle.graph_meaning.specs.Same.{Derives, DerivesEach, IsLeader, turned, none, more}
use Rattle.graph_meaning.specs.Standing.{triggers_of}
use Rattle.match_laws.specs.Due.{Stored}
use Rattle.match_found.specs.Stored.{AreLeadersOf, IsListed, HaveStored, PutsLeaders, ArrangesEach, ListsStored}
use Rattle.match_found.proofs.SameLemmas.{leads_itself, one_leader_each}

each_push : {rows : List TermRow} {merges : List (ℕ × ℕ)} {ss ts : List ℕ} {s t : ℕ} → DerivesEach rows merges ss ts → Derives rows merges s t → DerivesEach rows merges (ss ++ s ∷ []) (ts ++ t ∷ [])
each_push none k = more k none
each_push (more h hs) k = more h (each_push hs k)

pub leaders_none : (standing : List Done) → AreLeadersOf standing [] []
leaders_none standing = record { same = none; led = All-nil (λ term. IsLeader standing term term) }

-- one term more, with its leader
pub leaders_more : (standing : List Done) (terms leaders : List ℕ) (term leader : ℕ) → AreLeadersOf standing terms leaders → IsLeader standing term leader → AreLeadersOf standing (terms ++ term ∷ []) (leaders ++ leader ∷ [])
leaders_more standing terms leaders term leader are is = record {
  same = each_push are.same (turned is.same);
  led = All-push (λ t. IsLeader standing t t) leaders leader are.led (leads_itself is);
}

nothing_in : {X Y : Type 0} (x : X) → Contains [] x → Y
nothing_in x c = absurd (omega (arith, c.1))

pub have_none : (standing : List Done) (lists : List (List (List ℕ))) → lists ≡ replicate (length (triggers_of standing)) [] → HaveStored standing [] lists
have_none standing lists is = record {
  each_trigger = ap length is ∙ length-replicate (length (triggers_of standing)) [];
  exact = λ n leaders below. (
    (λ c. nothing_in leaders (subst (λ (ls : List (List ℕ)). Contains ls leaders) (ap (λ ls. get_or ls n []) is ∙ get_or-replicate (length (triggers_of standing)) n [] [] below) c)),
    (λ listed. nothing_in (n, listed.0) listed.1),
  );
}

-- one tuple more, whose leaders came last in the list of its trigger
pub have_more : (standing : List Done) (stored : Stored) (at : ℕ) (tuple : List ℕ) (old new : List (List (List ℕ))) → at < length (triggers_of standing) → HaveStored standing stored old → PutsLeaders standing at tuple old new → HaveStored standing (stored ++ (at, tuple) ∷ []) new
have_more standing stored at tuple old new within have puts = record {
  each_trigger = ap length puts.is ∙ length-set old at _ ∙ have.each_trigger;
  exact = λ n leaders below. ⊎_elim (here n leaders below) (there n leaders below) (cases_eq n at);
}
  where
    grown : Stored
    grown = stored ++ (at, tuple) ∷ []

    list : List (List ℕ)
    list = get_or old at [] ++ puts.leaders ∷ []

    written : get_or new at [] ≡ list
    written = ap (λ ls. get_or ls at []) puts.is ∙ get_or-set_same old at list [] (omega (arith, within, have.each_trigger))

    listed_more : (n : ℕ) (leaders : List ℕ) → IsListed standing stored n leaders → IsListed standing grown n leaders
    listed_more n leaders listed = (listed.0, Contains-append_left stored ((at, tuple) ∷ []) (n, listed.0) listed.1, listed.2)

    here : (n : ℕ) (leaders : List ℕ) → n < length (triggers_of standing) → n ≡ at → Contains (get_or new n []) leaders ↔ IsListed standing grown n leaders
    here n leaders below e = subst (λ m. Contains (get_or new m []) leaders ↔ IsListed standing grown m leaders) (sym e) (
      (λ c. ⊎_elim
          (λ old_one. listed_more at leaders ((have.exact at leaders within).0 old_one))
          (λ is. (tuple, Contains-push stored (at, tuple), subst (AreLeadersOf standing tuple) is puts.are))
          (Contains-push_cases (get_or old at []) puts.leaders leaders (subst (λ (ls : List (List ℕ)). Contains ls leaders) written c))),
      (λ listed. subst (λ (ls : List (List ℕ)). Contains ls leaders) (sym written)
          (⊎_elim
          (λ was. Contains-append_left (get_or old at []) (puts.leaders ∷ []) leaders ((have.exact at leaders within).1 (listed.0, was, listed.2)))
          (λ is. let same : tuple ≡ listed.0 = ap (λ (p : ℕ × List ℕ). p.1) is in
          let mine = subst (λ t. AreLeadersOf standing t leaders) (sym same) listed.2 in
          subst (λ ls. Contains (get_or old at [] ++ puts.leaders ∷ []) ls) (one_leader_each puts.are.same mine.same puts.are.led mine.led) (Contains-push (get_or old at []) puts.leaders))
          (Contains-push_cases stored (at, tuple) (at, listed.0) listed.1))),
    )

    there : (n : ℕ) (leaders : List ℕ) → n < length (triggers_of standing) → (n ≡ at → ⊥) → Contains (get_or new n []) leaders ↔ IsListed standing grown n leaders
    there n leaders below other =
        let kept : get_or new n [] ≡ get_or old n [] = ap (λ ls. get_or ls n []) puts.is ∙ get_or-set_other old at n list [] other in (
          (λ c. listed_more n leaders ((have.exact n leaders below).0 (subst (λ (ls : List (List ℕ)). Contains ls leaders) kept c))),
          (λ listed. subst (λ (ls : List (List ℕ)). Contains ls leaders) (sym kept)
              ((have.exact n leaders below).1 (listed.0, ⊎_elim (λ was. was) (λ is. absurd (other (sym (ap (λ (p : ℕ × List ℕ). p.0) is)))) (Contains-push_cases stored (at, tuple) (n, listed.0) listed.1), listed.2))),
        )

-- each list put into order
pub lists_arranged : (standing : List Done) (stored : Stored) (old new : List (List (List ℕ))) → HaveStored standing stored old → ArrangesEach (length old) old new → ListsStored standing stored new
lists_arranged standing stored old new have arranged = record {
  have = record {
    each_trigger = arranged.each ∙ have.each_trigger;
    exact = λ n leaders below.
        let same = arranged.same n leaders (omega (arith, below, have.each_trigger)) in
        let is = have.exact n leaders below in
        ((λ c. is.0 (same.0 c)), (λ listed. same.1 (is.1 listed)));
  };
  in_order = λ n below. arranged.in_order n (omega (arith, below, have.each_trigger));
}
