-- Patterns by the symbols of their roots, as triggers come and go.
use Rattle.std.proofs.Common.{◌≡◌, ◌≤◌, ◌<◌, ◌+◌, ◌-◌, ⊎_elim, ℕ, List, [], ◌∷◌, ◌++◌, length, take, slice_get}
use Rattle.std.proofs.Common.{Some, refl, sym, ap, ap₂, subst, ◌∙◌, arith, length-append}
use Rattle.std.proofs.lemmas.Bool.{cases_lt, cases_eq}
use Rattle.std.proofs.lemmas.List.{length-take-le, length-take, length_push}
use Rattle.std.proofs.lemmas.Option.{none-some, same_Some, slice_get_within}
use Rattle.graph_terms.proofs.ListLaws.{slice_get-append_left, slice_get-push, push_cases, slice_get-take, slice_get-take_below, element_at}
use Rattle.graph_trigger.specs.declared.trigger.Trigger.{Trigger}
use Rattle.graph_meaning.specs.Justified.{AppliesAt}
use Rattle.match_trees.specs.declared.entry.Entry.{Entry}
use Rattle.match_trees.specs.EntryList.{EntryList, ExtendsList, entry_of, with_entry, list_front}
use Rattle.match_trees.specs.TreeLaws.{EntryLaws}
use Rattle.match_owed.specs.Starts.{StartList, IsListed, Serves, AreRising, AreInOrder, SplitsAt, Lists, ListsOne, lists, passes}
use Rattle.match_owed.proofs.DueLemmas.{one_symbol, start_within}

pub lists_none : EntryLaws → (trigger : Trigger) (number : ℕ) (list : EntryList) → length list.ends ≡ length list.entries → Lists trigger number 0 list list
lists_none laws trigger number list same = record {
  extends = laws.same list same;
  each = same;
  sound = λ place entry past at. absurd (let within = slice_get_within list.entries place entry at in omega (arith, within, past));
  complete = λ start symbol lt applies. absurd (omega (arith, lt));
}

pub lists_next : EntryLaws → (trigger : Trigger) (number count : ℕ) (old mid new : EntryList) →
    Lists trigger number count old mid → ListsOne trigger number count mid new → Lists trigger number (count + 1) old new
lists_next laws trigger number count old mid new had (passes none is) = subst (Lists trigger number (count + 1) old) (sym is) (record {
  extends = had.extends;
  each = had.each;
  sound = had.sound;
  complete = λ start symbol lt applies. ⊎_elim (λ less. had.complete start symbol less applies)
      (λ not_less. let this : start ≡ count = omega (arith, lt, not_less) in absurd (none symbol (subst (λ s. AppliesAt trigger s [] symbol) this applies))) (cases_lt start count);
})
lists_next laws trigger number count old mid new had (lists {symbol = symbol} has is) = subst (Lists trigger number (count + 1) old) (sym is) (record {
  extends = laws.on old mid (with_entry mid entry symbol) had.extends (laws.more mid entry symbol had.each);
  each = omega (arith, had.each, length_push mid.ends symbol, length_push mid.entries entry);
  sound = λ place other past at. ⊎_elim
      (λ was. let there = had.sound place other past was in (there.0, there.1, slice_get-append_left mid.ends (symbol ∷ []) place there.0 there.2, there.3))
      (λ new. (
        symbol,
        ap (λ (e : Entry). e.trigger) new.1,
        subst (λ p. slice_get (mid.ends ++ symbol ∷ []) p ≡ Some symbol) (had.each ∙ sym new.0) (slice_get-push mid.ends symbol),
        subst (λ s. AppliesAt trigger s [] symbol) (sym (ap (λ (e : Entry). e.start) new.1)) has,
      ))
      (push_cases mid.entries entry place other at);
  complete = λ start other lt applies. ⊎_elim
      (λ less. let there = had.complete start other less applies in (there.0, slice_get-append_left mid.entries (entry ∷ []) there.0 (entry_of number start) there.1, slice_get-append_left mid.ends (symbol ∷ []) there.0 other there.2))
      (λ not_less.
      let this : start ≡ count = omega (arith, lt, not_less) in
      let one : symbol ≡ other = one_symbol trigger count symbol other has (subst (λ s. AppliesAt trigger s [] other) this applies) in (
        length mid.entries,
        slice_get-push mid.entries entry ∙ ap (λ s. Some (entry_of number s)) (sym this),
        subst (λ p. slice_get (mid.ends ++ symbol ∷ []) p ≡ Some symbol) had.each (slice_get-push mid.ends symbol) ∙ ap Some one,
      ))
      (cases_lt start count);
})
  where
    entry : Entry
    entry = entry_of number count

module _ {old new : EntryList} (extends : ExtendsList old new) where
  -- what stood stands
  pub entry_on : (place : ℕ) (entry : Entry) → slice_get old.entries place ≡ Some entry → slice_get new.entries place ≡ Some entry
  entry_on place entry at = slice_get-take (length old.entries) new.entries place entry (subst (λ (list : EntryList). slice_get list.entries place ≡ Some entry) (sym extends.front) at)

  pub end_on : (place end : ℕ) → slice_get old.ends place ≡ Some end → slice_get new.ends place ≡ Some end
  end_on place end at = slice_get-take (length old.entries) new.ends place end (subst (λ (list : EntryList). slice_get list.ends place ≡ Some end) (sym extends.front) at)

  -- and at its places nothing else does
  pub entry_was : (place : ℕ) (entry : Entry) → place < length old.entries → slice_get new.entries place ≡ Some entry → slice_get old.entries place ≡ Some entry
  entry_was place entry lt at = subst (λ (list : EntryList). slice_get list.entries place ≡ Some entry) extends.front (slice_get-take_below (length old.entries) new.entries place entry lt at)

  pub end_was : (place end : ℕ) → place < length old.entries → slice_get new.ends place ≡ Some end → slice_get old.ends place ≡ Some end
  end_was place end lt at = subst (λ (list : EntryList). slice_get list.ends place ≡ Some end) extends.front (slice_get-take_below (length old.entries) new.ends place end lt at)

module _ (trigger : Trigger) (old new : EntryList) (count : ℕ) where
  pub serves_more : (triggers : List Trigger) → Lists trigger count (length trigger.roots) old new → Serves (record { list = old; triggers = count }) triggers → Serves (record { list = new; triggers = count + 1 }) (triggers ++ trigger ∷ [])
  serves_more triggers added serves = record {
    many = omega (arith, serves.many, length-append triggers (trigger ∷ []));
    exact = λ number start symbol. (
      (λ listed. ⊎_elim
          (λ lt. let was = (serves.exact number start symbol).0 (listed.0, entry_was added.extends listed.0 (entry_of number start) lt listed.1, end_was added.extends listed.0 symbol lt listed.2) in
          (was.0, slice_get-append_left triggers (trigger ∷ []) number was.0 was.1, was.2))
          (λ past.
          let there = added.sound listed.0 (entry_of number start) (omega (arith, past)) listed.1 in
          let is : number ≡ length triggers = there.1 ∙ serves.many in
          let one : there.0 ≡ symbol = same_Some there.0 symbol (sym there.2 ∙ listed.2) in
          (trigger, subst (λ k. slice_get (triggers ++ trigger ∷ []) k ≡ Some trigger) (sym is) (slice_get-push triggers trigger), subst (AppliesAt trigger start []) one there.3))
          (cases_lt listed.0 (length old.entries))),
      (λ of. ⊎_elim
          (λ was. let there = (serves.exact number start symbol).1 (of.0, was, of.2) in
          (there.0, entry_on added.extends there.0 (entry_of number start) there.1, end_on added.extends there.0 symbol there.2))
          (λ is.
          let applies : AppliesAt trigger start [] symbol = subst (λ (t : Trigger). AppliesAt t start [] symbol) is.1 of.2 in
          subst (λ k. IsListed new k start symbol) (serves.many ∙ sym is.0) (added.complete start symbol (start_within trigger start symbol applies) applies))
          (push_cases triggers trigger number of.0 of.1)),
    );
  }

  pub order_more : (k : ℕ) → Lists trigger count k old new → AreInOrder old count → AreInOrder new (count + 1)
  order_more k added order = record {
    below = λ place entry at. ⊎_elim
        (λ lt. let less = order.below place entry (entry_was added.extends place entry lt at) in omega (arith, less))
        (λ past. let is = (added.sound place entry (omega (arith, past)) at).1 in omega (arith, is))
        (cases_lt place (length old.entries));
    rising = λ i j a b le at at'. ⊎_elim
        (λ lt. order.rising i j a b le (entry_was added.extends i a (omega (arith, le, lt)) at) (entry_was added.extends j b lt at'))
        (λ past. let is = (added.sound j b (omega (arith, past)) at').1 in ⊎_elim
        (λ before. let less = order.below i a (entry_was added.extends i a before at) in omega (arith, less, is))
        (λ past'. let is' = (added.sound i a (omega (arith, past')) at).1 in omega (arith, is, is'))
        (cases_lt i (length old.entries)))
        (cases_lt j (length old.entries));
  }

below_take : {X : Type 0} (n : ℕ) (xs : List X) (i : ℕ) (x : X) → slice_get (take n xs) i ≡ Some x → i < n
below_take n xs i x at = let within = slice_get_within (take n xs) i x at in let is = length-take n xs in omega (arith, within, is)

module _ (list : EntryList) (triggers count : ℕ) (splits : SplitsAt list triggers count) where
  pub order_cut : {many : ℕ} → AreInOrder list many → AreInOrder (list_front count list) triggers
  order_cut order = record {
    below = λ place entry at. (splits place entry (slice_get-take count list.entries place entry at)).1 (below_take count list.entries place entry at);
    rising = λ i j a b le at at'. order.rising i j a b le (slice_get-take count list.entries i a at) (slice_get-take count list.entries j b at');
  }

  pub serves_cut : (many : ℕ) (all : List Trigger) → triggers ≤ many → Serves (record { list = list; triggers = many }) all → Serves (record { list = list_front count list; triggers = triggers }) (take triggers all)
  serves_cut many all le serves = record {
    many = sym (length-take-le triggers all (omega (arith, le, serves.many)));
    exact = λ number start symbol. (
      (λ listed.
          let at = slice_get-take count list.entries listed.0 (entry_of number start) listed.1 in
          let of = (serves.exact number start symbol).0 (listed.0, at, slice_get-take count list.ends listed.0 symbol listed.2) in
          (of.0, slice_get-take_below triggers all number of.0 ((splits listed.0 (entry_of number start) at).1 (below_take count list.entries listed.0 (entry_of number start) listed.1)) of.1, of.2)),
      (λ of.
          let listed = (serves.exact number start symbol).1 (of.0, slice_get-take triggers all number of.0 of.1, of.2) in
          let lt = (splits listed.0 (entry_of number start) listed.1).0 (below_take triggers all number of.0 of.1) in
          (listed.0, slice_get-take_below count list.entries listed.0 (entry_of number start) lt listed.1, slice_get-take_below count list.ends listed.0 symbol lt listed.2)),
    );
  }

-- the entries from the count on are of later triggers
abbrev pub ArePast : EntryList → ℕ → ℕ → Type 0
ArePast list triggers count = (place : ℕ) (entry : Entry) → count ≤ place → slice_get list.entries place ≡ Some entry → triggers ≤ entry.trigger

pub past_none : (list : EntryList) (triggers count : ℕ) → count ≡ length list.entries → ArePast list triggers count
past_none list triggers count is place entry le at = absurd (let within = slice_get_within list.entries place entry at in omega (arith, within, is, le))

pub past_next : (list : EntryList) (triggers count : ℕ) → 0 < count → ArePast list triggers count → ((entry : Entry) → slice_get list.entries (count - 1) ≡ Some entry → triggers ≤ entry.trigger) → ArePast list triggers (count - 1)
past_next list triggers count some past last place entry le at =
    ⊎_elim (λ lt. let is : place ≡ count - 1 = omega (arith, le, lt, some) in last entry (subst (λ p. slice_get list.entries p ≡ Some entry) is at))
    (λ not_lt. past place entry (omega (arith, not_lt)) at) (cases_lt place count)

pub splits_at : (list : EntryList) (triggers count : ℕ) → AreRising list → count ≤ length list.entries → ArePast list triggers count → (0 < count → (entry : Entry) → slice_get list.entries (count - 1) ≡ Some entry → entry.trigger < triggers) → SplitsAt list triggers count
splits_at list triggers count rising few past last place entry at = (
  (λ lt. ⊎_elim (λ less. less) (λ not_less. absurd (let le = past place entry (omega (arith, not_less)) at in omega (arith, le, lt))) (cases_lt place count)),
  (λ less.
      let there = element_at list.entries (count - 1) (omega (arith, less, few)) in
      let up = rising place (count - 1) entry there.0 (omega (arith, less)) at there.1 in
      let down = last (omega (arith, less)) there.0 there.1 in
      omega (arith, up, down)),
)
