-- Adding ways.
use Rattle.std.proofs.Common.{◌≡◌, ◌⊎◌, ⊎_elim, ℕ, List, [], ◌∷◌, ◌++◌, length, slice_get, Some, refl, sym, ap, subst, arith}
use Rattle.std.proofs.lemmas.Bool.{cases_lt}
use Rattle.std.proofs.lemmas.Option.{slice_get_within}
use Rattle.graph_terms.proofs.ListLaws.{push_cases, slice_get-push}
use Rattle.match_trees.specs.declared.entry.Entry.{Entry}
use Rattle.match_paths.specs.declared.link.Link.{Link}
use Rattle.match_trees.specs.Trees.{Trees, Way, AreTrees}
use Rattle.match_trees.specs.Growth.{Leads}
use Rattle.match_trees.specs.TreeLaws.{GrowthLaws, EntryLaws}
use Rattle.match_trees.specs.EntryList.{EntryList, with_entry, entry_of}
use Rattle.match_paths.specs.Wants.{AddsWays, IsThisWay}
use Rattle.match_paths.proofs.WantLemmas.{still_entry, still_end, old_entry, old_end}

-- the same are wanted
module _ (number : ℕ) (P : ℕ → Link → List Link → Type 0) where
  pub ways_as : (Q : ℕ → Link → List Link → Type 0) (trees trees' : Trees Link) (list list' : EntryList) → ((start : ℕ) (begin : Link) (links : List Link) → P start begin links → Q start begin links) → ((start : ℕ) (begin : Link) (links : List Link) → Q start begin links → P start begin links) → AddsWays number P trees trees' list list' → AddsWays number Q trees trees' list list'
  ways_as Q trees trees' list list' forth back adds = record {
    trees_extend = adds.trees_extend;
    list_extends = adds.list_extends;
    sound = λ n end entry past has ends. let s = adds.sound n end entry past has ends in (s.0, (s.1.0, s.1.1, s.1.2, forth entry.start s.1.0 s.1.1 s.1.3));
    complete = λ start begin links q. adds.complete start begin links (back start begin links q);
  }

module _ (grows : GrowthLaws Link) (lists : EntryLaws) (number : ℕ) (P : ℕ → Link → List Link → Type 0) where
  -- no way is wanted
  pub ways_none : (trees : Trees Link) (list : EntryList) → AreTrees trees → length list.ends ≡ length list.entries → ((start : ℕ) (begin : Link) (links : List Link) → P start begin links → ⊥) → AddsWays number P trees trees list list
  ways_none trees list are same none = record {
    trees_extend = grows.same trees are;
    list_extends = lists.same list same;
    sound = λ n end entry past has ends. absurd (let lt = slice_get_within list.entries n entry has in omega (arith, lt, past));
    complete = λ start begin links p. absurd (none start begin links p);
  }

  -- these are wanted, and then those
  pub ways_both : (Q R : ℕ → Link → List Link → Type 0) (trees trees' trees'' : Trees Link) (list list' list'' : EntryList) → length list'.ends ≡ length list'.entries → ((start : ℕ) (begin : Link) (links : List Link) → P start begin links → R start begin links) → ((start : ℕ) (begin : Link) (links : List Link) → Q start begin links → R start begin links) → ((start : ℕ) (begin : Link) (links : List Link) → R start begin links → P start begin links ⊎ Q start begin links) → AddsWays number P trees trees' list list' → AddsWays number Q trees' trees'' list' list'' → AddsWays number R trees trees'' list list''
  ways_both Q R trees trees' trees'' list list' list'' same one other cases p q = record {
    trees_extend = grows.on trees trees' trees'' p.trees_extend q.trees_extend;
    list_extends = lists.on list list' list'' p.list_extends q.list_extends;
    sound = λ n end entry past has ends.
        ⊎_elim
        (λ old. let s = p.sound n end entry past (old_entry list' list'' q.list_extends same n entry old has) (old_end list' list'' q.list_extends same n end old ends) in (s.0, (s.1.0, s.1.1, grows.way trees' trees'' end (s.1.0 ∷ s.1.1) q.trees_extend s.1.2, one entry.start s.1.0 s.1.1 s.1.3)))
        (λ new. let s = q.sound n end entry new has ends in (s.0, (s.1.0, s.1.1, s.1.2, other entry.start s.1.0 s.1.1 s.1.3)))
        (cases_lt n (length list'.entries));
    complete = λ start begin links r.
        ⊎_elim
        (λ h. let c = p.complete start begin links h in (c.0, c.1, still_entry list' list'' q.list_extends same c.0 (entry_of number start) c.2, still_end list' list'' q.list_extends same c.0 c.1 c.3, grows.way trees' trees'' c.1 (begin ∷ links) q.trees_extend c.4))
        (λ h. q.complete start begin links h)
        (cases start begin links r);
  }

-- one way comes
pub ways_one : EntryLaws → (number start end : ℕ) (begin : Link) (links : List Link) (trees trees' : Trees Link) (list : EntryList) → length list.ends ≡ length list.entries → Leads trees trees' (begin ∷ links) end → AddsWays number (IsThisWay start begin links) trees trees' list (with_entry list (entry_of number start) end)
ways_one lists number start end begin links trees trees' list same leads = record {
  trees_extend = leads.extends;
  list_extends = lists.more list (entry_of number start) end same;
  sound = λ n other entry past has ends.
      ⊎_elim (λ old. absurd (let lt = slice_get_within list.entries n entry old in omega (arith, lt, past)))
      (λ new.
      ⊎_elim (λ old. absurd (let lt = slice_get_within list.ends n other old in omega (arith, lt, past, same)))
      (λ at_end. (ap (λ (e : Entry). e.trigger) new.1, (begin, links, subst (λ m. Way trees' m (begin ∷ links)) (sym at_end.1) leads.way, (ap (λ (e : Entry). e.start) new.1, refl, refl))))
      (push_cases list.ends end n other ends))
      (push_cases list.entries (entry_of number start) n entry has);
  complete = λ other_start other_begin other_links is. (
    length list.entries,
    end,
    subst (λ s. slice_get (list.entries ++ entry_of number start ∷ []) (length list.entries) ≡ Some (entry_of number s)) (sym is.0) (slice_get-push list.entries (entry_of number start)),
    subst (λ n. slice_get (list.ends ++ end ∷ []) n ≡ Some end) same (slice_get-push list.ends end),
    subst (λ ls. Way trees' end (other_begin ∷ ls)) (sym is.2) (subst (λ (b : Link). Way trees' end (b ∷ links)) (sym is.1) leads.way),
  );
}
