-- Marks when a trigger comes, and when triggers are cut.
use Rattle.std.proofs.Common.{◌≡◌, ◌<◌, ◌≤◌, ◌⊎◌, inl, inr, ⊎_elim, ℕ, List, [], ◌∷◌, ◌++◌, length, take, slice_get, slice_index_or, zero, suc, Some, sym, ap, subst, ◌∙◌, arith, length-append}
use Rattle.std.proofs.lemmas.Bool.{cases_lt}
use Rattle.std.proofs.lemmas.List.{length-take, length-take-le}
use Rattle.std.proofs.lemmas.Option.{none-some, slice_get_within}
use Rattle.graph_terms.proofs.ListLaws.{push_cases, slice_get-take, slice_get-take_below, element_at}
use Rattle.graph_trigger.specs.declared.trigger.Trigger.{Trigger}
use Rattle.match_trees.specs.declared.entry.Entry.{Entry}
use Rattle.match_trees.specs.declared.mark.Mark.{Mark}
use Rattle.match_paths.specs.declared.link.Link.{Link}
use Rattle.match_trees.specs.Trees.{Trees, Way, AreTrees, trees_front}
use Rattle.match_trees.specs.Growth.{Extends}
use Rattle.match_trees.specs.TreeLaws.{PathLaws, GrowthLaws}
use Rattle.match_trees.specs.EntryList.{EntryList, list_front, entry_of}
use Rattle.match_paths.specs.Wants.{AddsWays}
use Rattle.match_paths.specs.Marks.{IsMark, AreMarks}
use Rattle.match_paths.specs.Paths.{Serves}
use Rattle.match_paths.proofs.WantLemmas.{old_entry, old_end}

-- how much stands
abbrev pub mark_of : Trees Link → EntryList → Mark
mark_of trees list = record { nodes = length trees.labels; entries = length list.entries }

module _ (paths : PathLaws Link) (trees trees' : Trees Link) (list list' : EntryList) (marks : List Mark) (P : ℕ → Link → List Link → Type 0) (same : length list.ends ≡ length list.entries) (same' : length list'.ends ≡ length list'.entries) (are : AreMarks trees list marks) (adds : AddsWays (length marks) P trees trees' list list') where
  entry_cases : (n : ℕ) (entry : Entry) → slice_get list'.entries n ≡ Some entry → ((n < length list.entries) × (slice_get list.entries n ≡ Some entry)) ⊎ ((length list.entries ≤ n) × (entry.trigger ≡ length marks))
  entry_cases n entry at = ⊎_elim (λ old. inl (old, old_entry list list' adds.list_extends same n entry old at))
      (λ new. let end = element_at list'.ends n (let lt = slice_get_within list'.entries n entry at in omega (arith, lt, same')) in inr (new, (adds.sound n end.0 entry new at end.1).0))
      (cases_lt n (length list.entries))

  old_mark : (number : ℕ) (mark : Mark) → number < length marks → IsMark trees list number mark → IsMark trees' list' number mark
  old_mark number mark lt is = record {
    nodes = omega (arith, is.nodes, adds.trees_extend.within);
    entries = omega (arith, is.entries, adds.list_extends.within);
    splits = λ n entry at. ⊎_elim (λ old. is.splits n entry old.1) (λ new. ((λ h. absurd (omega (arith, h, new.1, lt))), (λ h. absurd (omega (arith, h, new.0, is.entries))))) (entry_cases n entry at);
    ends = λ n end less at. is.ends n end less (old_end list list' adds.list_extends same n end (omega (arith, less, is.entries)) at);
  }

  new_mark : IsMark trees' list' (length marks) (mark_of trees list)
  new_mark = record {
    nodes = adds.trees_extend.within;
    entries = adds.list_extends.within;
    splits = λ n entry at. ⊎_elim (λ old. ((λ h. old.0), (λ h. are.below n entry old.1))) (λ new. ((λ h. absurd (omega (arith, h, new.1))), (λ h. absurd (omega (arith, h, new.0))))) (entry_cases n entry at);
    ends = λ n end less at. are.ends n end (old_end list list' adds.list_extends same n end less at);
  }

  -- a trigger came
  pub marks_more : AreMarks trees' list' (marks ++ mark_of trees list ∷ [])
  marks_more = record {
    each = λ number mark at. ⊎_elim (λ old. old_mark number mark (slice_get_within marks number mark old) (are.each number mark old)) (λ new. subst (λ (m : Mark). IsMark trees' list' number m) (sym new.1) (subst (λ k. IsMark trees' list' k (mark_of trees list)) (sym new.0) new_mark)) (push_cases marks (mark_of trees list) number mark at);
    rising = λ i j a b le at_i at_j.
        ⊎_elim
        (λ old_j. ⊎_elim (λ old_i. are.rising i j a b le old_i old_j) (λ new_i. absurd (let lt = slice_get_within marks j b old_j in omega (arith, new_i.0, le, lt))) (push_cases marks (mark_of trees list) i a at_i))
        (λ new_j.
        let nodes = ap (λ (m : Mark). m.nodes) new_j.1 in
        let entries = ap (λ (m : Mark). m.entries) new_j.1 in
        ⊎_elim (λ old_i. let is = are.each i a old_i in (omega (arith, is.nodes, nodes), omega (arith, is.entries, entries)))
        (λ new_i. let n = ap (λ (m : Mark). m.nodes) new_i.1 in let e = ap (λ (m : Mark). m.entries) new_i.1 in (omega (arith, n, nodes), omega (arith, e, entries)))
        (push_cases marks (mark_of trees list) i a at_i))
        (push_cases marks (mark_of trees list) j b at_j);
    below = λ n entry at. let len = length-append marks (mark_of trees list ∷ []) in ⊎_elim (λ old. let lt = are.below n entry old.1 in omega (arith, lt, len)) (λ new. omega (arith, new.1, len)) (entry_cases n entry at);
    ends = λ n end at.
        ⊎_elim
        (λ old. let lt = are.ends n end (old_end list list' adds.list_extends same n end old at) in omega (arith, lt, adds.trees_extend.within))
        (λ new. let entry = element_at list'.entries n (let lt = slice_get_within list'.ends n end at in omega (arith, lt, same')) in let its = (adds.sound n end entry.0 new entry.1 at).1 in paths.within trees' its.2.root end (its.0 ∷ its.1) its.2.path)
        (cases_lt n (length list.entries));
  }

-- a place in a front is below its length
below_front : {X : Type 0} (n : ℕ) (xs : List X) (i : ℕ) (x : X) → slice_get (take n xs) i ≡ Some x → i < n
below_front n xs i x has = let lt = slice_get_within (take n xs) i x has in omega (arith, lt, length-take n xs)

module _ (trees : Trees Link) (list : EntryList) (marks : List Mark) (are : AreMarks trees list marks) (n : ℕ) (mark : Mark) (at : slice_get marks n ≡ Some mark) where
  own : IsMark trees list n mark
  own = are.each n mark at

  -- the triggers past the first n were cut
  pub marks_cut : AreMarks (trees_front mark.nodes trees) (list_front mark.entries list) (take n marks)
  marks_cut = record {
    each = λ number m h.
        let lt = below_front n marks number m h in
        let there = slice_get-take n marks number m h in
        let is = are.each number m there in
        let le = are.rising number n m mark (omega arith) there at in
        record {
          nodes = omega (arith, le.0, length-take-le mark.nodes trees.labels own.nodes);
          entries = omega (arith, le.1, length-take-le mark.entries list.entries own.entries);
          splits = λ k entry has. is.splits k entry (slice_get-take mark.entries list.entries k entry has);
          ends = λ k end less has. is.ends k end less (slice_get-take mark.entries list.ends k end has);
        };
    rising = λ i j a b le at_i at_j. are.rising i j a b le (slice_get-take n marks i a at_i) (slice_get-take n marks j b at_j);
    below = λ k entry has.
        let lt = below_front mark.entries list.entries k entry has in
        let less = (own.splits k entry (slice_get-take mark.entries list.entries k entry has)).1 lt in
        let within = slice_get_within marks n mark at in
        omega (arith, less, length-take-le n marks (omega (arith, within)));
    ends = λ k end has. let less = own.ends k end (below_front mark.entries list.ends k end has) (slice_get-take mark.entries list.ends k end has) in omega (arith, less, length-take-le mark.nodes trees.labels own.nodes);
  }

  front_extends : Extends (trees_front mark.nodes trees) trees
  front_extends = record { within = omega (arith, length-take-le mark.nodes trees.labels own.nodes, own.nodes); front = ap (λ k. trees_front k trees) (length-take-le mark.nodes trees.labels own.nodes) }

  module _ (grows : GrowthLaws Link) (all : List Trigger) (sound_trees : AreTrees trees) (serves : Serves (record { trees = trees; list = list; triggers = length marks }) all) where
    cut_way : (end : ℕ) (code : List Link) → end < mark.nodes → Way trees end code → Way (trees_front mark.nodes trees) end code
    cut_way end code less way = grows.cut mark.nodes trees end code sound_trees less way

    pub serves_cut : Serves (record { trees = trees_front mark.nodes trees; list = list_front mark.entries list; triggers = length (take n marks) }) (take n all)
    serves_cut = record {
      many = let within = slice_get_within marks n mark at in omega (arith, serves.many, within, length-take-le n marks (omega (arith, within)), length-take-le n all (omega (arith, within, serves.many)));
      led = λ k end has.
          let lt = below_front mark.entries list.ends k end has in
          let there = slice_get-take mark.entries list.ends k end has in
          let way = serves.led k end there in
          (way.0, cut_way end way.0 (own.ends k end lt there) way.1);
      sound = λ k end entry begin links has ends way.
          let lt = below_front mark.entries list.entries k entry has in
          let has_there = slice_get-take mark.entries list.entries k entry has in
          let of = serves.sound k end entry begin links has_there (slice_get-take mark.entries list.ends k end ends) (grows.way (trees_front mark.nodes trees) trees end (begin ∷ links) front_extends way) in
          (of.0, slice_get-take_below n all entry.trigger of.0 ((own.splits k entry has_there).1 lt) of.1, of.2);
      all = λ number start trigger begin links has inverted.
          let lt = below_front n all number trigger has in
          let of = serves.all number start trigger begin links (slice_get-take n all number trigger has) inverted in
          let less = (own.splits of.0 (entry_of number start) of.2).0 lt in
          (of.0, of.1, slice_get-take_below mark.entries list.entries of.0 (entry_of number start) less of.2, slice_get-take_below mark.entries list.ends of.0 of.1 less of.3, cut_way of.1 (begin ∷ links) (own.ends of.0 of.1 less of.3) of.4);
    }

-- an element that is there is what is read
read_or : (marks : List Mark) (n : ℕ) (mark other : Mark) → slice_get marks n ≡ Some mark → slice_index_or marks n other ≡ mark
read_or [] n mark other h = absurd (none-some mark h)
read_or (m ∷ marks) zero mark other h = cc
read_or (m ∷ marks) (suc n) mark other h = read_or marks n mark other h

pub mark_at : (marks : List Mark) (n : ℕ) (mark : Mark) → n < length marks → mark ≡ slice_index_or marks n mark → slice_get marks n ≡ Some mark
mark_at marks n mark lt is = let of = element_at marks n lt in of.1 ∙ ap Some (sym (is ∙ read_or marks n of.0 mark of.1))
