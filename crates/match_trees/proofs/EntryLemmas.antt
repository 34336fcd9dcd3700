-- Lists of entries that grow.
use Rattle.std.proofs.Common.{◌≡◌, ℕ, ◌≤◌, List, [], ◌∷◌, length, sym, ap, ap₂, ◌∙◌, arith, length-append}
use Rattle.std.proofs.lemmas.List.{take_all, take-take, take-append-le}
use Rattle.match_trees.specs.declared.entry.Entry.{Entry}
use Rattle.match_trees.specs.EntryList.{EntryList, ExtendsList, list_front, with_entry}
use Rattle.match_trees.specs.TreeLaws.{EntryLaws}

abbrev list_of : List Entry → List ℕ → EntryList
list_of entries ends = record { entries = entries; ends = ends }

list_same : (list : EntryList) → length list.ends ≡ length list.entries → ExtendsList list list
list_same list same = record { within = omega arith; front = ap₂ list_of (take_all (length list.entries) list.entries (omega arith)) (take_all (length list.entries) list.ends (omega arith)) }

list_list : (m n : ℕ) (list : EntryList) → m ≤ n → list_front m (list_front n list) ≡ list_front m list
list_list m n list le = ap₂ list_of (take-take m n list.entries le) (take-take m n list.ends le)

list_more : (list : EntryList) (entry : Entry) (end : ℕ) → length list.ends ≡ length list.entries → ExtendsList list (with_entry list entry end)
list_more list entry end same = record {
  within = let len = length-append list.entries (entry ∷ []) in omega arith;
  front = ap₂ list_of
      (take-append-le (length list.entries) list.entries (entry ∷ []) (omega arith) ∙ take_all (length list.entries) list.entries (omega arith))
      (take-append-le (length list.entries) list.ends (end ∷ []) (omega arith) ∙ take_all (length list.entries) list.ends (omega arith));
}

list_on : (old mid new : EntryList) → ExtendsList old mid → ExtendsList mid new → ExtendsList old new
list_on old mid new first second = record {
  within = omega (arith, first.within, second.within);
  front = sym (list_list (length old.entries) (length mid.entries) new first.within) ∙ ap (list_front (length old.entries)) second.front ∙ first.front;
}

pub entry_laws : EntryLaws
entry_laws = record { same = list_same; more = list_more; on = list_on }
