use Rattle.std.proofs.Common.{◌≡◌, ◌<◌, length, ap, sym, ◌∙◌, subst, arith, List, ℕ, refl, slice_index, slice_index_or, Contains}
use Rattle.graph_classes.specs.State.{State, list_at}
use Rattle.graph_classes.specs.History.{now}
use Rattle.graph_classes.specs.Listed.{ListsMore, IsMemberListed}
use Rattle.graph_classes.proofs.HistoryLemmas.{history_trans, same_history}
use Rattle.graph_classes.proofs.MoveLemmas.{read_at, count_at, contains_index}
use Rattle.graph_classes.proofs.ListingLemmas.{ListsMore-none, ListsMore-trans, IsMemberListed-more, listed_more, listed_all, listed_none, rows_same}
use Rattle.graph_classes.proofs.classes.Classes.list_members.Goals as goal

-- the lists of terms are as they were
stay : (old new : State) → ListsMore old new → new.members ≡ old.members
stay old new more = ap (λ (s : State). s.members) more.alone

-- the term that was read is the one of the list
is_item : (old new : State) (from i term : ℕ) (list : List ℕ) → ListsMore old new → from < length old.members → list ≡ slice_index_or new.members from list → term ≡ slice_index list i → term ≡ slice_index (list_at old.members from) i
is_item old new from i term list more h is_list is_term = read_at new.members from i term list (rw (stay old new more) h) is_list is_term ∙ ap (λ ls. slice_index (list_at ls from) i) (stay old new more)

pub list_member-requires-clause-term_in : goal.list_member-requires-clause-term_in
list_member-requires-clause-term_in c =
    let list = list_at c.args.self.now.parts.members.items c.args.from in
    let within : c.loop-i.i < length list = omega (arith, count_at c.args.self.now.parts.members.items c.args.from c.len-count.result c.index.result.now c.requires.from_in c.index.ensures c.len-count.ensures) in
    let item = is_item (now c.args.self.now) (now c.loop-i.self) c.args.from c.loop-i.i c.get-term.result c.index-in-loop-i.result.now c.loop-i.invariant.more c.requires.from_in c.index-in-loop-i.ensures c.get-term.ensures in
    let P : ℕ → Type 0 = λ t. Contains list t in
    rw (rows_same _ _ c.loop-i.invariant.more) (c.requires.members_in c.get-term.result (subst P (sym item) (contains_index list c.loop-i.i within)))

pub loop-i-init : goal.loop-i-init
loop-i-init c = record { more = ListsMore-none _; listed = listed_none (IsMemberListed (now c.args.self.now)) (list_at c.args.self.now.parts.members.items c.args.from); history = same_history _ _ refl refl }

pub loop-i-preserved : goal.loop-i-preserved
loop-i-preserved c =
    let list = list_at c.args.self.now.parts.members.items c.args.from in
    let within : c.loop-i.i < length list = omega (arith, count_at c.args.self.now.parts.members.items c.args.from c.len-count.result c.index.result.now c.requires.from_in c.index.ensures c.len-count.ensures) in
    let item = is_item (now c.args.self.now) (now c.loop-i.self) c.args.from c.loop-i.i c.get-term.result c.index-in-loop-i.result.now c.loop-i.invariant.more c.requires.from_in c.index-in-loop-i.ensures c.get-term.ensures in
    record {
      more = ListsMore-trans _ _ _ c.loop-i.invariant.more c.in_ok-list_member.ensures.more;
      listed = listed_more (IsMemberListed (now c.loop-i.self)) (IsMemberListed (now c.list_member.new.self)) list c.loop-i.i c.get-term.result within item
          (λ t h. IsMemberListed-more (now c.loop-i.self) (now c.list_member.new.self) t c.in_ok-list_member.ensures.more h) c.loop-i.invariant.listed c.in_ok-list_member.ensures.listed;
      history = history_trans _ _ _ c.loop-i.invariant.history c.in_ok-list_member.ensures.history;
    }

pub returns-clause-listed : goal.returns-clause-listed
returns-clause-listed c =
    let list = list_at c.args.self.now.parts.members.items c.args.from in
    listed_all (IsMemberListed (now c.loop-i.self)) list c.loop-i.i (omega (arith, count_at c.args.self.now.parts.members.items c.args.from c.len-count.result c.index.result.now c.requires.from_in c.index.ensures c.len-count.ensures)) c.loop-i.invariant.listed
