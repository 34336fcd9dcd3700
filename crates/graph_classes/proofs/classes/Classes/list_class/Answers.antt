use Rattle.std.proofs.Common.{ap, sym, subst, List, ℕ, Contains}
use Rattle.graph_classes.specs.State.{State, list_at}
use Rattle.graph_classes.specs.History.{now}
use Rattle.graph_classes.proofs.SigningLemmas.{on_ok}
use Rattle.graph_classes.proofs.ListingLemmas.{ListsMore-trans, IsMemberListed-more, rows_same}
use Rattle.graph_classes.proofs.classes.Classes.list_class.Goals as goal

pub list_uses-requires-clause-uses_in : goal.list_uses-requires-clause-uses_in
list_uses-requires-clause-uses_in c t h =
    let more = c.in_ok-list_members.ensures.more in
    let P : List (List ℕ) → Type 0 = λ us. Contains (list_at us c.args.from) t in
    rw (rows_same _ _ more) (c.requires.uses_in t (subst P (ap (λ (s : State). s.uses) more.alone) h))

pub returns-clause-more : goal.returns-clause-more
returns-clause-more c = on_ok c.list_uses.result (λ more. ListsMore-trans _ _ _ c.in_ok-list_members.ensures.more more) c.list_uses.ensures.more

pub returns-clause-members : goal.returns-clause-members
returns-clause-members c = on_ok c.list_uses.result (λ more t h. IsMemberListed-more (now c.list_members.new.self) (now c.list_uses.new.self) t more (c.in_ok-list_members.ensures.listed t h)) c.list_uses.ensures.more

pub returns-clause-uses : goal.returns-clause-uses
returns-clause-uses c = on_ok c.list_uses.result (λ listed t h. let P : List (List ℕ) → Type 0 = λ us. Contains (list_at us c.args.from) t in
    listed t (subst P (sym (ap (λ (s : State). s.uses) c.in_ok-list_members.ensures.more.alone)) h)) c.list_uses.ensures.listed
