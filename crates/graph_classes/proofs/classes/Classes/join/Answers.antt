use Rattle.std.proofs.Common.{◌≡◌, ap, sym, ◌∙◌, subst, length, List, ℕ, Contains, OnOk, []}
use Rattle.graph_classes.specs.State.{State}
use Rattle.graph_classes.specs.History.{now}
use Rattle.graph_classes.specs.Indexed.{IsRelabelled}
use Rattle.graph_classes.proofs.SigningLemmas.{on_ok, on_both}
use Rattle.graph_classes.proofs.StandingLemmas.{with_others, IsIndexed-others, IsClosing-others}
use Rattle.graph_classes.proofs.JoinedListsLemmas.{IsListed-joined}
use Rattle.graph_classes.proofs.classes.Classes.join.Goals as goal

pub list_class-requires-clause-members_in : goal.list_class-requires-clause-members_in
list_class-requires-clause-members_in c t h =
    let P : List ℕ → Type 0 = λ ts. Contains ts t in
    rw c.in_ok-move_class.ensures.rows (c.requires.indexed.member_in c.args.from t c.requires.from_in c.requires.from_own (subst P c.in_ok-move_class.ensures.members h)).0

pub list_class-requires-clause-uses_in : goal.list_class-requires-clause-uses_in
list_class-requires-clause-uses_in c t h =
    let P : List ℕ → Type 0 = λ ts. Contains ts t in
    rw c.in_ok-move_class.ensures.rows (c.requires.indexed.use_in c.args.from t c.requires.from_in c.requires.from_own (subst P c.in_ok-move_class.ensures.uses h))

leaders_len : (c : goal.After-lead-arg-1) → length c.list_class.new.self.parts.leaders.items ≡ length c.args.self.now.parts.rows.rows
leaders_len c = ap (λ (s : State). length s.leaders) c.in_ok-list_class.ensures.more.alone ∙ ap length c.in_ok-move_class.ensures.leaders ∙ c.requires.listed.leaders.each ∙ c.requires.indexed.labels_len

pub lead-requires-clause-from_in : goal.lead-requires-clause-from_in
lead-requires-clause-from_in c = rw (leaders_len c) c.requires.from_in

pub lead-requires-clause-into_in : goal.lead-requires-clause-into_in
lead-requires-clause-into_in c = rw (leaders_len c) c.requires.into_in

-- only leaders and lists changed since the classes were moved
others : (c : goal.After-lead) → OnOk c.lead.result (now c.lead.new.self ≡ with_others (now c.move_class.new.self) (now c.lead.new.self).leaders (now c.list_class.new.self).lists (now c.move_class.new.self).log)
others c = on_ok c.lead.result (λ alone. alone ∙ ap (λ (s : State). record s { leaders = (now c.lead.new.self).leaders }) c.in_ok-list_class.ensures.more.alone) c.lead.ensures.alone

pub returns-clause-rows : goal.returns-clause-rows
returns-clause-rows c = on_ok c.lead.result (λ e. ap (λ (s : State). s.rows) e ∙ c.in_ok-move_class.ensures.rows) (others c)

pub returns-clause-log : goal.returns-clause-log
returns-clause-log c = on_ok c.lead.result (λ e. ap (λ (s : State). s.log) e ∙ c.in_ok-move_class.ensures.log) (others c)

pub returns-clause-limit : goal.returns-clause-limit
returns-clause-limit c = on_ok c.lead.result (λ e. ap (λ (s : State). s.limit) e ∙ c.in_ok-move_class.ensures.limit) (others c)

pub returns-clause-relabelled : goal.returns-clause-relabelled
returns-clause-relabelled c =
    let P : List ℕ → Type 0 = λ ls. IsRelabelled c.args.self.now.parts.labels.items ls c.args.from c.args.into in
    on_ok c.lead.result (λ e. subst P (sym (ap (λ (s : State). s.labels) e)) c.in_ok-move_class.ensures.relabelled) (others c)

pub returns-clause-indexed : goal.returns-clause-indexed
returns-clause-indexed c = on_ok c.lead.result (λ e. IsIndexed-others (now c.move_class.new.self) (now c.lead.new.self) _ _ _ e c.in_ok-move_class.ensures.indexed) (others c)

pub returns-clause-listed : goal.returns-clause-listed
returns-clause-listed c = on_ok c.lead.result
    (λ h. IsListed-joined (now c.args.self.now) (now c.move_class.new.self) (now c.list_class.new.self) (now c.lead.new.self) c.args.from c.args.into c.requires.indexed c.requires.listed c.requires.from_in c.requires.into_in c.requires.from_own c.requires.into_own c.requires.apart
    c.in_ok-move_class.ensures.relabelled c.in_ok-move_class.ensures.rows c.in_ok-move_class.ensures.members c.in_ok-move_class.ensures.uses c.in_ok-move_class.ensures.leaders c.in_ok-move_class.ensures.lists
    c.in_ok-list_class.ensures.more c.in_ok-list_class.ensures.members c.in_ok-list_class.ensures.uses h.0 h.1)
    (on_both _ _ c.lead.result c.lead.ensures.alone c.lead.ensures.led)

pub returns-clause-closing : goal.returns-clause-closing
returns-clause-closing c = on_ok c.lead.result (λ e merges a b ha hb between closing.
    IsClosing-others merges c.move_class.new.pending.items [] (now c.move_class.new.self) (now c.lead.new.self) _ _ _ e (c.in_ok-move_class.ensures.closing merges a b ha hb between closing)) (others c)
