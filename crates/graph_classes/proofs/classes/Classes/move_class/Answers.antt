use Rattle.std.proofs.Common.{ap, sym, ◌∙◌, subst, length, List, ℕ, Contains, arith, slice_set, ◌++◌}
use Rattle.graph_classes.specs.State.{State, list_at}
use Rattle.graph_classes.specs.History.{now}
use Rattle.graph_classes.specs.Indexed.{IsSignable, IsRelabelled, IsClosing}
use Rattle.graph_meaning.specs.Lawful.{EndsBelow}
use Rattle.graph_classes.proofs.MoveLemmas.{list_at-other}
use Rattle.graph_classes.proofs.JoinLemmas.{IsRelabelled-written, IsIndexed-joined, IsClosing-moved, IsSignable-moved}
use Rattle.graph_classes.proofs.classes.Classes.move_class.Goals as goal

pub relabel-requires-clause-members_in : goal.relabel-requires-clause-members_in
relabel-requires-clause-members_in c t contains =
    let within = (c.requires.indexed.member_in c.args.from t c.requires.from_in c.requires.from_own contains).0 in
    omega (arith, c.requires.indexed.labels_len)

pub sign_uses-requires-clause-signable : goal.sign_uses-requires-clause-signable
sign_uses-requires-clause-signable c =
    let P : State → Type 0 = λ s. IsSignable s in
    subst P (sym c.in_ok-relabel.ensures.ok) (IsSignable-moved (now c.args.self.now) _ c.args.into c.requires.indexed)

pub sign_uses-requires-clause-uses_in : goal.sign_uses-requires-clause-uses_in
sign_uses-requires-clause-uses_in c u contains =
    let rows = ap (λ (s : State). s.rows) c.in_ok-relabel.ensures.ok in
    let uses = ap (λ (s : State). s.uses) c.in_ok-relabel.ensures.ok in
    let P : List (List ℕ) → Type 0 = λ us. Contains (list_at us c.args.from) u in
    rw rows (c.requires.indexed.use_in c.args.from u c.requires.from_in c.requires.from_own (subst P uses contains))

pub sign_uses-requires-clause-pending_in : goal.sign_uses-requires-clause-pending_in
sign_uses-requires-clause-pending_in c = let rows = ap (λ (s : State). s.rows) c.in_ok-relabel.ensures.ok in rw rows c.requires.pending_in

relabelled : (c : goal.In_ok-sign_uses) → IsRelabelled c.args.self.now.parts.labels.items c.sign_uses.new.self.parts.labels.items c.args.from c.args.into
relabelled c =
    let P : List ℕ → Type 0 = λ ls. IsRelabelled c.args.self.now.parts.labels.items ls c.args.from c.args.into in
    subst P (sym (c.in_ok-sign_uses.ensures.moved.labels ∙ ap (λ (s : State). s.labels) c.in_ok-relabel.ensures.ok))
    (IsRelabelled-written (now c.args.self.now) c.args.from c.args.into c.requires.indexed c.requires.from_in c.requires.into_in c.requires.from_own c.requires.into_own c.requires.apart)

pub returns-clause-relabelled : goal.returns-clause-relabelled
returns-clause-relabelled c = relabelled c

pub returns-clause-indexed : goal.returns-clause-indexed
returns-clause-indexed c =
    IsIndexed-joined (now c.args.self.now) c.args.from c.args.into c.requires.indexed c.requires.from_in c.requires.into_in c.requires.from_own c.requires.into_own c.requires.apart
    (now c.sign_uses.new.self) (c.in_ok-sign_uses.ensures.moved.rows ∙ ap (λ (s : State). s.rows) c.in_ok-relabel.ensures.ok) (relabelled c) c.in_ok-sign_uses.ensures.moved.signable
    (c.in_ok-sign_uses.ensures.moved.members ∙ ap (λ (s : State). s.members) c.in_ok-relabel.ensures.ok)
    (c.in_ok-sign_uses.ensures.moved.uses ∙ ap (λ us. slice_set us c.args.into (list_at us c.args.into ++ list_at us c.args.from)) (ap (λ (s : State). s.uses) c.in_ok-relabel.ensures.ok))

pub returns-clause-pending_in : goal.returns-clause-pending_in
returns-clause-pending_in c =
    let rows = ap (λ (s : State). s.rows) c.in_ok-relabel.ensures.ok in
    let P : ℕ → Type 0 = λ n. EndsBelow c.sign_uses.new.pending.items n in
    subst P (ap length rows) c.in_ok-sign_uses.ensures.pending_in

pub returns-clause-closing : goal.returns-clause-closing
returns-clause-closing c merges a b ha hb between closing =
    let P : State → Type 0 = λ s. IsClosing merges s c.args.pending.now.items (list_at c.args.self.now.parts.uses.items c.args.from) in
    let here = subst P (sym c.in_ok-relabel.ensures.ok)
    (IsClosing-moved (now c.args.self.now) c.args.from c.args.into c.requires.indexed c.requires.from_in c.requires.into_in c.requires.from_own c.requires.into_own c.requires.apart merges c.args.pending.now.items a b ha hb between closing) in
    let Q : List (List ℕ) → Type 0 = λ us. IsClosing merges (now c.relabel.new.self) c.args.pending.now.items (list_at us c.args.from) in
    c.in_ok-sign_uses.ensures.closing merges (subst Q (sym (ap (λ (s : State). s.uses) c.in_ok-relabel.ensures.ok)) here)

pub returns-clause-log : goal.returns-clause-log
returns-clause-log c = c.in_ok-sign_uses.ensures.moved.log ∙ ap (λ (s : State). s.log) c.in_ok-relabel.ensures.ok

pub returns-clause-limit : goal.returns-clause-limit
returns-clause-limit c = c.in_ok-sign_uses.ensures.moved.limit ∙ ap (λ (s : State). s.limit) c.in_ok-relabel.ensures.ok

pub returns-clause-leaders : goal.returns-clause-leaders
returns-clause-leaders c = c.in_ok-sign_uses.ensures.moved.leaders ∙ ap (λ (s : State). s.leaders) c.in_ok-relabel.ensures.ok

pub returns-clause-lists : goal.returns-clause-lists
returns-clause-lists c = c.in_ok-sign_uses.ensures.moved.lists ∙ ap (λ (s : State). s.lists) c.in_ok-relabel.ensures.ok

pub returns-clause-members : goal.returns-clause-members
returns-clause-members c =
    ap (λ ls. list_at ls c.args.from) (c.in_ok-sign_uses.ensures.moved.members ∙ ap (λ (s : State). s.members) c.in_ok-relabel.ensures.ok)
    ∙ list_at-other c.args.self.now.parts.members.items c.args.into c.args.from (list_at c.args.self.now.parts.members.items c.args.into ++ list_at c.args.self.now.parts.members.items c.args.from) c.requires.apart

pub returns-clause-uses : goal.returns-clause-uses
returns-clause-uses c =
    let uses = ap (λ (s : State). s.uses) c.in_ok-relabel.ensures.ok in
    ap (λ ls. list_at ls c.args.from) c.in_ok-sign_uses.ensures.moved.uses
    ∙ list_at-other c.relabel.new.self.parts.uses.items c.args.into c.args.from (list_at c.relabel.new.self.parts.uses.items c.args.into ++ list_at c.relabel.new.self.parts.uses.items c.args.from) c.requires.apart
    ∙ ap (λ ls. list_at ls c.args.from) uses
