use Rattle.std.proofs.Common.{◌≡◌, ◌++◌, ◌∷◌, [], ap, sym, ◌∙◌, subst, ℕ, arith, Some, None, List, length, Option}
use Rattle.graph_terms.specs.declared.term_row.TermRow.{TermRow}
use Rattle.graph_classes.specs.Closure.{signature, found}
use Rattle.graph_classes.specs.State.{State}
use Rattle.graph_classes.specs.History.{now}
use Rattle.graph_classes.specs.Indexed.{IsSignable, IsClosing}
use Rattle.graph_classes.proofs.SigningLemmas.{on_ok, EndsBelow-push, found_in, IsClosing-found, IsClosing-new, IsSignable-new}
use Rattle.graph_classes.proofs.classes.Classes.sign.Goals as goal

found_is : (table : List (List ℕ × ℕ)) (labels ls key k : List ℕ) (row : TermRow) (r o : Option ℕ) → r ≡ found table k → r ≡ o → k ≡ key → key ≡ signature ls row → ls ≡ labels → found table (signature labels row) ≡ o
found_is table labels ls key k row r o find is same_key is_key same_labels = ap (λ l. found table (signature l row)) (sym same_labels) ∙ ap (found table) (sym is_key ∙ sym same_key) ∙ sym find ∙ is

pub signature-requires : goal.signature-requires
signature-requires c x contains =
    let is_row = c.row-row.ensures in
    let below = c.requires.signable.args_in c.args.term c.row-row.result.now x is_row contains in
    omega (arith, c.requires.signable.labels_len, ap length c.as_slice.ensures.value)

pub returns-in_ok-push-in-Some-clause-pending_in : goal.returns-in_ok-push-in-Some-clause-pending_in
returns-in_ok-push-in-Some-clause-pending_in c =
    let is_row = c.row-row.ensures in
    let is_found = found_is c.args.self.now.parts.table c.args.self.now.parts.labels.items _ _ _ c.row-row.result.now _ (Some c.in-Some.same) c.find.ensures c.in-Some.is c.as_slice-2.ensures.value c.in_ok-key.ensures c.as_slice.ensures.value in
    let new = c.in_ok-push-in-Some.ensures.items in
    rw new (EndsBelow-push _ c.args.pending.now.items c.args.term c.in-Some.same c.requires.pending_in c.requires.term_in (found_in (now c.args.self.now) c.args.pending.now.items c.args.term c.row-row.result.now c.requires.signable is_row c.in-Some.same is_found))

pub returns-in_ok-push-in-Some-clause-closing : goal.returns-in_ok-push-in-Some-clause-closing
returns-in_ok-push-in-Some-clause-closing c =
    let is_row = c.row-row.ensures in
    let is_found = found_is c.args.self.now.parts.table c.args.self.now.parts.labels.items _ _ _ c.row-row.result.now _ (Some c.in-Some.same) c.find.ensures c.in-Some.is c.as_slice-2.ensures.value c.in_ok-key.ensures c.as_slice.ensures.value in
    let new = c.in_ok-push-in-Some.ensures.items in
    rw new (IsClosing-found (now c.args.self.now) c.args.pending.now.items c.args.term c.row-row.result.now c.requires.signable is_row c.in-Some.same is_found)

pub returns-in-None-clause-signable : goal.returns-in-None-clause-signable
returns-in-None-clause-signable c =
    let is_row = c.row-row.ensures in
    let is_key = c.in_ok-key.ensures ∙ ap (λ l. signature l c.row-row.result.now) c.as_slice.ensures.value in
    on_ok c.enter_signature.result (λ e.
    let P : State → Type 0 = λ s. IsSignable s in
    subst P (sym (e ∙ ap (λ k. record (now c.args.self.now) { table = c.args.self.now.parts.table ++ (k, c.args.term) ∷ [] }) is_key))
    (IsSignable-new (now c.args.self.now) c.args.pending.now.items c.args.term c.row-row.result.now c.requires.signable is_row c.requires.term_in)) c.enter_signature.ensures.ok

pub returns-in-None-clause-closing : goal.returns-in-None-clause-closing
returns-in-None-clause-closing c =
    let is_row = c.row-row.ensures in
    let is_key = c.in_ok-key.ensures ∙ ap (λ l. signature l c.row-row.result.now) c.as_slice.ensures.value in
    let none = found_is c.args.self.now.parts.table c.args.self.now.parts.labels.items _ _ _ c.row-row.result.now _ None c.find.ensures c.in-None.is c.as_slice-2.ensures.value c.in_ok-key.ensures c.as_slice.ensures.value in
    on_ok c.enter_signature.result (λ e merges rest closing.
    let P : State → Type 0 = λ s. IsClosing merges s c.args.pending.now.items rest in
    subst P (sym (e ∙ ap (λ k. record (now c.args.self.now) { table = c.args.self.now.parts.table ++ (k, c.args.term) ∷ [] }) is_key))
    (IsClosing-new (now c.args.self.now) c.args.pending.now.items c.args.term c.row-row.result.now c.requires.signable is_row none merges rest closing)) c.enter_signature.ensures.ok
