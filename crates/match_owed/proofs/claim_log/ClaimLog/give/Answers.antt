use Rattle.std.proofs.Common.{◌≡◌, ◌∙◌, ◌++◌, ◌∷◌, [], ◌+◌, ℕ, List, Some, length, true, ap, sym, subst, arith, vec_capacity}
use Rattle.indexmap.specs.IndexMap.{Updates}
use Rattle.match_owed.specs.declared.event.Event.{Event}
use Rattle.match_owed.specs.declared.noted.Noted.{Noted}
use Rattle.match_owed.specs.declared.claim_key.ClaimKey.{ClaimKey}
use Rattle.match_owed.specs.LogInside.{IsKept, gives_at, is_same, key_of, last_place, log_of}
use Rattle.match_owed.proofs.LogLemmas.{some_owed}
use Rattle.match_owed.proofs.KeptLemmas.{bit, kept_push}
use Rattle.match_owed.proofs.claim_log.ClaimLog.give.Goals as goal

pub recounted-self-inside-requires-clause-leaves : goal.recounted-self-inside-requires-clause-leaves
recounted-self-inside-requires-clause-leaves c h =
    let log = log_of c.self.inside.notes.items in
    let lt = some_owed log c.args.claim (ap (gives_at log) (ap (λ (l : List Event). last_place l (key_of c.args.claim)) c.self.view_is ∙ sym c.last_of-before.ensures) ∙ ap (λ (l : List Event). gives_at l c.last_of-before.result) c.self.view_is ∙ sym c.gives-was_owed.ensures ∙ h) in
    omega (arith, lt, c.self.invariant.count)

pub invariant_of-self-2 : goal.invariant_of-self-2
invariant_of-self-2 c =
    let notes = c.self.inside.notes.items in
    let log = log_of notes in
    let noted : Noted = record { event = record { claim = c.args.claim; gives = true }; before = c.last_of-before.result } in
    let is : c.push_reserved.new.self.items ≡ notes ++ noted ∷ [] = c.push_reserved.ensures.items ∙ ap (λ (xs : List Noted). xs ++ noted ∷ []) c.in_ok-reserve.ensures.items in
    let place : c.len.result ≡ length notes = omega (arith, c.len.ensures, c.in_ok-reserve.ensures.len, c.self.inside.notes.ok.0) in
    let updates = subst (λ (k : ClaimKey). Updates is_same c.self.inside.last c.insert.new.self k (Some (length notes))) c.key_from.ensures
    (subst (λ (n : ℕ). Updates is_same c.self.inside.last c.insert.new.self c.key_from.result (Some n)) place c.in_ok-insert.ensures.updates) in
    let was : bit c.gives-was_owed.result ≡ bit (gives_at log c.last_of-before.result) = ap bit (c.gives-was_owed.ensures ∙ ap (λ (l : List Event). gives_at l c.last_of-before.result) (sym c.self.view_is)) in
    let counts = c.recounted-self-inside.ensures in
    let cap : vec_capacity c.push_reserved.new.self ≡ vec_capacity c.reserve.new.self = c.push_reserved.ensures.capacity in
    subst (λ (xs : List Noted). IsKept xs c.insert.new.self c.recounted-self-inside.result (vec_capacity c.push_reserved.new.self)) (sym is)
    (kept_push notes noted c.self.inside.last c.insert.new.self c.self.inside.owed c.recounted-self-inside.result (vec_capacity c.self.inside.notes) (vec_capacity c.push_reserved.new.self)
    (c.last_of-before.ensures ∙ ap (λ (l : List Event). last_place l (key_of c.args.claim)) (sym c.self.view_is)) updates
    (omega (arith, counts, was)) (omega (arith, counts, cap, c.in_ok-reserve.ensures.ok, c.in_ok-reserve.ensures.len, c.self.inside.notes.ok.0)) c.self.invariant)
