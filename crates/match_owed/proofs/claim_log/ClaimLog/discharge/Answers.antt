use Rattle.std.proofs.Common.{◌≡◌, ◌<◌, ◌∙◌, ◌++◌, ◌∷◌, [], ◌-◌, ℕ, List, Some, length, false, is_some, ap, sym, subst, arith, vec_capacity}
use Rattle.indexmap.specs.IndexMap.{ContainsKey, Updates}
use Rattle.match_owed.specs.declared.event.Event.{Event}
use Rattle.match_owed.specs.declared.noted.Noted.{Noted}
use Rattle.match_owed.specs.declared.claim_key.ClaimKey.{ClaimKey}
use Rattle.match_owed.specs.LogInside.{IsKept, gives_at, is_same, key_of, last_place, log_of}
use Rattle.match_owed.specs.OwedLog.{Owes}
use Rattle.match_owed.proofs.LogLemmas.{gift_last, owes_gift, owes_true, some_owed}
use Rattle.match_owed.proofs.KeptLemmas.{bit, kept_push}
use Rattle.match_owed.proofs.claim_log.ClaimLog.discharge.Goals as goal

pub put_back-requires : goal.put_back-requires
put_back-requires c =
    let log = log_of c.self.inside.notes.items in
    let owes = subst (λ (l : List Event). Owes l c.args.claim) (sym c.self.view_is) c.requires in
    let gift = owes_gift log c.args.claim owes in
    subst (λ (k : ClaimKey). ContainsKey is_same c.self.inside.last k) (sym c.key_from.ensures) (ap is_some (c.self.invariant.places (key_of c.args.claim) ∙ gift_last log c.args.claim gift.0 gift.1))

pub push_reserved-requires : goal.push_reserved-requires
push_reserved-requires c =
    let log = log_of c.self.inside.notes.items in
    let owes = subst (λ (l : List Event). Owes l c.args.claim) (sym c.self.view_is) c.requires in
    let lt = some_owed log c.args.claim (owes_true log c.args.claim owes) in
    omega (arith, lt, c.self.invariant.count, c.self.invariant.room, c.self.inside.notes.ok.0)

pub overflow_sub-self : goal.overflow_sub-self
overflow_sub-self c =
    let log = log_of c.self.inside.notes.items in
    let owes = subst (λ (l : List Event). Owes l c.args.claim) (sym c.self.view_is) c.requires in
    let lt = some_owed log c.args.claim (owes_true log c.args.claim owes) in
    omega (arith, lt, c.self.invariant.count)

pub invariant_of-self : goal.invariant_of-self
invariant_of-self c =
    let notes = c.self.inside.notes.items in
    let log = log_of notes in
    let owes = subst (λ (l : List Event). Owes l c.args.claim) (sym c.self.view_is) c.requires in
    let before = c.last_of-before.ensures ∙ ap (λ (l : List Event). last_place l (key_of c.args.claim)) (sym c.self.view_is) in
    let lt = some_owed log c.args.claim (owes_true log c.args.claim owes) in
    let noted : Noted = record { event = record { claim = c.args.claim; gives = false }; before = c.last_of-before.result } in
    let place : c.len-place.result ≡ length notes = omega (arith, c.len-place.ensures, c.self.inside.notes.ok.0) in
    let updates = subst (λ (k : ClaimKey). Updates is_same c.self.inside.last c.put_back.new.last k (Some (length notes))) c.key_from.ensures
    (subst (λ (n : ℕ). Updates is_same c.self.inside.last c.put_back.new.last c.key_from.result (Some n)) place c.put_back.ensures) in
    let was : bit (gives_at log c.last_of-before.result) ≡ 1 = ap bit (ap (gives_at log) before ∙ owes_true log c.args.claim owes) in
    subst (λ (xs : List Noted). IsKept xs c.put_back.new.last (c.self.inside.owed - 1) (vec_capacity c.push_reserved.new.self)) (sym c.push_reserved.ensures.items)
    (kept_push notes noted c.self.inside.last c.put_back.new.last c.self.inside.owed (c.self.inside.owed - 1) (vec_capacity c.self.inside.notes) (vec_capacity c.push_reserved.new.self)
    before updates (omega (arith, was, lt, c.self.invariant.count)) (omega (arith, c.push_reserved.ensures.capacity, c.self.invariant.room, lt, c.self.invariant.count)) c.self.invariant)
