use Rattle.std.proofs.Common.{◌≡◌, ◌∙◌, List, Some, slice_get, ap, refl, sym, subst, arith}
use Rattle.std.specs.Option.{option_map}
use Rattle.std.proofs.lemmas.Option.{slice_get-map}
use Rattle.match_owed.specs.declared.event.Event.{Event}
use Rattle.match_owed.specs.declared.noted.Noted.{Noted}
use Rattle.match_owed.specs.LogInside.{put, passed}
use Rattle.match_owed.specs.OwedLog.{IsLastGift}
use Rattle.match_owed.proofs.LogLemmas.{given_later, not_owed}
use Rattle.match_owed.proofs.claim_log.ClaimLog.put_owed.Goals as goal

pub returns-in_ok-push : goal.returns-in_ok-push
returns-in_ok-push c = put (subst (λ p. IsLastGift c.args.self.now c.note_at.result.event.claim p) (omega (arith, c.if-last-place.true)) (c.in-Some.ensures.some c.in-Some.last refl)) c.in_ok-push.ensures.items

pub returns-else-last-place : goal.returns-else-last-place
returns-else-last-place c =
    let notes = c.self.inside.notes.items in
    let at : slice_get c.args.self.now c.args.place ≡ Some c.note_at.result.event = subst (λ (l : List Event). slice_get l c.args.place ≡ Some c.note_at.result.event) c.self.view_is (slice_get-map (λ (n : Noted). n.event) notes c.args.place ∙ ap (option_map (λ (n : Noted). n.event)) (ap (λ (ns : List Noted). slice_get ns c.args.place) (sym c.deref.ensures.value) ∙ c.note_at.ensures)) in
    passed (given_later c.args.self.now c.args.place c.note_at.result.event at c.in-Some.last (c.in-Some.ensures.some c.in-Some.last refl) (λ is. omega (arith, is, c.if-last-place.false))) refl

pub returns-in_default : goal.returns-in_default
returns-in_default c =
    let notes = c.self.inside.notes.items in
    let at : slice_get c.args.self.now c.args.place ≡ Some c.note_at.result.event = subst (λ (l : List Event). slice_get l c.args.place ≡ Some c.note_at.result.event) c.self.view_is (slice_get-map (λ (n : Noted). n.event) notes c.args.place ∙ ap (option_map (λ (n : Noted). n.event)) (ap (λ (ns : List Noted). slice_get ns c.args.place) (sym c.deref.ensures.value) ∙ c.note_at.ensures)) in
    passed (not_owed c.args.self.now c.args.place c.note_at.result.event at (c.gift.ensures.none c.in_default.is)) refl
