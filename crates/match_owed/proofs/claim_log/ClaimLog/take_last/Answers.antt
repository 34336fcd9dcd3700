use Rattle.std.proofs.Common.{◌≡◌, ◌∙◌, ◌++◌, ◌∷◌, [], ◌+◌, ◌-◌, ℕ, List, Some, slice_get, length, take, is_some, ap, ap₂, sym, subst, arith, vec_capacity}
use Rattle.indexmap.specs.IndexMap.{ContainsKey, Updates}
use Rattle.match_owed.specs.declared.event.Event.{Event}
use Rattle.match_owed.specs.declared.noted.Noted.{Noted}
use Rattle.match_owed.specs.declared.claim_key.ClaimKey.{ClaimKey}
use Rattle.match_owed.specs.LogInside.{IsKept, gives_at, is_same, key_of, log_of}
use Rattle.match_owed.proofs.KeptLemmas.{bit, kept_gives, kept_has, kept_pop, last_split, many_events, take_log}
use Rattle.match_owed.proofs.claim_log.ClaimLog.take_last.Goals as goal

pub put_back-requires : goal.put_back-requires
put_back-requires c =
    let notes = c.self.inside.notes.items in
    let noted = c.note_at-noted.result in
    let some : length notes ≡ length c.args.self.now = sym (many_events notes) ∙ ap length c.self.view_is in
    let at : slice_get notes (c.len-place.result - 1) ≡ Some noted = ap (λ (ns : List Noted). slice_get ns (c.len-place.result - 1)) (sym c.deref.ensures.value) ∙ c.note_at-noted.ensures in
    let split = last_split notes noted (c.len-place.result - 1) (omega (arith, c.requires, some, c.len-place.ensures, c.self.inside.notes.ok.0)) at in
    subst (λ (k : ClaimKey). ContainsKey is_same c.self.inside.last k) (sym c.key_from.ensures)
    (ap is_some (kept_has (take (c.len-place.result - 1) notes) noted c.self.inside.last c.self.inside.owed (vec_capacity c.self.inside.notes) (subst (λ (ns : List Noted). IsKept ns c.self.inside.last c.self.inside.owed (vec_capacity c.self.inside.notes)) (sym split) c.self.invariant)))

pub recounted-self-inside-requires-clause-leaves : goal.recounted-self-inside-requires-clause-leaves
recounted-self-inside-requires-clause-leaves c gives =
    let notes = c.self.inside.notes.items in
    let noted = c.note_at-noted.result in
    let some : length notes ≡ length c.args.self.now = sym (many_events notes) ∙ ap length c.self.view_is in
    let at : slice_get notes (c.len-place.result - 1) ≡ Some noted = ap (λ (ns : List Noted). slice_get ns (c.len-place.result - 1)) (sym c.deref.ensures.value) ∙ c.note_at-noted.ensures in
    let split = last_split notes noted (c.len-place.result - 1) (omega (arith, c.requires, some, c.len-place.ensures, c.self.inside.notes.ok.0)) at in
    kept_gives (take (c.len-place.result - 1) notes) noted c.self.inside.last c.self.inside.owed (vec_capacity c.self.inside.notes) (subst (λ (ns : List Noted). IsKept ns c.self.inside.last c.self.inside.owed (vec_capacity c.self.inside.notes)) (sym split) c.self.invariant) gives

pub invariant_of-self : goal.invariant_of-self
invariant_of-self c =
    let notes = c.self.inside.notes.items in
    let noted = c.note_at-noted.result in
    let front = take (c.len-place.result - 1) notes in
    let some : length notes ≡ length c.args.self.now = sym (many_events notes) ∙ ap length c.self.view_is in
    let at : slice_get notes (c.len-place.result - 1) ≡ Some noted = ap (λ (ns : List Noted). slice_get ns (c.len-place.result - 1)) (sym c.deref.ensures.value) ∙ c.note_at-noted.ensures in
    let split : front ++ noted ∷ [] ≡ notes = last_split notes noted (c.len-place.result - 1) (omega (arith, c.requires, some, c.len-place.ensures, c.self.inside.notes.ok.0)) at in
    let updates = subst (λ (k : ClaimKey). Updates is_same c.self.inside.last c.put_back.new.last k noted.before) c.key_from.ensures c.put_back.ensures in
    let was : bit c.gives-was_owed.result ≡ bit (gives_at (log_of (front ++ noted ∷ [])) noted.before) = ap bit (c.gives-was_owed.ensures ∙ ap (λ (l : List Event). gives_at l noted.before) (sym c.self.view_is ∙ ap log_of (sym split))) in
    let counts = c.recounted-self-inside.ensures in
    subst (λ (ns : List Noted). IsKept ns c.put_back.new.last c.recounted-self-inside.result (vec_capacity c.truncate.new.self)) (sym c.truncate.ensures.items)
    (subst (λ (n : ℕ). IsKept front c.put_back.new.last c.recounted-self-inside.result n) (sym c.truncate.ensures.capacity)
    (kept_pop front noted c.self.inside.last c.put_back.new.last c.self.inside.owed c.recounted-self-inside.result (vec_capacity c.self.inside.notes) updates (omega (arith, counts, was))
    (subst (λ (ns : List Noted). IsKept ns c.self.inside.last c.self.inside.owed (vec_capacity c.self.inside.notes)) (sym split) c.self.invariant)))

pub returns : goal.returns
returns c =
    let notes = c.self.inside.notes.items in
    let some : length notes ≡ length c.args.self.now = sym (many_events notes) ∙ ap length c.self.view_is in
    let place : c.len-place.result - 1 ≡ length c.args.self.now - 1 = omega (arith, some, c.len-place.ensures, c.self.inside.notes.ok.0) in
    ap log_of c.truncate.ensures.items ∙ take_log (c.len-place.result - 1) notes ∙ ap₂ (λ n (l : List Event). take n l) place c.self.view_is
