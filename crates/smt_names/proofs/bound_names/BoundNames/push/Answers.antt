use Rattle.std.proofs.Common.{◌≡◌, ℕ, List, reverse, length, set, get_or, Option, Some, None, sym, ap, subst, ◌∙◌}
use Rattle.std.proofs.lemmas.List.{length-reverse}
use Rattle.smt_names.specs.declared.linked.Linked.{Linked}
use Rattle.smt_names.specs.DistinctNames.{place_in}
use Rattle.smt_names.specs.BoundInside.{AreLinked, last_place}
use Rattle.smt_names.proofs.BoundLemmas.{linked_kept, last_pushed, reverse_push}
use Rattle.smt_names.proofs.bound_names.BoundNames.push.Goals as goal

pub invariant_of-self : goal.invariant_of-self
invariant_of-self c = record {
  linked = linked_kept c.self.inside.names c.number_of.new.names (reverse c.self.inside.items.items) c.number_of.ensures.kept c.self.invariant.linked;
  last = c.self.invariant.last;
}

pub invariant_of-self-in_err-make_room : goal.invariant_of-self-in_err-make_room
invariant_of-self-in_err-make_room c = record {
  linked = linked_kept c.self.inside.names c.number_of.new.names (reverse c.self.inside.items.items) c.number_of.ensures.kept c.self.invariant.linked;
  last = λ n. c.make_room.ensures.same n ∙ c.self.invariant.last n;
}

pub invariant_of-self-in_err-name : goal.invariant_of-self-in_err-name
invariant_of-self-in_err-name c = record {
  linked = linked_kept c.self.inside.names c.number_of.new.names (reverse c.self.inside.items.items) c.number_of.ensures.kept c.self.invariant.linked;
  last = λ n. c.make_room.ensures.same n ∙ c.self.invariant.last n;
}

pub invariant_of-self-in_err-push : goal.invariant_of-self-in_err-push
invariant_of-self-in_err-push c = record {
  linked = subst (λ (items : List Linked). AreLinked c.number_of.new.names (reverse items)) (sym c.in_err-push.ensures.items)
      (linked_kept c.self.inside.names c.number_of.new.names (reverse c.self.inside.items.items) c.number_of.ensures.kept c.self.invariant.linked);
  last = λ n. c.make_room.ensures.same n ∙ c.self.invariant.last n ∙ ap (λ (items : List Linked). last_place n (reverse items)) (sym c.in_err-push.ensures.items);
}

pub invariant_of-self-2 : goal.invariant_of-self-2
invariant_of-self-2 c =
    let items = c.self.inside.items.items in
    let item : Linked = record { bound = record { name = c.in_ok-name.name; stands = c.args.stands }; number = c.in_ok-number.number; earlier = c.last_of-earlier.result } in
    let names = c.number_of.new.names in
    let grown = ap reverse c.in_ok-push.ensures.items ∙ reverse_push items item in
    let was : (n : ℕ) → get_or c.make_room.new.last.items n None ≡ last_place n (reverse items) = λ n. c.make_room.ensures.same n ∙ c.self.invariant.last n in
    let place : c.len-place.result ≡ length (reverse items) = c.len-place.ensures ∙ c.self.inside.items.ok.0 ∙ sym (length-reverse items) in
    record {
      linked = subst (AreLinked names) (sym grown) (
        ap (place_in names) c.in_ok-name.ensures ∙ c.in_ok-number.ensures.found,
        c.last_of-earlier.ensures ∙ ap (λ (last : List (Option ℕ)). get_or last c.in_ok-number.number None) c.as_slice.ensures.value ∙ was c.in_ok-number.number,
        linked_kept c.self.inside.names names (reverse items) c.number_of.ensures.kept c.self.invariant.linked,
      );
      last = λ n. last_pushed c.make_room.new.last.items c.put_last.new.last.items item (reverse items) was c.in_ok-make_room.ensures.room
          (c.put_last.ensures ∙ ap (λ (k : ℕ). set c.make_room.new.last.items c.in_ok-number.number (Some k)) place) n
          ∙ ap (last_place n) (sym grown);
    }
