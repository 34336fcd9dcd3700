use Rattle.std.proofs.Common.{◌≡◌, ◌-◌, ℕ, List, [], ◌∷◌, ◌++◌, length, take, Option, Some, None, nat_eq, cond, refl, sym, ◌∙◌, ap, arith, option_to_list, ◌<◌, IsSome}
use Rattle.std.proofs.lemmas.Grind.{common_steps}
use Rattle.std.specs.declared.alloc.Global.{Global}
use Rattle.std.specs.declared.vec.Vec.{Vec}
use Rattle.std.specs.Cmp.Lexicographic.{pointwise}
use Rattle.std.specs.Map.{lookup}
use Rattle.graph_classes.specs.Table.{shown_entries, found}

pub lookup_shown : (key : List ℕ) (entries : List (Vec ℕ Global × ℕ)) → lookup (λ (k : Vec ℕ Global). pointwise nat_eq key k.items) entries ≡ found (shown_entries entries) key
lookup_shown key [] = refl
lookup_shown key (entry ∷ entries) = ap (cond (pointwise nat_eq key entry.0.items) (Some entry.1)) (lookup_shown key entries)

pub shown-append : (entries more : List (Vec ℕ Global × ℕ)) → shown_entries (entries ++ more) ≡ shown_entries entries ++ shown_entries more
shown-append [] more = refl
shown-append (entry ∷ entries) more = ap (λ es. (entry.0.items, entry.1) ∷ es) (shown-append entries more)

pub take_all_but_last : {A : Type 0} (xs : List A) (x : A) → take (length (xs ++ x ∷ []) - 1) (xs ++ x ∷ []) ≡ xs
take_all_but_last xs x = grind (arith, common_steps)

empty_shorter : (old new : List (Vec ℕ Global × ℕ)) → old ≡ new ++ [] → (0 < length old → ⊥) → shown_entries new ≡ take (length (shown_entries old) - 1) (shown_entries old)
empty_shorter old [] split empty = rw split refl
empty_shorter old (entry ∷ new) split empty = absurd (empty (rw split (omega arith)))

-- what stands without the last entry, if there was one
pub shown_shorter : (old new : List (Vec ℕ Global × ℕ)) (last : Option (Vec ℕ Global × ℕ)) → old ≡ new ++ option_to_list last → (0 < length old → IsSome last) → shown_entries new ≡ take (length (shown_entries old) - 1) (shown_entries old)
shown_shorter old new None split found = empty_shorter old new split (λ h. let no_entry = found h in cc)
shown_shorter old new (Some entry) split found =
    let shown : shown_entries old ≡ shown_entries new ++ (entry.0.items, entry.1) ∷ [] = ap shown_entries split ∙ shown-append new (entry ∷ []) in
    rw shown (sym (take_all_but_last (shown_entries new) (entry.0.items, entry.1)))
