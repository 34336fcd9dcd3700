-- Sets of keys, by their numbers.
use Rattle.std.proofs.Common.{◌≡◌, ℕ, Bool, true, false, inl, ⊎_elim, if◌then◌else◌, nat_eq, List, [], ◌∷◌, ◌++◌, Contains, Vec, refl, sym, ap, subst, ◌∙◌}
use Rattle.std.specs.declared.alloc.Global.{Global}
use Rattle.std.specs.List.{list_any}
use Rattle.std.specs.Cmp.Lexicographic.{pointwise, bytes_decides}
use Rattle.std.proofs.lemmas.List.{map-append}
use Rattle.std.proofs.lemmas.List.Elements.{Contains-append_left, Contains-push, Contains-push_cases}
use Rattle.std.proofs.lemmas.List.Folds.{Any-from_list_any, list_any-from_Any}
use Rattle.indexmap.specs.IndexSet.{insert_key}
use Rattle.match_store.specs.KeySet.{GainsKeys, lists_of}
use Rattle.match_store.proofs.ListLemmas.{Contains-map, Contains-from_map}

-- whether a key has these numbers
abbrev pub has_numbers : List ℕ → Vec ℕ Global → Bool
has_numbers key other = pointwise nat_eq key other.items

-- a key that is found is in the set
pub found_in : (key : List ℕ) (keys : List (Vec ℕ Global)) → list_any (has_numbers key) keys ≡ true → Contains (lists_of keys) key
found_in key keys is =
    let any = Any-from_list_any (has_numbers key) keys is in
    subst (Contains (lists_of keys)) (sym ((bytes_decides key any.1.items).0 any.4)) (Contains-map (λ (v : Vec ℕ Global). v.items) keys any.1 (any.0, any.2, any.3))

-- and one that is in the set is found
pub in_found : (key : List ℕ) (keys : List (Vec ℕ Global)) → Contains (lists_of keys) key → list_any (has_numbers key) keys ≡ true
in_found key keys c =
    let from = Contains-from_map (λ (v : Vec ℕ Global). v.items) keys key c in
    list_any-from_Any (has_numbers key) keys (from.1.0, from.0, from.1.1, from.1.2, (bytes_decides key from.0.items).1 (sym from.2))

-- whether the key was new or not, the set has it, and the others that it had
pub gains_key : (keys keys' : List (Vec ℕ Global)) (key : Vec ℕ Global) → keys' ≡ insert_key (λ a b. has_numbers a.items b) keys key → GainsKeys (λ other. key.items ≡ other) (lists_of keys) (lists_of keys')
gains_key keys keys' key inserted = by (list_any (has_numbers key.items) keys) refl
  where
    by : (b : Bool) → list_any (has_numbers key.items) keys ≡ b → GainsKeys (λ other. key.items ≡ other) (lists_of keys) (lists_of keys')
    by true is =
        let stay : keys' ≡ keys = inserted ∙ ap (λ c. if c then keys else keys ++ key ∷ []) is in
        subst (λ (ks : List (Vec ℕ Global)). GainsKeys (λ other. key.items ≡ other) (lists_of keys) (lists_of ks)) (sym stay)
        (λ other. (inl, λ either. ⊎_elim (λ c. c) (λ e. subst (Contains (lists_of keys)) e (found_in key.items keys is)) either))
    by false is =
        let grew : keys' ≡ keys ++ key ∷ [] = inserted ∙ ap (λ c. if c then keys else keys ++ key ∷ []) is in
        let lists : lists_of keys' ≡ lists_of keys ++ key.items ∷ [] = ap lists_of grew ∙ map-append (λ (v : Vec ℕ Global). v.items) keys (key ∷ []) in
        subst (λ (ks : List (List ℕ)). GainsKeys (λ other. key.items ≡ other) (lists_of keys) ks) (sym lists)
        (λ other. (
          λ c. Contains-push_cases (lists_of keys) key.items other c,
          λ either. ⊎_elim (λ c. Contains-append_left (lists_of keys) (key.items ∷ []) other c) (λ e. subst (Contains (lists_of keys ++ key.items ∷ [])) e (Contains-push (lists_of keys) key.items)) either,
        ))
