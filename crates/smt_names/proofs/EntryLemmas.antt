-- Entries that are found by their names.
use Rattle.std.proofs.Common.{◌≡◌, ℕ, zero, suc, ◌+◌, Bool, true, false, cond, nat_eq, List, [], ◌∷◌, map, position, Option, Some, None, Vec, refl, sym, ap, ◌∙◌, arith}
use Rattle.std.specs.declared.alloc.Global.{Global}
use Rattle.std.specs.Map.{keys_of, lookup}
use Rattle.std.specs.List.{position_from}
use Rattle.std.specs.Option.{option_map}
use Rattle.std.specs.Cmp.Lexicographic.{pointwise}
use Rattle.std.proofs.lemmas.Iterator.Adapters.{position_from-zero}
use Rattle.std.proofs.lemmas.Option.{none-some}
use Rattle.smt_names.specs.Entries.{place_of}

cond_none : {X : Type 0} (b : Bool) (x : X) (o : Option X) → cond b (Some x) o ≡ None → (b ≡ false) × (o ≡ None)
cond_none true x o h = absurd (none-some x (sym h))
cond_none false x o h = (refl, h)

-- where no key passes, nothing is found
lookup_none : {K X : Type 0} (test : K → Bool) (entries : List (K × X)) (j : ℕ) → position_from test j (keys_of entries) ≡ None → lookup test entries ≡ None
lookup_none test [] j none = refl
lookup_none test (e ∷ entries) j none =
    let p = cond_none (test e.0) j (position_from test (j + 1) (keys_of entries)) none in
    ap (λ b. cond b (Some e.1) (lookup test entries)) p.0 ∙ lookup_none test entries (j + 1) p.1

-- the place of what passes, among what is made of the items
pub position_mapped : {A B : Type 0} (f : A → B) (test : B → Bool) (xs : List A) (j : ℕ) → position_from test j (map f xs) ≡ position_from (λ x. test (f x)) j xs
position_mapped f test [] j = refl
position_mapped f test (x ∷ xs) j = ap (cond (test (f x)) (Some j)) (position_mapped f test xs (j + 1))

abbrev pub has_name : List ℕ → Vec ℕ Global → Bool
has_name name key = pointwise nat_eq name key.items

module _ {X : Type 0} (name : List ℕ) where
  by_key : (entries : List (Vec ℕ Global × X)) (j : ℕ) → position_from (λ (e : Vec ℕ Global × X). has_name name e.0) j entries ≡ position_from (has_name name) j (keys_of entries)
  by_key [] j = refl
  by_key (e ∷ entries) j = ap (cond (has_name name e.0) (Some j)) (by_key entries (j + 1))

  -- an entry is found where its key is
  pub place : (entries : List (Vec ℕ Global × X)) → place_of name entries ≡ position (has_name name) (keys_of entries)
  place entries = by_key entries 0 ∙ sym (position_from-zero (has_name name) (keys_of entries))

  -- no entry, no key
  pub missed : (entries : List (Vec ℕ Global × X)) → place_of name entries ≡ None → lookup (has_name name) entries ≡ None
  missed entries none = lookup_none (has_name name) entries 0 (sym (by_key entries 0) ∙ none)
