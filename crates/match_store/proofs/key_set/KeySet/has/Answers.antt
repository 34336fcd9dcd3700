use Rattle.std.proofs.Common.{◌≡◌, ℕ, List, Contains, sym, subst, ◌∙◌}
use Rattle.std.specs.List.{list_any}
use Rattle.match_store.proofs.KeySetLemmas.{found_in, has_numbers, in_found}
use Rattle.match_store.proofs.key_set.KeySet.has.Goals as goal

pub returns : goal.returns
returns c =
    let key = c.args.key.now in
    let keys = c.self.inside.keys.keys in
    let same : c.contains.result ≡ list_any (has_numbers key) keys = c.contains.ensures in (
      λ is. subst (λ (ks : List (List ℕ)). Contains ks key) c.self.view_is (found_in key keys (sym same ∙ is)),
      λ has. same ∙ in_found key keys (subst (λ (ks : List (List ℕ)). Contains ks key) (sym c.self.view_is) has),
    )
