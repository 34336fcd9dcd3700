use Rattle.std.proofs.Common.{◌≡◌, ℕ, List, subst}
use Rattle.match_store.specs.KeySet.{GainsKeys, lists_of}
use Rattle.match_store.proofs.KeySetLemmas.{gains_key}
use Rattle.match_store.proofs.key_set.KeySet.put.Goals as goal

pub returns : goal.returns
returns c =
    subst (λ (old : List (List ℕ)). GainsKeys (λ other. c.args.key.items ≡ other) old (lists_of c.insert.new.self.keys)) c.self.view_is
    (gains_key c.self.inside.keys.keys c.insert.new.self.keys c.args.key c.in_ok-insert.ensures.keys)
