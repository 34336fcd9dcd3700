use Rattle.std.proofs.Common.{ℕ, take, ap, ◌∙◌, refl}
use Rattle.search_watch.specs.Chains.{slot_at, list_at, chain_at, with_list}
use Rattle.search_watch.proofs.ChainLemmas.{cut_back}
use Rattle.search_watch.proofs.chains.Chains.join.Goals as goal

pub returns-in-Err-clause-err : goal.returns-in-Err-clause-err
returns-in-Err-clause-err c =
    let s = c.args.self.now in
    let into = slot_at s c.args.kept in
    let len = c.len-len.ensures in
    let cut = ap (λ (n : ℕ). take n (list_at c.append.new.self into)) len ∙ c.in-Err.ensures.kept in
    cut_back s c.append.new.self c.cut_list.new.self into c.len-len.result (chain_at s c.args.kept) (list_at c.append.new.self into) c.requires.kept.slot_stands refl c.in-Err.ensures.front cut
    (c.cut_list.ensures ∙ ap (λ (slot : ℕ). with_list c.append.new.self slot (take c.len-len.result (list_at c.append.new.self slot))) c.slot-into.ensures)
