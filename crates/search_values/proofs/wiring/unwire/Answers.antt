use Rattle.std.proofs.Common.{◌≡◌, ◌<◌, ◌+◌, ◌-◌, ℕ, List, [], length, take, slice_index_or, slice_set, sym, subst, arith}
use Rattle.search_values.specs.declared.up.Up.{Up}
use Rattle.search_values.specs.WiresUps.{WiresUps}
use Rattle.search_values.proofs.WireLemmas.{all_below, get_some, some_there, wires_less}
use Rattle.search_values.proofs.wiring.unwire.Goals as goal

pub drop_up-requires-clause-stands : goal.drop_up-requires-clause-stands
drop_up-requires-clause-stands c =
    let put = c.loop-k.invariant c.requires.put.0 c.requires.put.1 c.requires.put.2 in
    let part = get_some c.args.parts.now (c.args.count - 1 - c.loop-k.k) c.get.result 0 c.get.ensures in
    let below = all_below c.args.parts.now (length c.args.ups.now.items) c.requires.stands (c.args.count - 1 - c.loop-k.k) (omega (arith, c.requires.within)) in
    omega (arith, below, part, put.len_is)

pub drop_up-requires-clause-some : goal.drop_up-requires-clause-some
drop_up-requires-clause-some c =
    let i = c.args.count - 1 - c.loop-k.k in
    let next : c.args.count - c.loop-k.k ≡ i + 1 = omega arith in
    let base = c.requires.put.0 in
    let n = c.requires.put.1 in
    let put = c.loop-k.invariant base n c.requires.put.2 in
    let part = get_some c.args.parts.now i c.get.result 0 c.get.ensures in
    let lt : i < length c.args.parts.now = omega (arith, c.requires.within) in
    let below = all_below c.args.parts.now (length c.args.ups.now.items) c.requires.stands i lt in
    some_there base (length c.args.ups.now.items) c.loop-k.ups.items c.args.parts.now n i c.get.result lt part (omega (arith, below, part, put.len_is))
    (subst (λ (k : ℕ). WiresUps base (length c.args.ups.now.items) c.loop-k.ups.items c.args.parts.now n k) next put)

pub loop-k-preserved : goal.loop-k-preserved
loop-k-preserved c = λ base n was.
    let i = c.args.count - 1 - c.loop-k.k in
    let next : c.args.count - c.loop-k.k ≡ i + 1 = omega arith in
    let after : i ≡ c.args.count - (c.loop-k.k + 1) = omega arith in
    let put = c.loop-k.invariant base n was in
    let part = get_some c.args.parts.now i c.get.result 0 c.get.ensures in
    let lt : i < length c.args.parts.now = omega (arith, c.requires.within) in
    let below = all_below c.args.parts.now (length c.args.ups.now.items) c.requires.stands i lt in
    let less = wires_less base (length c.args.ups.now.items) c.loop-k.ups.items c.args.parts.now n i c.get.result lt part (omega (arith, below, part, put.len_is))
    (subst (λ (k : ℕ). WiresUps base (length c.args.ups.now.items) c.loop-k.ups.items c.args.parts.now n k) next put) in
    subst (λ (us : List (List Up)). WiresUps base (length c.args.ups.now.items) us c.args.parts.now n (c.args.count - (c.loop-k.k + 1))) (sym c.drop_up.ensures)
    (subst (λ (k : ℕ). WiresUps base (length c.args.ups.now.items) (slice_set c.loop-k.ups.items c.get.result (take (length (slice_index_or c.loop-k.ups.items c.get.result []) - 1) (slice_index_or c.loop-k.ups.items c.get.result []))) c.args.parts.now n k) after less)

pub returns : goal.returns
returns c = λ base n was.
    let none : c.args.count - c.loop-k.k ≡ 0 = omega arith in
    subst (λ (k : ℕ). WiresUps base (length c.args.ups.now.items) c.loop-k.ups.items c.args.parts.now n k) none (c.loop-k.invariant base n was)
