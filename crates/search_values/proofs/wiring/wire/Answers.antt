use Rattle.std.proofs.Common.{◌≡◌, ◌<◌, ◌+◌, ℕ, List, length, sym, subst, ◌∙◌, arith}
use Rattle.search_values.specs.declared.up.Up.{Up}
use Rattle.search_values.specs.WiresUps.{WiresUps, ups_in}
use Rattle.search_values.proofs.WireLemmas.{all_below, get_some, wires_at, wires_back, wires_more, wires_none}
use Rattle.search_values.proofs.wiring.wire.Goals as goal

pub loop-i-init : goal.loop-i-init
loop-i-init c = wires_none c.args.ups.now.items c.args.parts.now c.args.n

pub loop-i-preserved : goal.loop-i-preserved
loop-i-preserved c =
    let part = get_some c.args.parts.now c.loop-i.i c.get.result 0 c.get.ensures in
    let lt : c.loop-i.i < length c.args.parts.now = omega (arith, c.len-i-end.ensures) in
    let below = all_below c.args.parts.now (length c.args.ups.now.items) c.requires.stands c.loop-i.i lt in
    subst (λ (us : List (List Up)). WiresUps (ups_in c.args.ups.now.items) (length c.args.ups.now.items) us c.args.parts.now c.args.n (c.loop-i.i + 1)) (sym c.in_default.ensures.ok)
    (wires_more (ups_in c.args.ups.now.items) (length c.args.ups.now.items) c.loop-i.ups.items c.args.parts.now c.args.n c.loop-i.i c.get.result lt part (omega (arith, below, part, c.loop-i.invariant.len_is)) c.loop-i.invariant)

pub returns-in-Err-clause-err : goal.returns-in-Err-clause-err
returns-in-Err-clause-err c =
    let old = c.args.ups.now.items in
    let same : c.put_up.new.ups.items ≡ c.loop-i.ups.items = c.in-Err.ensures.err in
    let put = subst (λ (us : List (List Up)). WiresUps (ups_in old) (length old) us c.args.parts.now c.args.n c.loop-i.i) (sym same) c.loop-i.invariant in
    let gone = c.unwire.ensures (ups_in old) c.args.n (wires_at (ups_in old) (length old) c.put_up.new.ups.items c.args.parts.now c.args.n c.loop-i.i put) in
    wires_back old c.unwire.new.ups.items c.args.parts.now c.args.n (length c.put_up.new.ups.items) put.len_is gone
