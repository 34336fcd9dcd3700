use Rattle.std.proofs.Common.{◌≡◌, ◌<◌, ◌-◌, ℕ, List, length, take, vec_len, ap, sym, subst, ◌∙◌, arith}
use Rattle.search_values.specs.declared.up.Up.{Up}
use Rattle.search_values.specs.Wiring.{Wires, IsWired, ups_from}
use Rattle.search_values.specs.WiresUps.{WiresUps}
use Rattle.search_values.proofs.ListLemmas.{same_default}
use Rattle.search_values.proofs.WireLemmas.{last_below, last_put, wired_less}
use Rattle.search_values.proofs.wiring.Wiring.drop_last.Goals as goal

pub unwire-requires-clause-stands : goal.unwire-requires-clause-stands
unwire-requires-clause-stands c = λ k d lt.
    let wires : Wires = record { parts = c.self.inside.parts.items; ups = c.self.inside.ups.items } in
    let below = last_below wires c.self.invariant c.pop.new.self.items c.in-Some.parts c.in-Some.ensures.items k lt in
    omega (arith, below, same_default c.in-Some.parts k d 0 lt)

pub unwire-requires-clause-put : goal.unwire-requires-clause-put
unwire-requires-clause-put c =
    let wires : Wires = record { parts = c.self.inside.parts.items; ups = c.self.inside.ups.items } in
    let rest = c.pop.new.self.items in
    let put = last_put wires c.self.invariant rest c.in-Some.parts c.in-Some.ensures.items in
    (λ m. ups_from m 0 rest, length rest, subst (λ (k : ℕ). WiresUps (λ m. ups_from m 0 rest) (length c.self.inside.ups.items) c.self.inside.ups.items c.in-Some.parts (length rest) k) (sym c.len.ensures) put)

pub invariant_of-self : goal.invariant_of-self
invariant_of-self c =
    let wires : Wires = record { parts = c.self.inside.parts.items; ups = c.self.inside.ups.items } in
    let rest = c.pop.new.self.items in
    let put = last_put wires c.self.invariant rest c.in-Some.parts c.in-Some.ensures.items in
    let gone = c.unwire.ensures (λ m. ups_from m 0 rest) (length rest) (subst (λ (k : ℕ). WiresUps (λ m. ups_from m 0 rest) (length c.self.inside.ups.items) c.self.inside.ups.items c.in-Some.parts (length rest) k) (sym c.len.ensures) put) in
    let less = wired_less wires c.self.invariant rest c.in-Some.parts c.in-Some.ensures.items c.unwire.new.ups.items gone in
    let many : vec_len c.unwire.new.ups ≡ length c.unwire.new.ups.items = omega (arith, c.unwire.new.ups.ok) in
    let ups_are = c.pop-ups.ensures.rest ∙ ap (λ (k : ℕ). take (k - 1) c.unwire.new.ups.items) many in
    subst (λ (us : List (List Up)). IsWired (record { parts = rest; ups = us })) (sym ups_are) less
