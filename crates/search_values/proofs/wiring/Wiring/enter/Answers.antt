use Rattle.std.proofs.Common.{◌≡◌, ◌<◌, ◌+◌, ◌^◌, ◌++◌, ◌∷◌, [], ℕ, List, length, All, ap, sym, subst, ◌∙◌, arith}
use Rattle.search_values.specs.declared.up.Up.{Up}
use Rattle.search_values.specs.Wiring.{Wires, IsWired}
use Rattle.search_values.specs.WiresUps.{WiresUps, ups_in}
use Rattle.search_values.proofs.WireLemmas.{wired_more, all_below}
use Rattle.search_values.proofs.wiring.Wiring.enter.Goals as goal

pub invariant_of-self-in-Ok : goal.invariant_of-self-in-Ok
invariant_of-self-in-Ok c =
    let n : c.len-n.result ≡ length c.self.inside.parts.items = omega (arith, c.len-n.ensures, c.self.inside.parts.ok) in
    let earlier = subst (λ (w : Wires). All (λ part. part < length w.parts) c.args.parts) (sym c.self.view_is) c.requires.earlier in
    let few = subst (λ (w : Wires). length w.parts + 1 < 2 ^ 32) (sym c.self.view_is) c.requires.few in
    let grown = c.in_ok-push.ensures.items ∙ ap (λ (xs : List Up). c.self.inside.ups.items ++ xs ∷ []) c.new.ensures in
    let put = subst (λ (k : ℕ). WiresUps (ups_in (c.self.inside.ups.items ++ [] ∷ [])) (length (c.self.inside.ups.items ++ [] ∷ [])) c.wire.new.ups.items c.args.parts k (length c.args.parts)) n
    (subst (λ (us : List (List Up)). WiresUps (ups_in us) (length us) c.wire.new.ups.items c.args.parts c.len-n.result (length c.args.parts)) grown c.in-Ok.ensures.ok) in
    let done = wired_more (record { parts = c.self.inside.parts.items; ups = c.self.inside.ups.items }) c.self.invariant c.args.parts c.wire.new.ups.items (all_below c.args.parts (length c.self.inside.parts.items) earlier) few put in
    subst (λ (ps : List (List ℕ)). IsWired (record { parts = ps; ups = c.wire.new.ups.items })) (sym (c.push_reserved.ensures.items ∙ ap (λ (ps : List (List ℕ)). ps ++ c.args.parts ∷ []) c.reserve.ensures.items)) done
