use Rattle.std.proofs.Common.{◌≡◌, ℕ, List, nat_eq, ap, sym, ◌∙◌}
use Rattle.std.specs.List.{list_any}
use Rattle.formula_assert.proofs.WorkLemmas.{found_Contains, Contains_found}
use Rattle.formula_assert.proofs.asserted_nodes.AssertedNodes.has.Goals as goal

pub returns : goal.returns
returns c =
    let same : c.contains.result ≡ list_any (nat_eq c.args.n) c.args.self.now = c.contains.ensures ∙ ap (λ (ns : List ℕ). list_any (nat_eq c.args.n) ns) c.self.view_is in (
      λ is. found_Contains c.args.n c.args.self.now (sym same ∙ is),
      λ has. same ∙ Contains_found c.args.n c.args.self.now has,
    )
