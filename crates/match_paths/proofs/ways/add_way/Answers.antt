use Rattle.std.proofs.Common.{◌∙◌, List, sym, subst}
use Rattle.match_paths.specs.declared.link.Link.{Link}
use Rattle.match_trees.specs.Growth.{Leads}
use Rattle.match_trees.specs.EntryList.{EntryList}
use Rattle.match_paths.specs.Wants.{AddsWays, IsThisWay}
use Rattle.match_paths.proofs.AddLemmas.{ways_one}
use Rattle.match_paths.proofs.ways.add_way.Goals as goal

pub returns-clause-ok : goal.returns-clause-ok
returns-clause-ok c =
    let links = c.args.links.now in
    subst (λ (list : EntryList). AddsWays c.args.number (IsThisWay c.args.start c.args.begin links) c.args.nodes.now c.put_way.new.self c.args.entries.now list) (sym c.in_ok-push.ensures.ok)
    (ways_one c.entry_law.ensures c.args.number c.args.start c.in_ok-end.end c.args.begin links c.args.nodes.now c.put_way.new.self c.args.entries.now c.len-entries.ensures.each
    (subst (λ (way : List Link). Leads c.args.nodes.now c.put_way.new.self way c.in_ok-end.end) (c.as_slice.ensures ∙ c.in_ok-way.ensures) c.in_ok-end.ensures.ok))
