use Rattle.std.proofs.Common.{rules, ◌≡◌, ◌∷◌, [], All, subst, List}
use Rattle.std.proofs.lemmas.List.Elements.{All-head}
use Rattle.std.proofs.lemmas.Result.{on_ok_weaker}
use Rattle.match_pool.specs.declared.matcher.Matcher.{Matcher}
use Rattle.match_pool.specs.Ring.{Follow, IsAlone, IsFresh, IsOneOf}
use Rattle.match_pool.specs.Stealing.{stolen}
use Rattle.match_pool.proofs.Linking.{linked-fresh, on-ok-both}
use Rattle.match_pool.proofs.ring.link.Goals as goal

pub returns-clause-fresh : goal.returns-clause-fresh
returns-clause-fresh c =
    let m : Matcher = c.in-Some.first.now in
    let own = c.thief_of.new.own in
    let next = c.link_rest.new.next in
    let more = c.link_rest.new.rest in
    let workers = c.args.workers in
    let whole : c.args.matchers.now ≡ m ∷ c.in-Some.rest.now = search rules in
    let alone : IsAlone workers m = All-head (IsAlone workers) m c.in-Some.rest.now (subst (λ (l : List Matcher). All (IsAlone workers) l) whole c.requires.alone) in
    on_ok_weaker c.link_rest.result
    (λ (e : (Follow own next more × (stolen next ≡ [])) × (All IsFresh more × All (IsOneOf workers) more)).
    linked-fresh workers m own next c.in_ok-closing.closing more alone c.in_ok-closing.ensures.flavor c.in_ok-closing.ensures.taken c.in_ok-closing.ensures.fits e.0.1 e.1)
    (on-ok-both (Follow own next more × (stolen next ≡ [])) (All IsFresh more × All (IsOneOf workers) more) c.link_rest.result c.link_rest.ensures.follow c.link_rest.ensures.fresh)
