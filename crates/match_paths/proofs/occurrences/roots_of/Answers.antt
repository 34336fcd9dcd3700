use Rattle.std.proofs.Common.{◌∙◌, ◌+◌, ◌++◌, ◌∷◌, [], List, ap, sym, subst, arith}
use Rattle.match_paths.specs.declared.link.Link.{Link}
use Rattle.match_paths.proofs.OccurrenceLemmas.{CollectedTo, IsRootAt, root_next, roots_all}
use Rattle.match_paths.proofs.occurrences.roots_of.Goals as goal

pub loop-start-preserved : goal.loop-start-preserved
loop-start-preserved c =
    let trigger = c.args.trigger.now in
    let k = c.loop-start.start in
    subst (CollectedTo (IsRootAt trigger) (k + 1)) (sym (c.in_ok-push.ensures.items ∙ ap (λ (ls : List Link). c.loop-start.all.items ++ record { start = k; row = c.get.result; links = ls } ∷ []) c.new.ensures))
    (root_next trigger k c.get.result c.loop-start.all.items c.get.ensures.value c.loop-start.invariant)

pub returns : goal.returns
returns c = roots_all c.args.trigger.now c.loop-start.start c.loop-start.all.items (omega (arith, c.loop-start-test.false, c.len-start-end.ensures)) c.loop-start.invariant
