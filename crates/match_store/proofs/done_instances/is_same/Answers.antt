use Rattle.std.proofs.Common.{sym, arith, true≢false}
use Rattle.match_store.proofs.SameLemmas.{ends_stand}
use Rattle.match_store.proofs.done_instances.is_same.Goals.{then-left-terms-via-then-left-terms, then-left-terms-via-else-left-terms+then-right-terms}
use Rattle.match_store.proofs.done_instances.is_same.Goals as goal

pub returns-then-left-terms : goal.returns-then-left-terms
returns-then-left-terms g c = (
  λ no. absurd (true≢false (sym no)),
  λ same.
      let stand = ends_stand c.len-terms.ensures.lawful.whole.ends same in
      elim c.then-left-terms.branch [
        | then-left-terms-via-then-left-terms w ↦ absurd (omega (arith, stand.0, w.if-left-terms.true, c.len-terms.ensures.value))
        | then-left-terms-via-else-left-terms+then-right-terms w ↦ absurd (omega (arith, stand.1, w.if-right-terms.true, c.len-terms.ensures.value))
      ],
)
