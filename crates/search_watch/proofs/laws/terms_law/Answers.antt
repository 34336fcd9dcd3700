use Rattle.search_watch.proofs.GrownLemmas.{was_before, is_now, only_terms}
use Rattle.search_watch.proofs.laws.terms_law.Goals as goal

pub returns-clause-same : goal.returns-clause-same
returns-clause-same c = λ before now came s t lt lt'. (λ d. was_before before now came s t lt lt' d, λ d. is_now before now came s t d)

pub returns-clause-adds : goal.returns-clause-adds
returns-clause-adds c = λ state rows was is. only_terms state rows was is
