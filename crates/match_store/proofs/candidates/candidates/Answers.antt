use Rattle.match_store.proofs.candidates.candidates.Goals as goal

pub returns : goal.returns
returns g c = record {
  in_order = c.in_ok-arrange.ensures.in_order;
  exact = λ key. let same = c.in_ok-arrange.ensures.same key in
      let have = c.in_ok-keys.ensures key in
      ((λ x. have.0 (same.0 x)), (λ is. same.1 (have.1 is)));
}
