use Rattle.std.proofs.Common.{◌≡◌, ℕ, ◌==◌, not, [], ap, ◌∙◌}
use Rattle.smt_text.specs.declared.token.Place.{Place}
use Rattle.smt_names.specs.declared.refusal.Refusal.TheVariants.{NotInProfile}
use Rattle.smt_names.specs.Making.{Making, gives, ◌>>=◌, ◌>>◌, must_hold}
use Rattle.smt_names.specs.Names.{sort_of_token, word_of}
use Rattle.smt_names.proofs.CheckLemmas.{refused_first, refused_after, made_after, unwanted, wanted, not_zero}
use Rattle.smt_names.proofs.session_state.SessionState.other_sort_of_token.Goals as goal

unfoldable rest : Place → ℕ → Making ℕ
rest place sort = do
  must_hold (not (sort == 0)) NotInProfile place
  gives sort

pub returns-in-Err : goal.returns-in-Err
unfolding rest
returns-in-Err c = λ draft. refused_first (rest c.args.place) c.in-Err.stop (sort_of_token c.args.self.now (word_of c.args.kind c.args.place c.args.name.now) draft) (c.in-Err.ensures draft)

pub returns-then-sort-eq0 : goal.returns-then-sort-eq0
unfolding rest
returns-then-sort-eq0 c = λ draft. refused_after (rest c.args.place) c.at.result (sort_of_token c.args.self.now (word_of c.args.kind c.args.place c.args.name.now) draft) c.in-Ok.sort draft (c.in-Ok.ensures draft)
    (refused_first (λ _. gives c.in-Ok.sort) c.at.result (must_hold (not (c.in-Ok.sort == 0)) NotInProfile c.args.place draft)
    (unwanted c.at.result (not (c.in-Ok.sort == 0)) NotInProfile c.args.place [] draft c.at.ensures (ap (λ (n : ℕ). not (n == 0)) c.if-sort-eq0.true)))

pub returns-else-sort-eq0 : goal.returns-else-sort-eq0
unfolding rest
returns-else-sort-eq0 c = λ draft. made_after (rest c.args.place) (sort_of_token c.args.self.now (word_of c.args.kind c.args.place c.args.name.now) draft) c.in-Ok.sort draft (c.in-Ok.ensures draft)
    ∙ made_after (λ _. gives c.in-Ok.sort) (must_hold (not (c.in-Ok.sort == 0)) NotInProfile c.args.place draft) tt draft (wanted (not (c.in-Ok.sort == 0)) NotInProfile c.args.place [] draft (not_zero c.in-Ok.sort c.if-sort-eq0.false))
