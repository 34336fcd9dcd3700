use Rattle.ematch_cli.proofs.laws.run_law.Goals as goal

pub returns : goal.returns
returns c = record {
  starts = c.session_law.ensures.starts;
  keeps = c.session_law.ensures.keeps;
  tables = record {
    starts = c.tables_law.ensures.start;
    opened = c.tables_law.ensures.opened;
    ended = c.tables_law.ensures.ended;
    asserted = c.tables_law.ensures.asserted;
  };
  exact = record {
    starts = c.exactly_law.ensures.start;
    opened = c.exactly_law.ensures.opened;
    ended = c.exactly_law.ensures.ended;
    asserted = c.exactly_law.ensures.asserted;
  };
  asserts = record {
    once = c.one_answer_law.ensures.once;
    not_both = c.one_answer_law.ensures.not_both;
    alike = c.one_answer_law.ensures.alike;
  };
  verdict = c.one_verdict_law.ensures;
}
