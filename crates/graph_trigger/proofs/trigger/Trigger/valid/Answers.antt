use Rattle.std.proofs.Common.{arith}
use Rattle.graph_trigger.proofs.ValidLemmas.{refused, NameEarlier-fit, IsValid-tested, FitRows-valid, AreNew-valid, AreApplications-valid, AreReached-valid, AreSmall-valid}
use Rattle.graph_trigger.proofs.trigger.Trigger.valid.Goals as goal

pub returns-then-not-fit_rows : goal.returns-then-not-fit_rows
returns-then-not-fit_rows c = refused c.fit_rows.result c.fit_rows.ensures c.if-not-fit_rows.true (λ valid. FitRows-valid c.args.self.now valid)

pub returns-then-not-are_new : goal.returns-then-not-are_new
returns-then-not-are_new c = refused c.are_new.result c.are_new.ensures c.if-not-are_new.true (λ valid. AreNew-valid c.args.self.now valid)

pub returns-then-not-are_applications : goal.returns-then-not-are_applications
returns-then-not-are_applications c = refused c.are_applications.result c.are_applications.ensures c.if-not-are_applications.true (λ valid. AreApplications-valid c.args.self.now valid)

pub returns-then-not-are_reached : goal.returns-then-not-are_reached
returns-then-not-are_reached c = refused c.are_reached.result c.are_reached.ensures c.if-not-are_reached.true (λ valid. AreReached-valid c.args.self.now valid)

pub returns-then-not-have_variables : goal.returns-then-not-have_variables
returns-then-not-have_variables c = refused c.have_variables.result c.have_variables.ensures c.if-not-have_variables.true (λ valid. valid.occur)

pub are_small-requires-clause-earlier : goal.are_small-requires-clause-earlier
are_small-requires-clause-earlier c = NameEarlier-fit c.args.self.now.variables c.args.self.now.rows (c.fit_rows.ensures.0 c.if-not-fit_rows.false)

pub returns : goal.returns
returns c = (
  λ small. IsValid-tested c.args.self.now (omega arith) (omega arith) (omega arith) (c.fit_rows.ensures.0 c.if-not-fit_rows.false) (c.are_new.ensures.0 c.if-not-are_new.false) (c.are_applications.ensures.0 c.if-not-are_applications.false) (c.are_reached.ensures.0 c.if-not-are_reached.false) (c.have_variables.ensures.0 c.if-not-have_variables.false) (c.are_small.ensures.0 small),
  λ valid. c.are_small.ensures.1 (AreSmall-valid c.args.self.now valid),
)
