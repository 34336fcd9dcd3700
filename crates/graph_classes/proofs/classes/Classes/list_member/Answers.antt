use Rattle.std.proofs.Common.{OnOk, arith}
use Rattle.graph_classes.specs.History.{now}
use Rattle.graph_classes.specs.Listed.{ListsMore, IsMemberListed}
use Rattle.graph_classes.proofs.MoveLemmas.{read_is}
use Rattle.graph_classes.proofs.SigningLemmas.{on_ok}
use Rattle.graph_classes.proofs.ListingLemmas.{IsMemberListed-listing}
use Rattle.graph_classes.proofs.classes.Classes.list_member.Goals as goal

both : (c : goal.After-list_term) → OnOk c.list_term.result (ListsMore (now c.args.self.now) (now c.list_term.new.self) × IsMemberListed (now c.list_term.new.self) c.args.term)
both c = on_ok c.list_term.result (IsMemberListed-listing (now c.args.self.now) (now c.list_term.new.self) c.row.result.now c.args.term c.index-label.result.now c.row.ensures
    (read_is c.args.self.now.parts.labels.items c.args.term c.index-label.result.now (omega (arith, c.requires.term_in, c.requires.labels)) c.index-label.ensures)) c.list_term.ensures.ok

pub returns-clause-more : goal.returns-clause-more
returns-clause-more c = on_ok c.list_term.result (λ h. h.0) (both c)

pub returns-clause-listed : goal.returns-clause-listed
returns-clause-listed c = on_ok c.list_term.result (λ h. h.1) (both c)
