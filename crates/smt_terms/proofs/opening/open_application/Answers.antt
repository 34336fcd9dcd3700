use Rattle.std.proofs.Common.{sym, ap, ◌∙◌}
use Rattle.smt_names.specs.Names.{bound_as, head_of}
use Rattle.smt_terms.proofs.Openings.{opens_application}
use Rattle.smt_terms.proofs.opening.open_application.Goals as goal

pub returns-in_ok-push-in-Some-known_head : goal.returns-in_ok-push-in-Some-known_head
returns-in_ok-push-in-Some-known_head c inside = opens_application c.args.tree.now c.args.i c.args.after c.args.state.now inside c.args.frames.now.items c.push.new.self.items c.args.bound.now c.place_at.result c.place_at-head.result c.place_at.ensures c.place_at-head.ensures
    c.in-Some-known_head.called c.new.result (ap (bound_as c.args.bound.now) (sym c.text_at-name.ensures) ∙ sym c.in-None.ensures) (c.in-Some-known_head.ensures.0 ∙ ap (head_of c.args.state.now) c.text_at-name.ensures) c.in-Some-known_head.ensures.1 c.new.ensures.items c.in_ok-push-in-Some-known_head.ensures.items
