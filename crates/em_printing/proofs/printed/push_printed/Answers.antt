use Rattle.std.proofs.Common.{◌++◌, ◌∷◌, [], ap, ◌∙◌, arith}
use Rattle.std.specs.Fmt.{decimal}
use Rattle.graph_meaning.specs.Standing.{terms_of}
use Rattle.em_printing.specs.Printed.{whole, numbered}
use Rattle.em_printing.proofs.TreeSizes.{has_size}
use Rattle.em_printing.proofs.Texts.{put_two}
use Rattle.em_printing.proofs.printed.push_printed.Goals as goal

pub returns-in_ok-push_term-in-Some : goal.returns-in_ok-push_term-in-Some
returns-in_ok-push_term-in-Some g c =
    let text = c.in_ok-push_term-in-Some.ensures in
    (text.0, whole c.in-Some.ensures.0 (omega arith) text.1, text.2)

pub returns-in_ok-push_number-in-None : goal.returns-in_ok-push_number-in-None
returns-in_ok-push_number-in-None g c =
    let size = has_size (terms_of (g.G.ClassGraph.standing c.args.graph.now)) c.len-terms.ensures.lawful.whole.table c.args.term c.requires in (
      35 ∷ decimal c.args.term,
      numbered size.1 (c.in-None.ensures size.0 size.1),
      put_two c.args.text.now.items (35 ∷ []) (decimal c.args.term) c.push.new.self.items c.push_number.new.text.items c.in_ok-push-in-None.ensures.items
          (c.in_ok-push_number-in-None.ensures ∙ ap (λ n. c.push.new.self.items ++ decimal n) c.from.ensures),
    )
