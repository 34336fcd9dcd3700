use Rattle.std.proofs.Common.{◌++◌, ◌∷◌, [], ap, ◌∙◌, arith}
use Rattle.graph_meaning.specs.Standing.{terms_of}
use Rattle.em_printing.specs.Names.{names_of}
use Rattle.em_printing.specs.Printed.{symbol_text}
use Rattle.em_printing.proofs.TreeSizes.{earlier_arg}
use Rattle.em_printing.proofs.Texts.{put_two, constant_text, application_text, one_more, no_more}
use Rattle.em_printing.proofs.printed.+push_term.Goals as goal

pub returns-then-len-eq0 : goal.returns-then-len-eq0
returns-then-len-eq0 g t c =
    let row = c.row-row.result.now in (
      symbol_text (names_of c.args.session.now row.symbol),
      constant_text (names_of c.args.session.now) (terms_of (g.G.ClassGraph.standing c.args.graph.now)) c.args.term row c.row-row.ensures (omega (arith, c.len.ensures, c.if-len-eq0.true)),
      c.in_ok-push_symbol.ensures ∙ ap (λ name. c.args.text.now.items ++ symbol_text name) c.name_of-name.ensures,
    )

pub loop-i-init : goal.loop-i-init
loop-i-init g t c =
    let row = c.row-row.result.now in (
      40 ∷ symbol_text (names_of c.args.session.now row.symbol),
      put_two c.args.text.now.items (40 ∷ []) (symbol_text (names_of c.args.session.now row.symbol)) c.push.new.self.items c.push_symbol-2.new.text.items c.in_ok-push.ensures.items
          (c.in_ok-push_symbol-2.ensures ∙ ap (λ name. c.push.new.self.items ++ symbol_text name) c.name_of-name.ensures),
      λ rest texts. application_text (names_of c.args.session.now) (terms_of (g.G.ClassGraph.standing c.args.graph.now)) c.args.term row c.row-row.ensures rest (λ e. c.if-len-eq0.false (c.len.ensures ∙ e)) texts,
    )

pub push_term-requires : goal.push_term-requires
push_term-requires g t c κs within =
    let below = earlier_arg (terms_of (g.G.ClassGraph.standing c.args.graph.now)) c.args.term c.row-row.result.now c.loop-i.i c.get.result c.len-terms.ensures.lawful.whole.table c.row-row.ensures c.get.ensures.value in
    (omega (arith, below, c.decreases), (within, omega (arith, below, c.requires)))

pub loop-i-preserved : goal.loop-i-preserved
loop-i-preserved g t c =
    let was = c.loop-i.invariant in
    let text = c.in_ok-push_term.ensures in (
      was.0 ++ 32 ∷ text.0,
      put_two c.args.text.now.items was.0 (32 ∷ text.0) c.loop-i.text.items c.push_term.new.text.items was.1
          (put_two c.loop-i.text.items (32 ∷ []) text.0 c.push-in-loop-i.new.self.items c.push_term.new.text.items c.in_ok-push-2.ensures.items text.2),
      one_more (names_of c.args.session.now) (terms_of (g.G.ClassGraph.standing c.args.graph.now)) c.args.term c.row-row.result.now.args c.loop-i.i c.get.result was.0 text.0 c.get.ensures.value text.1 was.2,
    )

pub returns : goal.returns
returns g t c =
    let was = c.loop-i.invariant in (
      was.0 ++ 41 ∷ [],
      no_more (names_of c.args.session.now) (terms_of (g.G.ClassGraph.standing c.args.graph.now)) c.args.term c.row-row.result.now.args c.loop-i.i was.0 (omega (arith, c.len-i-end.ensures, c.loop-i-test.false)) was.2,
      put_two c.args.text.now.items was.0 (41 ∷ []) c.loop-i.text.items c.push-2.new.self.items was.1 c.in_ok-push-3.ensures.items,
    )
