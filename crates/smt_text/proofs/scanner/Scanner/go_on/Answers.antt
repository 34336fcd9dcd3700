use Rattle.std.proofs.Common.{get_or}
use Rattle.std.proofs.lemmas.List.{drop_more}
use Rattle.smt_text.proofs.Scanning.{finds_cut, finds_it, reads_on}
use Rattle.smt_text.proofs.scanner.Scanner.go_on.Goals as goal

pub returns : goal.returns
returns c = finds_cut c.args.bytes.now c.loop-self.self c.loop-self.invariant c.loop-self-test.false

pub loop-self-preserved : goal.loop-self-preserved
loop-self-preserved c =
    reads_on c.args.bytes.now c.loop-self.self (get_or c.args.bytes.now c.loop-self.self.seen 0) c.in-Inside.inside c.loop-self.invariant c.loop-self-test.true
    (drop_more c.args.bytes.now c.loop-self.self.seen 0 c.loop-self-test.true) c.in-Inside.ensures.follows c.in-Inside.ensures.fits

pub returns-in-Is : goal.returns-in-Is
returns-in-Is c =
    finds_it c.args.bytes.now c.loop-self.self (get_or c.args.bytes.now c.loop-self.self.seen 0) c.in-Is.lexeme c.loop-self.invariant c.loop-self-test.true
    (drop_more c.args.bytes.now c.loop-self.self.seen 0 c.loop-self-test.true) c.in-Is.ensures.follows c.in-Is.ensures.fits
