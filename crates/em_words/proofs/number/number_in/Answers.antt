use Rattle.std.proofs.Common.{◌≡◌, ◌∙◌, ◌<◌, ◌^◌, sym, ap, true}
use Rattle.em_words.specs.Number.{is_numeral}
use Rattle.em_words.proofs.Numerals.{no_number}
use Rattle.em_words.proofs.number.number_in.Goals as goal

pub returns-in-Err : goal.returns-in-Err
returns-in-Err c =
    let numeral : is_numeral c.args.text.now ≡ true = ap is_numeral (sym c.as_bytes.ensures.value) ∙ (sym c.is_numeral.ensures ∙ c.if-not-is_numeral.false) in
    let limit : c.args.most < 2 ^ 32 = c.ranges.most.fits in
    no_number c.args.least c.args.most c.args.text.now numeral limit c.in-Err.ensures.value.0
