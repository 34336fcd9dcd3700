use Rattle.std.proofs.Common.{◌≡◌, ◌++◌, decimal, sym, ap, ◌∙◌, append_assoc}
use Rattle.em_generated.proofs.PutsLaws.{puts_then, puts_stop}
use Rattle.em_generated.proofs.putting.put_number.Goals as goal

pub returns-in_err-numbered-clause-puts : goal.returns-in_err-numbered-clause-puts
returns-in_err-numbered-clause-puts g c =
    let digits : c.as_bytes.result.now ≡ decimal c.args.number = c.as_bytes.ensures.value ∙ c.format.ensures.text in
    puts_then (c.args.front.now ++ decimal c.args.number ++ c.args.back.now) c.in_ok-fronted.ensures
    (puts_stop (decimal c.args.number ++ c.args.back.now) c.args.back.now c.in_err-numbered.ensures c.from_residual-in_err-numbered.ensures.1 (ap (λ t. t ++ c.args.back.now) (sym digits)))
    (append_assoc c.args.front.now (decimal c.args.number) c.args.back.now)

pub returns-clause-puts : goal.returns-clause-puts
returns-clause-puts g c =
    let digits : c.as_bytes.result.now ≡ decimal c.args.number = c.as_bytes.ensures.value ∙ c.format.ensures.text in
    puts_then (c.args.front.now ++ decimal c.args.number ++ c.args.back.now) c.in_ok-fronted.ensures
    (puts_then (decimal c.args.number ++ c.args.back.now) c.in_ok-numbered.ensures c.put-3.ensures (ap (λ t. t ++ c.args.back.now) (sym digits)))
    (append_assoc c.args.front.now (decimal c.args.number) c.args.back.now)
