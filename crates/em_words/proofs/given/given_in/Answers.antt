use Rattle.std.proofs.Common.{◌≡◌, codes, Option, ◌∙◌}
use Rattle.clap.specs.Words.{Text, found_of}
use Rattle.clap.proofs.WalkLemmas.{first_value-rows}
use Rattle.em_words.specs.Texts.{Texts}
use Rattle.em_words.proofs.given.given_in.Goals as goal

four : (a b c d e f g h : Option Text) → a ≡ e → b ≡ f → c ≡ g → d ≡ h
    → (let l : Texts = record { workers = a; rounds = b; command = c; count = d } in l)
    ≡ (let r : Texts = record { workers = e; rounds = f; command = g; count = h } in r)
four a b c d e f g h p q r s = cc

pub returns : goal.returns
returns c = four _ _ _ _ _ _ _ _
    (c.get_str.ensures ∙ first_value-rows (found_of c.args.matches.now) (codes "workers"))
    (c.get_str-2.ensures ∙ first_value-rows (found_of c.args.matches.now) (codes "rounds"))
    (c.get_str-3.ensures ∙ first_value-rows (found_of c.args.matches.now) (codes "command"))
    (c.get_str-4.ensures ∙ first_value-rows (found_of c.args.matches.now) (codes "count"))
