use Rattle.std.proofs.Common.{◌≡◌, ◌∙◌, codes, rules, ap, ap₂, true}
use Rattle.std.proofs.lemmas.Result.{IfOk-weaker}
use Rattle.clap.specs.Words.{Shape, app_of, new_app, new_rule, rule_of, with_rule}
use Rattle.clap.specs.Simple.{app_of_fields, on_top}
use Rattle.em_words.specs.ClapCommand.{option_rule}
use Rattle.em_words.proofs.given.command_line.Goals as goal

pub returns : goal.returns
returns c =
    let workers_is : rule_of c.text_option-workers.result ≡ option_rule (codes "workers") = c.text_option-workers.ensures.rule in
    let rounds_is : rule_of c.text_option-rounds.result ≡ option_rule (codes "rounds") = c.text_option-rounds.ensures.rule in
    let command_is : rule_of c.new-command.result ≡ new_rule (codes "command") = search rules in
    let count_is : rule_of c.new-count.result ≡ new_rule (codes "count") = search rules in
    let named : app_of c.new.result ≡ new_app (codes "ematch") = c.new.ensures.app in
    let bare = ap app_of_fields c.no_binary_name.ensures
    ∙ ap (on_top (λ (s : Shape). record s { no_binary_name = true })) named in
    let silent = ap app_of_fields c.disable_help_flag.ensures
    ∙ ap (on_top (λ (s : Shape). record s { disable_help_flag = true })) bare in
    let start = ap app_of_fields c.disable_version_flag.ensures
    ∙ ap (on_top (λ (s : Shape). record s { disable_version_flag = true })) silent in
    let one = c.in_ok-arg.ensures.shape c.text_option-workers.ensures.local ∙ ap₂ with_rule start workers_is in
    let two = c.in_ok-arg-2.ensures.shape c.text_option-rounds.ensures.local ∙ ap₂ with_rule one rounds_is in
    let three = c.in_ok-arg-3.ensures.shape (search rules) ∙ ap₂ with_rule two command_is in
    IfOk-weaker c.arg-4.result _ _ (λ r h. h.shape (search rules) ∙ ap₂ with_rule three count_is) c.arg-4.ensures
