-- The command is the one that is said, argument by argument.
use Rattle.std.proofs.Common.{rules, ap₂, refl, codes, true, Some, ◌≡◌, ◌∙◌}
use Rattle.std.proofs.lemmas.Result.{IfOk-weaker}
use Rattle.clap.specs.Words.{App, Rule, app_of, new_app, new_rule, rule_of, with_rule}
use Rattle.ml_driver.specs.Words.{cli}
use Rattle.ml_driver.proofs.words.cli.Goals as goal

abbrev command : Rule
command = record (new_rule (codes "command")) { required = true }

abbrev limit : Rule
limit = record (new_rule (codes "limit")) { long = Some (codes "limit") }

abbrev plain : App
plain =
    let bare = new_app (codes "mlsolver") in
    record bare { top = record bare.top { no_binary_name = true; disable_help_flag = true } }

abbrev one : App
one = with_rule plain command

abbrev two : App
two = with_rule one (new_rule (codes "subject"))

abbrev three : App
three = with_rule two (new_rule (codes "count"))

whole : with_rule three limit ≡ cli
unfolding cli
whole = refl

pub returns : goal.returns
returns c =
    let command_is : rule_of c.required.result ≡ command = search rules in
    let limit_is : rule_of c.long.result ≡ limit = search rules in
    let subject_is : rule_of c.new-3.result ≡ new_rule (codes "subject") = search rules in
    let count_is : rule_of c.new-4.result ≡ new_rule (codes "count") = search rules in
    let plain_is : app_of c.disable_help_flag.result ≡ plain = search rules in
    let first : app_of c.in_ok-arg.field-0 ≡ one =
    c.in_ok-arg.ensures.shape (search rules) ∙ ap₂ with_rule plain_is command_is in
    let second : app_of c.in_ok-arg-2.field-0 ≡ two =
    c.in_ok-arg-2.ensures.shape (search rules) ∙ ap₂ with_rule first subject_is in
    let third : app_of c.in_ok-arg-3.field-0 ≡ three =
    c.in_ok-arg-3.ensures.shape (search rules) ∙ ap₂ with_rule second count_is in
    IfOk-weaker c.arg-4.result _ _ (λ r adds. adds.shape (search rules) ∙ ap₂ with_rule third limit_is ∙ whole)
    c.arg-4.ensures
