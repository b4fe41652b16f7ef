-- What the getters read are the parts of the words.
use Rattle.std.proofs.Common.{codes, sym, ◌∙◌}
use Rattle.clap.specs.Words.{found_of}
use Rattle.ml_driver.proofs.FoundWords.{first_read, same_row}
use Rattle.ml_driver.proofs.words.command_in.Goals as goal

pub returns : goal.returns
returns c =
    let f = found_of c.args.matches.now in
    let command = same_row c.row.result _ _ _ _ _ _ _ _ c.row.ensures.command
    (c.get_str.ensures ∙ sym (first_read (codes "command") f))
    (c.get_str-2.ensures ∙ sym (first_read (codes "subject") f))
    (c.get_str-3.ensures ∙ sym (first_read (codes "count") f))
    (c.get_str-4.ensures ∙ sym (first_read (codes "limit") f)) in
    record { command = command; usual = c.row.ensures.usual }
