use Rattle.std.proofs.Common.{◌≡◌, ◌++◌, ◌/◌, ◌^◌, length}
use Rattle.std.proofs.lemmas.Result.{on_ok_weaker}
use Rattle.ml_paths.specs.private.Built.{pairs_at}
use Rattle.ml_task.specs.NameSets.{members}
use Rattle.ml_machine_text.proofs.WordLetters.{letter_added}
use Rattle.ml_machine_text.proofs.labels.add_letter.Goals as goal

pub returns : goal.returns
returns c =
    let ins = c.args.inputs.now in
    let outs = c.args.outputs.now in
    let old = c.args.labels.now.items in
    let mid = c.add_members.new.labels.items in
    let new = c.add_members-2.new.labels.items in
    let k = c.args.place in
    let v = c.args.valuation in
    on_ok_weaker c.add_members-2.result
    (λ (second : new ≡ mid ++ pairs_at k (members outs (v / 2 ^ length ins))). letter_added old mid new k v ins outs c.in_ok-add_members.ensures second) c.add_members-2.ensures
