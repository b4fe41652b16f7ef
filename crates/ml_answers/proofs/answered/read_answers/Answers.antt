use Rattle.std.proofs.Common.{◌≤◌, ◌^◌, take, length, sym, subst, arith}
use Rattle.std.proofs.lemmas.Result.{IfErr-weaker, IfOk-weaker}
use Rattle.ml_lines.proofs.Cuts.{slice_end}
use Rattle.ml_answers.specs.Checked.{IsReadBehind}
use Rattle.ml_answers.specs.Documents.{title_line}
use Rattle.ml_answers.specs.Stated.{lines_of, replies_of}
use Rattle.ml_answers.specs.Texts.{IsLine, IsThen}
use Rattle.ml_answers.specs.private.Reads.{IsRefusedIn}
use Rattle.ml_answers.proofs.Found.{both_fit, none_found, refused_from, title_there}
use Rattle.ml_answers.proofs.answered.read_answers.Goals as goal

pub read_behind-requires-clause-title : goal.read_behind-requires-clause-title
read_behind-requires-clause-title c =
    subst (IsThen (IsLine title_line) (λ t. Unit {0})) (slice_end c.args.bytes.now c.in-Some.at)
    (title_there c.args.bytes.now c.in-Some.at (sym c.in-Some.ensures.found))

pub read_behind-requires-clause-room : goal.read_behind-requires-clause-room
read_behind-requires-clause-room c =
    let within : c.in-Some.at ≤ length c.args.bytes.now = omega (arith, c.in-Some.ensures.within) in
    both_fit c.args.bytes.now c.in-Some.at (2 ^ 63) within (omega arith)

pub returns-in-Some-clause-read : goal.returns-in-Some-clause-read
returns-in-Some-clause-read c =
    let text = c.args.bytes.now in
    let at = c.in-Some.at in
    IfOk-weaker c.read_behind.result _ _
    (λ a read.
    record {
      at = at;
      begins = sym c.in-Some.ensures.found;
      is_read =
          subst
          (λ document.
          IsReadBehind (take at text) document a.specification.logic a.specification.items.items (replies_of a.answers.items)
          (lines_of a.answers.items))
          (sym (slice_end text at)) read;
    })
    c.read_behind.ensures.read

pub returns-in-Some-clause-refused : goal.returns-in-Some-clause-refused
returns-in-Some-clause-refused c =
    let text = c.args.bytes.now in
    let at = c.in-Some.at in
    IfErr-weaker c.read_behind.result _ _
    (λ e tells.
    refused_from text at e (sym c.in-Some.ensures.found)
    (subst (λ document. IsRefusedIn (take at text) document e) (sym (slice_end text at)) tells))
    c.read_behind.ensures.refused

pub returns-in-None-clause-refused : goal.returns-in-None-clause-refused
returns-in-None-clause-refused c =
    none_found c.args.bytes.now c.line_and_column-line.result.0 c.line_and_column-line.result.1 (sym c.in-None.ensures.found)
    c.line_and_column-line.ensures.line c.line_and_column-line.ensures.column
