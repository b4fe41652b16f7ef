use Rattle.std.proofs.Common.{◌<◌, arith}
use Rattle.ml_lines.specs.Reading.{words_of}
use Rattle.ml_refutation.specs.Refutation.{IsMarkOf}
use Rattle.ml_refutation_text.proofs.BranchLines.{go_broken, out_of_range}
use Rattle.ml_refutation_text.proofs.branches.go_of.Goals as goal
use Rattle.ml_refutation_text.proofs.branches.go_of.Goals.{else-entry-wanted-via-then-entry-wanted+else-is_mark, else-entry-wanted-via-else-entry-wanted}

pub returns-else-entry-wanted-clause-refused : goal.returns-else-entry-wanted-clause-refused
returns-else-entry-wanted-clause-refused c =
    let e = c.in-Ok.entry in
    let m = c.in-Ok.mark in
    let read = c.in-Ok.ensures.read in
    let none : ¬ ((e < c.args.wanted) × IsMarkOf c.args.names m) =
    elim c.else-entry-wanted.branch [
      | else-entry-wanted-via-then-entry-wanted+else-is_mark w ↦ λ both. w.is_mark.ensures.otherwise w.if-is_mark.false both.1
      | else-entry-wanted-via-else-entry-wanted w ↦ λ both. absurd (omega (arith, w.if-entry-wanted.false, both.0))
    ] in
    λ depth.
    out_of_range c.args.names c.args.wanted depth (words_of c.args.line.now) (words_of c.args.rest.now) c.in-Ok.diamond e m
    c.requires.begins read.0 read.1 read.2 read.3 none

pub returns-in-Err-clause-refused : goal.returns-in-Err-clause-refused
returns-in-Err-clause-refused c =
    λ depth.
    go_broken c.args.names c.args.wanted depth (words_of c.args.line.now) (words_of c.args.rest.now) c.in-Err.rule c.requires.begins
    c.requires.are_words c.in-Err.ensures.refused
