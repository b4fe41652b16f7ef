use Rattle.std.proofs.Common.{sym, subst}
use Rattle.ml_lines.specs.Reading.{words_of}
use Rattle.ml_refutation_text.specs.BodyRules.{AtTableSequent, AtSequent}
use Rattle.ml_refutation_text.specs.private.Reads.{IsNext, TellsFault}
use Rattle.ml_refutation_text.proofs.Going.{refused_line}
use Rattle.ml_refutation_text.proofs.rows.read_sequent.Goals as goal

pub returns-in-Err-clause-refused : goal.returns-in-Err-clause-refused
returns-in-Err-clause-refused c = record {
  in_table = λ v names size rows. c.in-Err.ensures.missing v (AtTableSequent names size rows) tt;
  in_entry = λ v k es. c.in-Err.ensures.missing v (AtSequent k es) tt;
}

pub returns-in-Err-sequent_of-clause-refused : goal.returns-in-Err-sequent_of-clause-refused
returns-in-Err-sequent_of-clause-refused c =
    let words = words_of c.in-Ok.next.0.now in
    let rest = c.in-Ok.next.1 in record {
      in_table = λ v names size rows.
          let p = AtTableSequent names size rows in
          subst (TellsFault v p c.args.at) (sym c.at_line.ensures)
          (refused_line v p c.args.at rest words c.in-Err-sequent_of.refusal c.in-Ok.ensures.read
          (c.in-Err-sequent_of.ensures.table names size rows));
      in_entry = λ v k es.
          let p = AtSequent k es in
          subst (TellsFault v p c.args.at) (sym c.at_line.ensures)
          (refused_line v p c.args.at rest words c.in-Err-sequent_of.refusal c.in-Ok.ensures.read (c.in-Err-sequent_of.ensures.entry k es));
    }

pub returns-in-Ok-sequent_of-clause-read : goal.returns-in-Ok-sequent_of-clause-read
returns-in-Ok-sequent_of-clause-read c =
    let read = c.in-Ok-sequent_of.ensures.read in record {
      next = subst (λ l. IsNext c.args.at l c.in-Ok.next.1) read.0 c.in-Ok.ensures.read;
      fit = read.1;
      ascends = read.2;
    }
