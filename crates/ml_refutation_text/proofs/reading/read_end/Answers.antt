use Rattle.std.proofs.Common.{◌≡◌, codes, length, ap, sym, subst, arith}
use Rattle.std.proofs.lemmas.Bool.Decides.{nat_tests}
use Rattle.ml_lines.specs.Reading.{words_of}
use Rattle.ml_refutation_text.specs.BodyRules.{AtEnd}
use Rattle.ml_refutation_text.specs.private.Reads.{TellsFault}
use Rattle.ml_refutation_text.specs.declared.body_rule.BodyRule.TheVariants.{OfKind}
use Rattle.ml_refutation_text.proofs.ReadWords.{differ, same_word, other_word}
use Rattle.ml_refutation_text.proofs.Going.{fault_on, fault_line}
use Rattle.ml_refutation_text.proofs.BodyRead.{end_goes, not_end, behind_end}
use Rattle.ml_refutation_text.proofs.reading.read_end.Goals as goal

pub returns-in-Err-clause-refused : goal.returns-in-Err-clause-refused
returns-in-Err-clause-refused c = λ v r. c.in-Err.ensures.missing v (AtEnd r) tt

pub returns-then-is_empty-clause-read : goal.returns-then-is_empty-clause-read
returns-then-is_empty-clause-read c = λ v r.
    let line = c.in-Ok.next.0.now in
    let is = same_word line c.as_slice.result.now (codes "end") c.if-eq.ensures c.as_slice.ensures in
    end_goes v c.args.at c.in-Ok.next.1 r (words_of line) c.in-Ok.ensures.read (ap words_of is)

pub returns-else-is_empty-clause-refused : goal.returns-else-is_empty-clause-refused
returns-else-is_empty-clause-refused c = λ v r.
    let line = c.in-Ok.next.0.now in
    let rest = c.in-Ok.next.1 in
    let is = same_word line c.as_slice.result.now (codes "end") c.if-eq.ensures c.as_slice.ensures in
    let some : length rest.text.now ≡ 0 → ⊥ = grind (arith, nat_tests) in
    fault_on c.fault.result (end_goes v c.args.at rest r (words_of line) c.in-Ok.ensures.read (ap words_of is))
    (behind_end v r rest c.fault.result (λ none. some (ap length none)) c.fault.ensures)

pub returns-else-eq-clause-refused : goal.returns-else-eq-clause-refused
returns-else-eq-clause-refused c = λ v r.
    let line = c.in-Ok.next.0.now in
    let other = other_word line c.as_slice.result.now (codes "end") c.if-eq.ensures c.as_slice.ensures in
    subst (TellsFault v (AtEnd r) c.args.at) (sym c.fault-else-eq.ensures)
    (fault_line v (AtEnd r) c.args.at c.in-Ok.next.1 (words_of line) OfKind c.in-Ok.ensures.read
    (not_end r line (differ line (codes "end") other)))
