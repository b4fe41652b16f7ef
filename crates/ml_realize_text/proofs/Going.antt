-- Going through a text line by line, and where it is refused.
--
--   goes_begin, goes_on   == nothing is read yet; further lines behind those that were read
--   room_on               == there is room for the numbers of the lines that are left
--   told_behind           == the first bad line behind lines that lead to its place is the first bad one
--   told_line             == the next line is the first bad one, where it breaks a rule
--   told_missing          == so is a missing one
use Rattle.std.proofs.Common.{◌≡◌, ℕ, List, [], ◌∷◌, ◌++◌, refl, sym, ap, subst, ◌∙◌, append_assoc, length-append, arith}
use Rattle.ml_base.specs.declared.doc_refusal.DocRefusal.{DocRefusal}
use Rattle.ml_base.specs.declared.doc_refusal.DocRefusal.TheVariants as refused
use Rattle.ml_lines.specs.Lines.{Line}
use Rattle.ml_lines.specs.Reading.{left_of, lines_of}
use Rattle.ml_lines.proofs.Faults.{fault_here, fault_missing}
use Rattle.ml_lists.specs.Documents.{IsFirstBad}
use Rattle.ml_realize_text.specs.RealizeRules.{Place, realize, rule_number}
use Rattle.ml_realize_text.specs.private.Reads.{Breaks, Goes, HasRoom, TellsFault}
use Rattle.ml_realize_text.specs.declared.line_rule.LineRule.{LineRule}
use Rattle.ml_realize_text.specs.declared.rest.Rest.{Rest}
use Rattle.ml_lists.specs.Readings.{Runs}
use Rattle.ml_lists.proofs.Runs.{runs_bad}

pub goes_begin : (at : Rest) → Goes at [] at
goes_begin at = record { lines_are = refl; left_is = refl; counted = omega arith; shorter = omega arith }

pub goes_on : {at mid rest : Rest} {ls ks : List Line} → Goes at ls mid → Goes mid ks rest → Goes at (ls ++ ks) rest
goes_on {at = at} {mid = mid} {rest = rest} {ls = ls} {ks = ks} first second = record {
  lines_are =
      first.lines_are ∙ ap (λ more. ls ++ more) second.lines_are ∙ sym (append_assoc ls ks (lines_of rest.text.now));
  left_is = first.left_is ∙ second.left_is;
  counted = omega (arith, first.counted, second.counted, length-append ls ks);
  shorter = omega (arith, first.shorter, second.shorter, length-append ls ks);
}

pub room_on : {at rest : Rest} {ls : List Line} → Goes at ls rest → HasRoom at → HasRoom rest
room_on goes room = omega (arith, goes.counted, goes.shorter, room)

pub told_behind : (p q : Place) (at rest : Rest) (ls : List Line) (e : DocRefusal)
    → Goes at ls rest
    → ((left : List ℕ) → Runs (realize left) p ls q)
    → TellsFault q rest e
    → TellsFault p at e
told_behind p q at rest ls refused.NoMemory goes runs tells = tt
told_behind p q at rest ls (refused.Fault fault) goes runs tells =
    let left = left_of at.text.now in
    let behind : IsFirstBad (realize left) rest.line q (lines_of rest.text.now) fault.line fault.rule =
    subst (λ l. IsFirstBad (realize l) rest.line q (lines_of rest.text.now) fault.line fault.rule) (sym goes.left_is) tells in
    subst (λ lines. IsFirstBad (realize left) at.line p lines fault.line fault.rule) (sym goes.lines_are)
    (runs_bad (realize left) at.line rest.line p q ls (lines_of rest.text.now) fault.line fault.rule (runs left) goes.counted behind)

pub told_line : (p : Place) (at rest : Rest) (line : Line) (rule : LineRule)
    → Goes at (line ∷ []) rest
    → Breaks p line rule
    → TellsFault p at (refused.Fault (record { line = at.line; rule = rule_number rule }))
told_line p at rest line rule goes breaks =
    fault_here realize at.line p at.text.now (rule_number rule) line (lines_of rest.text.now) goes.lines_are
    (breaks (left_of at.text.now))

pub told_missing : (p : Place) (at : Rest) (rule : LineRule)
    → lines_of at.text.now ≡ []
    → Breaks p [] rule
    → TellsFault p at (refused.Fault (record { line = at.line; rule = rule_number rule }))
told_missing p at rule none breaks =
    fault_missing realize at.line p at.text.now (rule_number rule) none (breaks (left_of at.text.now))
