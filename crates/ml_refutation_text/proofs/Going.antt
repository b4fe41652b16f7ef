-- Going from place to place through a text, and where it is refused.
--
--   goes_begin, goes_on   == nothing is read yet; further lines behind those that were read
--   goes_line, goes_lines == one good line; lines that run from place to place
--   fault_on              == the first bad line behind good ones is the first bad one
--   fault_line, refused_line == the next line is the first bad one, where it breaks a rule
--   room_on, room_behind  == there is room for the numbers of the lines that are left
use Rattle.std.proofs.Common.{◌≡◌, ℕ, ◌+◌, List, [], ◌∷◌, refl, sym, subst, ◌∙◌, arith}
use Rattle.ml_base.specs.declared.version.Version.{Version}
use Rattle.ml_base.specs.declared.doc_refusal.DocRefusal.{DocRefusal}
use Rattle.ml_base.specs.declared.doc_refusal.DocRefusal.TheVariants as refused
use Rattle.ml_lines.specs.Lines.{Line}
use Rattle.ml_lines.specs.Reading.{lines_of, left_of}
use Rattle.ml_lines.proofs.Faults.{fault_here}
use Rattle.ml_lists.specs.Documents.{IsGood, IsFirstBad}
use Rattle.ml_lists.specs.Readings.{IsReadTo, nothing_read, line_read, Runs}
use Rattle.ml_lists.proofs.Documents.{bad_behind, read_on}
use Rattle.ml_refutation_text.specs.BodyRules.{Place, after, body}
use Rattle.ml_refutation_text.specs.RuleNumbers.{rule_number}
use Rattle.ml_refutation_text.specs.private.Reads.{HasRoom, IsNext, Goes, Breaks, TellsRule, TellsFault, at_line}
use Rattle.ml_refutation_text.specs.declared.body_rule.BodyRule.{BodyRule}
use Rattle.ml_refutation_text.specs.declared.rest.Rest.{Rest}
use Rattle.ml_lines.specs.declared.refusal.LineRefusal.{LineRefusal}
use Rattle.ml_lines.specs.declared.refusal.LineRefusal.TheVariants as line

pub goes_on : {v : Version} {p q r : Place} {at mid rest : Rest} → Goes v p at q mid → Goes v q mid r rest → Goes v p at r rest
goes_on {v = v} {p = p} {q = q} {r = r} {at = at} {mid = mid} {rest = rest} first second = record {
  read =
      read_on (body v (left_of at.text.now)) at.line p (lines_of at.text.now) mid.line q (lines_of mid.text.now) rest.line r
      (lines_of rest.text.now) first.read
      (subst (λ left. IsReadTo (body v left) mid.line q (lines_of mid.text.now) rest.line r (lines_of rest.text.now))
      (sym first.left_is) second.read);
  left_is = first.left_is ∙ second.left_is;
  room = omega (arith, first.room, second.room);
}

pub fault_on : {v : Version} {p q : Place} {at rest : Rest} (e : DocRefusal)
    → Goes v p at q rest
    → TellsFault v q rest e
    → TellsFault v p at e
fault_on refused.NoMemory goes tells = tt
fault_on {v = v} {p = p} {q = q} {at = at} {rest = rest} (refused.Fault fault) goes tells =
    bad_behind (body v (left_of at.text.now)) at.line p (lines_of at.text.now) rest.line q (lines_of rest.text.now) fault.line fault.rule
    goes.read
    (subst (λ left. IsFirstBad (body v left) rest.line q (lines_of rest.text.now) fault.line fault.rule) (sym goes.left_is) tells)

pub room_on : {v : Version} {p q : Place} {at rest : Rest} → Goes v p at q rest → HasRoom at → HasRoom rest
room_on goes room = omega (arith, goes.room, room)

module _ (v : Version) where
  pub goes_begin : (p : Place) (at : Rest) → Goes v p at p at
  goes_begin p at = record { read = nothing_read; left_is = refl; room = omega arith }

  -- one line
  pub goes_line : (p q : Place) (at rest : Rest) (line : Line)
      → IsNext at line rest
      → IsGood (body v (left_of at.text.now)) p line
      → after v p line ≡ q → Goes v p at q rest
  goes_line p q at rest line next good leads = record {
    read =
        subst (λ place. IsReadTo (body v (left_of at.text.now)) at.line p (lines_of at.text.now) rest.line place (lines_of rest.text.now)) leads
        (subst (λ j. IsReadTo (body v (left_of at.text.now)) at.line p (lines_of at.text.now) j (after v p line) (lines_of rest.text.now))
        (sym next.counted)
        (subst (λ ls. IsReadTo (body v (left_of at.text.now)) at.line p ls (at.line + 1) (after v p line) (lines_of rest.text.now))
        (sym next.begins) (line_read at.line p line (lines_of rest.text.now) nothing_read good)));
    left_is = next.left_is;
    room = omega (arith, next.shorter, next.counted);
  }

  -- a line that runs from place to place
  pub goes_run : (p q : Place) (at rest : Rest) (line words : Line) → IsNext at line rest → line ≡ words
      → ((left : List ℕ) → Runs (body v left) p (words ∷ []) q) → Goes v p at q rest
  goes_run p q at rest line words next is runs =
      let run = runs (left_of at.text.now) in
      goes_line p q at rest words (subst (λ l. IsNext at l rest) is next) run.0 run.1

  pub fault_line : (p : Place) (at rest : Rest) (line : Line) (rule : BodyRule)
      → IsNext at line rest
      → Breaks p line rule
      → TellsFault v p at (refused.Fault (record { line = at.line; rule = rule_number rule }))
  fault_line p at rest line rule next breaks =
      fault_here (body v) at.line p at.text.now (rule_number rule) line (lines_of rest.text.now) next.begins (breaks (left_of at.text.now))

  pub refused_line : (p : Place) (at rest : Rest) (l : Line) (e : LineRefusal BodyRule) → IsNext at l rest → TellsRule p l e
      → TellsFault v p at (at_line at.line e)
  refused_line p at rest l (line.Breaks rule) next breaks = fault_line p at rest l rule next breaks
  refused_line p at rest l line.NoMemory next breaks = tt

pub room_behind : (at rest : Rest) (line : Line) → IsNext at line rest → HasRoom at → HasRoom rest
room_behind at rest line next room = omega (arith, next.shorter, next.counted, room)
