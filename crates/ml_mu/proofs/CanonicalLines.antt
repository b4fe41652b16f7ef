-- The canonical text of a formula of the mu-calculus has no line end in it.
--
--   canonical_in_line  == where its names are spelled as they must be, it stands in one line
use Rattle.std.proofs.Common.{◌≡◌, ℕ, true, false, List, codes, bytes_eq, refl}
use Rattle.std.specs.Cmp.{first_so}
use Rattle.std.proofs.lemmas.Bool.{and_parts}
use Rattle.ml_lines.proofs.InLine.{between_in_line, both_in_line, seven_in_line, three_in_line, unless_blank}
use Rattle.ml_lines.proofs.LineFronts.{IsInLine}
use Rattle.ml_text.specs.Operators.{spelling_of}
use Rattle.ml_text.proofs.Names.{spelled_parts}
use Rattle.ml_text.proofs.WithoutByte.{action_without, each_spelling, proposition_without, upper_without}
use Rattle.ml_mu.specs.Canonical.{action_text, canonical_text, fixpoint_word, modality_text}
use Rattle.ml_mu.specs.Formula as plain
use Rattle.ml_mu.specs.Formula.{Formula}
use Rattle.ml_mu.specs.FormulaNames.{names}
use Rattle.ml_mu.specs.declared.term.Fixpoint.{Fixpoint}
use Rattle.ml_mu.specs.declared.term.Fixpoint.TheVariants.{Least, Greatest}
use Rattle.ml_mu.specs.declared.term.Modality.{Modality}
use Rattle.ml_mu.specs.declared.term.Modality.TheVariants.{Diamond, Square}
use Rattle.ml_mu.specs.Signs.{own}
use Rattle.ml_mu.specs.Spelling.{is_action, is_proposition, is_spelled, is_variable}

action_text_in_line : (a : List ℕ) → is_action a ≡ true → IsInLine (action_text a)
action_text_in_line a is = unless_blank (bytes_eq a (codes "_")) a (action_without 10 refl own a is)

modality_in_line : (m : Modality) (a : List ℕ) → is_action a ≡ true → IsInLine (modality_text m a)
modality_in_line Diamond a is = three_in_line (codes "<") (action_text a) (codes ">") refl (action_text_in_line a is) refl
modality_in_line Square a is = three_in_line (codes "[") (action_text a) (codes "]") refl (action_text_in_line a is) refl

fixpoint_in_line : (q : Fixpoint) → IsInLine (fixpoint_word q)
fixpoint_in_line Least = refl
fixpoint_in_line Greatest = refl

pub canonical_in_line : (f : Formula) → is_spelled f ≡ true → IsInLine (canonical_text f)
canonical_in_line (plain.Const true) is = refl
canonical_in_line (plain.Const false) is = refl
canonical_in_line (plain.Prop p) is = proposition_without 10 refl own p (first_so (is_proposition p) true is)
canonical_in_line (plain.Var x) is = upper_without 10 refl x (first_so (is_variable x) true is)
canonical_in_line (plain.Not f) is = canonical_in_line f is
canonical_in_line (plain.Binary o f g) is =
    let parts = spelled_parts own (names f) (names g) is in
    between_in_line (canonical_text f) (spelling_of o) (canonical_text g) (canonical_in_line f parts.0) (each_spelling IsInLine refl refl refl refl o)
    (canonical_in_line g parts.1)
canonical_in_line (plain.Modal m a f) is =
    let parts = and_parts (is_action a) (is_spelled f) is in
    both_in_line (modality_text m a) (canonical_text f) (modality_in_line m a parts.0) (canonical_in_line f parts.1)
canonical_in_line (plain.Binder q x f) is =
    let parts = and_parts (is_variable x) (is_spelled f) is in
    seven_in_line (codes "(") (fixpoint_word q) (codes " ") x (codes ". ") (canonical_text f) (codes ")") refl
    (fixpoint_in_line q) refl (upper_without 10 refl x parts.0) refl (canonical_in_line f parts.1) refl
