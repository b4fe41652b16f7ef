-- A text has one formula at most and one answer at most.
--
--   one_formula       == a text stands for one formula at most
--   canonical_one     == the canonical text of a formula stands for it alone
--   one_answer        == a text is parsed as one formula or refused in one way
use Rattle.std.proofs.Common.{◌≡◌, ℕ, true, List, [], ◌∷◌, length, Some, None, refl, sym, ◌∙◌, ap}
use Rattle.ml_base.specs.declared.parse_refusal.ParseRefusal.{ParseRefusal}
use Rattle.ml_base.specs.declared.parse_refusal.ParseRefusal.TheVariants as refusal
use Rattle.ml_text.specs.Answers.{HaveOneAnswer, IsUnambiguous}
use Rattle.ml_text.specs.Refusals.{Cause, Syntax, TooMany, TooNested, NameTooLong, offset_of, signs_of}
use Rattle.ml_text.proofs.Complete.{one_tree}
use Rattle.ml_text.proofs.OneAnswer.{refused_once, accepted_not_refused}
use Rattle.ml_mu.specs.Canonical.{canonical_text}
use Rattle.ml_mu.specs.Formula.{Formula}
use Rattle.ml_mu.specs.Grammar.{IsReadAs}
use Rattle.ml_mu.specs.Parsing.{IsParsedAs, IsRefusedBy, ComesFirst, HasFault}
use Rattle.ml_mu.specs.ParsingLaws.{CanonicalStandsForOne}
use Rattle.ml_mu.specs.private.Tables.{mu_grammar}
use Rattle.ml_mu.specs.Text.{items, variable_places}
use Rattle.ml_mu.specs.TextLaws.{IsTextOf}
use Rattle.ml_mu.specs.VariableFaults.{Standing, Fine, Unbound, NotPositive, standings, fault_at, are_fine}
use Rattle.ml_mu.proofs.CanonicalTexts.{canonical_stands}
use Rattle.ml_mu.proofs.MuGrammar.{mu_regular, read_stands}
use Rattle.ml_mu.proofs.SomeAnswer.{some_answer}

pub one_formula : IsUnambiguous IsTextOf
one_formula text f g a b =
    one_tree mu_grammar mu_regular (signs_of (items text)) f g (read_stands (signs_of (items text)) f a)
    (read_stands (signs_of (items text)) g b)

pub canonical_one : CanonicalStandsForOne
canonical_one f g is = let stands = canonical_stands f is in (stands, λ other. one_formula (canonical_text f) g f other stands)

-- a fault of no place is none
fine_no_fault : (ss : List Standing) (places : List ℕ) → are_fine ss ≡ true → fault_at ss places ≡ None
fine_no_fault [] places is = refl
fine_no_fault (Fine ∷ ss) [] is = refl
fine_no_fault (Fine ∷ ss) (at ∷ places) is = fine_no_fault ss places is
fine_no_fault (Unbound ∷ ss) places is = absurd (cc)
fine_no_fault (NotPositive ∷ ss) places is = absurd (cc)

parsed_no_fault : (text : List ℕ) (f : Formula) (s : Standing) (at : ℕ) → IsParsedAs text f → HasFault text s at → ⊥
parsed_no_fault text f s at parsed fault =
    let same : fault.0 ≡ f = one_formula text fault.0 f (fault.1).stands parsed.accepted.stands in
    let none = fine_no_fault (standings f) (variable_places (items text)) parsed.fine in
    let some = ap (λ h. fault_at (standings h) (variable_places (items text))) (sym same) ∙ fault.2 in
    cc

parsed_not_first : (text : List ℕ) (f : Formula) (c : Cause) (at : ℕ) → IsParsedAs text f → ComesFirst text c at → ⊥
parsed_not_first text f c at parsed first = accepted_not_refused IsReadAs (items text) f c first.0 parsed.accepted first.1

parsed_or_refused : (text : List ℕ) (f : Formula) (e : ParseRefusal)
    → IsParsedAs text f
    → IsRefusedBy text e
    → e ≡ refusal.NoMemory
parsed_or_refused text f (refusal.Syntax at) parsed is = absurd (parsed_not_first text f Syntax at parsed is)
parsed_or_refused text f (refusal.TooMany at) parsed is = absurd (parsed_not_first text f TooMany at parsed is)
parsed_or_refused text f (refusal.TooNested at) parsed is = absurd (parsed_not_first text f TooNested at parsed is)
parsed_or_refused text f (refusal.NameTooLong at) parsed is = absurd (parsed_not_first text f NameTooLong at parsed is)
parsed_or_refused text f (refusal.Unbound at) parsed is = absurd (parsed_no_fault text f Unbound at parsed is)
parsed_or_refused text f (refusal.NotPositive at) parsed is = absurd (parsed_no_fault text f NotPositive at parsed is)
parsed_or_refused text f refusal.NoMemory parsed is = refl

-- ---- refusals, seen as a cause or a standing, with the place

pub data Reason : Type 0 where
  For : Cause → Reason
  Because : Standing → Reason
  Wanting : Reason

abbrev pub reason_of : ParseRefusal → Reason × ℕ
reason_of (refusal.Syntax at) = (For Syntax, at)
reason_of (refusal.TooMany at) = (For TooMany, at)
reason_of (refusal.TooNested at) = (For TooNested, at)
reason_of (refusal.NameTooLong at) = (For NameTooLong, at)
reason_of (refusal.Unbound at) = (Because Unbound, at)
reason_of (refusal.NotPositive at) = (Because NotPositive, at)
reason_of refusal.NoMemory = (Wanting, 0)

-- what a reason says of a text
abbrev pub Holds : List ℕ → Reason → ℕ → Type 0
Holds text (For c) at = ComesFirst text c at
Holds text (Because s) at = HasFault text s at
Holds text Wanting at = ⊥

abbrev pub refusal_of : Reason → ℕ → ParseRefusal
refusal_of (For Syntax) at = refusal.Syntax at
refusal_of (For TooMany) at = refusal.TooMany at
refusal_of (For TooNested) at = refusal.TooNested at
refusal_of (For NameTooLong) at = refusal.NameTooLong at
refusal_of (Because Unbound) at = refusal.Unbound at
refusal_of (Because NotPositive) at = refusal.NotPositive at
refusal_of (Because Fine) at = refusal.NoMemory
refusal_of Wanting at = refusal.NoMemory

back : (e : ParseRefusal) → refusal_of (reason_of e).0 (reason_of e).1 ≡ e
back (refusal.Syntax at) = refl
back (refusal.TooMany at) = refl
back (refusal.TooNested at) = refl
back (refusal.NameTooLong at) = refl
back (refusal.Unbound at) = refl
back (refusal.NotPositive at) = refl
back refusal.NoMemory = refl

holds : (text : List ℕ) (e : ParseRefusal)
    → (e ≡ refusal.NoMemory → ⊥)
    → IsRefusedBy text e
    → Holds text (reason_of e).0 (reason_of e).1
holds text (refusal.Syntax at) some is = is
holds text (refusal.TooMany at) some is = is
holds text (refusal.TooNested at) some is = is
holds text (refusal.NameTooLong at) some is = is
holds text (refusal.Unbound at) some is = is
holds text (refusal.NotPositive at) some is = is
holds text refusal.NoMemory some is = some refl

same_reason : (text : List ℕ) (a b : Reason) (i j : ℕ) → Holds text a i → Holds text b j → (a ≡ b) × (i ≡ j)
same_reason text (For c) (For d) i j a b =
    let same = refused_once IsReadAs (items text) c d a.0 b.0 a.1 b.1 in
    (ap For same.0, a.2 ∙ ap (offset_of (items text) (length text)) same.1 ∙ sym b.2)
same_reason text (For c) (Because s) i j a b = absurd (accepted_not_refused IsReadAs (items text) b.0 c a.0 b.1 a.1)
same_reason text (Because s) (For c) i j a b = absurd (accepted_not_refused IsReadAs (items text) a.0 c b.0 a.1 b.1)
same_reason text (Because s) (Because r) i j a b =
    let same : a.0 ≡ b.0 = one_formula text a.0 b.0 (a.1).stands (b.1).stands in
    let both : Some (s, i) ≡ Some (r, j) = sym a.2 ∙ ap (λ h. fault_at (standings h) (variable_places (items text))) same ∙ b.2 in
    let pair : (s, i) ≡ (r, j) = cc in
    (ap (λ (p : Standing × ℕ). Because p.0) pair, ap (λ (p : Standing × ℕ). p.1) pair)
same_reason text Wanting b i j a c = absurd a
same_reason text (For c) Wanting i j a b = absurd b
same_reason text (Because s) Wanting i j a b = absurd b

refused_one_way : (text : List ℕ) (e d : ParseRefusal)
    → (e ≡ refusal.NoMemory → ⊥)
    → (d ≡ refusal.NoMemory → ⊥)
    → IsRefusedBy text e
    → IsRefusedBy text d
    → e ≡ d
refused_one_way text e d a b p q =
    let same = same_reason text (reason_of e).0 (reason_of d).0 (reason_of e).1 (reason_of d).1 (holds text e a p) (holds text d b q) in
    sym (back e) ∙ ap (λ r. refusal_of r (reason_of e).1) same.0 ∙ ap (refusal_of (reason_of d).0) same.1 ∙ back d

pub one_answer : HaveOneAnswer IsParsedAs IsRefusedBy
one_answer = record {
  some = some_answer;
  parsed = λ text f g a b. one_formula text f g a.accepted.stands b.accepted.stands;
  refused = refused_one_way;
  exclusive = parsed_or_refused;
}
