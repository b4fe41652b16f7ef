-- The names of a formula that is read are those of its signs.
--
--   spelled_number, short_number == a number has no name
--   reads_names   == what holds of the names of signs holds of the names of what is read from them
--   text_spelled  == the names of a formula that a text stands for are spelled as they must be
--   text_short    == and they are short, where the text has no long names
use Rattle.std.proofs.Common.{◌≡◌, ℕ, ◌-◌, Bool, true, false, List, ◌++◌, drop, refl}
use Rattle.std.specs.List.{AllByRecursion}
use Rattle.ml_text.specs.declared.token.WordStart.TheVariants.{LowerCase}
use Rattle.ml_text.specs.declared.token.Placed.{Placed}
use Rattle.ml_text.specs.declared.named_signs.Sign.TheVariants.{Lower, Upper, Added}
use Rattle.ml_text.specs.Tokens.{tokens}
use Rattle.ml_text.specs.Levels.{Level}
use Rattle.ml_text.specs.Refusals.{NameTooLong, IsAccepted}
use Rattle.ml_text.specs.Items.{bytes_of}
use Rattle.ml_text.specs.Names.{KindedName, IsShortName}
use Rattle.ml_text.specs.SignKinds.{HasShortName}
use Rattle.ml_text.proofs.Cover.{are_tokens}
use Rattle.ml_text.proofs.NamedSigns.{IsSpelledSign, short_name, spelled_sign}
use Rattle.ml_lists.proofs.AllOf.{all_both}
use Rattle.ml_text.proofs.Names.{Bears, IsSpelledName, bears_short, bears_spelled, spelled_all}
use Rattle.ml_text.proofs.TableItems.{signs_all, signs_short}
use Rattle.ml_bounded.specs.Formula.{Formula}
use Rattle.ml_bounded.specs.FormulaNames.{names}
use Rattle.ml_bounded.specs.Numbers.{begins_number, number_at}
use Rattle.ml_bounded.specs.declared.term.Bound.{Bound}
use Rattle.ml_bounded.specs.declared.signs.Own.TheVariants.{Digit}
use Rattle.ml_bounded.specs.Grammar.{IsReadAs, ReadsDigits, last, digit, ReadsNumber, number, ReadsBound, next, within}
use Rattle.ml_bounded.specs.Grammar.{Reads, alone, joined, pair_alone, pair, negation, temporal, bounded}
use Rattle.ml_bounded.specs.Grammar.{group, constant, proposition}
use Rattle.ml_bounded.specs.Signs.{Sign, numbered, own}
use Rattle.ml_bounded.specs.Spelling.{HasShortNames, is_spelled}
use Rattle.ml_bounded.specs.Text.{bounded_signs, items, sign_at, sign_by}

pub spelled_number : (b : Bool) (n : ℕ) (s : Sign) → IsSpelledSign own s → IsSpelledSign own (numbered b n s)
spelled_number true n (Added Digit) is = tt
spelled_number false n (Added Digit) is = tt
spelled_number b n (Lower p) is = is
spelled_number b n (Upper p) is = is
spelled_number b n _ is = tt

pub short_number : (b : Bool) (n : ℕ) (s : Sign) → HasShortName s → HasShortName (numbered b n s)
short_number true n (Added Digit) is = tt
short_number false n (Added Digit) is = tt
short_number b n (Lower p) is = is
short_number b n (Upper p) is = is
short_number b n _ is = tt

module _ (P : KindedName → Type 0) where
  abbrev All : List Sign → Type 0
  All ts = AllByRecursion (Bears P) ts

  abbrev Keeps : Formula → List Sign → Type 0
  Keeps f rest = AllByRecursion P (names f) × All rest

  both : (f g : Formula) (rest : List Sign)
      → AllByRecursion P (names f)
      → Keeps g rest
      → AllByRecursion P (names f ++ names g) × All rest
  both f g rest left right = (all_both P (names f) (names g) left right.0, right.1)

  digits_rest : {ts rest : List Sign} → ReadsDigits ts rest → All ts → All rest
  digits_rest last is = is
  digits_rest (digit d) is = digits_rest d is.1

  number_rest : {n : ℕ} {ts rest : List Sign} → ReadsNumber n ts rest → All ts → All rest
  number_rest (number n d) is = digits_rest d is.1

  bound_rest : {b : Bound} {ts rest : List Sign} → ReadsBound b ts rest → All ts → All rest
  bound_rest (next n r) is = (number_rest r (is.1).1).1
  bound_rest (within e m n le a b) is = (number_rest b (number_rest a (is.1).1).1).1

  pub reads_names : {l : Level} {ts rest : List Sign} {f : Formula} → Reads l ts f rest → All ts → Keeps f rest
  reads_names (alone o r) is = reads_names r is
  reads_names (joined {f = f} {g = g} o a b) is = let x = reads_names a is in both f g _ x.0 (reads_names b (x.1).1)
  reads_names (pair_alone r) is = reads_names r is
  reads_names (pair {f = f} {g = g} p a b) is = let x = reads_names a is in both f g _ x.0 (reads_names b (x.1).1)
  reads_names (negation r) is = reads_names r is.1
  reads_names (temporal t r) is = reads_names r is.1
  reads_names (bounded b begins r) is = reads_names r (bound_rest begins is)
  reads_names (group r) is = let x = reads_names r is.1 in (x.0, (x.1).1)
  reads_names (constant b) is = (tt, is.1)
  reads_names (proposition p) is = ((is.0.0, tt), is.1)

spelled_at : (text : List ℕ) (p : Placed) → IsSpelledSign own (sign_at text p)
spelled_at text p =
    spelled_number (begins_number text p.start) (number_at (drop p.start text)) (sign_by text p)
    (spelled_sign own p.token (bytes_of text p))

pub text_spelled : (text : List ℕ) (f : Formula) → IsAccepted IsReadAs (items text) f → is_spelled f ≡ true
text_spelled text f accepted =
    let signs = signs_all bounded_signs (Bears (IsSpelledName own)) text
    (λ p. bears_spelled own refl (sign_at text p) (spelled_at text p))
    tt (tokens LowerCase text) in
    spelled_all own (names f) (reads_names (IsSpelledName own) accepted.stands signs).0

pub text_short : (text : List ℕ) (f : Formula) → IsAccepted IsReadAs (items text) f → HasShortNames f
unfolding tokens
text_short text f accepted =
    let signs = signs_short bounded_signs (Bears IsShortName) LowerCase text
    (λ p short size. bears_short (sign_at text p)
    (short_number (begins_number text p.start) (number_at (drop p.start text)) (sign_by text p)
    (short_name own p.token (bytes_of text p) (p.end - p.start) short size)))
    0 tt (tokens LowerCase text) (are_tokens LowerCase text 0) (accepted.keeps NameTooLong) in
    (reads_names IsShortName accepted.stands signs).0
