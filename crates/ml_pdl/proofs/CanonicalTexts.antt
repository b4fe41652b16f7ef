-- The canonical text of a formula stands for it.
--
--   tokens_onto f ss, program_onto p ss == the tokens of the canonical text of f, or of p, in front of the tokens ss
--   scans_formula, scans_program        == these are its tokens
--   formula_even, program_even          == their parentheses are partners of one another
--   operand_read, operands_read         == an operand, or two with a connective between them, are read as a whole formula
--   reads_formula, reads_program        == their signs, with the marks that they have, are read as f, or as p
--   canonical_tokens                    == these are the tokens of the text alone
--   canonical_stands                    == so the text stands for f
use Rattle.std.proofs.Common.{◌≡◌, ℕ, suc, ◌⊎◌, Bool, true, false, ◌==◌, List, [], ◌∷◌, ◌++◌, map, Some, refl, sym, ◌∙◌}
use Rattle.std.proofs.Common.{ap, subst, if◌then◌else◌, cond, codes, append_assoc, bytes_eq, ⊎_elim, inl, inr}
use Rattle.std.specs.Cmp.{first_so}
use Rattle.std.specs.List.{list_all}
use Rattle.std.proofs.lemmas.Bool.{and_parts, cases_Bool, cond-false}
use Rattle.std.proofs.lemmas.List.{append-nil}
use Rattle.std.proofs.lemmas.Slice.Eq.{bytes_eq-Decides}
use Rattle.ml_text.specs.Bytes.{is_letter, is_word_byte}
use Rattle.ml_text.specs.declared.token.Operator.{Operator}
use Rattle.ml_text.specs.declared.token.Operator.TheVariants as operator
use Rattle.ml_text.specs.declared.token.Token.TheVariants as token
use Rattle.ml_text.specs.declared.token.WordStart.TheVariants.{AnyLetter}
use Rattle.ml_text.specs.declared.token.Placed.{Placed}
use Rattle.ml_text.specs.Tokens.{tokens}
use Rattle.ml_text.specs.Words.{constant_of, is_word_from}
use Rattle.ml_text.specs.Refusals.{signs_of}
use Rattle.ml_text.specs.Operators.{spelling_of}
use Rattle.ml_text.specs.Levels.{Joined, Operand}
use Rattle.ml_text.proofs.LooserLevels.{raised, left_raised, right_raised, loosest}
use Rattle.ml_text.proofs.ByteKinds.{differs_by}
use Rattle.ml_text.proofs.NamedSigns.{action_sign, proposition_sign}
use Rattle.ml_text.proofs.Pieces.{lone, lone_piece, less_piece, not_piece, operator_piece, between_same, ends_word, word_piece}
use Rattle.ml_text.proofs.Scans.{Spelt, spelt_at, Scans, ends, scans_tokens}
use Rattle.ml_text.proofs.FreeWords.{proposition_letters}
use Rattle.ml_text.proofs.Names.{spelled_parts}
use Rattle.ml_pdl.specs.Formula as plain
use Rattle.ml_pdl.specs.Formula.{Formula, Program}
use Rattle.ml_pdl.specs.FormulaNames.{names, program_names}
use Rattle.ml_pdl.specs.declared.term.Modality.{Modality}
use Rattle.ml_pdl.specs.declared.term.Modality.TheVariants.{Diamond, Square}
use Rattle.ml_pdl.specs.Canonical.{whole_program, modality_text, canonical_text, program_text}
use Rattle.ml_text.specs.Signs.{name_of, word_sign}
use Rattle.ml_text.specs.declared.named_signs.Sign.TheVariants.{Connective, Const, Open, Lower, Upper, Close, Added}
use Rattle.ml_pdl.specs.Signs.{Sign, own as added, sign_of, action_of}
use Rattle.ml_pdl.specs.declared.signs.Own.TheVariants.{Begins, Ends, Repeats, Question, Paren}
use Rattle.ml_pdl.specs.declared.signs.Mark.TheVariants.{Marked}
use Rattle.ml_pdl.specs.Marks.{asks, is_test_behind, mark_of, with_mark}
use Rattle.ml_pdl.specs.MarkLaws.{marked}
use Rattle.ml_pdl.specs.Spelling.{is_action, is_proposition, is_reserved, is_spelled, program_is_spelled}
use Rattle.ml_pdl.specs.Grammar as grammar
use Rattle.ml_pdl.specs.Grammar.{Reads, alone, joined, negation, modal, modal_blank, repetition, group, constant}
use Rattle.ml_pdl.specs.Grammar.{proposition, ReadsProgram, alt_alone, alt, seq_alone, seq, star_alone, star, action, test, program_group, tested_group}
use Rattle.ml_pdl.specs.Text.{items, sign_by}
use Rattle.ml_pdl.specs.TextLaws.{IsTextOf}
use Rattle.ml_pdl.proofs.MarkBytes.{neutral_test, neutral_word, weaker}
use Rattle.ml_pdl.proofs.MarkedTexts.{marks_are_of_texts}

-- ---- the tokens of a canonical text

abbrev pub begin_byte : Modality → ℕ
begin_byte Diamond = 60
begin_byte Square = 91

abbrev pub end_byte : Modality → ℕ
end_byte Diamond = 62
end_byte Square = 93

abbrev pub action_token : List ℕ → Spelt
action_token a = if bytes_eq a (codes "_") then lone 95 else (token.Word, a)

-- what stands between the signs of a modality, by what the program's tokens are there
abbrev pub whole_tokens : Program → List Spelt → List Spelt → List Spelt
whole_tokens (plain.Act a) own after = if bytes_eq a (codes "_") then after else own
whole_tokens _ own after = own

abbrev mutual
  pub tokens_onto : Formula → List Spelt → List Spelt
  tokens_onto (plain.Const true) ss = (token.Word, codes "tt") ∷ ss
  tokens_onto (plain.Const false) ss = (token.Word, codes "ff") ∷ ss
  tokens_onto (plain.Prop p) ss = (token.Word, p) ∷ ss
  tokens_onto (plain.Not f) ss = (token.Not, codes "!") ∷ tokens_onto f ss
  tokens_onto (plain.Binary o f g) ss =
      lone 40 ∷ tokens_onto f ((token.Operator o, spelling_of o) ∷ tokens_onto g (lone 41 ∷ ss))
  tokens_onto (plain.Modal m p f) ss =
      lone (begin_byte m)
      ∷ whole_tokens p (program_onto p (lone (end_byte m) ∷ tokens_onto f ss)) (lone (end_byte m) ∷ tokens_onto f ss)
  tokens_onto (plain.Repeat p) ss = (token.Word, codes "repeat") ∷ lone 40 ∷ program_onto p (lone 41 ∷ ss)

  pub program_onto : Program → List Spelt → List Spelt
  program_onto (plain.Act a) ss = action_token a ∷ ss
  program_onto (plain.Seq p q) ss = lone 40 ∷ program_onto p (lone 59 ∷ program_onto q (lone 41 ∷ ss))
  program_onto (plain.Alt p q) ss = lone 40 ∷ program_onto p (lone 43 ∷ program_onto q (lone 41 ∷ ss))
  program_onto (plain.Star p) ss = program_onto p (lone 42 ∷ ss)
  program_onto (plain.Test f) ss = lone 40 ∷ tokens_onto f (lone 41 ∷ lone 63 ∷ ss)

-- a program that is written out between the signs of its modality
pub record IsWhole (p : Program) : Type 0 where
  pub text : (t : List ℕ) → whole_program p t ≡ t
  pub toks : (own after : List Spelt) → whole_tokens p own after ≡ own

pub whole_cases : (p : Program) → (p ≡ plain.Act (codes "_")) ⊎ IsWhole p
whole_cases (plain.Act a) =
    ⊎_elim
    (λ (any : bytes_eq a (codes "_") ≡ true). inl (ap plain.Act ((bytes_eq-Decides a (codes "_")).0 any)))
    (λ (other : bytes_eq a (codes "_") ≡ false).
    inr (record { text = λ t. cond-false _ _ _ other; toks = λ own after. cond-false _ _ _ other }))
    (cases_Bool (bytes_eq a (codes "_")))
whole_cases (plain.Seq p q) = inr (record { text = λ t. refl; toks = λ own after. refl })
whole_cases (plain.Alt p q) = inr (record { text = λ t. refl; toks = λ own after. refl })
whole_cases (plain.Star p) = inr (record { text = λ t. refl; toks = λ own after. refl })
whole_cases (plain.Test f) = inr (record { text = λ t. refl; toks = λ own after. refl })

-- ---- they are its tokens

end_piece : (m : Modality) (rest : List ℕ) (ss : List Spelt)
    → Scans AnyLetter rest ss
    → Scans AnyLetter (end_byte m ∷ rest) (lone (end_byte m) ∷ ss)
end_piece Diamond rest ss r = lone_piece AnyLetter 62 rest ss refl r
end_piece Square rest ss r = lone_piece AnyLetter 93 rest ss refl r

end_stops : (m : Modality) (rest : List ℕ) → ends_word (end_byte m ∷ rest) ≡ true
end_stops Diamond rest = refl
end_stops Square rest = refl

-- a text that may stand behind `<`
record Starts (text : List ℕ) : Type 0 where
  first : ℕ
  more : List ℕ
  is : text ≡ first ∷ more
  no_dash : (45 == first) ≡ false
  no_equals : (61 == first) ≡ false

begin_piece : (m : Modality) (text : List ℕ) (ss : List Spelt)
    → Starts text
    → Scans AnyLetter text ss
    → Scans AnyLetter (begin_byte m ∷ text) (lone (begin_byte m) ∷ ss)
begin_piece Square text ss s r = lone_piece AnyLetter 91 text ss refl r
begin_piece Diamond text ss s r =
    subst (λ t. Scans AnyLetter (60 ∷ t) (lone 60 ∷ ss)) (sym s.is)
    (less_piece AnyLetter s.first s.more ss s.no_dash s.no_equals (subst (λ t. Scans AnyLetter t ss) s.is r))

word_starts : (a rest : List ℕ) → is_word_from is_letter a ≡ true → Starts (a ++ rest)
word_starts [] rest word = absurd (cc)
word_starts (b ∷ bs) rest word =
    let letter = (and_parts (is_letter b) (list_all is_word_byte bs) word).0 in
    record {
      first = b;
      more = bs ++ rest;
      is = refl;
      no_dash = differs_by is_letter 45 b refl letter;
      no_equals = differs_by is_letter 61 b refl letter;
    }

open_starts : (text : List ℕ) → Starts (40 ∷ text)
open_starts text = record { first = 40; more = text; is = refl; no_dash = refl; no_equals = refl }

-- an action other than `_` is a word with its sign
action_named : (s : Sign) (a : List ℕ) → name_of s ≡ Some a → action_of s ≡ Some a
action_named (Lower b) a is = is
action_named (Upper b) a is = is
action_named _ a is = absurd (cc)

action_word : (a : List ℕ)
    → is_action a ≡ true
    → bytes_eq a (codes "_") ≡ false
    → (is_word_from is_letter a ≡ true) × (action_of (word_sign added a) ≡ Some a)
action_word a is other =
    let s = action_sign added refl a is other in (s.0, action_named (word_sign added a) a s.1)

action_starts : (a rest : List ℕ) → is_action a ≡ true → Starts (a ++ rest)
action_starts a rest is =
    ⊎_elim
    (λ (any : bytes_eq a (codes "_") ≡ true).
    subst (λ b. Starts (b ++ rest)) (sym ((bytes_eq-Decides a (codes "_")).0 any))
    (record { first = 95; more = rest; is = refl; no_dash = refl; no_equals = refl }))
    (λ (other : bytes_eq a (codes "_") ≡ false).
    let s = action_word a is other in
    word_starts a rest s.0)
    (cases_Bool (bytes_eq a (codes "_")))

program_starts : (p : Program) (rest : List ℕ) → program_is_spelled p ≡ true → Starts (program_text p ++ rest)
program_starts (plain.Act a) rest is = action_starts a rest (first_so (is_action a) true is)
program_starts (plain.Seq p q) rest is = open_starts _
program_starts (plain.Alt p q) rest is = open_starts _
program_starts (plain.Star p) rest is =
    subst Starts (sym (append_assoc (program_text p) (codes "*") rest)) (program_starts p (codes "*" ++ rest) is)
program_starts (plain.Test f) rest is = open_starts _

action_piece : (a rest : List ℕ) (ss : List Spelt)
    → is_action a ≡ true
    → ends_word rest ≡ true
    → Scans AnyLetter rest ss
    → Scans AnyLetter (a ++ rest) (action_token a ∷ ss)
action_piece a rest ss is stops r =
    ⊎_elim
    (λ (any : bytes_eq a (codes "_") ≡ true).
    subst (λ b. Scans AnyLetter (b ++ rest) (action_token b ∷ ss)) (sym ((bytes_eq-Decides a (codes "_")).0 any))
    (lone_piece AnyLetter 95 rest ss refl r))
    (λ (other : bytes_eq a (codes "_") ≡ false).
    let s = action_word a is other in
    subst (λ t. Scans AnyLetter (a ++ rest) (t ∷ ss)) (sym (cond-false (bytes_eq a (codes "_")) (lone 95) (token.Word, a) other))
    (word_piece AnyLetter a rest ss s.0 stops r))
    (cases_Bool (bytes_eq a (codes "_")))

joined_same : (a sp b rest : List ℕ)
    → (codes "(" ++ a ++ sp ++ b ++ codes ")") ++ rest ≡ 40 ∷ (a ++ (sp ++ (b ++ (41 ∷ rest))))
joined_same a sp b rest = simp append_assoc

modality_same : (m : Modality) (t f rest : List ℕ)
    → (modality_text m t ++ f) ++ rest ≡ begin_byte m ∷ (t ++ (end_byte m ∷ (f ++ rest)))
modality_same Diamond t f rest = simp append_assoc
modality_same Square t f rest = simp append_assoc

repeat_same : (t rest : List ℕ)
    → (codes "repeat(" ++ t ++ codes ")") ++ rest ≡ codes "repeat" ++ (40 ∷ (t ++ (41 ∷ rest)))
repeat_same t rest = simp append_assoc

test_same : (t rest : List ℕ) → (codes "(" ++ t ++ codes ")?") ++ rest ≡ 40 ∷ (t ++ (41 ∷ 63 ∷ rest))
test_same t rest = simp append_assoc

-- a modality whose program isn't written out, and one whose program is
blank_scans : (m : Modality) (f rest : List ℕ) (ss : List Spelt) → Scans AnyLetter (f ++ rest) ss
    → Scans AnyLetter ((modality_text m [] ++ f) ++ rest) (lone (begin_byte m) ∷ lone (end_byte m) ∷ ss)
blank_scans Diamond f rest ss r =
    begin_piece Diamond (62 ∷ (f ++ rest)) (lone 62 ∷ ss)
    (record { first = 62; more = f ++ rest; is = refl; no_dash = refl; no_equals = refl }) (end_piece Diamond (f ++ rest) ss r)
blank_scans Square f rest ss r =
    begin_piece Square (93 ∷ (f ++ rest)) (lone 93 ∷ ss)
    (record { first = 93; more = f ++ rest; is = refl; no_dash = refl; no_equals = refl }) (end_piece Square (f ++ rest) ss r)

close_piece : (rest : List ℕ) (ss : List Spelt) → Scans AnyLetter rest ss → Scans AnyLetter (41 ∷ rest) (lone 41 ∷ ss)
close_piece rest ss r = lone_piece AnyLetter 41 rest ss refl r

open_piece : (rest : List ℕ) (ss : List Spelt) → Scans AnyLetter rest ss → Scans AnyLetter (40 ∷ rest) (lone 40 ∷ ss)
open_piece rest ss r = lone_piece AnyLetter 40 rest ss refl r

mutual
  pub scans_formula : (f : Formula)
      → is_spelled f ≡ true
      → (rest : List ℕ) (ss : List Spelt)
      → ends_word rest ≡ true
      → Scans AnyLetter rest ss
      → Scans AnyLetter (canonical_text f ++ rest) (tokens_onto f ss)
  scans_formula (plain.Const true) is rest ss stops r = word_piece AnyLetter (codes "tt") rest ss refl stops r
  scans_formula (plain.Const false) is rest ss stops r = word_piece AnyLetter (codes "ff") rest ss refl stops r
  scans_formula (plain.Prop p) is rest ss stops r =
      word_piece AnyLetter p rest ss (proposition_letters p (is_reserved p) (first_so (is_proposition p) true is))
      stops r
  scans_formula (plain.Not f) is rest ss stops r =
      not_piece AnyLetter (canonical_text f ++ rest) (tokens_onto f ss) (scans_formula f is rest ss stops r)
  scans_formula (plain.Binary o f g) is rest ss stops r =
      let parts = spelled_parts added (names f) (names g) is in
      let right = scans_formula g parts.1 (41 ∷ rest) (lone 41 ∷ ss) refl (close_piece rest ss r) in
      let sign = operator_piece AnyLetter o (canonical_text g ++ (41 ∷ rest)) (tokens_onto g (lone 41 ∷ ss)) right in
      let after = codes " " ++ (spelling_of o ++ (codes " " ++ (canonical_text g ++ (41 ∷ rest)))) in
      let left = scans_formula f parts.0 after ((token.Operator o, spelling_of o) ∷ tokens_onto g (lone 41 ∷ ss)) refl sign in
      subst (λ text. Scans AnyLetter text (tokens_onto (plain.Binary o f g) ss))
      (sym (between_same (canonical_text f) (spelling_of o) (canonical_text g) rest))
      (open_piece (canonical_text f ++ after) (tokens_onto f ((token.Operator o, spelling_of o) ∷ tokens_onto g (lone 41 ∷ ss))) left)
  scans_formula (plain.Modal m p f) is rest ss stops r =
      let parts = spelled_parts added (program_names p) (names f) is in
      let behind = scans_formula f parts.1 rest ss stops r in
      let after = lone (end_byte m) ∷ tokens_onto f ss in
      let close = end_piece m (canonical_text f ++ rest) (tokens_onto f ss) behind in
      let own = scans_program p parts.0 (end_byte m ∷ (canonical_text f ++ rest)) after (end_stops m (canonical_text f ++ rest)) close in
      ⊎_elim
      (λ (is_blank : p ≡ plain.Act (codes "_")).
      subst (λ q. Scans AnyLetter (canonical_text (plain.Modal m q f) ++ rest) (tokens_onto (plain.Modal m q f) ss)) (sym is_blank)
      (blank_scans m (canonical_text f) rest (tokens_onto f ss) behind))
      (λ (w : IsWhole p).
      subst
      (λ t. Scans AnyLetter ((modality_text m t ++ canonical_text f) ++ rest) (tokens_onto (plain.Modal m p f) ss))
      (sym (w.text (program_text p)))
      (subst (λ text. Scans AnyLetter text (tokens_onto (plain.Modal m p f) ss)) (sym (modality_same m (program_text p) (canonical_text f) rest))
      (subst
      (λ l. Scans AnyLetter (begin_byte m ∷ (program_text p ++ (end_byte m ∷ (canonical_text f ++ rest))))
      (lone (begin_byte m) ∷ l))
      (sym (w.toks (program_onto p after) after))
      (begin_piece m (program_text p ++ (end_byte m ∷ (canonical_text f ++ rest))) (program_onto p after)
      (program_starts p (end_byte m ∷ (canonical_text f ++ rest)) parts.0) own))))
      (whole_cases p)
  scans_formula (plain.Repeat p) is rest ss stops r =
      let own = scans_program p is (41 ∷ rest) (lone 41 ∷ ss) refl (close_piece rest ss r) in
      let inside = open_piece (program_text p ++ (41 ∷ rest)) (program_onto p (lone 41 ∷ ss)) own in
      subst (λ text. Scans AnyLetter text (tokens_onto (plain.Repeat p) ss)) (sym (repeat_same (program_text p) rest))
      (word_piece AnyLetter (codes "repeat") (40 ∷ (program_text p ++ (41 ∷ rest))) (lone 40 ∷ program_onto p (lone 41 ∷ ss)) refl refl inside)

  pub scans_program : (p : Program)
      → program_is_spelled p ≡ true
      → (rest : List ℕ) (ss : List Spelt)
      → ends_word rest ≡ true
      → Scans AnyLetter rest ss
      → Scans AnyLetter (program_text p ++ rest) (program_onto p ss)
  scans_program (plain.Act a) is rest ss stops r = action_piece a rest ss (first_so (is_action a) true is) stops r
  scans_program (plain.Seq p q) is rest ss stops r =
      let parts = spelled_parts added (program_names p) (program_names q) is in
      let right = scans_program q parts.1 (41 ∷ rest) (lone 41 ∷ ss) refl (close_piece rest ss r) in
      let after = program_text q ++ (41 ∷ rest) in
      let toks = program_onto q (lone 41 ∷ ss) in
      let sign = lone_piece AnyLetter 59 after toks refl right in
      subst (λ text. Scans AnyLetter text (program_onto (plain.Seq p q) ss)) (sym (joined_same (program_text p) (codes ";") (program_text q) rest))
      (open_piece (program_text p ++ (59 ∷ after)) (program_onto p (lone 59 ∷ toks))
      (scans_program p parts.0 (59 ∷ after) (lone 59 ∷ toks) refl sign))
  scans_program (plain.Alt p q) is rest ss stops r =
      let parts = spelled_parts added (program_names p) (program_names q) is in
      let right = scans_program q parts.1 (41 ∷ rest) (lone 41 ∷ ss) refl (close_piece rest ss r) in
      let after = program_text q ++ (41 ∷ rest) in
      let toks = program_onto q (lone 41 ∷ ss) in
      let sign = lone_piece AnyLetter 43 after toks refl right in
      subst (λ text. Scans AnyLetter text (program_onto (plain.Alt p q) ss)) (sym (joined_same (program_text p) (codes "+") (program_text q) rest))
      (open_piece (program_text p ++ (43 ∷ after)) (program_onto p (lone 43 ∷ toks))
      (scans_program p parts.0 (43 ∷ after) (lone 43 ∷ toks) refl sign))
  scans_program (plain.Star p) is rest ss stops r =
      subst (λ text. Scans AnyLetter text (program_onto p (lone 42 ∷ ss))) (sym (append_assoc (program_text p) (codes "*") rest))
      (scans_program p is (42 ∷ rest) (lone 42 ∷ ss) refl (lone_piece AnyLetter 42 rest ss refl r))
  scans_program (plain.Test f) is rest ss stops r =
      let sign = lone_piece AnyLetter 63 rest ss refl r in
      let close = close_piece (63 ∷ rest) (lone 63 ∷ ss) sign in
      subst (λ text. Scans AnyLetter text (program_onto (plain.Test f) ss)) (sym (test_same (canonical_text f) rest))
      (open_piece (canonical_text f ++ (41 ∷ 63 ∷ rest)) (tokens_onto f (lone 41 ∷ lone 63 ∷ ss))
      (scans_formula f is (41 ∷ 63 ∷ rest) (lone 41 ∷ lone 63 ∷ ss) refl close))

-- ---- their parentheses are partners of one another

abbrev pub sign_spelt : Spelt → Sign
sign_spelt s = sign_of s.0 s.1

abbrev pub plain_signs : List Spelt → List Sign
plain_signs ss = map sign_spelt ss

even_word : (w : List ℕ) (ss : List Spelt) (n : ℕ)
    → is_test_behind n (plain_signs ((token.Word, w) ∷ ss)) ≡ is_test_behind n (plain_signs ss)
even_word w ss n = neutral_test (word_sign added w) n (plain_signs ss) (weaker (word_sign added w) (neutral_word w (constant_of w)))

even_action : (a : List ℕ) (ss : List Spelt) (n : ℕ)
    → is_test_behind n (plain_signs (action_token a ∷ ss)) ≡ is_test_behind n (plain_signs ss)
even_action a ss n = go (bytes_eq a (codes "_"))
  where
    go : (b : Bool)
        → is_test_behind n (sign_spelt (cond b (lone 95) (token.Word, a)) ∷ plain_signs ss) ≡ is_test_behind n (plain_signs ss)
    go true = refl
    go false = even_word a ss n

even_begin : (m : Modality) (ss : List Spelt) (n : ℕ)
    → is_test_behind n (plain_signs (lone (begin_byte m) ∷ ss)) ≡ is_test_behind n (plain_signs ss)
even_begin Diamond ss n = refl
even_begin Square ss n = refl

even_end : (m : Modality) (ss : List Spelt) (n : ℕ)
    → is_test_behind n (plain_signs (lone (end_byte m) ∷ ss)) ≡ is_test_behind n (plain_signs ss)
even_end Diamond ss n = refl
even_end Square ss n = refl

even_whole : (p : Program) (own after : List Spelt) (n : ℕ)
    → is_test_behind n (plain_signs own) ≡ is_test_behind n (plain_signs after)
    → is_test_behind n (plain_signs (whole_tokens p own after)) ≡ is_test_behind n (plain_signs after)
even_whole p own after n same =
    ⊎_elim
    (λ (is_blank : p ≡ plain.Act (codes "_")).
    subst (λ q. is_test_behind n (plain_signs (whole_tokens q own after)) ≡ is_test_behind n (plain_signs after))
    (sym is_blank) refl)
    (λ (w : IsWhole p). ap (λ l. is_test_behind n (plain_signs l)) (w.toks own after) ∙ same)
    (whole_cases p)

mutual
  pub formula_even : (f : Formula) (ss : List Spelt) (n : ℕ)
      → is_test_behind n (plain_signs (tokens_onto f ss)) ≡ is_test_behind n (plain_signs ss)
  formula_even (plain.Const true) ss n = even_word (codes "tt") ss n
  formula_even (plain.Const false) ss n = even_word (codes "ff") ss n
  formula_even (plain.Prop p) ss n = even_word p ss n
  formula_even (plain.Not f) ss n = formula_even f ss n
  formula_even (plain.Binary o f g) ss n =
      formula_even f ((token.Operator o, spelling_of o) ∷ tokens_onto g (lone 41 ∷ ss)) (suc n)
      ∙ formula_even g (lone 41 ∷ ss) (suc n)
  formula_even (plain.Modal m p f) ss n =
      let after = lone (end_byte m) ∷ tokens_onto f ss in
      even_begin m (whole_tokens p (program_onto p after) after) n
      ∙ even_whole p (program_onto p after) after n (program_even p after n)
      ∙ even_end m (tokens_onto f ss) n
      ∙ formula_even f ss n
  formula_even (plain.Repeat p) ss n =
      even_word (codes "repeat") (lone 40 ∷ program_onto p (lone 41 ∷ ss)) n ∙ program_even p (lone 41 ∷ ss) (suc n)

  pub program_even : (p : Program) (ss : List Spelt) (n : ℕ)
      → is_test_behind n (plain_signs (program_onto p ss)) ≡ is_test_behind n (plain_signs ss)
  program_even (plain.Act a) ss n = even_action a ss n
  program_even (plain.Seq p q) ss n =
      program_even p (lone 59 ∷ program_onto q (lone 41 ∷ ss)) (suc n) ∙ program_even q (lone 41 ∷ ss) (suc n)
  program_even (plain.Alt p q) ss n =
      program_even p (lone 43 ∷ program_onto q (lone 41 ∷ ss)) (suc n) ∙ program_even q (lone 41 ∷ ss) (suc n)
  program_even (plain.Star p) ss n = program_even p (lone 42 ∷ ss) n
  program_even (plain.Test f) ss n = formula_even f (lone 41 ∷ lone 63 ∷ ss) (suc n)

-- ---- reading them

-- the signs of these tokens, with their marks
abbrev pub signs_with_marks : List Spelt → List Sign
signs_with_marks ss = marked (plain_signs ss)

true_sign : word_sign added (codes "tt") ≡ Const true
unfolding constant_of
true_sign = refl

false_sign : word_sign added (codes "ff") ≡ Const false
unfolding constant_of
false_sign = refl

repeat_sign : word_sign added (codes "repeat") ≡ (Added Repeats)
unfolding constant_of
repeat_sign = refl

action_read : (a : List ℕ) → is_action a ≡ true → action_of (sign_spelt (action_token a)) ≡ Some a
action_read a is =
    ⊎_elim
    (λ (any : bytes_eq a (codes "_") ≡ true).
    subst (λ b. action_of (sign_spelt (action_token b)) ≡ Some b) (sym ((bytes_eq-Decides a (codes "_")).0 any)) refl)
    (λ (other : bytes_eq a (codes "_") ≡ false).
    let s = action_word a is other in
    ap (λ t. action_of (sign_spelt t)) (cond-false (bytes_eq a (codes "_")) (lone 95) (token.Word, a) other) ∙ s.1)
    (cases_Bool (bytes_eq a (codes "_")))

marked_action : (b : Bool) (s : Sign) → action_of (with_mark b s) ≡ action_of s
marked_action b Open = refl
marked_action b _ = refl

-- an operand, and two operands with a connective between them, as whole formulas
pub operand_read : {ts rest : List Sign} {f : Formula} → Reads Operand ts f rest → Reads (Joined operator.Iff) ts f rest
operand_read {ts} {rest} {f} r = raised (λ l. Reads l ts f rest) alone operator.Iff r

pub operands_read : {ts us rest : List Sign} {f g : Formula} (o : Operator)
    → Reads Operand ts f (Connective o ∷ us)
    → Reads Operand us g rest
    → Reads (Joined operator.Iff) ts (plain.Binary o f g) rest
operands_read {ts} {us} {rest} {f} {g} o a b =
    let left = left_raised (λ l. Reads l ts f (Connective o ∷ us)) alone o a in
    let right = right_raised (λ l. Reads l us g rest) alone o b in
    loosest (λ l. Reads l ts (plain.Binary o f g) rest) alone o (joined o left right)

star_raised : {ts rest : List Sign} {p : Program}
    → ReadsProgram grammar.Star ts p rest
    → ReadsProgram grammar.Prog ts p rest
star_raised r = alt_alone (seq_alone r)

-- a program between parentheses, which are no test's
group_read : (b : Bool) (ts rest : List Sign) (p : Program)
    → b ≡ false
    → ReadsProgram grammar.Prog ts p (Close ∷ rest)
    → ReadsProgram grammar.Star (Added (Paren (mark_of b)) ∷ ts) p rest
group_read b ts rest p is r = subst (λ k. ReadsProgram grammar.Star (Added (Paren (mark_of k)) ∷ ts) p rest) (sym is) (star_alone (program_group r))

-- and a test
test_read : (b : Bool) (ts rest : List Sign) (f : Formula)
    → b ≡ true
    → Reads Operand ts f (Close ∷ Added Question ∷ rest)
    → ReadsProgram grammar.Star (Added (Paren (mark_of b)) ∷ ts) (plain.Test f) rest
test_read b ts rest f is r =
    subst (λ k. ReadsProgram grammar.Star (Added (Paren (mark_of k)) ∷ ts) (plain.Test f) rest) (sym is)
    (star_alone (test refl (tested_group Marked (operand_read r))))

-- a modality, by its program
modal_read : (m : Modality) (p : Program) (f : Formula) (own after : List Spelt) (rest : List Sign)
    → ReadsProgram grammar.Star (signs_with_marks own) p (Added (Ends m) ∷ signs_with_marks after)
    → Reads Operand (signs_with_marks after) f rest
    → (l : List Spelt) → signs_with_marks (lone (end_byte m) ∷ after) ≡ Added (Ends m) ∷ signs_with_marks after
    → l ≡ whole_tokens p own (lone (end_byte m) ∷ after)
    → Reads Operand (Added (Begins m) ∷ signs_with_marks l) (plain.Modal m p f) rest
modal_read m p f own after rest a b l last is =
    subst (λ x. Reads Operand (Added (Begins m) ∷ signs_with_marks x) (plain.Modal m p f) rest) (sym is)
    (⊎_elim
    (λ (is_blank : p ≡ plain.Act (codes "_")).
    subst
    (λ q. Reads Operand (Added (Begins m) ∷ signs_with_marks (whole_tokens q own (lone (end_byte m) ∷ after)))
    (plain.Modal m q f) rest)
    (sym is_blank)
    (subst (λ ts. Reads Operand (Added (Begins m) ∷ ts) (plain.Modal m (plain.Act (codes "_")) f) rest) (sym last) (modal_blank m b)))
    (λ (w : IsWhole p).
    subst (λ x. Reads Operand (Added (Begins m) ∷ signs_with_marks x) (plain.Modal m p f) rest) (sym (w.toks own (lone (end_byte m) ∷ after)))
    (modal m (star_raised a) b))
    (whole_cases p))

mutual
  pub reads_formula : (f : Formula)
      → is_spelled f ≡ true
      → (ss : List Spelt)
      → Reads Operand (signs_with_marks (tokens_onto f ss)) f (signs_with_marks ss)
  reads_formula (plain.Const true) is ss =
      subst
      (λ t. Reads Operand (with_mark (is_test_behind 0 (plain_signs ss)) t ∷ signs_with_marks ss) (plain.Const true)
      (signs_with_marks ss))
      (sym true_sign) (constant true)
  reads_formula (plain.Const false) is ss =
      subst
      (λ t.
      Reads Operand (with_mark (is_test_behind 0 (plain_signs ss)) t ∷ signs_with_marks ss) (plain.Const false)
      (signs_with_marks ss))
      (sym false_sign) (constant false)
  reads_formula (plain.Prop p) is ss =
      subst
      (λ t. Reads Operand (with_mark (is_test_behind 0 (plain_signs ss)) t ∷ signs_with_marks ss) (plain.Prop p)
      (signs_with_marks ss))
      (sym (proposition_sign added p (first_so (is_proposition p) true is))) (proposition p)
  reads_formula (plain.Not f) is ss = negation (reads_formula f is ss)
  reads_formula (plain.Binary o f g) is ss =
      let parts = spelled_parts added (names f) (names g) is in
      group _
      (operands_read o
      (reads_formula f parts.0 ((token.Operator o, spelling_of o) ∷ tokens_onto g (lone 41 ∷ ss)))
      (reads_formula g parts.1 (lone 41 ∷ ss)))
  reads_formula (plain.Modal Diamond p f) is ss =
      let parts = spelled_parts added (program_names p) (names f) is in
      let after = tokens_onto f ss in
      modal_read Diamond p f (program_onto p (lone 62 ∷ after)) after (signs_with_marks ss)
      (reads_program p parts.0 (lone 62 ∷ after) refl) (reads_formula f parts.1 ss)
      (whole_tokens p (program_onto p (lone 62 ∷ after)) (lone 62 ∷ after)) refl refl
  reads_formula (plain.Modal Square p f) is ss =
      let parts = spelled_parts added (program_names p) (names f) is in
      let after = tokens_onto f ss in
      modal_read Square p f (program_onto p (lone 93 ∷ after)) after (signs_with_marks ss)
      (reads_program p parts.0 (lone 93 ∷ after) refl) (reads_formula f parts.1 ss)
      (whole_tokens p (program_onto p (lone 93 ∷ after)) (lone 93 ∷ after)) refl refl
  reads_formula (plain.Repeat p) is ss =
      let own = program_onto p (lone 41 ∷ ss) in
      let inside = plain_signs own in
      subst
      (λ t. Reads Operand
      (with_mark (is_test_behind 0 (plain_signs (lone 40 ∷ own))) t ∷ Added (Paren (mark_of (is_test_behind 0 inside)))
      ∷ signs_with_marks own)
      (plain.Repeat p) (signs_with_marks ss))
      (sym repeat_sign)
      (repetition (mark_of (is_test_behind 0 inside)) (star_raised (reads_program p is (lone 41 ∷ ss) refl)))

  pub reads_program : (p : Program)
      → program_is_spelled p ≡ true
      → (ss : List Spelt)
      → asks (plain_signs ss) ≡ false
      → ReadsProgram grammar.Star (signs_with_marks (program_onto p ss)) p (signs_with_marks ss)
  reads_program (plain.Act a) is ss no_test =
      star_alone
      (action a (with_mark (is_test_behind 0 (plain_signs ss)) (sign_spelt (action_token a)))
      (marked_action (is_test_behind 0 (plain_signs ss)) (sign_spelt (action_token a)) ∙ action_read a (first_so (is_action a) true is)))
  reads_program (plain.Seq p q) is ss no_test =
      let parts = spelled_parts added (program_names p) (program_names q) is in
      let right = reads_program q parts.1 (lone 41 ∷ ss) refl in
      let left = reads_program p parts.0 (lone 59 ∷ program_onto q (lone 41 ∷ ss)) refl in
      group_read _ _ _ (plain.Seq p q)
      (program_even p (lone 59 ∷ program_onto q (lone 41 ∷ ss)) 0 ∙ program_even q (lone 41 ∷ ss) 0 ∙ no_test)
      (alt_alone (seq (seq_alone left) right))
  reads_program (plain.Alt p q) is ss no_test =
      let parts = spelled_parts added (program_names p) (program_names q) is in
      let right = reads_program q parts.1 (lone 41 ∷ ss) refl in
      let left = reads_program p parts.0 (lone 43 ∷ program_onto q (lone 41 ∷ ss)) refl in
      group_read _ _ _ (plain.Alt p q)
      (program_even p (lone 43 ∷ program_onto q (lone 41 ∷ ss)) 0 ∙ program_even q (lone 41 ∷ ss) 0 ∙ no_test)
      (alt (star_raised left) (seq_alone right))
  reads_program (plain.Star p) is ss no_test = star (reads_program p is (lone 42 ∷ ss) refl)
  reads_program (plain.Test f) is ss no_test =
      test_read _ _ _ f (formula_even f (lone 41 ∷ lone 63 ∷ ss) 0) (reads_formula f is (lone 41 ∷ lone 63 ∷ ss))

-- ---- the text

pub plain_spelt : (text : List ℕ) (ps : List Placed) → map (sign_by text) ps ≡ plain_signs (map (spelt_at text) ps)
plain_spelt text [] = refl
plain_spelt text (p ∷ ps) = ap (λ ts. sign_by text p ∷ ts) (plain_spelt text ps)

pub canonical_tokens : (f : Formula)
    → is_spelled f ≡ true
    → map (spelt_at (canonical_text f)) (tokens AnyLetter (canonical_text f)) ≡ tokens_onto f []
canonical_tokens f is =
    let text = canonical_text f in
    let scans : Scans AnyLetter text (tokens_onto f []) =
    subst (λ t. Scans AnyLetter t (tokens_onto f [])) (append-nil text) (scans_formula f is [] [] refl ends)
    in
    scans_tokens AnyLetter text (tokens_onto f []) scans

pub canonical_stands : (f : Formula) → is_spelled f ≡ true → IsTextOf (canonical_text f) f
canonical_stands f is =
    let text = canonical_text f in
    let signs_are : signs_of (items text) ≡ signs_with_marks (tokens_onto f []) =
    marks_are_of_texts text ∙ ap marked (plain_spelt text (tokens AnyLetter text) ∙ ap plain_signs (canonical_tokens f is)) in
    subst (λ ts. Reads (Joined operator.Iff) ts f []) (sym signs_are) (operand_read (reads_formula f is []))
