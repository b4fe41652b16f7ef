-- The canonical text of a formula stands for it.
--
--   tokens_onto f ss     == the tokens of the canonical text of f, in front of the tokens ss
--   scans_formula        == these are its tokens
--   reads_formula        == their signs are read as f
--   canonical_tokens     == these are the tokens of the text alone
--   canonical_stands     == so the text stands for f
use Rattle.std.proofs.Common.{◌≡◌, ℕ, true, false, not, List, [], ◌∷◌, ◌++◌, map, refl, sym, ◌∙◌, ap, subst, codes}
use Rattle.std.specs.Cmp.{first_so}
use Rattle.std.proofs.lemmas.Bool.{and_parts, false≢true}
use Rattle.std.proofs.lemmas.List.{append-nil}
use Rattle.ml_text.specs.Bytes.{is_lower}
use Rattle.ml_text.specs.declared.token.Operator.{Operator}
use Rattle.ml_text.specs.declared.token.Operator.TheVariants as operator
use Rattle.ml_text.specs.declared.token.Token.TheVariants as token
use Rattle.ml_text.specs.declared.token.WordStart.TheVariants.{LowerCase}
use Rattle.ml_text.specs.Tokens.{tokens}
use Rattle.ml_text.specs.Words.{constant_of, is_word_from}
use Rattle.ml_text.specs.Refusals.{signs_of}
use Rattle.ml_text.specs.Levels.{Joined, Operand, Tight}
use Rattle.ml_text.specs.Operators.{spelling_of}
use Rattle.ml_text.proofs.LooserLevels.{raised, left_raised, right_raised, loosest}
use Rattle.ml_text.proofs.NamedSigns.{proposition_sign}
use Rattle.ml_text.proofs.Names.{spelled_parts}
use Rattle.ml_text.proofs.Pieces.{lone, lone_piece, not_piece, operator_piece, between_same, ends_word, word_piece}
use Rattle.ml_text.proofs.Scans.{Spelt, spelt_at, Scans, ends, blank, scans_tokens}
use Rattle.ml_text.proofs.TableItems.{signs_spelt}
use Rattle.ml_ctl.specs.Formula as plain
use Rattle.ml_ctl.specs.Formula.{Formula}
use Rattle.ml_ctl.specs.FormulaNames.{names}
use Rattle.ml_ctl.specs.Sorts.{is_of}
use Rattle.ml_ctl.specs.declared.term.Tense.{Tense}
use Rattle.ml_ctl.specs.declared.term.Tense.TheVariants as tense
use Rattle.ml_ctl.specs.declared.term.Pairing.{Pairing}
use Rattle.ml_ctl.specs.declared.term.Pairing.TheVariants as pairing
use Rattle.ml_ctl.specs.declared.term.Quantifier.{Quantifier}
use Rattle.ml_ctl.specs.declared.term.Quantifier.TheVariants as quantifier
use Rattle.ml_ctl.specs.declared.language.Language.{Language}
use Rattle.ml_ctl.specs.declared.language.Language.TheVariants.{Ctl, Ltl}
use Rattle.ml_ctl.specs.Canonical.{tense_letter, pairing_letter, quantifier_letter, between, canonical_text}
use Rattle.ml_text.specs.Signs.{word_sign}
use Rattle.ml_text.specs.declared.named_signs.Sign.TheVariants.{Connective, Const, Open, Close, Lower, Added}
use Rattle.ml_ctl.specs.Signs.{Sign, own, sign_of}
use Rattle.ml_ctl.specs.declared.signs.Own.TheVariants.{Tensed, Pairs, Quantifies}
use Rattle.ml_ctl.specs.Spelling.{is_proposition, is_reserved, is_spelled}
use Rattle.ml_ctl.specs.Grammar.{sort_of, Reads, alone, joined}
use Rattle.ml_ctl.specs.declared.language.Sort.{Sort}
use Rattle.ml_ctl.specs.declared.language.Sort.TheVariants.{State, Path}
use Rattle.ml_ctl.specs.Grammar.{pair_alone, pair, negation, temporal, quantified, group, constant, proposition}
use Rattle.ml_ctl.specs.Text.{ctl_signs, items}
use Rattle.ml_ctl.specs.TextLaws.{IsTextOf}
use Rattle.ml_ctl.proofs.Sorts.{fits, is_of_fits}

-- ---- the tokens of a canonical text

abbrev pub tokens_onto : Formula → List Spelt → List Spelt
tokens_onto (plain.Const true) ss = (token.Word, codes "tt") ∷ ss
tokens_onto (plain.Const false) ss = (token.Word, codes "ff") ∷ ss
tokens_onto (plain.Prop p) ss = (token.Word, p) ∷ ss
tokens_onto (plain.Not f) ss = (token.Not, codes "!") ∷ tokens_onto f ss
tokens_onto (plain.Binary o f g) ss =
    lone 40 ∷ tokens_onto f ((token.Operator o, spelling_of o) ∷ tokens_onto g (lone 41 ∷ ss))
tokens_onto (plain.Temporal t f) ss = lone (tense_letter t) ∷ tokens_onto f ss
tokens_onto (plain.Paired p f g) ss = lone 40 ∷ tokens_onto f (lone (pairing_letter p) ∷ tokens_onto g (lone 41 ∷ ss))
tokens_onto (plain.Quantified q f) ss = lone (quantifier_letter q) ∷ tokens_onto f ss

-- a sign with its blanks in front of a text
abbrev SignPiece : List ℕ → Spelt → Type 0
SignPiece text s = (rest : List ℕ) (ss : List Spelt)
    → Scans LowerCase rest ss
    → Scans LowerCase (codes " " ++ (text ++ (codes " " ++ rest))) (s ∷ ss)

letter_piece : (p : Pairing) → SignPiece (pairing_letter p ∷ []) (lone (pairing_letter p))
letter_piece pairing.Until rest ss r = blank 32 refl (lone_piece LowerCase 85 (32 ∷ rest) ss refl (blank 32 refl r))
letter_piece pairing.Release rest ss r = blank 32 refl (lone_piece LowerCase 82 (32 ∷ rest) ss refl (blank 32 refl r))
letter_piece pairing.Weak rest ss r = blank 32 refl (lone_piece LowerCase 87 (32 ∷ rest) ss refl (blank 32 refl r))

-- a letter with the blank behind it in front of a text
abbrev LetterPiece : ℕ → Type 0
LetterPiece b = (rest : List ℕ) (ss : List Spelt) → Scans LowerCase rest ss → Scans LowerCase (b ∷ 32 ∷ rest) (lone b ∷ ss)

tense_piece : (t : Tense) → LetterPiece (tense_letter t)
tense_piece tense.Next rest ss r = lone_piece LowerCase 88 (32 ∷ rest) ss refl (blank 32 refl r)
tense_piece tense.Finally rest ss r = lone_piece LowerCase 70 (32 ∷ rest) ss refl (blank 32 refl r)
tense_piece tense.Globally rest ss r = lone_piece LowerCase 71 (32 ∷ rest) ss refl (blank 32 refl r)

quantifier_piece : (q : Quantifier) → LetterPiece (quantifier_letter q)
quantifier_piece quantifier.Exists rest ss r = lone_piece LowerCase 69 (32 ∷ rest) ss refl (blank 32 refl r)
quantifier_piece quantifier.Forall rest ss r = lone_piece LowerCase 65 (32 ∷ rest) ss refl (blank 32 refl r)

abbrev ScansOf : Formula → Type 0
ScansOf f = (rest : List ℕ) (ss : List Spelt)
    → ends_word rest ≡ true
    → Scans LowerCase rest ss
    → Scans LowerCase (canonical_text f ++ rest) (tokens_onto f ss)

two_scans : (f g : Formula) (text : List ℕ) (s : Spelt) (rest : List ℕ) (ss : List Spelt)
    → SignPiece text s
    → ScansOf f
    → ScansOf g
    → Scans LowerCase rest ss
    → Scans LowerCase (between (canonical_text f) text (canonical_text g) ++ rest)
    (lone 40 ∷ tokens_onto f (s ∷ tokens_onto g (lone 41 ∷ ss)))
two_scans f g text s rest ss sign left right r =
    let behind = right (41 ∷ rest) (lone 41 ∷ ss) refl (lone_piece LowerCase 41 rest ss refl r) in
    let toks = s ∷ tokens_onto g (lone 41 ∷ ss) in
    let after = codes " " ++ (text ++ (codes " " ++ (canonical_text g ++ (41 ∷ rest)))) in
    let inside = left after toks refl (sign (canonical_text g ++ (41 ∷ rest)) (tokens_onto g (lone 41 ∷ ss)) behind) in
    subst (λ bytes. Scans LowerCase bytes (lone 40 ∷ tokens_onto f toks))
    (sym (between_same (canonical_text f) text (canonical_text g) rest))
    (lone_piece LowerCase 40 (canonical_text f ++ after) (tokens_onto f toks) refl inside)

pub scans_formula : (f : Formula) → is_spelled f ≡ true → ScansOf f
scans_formula (plain.Const true) is rest ss stops r = word_piece LowerCase (codes "tt") rest ss refl stops r
scans_formula (plain.Const false) is rest ss stops r = word_piece LowerCase (codes "ff") rest ss refl stops r
scans_formula (plain.Prop p) is rest ss stops r =
    word_piece LowerCase p rest ss (first_so (is_word_from is_lower p) (not (is_reserved p)) (first_so (is_proposition p) true is)) stops r
scans_formula (plain.Not f) is rest ss stops r =
    not_piece LowerCase (canonical_text f ++ rest) (tokens_onto f ss) (scans_formula f is rest ss stops r)
scans_formula (plain.Binary o f g) is rest ss stops r =
    let parts = spelled_parts own (names f) (names g) is in
    two_scans f g (spelling_of o) (token.Operator o, spelling_of o) rest ss (operator_piece LowerCase o) (scans_formula f parts.0)
    (scans_formula g parts.1) r
scans_formula (plain.Temporal t f) is rest ss stops r =
    tense_piece t (canonical_text f ++ rest) (tokens_onto f ss) (scans_formula f is rest ss stops r)
scans_formula (plain.Paired p f g) is rest ss stops r =
    let parts = spelled_parts own (names f) (names g) is in
    two_scans f g (pairing_letter p ∷ []) (lone (pairing_letter p)) rest ss (letter_piece p) (scans_formula f parts.0)
    (scans_formula g parts.1) r
scans_formula (plain.Quantified q f) is rest ss stops r =
    quantifier_piece q (canonical_text f ++ rest) (tokens_onto f ss) (scans_formula f is rest ss stops r)

-- ---- reading them

abbrev pub sign_spelt : Spelt → Sign
sign_spelt s = sign_of s.0 s.1

true_sign : word_sign own (codes "tt") ≡ Const true
unfolding constant_of
true_sign = refl

false_sign : word_sign own (codes "ff") ≡ Const false
unfolding constant_of
false_sign = refl

pub tense_sign : (t : Tense) → sign_spelt (lone (tense_letter t)) ≡ Added (Tensed t)
tense_sign tense.Next = refl
tense_sign tense.Finally = refl
tense_sign tense.Globally = refl

pub pairing_sign : (p : Pairing) → sign_spelt (lone (pairing_letter p)) ≡ Added (Pairs p)
pairing_sign pairing.Until = refl
pairing_sign pairing.Release = refl
pairing_sign pairing.Weak = refl

pub quantifier_sign : (q : Quantifier) → sign_spelt (lone (quantifier_letter q)) ≡ Added (Quantifies q)
quantifier_sign quantifier.Exists = refl
quantifier_sign quantifier.Forall = refl

pub as_text : {w : Language} {s : Sort} {ts rest : List Sign} {f : Formula}
    → Reads w s Operand ts f rest
    → Reads w s (Joined operator.Iff) ts f rest
as_text {w} {s} {ts} {rest} {f} r = raised (λ l. Reads w s l ts f rest) alone operator.Iff r

binary_read : {w : Language} {s : Sort} (o : Operator) {ts us rest : List Sign} {f g : Formula}
    → Reads w s Tight ts f (Connective o ∷ us)
    → Reads w s Tight us g (Close ∷ rest)
    → Reads w s Tight (Open ∷ ts) (plain.Binary o f g) rest
binary_read {w} {s} o {ts} {us} {rest} {f} {g} a b =
    let left = left_raised (λ l. Reads w s l ts f (Connective o ∷ us)) alone o (pair_alone a) in
    let right = right_raised (λ l. Reads w s l us g (Close ∷ rest)) alone o (pair_alone b) in
    group (loosest (λ l. Reads w s l ts (plain.Binary o f g) (Close ∷ rest)) alone o (joined o left right))

-- a sign that begins an operand, by what it is
begins_with : (w : Language) (s : Sort) (t u : Sign) (ts rest : List Sign) (f : Formula)
    → t ≡ u
    → Reads w s Tight (u ∷ ts) f rest
    → Reads w s Tight (t ∷ ts) f rest
begins_with w s t u ts rest f same r = subst (λ x. Reads w s Tight (x ∷ ts) f rest) (sym same) r

pair_read : (w : Language) (p : Pairing) (t : Sign) (ts us rest : List Sign) (f g : Formula)
    → t ≡ Added (Pairs p)
    → Reads w Path Tight ts f (t ∷ us)
    → Reads w Path Tight us g (Close ∷ rest)
    → Reads w Path Tight (Open ∷ ts) (plain.Paired p f g) rest
pair_read w p t ts us rest f g same a b =
    let left = subst (λ x. Reads w Path Tight ts f (x ∷ us)) same a in
    group (as_text (pair p left (pair_alone b)))

abbrev ReadsBack : Language → Sort → Formula → Type 0
ReadsBack w s f = (ss : List Spelt) → Reads w s Tight (map sign_spelt (tokens_onto f ss)) f (map sign_spelt ss)

temporal_back : (w : Language) (s : Sort) (t : Tense) (f : Formula)
    → fits w s (plain.Temporal t f) ≡ true
    → (fits w Path f ≡ true → ReadsBack w Path f)
    → ReadsBack w s (plain.Temporal t f)
temporal_back w State t f stand back ss = absurd (false≢true stand)
temporal_back w Path t f stand back ss =
    begins_with w Path (sign_spelt (lone (tense_letter t))) (Added (Tensed t)) (map sign_spelt (tokens_onto f ss)) (map sign_spelt ss)
    (plain.Temporal t f) (tense_sign t) (temporal t (back stand ss))

paired_back : (w : Language) (s : Sort) (p : Pairing) (f g : Formula)
    → fits w s (plain.Paired p f g) ≡ true
    → (fits w Path f ≡ true → ReadsBack w Path f)
    → (fits w Path g ≡ true → ReadsBack w Path g)
    → ReadsBack w s (plain.Paired p f g)
paired_back w State p f g stand left right ss = absurd (false≢true stand)
paired_back w Path p f g stand left right ss =
    let parts = and_parts (fits w Path f) (fits w Path g) stand in
    let after = lone (pairing_letter p) ∷ tokens_onto g (lone 41 ∷ ss) in
    pair_read w p (sign_spelt (lone (pairing_letter p))) (map sign_spelt (tokens_onto f after))
    (map sign_spelt (tokens_onto g (lone 41 ∷ ss))) (map sign_spelt ss) f g (pairing_sign p) (left parts.0 after)
    (right parts.1 (lone 41 ∷ ss))

quantified_back : (w : Language) (s : Sort) (q : Quantifier) (f : Formula)
    → fits w s (plain.Quantified q f) ≡ true
    → (fits w Path f ≡ true → ReadsBack w Path f)
    → ReadsBack w s (plain.Quantified q f)
quantified_back Ltl s q f stand back ss = absurd (false≢true stand)
quantified_back Ctl s q f stand back ss =
    begins_with Ctl s (sign_spelt (lone (quantifier_letter q))) (Added (Quantifies q)) (map sign_spelt (tokens_onto f ss))
    (map sign_spelt ss) (plain.Quantified q f) (quantifier_sign q) (quantified q refl (back stand ss))

pub reads_formula : (w : Language) (s : Sort) (f : Formula) → is_spelled f ≡ true → fits w s f ≡ true → ReadsBack w s f
reads_formula w s (plain.Const true) is stand ss =
    begins_with w s (word_sign own (codes "tt")) (Const true) (map sign_spelt ss) (map sign_spelt ss) (plain.Const true) true_sign
    (constant true)
reads_formula w s (plain.Const false) is stand ss =
    begins_with w s (word_sign own (codes "ff")) (Const false) (map sign_spelt ss) (map sign_spelt ss) (plain.Const false) false_sign
    (constant false)
reads_formula w s (plain.Prop p) is stand ss =
    begins_with w s (word_sign own p) (Lower p) (map sign_spelt ss) (map sign_spelt ss) (plain.Prop p)
    (proposition_sign own p (first_so (is_proposition p) true is)) (proposition p)
reads_formula w s (plain.Not f) is stand ss = negation (reads_formula w s f is stand ss)
reads_formula w s (plain.Binary o f g) is stand ss =
    let parts = spelled_parts own (names f) (names g) is in
    let both = and_parts (fits w s f) (fits w s g) stand in
    binary_read o (reads_formula w s f parts.0 both.0 ((token.Operator o, spelling_of o) ∷ tokens_onto g (lone 41 ∷ ss)))
    (reads_formula w s g parts.1 both.1 (lone 41 ∷ ss))
reads_formula w s (plain.Temporal t f) is stand ss = temporal_back w s t f stand (reads_formula w Path f is) ss
reads_formula w s (plain.Paired p f g) is stand ss =
    let parts = spelled_parts own (names f) (names g) is in
    paired_back w s p f g stand (reads_formula w Path f parts.0) (reads_formula w Path g parts.1) ss
reads_formula w s (plain.Quantified q f) is stand ss = quantified_back w s q f stand (reads_formula w Path f is) ss

-- ---- the text

pub canonical_tokens : (f : Formula)
    → is_spelled f ≡ true
    → map (spelt_at (canonical_text f)) (tokens LowerCase (canonical_text f)) ≡ tokens_onto f []
canonical_tokens f is =
    let text = canonical_text f in
    let scans : Scans LowerCase text (tokens_onto f []) =
    subst (λ t. Scans LowerCase t (tokens_onto f [])) (append-nil text) (scans_formula f is [] [] refl ends) in
    scans_tokens LowerCase text (tokens_onto f []) scans

pub canonical_stands : (w : Language) (f : Formula)
    → is_spelled f ≡ true
    → is_of w f ≡ true
    → IsTextOf w (canonical_text f) f
canonical_stands w f is stand =
    let text = canonical_text f in
    let signs_are : signs_of (items text) ≡ map sign_spelt (tokens_onto f []) =
    signs_spelt ctl_signs sign_spelt text (λ p. refl) tt (tokens LowerCase text) ∙ ap (map sign_spelt) (canonical_tokens f is) in
    subst (λ ts. Reads w (sort_of w) (Joined operator.Iff) ts f []) (sym signs_are)
    (as_text (pair_alone (reads_formula w (sort_of w) f is (is_of_fits w f stand) [])))
