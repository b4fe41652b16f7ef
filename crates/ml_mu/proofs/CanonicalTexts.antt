-- The canonical text of a formula stands for it.
--
--   tokens_onto f ss     == the tokens of the canonical text of f, in front of the tokens ss
--   scans_formula        == these are its tokens
--   reads_formula        == their signs are read as f
--   canonical_tokens     == these are the tokens of the text alone
--   canonical_stands     == so the text stands for f
use Rattle.std.proofs.Common.{◌≡◌, ℕ, true, false, List, [], ◌∷◌, ◌++◌, map, Some, refl, sym, ◌∙◌, ap, subst, if◌then◌else◌, cond, codes, append_assoc, bytes_eq, ⊎_elim}
use Rattle.std.specs.Cmp.{first_so}
use Rattle.std.specs.List.{list_all}
use Rattle.std.proofs.lemmas.Bool.{and_parts, cases_Bool}
use Rattle.std.proofs.lemmas.List.{append-nil}
use Rattle.ml_text.specs.Bytes.{is_letter, is_word_byte}
use Rattle.ml_text.specs.declared.token.Operator.{Operator}
use Rattle.ml_text.specs.declared.token.Operator.TheVariants as operator
use Rattle.ml_text.specs.declared.token.Token.TheVariants as token
use Rattle.ml_text.specs.declared.token.WordStart.TheVariants.{AnyLetter}
use Rattle.ml_text.specs.Tokens.{tokens}
use Rattle.ml_text.specs.Words.{constant_of, is_word_from}
use Rattle.ml_text.specs.Refusals.{signs_of}
use Rattle.ml_text.specs.Levels.{Joined, Operand}
use Rattle.ml_text.specs.Operators.{spelling_of}
use Rattle.ml_text.proofs.LooserLevels.{raised, left_raised, right_raised, loosest}
use Rattle.ml_text.proofs.ByteKinds.{differs_by}
use Rattle.ml_text.proofs.NamedSigns.{action_sign, proposition_sign, upper_word_sign}
use Rattle.ml_text.proofs.Pieces.{lone, lone_piece, less_piece, not_piece, operator_piece, between_same, ends_word, word_piece}
use Rattle.ml_text.proofs.Scans.{Spelt, spelt_at, Scans, ends, blank, scans_tokens}
use Rattle.ml_text.proofs.TableItems.{signs_spelt}
use Rattle.ml_text.proofs.FirstLetters.{upper_letters}
use Rattle.ml_text.proofs.FreeWords.{proposition_letters}
use Rattle.ml_text.proofs.Names.{spelled_parts}
use Rattle.ml_mu.specs.Formula as plain
use Rattle.ml_mu.specs.Formula.{Formula, Modality, Diamond, Square, Fixpoint, Least, Greatest}
use Rattle.ml_mu.specs.FormulaNames.{names}
use Rattle.ml_mu.specs.Canonical.{action_text, modality_text, fixpoint_word, canonical_text}
use Rattle.ml_text.specs.Signs.{name_of, word_sign}
use Rattle.ml_text.specs.declared.named_signs.Sign.TheVariants.{Connective, Const, Open, Close, Lower, Upper, Added}
use Rattle.ml_mu.specs.Signs.{Sign, action_of, own, sign_of}
use Rattle.ml_mu.specs.declared.signs.Own.TheVariants.{Begins, Ends, Binds, Dot}
use Rattle.ml_mu.specs.Spelling.{is_proposition, is_variable, is_action, is_spelled, is_reserved}
use Rattle.ml_mu.specs.Grammar.{Reads, alone, joined, negation, modal, modal_blank, binder, group, constant, proposition, variable}
use Rattle.ml_mu.specs.Text.{mu_signs, items}
use Rattle.ml_mu.specs.TextLaws.{IsTextOf}

-- ---- the tokens of a canonical text

abbrev pub action_tokens : List ℕ → List Spelt → List Spelt
action_tokens a ss = if bytes_eq a (codes "_") then ss else (token.Word, a) ∷ ss

abbrev pub begin_byte : Modality → ℕ
begin_byte Diamond = 60
begin_byte Square = 91

abbrev pub end_byte : Modality → ℕ
end_byte Diamond = 62
end_byte Square = 93

abbrev pub tokens_onto : Formula → List Spelt → List Spelt
tokens_onto (plain.Const true) ss = (token.Word, codes "tt") ∷ ss
tokens_onto (plain.Const false) ss = (token.Word, codes "ff") ∷ ss
tokens_onto (plain.Prop p) ss = (token.Word, p) ∷ ss
tokens_onto (plain.Var x) ss = (token.Word, x) ∷ ss
tokens_onto (plain.Not f) ss = (token.Not, codes "!") ∷ tokens_onto f ss
tokens_onto (plain.Binary o f g) ss = lone 40 ∷ tokens_onto f ((token.Operator o, spelling_of o) ∷ tokens_onto g (lone 41 ∷ ss))
tokens_onto (plain.Modal m a f) ss = lone (begin_byte m) ∷ action_tokens a (lone (end_byte m) ∷ tokens_onto f ss)
tokens_onto (plain.Binder q x f) ss = lone 40 ∷ (token.Word, fixpoint_word q) ∷ (token.Word, x) ∷ lone 46 ∷ tokens_onto f (lone 41 ∷ ss)

-- an action other than `_` is a word with its sign
action_named : (s : Sign) (a : List ℕ) → name_of s ≡ Some a → action_of s ≡ Some a
action_named (Lower b) a is = is
action_named (Upper b) a is = is
action_named _ a is = absurd (cc)

action_word : (a : List ℕ)
    → is_action a ≡ true
    → bytes_eq a (codes "_") ≡ false
    → (is_word_from is_letter a ≡ true) × (action_of (word_sign own a) ≡ Some a)
action_word a is other =
    let s = action_sign own refl a is other in (s.0, action_named (word_sign own a) a s.1)

end_piece : (m : Modality) (rest : List ℕ) (ss : List Spelt)
    → Scans AnyLetter rest ss
    → Scans AnyLetter (end_byte m ∷ rest) (lone (end_byte m) ∷ ss)
end_piece Diamond rest ss r = lone_piece AnyLetter 62 rest ss refl r
end_piece Square rest ss r = lone_piece AnyLetter 93 rest ss refl r

begin_blank : (m : Modality) (rest : List ℕ) (ss : List Spelt)
    → Scans AnyLetter (end_byte m ∷ rest) ss
    → Scans AnyLetter (begin_byte m ∷ end_byte m ∷ rest) (lone (begin_byte m) ∷ ss)
begin_blank Diamond rest ss r = less_piece AnyLetter 62 rest ss refl refl r
begin_blank Square rest ss r = lone_piece AnyLetter 91 (93 ∷ rest) ss refl r

begin_word : (m : Modality) (a rest : List ℕ) (ss : List Spelt)
    → is_word_from is_letter a ≡ true
    → Scans AnyLetter (a ++ rest) ss
    → Scans AnyLetter (begin_byte m ∷ (a ++ rest)) (lone (begin_byte m) ∷ ss)
begin_word m [] rest ss word r = absurd (cc)
begin_word Diamond (b ∷ bs) rest ss word r =
    let letter = (and_parts (is_letter b) (list_all is_word_byte bs) word).0 in
    less_piece AnyLetter b (bs ++ rest) ss (differs_by is_letter 45 b refl letter) (differs_by is_letter 61 b refl letter) r
begin_word Square (b ∷ bs) rest ss word r = lone_piece AnyLetter 91 (b ∷ (bs ++ rest)) ss refl r

end_stops : (m : Modality) (rest : List ℕ) → ends_word (end_byte m ∷ rest) ≡ true
end_stops Diamond rest = refl
end_stops Square rest = refl

modality_same : (m : Modality) (a rest : List ℕ)
    → modality_text m a ++ rest ≡ begin_byte m ∷ (action_text a ++ (end_byte m ∷ rest))
modality_same Diamond a rest = ap (λ xs. 60 ∷ xs) (append_assoc (action_text a) (codes ">") rest)
modality_same Square a rest = ap (λ xs. 91 ∷ xs) (append_assoc (action_text a) (codes "]") rest)

modal_piece : (m : Modality) (a rest : List ℕ) (ss : List Spelt)
    → is_action a ≡ true
    → Scans AnyLetter rest ss
    → Scans AnyLetter (begin_byte m ∷ (action_text a ++ (end_byte m ∷ rest))) (lone (begin_byte m) ∷ action_tokens a (lone (end_byte m) ∷ ss))
modal_piece m a rest ss is r =
    ⊎_elim
    (λ (any : bytes_eq a (codes "_") ≡ true).
    subst
    (λ c. Scans AnyLetter (begin_byte m ∷ (cond c [] a ++ (end_byte m ∷ rest)))
    (lone (begin_byte m) ∷ cond c (lone (end_byte m) ∷ ss) ((token.Word, a) ∷ lone (end_byte m) ∷ ss)))
    (sym any)
    (begin_blank m rest (lone (end_byte m) ∷ ss) (end_piece m rest ss r)))
    (λ (other : bytes_eq a (codes "_") ≡ false).
    let s = action_word a is other in
    subst
    (λ c. Scans AnyLetter (begin_byte m ∷ (cond c [] a ++ (end_byte m ∷ rest)))
    (lone (begin_byte m) ∷ cond c (lone (end_byte m) ∷ ss) ((token.Word, a) ∷ lone (end_byte m) ∷ ss)))
    (sym other)
    (begin_word m a (end_byte m ∷ rest) ((token.Word, a) ∷ lone (end_byte m) ∷ ss) s.0
    (word_piece AnyLetter a (end_byte m ∷ rest) (lone (end_byte m) ∷ ss) s.0 (end_stops m rest)
    (end_piece m rest ss r))))
    (cases_Bool (bytes_eq a (codes "_")))

fixpoint_letters : (q : Fixpoint) → is_word_from is_letter (fixpoint_word q) ≡ true
fixpoint_letters Least = refl
fixpoint_letters Greatest = refl

binder_same : (w x b rest : List ℕ)
    → (codes "(" ++ w ++ codes " " ++ x ++ codes ". " ++ b ++ codes ")") ++ rest ≡ 40 ∷ (w ++ (32 ∷ (x ++ (46 ∷ 32 ∷ (b ++ (41 ∷ rest))))))
binder_same w x b rest = simp append_assoc

pub scans_formula : (f : Formula)
    → is_spelled f ≡ true
    → (rest : List ℕ) (ss : List Spelt)
    → ends_word rest ≡ true
    → Scans AnyLetter rest ss
    → Scans AnyLetter (canonical_text f ++ rest) (tokens_onto f ss)
scans_formula (plain.Const true) is rest ss stops r = word_piece AnyLetter (codes "tt") rest ss refl stops r
scans_formula (plain.Const false) is rest ss stops r = word_piece AnyLetter (codes "ff") rest ss refl stops r
scans_formula (plain.Prop p) is rest ss stops r =
    word_piece AnyLetter p rest ss (proposition_letters p (is_reserved p) (first_so (is_proposition p) true is))
    stops r
scans_formula (plain.Var x) is rest ss stops r = word_piece AnyLetter x rest ss (upper_letters x (first_so (is_variable x) true is)) stops r
scans_formula (plain.Not f) is rest ss stops r =
    not_piece AnyLetter (canonical_text f ++ rest) (tokens_onto f ss) (scans_formula f is rest ss stops r)
scans_formula (plain.Binary o f g) is rest ss stops r =
    let parts = spelled_parts own (names f) (names g) is in
    let right = scans_formula g parts.1 (41 ∷ rest) (lone 41 ∷ ss) refl (lone_piece AnyLetter 41 rest ss refl r) in
    let sign = operator_piece AnyLetter o (canonical_text g ++ (41 ∷ rest)) (tokens_onto g (lone 41 ∷ ss)) right in
    let after = codes " " ++ (spelling_of o ++ (codes " " ++ (canonical_text g ++ (41 ∷ rest)))) in
    let left = scans_formula f parts.0 after ((token.Operator o, spelling_of o) ∷ tokens_onto g (lone 41 ∷ ss)) refl sign in
    subst (λ text. Scans AnyLetter text (tokens_onto (plain.Binary o f g) ss))
    (sym (between_same (canonical_text f) (spelling_of o) (canonical_text g) rest))
    (lone_piece AnyLetter 40 (canonical_text f ++ after)
    (tokens_onto f ((token.Operator o, spelling_of o) ∷ tokens_onto g (lone 41 ∷ ss))) refl left)
scans_formula (plain.Modal m a f) is rest ss stops r =
    let parts = and_parts (is_action a) (is_spelled f) is in
    subst (λ text. Scans AnyLetter text (tokens_onto (plain.Modal m a f) ss))
    (sym (append_assoc (modality_text m a) (canonical_text f) rest ∙ modality_same m a (canonical_text f ++ rest)))
    (modal_piece m a (canonical_text f ++ rest) (tokens_onto f ss) parts.0 (scans_formula f parts.1 rest ss stops r))
scans_formula (plain.Binder q x f) is rest ss stops r =
    let parts = and_parts (is_variable x) (is_spelled f) is in
    let body = scans_formula f parts.1 (41 ∷ rest) (lone 41 ∷ ss) refl (lone_piece AnyLetter 41 rest ss refl r) in
    let text = canonical_text f ++ (41 ∷ rest) in
    let toks = tokens_onto f (lone 41 ∷ ss) in
    let dot = lone_piece AnyLetter 46 (32 ∷ text) toks refl (blank 32 refl body) in
    let name = word_piece AnyLetter x (46 ∷ 32 ∷ text) (lone 46 ∷ toks) (upper_letters x parts.0) refl dot in
    let word =
    word_piece AnyLetter (fixpoint_word q) (32 ∷ (x ++ (46 ∷ 32 ∷ text))) ((token.Word, x) ∷ lone 46 ∷ toks)
    (fixpoint_letters q) refl (blank 32 refl name)
    in
    subst (λ text. Scans AnyLetter text (tokens_onto (plain.Binder q x f) ss)) (sym (binder_same (fixpoint_word q) x (canonical_text f) rest))
    (lone_piece AnyLetter 40 (fixpoint_word q ++ (32 ∷ (x ++ (46 ∷ 32 ∷ text))))
    ((token.Word, fixpoint_word q) ∷ (token.Word, x) ∷ lone 46 ∷ toks) refl word)

-- ---- reading them

abbrev pub sign_spelt : Spelt → Sign
sign_spelt s = sign_of s.0 s.1

true_sign : word_sign own (codes "tt") ≡ Const true
unfolding constant_of
true_sign = refl

false_sign : word_sign own (codes "ff") ≡ Const false
unfolding constant_of
false_sign = refl

fixpoint_sign : (q : Fixpoint) → word_sign own (fixpoint_word q) ≡ Added (Binds q)
unfolding constant_of
fixpoint_sign Least = refl
fixpoint_sign Greatest = refl

begin_sign : (m : Modality) → sign_spelt (lone (begin_byte m)) ≡ Added (Begins m)
begin_sign Diamond = refl
begin_sign Square = refl

end_sign : (m : Modality) → sign_spelt (lone (end_byte m)) ≡ Added (Ends m)
end_sign Diamond = refl
end_sign Square = refl

as_text : {ts rest : List Sign} {f : Formula} → Reads Operand ts f rest → Reads (Joined operator.Iff) ts f rest
as_text {ts} {rest} {f} r = raised (λ l. Reads l ts f rest) alone operator.Iff r

binary_read : (o : Operator) (ts us rest : List Sign) (f g : Formula)
    → Reads Operand ts f (Connective o ∷ us)
    → Reads Operand us g (Close ∷ rest)
    → Reads Operand (Open ∷ ts) (plain.Binary o f g) rest
binary_read o ts us rest f g a b =
    let left = left_raised (λ l. Reads l ts f (Connective o ∷ us)) alone o a in
    let right = right_raised (λ l. Reads l us g (Close ∷ rest)) alone o b in
    group (loosest (λ l. Reads l ts (plain.Binary o f g) (Close ∷ rest)) alone o (joined o left right))

modal_read : (m : Modality) (a : List ℕ) (f : Formula) (after : List Spelt) (rest : List Sign)
    → is_action a ≡ true
    → Reads Operand (map sign_spelt after) f rest
    → Reads Operand (sign_spelt (lone (begin_byte m)) ∷ map sign_spelt (action_tokens a (lone (end_byte m) ∷ after))) (plain.Modal m a f) rest
modal_read m a f after rest is r =
    let open_is = begin_sign m in
    let close_is = end_sign m in
    ⊎_elim
    (λ (any : bytes_eq a (codes "_") ≡ true).
    let same = (Rattle.std.proofs.lemmas.Slice.Eq.bytes_eq-Decides a (codes "_")).0 any in
    let read :
    Reads Operand (sign_spelt (lone (begin_byte m)) ∷ sign_spelt (lone (end_byte m)) ∷ map sign_spelt after)
    (plain.Modal m (codes "_") f) rest =
    subst
    (λ t.
    Reads Operand (t ∷ sign_spelt (lone (end_byte m)) ∷ map sign_spelt after) (plain.Modal m (codes "_") f) rest)
    (sym open_is)
    (subst (λ t. Reads Operand (Added (Begins m) ∷ t ∷ map sign_spelt after) (plain.Modal m (codes "_") f) rest)
    (sym close_is) (modal_blank m r))
    in
    subst
    (λ c. Reads Operand
    (sign_spelt (lone (begin_byte m))
    ∷ map sign_spelt (cond c (lone (end_byte m) ∷ after) ((token.Word, a) ∷ lone (end_byte m) ∷ after)))
    (plain.Modal m a f) rest)
    (sym any)
    (subst
    (λ b. Reads Operand (sign_spelt (lone (begin_byte m)) ∷ sign_spelt (lone (end_byte m)) ∷ map sign_spelt after)
    (plain.Modal m b f) rest)
    (sym same) read))
    (λ (other : bytes_eq a (codes "_") ≡ false).
    let s = action_word a is other in
    subst
    (λ c. Reads Operand
    (sign_spelt (lone (begin_byte m))
    ∷ map sign_spelt (cond c (lone (end_byte m) ∷ after) ((token.Word, a) ∷ lone (end_byte m) ∷ after)))
    (plain.Modal m a f) rest)
    (sym other)
    (subst (λ t. Reads Operand (t ∷ word_sign own a ∷ sign_spelt (lone (end_byte m)) ∷ map sign_spelt after) (plain.Modal m a f) rest) (sym open_is)
    (subst (λ t. Reads Operand (Added (Begins m) ∷ word_sign own a ∷ t ∷ map sign_spelt after) (plain.Modal m a f) rest)
    (sym close_is) (modal m a (word_sign own a) s.1 r))))
    (cases_Bool (bytes_eq a (codes "_")))

binder_read : (q : Fixpoint) (x : List ℕ) (f : Formula) (after : List Spelt) (rest : List Sign)
    → is_variable x ≡ true
    → Reads Operand (map sign_spelt after) f (Close ∷ rest)
    → Reads Operand (Open ∷ word_sign own (fixpoint_word q) ∷ word_sign own x ∷ Added Dot ∷ map sign_spelt after) (plain.Binder q x f) rest
binder_read q x f after rest is r =
    let bound = as_text (binder q x (as_text r) refl) in
    subst (λ t. Reads Operand (Open ∷ t ∷ word_sign own x ∷ Added Dot ∷ map sign_spelt after) (plain.Binder q x f) rest) (sym (fixpoint_sign q))
    (subst (λ t. Reads Operand (Open ∷ Added (Binds q) ∷ t ∷ Added Dot ∷ map sign_spelt after) (plain.Binder q x f) rest)
    (sym (upper_word_sign own refl x is)) (group bound))

pub reads_formula : (f : Formula)
    → is_spelled f ≡ true
    → (ss : List Spelt)
    → Reads Operand (map sign_spelt (tokens_onto f ss)) f (map sign_spelt ss)
reads_formula (plain.Const true) is ss =
    subst (λ t. Reads Operand (t ∷ map sign_spelt ss) (plain.Const true) (map sign_spelt ss)) (sym true_sign)
    (constant true)
reads_formula (plain.Const false) is ss =
    subst (λ t. Reads Operand (t ∷ map sign_spelt ss) (plain.Const false) (map sign_spelt ss)) (sym false_sign)
    (constant false)
reads_formula (plain.Prop p) is ss =
    subst (λ t. Reads Operand (t ∷ map sign_spelt ss) (plain.Prop p) (map sign_spelt ss))
    (sym (proposition_sign own p (first_so (is_proposition p) true is))) (proposition p)
reads_formula (plain.Var x) is ss =
    subst (λ t. Reads Operand (t ∷ map sign_spelt ss) (plain.Var x) (map sign_spelt ss)) (sym (upper_word_sign own refl x (first_so (is_variable x) true is)))
    (variable x)
reads_formula (plain.Not f) is ss = negation (reads_formula f is ss)
reads_formula (plain.Binary o f g) is ss =
    let parts = spelled_parts own (names f) (names g) is in
    binary_read o _ _ (map sign_spelt ss) f g
    (reads_formula f parts.0 ((token.Operator o, spelling_of o) ∷ tokens_onto g (lone 41 ∷ ss)))
    (reads_formula g parts.1 (lone 41 ∷ ss))
reads_formula (plain.Modal m a f) is ss =
    let parts = and_parts (is_action a) (is_spelled f) is in
    modal_read m a f (tokens_onto f ss) (map sign_spelt ss) parts.0 (reads_formula f parts.1 ss)
reads_formula (plain.Binder q x f) is ss =
    let parts = and_parts (is_variable x) (is_spelled f) is in
    binder_read q x f (tokens_onto f (lone 41 ∷ ss)) (map sign_spelt ss) parts.0 (reads_formula f parts.1 (lone 41 ∷ ss))

-- ---- the text

pub canonical_tokens : (f : Formula)
    → is_spelled f ≡ true
    → map (spelt_at (canonical_text f)) (tokens AnyLetter (canonical_text f)) ≡ tokens_onto f []
canonical_tokens f is =
    let text = canonical_text f in
    let scans : Scans AnyLetter text (tokens_onto f []) =
    subst (λ t. Scans AnyLetter t (tokens_onto f [])) (append-nil text) (scans_formula f is [] [] refl ends)
    in
    scans_tokens AnyLetter text (tokens_onto f []) scans

pub canonical_stands : (f : Formula) → is_spelled f ≡ true → IsTextOf (canonical_text f) f
canonical_stands f is =
    let text = canonical_text f in
    let signs_are : signs_of (items text) ≡ map sign_spelt (tokens_onto f []) =
    signs_spelt mu_signs sign_spelt text (λ p. refl) false (tokens AnyLetter text) ∙ ap (map sign_spelt) (canonical_tokens f is) in
    subst (λ ts. Reads (Joined operator.Iff) ts f []) (sym signs_are) (as_text (reads_formula f is []))
