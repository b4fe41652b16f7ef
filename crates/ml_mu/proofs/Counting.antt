-- What a text counts is what its formula has: occurrences and variables.
--
--   count_signs silent ts      == the occurrences that the signs count
--   variable_words silent ts   == the variables among the signs
--   variables f                == the variables of f, in the order of the text
--   counts                     == the occurrences of a formula are those of its text
--   words_are_variables        == the variables of a formula are those of its text
--   few_names                  == a formula has no more names than occurrences
use Rattle.std.proofs.Common.{◌≡◌, ℕ, suc, ◌+◌, ◌≤◌, Bool, true, false, List, [], ◌∷◌, ◌++◌, length, Some, refl, sym, ◌∙◌, ap, arith, if◌then◌else◌, append_assoc, length-append}
use Rattle.ml_text.specs.declared.token.Operator.TheVariants as operator
use Rattle.ml_text.specs.Levels.{Level}
use Rattle.ml_text.specs.Refusals.{Item, signs_of}
use Rattle.ml_text.proofs.TableItems.{count_from}
use Rattle.ml_mu.specs.Formula as plain
use Rattle.ml_mu.specs.Formula.{Formula, occurrences}
use Rattle.ml_mu.specs.FormulaNames.{names}
use Rattle.ml_text.specs.declared.named_signs.Sign.TheVariants.{Lower, Upper, Added}
use Rattle.ml_mu.specs.Signs.{Sign, action_of}
use Rattle.ml_mu.specs.declared.signs.Own.TheVariants.{Begins, Ends, Blank}
use Rattle.ml_mu.specs.Grammar.{Reads, alone, joined, negation, modal, modal_blank, binder, group, constant, proposition, variable}
use Rattle.ml_mu.specs.Text.{silences, mu_signs, places_from, is_variable_at}
use Rattle.ml_mu.specs.VariableFaults.{Around, standings_in}

-- ---- occurrences

abbrev pub count_signs : Bool → List Sign → ℕ
count_signs = count_from mu_signs

-- a sign that is an action silences nothing
action_silences : (s : Sign) (a : List ℕ) → action_of s ≡ Some a → silences s ≡ false
action_silences (Added Blank) a is = refl
action_silences (Lower b) a is = refl
action_silences (Upper b) a is = refl
action_silences _ a is = absurd (cc)

count_modal : (m : plain.Modality) (s : Sign) (a : List ℕ) (ts : List Sign)
    → action_of s ≡ Some a
    → count_signs false (Added (Begins m) ∷ s ∷ Added (Ends m) ∷ ts) ≡ 1 + count_signs false ts
count_modal m s a ts is =
    let next = ap (λ b. count_signs b (Added (Ends m) ∷ ts)) (action_silences s a is) in
    omega (arith, next)

pub counts : {l : Level} {ts rest : List Sign} {f : Formula}
    → Reads l ts f rest
    → count_signs false ts ≡ occurrences f + count_signs false rest
counts (alone o r) = counts r
counts (joined o a b) = let x = counts a in let y = counts b in omega (arith, x, y)
counts (negation r) = let x = counts r in omega (arith, x)
counts (modal {ts = ts} m a s is r) = let x = counts r in let y = count_modal m s a ts is in omega (arith, x, y)
counts (modal_blank m r) = let x = counts r in omega (arith, x)
counts (binder q x r e) = let y = counts r in omega (arith, y)
counts (group r) = let x = counts r in omega (arith, x)
counts (constant b) = omega arith
counts (proposition p) = omega arith
counts (variable x) = omega arith

pub few_names : (f : Formula) → length (names f) ≤ occurrences f
few_names (plain.Const b) = omega arith
few_names (plain.Prop p) = omega arith
few_names (plain.Var x) = omega arith
few_names (plain.Not f) = omega (arith, few_names f)
few_names (plain.Binary op f g) = omega (arith, length-append (names f) (names g), few_names f, few_names g)
few_names (plain.Modal m a f) = omega (arith, few_names f)
few_names (plain.Binder q x f) = omega (arith, few_names f)

-- ---- variables

abbrev pub with_word : Bool → Sign → List (List ℕ) → List (List ℕ)
with_word false (Upper x) words = x ∷ words
with_word _ _ words = words

abbrev pub variable_words : Bool → List Sign → List (List ℕ)
variable_words silent [] = []
variable_words silent (t ∷ ts) = with_word silent t (variable_words (silences t) ts)

abbrev pub variables : Formula → List (List ℕ)
variables (plain.Const b) = []
variables (plain.Prop p) = []
variables (plain.Var x) = x ∷ []
variables (plain.Not f) = variables f
variables (plain.Binary o f g) = variables f ++ variables g
variables (plain.Modal m a f) = variables f
variables (plain.Binder q x f) = variables f

words_modal : (m : plain.Modality) (s : Sign) (a : List ℕ) (ts : List Sign)
    → action_of s ≡ Some a
    → variable_words false (Added (Begins m) ∷ s ∷ Added (Ends m) ∷ ts) ≡ variable_words false ts
words_modal m (Added Blank) a ts is = refl
words_modal m (Lower b) a ts is = refl
words_modal m (Upper b) a ts is = refl
words_modal m _ a ts is = absurd (cc)

words_both : (f g words later rest : List (List ℕ)) → words ≡ f ++ later → later ≡ g ++ rest → words ≡ (f ++ g) ++ rest
words_both f g words later rest a b = a ∙ ap (λ w. f ++ w) b ∙ sym (append_assoc f g rest)

pub words_are_variables : {l : Level} {ts rest : List Sign} {f : Formula}
    → Reads l ts f rest
    → variable_words false ts ≡ variables f ++ variable_words false rest
words_are_variables (alone o r) = words_are_variables r
words_are_variables (joined o a b) = words_both _ _ _ _ _ (words_are_variables a) (words_are_variables b)
words_are_variables (negation r) = words_are_variables r
words_are_variables (modal {ts = ts} m a s is r) = words_modal m s a ts is ∙ words_are_variables r
words_are_variables (modal_blank m r) = words_are_variables r
words_are_variables (binder q x r e) = words_are_variables r
words_are_variables (group r) = words_are_variables r
words_are_variables (constant b) = refl
words_are_variables (proposition p) = refl
words_are_variables (variable x) = refl

-- as many places as words, and as many standings as variables
place_one : (silent : Bool) (s : Sign) (at : ℕ) (places : List ℕ) (words : List (List ℕ))
    → length places ≡ length words
    → length (if is_variable_at silent s then at ∷ places else places) ≡ length (with_word silent s words)
place_one false (Upper x) at places words same = ap suc same
place_one true (Upper x) at places words same = same
place_one false _ at places words same = same
place_one true _ at places words same = same

pub length-places : (silent : Bool) (is : List (Item Sign))
    → length (places_from silent is) ≡ length (variable_words silent (signs_of is))
length-places silent [] = refl
length-places silent (i ∷ is) =
    place_one silent i.sign i.at (places_from (silences i.sign) is) (variable_words (silences i.sign) (signs_of is))
    (length-places (silences i.sign) is)

standings_both : {A B : Type 0} (a b : List A) (x y : List B)
    → length a ≡ length x
    → length b ≡ length y
    → length (a ++ b) ≡ length (x ++ y)
standings_both a b x y p q = omega (arith, length-append a b, length-append x y, p, q)

pub length-standings : (bs : List Around) (n i : ℕ) (f : Formula)
    → length (standings_in bs n i f) ≡ length (variables f)
length-standings bs n i (plain.Const b) = refl
length-standings bs n i (plain.Prop p) = refl
length-standings bs n i (plain.Var x) = refl
length-standings bs n i (plain.Not f) = length-standings bs (n + 1) i f
length-standings bs n i (plain.Binary operator.And f g) = standings_both _ _ _ _ (length-standings bs n i f) (length-standings bs n i g)
length-standings bs n i (plain.Binary operator.Or f g) = standings_both _ _ _ _ (length-standings bs n i f) (length-standings bs n i g)
length-standings bs n i (plain.Binary operator.Implies f g) = standings_both _ _ _ _ (length-standings bs (n + 1) i f) (length-standings bs n i g)
length-standings bs n i (plain.Binary operator.Iff f g) = standings_both _ _ _ _ (length-standings bs n (i + 1) f) (length-standings bs n (i + 1) g)
length-standings bs n i (plain.Modal m a f) = length-standings bs n i f
length-standings bs n i (plain.Binder q x f) = length-standings (record { name = x; negations = n; iffs = i } ∷ bs) n i f
