-- The words of a text that begin in lower case, by its tokens: where they stand, and which bytes they have.
--
--   placed_sign      == a token is such a word where its sign is
--   IsOf s w         == if the sign s is such a word, its bytes are w
--   bytes_sign       == the sign of a token has the token's bytes
--   Stands text k w  == the text has the bytes w at the byte k
--   zipped           == the words of a text stand at their places
--   same_places      == where the items say that they stand, the tokens say so
--   IsAscending ks   == no number is less than one before it
--   ascends          == the places ascend
use Rattle.std.proofs.Common.{◌≡◌, ℕ, zero, suc, ◌-◌, ◌≤◌, ◌==◌, ◌&&◌, Bool, true, false, if◌then◌else◌, List, [], ◌∷◌, length, take, drop, Option, Some, None, refl, sym, ap, subst, ◌∙◌, ⊎_elim, arith}
use Rattle.std.specs.List.{AllByRecursion, AllZip}
use Rattle.std.proofs.lemmas.Bool.{cases_Bool, cond-true, cond-false}
use Rattle.ml_front.specs.declared.logic.Logic.{Logic}
use Rattle.ml_text.specs.Items.{SignTable, bytes_of, is_word, items_from}
use Rattle.ml_text.specs.Refusals.{signs_of}
use Rattle.ml_text.specs.Signs.{Named, OwnSigns, byte_in, is_proposition, is_upper_word, name_sign, own_or, sign_of, word_in, word_sign_by}
use Rattle.ml_text.specs.Spelling.{AreTokens}
use Rattle.ml_text.specs.Words.{constant_of}
use Rattle.ml_text.specs.declared.named_signs.Sign.TheVariants.{Open, Close, Lower, Upper, Unknown}
use Rattle.ml_text.specs.declared.token.Placed.{Placed}
use Rattle.ml_text.specs.declared.token.Token.{Token}
use Rattle.ml_text.specs.declared.token.Token.TheVariants as token
use Rattle.ml_text.specs.declared.token.WordStart.{WordStart}
use Rattle.ml_text.proofs.NamedSigns.{proposition_sign}
use Rattle.ml_text.proofs.TableItems.{one_of}
use Rattle.ml_written.specs.Places as places
use Rattle.ml_written.specs.Places.{place_before}
use Rattle.ml_written.specs.private.LowerWords.{is_lower_word, lower_places}
use Rattle.ml_written.proofs.LowerNames.{lower_words, word_before}

module _ {X : Type 0} (own : OwnSigns X) where
  same_own : (o : Option X) (s : Named X) (at : ℕ) (ks : List ℕ)
      → place_before s at ks ≡ ks
      → place_before (own_or o s) at ks ≡ ks
  same_own (Some x) s at ks is = refl
  same_own None s at ks is = is

  other_word : (o : Option Bool) (w : List ℕ) (at : ℕ) (ks : List ℕ)
      → is_proposition own w ≡ false
      → place_before (word_sign_by own o w) at ks ≡ ks
  other_word (Some b) w at ks other = refl
  other_word None w at ks other =
      same_own (word_in own.words w) (name_sign own w) at ks
      (ap (λ s. place_before s at ks)
      (cond-false (is_proposition own w) (Lower w) (if is_upper_word w then Upper w else Unknown) other)
      ∙ one_of (λ s. place_before s at ks ≡ ks) (is_upper_word w) (Upper w) Unknown refl refl)

  pub placed_sign : (t : Token) (w : List ℕ) (at : ℕ) (ks : List ℕ)
      → place_before (sign_of own t w) at ks ≡ (if is_word t && is_proposition own w then at ∷ ks else ks)
  placed_sign token.Not w at ks = refl
  placed_sign (token.Operator o) w at ks = refl
  placed_sign (token.Byte b) w at ks =
      one_of (λ s. place_before s at ks ≡ ks) (b == 40) Open _ refl
      (one_of (λ s. place_before s at ks ≡ ks) (b == 41) Close _ refl
      (same_own (byte_in own.bytes b) Unknown at ks refl))
  placed_sign token.Word w at ks =
      ⊎_elim
      (λ (is : is_proposition own w ≡ true).
      ap (λ s. place_before s at ks) (proposition_sign own w is) ∙ sym (cond-true (is_proposition own w) (at ∷ ks) ks is))
      (λ (other : is_proposition own w ≡ false).
      other_word (constant_of w) w at ks other ∙ sym (cond-false (is_proposition own w) (at ∷ ks) ks other))
      (cases_Bool (is_proposition own w))

  abbrev pub IsOf : Named X → List ℕ → Type 0
  IsOf (Lower v) w = v ≡ w
  IsOf _ w = Unit {0}

  of_own : (o : Option X) (s : Named X) (w : List ℕ) → IsOf s w → IsOf (own_or o s) w
  of_own (Some x) s w is = tt
  of_own None s w is = is

  of_word : (o : Option Bool) (w : List ℕ) → IsOf (word_sign_by own o w) w
  of_word (Some b) w = tt
  of_word None w =
      of_own (word_in own.words w) (name_sign own w) w
      (one_of (λ s. IsOf s w) (is_proposition own w) (Lower w) _ refl
      (one_of (λ s. IsOf s w) (is_upper_word w) (Upper w) Unknown tt tt))

  pub bytes_sign : (t : Token) (w : List ℕ) → IsOf (sign_of own t w) w
  bytes_sign token.Not w = tt
  bytes_sign (token.Operator o) w = tt
  bytes_sign (token.Byte b) w =
      one_of (λ s. IsOf s w) (b == 40) Open _ tt
      (one_of (λ s. IsOf s w) (b == 41) Close _ tt (of_own (byte_in own.bytes b) Unknown w tt))
  bytes_sign token.Word w = of_word (constant_of w) w

-- ---- the words of a text

front_again : (n : ℕ) (xs : List ℕ) → take (length (take n xs)) xs ≡ take n xs
front_again zero xs = refl
front_again (suc n) [] = refl
front_again (suc n) (x ∷ xs) = ap (λ ys. x ∷ ys) (front_again n xs)

abbrev pub Stands : List ℕ → ℕ → List ℕ → Type 0
Stands text k w = take (length w) (drop k text) ≡ w

module _ {X C : Type 0} (own : OwnSigns X) (t : SignTable (Named X) C) where
  zip_one : (text : List ℕ) (p : Placed) (s : Named X) (ks : List ℕ) (ws : List (List ℕ))
      → IsOf own s (bytes_of text p)
      → AllZip (Stands text) ks ws
      → AllZip (Stands text) (place_before s p.start ks) (word_before s ws)
  zip_one text p (Lower v) ks ws is all =
      (subst (λ w. Stands text p.start w) (sym is) (front_again (p.end - p.start) (drop p.start text)), all)
  zip_one text p _ ks ws is all = all

  pub zipped : (text : List ℕ)
      → ((p : Placed) → IsOf own (t.sign_at text p) (bytes_of text p))
      → (c : C) (ps : List Placed)
      → AllZip (Stands text) (places.lower_places (items_from t text c ps)) (lower_words (signs_of (items_from t text c ps)))
  zipped text is c [] = tt
  zipped text is c (p ∷ ps) =
      zip_one text p (t.sign_at text p) _ _ (is p) (zipped text is (t.behind (t.sign_at text p)) ps)

  pub same_places : (l : Logic) (text : List ℕ)
      → ((p : Placed) (at : ℕ) (ks : List ℕ)
      → place_before (t.sign_at text p) at ks ≡ (if is_lower_word l text p then at ∷ ks else ks))
      → (c : C) (ps : List Placed)
      → places.lower_places (items_from t text c ps) ≡ lower_places l text ps
  same_places l text same c [] = refl
  same_places l text same c (p ∷ ps) =
      same p p.start _
      ∙ ap (λ ks. if is_lower_word l text p then p.start ∷ ks else ks)
      (same_places l text same (t.behind (t.sign_at text p)) ps)

-- ---- places ascend

abbrev pub IsAscending : List ℕ → Type 0
IsAscending [] = Unit {0}
IsAscending (k ∷ ks) = AllByRecursion (λ j. k ≤ j) ks × IsAscending ks

behind : (l : Logic) (w : WordStart) (text : List ℕ) (j i : ℕ) (ps : List Placed)
    → j ≤ i
    → AreTokens w text i ps
    → AllByRecursion (λ k. j ≤ k) (lower_places l text ps)
behind l w text j i [] before are = tt
behind l w text j i (p ∷ ps) before are =
    let here = are.0.behind in
    let later = behind l w text j p.end ps (omega (arith, before, here, are.0.some)) are.1 in
    one_of (AllByRecursion (λ k. j ≤ k)) (is_lower_word l text p) (p.start ∷ lower_places l text ps) (lower_places l text ps)
    (omega (arith, before, here), later) later

pub ascends : (l : Logic) (w : WordStart) (text : List ℕ) (i : ℕ) (ps : List Placed)
    → AreTokens w text i ps
    → IsAscending (lower_places l text ps)
ascends l w text i [] are = tt
ascends l w text i (p ∷ ps) are =
    let later = ascends l w text p.end ps are.1 in
    one_of IsAscending (is_lower_word l text p) (p.start ∷ lower_places l text ps) (lower_places l text ps)
    (behind l w text p.start p.end ps (omega (arith, are.0.some)) are.1, later) later
