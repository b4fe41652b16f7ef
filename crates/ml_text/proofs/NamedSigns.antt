-- Signs: which words are names and which are signs of the logic, how names are spelled, and of which bytes of a token a name
-- is made.
--
--   starts_word       == a word of a logic begins with a letter
--   no_own            == a word that isn't in a table of words is none of its words
--   own_word, own_byte == what holds of the signs of a table holds of the one that is found
--   free_word         == a word that is no constant and no sign of the logic isn't reserved
--   name_of_lower, name_of_upper == such a word is a name by its first letter
--   name_word         == a word that isn't reserved is a name
--   proposition_sign, upper_word_sign == a proposition, and a word that begins in upper case where no reserved word does
--   action_sign       == an action other than `_` is a word that begins with a letter, and its sign has it as its name
--   closed_word       == a word is no parenthesis, where no word of the logic is
--   IsSpelledSign     == a name is a proposition, or begins in upper case
--   spelled_sign      == the sign of each token is spelled so
--   short_name        == a token that is no longer than a name has a short name, if it has one
--   can_name          == a sign can be made of each token, whose name is cut where it is too long
--   alike_by          == signs of one kind do the same, where names do
use Rattle.std.proofs.Common.{◌≡◌, ℕ, ◌≤◌, Bool, true, false, ◌&&◌, ◌==◌, nat_lt, List, [], ◌∷◌, length, take, Option, Some, None, cond, refl, sym, ◌∙◌, ap, subst, bytes_eq, codes, slice_index, ltb-false, arith, ◌-◌, ⊎_elim}
use Rattle.std.specs.List.{AllByRecursion, list_any}
use Rattle.std.proofs.lemmas.Bool.{cases_Bool, cond-true, cond-false, or_from, or_parts}
use Rattle.ml_base.specs.Name.{longest_name}
use Rattle.ml_text.specs.Bytes.{is_letter, is_lower, is_upper}
use Rattle.ml_text.specs.Grammar.{Grammar}
use Rattle.ml_text.specs.Items.{is_word, is_long_word, bytes_of}
use Rattle.ml_text.specs.NotedItems.{name_bytes}
use Rattle.ml_text.specs.Signs.{OwnSigns, Named, bracket_of, byte_in, is_proposition, is_reserved, is_upper_word, name_of, name_sign, own_or, reserved, sign_of, word_in, word_sign, word_sign_by, words_of}
use Rattle.ml_text.specs.SignKinds.{HasShortName, is_action, named}
use Rattle.ml_text.specs.Words.{IsWord, IsWordOf, constant_of, is_word_from}
use Rattle.ml_text.specs.declared.named_signs.Sign.{Sign}
use Rattle.ml_text.specs.declared.named_signs.Sign.TheVariants.{Not, Connective, Const, Open, Close, Lower, Upper, Added, Unknown}
use Rattle.ml_text.specs.declared.token.Placed.{Placed}
use Rattle.ml_text.specs.declared.token.Token.{Token}
use Rattle.ml_text.specs.declared.token.Token.TheVariants as token
use Rattle.ml_text.specs.declared.token.WordStart.{WordStart}
use Rattle.ml_text.specs.declared.token.WordStart.TheVariants.{AnyLetter, LowerCase}
use Rattle.ml_text.specs.private.Tables.{IsLike}
use Rattle.ml_text.proofs.FirstLetters.{lower_word, upper_word, upper_letters, none_of}
use Rattle.ml_text.proofs.FreeWords.{of_action, proposition_free, proposition_from, proposition_letters, upper_no_proposition}
use Rattle.ml_text.proofs.ReservedWords as words
use Rattle.ml_text.proofs.TableItems.{one_of, one_by, opening}
use Rattle.ml_text.proofs.WordNames.{token_size, name_bytes_by, word_name, cut_word}
use Rattle.std.proofs.lemmas.Bool.{or_left}

pub starts_word : (s : WordStart) (w : List ℕ) → IsWordOf s w → IsWord w
starts_word AnyLetter w word = word
starts_word LowerCase [] word = word
starts_word LowerCase (b ∷ bs) word = (or_left (is_lower b) (is_upper b) word.0, word.1)

module _ {X : Type 0} where
  found_by : (P : Named X → Type 0) (b : Bool) (x : X) (o : Option X) (s : Named X)
      → (b ≡ true → P (Added x))
      → P (own_or o s)
      → P (own_or (cond b (Some x) o) s)
  found_by P true x o s here later = here refl
  found_by P false x o s here later = later

  pub no_own : (table : List (List ℕ × X)) (w : List ℕ)
      → word_in table w ≡ None
      → list_any (bytes_eq w) (words_of table) ≡ false
  no_own [] w none = refl
  no_own (x ∷ table) w none =
      ⊎_elim
      (λ (same : bytes_eq w x.0 ≡ true).
      let e : Some x.1 ≡ None = sym (cond-true (bytes_eq w x.0) (Some x.1) (word_in table w) same) ∙ none in absurd (cc))
      (λ (other : bytes_eq w x.0 ≡ false).
      or_from (bytes_eq w x.0) (list_any (bytes_eq w) (words_of table)) other
      (no_own table w (sym (cond-false (bytes_eq w x.0) (Some x.1) (word_in table w) other) ∙ none)))
      (cases_Bool (bytes_eq w x.0))

  none_own : (table : List (List ℕ × X)) (w : List ℕ)
      → list_any (bytes_eq w) (words_of table) ≡ false
      → word_in table w ≡ None
  none_own [] w none = refl
  none_own (x ∷ table) w none =
      let parts = or_parts (bytes_eq w x.0) (list_any (bytes_eq w) (words_of table)) none in
      cond-false (bytes_eq w x.0) (Some x.1) (word_in table w) parts.0 ∙ none_own table w parts.1

  -- what holds of the signs of a table, and of another sign, holds of the one that is found
  pub own_word : (P : Named X → Type 0) (table : List (List ℕ × X)) (w : List ℕ) (s : Named X)
      → AllByRecursion (λ x. P (Added x.1)) table
      → P s
      → P (own_or (word_in table w) s)
  own_word P [] w s all is = is
  own_word P (x ∷ table) w s all is =
      found_by P (bytes_eq w x.0) x.1 (word_in table w) s (λ here. all.0) (own_word P table w s all.1 is)

  pub own_byte : (P : Named X → Type 0) (table : List (ℕ × X)) (b : ℕ) (s : Named X)
      → AllByRecursion (λ x. (b == x.0) ≡ true → P (Added x.1)) table
      → P s
      → P (own_or (byte_in table b) s)
  own_byte P [] b s all is = is
  own_byte P (x ∷ table) b s all is =
      found_by P (b == x.0) x.1 (byte_in table b) s all.0 (own_byte P table b s all.1 is)

  module _ (own : OwnSigns X) where
    -- ---- which words are names

    pub free_word : (w : List ℕ) → constant_of w ≡ None → word_in own.words w ≡ None → is_reserved own w ≡ false
    free_word w is none = words.free_word w (words_of own.words) is (no_own own.words w none)

    pub upper_sign : (w : List ℕ) → is_upper_word w ≡ true → name_sign own w ≡ Upper w
    upper_sign w is =
        cond-false (is_proposition own w) _ _ (upper_no_proposition w (is_reserved own w) is)
        ∙ cond-true (is_upper_word w) (Upper w) Unknown is

    pub name_of_lower : (w : List ℕ)
        → IsWordOf own.starts w
        → is_reserved own w ≡ false
        → is_lower (slice_index w 0) ≡ true
        → Lower w ≡ name_sign own w
    name_of_lower w word free lower =
        let is = proposition_from w (is_reserved own w) (lower_word w (starts_word own.starts w word) lower) free in
        sym (cond-true (is_proposition own w) (Lower w) _ is)

    pub name_of_upper : (w : List ℕ)
        → IsWordOf own.starts w
        → is_lower (slice_index w 0) ≡ false
        → Upper w ≡ name_sign own w
    name_of_upper w word other = sym (upper_sign w (upper_word w (starts_word own.starts w word) other))

    pub name_word : (w : List ℕ) → is_reserved own w ≡ false → word_sign own w ≡ name_sign own w
    name_word w is =
        let parts = words.free_parts w (words_of own.words) is in
        ap (λ o. word_sign_by own o w) parts.0
        ∙ ap (λ o. own_or o (name_sign own w)) (none_own own.words w parts.1)

    pub proposition_sign : (p : List ℕ) → is_proposition own p ≡ true → word_sign own p ≡ Lower p
    proposition_sign p is =
        name_word p (proposition_free p (is_reserved own p) is) ∙ cond-true (is_proposition own p) (Lower p) _ is

    -- where no reserved word begins in upper case
    pub upper_word_sign : list_any is_upper_word (reserved own) ≡ false
        → (x : List ℕ)
        → is_upper_word x ≡ true
        → word_sign own x ≡ Upper x
    upper_word_sign none x is = name_word x (none_of is_upper x (reserved own) is none) ∙ upper_sign x is

    pub action_sign : list_any is_upper_word (reserved own) ≡ false
        → (a : List ℕ)
        → is_action own a ≡ true
        → bytes_eq a (codes "_") ≡ false
        → (is_word_from is_letter a ≡ true) × (name_of (word_sign own a) ≡ Some a)
    action_sign none a is other =
        of_action (name_of (word_sign own a) ≡ Some a) a (is_reserved own a) is other
        (λ lower. ap name_of (proposition_sign a lower)) (λ upper. ap name_of (upper_word_sign none a upper))

    -- ---- words are no parentheses

    -- no word of the logic is one
    abbrev pub AreClosed : List (List ℕ × X) → Type 0
    AreClosed table = AllByRecursion (λ x. opening (own.bracket x.1) ≡ 0) table

    closed_name : (w : List ℕ) → opening (bracket_of own (name_sign own w)) ≡ 0
    closed_name w =
        one_of (λ s. opening (bracket_of own s) ≡ 0) (is_proposition own w) _ _ refl
        (one_of (λ s. opening (bracket_of own s) ≡ 0) (is_upper_word w) _ _ refl refl)

    pub closed_word : AreClosed own.words → (w : List ℕ) → opening (bracket_of own (word_sign own w)) ≡ 0
    closed_word all w = by_constant (constant_of w)
      where
        by_constant : (o : Option Bool) → opening (bracket_of own (word_sign_by own o w)) ≡ 0
        by_constant (Some b) = refl
        by_constant None = own_word (λ s. opening (bracket_of own s) ≡ 0) own.words w (name_sign own w) all (closed_name w)

    -- ---- spelled names

    abbrev pub IsSpelledSign : Named X → Type 0
    IsSpelledSign (Lower p) = is_proposition own p ≡ true
    IsSpelledSign (Upper x) = is_upper_word x ≡ true
    IsSpelledSign _ = Unit {0}

    abbrev pub AreSpelled : List (Named X) → Type 0
    AreSpelled ts = AllByRecursion IsSpelledSign ts

    spelled_own : (o : Option X) (s : Named X) → IsSpelledSign s → IsSpelledSign (own_or o s)
    spelled_own (Some x) s is = tt
    spelled_own None s is = is

    spelled_word : (w : List ℕ) (o : Option Bool) → IsSpelledSign (word_sign_by own o w)
    spelled_word w (Some b) = tt
    spelled_word w None =
        spelled_own (word_in own.words w) (name_sign own w)
        (one_by IsSpelledSign (is_proposition own w) _ _ (λ is. is)
        (one_by IsSpelledSign (is_upper_word w) _ _ (λ is. is) tt))

    pub spelled_sign : (t : Token) (bytes : List ℕ) → IsSpelledSign (sign_of own t bytes)
    spelled_sign token.Not bytes = tt
    spelled_sign (token.Operator o) bytes = tt
    spelled_sign (token.Byte b) bytes =
        one_of IsSpelledSign (b == 40) _ _ tt
        (one_of IsSpelledSign (b == 41) _ _ tt (spelled_own (byte_in own.bytes b) Unknown tt))
    spelled_sign token.Word bytes = spelled_word bytes (constant_of bytes)

    -- ---- names that are short enough

    short_own : (o : Option X) (s : Named X) → HasShortName s → HasShortName (own_or o s)
    short_own (Some x) s is = tt
    short_own None s is = is

    short_word : (w : List ℕ) (o : Option Bool) → length w ≤ longest_name → HasShortName (word_sign_by own o w)
    short_word w (Some b) short = tt
    short_word w None short =
        short_own (word_in own.words w) (name_sign own w)
        (one_by HasShortName (is_proposition own w) _ _
        (λ is. word_name w (proposition_letters w (is_reserved own w) is) short)
        (one_by HasShortName (is_upper_word w) _ _ (λ is. word_name w (upper_letters w is) short) tt))

    -- a token that is no word longer than a name
    pub short_name : (t : Token) (bytes : List ℕ) (n : ℕ)
        → (is_word t && nat_lt longest_name n) ≡ false
        → length bytes ≡ n
        → HasShortName (sign_of own t bytes)
    short_name token.Not bytes n short size = tt
    short_name (token.Operator o) bytes n short size = tt
    short_name (token.Byte b) bytes n short size =
        one_of HasShortName (b == 40) _ _ tt
        (one_of HasShortName (b == 41) _ _ tt (short_own (byte_in own.bytes b) Unknown tt))
    short_name token.Word bytes n short size =
        short_word bytes (constant_of bytes) (let le = ltb-false longest_name n short in omega (arith, le, size))

    -- ---- names that are cut

    -- the first bytes of a name are one
    cut_name : (k : Sign (Unit {0}) X) (w : List ℕ)
        → IsSpelledSign (named k w)
        → HasShortName (named k (take longest_name w))
    cut_name (Lower u) w spelled = cut_word w (proposition_letters w (is_reserved own w) spelled)
    cut_name (Upper u) w spelled = cut_word w (upper_letters w spelled)
    cut_name _ w spelled = tt

    -- a sign can be made of each token
    pub can_name : (k : Sign (Unit {0}) X) (text : List ℕ) (p : Placed) (s : Named X)
        → p.start ≤ p.end
        → p.end ≤ length text
        → named k (bytes_of text p) ≡ s
        → IsSpelledSign s
        → (is_long_word p ≡ false → length (bytes_of text p) ≡ p.end - p.start → HasShortName s)
        → HasShortName (named k (name_bytes text p))
    can_name k text p s before within is spelled short =
        name_bytes_by (λ w. HasShortName (named k w)) text p
        (cut_name k (bytes_of text p) (subst IsSpelledSign (sym is) spelled))
        (λ few. subst HasShortName (sym is) (short few (token_size text p before within)))

-- ---- names of one kind

pub same_like : (g : Grammar) (t : g.Sign) → IsLike g t t
same_like g t = record { role = λ s. refl; shift = λ q. refl; post = λ v. refl }

pub alike_by : {X : Type 0} (g : Grammar) (sign : Named X → g.Sign)
    → ((p q : List ℕ) → IsLike g (sign (Lower p)) (sign (Lower q)))
    → ((p q : List ℕ) → IsLike g (sign (Upper p)) (sign (Upper q)))
    → (k : Sign (Unit {0}) X) (w o : List ℕ)
    → IsLike g (sign (named k w)) (sign (named k o))
alike_by g sign lower upper (Lower u) w o = lower w o
alike_by g sign lower upper (Upper u) w o = upper w o
alike_by g sign lower upper Not w o = same_like g (sign Not)
alike_by g sign lower upper (Connective c) w o = same_like g (sign (Connective c))
alike_by g sign lower upper (Const b) w o = same_like g (sign (Const b))
alike_by g sign lower upper Open w o = same_like g (sign Open)
alike_by g sign lower upper Close w o = same_like g (sign Close)
alike_by g sign lower upper (Added x) w o = same_like g (sign (Added x))
alike_by g sign lower upper Unknown w o = same_like g (sign Unknown)
