-- Which parentheses are marked can be told from the bytes of a text, from its end.
--
--   is_quiet b       == the byte b is neither a parenthesis nor `?`
--   bytes_tell       == the tests of tokens are those of their bytes
--   Known at ..      == what is known behind the byte `at`: the flags of the parentheses from there on, whether `?` is the
--                       next sign, and whether tests stand in the parentheses that are open
--   mark_right       == the flag at a token's place is right, where it is asked
--   known_start, known_before, known_all == it is so behind the text; one byte before; and so the parentheses are marked
use Rattle.std.proofs.Common.{◌≡◌, ℕ, zero, suc, ◌+◌, ◌-◌, ◌<◌, ◌≤◌, Bool, true, false, cond, List, [], ◌∷◌, ◌++◌, length, map, take, drop, get_or}
use Rattle.std.proofs.Common.{reverse, Option, Some, None, refl, sym, ◌∙◌, ap, subst, ⊎_elim, arith, eqb-true, ◌==◌, length-take-le, set}
use Rattle.std.specs.Prelude.{not, ◌&&◌}
use Rattle.std.specs.List.{list_all}
use Rattle.std.proofs.lemmas.Bool.{cases_Bool, cond-true, cond-false, and_parts, and_from, not-true, not_from_false, false≢true}
use Rattle.std.proofs.lemmas.List.{drop_all, drop_more, get_or-set_same, get_or-set_other, length-set, reverse-append}
use Rattle.std.proofs.lemmas.List.Sums.{list_all-from_AllPass}
use Rattle.ml_text.specs.Bytes.{is_blank, is_word_byte}
use Rattle.ml_text.specs.Words.{IsWordOf, constant_of}
use Rattle.ml_text.specs.Tokens.{signs, front_token, tokens_at, tokens_from}
use Rattle.ml_text.specs.Spelling.{IsSign, Spells}
use Rattle.ml_text.specs.declared.token.Token.{Token}
use Rattle.ml_text.specs.declared.token.Token.TheVariants as token
use Rattle.ml_text.specs.declared.token.WordStart.TheVariants.{AnyLetter}
use Rattle.ml_text.specs.declared.token.Placed.{Placed}
use Rattle.ml_text.proofs.ByteKinds.{letter-word_byte}
use Rattle.ml_text.proofs.NamedSigns.{own_byte, own_word}
use Rattle.ml_text.proofs.TableItems.{one_of}
use Rattle.ml_text.proofs.Spelling.{spells_by, signs_all}
use Rattle.ml_text.proofs.Longest.{front_token-longest}
use Rattle.ml_text.proofs.Scan.{tokens_at-blank, tokens_at-token, tokens_at-end}
use Rattle.ml_text.specs.Signs.{byte_sign, is_proposition, is_upper_word, name_sign, word_sign_by}
use Rattle.ml_text.specs.declared.named_signs.Sign.TheVariants.{Close, Open, Added, Unknown}
use Rattle.ml_pdl.specs.Signs.{Sign, own, sign_of}
use Rattle.ml_pdl.specs.declared.signs.Own.TheVariants.{Question}
use Rattle.ml_text.specs.Items.{bytes_of}
use Rattle.ml_pdl.specs.Marks.{asks, is_test_behind, with_mark}
use Rattle.ml_pdl.specs.Text.{sign_by, signs_behind}
use Rattle.ml_pdl.specs.private.MarkTests.{asks_at, closes, test_at, told, Tells, AreMarks}

-- ---- signs that say nothing of marks

abbrev pub IsNeutral : Sign → Type 0
IsNeutral Open = ⊥
IsNeutral Close = ⊥
IsNeutral (Added Question) = ⊥
IsNeutral _ = Unit {0}

-- these may be `?`
abbrev pub IsNoBracket : Sign → Type 0
IsNoBracket Open = ⊥
IsNoBracket Close = ⊥
IsNoBracket _ = Unit {0}

pub weaker : (s : Sign) → IsNeutral s → IsNoBracket s
weaker Open is = is
weaker Close is = is
weaker (Added Question) is = tt
weaker _ is = tt

pub neutral_test : (s : Sign) (n : ℕ) (ts : List Sign) → IsNoBracket s → is_test_behind n (s ∷ ts) ≡ is_test_behind n ts
neutral_test Open n ts is = absurd is
neutral_test Close n ts is = absurd is
neutral_test _ n ts is = refl

neutral_asks : (s : Sign) (ts : List Sign) → IsNeutral s → asks (s ∷ ts) ≡ false
neutral_asks Open ts is = absurd is
neutral_asks Close ts is = absurd is
neutral_asks (Added Question) ts is = absurd is
neutral_asks _ ts is = refl

neutral_name : (w : List ℕ) → IsNeutral (name_sign own w)
neutral_name w = one_of IsNeutral (is_proposition own w) _ _ tt (one_of IsNeutral (is_upper_word w) _ _ tt tt)

pub neutral_word : (w : List ℕ) (o : Option Bool) → IsNeutral (word_sign_by own o w)
neutral_word w (Some b) = tt
neutral_word w None = own_word IsNeutral own.words w (name_sign own w) (tt, tt) (neutral_name w)

-- ---- bytes that say nothing of marks

abbrev is_quiet : ℕ → Bool
is_quiet c = not (c == 40) && (not (c == 41) && not (c == 63))

abbrev are_quiet : List ℕ → Bool
are_quiet bytes = list_all is_quiet bytes

record Quiet (c : ℕ) : Type 0 where
  no_open : c == 40 ≡ false
  no_close : c == 41 ≡ false
  no_question : c == 63 ≡ false

quiet : (c : ℕ) → is_quiet c ≡ true → Quiet c
quiet c is =
    let a = and_parts (not (c == 40)) (not (c == 41) && not (c == 63)) is in
    let b = and_parts (not (c == 41)) (not (c == 63)) a.1 in
    record { no_open = not-true (c == 40) a.0; no_close = not-true (c == 41) b.0; no_question = not-true (c == 63) b.1 }

-- a byte of words is quiet
differs : (c d : ℕ) → is_word_byte c ≡ true → is_word_byte d ≡ false → c == d ≡ false
differs c d word other =
    ⊎_elim
    (λ (same : c == d ≡ true). absurd (false≢true (sym other ∙ sym (ap is_word_byte (eqb-true c d same)) ∙ word)))
    (λ (no_same : c == d ≡ false). no_same)
    (cases_Bool (c == d))

word_quiet : (c : ℕ) → is_word_byte c ≡ true → is_quiet c ≡ true
word_quiet c word =
    and_from (not (c == 40)) (not (c == 41) && not (c == 63)) (not_from_false (c == 40) (differs c 40 word refl))
    (and_from (not (c == 41)) (not (c == 63)) (not_from_false (c == 41) (differs c 41 word refl)) (not_from_false (c == 63) (differs c 63 word refl)))

words_quiet : (bytes : List ℕ) → list_all is_word_byte bytes ≡ true → are_quiet bytes ≡ true
words_quiet [] all = refl
words_quiet (b ∷ bytes) all =
    let parts = and_parts (is_word_byte b) (list_all is_word_byte bytes) all in
    and_from (is_quiet b) (are_quiet bytes) (word_quiet b parts.0) (words_quiet bytes parts.1)

word_of_quiet : (bytes : List ℕ) → IsWordOf AnyLetter bytes → are_quiet bytes ≡ true
word_of_quiet [] word = absurd word
word_of_quiet (b ∷ bytes) word =
    let all = list_all-from_AllPass is_word_byte bytes word.1 in
    and_from (is_quiet b) (are_quiet bytes) (word_quiet b (letter-word_byte b word.0)) (words_quiet bytes all)

-- quiet bytes at the front
quiet_test : (b n : ℕ) (rest : List ℕ) → is_quiet b ≡ true → test_at n (b ∷ rest) ≡ test_at n rest
quiet_test b n rest is =
    let q = quiet b is in
    cond-false (b == 40) _ _ q.no_open ∙ cond-false (b == 41) _ _ q.no_close

skip : (m n : ℕ) (bytes : List ℕ) → are_quiet (take m bytes) ≡ true → test_at n bytes ≡ test_at n (drop m bytes)
skip zero n bytes is = refl
skip (suc m) n [] is = refl
skip (suc m) n (b ∷ bytes) is =
    let parts = and_parts (is_quiet b) (are_quiet (take m bytes)) is in
    quiet_test b n bytes parts.0 ∙ skip m n bytes parts.1

quiet_asks : (m b : ℕ) (rest : List ℕ)
    → 0 < m
    → is_blank b ≡ false
    → are_quiet (take m (b ∷ rest)) ≡ true
    → asks_at (b ∷ rest) ≡ false
quiet_asks zero b rest some no_blank is = absurd (omega arith)
quiet_asks (suc m) b rest some no_blank is =
    let parts = and_parts (is_quiet b) (are_quiet (take m rest)) is in
    cond-false (is_blank b) _ _ no_blank ∙ (quiet b parts.0).no_question

-- ---- one token

-- the signs ts say of marks what the bytes do
record Says (ts : List Sign) (bytes : List ℕ) : Type 0 where
  pub tests : (n : ℕ) → is_test_behind n ts ≡ test_at n bytes
  pub asked : asks ts ≡ asks_at bytes

-- a sign that says nothing, of quiet bytes
quiet_agrees : (s : Sign) (ts : List Sign) (m b : ℕ) (rest : List ℕ) → IsNeutral s → 0 < m → is_blank b ≡ false
    → are_quiet (take m (b ∷ rest)) ≡ true → Says ts (drop m (b ∷ rest)) → Says (s ∷ ts) (b ∷ rest)
quiet_agrees s ts m b rest neutral some no_blank is says = record {
  tests = λ n. neutral_test s n ts (weaker s neutral) ∙ says.tests n ∙ sym (skip m n (b ∷ rest) is);
  asked = neutral_asks s ts neutral ∙ sym (quiet_asks m b rest some no_blank is);
}

-- a sign that is a single byte
byte_tests : (p q : Bool) (s : Sign) (n : ℕ) (ts : List Sign) (rest : List ℕ) → IsNoBracket s → Says ts rest
    → is_test_behind n (cond p Open (cond q Close s) ∷ ts)
    ≡ cond p (test_at (suc n) rest) (cond q (closes n (asks_at rest) (λ m. test_at m rest)) (test_at n rest))
byte_tests true q s n ts rest is says = says.tests (suc n)
byte_tests false true s zero ts rest is says = says.asked
byte_tests false true s (suc n) ts rest is says = says.tests n
byte_tests false false s n ts rest is says = neutral_test s n ts is ∙ says.tests n

byte_asks : (b : ℕ) (ts : List Sign) → asks (byte_sign own b ∷ ts) ≡ (b == 63)
byte_asks b ts =
    ⊎_elim
    (λ (is : b == 63 ≡ true). ap (λ c. asks (byte_sign own c ∷ ts)) (eqb-true b 63 is) ∙ sym is)
    (λ (other : b == 63 ≡ false).
    one_of No (b == 40) _ _ refl
    (one_of No (b == 41) _ _ refl
    (own_byte No own.bytes b Unknown
    ((λ here. refl), ((λ here. refl), ((λ here. refl), ((λ here. refl), ((λ here. refl), ((λ here. refl), ((λ here. refl), ((λ here. absurd (false≢true (sym other ∙ here))), ((λ here. refl), tt))))))))) refl))
    ∙ sym other)
    (cases_Bool (b == 63))
  where
    No : Sign → Type 0
    No s = asks (s ∷ ts) ≡ false

byte_agrees : (b : ℕ) (ts : List Sign) (rest : List ℕ)
    → is_blank b ≡ false
    → Says ts rest
    → Says (byte_sign own b ∷ ts) (b ∷ rest)
byte_agrees b ts rest no_blank says = record {
  tests = λ n.
      byte_tests (b == 40) (b == 41) _ n ts rest
      (own_byte IsNoBracket own.bytes b Unknown ((λ here. tt), ((λ here. tt), ((λ here. tt), ((λ here. tt), ((λ here. tt), ((λ here. tt), ((λ here. tt), ((λ here. tt), ((λ here. tt), tt))))))))) tt)
      says;
  asked = byte_asks b ts ∙ sym (cond-false (is_blank b) _ _ no_blank);
}

-- the sign of a token that is spelled by a sign of all logics
is_common : Token → Bool
is_common token.Not = true
is_common (token.Operator o) = true
is_common token.Word = false
is_common (token.Byte b) = false

common_neutral : (t : Token) (bytes : List ℕ) → is_common t ≡ true → IsNeutral (sign_of t bytes)
unfolding is_common
common_neutral token.Not bytes is = tt
common_neutral (token.Operator o) bytes is = tt
common_neutral token.Word bytes is = absurd (false≢true is)
common_neutral (token.Byte b) bytes is = absurd (false≢true is)

signs_common : (bytes : List ℕ) (t : Token) → IsSign bytes t → is_common t ≡ true
unfolding signs is_common
signs_common = signs_all (λ e. is_common e.1) refl

signs_quiet : (bytes : List ℕ) (t : Token) → IsSign bytes t → are_quiet bytes ≡ true
unfolding signs
signs_quiet = signs_all (λ e. are_quiet e.0) refl

-- the bytes of a token that is one byte
one_byte : (m b c : ℕ) (rest : List ℕ)
    → m ≤ length (b ∷ rest)
    → take m (b ∷ rest) ≡ c ∷ []
    → (b ≡ c) × (drop m (b ∷ rest) ≡ rest)
one_byte zero b c rest fits is = absurd (omega (arith, ap length is))
one_byte (suc zero) b c rest fits is = (ap (λ l. get_or l 0 0) is, refl)
one_byte (suc (suc m)) b c rest fits is = absurd (omega (arith, length-take-le (suc (suc m)) (b ∷ rest) fits, ap length is))

token_agrees : (t : Token) (bytes : List ℕ) (ts : List Sign) (m b : ℕ) (rest : List ℕ)
    → is_blank b ≡ false
    → 0 < m
    → m ≤ length (b ∷ rest)
    → Spells AnyLetter (take m (b ∷ rest)) t → Says ts (drop m (b ∷ rest)) → Says (sign_of t bytes ∷ ts) (b ∷ rest)
token_agrees t bytes ts m b rest no_blank some fits spells says =
    spells_by AnyLetter (take m (b ∷ rest)) (λ u. Says (sign_of u bytes ∷ ts) (b ∷ rest))
    (λ word. quiet_agrees (sign_of token.Word bytes) ts m b rest (neutral_word bytes (constant_of bytes)) some no_blank
    (word_of_quiet (take m (b ∷ rest)) word) says)
    (λ u sign.
    quiet_agrees (sign_of u bytes) ts m b rest (common_neutral u bytes (signs_common (take m (b ∷ rest)) u sign)) some
    no_blank (signs_quiet (take m (b ∷ rest)) u sign) says)
    (λ c byte.
    let one = one_byte m b c rest fits byte.alone in
    subst (λ d. Says (byte_sign own d ∷ ts) (b ∷ rest)) one.0 (byte_agrees b ts rest no_blank (subst (λ r. Says ts r) one.1 says)))
    t spells

-- ---- all tokens

blank_tests : (b n : ℕ) (rest : List ℕ) → is_blank b ≡ true → test_at n (b ∷ rest) ≡ test_at n rest
blank_tests b n rest blank = cond-false (b == 40) _ _ (no_paren 40 refl) ∙ cond-false (b == 41) _ _ (no_paren 41 refl)
  where
    no_paren : (c : ℕ) → is_blank c ≡ false → b == c ≡ false
    no_paren c other =
        ⊎_elim
        (λ (same : b == c ≡ true). absurd (false≢true (sym other ∙ sym (ap is_blank (eqb-true b c same)) ∙ blank)))
        (λ (no_same : b == c ≡ false). no_same)
        (cases_Bool (b == c))

says_tokens : (whole : List ℕ) (m i : ℕ) (bytes : List ℕ)
    → length bytes ≤ m
    → Says (map (sign_by whole) (tokens_at m AnyLetter i bytes)) bytes
says_tokens whole m i [] small =
    subst (λ ps. Says (map (sign_by whole) ps) []) (sym (tokens_at-end m AnyLetter i)) (record { tests = λ n. refl; asked = refl })
says_tokens whole zero i (b ∷ rest) small = absurd (omega arith)
says_tokens whole (suc m) i (b ∷ rest) small =
    ⊎_elim
    (λ (blank : is_blank b ≡ true).
    let later = says_tokens whole m (i + 1) rest (omega arith) in
    subst (λ ps. Says (map (sign_by whole) ps) (b ∷ rest)) (sym (tokens_at-blank m AnyLetter i b rest blank))
    (record {
      tests = λ n. later.tests n ∙ sym (blank_tests b n rest blank);
      asked = later.asked ∙ sym (cond-true (is_blank b) _ _ blank);
    }))
    (λ (no_blank : is_blank b ≡ false).
    let front = front_token AnyLetter b rest in
    let longest = front_token-longest AnyLetter b rest no_blank in
    let some = Rattle.ml_text.proofs.Spelling.spells-some AnyLetter (take front.1 (b ∷ rest)) front.0 longest.spells in
    let size = length-take-le front.1 (b ∷ rest) longest.fits in
    let left = Rattle.std.proofs.Common.length-drop front.1 (b ∷ rest) in
    let later = says_tokens whole m (i + front.1) (drop front.1 (b ∷ rest)) (omega arith) in
    subst (λ ps. Says (map (sign_by whole) ps) (b ∷ rest)) (sym (tokens_at-token m AnyLetter i b rest no_blank))
    (token_agrees front.0 _ _ front.1 b rest no_blank (omega arith) longest.fits longest.spells later))
    (cases_Bool (is_blank b))

pub bytes_tell : (text : List ℕ) (n i : ℕ) → is_test_behind n (signs_behind text i) ≡ test_at n (drop i text)
unfolding tokens_from
bytes_tell text n i =
    let left = Rattle.std.proofs.Common.length-drop i text in
    (says_tokens text (length text) i (drop i text) (omega arith)).tests n

-- ---- from the end of the text

pub record Known (at : ℕ) (flags tests : List Bool) (next : Bool) (text : List ℕ) : Type 0 where
  pub within : at ≤ length text
  pub size : length flags ≡ length text
  pub asked : next ≡ asks_at (drop at text)
  pub tells : Tells tests (drop at text)
  pub marks : (i : ℕ)
      → at ≤ i
      → i < length text
      → get_or text i 0 ≡ 40
      → get_or flags i false ≡ test_at 0 (drop (i + 1) text)

pub known_start : (at : ℕ) (flags tests : List Bool) (next : Bool) (text : List ℕ)
    → at ≡ length text
    → length flags ≡ length text
    → tests ≡ []
    → next ≡ false
    → Known at flags tests next text
known_start at flags tests next text is size none unasked =
    let over = drop_all at text (omega (arith, is)) in
    record {
      within = omega (arith, is);
      size = size;
      asked = unasked ∙ sym (ap asks_at over);
      tells = λ n. ap (λ l. told (reverse l) n) none ∙ sym (ap (test_at n) over);
      marks = λ i from below paren. absurd (omega (arith, is));
    }

pub known_before : (at before : ℕ) (flags after : List Bool) (tests fewer : List Bool) (next asked mark : Bool)
    (text : List ℕ)
    → Known at flags tests next text
    → at ≡ before + 1 → after ≡ set flags before mark
    → Tells fewer (get_or text before 0 ∷ drop at text) × (get_or text before 0 ≡ 40 → mark ≡ test_at 0 (drop at text))
    → asked ≡ asks_at (get_or text before 0 ∷ drop at text)
    → Known before after fewer asked text
known_before at before flags after tests fewer next asked mark text k is set_is tells asks_is =
    let within = k.within in
    let same : drop before text ≡ get_or text before 0 ∷ drop at text =
    drop_more text before 0 (omega (arith, is)) ∙ ap (λ j. get_or text before 0 ∷ drop j text) (sym is)
    in
    record {
      within = omega (arith, is);
      size = ap length set_is ∙ length-set flags before mark ∙ k.size;
      asked = asks_is ∙ sym (ap asks_at same);
      tells = λ n. tells.0 n ∙ sym (ap (test_at n) same);
      marks = λ i from below paren.
          ⊎_elim
          (λ (here : i ≡ before).
          ap (λ l. get_or l i false) set_is
          ∙ ap (λ j. get_or (set flags before mark) j false) here
          ∙ get_or-set_same flags before mark false (omega (arith, is, k.size))
          ∙ tells.1 (ap (λ j. get_or text j 0) (sym here) ∙ paren)
          ∙ ap (λ j. test_at 0 (drop j text)) (is ∙ ap (λ j. j + 1) (sym here)))
          (λ (later : i ≡ before → ⊥).
          ap (λ l. get_or l i false) set_is
          ∙ get_or-set_other flags before i mark false later
          ∙ k.marks i (omega (arith, is, from, later)) below paren)
          (Rattle.std.proofs.lemmas.Bool.cases_eq i before);
    }

pub known_all : (at : ℕ) (flags tests : List Bool) (next : Bool) (text : List ℕ)
    → Known at flags tests next text
    → at ≡ 0
    → AreMarks flags text
known_all at flags tests next text k is =
    (k.size, λ i below paren. k.marks i (omega (arith, is)) below paren ∙ sym (bytes_tell text 0 (i + 1)))

-- one byte

abbrev Before : ℕ → List Bool → List ℕ → Bool → Type 0
Before byte tests bytes mark = Tells tests (byte ∷ bytes) × (byte ≡ 40 → mark ≡ test_at 0 bytes)

-- a `(`
pub popped_some : (byte : ℕ) (old new : List Bool) (mark : Bool)
    → byte ≡ 40
    → old ≡ new ++ mark ∷ []
    → (bytes : List ℕ)
    → Tells old bytes
    → Before byte new bytes mark
popped_some byte old new mark is split bytes tells =
    let at : (n : ℕ) → told (mark ∷ reverse new) n ≡ test_at n bytes =
    λ n. sym (ap (λ l. told l n) (ap reverse split ∙ reverse-append new (mark ∷ []))) ∙ tells n
    in
    (λ n. at (suc n) ∙ sym (cond-true (byte == 40) _ _ (ap (λ b. b == 40) is)), λ paren. at 0)

pub popped_none : (byte : ℕ) (old new : List Bool) (mark : Bool)
    → byte ≡ 40
    → old ≡ []
    → new ≡ []
    → mark ≡ false
    → (bytes : List ℕ)
    → Tells old bytes
    → Before byte new bytes mark
popped_none byte old new mark is none left unmarked bytes tells =
    let at : (n : ℕ) → false ≡ test_at n bytes = λ n. sym (ap (λ l. told (reverse l) n) none) ∙ tells n in
    (λ n. ap (λ l. told (reverse l) n) left ∙ at (suc n) ∙ sym (cond-true (byte == 40) _ _ (ap (λ b. b == 40) is)), λ paren. unmarked ∙ at 0)

-- a `)`
pub pushed : (byte : ℕ) (old new : List Bool) (next mark : Bool)
    → byte ≡ 41
    → new ≡ old ++ next ∷ []
    → (bytes : List ℕ)
    → next ≡ asks_at bytes
    → Tells old bytes
    → Before byte new bytes mark
pushed byte old new next mark is joined bytes asked tells = (
  λ n. ap (λ l. told l n) (ap reverse joined ∙ reverse-append old (next ∷ []))
      ∙ by n
      ∙ sym (cond-true (byte == 41) _ _ (ap (λ b. b == 41) is))
      ∙ sym (cond-false (byte == 40) _ _ (ap (λ b. b == 40) is)),
  λ paren. absurd (omega (arith, paren, is)),
)
  where
    by : (n : ℕ) → told (next ∷ reverse old) n ≡ closes n (asks_at bytes) (λ m. test_at m bytes)
    by zero = asked
    by (suc n) = tells n

-- another byte
pub passed : (byte : ℕ) (tests : List Bool) (mark : Bool)
    → byte == 40 ≡ false
    → byte == 41 ≡ false
    → (bytes : List ℕ)
    → Tells tests bytes
    → Before byte tests bytes mark
passed byte tests mark no_open no_close bytes tells = (
  λ n. tells n ∙ sym (cond-false (byte == 41) _ _ no_close) ∙ sym (cond-false (byte == 40) _ _ no_open),
  λ paren. absurd (false≢true (sym no_open ∙ ap (λ b. b == 40) paren)),
)

-- ---- the mark of a token

abbrev IsNoOpen : Sign → Type 0
IsNoOpen Open = ⊥
IsNoOpen _ = Unit {0}

neutral_open : (s : Sign) → IsNeutral s → IsNoOpen s
neutral_open Open is = is
neutral_open Close is = tt
neutral_open (Added Question) is = tt
neutral_open _ is = tt

unmarked : (a b : Bool) (s : Sign) → IsNoOpen s → with_mark a s ≡ with_mark b s
unmarked a b Open is = absurd is
unmarked a b _ is = refl

byte_mark : (a b : Bool) (c : ℕ) → (c ≡ 40 → a ≡ b) → with_mark a (byte_sign own c) ≡ with_mark b (byte_sign own c)
byte_mark a b c same =
    ⊎_elim
    (λ (is : c == 40 ≡ true). ap (λ m. with_mark m (byte_sign own c)) (same (eqb-true c 40 is)))
    (λ (other : c == 40 ≡ false).
    unmarked a b (byte_sign own c)
    (subst IsNoOpen (sym (cond-false (c == 40) Open _ other))
    (one_of IsNoOpen (c == 41) _ _ tt (own_byte IsNoOpen own.bytes c Unknown ((λ here. tt), ((λ here. tt), ((λ here. tt), ((λ here. tt), ((λ here. tt), ((λ here. tt), ((λ here. tt), ((λ here. tt), ((λ here. tt), tt))))))))) tt))))
    (cases_Bool (c == 40))

-- a token has a byte
pub token_within : (text : List ℕ) (p : Placed)
    → p.start ≤ p.end
    → p.end ≤ length text
    → Spells AnyLetter (bytes_of text p) p.token
    → p.start < length text
token_within text p before within spells =
    let some = Rattle.ml_text.proofs.Spelling.spells-some AnyLetter (bytes_of text p) p.token spells in
    let size = Rattle.std.proofs.Common.length-take (p.end - p.start) (drop p.start text) in
    let left = Rattle.std.proofs.Common.length-drop p.start text in
    omega (arith, some, size, left)

-- the bytes of a token that is one byte
at_one : (text : List ℕ) (p : Placed) (c : ℕ)
    → p.start ≤ p.end
    → p.end ≤ length text
    → bytes_of text p ≡ c ∷ []
    → (get_or text p.start 0 ≡ c) × (p.start + 1 ≡ p.end)
at_one text p c before within is =
    let size = Rattle.std.proofs.Common.length-take (p.end - p.start) (drop p.start text) in
    let left = Rattle.std.proofs.Common.length-drop p.start text in
    let one = ap length is in
    let next : p.start + 1 ≡ p.end = omega (arith, size, left, one) in
    let more = drop_more text p.start 0 (omega (arith, next)) in
    let short : p.end - p.start ≡ 1 = omega (arith, next) in
    (ap (λ l. get_or l 0 0) (sym (ap (take 1) more) ∙ ap (λ k. take k (drop p.start text)) (sym short) ∙ is), next)

-- the flag at a token's place is right, where it is asked
pub mark_right : (flags : List Bool) (text : List ℕ) (p : Placed)
    → AreMarks flags text
    → p.start ≤ p.end
    → p.end ≤ length text
    → Spells AnyLetter (bytes_of text p) p.token
    → with_mark (get_or flags p.start false) (sign_by text p) ≡ with_mark (is_test_behind 0 (signs_behind text p.end)) (sign_by text p)
mark_right flags text p marks before within spells =
    let a = get_or flags p.start false in
    let b = is_test_behind 0 (signs_behind text p.end) in
    let bytes = bytes_of text p in
    let inside = token_within text p before within spells in
    spells_by AnyLetter bytes (λ t. with_mark a (sign_of t bytes) ≡ with_mark b (sign_of t bytes))
    (λ word. unmarked a b _ (neutral_open (sign_of token.Word bytes) (neutral_word bytes (constant_of bytes))))
    (λ t sign. unmarked a b _ (neutral_open (sign_of t bytes) (common_neutral t bytes (signs_common bytes t sign))))
    (λ c byte.
    let one = at_one text p c before within byte.alone in
    byte_mark a b c (λ paren. marks.1 p.start inside (one.0 ∙ paren) ∙ ap (λ i. is_test_behind 0 (signs_behind text i)) one.1))
    p.token spells
