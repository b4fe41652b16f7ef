-- The items of a text by a table of signs: their signs, the names among them that are too long, and their parentheses.
--
--   one_of        == what holds of both signs holds of the one that is chosen
--   one_by        == the first sign may need that it is chosen
--   signs_all     == what holds of the sign of each token holds of all signs
--   signs_spelt   == where a token's sign follows from its bytes, the signs follow from the tokens with their bytes
--   count_from t c ss == the occurrences that the signs count, the first of them in the context c
--   counted_items == the items of a text count what its signs do
--   IsShort s     == the token s is no word that is longer than a name may be
--   short_word    == no word that is short enough is one
--   no_long       == where all tokens are short, no item is a name that is too long
--   signs_short   == where none is, what holds of the signs of short tokens holds of all signs
--   opening b     == as how many opening parentheses a sign counts
--   opens items   == how many opening parentheses the items have
--   open_most     == no more are open anywhere
--   opens_items   == the items have as many as their tokens
use Rattle.std.proofs.Common.{◌≡◌, ℕ, zero, suc, ◌+◌, ◌-◌, ◌≤◌, Bool, true, false, ◌&&◌, nat_lt, List, [], ◌∷◌, length, map, take, cond, refl, sym, ◌∙◌, ap, arith, ltb-true}
use Rattle.std.proofs.lemmas.Bool.{false_from_ne_true}
use Rattle.std.proofs.lemmas.List.Sums.{sum_by-cons}
use Rattle.std.specs.List.{AllByRecursion}
use Rattle.ml_base.specs.Name.{longest_name}
use Rattle.ml_text.specs.declared.limits.Bracket.{Bracket}
use Rattle.ml_text.specs.declared.limits.Bracket.TheVariants.{Opening, Closing, Neither}
use Rattle.ml_text.specs.declared.token.Placed.{Placed}
use Rattle.ml_text.specs.declared.token.Token.TheVariants as token
use Rattle.ml_text.specs.declared.token.WordStart.{WordStart}
use Rattle.ml_text.specs.Items.{SignTable, is_word, is_long_word, bytes_of, item_at, items_from}
use Rattle.ml_text.specs.Refusals.{Item, counted, signs_of, is_long_at, open_from, open_behind_one}
use Rattle.ml_text.specs.Spelling.{AreTokens}
use Rattle.ml_text.proofs.Scans.{Spelt, spelt_at}
use Rattle.ml_text.proofs.WordNames.{token_size}

-- ---- signs

pub one_of : {Sign : Type 0} (P : Sign → Type 0) (b : Bool) (s t : Sign) → P s → P t → P (cond b s t)
one_of P true s t p q = p
one_of P false s t p q = q

pub one_by : {Sign : Type 0} (P : Sign → Type 0) (b : Bool) (s t : Sign) → (b ≡ true → P s) → P t → P (cond b s t)
one_by P true s t p q = p refl
one_by P false s t p q = q

pub signs_all : {Sign Context : Type 0} (t : SignTable Sign Context) (P : Sign → Type 0) (text : List ℕ)
    → ((p : Placed) → P (t.sign_at text p))
    → (c : Context) (ps : List Placed)
    → AllByRecursion P (signs_of (items_from t text c ps))
signs_all t P text each c [] = tt
signs_all t P text each c (p ∷ ps) = (each p, signs_all t P text each (t.behind (t.sign_at text p)) ps)

pub signs_spelt : {Sign Context : Type 0} (t : SignTable Sign Context) (spelt : Spelt → Sign) (text : List ℕ)
    → ((p : Placed) → t.sign_at text p ≡ spelt (spelt_at text p))
    → (c : Context) (ps : List Placed)
    → signs_of (items_from t text c ps) ≡ map spelt (map (spelt_at text) ps)
signs_spelt t spelt text same c [] = refl
signs_spelt t spelt text same c (p ∷ ps) =
    let later = signs_spelt t spelt text same (t.behind (t.sign_at text p)) ps in
    (λ k. same p k ∷ later k)

-- ---- occurrences

abbrev pub count_from : {Sign Context : Type 0} → SignTable Sign Context → Context → List Sign → ℕ
count_from t c [] = 0
count_from t c (s ∷ ss) = t.weight c s + count_from t (t.behind s) ss

pub counted_items : {Sign Context : Type 0} (t : SignTable Sign Context) (text : List ℕ) (c : Context) (ps : List Placed)
    → counted (items_from t text c ps) ≡ count_from t c (signs_of (items_from t text c ps))
counted_items t text c [] = refl
counted_items {Sign} t text c (p ∷ ps) =
    let here =
    sum_by-cons (λ (i : Item Sign). i.weight) (item_at t text c p) (items_from t text (t.behind (t.sign_at text p)) ps) in
    let later = counted_items t text (t.behind (t.sign_at text p)) ps in
    omega (arith, here, later)

-- ---- names that are too long

abbrev pub IsShort : Spelt → Type 0
IsShort s = (is_word s.0 && nat_lt longest_name (length s.1)) ≡ false

pub short_word : (w : List ℕ) → length w ≤ longest_name → IsShort (token.Word, w)
short_word w short = go (nat_lt longest_name (length w)) refl
  where
    go : (b : Bool) → nat_lt longest_name (length w) ≡ b → nat_lt longest_name (length w) ≡ false
    go false is = is
    go true is = absurd (omega (arith, ltb-true longest_name (length w) is, short))

short_placed : (text : List ℕ) (p : Placed)
    → p.start ≤ p.end
    → p.end ≤ length text
    → IsShort (spelt_at text p)
    → is_long_word p ≡ false
short_placed text p before within short =
    ap (λ n. is_word p.token && nat_lt longest_name n) (sym (token_size text p before within)) ∙ short

pub no_long : {Sign Context : Type 0} (t : SignTable Sign Context) (w : WordStart) (text : List ℕ) (i : ℕ) (c : Context)
    (ps : List Placed)
    → AreTokens w text i ps
    → AllByRecursion IsShort (map (spelt_at text) ps)
    → (k : ℕ)
    → is_long_at (items_from t text c ps) k ≡ true
    → ⊥
no_long t w text i c [] are all k long = absurd (cc)
no_long t w text i c (p ∷ ps) are all zero long =
    let short = short_placed text p (omega (arith, are.0.some)) are.0.fits all.0 in absurd (cc)
no_long t w text i c (p ∷ ps) are all (suc k) long =
    no_long t w text p.end (t.behind (t.sign_at text p)) ps are.1 all.1 k long

pub signs_short : {Sign Context : Type 0} (t : SignTable Sign Context) (P : Sign → Type 0) (w : WordStart) (text : List ℕ)
    → ((p : Placed) → is_long_word p ≡ false → length (bytes_of text p) ≡ p.end - p.start → P (t.sign_at text p))
    → (i : ℕ) (c : Context) (ps : List Placed)
    → AreTokens w text i ps
    → ((k : ℕ) → is_long_at (items_from t text c ps) k ≡ true → ⊥)
    → AllByRecursion P (signs_of (items_from t text c ps))
signs_short t P w text each i c [] are none = tt
signs_short t P w text each i c (p ∷ ps) are none = (
  each p (false_from_ne_true (is_long_word p) (none 0)) (token_size text p (omega (arith, are.0.some)) are.0.fits),
  signs_short t P w text each p.end (t.behind (t.sign_at text p)) ps are.1 (λ k long. none (suc k) long),
)

-- ---- parentheses

abbrev pub opening : Bracket → ℕ
opening Opening = 1
opening _ = 0

abbrev pub opens : {Sign : Type 0} → List (Item Sign) → ℕ
opens [] = 0
opens (i ∷ items) = opening i.bracket + opens items

one_open : (b : Bracket) (n : ℕ) → open_behind_one b n ≤ n + opening b
one_open Opening n = omega arith
one_open Closing n = omega arith
one_open Neither n = omega arith

pub open_most : {Sign : Type 0} (items : List (Item Sign)) (n k : ℕ) → open_from n (take k items) ≤ n + opens items
open_most [] n zero = omega arith
open_most [] n (suc k) = omega arith
open_most (i ∷ items) n zero = omega arith
open_most (i ∷ items) n (suc k) =
    omega (arith, open_most items (open_behind_one i.bracket n) k, one_open i.bracket n)

-- how many opening parentheses are among tokens, by the bracket that each is
abbrev pub opens_spelt : (Spelt → Bracket) → List Spelt → ℕ
opens_spelt bracket [] = 0
opens_spelt bracket (s ∷ ss) = opening (bracket s) + opens_spelt bracket ss

pub opens_items : {Sign Context : Type 0} (t : SignTable Sign Context) (bracket : Spelt → Bracket) (text : List ℕ)
    → ((p : Placed) → t.bracket (t.sign_at text p) ≡ bracket (spelt_at text p))
    → (c : Context) (ps : List Placed)
    → opens (items_from t text c ps) ≡ opens_spelt bracket (map (spelt_at text) ps)
opens_items t bracket text same c [] = refl
opens_items t bracket text same c (p ∷ ps) =
    let later = opens_items t bracket text same (t.behind (t.sign_at text p)) ps in
    (λ k. opening (same p k) + later k)
