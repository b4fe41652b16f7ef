-- The token at the front of a text is the longest one.
--
--   front_is_longest  == so it is
use Rattle.std.proofs.Common.{◌≡◌, ℕ, suc, ◌+◌, ◌≤◌, Bool, true, false, ◌==◌, nat_eq, List, [], ◌∷◌, ◌++◌, length, take, drop, get_or, inl, inr, if◌then◌else◌, refl, sym, ◌∙◌, ap, subst, arith, codes}
use Rattle.std.specs.List.{take_while, prefix_len, starts_with}
use Rattle.std.proofs.lemmas.Bool.{cond-true, cond-false, cond_both, eqb-true, eq-eqb}
use Rattle.std.proofs.lemmas.List.{take-append-drop, append_assoc}
use Rattle.std.proofs.lemmas.List.Folds.{length-prefix_len}
use Rattle.std.proofs.Math.Seq.{drop-append_seam}
use Rattle.ml_lists.specs.Member.{IsMember}
use Rattle.ml_lists.proofs.Member.{All-member, member-All}
use Rattle.ml_lists.proofs.Entries.{same_head}
use Rattle.ml_text.specs.Bytes.{is_digit}
use Rattle.ml_text.proofs.Signs.{starts_with-front, front-starts_with}
use Rattle.ml_pgsolver.specs.Tokens.{Token, Number, Name, Parity, Comma, Semicolon, Stray, spelling, is_inner, quoted}
use Rattle.ml_pgsolver.specs.Longest.{IsProper, BeginsWith, IsLongest, FrontIsLongest}

-- ---- runs of bytes

-- bytes that all pass are no longer than the run of such bytes
run_longer : (p : ℕ → Bool) (ds rest xs : List ℕ) → xs ≡ ds ++ rest → ((b : ℕ) → IsMember b ds → p b ≡ true)
    → length ds ≤ prefix_len p xs
run_longer p [] rest xs is all = omega arith
run_longer p (d ∷ ds) rest [] is all = absurd (cc)
run_longer p (d ∷ ds) rest (x ∷ xs) is all =
    let head : d ≡ x = cc in
    let passes : p x ≡ true = ap p (sym head) ∙ all d (inl refl) in
    let tail = run_longer p ds rest xs (cc) (λ b m. all b (inr m)) in
    let long : prefix_len p (x ∷ xs) ≡ 1 + prefix_len p xs = cond-true _ _ _ passes in
    omega arith

-- a run that is ended by a byte that does not pass
pub run_ended : (p : ℕ → Bool) (ds rest : List ℕ) (e : ℕ) → ((b : ℕ) → IsMember b ds → p b ≡ true) → p e ≡ false
    → take_while p (ds ++ e ∷ rest) ≡ ds
run_ended p [] rest e all stops = ap (λ k. take k (e ∷ rest)) (cond-false _ _ _ stops)
run_ended p (d ∷ ds) rest e all stops =
    let tail = run_ended p ds rest e (λ b m. all b (inr m)) stops in
    let n = prefix_len p (ds ++ e ∷ rest) in
    let one : 1 + n ≡ suc n = omega arith in
    let long : prefix_len p (d ∷ (ds ++ e ∷ rest)) ≡ suc n = cond-true _ _ _ (all d (inl refl)) ∙ one in
    ap (λ k. take k (d ∷ (ds ++ e ∷ rest))) long ∙ ap (λ xs. d ∷ xs) tail

run_first : (p : ℕ → Bool) (x : ℕ) (xs : List ℕ) (b : ℕ) → IsMember b (take_while p (x ∷ xs))
    → (IsMember b (take_while p xs) → p b ≡ true)
    → (t : Bool) → p x ≡ t
    → p b ≡ true
run_first p x xs b m later false is =
    let none : prefix_len p (x ∷ xs) ≡ 0 = cond-false _ _ _ is in
    absurd (subst (λ j. IsMember b (take j (x ∷ xs))) none m)
run_first p x xs b m later true is =
    let k = prefix_len p xs in
    let one : 1 + k ≡ suc k = omega arith in
    let long : prefix_len p (x ∷ xs) ≡ suc k = cond-true _ _ _ is ∙ one in
    part (subst (λ j. IsMember b (take j (x ∷ xs))) long m)
  where
    part : IsMember b (x ∷ take_while p xs) → p b ≡ true
    part (inl e) = ap p e ∙ is
    part (inr rest) = later rest

pub run_passes : (p : ℕ → Bool) (xs : List ℕ) (b : ℕ) → IsMember b (take_while p xs) → p b ≡ true
run_passes p [] b m = absurd m
run_passes p (x ∷ xs) b m = run_first p x xs b m (λ later. run_passes p xs b later) (p x) refl

-- ---- what begins a text

pub closed_name : (inner rest : List ℕ)
    → ((b : ℕ) → IsMember b inner → is_inner b ≡ true)
    → quoted (inner ++ 34 ∷ rest) ≡ Name inner
closed_name inner rest all =
    let bytes = inner ++ 34 ∷ rest in
    let run : take_while is_inner bytes ≡ inner = run_ended is_inner inner rest 34 all refl in
    let closes : starts_with nat_eq (drop (length inner) bytes) (34 ∷ []) ≡ true =
    ap (λ xs. starts_with nat_eq xs (34 ∷ [])) (drop-append_seam inner (34 ∷ rest))
    ∙ front-starts_with (34 ∷ rest) (34 ∷ []) refl in
    ap (λ i. if starts_with nat_eq (drop (length i) bytes) (34 ∷ []) then Name i else Stray 34) run
    ∙ cond-true _ _ _ closes

-- a token of the grammar with which the text b, rest begins
data Kind (b : ℕ) (rest : List ℕ) : Token → Type 0 where
  number : (digits : List ℕ)
      → is_digit b ≡ true
      → length digits ≤ suc (length (take_while is_digit rest))
      → Kind b rest (Number digits)
  name : (inner : List ℕ) → b ≡ 34 → quoted rest ≡ Name inner → Kind b rest (Name inner)
  parity : b ≡ 112 → starts_with nat_eq (b ∷ rest) (codes "parity") ≡ true → Kind b rest Parity
  comma : b ≡ 44 → Kind b rest Comma
  semicolon : b ≡ 59 → Kind b rest Semicolon

kind : (b : ℕ) (rest : List ℕ) (u : Token) → IsProper u → BeginsWith (b ∷ rest) u → Kind b rest u
kind b rest (Number []) (some, all) (r, is) = absurd (omega arith)
kind b rest (Number (d ∷ ds)) (some, all) (r, is) =
    let digit : (c : ℕ) → IsMember c (d ∷ ds) → is_digit c ≡ true = All-member (λ c. is_digit c ≡ true) (d ∷ ds) all in
    let head : b ≡ d = same_head b d rest (ds ++ r) is in
    let passes : is_digit b ≡ true = ap is_digit head ∙ digit d (inl refl) in
    let short = run_longer is_digit (d ∷ ds) r (b ∷ rest) is digit in
    let long : prefix_len is_digit (b ∷ rest) ≡ 1 + prefix_len is_digit rest = cond-true _ _ _ passes in
    number (d ∷ ds) passes (omega (arith, length-prefix_len is_digit rest))
kind b rest (Name inner) all (r, is) =
    let tail : rest ≡ inner ++ 34 ∷ [] ++ r = cc in
    let moved : inner ++ 34 ∷ [] ++ r ≡ inner ++ 34 ∷ r = append_assoc inner (34 ∷ []) r in
    name inner (same_head b 34 rest (inner ++ 34 ∷ [] ++ r) is)
    (ap quoted (tail ∙ moved) ∙ closed_name inner r (All-member (λ c. is_inner c ≡ true) inner all))
kind b rest Parity proper (r, is) =
    let front : codes "parity" ≡ take 6 (b ∷ rest) = ap (take 6) (sym is) in
    parity (ap (λ xs. get_or xs 0 0) is) (front-starts_with (b ∷ rest) (codes "parity") front)
kind b rest Comma proper (r, is) = comma (same_head b 44 rest r is)
kind b rest Semicolon proper (r, is) = semicolon (same_head b 59 rest r is)
kind b rest (Stray x) proper begins = absurd proper

-- ---- the cases

abbrev Bound : Token → Token → Type 0
Bound t u = IsProper t × (length (spelling u) ≤ length (spelling t))

pub proper_number : (b : ℕ) (rest : List ℕ) → is_digit b ≡ true → IsProper (Number (b ∷ take_while is_digit rest))
proper_number b rest digit = (
  omega arith,
  member-All (λ c. is_digit c ≡ true) (b ∷ take_while is_digit rest) (λ c m. each c m),
)
  where
    each : (c : ℕ) → IsMember c (b ∷ take_while is_digit rest) → is_digit c ≡ true
    each c (inl same) = ap is_digit same ∙ digit
    each c (inr m) = run_passes is_digit rest c m

number_first : (b : ℕ) (rest : List ℕ)
    → is_digit b ≡ true
    → IsLongest (b ∷ rest) (Number (b ∷ take_while is_digit rest))
number_first b rest digit = record {
  begins = (
    drop (prefix_len is_digit rest) rest,
    ap (λ xs. b ∷ xs)
        (sym (take-append-drop (prefix_len is_digit rest) rest)),
  );
  longest = λ u proper begins. by u (kind b rest u proper begins);
}
  where
    by : (u : Token) → Kind b rest u → Bound (Number (b ∷ take_while is_digit rest)) u
    by u (number ds is short) =
        (proper_number b rest digit, short)
    by u (name inner is closed) = let e = ap is_digit is in absurd (cc)
    by u (parity is starts) = let e = ap is_digit is in absurd (cc)
    by u (comma is) = let e = ap is_digit is in absurd (cc)
    by u (semicolon is) = let e = ap is_digit is in absurd (cc)

quoted_first : (b : ℕ) (rest : List ℕ) → is_digit b ≡ false → b ≡ 34 → IsLongest (b ∷ rest) (quoted rest)
quoted_first b rest other quote =
    cond_both (starts_with nat_eq (drop (length (take_while is_inner rest)) rest) (34 ∷ []))
    (Name (take_while is_inner rest)) (Stray 34) (IsLongest (b ∷ rest)) closed open_end
  where
    closed : starts_with nat_eq (drop (length (take_while is_inner rest)) rest) (34 ∷ []) ≡ true
        → IsLongest (b ∷ rest) (Name (take_while is_inner rest))
    closed closes =
        let inner = take_while is_inner rest in
        let n = prefix_len is_inner rest in
        let size : length inner ≡ n = length-prefix_len is_inner rest in
        let left = drop (length inner) rest in
        let cut : left ≡ 34 ∷ drop 1 left = sym (take-append-drop 1 left)
        ∙ ap (λ xs. xs ++ drop 1 left) (sym (starts_with-front left (34 ∷ []) closes)) in
        let whole : rest ≡ inner ++ left =
        sym (take-append-drop n rest) ∙ ap (λ k. take n rest ++ drop k rest) (sym size) in
        let is : quoted rest ≡ Name inner = cond-true _ _ _ closes in
        record {
          begins = (
            drop 1 left,
            ap (λ c. c ∷ rest) quote
                ∙ ap (λ xs. 34 ∷ xs) (whole ∙ ap (λ xs. inner ++ xs) cut
                ∙ sym (append_assoc inner (34 ∷ []) (drop 1 left))),
          );
          longest = λ u proper begins. by is u (kind b rest u proper begins);
        }
      where
        by : quoted rest ≡ Name (take_while is_inner rest)
            → (u : Token)
            → Kind b rest u
            → Bound (Name (take_while is_inner rest)) u
        by is u (number ds digit short) = absurd (cc)
        by is u (name inner first closed) =
            let same : take_while is_inner rest ≡ inner = cc in (
              member-All (λ c. is_inner c ≡ true) (take_while is_inner rest) (run_passes is_inner rest),
              omega (arith, ap (λ xs. length (34 ∷ (xs ++ 34 ∷ []))) same),
            )
        by is u (parity first starts) = absurd (omega arith)
        by is u (comma first) = absurd (omega arith)
        by is u (semicolon first) = absurd (omega arith)

    open_end : starts_with nat_eq (drop (length (take_while is_inner rest)) rest) (34 ∷ []) ≡ false
        → IsLongest (b ∷ rest) (Stray 34)
    open_end opens =
        let is : quoted rest ≡ Stray 34 = cond-false _ _ _ opens in
        record {
          begins = (rest, ap (λ c. c ∷ rest) quote);
          longest = λ u proper begins. by is u (kind b rest u proper begins);
        }
      where
        by : quoted rest ≡ Stray 34 → (u : Token) → Kind b rest u → Bound (Stray 34) u
        by is u (number ds digit short) = absurd (cc)
        by is u (name inner first closed) = absurd (cc)
        by is u (parity first starts) = absurd (omega arith)
        by is u (comma first) = absurd (omega arith)
        by is u (semicolon first) = absurd (omega arith)

comma_first : (b : ℕ) (rest : List ℕ) → is_digit b ≡ false → b ≡ 44 → IsLongest (b ∷ rest) Comma
comma_first b rest other first =
    record {
      begins = (rest, ap (λ c. c ∷ rest) first);
      longest = λ u proper begins. by u (kind b rest u proper begins);
    }
  where
    by : (u : Token) → Kind b rest u → Bound Comma u
    by u (number ds digit short) = absurd (cc)
    by u (name inner is closed) = absurd (omega arith)
    by u (parity is starts) = absurd (omega arith)
    by u (comma is) = (tt, omega arith)
    by u (semicolon is) = absurd (omega arith)

semicolon_first : (b : ℕ) (rest : List ℕ) → is_digit b ≡ false → b ≡ 59 → IsLongest (b ∷ rest) Semicolon
semicolon_first b rest other first =
    record {
      begins = (rest, ap (λ c. c ∷ rest) first);
      longest = λ u proper begins. by u (kind b rest u proper begins);
    }
  where
    by : (u : Token) → Kind b rest u → Bound Semicolon u
    by u (number ds digit short) = absurd (cc)
    by u (name inner is closed) = absurd (omega arith)
    by u (parity is starts) = absurd (omega arith)
    by u (comma is) = absurd (omega arith)
    by u (semicolon is) = (tt, omega arith)

parity_first : (b : ℕ) (rest : List ℕ) → is_digit b ≡ false → starts_with nat_eq (b ∷ rest) (codes "parity") ≡ true
    → IsLongest (b ∷ rest) Parity
parity_first b rest other starts =
    record {
      begins = (
        drop 6 (b ∷ rest),
        sym (take-append-drop 6 (b ∷ rest))
            ∙ ap (λ xs. xs ++ drop 6 (b ∷ rest)) (sym front),
      );
      longest = λ u proper begins. by u (kind b rest u proper begins);
    }
  where
    front : codes "parity" ≡ take 6 (b ∷ rest)
    front = starts_with-front (b ∷ rest) (codes "parity") starts

    by : (u : Token) → Kind b rest u → Bound Parity u
    by u (number ds digit short) = absurd (cc)
    by u (name inner is closed) = let first = ap (λ xs. get_or xs 0 0) front in absurd (omega arith)
    by u (parity is again) = (tt, omega arith)
    by u (comma is) = let first = ap (λ xs. get_or xs 0 0) front in absurd (omega arith)
    by u (semicolon is) = let first = ap (λ xs. get_or xs 0 0) front in absurd (omega arith)

stray_first : (b : ℕ) (rest : List ℕ) → is_digit b ≡ false → (b == 34) ≡ false → (b == 44) ≡ false → (b == 59) ≡ false
    → starts_with nat_eq (b ∷ rest) (codes "parity") ≡ false
    → IsLongest (b ∷ rest) (Stray b)
stray_first b rest other no_quote no_comma no_semicolon no_parity =
    record { begins = (rest, refl); longest = λ u proper begins. by u (kind b rest u proper begins) }
  where
    by : (u : Token) → Kind b rest u → Bound (Stray b) u
    by u (number ds digit short) = absurd (cc)
    by u (name inner is closed) = let e = eq-eqb b 34 is in absurd (cc)
    by u (parity is starts) = absurd (cc)
    by u (comma is) = let e = eq-eqb b 44 is in absurd (cc)
    by u (semicolon is) = let e = eq-eqb b 59 is in absurd (cc)

pub front_is_longest : FrontIsLongest
front_is_longest b rest =
    let P : Token → Type 0 = IsLongest (b ∷ rest) in
    cond_both (is_digit b) _ _ P (number_first b rest)
    (λ other. cond_both (b == 34) _ _ P (λ e. quoted_first b rest other (eqb-true b 34 e))
    (λ no_quote. cond_both (b == 44) _ _ P (λ e. comma_first b rest other (eqb-true b 44 e))
    (λ no_comma. cond_both (b == 59) _ _ P (λ e. semicolon_first b rest other (eqb-true b 59 e))
    (λ no_semicolon. cond_both (starts_with nat_eq (b ∷ rest) (codes "parity")) _ _ P (parity_first b rest other)
    (stray_first b rest other no_quote no_comma no_semicolon)))))
