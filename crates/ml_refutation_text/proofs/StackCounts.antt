-- How many stacks a refutation has at most, and that numbers up to there are spelt by their words.
--
--   spells_wide     == the word of a number of at most 64 digits spells it
--   code            == a state as a number: states ascend as their codes do
--   items_few       == an entry has no more items than there are states
--   few_stacks      == so a refutation has fewer stacks than 10 ^ 64
use Rattle.std.proofs.Common.{◌≡◌, ℕ, zero, suc, ◌+◌, ◌-◌, ◌*◌, ◌/◌, ◌%◌, ◌^◌, ◌<◌, ◌≤◌, Bool, true, false, ◌&&◌, ◌==◌, nat_lt, List, [], ◌∷◌, ◌++◌}
use Rattle.std.proofs.Common.{Option, None, Some, length, map, get_or, All, inl, inr, ◌⊎◌, refl, ap, ◌∙◌, length-append, arith}
use Rattle.std.specs.List.{flat_map}
use Rattle.std.specs.Str.{all_ascii_digits}
use Rattle.std.specs.Char.{is_ascii_digit}
use Rattle.std.proofs.lemmas.Fmt.{decimal_by_steps_wide}
use Rattle.std.proofs.lemmas.Bool.Decides.{nat_tests}
use Rattle.std.proofs.lemmas.List.{length-map}
use Rattle.std.proofs.lemmas.List.Elements.{All-head, All-tail}
use Rattle.std.proofs.lemmas.Bool.{or_cases, and_parts}
use Rattle.ml_lines.specs.Lines.{Word, number}
use Rattle.ml_lines.specs.Reading.{value, value_on}
use Rattle.ml_trace.specs.declared.letters.AutomatonState.{AutomatonState}
use Rattle.ml_trace.specs.Stack as traced
use Rattle.ml_refutation.specs.Refutation.{Refutation, Entry, Fits, AreAbove, IsItem, IsEntry, IsRefutation, comes_before, guess_before}
use Rattle.ml_refutation.specs.Guesses.{FitsGuess}
use Rattle.ml_refutation_text.specs.LineKinds.{Spells}
use Rattle.ml_refutation_text.specs.Canonical.{used_stacks, stacks_of}
use Rattle.ml_refutation_text.proofs.TableEntries.{made_length}

-- ---- numbers

record IsSpeltWide (n : ℕ) (w : Word) : Type 0 where
  pub digits : all_ascii_digits w ≡ true
  pub some : 0 < length w
  pub first : 0 < n → 48 < get_or w 0 0
  pub short : n < 10 → length w ≡ 1
  pub is_value : value w ≡ n

is_digit : (d : ℕ) → d < 10 → is_ascii_digit (48 + d) ≡ true
is_digit d small = grind (arith, nat_tests)

one_digit : (n : ℕ) → n < 10 → IsSpeltWide n ((48 + n) ∷ [])
one_digit n small = record {
  digits = ap (λ b. b && true) (is_digit n small);
  some = omega arith;
  first = λ some. omega arith;
  short = λ _. refl;
  is_value = omega arith;
}

digits_push : (w : Word) (c : ℕ)
    → all_ascii_digits w ≡ true
    → is_ascii_digit c ≡ true
    → all_ascii_digits (w ++ c ∷ []) ≡ true
digits_push [] c all digit = ap (λ b. b && true) digit
digits_push (b ∷ w) c all digit = go (is_ascii_digit b) refl all (λ rest. digits_push w c rest digit)
  where
    go : (t : Bool) → is_ascii_digit b ≡ t → (t && all_ascii_digits w) ≡ true
        → (all_ascii_digits w ≡ true → all_ascii_digits (w ++ c ∷ []) ≡ true)
        → (is_ascii_digit b && all_ascii_digits (w ++ c ∷ [])) ≡ true
    go true is rest others = ap (λ t. t && all_ascii_digits (w ++ c ∷ [])) is ∙ others rest
    go false is rest others = cc

value_push : (n : ℕ) (w : Word) (c : ℕ) → value_on n (w ++ c ∷ []) ≡ 10 * value_on n w + (c - 48)
value_push n [] c = refl
value_push n (b ∷ w) c = value_push (10 * n + (b - 48)) w c

first_push : (w : Word) (c : ℕ) → 0 < length w → get_or (w ++ c ∷ []) 0 0 ≡ get_or w 0 0
first_push [] c some = absurd (omega arith)
first_push (b ∷ w) c some = refl

more_digits : (n : ℕ) (w : Word) → 10 ≤ n → IsSpeltWide (n / 10) w → IsSpeltWide n (w ++ (48 + n % 10) ∷ [])
more_digits n w large tenth =
    let small : n % 10 < 10 = omega arith in record {
      digits = digits_push w (48 + n % 10) tenth.digits (is_digit (n % 10) small);
      some = omega (arith, length-append w ((48 + n % 10) ∷ []));
      first = λ _. omega (arith, first_push w (48 + n % 10) tenth.some, tenth.first (omega arith));
      short = λ few. absurd (omega (arith, few, large));
      is_value = omega (arith, value_push 0 w (48 + n % 10), tenth.is_value);
    }

no_zero_leads : (n : ℕ) (w : Word) → IsSpeltWide n w → get_or w 0 0 ≡ 48 → length w ≡ 1
no_zero_leads zero w is lead = is.short (omega arith)
no_zero_leads (suc n) w is lead = let first = is.first (omega arith) in absurd (omega (arith, first, lead))

pub spells_wide : (n : ℕ) → n < 10 ^ 64 → Spells (number n) n
spells_wide n fits =
    let is = decimal_by_steps_wide (λ m w. IsSpeltWide m w) one_digit more_digits n fits in record {
      digits = is.digits;
      some = is.some;
      no_zero_leads = no_zero_leads n (number n) is;
      is_value = is.is_value;
    }

-- ---- states

abbrev guess_code : Option ℕ → ℕ
guess_code None = 0
guess_code (Some d) = d + 1

-- 4294967297 is 2 ^ 32 + 1
abbrev code : AutomatonState → ℕ
code s = 4294967297 * s.node + guess_code s.odd

guess_within : (odd : Option ℕ) → FitsGuess odd → guess_code odd < 4294967297
guess_within None fits = omega arith
guess_within (Some d) fits = omega (arith, fits)

guess_less : (a b : Option ℕ) → guess_before a b ≡ true → guess_code a < guess_code b
guess_less None None is = absurd (cc)
guess_less None (Some e) is = omega arith
guess_less (Some d) None is = absurd (cc)
guess_less (Some d) (Some e) is = grind (arith, nat_tests)

code_less : (s t : AutomatonState) → FitsGuess s.odd → comes_before s t ≡ true → code s < code t
code_less s t fits before = go (or_cases (nat_lt s.node t.node) ((s.node == t.node) && guess_before s.odd t.odd) before)
  where
    go : (nat_lt s.node t.node ≡ true) ⊎ (((s.node == t.node) && guess_before s.odd t.odd) ≡ true) → code s < code t
    go (inl less) =
        let below : s.node < t.node = grind (arith, nat_tests) in omega (arith, below, guess_within s.odd fits)
    go (inr same) =
        let parts = and_parts (s.node == t.node) (guess_before s.odd t.odd) same in
        let equal : s.node ≡ t.node = grind (arith, nat_tests) in
        omega (arith, equal, guess_less s.odd t.odd parts.1)

record InRange (s : AutomatonState) : Type 0 where
  pub node : Fits s.node
  pub guess : FitsGuess s.odd

abbrev AreInRange : List AutomatonState → Type 0
AreInRange [] = Unit {0}
AreInRange (s ∷ ss) = InRange s × AreInRange ss

-- 18446744078004518912 is (2 ^ 32 + 1) * 2 ^ 32
code_within : (s : AutomatonState) → InRange s → code s < 18446744078004518912
code_within s is = omega (arith, is.node, guess_within s.odd is.guess)

above_few : (b : AutomatonState) (ss : List AutomatonState) → InRange b → AreInRange ss → AreAbove (Some b) ss
    → length ss + code b < 18446744078004518912
above_few b [] fits all above = omega (arith, code_within b fits)
above_few b (s ∷ ss) fits all above =
    omega (arith, above_few s ss all.0 all.1 above.1, code_less b s fits.guess above.0)

states_few : (ss : List AutomatonState) → AreInRange ss → AreAbove None ss → length ss ≤ 18446744078004518912
states_few [] all above = omega arith
states_few (s ∷ ss) all above = omega (arith, above_few s ss all.0 all.1 above.1)

items_in_range : (live : ℕ) (items : List (traced.Item AutomatonState))
    → All (IsItem live) items
    → AreInRange (map (λ a. a.state) items)
items_in_range live [] all = tt
items_in_range live (a ∷ items) all =
    let first = All-head (IsItem live) a items all in (
      record { node = first.node_fits; guess = first.guess_fits },
      items_in_range live items
          (All-tail (IsItem live) a items all),
    )

items_few : (names entries : ℕ) (e : Entry) → IsEntry names entries e → length (used_stacks e) ≤ 18446744078004518912
items_few names entries e is =
    let traces = is.is_traced in
    omega (
      arith,
      states_few (map (λ a. a.state) e.traces.items) (items_in_range e.traces.live e.traces.items traces.are_items)
          traces.ascend,
      length-map e.traces.items (λ a. a.state),
      length-map e.traces.items (λ a. a.stack),
    )

-- ---- stacks

all_few : (names entries : ℕ) (es : List Entry) → All (IsEntry names entries) es
    → length (flat_map used_stacks es) ≤ 18446744078004518912 * length es
all_few names entries [] all = omega arith
all_few names entries (e ∷ es) all =
    omega (
      arith,
      length-append (used_stacks e) (flat_map used_stacks es),
      items_few names entries e (All-head (IsEntry names entries) e es all),
      all_few names entries es (All-tail (IsEntry names entries) e es all),
    )

pub few_stacks : (r : Refutation) → IsRefutation r → length (stacks_of r.entries) < 10 ^ 64
few_stacks r is =
    omega (
      arith,
      made_length (flat_map used_stacks r.entries),
      all_few r.names (length r.entries) r.entries is.are_entries,
      is.entries_fit,
    )
