-- The numbers of commands that words are fit.
--
--   value_small   == no value that is read passes the greatest limit
--   limit_small   == so no limit does
--   command_fits  == so the limit of a command that words are fits 32 bits, and its number is of its family's range
use Rattle.std.proofs.Common.{◌≡◌, ◌&&◌, ℕ, ◌+◌, ◌-◌, ◌*◌, ◌<◌, ◌≤◌, ◌^◌, Bool, true, false, if◌then◌else◌, nat_le, bytes_eq}
use Rattle.std.proofs.Common.{codes, List, [], ◌∷◌, length, Option, Some, None, option_and_then, option_map, refl, arith}
use Rattle.std.specs.Cmp.{second_so}
use Rattle.std.proofs.lemmas.Bool.{leb-true}
use Rattle.clap.specs.Words.{Kinds}
use Rattle.ml_lines.specs.Lines.{Word}
use Rattle.ml_front.specs.Logics.{logic_named}
use Rattle.ml_gen.specs.FamilyRanges.{family_named, is_in_range}
use Rattle.ml_gen.specs.declared.family.Family.{Family}
use Rattle.ml_front.specs.declared.logic.Logic.{Logic}
use Rattle.ml_ask_text.specs.declared.told.Form.{Form}
use Rattle.ml_ask_text.specs.declared.told.Form.TheVariants.{Lines, Files}
use Rattle.ml_driver.specs.declared.command.Command.{Command}
use Rattle.ml_driver.specs.declared.command.TheConstants.{GREATEST_LIMIT, LONGEST_NUMBER}
use Rattle.ml_driver.specs.declared.engine.Engine.{Engine}
use Rattle.ml_driver.specs.Games.{engine_named}
use Rattle.ml_driver.specs.Laws.{HasFitNumbers}
use Rattle.ml_driver.specs.Words.{about_logic, alone, by_engine, limited, of_family, with_files}
use Rattle.ml_driver.specs.Words.{Shape, at_least_one, command_by, command_of, count_named, digit_on, faults_of, if_faultless, if_in_range}
use Rattle.ml_driver.specs.Words.{is_digit, limit_named, number_named, parts_in, row, row_of, rows_in, shape_in, table, value_from}

-- what a test lets through
passed : (t : Bool) (x n : ℕ) → (if t then Some x else None) ≡ Some n → (t ≡ true) × (x ≡ n)
passed true x n e = let same : x ≡ n = cc in (refl, same)
passed false x n e = absurd (cc)

digit_small : (v b n : ℕ) → digit_on v b ≡ Some n → n ≤ GREATEST_LIMIT
digit_small v b n e =
    let next = v * 10 + (b - 48) in
    let p = passed (is_digit b && nat_le next GREATEST_LIMIT) next n e in
    let low = leb-true next GREATEST_LIMIT (second_so (is_digit b) (nat_le next GREATEST_LIMIT) p.0) in
    omega (arith, low, p.1)

value_small : (w : Word) (v n : ℕ) → v ≤ GREATEST_LIMIT → value_from v w ≡ Some n → n ≤ GREATEST_LIMIT
value_small [] v n low e = let same : v ≡ n = cc in omega (arith, low, same)
value_small (b ∷ w) v n low e = by_digit (digit_on v b) refl e (λ u. value_small w u n)
  where
    by_digit : (o : Option ℕ) → digit_on v b ≡ o
        → option_and_then (λ (u : ℕ). value_from u w) o ≡ Some n
        → ((u : ℕ) → u ≤ GREATEST_LIMIT → value_from u w ≡ Some n → n ≤ GREATEST_LIMIT)
        → n ≤ GREATEST_LIMIT
    by_digit None is some again = absurd (cc)
    by_digit (Some u) is some again = again u (digit_small v b u is) some

limit_small : (o : Option Word) (n : ℕ) → limit_named o ≡ Some n → n < 2 ^ 32
limit_small None n e = let same : 50000 ≡ n = cc in omega (arith, same)
limit_small (Some w) n e = by_test (nat_le 1 (length w) && nat_le (length w) LONGEST_NUMBER) e
  where
    by_value : (o : Option ℕ) → value_from 0 w ≡ o → option_and_then at_least_one o ≡ Some n → n < 2 ^ 32
    by_value None is some = absurd (cc)
    by_value (Some v) is some =
        let p = passed (nat_le 1 v) v n some in
        let low = value_small w 0 v (omega arith) is in
        omega (arith, low, p.1)

    by_test : (t : Bool)
        → option_and_then at_least_one (if t then value_from 0 w else None) ≡ Some n
        → n < 2 ^ 32
    by_test true some = by_value (value_from 0 w) refl some
    by_test false some = absurd (cc)

-- ---- the table

-- a shape gives commands whose numbers are fit
abbrev IsFit : Shape → Type 0
IsFit (alone c) = HasFitNumbers (Some c)
IsFit (limited c) = (n : ℕ) → n < 2 ^ 32 → HasFitNumbers (Some (c n))
IsFit (about_logic c) = (l : Logic) (n : ℕ) → n < 2 ^ 32 → HasFitNumbers (Some (c l n))
IsFit (with_files c) = (f : Form) (n : ℕ) → n < 2 ^ 32 → HasFitNumbers (Some (c f n))
IsFit (by_engine c) = (e : Engine) → HasFitNumbers (Some (c e))
IsFit (of_family c) = (f : Family) (n : ℕ) → is_in_range f n ≡ true → HasFitNumbers (Some (c f n))

limited_fits : (c : ℕ → Command) → ((n : ℕ) → n < 2 ^ 32 → HasFitNumbers (Some (c n))) → (limit : Option Word) (o : Option ℕ)
    → limit_named limit ≡ o
    → HasFitNumbers (option_map c o)
limited_fits c fit limit None is = tt
limited_fits c fit limit (Some n) is = fit n (limit_small limit n is)

logic_fits : (c : Logic → ℕ → Command) → IsFit (about_logic c) → (limit : Option Word) (o : Option Logic)
    → HasFitNumbers (option_and_then (λ (l : Logic). option_map (c l) (limit_named limit)) o)
logic_fits c fit limit None = tt
logic_fits c fit limit (Some l) = limited_fits (c l) (fit l) limit (limit_named limit) refl

files_fit : (c : Form → ℕ → Command) → IsFit (with_files c) → (limit : Option Word) (t : Bool)
    → HasFitNumbers (if t then option_map (c Files) (limit_named limit) else None)
files_fit c fit limit true = limited_fits (c Files) (fit Files) limit (limit_named limit) refl
files_fit c fit limit false = tt

engine_fits : (c : Engine → Command) → IsFit (by_engine c) → (o : Option Engine) → HasFitNumbers (option_map c o)
engine_fits c fit None = tt
engine_fits c fit (Some e) = fit e

number_fits : (c : ℕ → Command) (f : Family) → ((n : ℕ) → is_in_range f n ≡ true → HasFitNumbers (Some (c n))) → (o : Option ℕ)
    → HasFitNumbers (option_map c (option_and_then (if_in_range f) o))
number_fits c f fit None = tt
number_fits c f fit (Some n) = by_range (is_in_range f n) refl
  where
    by_range : (t : Bool) → is_in_range f n ≡ t → HasFitNumbers (option_map c (if t then Some n else None))
    by_range true is = fit n is
    by_range false is = tt

family_fits : (c : Family → ℕ → Command) → IsFit (of_family c) → (count : Word) (o : Option Family)
    → HasFitNumbers (option_and_then (λ (f : Family). option_map (c f) (count_named f count)) o)
family_fits c fit count None = tt
family_fits c fit count (Some f) = number_fits (c f) f (fit f) (number_named count)

shape_fits : (x : Shape) → IsFit x → (subject count limit : Option Word) → HasFitNumbers (command_by x subject count limit)
shape_fits (alone c) fit None None None = fit
shape_fits (alone c) fit None None (Some limit) = tt
shape_fits (alone c) fit None (Some count) limit = tt
shape_fits (alone c) fit (Some subject) count limit = tt
shape_fits (limited c) fit None None limit = limited_fits c fit limit (limit_named limit) refl
shape_fits (limited c) fit None (Some count) limit = tt
shape_fits (limited c) fit (Some subject) count limit = tt
shape_fits (about_logic c) fit (Some subject) None limit = logic_fits c fit limit (logic_named subject)
shape_fits (about_logic c) fit (Some subject) (Some count) limit = tt
shape_fits (about_logic c) fit None count limit = tt
shape_fits (with_files c) fit None None limit = limited_fits (c Lines) (fit Lines) limit (limit_named limit) refl
shape_fits (with_files c) fit None (Some count) limit = tt
shape_fits (with_files c) fit (Some subject) None limit = files_fit c fit limit (bytes_eq subject (codes "files"))
shape_fits (with_files c) fit (Some subject) (Some count) limit = tt
shape_fits (by_engine c) fit (Some subject) None None = engine_fits c fit (engine_named subject)
shape_fits (by_engine c) fit (Some subject) None (Some limit) = tt
shape_fits (by_engine c) fit (Some subject) (Some count) limit = tt
shape_fits (by_engine c) fit None count limit = tt
shape_fits (of_family c) fit (Some subject) (Some count) None = family_fits c fit count (family_named subject)
shape_fits (of_family c) fit (Some subject) (Some count) (Some limit) = tt
shape_fits (of_family c) fit (Some subject) None limit = tt
shape_fits (of_family c) fit None count limit = tt

abbrev AreFit : List (Word × Shape) → Type 0
AreFit [] = Unit {0}
AreFit (r ∷ rows) = IsFit r.1 × AreFit rows

rows_fit : (rows : List (Word × Shape)) → AreFit rows → (w : Word) (subject count limit : Option Word)
    → HasFitNumbers (option_and_then (λ (x : Shape). command_by x subject count limit) (shape_in rows w))
rows_fit [] fit w subject count limit = tt
rows_fit (r ∷ rows) fit w subject count limit = by_word (bytes_eq w r.0) (rows_fit rows fit.1 w subject count limit)
  where
    by_word : (t : Bool)
        → HasFitNumbers (option_and_then (λ (x : Shape). command_by x subject count limit) (shape_in rows w))
        → HasFitNumbers
        (option_and_then (λ (x : Shape). command_by x subject count limit) (if t then Some r.1 else shape_in rows w))
    by_word true later = shape_fits r.1 fit.0 subject count limit
    by_word false later = later

table_fits : AreFit table
unfolding table
table_fits = (
  λ l n small. small,
  (
    λ l n small. small,
    (
      λ l n small. small,
      (
        λ l n small. small,
        (
          λ f n small. small,
          (
            tt,
            (
              tt,
              (
                tt,
                (
                  tt,
                  (
                    tt,
                    (
                      tt,
                      (
                        tt,
                        (
                          λ e. tt,
                          (
                            tt,
                            (
                              λ n small. tt,
                              (
                                λ n small. tt,
                                (
                                  λ n small. tt,
                                  (λ n small. tt, (tt, (λ f n inside. tt, (λ f n inside. inside, tt)))),
                                ),
                              ),
                            ),
                          ),
                        ),
                      ),
                    ),
                  ),
                ),
              ),
            ),
          ),
        ),
      ),
    ),
  ),
)

row_fits : (command subject count limit : Option Word) → HasFitNumbers (row_of command subject count limit)
row_fits (Some w) subject count limit = rows_fit table table_fits w subject count limit
row_fits None subject count limit = tt

faultless_fits : (ks : Kinds) (c : Option Command) → HasFitNumbers c → HasFitNumbers (if_faultless ks c)
faultless_fits [] c small = small
faultless_fits (k ∷ ks) c small = tt

pub command_fits : (words : List Word) → HasFitNumbers (command_of words)
command_fits words =
    let p = parts_in (rows_in words) in
    faultless_fits (faults_of words) (row p) (row_fits p.command p.subject p.count p.limit)
