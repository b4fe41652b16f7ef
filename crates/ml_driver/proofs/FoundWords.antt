-- The words as `clap` takes them apart.
--
--   is_plain        == the command that it is told is one whose matches and faults it defines
--   first_read      == what a getter reads is the first value of its row
--   same_row        == equal parts are the same row of the table
--   faultless, found, faulty == what is said of a command that equals the one that is told is said of that
use Rattle.std.proofs.Common.{◌≡◌, ap, refl, sym, ◌∙◌, true, List, [], ◌∷◌, Option, Some, None, option_map, inl, inr}
use Rattle.std.specs.Prelude.{find, option_and_then, slice_get}
use Rattle.std.specs.Borrow.{Bor}
use Rattle.std.specs.Str.{bytes_eq}
use Rattle.clap.specs.Facts.{Entry}
use Rattle.clap.specs.Matches.{first_value}
use Rattle.clap.specs.Walk.{row_of as row_of_entry, rows_of, texts}
use Rattle.clap.specs.Words.{App, HasKind, IsAmong, Kinds, Row, Text, fault_of, first_of, is_simple, is_simple_and_free, kind_of, matches_of}
use Rattle.clap.specs.declared.error.Error.{Error}
use Rattle.clap.specs.declared.error.kind.ErrorKind.{ErrorKind}
use Rattle.clap.specs.declared.error.kind.ErrorKind.TheVariants.{OutOfMemory}
use Rattle.clap.specs.declared.parser.matches.Found.{Found}
use Rattle.clap.proofs.OnLiterals.{clap_on_literals}
use Rattle.clap.proofs.WalkLemmas.{find-map}
use Rattle.ml_lines.specs.Lines.{Word}
use Rattle.ml_driver.specs.Words.{cli, faults_of, row_of, rows_in}
use Rattle.ml_driver.specs.declared.command.Command.{Command}
use Rattle.ml_driver.specs.private.Refused.{is_refusal}

-- ---- the command

is_simple_cli : is_simple cli ≡ true
unfolding cli clap_on_literals
is_simple_cli = refl

is_free_cli : is_simple_and_free cli ≡ true
unfolding cli clap_on_literals
is_free_cli = refl

pub simple_told : (a : App) → a ≡ cli → is_simple a ≡ true
simple_told a same = ap is_simple same ∙ is_simple_cli

pub free_told : (a : App) → a ≡ cli → is_simple_and_free a ≡ true
free_told a same = ap is_simple_and_free same ∙ is_free_cli

faults_are : (words : List Word) → faults_of words ≡ fault_of cli words
unfolding faults_of
faults_are words = refl

rows_are : (words : List Word) → rows_in words ≡ matches_of cli words
unfolding rows_in
rows_are words = refl

pub faultless : (a : App) (words : List Word) → a ≡ cli → fault_of a words ≡ [] → faults_of words ≡ []
faultless a words same none = faults_are words ∙ ap (λ b. fault_of b words) (sym same) ∙ none

pub found : (a : App) (words : List Word) (rows : List Row) → a ≡ cli → rows ≡ matches_of a words → rows ≡ rows_in words
found a words rows same are = are ∙ ap (λ b. matches_of b words) same ∙ sym (rows_are words)

not_want : (k : ErrorKind) → is_refusal k ≡ true → k ≡ OutOfMemory → ⊥
not_want k refused want = let wrong = sym (ap is_refusal want) ∙ refused in absurd (cc)

none_among : (k : ErrorKind) (ks : Kinds) → IsAmong k ks → ks ≡ [] → ⊥
none_among k [] among none = among
none_among k (x ∷ ks) among none = absurd (cc)

pub faulty : (a : App) (words : List Word) (e : Error)
    → a ≡ cli
    → is_refusal (kind_of e) ≡ true
    → HasKind (fault_of a words) e
    → faults_of words ≡ []
    → ⊥
faulty a words e same refused (inl want) none = not_want (kind_of e) refused want
faulty a words e same refused (inr among) none =
    none_among (kind_of e) (fault_of a words) among (ap (λ b. fault_of b words) same ∙ sym (faults_are words) ∙ none)

-- ---- what is read

first_text : (vals : List (Bor Text)) → slice_get (texts vals) 0 ≡ option_map (λ s. s.now) (slice_get vals 0)
first_text [] = refl
first_text (v ∷ vals) = refl

in_entry : (found : Option Entry)
    → option_and_then (λ (r : Row). slice_get r.values 0) (option_map row_of_entry found)
    ≡ option_and_then (λ a. option_map (λ (s : Bor Text). s.now) (slice_get a.vals.items 0))
    (option_map (λ (e : Entry). e.1) found)
in_entry None = refl
in_entry (Some e) = first_text e.1.vals.items

pub first_read : (id : Text) (f : Found) → first_of id (rows_of f) ≡ first_value f id
first_read id f =
    ap (option_and_then (λ (r : Row). slice_get r.values 0))
    (sym (find-map (λ (r : Row). bytes_eq r.id id) row_of_entry f.entries.items))
    ∙ in_entry (find (λ (e : Entry). bytes_eq e.0.now id) f.entries.items)

pub same_row : (result : Option Command) (a b c d e f g h : Option Word)
    → result ≡ row_of a b c d
    → a ≡ e
    → b ≡ f
    → c ≡ g
    → d ≡ h
    → result ≡ row_of e f g h
same_row result a b c d e f g h is p q r s =
    is ∙ ap (λ x. row_of x b c d) p ∙ ap (λ x. row_of e x c d) q ∙ ap (λ x. row_of e f x d) r ∙ ap (row_of e f g) s
