-- The words of the constants are the first ones that a logic reserves.
--
--   reserved_by more   == the words that a logic reserves: those of the constants, and more
--   free_word          == a word of no constant that is none of the others isn't reserved
--   free_parts         == a word that isn't reserved is neither
use Rattle.std.proofs.Common.{◌≡◌, ℕ, Bool, true, false, ◌||◌, List, ◌∷◌, Some, None, cond, codes, bytes_eq}
use Rattle.std.specs.List.{list_any}
use Rattle.std.proofs.lemmas.Bool.{or_parts}
use Rattle.ml_text.specs.Words.{constant_of}

abbrev pub reserved_by : List (List ℕ) → List (List ℕ)
reserved_by more = codes "tt" ∷ codes "true" ∷ codes "ff" ∷ codes "false" ∷ more

free_by : (a b c d more : Bool)
    → cond (a || (b || false)) (Some true) (cond (c || (d || false)) (Some false) None) ≡ None
    → more ≡ false
    → (a || (b || (c || (d || more)))) ≡ false
free_by true b c d more is none = absurd (cc)
free_by false true c d more is none = absurd (cc)
free_by false false true d more is none = absurd (cc)
free_by false false false true more is none = absurd (cc)
free_by false false false false more is none = none

pub free_word : (w : List ℕ) (more : List (List ℕ))
    → constant_of w ≡ None
    → list_any (bytes_eq w) more ≡ false
    → list_any (bytes_eq w) (reserved_by more) ≡ false
unfolding constant_of
free_word w more is none =
    free_by (bytes_eq w (codes "tt")) (bytes_eq w (codes "true")) (bytes_eq w (codes "ff")) (bytes_eq w (codes "false"))
    (list_any (bytes_eq w) more) is none

pub free_parts : (w : List ℕ) (more : List (List ℕ))
    → list_any (bytes_eq w) (reserved_by more) ≡ false
    → (constant_of w ≡ None) × (list_any (bytes_eq w) more ≡ false)
unfolding constant_of
free_parts w more is =
    let a = or_parts (bytes_eq w (codes "tt")) _ is in
    let b = or_parts (bytes_eq w (codes "true")) _ a.1 in
    let c = or_parts (bytes_eq w (codes "ff")) _ b.1 in
    let d = or_parts (bytes_eq w (codes "false")) _ c.1 in
    (simp (a.0, b.0, c.0, d.0), d.1)
