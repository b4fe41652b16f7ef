-- Words that were compared with fixed ones.
--
--   same_word, other_word   == a word that is a fixed one, and one that isn't
use Rattle.std.proofs.Common.{◌≡◌, ◌≢◌, true, false, List, ℕ, sym, ◌∙◌}
use Rattle.std.specs.Str.{bytes_eq}
use Rattle.std.proofs.lemmas.Bool.{true≢false}
use Rattle.std.proofs.lemmas.Slice.Eq.{bytes_eq-Decides}

pub same_word : (a b k : List ℕ) → true ≡ bytes_eq a b → b ≡ k → a ≡ k
same_word a b k test is = (bytes_eq-Decides a b).0 (sym test) ∙ is

pub other_word : (a b k : List ℕ) → false ≡ bytes_eq a b → b ≡ k → a ≢ k
other_word a b k test is same = true≢false (sym ((bytes_eq-Decides a b).1 (same ∙ sym is)) ∙ sym test)

pub differ : (a b : List ℕ) → bytes_eq a b ≡ false → a ≢ b
differ a b no_test same = true≢false (sym ((bytes_eq-Decides a b).1 same) ∙ no_test)
