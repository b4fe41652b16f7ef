-- Propositions of a text that aren't declared.
--
--   all_at_places    == where all propositions of a formula are declared, each is that stands at a place of its text
--   some_undeclared  == else there is a first one that isn't
use Rattle.std.proofs.Common.{◌≡◌, ◌⊎◌, ℕ, List, Option, Some, None, Result, Ok, Err, inl, inr, refl, sym}
use Rattle.std.specs.Prelude.{MatchOption}
use Rattle.std.specs.List.{slice_get}
use Rattle.std.proofs.lemmas.List.Elements.{All-from_recursion}
use Rattle.ml_lists.specs.Member.{IsMember}
use Rattle.ml_lists.proofs.Member.{All-member}
use Rattle.ml_text.specs.Tokens.{tokens_from}
use Rattle.ml_written.specs.Places.{AreDeclared, IsFirstUndeclared, IsPropositionAt}
use Rattle.ml_written.specs.Propositions.{names, propositions}
use Rattle.ml_written.specs.Written.{written_logic, IsWrittenAs}
use Rattle.ml_written.specs.declared.written.Written.{Written}
use Rattle.ml_written.specs.private.LowerWords.{lower_places, words_of}
use Rattle.ml_written.specs.private.Passing.{passed}
use Rattle.ml_written.proofs.FirstMissing.{all_known}
use Rattle.ml_written.proofs.FirstPlaced.{placed_first}
use Rattle.ml_written.proofs.PlacedNames.{propositions_placed}

pub all_at_places : (ps : List (List ℕ)) (text : List ℕ) (w : Written)
    → IsWrittenAs text w
    → AreDeclared ps w
    → (k : ℕ) (p : List ℕ)
    → IsPropositionAt text w k p
    → IsMember p ps
all_at_places ps text w written declared k p stands =
    All-member (λ q. IsMember q ps) (propositions w) (All-from_recursion (λ q. IsMember q ps) (propositions w) declared) p
    ((propositions_placed text w p written).1 (k, stands))

pub some_undeclared : (ps : List (List ℕ)) (text : List ℕ) (w : Written)
    → IsWrittenAs text w
    → AreDeclared ps w ⊎ ((k : ℕ) × IsFirstUndeclared ps text w k)
some_undeclared ps text w written = by (passed ps 0 (names w)) refl
  where
    found : (o : Option ℕ) → MatchOption o (AreDeclared ps w) (IsFirstUndeclared ps text w)
        → AreDeclared ps w ⊎ ((k : ℕ) × IsFirstUndeclared ps text w k)
    found None all = inl all
    found (Some k) first = inr (k, first)

    by : (r : Result ℕ ℕ) → passed ps 0 (names w) ≡ r → AreDeclared ps w ⊎ ((k : ℕ) × IsFirstUndeclared ps text w k)
    by (Ok m) is = inl (all_known ps 0 m (names w) (sym is))
    by (Err m) is =
        let l = written_logic w in
        found (slice_get (lower_places l text (tokens_from (words_of l) text 0)) m)
        (placed_first ps text w m l _ written (sym is) refl refl)
