-- Where the propositions of a text stand. The words of a text that begin with a lower-case letter and aren't reserved are the
-- names of its formula that begin so, and both lists are in the order of the text: so the k-th such word is the k-th such name.
-- Some of these names may be actions, and an action may also begin in upper case, or be the `_` that no word stands for.
--
--   lower_places items        == the bytes at which such words stand, among the items of a text
--   lower_names names         == those of the names that begin with a lower-case letter
--   placed text w             == these names, each with its place in the text of w
--   IsPropositionAt text w k p == at the byte k of the text of w, p stands as a proposition
--   AreDeclared ps w          == all propositions of w are among the names ps
--   IsFirstUndeclared ps text w k == at the byte k of the text of w, the first proposition stands that isn't among them
use Rattle.std.specs.Prelude.{ℕ, ◌<◌, Bool, false, List, [], ◌∷◌}
use Rattle.std.specs.List.{AllByRecursion, filter, zip}
use Rattle.ml_bounded.specs.Text as bounded
use Rattle.ml_ctl.specs.Text as ctl
use Rattle.ml_lists.specs.Member.{IsMember}
use Rattle.ml_mu.specs.Text as mu
use Rattle.ml_pdl.specs.Text as pdl
use Rattle.ml_text.specs.Bytes.{is_lower}
use Rattle.ml_text.specs.Names.{KindedName, Proposition}
use Rattle.ml_text.specs.Refusals.{Item}
use Rattle.ml_text.specs.Signs.{Named}
use Rattle.ml_text.specs.declared.named_signs.Sign.TheVariants.{Lower}
use Rattle.ml_written.specs.Propositions.{names, propositions}
use Rattle.ml_written.specs.declared.written.Written.{Written}
use Rattle.ml_written.specs.declared.written.Written.TheVariants.{Mu, Pdl, Ctl, Ltl, Word}

-- the place of a sign, where it is such a word, and the places behind it
abbrev pub place_before : {X : Type 0} → Named X → ℕ → List ℕ → List ℕ
place_before (Lower p) at places = at ∷ places
place_before _ at places = places

abbrev pub lower_places : {X : Type 0} → List (Item (Named X)) → List ℕ
lower_places [] = []
lower_places (i ∷ items) = place_before i.sign i.at (lower_places items)

abbrev pub begins_lower : List ℕ → Bool
begins_lower [] = false
begins_lower (b ∷ bs) = is_lower b

abbrev pub lower_names : List KindedName → List KindedName
lower_names xs = filter (λ x. begins_lower x.1) xs

abbrev pub places : List ℕ → Written → List ℕ
places text (Mu f) = lower_places (mu.items text)
places text (Pdl f) = lower_places (pdl.items text)
places text (Ctl f) = lower_places (ctl.items text)
places text (Ltl f) = lower_places (bounded.items text)
places text (Word f) = lower_places (bounded.items text)

abbrev pub placed : List ℕ → Written → List (ℕ × KindedName)
placed text w = zip (places text w) (lower_names (names w))

abbrev pub IsPropositionAt : List ℕ → Written → ℕ → List ℕ → Type 0
IsPropositionAt text w k p = IsMember (k, (Proposition, p)) (placed text w)

abbrev pub AreDeclared : List (List ℕ) → Written → Type 0
AreDeclared ps w = AllByRecursion (λ p. IsMember p ps) (propositions w)

pub record IsFirstUndeclared (ps : List (List ℕ)) (text : List ℕ) (w : Written) (k : ℕ) : Type 0 where
  pub name : List ℕ
  pub stands : IsPropositionAt text w k name
  pub undeclared : IsMember name ps → ⊥
  pub first : (j : ℕ) (p : List ℕ) → j < k → IsPropositionAt text w j p → IsMember p ps
