-- Names with their kinds.
--
--   spelled_both, spelled_parts, spelled_all == names that are spelled as they must be, in two lists and one by one
--   short_both, spelled_both_keep == names of two lists stay short and spelled as they must be where those of each do
--   of_kind_append            == the names of a kind of two lists
--   kind_append               == to add those of two lists is to add those of the one and then those of the other
--   few_added                 == no more are added than there are names
--   kind_parts, of_kind_all   == what holds of those of a kind in two lists, and in a list of which it holds altogether
--   AreAmong ps acts xs       == the propositions are among the names ps, the actions among the names acts
--   among_parts, kind_among, names_among == so of two lists, and of what is listed of them
--   Bears P s                 == P holds of the name of the sign s, as whatever it may stand
--   bears_spelled, bears_short == so it is of names that are spelled as they must be, and of short ones
use Rattle.std.proofs.Common.{◌≡◌, ℕ, ◌+◌, ◌≤◌, Bool, true, false, if◌then◌else◌, List, [], ◌∷◌, ◌++◌, length, refl, sym, ◌∙◌, ap, subst, arith}
use Rattle.std.specs.List.{AllByRecursion, list_any}
use Rattle.std.proofs.lemmas.Bool.{and_from, and_parts}
use Rattle.std.proofs.lemmas.List.Folds.{list_all-append}
use Rattle.ml_lists.proofs.AllOf.{all_both, all_parts}
use Rattle.ml_text.specs.NameLists.{with_names}
use Rattle.ml_text.specs.Names.{Kind, Proposition, Variable, Action, KindedName, AreShort, IsShortName, are_spelled, is_kind, is_spelled_name, of_kind}
use Rattle.ml_text.specs.Bytes.{is_upper}
use Rattle.ml_text.specs.Signs.{OwnSigns, Named, is_reserved, is_upper_word, reserved}
use Rattle.ml_text.specs.SignKinds.{HasShortName}
use Rattle.ml_text.specs.declared.named_signs.Sign.TheVariants.{Lower, Upper}
use Rattle.ml_text.proofs.FirstLetters.{none_of}
use Rattle.ml_text.proofs.FreeWords.{proposition_action, upper_action}
use Rattle.ml_text.proofs.NameLists.{added_names, few_names, is_among, names_append}
use Rattle.ml_text.proofs.NamedSigns.{IsSpelledSign}
use Rattle.ml_text.proofs.WordNames.{name_length}

-- ---- what holds of all

pub short_parts : (xs ys : List KindedName) → AreShort (xs ++ ys) → AreShort xs × AreShort ys
short_parts xs ys all = all_parts IsShortName xs ys all

pub short_both : (xs ys zs us : List KindedName)
    → (AreShort xs → AreShort ys)
    → (AreShort zs → AreShort us)
    → AreShort (xs ++ zs)
    → AreShort (ys ++ us)
short_both xs ys zs us one other both =
    let parts = all_parts IsShortName xs zs both in all_both IsShortName ys us (one parts.0) (other parts.1)

module _ {X : Type 0} (own : OwnSigns X) where
  abbrev pub IsSpelledName : KindedName → Type 0
  IsSpelledName x = is_spelled_name own x ≡ true

  pub spelled_both : (xs ys : List KindedName)
      → are_spelled own xs ≡ true
      → are_spelled own ys ≡ true
      → are_spelled own (xs ++ ys) ≡ true
  spelled_both xs ys one other =
      list_all-append (is_spelled_name own) xs ys ∙ and_from (are_spelled own xs) (are_spelled own ys) one other

  pub spelled_parts : (xs ys : List KindedName)
      → are_spelled own (xs ++ ys) ≡ true
      → (are_spelled own xs ≡ true) × (are_spelled own ys ≡ true)
  spelled_parts xs ys all =
      and_parts (are_spelled own xs) (are_spelled own ys) (sym (list_all-append (is_spelled_name own) xs ys) ∙ all)

  pub spelled_both_keep : (xs ys zs us : List KindedName)
      → (are_spelled own xs ≡ true → are_spelled own ys ≡ true)
      → (are_spelled own zs ≡ true → are_spelled own us ≡ true)
      → are_spelled own (xs ++ zs) ≡ true
      → are_spelled own (ys ++ us) ≡ true
  spelled_both_keep xs ys zs us one other both =
      let parts = spelled_parts xs zs both in spelled_both ys us (one parts.0) (other parts.1)

  pub spelled_all : (xs : List KindedName) → AllByRecursion IsSpelledName xs → are_spelled own xs ≡ true
  spelled_all [] all = refl
  spelled_all (x ∷ xs) all = and_from (is_spelled_name own x) (are_spelled own xs) all.0 (spelled_all xs all.1)

-- ---- the names of a kind

kept_append : (b : Bool) (w : List ℕ) (all one other : List (List ℕ))
    → all ≡ one ++ other
    → (if b then w ∷ all else all) ≡ (if b then w ∷ one else one) ++ other
kept_append true w all one other is = ap (λ l. w ∷ l) is
kept_append false w all one other is = is

pub of_kind_append : (k : Kind) (xs ys : List KindedName) → of_kind k (xs ++ ys) ≡ of_kind k xs ++ of_kind k ys
of_kind_append k [] ys = refl
of_kind_append k (x ∷ xs) ys = kept_append (is_kind k x.0) x.1 _ _ _ (of_kind_append k xs ys)

-- to add those of two lists is to add those of the one and then those of the other
pub kind_append : (k : Kind) (ps : List (List ℕ)) (xs ys : List KindedName)
    → with_names ps (of_kind k (xs ++ ys)) ≡ with_names (with_names ps (of_kind k xs)) (of_kind k ys)
kind_append k ps xs ys =
    ap (λ l. with_names ps l) (of_kind_append k xs ys) ∙ names_append ps (of_kind k xs) (of_kind k ys)

kept_length : (b : Bool) (w : List ℕ) (ws : List (List ℕ)) → length (if b then w ∷ ws else ws) ≤ 1 + length ws
kept_length true w ws = omega arith
kept_length false w ws = omega arith

pub of_kind_length : (k : Kind) (xs : List KindedName) → length (of_kind k xs) ≤ length xs
of_kind_length k [] = omega arith
of_kind_length k (x ∷ xs) =
    omega (arith, kept_length (is_kind k x.0) x.1 (of_kind k xs), of_kind_length k xs)

-- where there are no more names than n, no more than n of a kind are added
pub few_added : (k : Kind) (xs : List KindedName) (n : ℕ) → length xs ≤ n → length (with_names [] (of_kind k xs)) ≤ n
few_added k xs n few = omega (arith, few_names [] (of_kind k xs), of_kind_length k xs, few)

-- what holds of those of a kind in two lists
pub kind_parts : (P : List ℕ → Type 0) (k : Kind) (xs ys : List KindedName)
    → AllByRecursion P (of_kind k (xs ++ ys))
    → AllByRecursion P (of_kind k xs) × AllByRecursion P (of_kind k ys)
kind_parts P k xs ys all = all_parts P (of_kind k xs) (of_kind k ys) (subst (AllByRecursion P) (of_kind_append k xs ys) all)

module _ (P : KindedName → Type 0) where
  kept_all : (k l : Kind) (w : List ℕ) (ws : List (List ℕ))
      → P (l, w)
      → AllByRecursion (λ v. P (k, v)) ws
      → AllByRecursion (λ v. P (k, v)) (if is_kind k l then w ∷ ws else ws)
  kept_all Proposition Proposition w ws is all = (is, all)
  kept_all Variable Variable w ws is all = (is, all)
  kept_all Action Action w ws is all = (is, all)
  kept_all _ _ w ws is all = all

  -- what holds of all names holds of those of a kind
  pub of_kind_all : (k : Kind) (xs : List KindedName) → AllByRecursion P xs → AllByRecursion (λ w. P (k, w)) (of_kind k xs)
  of_kind_all k [] all = tt
  of_kind_all k (x ∷ xs) all = kept_all k x.0 x.1 (of_kind k xs) all.0 (of_kind_all k xs all.1)

-- ---- names among others

-- the propositions are among the names ps, and the actions among the names acts
abbrev pub AreAmong : List (List ℕ) → List (List ℕ) → List KindedName → Type 0
AreAmong ps acts xs =
    AllByRecursion (λ p. is_among ps p ≡ true) (of_kind Proposition xs)
    × AllByRecursion (λ a. is_among acts a ≡ true) (of_kind Action xs)

pub among_parts : (ps acts : List (List ℕ)) (xs ys : List KindedName)
    → AreAmong ps acts (xs ++ ys)
    → AreAmong ps acts xs × AreAmong ps acts ys
among_parts ps acts xs ys among =
    let props = kind_parts (λ p. is_among ps p ≡ true) Proposition xs ys among.0 in
    let actions = kind_parts (λ a. is_among acts a ≡ true) Action xs ys among.1 in
    ((props.0, actions.0), (props.1, actions.1))

-- those of a kind are among what is listed of them
pub kind_among : {ps : List (List ℕ)} (k : Kind) (xs : List KindedName)
    → ps ≡ with_names [] (of_kind k xs)
    → AllByRecursion (λ p. is_among ps p ≡ true) (of_kind k xs)
kind_among k xs same =
    subst (λ qs. AllByRecursion (λ p. is_among qs p ≡ true) (of_kind k xs)) (sym same) (added_names [] (of_kind k xs))

pub names_among : {ps acts : List (List ℕ)} (xs : List KindedName)
    → ps ≡ with_names [] (of_kind Proposition xs)
    → acts ≡ with_names [] (of_kind Action xs)
    → AreAmong ps acts xs
names_among xs props actions = (kind_among Proposition xs props, kind_among Action xs actions)

-- ---- names of signs

module _ {X : Type 0} where
  -- P holds of the name of the sign, as whatever it may stand
  abbrev pub Bears : (KindedName → Type 0) → Named X → Type 0
  Bears P (Lower w) = P (Proposition, w) × P (Action, w)
  Bears P (Upper w) = P (Variable, w) × P (Action, w)
  Bears P _ = Unit {0}

  pub bears_short : (s : Named X) → HasShortName s → Bears IsShortName s
  bears_short (Lower w) short = let few = name_length w short in (few, few)
  bears_short (Upper w) short = let few = name_length w short in (few, few)
  bears_short _ short = tt

  -- where no reserved word begins in upper case
  pub bears_spelled : (own : OwnSigns X)
      → list_any is_upper_word (reserved own) ≡ false
      → (s : Named X)
      → IsSpelledSign own s
      → Bears (IsSpelledName own) s
  bears_spelled own none (Lower w) is = (is, proposition_action w (is_reserved own w) is)
  bears_spelled own none (Upper w) is =
      (is, upper_action w (is_reserved own w) is (none_of is_upper w (reserved own) is none))
  bears_spelled own none _ is = tt
