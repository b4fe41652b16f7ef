-- Graphs whose names and priorities are what a program holds, whatever the logic.
--
--   Fits k        == the number k fits 32 bits
--   Every P xs    == the members of xs have the property P
--   IsHeld g      == the propositions of literals are names, the actions of diamonds are actions, and priorities fit 32 bits
--   held_lists    == so it is where all names that the graph lists are such
--   with_named, with_names_named  == a list of names to which a name was added, or several
--   proposition_name, action_name == a proposition that is spelled as one, and short, is a name; and so of an action
--   IsNamedAs k w == the bytes w are a name, or for an action an action
--   kind_named, listed_named      == so are the names of a kind, and those that are listed of them
use Rattle.std.proofs.Common.{◌≡◌, ℕ, ◌<◌, ◌≤◌, ◌⊎◌, Bool, true, false, if◌then◌else◌, codes, bytes_eq, List, [], ◌∷◌, ◌++◌, ◌^◌, length, inl, inr, refl, sym, subst, ⊎_elim}
use Rattle.std.specs.List.{AllByRecursion, list_any}
use Rattle.std.proofs.lemmas.Bool.{and_parts, cases_Bool, or_left}
use Rattle.std.proofs.lemmas.Slice.Eq.{bytes_eq-Decides}
use Rattle.ml_base.specs.Name.{IsName, IsAction, is_blank_action, is_name, longest_name}
use Rattle.ml_lists.specs.Member.{IsMember}
use Rattle.ml_lists.proofs.Member.{member-append, place-member}
use Rattle.ml_graph.specs.Graph.{Graph, IsGraph, action_at, node_at, prop_at, size}
use Rattle.ml_graph.specs.declared.node.Node.TheVariants as node
use Rattle.ml_graph.proofs.References.{diamond_action, prop_in_range}
use Rattle.ml_text.specs.NameLists.{with_name, with_names}
use Rattle.ml_text.specs.Names.{Kind, Proposition, Variable, Action, KindedName, AreShort, are_spelled, is_spelled_as, is_spelled_name, of_kind}
use Rattle.ml_text.specs.Signs.{OwnSigns, is_proposition, is_reserved, is_upper_word}
use Rattle.ml_text.specs.SignKinds.{is_action}
use Rattle.ml_text.proofs.FirstLetters.{upper_letters}
use Rattle.ml_text.proofs.FreeWords.{of_action, proposition_letters}
use Rattle.ml_text.proofs.Names.{of_kind_all}
use Rattle.ml_text.proofs.WordNames.{word_name}

-- a number of 32 bits
abbrev pub Fits : ℕ → Type 0
Fits k = k < 2 ^ 32

-- ---- members

abbrev pub Every : {X : Type 0} → (X → Type 0) → List X → Type 0
Every {X} P xs = (x : X) → IsMember x xs → P x

pub every_cons : {X : Type 0} (P : X → Type 0) (x : X) (xs : List X) → P x → Every P xs → Every P (x ∷ xs)
every_cons P x xs p ps y (inl same) = subst P (sym same) p
every_cons P x xs p ps y (inr m) = ps y m

pub every_append : {X : Type 0} (P : X → Type 0) (xs ys : List X) → Every P xs → Every P ys → Every P (xs ++ ys)
every_append P xs ys ps qs y m = by_part (member-append y xs ys m)
  where
    by_part : IsMember y xs ⊎ IsMember y ys → P y
    by_part (inl here) = ps y here
    by_part (inr there) = qs y there

pub record IsHeld (g : Graph) : Type 0 where
  pub literals : (n p : ℕ) (positive : Bool) → n < size g → node_at g n ≡ node.Lit p positive → IsName (prop_at g p)
  pub diamonds : (n a to : ℕ) → n < size g → node_at g n ≡ node.Diamond a to → IsAction (action_at g a)
  pub priorities : Every Fits g.priorities

pub held_lists : (g : Graph)
    → IsGraph g
    → Every IsName g.props
    → Every IsAction g.actions
    → Every Fits g.priorities
    → IsHeld g
held_lists g ok props actions priorities = record {
  literals = λ n p positive low is.
      props (prop_at g p) (place-member g.props p [] (prop_in_range g ok n low p positive is));
  diamonds = λ n a to low is.
      actions (action_at g a) (place-member g.actions a [] (diamond_action g ok n low a to is));
  priorities = priorities;
}

-- ---- names

pub with_named : (P : List ℕ → Type 0) (ps : List (List ℕ)) (p : List ℕ) → P p → Every P ps
    → Every P (if list_any (bytes_eq p) ps then ps else ps ++ p ∷ [])
with_named P ps p named all = by_test (list_any (bytes_eq p) ps)
  where
    by_test : (b : Bool) → Every P (if b then ps else ps ++ p ∷ [])
    by_test true = all
    by_test false = every_append P ps (p ∷ []) all (every_cons P p [] named (λ y m. absurd m))

pub with_names_named : (P : List ℕ → Type 0) (ps qs : List (List ℕ)) → Every P ps → AllByRecursion P qs
    → Every P (with_names ps qs)
with_names_named P ps [] all added = all
with_names_named P ps (q ∷ qs) all added =
    with_names_named P (with_name ps q) qs (with_named P ps q added.0 all) added.1

-- what a name is that stands as this
abbrev pub IsNamedAs : Kind → List ℕ → Type 0
IsNamedAs Proposition w = IsName w
IsNamedAs Variable w = IsName w
IsNamedAs Action w = IsAction w

module _ {X : Type 0} (own : OwnSigns X) where
  -- a proposition that is spelled as one, and short
  pub proposition_name : (p : List ℕ) → is_proposition own p ≡ true → length p ≤ longest_name → IsName p
  proposition_name p is short = word_name p (proposition_letters p (is_reserved own p) is) short

  -- an action that is spelled as one, and short
  pub action_name : (a : List ℕ) → is_action own a ≡ true → length a ≤ longest_name → IsAction a
  action_name a is short =
      ⊎_elim
      (λ (any : bytes_eq a (codes "_") ≡ true). subst IsAction (sym ((bytes_eq-Decides a (codes "_")).0 any)) refl)
      (λ (other : bytes_eq a (codes "_") ≡ false).
      let word = (of_action (Unit {0}) a (is_reserved own a) is other (λ lower. tt) (λ upper. tt)).0 in
      or_left (is_name a) (is_blank_action a) (word_name a word short))
      (cases_Bool (bytes_eq a (codes "_")))

  -- a variable that is spelled as one, and short
  variable_name : (x : List ℕ) → is_upper_word x ≡ true → length x ≤ longest_name → IsName x
  variable_name x is short = word_name x (upper_letters x is) short

  named_as : (k : Kind) (w : List ℕ) → is_spelled_as own k w ≡ true → length w ≤ longest_name → IsNamedAs k w
  named_as Proposition w is short = proposition_name w is short
  named_as Variable w is short = variable_name w is short
  named_as Action w is short = action_name w is short

  are_named : (xs : List KindedName) → are_spelled own xs ≡ true → AreShort xs
      → AllByRecursion (λ x. IsNamedAs x.0 x.1) xs
  are_named [] spelled short = tt
  are_named (x ∷ xs) spelled short =
      let parts = and_parts (is_spelled_name own x) (are_spelled own xs) spelled in
      (named_as x.0 x.1 parts.0 short.0, are_named xs parts.1 short.1)

  -- names that are spelled as they must be, and short: those of a kind are what names of this kind are
  pub kind_named : (k : Kind) (xs : List KindedName) → are_spelled own xs ≡ true → AreShort xs
      → AllByRecursion (IsNamedAs k) (of_kind k xs)
  kind_named k xs spelled short = of_kind_all (λ x. IsNamedAs x.0 x.1) k xs (are_named xs spelled short)

  -- so are those that a program lists of them
  pub listed_named : (k : Kind) (xs : List KindedName) → are_spelled own xs ≡ true → AreShort xs
      → Every (IsNamedAs k) (with_names [] (of_kind k xs))
  listed_named k xs spelled short =
      with_names_named (IsNamedAs k) [] (of_kind k xs) (λ x m. absurd m) (kind_named k xs spelled short)
