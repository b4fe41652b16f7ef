-- The labels of a state's line, word by word.
--
--   AreLabelsTo all labels rest  == of the words `all`, the labels were read, and the rest is left
--   label_read     == the next word is a label
--   labels_done    == at the end all words are labels in order
--   no_name, not_above  == a word that is no name, or not above the label before it, makes the words no labels
use Rattle.std.proofs.Common.{◌≡◌, ℕ, ◌+◌, List, [], ◌∷◌, ◌++◌, length, Option, None, Some, All, sym, ap, subst, ◌∙◌, append_assoc}
use Rattle.std.specs.Ordering.{nat_cmp}
use Rattle.std.specs.Cmp.Lexicographic.{slice_cmp}
use Rattle.std.proofs.lemmas.Cmp.{nat_list_cmp_total}
use Rattle.std.proofs.lemmas.List.{append-nil}
use Rattle.std.proofs.lemmas.List.Elements.{All-nil, All-cons, All-head, All-tail}
use Rattle.ml_base.specs.Name.{IsName}
use Rattle.ml_lines.specs.Lines.{Word}
use Rattle.ml_lines.specs.Reading.{words_of, words_behind}
use Rattle.ml_lists.specs.Last.{last_of}
use Rattle.ml_lists.specs.Chains.{Above, Chain}
use Rattle.ml_kripke.specs.private.BodyParts.{Ascend}
use Rattle.ml_lists.proofs.Chains.{chain_push, chain_at, chain_sorted, sorted_chain}

pub record AreLabelsTo (all labels : List Word) (rest : Option (List ℕ)) : Type 0 where
  pub whole : all ≡ labels ++ words_behind rest
  pub named : All IsName labels
  pub chain : Chain (slice_cmp nat_cmp) None labels

named_push : (labels : List Word) (w : Word) → All IsName labels → IsName w → All IsName (labels ++ w ∷ [])
named_push [] w all named = All-cons IsName w [] named (All-nil IsName)
named_push (label ∷ labels) w all named =
    All-cons IsName label (labels ++ w ∷ []) (All-head IsName label labels all)
    (named_push labels w (All-tail IsName label labels all) named)

named_at : (labels : List Word) (w : Word) (rest : List Word) → All IsName (labels ++ w ∷ rest) → IsName w
named_at [] w rest all = All-head IsName w rest all
named_at (label ∷ labels) w rest all = named_at labels w rest (All-tail IsName label (labels ++ w ∷ rest) all)

module _ (all labels : List Word) (text : List ℕ) (w : Word) (behind : Option (List ℕ))
    (so_far : AreLabelsTo all labels (Some text)) (is : words_of text ≡ w ∷ words_behind behind) where
  whole_is : all ≡ labels ++ w ∷ words_behind behind
  whole_is = so_far.whole ∙ ap (λ rest. labels ++ rest) is

  pub label_read : IsName w
      → Above (slice_cmp nat_cmp) (last_of None labels) w
      → AreLabelsTo all (labels ++ w ∷ []) behind
  label_read name above = record {
    whole = whole_is ∙ sym (append_assoc labels (w ∷ []) (words_behind behind));
    named = named_push labels w so_far.named name;
    chain = chain_push (slice_cmp nat_cmp) None labels w so_far.chain above;
  }

  pub no_name : ¬ (IsName w) → ¬ (All IsName all × Ascend all)
  no_name none labels_ok = none (named_at labels w (words_behind behind) (subst (All IsName) whole_is labels_ok.0))

  pub not_above : ¬ (Above (slice_cmp nat_cmp) (last_of None labels) w) → ¬ (All IsName all × Ascend all)
  not_above none labels_ok =
      none (chain_at (slice_cmp nat_cmp) None labels w (words_behind behind)
      (sorted_chain (slice_cmp nat_cmp) (labels ++ w ∷ words_behind behind) (subst Ascend whole_is labels_ok.1)))

pub labels_done : (all labels : List Word)
    → AreLabelsTo all labels None
    → (labels ≡ all) × All IsName labels × Ascend labels
labels_done all labels so_far = (
  sym (so_far.whole ∙ append-nil labels),
  so_far.named,
  chain_sorted (slice_cmp nat_cmp) nat_list_cmp_total None labels so_far.chain,
)

-- how much is left
abbrev pub size_left : Option (List ℕ) → ℕ
size_left None = 0
size_left (Some text) = length text + 1
