-- What holds of the items that the statements of a text mean.
--
--   fits_from     == statements that fit those before them, by what is known behind each
--   values_fine, values_propositions == the values of an enumeration have propositions of its logic
--   new_items     == that no name stands twice, said item by item and of all
--   specified     == the items of a specification are of its logic, well formed, named, new and few
use Rattle.std.proofs.Common.{◌≡◌, ℕ, ◌+◌, ◌<◌, ◌≤◌, Bool, true, false, if◌then◌else◌, nat_le, List, [], ◌∷◌, ◌++◌, length, bytes_eq, Contains, Some, inl, inr, refl, sym, ap, subst, ◌∙◌, arith, append_assoc}
use Rattle.std.specs.Prelude.{⊤}
use Rattle.std.specs.List.{AllByRecursion}
use Rattle.std.proofs.lemmas.Bool.{and_parts, leb-true}
use Rattle.std.proofs.lemmas.List.{append-nil}
use Rattle.indexmap.specs.IndexMap.{insert_entry}
use Rattle.ml_base.specs.Name.{longest_name}
use Rattle.ml_lists.proofs.Decided.{Decided, decided_less}
use Rattle.ml_text.specs.Limits.{most_occurrences}
use Rattle.ml_ctl.specs.Enumerations.{ArePropositions}
use Rattle.ml_ctl.specs.Spelling as spelling
use Rattle.ml_front.specs.Connectives.{occurrences}
use Rattle.ml_front.specs.Logics.{logic_of}
use Rattle.ml_front.specs.Replaced.{Definition, replaced}
use Rattle.ml_front.specs.WellFormed.{IsWellFormed}
use Rattle.ml_front.specs.declared.logic.Logic.{Logic}
use Rattle.ml_front.specs.declared.logic.Logic.TheVariants as logic
use Rattle.ml_front.specs.declared.problem.AnyFormula.{AnyFormula}
use Rattle.ml_spec.specs.Comments.{uncommented}
use Rattle.ml_spec.specs.ItemParts.{text_of}
use Rattle.ml_spec.specs.Items.{ItemText, is_name}
use Rattle.ml_spec.specs.Known.{known, known_behind, nothing, Fits, Known}
use Rattle.ml_spec.specs.Meaning.{formula_of, item_with, items_from, items_of}
use Rattle.ml_spec.specs.Specification.{items_behind, names, AreNew, IsSpecification, IsSpecified}
use Rattle.ml_spec.specs.Statements.{is_value, value_name, value_names, AreStatements, IsSaid, IsWrittenIn, Saying, Statement}
use Rattle.ml_spec.specs.Statements as says
use Rattle.ml_spec.specs.Words.{AreGood}
use Rattle.ml_spec.specs.declared.kind.Kind.TheVariants.{Require}
use Rattle.ml_spec.specs.declared.specification.Item.{Item}
use Rattle.ml_spec.specs.private.Stages.{AreFittingBehind}
use Rattle.ml_spec.proofs.Enumerated.{enumerated, AreFine, IsEnumerated}
use Rattle.ml_spec.proofs.LargeFormulas.{back, known_more, LargeFrom}
use Rattle.ml_spec.proofs.Propositions.{proposition_named, value_proposition}
use Rattle.ml_spec.proofs.ReplacedFormulas.{replaced_larger, replaced_logic, replaced_well, AreWellDefined}
use Rattle.ml_spec.proofs.TextFaults.{fitting_behind}
use Rattle.ml_written.specs.Propositions.{has_enumerations, is_proposition, is_spelled}
use Rattle.ml_written.specs.Written.{meaning}
use Rattle.ml_written.specs.declared.written.Written.{Written}
use Rattle.ml_written.proofs.WellWritten.{of_its_logic, written_well}

-- ---- names

abbrev AreNewBehind : List (List ℕ) → List Item → Type 0
AreNewBehind seen [] = ⊤
AreNewBehind seen (x ∷ xs) = (¬ (Contains seen x.name)) × AreNewBehind (seen ++ x.name ∷ []) xs

-- the item behind others has no name of theirs
new_at : (seen : List (List ℕ)) (before : List Item) (x : Item) (after : List Item)
    → AreNewBehind seen (before ++ x ∷ after)
    → ¬ (Contains (seen ++ names before) x.name)
new_at seen [] x after new = λ taken. new.0 (subst (λ ns. Contains ns x.name) (append-nil seen) taken)
new_at seen (y ∷ ys) x after new =
    λ taken.
    new_at (seen ++ y.name ∷ []) ys x after new.1
    (subst (λ ns. Contains ns x.name) (sym (append_assoc seen (y.name ∷ []) (names ys))) taken)

new_items : (xs : List Item) → AreNewBehind [] xs → AreNew xs
new_items xs new before x after is = new_at [] before x after (subst (AreNewBehind []) is new)

-- ---- statements by what is known

abbrev FitsFrom : Known → List Statement → Type 0
FitsFrom k [] = ⊤
FitsFrom k (s ∷ ss) = Fits k s.says × FitsFrom (known_behind k s.says) ss

fits_from : (done ss : List Statement) → AreFittingBehind done ss → FitsFrom (known done) ss
fits_from done [] fit = tt
fits_from done (s ∷ ss) fit =
    (fit.0, subst (λ k. FitsFrom k ss) (known_more done s) (fits_from (done ++ s ∷ []) ss fit.1))

-- ---- enumerations

-- a logic with enumerations has the propositions of CTL* and LTL
pub values_fine : (l : Logic) (m : List ℕ) (vs : List (List ℕ))
    → has_enumerations l ≡ true
    → is_proposition l m ≡ true
    → AreGood (is_value m) vs
    → AreFine (value_names m vs)
values_fine l m [] has named good = tt
values_fine l m (v ∷ vs) has named good = (one l has (value_proposition l m v named good.0), values_fine l m vs has named good.1)
  where
    one : (l : Logic) → has_enumerations l ≡ true → is_proposition l (value_name m v) ≡ true
        → (spelling.is_proposition (value_name m v) ≡ true) × (length (value_name m v) ≤ longest_name)
    one logic.Mu has is = absurd cc
    one logic.Pdl has is = absurd cc
    one logic.Ctl has is =
        let parts = and_parts (is_spelled logic.Ctl (value_name m v)) (nat_le (length (value_name m v)) longest_name) is in
        (parts.0, leb-true (length (value_name m v)) longest_name parts.1)
    one logic.Ltl has is =
        let parts = and_parts (is_spelled logic.Ltl (value_name m v)) (nat_le (length (value_name m v)) longest_name) is in
        (parts.0, leb-true (length (value_name m v)) longest_name parts.1)
    one logic.Word has is =
        let parts = and_parts (is_spelled logic.Word (value_name m v)) (nat_le (length (value_name m v)) longest_name) is in
        (parts.0, leb-true (length (value_name m v)) longest_name parts.1)

pub values_propositions : (l : Logic) (m : List ℕ) (vs : List (List ℕ))
    → has_enumerations l ≡ true
    → is_proposition l m ≡ true
    → AreGood (is_value m) vs
    → ArePropositions (value_names m vs)
values_propositions l m [] has named good = tt
values_propositions l m (v ∷ vs) has named good =
    let fine = values_fine l m (v ∷ vs) has named good in (fine.0.0, values_propositions l m vs has named good.1)

-- ---- all of it

record AreFinely (l : Logic) (seen : List (List ℕ)) (most : ℕ) (xs : List Item) : Type 0 where
  of_logic : AllByRecursion (λ x. logic_of x.formula ≡ l) xs
  well_formed : AllByRecursion (λ x. IsWellFormed x.formula) xs
  named : AllByRecursion (λ x. is_name x.name ≡ true) xs
  new : AreNewBehind seen xs
  few : length xs ≤ most

module _ (l : Logic) where
  small : (k : Known) (s : Statement) (f : AnyFormula)
      → ((at : ℕ) → LargeFrom l k (s ∷ []) at → ⊥)
      → formula_of l k.definitions s.says ≡ Some f
      → occurrences f ≤ most_occurrences
  small k s f none means = by (decided_less most_occurrences (occurrences f))
    where
      by : Decided (most_occurrences < occurrences f) → occurrences f ≤ most_occurrences
      by (inl large) = absurd (none s.at (inl (record { formula = f; means = means; is_large = large }, refl)))
      by (inr not) = omega (arith, not)

  meant_well : (ds : List Definition) (text : List ℕ) (w : Written)
      → AreWellDefined l ds
      → IsWrittenIn l text w
      → occurrences (replaced ds (meaning w)) ≤ most_occurrences
      → (logic_of (replaced ds (meaning w)) ≡ l) × IsWellFormed (replaced ds (meaning w))
  meant_well ds text w all written small =
      let of_logic = of_its_logic w ∙ written.0 in (
        replaced_logic ds (meaning w) ∙ of_logic,
        replaced_well ds (meaning w) (subst (λ k. AreWellDefined k ds) (sym of_logic) all)
            (written_well text w written.1 (omega (arith, small, replaced_larger ds (meaning w)))) small,
      )

  defined_more : (ds : List Definition) (p : List ℕ) (f : AnyFormula)
      → AreWellDefined l ds
      → (logic_of f ≡ l) × IsWellFormed f
      → AreWellDefined l (insert_entry bytes_eq ds p f)
  defined_more [] p f all is = (is, tt)
  defined_more (d ∷ ds) p f all is = by (bytes_eq p d.0) (defined_more ds p f all.1 is)
    where
      by : (b : Bool)
          → AreWellDefined l (insert_entry bytes_eq ds p f)
          → AreWellDefined l (if b then (d.0, f) ∷ ds else d ∷ insert_entry bytes_eq ds p f)
      by true rest = (is, all.1)
      by false rest = (all.0, rest)

  one_more : (seen : List (List ℕ)) (most : ℕ) (x : Item) (xs : List Item)
      → (logic_of x.formula ≡ l) × IsWellFormed x.formula
      → is_name x.name ≡ true
      → ¬ (Contains seen x.name)
      → AreFinely l (seen ++ x.name ∷ []) most xs
      → AreFinely l seen (most + 1) (x ∷ xs)
  one_more seen most x xs is named new fine = record {
    of_logic = (is.0, fine.of_logic);
    well_formed = (is.1, fine.well_formed);
    named = (named, fine.named);
    new = (new, fine.new);
    few = omega (arith, fine.few);
  }

  none_more : (seen : List (List ℕ)) (most : ℕ) (xs : List Item) → AreFinely l seen most xs → AreFinely l seen (most + 1) xs
  none_more seen most xs fine = record {
    of_logic = fine.of_logic;
    well_formed = fine.well_formed;
    named = fine.named;
    new = fine.new;
    few = omega (arith, fine.few);
  }

  only_first : (k : Known) (s : Statement) (ss : List Statement)
      → ((at : ℕ) → LargeFrom l k (s ∷ ss) at → ⊥)
      → (at : ℕ)
      → LargeFrom l k (s ∷ []) at
      → ⊥
  only_first k s ss none at (inl here) = none at (inl here)
  only_first k s ss none at (inr later) = later

  finely : (k : Known) (is : List ItemText) (ss : List Statement)
      → AreStatements l is ss
      → FitsFrom k ss
      → ((at : ℕ) → LargeFrom l k ss at → ⊥)
      → AreWellDefined l k.definitions
      → AreFinely l k.names (length ss) (items_from l k ss)
  finely k [] [] are fit none all = record { of_logic = tt; well_formed = tt; named = tt; new = tt; few = omega arith }
  finely k [] (s ∷ ss) are fit none all = absurd are
  finely k (i ∷ is) [] are fit none all = absurd are
  finely k (i ∷ is) (s ∷ ss) are fit none all =
      subst (λ n. AreFinely l k.names n (items_of l k.definitions s.says ++ items_from l (known_behind k s.says) ss)) size
      (by s.says refl are.0.is_said fit.0
      (λ defined. finely (known_behind k s.says) is ss are.1 fit.1 (λ at large. none at (inr large)) defined))
    where
      size : length ss + 1 ≡ length (s ∷ ss)
      size = omega arith

      rest : Saying → List Item
      rest t = items_from l (known_behind k t) ss

      meant : (t : Saying) → s.says ≡ t → (f : AnyFormula) → formula_of l k.definitions t ≡ Some f
          → occurrences f ≤ most_occurrences
      meant t same f means =
          small k s f (only_first k s ss none) (ap (formula_of l k.definitions) same ∙ means)

      by : (t : Saying)
          → s.says ≡ t
          → IsSaid l i t
          → Fits k t
          → (AreWellDefined l (known_behind k t).definitions → AreFinely l (known_behind k t).names (length ss) (rest t))
          → AreFinely l k.names (length ss + 1) (items_of l k.definitions t ++ rest t)
      by says.Repeated same said fits later = none_more k.names (length ss) (rest says.Repeated) (later all)
      by (says.Signals ps) same said fits later = none_more k.names (length ss) (rest (says.Signals ps)) (later all)
      by (says.Definition p w) same said fits later =
          none_more k.names (length ss) (rest (says.Definition p w))
          (later
          (defined_more k.definitions p (replaced k.definitions (meaning w)) all
          (meant_well k.definitions (text_of i) w all said.2
          (meant (says.Definition p w) same (replaced k.definitions (meaning w)) refl))))
      by (says.Stated q n w) same said fits later =
          one_more k.names (length ss)
          (record { kind = q; name = n; formula = replaced k.definitions (meaning w) }) (rest (says.Stated q n w))
          (meant_well k.definitions (text_of i) w all said.2
          (meant (says.Stated q n w) same (replaced k.definitions (meaning w)) refl))
          (subst (λ m. is_name m ≡ true) (sym said.1) said.0.0.0.1) fits.0 (later all)
      by (says.Enumeration m vs) same said fits later =
          let named : is_proposition l m ≡ true = subst (λ n. is_proposition l n ≡ true) (sym said.1) said.0.0.1 in
          let made : IsEnumerated l (value_names m vs) =
          enumerated l (value_names m vs) said.0.0.0.0.1 (values_fine l m vs said.0.0.0.0.1 named said.3) in
          subst (λ xs. AreFinely l k.names (length ss + 1) (xs ++ rest (says.Enumeration m vs)))
          (sym (ap (item_with Require m) made.means))
          (one_more k.names (length ss)
          (record { kind = Require; name = m; formula = made.formula }) (rest (says.Enumeration m vs))
          (made.of_logic, made.is_well (meant (says.Enumeration m vs) same made.formula made.means))
          (proposition_named l m named) fits.0 (later all))

pub specified : (text : List ℕ) (l : Logic) (xs : List Item) → IsSpecification text l xs → IsSpecified l xs
specified text l xs is =
    subst (IsSpecified l) (sym is.are_meant) (record {
      of_logic = fine.of_logic;
      are_well_formed = fine.well_formed;
      are_named = fine.named;
      are_new = new_items (items_from l nothing is.statements) fine.new;
      are_few = omega (arith, fine.few, is.are_read.are_few);
    })
  where
    fine : AreFinely l [] (length is.statements) (items_from l nothing is.statements)
    fine =
        finely l nothing (items_behind (uncommented text)) is.statements is.are_read.are_statements
        (fits_from [] is.statements (fitting_behind is.statements is.are_read.are_fitting))
        (λ at large. is.none_is_large at (back l [] is.statements at large)) tt
