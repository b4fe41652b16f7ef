-- The lines of the tables of version 2, and the first rules that they break.
--
--   sequent_no_numbers, sequent_no_ascends == the line of a sequent, in its table or in an entry
--   stack_no_numbers, stack_no_names       == the line of a stack
--   sequents_first, sequent_row, stacks_first, stack_row == they are good, and lead to the next line
use Rattle.std.proofs.Common.{◌≡◌, ℕ, ◌<◌, List, [], ◌∷◌, ◌++◌, length, All, codes, inl, inr, refl, sym, ap, subst, arith}
use Rattle.std.proofs.lemmas.List.Elements.{All-nil, All-cons}
use Rattle.ml_base.specs.declared.version.Version.{Version}
use Rattle.ml_base.specs.declared.version.Version.TheVariants.{One}
use Rattle.ml_lines.specs.Lines.{Word, Line}
use Rattle.ml_lines.specs.Reading.{AreWords, IsNumber, value}
use Rattle.ml_lists.specs.Ascending.{IsAscending}
use Rattle.ml_lists.specs.Documents.{IsFirstBroken}
use Rattle.ml_refutation.specs.Refutation.{Fits, IsStack}
use Rattle.ml_refutation_text.specs.RefutationText.{sequents_line, sequent_line, stacks_line, stack_line}
use Rattle.ml_refutation_text.specs.LineKinds.{Spells}
use Rattle.ml_refutation_text.specs.LineKinds.{IsOfKind}
use Rattle.ml_refutation_text.specs.BodyRules.{Place, AtSequents, AtTableSequent, AtStacks, AtTableStack, at_sequent_table, at_stack_table, stack_kind, rules, body}
use Rattle.ml_refutation_text.specs.private.ListKinds.{sequent_kind}
use Rattle.ml_refutation_text.specs.private.ItemReads.{AreNames}
use Rattle.ml_refutation_text.proofs.ReadWords.{values_back, value_back, words_first, spelt_is_word}
use Rattle.ml_lists.specs.Readings.{Runs}
use Rattle.ml_refutation_text.proofs.GoodLines.{numbered_of, numbered_fits, sequent_good, sequent_fits, stack_good, stack_fits, names_fit}

-- ---- sequents: the rules are the same in both places

abbrev pub SequentBroken : Line → ℕ → Type 0
SequentBroken line r = IsFirstBroken (rules [] (AtTableSequent 0 0 [])) line r

pub sequent_no_numbers : (line words : Line) → line ≡ codes "sequent" ∷ words → AreWords line → ¬ (All IsNumber words)
    → SequentBroken line 22
sequent_no_numbers line words is are bad =
    let kind : IsOfKind sequent_kind (codes "sequent" ∷ words) = (subst AreWords is are, (refl, tt)) in
    subst (λ l. SequentBroken l 22) (sym is) (inr (inl kind, inl (refl, λ have. bad (have.0 kind).1)))

pub sequent_no_ascends : (line : Line) (q : List ℕ)
    → line ≡ sequent_line q
    → All Fits q
    → ¬ (IsAscending q)
    → SequentBroken line 25
sequent_no_ascends line q is fit bad =
    subst (λ l. SequentBroken l 25) (sym is)
    (inr (
      inl (sequent_good One [] q fit),
      inr (sequent_fits One [] q fit, inl (refl, λ ascends. bad (subst IsAscending (values_back q fit) ascends))),
    ))

-- ---- stacks

module _ (names : ℕ) (qs : List (List ℕ)) (size : ℕ) (rows : List (List ℕ)) where
  abbrev pub StackBroken : Line → ℕ → Type 0
  StackBroken line r = IsFirstBroken (rules [] (AtTableStack names qs size rows)) line r

  pub stack_no_numbers : (line words : Line) → line ≡ codes "stack" ∷ words → 0 < length words → AreWords line
      → ¬ (All IsNumber words) → StackBroken line 22
  stack_no_numbers line [] is some are bad = absurd (omega (arith, some))
  stack_no_numbers line (w ∷ words) is some are bad =
      let kind : IsOfKind stack_kind (codes "stack" ∷ w ∷ words) = (subst AreWords is are, (refl, (tt, tt))) in
      subst (λ l. StackBroken l 22) (sym is)
      (inr (inl kind, inl (refl, λ have. let fits = (have.0 kind).1 in bad (All-cons IsNumber w words fits.0 fits.1))))

  pub stack_no_names : (line : Line) (ns : List ℕ)
      → line ≡ stack_line ns
      → 0 < length ns
      → All Fits ns
      → ¬ (AreNames names ns)
      → StackBroken line 27
  stack_no_names line ns is some fit bad =
      subst (λ l. StackBroken l 27) (sym is)
      (inr (
        inl (stack_good One [] ns some fit),
        inr (stack_fits One [] ns fit, inl (refl, λ both. bad (subst (AreNames names) (values_back ns fit) both))),
      ))

-- ---- good lines

module _ (v : Version) (left : List ℕ) (n : ℕ) where
  abbrev Run : Place → List Line → Place → Type 0
  Run = Runs (body v left)

  pub sequents_first : (size : ℕ)
      → Fits size
      → Run (AtSequents n) (sequents_line size ∷ []) (at_sequent_table n size [])
  sequents_first size fits = (
    (inl (numbered_of v left (codes "sequents") size refl fits), (numbered_fits v left (codes "sequents") size fits, tt)),
    ap (λ s. at_sequent_table n s []) (value_back size fits),
  )

  pub sequent_row : (size : ℕ) (rows : List (List ℕ)) (q : List ℕ) → All Fits q → IsAscending q
      → Run (AtTableSequent n size rows) (sequent_line q ∷ []) (at_sequent_table n size (rows ++ q ∷ []))
  sequent_row size rows q fit ascends =
      let back = values_back q fit in (
        (inl (sequent_good v left q fit), (sequent_fits v left q fit, (subst IsAscending (sym back) ascends, tt))),
        ap (λ ns. at_sequent_table n size (rows ++ ns ∷ [])) back,
      )

  pub stacks_first : (qs : List (List ℕ)) (w : Word) → Spells w (value w)
      → Run (AtStacks n qs) (stacks_line w ∷ []) (at_stack_table n qs (value w) [])
  stacks_first qs w spells = (
    (
      inl (words_first (codes "stacks") (w ∷ []) refl (words_first w [] (spelt_is_word w (value w) spells) refl), (refl, (tt, refl))),
      (((λ _. (tt, ((value w, spells), All-nil IsNumber))), tt), tt),
    ),
    refl,
  )

  pub stack_row : (qs : List (List ℕ)) (size : ℕ) (rows : List (List ℕ)) (ns : List ℕ) → Fits n → IsStack n ns
      → Run (AtTableStack n qs size rows) (stack_line ns ∷ []) (at_stack_table n qs size (rows ++ ns ∷ []))
  stack_row qs size rows ns fits is =
      let fit = names_fit v left n ns fits is.below in
      let back = values_back ns fit in (
        (
          inl (stack_good v left ns is.some fit),
          (stack_fits v left ns fit, (subst (λ xs. IsAscending xs × All (λ x. x < n) xs) (sym back) (is.ascends, is.below), tt)),
        ),
        ap (λ xs. at_stack_table n qs size (rows ++ xs ∷ [])) back,
      )
