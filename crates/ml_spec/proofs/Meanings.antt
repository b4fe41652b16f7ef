-- What one statement more means, where its formula is made, or is too large.
--
--   large_meant      == a statement with too large a formula is the first one
--   stated_kept, enumeration_kept, definition_kept == what is meant behind a statement whose formula is made
--   large_before, none_before, none_still == where a formula was too large before, and where none was
--   written_large    == a formula that is too large as it stands is so with definitions written out
use Rattle.std.proofs.Common.{◌≡◌, ℕ, ◌<◌, true, false, List, [], ◌∷◌, ◌++◌, Option, Some, None, is_some, bytes_eq, sym, ap, ◌∙◌, arith}
use Rattle.std.proofs.lemmas.List.{append-nil}
use Rattle.indexmap.specs.IndexMap.{insert_entry}
use Rattle.ml_text.specs.Limits.{most_occurrences}
use Rattle.ml_front.specs.Connectives.{occurrences}
use Rattle.ml_front.specs.Definitions.{definitions_in}
use Rattle.ml_front.specs.Enumerations.{enumeration}
use Rattle.ml_front.specs.Replaced.{Definition, replaced}
use Rattle.ml_front.specs.WellFormed.{IsWellFormed}
use Rattle.ml_front.specs.declared.logic.Logic.{Logic}
use Rattle.ml_front.specs.declared.problem.AnyFormula.{AnyFormula}
use Rattle.ml_front.specs.declared.replacing.Definitions.{Definitions}
use Rattle.ml_front.proofs.Connected.{well_small}
use Rattle.ml_spec.specs.Known.{known}
use Rattle.ml_spec.specs.Meaning.{formula_of, item_with}
use Rattle.ml_spec.specs.Statements.{value_names, Statement}
use Rattle.ml_spec.specs.Statements as says
use Rattle.ml_spec.specs.declared.kind.Kind.{Kind}
use Rattle.ml_spec.specs.declared.kind.Kind.TheVariants.{Require}
use Rattle.ml_spec.specs.declared.specification.Item.{Item}
use Rattle.ml_spec.specs.private.Stages.{AreAllMeant, AreMeant, IsFirstLarge}
use Rattle.ml_spec.proofs.Contexts.{meant_behind, meant_large, meant_more, not_large}
use Rattle.ml_spec.proofs.ReplacedFormulas.{replaced_larger}
use Rattle.ml_written.specs.Written.{meaning}
use Rattle.ml_written.specs.declared.written.Written.{Written}

pub written_large : (ds : List Definition) (w : Written)
    → most_occurrences < occurrences (meaning w)
    → most_occurrences < occurrences (replaced ds (meaning w))
written_large ds w large = omega (arith, large, replaced_larger ds (meaning w))

module _ (l : Logic) (ss : List Statement) (xs : List Item) (ds : Definitions) (all : AreAllMeant l ss xs ds) where
  pub large_meant : (s : Statement) (g : AnyFormula)
      → formula_of l (known ss).definitions s.says ≡ Some g
      → most_occurrences < occurrences g
      → IsFirstLarge l (ss ++ s ∷ []) s.at
  large_meant s g means large = meant_large l ss s xs ds all (record { formula = g; means = means; is_large = large })

  module _ (w : Written) where
    abbrev pub written_out : AnyFormula
    written_out = replaced (definitions_in ds) (meaning w)

    known_out : replaced (known ss).definitions (meaning w) ≡ written_out
    known_out = ap (λ es. replaced es (meaning w)) (sym all.are_definitions)

    pub stated_large : (at : ℕ) (k : Kind) (n : List ℕ)
        → most_occurrences < occurrences written_out
        → IsFirstLarge l (ss ++ record { at = at; says = says.Stated k n w } ∷ []) at
    stated_large at k n large =
        large_meant (record { at = at; says = says.Stated k n w }) written_out (ap Some known_out) large

    pub definition_large : (at : ℕ) (p : List ℕ)
        → most_occurrences < occurrences written_out
        → IsFirstLarge l (ss ++ record { at = at; says = says.Definition p w } ∷ []) at
    definition_large at p large =
        large_meant (record { at = at; says = says.Definition p w }) written_out (ap Some known_out) large

    pub stated_kept : (at : ℕ) (k : Kind) (n : List ℕ) (f : AnyFormula) (ys : List Item)
        → f ≡ written_out
        → IsWellFormed f
        → ys ≡ xs ++ record { kind = k; name = n; formula = f } ∷ []
        → AreAllMeant l (ss ++ record { at = at; says = says.Stated k n w } ∷ []) ys ds
    stated_kept at k n f ys is well are =
        let s : Statement = record { at = at; says = says.Stated k n w } in
        let means = known_out ∙ sym is in
        meant_more l ss s xs ys ds ds all (not_large l ss s f (ap Some means) (well_small f well))
        (are ∙ ap (λ g. xs ++ item_with k n (Some g)) (sym means))
        all.are_definitions

    pub definition_kept : (at : ℕ) (p : List ℕ) (f : AnyFormula) (es : Definitions)
        → f ≡ written_out
        → IsWellFormed f
        → definitions_in es ≡ insert_entry bytes_eq (definitions_in ds) p f
        → AreAllMeant l (ss ++ record { at = at; says = says.Definition p w } ∷ []) xs es
    definition_kept at p f es is well are =
        let s : Statement = record { at = at; says = says.Definition p w } in
        let means = known_out ∙ sym is in
        meant_more l ss s xs xs ds es all (not_large l ss s f (ap Some means) (well_small f well))
        (sym (append-nil xs))
        (are
        ∙ ap (λ es. insert_entry bytes_eq es p f) all.are_definitions
        ∙ ap (insert_entry bytes_eq (known ss).definitions p) (sym means))

  pub enumeration_large : (at : ℕ) (m : List ℕ) (vs : List (List ℕ)) (f : AnyFormula)
      → enumeration l (value_names m vs) ≡ Some f
      → most_occurrences < occurrences f
      → IsFirstLarge l (ss ++ record { at = at; says = says.Enumeration m vs } ∷ []) at
  enumeration_large at m vs f means large =
      large_meant (record { at = at; says = says.Enumeration m vs }) f means large

  pub enumeration_kept : (at : ℕ) (m : List ℕ) (vs : List (List ℕ)) (f : AnyFormula) (ys : List Item)
      → enumeration l (value_names m vs) ≡ Some f
      → IsWellFormed f
      → ys ≡ xs ++ record { kind = Require; name = m; formula = f } ∷ []
      → AreAllMeant l (ss ++ record { at = at; says = says.Enumeration m vs } ∷ []) ys ds
  enumeration_kept at m vs f ys means well are =
      let s : Statement = record { at = at; says = says.Enumeration m vs } in
      meant_more l ss s xs ys ds ds all (not_large l ss s f means (well_small f well))
      (are ∙ ap (λ o. xs ++ item_with Require m o) (sym means))
      all.are_definitions

-- ---- where a formula was too large before, and where none was

module _ (l : Logic) (ss : List Statement) (xs : List Item) (ds : Definitions) where
  pub large_before : (o : Option ℕ) (s : Statement)
      → is_some o ≡ true
      → AreMeant l ss xs ds o
      → AreMeant l (ss ++ s ∷ []) xs ds o
  large_before None s large meant = absurd cc
  large_before (Some at) s large meant = meant_behind l ss s at meant

  pub none_before : (o : Option ℕ) → is_some o ≡ false → AreMeant l ss xs ds o → AreAllMeant l ss xs ds
  none_before None none meant = meant
  none_before (Some at) none meant = absurd cc

  pub none_still : (o : Option ℕ) → is_some o ≡ false → AreAllMeant l ss xs ds → AreMeant l ss xs ds o
  none_still None none meant = meant
  none_still (Some at) none meant = absurd cc
