-- Of each formula an automaton is written, or its word automaton is too large, or has too many places; and one alone.
--
--   named            == the propositions of a formula are names
--   some_written     == where there are no more places than the limit, an automaton is written
--   some_translation, one_outcome == the laws
use Rattle.std.proofs.Common.{ℕ, ◌≡◌, ◌<◌, ◌≤◌, ◌⊎◌, inl, inr, arith, false, List, refl}
use Rattle.std.specs.List.{All}
use Rattle.std.proofs.lemmas.Bool.{cases_lt}
use Rattle.ml_base.specs.Name.{IsName}
use Rattle.ml_lists.proofs.Member.{member-All}
use Rattle.ml_text.specs.Names.{Proposition}
use Rattle.ml_graph.specs.Graph.{size}
use Rattle.ml_nodes.proofs.HeldNames.{listed_named}
use Rattle.ml_ctl.specs.Formula.{Formula}
use Rattle.ml_ctl.specs.FormulaNames.{names}
use Rattle.ml_ctl.specs.Signs.{own}
use Rattle.ml_ctl.specs.WellFormed.{IsWellFormed}
use Rattle.ml_ctl.specs.declared.language.Language.TheVariants.{Ltl}
use Rattle.ml_labelled.specs.Labelled as labelled
use Rattle.ml_labelled.specs.Labelled.{IsLabelled}
use Rattle.ml_labelled.specs.LabelledText.{automaton_text}
use Rattle.ml_labelled.proofs.ReachedParts.{IsReachedPart}
use Rattle.ml_labelled.proofs.SomeParts.{some_part}
use Rattle.ml_word_automaton.specs.Letters as word
use Rattle.ml_word_automaton.specs.Letters.{IsAutomatonOf}
use Rattle.ml_word_automaton.proofs.BlockGraphs.{one_size}
use Rattle.ml_translate.specs.Laws.{OneOutcome, SomeTranslation}
use Rattle.ml_translate.specs.Output.{IsWrittenFor}
use Rattle.ml_translate.specs.Places.{HasMorePlaces}
use Rattle.ml_translate.specs.Translation.{HasTooManyPlaces, IsLarge, IsWordAutomaton, most_nodes, props_of}
use Rattle.ml_translate.specs.private.Finding.{IsMadeOf}
use Rattle.ml_translate.proofs.KnownLiterals.{known_literals}
use Rattle.ml_translate.proofs.PropositionNumbers.{props_few, props_once}
use Rattle.ml_translate.proofs.SamePlaces.{same_places}
use Rattle.ml_translate.proofs.SomeEdges.{some_made}
use Rattle.ml_translate.proofs.SomePlaces.{Few, some_places}
use Rattle.ml_word_automaton.proofs.Listed.{few_states, some_automaton}
use Rattle.ml_translate.proofs.Translated.{made_labelled, made_translated}

named : (f : Formula) → IsWellFormed Ltl f → All IsName (props_of f)
named f well =
    member-All IsName (props_of f) (listed_named own Proposition (names f) well.names_are_spelled well.names_are_short)

-- ---- some outcome

module _ (f : Formula) (limit : ℕ) (well : IsWellFormed Ltl f) (a : word.Automaton) (is : IsWordAutomaton f a) where
  abbrev props : List (List ℕ)
  props = props_of f

  some_written : Few a props limit → (text : List ℕ) × IsWrittenFor f limit text
  some_written few = (
    automaton_text part.0,
    record {
      automaton = part.0;
      is_translated =
          made_translated f a props made.0 part.0 limit well.is_of_logic is refl made.1
          (known_literals f false a.graph well.is_of_logic (is.is_of).is_graph)
          part.1.labelled part.1.same part.1.props part.1.reached part.1.few;
      is_written = refl;
    },
  )
    where
      made : (b : labelled.Automaton) × IsMadeOf a props limit b
      made =
          some_made a props limit few.places ((is.is_of).is_graph).is_graph (is.is_of).states few.are_places few.few

      is_labelled : IsLabelled made.0
      is_labelled =
          let states = few_states a ((is.is_of).is_graph).is_graph (is.is_of).states in
          let fits = is.fits in
          let most : most_nodes ≡ 65536 = refl in
          made_labelled a props made.0 limit (is.is_of).states made.1 (omega (arith, states, fits, most)) (props_few f well.is_small)
          (named f well)

      part : (b : labelled.Automaton) × IsReachedPart made.0 b
      part = some_part made.0 is_labelled

  by_places : Few a props limit ⊎ HasMorePlaces a props limit
      → ((text : List ℕ) × IsWrittenFor f limit text) ⊎ (IsLarge f ⊎ HasTooManyPlaces f limit)
  by_places (inl few) = inl (some_written few)
  by_places (inr many) = inr (inr (record { automaton = a; is_automaton = is; many_places = many }))

  some_outcome : ((text : List ℕ) × IsWrittenFor f limit text) ⊎ (IsLarge f ⊎ HasTooManyPlaces f limit)
  some_outcome =
      by_places (some_places a props limit (props_once f) (known_literals f false a.graph well.is_of_logic (is.is_of).is_graph))

pub some_translation : SomeTranslation
some_translation f limit well = by (cases_lt most_nodes (size a.0.graph))
  where
    a : (b : word.Automaton) × IsAutomatonOf b f false
    a = some_automaton f false

    by : (most_nodes < size a.0.graph) ⊎ (size a.0.graph ≤ most_nodes)
        → ((text : List ℕ) × IsWrittenFor f limit text) ⊎ (IsLarge f ⊎ HasTooManyPlaces f limit)
    by (inl large) = inr (inl ((one_size f false a.0.graph most_nodes a.1.is_graph).1 large))
    by (inr fits) = some_outcome f limit well a.0 (record { is_of = a.1; fits = fits })

-- ---- one outcome

fits_once : (f : Formula) (a : word.Automaton) → IsWordAutomaton f a → ¬ (IsLarge f)
fits_once f a is large =
    let more = (one_size f false a.graph most_nodes (is.is_of).is_graph).0 large in
    let fits = is.fits in
    omega (arith, more, fits)

pub one_outcome : OneOutcome
one_outcome f limit = record {
  written_fits = λ text w. fits_once f ((w.is_translated).automaton) (w.is_translated).is_automaton;
  many_fits = λ many. fits_once f many.automaton many.is_automaton;
  written_few = λ text w many.
      let t = w.is_translated in
      let same = same_places f false many.automaton t.automaton (many.is_automaton).is_of (t.is_automaton).is_of in
      let more = many.many_places in
      t.few_places (record {
        places = more.places;
        once = more.once;
        are_places = λ s m. (same.places (props_of f) s).0 (more.are_places s m);
        is_longer = more.is_longer;
      });
}
