-- The items of a text that are read to the end, and what they mean.
--
--   stopped_told == what tells the first fault of the item behind those that are read tells that of all
--   read_as      == where no formula is too large, the items of the specification are those in the context
--   large_told   == where one is, that is told
use Rattle.std.proofs.Common.{ℕ, List, [], ◌∷◌, inl, inr, refl}
use Rattle.ml_front.specs.declared.logic.Logic.{Logic}
use Rattle.ml_front.specs.declared.replacing.Definitions.{Definitions}
use Rattle.ml_spec.specs.Items.{ItemText}
use Rattle.ml_spec.specs.Statements.{Statement}
use Rattle.ml_spec.specs.declared.fault.Fault.{Fault}
use Rattle.ml_spec.specs.declared.fault.Fault.TheVariants.{Breaks, NoMemory}
use Rattle.ml_spec.specs.declared.rule.SpecRule.TheVariants.{TooLarge}
use Rattle.ml_spec.specs.declared.specification.Item.{Item}
use Rattle.ml_spec.specs.private.Stages.{AreAllMeant, AreReadAs, IsFirstLarge, IsReadTo, TellsAmong, TellsInItem}
use Rattle.ml_spec.proofs.TextFaults.{read_to_end}

module _ (l : Logic) (all : List ItemText) where
  pub stopped_told : (ss : List Statement) (i : ItemText) (rest : List ItemText) (e : Fault)
      → IsReadTo l all (i ∷ rest) ss
      → TellsInItem l ss i e
      → TellsAmong l all e
  stopped_told ss i rest NoMemory read tells = tt
  stopped_told ss i rest (Breaks r at) read tells =
      inl (record { statements = ss; item = i; after = rest; is_read = read; is_first = tells })

  module _ (ss : List Statement) (read : IsReadTo l all [] ss) (items : List Item) (definitions : Definitions) where
    pub read_as : AreAllMeant l ss items definitions → AreReadAs l all items
    read_as meant = record {
      statements = ss;
      are_read = read_to_end l all ss read;
      none_is_large = meant.none_is_large;
      are_meant = meant.are_items;
    }

    pub large_told : (at : ℕ) → IsFirstLarge l ss at → TellsAmong l all (Breaks TooLarge at)
    large_told at first =
        inr (refl, record { statements = ss; are_read = read_to_end l all ss read; is_first = first })
