-- What is made of a formula is the graph of its problem.
--
--   kept_whole    == all that is kept of a formula stands
--   starts        == the problem starts with the node that is meant
--   root_is       == the graph begins with the node that is meant
--   graph_listed  == a draft of all nodes is the graph
--   closure_large == a draft that overflows tells of a large closure
use Rattle.std.proofs.Common.{ℕ, ◌≡◌, Bool, List, [], ◌∷◌, ◌++◌, Option, None, Some, codes, bytes_eq, refl, sym, ap, ◌∙◌, subst, append-nil}
use Rattle.std.specs.List.{IsDistinct}
use Rattle.ml_text.specs.Names.{Proposition, of_kind}
use Rattle.ml_text.proofs.NameLists.{distinct_names}
use Rattle.ml_text.proofs.Names.{kind_among}
use Rattle.ml_ctl.specs.FormulaNames as formula
use Rattle.ml_ctl.specs.Formula.{Formula}
use Rattle.ml_graph.specs.declared.node.Node.{Node}
use Rattle.ml_nodes.proofs.InRange.{none_twice}
use Rattle.ml_nodes.specs.ClosureGraph.{IsGraphFrom}
use Rattle.ml_nodes.specs.NumberedValues.{IsClosed, IsTooLarge}
use Rattle.ml_nodes.proofs.NumberedClosures.{IsViewed, closed_draft, too_large}
use Rattle.ml_blocks.specs.Closures.{HasMoreThan}
use Rattle.ml_blocks.specs.Items.{now}
use Rattle.ml_blocks.specs.Places as places
use Rattle.ml_blocks.specs.Places.{Place, forms}
use Rattle.ml_blocks.specs.private.Forms.{begin_in, form_in, priority_in, start_in}
use Rattle.ml_nodes.specs.PathNames.{props_onto}
use Rattle.ml_blocks.specs.private.Occurrences.{spread, formula_here, occurrence_here, eventualities_here}
use Rattle.ml_blocks.specs.private.Views.{Kept, Stands, Fits, begin_place, place_of, start_place}
use Rattle.ml_blocks.specs.declared.table.Occurrence.{Occurrence}
use Rattle.ml_blocks.specs.declared.spots.Beginning.{Beginning}
use Rattle.ml_blocks.specs.declared.spots.Beginning.TheVariants as beginning
use Rattle.ml_blocks.specs.declared.spots.Spot.{Spot}
use Rattle.ml_blocks.proofs.KeptFormulas.{formula_is, kept_at}
use Rattle.ml_blocks.proofs.NumberedForms.{begun_fits}
use Rattle.ml_blocks.proofs.SpreadLists.{stands_in}
use Rattle.ml_blocks.proofs.ViewedSpots.{viewed}

pub names_differ : (names : List (List ℕ)) (f : Formula) → names ≡ props_onto f [] → IsDistinct bytes_eq names
names_differ names f is =
    subst (IsDistinct bytes_eq) (sym is) (distinct_names [] (of_kind Proposition (formula.names f)) none_twice)

whole_list : {X : Type 0} (here : ℕ → Formula → Option Bool → X) (f : Formula) (o : Option Bool)
    → spread here 0 f o ≡ [] ++ (spread here 0 f o ++ [])
whole_list here f o = sym (append-nil (spread here 0 f o))

module _ (f : Formula) (first : Option Bool) (sign : Bool) (from : Beginning) (max : ℕ) (names : List (List ℕ))
    (os : List Occurrence) (lists : List (List ℕ))
    (names_are : names ≡ props_onto f [])
    (os_are : os ≡ spread (occurrence_here names) 0 f first)
    (lists_are : lists ≡ spread eventualities_here 0 f first) where
  abbrev K : Kept
  K = record {
    names = names;
    formulas = spread formula_here 0 f first;
    occurrences = os;
    eventualities = lists;
  }

  kept_whole : Stands K 0 f first
  kept_whole = record {
    formulas =
        stands_in formula_here (spread formula_here 0 f first) 0 f first [] [] (whole_list formula_here f first) refl;
    occurrences =
        stands_in (occurrence_here names) os 0 f first [] [] (os_are ∙ whole_list (occurrence_here names) f first) refl;
    eventualities =
        stands_in eventualities_here lists 0 f first [] [] (lists_are ∙ whole_list eventualities_here f first) refl;
    among = kind_among Proposition (formula.names f) names_are;
  }

  abbrev start : Place
  start = start_place first f sign

  abbrev begin : Spot
  begin = start_in first sign

  starts_by : (o : Option Bool)
      → Stands K 0 f o
      → (p : Place)
      → place_of K.formulas p (start_in o sign) ≡ start_place o f sign
  starts_by None s p = ap (λ h. places.Holding 0 h sign) (formula_is K 0 f None s)
  starts_by (Some c) s p = ap (λ h. places.block_of (now 0 h c) sign) (formula_is K 0 f (Some c) s)

  starts : place_of K.formulas start begin ≡ start
  starts = starts_by first kept_whole start

  fits_by : (o : Option Bool) → Stands K 0 f o → Fits K (start_in o sign)
  fits_by None s = kept_at K 0 f None s
  fits_by (Some c) s = begun_fits K 0 f c sign s

  begin_fits : Fits K begin
  begin_fits = fits_by first kept_whole

  abbrev root : Spot
  root = begin_in from first sign

  root_by : (b : Beginning) → place_of K.formulas start (begin_in b first sign) ≡ begin_place b start
  root_by beginning.Root = refl
  root_by beginning.Start = starts

  root_is : place_of K.formulas start root ≡ begin_place from start
  root_is = root_by from

  root_fits_by : (b : Beginning) → Fits K (begin_in b first sign)
  root_fits_by beginning.Root = tt
  root_fits_by beginning.Start = begin_fits

  root_fits : Fits K root
  root_fits = root_fits_by from

  viewed_spots : IsViewed forms names (form_in os lists begin) (priority_in os lists) root (place_of K.formulas start)
  viewed_spots = viewed K start begin root starts begin_fits root_fits

  pub closure_large : IsTooLarge (form_in os lists begin) root max → HasMoreThan (begin_place from start) max
  closure_large large =
      subst (λ p. HasMoreThan p max) root_is
      (too_large forms names (form_in os lists begin) (priority_in os lists) root (place_of K.formulas start) viewed_spots max large)

  -- the graph of a draft, as the lists that a program holds
  pub graph_listed : (vs : List Node) (ps : List ℕ)
      → IsClosed (form_in os lists begin) (priority_in os lists) root max vs ps
      → (nodes : List Node) (priorities : List ℕ) (props actions : List (List ℕ))
      → nodes ≡ vs
      → priorities ≡ ps
      → props ≡ names
      → actions ≡ codes "_" ∷ []
      → IsGraphFrom forms (record { nodes = nodes; priorities = priorities; root = 0; props = props; actions = actions })
      (begin_place from start)
  graph_listed vs ps D nodes priorities props actions same ranks named blank =
      let is =
      closed_draft forms names (form_in os lists begin) (priority_in os lists) root (place_of K.formulas start) viewed_spots max
      D.values vs ps D.draft D.whole (names_differ names f names_are) in
      subst (λ p. IsGraphFrom forms (record { nodes = nodes; priorities = priorities; root = 0; props = props; actions = actions }) p)
      root_is
      (subst (λ g. IsGraphFrom forms g (place_of K.formulas start root))
      (sym (λ i. record { nodes = same i; priorities = ranks i; root = 0; props = named i; actions = blank i })) is)
