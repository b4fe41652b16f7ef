-- A node by numbers that is met stands for a node of the closure, and no other one does.
--
--   place_once  == a node has one form by numbers
--   viewed      == what is met by numbers stands for a node of its form and priority
use Rattle.std.proofs.Common.{◌≡◌, ◌+◌, ◌-◌, inl, inr, arith, List, [], ◌∷◌, map, refl, sym, ap, ◌∙◌, subst}
use Rattle.ml_lists.specs.Member.{IsMember}
use Rattle.ml_nodes.specs.NumberedValues.{IsMet, at_root, behind, children_of}
use Rattle.ml_nodes.specs.declared.numbering.Form.TheVariants as form
use Rattle.ml_nodes.proofs.NumberedClosures.{HasName, IsViewed}
use Rattle.ml_blocks.specs.Places as places
use Rattle.ml_blocks.specs.Places.{Place, forms}
use Rattle.ml_blocks.specs.Items.{Item}
use Rattle.ml_blocks.specs.private.Forms.{Form, form_in, priority_in}
use Rattle.ml_blocks.specs.private.Views.{Kept, Fits, FormFits, items_of, place_of}
use Rattle.ml_blocks.specs.declared.items.Asked.{Asked}
use Rattle.ml_blocks.specs.declared.spots.Fixed.TheVariants as fixed
use Rattle.ml_blocks.specs.declared.spots.Part.TheVariants as part
use Rattle.ml_blocks.specs.declared.spots.Spot.{Spot}
use Rattle.ml_blocks.specs.declared.spots.Spot.TheVariants as spot
use Rattle.ml_blocks.proofs.NumberedForms.{form_is, form_fits, priority_is}

asked_of : Item → Asked
asked_of x = record { number = x.number; positive = x.positive; later = x.later }

abbrev spot_of : Place → Spot
spot_of (places.Root start) = spot.Fixed fixed.Root
spot_of places.Total = spot.Fixed fixed.Total
spot_of places.HasEdge = spot.Fixed fixed.HasEdge
spot_of places.LeadsOn = spot.Fixed fixed.LeadsOn
spot_of places.True = spot.Fixed fixed.True
spot_of places.False = spot.Fixed fixed.False
spot_of (places.Holding n f b) = spot.State part.Whole n b
spot_of (places.Both n f g b) = spot.State part.Both (n - 1) b
spot_of (places.Neither n f g b) = spot.State part.Neither (n - 2) b
spot_of (places.Path b) =
    spot.Path (record {
      first = record { number = (b.first).number; positive = (b.first).positive; later = (b.first).later };
      positive = b.positive;
      items = map (λ (x : Item). record { number = x.number; positive = x.positive; later = x.later }) b.items;
      focus = b.focus;
    })

module _ (K : Kept) (start : Place) where
  abbrev place : Spot → Place
  place = place_of K.formulas start

  abbrev asked_again : Item → Asked
  asked_again x = record { number = x.number; positive = x.positive; later = x.later }

  items_back : (xs : List Asked) → map asked_again (items_of K.formulas xs) ≡ xs
  items_back [] = refl
  items_back (x ∷ xs) = ap (λ ys. x ∷ ys) (items_back xs)

  spot_back : (s : Spot) → spot_of (place s) ≡ s
  spot_back (spot.Fixed fixed.Root) = refl
  spot_back (spot.Fixed fixed.Total) = refl
  spot_back (spot.Fixed fixed.HasEdge) = refl
  spot_back (spot.Fixed fixed.LeadsOn) = refl
  spot_back (spot.Fixed fixed.True) = refl
  spot_back (spot.Fixed fixed.False) = refl
  spot_back (spot.State part.Whole n b) = refl
  spot_back (spot.State part.Both n b) =
      let same : (n + 1) - 1 ≡ n = omega arith in ap (λ k. spot.State part.Both k b) same
  spot_back (spot.State part.Neither n b) =
      let same : (n + 2) - 2 ≡ n = omega arith in ap (λ k. spot.State part.Neither k b) same
  spot_back (spot.Path b) =
      ap (λ xs. spot.Path (record { first = b.first; positive = b.positive; items = xs; focus = b.focus }))
      (items_back b.items)

  pub place_once : (s t : Spot) → place s ≡ place t → s ≡ t
  place_once s t e = sym (spot_back s) ∙ ap spot_of e ∙ spot_back t

  child_fits : (f : Form) (t : Spot) → FormFits K f → IsMember t (children_of f) → Fits K t
  child_fits (form.Constant b) t fits none = absurd none
  child_fits (form.Literal p b) t fits none = absurd none
  child_fits (form.Two b l r) t fits (inl e) = subst (Fits K) (sym e) fits.0
  child_fits (form.Two b l r) t fits (inr (inl e)) = subst (Fits K) (sym e) fits.1
  child_fits (form.Two b l r) t fits (inr (inr none)) = absurd none
  child_fits (form.Twice b s) t fits (inl e) = subst (Fits K) (sym e) fits
  child_fits (form.Twice b s) t fits (inr none) = absurd none
  child_fits (form.Edge b s) t fits (inl e) = subst (Fits K) (sym e) fits
  child_fits (form.Edge b s) t fits (inr none) = absurd none

  named : (f : Form) → FormFits K f → HasName K.names f
  named (form.Constant b) fits = tt
  named (form.Literal p b) fits = fits
  named (form.Two b l r) fits = tt
  named (form.Twice b s) fits = tt
  named (form.Edge b s) fits = tt

  module _ (first root : Spot) (is_start : place first ≡ start) (first_fits : Fits K first) (root_fits : Fits K root) where
    abbrev form_at : Spot → Form
    form_at = form_in K.occurrences K.eventualities first

    met_fits : (s : Spot) → IsMet form_at root s → Fits K s
    met_fits _ at_root = root_fits
    met_fits s (behind r _ met m) = child_fits (form_at r) s (form_fits K first first_fits r (met_fits r met)) m

    pub viewed : IsViewed forms K.names form_at (priority_in K.occurrences K.eventualities) root place
    viewed = record {
      once = λ s t met met_t. place_once s t;
      is_form = λ s met. form_is K start first is_start s (met_fits s met);
      is_priority = λ s met. priority_is K start s (met_fits s met);
      is_named = λ s met. named (form_at s) (form_fits K first first_fits s (met_fits s met));
    }
