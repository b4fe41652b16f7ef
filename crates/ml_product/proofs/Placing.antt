-- Positions as they are stored, one more.
--
--   placed_length     == there is a position for each that is stored
--   placed_push       == one that is stored behind the others stands for one position more
--   placed_priorities == their priorities are those that are stored
--   linked_push       == if it has a parent, all links lead to earlier positions
--   end_get           == what was added stands at the end
--   read_linked       == what is read at a place is linked
use Rattle.std.proofs.Common.{ℕ, ◌≡◌, ◌+◌, ◌<◌, ◌≤◌, ◌⊎◌, inl, inr, List, [], ◌∷◌, ◌++◌, length, length-append, append-nil, append_assoc, map, slice_get, get_or, Some, refl, sym, ap, ◌∙◌, subst, arith}
use Rattle.std.proofs.lemmas.List.{get_or_append_left, get_or-append-add, map_push}
use Rattle.std.proofs.lemmas.Option.{slice_get_within, slice_get-get_or}
use Rattle.ml_lists.proofs.Added.{last_or}
use Rattle.ml_sequent.specs.Choice.{side_of, with_side}
use Rattle.ml_product.specs.declared.stored.Link.{Link}
use Rattle.ml_product.specs.declared.stored.Link.TheVariants as link
use Rattle.ml_product.specs.declared.stored.Stored.{Stored}
use Rattle.ml_product.specs.Placed.{Placed, nowhere, choice_at}
use Rattle.ml_product.specs.private.Links.{choice_under, placed, placed_behind, placed_all, HasParent, IsLinked, AreLinked}

-- there is a position for each that is stored
placed_long : (ps : List Placed) (xs : List Stored) → length (placed_behind ps xs) ≡ length ps + length xs
placed_long ps [] = omega arith
placed_long ps (x ∷ xs) =
    let e = placed_long (ps ++ placed ps x ∷ []) xs in omega (arith, length-append ps (placed ps x ∷ []))

pub placed_length : (xs : List Stored) → length (placed_all xs) ≡ length xs
placed_length xs = let e = placed_long [] xs in omega arith

-- one that is stored behind the others stands for one position more
placed_end : (ps : List Placed) (xs : List Stored) (x : Stored)
    → placed_behind ps (xs ++ x ∷ []) ≡ placed_behind ps xs ++ placed (placed_behind ps xs) x ∷ []
placed_end ps [] x = refl
placed_end ps (y ∷ xs) x = placed_end (ps ++ placed ps y ∷ []) xs x

pub placed_push : (xs : List Stored) (x : Stored) → placed_all (xs ++ x ∷ []) ≡ placed_all xs ++ placed (placed_all xs) x ∷ []
placed_push xs x = placed_end [] xs x

-- their priorities are those that are stored
priorities_behind : (ps : List Placed) (xs : List Stored)
    → map (λ (p : Placed). p.priority) (placed_behind ps xs)
    ≡ map (λ (p : Placed). p.priority) ps ++ map (λ (x : Stored). x.priority) xs
priorities_behind ps [] = sym (append-nil (map (λ (p : Placed). p.priority) ps))
priorities_behind ps (x ∷ xs) =
    priorities_behind (ps ++ placed ps x ∷ []) xs
    ∙ ap (λ ks. ks ++ map (λ (y : Stored). y.priority) xs) (map_push (λ (p : Placed). p.priority) ps (placed ps x))
    ∙ append_assoc (map (λ (p : Placed). p.priority) ps) (x.priority ∷ []) (map (λ (y : Stored). y.priority) xs)

pub placed_priorities : (xs : List Stored)
    → map (λ (x : Stored). x.priority) xs ≡ map (λ (p : Placed). p.priority) (placed_all xs)
placed_priorities xs = sym (priorities_behind [] xs)

-- what was added stands at the end
pub end_get : {X : Type 0} (xs : List X) (x d : X) → get_or (xs ++ x ∷ []) (length xs) d ≡ x
end_get xs x d =
    let e : length xs ≡ length xs + 0 = omega arith in
    ap (λ k. get_or (xs ++ x ∷ []) k d) e ∙ get_or-append-add xs (x ∷ []) 0 d

-- links lead where they led, when there is one position more
link_later : (ps : List Placed) (z : Placed) (v : ℕ) (l : Link) → v ≤ length ps → HasParent ps v l
    → (choice_under ps l ≡ choice_under (ps ++ z ∷ []) l) × HasParent (ps ++ z ∷ []) v l
link_later ps z v link.Unchosen low has = (refl, tt)
link_later ps z v (link.Chosen parent node side) low (early, none) =
    let same : choice_at (ps ++ z ∷ []) parent ≡ choice_at ps parent =
    ap (λ (p : Placed). p.choice) (get_or_append_left ps (z ∷ []) nowhere parent (omega arith)) in
    (ap (λ c. with_side c node side) (sym same), (early, ap (λ c. side_of c node) same ∙ none))

module _ (xs : List Stored) (x : Stored) (linked : AreLinked xs)
    (has : HasParent (placed_all xs) (length (placed_all xs)) x.link) where
  abbrev ps : List Placed
  ps = placed_all xs

  abbrev z : Placed
  z = placed (placed_all xs) x

  placed_later : (y : Stored) → choice_under ps y.link ≡ choice_under (ps ++ z ∷ []) y.link
      → placed ps y ≡ placed (ps ++ z ∷ []) y
  placed_later y choices =
      λ i. record { sequent = y.sequent; history = y.history; priority = y.priority; choice = choices i }

  at_place : (v : ℕ) (y : Stored) → (slice_get xs v ≡ Some y) ⊎ ((v ≡ length xs) × (y ≡ x))
      → IsLinked (ps ++ z ∷ []) v y
  at_place v y (inl there) =
      let l = linked v y there in
      let long = placed_length xs in
      let low : v < length ps = omega (arith, slice_get_within xs v y there) in
      let later = link_later ps z v y.link (omega arith) l.parent in
      record {
        is = get_or_append_left ps (z ∷ []) nowhere v low ∙ l.is ∙ placed_later y later.0;
        parent = later.1;
      }
  at_place v y (inr (here, same)) =
      let later = link_later ps z (length ps) x.link (omega arith) has in
      let place : length ps ≡ v = placed_length xs ∙ sym here in
      subst (λ k. IsLinked (ps ++ z ∷ []) k y) place
      (subst (IsLinked (ps ++ z ∷ []) (length ps)) (sym same)
      (record { is = end_get ps z nowhere ∙ placed_later x later.0; parent = later.1 }))

  -- if it has a parent, all links lead to earlier positions
  pub linked_push : AreLinked (xs ++ x ∷ [])
  linked_push v y at =
      subst (λ (qs : List Placed). IsLinked qs v y) (sym (placed_push xs x)) (at_place v y (last_or xs x y v at))

-- what is read at a place is linked
pub read_linked : (xs : List Stored) (v : ℕ) (x : Stored) → AreLinked xs → v < length xs → x ≡ get_or xs v x
    → IsLinked (placed_all xs) v x
read_linked xs v x linked low is = linked v x (slice_get-get_or xs v x low ∙ ap Some (sym is))
