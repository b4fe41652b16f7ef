-- Places that are reached, all of them in one finite list.
--
--   Below cs p       == p is reached from one of the places cs
--   reached_by_child == what is reached is where it began, or below the children there
--   HasAll ps p      == all that is reached from p stands in the list ps
--   Finite p         == some list has all that is reached from p
--   together         == where each of finitely many places is so, one list has it all
--   above            == a place is so where its children are
use Rattle.std.proofs.Common.{◌≡◌, ◌⊎◌, inl, inr, List, [], ◌∷◌, ◌++◌, refl, subst}
use Rattle.ml_lists.specs.Member.{IsMember}
use Rattle.ml_lists.proofs.Member.{member-append_left, member-append_right}
use Rattle.ml_blocks.specs.BlockClosures.{at_root, behind, children}
use Rattle.ml_blocks.specs.BlockClosures.{IsReached}
use Rattle.ml_blocks.specs.Places.{Place, form_of}

pub record Below (cs : List Place) (p : Place) : Type 0 where
  pub child : Place
  pub member : IsMember child cs
  pub reached : IsReached child p

pub reached_by_child : (r p : Place) → IsReached r p → (p ≡ r) ⊎ Below (children (form_of r)) p
reached_by_child r _ at_root = inl refl
reached_by_child r _ (behind q p before m) = inr (further (reached_by_child r q before))
  where
    further : (q ≡ r) ⊎ Below (children (form_of r)) q → Below (children (form_of r)) p
    further (inl e) = record {
      child = p;
      member = subst (λ v. IsMember p (children (form_of v))) e m;
      reached = at_root;
    }
    further (inr b) = record { child = b.child; member = b.member; reached = behind q p b.reached m }

abbrev pub HasAll : List Place → Place → Type 0
HasAll ps r = (p : Place) → IsReached r p → IsMember p ps

pub record Finite (r : Place) : Type 0 where
  pub places : List Place
  pub has_all : HasAll places r

pub record Together {X : Type 0} (at : X → Place) (xs : List X) : Type 0 where
  pub places : List Place
  pub has_all : (x : X) → IsMember x xs → HasAll places (at x)

pub together : {X : Type 0} (at : X → Place) (xs : List X)
    → ((x : X) → IsMember x xs → Finite (at x))
    → Together at xs
together at [] each = record { places = []; has_all = λ x none. absurd none }
together {X = X} at (x ∷ xs) each = both (each x (inl refl)) (together at xs (λ y m. each y (inr m)))
  where
    both : Finite (at x) → Together at xs → Together at (x ∷ xs)
    both here rest = record { places = here.places ++ rest.places; has_all = has_all }
      where
        has_all : (y : X) → IsMember y (x ∷ xs) → HasAll (here.places ++ rest.places) (at y)
        has_all y (inl e) p r =
            member-append_left p here.places rest.places (here.has_all p (subst (λ z. IsReached (at z) p) e r))
        has_all y (inr m) p r = member-append_right p here.places rest.places (rest.has_all y m p r)

pub above : (r : Place) → ((c : Place) → IsMember c (children (form_of r)) → Finite c) → Finite r
above r each = record { places = r ∷ all.places; has_all = λ p reached. listed p (reached_by_child r p reached) }
  where
    all : Together (λ c. c) (children (form_of r))
    all = together (λ c. c) (children (form_of r)) each

    listed : (p : Place) → (p ≡ r) ⊎ Below (children (form_of r)) p → IsMember p (r ∷ all.places)
    listed p (inl e) = inl e
    listed p (inr b) = inr (all.has_all b.child b.member p b.reached)
