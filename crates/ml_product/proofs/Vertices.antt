-- Vertices of targets, while positions come.
--
--   longer_get, longer_place == what stands in a list stands there in a longer one
--   vertices_later   == the vertices of targets stay so
--   recorded_later   == what was recorded of a position stays true
--   steps_more, vertices_more == one step more, and one vertex more
--   steps_pushed     == the step along the next diamond more
--   target_stands    == a position to which a move leads stands among the positions
--   at_the_end       == where there are no new positions, these are the vertices of the game
use Rattle.std.proofs.Common.{ℕ, ◌≡◌, ◌<◌, inl, inr, List, [], ◌∷◌, ◌++◌, length, length-append, slice_get, get_or, Some, refl, sym, ap, ◌∙◌, subst, append_assoc, append-nil, arith, map, take, ◌+◌}
use Rattle.std.proofs.lemmas.List.{get_or_append_left, map_push, take_more}
use Rattle.std.proofs.lemmas.Option.{slice_get_within, slice_get-get_or, get_or_from_slice_get}
use Rattle.ml_lists.specs.Member.{IsMember}
use Rattle.ml_graph.specs.Graph.{Graph}
use Rattle.ml_sequent.specs.Spread.{SpreadList}
use Rattle.ml_product.specs.Position.{Position, Follows}
use Rattle.ml_product.specs.DecisionGame.{Target, To, Lost, Won, AreSteps}
use Rattle.ml_product.specs.Arena.{IsVertexOf, AreVertices}
use Rattle.ml_product.specs.declared.recorded.Recorded.{Recorded}
use Rattle.ml_product.specs.declared.pool.Fresh.{Fresh}
use Rattle.ml_product.specs.private.Pools.{position_of, IsLonger}
use Rattle.ml_product.specs.private.Recorded.{moves_of, IsVertexAt, AreVerticesAt, IsRecorded}
use Rattle.ml_product.specs.private.Exploring.{at_place, target_of}
use Rattle.ml_lists.proofs.Member.{member_of_get}

-- what stands in a list stands there in a longer one
pub longer_get : {X : Type 0} (ps qs : List X) → IsLonger ps qs → (v : ℕ) (p : X) → slice_get ps v ≡ Some p
    → slice_get qs v ≡ Some p
longer_get ps qs l v p at =
    let low = slice_get_within ps v p at in
    subst (λ xs. slice_get xs v ≡ Some p) (sym l.is)
    (slice_get-get_or (ps ++ l.more) v p (longer v low) ∙ ap Some (get_or_append_left ps l.more p v low
    ∙ get_or_from_slice_get ps v p p at))
  where
    longer : (v : ℕ) → v < length ps → v < length (ps ++ l.more)
    longer v low = omega (arith, length-append ps l.more)

pub longer_place : (g : Graph) (ps qs : List Position) → IsLonger ps qs → (v : ℕ) → v < length ps
    → at_place g qs v ≡ at_place g ps v
longer_place g ps qs l v low =
    ap (λ xs. at_place g xs v) l.is ∙ get_or_append_left ps l.more _ v low

pub longer_self : {X : Type 0} (ps : List X) → IsLonger ps ps
longer_self ps = record { more = []; is = sym (append-nil ps) }

pub longer_both : {X : Type 0} (ps qs rs : List X) → IsLonger ps qs → IsLonger qs rs → IsLonger ps rs
longer_both ps qs rs a b =
    record { more = a.more ++ b.more; is = b.is ∙ ap (λ xs. xs ++ b.more) a.is ∙ append_assoc ps a.more b.more }

-- the vertices of targets stay so
vertex_later : (n : ℕ) (ps qs : List Position)
    → IsLonger ps qs
    → (t : Target) (v : ℕ)
    → IsVertexAt n ps t v
    → IsVertexAt n qs t v
vertex_later n ps qs l (To p) v is = longer_get ps qs l v p is
vertex_later n ps qs l Lost v is = is
vertex_later n ps qs l Won v is = is

pub vertices_later : (n : ℕ) (ps qs : List Position) → IsLonger ps qs → (ts : List Target) (vs : List ℕ)
    → AreVerticesAt n ps ts vs
    → AreVerticesAt n qs ts vs
vertices_later n ps qs l [] vs are = are
vertices_later n ps qs l (t ∷ ts) vs (v, others, here, rest, is) =
    (v, others, vertex_later n ps qs l t v here, vertices_later n ps qs l ts others rest, is)

-- what was recorded of a position stays true
pub recorded_later : (g : Graph) (ps qs : List Position) → IsLonger ps qs → (p : Position) (r : Recorded)
    → IsRecorded g ps p r
    → IsRecorded g qs p r
recorded_later g ps qs l p r is = record {
  turn = is.turn;
  owner_is = is.owner_is;
  moves_are = λ n. vertices_later n ps qs l is.turn.targets (moves_of n r) (is.moves_are n);
}

-- one step more
pub steps_more : (g : Graph) (p : Position) (sp : SpreadList) (ds : List ℕ) (ts : List Target) (d : ℕ) (q : Position)
    → AreSteps g p sp ds ts
    → Follows g p sp d q
    → AreSteps g p sp (ds ++ d ∷ []) (ts ++ To q ∷ [])
steps_more g p sp [] ts d q are f = (q, [], f, refl, ap (λ us. us ++ To q ∷ []) are)
steps_more g p sp (e ∷ ds) ts d q (r, others, follows, rest, is) f =
    (r, others ++ To q ∷ [], follows, steps_more g p sp ds others d q rest f, ap (λ us. us ++ To q ∷ []) is)

-- the step along the next diamond more
pub steps_pushed : (g : Graph) (p : Position) (sp : SpreadList) (ds : List ℕ) (i : ℕ) (xs ys : List Fresh) (x : Fresh)
    → i < length ds
    → ys ≡ xs ++ x ∷ []
    → AreSteps g p sp (take i ds) (map target_of xs)
    → Follows g p sp (get_or ds i 0) (position_of x)
    → AreSteps g p sp (take (i + 1) ds) (map target_of ys)
steps_pushed g p sp ds i xs ys x low is are f =
    subst (λ es. AreSteps g p sp es (map target_of ys)) (sym (take_more ds i 0 low))
    (subst (λ ts. AreSteps g p sp (take i ds ++ get_or ds i 0 ∷ []) ts)
    (sym (ap (map target_of) is ∙ map_push target_of xs x))
    (steps_more g p sp (take i ds) (map target_of xs) (get_or ds i 0) (position_of x) are f))

-- one vertex more
pub vertices_more : (n : ℕ) (ps : List Position) (ts : List Target) (vs : List ℕ) (t : Target) (v : ℕ)
    → AreVerticesAt n ps ts vs
    → IsVertexAt n ps t v
    → AreVerticesAt n ps (ts ++ t ∷ []) (vs ++ v ∷ [])
vertices_more n ps [] vs t v are is = (v, [], is, refl, ap (λ us. us ++ v ∷ []) are)
vertices_more n ps (u ∷ ts) vs t v (w, others, here, rest, are) is =
    (w, others ++ v ∷ [], here, vertices_more n ps ts others t v rest is, ap (λ us. us ++ v ∷ []) are)

-- a position to which a move leads stands among the positions
pub target_stands : (n : ℕ) (ps : List Position) (ts : List Target) (vs : List ℕ) (q : Position)
    → AreVerticesAt n ps ts vs
    → IsMember (To q) ts
    → IsMember q ps
target_stands n ps [] vs q are none = absurd none
target_stands n ps (t ∷ ts) vs q (v, others, here, rest, is) (inl same) =
    member_of_get ps v q (subst (λ u. IsVertexAt n ps u v) (sym same) here)
target_stands n ps (t ∷ ts) vs q (v, others, here, rest, is) (inr m) = target_stands n ps ts others q rest m

-- where there are no new positions, these are the vertices of the game
pub at_the_end : (ps : List Position) (ts : List Target) (vs : List ℕ)
    → AreVerticesAt (length ps) ps ts vs
    → AreVertices ps ts vs
at_the_end ps [] vs are = are
at_the_end ps (t ∷ ts) vs (v, others, here, rest, is) = (v, others, of_kind t here, at_the_end ps ts others rest, is)
  where
    of_kind : (u : Target) → IsVertexAt (length ps) ps u v → IsVertexOf ps u v
    of_kind (To p) at = at
    of_kind Lost at = at
    of_kind Won at = at
