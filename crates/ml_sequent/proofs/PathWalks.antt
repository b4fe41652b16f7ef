-- Walks depth first along a path: what their invariant says, and its small steps.
--
--   reaches_self, reaches_child, reaches_joined == nowhere, to a child, and one behind the other
--   same_reaches     == between equal nodes
--   framed_below     == each frame begins on the path, and its targets among those that wait
--   same_place       == a node on the path has one place
--   at_end           == an entry of a list with one more
--   coming_reach     == each node on the path leads to the target that is looked at
--   relead           == what is looked at changes where its children are still led to
--   Taken, taken     == the last target that waits is looked at
--   skipped          == one that is done need not be
--   walk_begins      == nothing is on the path yet
--   also_looked_at   == a node is looked at though nothing leads to it
use Rattle.std.proofs.Common.{ℕ, ◌≡◌, ◌+◌, ◌<◌, ◌≤◌, ◌⊎◌, inl, inr, ⊎_elim, min, List, [], ◌∷◌, ◌++◌, length, get_or, refl, sym, ap, ◌∙◌, subst, arith, length-append}
use Rattle.std.proofs.lemmas.Bool.{cases_lt}
use Rattle.std.proofs.lemmas.List.{get_or_append_left, get_or-append-add}
use Rattle.ml_lists.specs.Member.{IsMember}
use Rattle.ml_graph.specs.Graph.{Graph, size, priority_at}
use Rattle.ml_sequent.specs.declared.choice.Side.{Side}
use Rattle.ml_sequent.specs.declared.parts.Frame.{Frame}
use Rattle.ml_sequent.specs.declared.parts.Stage.TheVariants.{New, On, Done}
use Rattle.ml_sequent.specs.LocalWalk.{stays, goes}
use Rattle.ml_sequent.specs.private.ConnectedParts.{IsChild, Reaches, WalkList, stage_of, IsFramed, Led, is_done, is_on, waits, looked_at, Owner, IsUnder, Coming}
use Rattle.ml_sequent.proofs.LocalWalks.{walk_joined}

pub same_place : (p q : ℕ) → On p ≡ On q → p ≡ q
same_place p q e = cc

-- an entry of a list with one more
pub at_end : (xs : List ℕ) (y p : ℕ) → p < length xs + 1
    → ((p < length xs) × (get_or (xs ++ y ∷ []) p 0 ≡ get_or xs p 0))
    ⊎ ((p ≡ length xs) × (get_or (xs ++ y ∷ []) p 0 ≡ y))
at_end xs y p low = ⊎_elim
    (λ (less : p < length xs). inl (less, get_or_append_left xs (y ∷ []) 0 p less))
    (λ (more : length xs ≤ p).
    let here : p ≡ length xs + 0 = omega arith in
    inr (
      (let last : p ≡ length xs = omega arith in last),
      ap (λ k. get_or (xs ++ y ∷ []) k 0) here
          ∙ get_or-append-add xs (y ∷ []) 0 0,
    ))
    (cases_lt p (length xs))

-- each frame begins on the path, and its targets among those that wait
pub framed_below : (n k : ℕ) (frames : List Frame) → IsFramed n k frames → (f : Frame) → IsMember f frames
    → (f.first < n) × (f.waits ≤ k)
framed_below n k [] is f m = absurd m
framed_below n k (e ∷ fs) is f (inl same) =
    subst (λ (h : Frame). (h.first < n) × (h.waits ≤ k)) (sym same) (is.0, is.1)
framed_below n k (e ∷ fs) is f (inr later) =
    let below = framed_below e.first e.waits fs is.2 f later in
    (omega (arith, below.0, is.0), omega (arith, below.1, is.1))

module _ (g : Graph) (c : List (ℕ × Side)) (d : ℕ) where
  pub reaches_self : (n : ℕ) → d ≤ priority_at g n → Reaches g c d n n
  reaches_self n high = record { lowest = priority_at g n; walk = stays n; high = high }

  pub reaches_child : (n m : ℕ) → d ≤ priority_at g n → IsChild g c d n m → Reaches g c d n m
  reaches_child n m high child =
      record {
        lowest = min (priority_at g n) (priority_at g m);
        walk = goes n m child.0 (stays m);
        high = omega (arith, child.1);
      }

  pub reaches_joined : (n m k : ℕ) → Reaches g c d n m → Reaches g c d m k → Reaches g c d n k
  reaches_joined n m k r s =
      record {
        lowest = min r.lowest s.lowest;
        walk = walk_joined g c n r.lowest m s.lowest k r.walk s.walk;
        high = omega (arith, r.high, s.high);
      }

  pub same_reaches : (n m k j : ℕ) → n ≡ k → m ≡ j → Reaches g c d k j → Reaches g c d n m
  same_reaches n m k j e f r = subst (λ x. Reaches g c d x m) (sym e) (subst (λ x. Reaches g c d k x) (sym f) r)

  module _ (N : List ℕ) where
    -- each node on the path leads to the target that is looked at
    pub coming_reach : (extra : List ℕ) (x : WalkList) (m : ℕ)
        → IsUnder g c d N extra x
        → Coming g c d x m
        → (p : ℕ)
        → p < length x.path
        → Reaches g c d (get_or x.path p 0) m
    coming_reach extra x m is to p low =
        let high = (is.inside to.place to.low).1 in
        let step = reaches_child (get_or x.path to.place 0) m high to.child in
        ⊎_elim
        (λ (before : p < to.place). reaches_joined (get_or x.path p 0) (get_or x.path to.place 0) m
        (is.forth p to.place (omega arith) to.low) step)
        (λ (behind : to.place ≤ p). reaches_joined (get_or x.path p 0) (get_or x.path to.place 0) m
        (is.back to.place p behind low (λ f f_in. inl (to.last f f_in))) step)
        (cases_lt p to.place)

    -- what is looked at changes where its children are still led to
    pub relead : (extra extra2 : List ℕ) (x : WalkList)
        → IsUnder g c d N extra x
        → ((f : Frame) → IsMember f x.frames → (m : ℕ) → Led x extra f m → Led x extra2 f m)
        → IsUnder g c d N extra2 x
    relead extra extra2 x is still = record {
      sized = is.sized;
      inside = is.inside;
      placed = is.placed;
      forth = is.forth;
      back = is.back;
      closed = is.closed;
      leads = λ f f_in p m at low child. still f f_in m (is.leads f f_in p m at low child);
      owned = is.owned;
      framed = is.framed;
    }

    -- one that is done need not be looked at
    pub skipped : (x : WalkList) (m : ℕ) → IsUnder g c d N (m ∷ []) x → stage_of x m ≡ Done → IsUnder g c d N [] x
    skipped x m is ended = relead (m ∷ []) [] x is still
      where
        still : (f : Frame) → IsMember f x.frames → (k : ℕ) → Led x (m ∷ []) f k → Led x [] f k
        still f f_in k (is_done e) = is_done e
        still f f_in k (is_on q e at) = is_on q e at
        still f f_in k (waits j from low e) = waits j from low e
        still f f_in k (looked_at (inl same)) = is_done (subst (λ j. stage_of x j ≡ Done) (sym same) ended)
        still f f_in k (looked_at (inr none)) = absurd none

    -- the last target that waits is looked at
    abbrev pub fewer : List ℕ → WalkList → WalkList
    fewer w x = record { path = x.path; waiting = w; frames = x.frames; stages = x.stages }

    pub record Taken (w : List ℕ) (x : WalkList) (m : ℕ) : Type 0 where
      pub under : IsUnder g c d N (m ∷ []) (fewer w x)
      pub coming : Coming g c d (fewer w x) m

    pub taken : (w : List ℕ) (x : WalkList) (m : ℕ)
        → IsUnder g c d N [] x
        → x.waiting ≡ w ++ m ∷ []
        → ((f : Frame) (fs : List Frame) → x.frames ≡ f ∷ fs → f.waits ≤ length w)
        → Taken w x m
    taken w x m is e last = record { under = under; coming = coming }
      where
        long : length x.waiting ≡ length w + 1
        long = ap length e ∙ length-append w (m ∷ [])

        earlier : (k : ℕ) → k < length w → get_or x.waiting k 0 ≡ get_or w k 0
        earlier k low = ap (λ xs. get_or xs k 0) e ∙ get_or_append_left w (m ∷ []) 0 k low

        here : (k : ℕ) → k ≡ length w → get_or x.waiting k 0 ≡ m
        here k at =
            let end : k ≡ length w + 0 = omega arith in
            ap (λ xs. get_or xs k 0) e ∙ ap (λ j. get_or (w ++ m ∷ []) j 0) end ∙ get_or-append-add w (m ∷ []) 0 0

        framed : (frames : List Frame)
            → IsFramed (length x.path) (length x.waiting) frames
            → ((f : Frame) (fs : List Frame) → frames ≡ f ∷ fs → f.waits ≤ length w)
            → IsFramed (length x.path) (length w) frames
        framed [] f low = absurd (omega (arith, f.1, long))
        framed (f ∷ fs) is_framed low = (is_framed.0, low f fs refl, is_framed.2)

        all_framed : IsFramed (length x.path) (length w) x.frames
        all_framed = framed x.frames is.framed last

        owner : (k : ℕ) → k < length w → Owner g c d x k → Owner g c d (fewer w x) k
        owner k low o = record {
          place = o.place;
          low = o.low;
          child = subst (IsChild g c d (get_or x.path o.place 0)) (earlier k low) o.child;
          framed = o.framed;
        }

        still : (f : Frame) → (k : ℕ) → Led x [] f k → Led (fewer w x) (m ∷ []) f k
        still f k (is_done at) = is_done at
        still f k (is_on q at from) = is_on q at from
        still f k (looked_at none) = absurd none
        still f k (waits j from low at) = ⊎_elim
            (λ (less : j < length w). waits j from less (sym (earlier j less) ∙ at))
            (λ (more : length w ≤ j).
            let end : j ≡ length w = omega (arith, long) in looked_at (inl (sym at ∙ here j end)))
            (cases_lt j (length w))

        under : IsUnder g c d N (m ∷ []) (fewer w x)
        under = record {
          sized = is.sized;
          inside = is.inside;
          placed = is.placed;
          forth = is.forth;
          back = is.back;
          closed = is.closed;
          leads = λ f f_in p k at low child. still f k (is.leads f f_in p k at low child);
          owned = λ k low. owner k low (is.owned k (omega (arith, long)));
          framed = all_framed;
        }

        coming : Coming g c d (fewer w x) m
        coming = from (is.owned (length w) (omega (arith, long)))
          where
            from : Owner g c d x (length w) → Coming g c d (fewer w x) m
            from o = record {
              place = o.place;
              low = o.low;
              child = subst (IsChild g c d (get_or x.path o.place 0)) (here (length w) refl) o.child;
              last = λ f f_in. (o.framed f f_in).0
                  (framed_below (length x.path) (length w) x.frames all_framed f f_in).1;
            }

    -- nothing is on the path yet
    pub walk_begins : (x : WalkList)
        → x.path ≡ []
        → x.waiting ≡ []
        → x.frames ≡ []
        → length x.stages ≡ size g
        → ((n : ℕ) → IsMember n N → stage_of x n ≡ New)
        → IsUnder g c d N [] x
    walk_begins x path waiting frames sized new = record {
      sized = sized;
      inside = λ p low. absurd (omega (arith, ap length path));
      placed = λ n p m at. let fresh = new n m in absurd (cc);
      forth = λ p q order low. absurd (omega (arith, ap length path));
      back = λ p q order low together. absurd (omega (arith, ap length path));
      closed = λ n m member at child. let fresh = new n member in absurd (cc);
      leads = λ f f_in p m at low child. absurd (omega (arith, ap length path));
      owned = λ k low. absurd (omega (arith, ap length waiting));
      framed = subst (IsFramed (length x.path) (length x.waiting)) (sym frames) (ap length path, ap length waiting);
    }

    -- a node is looked at where nothing waits for it
    pub also_looked_at : (x : WalkList) (m : ℕ) → IsUnder g c d N [] x → IsUnder g c d N (m ∷ []) x
    also_looked_at x m is = relead [] (m ∷ []) x is still
      where
        still : (f : Frame) → IsMember f x.frames → (k : ℕ) → Led x [] f k → Led x (m ∷ []) f k
        still f f_in k (is_done e) = is_done e
        still f f_in k (is_on q e at) = is_on q e at
        still f f_in k (waits j from low e) = waits j from low e
        still f f_in k (looked_at none) = absurd none
