-- The search for a walk from one vertex to another, and for a cycle.
--
--   comes_more    == what comes by some steps comes by more of them
--   search_begins == the goal is found, by no step
--   search_more   == one vertex more is found
--   spread_more   == a pass over arcs, one arc more
--   chain_push    == a chain, and an arc from where it ends
--   walk_of_way   == a way along the steps of a search is a walk
--   found_by_walk == where nothing is to be found any more, each vertex with a walk to the goal is found
--   none_by_search == and a vertex that is not found has none
--   cycle_push    == a walk from the end of an arc to its beginning, and the arc, are an even cycle
--   no_back_more  == one arc more that has no walk back
use Rattle.std.proofs.Common.{ℕ, zero, suc, ◌≡◌, ◌+◌, ◌%◌, ◌<◌, ◌≤◌, ◌⊎◌, inl, inr, arith, List, [], ◌∷◌, ◌++◌, length, get_or, set, subst, subst₂, sym}
use Rattle.std.proofs.Common.{ap, ◌∙◌, refl, All, Contains, Bool, true, false, replicate, length-set, get_or-set_same, get_or-set_other}
use Rattle.std.proofs.lemmas.Bool.{cases_eq, cases_lt, false≢true}
use Rattle.std.proofs.lemmas.List.{get_or_append_left, get_or_push, length-append, length-replicate}
use Rattle.std.proofs.lemmas.List.Elements.{All-contains, All-push, All-nil}
use Rattle.ml_parity.specs.declared.one_sided.graph.Arc.{Arc}
use Rattle.ml_parity.specs.OneSided.{OneSidedGraph, IsWalk, count_at, IsEvenCycle}
use Rattle.ml_parity.specs.private.HeightSteps.{LoopAt, Comes, Chain, IsWay, IsHigh, IsSearch, FoundAlong, FindsAlong, IsSpread, missing}
use Rattle.ml_parity.specs.private.SinkGame.{flag_at}
use Rattle.ml_parity.proofs.HeightRaises.{ArcEnds}
use Rattle.ml_parity.proofs.HeightWalks.{walk_join, counts-one}

-- what comes by some steps comes by more of them
pub comes_more : (steps ys : List Arc) (i j goal v : ℕ) → i ≤ length steps → i ≤ j → Comes steps i goal v
    → Comes (steps ++ ys) j goal v
comes_more steps ys i j goal v fits more (inl same) = inl same
comes_more steps ys i j goal v fits more (inr k) =
    inr (
      k.0,
      omega (arith, k.1),
      λ d. ap (λ (a : Arc). a.from) (get_or_append_left steps ys d k.0 (omega (arith, k.1)))
          ∙ k.2 d,
    )

-- the flag of a vertex after one is set
flag_set : (found : List Bool) (t v : ℕ) → t < length found → flag_at (set found t true) v ≡ true
    → (v ≡ t) ⊎ (flag_at found v ≡ true)
flag_set found t v low is = by_case (cases_eq v t)
  where
    by_case : (v ≡ t) ⊎ (v ≡ t → ⊥) → (v ≡ t) ⊎ (flag_at found v ≡ true)
    by_case (inl same) = inl same
    by_case (inr other) = inr (sym (get_or-set_other found t v true false other) ∙ is)

-- what is set stays set
flag_kept : (found : List Bool) (t v : ℕ)
    → t < length found
    → flag_at found v ≡ true
    → flag_at (set found t true) v ≡ true
flag_kept found t v low is = by_case (cases_eq v t)
  where
    by_case : (v ≡ t) ⊎ (v ≡ t → ⊥) → flag_at (set found t true) v ≡ true
    by_case (inl same) = ap (λ (k : ℕ). get_or (set found t true) k false) same ∙ get_or-set_same found t true false low
    by_case (inr other) = get_or-set_other found t v true false other ∙ is

-- no flag is set at first
flag_none : (n v : ℕ) → flag_at (replicate n false) v ≡ false
flag_none zero v = refl
flag_none (suc n) zero = refl
flag_none (suc n) (suc v) = flag_none n v

-- the goal is found, by no step
pub search_begins : (g : OneSidedGraph) (p goal : ℕ) (found : List Bool) (steps : List Arc) → goal < g.size
    → found ≡ set (replicate g.size false) goal true → steps ≡ [] → IsSearch g p goal found steps
search_begins g p goal found steps low is none =
    subst₂ (λ (f : List Bool) (s : List Arc). IsSearch g p goal f s) (sym is) (sym none) (record {
      size = length-set (replicate g.size false) goal true ∙ length-replicate g.size false;
      high = All-nil (IsHigh g p);
      leads = λ k d past. absurd (omega arith);
      begins = get_or-set_same (replicate g.size false) goal true false inside;
      comes = λ v flagged. only v (flag_set (replicate g.size false) goal v inside flagged);
    })
  where
    inside : goal < length (replicate g.size false)
    inside = omega (arith, low, length-replicate g.size false)

    only : (v : ℕ) → (v ≡ goal) ⊎ (flag_at (replicate g.size false) v ≡ true) → Comes [] (length {A = Arc} []) goal v
    only v (inl same) = inl same
    only v (inr flagged) = absurd (false≢true (sym (flag_none g.size v) ∙ flagged))

-- one vertex more is found
pub search_more : (g : OneSidedGraph) (p goal : ℕ) (found : List Bool) (steps : List Arc) (a : Arc) → ArcEnds g a
    → IsSearch g p goal found steps → Contains g.arcs a → p ≤ a.priority → flag_at found a.to ≡ true
    → IsSearch g p goal (set found a.from true) (steps ++ a ∷ [])
search_more g p goal found steps a e s member high at = record {
  size = length-set found a.from true ∙ s.size;
  high = All-push (IsHigh g p) steps a s.high (record { member = member; high = high });
  leads = λ k d low. leads k d low (cases_lt k (length steps));
  begins = flag_kept found a.from goal inside s.begins;
  comes = λ v flagged. comes v (flag_set found a.from v inside flagged);
}
  where
    inside : a.from < length found
    inside = omega (arith, e.begins, s.size)

    long : length (steps ++ a ∷ []) ≡ length steps + 1
    long = length-append steps (a ∷ [])

    leads : (k : ℕ) (d : Arc) → k < length (steps ++ a ∷ []) → (k < length steps) ⊎ (length steps ≤ k)
        → Comes (steps ++ a ∷ []) k goal (get_or (steps ++ a ∷ []) k d).to
    leads k d low (inl before) =
        subst (λ (b : Arc). Comes (steps ++ a ∷ []) k goal b.to) (sym (get_or_append_left steps (a ∷ []) d k before))
        (comes_more steps (a ∷ []) k k goal (get_or steps k d).to (omega arith) (omega arith) (s.leads k d before))
    leads k d low (inr last) =
        let here : length steps ≡ k = omega (arith, long) in
        subst (λ (b : Arc). Comes (steps ++ a ∷ []) k goal b.to) (sym (get_or_push steps a d k here))
        (comes_more steps (a ∷ []) (length steps) k goal a.to (omega arith) (omega arith) (s.comes a.to at))

    comes : (v : ℕ)
        → (v ≡ a.from) ⊎ (flag_at found v ≡ true)
        → Comes (steps ++ a ∷ []) (length (steps ++ a ∷ [])) goal v
    comes v (inl same) =
        inr (
          length steps,
          omega (arith, long),
          λ d. ap (λ (b : Arc). b.from) (get_or_push steps a d (length steps) refl) ∙ sym same,
        )
    comes v (inr flagged) =
        comes_more steps (a ∷ []) (length steps) (length (steps ++ a ∷ [])) goal v (omega arith) (omega (arith, long))
        (s.comes v flagged)

-- a pass over arcs, one arc more along which something was found
spread_found : (g : OneSidedGraph) (p : ℕ) (old found new : List Bool) (i : ℕ) (a : Arc) (changed : Bool)
    → IsSpread g p old found i changed → FindsAlong p found new a true → IsSpread g p old new (i + 1) true
spread_found g p old found new i a true so step = omega arith
spread_found g p old found new i a false so step =
    let e : missing found ≡ missing old = ap missing so.0 in
    omega arith

-- one arc more along which nothing is to be found
found_more : (g : OneSidedGraph) (p : ℕ) (found : List Bool) (i : ℕ) (a : Arc) → ((d : Arc) → get_or g.arcs i d ≡ a)
    → ((k : ℕ) (d : Arc) → k < i → FoundAlong p found (get_or g.arcs k d)) → FoundAlong p found a
    → (k : ℕ) (d : Arc) → k < i + 1 → FoundAlong p found (get_or g.arcs k d)
found_more g p found i a is old last k d below = by_case (cases_eq k i)
  where
    by_case : (k ≡ i) ⊎ (k ≡ i → ⊥) → FoundAlong p found (get_or g.arcs k d)
    by_case (inl same) = subst (FoundAlong p found) (sym (ap (λ (j : ℕ). get_or g.arcs j d) same ∙ is d)) last
    by_case (inr other) = old k d (omega arith)

-- a pass over arcs, one arc more along which nothing was found
spread_stays : (g : OneSidedGraph) (p : ℕ) (old found new : List Bool) (i : ℕ) (a : Arc) (changed : Bool)
    → ((d : Arc) → get_or g.arcs i d ≡ a) → IsSpread g p old found i changed → FindsAlong p found new a false
    → IsSpread g p old new (i + 1) changed
spread_stays g p old found new i a true is so step = subst (λ (f : List Bool). missing f < missing old) (sym step.0) so
spread_stays g p old found new i a false is so step = (
  step.0 ∙ so.0,
  found_more g p new i a is (λ k d low.
      subst (λ (f : List Bool). FoundAlong p f (get_or g.arcs k d)) (sym step.0) (so.1 k d low)) step.1,
)

-- a pass over arcs, one arc more
pub spread_more : (g : OneSidedGraph) (p : ℕ) (old found new : List Bool) (i : ℕ) (a : Arc) (changed some next : Bool)
    → ((d : Arc) → get_or g.arcs i d ≡ a) → IsSpread g p old found i changed → FindsAlong p found new a some
    → ((some ≡ true) × (next ≡ true)) ⊎ ((some ≡ false) × (next ≡ changed)) → IsSpread g p old new (i + 1) next
spread_more g p old found new i a changed some next is so step (inl e) =
    subst (IsSpread g p old new (i + 1)) (sym e.1)
    (spread_found g p old found new i a changed so (subst (FindsAlong p found new a) e.0 step))
spread_more g p old found new i a changed some next is so step (inr e) =
    subst (IsSpread g p old new (i + 1)) (sym e.1)
    (spread_stays g p old found new i a changed is so (subst (FindsAlong p found new a) e.0 step))

-- a pass in some order, one arc more
pub spread_on : (g : OneSidedGraph) (p : ℕ) (old found new : List Bool) (changed some next : Bool)
    → IsSpread g p old found 0 changed → IsSpread g p found new 0 some
    → ((some ≡ true) × (next ≡ true)) ⊎ ((some ≡ false) × (next ≡ changed)) → IsSpread g p old new 0 next
spread_on g p old found new true some next so step (inl e) =
    let less : missing new < missing found = subst (IsSpread g p found new 0) e.0 step in
    subst (IsSpread g p old new 0) (sym e.1) (omega arith)
spread_on g p old found new false some next so step (inl e) =
    let less : missing new < missing found = subst (IsSpread g p found new 0) e.0 step in
    let same : missing found ≡ missing old = ap missing so.0 in
    subst (IsSpread g p old new 0) (sym e.1) (omega arith)
spread_on g p old found new true some next so step (inr e) =
    let still : IsSpread g p found new 0 false = subst (IsSpread g p found new 0) e.0 step in
    subst (IsSpread g p old new 0) (sym e.1) (subst (λ (f : List Bool). missing f < missing old) (sym still.0) so)
spread_on g p old found new false some next so step (inr e) =
    let still : IsSpread g p found new 0 false = subst (IsSpread g p found new 0) e.0 step in
    subst (IsSpread g p old new 0) (sym e.1) (still.0 ∙ so.0, λ k d low. absurd (omega arith))

-- ---- ways

-- a chain, and an arc from where it ends
pub chain_push : (v w : ℕ) (xs : List Arc) (a : Arc) → Chain v xs w → a.from ≡ w → Chain v (xs ++ a ∷ []) a.to
chain_push v w [] a chain from = (from ∙ sym chain, refl)
chain_push v w (x ∷ xs) a chain from = (chain.0, chain_push x.to w xs a chain.1 from)

-- a chain of arcs of g of at least p is a walk
chain_walk : (g : OneSidedGraph) (p v w : ℕ) (xs : List Arc) → Chain v xs w → All (IsHigh g p) xs → IsWalk g p v xs w
chain_walk g p v w [] chain every = chain
chain_walk g p v w (x ∷ xs) chain every =
    let h : IsHigh g p x = every 0 x (omega arith) in (
      record { member = h.member; leaves = chain.0; high = h.high },
      chain_walk g p x.to w xs chain.1 (λ k d low. every (suc k) d (omega arith)),
    )

-- a way along the steps of a search is a walk
pub walk_of_way : (g : OneSidedGraph) (p v goal : ℕ) (steps xs : List Arc)
    → All (IsHigh g p) steps
    → IsWay steps v goal xs
    → IsWalk g p v xs goal
walk_of_way g p v goal steps xs high way =
    chain_walk g p v goal xs way.chain (λ k d low.
    All-contains (IsHigh g p) steps (get_or xs k d) high (way.among k d low))

-- where nothing is to be found any more, each vertex with a walk to the goal is found
pub found_by_walk : (g : OneSidedGraph) (p : ℕ) (found : List Bool) → All (FoundAlong p found) g.arcs → (v w : ℕ)
    (xs : List Arc) → IsWalk g p v xs w → flag_at found w ≡ true → flag_at found v ≡ true
found_by_walk g p found closed v w [] walk at = ap (flag_at found) walk ∙ at
found_by_walk g p found closed v w (x ∷ xs) walk at =
    let next = found_by_walk g p found closed x.to w xs walk.1 at in
    ap (flag_at found) (sym walk.0.leaves)
    ∙ All-contains (FoundAlong p found) g.arcs x closed walk.0.member walk.0.high next

-- where nothing is to be found any more, a vertex that is not found has no walk to the goal
pub none_by_search : (g : OneSidedGraph) (p goal : ℕ) (old new : List Bool) (steps : List Arc) (changed : Bool) (v : ℕ)
    → IsSearch g p goal new steps → IsSpread g p old new (length g.arcs) changed → changed ≡ false
    → flag_at new v ≡ false → (xs : List Arc) → IsWalk g p v xs goal → ⊥
none_by_search g p goal old new steps changed v s spread rests missed xs walk =
    let still : IsSpread g p old new (length g.arcs) false =
    subst (IsSpread g p old new (length g.arcs)) rests spread in
    false≢true (sym missed ∙ found_by_walk g p new (λ k d low. still.1 k d low) v goal xs walk s.begins)

-- ---- cycles

-- an arc of priority p at the end counts
count-last : (p : ℕ) (xs : List Arc) (a : Arc) → a.priority ≡ p → 0 < count_at p (xs ++ a ∷ [])
count-last p [] a level = omega (arith, counts-one p a [] level)
count-last p (x ∷ xs) a level = omega (arith, count-last p xs a level)

-- a walk from the end of an arc to its beginning, and the arc, are an even cycle
pub cycle_push : (g : OneSidedGraph) (p : ℕ) (a : Arc) (xs : List Arc) → p % 2 ≡ 0 → Contains g.arcs a → a.priority ≡ p
    → IsWalk g p a.to xs a.from → IsEvenCycle g (xs ++ a ∷ [])
cycle_push g p a xs even member level walk = record {
  lowest = p;
  even = even;
  begins = a.to;
  leads_back = walk_join g p a.to a.from a.to xs (a ∷ []) walk
      (record { member = member; leaves = refl; high = omega arith }, refl);
  met = count-last p xs a level;
}

-- there is no walk back along arcs of at least p from the end of the arc a, of priority p, to its beginning
abbrev pub HasNoBack : OneSidedGraph → ℕ → Arc → Type 0
HasNoBack g p a = a.priority ≡ p → (xs : List Arc) → IsWalk g p a.to xs a.from → ⊥

-- one arc more that has no walk back
pub no_back_more : (g : OneSidedGraph) (p i : ℕ) (a : Arc) → ((d : Arc) → get_or g.arcs i d ≡ a)
    → ((k : ℕ) (d : Arc) → k < i → HasNoBack g p (get_or g.arcs k d)) → HasNoBack g p a
    → (k : ℕ) (d : Arc) → k < i + 1 → HasNoBack g p (get_or g.arcs k d)
no_back_more g p i a is old last k d below = by_case (cases_eq k i)
  where
    by_case : (k ≡ i) ⊎ (k ≡ i → ⊥) → HasNoBack g p (get_or g.arcs k d)
    by_case (inl same) = subst (HasNoBack g p) (sym (ap (λ (j : ℕ). get_or g.arcs j d) same ∙ is d)) last
    by_case (inr other) = old k d (omega arith)

-- where no arc has a walk back, there is no loop
pub no_loop_by_arcs : (g : OneSidedGraph) (p : ℕ) → All (HasNoBack g p) g.arcs → LoopAt g p → ⊥
no_loop_by_arcs g p none l = All-contains (HasNoBack g p) g.arcs l.arc none l.member l.level l.back l.leads
