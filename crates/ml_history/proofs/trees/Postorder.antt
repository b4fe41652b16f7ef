-- The order of the places of a forest is the order of offers: no stack beats one that stands before it.
--
--   BestFirst ts      == no stack of ts beats one that stands before it
--   places-best_first == the places of a forest whose ages rise stand in this order
use Rattle.std.proofs.Common.{ℕ, ◌≡◌, ◌+◌, ◌<◌, ◌⊎◌, inl, inr, arith, false, List, [], ◌∷◌, ◌++◌, map, refl, sym, subst}
use Rattle.ml_lists.specs.Member.{IsMember}
use Rattle.ml_lists.proofs.Member.{Image, member-map_from, member-append}
use Rattle.ml_trace.specs.Stack.{Item}
use Rattle.ml_history.specs.private.Forest.{Forest, Empty, Tree, lies_at, below, places, AgesRise}
use Rattle.ml_history.specs.HistoryStep.{beats}
use Rattle.ml_history.proofs.definition.OrderOfOffers.{beats-from_not, beats_irreflexive}
use Rattle.ml_history.proofs.trees.Forests.{places-names, ages-names}

-- no stack beats one that stands before it
abbrev pub BestFirst : List (Item ℕ) → Type 0
BestFirst [] = Unit {0}
BestFirst (a ∷ as') = ((b : Item ℕ) → IsMember b as' → beats b.stack a.stack ≡ false) × BestFirst as'

-- joined lists, where no stack of the second beats one of the first
best_first-append : (ts us : List (Item ℕ))
    → BestFirst ts
    → BestFirst us
    → ((a b : Item ℕ) → IsMember a ts → IsMember b us → beats b.stack a.stack ≡ false)
    → BestFirst (ts ++ us)
best_first-append [] us p q across = q
best_first-append (t ∷ ts) us p q across =
    (λ b m. by_part b (member-append b ts us m), best_first-append ts us p.1 q (λ a b ma mb. across a b (inr ma) mb))
  where
    by_part : (b : Item ℕ) → IsMember b ts ⊎ IsMember b us → beats b.stack t.stack ≡ false
    by_part b (inl m) = p.0 b m
    by_part b (inr m) = across t b (inl refl) m

-- a name in front of both changes nothing
beats-below : (x : ℕ) (s t : List ℕ) → beats s t ≡ false → beats (x ∷ s) (x ∷ t) ≡ false
beats-below x s t h = beats-from_not x x s t (inl (refl, h))

best_first-below : (x : ℕ) (ts : List (Item ℕ)) → BestFirst ts → BestFirst (map (below x) ts)
best_first-below x [] p = tt
best_first-below x (t ∷ ts) p = (λ b m. from_image b (member-map_from (below x) b ts m), best_first-below x ts p.1)
  where
    from_image : (b : Item ℕ) → Image (below x) b ts → beats b.stack (x ∷ t.stack) ≡ false
    from_image b i = subst (λ (v : Item ℕ). beats v.stack (x ∷ t.stack) ≡ false) (sym i.holds)
        (beats-below x i.from.stack t.stack (p.0 i.from i.member))

-- states that lie at one vertex
best_first-lies : (s qs : List ℕ) → BestFirst (map (lies_at s) qs)
best_first-lies s [] = tt
best_first-lies s (q ∷ qs) = (λ b m. from_image b (member-map_from (lies_at s) b qs m), best_first-lies s qs)
  where
    from_image : (b : Item ℕ) → Image (lies_at s) b qs → beats b.stack s ≡ false
    from_image b i = subst (λ (v : Item ℕ). beats v.stack s ≡ false) (sym i.holds) (beats_irreflexive s)

-- a stack of higher names does not beat one that begins with a lower name
beats-higher : (x : ℕ) (s t : List ℕ) → ((z : ℕ) → IsMember z s → x < z) → beats s (x ∷ t) ≡ false
beats-higher x [] t high = refl
beats-higher x (z ∷ zs) t high = beats-from_not z x zs t (inr (high z (inl refl)))

-- the places of a forest whose ages rise stand in the order of offers
pub places-best_first : (x : ℕ) (f : Forest) → AgesRise x f → BestFirst (places f)
places-best_first x Empty rise = tt
places-best_first x (Tree a o c y) rise =
    best_first-append (map (below a) (places c)) (map (lies_at (a ∷ [])) o ++ places y)
    (best_first-below a (places c) (places-best_first (a + 1) c rise.1))
    (best_first-append (map (lies_at (a ∷ [])) o) (places y) (best_first-lies (a ∷ []) o)
    (places-best_first (a + 1) y rise.2) (λ v w mv mw.
    after_own v w (member-map_from (lies_at (a ∷ [])) v o mv) mw))
    (λ v w mv mw. after_children v w (member-map_from (below a) v (places c) mv)
    (member-append w (map (lies_at (a ∷ [])) o) (places y) mw))
  where
    younger : (w : Item ℕ) (t : List ℕ) → IsMember w (places y) → beats w.stack (a ∷ t) ≡ false
    younger w t mw = beats-higher a w.stack t
        (λ z mz. let high = ages-names (a + 1) y z rise.2 (places-names y w z mw mz) in omega arith)

    after_own : (v w : Item ℕ) → Image (lies_at (a ∷ [])) v o → IsMember w (places y) → beats w.stack v.stack ≡ false
    after_own v w i mw = subst (λ (u : Item ℕ). beats w.stack u.stack ≡ false) (sym i.holds) (younger w [] mw)

    own_after : (s : List ℕ) (w : Item ℕ) → Image (lies_at (a ∷ [])) w o → beats w.stack (a ∷ s) ≡ false
    own_after s w i = subst (λ (u : Item ℕ). beats u.stack (a ∷ s) ≡ false) (sym i.holds) (beats-below a [] s refl)

    after_children : (v w : Item ℕ)
        → Image (below a) v (places c)
        → IsMember w (map (lies_at (a ∷ [])) o) ⊎ IsMember w (places y)
        → beats w.stack v.stack ≡ false
    after_children v w i (inl mw) =
        subst (λ (u : Item ℕ). beats w.stack u.stack ≡ false) (sym i.holds)
        (own_after i.from.stack w (member-map_from (lies_at (a ∷ [])) w o mw))
    after_children v w i (inr mw) =
        subst (λ (u : Item ℕ). beats w.stack u.stack ≡ false) (sym i.holds) (younger w i.from.stack mw)
