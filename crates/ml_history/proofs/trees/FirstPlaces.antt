-- A tree without repeats: each state stays where it lies first.
--
--   fresh-places == its places are the first ones of the places of the tree
--   fresh-names  == its names are those of the tree
--   fresh-rise   == its ages rise
--   fresh-root   == it has one root
--   fresh-apart  == no state lies in it twice
use Rattle.std.proofs.Common.{ℕ, ◌≡◌, ◌+◌, ◌⊎◌, inl, inr, Bool, true, false, List, [], ◌∷◌, ◌++◌, map, refl, sym, subst, ap, ◌∙◌}
use Rattle.std.proofs.lemmas.Bool.{cases_Bool, cond-true, cond-false}
use Rattle.ml_trace.specs.Stack.{Item}
use Rattle.ml_history.specs.private.Forest.{Forest, Empty, Tree, names, states, lies_at, below, places, AgesRise, HasOneRoot}
use Rattle.ml_lists.specs.Times.{IsApart}
use Rattle.ml_history.specs.private.TreeStep.{with_one, with_all, news, fresh}
use Rattle.ml_history.proofs.trees.ItemsByState.{state_of}
use Rattle.ml_history.proofs.trees.FirstOffers.{firsts, firsts-seen, firsts-new, firsts-append, firsts-apart}
use Rattle.ml_history.proofs.trees.Forests.{places-states, states-below, states-lies}

-- first items seen from the parent
firsts-below : (x : ℕ) (seen : ℕ → Bool) (ts : List (Item ℕ))
    → map (below x) (firsts seen ts) ≡ firsts seen (map (below x) ts)
firsts-below x seen [] = refl
firsts-below x seen (t ∷ ts) = by_test (cases_Bool (seen t.state)) (firsts-below x seen ts)
    (firsts-below x (with_one t.state seen) ts)
  where
    by_test : (seen t.state ≡ true) ⊎ (seen t.state ≡ false)
        → map (below x) (firsts seen ts) ≡ firsts seen (map (below x) ts)
        → map (below x) (firsts (with_one t.state seen) ts) ≡ firsts (with_one t.state seen) (map (below x) ts)
        → map (below x) (firsts seen (t ∷ ts)) ≡ firsts seen (map (below x) (t ∷ ts))
    by_test (inl p) same more = ap (map (below x)) (firsts-seen seen t ts p) ∙ same
        ∙ sym (firsts-seen seen (below x t) (map (below x) ts) p)
    by_test (inr f) same more = ap (map (below x)) (firsts-new seen t ts f) ∙ ap (λ v. below x t ∷ v) more
        ∙ sym (firsts-new seen (below x t) (map (below x) ts) f)

-- first items at a vertex
firsts-lies : (s : List ℕ) (seen : ℕ → Bool) (qs : List ℕ)
    → map (lies_at s) (news seen qs) ≡ firsts seen (map (lies_at s) qs)
firsts-lies s seen [] = refl
firsts-lies s seen (q ∷ qs) = by_test (cases_Bool (seen q)) (firsts-lies s seen qs) (firsts-lies s (with_one q seen) qs)
  where
    by_test : (seen q ≡ true) ⊎ (seen q ≡ false)
        → map (lies_at s) (news seen qs) ≡ firsts seen (map (lies_at s) qs)
        → map (lies_at s) (news (with_one q seen) qs) ≡ firsts (with_one q seen) (map (lies_at s) qs)
        → map (lies_at s) (news seen (q ∷ qs)) ≡ firsts seen (map (lies_at s) (q ∷ qs))
    by_test (inl p) same more =
        ap (map (lies_at s)) (cond-true (seen q) (news seen qs) (q ∷ news (with_one q seen) qs) p) ∙ same
        ∙ sym (firsts-seen seen (lies_at s q) (map (lies_at s) qs) p)
    by_test (inr f) same more =
        ap (map (lies_at s)) (cond-false (seen q) (news seen qs) (q ∷ news (with_one q seen) qs) f)
        ∙ ap (λ v. lies_at s q ∷ v) more
        ∙ sym (firsts-new seen (lies_at s q) (map (lies_at s) qs) f)

-- the places of a tree without repeats are the first ones of the tree
pub fresh-places : (seen : ℕ → Bool) (f : Forest) → places (fresh seen f) ≡ firsts seen (places f)
fresh-places seen Empty = refl
fresh-places seen (Tree a o c y) =
    let children : map (below a) (places (fresh seen c)) ≡ firsts seen (map (below a) (places c)) =
    ap (map (below a)) (fresh-places seen c) ∙ firsts-below a seen (places c) in
    let of_children : map state_of (map (below a) (places c)) ≡ states c = states-below a (places c)
    ∙ places-states c in
    let own = firsts-lies (a ∷ []) (with_all (states c) seen) o in
    let younger = fresh-places (with_all o (with_all (states c) seen)) y in
    ap (λ v. v ++ (map (lies_at (a ∷ [])) (news (with_all (states c) seen) o) ++ places
    (fresh (with_all o (with_all (states c) seen)) y))) children
    ∙ ap (λ v. firsts seen (map (below a) (places c)) ++ (v ++ places
    (fresh (with_all o (with_all (states c) seen)) y))) own
    ∙ ap (λ v. firsts seen (map (below a) (places c)) ++ (firsts (with_all (states c) seen)
    (map (lies_at (a ∷ [])) o) ++ v)) younger
    ∙ ap (λ v. firsts seen (map (below a) (places c)) ++ (firsts (with_all (states c) seen)
    (map (lies_at (a ∷ [])) o) ++ firsts (with_all v (with_all (states c) seen)) (places y)))
    (sym (states-lies (a ∷ []) o))
    ∙ ap (λ v. firsts seen (map (below a) (places c)) ++ v)
    (sym (firsts-append (with_all (states c) seen) (map (lies_at (a ∷ [])) o) (places y)))
    ∙ ap (λ v. firsts seen (map (below a) (places c)) ++ firsts (with_all v seen)
    (map (lies_at (a ∷ [])) o ++ places y)) (sym of_children)
    ∙ sym (firsts-append seen (map (below a) (places c)) (map (lies_at (a ∷ [])) o ++ places y))

-- its names are those of the tree
pub fresh-names : (seen : ℕ → Bool) (f : Forest) → names (fresh seen f) ≡ names f
fresh-names seen Empty = refl
fresh-names seen (Tree a o c y) =
    ap (λ v. v ++ a ∷ names (fresh (with_all o (with_all (states c) seen)) y)) (fresh-names seen c)
    ∙ ap (λ v. names c ++ a ∷ v) (fresh-names (with_all o (with_all (states c) seen)) y)

-- its ages rise
pub fresh-rise : (seen : ℕ → Bool) (x : ℕ) (f : Forest) → AgesRise x f → AgesRise x (fresh seen f)
fresh-rise seen x Empty rise = tt
fresh-rise seen x (Tree a o c y) rise = (
  rise.0,
  fresh-rise seen (a + 1) c rise.1,
  fresh-rise (with_all o (with_all (states c) seen)) (a + 1) y rise.2,
)

-- it has one root
pub fresh-root : (seen : ℕ → Bool) (f : Forest) → HasOneRoot f → HasOneRoot (fresh seen f)
fresh-root seen Empty one = tt
fresh-root seen (Tree a o c y) one = ap (fresh (with_all o (with_all (states c) seen))) one

-- no state lies in it twice
pub fresh-apart : (seen : ℕ → Bool) (f : Forest) → IsApart (states (fresh seen f))
fresh-apart seen f =
    subst IsApart (ap (map state_of) (sym (fresh-places seen f)) ∙ places-states (fresh seen f))
    (firsts-apart seen (places f))
