-- What an automaton accepts, one that follows it accepts too.
--
--   row_is               == the row of ranks of a state, as a program reads it
--   edge_answered        == an edge whose cube holds less answers under each letter
--   rows_more, rows_all  == what holds of each row holds of all, one after the other
--   follower_accepts     == the law
use Rattle.std.proofs.Common.{ℕ, ◌≡◌, ◌+◌, ◌<◌, ◌≤◌, ◌⊎◌, ◌↔◌, inl, inr, arith, Bool, true, List, [], length, map, get_or, Option, None, Some, refl, sym, ap, ◌∙◌, subst}
use Rattle.std.specs.Global.{Vec}
use Rattle.std.proofs.lemmas.Bool.{cases_eq}
use Rattle.std.proofs.lemmas.List.{get_or-map, get_or_past, length-map}
use Rattle.ml_lists.specs.Member.{IsMember}
use Rattle.ml_trace.specs.WordAutomata.{IsAcceptedFrom, IsWordLasso, WordLasso}
use Rattle.ml_labelled.specs.Labelled.{AcceptSame, Accepts, Automaton, Edge, Fits, IsLabelled, Leads, Letter, edges_of}
use Rattle.ml_labelled.specs.declared.following.Ranks.{Ranks}
use Rattle.ml_labelled.specs.declared.labelled.CubeEdge.{CubeEdge}
use Rattle.ml_labelled.specs.declared.labelled.Literal.{Literal}
use Rattle.ml_labelled.specs.private.Following.{Answered, Answers, Falls, Follows, IsAnswered, rank_of, row_items}
use Rattle.ml_labelled.specs.private.Views.{edges_in, rows_of}
use Rattle.ml_labelled.proofs.FollowedRuns.{Followed, followed_accepts}

pub row_is : (rows : List (Vec (Option ℕ))) (p x : ℕ) (row : Vec (Option ℕ)) (xs : List (Option ℕ))
    → p < length rows
    → row ≡ get_or rows p row
    → xs ≡ row.items
    → get_or xs x None ≡ get_or (get_or (map row_items rows) p []) x None
row_is rows p x row xs low is read =
    ap (λ ys. get_or ys x None) (read ∙ ap row_items is ∙ sym (get_or-map row_items rows p row [] low))

pub row_past : (rows : List (Vec (Option ℕ))) (p x : ℕ)
    → length rows ≤ p
    → None ≡ get_or (get_or (map row_items rows) p []) x None
row_past rows p x past =
    let long = length-map rows row_items in
    ap (λ ys. get_or ys x None) (sym (get_or_past (map row_items rows) p [] (omega (arith, past, long))))

pub edge_answered : (ranks : Ranks) (r : ℕ) (e f : Edge) (fs : List Edge)
    → IsMember f fs
    → Answers ranks r e f
    → ((l : Literal) → IsMember l f.cube → IsMember l e.cube)
    → Answered ranks r e fs
edge_answered ranks r e f fs m answers weaker props letter fits =
    record { edge = f; is_edge = m; fits = λ l k. fits l (weaker l k); answers = answers }

-- ---- row by row

module _ (P : ℕ → List Edge → Type 0) (rows : List (Vec CubeEdge)) where
  abbrev HoldTo : ℕ → Type 0
  HoldTo p = (k : ℕ) → k < p → P k (get_or (rows_of rows) k [])

  pub rows_more : (p : ℕ) (row : Vec CubeEdge)
      → p < length rows
      → row ≡ get_or rows p row
      → P p (edges_in row)
      → HoldTo p
      → HoldTo (p + 1)
  rows_more p row low is holds so_far k below = by (cases_eq k p)
    where
      by : (k ≡ p) ⊎ (k ≡ p → ⊥) → P k (get_or (rows_of rows) k [])
      by (inl same) =
          subst (λ n. P n (get_or (rows_of rows) n [])) (sym same)
          (subst (P p) (ap edges_in is ∙ sym (get_or-map edges_in rows p row [] low)) holds)
      by (inr other) = so_far k (omega (arith, below, other))

  pub rows_all : (p : ℕ) → length rows ≤ p → HoldTo p → (k : ℕ) → k < length (rows_of rows) → P k (get_or (rows_of rows) k [])
  rows_all p past all k low = let long = length-map rows edges_in in all k (omega (arith, past, low, long))

-- ---- the law

abbrev rank_or : Option ℕ → ℕ
rank_or None = 0
rank_or (Some r) = r

module _ (a b : Automaton) (ranks : Ranks) (same_props : a.props ≡ b.props) (is_a : IsLabelled a) (is_b : IsLabelled b)
    (follows : Follows ranks a.edges b.edges) where
  record Joined (p x : ℕ) : Type 0 where
    low : p < length a.edges
    also : x < length b.edges
    rank : ℕ
    is_rank : rank_of ranks p x ≡ Some rank

  abbrev rank : ℕ → ℕ → ℕ
  rank p x = rank_or (rank_of ranks p x)

  rank_is : (p x r : ℕ) → rank_of ranks p x ≡ Some r → rank p x ≡ r
  rank_is p x r is = ap rank_or is

  step : (l : Letter) (p q : ℕ) (c : Bool) (x : ℕ)
      → Joined p x
      → Leads a l p q c
      → Followed (Leads a) (Leads b) Joined rank l p q c x
  step l p q c x j lead = from answer answer.answers
    where
      e : Edge
      e = lead.edge

      answer : IsAnswered ranks j.rank a.props l lead.edge (edges_of b x)
      answer = follows p j.low x j.also j.rank j.is_rank lead.edge lead.is_edge a.props l lead.fits

      from : (i : IsAnswered ranks j.rank a.props l lead.edge (edges_of b x)) → Answers ranks j.rank lead.edge i.edge
          → Followed (Leads a) (Leads b) Joined rank l p q c x
      from i s = record {
        to = i.edge.to;
        accepting = i.edge.accepting;
        leads_there = record {
          edge = i.edge;
          is_edge = i.is_edge;
          fits = subst (λ ps. Fits ps l i.edge.cube) same_props i.fits;
          to_is = refl;
          accepting_is = refl;
        };
        joined = record {
          low = subst (λ n. n < length a.edges) lead.to_is (is_a.edges p lead.edge lead.is_edge).to_state;
          also = (is_b.edges x i.edge i.is_edge).to_state;
          rank = s.rank;
          is_rank = subst (λ n. rank_of ranks n i.edge.to ≡ Some s.rank) lead.to_is s.is_rank;
        };
        falls = by s.falls;
      }
        where
          by : Falls j.rank s.rank lead.edge.accepting i.edge.accepting
              → (i.edge.accepting ≡ true) ⊎ ((rank q i.edge.to ≤ rank p x) × (c ≡ true → rank q i.edge.to < rank p x))
          by (inl accepts) = inl accepts
          by (inr less) =
              let here = rank_is p x j.rank j.is_rank in
              let there = rank_is q i.edge.to s.rank (subst (λ n. rank_of ranks n i.edge.to ≡ Some s.rank) lead.to_is s.is_rank) in
              let level = less.0 in
              inr (
                omega (arith, here, there, level),
                λ is. let lower = less.1 (lead.accepting_is ∙ is) in omega (arith, here, there, lower),
              )

  pub follower_accepts : (r : ℕ) → rank_of ranks 0 0 ≡ Some r → (w : WordLasso Letter) → Accepts a w → Accepts b w
  follower_accepts r is w =
      followed_accepts (Leads a) (Leads b) Joined rank step (length b.edges) (λ p x j. j.also) w 0 0
      (record { low = is_a.some_state; also = is_b.some_state; rank = r; is_rank = is })
