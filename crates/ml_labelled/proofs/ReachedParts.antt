-- The part of an automaton that is reached accepts the same words.
--
--   part_of       == what a program holds is that part
--   same_accepted == it accepts the same
--   part_reached  == each of its states is reached
--   part_labelled == it is an automaton
use Rattle.std.proofs.Common.{ℕ, ◌≡◌, ◌<◌, ◌≤◌, ◌^◌, inl, inr, ⊎_elim, arith, Bool, true, List, [], ◌∷◌, length, map, get_or, refl, sym, ap, ◌∙◌, subst}
use Rattle.std.specs.Global.{Vec}
use Rattle.std.specs.List.{All}
use Rattle.std.proofs.lemmas.Bool.{cases_lt}
use Rattle.std.proofs.lemmas.List.{get_or-map, get_or_past, length-map}
use Rattle.ml_base.specs.Name.{IsName}
use Rattle.ml_lists.specs.Member.{IsMember}
use Rattle.ml_lists.proofs.Counting.{count_le}
use Rattle.ml_lists.proofs.Member.{member-map, member-map_from, member-place}
use Rattle.ml_lists.proofs.Ranks.{Ranked, count_hit, count_passes, count_same}
use Rattle.ml_labelled.specs.Labelled.{AcceptSame, AreReached, Automaton, Edge, Fits, IsCube, IsEdge, IsLabelled, IsReached, Leads, Letter, along, begins, edges_of}
use Rattle.ml_labelled.specs.private.Reaching.{AreMarked, AreRanks, IsKept, IsPart, TargetsFit, mark, moved, rank, retargeted}
use Rattle.ml_labelled.specs.private.Views.{edges_in, held, rows_of}
use Rattle.ml_labelled.specs.declared.labelled.CubeEdge.{CubeEdge}
use Rattle.ml_labelled.proofs.CarriedRuns.{accepted_over}

-- ---- what a program holds

same_map : {X Y : Type 0} → (f g : X → Y) (xs : List X) → ((x : X) → IsMember x xs → f x ≡ g x) → map f xs ≡ map g xs
same_map f g [] same = refl
same_map f g (x ∷ xs) same =
    let here = same x (inl refl) in
    let rest = same_map f g xs (λ y m. same y (inr m)) in
    λ i. here i ∷ rest i

-- a state that has an edge is one of them
pub is_state : (a : Automaton) (p : ℕ) (e : Edge) → IsMember e (edges_of a p) → p < length a.edges
is_state a p e m =
    ⊎_elim (λ (low : p < length a.edges). low)
    (λ (high : length a.edges ≤ p). absurd (subst (IsMember e) (get_or_past a.edges p [] high) m)) (cases_lt p (length a.edges))

pub targets_fit : (a : Automaton) → IsLabelled a → TargetsFit (length a.edges) a.edges
targets_fit a is es e m k =
    let at = member-place es a.edges m in (is.edges at.place e (subst (IsMember e) (sym (at.holds [])) k)).to_state

module _ (marks : List Bool) (numbers : List ℕ) (props : List (List ℕ)) (rows kept new : List (Vec CubeEdge))
    (is : IsLabelled (held props rows)) (marked : AreMarked (held props rows) marks) (ranks : AreRanks marks numbers)
    (keeps : IsKept marks rows kept) where
  abbrev a : Automaton
  a = held props rows

  rows_long : length (rows_of rows) ≡ length rows
  rows_long = length-map rows edges_in

  kept_row : (p : ℕ) → p < length rows → mark marks p ≡ true → get_or (rows_of kept) (rank marks p) [] ≡ edges_of a p
  kept_row p low m =
      let long = marked.as_long in
      let many = keeps.as_many in
      let less = count_passes (mark marks) p (length marks) (omega (arith, rows_long)) m in
      by_head rows low (λ row.
      get_or-map edges_in kept (rank marks p) row [] (omega arith)
      ∙ ap edges_in (keeps.at_rank p row (omega (arith, rows_long)) m)
      ∙ sym (get_or-map edges_in rows p row [] low))
    where
      by_head : {P : Type 0} (rows : List (Vec CubeEdge)) → p < length rows → (Vec CubeEdge → P) → P
      by_head [] low go = absurd (omega arith)
      by_head (row ∷ rows) low go = go row

  pub kept_fit : TargetsFit (length numbers) (rows_of kept)
  kept_fit es e m k =
      let long = marked.as_long in
      let many = keeps.as_many in
      let numbered = ranks.as_long in
      let kept_long = length-map kept edges_in in
      let at = member-place es (rows_of kept) m in
      let place = at.below in
      let hit = count_hit (mark marks) (length marks) at.place (omega arith) in
      let low = hit.below in
      let row : es ≡ edges_of a hit.number =
      sym (at.holds []) ∙ ap (λ i. get_or (rows_of kept) i []) (sym hit.rank)
      ∙ kept_row hit.number (omega (arith, rows_long)) hit.passes in
      let fits = (is.edges hit.number e (subst (IsMember e) row k)).to_state in
      omega arith

  pub part_of : rows_of new ≡ map (map (retargeted numbers)) (rows_of kept) → IsPart marks a (held props new)
  part_of made = record {
    props = refl;
    as_many =
        let long = marked.as_long in
        ap length made ∙ length-map (rows_of kept) (map (retargeted numbers)) ∙ length-map kept edges_in ∙ keeps.as_many
        ∙ ap (rank marks) long;
    rows = λ p low m.
        let long = marked.as_long in
        let many = keeps.as_many in
        let kept_long = length-map kept edges_in in
        let less = count_passes (mark marks) p (length marks) (omega arith) m in
        ap (λ rs. get_or rs (rank marks p) []) made
        ∙ get_or-map (map (retargeted numbers)) (rows_of kept) (rank marks p) [] [] (omega arith)
        ∙ ap (map (retargeted numbers)) (kept_row p (omega (arith, rows_long)) m)
        ∙ same_map (retargeted numbers) (moved marks) (edges_of a p)
        (λ e k.
        let to = (is.edges p e k).to_state in
        let at = ranks.are e.to (omega arith) in
        λ i. record { cube = e.cube; to = at i; accepting = e.accepting });
  }

-- ---- parts

module _ (marks : List Bool) (a b : Automaton) (is : IsLabelled a) (marked : AreMarked a marks) (part : IsPart marks a b) where
  record Joined (p x : ℕ) : Type 0 where
    low : p < length a.edges
    passes : mark marks p ≡ true
    number : x ≡ rank marks p

  row_of : (p x : ℕ) → Joined p x → edges_of b x ≡ map (moved marks) (edges_of a p)
  row_of p x j = ap (edges_of b) j.number ∙ part.rows p j.low j.passes

  behind : (p : ℕ) (e : Edge) → mark marks p ≡ true → IsMember e (edges_of a p) → Joined e.to (rank marks e.to)
  behind p e m k = record { low = (is.edges p e k).to_state; passes = marked.closed p e m k; number = refl }

  there : (l : Letter) (p q : ℕ) (c : Bool) (x : ℕ) → Joined p x → Leads a l p q c → (y : ℕ) × Joined q y × Leads b l x y c
  there l p q c x j lead =
      let e = lead.edge in
      let to = behind p e j.passes lead.is_edge in (
        rank marks e.to,
        subst (λ s. Joined s (rank marks e.to)) lead.to_is to,
        record {
          edge = moved marks e;
          is_edge =
              subst (IsMember (moved marks e)) (sym (row_of p x j)) (member-map (moved marks) e (edges_of a p) lead.is_edge);
          fits = subst (λ ps. Fits ps l e.cube) (sym part.props) lead.fits;
          to_is = refl;
          accepting_is = lead.accepting_is;
        },
      )

  back : (l : Letter) (x y : ℕ) (c : Bool) (p : ℕ) → Joined p x → Leads b l x y c → (q : ℕ) × Joined q y × Leads a l p q c
  back l x y c p j lead =
      let i = member-map_from (moved marks) lead.edge (edges_of a p) (subst (IsMember lead.edge) (row_of p x j) lead.is_edge) in
      let e = i.from in
      let same = i.holds in
      let to = behind p e j.passes i.member in
      let number : rank marks e.to ≡ y = sym (ap (λ (f : Edge). f.to) same) ∙ lead.to_is in (
        e.to,
        subst (Joined e.to) number to,
        record {
          edge = e;
          is_edge = i.member;
          fits = subst (λ ps. Fits ps l e.cube) part.props (subst (λ (f : Edge). Fits b.props l f.cube) same lead.fits);
          to_is = refl;
          accepting_is = sym (ap (λ (f : Edge). f.accepting) same) ∙ lead.accepting_is;
        },
      )

  start : Joined 0 0
  start = record { low = is.some_state; passes = marked.started; number = refl }

  pub same_accepted : AcceptSame a b
  same_accepted w lasso = (
    accepted_over (Leads a) (Leads b) Joined there w 0 0 (λ s y z j k. j.number ∙ sym k.number) start,
    accepted_over (Leads b) (Leads a) (λ x p. Joined p x) back w 0 0
        (λ x p q j k. count_same (mark marks) p q j.passes k.passes (sym j.number ∙ k.number)) start,
  )

  carried : (p : ℕ) → IsReached a p → (mark marks p ≡ true) × IsReached b (rank marks p)
  carried _ begins = (marked.started, begins)
  carried _ (along p e reached m) =
      let so_far = carried p reached in
      let low = is_state a p e m in
      let j : Joined p (rank marks p) = record { low = low; passes = so_far.0; number = refl } in
      let edge = subst (IsMember (moved marks e)) (sym (row_of p (rank marks p) j)) (member-map (moved marks) e (edges_of a p) m) in
      (marked.closed p e so_far.0 m, along (rank marks p) (moved marks e) so_far.1 edge)

  ranked : (x : ℕ) → x < length b.edges → Ranked (mark marks) (length a.edges) x
  ranked x low = let many = part.as_many in count_hit (mark marks) (length a.edges) x (omega arith)

  pub part_reached : AreReached b
  part_reached x low =
      let hit = ranked x low in subst (IsReached b) hit.rank (carried hit.number (marked.reached hit.number hit.passes)).1

  pub part_few : length b.edges ≤ length a.edges
  part_few = let many = part.as_many in omega (arith, count_le (mark marks) (length a.edges))

  pub part_labelled : IsLabelled b
  part_labelled = record {
    some_state =
        let many = part.as_many in
        omega (arith, count_passes (mark marks) 0 (length a.edges) is.some_state marked.started);
    few_states = let few = is.few_states in omega (arith, part_few);
    few_props = subst (λ ps. length ps < 2 ^ 32) (sym part.props) is.few_props;
    names = subst (All IsName) (sym part.props) is.names;
    edges = λ x f m.
        let hit = ranked x (is_state b x f m) in
        let j : Joined hit.number x = record { low = hit.below; passes = hit.passes; number = sym hit.rank } in
        let i = member-map_from (moved marks) f (edges_of a hit.number) (subst (IsMember f) (row_of hit.number x j) m) in
        let fits = is.edges hit.number i.from i.member in
        let same = i.holds in
        let many = part.as_many in
        let to = count_passes (mark marks) i.from.to (length a.edges) fits.to_state (marked.closed hit.number i.from hit.passes i.member) in
        subst (λ (g : Edge). IsEdge (length b.edges) (length b.props) g) (sym same)
        (record {
          is_cube = subst (λ ps. IsCube (length ps) i.from.cube) (sym part.props) fits.is_cube;
          to_state = omega arith;
        });
  }

-- ---- all of it

pub same_on : (a b c : Automaton) → AcceptSame a b → AcceptSame b c → AcceptSame a c
same_on a b c first second w lasso = (λ k. (second w lasso).0 ((first w lasso).0 k), λ k. (first w lasso).1 ((second w lasso).1 k))

pub record IsReachedPart (a b : Automaton) : Type 0 where
  pub labelled : IsLabelled b
  pub same : AcceptSame a b
  pub props : b.props ≡ a.props
  pub reached : AreReached b
  pub few : length b.edges ≤ length a.edges

-- one behind the other
pub parts_joined : (a b c : Automaton) → IsReachedPart a b → IsReachedPart b c → IsReachedPart a c
parts_joined a b c first second = record {
  labelled = second.labelled;
  same = same_on a b c first.same second.same;
  props = second.props ∙ first.props;
  reached = second.reached;
  few = let most = first.few in let more = second.few in omega arith;
}

pub part_made : (marks : List Bool) (numbers : List ℕ) (props : List (List ℕ)) (rows kept new : List (Vec CubeEdge))
    → IsLabelled (held props rows)
    → AreMarked (held props rows) marks
    → AreRanks marks numbers
    → IsKept marks rows kept
    → rows_of new ≡ map (map (retargeted numbers)) (rows_of kept)
    → IsReachedPart (held props rows) (held props new)
part_made marks numbers props rows kept new is marked ranks keeps made =
    let a = held props rows in
    let b = held props new in
    let part = part_of marks numbers props rows kept new is marked ranks keeps made in record {
      labelled = part_labelled marks a b is marked part;
      same = same_accepted marks a b is marked part;
      props = refl;
      reached = part_reached marks a b is marked part;
      few = part_few marks a b is marked part;
    }

-- the same of what a program holds
module _ (a : Automaton) (marks ms ns : List Bool) (numbers targets : List ℕ) (props : List (List ℕ))
    (rows kept : List (Vec CubeEdge)) (parts : held props rows ≡ a) (is : IsLabelled a) (marked : AreMarked a marks)
    (first : ms ≡ marks) (second : ns ≡ marks) (third : targets ≡ numbers) (ranks : AreRanks ms numbers)
    (keeps : IsKept ns rows kept) where
  ranks_of : AreRanks marks numbers
  ranks_of = subst (λ xs. AreRanks xs numbers) first ranks

  keeps_of : IsKept marks rows kept
  keeps_of = subst (λ xs. IsKept xs rows kept) second keeps

  labelled_of : IsLabelled (held props rows)
  labelled_of = subst IsLabelled (sym parts) is

  marked_of : AreMarked (held props rows) marks
  marked_of = subst (λ x. AreMarked x marks) (sym parts) marked

  pub fit_from : TargetsFit (length targets) (rows_of kept)
  fit_from =
      subst (λ xs. TargetsFit (length xs) (rows_of kept)) (sym third)
      (kept_fit marks numbers props rows kept [] labelled_of marked_of ranks_of keeps_of)

  pub part_from : (new : List (Vec CubeEdge))
      → rows_of new ≡ map (map (retargeted targets)) (rows_of kept)
      → IsReachedPart a (held props new)
  part_from new made =
      subst (λ x. IsReachedPart x (held props new)) parts
      (part_made marks numbers props rows kept new labelled_of marked_of ranks_of keeps_of
      (made ∙ ap (λ xs. map (map (retargeted xs)) (rows_of kept)) third))
