-- The part of an automaton that is reached: there is one, whoever makes it.
--
--   low_reached     == what is reached is a state
--   all_listed      == the states that are reached are met by a search
--   are_marked      == so they are marked
--   some_part       == and there is the part
use Rattle.std.proofs.Common.{ℕ, ◌≡◌, ◌<◌, ◌≤◌, ◌⊎◌, inl, inr, arith, Bool, true, false, nat_eq, List, [], ◌∷◌, length, map, refl, sym, ap, ◌∙◌, subst, append-nil, true≢false}
use Rattle.std.specs.List.{flat_map, list_any, range_with_len}
use Rattle.std.proofs.lemmas.Bool.{cases_lt, eqb-true}
use Rattle.std.proofs.lemmas.Cmp.{nat_eq_equiv}
use Rattle.std.proofs.lemmas.List.{get_or_past}
use Rattle.std.proofs.lemmas.List.FromFn.{get_or-map-range_with_len, length-map-range_with_len, length-range_with_len}
use Rattle.std.proofs.lemmas.Bool.Decides.{Decides-eqb}
use Rattle.ml_lists.specs.Member.{IsMember}
use Rattle.ml_lists.proofs.BreadthFirstSearch.{Ended, TooMany, search}
use Rattle.ml_lists.proofs.Different.{different_within}
use Rattle.ml_lists.proofs.FirstEntries.{member-firsts}
use Rattle.ml_lists.proofs.Member.{list_any-member, member-flat_map, member-list_any, member-map, member-map_from}
use Rattle.ml_lists.proofs.Ranges.{member-range}
use Rattle.ml_lists.proofs.Ranks.{count_hit, count_passes, count_same}
use Rattle.ml_labelled.specs.Labelled.{Automaton, Edge, IsLabelled, IsReached, along, begins, edges_of}
use Rattle.ml_labelled.specs.private.Reaching.{AreMarked, IsPart, mark, moved, rank}
use Rattle.ml_labelled.proofs.ReachedParts.{IsReachedPart, part_few, part_labelled, part_reached, same_accepted}

module _ (a : Automaton) (is : IsLabelled a) where
  abbrev n : ℕ
  n = length a.edges

  abbrev next : ℕ → List ℕ
  next p = map (λ (e : Edge). e.to) (edges_of a p)

  behind : (p q : ℕ) → IsReached a p → IsMember q (next p) → IsReached a q
  behind p q reached m =
      let i = member-map_from (λ (e : Edge). e.to) q (edges_of a p) m in
      subst (IsReached a) (sym i.holds) (along p i.from reached i.member)

  low_reached : (p : ℕ) → IsReached a p → p < n
  low_reached _ begins = is.some_state
  low_reached _ (along p e reached m) = (is.edges p e m).to_state

  -- ---- a search

  listed : Ended nat_eq next 0 (IsReached a) n
  listed = from (search nat_eq next 0 (IsReached a) begins behind Decides-eqb n)
    where
      from : Ended nat_eq next 0 (IsReached a) n ⊎ TooMany nat_eq next 0 (IsReached a) n → Ended nat_eq next 0 (IsReached a) n
      from (inl e) = e
      from (inr many) =
          let few = different_within many.values (range_with_len 0 n) many.apart
          (λ x m. member-range n x (low_reached x (many.reached x m))) in
          let more = many.more in
          absurd (omega (arith, few, more, length-range_with_len 0 n))

  abbrev values : List ℕ
  values = listed.values

  closed : (x : ℕ) → IsMember x (0 ∷ flat_map next values) → IsMember x values
  closed x m =
      subst (IsMember x) (sym (listed.looked).in_order ∙ append-nil values)
      (member-firsts nat_eq Decides-eqb x (0 ∷ flat_map next values) m)

  all_listed : (x : ℕ) → IsReached a x → IsMember x values
  all_listed _ begins = closed 0 (inl refl)
  all_listed _ (along p e reached m) =
      closed e.to
      (inr (member-flat_map next p e.to values (all_listed p reached) (member-map (λ (f : Edge). f.to) e (edges_of a p) m)))

  -- ---- marks

  abbrev marks : List Bool
  marks = map (λ x. list_any (nat_eq x) values) (range_with_len 0 n)

  mark_is : (x : ℕ) → x < n → mark marks x ≡ list_any (nat_eq x) values
  mark_is x low = get_or-map-range_with_len (λ y. list_any (nat_eq y) values) 0 n x x false low (omega arith)

  marked : (x : ℕ) → IsReached a x → mark marks x ≡ true
  marked x reached =
      mark_is x (low_reached x reached)
      ∙ member-list_any (nat_eq x) x values (all_listed x reached) (nat_eq_equiv.refl x)

  marked_reached : (x : ℕ) → mark marks x ≡ true → IsReached a x
  marked_reached x m = by_place (cases_lt x n)
    where
      by_place : (x < n) ⊎ (n ≤ x) → IsReached a x
      by_place (inl low) =
          let p = list_any-member (nat_eq x) values (sym (mark_is x low) ∙ m) in
          subst (IsReached a) (sym (eqb-true x p.item p.passes)) ((listed.looked).reached p.item p.member)
      by_place (inr high) =
          let long = length-map-range_with_len (λ y. list_any (nat_eq y) values) 0 n in
          absurd (true≢false (sym m ∙ get_or_past marks x false (omega (arith, long, high))))

  are_marked : AreMarked a marks
  are_marked = record {
    as_long = length-map-range_with_len (λ y. list_any (nat_eq y) values) 0 n;
    started = marked 0 begins;
    reached = marked_reached;
    closed = λ p e m k. marked e.to (along p e (marked_reached p m) k);
  }

  -- ---- the part

  abbrev kept : ℕ
  kept = rank marks n

  abbrev row_by : (x : ℕ) → (x < kept) ⊎ (kept ≤ x) → List Edge
  row_by x (inl low) = map (moved marks) (edges_of a (count_hit (mark marks) n x low).number)
  row_by x (inr high) = []

  row_is : (p x : ℕ) → p < n → mark marks p ≡ true → x ≡ rank marks p → (place : (x < kept) ⊎ (kept ≤ x))
      → row_by x place ≡ map (moved marks) (edges_of a p)
  row_is p x low m at (inl few) =
      let hit = count_hit (mark marks) n x few in
      ap (λ q. map (moved marks) (edges_of a q)) (count_same (mark marks) hit.number p hit.passes m (hit.rank ∙ at))
  row_is p x low m at (inr many) =
      let less = count_passes (mark marks) p n low m in absurd (omega (arith, less, at, many))

  abbrev row : ℕ → List Edge
  row x = row_by x (cases_lt x kept)

  abbrev part : Automaton
  part = record { props = a.props; edges = map row (range_with_len 0 kept) }

  is_part : IsPart marks a part
  is_part = record {
    props = refl;
    as_many = length-map-range_with_len row 0 kept;
    rows = λ p low m.
        get_or-map-range_with_len row 0 kept (rank marks p) (rank marks p) [] (count_passes (mark marks) p n low m) (omega arith)
        ∙ row_is p (rank marks p) low m refl (cases_lt (rank marks p) kept);
  }

  pub some_part : (b : Automaton) × IsReachedPart a b
  some_part = (
    part,
    record {
      labelled = part_labelled marks a part is are_marked is_part;
      same = same_accepted marks a part is are_marked is_part;
      props = refl;
      reached = part_reached marks a part is are_marked is_part;
      few = part_few marks a part is are_marked is_part;
    },
  )
