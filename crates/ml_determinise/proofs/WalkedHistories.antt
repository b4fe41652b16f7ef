-- The walk over the histories, one more at a time.
--
--   walked_begun    == at the start
--   walked_apart, walked_reached == no history stands there twice, and each is reached
--   walked_more     == all letters were followed from one history more
--   walked_numbering, walked_ended == where there are no new histories, they are a numbering with these moves
--   walked_passed   == where letters lead to too many, more are reached than are allowed
use Rattle.std.proofs.Common.{ℕ, ◌≡◌, ◌+◌, ◌<◌, ◌≤◌, ◌⊎◌, inl, inr, arith, List, [], ◌∷◌, ◌++◌, length, map}
use Rattle.std.proofs.Common.{refl, sym, ap, ◌∙◌, subst, append-nil, length-append}
use Rattle.std.specs.List.{flat_map}
use Rattle.std.proofs.Math.Seq.{get_or-append_seam}
use Rattle.std.proofs.lemmas.Grind.{flat_map-append}
use Rattle.std.proofs.lemmas.List.{length-map, map_push}
use Rattle.ml_lists.specs.Member.{IsMember}
use Rattle.ml_lists.proofs.BreadthFirstSearch.{Looked, looked_next, met}
use Rattle.ml_lists.proofs.FirstEntries.{AreApart, firsts, firsts-apart, firsts-member, member-firsts}
use Rattle.ml_lists.proofs.Member.{InList, member-append, member-flat_map, member-flat_map_from, member-map, place-member}
use Rattle.ml_trace.specs.declared.letters.Transition.{Transition}
use Rattle.ml_trace.specs.Stack.{Item}
use Rattle.ml_history.specs.HistoryStep.{start}
use Rattle.ml_history.specs.HistoryOrder.{history_eq, history_eq-decides}
use Rattle.ml_history.specs.HistoryStep.{stepped}
use Rattle.ml_determinise.specs.Numbering.{IsReached, at_start, HasMoreThan, IsNumbered, IsNumberingWithin, moves_from, successors}
use Rattle.ml_determinise.specs.private.Walk.{history_at, IsPartway, IsWalked}
use Rattle.ml_determinise.specs.declared.moves.DetMove.{DetMove}
use Rattle.ml_determinise.proofs.Firsts.{firsts_joined}
use Rattle.ml_determinise.proofs.FollowedLetters.{moves_stay, partway_grows}
use Rattle.ml_determinise.proofs.ReachedHistories.{behind}

-- the moves of a front stay the same where the histories grow
fronts_stay : (states : ℕ) (row : List (List Transition)) (hs more front : List (List (Item ℕ)))
    → ((h : List (Item ℕ)) (letter : List Transition)
    → IsMember h front → IsMember letter row → IsMember (stepped h letter) hs)
    → map (moves_from states row hs) front ≡ map (moves_from states row (hs ++ more)) front
fronts_stay states row hs more [] listed = refl
fronts_stay states row hs more (h ∷ front) listed =
    let here = moves_stay states h hs more row (λ l m. listed h l (inl refl) m) in
    let later = fronts_stay states row hs more front (λ k l m i. listed k l (inr m) i) in
    λ i. here i ∷ later i

-- what stands behind a front begins with the history at its end
at_seam : (front back : List (List (Item ℕ))) (n : ℕ)
    → n ≡ length front
    → n < length (front ++ back)
    → (rest : List (List (Item ℕ))) × (back ≡ history_at (front ++ back) n ∷ rest)
at_seam front [] n is low = absurd (omega (arith, low, is, length-append front []))
at_seam front (k ∷ rest) n is low =
    let same = ap (history_at (front ++ k ∷ rest)) is ∙ get_or-append_seam front k rest [] in
    (rest, λ i. sym same i ∷ rest)

module _ (states : ℕ) (row : List (List Transition)) (q limit : ℕ) where
  abbrev next : List (Item ℕ) → List (List (Item ℕ))
  next = successors row

  abbrev reached : List (Item ℕ) → Type 0
  reached = IsReached row q

  -- what is met from a front
  abbrev met_from : List (List (Item ℕ)) → List (List (Item ℕ))
  met_from front = met history_eq next (start q) front

  pub walked_begun : (hs : List (List (Item ℕ))) (all : List (List DetMove))
      → hs ≡ start q ∷ []
      → all ≡ []
      → 1 ≤ limit
      → IsWalked states row q limit hs all
  walked_begun hs all is none some = record {
    front = [];
    back = start q ∷ [];
    histories_are = is;
    looked = record {
      in_order = refl;
      from_earlier = λ k x e. absurd (cc);
      reached = λ x m. absurd m;
    };
    moves_are = none;
    few = let long = ap length is in omega arith;
  }

  module _ (hs : List (List (Item ℕ))) (all : List (List DetMove)) (w : IsWalked states row q limit hs all) where
    are_met : hs ≡ met_from w.front
    are_met = w.histories_are ∙ w.looked.in_order

    pub walked_apart : AreApart hs
    walked_apart =
        subst AreApart (sym are_met) (firsts-apart history_eq history_eq-decides (start q ∷ flat_map next w.front))

    pub walked_reached : (h : List (Item ℕ)) → IsMember h hs → reached h
    walked_reached h m =
        by_part (firsts-member history_eq h (start q ∷ flat_map next w.front) (subst (IsMember h) are_met m))
      where
        by_part : (h ≡ start q) ⊎ IsMember h (flat_map next w.front) → reached h
        by_part (inl same) = subst reached (sym same) at_start
        by_part (inr i) =
            let l : InList next h w.front = member-flat_map_from next h w.front i in
            behind row q l.from h (w.looked.reached l.from l.member) l.inside

    many : length all ≡ length w.front
    many = ap length w.moves_are ∙ length-map w.front (moves_from states row hs)

    front_listed : (h : List (Item ℕ)) (letter : List Transition)
        → IsMember h w.front
        → IsMember letter row
        → IsMember (stepped h letter) hs
    front_listed h letter m i =
        subst (IsMember (stepped h letter)) (sym are_met)
        (member-firsts history_eq history_eq-decides (stepped h letter) (start q ∷ flat_map next w.front)
        (inr (member-flat_map next h (stepped h letter) w.front m (member-map (stepped h) letter row i))))

    -- ---- one history more

    module _ (low : length all < length hs) where
      abbrev this : List (Item ℕ)
      this = history_at hs (length all)

      rest_is : (rest : List (List (Item ℕ))) × (w.back ≡ this ∷ rest)
      rest_is =
          let within = subst (λ xs. length all < length xs) w.histories_are low in
          let at = at_seam w.front w.back (length all) many within in
          (at.0, at.1 ∙ ap (λ xs. history_at xs (length all) ∷ at.0) (sym w.histories_are))

      further : (more : List (List (Item ℕ))) × Looked history_eq next (start q) reached (w.front ++ this ∷ []) more
      further =
          looked_next history_eq next (start q) reached at_start (behind row q) w.front this rest_is.0
          (subst (Looked history_eq next (start q) reached w.front) rest_is.1 w.looked)

      -- what the histories and those behind this one are, each once
      joined : firsts history_eq (hs ++ next this) ≡ met_from (w.front ++ this ∷ [])
      joined =
          ap (λ xs. firsts history_eq (xs ++ next this)) are_met
          ∙ firsts_joined history_eq history_eq-decides (start q ∷ flat_map next w.front) (next this)
          ∙ ap (λ xs. firsts history_eq (start q ∷ flat_map next w.front ++ xs)) (sym (append-nil (next this)))
          ∙ ap (λ xs. firsts history_eq (start q ∷ xs)) (sym (flat_map-append next w.front (this ∷ [])))

      pub walked_more : (ks : List (List (Item ℕ))) (moves : List DetMove) (longer : List (List DetMove))
          → IsPartway states limit hs this row ks moves
          → longer ≡ all ++ moves ∷ []
          → IsWalked states row q limit ks longer
      walked_more ks moves longer p pushed = record {
        front = w.front ++ this ∷ [];
        back = further.0;
        histories_are = p.met ∙ joined ∙ sym further.1.in_order;
        looked = further.1;
        moves_are = moves_are;
        few = p.few;
      }
        where
          grown : (more : List (List (Item ℕ))) × (ks ≡ hs ++ more)
          grown = partway_grows states limit hs this walked_apart row ks moves p

          earlier : map (moves_from states row hs) w.front ≡ map (moves_from states row ks) w.front
          earlier =
              fronts_stay states row hs grown.0 w.front front_listed
              ∙ ap (λ xs. map (moves_from states row xs) w.front) (sym grown.1)

          moves_are : longer ≡ map (moves_from states row ks) (w.front ++ this ∷ [])
          moves_are =
              pushed
              ∙ ap (λ xs. xs ++ moves ∷ []) (w.moves_are ∙ earlier)
              ∙ ap (λ x. map (moves_from states row ks) w.front ++ x ∷ []) p.moves_are
              ∙ sym (map_push (moves_from states row ks) w.front this)

      pub walked_passed : limit < length (firsts history_eq (hs ++ next this)) → HasMoreThan row q limit
      walked_passed more = record {
        histories = firsts history_eq (hs ++ next this);
        are_apart = firsts-apart history_eq history_eq-decides (hs ++ next this);
        are_reached =
            λ h m. by_part h (member-append h hs (next this) (firsts-member history_eq h (hs ++ next this) m));
        are_more = more;
      }
        where
          by_part : (h : List (Item ℕ)) → IsMember h hs ⊎ IsMember h (next this) → reached h
          by_part h (inl m) = walked_reached h m
          by_part h (inr m) = behind row q this h (walked_reached this (place-member hs (length all) [] low)) m

    -- ---- the end

    module _ (whole : length hs ≤ length all) where
      nothing_behind : w.back ≡ []
      nothing_behind = by_back w.back (ap length w.histories_are ∙ length-append w.front w.back)
        where
          by_back : (back : List (List (Item ℕ))) → length hs ≡ length w.front + length back → back ≡ []
          by_back [] long = refl
          by_back (k ∷ back) long = let same = many in absurd (omega arith)

      all_walked : hs ≡ w.front
      all_walked = w.histories_are ∙ ap (λ xs. w.front ++ xs) nothing_behind ∙ append-nil w.front

      pub walked_numbering : IsNumberingWithin row q limit hs
      walked_numbering = record {
        is_numbering = record {
          in_order = are_met ∙ ap met_from (sym all_walked);
          are_reached = walked_reached;
        };
        few = w.few;
      }

      pub walked_ended : IsNumbered states row q all
      walked_ended = record {
        histories = hs;
        is_numbering = walked_numbering.is_numbering;
        moves_are = w.moves_are ∙ ap (map (moves_from states row hs)) (sym all_walked);
      }
