-- What is noted of the places of a trail, when one place more is noted, when the trail grows, and when it is cut.
--
--   first_more, first_cut, first_same == the first place of a kind: with one place more, of fewer places, of an
--                                        equal kind
--   noted_none  == of no places nothing has to be noted
--   noted_more  == one place more
--   noted_front == of a trail with the same front
--   noted_cut   == of the front of a trail
--   open_less, open_front == candidates where fewer nodes are open, and of a trail with the same front
use Rattle.std.proofs.Common.{ℕ, ◌≡◌, ◌+◌, ◌-◌, ◌<◌, ◌≤◌, ◌⊎◌, ◌↔◌, inl, inr, Bool, true, false, IsTrue, min, nat_lt, List, length, get_or, take, Option, Some, None, refl, sym, ap, ◌∙◌, subst, arith}
use Rattle.std.proofs.lemmas.Bool.{cases_Bool, cases_lt, cond-true, cond-false}
use Rattle.std.proofs.lemmas.Bool.Decides.{nat_tests}
use Rattle.std.proofs.lemmas.List.{get_or-take, get_or_past, length-take}
use Rattle.ml_lists.proofs.Member.{place-member}
use Rattle.ml_graph.specs.declared.node.Node.TheVariants as node
use Rattle.ml_graph.specs.Graph.{Graph, size, node_at}
use Rattle.ml_sequent.specs.declared.choice.Side.{Side}
use Rattle.ml_sequent.specs.Choice.{side_of, with_side}
use Rattle.ml_sequent.specs.Spread.{IsOpenNode}
use Rattle.ml_sequent.specs.private.Descents.{MayCycle}
use Rattle.ml_sequent.specs.private.Notes.{NotesList, HasLiteral, AreFirsts, HasFirsts, IsConflict, IsFirstPlace, IsNoted, IsOpenAt, HasOpen, KeepsNotes, other, noted_first, cut_first, cut, with_candidates}
use Rattle.ml_sequent.specs.private.Tournament.{TournamentList, Holds}
use Rattle.ml_sequent.proofs.ChoicesWith.{side_kept}

-- ---- the first place of a kind

module _ (P : ℕ → Type 0) where
  -- with one place more
  pub first_more : (k : ℕ) (o : Option ℕ) (b : Bool) → IsFirstPlace P k o → IsTrue b ↔ P k → IsFirstPlace P (k + 1)
      (noted_first o b k)
  first_more k (Some j) b is told = (omega (arith, is.0), is.1, is.2)
  first_more k None true is told = (omega arith, told.0 refl, is)
  first_more k None false is told = λ j low h. at j low h (cases_lt j k)
    where
      at : (j : ℕ) → j < k + 1 → P j → (j < k) ⊎ (k ≤ j) → ⊥
      at j low h (inl less) = is j less h
      at j low h (inr more) =
          let here : j ≡ k = omega arith in
          let there = told.1 (subst P here h) in cc

  -- of fewer places
  pub first_cut : (k len : ℕ) (o : Option ℕ) → IsFirstPlace P k o → IsFirstPlace P (min k len) (cut_first o len)
  first_cut k len None is = λ j low. is j (omega arith)
  first_cut k len (Some b) is = by_test (cases_Bool (nat_lt b len))
    where
      by_test : (nat_lt b len ≡ true) ⊎ (nat_lt b len ≡ false) → IsFirstPlace P (min k len) (cut_first (Some b) len)
      by_test (inl test) =
          let less : b < len = grind (arith, nat_tests) in
          let low = is.0 in
          subst (IsFirstPlace P (min k len)) (sym (cond-true (nat_lt b len) (Some b) None test))
          (omega arith, is.1, is.2)
      by_test (inr test) =
          let more : len ≤ b = grind (arith, nat_tests) in
          subst (IsFirstPlace P (min k len)) (sym (cond-false (nat_lt b len) (Some b) None test))
          (λ j low. is.2 j (omega arith))

-- of an equal kind
pub first_same : (P Q : ℕ → Type 0) (k : ℕ) (o : Option ℕ) → ((j : ℕ) → j < k → P j → Q j) →
    ((j : ℕ) → j < k → Q j → P j)
    → IsFirstPlace P k o
    → IsFirstPlace Q k o
first_same P Q k None to from is = λ j low h. is j low (from j low h)
first_same P Q k (Some b) to from is =
    (is.0, to b is.0 is.1, λ j low h. (let high = is.0 in is.2 j low (from j (omega arith) h)))

-- ---- what is noted

-- one place more
pub noted_more : (g : Graph) (ranks nodes : List ℕ) (k : ℕ) (x y : NotesList) (conflict suspect : Bool)
    → HasFirsts g nodes (k + 1) y.literals
    → IsTrue conflict ↔ IsConflict g nodes k
    → IsTrue suspect ↔ MayCycle g ranks (get_or nodes k 0)
    → y.conflict ≡ noted_first x.conflict conflict k
    → y.suspect ≡ noted_first x.suspect suspect k
    → y.candidates.room ≡ x.candidates.room
    → IsNoted g ranks nodes k x
    → IsNoted g ranks nodes (k + 1) y
noted_more g ranks nodes k x y conflict suspect firsts is_conflict is_suspect conflicts suspects room is = record {
  literals = firsts;
  conflict = subst (IsFirstPlace (IsConflict g nodes) (k + 1)) (sym conflicts)
      (first_more (IsConflict g nodes) k x.conflict conflict is.conflict is_conflict);
  suspect = subst (IsFirstPlace (λ j. MayCycle g ranks (get_or nodes j 0)) (k + 1)) (sym suspects)
      (first_more (λ j. MayCycle g ranks (get_or nodes j 0)) k x.suspect suspect is.suspect is_suspect);
  room = room ∙ is.room;
}

-- of a trail with the same front
module _ (g : Graph) (nodes nodes2 : List ℕ) (k : ℕ) (same : (j : ℕ) → j < k → get_or nodes2 j 0 ≡ get_or nodes j
    0) where
  firsts_front : (positive : Bool) (firsts : List ℕ) → AreFirsts g nodes k positive firsts → AreFirsts g nodes2 k
      positive firsts
  firsts_front positive firsts are = record {
    sizes = are.sizes;
    first = λ j p low is. first j p low (are.first j p low (ap (node_at g) (sym (same j low)) ∙ is));
  }
    where
      first : (j p : ℕ) → j < k
          → (get_or firsts p 0 ≤ j) × (node_at g (get_or nodes (get_or firsts p 0) 0) ≡ node.Lit p positive)
          → (get_or firsts p 0 ≤ j) × (node_at g (get_or nodes2 (get_or firsts p 0) 0) ≡ node.Lit p positive)
      first j p low h = let early = h.0 in (h.0, ap (node_at g) (same (get_or firsts p 0) (omega arith)) ∙ h.1)

  literal_front : (j p : ℕ) (positive : Bool) → j ≤ k → HasLiteral g nodes j p positive → HasLiteral g nodes2 j p
      positive
  literal_front j p positive low h = record {
    place = h.place;
    before = h.before;
    is = ap (node_at g) (same h.place (omega (arith, h.before))) ∙ h.is;
  }

  conflict_front : (j : ℕ) → j < k → IsConflict g nodes j → IsConflict g nodes2 j
  conflict_front j low (inl is) = inl (ap (node_at g) (same j low) ∙ is)
  conflict_front j low (inr is) = inr (record {
    prop = is.prop;
    positive = is.positive;
    here = ap (node_at g) (same j low) ∙ is.here;
    there = literal_front j is.prop (other is.positive) (omega arith) is.there;
  })

pub noted_front : (g : Graph) (ranks nodes nodes2 : List ℕ) (k : ℕ) (x : NotesList)
    → ((j : ℕ) → j < k → get_or nodes2 j 0 ≡ get_or nodes j 0)
    → IsNoted g ranks nodes k x
    → IsNoted g ranks nodes2 k x
noted_front g ranks nodes nodes2 k x same is = record {
  literals = record {
    positives = firsts_front g nodes nodes2 k same true x.literals.positives is.literals.positives;
    negatives = firsts_front g nodes nodes2 k same false x.literals.negatives is.literals.negatives;
  };
  conflict = first_same (IsConflict g nodes) (IsConflict g nodes2) k x.conflict (conflict_front g nodes nodes2 k same)
      (conflict_front g nodes2 nodes k (λ j low. sym (same j low))) is.conflict;
  suspect = first_same (λ j. MayCycle g ranks (get_or nodes j 0)) (λ j. MayCycle g ranks (get_or nodes2 j 0)) k
      x.suspect
      (λ j low h. subst (MayCycle g ranks) (sym (same j low)) h) (λ j low h. subst (MayCycle g ranks) (same j low)
      h) is.suspect;
  room = is.room;
}

-- of the front of a trail
firsts_fewer : (g : Graph) (nodes : List ℕ) (k m : ℕ) (positive : Bool) (firsts : List ℕ) → m ≤ k
    → AreFirsts g nodes k positive firsts
    → AreFirsts g nodes m positive firsts
firsts_fewer g nodes k m positive firsts less are = record {
  sizes = are.sizes;
  first = λ j p low. are.first j p (omega arith);
}

noted_fewer : (g : Graph) (ranks nodes : List ℕ) (k len : ℕ) (x : NotesList) → IsNoted g ranks nodes k x
    → IsNoted g ranks nodes (min k len) (cut len x)
noted_fewer g ranks nodes k len x is = record {
  literals = record {
    positives = firsts_fewer g nodes k (min k len) true x.literals.positives (omega arith) is.literals.positives;
    negatives = firsts_fewer g nodes k (min k len) false x.literals.negatives (omega arith) is.literals.negatives;
  };
  conflict = first_cut (IsConflict g nodes) k len x.conflict is.conflict;
  suspect = first_cut (λ j. MayCycle g ranks (get_or nodes j 0)) k len x.suspect is.suspect;
  room = is.room;
}

-- ---- candidates

-- how many numbers are left from this one on
abbrev pub ahead : ℕ → Option ℕ → ℕ
ahead room None = 0
ahead room (Some n) = room - n

-- ---- what a branch keeps

-- of no places nothing has to be noted
pub noted_none : (g : Graph) (ranks : List ℕ) (c : List (ℕ × Side)) (nodes : List ℕ) (x : NotesList)
    → x.done ≡ 0
    → x.conflict ≡ None
    → x.suspect ≡ None
    → x.candidates.room ≡ size g
    → HasFirsts g nodes 0 x.literals
    → KeepsNotes g ranks c nodes x
noted_none g ranks c nodes x none conflict suspect room firsts = record {
  within = omega (arith, none);
  noted = record {
    literals = subst (λ k. HasFirsts g nodes k x.literals) (sym none) firsts;
    conflict = subst (IsFirstPlace (IsConflict g nodes) x.done) (sym conflict) (λ j low. absurd (omega (arith, none)));
    suspect = subst (IsFirstPlace (λ j. MayCycle g ranks (get_or nodes j 0)) x.done) (sym suspect)
        (λ j low. absurd (omega (arith, none)));
    room = room;
  };
  has_open = λ j low. absurd (omega (arith, none));
}

-- where fewer nodes are open
pub open_less : (g : Graph) (c c2 : List (ℕ × Side)) (nodes : List ℕ) (k : ℕ) (t : TournamentList)
    → ((n : ℕ) → side_of c2 n ≡ None → side_of c n ≡ None)
    → HasOpen g c nodes k t
    → HasOpen g c2 nodes k t
open_less g c c2 nodes k t less has = λ j low is. has j low (record {
  left = is.left;
  right = is.right;
  is_or = is.is_or;
  unchosen = less (get_or nodes j 0) is.unchosen;
})

-- with one place more
pub open_more : (g : Graph) (c : List (ℕ × Side)) (nodes : List ℕ) (k n : ℕ) (t t2 : TournamentList)
    → n ≡ get_or nodes k 0
    → ((m : ℕ) → Holds t m → Holds t2 m)
    → ((l r : ℕ) → node_at g n ≡ node.Or l r → Holds t2 n)
    → HasOpen g c nodes k t
    → HasOpen g c nodes (k + 1) t2
open_more g c nodes k n t t2 here kept added has = λ j low is. at j low is (cases_lt j k)
  where
    at : (j : ℕ) → j < k + 1 → IsOpenNode g c (get_or nodes j 0) → (j < k) ⊎ (k ≤ j) → Holds t2 (get_or nodes j 0)
    at j low is (inl less) = kept (get_or nodes j 0) (has j less is)
    at j low is (inr more) =
        let last : j ≡ k = omega arith in
        let same : get_or nodes j 0 ≡ n = ap (λ i. get_or nodes i 0) last ∙ sym here in
        subst (Holds t2) (sym same) (added is.left is.right (ap (node_at g) (sym same) ∙ is.is_or))

pub open_front : (g : Graph) (c : List (ℕ × Side)) (nodes nodes2 : List ℕ) (k m : ℕ) (t : TournamentList)
    → m ≤ k
    → ((j : ℕ) → j < m → get_or nodes2 j 0 ≡ get_or nodes j 0)
    → HasOpen g c nodes k t
    → HasOpen g c nodes2 m t
open_front g c nodes nodes2 k m t less same has = λ j low is.
    subst (Holds t) (sym (same j low)) (has j (omega arith) (subst (IsOpenNode g c) (same j low) is))

-- a longer trail
pub keeps_longer : (g : Graph) (ranks : List ℕ) (c : List (ℕ × Side)) (nodes nodes2 : List ℕ) (x : NotesList)
    → take (length nodes) nodes2 ≡ nodes
    → KeepsNotes g ranks c nodes x
    → KeepsNotes g ranks c nodes2 x
keeps_longer g ranks c nodes nodes2 x grown keeps = record {
  within = omega (arith, keeps.within, ap length grown, length-take (length nodes) nodes2);
  noted = noted_front g ranks nodes nodes2 x.done x same keeps.noted;
  has_open = open_front g c nodes nodes2 x.done x.done x.candidates (omega arith) same keeps.has_open;
}
  where
    same : (j : ℕ) → j < x.done → get_or nodes2 j 0 ≡ get_or nodes j 0
    same j low =
        let within = keeps.within in
        sym (get_or-take (length nodes) nodes2 j 0 (omega arith)) ∙ ap (λ xs. get_or xs j 0) grown

-- its front
pub keeps_cut : (g : Graph) (ranks : List ℕ) (c : List (ℕ × Side)) (nodes : List ℕ) (len : ℕ) (x : NotesList)
    → KeepsNotes g ranks c nodes x
    → KeepsNotes g ranks c (take len nodes) (cut len x)
keeps_cut g ranks c nodes len x keeps = record {
  within = omega (arith, keeps.within, length-take len nodes);
  noted = noted_front g ranks nodes (take len nodes) (min x.done len) (cut len x) same
      (noted_fewer g ranks nodes x.done len x keeps.noted);
  has_open = open_front g c nodes (take len nodes) x.done (min x.done len) x.candidates (omega arith) same
      keeps.has_open;
}
  where
    same : (j : ℕ) → j < min x.done len → get_or (take len nodes) j 0 ≡ get_or nodes j 0
    same j low = get_or-take len nodes j 0 (omega arith)

-- where fewer nodes are open
keeps_closed : (g : Graph) (ranks : List ℕ) (c c2 : List (ℕ × Side)) (nodes : List ℕ) (x : NotesList)
    → ((n : ℕ) → side_of c2 n ≡ None → side_of c n ≡ None)
    → KeepsNotes g ranks c nodes x
    → KeepsNotes g ranks c2 nodes x
keeps_closed g ranks c c2 nodes x less keeps = record {
  within = keeps.within;
  noted = keeps.noted;
  has_open = open_less g c c2 nodes x.done x.candidates less keeps.has_open;
}

-- with a side more, and a longer trail
pub keeps_chosen : (g : Graph) (ranks : List ℕ) (c c2 : List (ℕ × Side)) (nodes nodes2 : List ℕ) (x : NotesList)
    (at : ℕ) (s : Side)
    → side_of c at ≡ None
    → c2 ≡ with_side c at s
    → take (length nodes) nodes2 ≡ nodes
    → KeepsNotes g ranks c nodes x
    → KeepsNotes g ranks c2 nodes2 x
keeps_chosen g ranks c c2 nodes nodes2 x at s none is grown keeps =
    keeps_longer g ranks c2 nodes nodes2 x grown
    (keeps_closed g ranks c c2 nodes x (λ n h. unchosen n (side_of c n) refl
    (subst (λ d. side_of d n ≡ None) is h)) keeps)
  where
    unchosen : (n : ℕ) (o : Option Side) → side_of c n ≡ o → side_of (with_side c at s) n ≡ None → side_of c n ≡ None
    unchosen n None e h = e
    unchosen n (Some y) e h = let both = sym (side_kept c at s n y none e) ∙ h in absurd (cc)

-- where a side is taken back, and its node is a candidate again
pub keeps_undone : (g : Graph) (ranks : List ℕ) (c c2 : List (ℕ × Side)) (nodes nodes2 : List ℕ) (len : ℕ)
    (x y z : NotesList)
    (n : ℕ) (left : Option ℕ)
    → nodes2 ≡ take len nodes
    → y ≡ cut len x
    → left ≡ Some n
    → ((m : ℕ) → side_of c2 m ≡ None → (side_of c m ≡ None) ⊎ (left ≡ Some m))
    → z ≡ with_candidates z.candidates y
    → z.candidates.room ≡ y.candidates.room
    → ((m : ℕ) → Holds y.candidates m → Holds z.candidates m)
    → (n < y.candidates.room → Holds z.candidates n)
    → KeepsNotes g ranks c nodes x
    → KeepsNotes g ranks c2 nodes2 z
keeps_undone g ranks c c2 nodes nodes2 len x y z n left trail is_cut is_left others same room kept added keeps =
    subst (KeepsNotes g ranks c2 nodes2) (sym same) (record {
      within = short.within;
      noted = record {
        literals = short.noted.literals;
        conflict = short.noted.conflict;
        suspect =
            short.noted.suspect;
        room = room ∙ short.noted.room;
      };
      has_open = λ j low is. at j low is (others (get_or nodes2 j 0) is.unchosen);
    })
  where
    short : KeepsNotes g ranks c nodes2 y
    short = subst (λ xs. KeepsNotes g ranks c xs y) (sym trail)
        (subst (KeepsNotes g ranks c (take len nodes)) (sym is_cut) (keeps_cut g ranks c nodes len x keeps))

    or_low : (m : ℕ) → IsOpenNode g c2 m → (m < size g) ⊎ (size g ≤ m) → m < size g
    or_low m is (inl low) = low
    or_low m is (inr high) =
        let past = sym (get_or_past g.nodes m node.True high) ∙ is.is_or in
        absurd (cc)

    at : (j : ℕ) → j < y.done → IsOpenNode g c2 (get_or nodes2 j 0)
        → (side_of c (get_or nodes2 j 0) ≡ None) ⊎ (left ≡ Some (get_or nodes2 j 0))
        → Holds z.candidates (get_or nodes2 j 0)
    at j low is (inl before) = kept (get_or nodes2 j 0) (short.has_open j low (record {
      left = is.left;
      right = is.right;
      is_or = is.is_or;
      unchosen = before;
    }))
    at j low is (inr here) =
        let both = sym is_left ∙ here in
        let own : n ≡ get_or nodes2 j 0 = cc in
        let fits : n < y.candidates.room =
        subst (λ m. m < y.candidates.room) (sym own) (subst (λ k. get_or nodes2 j 0 < k) (sym short.noted.room)
        (or_low (get_or nodes2 j 0) is (cases_lt (get_or nodes2 j 0) (size g)))) in
        subst (Holds z.candidates) own (added fits)

-- where none is taken back
pub keeps_left : (g : Graph) (ranks : List ℕ) (c c2 : List (ℕ × Side)) (nodes nodes2 : List ℕ) (len : ℕ)
    (x y : NotesList)
    (left : Option ℕ)
    → nodes2 ≡ take len nodes
    → y ≡ cut len x
    → left ≡ None
    → ((m : ℕ) → side_of c2 m ≡ None → (side_of c m ≡ None) ⊎ (left ≡ Some m))
    → KeepsNotes g ranks c nodes x
    → KeepsNotes g ranks c2 nodes2 y
keeps_left g ranks c c2 nodes nodes2 len x y left trail is_cut none others keeps =
    subst (λ xs. KeepsNotes g ranks c2 xs y) (sym trail)
    (subst (KeepsNotes g ranks c2 (take len nodes)) (sym is_cut)
    (keeps_closed g ranks c c2 (take len nodes) (cut len x) (λ m h. at m (others m h))
    (keeps_cut g ranks c nodes len x keeps)))
  where
    at : (m : ℕ) → (side_of c m ≡ None) ⊎ (left ≡ Some m) → side_of c m ≡ None
    at m (inl before) = before
    at m (inr here) = let both = sym none ∙ here in absurd (cc)

-- where all places are noted, and only candidates were taken away that aren't open
pub keeps_looked : (g : Graph) (ranks : List ℕ) (c : List (ℕ × Side)) (nodes : List ℕ) (y z : NotesList)
    → y.done ≡ length nodes
    → IsNoted g ranks nodes y.done y
    → HasOpen g c nodes y.done y.candidates
    → z ≡ with_candidates z.candidates y
    → z.candidates.room ≡ y.candidates.room
    → ((n : ℕ) → Holds y.candidates n → IsOpenAt g c nodes n → Holds z.candidates n)
    → KeepsNotes g ranks c nodes z
keeps_looked g ranks c nodes y z all noted has same room kept =
    subst (KeepsNotes g ranks c nodes) (sym same) (record {
      within = omega (arith, all);
      noted = record {
        literals = noted.literals;
        conflict = noted.conflict;
        suspect = noted.suspect;
        room = room ∙
            noted.room;
      };
      has_open = λ j low is. kept (get_or nodes j 0) (has j low is)
          (record { member = place-member nodes j 0 (omega (arith, low, all)); is_open = is });
    })
