-- What checking parts one by one finds.
--
--   found_next, found_behind, found_before, none_behind == a bad part behind one that keeps its rules, or behind
--                       several; one with more behind it; parts none of which is bad
--   first_of_part    == a part that breaks a rule is the first bad one of itself alone
--   entry_found      == what is found of an entry, by its other name
--   as_accepted, as_first_bad == what is found of the parts of an entry, as acceptance says it
use Rattle.std.proofs.Common.{◌≡◌, ℕ, zero, suc, ◌+◌, ◌<◌, List, [], ◌∷◌, ◌++◌, Option, None, Some, length, get_or, inl, inr, refl, sym, subst, arith}
use Rattle.ml_lists.specs.Member.{IsMember}
use Rattle.ml_lists.specs.Documents.{KeepsAll, IsFirstBroken}
use Rattle.ml_refutation.specs.Refutation.{Entry}
use Rattle.ml_refutation.specs.Acceptance.{entry_at, Part, Sequent, parts, rules, IsAccepted, IsFirstBad}
use Rattle.ml_refute_check.specs.declared.finding.BadPart.{BadPart}
use Rattle.ml_refute_check.specs.private.Parts.{Question, Keeps, KeepEach, FirstBadIn, Finds, front_parts, branch_parts}

module _ (q : Question) (e : ℕ) where
  first_behind : (front parts : List Part) (k n j : ℕ)
      → j ≡ length front + k
      → KeepEach q e front
      → FirstBadIn q e parts k n
      → FirstBadIn q e (front ++ parts) j n
  unfolding FirstBadIn KeepEach
  first_behind [] parts k n j is keep first =
      let same : k ≡ j = omega arith in subst (λ i. FirstBadIn q e parts i n) same first
  first_behind (p ∷ front) parts k n j is keep first =
      let same : suc (length front + k) ≡ j = omega arith in
      subst (λ i. FirstBadIn q e (p ∷ front ++ parts) i n) same
      (keep.0, first_behind front parts k n (length front + k) refl keep.1 first)

  first_before : (front parts : List Part) (k n : ℕ) → FirstBadIn q e front k n → FirstBadIn q e (front ++ parts) k n
  unfolding FirstBadIn
  first_before [] parts k n first = absurd first
  first_before (p ∷ front) parts zero n first = first
  first_before (p ∷ front) parts (suc k) n first = (first.0, first_before front parts k n first.1)

  pub keep_both : (front parts : List Part) → KeepEach q e front → KeepEach q e parts → KeepEach q e (front ++ parts)
  unfolding KeepEach
  keep_both [] parts keep others = others
  keep_both (p ∷ front) parts keep others = (keep.0, keep_both front parts keep.1 others)

  pub found_behind : (front parts : List Part) (bad moved : BadPart)
      → moved.part ≡ length front + bad.part
      → moved.rule ≡ bad.rule
      → Finds q e front None → Finds q e parts (Some bad) → Finds q e (front ++ parts) (Some moved)
  unfolding Finds
  found_behind front parts bad moved part rule none found =
      first_behind front parts bad.part moved.rule moved.part part none
      (subst (λ n. FirstBadIn q e parts bad.part n) (sym rule) found)

  pub found_before : (front parts : List Part) (bad : BadPart)
      → Finds q e front (Some bad)
      → Finds q e (front ++ parts) (Some bad)
  unfolding Finds
  found_before front parts bad found = first_before front parts bad.part bad.rule found

  pub none_behind : (front parts : List Part)
      → Finds q e front None
      → Finds q e parts None
      → Finds q e (front ++ parts) None
  unfolding Finds
  none_behind front parts none others = keep_both front parts none others

  pub none_at_all : Finds q e [] None
  unfolding Finds KeepEach
  none_at_all = tt

  pub none_next : (part : Part) (others : List Part)
      → Keeps q e part
      → Finds q e others None
      → Finds q e (part ∷ others) None
  unfolding Finds KeepEach
  none_next part others keeps none = (keeps, none)

  pub found_next : (part : Part) (others : List Part) (bad moved : BadPart)
      → moved.part ≡ 1 + bad.part
      → moved.rule ≡ bad.rule
      → Keeps q e part → Finds q e others (Some bad) → Finds q e (part ∷ others) (Some moved)
  unfolding Finds FirstBadIn
  found_next part others bad moved at rule keeps found =
      let same : suc bad.part ≡ moved.part = omega arith in
      subst (λ i. FirstBadIn q e (part ∷ others) i moved.rule) same
      (keeps, subst (λ n. FirstBadIn q e others bad.part n) (sym rule) found)

  pub found_first : (part : Part) (others : List Part) (bad : BadPart) → bad.part ≡ 0
      → IsFirstBroken (rules q.refutation e part) q.graph bad.rule
      → Finds q e (part ∷ others) (Some bad)
  unfolding Finds FirstBadIn
  found_first part others bad at broken =
      subst (λ i. FirstBadIn q e (part ∷ others) i bad.rule) (sym at) broken

  -- ---- as acceptance says it

  keep_member : (ps : List Part) → KeepEach q e ps → (part : Part) → IsMember part ps → Keeps q e part
  unfolding KeepEach
  keep_member [] keep part member = absurd member
  keep_member (p ∷ ps) keep part (inl is) = subst (Keeps q e) (sym is) keep.0
  keep_member (p ∷ ps) keep part (inr member) = keep_member ps keep.1 part member

  first_low : (ps : List Part) (k n : ℕ) → FirstBadIn q e ps k n → k < length ps
  unfolding FirstBadIn
  first_low [] k n first = absurd first
  first_low (p ∷ ps) zero n first = omega arith
  first_low (p ∷ ps) (suc k) n first = let low = first_low ps k n first.1 in omega arith

  first_keeps : (ps : List Part) (k n : ℕ) → FirstBadIn q e ps k n → (j : ℕ) → j < k → Keeps q e (get_or ps j Sequent)
  unfolding FirstBadIn
  first_keeps [] k n first j less = absurd first
  first_keeps (p ∷ ps) zero n first j less = absurd (omega arith)
  first_keeps (p ∷ ps) (suc k) n first zero less = first.0
  first_keeps (p ∷ ps) (suc k) n first (suc j) less = first_keeps ps k n first.1 j (omega arith)

  first_broken : (ps : List Part) (k n : ℕ) → FirstBadIn q e ps k n
      → IsFirstBroken (rules q.refutation e (get_or ps k Sequent)) q.graph n
  unfolding FirstBadIn
  first_broken [] k n first = absurd first
  first_broken (p ∷ ps) zero n first = first
  first_broken (p ∷ ps) (suc k) n first = first_broken ps k n first.1

  pub kept_parts : (ps : List Part)
      → Finds q e ps None
      → (part : Part)
      → IsMember part ps
      → KeepsAll (rules q.refutation e part) q.graph
  unfolding Finds
  kept_parts ps found = keep_member ps found

  pub record IsFirstOf (ps : List Part) (k n : ℕ) : Type 0 where
    pub low : k < length ps
    pub keeps : (j : ℕ) → j < k → KeepsAll (rules q.refutation e (get_or ps j Sequent)) q.graph
    pub broken : IsFirstBroken (rules q.refutation e (get_or ps k Sequent)) q.graph n

  pub first_bad_part : (ps : List Part) (bad : BadPart) → Finds q e ps (Some bad) → IsFirstOf ps bad.part bad.rule
  unfolding Finds
  first_bad_part ps bad found = record {
    low = first_low ps bad.part bad.rule found;
    keeps = first_keeps ps bad.part bad.rule found;
    broken = first_broken ps bad.part bad.rule found;
  }

-- the parts of an entry are those before its decision, and then its branches
pub parts_are : (e : Entry) → parts e ≡ front_parts e ++ branch_parts [] e.decision
unfolding front_parts branch_parts
parts_are e = refl

-- ---- all entries

module _ (q : Question) where
  abbrev pub EntryKept : ℕ → Type 0
  EntryKept d = Finds q d (parts (entry_at q.refutation d)) None

  pub entry_found : (e : ℕ) {found made : Option BadPart} → found ≡ made
      → Finds q e (parts (entry_at q.refutation e)) found
      → Finds q e (parts (entry_at q.refutation e)) made
  entry_found e is finds = subst (Finds q e (parts (entry_at q.refutation e))) is finds

  pub as_accepted : ((d : ℕ) → d < length q.refutation.entries → EntryKept d) → IsAccepted q.graph q.refutation
  as_accepted kept e part low member = kept_parts q e (parts (entry_at q.refutation e)) (kept e low) part member

  pub as_first_bad : (e : ℕ) (bad : BadPart) → e < length q.refutation.entries → ((d : ℕ) → d < e → EntryKept d)
      → Finds q e (parts (entry_at q.refutation e)) (Some bad)
      → IsFirstBad q.graph q.refutation e bad.part bad.rule
  as_first_bad e bad low kept found =
      let first = first_bad_part q e (parts (entry_at q.refutation e)) bad found in
      record {
        is_entry = low;
        is_part = first.low;
        entries_before =
            λ d part less member. kept_parts q d (parts (entry_at q.refutation d)) (kept d less) part member;
        parts_before = first.keeps;
        broken = first.broken;
      }
