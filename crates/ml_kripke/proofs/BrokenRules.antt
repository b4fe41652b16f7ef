-- The first rule that a line breaks, place by place.
--
--   no_number, no_states, bad_start     == the lines `states n` and `start s`
--   missing_numbered, missing_state, missing_edge  == lines that are missing
--   other_number, other_labels          == the line of a state
--   other_kind, no_numbers, other_edge  == the line of an edge
--   no_end                              == bytes that aren't `end` are no line `end`
--   lowest_state, lowest_edge           == the lowest rule, where a line may not be of its kind
--   stated_is                           == a line of `state` and further words is one of its kind but for empty words
--   edge_line_is                        == the line of an edge, from its words
use Rattle.std.proofs.Common.{◌≡◌, ◌≢◌, ℕ, ◌^◌, ◌<◌, ◌≤◌, List, [], ◌∷◌, Option, length, drop, All, codes, refl, inl, inr, sym, ap, subst, ◌∙◌, ⊎_elim, arith}
use Rattle.std.specs.List.{join_with_byte}
use Rattle.std.proofs.lemmas.List.Splits.{join_with_byte-slice_split}
use Rattle.ml_base.specs.declared.structure.Edge.{Edge}
use Rattle.ml_base.specs.Name.{IsName}
use Rattle.ml_lines.specs.Lines.{Word, Line, number}
use Rattle.ml_lines.specs.Reading.{AreWords, IsNumber, IsWordBehind, is_blank, words_of, value, word}
use Rattle.ml_lines.proofs.Cuts.{some_part}
use Rattle.ml_lines.proofs.Numbers.{value-number}
use Rattle.ml_lists.specs.Documents.{IsFirstBroken}
use Rattle.ml_kripke.specs.BodyRules.{Place, AtStates, AtStart, AtState, AtEdge, rules, IsStated, IsEdged, HasNumbers, IsEdgeBehind}
use Rattle.ml_kripke.specs.RuleNumbers.{rule_number}
use Rattle.ml_kripke.specs.private.BodyParts.{IsEdgeLine, Ascend}
use Rattle.ml_kripke.specs.private.Refusals.{IsLowest}
use Rattle.ml_kripke.specs.ModelText.{edge_line}
use Rattle.ml_kripke.specs.BodyLines.{end_line}
use Rattle.ml_kripke.specs.declared.body_rule.BodyRule.{BodyRule}
use Rattle.ml_kripke.specs.declared.body_rule.BodyRule.TheVariants.{OfKind, Numbers, HasStates, StartInRange, NextState, Labels, Edges}

module _ (left : List ℕ) where
  abbrev pub Breaks : Place → BodyRule → Line → Type 0
  Breaks place r line = IsFirstBroken (rules left place) line (rule_number r)

  -- ---- lines that are missing

  missing : (fixed : Word) → ¬ (IsWordBehind fixed [])
  missing fixed (words, is) = let apart : [] ≡ fixed ∷ word [] 1 ∷ [] = is in cc

  pub missing_states : Breaks AtStates OfKind []
  missing_states = inl (refl, missing (codes "states"))

  pub missing_start : (n : ℕ) → Breaks (AtStart n) OfKind []
  missing_start n = inl (refl, missing (codes "start"))

  pub missing_state : (n i : ℕ) → Breaks (AtState n i) OfKind []
  missing_state n i = inl (refl, λ (words, is). let apart : [] ≡ codes "state" ∷ word [] 1 ∷ [] = is in cc)

  pub missing_edge : (n : ℕ) (before : Option Edge) → Breaks (AtEdge n before) OfKind []
  missing_edge n before =
      inl (
        refl,
        ⊎_elim (λ (end : [] ≡ codes "end" ∷ []). cc)
            (λ (edge : IsEdged []). let apart : [] ≡ codes "edge" ∷ word [] 1 ∷ word [] 2 ∷ word [] 3 ∷ [] = edge.1 in
            cc),
      )

  -- ---- a fixed word and a number

  module _ (line : Line) (w : Word) (words : AreWords line) where
    pub no_number : line ≡ codes "states" ∷ w ∷ [] → ¬ (IsNumber w) → Breaks AtStates Numbers line
    no_number is none =
        subst (Breaks AtStates Numbers) (sym is) (inr ((subst AreWords is words, refl), inl (refl, none)))

    pub no_states : line ≡ codes "states" ∷ w ∷ [] → w ≡ number 0 → Breaks AtStates HasStates line
    no_states is zero_is =
        let zero_value : value w ≡ 0 = ap value zero_is ∙ value-number 0 (omega arith) in
        subst (Breaks AtStates HasStates) (sym is)
        (inr (
          (subst AreWords is words, refl),
          inr
              ((0, omega arith, zero_is), inl (refl, λ some. absurd (omega (arith, zero_value)))),
        ))

    module _ (n : ℕ) (is : line ≡ codes "start" ∷ w ∷ []) where
      pub no_start : ¬ (IsNumber w) → Breaks (AtStart n) Numbers line
      no_start none =
          subst (Breaks (AtStart n) Numbers) (sym is) (inr ((subst AreWords is words, refl), inl (refl, none)))

      pub bad_start : (k : ℕ) → w ≡ number k → k < 2 ^ 32 → n ≤ k → Breaks (AtStart n) StartInRange line
      bad_start k is_k fits past =
          let is_value : value w ≡ k = ap value is_k ∙ value-number k (omega arith) in
          subst (Breaks (AtStart n) StartInRange) (sym is)
          (inr (
            (subst AreWords is words, refl),
            inr
                ((k, fits, is_k), inl (refl, λ below. absurd (omega (arith, is_value)))),
          ))

  -- ---- the line of a state

  module _ (n i : ℕ) (line : Line) (w : Word) (labels : List Word) (words : AreWords line)
      (is : line ≡ codes "state" ∷ w ∷ labels) where
    kind : IsStated (codes "state" ∷ w ∷ labels)
    kind = (subst AreWords is words, refl)

    module _ (k : ℕ) (is_k : w ≡ number k) (fits : k < 2 ^ 32) where
      value_is : value w ≡ k
      value_is = ap value is_k ∙ value-number k (omega arith)

      pub other_number : k ≢ i → Breaks (AtState n i) NextState line
      other_number apart =
          subst (Breaks (AtState n i) NextState) (sym is)
          (inr (kind, inr ((k, fits, is_k), inl (refl, λ next. apart (sym value_is ∙ next)))))

      pub other_labels : k ≡ i → ¬ (All IsName labels × Ascend labels) → Breaks (AtState n i) Labels line
      other_labels same none =
          subst (Breaks (AtState n i) Labels) (sym is)
          (inr (kind, inr ((k, fits, is_k), inr (value_is ∙ same, inl (refl, none)))))

  pub lowest_state : (n i : ℕ) (line : Line) (rule r : BodyRule)
      → IsLowest (IsStated line) rule r
      → (IsStated line → Breaks (AtState n i) rule line)
      → Breaks (AtState n i) r line
  lowest_state n i line rule r (inl (is, stated)) broken =
      subst (λ q. Breaks (AtState n i) q line) (sym is) (broken stated)
  lowest_state n i line rule r (inr (is, other)) broken =
      subst (λ q. Breaks (AtState n i) q line) (sym is) (inl (refl, other))

  -- ---- the line of an edge

  module _ (n : ℕ) (before : Option Edge) (line : Line) where
    pub other_kind : line ≢ end_line → ¬ (IsEdged line) → Breaks (AtEdge n before) OfKind line
    other_kind apart none = inl (refl, ⊎_elim apart none)

    pub lowest_edge : (rule r : BodyRule)
        → line ≢ end_line
        → IsLowest (IsEdged line) rule r
        → (IsEdged line → Breaks (AtEdge n before) rule line)
        → Breaks (AtEdge n before) r line
    lowest_edge rule r apart (inl (is, edged)) broken =
        subst (λ q. Breaks (AtEdge n before) q line) (sym is) (broken edged)
    lowest_edge rule r apart (inr (is, other)) broken =
        subst (λ q. Breaks (AtEdge n before) q line) (sym is) (other_kind apart other)

    -- the line is that of no edge whose numbers fit
    pub no_numbers : ((e : Edge) → e.source < 2 ^ 32 → e.target < 2 ^ 32 → line ≢ edge_line e)
        → line ≢ end_line
        → IsEdged line
        → Breaks (AtEdge n before) Numbers line
    no_numbers none apart edged = inr (inr edged, inl (refl, ⊎_elim apart unspelt))
      where
        unspelt : HasNumbers line → ⊥
        unspelt ((x, fits_x, is_x), (y, fits_y, is_y)) =
            none (record { source = x; action = word line 2; target = y }) fits_x fits_y
            (edged.1 ∙ ap (λ v. codes "edge" ∷ v ∷ word line 2 ∷ word line 3 ∷ []) is_x
            ∙ ap (λ v. codes "edge" ∷ number x ∷ word line 2 ∷ v ∷ []) is_y)

    module _ (s a t : Word) (words : AreWords line) (is : line ≡ codes "edge" ∷ s ∷ a ∷ t ∷ []) where
      abbrev spelt : Line
      spelt = codes "edge" ∷ s ∷ a ∷ t ∷ []

      not_end : spelt ≢ end_line
      not_end e = cc

      edged : IsEdged spelt
      edged = (subst AreWords is words, refl)

      module _ (x y : ℕ) (is_x : s ≡ number x) (is_y : t ≡ number y) (fits_x : x < 2 ^ 32) (fits_y : y < 2 ^ 32) where
        abbrev edge : Edge
        edge = record { source = x; action = a; target = y }

        abbrev told : Edge
        told = record { source = value s; action = a; target = value t }

        -- the edge that the words are
        edge_is : told ≡ edge
        edge_is =
            let from = ap value is_x ∙ value-number x (omega arith) in
            let to = ap value is_y ∙ value-number y (omega arith) in
            λ i. record { source = from i; action = a; target = to i }

        pub other_edge : ¬ (IsEdgeBehind n before edge) → Breaks (AtEdge n before) Edges line
        other_edge none =
            let bad =
            ⊎_elim not_end (λ (behind : IsEdgeBehind n before told). none
            (subst (IsEdgeBehind n before) edge_is behind)) in
            subst (Breaks (AtEdge n before) Edges) (sym is)
            (inr (inr edged, inr (inr ((x, fits_x, is_x), (y, fits_y, is_y)), inl (refl, bad))))

        pub edge_line_is : (e : Edge) → e ≡ edge → IsEdgeBehind n before e → IsEdgeLine line n before e
        edge_line_is e same behind = record {
          is_line =
              is ∙ ap (λ v. codes "edge" ∷ v ∷ a ∷ t ∷ []) is_x ∙ ap (λ v. codes "edge" ∷ number x ∷ a ∷ v ∷ []) is_y
              ∙ ap edge_line (sym same);
          is_behind = behind;
        }

-- ---- `state`

pub stated_is : (line : Line) (bytes : List ℕ)
    → line ≡ codes "state" ∷ words_of bytes
    → line ≡ codes "state" ∷ word line 1 ∷ drop 2 line
stated_is line bytes is = go (words_of bytes) (some_part is_blank bytes) is
  where
    go : (rest : Line)
        → 0 < length rest
        → line ≡ codes "state" ∷ rest
        → line ≡ codes "state" ∷ word line 1 ∷ drop 2 line
    go [] some begins = absurd (omega arith)
    go (w ∷ rest) some begins = begins ∙ ap (λ l. codes "state" ∷ word l 1 ∷ drop 2 l) (sym begins)

-- ---- `end`

pub no_end : (bytes : List ℕ) → bytes ≢ codes "end" → words_of bytes ≢ end_line
no_end bytes apart is = apart (sym (join_with_byte-slice_split 32 bytes) ∙ ap (join_with_byte 32) is)
