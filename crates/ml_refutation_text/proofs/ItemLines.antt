-- The lines of the traces of an entry, and the first rules that they break.
--
--   heights_no_numbers, heights_count   == the line of the heights
--   no_full_kind, full_no_numbers, full_no_names == the line of an item in full
--   no_table_kind, table_no_count, table_no_numbers, table_no_names, table_outside == that of one whose stack is in a table
--   full_is, table_is        == the line of the item that was read
use Rattle.std.proofs.Common.{◌≡◌, ℕ, ◌+◌, ◌-◌, ◌^◌, ◌<◌, ◌≤◌, ◌⊎◌, min, List, [], ◌∷◌, Option, None, Some, length}
use Rattle.std.proofs.Common.{map, All, codes, slice_get, slice_index_or, inl, inr, refl, sym, ap, subst, ◌∙◌, arith}
use Rattle.std.proofs.lemmas.List.{length-map, get_or_past}
use Rattle.std.proofs.lemmas.List.Elements.{All-nil, All-cons}
use Rattle.std.proofs.lemmas.Option.{slice_get-get_or}
use Rattle.ml_lines.specs.Lines.{Word, Line, number}
use Rattle.ml_lines.specs.Reading.{AreWords, IsNumber, value, words_of}
use Rattle.ml_lists.specs.Ascending.{IsAscending}
use Rattle.ml_lists.specs.Last.{last_of}
use Rattle.ml_lists.specs.Documents.{IsFirstBroken}
use Rattle.ml_trace.specs.declared.letters.AutomatonState.{AutomatonState}
use Rattle.ml_trace.specs.Stack as traced
use Rattle.ml_refutation.specs.Refutation.{Entry, Fits, IsAbove}
use Rattle.ml_refutation.specs.Guesses.{FitsGuess}
use Rattle.ml_refutation_text.specs.RefutationText.{numbers, guess_word, item_line, heights_line}
use Rattle.ml_refutation_text.specs.LineKinds.{Spells}
use Rattle.ml_refutation_text.specs.BodyRules.{Form, InFull, ByTables}
use Rattle.ml_refutation_text.specs.LineKinds.{IsSpelt, IsOfKind}
use Rattle.ml_refutation_text.specs.BodyRules.{Place, AtItem, item_kind, rules}
use Rattle.ml_refutation_text.specs.private.ListKinds.{heights_kind}
use Rattle.ml_refutation_text.specs.private.Reads.{Breaks, TellsRule}
use Rattle.ml_lines.specs.declared.refusal.LineRefusal.{LineRefusal}
use Rattle.ml_refutation_text.specs.declared.body_rule.BodyRule.{BodyRule}
use Rattle.ml_lines.specs.declared.refusal.LineRefusal.TheVariants as refusal
use Rattle.ml_refutation_text.specs.private.WordReads.{FitsAGuess}
use Rattle.ml_refutation_text.specs.private.ItemReads.{knows, AreNames, IsItemed, AtItems, IsItemOf, HasStack, LacksStack}
use Rattle.ml_refutation_text.specs.declared.body_rule.BodyRule.TheVariants.{OfKind, Numbers, ItemsAscend, HeightForEach, InTables}
use Rattle.ml_refutation_text.proofs.ReadWords.{some_word, differ, are_numbers, words_numbers, values_back, words_first}
use Rattle.ml_refutation_text.proofs.GoodEntries.{full_item, table_item, state_back, no_item}

module _ (names wanted : ℕ) (es : List Entry) (q : List ℕ) (traces : traced.Entry AutomatonState) where
  abbrev at : Form → Place
  at F = AtItem (knows names F wanted) es q traces

  module _ (F : Form) where
    pub heights_no_numbers : (line words : Line)
        → line ≡ codes "heights" ∷ words
        → AreWords line
        → ¬ (All IsNumber words)
        → Breaks (at F) line Numbers
    heights_no_numbers line words is are bad left =
        let kind : IsOfKind heights_kind (codes "heights" ∷ words) = (subst AreWords is are, (refl, tt)) in
        subst (λ l. IsFirstBroken (rules left (at F)) l 22) (sym is)
        (inr (inr (inl kind), inl (refl, λ have. bad (have.1.0 kind).1)))

    pub heights_count : (line : Line) (hs : List ℕ) → line ≡ heights_line hs → All Fits hs → ¬ (length hs ≡ names + 1)
        → Breaks (at F) line HeightForEach
    heights_count line hs is fit bad left =
        let words = words_first (codes "heights") (numbers hs) refl (words_numbers hs fit) in
        subst (λ l. IsFirstBroken (rules left (at F)) l 28) (sym is)
        (inr (
          inr (inl (words, (refl, tt))),
          inr (
            ((λ kind. absurd (no_item F (numbers hs) kind)), ((λ kind. (tt, are_numbers hs fit)), tt)),
            inr (
              (λ begins. absurd (differ (codes "heights") (codes "item") refl begins)),
              inl (refl, λ count. bad (omega (arith, count refl, length-map hs number))),
            ),
          ),
        ))

  no_kind : (F : Form) (line : Line)
      → ¬ (IsOfKind (item_kind F) line)
      → ¬ (IsOfKind heights_kind line)
      → Breaks (at F) line OfKind
  no_kind F line no_item no_heights left = inl (refl, none)
    where
      none : IsOfKind (item_kind F) line ⊎ (IsOfKind heights_kind line ⊎ ⊥) → ⊥
      none (inl item) = no_item item
      none (inr (inl heights)) = no_heights heights
      none (inr (inr never)) = never

  -- ---- in full

  full_itemed : (line : Line) → IsOfKind (item_kind InFull) line → IsItemed line
  full_itemed [] kind = absurd kind.1
  full_itemed (a ∷ []) kind = absurd kind.1.1
  full_itemed (a ∷ b ∷ []) kind = absurd kind.1.1.1
  full_itemed (a ∷ b ∷ c ∷ []) kind = absurd kind.1.1.1.1
  full_itemed (a ∷ b ∷ c ∷ d ∷ more) kind = (kind.0, ap (λ w. w ∷ b ∷ c ∷ d ∷ more) kind.1.0)

  pub no_full_kind : (line : Line) → ¬ (IsItemed line) → ¬ (IsOfKind heights_kind line) → Breaks (at InFull) line OfKind
  no_full_kind line none no_heights = no_kind InFull line (λ kind. none (full_itemed line kind)) no_heights

  pub full_no_numbers : (line words : Line) (n g : Word)
      → line ≡ codes "item" ∷ n ∷ g ∷ words
      → 0 < length words
      → AreWords line
      → ¬ ((IsNumber n × FitsAGuess g) × All IsNumber words) → Breaks (at InFull) line Numbers
  full_no_numbers line [] n g is some are bad left = absurd (omega (arith, some))
  full_no_numbers line (w ∷ words) n g is some are bad left =
      let kind : IsOfKind (item_kind InFull) (codes "item" ∷ n ∷ g ∷ w ∷ words) =
      (subst AreWords is are, (refl, (tt, (tt, (tt, tt))))) in
      subst (λ l. IsFirstBroken (rules left (at InFull)) l 22) (sym is)
      (inr (
        inl kind,
        inl (
          refl,
          λ have.
              let fits = (have.0 kind).1 in bad ((fits.0, fits.1.0), All-cons IsNumber w words fits.1.1.0 fits.1.1.1),
        ),
      ))

  -- an item that was read, but may not stand here
  full_bad : (s : AutomatonState) (ns : List ℕ) → 0 < length ns → All Fits ns → Fits s.node → FitsGuess s.odd
      → ¬ (IsAbove (last_of None (map (λ a. a.state) traces.items)) s × AreNames traces.live ns)
      → Breaks (at InFull) (item_line s (numbers ns)) ItemsAscend
  full_bad s ns some fit node guess bad left =
      let line = full_item s ns some fit node guess in
      inr (
        inl line.of_kind,
        inr (
          line.numbers_are,
          inl (
            refl,
            λ keeps.
                let next = keeps refl in
                bad (
                  subst (IsAbove (last_of None (map (λ a. a.state) traces.items)))
                      (state_back s (numbers ns) node guess) next.is_above,
                  subst (AreNames traces.live) (values_back ns fit) (next.ascends, next.in_use),
                ),
          ),
        ),
      )

  pub full_no_names : (line : Line) (live : ℕ) (before : Option AutomatonState) (s : AutomatonState) (ns : List ℕ)
      → AtItems live before traces → line ≡ item_line s (numbers ns) → 0 < length ns → All Fits ns → Fits s.node
      → FitsGuess s.odd
      → ¬ (IsAbove before s × AreNames live ns) → Breaks (at InFull) line ItemsAscend
  full_no_names line live before s ns stand is some fit node guess bad left =
      subst (λ l. IsFirstBroken (rules left (at InFull)) l 27) (sym is)
      (full_bad s ns some fit node guess
      (λ both. bad (subst (λ b. IsAbove b s) stand.behind both.0, subst (λ m. AreNames m ns) stand.with_live both.1))
      left)

  -- ---- by its table

  table_itemed : (qs ks : List (List ℕ)) (line : Line)
      → IsOfKind (item_kind (ByTables qs ks)) line
      → IsItemed line × (length line ≡ 4)
  table_itemed qs ks [] kind = absurd kind.1
  table_itemed qs ks (a ∷ []) kind = absurd kind.1.1
  table_itemed qs ks (a ∷ b ∷ []) kind = absurd kind.1.1.1
  table_itemed qs ks (a ∷ b ∷ c ∷ []) kind = absurd kind.1.1.1.1
  table_itemed qs ks (a ∷ b ∷ c ∷ d ∷ more) kind =
      ((kind.0, ap (λ w. w ∷ b ∷ c ∷ d ∷ more) kind.1.0), omega (arith, ap length kind.1.1.1.1.1))

  pub no_table_kind : (qs ks : List (List ℕ)) (line : Line) → ¬ (IsItemed line) → ¬ (IsOfKind heights_kind line)
      → Breaks (at (ByTables qs ks)) line OfKind
  no_table_kind qs ks line none no_heights =
      no_kind (ByTables qs ks) line (λ kind. none (table_itemed qs ks line kind).0) no_heights

  module _ (qs ks : List (List ℕ)) (line : Line) (n g : Word) where
    abbrev F : Form
    F = ByTables qs ks

    pub table_no_count : (words : Line) → line ≡ codes "item" ∷ n ∷ g ∷ words → ¬ (length words ≡ 1)
        → ¬ (IsOfKind heights_kind line) → Breaks (at F) line OfKind
    table_no_count words is other no_heights =
        no_kind F line (λ kind. other (omega (arith, (table_itemed qs ks line kind).1, ap length is))) no_heights

    module _ (p : Word) (is : line ≡ codes "item" ∷ n ∷ g ∷ p ∷ []) where
      pub table_no_numbers : AreWords line → ¬ ((IsNumber n × FitsAGuess g) × IsSpelt p) → Breaks (at F) line Numbers
      table_no_numbers are bad left =
          let kind : IsOfKind (item_kind F) (codes "item" ∷ n ∷ g ∷ p ∷ []) =
          (subst AreWords is are, (refl, (tt, (tt, (tt, refl))))) in
          subst (λ l. IsFirstBroken (rules left (at F)) l 22) (sym is)
          (inr (inl kind, inl (refl, λ have. let fits = (have.0 kind).1 in bad ((fits.0, fits.1.0), fits.1.1.0))))

      module _ (live : ℕ) (before : Option AutomatonState) (s : AutomatonState) (stand : AtItems live before traces)
          (n_is : n ≡ number s.node) (g_is : g ≡ guess_word s.odd) (node : Fits s.node) (guess : FitsGuess s.odd)
          (spells : Spells p (value p)) where
        spelt : line ≡ item_line s (p ∷ [])
        spelt = is ∙ (λ i. codes "item" ∷ n_is i ∷ g_is i ∷ p ∷ [])

        table_bad : ¬ (IsAbove (last_of None (map (λ a. a.state) traces.items)) s
            × AreNames traces.live (slice_index_or ks (value p) []))
            → Breaks (at F) (item_line s (p ∷ [])) ItemsAscend
        table_bad bad left =
            let l = table_item qs ks s p (value p) spells node guess in
            inr (
              inl l.of_kind,
              inr (
                l.numbers_are,
                inl (
                  refl,
                  λ keeps.
                      let next = keeps refl in
                      bad (
                        subst (IsAbove (last_of None (map (λ a. a.state) traces.items)))
                            (state_back s (p ∷ []) node guess) next.is_above,
                        (next.ascends, next.in_use),
                      ),
                ),
              ),
            )

        pub table_no_names : ¬ (IsAbove before s × AreNames live (slice_index_or ks (value p) []))
            → Breaks (at F) line ItemsAscend
        table_no_names bad left =
            subst (λ l. IsFirstBroken (rules left (at F)) l 27) (sym spelt)
            (table_bad
            (λ both. bad (
              subst (λ b. IsAbove b s) stand.behind both.0,
              subst (λ m. AreNames m (slice_index_or ks (value p) [])) stand.with_live both.1,
            ))
            left)

        pub table_outside : IsAbove before s → length ks ≤ value p → Breaks (at F) line InTables
        table_outside above outside left =
            let l = table_item qs ks s p (value p) spells node guess in
            let none : slice_index_or ks (value p) [] ≡ [] = outside_none ks (value p) outside in
            subst (λ line. IsFirstBroken (rules left (at F)) line 31) (sym spelt)
            (inr (
              inl l.of_kind,
              inr (
                l.numbers_are,
                inr (
                  (λ _. record {
                    is_above =
                        subst (IsAbove (last_of None (map (λ a. a.state) traces.items)))
                        (sym (state_back s (p ∷ []) node guess))
                        (subst (λ b. IsAbove b s) (sym stand.behind) above);
                    ascends = subst IsAscending (sym none) tt;
                    in_use = subst (All (λ x. x < traces.live)) (sym none) (All-nil (λ (x : ℕ). x < traces.live));
                  }),
                  inr (
                    (λ begins. absurd (differ (codes "item") (codes "heights") refl begins)),
                    inl (refl, λ inside. absurd (omega (arith, inside refl, outside))),
                  ),
                ),
              ),
            ))
          where
            outside_none : (rows : List (List ℕ)) (i : ℕ) → length rows ≤ i → slice_index_or rows i [] ≡ []
            outside_none rows i out = get_or_past rows i [] out

        -- the stack of this number isn't there, or may not be the item's
        pub table_lacks : (place : ℕ) (e : LineRefusal BodyRule)
            → place ≡ min (value p) (2 ^ 64 - 1)
            → IsAbove before s
            → LacksStack ks place live e
            → TellsRule (at F) line e
        table_lacks place (refusal.Breaks rule) capped above (inl (kind, outside)) =
            subst (Breaks (at F) line) (sym kind) (table_outside above (omega (arith, capped, outside)))
        table_lacks place (refusal.Breaks rule) capped above (inr (kind, small, bad)) =
            let same : place ≡ value p = omega (arith, capped, small) in
            subst (Breaks (at F) line) (sym kind)
            (table_no_names (λ both. bad (subst (λ i. AreNames live (slice_index_or ks i [])) (sym same) both.1)))
        table_lacks place refusal.NoMemory capped above lacks = tt

-- ---- the item that was read

module _ (line : Line) (n g : Word) (rest : List ℕ) (node : ℕ) (odd : Option ℕ) (ns : List ℕ)
    (is : line ≡ codes "item" ∷ n ∷ g ∷ words_of rest)
    (n_is : n ≡ number node) (g_is : g ≡ guess_word odd) (ns_are : words_of rest ≡ numbers ns) where
  pub full_spelt : line ≡ item_line (record { node = node; odd = odd }) (numbers ns)
  full_spelt = is ∙ (λ i. codes "item" ∷ n_is i ∷ g_is i ∷ ns_are i)

  pub full_some : 0 < length ns
  full_some = omega (arith, some_word rest, ap length ns_are, length-map ns number)

pub full_is : (line : Line) (live : ℕ) (before : Option AutomatonState) (s : AutomatonState) (ns : List ℕ)
    → line ≡ item_line s (numbers ns) → 0 < length ns → Fits s.node → FitsGuess s.odd → IsAbove before s
    → AreNames live ns
    → IsItemOf InFull live before line (record { state = s; stack = ns })
full_is line live before s ns is some node guess above names = record {
  is_line = record { words = numbers ns; for_stack = refl; is_line = is };
  may_stand = record { node_fits = node; guess_fits = guess; ascends = names.0; below = names.1 };
  some = some;
  is_above = above;
}

pub table_is : (qs ks : List (List ℕ)) (line : Line) (live : ℕ) (before : Option AutomatonState) (s : AutomatonState)
    (number place : ℕ) (p : Word)
    → line ≡ item_line s (p ∷ []) → Spells p (value p) → number ≡ min (value p) (2 ^ 64 - 1)
    → HasStack ks number live place
    → Fits s.node → FitsGuess s.odd → IsAbove before s
    → IsItemOf (ByTables qs ks) live before line (record { state = s; stack = slice_index_or ks place [] })
table_is qs ks line live before s number place p is spells capped has node guess above =
    let same : place ≡ value p = omega (arith, capped, has.is_place, has.small) in
    let there = slice_get-get_or ks place [] has.inside in record {
      is_line = record {
        words = p ∷ [];
        for_stack =
            (value p, p, spells, subst (λ i. slice_get ks i ≡ Some (slice_index_or ks place [])) same there, refl);
        is_line = is;
      };
      may_stand = record { node_fits = node; guess_fits = guess; ascends = has.names.0; below = has.names.1 };
      some = tt;
      is_above = above;
    }
