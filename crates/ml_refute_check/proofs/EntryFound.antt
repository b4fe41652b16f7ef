-- What checking the parts of an entry before its decision finds.
--
--   item_told, items_more, items_first, items_all == items, one by one
--   start_told, live_told  == the tests of the sequent and of the names in use tell exactly whether their rules are
--                             kept
--   front_refused_2, front_refused_3, front_later, front_kept == what is found of the three together
--   front_starts, front_stands == where none of them is bad, the sequent is of nodes of the graph, and the items stand at
--                      nodes of it
--   live_low        == the names of an entry's items are in use
--   ascending_again, start_stands == the sequent of an entry as a set, and its spread
--   odds_ascend     == the odd priorities of a graph ascend
--   entry_of_index  == an entry that a program reads by its place
--   whole_front, whole_later, whole_kept == what is found of an entry
use Rattle.std.proofs.Common.{◌≡◌, ◌↔◌, ℕ, zero, suc, ◌+◌, ◌<◌, ◌≤◌, ◌%◌, ◌==◌, filter, Bool, List, [], ◌∷◌, ◌++◌, None}
use Rattle.std.proofs.Common.{Some, All, length, get_or, take, map, IsTrue, inl, inr, refl, sym, ap, ◌∙◌, subst, arith}
use Rattle.std.proofs.lemmas.List.{map-append, take_more, take_all, get_or-map, length-map}
use Rattle.ml_lists.specs.Ascending.{IsAscending, ascending}
use Rattle.ml_lists.specs.Member.{IsMember}
use Rattle.ml_lists.proofs.Member.{member-All}
use Rattle.ml_lists.proofs.Ascending.{ascending-is, ascending_same, ascending-member, member-ascending}
use Rattle.ml_graph.specs.Graph.{Graph, size, odd_priorities}
use Rattle.ml_trace.specs.Automaton.{IsGuess}
use Rattle.ml_trace.specs.NamesCondition.{EachNameStands}
use Rattle.ml_refutation.specs.Refutation as plain
use Rattle.ml_refutation.specs.Refutation.{IsEntry, IsTraced}
use Rattle.ml_refutation.specs.Acceptance as acceptance
use Rattle.ml_refutation.specs.Acceptance.{entry_at, no_entry, parts, StandsIn, IsWellStarted}
use Rattle.ml_refutation.specs.Views.{item_of}
use Rattle.ml_refutation.specs.declared.refutation.Entry.{Entry}
use Rattle.ml_refutation.specs.declared.refutation.Item.{Item}
use Rattle.ml_refutation.specs.declared.refutation.Refutation as held
use Rattle.ml_refute_check.specs.declared.finding.BadPart.{BadPart}
use Rattle.ml_sequent.specs.declared.choice.Side.{Side}
use Rattle.ml_sequent.specs.Spread.{SpreadList, IsSpreadOf, IsSpread}
use Rattle.ml_refute_check.specs.private.Parts.{Question, question, plain_entry, Stands, KeepEach, FirstBadIn, Finds, IsEntryOf, front_parts, branch_parts}
use Rattle.ml_refute_check.specs.private.Sources.{StandAmong}
use Rattle.ml_refute_check.proofs.PartsFound.{keep_both, found_first, found_next, found_behind, found_before, none_next, none_behind, parts_are}

module _ (q : Question) (e : ℕ) where
  abbrev sequent : List ℕ
  sequent = (entry_at q.refutation e).sequent

  pub no_items : KeepEach q e []
  unfolding KeepEach
  no_items = tt

  module _ (stacks : List (List ℕ)) where
    abbrev Stand : Item → Type 0
    Stand a = StandsIn sequent (item_of stacks a) q.graph

    abbrev pub item_parts : List Item → List acceptance.Part
    item_parts xs = map acceptance.Item (map (item_of stacks) xs)

    pub item_told : {entry : plain.Entry} {nodes odds : List ℕ} → IsEntryOf q e entry → (a : Item) (b : Bool)
        → nodes ≡ entry.sequent
        → odds ≡ odd_priorities q.graph
        → (IsTrue b ↔ (IsMember a.node nodes × IsGuess odds a.odd))
        → IsTrue b ↔ Stand a
    item_told {nodes = nodes} is a b nodes_are odds_are told =
        let same : nodes ≡ sequent = nodes_are ∙ sym (ap (λ (x : plain.Entry). x.sequent) is.is) in (
          λ h. let both = told.0 h in record {
            member = subst (IsMember a.node) same both.0;
            occurs = subst (λ ds. IsGuess ds a.odd) odds_are both.1;
          },
          λ s. told.1 (
            subst (IsMember a.node) (sym same) s.member,
            subst (λ ds. IsGuess ds a.odd) (sym odds_are) s.occurs,
          ),
        )

    one_item : (a : Item) → Stand a → KeepEach q e (item_parts (a ∷ []))
    unfolding KeepEach
    one_item a stands = ((stands, tt), tt)

    more_stand : (xs : List Item) (k : ℕ) (a : Item) → k < length xs → a ≡ get_or xs k a → Stand a
        → KeepEach q e (item_parts (take k xs)) → KeepEach q e (item_parts (take (k + 1) xs))
    more_stand xs k a low is stands keep =
        subst (λ ys. KeepEach q e (item_parts ys)) (sym (take_more xs k a low))
        (subst (KeepEach q e) (sym split)
        (keep_both q e (item_parts (take k xs)) (item_parts (get_or xs k a ∷ [])) keep
        (one_item (get_or xs k a) (subst Stand is stands))))
      where
        split : item_parts (take k xs ++ get_or xs k a ∷ []) ≡ item_parts (take k xs) ++ item_parts (get_or xs k a ∷ [])
        split =
            ap (map acceptance.Item) (map-append (item_of stacks) (take k xs) (get_or xs k a ∷ []))
            ∙ map-append acceptance.Item (map (item_of stacks) (take k xs)) (map (item_of stacks) (get_or xs k a ∷ []))

    first_item : (xs : List Item) (k : ℕ) (a : Item) → k < length xs → a ≡ get_or xs k a → ¬ (Stand a)
        → KeepEach q e (item_parts (take k xs)) → FirstBadIn q e (item_parts xs) k 4
    unfolding FirstBadIn KeepEach
    first_item [] k a low is fails keep = absurd (omega arith)
    first_item (x ∷ xs) zero a low is fails keep = inl (refl, λ s. fails (subst Stand (sym is) s))
    first_item (x ∷ xs) (suc k) a low is fails keep = (keep.0, first_item xs k a (omega arith) is fails keep.1)

    -- the next item of a list that is read as another one
    module _ {xs ys : List Item} {a : Item} (k : ℕ) (same : ys ≡ xs) (low : k < length ys) (is : a ≡ get_or ys k a) where
      abbrev here : k < length xs
      here = subst (λ (zs : List Item). k < length zs) same low

      abbrev at_place : a ≡ get_or xs k a
      at_place = is ∙ ap (λ (zs : List Item). get_or zs k a) same

      pub items_more : Stand a → KeepEach q e (item_parts (take k xs)) → KeepEach q e (item_parts (take (k + 1) xs))
      items_more stands keep = more_stand xs k a here at_place stands keep

      pub items_first : ¬ (Stand a)
          → KeepEach q e (item_parts (take k xs))
          → Finds q e (item_parts xs) (Some (record { part = k; rule = 4 }))
      unfolding Finds
      items_first fails keep = first_item xs k a here at_place fails keep

    -- where each of them stands in the sequent, each one's node is there
    each_stands : (xs : List Item) → KeepEach q e (item_parts xs) → (a : Item) → IsMember a xs → IsMember a.node sequent
    unfolding KeepEach
    each_stands [] keep a m = absurd m
    each_stands (x ∷ xs) keep a (inl is) = subst (λ (b : Item). IsMember b.node sequent) (sym is) keep.0.0.member
    each_stands (x ∷ xs) keep a (inr m) = each_stands xs keep.1 a m

    pub items_all : (xs : List Item) (k : ℕ)
        → length xs ≤ k
        → KeepEach q e (item_parts (take k xs))
        → Finds q e (item_parts xs) None
    unfolding Finds
    items_all xs k past keep = subst (λ ys. KeepEach q e (item_parts ys)) (take_all k xs past) keep

  -- ---- the parts before the decision

  module _ (entry : plain.Entry) (is : IsEntryOf q e entry) where
    abbrev WellStarted : Type 0
    WellStarted = IsWellStarted q.refutation e q.graph

    pub start_told : (nodes : List ℕ) (b : Bool) → nodes ≡ entry.sequent
        → (IsTrue b ↔ (All (λ n. n < size q.graph) nodes × (e ≡ 0 → nodes ≡ q.graph.root ∷ [])))
        → IsTrue b ↔ WellStarted
    start_told nodes b nodes_are told =
        let same : nodes ≡ sequent = nodes_are ∙ sym (ap (λ (x : plain.Entry). x.sequent) is.is) in (
          λ h. let both = told.0 h in record {
            in_graph = subst (All (λ n. n < size q.graph)) same both.0;
            starts = λ first. sym same ∙ both.1 first;
          },
          λ w. told.1 (subst (All (λ n. n < size q.graph)) (sym same) w.in_graph, λ first. same ∙ w.starts first),
        )

    pub live_told : (stacks : List (List ℕ)) (live : ℕ) (b : Bool) {items xs : List Item} → xs ≡ items
        → entry.traces ≡ record { live = live; items = map (item_of stacks) items }
        → (IsTrue b ↔ EachNameStands (record { live = live; items = map (item_of stacks) xs }))
        → IsTrue b ↔ EachNameStands (entry_at q.refutation e).traces
    live_told stacks live b same traces_are told =
        subst (λ (x : plain.Entry). IsTrue b ↔ EachNameStands x.traces) (sym is.is)
        (subst (λ t. IsTrue b ↔ EachNameStands t) (sym traces_are)
        (subst (λ (ys : List Item). IsTrue b ↔ EachNameStands (record { live = live; items = map (item_of stacks) ys })) same told))

    abbrev others : List acceptance.Part
    others = map acceptance.Item entry.traces.items

    pub front_refused_2 : ¬ WellStarted → Finds q e (front_parts entry) (Some (record { part = 0; rule = 2 }))
    unfolding front_parts
    front_refused_2 not =
        found_first q e acceptance.Sequent (acceptance.Live ∷ others) (record { part = 0; rule = 2 }) refl
        (inl (refl, not))

    pub front_refused_3 : WellStarted → ¬ (EachNameStands (entry_at q.refutation e).traces)
        → Finds q e (front_parts entry) (Some (record { part = 1; rule = 3 }))
    unfolding front_parts
    front_refused_3 well not =
        found_next q e acceptance.Sequent (acceptance.Live ∷ others) (record { part = 0; rule = 3 })
        (record { part = 1; rule = 3 }) refl refl
        (well, tt) (found_first q e acceptance.Live others (record { part = 0; rule = 3 }) refl (inl (refl, not)))

    pub front_later : (bad moved : BadPart) → WellStarted → EachNameStands (entry_at q.refutation e).traces
        → moved.part ≡ 2 + bad.part → moved.rule ≡ bad.rule → Finds q e others (Some bad)
        → Finds q e (front_parts entry) (Some moved)
    unfolding front_parts
    front_later bad moved well stand part rule found =
        let mid : BadPart = record { part = 1 + bad.part; rule = bad.rule } in
        found_next q e acceptance.Sequent (acceptance.Live ∷ others) mid moved (omega (arith, part)) rule (well, tt)
        (found_next q e acceptance.Live others bad mid refl refl (stand, tt) found)

    pub front_kept : WellStarted
        → EachNameStands (entry_at q.refutation e).traces
        → Finds q e others None
        → Finds q e (front_parts entry) None
    unfolding front_parts
    front_kept well stand none =
        none_next q e acceptance.Sequent (acceptance.Live ∷ others) (well, tt)
        (none_next q e acceptance.Live others (stand, tt) none)

    pub front_starts : Finds q e (front_parts entry) None → All (λ n. n < size q.graph) entry.sequent
    unfolding front_parts Finds KeepEach
    front_starts none =
        subst (λ (x : plain.Entry). All (λ n. n < size q.graph) x.sequent) is.is none.0.0.in_graph

    pub front_stands : (stacks : List (List ℕ)) (items : List Item)
        → entry.traces.items ≡ map (item_of stacks) items
        → Finds q e (front_parts entry) None
        → StandAmong entry.sequent items
    unfolding front_parts Finds KeepEach
    front_stands stacks items items_are none =
        let keep = subst (λ xs. KeepEach q e (map acceptance.Item xs)) items_are none.1.1 in
        member-All (λ (a : Item). IsMember a.node entry.sequent) items
        (λ a m. subst (IsMember a.node) (ap (λ (x : plain.Entry). x.sequent) is.is) (each_stands stacks items keep a m))

    -- ---- the whole entry

    whole : front_parts entry ++ branch_parts [] entry.decision ≡ parts (entry_at q.refutation e)
    whole = sym (parts_are entry) ∙ ap parts (sym is.is)

    front_size : length (front_parts entry) ≡ 2 + length entry.traces.items
    unfolding front_parts
    front_size = omega (arith, length-map entry.traces.items acceptance.Item)

    pub whole_front : (bad : BadPart)
        → Finds q e (front_parts entry) (Some bad)
        → Finds q e (parts (entry_at q.refutation e)) (Some bad)
    whole_front bad found =
        subst (λ ps. Finds q e ps (Some bad)) whole
        (found_before q e (front_parts entry) (branch_parts [] entry.decision) bad found)

    pub whole_later : (items : ℕ) (bad mid moved : BadPart) → items ≡ length entry.traces.items
        → mid.part ≡ items + bad.part → mid.rule ≡ bad.rule → moved.part ≡ 2 + mid.part → moved.rule ≡ mid.rule
        → Finds q e (front_parts entry) None → Finds q e (branch_parts [] entry.decision) (Some bad)
        → Finds q e (parts (entry_at q.refutation e)) (Some moved)
    whole_later items bad mid moved counted mid_part mid_rule part rule none found =
        subst (λ ps. Finds q e ps (Some moved)) whole
        (found_behind q e (front_parts entry) (branch_parts [] entry.decision) bad moved
        (omega (arith, front_size, counted, mid_part, part)) (rule ∙ mid_rule) none found)

    pub whole_kept : Finds q e (front_parts entry) None → Finds q e (branch_parts [] entry.decision) None
        → Finds q e (parts (entry_at q.refutation e)) None
    whole_kept none others_none =
        subst (λ ps. Finds q e ps None) whole
        (none_behind q e (front_parts entry) (branch_parts [] entry.decision) none others_none)

pub odds_ascend : (g : Graph) (odds : List ℕ) → odds ≡ odd_priorities g → IsAscending odds
odds_ascend g odds is =
    subst IsAscending (sym is) (ascending-is (filter (λ d. d % 2 == 1) g.priorities))

-- the names of an entry's items are in use
pub live_low : (stacks : List (List ℕ)) (names live : ℕ) (items xs : List Item) → xs ≡ items
    → IsTraced names (record { live = live; items = map (item_of stacks) items })
    → All (λ (a : Item). All (λ y. y < live) (get_or stacks a.stack [])) xs
live_low stacks names live items xs same traced =
    subst (All (λ (a : Item). All (λ y. y < live) (get_or stacks a.stack []))) (sym same)
    (λ k d low.
    let is = get_or-map (item_of stacks) items k d (item_of stacks d) low in
    subst (λ a. All (λ y. y < live) a.stack) is
    (traced.are_items k (item_of stacks d) (omega (arith, low, length-map items (item_of stacks)))).is_stack.below)

-- ---- the spread of an entry's sequent

pub ascending_again : (nodes made : List ℕ) → made ≡ ascending nodes → IsAscending nodes → made ≡ nodes
ascending_again nodes made made_is ascends =
    made_is
    ∙ ascending_same (ascending nodes) nodes (ascending-is nodes) ascends (λ v h. ascending-member v nodes h)
    (λ v h. member-ascending v nodes h)

pub start_stands : (q : Question) (e : ℕ) (entry : plain.Entry) (nodes : List ℕ) (c : List (ℕ × Side)) (sp : SpreadList)
    (h : Graph)
    → h ≡ q.graph
    → IsEntryOf q e entry
    → nodes ≡ entry.sequent
    → All (λ n. n < size q.graph) entry.sequent
    → IsSpreadOf h nodes c sp
    → IsSpread h sp
    → Stands q e nodes sp
start_stands q e entry nodes c sp h same is nodes_are low spread own = record {
  of_entry = nodes_are ∙ sym (ap (λ (x : plain.Entry). x.sequent) is.is);
  low = subst (All (λ n. n < size q.graph)) (sym nodes_are) low;
  is_spread =
      subst (λ g. IsSpreadOf g nodes sp.choice sp) same
      (subst (λ ch. IsSpreadOf h nodes ch sp) (sym spread.choice) spread);
  is_own = subst (λ g. IsSpread g sp) same own;
}

-- ---- an entry by its place

pub entry_of_index : (g : Graph) (r : held.Refutation) (place : ℕ) (x : Entry)
    → place < length r.entries.items
    → x ≡ get_or r.entries.items place x
    → IsEntryOf (question g r) place (plain_entry r x)
entry_of_index g r place x low is = record { is = here; is_entry = entry }
  where
    here : get_or (map (plain_entry r) r.entries.items) place no_entry ≡ plain_entry r x
    here = get_or-map (plain_entry r) r.entries.items place x no_entry low ∙ ap (plain_entry r) (sym is)

    entry : IsEntry r.names (length (map (plain_entry r) r.entries.items)) (plain_entry r x)
    entry =
        subst (IsEntry r.names (length (map (plain_entry r) r.entries.items))) here
        (r.is_refutation.are_entries place no_entry (omega (arith, length-map r.entries.items (plain_entry r))))
