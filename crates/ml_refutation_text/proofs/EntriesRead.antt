-- Entries, read line by line.
--
--   entry_goes, entry_wrong      == the first line of an entry of version 1, and one with another number
--   sequent_goes                 == the sequent of an entry of version 1
--   placed_goes, placed_wrong, placed_outside == the first line of an entry of version 2, with its number and that of its
--                                                sequent
--   live_goes, live_wrong        == the names in use
--   begun_goes                   == the lines of an entry up to its decision
--   some_entries                 == so many entries
--   EntriesTo n k v old at tables es ps i rest == from `at` up to `rest` the i entries es were read, whose parts begin at
--                                   the lines ps, and the tables old grew meanwhile
--   entries_begin, entries_room, entries_refused, entries_more == before any, room for more, a bad line, one more entry
use Rattle.std.proofs.Common.{◌≡◌, ℕ, zero, suc, ◌+◌, ◌<◌, ◌≤◌, true, cond, nat_lt, List, [], ◌∷◌, ◌++◌, length, map, codes, slice_index_or, inl, inr, refl, sym, ap, subst, ◌∙◌, length-append, arith}
use Rattle.std.proofs.lemmas.Bool.Decides.{nat_tests}
use Rattle.std.proofs.lemmas.List.{map-append, length-map}
use Rattle.std.proofs.lemmas.List.Elements.{All-nil}
use Rattle.ml_base.specs.declared.version.Version.{Version}
use Rattle.ml_base.specs.declared.version.Version.TheVariants.{One}
use Rattle.ml_base.specs.declared.doc_refusal.DocRefusal.{DocRefusal}
use Rattle.ml_lines.specs.Lines.{Line, number}
use Rattle.ml_lines.specs.Reading.{IsNumber}
use Rattle.ml_lists.specs.Ascending.{IsAscending}
use Rattle.ml_refutation.specs.Refutation.{Entry, Clash, Fits}
use Rattle.ml_refutation.specs.Views.{entry_of}
use Rattle.ml_refutation.specs.declared.refutation.Entry as program
use Rattle.ml_sequent.specs.declared.clashes.ClashCause.TheVariants.{False}
use Rattle.ml_refutation_text.specs.RefutationText.{numbered_line, entry_line, sequent_line, live_line}
use Rattle.ml_refutation_text.specs.BodyRules.{Form, InFull, ByTables}
use Rattle.ml_refutation_text.specs.LineKinds.{IsOfKinds, HaveNumbers}
use Rattle.ml_refutation_text.specs.BodyRules.{Known, Begun, Place, AtEntry, AtSequent, AtLive, AtItem, AtDecision, AtEnd, at_entry, entry_kind}
use Rattle.ml_refutation_text.specs.PartLines.{entry_size, entries_size, parts_of, parts_from}
use Rattle.ml_refutation_text.specs.private.ReadTables.{form_of, Grows}
use Rattle.ml_refutation_text.specs.private.Reads.{HasRoom, IsNext, Goes, Breaks, TellsFault}
use Rattle.ml_refutation_text.specs.private.ItemReads.{knows}
use Rattle.ml_refutation_text.specs.private.EntryReads.{IsSequentRead, IsPlacedAt}
use Rattle.ml_refutation_text.specs.declared.known.Tables.{Tables}
use Rattle.ml_refutation_text.specs.declared.lines.EntryLines.{EntryLines}
use Rattle.ml_refutation_text.specs.declared.rest.Rest.{Rest}
use Rattle.ml_refutation_text.specs.declared.body_rule.BodyRule.TheVariants.{NextEntry, LiveWithin, InTables}
use Rattle.ml_refutation_text.proofs.ReadWords.{is_number, value_back, values_back, words_first, words_number}
use Rattle.ml_refutation_text.proofs.GoodLines.{numbered_of, numbered_fits, sequent_good, sequent_fits, live_run}
use Rattle.ml_refutation_text.proofs.TablesGrow.{grows_none, grows_on, same_form}
use Rattle.ml_refutation_text.proofs.Going.{goes_begin, goes_on, goes_run, fault_on, room_on}

module _ (names wanted : ℕ) (es : List Entry) where
  -- ---- lines that break a rule

  pub entry_wrong : (n : ℕ)
      → Fits n
      → ¬ (n ≡ length es)
      → Breaks (AtEntry (knows names InFull wanted) es) (numbered_line n) NextEntry
  entry_wrong n fits other left =
      inr (
        inl (numbered_of One left (codes "entry") n refl fits),
        inr (numbered_fits One left (codes "entry") n fits, inl (refl, λ same. other (sym (value_back n fits) ∙ same))),
      )

  module _ (qs ks : List (List ℕ)) where
    abbrev placed_known : Known
    placed_known = knows names (ByTables qs ks) wanted

    placed_kind : (i s : ℕ) → Fits i → Fits s → IsOfKinds (entry_kind (ByTables qs ks) ∷ []) (entry_line i s)
    placed_kind i s fits small =
        inl (
          words_first (codes "entry") (number i ∷ number s ∷ []) refl
              (words_number i (number s ∷ []) fits (words_number s [] small refl)),
          (refl, (tt, (tt, refl))),
        )

    placed_numbers : (i s : ℕ) → Fits i → Fits s → HaveNumbers (entry_kind (ByTables qs ks) ∷ []) (entry_line i s)
    placed_numbers i s fits small = ((λ _. (tt, (is_number i fits, (is_number s small, All-nil IsNumber)))), tt)

    pub placed_wrong : (line : Line) (n s : ℕ) → line ≡ entry_line n s → Fits n → Fits s → ¬ (n ≡ length es)
        → Breaks (AtEntry placed_known es) line NextEntry
    placed_wrong line n s is fits small other =
        subst (λ l. Breaks (AtEntry placed_known es) l NextEntry) (sym is)
        (λ left.
        inr (
          placed_kind n s fits small,
          inr (placed_numbers n s fits small, inl (refl, λ same. other (sym (value_back n fits) ∙ same))),
        ))

    pub placed_outside : (line : Line) (n s : ℕ)
        → line ≡ entry_line n s
        → Fits n
        → Fits s
        → n ≡ length es
        → length qs ≤ s
        → Breaks (AtEntry placed_known es) line InTables
    placed_outside line n s is fits small here outside =
        subst (λ l. Breaks (AtEntry placed_known es) l InTables) (sym is)
        (λ left.
        inr (
          placed_kind n s fits small,
          inr (
            placed_numbers n s fits small,
            inr (value_back n fits ∙ here, inl (refl, λ inside. absurd (omega (arith, inside, outside, value_back s small)))),
          ),
        ))

  pub live_wrong : (F : Form) (q : List ℕ) (live : ℕ) → Fits live → names < live
      → Breaks (AtLive (knows names F wanted) es q) (live_line live) LiveWithin
  live_wrong F q live fits above left =
      inr (
        inl (numbered_of One left (codes "live") live refl fits),
        inr (
          numbered_fits One left (codes "live") live fits,
          inl (refl, λ within. absurd (omega (arith, within, above, value_back live fits))),
        ),
      )

  -- ---- good lines

  module _ (v : Version) (at rest : Rest) where
    pub entry_goes : (n : ℕ) → Fits n → IsNext at (numbered_line n) rest → length es ≡ n
        → Goes v (AtEntry (knows names InFull wanted) es) at (AtSequent (knows names InFull wanted) es) rest
    entry_goes n fits next here =
        let k = knows names InFull wanted in
        goes_run v (AtEntry k es) (AtSequent k es) at rest (numbered_line n) (numbered_line n) next refl
        (λ left. (
          (
            inl (numbered_of v left (codes "entry") n refl fits),
            (numbered_fits v left (codes "entry") n fits, (value_back n fits ∙ sym here, (tt, tt))),
          ),
          refl,
        ))

    pub sequent_goes : (k : Known) (q : List ℕ)
        → IsSequentRead at q rest
        → Goes v (AtSequent k es) at (AtLive k es q) rest
    sequent_goes k q read =
        let back = values_back q read.fit in
        goes_run v (AtSequent k es) (AtLive k es q) at rest (sequent_line q) (sequent_line q) read.next refl
        (λ left. (
          (inl (sequent_good v left q read.fit), (sequent_fits v left q read.fit, (subst IsAscending (sym back) read.ascends, tt))),
          ap (AtLive k es) back,
        ))

    pub placed_goes : (qs ks : List (List ℕ)) (line : Line) (size i s : ℕ)
        → IsNext at line rest
        → Fits i
        → length qs ≡ size
        → length es ≡ i
        → IsPlacedAt size i line s
        → Goes v (AtEntry (knows names (ByTables qs ks) wanted) es) at
        (AtLive (knows names (ByTables qs ks) wanted) es (slice_index_or qs s [])) rest
    placed_goes qs ks line size i s next fits many here read =
        let k = knows names (ByTables qs ks) wanted in
        let back = value_back s read.fits in
        goes_run v (AtEntry k es) (AtLive k es (slice_index_or qs s [])) at rest line (entry_line i s) next read.is_line
        (λ left. (
          (
            placed_kind qs ks i s fits read.fits,
            (placed_numbers qs ks i s fits read.fits, (value_back i fits ∙ sym here, (omega (arith, back, read.there, many), tt))),
          ),
          ap (λ n. AtLive k es (slice_index_or qs n [])) back,
        ))

    pub live_goes : (F : Form) (q : List ℕ) (live : ℕ) → Fits live → IsNext at (live_line live) rest → live ≤ names
        → Goes v (AtLive (knows names F wanted) es q) at (AtItem (knows names F wanted) es q (record { live = live; items = [] })) rest
    live_goes F q live fits next within =
        let k = knows names F wanted in
        goes_run v (AtLive k es q) (AtItem k es q (record { live = live; items = [] })) at rest (live_line live) (live_line live) next refl
        (λ left. live_run v left k es q live fits within)

-- the traces of an entry, behind its sequent, which may have been added to those before
pub begun_goes : (V v : Version) (old mid : Tables) {p : Place} {at behind rest : Rest} (names wanted : ℕ) (es : List Entry)
    (b : Begun)
    → Grows V old mid
    → Goes v p at (AtItem (knows names (form_of V old) wanted) es b.sequent (record { live = b.traces.live; items = [] })) behind
    → Goes v (AtItem (knows names (form_of V mid) wanted) es b.sequent (record { live = b.traces.live; items = [] })) behind
    (AtDecision (knows names (form_of V mid) wanted) es b []) rest
    → Goes v p at (AtDecision (knows names (form_of V old) wanted) es b []) rest
begun_goes V v old mid {behind = behind} {rest = rest} names wanted es b grows first second =
    goes_on first
    (subst
    (λ F.
    Goes v (AtItem (knows names F wanted) es b.sequent (record { live = b.traces.live; items = [] })) behind
    (AtDecision (knows names F wanted) es b []) rest)
    (same_form V old mid grows) second)

-- ---- so many entries

pub some_entries : ℕ → List Entry
some_entries zero = []
some_entries (suc n) =
    record { sequent = []; traces = record { live = 0; items = [] }; heights = []; decision = Clash (False 0) } ∷ some_entries n

pub length-some_entries : (n : ℕ) → length (some_entries n) ≡ n
unfolding some_entries
length-some_entries zero = refl
length-some_entries (suc n) = omega (arith, length-some_entries n)

-- ---- entries

parts_push : (v : Version) (n : ℕ) (es : List Entry) (e : Entry)
    → parts_from v n (es ++ e ∷ []) ≡ parts_from v n es ++ parts_of v (n + entries_size v es) e ∷ []
parts_push v n [] e = let same : n ≡ n + 0 = omega arith in ap (λ m. parts_of v m e ∷ []) same
parts_push v n (x ∷ es) e =
    let same : n + entry_size v x + entries_size v es ≡ n + (entry_size v x + entries_size v es) = omega arith in
    ap (λ ps. parts_of v n x ∷ ps)
    (parts_push v (n + entry_size v x) es e ∙ ap (λ m. parts_from v (n + entry_size v x) es ++ parts_of v m e ∷ []) same)

size_push : (v : Version) (es : List Entry) (e : Entry)
    → entries_size v (es ++ e ∷ []) ≡ entries_size v es + entry_size v e
size_push v [] e = omega arith
size_push v (x ∷ es) e = omega (arith, size_push v es e)

module _ (names wanted : ℕ) (V : Version) (old : Tables) (at : Rest) where
  abbrev k : Known
  k = knows names (form_of V old) wanted

  abbrev shown : Tables → List program.Entry → List Entry
  shown tables entries = map (entry_of tables.sequents tables.stacks) entries

  pub record EntriesTo (tables : Tables) (entries : List program.Entry) (parts : List EntryLines) (i : ℕ) (rest : Rest) : Type 0 where
    pub goes : (v : Version) (later : Tables)
        → Grows V tables later
        → Goes v (at_entry k []) at (at_entry k (shown later entries)) rest
    pub grown : Grows V old tables
    pub many : length entries ≡ i
    pub are_parts : (qs ks : List (List ℕ)) → parts ≡ parts_from V at.line (map (entry_of qs ks) entries)
    pub counted : (qs ks : List (List ℕ)) → rest.line ≡ at.line + entries_size V (map (entry_of qs ks) entries)

  pub entries_begin : EntriesTo old [] [] 0 at
  entries_begin = record {
    goes = λ v later grows. goes_begin v (at_entry k []) at;
    grown = grows_none V old;
    many = refl;
    are_parts = λ qs ks. refl;
    counted = λ qs ks. omega arith;
  }

  module _ (tables : Tables) (entries : List program.Entry) (parts : List EntryLines) (i : ℕ) (rest : Rest)
      (so_far : EntriesTo tables entries parts i rest) where
    pub entries_room : HasRoom at → HasRoom rest
    entries_room room = room_on (so_far.goes One tables (grows_none V tables)) room

    many_shown : (later : Tables) → length (shown later entries) ≡ i
    many_shown later = length-map entries (entry_of later.sequents later.stacks) ∙ so_far.many

    module _ (below : i < wanted) where
      here : (v : Version) (later : Tables)
          → Grows V tables later
          → Goes v (at_entry k []) at (AtEntry k (shown later entries)) rest
      here v later grows =
          let es = shown later entries in
          let test : nat_lt (length es) wanted ≡ true = grind (arith, nat_tests, many_shown later, below) in
          subst (λ b. Goes v (at_entry k []) at (cond b (AtEntry k es) (AtEnd (record { names = names; entries = es }))) rest) test
          (so_far.goes v later grows)

      pub entries_refused : (e : DocRefusal)
          → ((v : Version) (es : List Entry) → length es ≡ i → TellsFault v (AtEntry (knows names (form_of V tables) wanted) es) rest e)
          → (v : Version) → TellsFault v (at_entry k []) at e
      entries_refused e tells v =
          let es = shown tables entries in
          fault_on e (here v tables (grows_none V tables))
          (subst (λ F. TellsFault v (AtEntry (knows names F wanted) es) rest e) (same_form V old tables so_far.grown)
          (tells v es (many_shown tables)))

      pub entries_more : (new : Tables) (e : program.Entry) (lines : EntryLines) (behind : Rest)
          (more : List program.Entry) (others : List EntryLines)
          → ((v : Version) (es : List Entry) (later : Tables) → length es ≡ i → Grows V new later
          → Goes v (AtEntry (knows names (form_of V tables) wanted) es) rest
          (at_entry (knows names (form_of V tables) wanted) (es ++ entry_of later.sequents later.stacks e ∷ [])) behind)
          → Grows V tables new
          → ((qs ks : List (List ℕ)) → lines ≡ parts_of V rest.line (entry_of qs ks e))
          → ((qs ks : List (List ℕ)) → behind.line ≡ rest.line + entry_size V (entry_of qs ks e))
          → more ≡ entries ++ e ∷ [] → others ≡ parts ++ lines ∷ [] → EntriesTo new more others (i + 1) behind
      entries_more new e lines behind more others goes grows lines_are counted pushed parts_pushed =
          let all : (qs ks : List (List ℕ))
          → map (entry_of qs ks) more ≡ map (entry_of qs ks) entries ++ entry_of qs ks e ∷ [] =
          λ qs ks. ap (map (entry_of qs ks)) pushed ∙ map-append (entry_of qs ks) entries (e ∷ []) in record {
            goes = λ v later onward.
                let es = shown later entries in
                let more_es = es ++ entry_of later.sequents later.stacks e ∷ [] in
                subst (λ xs. Goes v (at_entry k []) at (at_entry k xs) behind) (sym (all later.sequents later.stacks))
                (goes_on (here v later (grows_on V tables new later grows onward))
                (subst (λ F. Goes v (AtEntry (knows names F wanted) es) rest (at_entry (knows names F wanted) more_es) behind)
                (same_form V old tables so_far.grown) (goes v es later (many_shown later) onward)));
            grown = grows_on V old tables new so_far.grown grows;
            many = omega (arith, so_far.many, ap length pushed, length-append entries (e ∷ []));
            are_parts = λ qs ks.
                let es = map (entry_of qs ks) entries in
                parts_pushed ∙ (λ j. so_far.are_parts qs ks j ++ lines_are qs ks j ∷ [])
                ∙ ap (λ n. parts_from V at.line es ++ parts_of V n (entry_of qs ks e) ∷ []) (so_far.counted qs ks)
                ∙ sym (parts_push V at.line es (entry_of qs ks e)) ∙ ap (parts_from V at.line) (sym (all qs ks));
            counted = λ qs ks.
                omega (
                  arith,
                  counted qs ks,
                  so_far.counted qs ks,
                  ap (entries_size V) (all qs ks),
                  size_push V (map (entry_of qs ks) entries) (entry_of qs ks e),
                );
          }
