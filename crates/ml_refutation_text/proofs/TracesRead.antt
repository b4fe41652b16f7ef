-- The traces of an entry, read line by line.
--
--   ItemsTo v n m old at tables as rest == from `at` up to `rest` the lines of the items as were read, and the tables old
--                                grew meanwhile
--   last_state                == the state of the last item that was read
--   items_begin, items_room, items_missing, items_broken, items_more, items_heights == before any line; there is room for
--                                further ones; no line is left; one breaks a rule; one more item; the line of the heights
use Rattle.std.proofs.Common.{◌≡◌, ℕ, ◌+◌, ◌≤◌, List, [], ◌∷◌, ◌++◌, Option, None, Some, length, map, refl, sym, ap, subst, ◌∙◌, length-append, arith}
use Rattle.std.proofs.lemmas.List.{map-append}
use Rattle.ml_base.specs.declared.version.Version.{Version}
use Rattle.ml_base.specs.declared.version.Version.TheVariants.{One}
use Rattle.ml_base.specs.declared.doc_refusal.DocRefusal.{DocRefusal}
use Rattle.ml_lines.specs.Lines.{Line}
use Rattle.ml_lists.specs.Last.{last_of}
use Rattle.ml_trace.specs.declared.letters.AutomatonState.{AutomatonState}
use Rattle.ml_trace.specs.Stack as traced
use Rattle.ml_refutation.specs.Refutation.{Entry, Fits, IsAbove}
use Rattle.ml_refutation.specs.Views.{item_of}
use Rattle.ml_refutation.specs.declared.refutation.Item.{Item}
use Rattle.ml_refutation_text.specs.RefutationText.{item_line, heights_line}
use Rattle.ml_refutation_text.specs.BodyRules.{Form}
use Rattle.ml_refutation_text.specs.BodyRules.{Place, AtItem, AtDecision}
use Rattle.ml_refutation_text.specs.private.ReadTables.{form_of, Grows}
use Rattle.ml_refutation_text.specs.private.Reads.{HasRoom, IsNext, Goes, IsUsual, TellsFault, at_line}
use Rattle.ml_refutation_text.specs.private.ItemReads.{knows, before_of, AtItems, IsItemOf, IsHeights, TellsTrace}
use Rattle.ml_refutation_text.specs.declared.known.Tables.{Tables}
use Rattle.ml_refutation_text.specs.declared.rest.Rest.{Rest}
use Rattle.ml_lines.specs.declared.refusal.LineRefusal.{LineRefusal}
use Rattle.ml_refutation_text.specs.declared.body_rule.BodyRule.{BodyRule}
use Rattle.ml_refutation_text.proofs.GoodEntries.{item_run, heights_run}
use Rattle.ml_refutation_text.proofs.TablesGrow.{grows_none, grows_on, same_form}
use Rattle.ml_refutation_text.proofs.Going.{goes_begin, goes_on, goes_run, fault_on, refused_line, room_on}

pub last_state : (ks : List (List ℕ)) (b : Option Item) (items : List Item)
    → last_of (before_of b) (map (λ a. a.state) (map (item_of ks) items)) ≡ before_of (last_of b items)
last_state ks b [] = refl
last_state ks b (a ∷ items) = last_state ks (Some a) items

module _ (V : Version) (names live : ℕ) (old : Tables) (at : Rest) where
  abbrev place : ℕ → List Entry → List ℕ → List (traced.Item AutomatonState) → Place
  place wanted es q as' = AtItem (knows names (form_of V old) wanted) es q (record { live = live; items = as' })

  abbrev shown : Tables → List Item → List (traced.Item AutomatonState)
  shown tables items = map (item_of tables.stacks) items

  pub record ItemsTo (tables : Tables) (items : List Item) (rest : Rest) : Type 0 where
    pub goes : (v : Version) (wanted : ℕ) (es : List Entry) (q : List ℕ) (later : Tables)
        → Grows V tables later
        → Goes v (place wanted es q []) at (place wanted es q (shown later items)) rest
    pub grown : Grows V old tables
    pub counted : rest.line ≡ at.line + length items

  pub items_begin : ItemsTo old [] at
  items_begin = record {
    goes = λ v wanted es q later grows. goes_begin v (place wanted es q []) at;
    grown = grows_none V old;
    counted = omega arith;
  }

  module _ (tables : Tables) (items : List Item) (rest : Rest) (so_far : ItemsTo tables items rest) where
    now_goes : (v : Version) (wanted : ℕ) (es : List Entry) (q : List ℕ)
        → Goes v (place wanted es q []) at (place wanted es q (shown tables items)) rest
    now_goes v wanted es q = so_far.goes v wanted es q tables (grows_none V tables)

    pub items_room : HasRoom at → HasRoom rest
    items_room room = room_on (now_goes One 0 [] []) room

    pub items_missing : (e : DocRefusal) → ((v : Version) (p : Place) → IsUsual p → TellsFault v p rest e)
        → (v : Version) (wanted : ℕ) (es : List Entry) (q : List ℕ) → TellsFault v (place wanted es q []) at e
    items_missing e missing v wanted es q =
        fault_on e (now_goes v wanted es q) (missing v (place wanted es q (shown tables items)) tt)

    module _ (line : Line) (behind : Rest) (next : IsNext rest line behind) (before : Option AutomatonState)
        (last : before ≡ before_of (last_of None items)) where
      abbrev F : Form
      F = form_of V tables

      same : F ≡ form_of V old
      same = same_form V old tables so_far.grown

      pub items_broken : (e : LineRefusal BodyRule) (told : DocRefusal)
          → told ≡ at_line rest.line e
          → TellsTrace F names live before line e
          → (v : Version) (wanted : ℕ) (es : List Entry) (q : List ℕ) → TellsFault v (place wanted es q []) at told
      items_broken e told is tells v wanted es q =
          let traces : traced.Entry AutomatonState = record { live = live; items = shown tables items } in
          let stands : AtItems live before traces = record { with_live = refl; behind = last_state tables.stacks None items ∙ sym last } in
          fault_on told (now_goes v wanted es q)
          (subst (λ F. TellsFault v (AtItem (knows names F wanted) es q traces) rest told) same
          (subst (TellsFault v (AtItem (knows names F wanted) es q traces) rest) (sym is)
          (refused_line v (AtItem (knows names F wanted) es q traces) rest behind line e next (tells wanted es q traces stands))))

      module _ (small : Fits names) (within : live ≤ names) (new : Tables) (grows : Grows V tables new) where
        pub items_more : (a : Item) (more : List Item)
            → ((later : Tables) → Grows V new later → IsItemOf F live before line (item_of later.stacks a))
            → more ≡ items ++ a ∷ []
            → ItemsTo new more behind
        items_more a more is pushed = record {
          goes = λ v wanted es q later onward.
              let as' = shown later items in
              let b = item_of later.stacks a in
              let item = subst (λ F. IsItemOf F live before line b) same (is later onward) in
              let all : shown later more ≡ as' ++ b ∷ [] =
              ap (shown later) pushed ∙ map-append (item_of later.stacks) items (a ∷ []) in
              let above = subst (λ s. IsAbove s b.state) (last ∙ sym (last_state later.stacks None items)) item.is_above in
              goes_on (so_far.goes v wanted es q later (grows_on V tables new later grows onward))
              (subst (λ bs. Goes v (place wanted es q as') rest (place wanted es q bs) behind) (sym all)
              (goes_run v (place wanted es q as') (place wanted es q (as' ++ b ∷ [])) rest behind line
              (item_line b.state item.is_line.words) next item.is_line.is_line
              (λ left.
              item_run v left names wanted small es q live within (form_of V old) as' b item.is_line.words item.may_stand
              item.some above item.is_line.for_stack)));
          grown = grows_on V old tables new so_far.grown grows;
          counted = omega (arith, so_far.counted, next.counted, ap length pushed, length-append items (a ∷ []));
        }

        pub items_heights : (hs : List ℕ) → IsHeights names line hs
            → ((v : Version) (wanted : ℕ) (es : List Entry) (q : List ℕ) (later : Tables)
            → Grows V new later
            → Goes v (place wanted es q []) at
            (AtDecision (knows names (form_of V old) wanted) es
            (record { sequent = q; traces = record { live = live; items = shown later items }; heights = hs }) [])
            behind)
            × (behind.line ≡ at.line + length items + 1)
        items_heights hs is = (
          (λ v wanted es q later onward.
              let as' = shown later items in
              let end =
              AtDecision (knows names (form_of V old) wanted) es
              (record { sequent = q; traces = record { live = live; items = as' }; heights = hs }) []
              in
              goes_on (so_far.goes v wanted es q later (grows_on V tables new later grows onward))
              (goes_run v (place wanted es q as') end rest behind line (heights_line hs) next is.is_line
              (λ left. heights_run v left names wanted small es q live within (form_of V old) as' hs is.fit is.one_each))),
          omega (arith, so_far.counted, next.counted),
        )
