-- The places of successors among ids.
--
--   too_large     == what does not fit 32 bits is none of the ids
--   place_more    == one place more, in place of an id
--   left_more     == what is left then
--   given_none, given_more, unknown_in  == the same of the successors of rows
--   unknown_here  == a successor that is none of the ids
use Rattle.std.proofs.Common.{◌≡◌, ℕ, suc, ◌+◌, ◌<◌, ◌≤◌, ◌^◌, List, [], ◌∷◌, ◌++◌, length, map, take, drop, get_or, set, All, refl, sym, ◌∙◌, ap, subst, arith, length-drop}
use Rattle.std.proofs.Math.Seq.{take-suc, take-suc-set}
use Rattle.std.proofs.lemmas.List.{drop_more, map-append, drop-set-lt}
use Rattle.std.proofs.lemmas.List.Elements.{All-nil, All-push}
use Rattle.ml_lists.specs.Member.{IsMember}
use Rattle.ml_lists.proofs.Member.{member-place, place-member, member-map}
use Rattle.ml_parity.specs.Refusal.{lists_of}
use Rattle.std.specs.Global.{Vec}
use Rattle.ml_pgsolver.specs.declared.reader.Row.{Row}
use Rattle.ml_pgsolver.specs.GameText as game_text
use Rattle.ml_pgsolver.specs.GameText.{id_at}
use Rattle.ml_pgsolver.specs.private.Assembled.{ArePlaces, AreGiven, HasUnknown, HasUnknownIn}
use Rattle.ml_pgsolver.specs.private.Rows.{row_view, rows_view}

pub too_large : (ids : List ℕ) (id : ℕ) → ((i : ℕ) → get_or ids i 0 < 2 ^ 32) → 2 ^ 32 ≤ id → IsMember id ids → ⊥
too_large ids id small large member =
    let at = member-place id ids member in
    let is = at.holds 0 in
    let fits = small at.place in omega arith

-- one place more, in place of an id
pub place_more : (ids now old : List ℕ) (i place : ℕ)
    → i < length now
    → ArePlaces ids (take i now) (take i old)
    → drop i now ≡ drop i old
    → place < length ids
    → get_or ids place 0 ≡ get_or now i 0
    → ArePlaces ids (take (i + 1) (set now i place)) (take (i + 1) old)
place_more ids now old i place within done left below is =
    let left_now : drop i now ≡ get_or now i 0 ∷ drop (i + 1) now = drop_more now i 0 within in
    let inside : i < length old = omega (arith, ap length left, length-drop i now, length-drop i old) in
    let left_old : drop i old ≡ get_or old i 0 ∷ drop (i + 1) old = drop_more old i 0 inside in
    let same : get_or now i 0 ≡ get_or old i 0 = cc in
    let e : i + 1 ≡ suc i = omega arith in
    let front : take (i + 1) (set now i place) ≡ take i now ++ place ∷ [] =
    ap (λ k. take k (set now i place)) e ∙ take-suc-set now i place within in
    let front_old : take (i + 1) old ≡ take i old ++ get_or old i 0 ∷ [] =
    ap (λ k. take k old) e ∙ take-suc old i 0 inside in
    record {
      ids_there = ap (map (id_at ids)) front ∙ map-append (id_at ids) (take i now) (place ∷ [])
          ∙ ap (λ xs. xs ++ get_or ids place 0 ∷ []) done.ids_there
          ∙ ap (λ x. take i old ++ x ∷ []) (is ∙ same)
          ∙ sym front_old;
      within = subst (All (λ k. k < length ids)) (sym front)
          (All-push (λ k. k < length ids) (take i now) place done.within below);
    }

pub unknown_here : (ids now old : List ℕ) (i : ℕ) → i < length now → drop i now ≡ drop i old
    → (IsMember (get_or now i 0) ids → ⊥)
    → HasUnknown ids old
unknown_here ids now old i within left none =
    let left_now : drop i now ≡ get_or now i 0 ∷ drop (i + 1) now = drop_more now i 0 within in
    let inside : i < length old = omega (arith, ap length left, length-drop i now, length-drop i old) in
    let left_old : drop i old ≡ get_or old i 0 ∷ drop (i + 1) old = drop_more old i 0 inside in
    let same : get_or now i 0 ≡ get_or old i 0 = cc in
    (get_or old i 0, place-member old i 0 inside, λ member. none (subst (λ n. IsMember n ids) (sym same) member))

pub left_more : (now old : List ℕ) (i place : ℕ) → i < length now → drop i now ≡ drop i old
    → drop (i + 1) (set now i place) ≡ drop (i + 1) old
left_more now old i place within left =
    let inside : i < length old = omega (arith, ap length left, length-drop i now, length-drop i old) in
    let left_now : drop i now ≡ get_or now i 0 ∷ drop (i + 1) now = drop_more now i 0 within in
    let left_old : drop i old ≡ get_or old i 0 ∷ drop (i + 1) old = drop_more old i 0 inside in
    let same : drop (i + 1) now ≡ drop (i + 1) old = cc in
    drop-set-lt (i + 1) now i place (omega arith) ∙ same

-- ---- the successors of rows

pub given_none : (ids : List ℕ) (given : List (Vec ℕ)) → given ≡ [] → AreGiven ids (lists_of given) []
given_none ids given none =
    subst (λ g. AreGiven ids (lists_of g) []) (sym none) (record { ids_there = refl; within = All-nil (All (λ i. i < length ids)) })

pub given_more : (ids : List ℕ) (given : List (Vec ℕ)) (rows : List Row) (row : Row) (places : Vec ℕ) (now : List (Vec ℕ))
    → AreGiven ids (lists_of given) (rows_view rows)
    → ArePlaces ids places.items row.successors.items
    → now ≡ given ++ places ∷ []
    → AreGiven ids (lists_of now) (rows_view (rows ++ row ∷ []))
given_more ids given rows row places now done there is =
    let given_now : lists_of now ≡ lists_of given ++ places.items ∷ [] =
    ap lists_of is ∙ map-append (λ (x : Vec ℕ). x.items) given (places ∷ []) in
    let rows_now = map-append row_view rows (row ∷ []) in
    let successors : game_text.Row → List ℕ = λ (r : game_text.Row). r.successors in
    record {
      ids_there = ap (map (map (id_at ids))) given_now ∙ map-append (map (id_at ids)) (lists_of given) (places.items ∷ [])
          ∙ ap (λ xs. xs ++ map (id_at ids) places.items ∷ []) done.ids_there
          ∙ ap (λ x. map successors (rows_view rows) ++ x ∷ []) there.ids_there
          ∙ sym (ap (map successors) rows_now ∙ map-append successors (rows_view rows) (row_view row ∷ []));
      within = subst (All (All (λ i. i < length ids))) (sym given_now)
          (All-push (All (λ i. i < length ids)) (lists_of given) places.items done.within there.within);
    }

pub unknown_in : (ids : List ℕ) (rows : List Row) (k : ℕ) (row : Row) → k < length rows → row ≡ get_or rows k row
    → HasUnknown ids row.successors.items
    → HasUnknownIn ids (rows_view rows)
unknown_in ids rows k row below is unknown =
    let member = subst (λ r. IsMember r rows) (sym is) (place-member rows k row below) in
    (row_view row, member-map row_view row rows member, unknown)
