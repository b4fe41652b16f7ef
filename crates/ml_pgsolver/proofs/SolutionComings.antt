-- The steps of the reader of solutions are those of the grammar, within the limits.
--
--   image p            == what the reader knows of what was read
--   vertices_in, references_in == the vertices, and all ids, of the entries that were read
--   Facts p t q        == what the places of tokens tell of a token with which q is read
--   facts              == so it is
--   Passes p t         == the token t keeps the limits, and repeats no vertex
--   Came p t q at out  == what the reader makes of a token with which q is read
--   came, stuck        == it makes this of it, and refuses each other token
use Rattle.std.proofs.Common.{◌≡◌, ℕ, ◌<◌, ◌≤◌, ◌⊎◌, true, false, List, [], ◌∷◌, ◌++◌, length, map, Option, Some, None, Ok, Err, refl, sym, ◌∙◌, ap, subst, arith, nat_le, inl, inr}
use Rattle.std.specs.List.{flat_map}
use Rattle.std.proofs.lemmas.Bool.{cond-true, cond-false}
use Rattle.std.proofs.lemmas.List.{append_assoc, append-nil, map-append}
use Rattle.std.proofs.lemmas.Grind.{flat_map-append}
use Rattle.ml_lines.specs.Reading.{value}
use Rattle.ml_lists.specs.Member.{IsMember}
use Rattle.ml_parity.specs.declared.players.Player.{Player}
use Rattle.ml_pgsolver.specs.Refusals.{greatest_number, id_at_place, most_vertices, next_place}
use Rattle.ml_pgsolver.specs.SolutionGrammar.{Entry, reference_at_place}
use Rattle.ml_pgsolver.specs.Tokens.{Token, Number, Name, Parity, Comma, Semicolon, Stray}
use Rattle.ml_pgsolver.specs.declared.entries.EntryRow.{EntryRow}
use Rattle.ml_pgsolver.specs.declared.entries.EntryStage.{EntryStage}
use Rattle.ml_pgsolver.specs.declared.entries.EntryStage.TheVariants as stage
use Rattle.ml_pgsolver.specs.declared.refusal.GameTextRefusal.TheVariants as refusal
use Rattle.ml_pgsolver.specs.private.EntryMachine.{EntryState, EntryStep, entry_step, led_to, with_value, with_vertex, with_winner}
use Rattle.ml_pgsolver.specs.private.Machine.{is_among}
use Rattle.ml_pgsolver.specs.private.Signs.{fitting, owner_named, sign_of}
use Rattle.ml_pgsolver.proofs.Images.{among-cases, fitting-cases, full-cases, IsSmall}
use Rattle.ml_pgsolver.proofs.SolutionTrees.{Body, Close, HeaderEnd, Move, Piece, Reading, Vertex, Winner, Word, entry_of, grow, turned, won}
use Rattle.ml_pgsolver.proofs.Trees.{owner_named-is}
use Rattle.ml_pgsolver.proofs.Comings.{owner_small}

-- ---- what the reader knows

abbrev pub move_value : Option (List ℕ) → Option ℕ
move_value None = None
move_value (Some digits) = Some (value digits)

abbrev pub entry_row : Entry → EntryRow
entry_row e = record { vertex = value e.vertex; winner = e.winner; move_to = move_value e.move_to }

abbrev pub vertex_of : Entry → ℕ
vertex_of e = value e.vertex

abbrev pub move_reference : Option (List ℕ) → List ℕ
move_reference None = []
move_reference (Some digits) = value digits ∷ []

abbrev pub entry_references : Entry → List ℕ
entry_references e = value e.vertex ∷ move_reference e.move_to

abbrev pub piece_stage : Piece → EntryStage
piece_stage Vertex = stage.Vertex
piece_stage (Winner v) = stage.Winner (value v)
piece_stage (Move v winner) = stage.Move (value v) winner
piece_stage (Close v winner to) = stage.Close (value v) winner (value to)

abbrev pub stage_of : Reading → EntryStage
stage_of Word = stage.Header
stage_of (HeaderEnd digits) = stage.HeaderEnd
stage_of (Body h es piece) = piece_stage piece

abbrev pub rows_in : Reading → List EntryRow
rows_in (Body h es piece) = map entry_row es
rows_in p = []

abbrev pub piece_vertices : Piece → List ℕ
piece_vertices Vertex = []
piece_vertices (Winner v) = value v ∷ []
piece_vertices (Move v winner) = value v ∷ []
piece_vertices (Close v winner to) = value v ∷ []

abbrev pub vertices_in : Reading → List ℕ
vertices_in (Body h es piece) = map vertex_of es ++ piece_vertices piece
vertices_in p = []

abbrev pub piece_references : Piece → List ℕ
piece_references Vertex = []
piece_references (Winner v) = value v ∷ []
piece_references (Move v winner) = value v ∷ []
piece_references (Close v winner to) = value v ∷ value to ∷ []

abbrev pub references_in : Reading → List ℕ
references_in (Body h es piece) = flat_map entry_references es ++ piece_references piece
references_in p = []

abbrev pub image : Reading → EntryState
image p = record { stage = stage_of p; rows = rows_in p; vertices = vertices_in p }

-- ---- places and roles

abbrev pub piece_place : Piece → ℕ
piece_place Vertex = 0
piece_place (Winner v) = 1
piece_place (Move v winner) = 2
piece_place (Close v winner to) = 3

abbrev pub place_of : Reading → ℕ
place_of Word = 1
place_of (HeaderEnd digits) = 2
place_of (Body h es piece) = piece_place piece

abbrev pub vertex_in_piece : Piece → Token → List ℕ
vertex_in_piece Vertex (Number digits) = value digits ∷ []
vertex_in_piece piece t = []

abbrev pub vertex_here : Reading → Token → List ℕ
vertex_here (Body h es piece) t = vertex_in_piece piece t
vertex_here p t = []

pub record Facts (p : Reading) (t : Token) (q : Reading) : Type 0 where
  pub place : next_place (place_of p) t ≡ place_of q
  pub vertex : id_at_place (place_of p) t ≡ vertex_here p t
  pub vertices : vertices_in q ≡ vertices_in p ++ vertex_here p t
  pub references : references_in q ≡ references_in p ++ reference_at_place (place_of p) t

-- a token that ends an entry
entered_facts : (h : Option (List ℕ)) (es : List Entry) (piece : Piece) (e : Entry) (n : ℕ)
    → piece_vertices piece ≡ vertex_of e ∷ []
    → piece_references piece ≡ entry_references e
    → piece_place piece ≡ n
    → id_at_place n Semicolon ≡ []
    → vertex_in_piece piece Semicolon ≡ []
    → reference_at_place n Semicolon ≡ []
    → Facts (Body h es piece) Semicolon (Body h (es ++ e ∷ []) Vertex)
entered_facts h es piece e n vertices references place no_id no_vertex no_reference = record {
  place = refl;
  vertex = ap (λ m. id_at_place m Semicolon) place ∙ no_id ∙ sym no_vertex;
  vertices =
      append-nil (map vertex_of (es ++ e ∷ []))
      ∙ map-append vertex_of es (e ∷ [])
      ∙ ap (λ xs. map vertex_of es ++ xs) (sym vertices)
      ∙ sym (append-nil (map vertex_of es ++ piece_vertices piece))
      ∙ ap (λ xs. map vertex_of es ++ piece_vertices piece ++ xs) (sym no_vertex);
  references =
      append-nil (flat_map entry_references (es ++ e ∷ []))
      ∙ flat_map-append entry_references es (e ∷ [])
      ∙ ap (λ xs. flat_map entry_references es ++ xs) (append-nil (entry_references e) ∙ sym references)
      ∙ sym (append-nil (flat_map entry_references es ++ piece_references piece))
      ∙ ap (λ xs. flat_map entry_references es ++ piece_references piece ++ xs)
      (sym (ap (λ m. reference_at_place m Semicolon) place ∙ no_reference));
}

won_facts : (h : Option (List ℕ)) (es : List Entry) (v digits : List ℕ) (o : Option Player) (q : Reading)
    → turned h es (won v o) ≡ Some q
    → Facts (Body h es (Winner v)) (Number digits) q
won_facts h es v digits None q is = absurd (cc)
won_facts h es v digits (Some winner) q is =
    let e : Body h es (Move v winner) ≡ q = cc in
    subst (Facts (Body h es (Winner v)) (Number digits)) e (record {
      place = refl;
      vertex = refl;
      vertices = sym (append-nil (map vertex_of es ++ value v ∷ []));
      references = sym (append-nil (flat_map entry_references es ++ value v ∷ []));
    })

pub facts : (p : Reading) (t : Token) (q : Reading) → grow p t ≡ Some q → Facts p t q
facts Word (Number digits) q is =
    let e : HeaderEnd digits ≡ q = cc in
    subst (Facts Word (Number digits)) e (record { place = refl; vertex = refl; vertices = refl; references = refl })
facts Word Semicolon q is =
    let e : Body None [] Vertex ≡ q = cc in
    subst (Facts Word Semicolon) e (record { place = refl; vertex = refl; vertices = refl; references = refl })
facts (HeaderEnd digits) Semicolon q is =
    let e : Body (Some digits) [] Vertex ≡ q = cc in
    subst (Facts (HeaderEnd digits) Semicolon) e (record { place = refl; vertex = refl; vertices = refl; references = refl })
facts (Body h es Vertex) (Number digits) q is =
    let e : Body h es (Winner digits) ≡ q = cc in
    subst (Facts (Body h es Vertex) (Number digits)) e (record {
      place = refl;
      vertex = refl;
      vertices = ap (λ xs. xs ++ value digits ∷ []) (sym (append-nil (map vertex_of es)));
      references = ap (λ xs. xs ++ value digits ∷ []) (sym (append-nil (flat_map entry_references es)));
    })
facts (Body h es (Winner v)) (Number digits) q is = won_facts h es v digits (owner_named digits) q is
facts (Body h es (Move v winner)) (Number digits) q is =
    let e : Body h es (Close v winner digits) ≡ q = cc in
    subst (Facts (Body h es (Move v winner)) (Number digits)) e (record {
      place = refl;
      vertex = refl;
      vertices = sym (append-nil (map vertex_of es ++ value v ∷ []));
      references = sym (append_assoc (flat_map entry_references es) (value v ∷ []) (value digits ∷ []));
    })
facts (Body h es (Move v winner)) Semicolon q is =
    let e : Body h (es ++ entry_of v winner None ∷ []) Vertex ≡ q = cc in
    subst (Facts (Body h es (Move v winner)) Semicolon) e
    (entered_facts h es (Move v winner) (entry_of v winner None) 2 refl refl refl refl refl refl)
facts (Body h es (Close v winner to)) Semicolon q is =
    let e : Body h (es ++ entry_of v winner (Some to) ∷ []) Vertex ≡ q = cc in
    subst (Facts (Body h es (Close v winner to)) Semicolon) e
    (entered_facts h es (Close v winner to) (entry_of v winner (Some to)) 3 refl refl refl refl refl refl)
facts p t q is = absurd (cc)

-- ---- what the reader makes of a token

pub record Passes (p : Reading) (t : Token) : Type 0 where
  pub fresh : (n : ℕ) → vertex_here p t ≡ n ∷ [] → IsMember n (vertices_in p) → ⊥
  pub room : (n : ℕ) → vertex_here p t ≡ n ∷ [] → length (vertices_in p) < most_vertices
  pub small : IsSmall t

pub data Came (p : Reading) (t : Token) (q : Reading) (at : ℕ) (out : EntryStep) : Type 0 where
  goes : out ≡ Ok (image q) → Passes p t → Came p t q at out
  repeats : (n : ℕ) → vertex_here p t ≡ n ∷ [] → IsMember n (vertices_in p) → out ≡ Err (refusal.Repeated at)
      → Came p t q at out
  fills : (n : ℕ) → vertex_here p t ≡ n ∷ [] → (IsMember n (vertices_in p) → ⊥) → most_vertices ≤ length (vertices_in p)
      → out ≡ Err (refusal.TooMany at)
      → Came p t q at out
  outgrows : (digits : List ℕ) → t ≡ Number digits → greatest_number < value digits
      → ((n : ℕ) → vertex_here p t ≡ n ∷ [] → IsMember n (vertices_in p) → ⊥)
      → ((n : ℕ) → vertex_here p t ≡ n ∷ [] → length (vertices_in p) < most_vertices)
      → out ≡ Err (refusal.TooLarge at)
      → Came p t q at out

small_same : (digits : List ℕ) → value digits ≤ greatest_number → (ds : List ℕ) → Number digits ≡ Number ds
    → value ds ≤ greatest_number
small_same digits small ds is = let e : digits ≡ ds = cc in subst (λ xs. value xs ≤ greatest_number) e small

-- a token that is no vertex and no large number
plain : (p : Reading) (t : Token) → vertex_here p t ≡ []
    → ((digits : List ℕ) → t ≡ Number digits → value digits ≤ greatest_number)
    → Passes p t
plain p t no_vertex small = record {
  fresh = λ n here. absurd (cc);
  room = λ n here. absurd (cc);
  small = small;
}

-- ---- a vertex

module _ (h : Option (List ℕ)) (es : List Entry) (digits : List ℕ) (at : ℕ) where
  abbrev p : Reading
  p = Body h es Vertex

  abbrev q : Reading
  q = Body h es (Winner digits)

  abbrev out : EntryStep
  out = with_vertex (image p) (fitting (value digits)) at

  here_is : (n : ℕ) → vertex_here p (Number digits) ≡ n ∷ [] → n ≡ value digits
  here_is n here = cc

  not_again : (IsMember (value digits) (vertices_in p) → ⊥) → (n : ℕ) → vertex_here p (Number digits) ≡ n ∷ []
      → IsMember n (vertices_in p)
      → ⊥
  not_again fresh n here member = fresh (subst (λ k. IsMember k (vertices_in p)) (here_is n here) member)

  next : record (image p) { stage = stage.Winner (value digits); vertices = vertices_in p ++ value digits ∷ [] } ≡ image q
  next =
      ap (λ (xs : List ℕ). let s : EntryState = record { stage = stage.Winner (value digits); rows = map entry_row es; vertices = xs ++ value digits ∷ [] } in s)
      (append-nil (map vertex_of es))

  by_room : out ≡ with_vertex (image p) (Some (value digits)) at
      → value digits ≤ greatest_number
      → is_among (vertices_in p) (value digits) ≡ false
      → (IsMember (value digits) (vertices_in p) → ⊥)
      → ((nat_le most_vertices (length (vertices_in p)) ≡ true) × (most_vertices ≤ length (vertices_in p)))
      ⊎ ((nat_le most_vertices (length (vertices_in p)) ≡ false) × (length (vertices_in p) < most_vertices))
      → Came p (Number digits) q at out
  by_room same small new fresh (inl (is, full)) =
      fills (value digits) refl fresh full (same ∙ cond-false _ _ _ new ∙ cond-true _ _ _ is)
  by_room same small new fresh (inr (is, room)) =
      goes (same ∙ cond-false _ _ _ new ∙ cond-false _ _ _ is ∙ ap Ok next) (record {
        fresh = not_again fresh;
        room = λ n here. room;
        small = small_same digits small;
      })

  by_member : out ≡ with_vertex (image p) (Some (value digits)) at
      → value digits ≤ greatest_number
      → ((is_among (vertices_in p) (value digits) ≡ true) × IsMember (value digits) (vertices_in p))
      ⊎ ((is_among (vertices_in p) (value digits) ≡ false) × (IsMember (value digits) (vertices_in p) → ⊥))
      → Came p (Number digits) q at out
  by_member same small (inl (old, member)) = repeats (value digits) refl member (same ∙ cond-true _ _ _ old)
  by_member same small (inr (new, fresh)) =
      by_room same small new fresh (full-cases most_vertices (length (vertices_in p)))

  large : out ≡ with_vertex (image p) None at
      → greatest_number < value digits
      → (IsMember (value digits) (vertices_in p) → ⊥)
      → ((nat_le most_vertices (length (vertices_in p)) ≡ true) × (most_vertices ≤ length (vertices_in p)))
      ⊎ ((nat_le most_vertices (length (vertices_in p)) ≡ false) × (length (vertices_in p) < most_vertices))
      → Came p (Number digits) q at out
  large same above fresh (inl (is, full)) = fills (value digits) refl fresh full (same ∙ ap Err (cond-true _ _ _ is))
  large same above fresh (inr (is, room)) =
      outgrows digits refl above (not_again fresh) (λ n here. room) (same ∙ ap Err (cond-false _ _ _ is))

  by_size : ((n : ℕ) → IsMember n (vertices_in p) → n ≤ greatest_number)
      → ((fitting (value digits) ≡ Some (value digits)) × (value digits ≤ greatest_number))
      ⊎ ((fitting (value digits) ≡ None) × (greatest_number < value digits))
      → Came p (Number digits) q at out
  by_size all_small (inl (fits, small)) =
      by_member (ap (λ v. with_vertex (image p) v at) fits) small (among-cases (vertices_in p) (value digits))
  by_size all_small (inr (none, above)) =
      large (ap (λ v. with_vertex (image p) v at) none) above
      (λ member. let small = all_small (value digits) member in omega arith)
      (full-cases most_vertices (length (vertices_in p)))

  vertex_came : ((n : ℕ) → IsMember n (vertices_in p) → n ≤ greatest_number) → Came p (Number digits) q at out
  vertex_came all_small = by_size all_small (fitting-cases (value digits))

-- ---- another number

number_came : (p q : Reading) (next : ℕ → EntryStage) (digits : List ℕ) (at : ℕ)
    → vertex_here p (Number digits) ≡ []
    → record (image p) { stage = next (value digits) } ≡ image q
    → Came p (Number digits) q at (led_to (image p) (with_value next (fitting (value digits)) at))
number_came p q next digits at no_vertex next_is = by (fitting-cases (value digits))
  where
    by : ((fitting (value digits) ≡ Some (value digits)) × (value digits ≤ greatest_number))
        ⊎ ((fitting (value digits) ≡ None) × (greatest_number < value digits))
        → Came p (Number digits) q at (led_to (image p) (with_value next (fitting (value digits)) at))
    by (inl (fits, small)) =
        goes (ap (λ v. led_to (image p) (with_value next v at)) fits ∙ ap Ok next_is)
        (plain p (Number digits) no_vertex (small_same digits small))
    by (inr (none, above)) =
        outgrows digits refl above (λ n here. absurd (cc)) (λ n here. absurd (cc))
        (ap (λ v. led_to (image p) (with_value next v at)) none)

-- ---- a winner

winner_came : (h : Option (List ℕ)) (es : List Entry) (v digits : List ℕ) (at : ℕ) (o : Option Player) (q : Reading)
    → owner_named digits ≡ o
    → turned h es (won v o) ≡ Some q
    → Came (Body h es (Winner v)) (Number digits) q at
    (led_to (image (Body h es (Winner v))) (with_winner (value v) (owner_named digits) at))
winner_came h es v digits at None q is so = absurd (cc)
winner_came h es v digits at (Some winner) q is so =
    let p = Body h es (Winner v) in
    let e : Body h es (Move v winner) ≡ q = cc in
    let same = owner_named-is digits winner is in
    let small : value digits ≤ greatest_number = subst (λ ds. value ds ≤ greatest_number) (sym same) (owner_small winner) in
    subst (λ r. Came p (Number digits) r at (led_to (image p) (with_winner (value v) (owner_named digits) at))) e
    (goes (ap (λ w. led_to (image p) (with_winner (value v) w at)) is) (plain p (Number digits) refl (small_same digits small)))

-- ---- the end of an entry, or of the line of the word

no_digits : (digits : List ℕ) → Semicolon ≡ Number digits → value digits ≤ greatest_number
no_digits digits is = absurd (cc)

quiet : (p q : Reading) (at : ℕ) (made : EntryStep) → made ≡ Ok (image q) → vertex_here p Semicolon ≡ []
    → Came p Semicolon q at made
quiet p q at made is no_vertex = goes is (plain p Semicolon no_vertex no_digits)

entered_image : (es : List Entry) (e : Entry) (piece : Piece) (row : EntryRow)
    → row ≡ entry_row e
    → piece_vertices piece ≡ vertex_of e ∷ []
    → (let s : EntryState = record { stage = stage.Vertex; rows = map entry_row es ++ row ∷ []; vertices = map vertex_of es ++ piece_vertices piece } in
    let t : EntryState = record { stage = stage.Vertex; rows = map entry_row (es ++ e ∷ []); vertices = map vertex_of (es ++ e ∷ []) ++ [] } in s ≡ t)
entered_image es e piece row is vertices =
    let rows : map entry_row es ++ row ∷ [] ≡ map entry_row (es ++ e ∷ []) =
    ap (λ r. map entry_row es ++ r ∷ []) is ∙ sym (map-append entry_row es (e ∷ [])) in
    let all : map vertex_of es ++ piece_vertices piece ≡ map vertex_of (es ++ e ∷ []) ++ [] =
    ap (λ xs. map vertex_of es ++ xs) vertices ∙ sym (map-append vertex_of es (e ∷ []))
    ∙ sym (append-nil (map vertex_of (es ++ e ∷ []))) in
    cc

-- ---- each token

abbrev pub AllSmall : Reading → Type 0
AllSmall p = (n : ℕ) → IsMember n (vertices_in p) → n ≤ greatest_number

pub came : (p : Reading) (t : Token) (q : Reading) (at : ℕ) → grow p t ≡ Some q → AllSmall p
    → Came p t q at (entry_step (image p) (sign_of t) at)
came Word (Number digits) q at is small =
    let e : HeaderEnd digits ≡ q = cc in
    subst (λ r. Came Word (Number digits) r at (entry_step (image Word) (sign_of (Number digits)) at)) e
    (number_came Word (HeaderEnd digits) (λ n. stage.HeaderEnd) digits at refl refl)
came Word Semicolon q at is small =
    let e : Body None [] Vertex ≡ q = cc in
    subst (λ r. Came Word Semicolon r at (entry_step (image Word) (sign_of Semicolon) at)) e
    (quiet Word (Body None [] Vertex) at _ refl refl)
came (HeaderEnd digits) Semicolon q at is small =
    let e : Body (Some digits) [] Vertex ≡ q = cc in
    subst (λ r. Came (HeaderEnd digits) Semicolon r at (entry_step (image (HeaderEnd digits)) (sign_of Semicolon) at)) e
    (quiet (HeaderEnd digits) (Body (Some digits) [] Vertex) at _ refl refl)
came (Body h es Vertex) (Number digits) q at is small =
    let e : Body h es (Winner digits) ≡ q = cc in
    subst (λ r. Came (Body h es Vertex) (Number digits) r at (entry_step (image (Body h es Vertex)) (sign_of (Number digits)) at)) e
    (vertex_came h es digits at small)
came (Body h es (Winner v)) (Number digits) q at is small = winner_came h es v digits at (owner_named digits) q refl is
came (Body h es (Move v winner)) (Number digits) q at is small =
    let e : Body h es (Close v winner digits) ≡ q = cc in
    subst (λ r. Came (Body h es (Move v winner)) (Number digits) r at (entry_step (image (Body h es (Move v winner))) (sign_of (Number digits)) at)) e
    (number_came (Body h es (Move v winner)) (Body h es (Close v winner digits)) (stage.Close (value v) winner) digits at refl refl)
came (Body h es (Move v winner)) Semicolon q at is small =
    let made = entry_of v winner None in
    let e : Body h (es ++ made ∷ []) Vertex ≡ q = cc in
    subst (λ r. Came (Body h es (Move v winner)) Semicolon r at (entry_step (image (Body h es (Move v winner))) (sign_of Semicolon) at)) e
    (quiet (Body h es (Move v winner)) (Body h (es ++ made ∷ []) Vertex) at _
    (ap Ok (entered_image es made (Move v winner) (entry_row made) refl refl)) refl)
came (Body h es (Close v winner to)) Semicolon q at is small =
    let made = entry_of v winner (Some to) in
    let e : Body h (es ++ made ∷ []) Vertex ≡ q = cc in
    subst (λ r. Came (Body h es (Close v winner to)) Semicolon r at (entry_step (image (Body h es (Close v winner to))) (sign_of Semicolon) at)) e
    (quiet (Body h es (Close v winner to)) (Body h (es ++ made ∷ []) Vertex) at _
    (ap Ok (entered_image es made (Close v winner to) (entry_row made) refl refl)) refl)
came p t q at is small = absurd (cc)

stuck_winner : (h : Option (List ℕ)) (es : List Entry) (v digits : List ℕ) (at : ℕ) (o : Option Player)
    → owner_named digits ≡ o
    → turned h es (won v o) ≡ None
    → led_to (image (Body h es (Winner v))) (with_winner (value v) (owner_named digits) at) ≡ Err (refusal.Syntax at)
stuck_winner h es v digits at None is so = ap (λ w. led_to (image (Body h es (Winner v))) (with_winner (value v) w at)) is
stuck_winner h es v digits at (Some winner) is so = absurd (cc)

pub stuck : (p : Reading) (t : Token) (at : ℕ) → grow p t ≡ None → entry_step (image p) (sign_of t) at ≡ Err (refusal.Syntax at)
stuck Word (Number digits) at is = absurd (cc)
stuck Word Semicolon at is = absurd (cc)
stuck Word (Name inner) at is = refl
stuck Word Parity at is = refl
stuck Word Comma at is = refl
stuck Word (Stray b) at is = refl
stuck (HeaderEnd digits) (Number ds) at is = refl
stuck (HeaderEnd digits) Semicolon at is = absurd (cc)
stuck (HeaderEnd digits) (Name inner) at is = refl
stuck (HeaderEnd digits) Parity at is = refl
stuck (HeaderEnd digits) Comma at is = refl
stuck (HeaderEnd digits) (Stray b) at is = refl
stuck (Body h es Vertex) (Number digits) at is = absurd (cc)
stuck (Body h es Vertex) Semicolon at is = refl
stuck (Body h es (Winner v)) (Number digits) at is = stuck_winner h es v digits at (owner_named digits) refl is
stuck (Body h es (Winner v)) Semicolon at is = refl
stuck (Body h es (Move v winner)) (Number digits) at is = absurd (cc)
stuck (Body h es (Move v winner)) Semicolon at is = absurd (cc)
stuck (Body h es (Close v winner to)) (Number digits) at is = refl
stuck (Body h es (Close v winner to)) Semicolon at is = absurd (cc)
stuck (Body h es piece) (Name inner) at is = refl
stuck (Body h es piece) Parity at is = refl
stuck (Body h es piece) Comma at is = refl
stuck (Body h es piece) (Stray b) at is = refl
