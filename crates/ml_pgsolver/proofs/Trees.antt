-- What was read of a game text, as a tree that grows by a token at a time.
--
--   Part, Progress       == what was read of a vertex; what was read of a text
--   grow p t             == what is read with one token more, if the grammar has that
--   tokens_of p          == the tokens that were read
--   grown_from o ts      == what is read with these tokens more
--   grow-tokens          == a token more is one token behind the others
--   grown-append         == tokens one behind the other
--   grown-draft          == the tokens of a draft are read as it
--   grown-tokens         == what was read tells its tokens
use Rattle.std.proofs.Common.{◌≡◌, ℕ, List, [], ◌∷◌, ◌++◌, Option, Some, None, refl, sym, ◌∙◌, ap, true, false, ◌==◌, if◌then◌else◌, Bool, arith}
use Rattle.std.specs.List.{flat_map}
use Rattle.std.proofs.lemmas.List.{append_assoc, append-nil}
use Rattle.std.proofs.lemmas.Grind.{flat_map-append}
use Rattle.std.proofs.lemmas.Bool.Decides.{nat_tests}
use Rattle.ml_parity.specs.declared.players.Player.{Player}
use Rattle.ml_parity.specs.declared.players.Player.TheVariants.{Even, Odd}
use Rattle.ml_pgsolver.specs.Tokens.{Token, Number, Name, Parity, Comma, Semicolon}
use Rattle.ml_pgsolver.specs.Grammar.{Vertex, Draft, owner_digits, further, name_tokens, vertex_tokens, header_tokens, vertices_of, draft_tokens}
use Rattle.ml_pgsolver.specs.private.Signs.{owner_named}

-- an id is wanted; then a priority, an owner, the first successor; a successor was read (the name does not count), a comma
-- behind it, a name
pub data Part : Type 0 where
  Id : Part
  Priority : List ℕ → Part
  Owner : List ℕ → List ℕ → Part
  First : List ℕ → List ℕ → Player → Part
  Behind : Vertex → Part
  Further : Vertex → Part
  Close : Vertex → Part

-- nothing; `parity`; its number; the header and some vertices, and a part of the next one
pub data Progress : Type 0 where
  Start HeaderNumber : Progress
  HeaderEnd : List ℕ → Progress
  Body : Option (List ℕ) → List Vertex → Part → Progress

-- a vertex is not whole yet, or is
pub data Turn : Type 0 where
  More : Part → Turn
  Done : Vertex → Turn

abbrev pub owned : List ℕ → List ℕ → Option Player → Option Turn
owned id priority None = None
owned id priority (Some owner) = Some (More (First id priority owner))

abbrev pub first_of : List ℕ → List ℕ → Player → List ℕ → Vertex
first_of id priority owner digits = record { id = id; priority = priority; owner = owner; first = digits; others = []; name = None }

abbrev pub with_further : Vertex → List (List ℕ) → Vertex
with_further v more = record v { others = v.others ++ more }

abbrev pub named : Vertex → Option (List ℕ) → Vertex
named v name = record v { name = name }

abbrev pub grow_part : Part → Token → Option Turn
grow_part Id (Number digits) = Some (More (Priority digits))
grow_part (Priority id) (Number digits) = Some (More (Owner id digits))
grow_part (Owner id priority) (Number digits) = owned id priority (owner_named digits)
grow_part (First id priority owner) (Number digits) = Some (More (Behind (first_of id priority owner digits)))
grow_part (Further v) (Number digits) = Some (More (Behind (with_further v (digits ∷ []))))
grow_part (Behind v) Comma = Some (More (Further v))
grow_part (Behind v) (Name inner) = Some (More (Close (named v (Some inner))))
grow_part (Behind v) Semicolon = Some (Done (named v None))
grow_part (Close v) Semicolon = Some (Done v)
grow_part part t = None

abbrev pub turned : Option (List ℕ) → List Vertex → Option Turn → Option Progress
turned h vs None = None
turned h vs (Some (More part)) = Some (Body h vs part)
turned h vs (Some (Done v)) = Some (Body h (vs ++ v ∷ []) Id)

abbrev pub grow : Progress → Token → Option Progress
grow Start Parity = Some HeaderNumber
grow Start (Number digits) = Some (Body None [] (Priority digits))
grow HeaderNumber (Number digits) = Some (HeaderEnd digits)
grow (HeaderEnd digits) Semicolon = Some (Body (Some digits) [] Id)
grow (Body h vs part) t = turned h vs (grow_part part t)
grow p t = None

abbrev pub core_tokens : Vertex → List Token
core_tokens v =
    Number v.id ∷ Number v.priority ∷ Number (owner_digits v.owner) ∷ Number v.first ∷ flat_map further v.others

abbrev pub part_tokens : Part → List Token
part_tokens Id = []
part_tokens (Priority id) = Number id ∷ []
part_tokens (Owner id priority) = Number id ∷ Number priority ∷ []
part_tokens (First id priority owner) = Number id ∷ Number priority ∷ Number (owner_digits owner) ∷ []
part_tokens (Behind v) = core_tokens v
part_tokens (Further v) = core_tokens v ++ Comma ∷ []
part_tokens (Close v) = core_tokens v ++ name_tokens v.name

abbrev pub tokens_of : Progress → List Token
tokens_of Start = []
tokens_of HeaderNumber = Parity ∷ []
tokens_of (HeaderEnd digits) = Parity ∷ Number digits ∷ []
tokens_of (Body h vs part) = header_tokens h ++ flat_map vertex_tokens vs ++ part_tokens part

abbrev pub grown_from : Option Progress → List Token → Option Progress
grown_from None ts = None
grown_from (Some p) [] = Some p
grown_from (Some p) (t ∷ ts) = grown_from (grow p t) ts

-- ---- one token more

owner_by : (a b : Bool) (d : ℕ) (o : Player) → (d == 48) ≡ a → (d == 49) ≡ b
    → (if a then Some Even else if b then Some Odd else None) ≡ Some o
    → d ∷ [] ≡ owner_digits o
owner_by true b d Even is_a is_b is = let e : d ≡ 48 = grind (arith, nat_tests) in ap (λ c. c ∷ []) e
owner_by true b d Odd is_a is_b is = cc
owner_by false true d Even is_a is_b is = cc
owner_by false true d Odd is_a is_b is = let e : d ≡ 49 = grind (arith, nat_tests) in ap (λ c. c ∷ []) e
owner_by false false d o is_a is_b is = cc

pub owner_named-is : (digits : List ℕ) (o : Player) → owner_named digits ≡ Some o → digits ≡ owner_digits o
owner_named-is [] o is = cc
owner_named-is (d ∷ []) o is = owner_by (d == 48) (d == 49) d o refl refl is
owner_named-is (d ∷ e ∷ ds) o is = cc

pub owner_digits-named : (o : Player) → owner_named (owner_digits o) ≡ Some o
owner_digits-named Even = refl
owner_digits-named Odd = refl

abbrev turn_tokens : Turn → List Token
turn_tokens (More part) = part_tokens part
turn_tokens (Done v) = vertex_tokens v

owned-tokens : (id priority digits : List ℕ) (o : Option Player) (turn : Turn)
    → owner_named digits ≡ o
    → owned id priority o ≡ Some turn
    → part_tokens (Owner id priority) ++ Number digits ∷ [] ≡ turn_tokens turn
owned-tokens id priority digits None turn named_so is = cc
owned-tokens id priority digits (Some owner) turn named_so is =
    let same = owner_named-is digits owner named_so in
    let there : More (First id priority owner) ≡ turn = cc in
    ap (λ ds. Number id ∷ Number priority ∷ Number ds ∷ []) same ∙ ap turn_tokens there

further_more : (others : List (List ℕ)) (digits : List ℕ)
    → flat_map further others ++ Comma ∷ [] ++ Number digits ∷ [] ≡ flat_map further (others ++ digits ∷ [])
further_more others digits =
    append_assoc (flat_map further others) (Comma ∷ []) (Number digits ∷ [])
    ∙ sym (flat_map-append further others (digits ∷ []))

part-tokens : (part : Part) (t : Token) (turn : Turn)
    → grow_part part t ≡ Some turn
    → part_tokens part ++ t ∷ [] ≡ turn_tokens turn
part-tokens Id (Number digits) turn is = let e : More (Priority digits) ≡ turn = cc in ap turn_tokens e
part-tokens (Priority id) (Number digits) turn is = let e : More (Owner id digits) ≡ turn = cc in ap turn_tokens e
part-tokens (Owner id priority) (Number digits) turn is =
    owned-tokens id priority digits (owner_named digits) turn refl is
part-tokens (First id priority owner) (Number digits) turn is =
    let e : More (Behind (first_of id priority owner digits)) ≡ turn = cc in ap turn_tokens e
part-tokens (Further v) (Number digits) turn is =
    let e : More (Behind (with_further v (digits ∷ []))) ≡ turn = cc in
    ap (λ ts. Number v.id ∷ Number v.priority ∷ Number (owner_digits v.owner) ∷ Number v.first ∷ ts)
    (further_more v.others digits)
    ∙ ap turn_tokens e
part-tokens (Behind v) Comma turn is = let e : More (Further v) ≡ turn = cc in ap turn_tokens e
part-tokens (Behind v) (Name inner) turn is =
    let e : More (Close (named v (Some inner))) ≡ turn = cc in ap turn_tokens e
part-tokens (Behind v) Semicolon turn is =
    let e : Done (named v None) ≡ turn = cc in
    ap (λ ts. Number v.id ∷ Number v.priority ∷ Number (owner_digits v.owner) ∷ Number v.first ∷ (ts ++ Semicolon ∷ []))
    (sym (append-nil (flat_map further v.others)))
    ∙ ap turn_tokens e
part-tokens (Close v) Semicolon turn is = let e : Done v ≡ turn = cc in ap turn_tokens e
part-tokens part t turn is = cc

turned-tokens : (h : Option (List ℕ)) (vs : List Vertex) (part : Part) (t : Token) (o : Option Turn) (q : Progress)
    → grow_part part t ≡ o
    → turned h vs o ≡ Some q
    → tokens_of (Body h vs part) ++ t ∷ [] ≡ tokens_of q
turned-tokens h vs part t None q is so = cc
turned-tokens h vs part t (Some (More next)) q is so =
    let front = header_tokens h ++ flat_map vertex_tokens vs in
    let e : Body h vs next ≡ q = cc in
    append_assoc front (part_tokens part) (t ∷ [])
    ∙ ap (λ ts. front ++ ts) (part-tokens part t (More next) is) ∙ ap tokens_of e
turned-tokens h vs part t (Some (Done v)) q is so =
    let front = header_tokens h ++ flat_map vertex_tokens vs in
    let e : Body h (vs ++ v ∷ []) Id ≡ q = cc in
    append_assoc front (part_tokens part) (t ∷ [])
    ∙ ap (λ ts. front ++ ts) (part-tokens part t (Done v) is)
    ∙ append_assoc (header_tokens h) (flat_map vertex_tokens vs) (vertex_tokens v)
    ∙ ap (λ ts. header_tokens h ++ ts) (ap (λ ts. flat_map vertex_tokens vs ++ ts) (sym (append-nil (vertex_tokens v)))
    ∙ sym (flat_map-append vertex_tokens vs (v ∷ [])))
    ∙ sym (append-nil (header_tokens h ++ flat_map vertex_tokens (vs ++ v ∷ [])))
    ∙ ap tokens_of e

pub grow-tokens : (p : Progress) (t : Token) (q : Progress) → grow p t ≡ Some q → tokens_of p ++ t ∷ [] ≡ tokens_of q
grow-tokens Start Parity q is = let e : HeaderNumber ≡ q = cc in ap tokens_of e
grow-tokens Start (Number digits) q is = let e : Body None [] (Priority digits) ≡ q = cc in ap tokens_of e
grow-tokens HeaderNumber (Number digits) q is = let e : HeaderEnd digits ≡ q = cc in ap tokens_of e
grow-tokens (HeaderEnd digits) Semicolon q is = let e : Body (Some digits) [] Id ≡ q = cc in ap tokens_of e
grow-tokens (Body h vs part) t q is = turned-tokens h vs part t (grow_part part t) q refl is
grow-tokens p t q is = cc

-- ---- many tokens

pub grown-append : (o : Option Progress) (xs ys : List Token) → grown_from o (xs ++ ys) ≡ grown_from (grown_from o xs) ys
grown-append None xs ys = refl
grown-append (Some p) [] ys = refl
grown-append (Some p) (t ∷ xs) ys = grown-append (grow p t) xs ys

one_more : (p q : Progress) (t : Token) (ts : List Token) (o : Option Progress)
    → grow p t ≡ o
    → grown_from o ts ≡ Some q
    → ((r : Progress) → grown_from (Some r) ts ≡ Some q → tokens_of r ++ ts ≡ tokens_of q)
    → tokens_of p ++ t ∷ ts ≡ tokens_of q
one_more p q t ts None is_o is rest = cc
one_more p q t ts (Some r) is_o is rest =
    sym (append_assoc (tokens_of p) (t ∷ []) ts) ∙ ap (λ xs. xs ++ ts) (grow-tokens p t r is_o) ∙ rest r is

pub grown-tokens : (p q : Progress) (ts : List Token) → grown_from (Some p) ts ≡ Some q → tokens_of p ++ ts ≡ tokens_of q
grown-tokens p q [] is = let e : p ≡ q = cc in append-nil (tokens_of p) ∙ ap tokens_of e
grown-tokens p q (t ∷ ts) is = one_more p q t ts (grow p t) refl is (λ r more. grown-tokens r q ts more)

-- ---- the tokens of a draft

furthers : (h : Option (List ℕ)) (vs : List Vertex) (v : Vertex) (others : List (List ℕ)) (ts : List Token)
    → grown_from (Some (Body h vs (Behind v))) (flat_map further others ++ ts)
    ≡ grown_from (Some (Body h vs (Behind (with_further v others)))) ts
furthers h vs v [] ts =
    ap (λ others. grown_from (Some (Body h vs (Behind (record v { others = others })))) ts) (sym (append-nil v.others))
furthers h vs v (digits ∷ others) ts =
    furthers h vs (with_further v (digits ∷ [])) others ts
    ∙ ap (λ all. grown_from (Some (Body h vs (Behind (record v { others = all })))) ts)
    (append_assoc v.others (digits ∷ []) others)

closes : (h : Option (List ℕ)) (vs : List Vertex) (v : Vertex) (name : Option (List ℕ)) (ts : List Token)
    → grown_from (Some (Body h vs (Behind v))) (name_tokens name ++ Semicolon ∷ ts)
    ≡ grown_from (Some (Body h (vs ++ named v name ∷ []) Id)) ts
closes h vs v None ts = refl
closes h vs v (Some inner) ts = refl

behind_owner : (h : Option (List ℕ)) (vs : List Vertex) (id priority first : List ℕ) (owner : Player) (ts : List Token)
    → grown_from (Some (Body h vs (Owner id priority))) (Number (owner_digits owner) ∷ Number first ∷ ts)
    ≡ grown_from (Some (Body h vs (Behind (first_of id priority owner first)))) ts
behind_owner h vs id priority first owner ts =
    ap (λ o. grown_from (turned h vs (owned id priority o)) (Number first ∷ ts)) (owner_digits-named owner)

grown-vertex : (h : Option (List ℕ)) (vs : List Vertex) (v : Vertex) (ts : List Token)
    → grown_from (Some (Body h vs Id)) (vertex_tokens v ++ ts) ≡ grown_from (Some (Body h (vs ++ v ∷ []) Id)) ts
grown-vertex h vs v ts =
    let others = flat_map further v.others in
    let first = first_of v.id v.priority v.owner v.first in
    let split : others ++ name_tokens v.name ++ Semicolon ∷ [] ++ ts ≡ others ++ (name_tokens v.name ++ Semicolon ∷ ts) =
    append_assoc (others ++ name_tokens v.name) (Semicolon ∷ []) ts
    ∙ append_assoc others (name_tokens v.name) (Semicolon ∷ ts) in
    behind_owner h vs v.id v.priority v.first v.owner (others ++ name_tokens v.name ++ Semicolon ∷ [] ++ ts)
    ∙ ap (λ us. grown_from (Some (Body h vs (Behind first))) us) split
    ∙ furthers h vs first v.others (name_tokens v.name ++ Semicolon ∷ ts)
    ∙ closes h vs (with_further first v.others) v.name ts

grown-vertices : (h : Option (List ℕ)) (vs ws : List Vertex)
    → grown_from (Some (Body h vs Id)) (flat_map vertex_tokens ws) ≡ Some (Body h (vs ++ ws) Id)
grown-vertices h vs [] = ap (λ us. Some (Body h us Id)) (sym (append-nil vs))
grown-vertices h vs (w ∷ ws) =
    grown-vertex h vs w (flat_map vertex_tokens ws)
    ∙ grown-vertices h (vs ++ w ∷ []) ws
    ∙ ap (λ us. Some (Body h us Id)) (append_assoc vs (w ∷ []) ws)

pub grown-draft : (d : Draft) → grown_from (Some Start) (draft_tokens d) ≡ Some (Body d.header (vertices_of d) Id)
grown-draft d = by_header d.header d.first d.others
  where
    by_header : (h : Option (List ℕ)) (v : Vertex) (vs : List Vertex)
        → grown_from (Some Start) (header_tokens h ++ flat_map vertex_tokens (v ∷ vs)) ≡ Some (Body h (v ∷ vs) Id)
    by_header None v vs = grown-vertices None [] (v ∷ vs)
    by_header (Some digits) v vs = grown-vertices (Some digits) [] (v ∷ vs)
