-- What was read of a solution, as a tree that grows by a token at a time.
--
--   Piece, Reading       == what was read of an entry; what was read of a solution, behind the word
--   grow p t             == what is read with one token more, if the grammar has that
--   tokens_of p          == the tokens that were read
--   grown_from o ts      == what is read with these tokens more
--   grown-tokens         == what was read tells its tokens
--   grown-draft          == the tokens of a draft are read as it
--   begins-grown, grown-begins == what is read without fault begins a solution, and what begins one is read so
--   ended-draft          == behind an entry, what was read is a solution
use Rattle.std.proofs.Common.{◌≡◌, ℕ, List, [], ◌∷◌, ◌++◌, Option, Some, None, refl, sym, ◌∙◌, ap, subst, codes}
use Rattle.std.specs.List.{flat_map}
use Rattle.std.proofs.lemmas.List.{append_assoc, append-nil}
use Rattle.std.proofs.lemmas.Grind.{flat_map-append}
use Rattle.ml_parity.specs.declared.players.Player.{Player}
use Rattle.ml_parity.specs.declared.players.Player.TheVariants.{Even}
use Rattle.ml_pgsolver.specs.Grammar.{owner_digits}
use Rattle.ml_pgsolver.specs.Refusals.{Begins}
use Rattle.ml_pgsolver.specs.SolutionGrammar.{Entry, SolutionDraft, entry_tokens, number_tokens, solution_form, solution_tokens}
use Rattle.ml_pgsolver.specs.Tokens.{Token, Number, Semicolon}
use Rattle.ml_pgsolver.specs.private.Signs.{owner_named}
use Rattle.ml_pgsolver.proofs.Trees.{owner_digits-named, owner_named-is}

-- a vertex is wanted; then a winner; a move or the end; the end
pub data Piece : Type 0 where
  Vertex : Piece
  Winner : List ℕ → Piece
  Move : List ℕ → Player → Piece
  Close : List ℕ → Player → List ℕ → Piece

-- nothing; the number behind the word; both, some entries, and a piece of the next one
pub data Reading : Type 0 where
  Word : Reading
  HeaderEnd : List ℕ → Reading
  Body : Option (List ℕ) → List Entry → Piece → Reading

pub data Turn : Type 0 where
  More : Piece → Turn
  Done : Entry → Turn

abbrev pub entry_of : List ℕ → Player → Option (List ℕ) → Entry
entry_of v winner move_to = record { vertex = v; winner = winner; move_to = move_to }

abbrev pub won : List ℕ → Option Player → Option Turn
won v None = None
won v (Some winner) = Some (More (Move v winner))

abbrev pub grow_piece : Piece → Token → Option Turn
grow_piece Vertex (Number digits) = Some (More (Winner digits))
grow_piece (Winner v) (Number digits) = won v (owner_named digits)
grow_piece (Move v winner) (Number digits) = Some (More (Close v winner digits))
grow_piece (Move v winner) Semicolon = Some (Done (entry_of v winner None))
grow_piece (Close v winner to) Semicolon = Some (Done (entry_of v winner (Some to)))
grow_piece piece t = None

abbrev pub turned : Option (List ℕ) → List Entry → Option Turn → Option Reading
turned h es None = None
turned h es (Some (More piece)) = Some (Body h es piece)
turned h es (Some (Done e)) = Some (Body h (es ++ e ∷ []) Vertex)

abbrev pub grow : Reading → Token → Option Reading
grow Word (Number digits) = Some (HeaderEnd digits)
grow Word Semicolon = Some (Body None [] Vertex)
grow (HeaderEnd digits) Semicolon = Some (Body (Some digits) [] Vertex)
grow (Body h es piece) t = turned h es (grow_piece piece t)
grow p t = None

abbrev pub front : Option (List ℕ) → List Entry → List Token
front h es = number_tokens h ++ Semicolon ∷ flat_map entry_tokens es

abbrev pub piece_tokens : Piece → List Token
piece_tokens Vertex = []
piece_tokens (Winner v) = Number v ∷ []
piece_tokens (Move v winner) = Number v ∷ Number (owner_digits winner) ∷ []
piece_tokens (Close v winner to) = Number v ∷ Number (owner_digits winner) ∷ Number to ∷ []

abbrev pub tokens_of : Reading → List Token
tokens_of Word = []
tokens_of (HeaderEnd digits) = Number digits ∷ []
tokens_of (Body h es piece) = front h es ++ piece_tokens piece

abbrev pub grown_from : Option Reading → List Token → Option Reading
grown_from None ts = None
grown_from (Some p) [] = Some p
grown_from (Some p) (t ∷ ts) = grown_from (grow p t) ts

-- ---- one token more

abbrev turn_tokens : Turn → List Token
turn_tokens (More piece) = piece_tokens piece
turn_tokens (Done e) = entry_tokens e

won-tokens : (v digits : List ℕ) (o : Option Player) (turn : Turn)
    → owner_named digits ≡ o
    → won v o ≡ Some turn
    → Number v ∷ Number digits ∷ [] ≡ turn_tokens turn
won-tokens v digits None turn named_so is = cc
won-tokens v digits (Some winner) turn named_so is =
    let same = owner_named-is digits winner named_so in
    let there : More (Move v winner) ≡ turn = cc in
    ap (λ ds. Number v ∷ Number ds ∷ []) same ∙ ap turn_tokens there

piece-tokens : (piece : Piece) (t : Token) (turn : Turn)
    → grow_piece piece t ≡ Some turn
    → piece_tokens piece ++ t ∷ [] ≡ turn_tokens turn
piece-tokens Vertex (Number digits) turn is = let e : More (Winner digits) ≡ turn = cc in ap turn_tokens e
piece-tokens (Winner v) (Number digits) turn is = won-tokens v digits (owner_named digits) turn refl is
piece-tokens (Move v winner) (Number digits) turn is = let e : More (Close v winner digits) ≡ turn = cc in ap turn_tokens e
piece-tokens (Move v winner) Semicolon turn is = let e : Done (entry_of v winner None) ≡ turn = cc in ap turn_tokens e
piece-tokens (Close v winner to) Semicolon turn is =
    let e : Done (entry_of v winner (Some to)) ≡ turn = cc in ap turn_tokens e
piece-tokens piece t turn is = cc

-- an entry behind others
front-more : (h : Option (List ℕ)) (es : List Entry) (e : Entry) → front h es ++ entry_tokens e ≡ front h (es ++ e ∷ [])
front-more h es e =
    append_assoc (number_tokens h) (Semicolon ∷ flat_map entry_tokens es) (entry_tokens e)
    ∙ ap (λ ts. number_tokens h ++ Semicolon ∷ ts)
    (ap (λ ts. flat_map entry_tokens es ++ ts) (sym (append-nil (entry_tokens e)))
    ∙ sym (flat_map-append entry_tokens es (e ∷ [])))

turned-tokens : (h : Option (List ℕ)) (es : List Entry) (piece : Piece) (t : Token) (o : Option Turn) (q : Reading)
    → grow_piece piece t ≡ o
    → turned h es o ≡ Some q
    → tokens_of (Body h es piece) ++ t ∷ [] ≡ tokens_of q
turned-tokens h es piece t None q is so = cc
turned-tokens h es piece t (Some (More next)) q is so =
    let e : Body h es next ≡ q = cc in
    append_assoc (front h es) (piece_tokens piece) (t ∷ [])
    ∙ ap (λ ts. front h es ++ ts) (piece-tokens piece t (More next) is) ∙ ap tokens_of e
turned-tokens h es piece t (Some (Done d)) q is so =
    let e : Body h (es ++ d ∷ []) Vertex ≡ q = cc in
    append_assoc (front h es) (piece_tokens piece) (t ∷ [])
    ∙ ap (λ ts. front h es ++ ts) (piece-tokens piece t (Done d) is)
    ∙ front-more h es d
    ∙ sym (append-nil (front h (es ++ d ∷ [])))
    ∙ ap tokens_of e

grow-tokens : (p : Reading) (t : Token) (q : Reading) → grow p t ≡ Some q → tokens_of p ++ t ∷ [] ≡ tokens_of q
grow-tokens Word (Number digits) q is = let e : HeaderEnd digits ≡ q = cc in ap tokens_of e
grow-tokens Word Semicolon q is = let e : Body None [] Vertex ≡ q = cc in ap tokens_of e
grow-tokens (HeaderEnd digits) Semicolon q is = let e : Body (Some digits) [] Vertex ≡ q = cc in ap tokens_of e
grow-tokens (Body h es piece) t q is = turned-tokens h es piece t (grow_piece piece t) q refl is
grow-tokens p t q is = cc

-- ---- many tokens

pub grown-append : (o : Option Reading) (xs ys : List Token) → grown_from o (xs ++ ys) ≡ grown_from (grown_from o xs) ys
grown-append None xs ys = refl
grown-append (Some p) [] ys = refl
grown-append (Some p) (t ∷ xs) ys = grown-append (grow p t) xs ys

one_more : (p q : Reading) (t : Token) (ts : List Token) (o : Option Reading)
    → grow p t ≡ o
    → grown_from o ts ≡ Some q
    → ((r : Reading) → grown_from (Some r) ts ≡ Some q → tokens_of r ++ ts ≡ tokens_of q)
    → tokens_of p ++ t ∷ ts ≡ tokens_of q
one_more p q t ts None is_o is rest = cc
one_more p q t ts (Some r) is_o is rest =
    sym (append_assoc (tokens_of p) (t ∷ []) ts) ∙ ap (λ xs. xs ++ ts) (grow-tokens p t r is_o) ∙ rest r is

grown-tokens : (p q : Reading) (ts : List Token) → grown_from (Some p) ts ≡ Some q → tokens_of p ++ ts ≡ tokens_of q
grown-tokens p q [] is = let e : p ≡ q = cc in append-nil (tokens_of p) ∙ ap tokens_of e
grown-tokens p q (t ∷ ts) is = one_more p q t ts (grow p t) refl is (λ r more. grown-tokens r q ts more)

-- ---- the tokens of a draft

grown-entry : (h : Option (List ℕ)) (es : List Entry) (v : List ℕ) (winner : Player) (to : Option (List ℕ)) (ts : List Token)
    → grown_from (Some (Body h es Vertex)) (entry_tokens (entry_of v winner to) ++ ts)
    ≡ grown_from (Some (Body h (es ++ entry_of v winner to ∷ []) Vertex)) ts
grown-entry h es v winner None ts =
    ap (λ o. grown_from (turned h es (won v o)) (Semicolon ∷ ts)) (owner_digits-named winner)
grown-entry h es v winner (Some to) ts =
    ap (λ o. grown_from (turned h es (won v o)) (Number to ∷ Semicolon ∷ ts)) (owner_digits-named winner)

grown-entries : (h : Option (List ℕ)) (es fs : List Entry)
    → grown_from (Some (Body h es Vertex)) (flat_map entry_tokens fs) ≡ Some (Body h (es ++ fs) Vertex)
grown-entries h es [] = ap (λ xs. Some (Body h xs Vertex)) (sym (append-nil es))
grown-entries h es (f ∷ fs) =
    grown-entry h es f.vertex f.winner f.move_to (flat_map entry_tokens fs)
    ∙ grown-entries h (es ++ f ∷ []) fs
    ∙ ap (λ xs. Some (Body h xs Vertex)) (append_assoc es (f ∷ []) fs)

pub grown-draft : (d : SolutionDraft) → grown_from (Some Word) (solution_tokens d) ≡ Some (Body d.header d.entries Vertex)
grown-draft d = by_header d.header
  where
    by_header : (h : Option (List ℕ)) → grown_from (Some Word) (front h d.entries) ≡ Some (Body h d.entries Vertex)
    by_header None = grown-entries None [] d.entries
    by_header (Some digits) = grown-entries (Some digits) [] d.entries

-- ---- what begins a solution

abbrev zero_digits : List ℕ
zero_digits = codes "0"

-- an entry of which a piece was read, and what is missing of it
record Ending (piece : Piece) : Type 0 where
  entry : Entry
  missing : List Token
  whole : piece_tokens piece ++ missing ≡ entry_tokens entry

ending : (piece : Piece) → Ending piece
ending Vertex = record {
  entry = entry_of zero_digits Even None;
  missing = Number zero_digits ∷ Number zero_digits ∷ Semicolon ∷ [];
  whole = refl;
}
ending (Winner v) = record {
  entry = entry_of v Even None;
  missing = Number zero_digits ∷ Semicolon ∷ [];
  whole = refl;
}
ending (Move v winner) = record { entry = entry_of v winner None; missing = Semicolon ∷ []; whole = refl }
ending (Close v winner to) = record { entry = entry_of v winner (Some to); missing = Semicolon ∷ []; whole = refl }

begins-body : (h : Option (List ℕ)) (es : List Entry) (piece : Piece) → Begins solution_form (tokens_of (Body h es piece))
begins-body h es piece =
    let e = ending piece in
    let same : (front h es ++ piece_tokens piece) ++ e.missing ≡ front h (es ++ e.entry ∷ []) =
    append_assoc (front h es) (piece_tokens piece) e.missing
    ∙ ap (λ ts. front h es ++ ts) e.whole
    ∙ front-more h es e.entry in
    (e.missing, (record { header = h; entries = es ++ e.entry ∷ [] }, same))

begins-tokens : (p : Reading) → Begins solution_form (tokens_of p)
begins-tokens Word = (Semicolon ∷ [], (record { header = None; entries = [] }, refl))
begins-tokens (HeaderEnd digits) = (Semicolon ∷ [], (record { header = Some digits; entries = [] }, refl))
begins-tokens (Body h es piece) = begins-body h es piece

pub begins-grown : (ts : List Token) (p : Reading) → grown_from (Some Word) ts ≡ Some p → Begins solution_form ts
begins-grown ts p is = let same = grown-tokens Word p ts is in subst (Begins solution_form) (sym same) (begins-tokens p)

front_grown : (o : Option Reading) (us : List Token) (q : Reading) → grown_from o us ≡ Some q → (p : Reading) × (o ≡ Some p)
front_grown None us q is = absurd (cc)
front_grown (Some p) us q is = (p, refl)

pub grown-begins : (ts : List Token) → Begins solution_form ts → (p : Reading) × (grown_from (Some Word) ts ≡ Some p)
grown-begins ts (us, (d, is)) =
    front_grown (grown_from (Some Word) ts) us (Body d.header d.entries Vertex)
    (sym (grown-append (Some Word) ts us) ∙ ap (grown_from (Some Word)) is ∙ grown-draft d)

pub solution-ended : (ts : List Token) (d : SolutionDraft) → ts ≡ solution_tokens d
    → grown_from (Some Word) ts ≡ Some (Body d.header d.entries Vertex)
solution-ended ts d is = ap (grown_from (Some Word)) is ∙ grown-draft d

pub ended-draft : (ts : List Token) (h : Option (List ℕ)) (es : List Entry)
    → grown_from (Some Word) ts ≡ Some (Body h es Vertex)
    → ts ≡ solution_tokens (record { header = h; entries = es })
ended-draft ts h es is = grown-tokens Word (Body h es Vertex) ts is ∙ append-nil (front h es)
