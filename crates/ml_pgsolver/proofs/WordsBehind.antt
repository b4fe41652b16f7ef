-- Behind the text of a game the word `paritysol` stands first.
--
--   IsQuiet ts   == no stray byte is among the tokens, and behind `parity` stands a number
--   quiet_game   == so it is in the text of a game
--   front_proper == the token at the front of a text is one of the grammar, or a stray byte
--   token_passed == the word isn't found in a token
--   word_behind  == where the word stands behind such a text, it is found there
use Rattle.std.proofs.Common.{◌≡◌, ◌≢◌, ℕ, zero, suc, ◌+◌, ◌-◌, ◌≤◌, ◌⊎◌, Bool, true, false, List, [], ◌∷◌, ◌++◌, length, drop, get_or, All, Option, Some, None, inl, inr, refl, sym, ◌∙◌, ap, subst, arith, ◌==◌, nat_eq, codes, length-append}
use Rattle.std.specs.List.{flat_map, starts_with, take_while}
use Rattle.std.proofs.Math.Seq.{drop-append_seam}
use Rattle.std.proofs.lemmas.Bool.{cond-false, cond_both, eqb-true}
use Rattle.std.proofs.lemmas.List.{append_assoc}
use Rattle.ml_lists.specs.Member.{IsMember}
use Rattle.ml_lists.proofs.Member.{All-member, member-All}
use Rattle.ml_text.specs.Bytes.{is_blank, is_digit}
use Rattle.ml_text.proofs.Signs.{starts_with-front}
use Rattle.ml_pgsolver.specs.Grammar.{Draft, Vertex, draft_tokens, further, name_tokens, vertex_tokens, vertices_of}
use Rattle.ml_pgsolver.specs.Longest.{IsProper}
use Rattle.ml_pgsolver.specs.Tokens.{Token, Number, Name, Parity, Comma, Semicolon, Stray, front_token, is_inner, quoted, signs_of, spelling, tokens, tokens_at}
use Rattle.ml_pgsolver.specs.private.WordSearch.{word_from, word_sought}
use Rattle.ml_pgsolver.proofs.FirstTokens.{front_token-within, skipped, tokens_at-blank, tokens_at-token}
use Rattle.ml_pgsolver.proofs.LongestTokens.{closed_name, front_is_longest, proper_number, run_passes}
use Rattle.ml_pgsolver.proofs.WordPlaces.{one_byte, passed, stands, word}

-- ---- quiet tokens

abbrev IsNumber : List Token → Type 0
IsNumber (Number digits ∷ ts) = Unit {0}
IsNumber ts = ⊥

abbrev Quiet : Token → List Token → Type 0
Quiet Parity ts = IsNumber ts
Quiet (Stray b) ts = ⊥
Quiet t ts = Unit {0}

abbrev pub IsQuiet : List Token → Type 0
IsQuiet [] = Unit {0}
IsQuiet (t ∷ ts) = Quiet t ts × IsQuiet ts

-- neither `parity` nor a stray byte
abbrev IsPlain : Token → Type 0
IsPlain Parity = ⊥
IsPlain (Stray b) = ⊥
IsPlain t = Unit {0}

abbrev ArePlain : List Token → Type 0
ArePlain [] = Unit {0}
ArePlain (t ∷ ts) = IsPlain t × ArePlain ts

plain-append : (xs ys : List Token) → ArePlain xs → ArePlain ys → ArePlain (xs ++ ys)
plain-append [] ys none more = more
plain-append (x ∷ xs) ys (first, rest) more = (first, plain-append xs ys rest more)

plain_further : (os : List (List ℕ)) → ArePlain (flat_map further os)
plain_further [] = tt
plain_further (o ∷ os) = (tt, (tt, plain_further os))

plain_name : (o : Option (List ℕ)) → ArePlain (name_tokens o)
plain_name None = tt
plain_name (Some inner) = (tt, tt)

plain_vertex : (v : Vertex) → ArePlain (vertex_tokens v)
plain_vertex v = (
  tt,
  (
    tt,
    (
      tt,
      (
        tt,
        plain-append (flat_map further v.others ++ name_tokens v.name) (Semicolon ∷ [])
            (plain-append (flat_map further v.others) (name_tokens v.name) (plain_further v.others) (plain_name v.name))
            (tt, tt),
      ),
    ),
  ),
)

plain_vertices : (vs : List Vertex) → ArePlain (flat_map vertex_tokens vs)
plain_vertices [] = tt
plain_vertices (v ∷ vs) = plain-append (vertex_tokens v) (flat_map vertex_tokens vs) (plain_vertex v) (plain_vertices vs)

quiet_plain : (ts : List Token) → ArePlain ts → IsQuiet ts
quiet_plain [] plain = tt
quiet_plain (Number digits ∷ ts) plain = (tt, quiet_plain ts plain.1)
quiet_plain (Name inner ∷ ts) plain = (tt, quiet_plain ts plain.1)
quiet_plain (Comma ∷ ts) plain = (tt, quiet_plain ts plain.1)
quiet_plain (Semicolon ∷ ts) plain = (tt, quiet_plain ts plain.1)
quiet_plain (Parity ∷ ts) plain = absurd plain.0
quiet_plain (Stray b ∷ ts) plain = absurd plain.0

pub quiet_game : (d : Draft) → IsQuiet (draft_tokens d)
quiet_game d = by_header d.header
  where
    by_header : (h : Option (List ℕ)) → IsQuiet (draft_tokens (record d { header = h }))
    by_header None = quiet_plain (flat_map vertex_tokens (vertices_of d)) (plain_vertices (vertices_of d))
    by_header (Some digits) =
        (tt, (tt, (tt, quiet_plain (flat_map vertex_tokens (vertices_of d)) (plain_vertices (vertices_of d)))))

-- ---- the token at the front

abbrev ProperOrStray : Token → Type 0
ProperOrStray t = IsProper t ⊎ ((c : ℕ) × (t ≡ Stray c))

quoted_proper : (rest : List ℕ) → ProperOrStray (quoted rest)
quoted_proper rest =
    let inner = take_while is_inner rest in
    cond_both (starts_with nat_eq (drop (length inner) rest) (34 ∷ [])) (Name inner) (Stray 34) ProperOrStray
    (λ closes. inl (member-All (λ b. is_inner b ≡ true) inner (λ b m. run_passes is_inner rest b m)))
    (λ not_closed. inr (34, refl))

pub front_proper : (b : ℕ) (rest : List ℕ) → ProperOrStray (front_token b rest)
front_proper b rest =
    cond_both (is_digit b) _ _ ProperOrStray
    (λ digit. inl (proper_number b rest digit))
    (λ other. cond_both (b == 34) _ _ ProperOrStray (λ quote. quoted_proper rest)
    (λ other. cond_both (b == 44) _ _ ProperOrStray (λ comma. inl tt)
    (λ other. cond_both (b == 59) _ _ ProperOrStray (λ semicolon. inl tt)
    (λ other. cond_both (starts_with nat_eq (b ∷ rest) (codes "parity")) _ _ ProperOrStray (λ parity. inl tt)
    (λ other. inr (b, refl))))))

-- ---- bytes that are passed over

-- neither the word nor a name begins with the byte
abbrev pub IsCalm : ℕ → Type 0
IsCalm b = (b ≢ 112) × (b ≢ 34)

not_standing : (b : ℕ) (rest : List ℕ) → b ≢ 112 → stands (b ∷ rest) ≡ false
not_standing b rest other = by (stands (b ∷ rest)) refl
  where
    by : (t : Bool) → stands (b ∷ rest) ≡ t → t ≡ false
    by false is = refl
    by true is =
        let front = starts_with-front (b ∷ rest) word is in
        let first : 112 ≡ b = ap (λ xs. get_or xs 0 0) front in
        absurd (other (sym first))

not_quote : (b : ℕ) → b ≢ 34 → (b == 34) ≡ false
not_quote b other = by (b == 34) refl
  where
    by : (t : Bool) → (b == 34) ≡ t → t ≡ false
    by false is = refl
    by true is = absurd (other (eqb-true b 34 is))

pub calm_byte : (j b : ℕ) (rest : List ℕ) → IsCalm b → word_from 0 j (b ∷ rest) ≡ word_from 0 (j + 1) rest
calm_byte j b rest calm =
    one_byte j b rest (not_standing b rest calm.0)
    ∙ ap (λ k. word_from k (j + 1) rest) (cond-false (b == 34) (length (spelling (quoted rest)) - 1) 0 (not_quote b calm.1))

calm_bytes : (j : ℕ) (bs rest : List ℕ) → ((b : ℕ) → IsMember b bs → IsCalm b)
    → word_from 0 j (bs ++ rest) ≡ word_from 0 (j + length bs) rest
calm_bytes j [] rest calm = let e : j ≡ j + 0 = omega arith in ap (λ k. word_from 0 k rest) e
calm_bytes j (b ∷ bs) rest calm =
    let e : j + 1 + length bs ≡ j + length (b ∷ bs) = omega arith in
    calm_byte j b (bs ++ rest) (calm b (inl refl))
    ∙ calm_bytes (j + 1) bs rest (λ c m. calm c (inr m))
    ∙ ap (λ k. word_from 0 k rest) e

pub calm_digit : (b : ℕ) → is_digit b ≡ true → IsCalm b
calm_digit b digit = (
  λ is. let wrong = sym (ap is_digit is) ∙ digit in absurd (cc),
  λ is. let wrong = sym (ap is_digit is) ∙ digit in absurd (cc),
)

pub calm_blank : (b : ℕ) → is_blank b ≡ true → IsCalm b
calm_blank b blank = (
  λ is. let wrong = sym (ap is_blank is) ∙ blank in absurd (cc),
  λ is. let wrong = sym (ap is_blank is) ∙ blank in absurd (cc),
)

calm_one : (c b : ℕ) → IsCalm c → IsMember b (c ∷ []) → IsCalm b
calm_one c b calm (inl same) = subst IsCalm (sym same) calm
calm_one c b calm (inr none) = absurd none

pub calm_arity : (b : ℕ) → IsMember b (codes "arity") → IsCalm b
calm_arity b (inl is) = subst IsCalm (sym is) (λ e. absurd (omega arith), λ e. absurd (omega arith))
calm_arity b (inr (inl is)) = subst IsCalm (sym is) (λ e. absurd (omega arith), λ e. absurd (omega arith))
calm_arity b (inr (inr (inl is))) = subst IsCalm (sym is) (λ e. absurd (omega arith), λ e. absurd (omega arith))
calm_arity b (inr (inr (inr (inl is)))) = subst IsCalm (sym is) (λ e. absurd (omega arith), λ e. absurd (omega arith))
calm_arity b (inr (inr (inr (inr (inl is))))) = subst IsCalm (sym is) (λ e. absurd (omega arith), λ e. absurd (omega arith))
calm_arity b (inr (inr (inr (inr (inr none))))) = absurd none

name_passed : (j : ℕ) (inner rest : List ℕ) → All (λ b. is_inner b ≡ true) inner
    → word_from 0 j (34 ∷ (inner ++ 34 ∷ []) ++ rest) ≡ word_from 0 (j + length (spelling (Name inner))) rest
name_passed j inner rest all =
    let behind : (inner ++ 34 ∷ []) ++ rest ≡ inner ++ 34 ∷ rest = append_assoc inner (34 ∷ []) rest in
    let size = length (inner ++ 34 ∷ []) in
    let is_name : quoted (inner ++ 34 ∷ rest) ≡ Name inner =
    closed_name inner rest (All-member (λ b. is_inner b ≡ true) inner all) in
    let inside : length (spelling (quoted (inner ++ 34 ∷ rest))) - 1 ≡ size =
    ap (λ t. length (spelling t) - 1) is_name ∙ omega arith in
    let long = length-append (inner ++ 34 ∷ []) rest in
    let e : j + 1 + size ≡ j + length (spelling (Name inner)) = omega arith in
    one_byte j 34 ((inner ++ 34 ∷ []) ++ rest) refl
    ∙ ap (λ xs. word_from (length (spelling (quoted xs)) - 1) (j + 1) ((inner ++ 34 ∷ []) ++ rest)) behind
    ∙ ap (λ k. word_from k (j + 1) ((inner ++ 34 ∷ []) ++ rest)) inside
    ∙ passed size (j + 1) ((inner ++ 34 ∷ []) ++ rest) (omega arith)
    ∙ ap (word_from 0 (j + 1 + size)) (drop-append_seam (inner ++ 34 ∷ []) rest)
    ∙ ap (λ k. word_from 0 k rest) e

parity_passed : (j c : ℕ) (rest : List ℕ) → c ≢ 115
    → word_from 0 j (codes "parity" ++ c ∷ rest) ≡ word_from 0 (j + 6) (c ∷ rest)
parity_passed j c rest other =
    let e : j + 1 + 5 ≡ j + 6 = omega arith in
    one_byte j 112 (codes "arity" ++ c ∷ rest) (by (stands (codes "parity" ++ c ∷ rest)) refl)
    ∙ calm_bytes (j + 1) (codes "arity") (c ∷ rest) calm_arity
    ∙ ap (λ k. word_from 0 k (c ∷ rest)) e
  where
    by : (t : Bool) → stands (codes "parity" ++ c ∷ rest) ≡ t → t ≡ false
    by false is = refl
    by true is =
        let front = starts_with-front (codes "parity" ++ c ∷ rest) word is in
        let seventh : 115 ≡ c = ap (λ xs. get_or xs 6 0) front in
        absurd (other (sym seventh))

-- before a number stands no `s`
number_begins : (i : ℕ) (r : List ℕ) → IsNumber (signs_of (tokens_at 0 i r))
    → (c : ℕ) × (rest : List ℕ) × (r ≡ c ∷ rest) × (c ≢ 115)
unfolding tokens_at
number_begins i [] is = absurd is
number_begins i (c ∷ rest) is = (
  c,
  rest,
  refl,
  λ same. no_s rest (subst (λ b. IsNumber (signs_of (tokens_at 0 i (b ∷ rest)))) same is),
)
  where
    no_s : (xs : List ℕ) → IsNumber (signs_of (tokens_at 0 i (115 ∷ xs))) → ⊥
    no_s xs wrong = wrong

-- the word isn't found in a token
token_passed : (i j : ℕ) (t : Token) (r out : List ℕ) → IsProper t → Quiet t (signs_of (tokens_at 0 i r))
    → word_from 0 j (spelling t ++ (r ++ out)) ≡ word_from 0 (j + length (spelling t)) (r ++ out)
token_passed i j (Number digits) r out proper quiet =
    calm_bytes j digits (r ++ out) (λ b m. calm_digit b (All-member (λ c. is_digit c ≡ true) digits proper.1 b m))
token_passed i j (Name inner) r out proper quiet = name_passed j inner (r ++ out) proper
token_passed i j Comma r out proper quiet =
    calm_bytes j (44 ∷ []) (r ++ out) (λ b m. calm_one 44 b (λ e. absurd (omega arith), λ e. absurd (omega arith)) m)
token_passed i j Semicolon r out proper quiet =
    calm_bytes j (59 ∷ []) (r ++ out) (λ b m. calm_one 59 b (λ e. absurd (omega arith), λ e. absurd (omega arith)) m)
token_passed i j Parity r out proper quiet =
    let n = number_begins i r quiet in
    subst (λ xs. word_from 0 j (codes "parity" ++ (xs ++ out)) ≡ word_from 0 (j + 6) (xs ++ out)) (sym n.2)
    (parity_passed j n.0 (n.1 ++ out) n.3)
token_passed i j (Stray b) r out proper quiet = absurd proper

-- ---- the walk

module _ (out : List ℕ) (begins : (j : ℕ) → word_from 0 j out ≡ Some j) where
  abbrev Passes : ℕ → List ℕ → Type 0
  Passes j xs = word_from 0 j (xs ++ out) ≡ Some (j + length xs)

  token_step : (n i j b : ℕ) (rest : List ℕ)
      → ((k m : ℕ) (ys : List ℕ) → length ys ≤ n → IsQuiet (signs_of (tokens_at 0 k ys)) → Passes m ys)
      → length (b ∷ rest) ≤ suc n
      → IsProper (front_token b rest)
      → Quiet (front_token b rest) (signs_of (tokens_at (length (spelling (front_token b rest)) - 1) (i + 1) rest))
      × IsQuiet (signs_of (tokens_at (length (spelling (front_token b rest)) - 1) (i + 1) rest))
      → Passes j (b ∷ rest)
  token_step n i j b rest again fits proper quiet =
      let t = front_token b rest in
      let size = length (spelling t) in
      let bounds = front_token-within b rest in
      let front = (front_is_longest b rest).begins in
      let r = front.0 in
      let more : size - 1 ≤ length rest = omega (arith, bounds.some, bounds.fits) in
      let one : suc (size - 1) ≡ size = omega (arith, bounds.some) in
      let left : drop (size - 1) rest ≡ r =
      ap (λ k. drop k (b ∷ rest)) one ∙ ap (drop size) front.1 ∙ drop-append_seam (spelling t) r in
      let skips : tokens_at (size - 1) (i + 1) rest ≡ tokens_at 0 (i + 1 + (size - 1)) r =
      skipped (size - 1) (i + 1) rest more ∙ ap (tokens_at 0 (i + 1 + (size - 1))) left in
      let here = subst (λ ps. Quiet t (signs_of ps)) skips quiet.0 in
      let later = subst (λ ps. IsQuiet (signs_of ps)) skips quiet.1 in
      let sum = ap length front.1 in
      let long = length-append (spelling t) r in
      let fits_too : length r ≤ n = omega (arith, bounds.some) in
      let e : j + size + length r ≡ j + length (b ∷ rest) = omega arith in
      ap (λ xs. word_from 0 j (xs ++ out)) front.1
      ∙ ap (word_from 0 j) (append_assoc (spelling t) r out)
      ∙ token_passed (i + 1 + (size - 1)) j t r out proper here
      ∙ again (i + 1 + (size - 1)) (j + size) r fits_too later
      ∙ ap Some e

  walk : (n i j : ℕ) (xs : List ℕ) → length xs ≤ n → IsQuiet (signs_of (tokens_at 0 i xs)) → Passes j xs
  walk n i j [] fits quiet = let e : j ≡ j + 0 = omega arith in begins j ∙ ap Some e
  walk zero i j (b ∷ rest) fits quiet = absurd (omega arith)
  walk (suc n) i j (b ∷ rest) fits quiet = by_blank (is_blank b) refl (walk n)
    where
      by_blank : (t : Bool) → is_blank b ≡ t
          → ((k m : ℕ) (ys : List ℕ) → length ys ≤ n → IsQuiet (signs_of (tokens_at 0 k ys)) → Passes m ys)
          → Passes j (b ∷ rest)
      by_blank true is again =
          let e : j + 1 + length rest ≡ j + length (b ∷ rest) = omega arith in
          calm_byte j b (rest ++ out) (calm_blank b is)
          ∙ again (i + 1) (j + 1) rest (omega arith)
          (subst (λ ps. IsQuiet (signs_of ps)) (tokens_at-blank i b rest is) quiet)
          ∙ ap Some e
      by_blank false is again = by_front (front_proper b rest) (subst (λ ps. IsQuiet (signs_of ps)) (tokens_at-token i b rest is) quiet)
        where
          by_front : ProperOrStray (front_token b rest)
              → Quiet (front_token b rest) (signs_of (tokens_at (length (spelling (front_token b rest)) - 1) (i + 1) rest))
              × IsQuiet (signs_of (tokens_at (length (spelling (front_token b rest)) - 1) (i + 1) rest))
              → Passes j (b ∷ rest)
          by_front (inl proper) calm = token_step n i j b rest again fits proper calm
          by_front (inr (c, stray)) calm =
              absurd (subst (λ t. Quiet t (signs_of (tokens_at (length (spelling (front_token b rest)) - 1) (i + 1) rest))) stray calm.0)

  pub word_behind : (text : List ℕ) → IsQuiet (signs_of (tokens text)) → word_sought (text ++ out) ≡ Some (length text)
  unfolding tokens
  word_behind text quiet =
      let e : 0 + length text ≡ length text = omega arith in
      walk (length text) 0 0 text (omega arith) quiet ∙ ap Some e
