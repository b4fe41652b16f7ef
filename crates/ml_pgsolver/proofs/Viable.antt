-- Which tokens begin a game text, and which are one.
--
--   begins-grown   == what is read without fault begins a game text
--   grown-begins   == what begins a game text is read without fault
--   ended-is_game  == behind a vertex, what was read is a game text
--   game-ended     == a game text is read as its draft
use Rattle.std.proofs.Common.{◌≡◌, ℕ, List, [], ◌∷◌, ◌++◌, Option, Some, None, refl, sym, ◌∙◌, ap, subst, codes}
use Rattle.std.specs.List.{flat_map}
use Rattle.std.proofs.lemmas.List.{append_assoc, append-nil}
use Rattle.std.proofs.lemmas.Grind.{flat_map-append}
use Rattle.ml_parity.specs.declared.players.Player.TheVariants.{Even}
use Rattle.ml_pgsolver.specs.Tokens.{Token, Number, Comma, Semicolon}
use Rattle.ml_pgsolver.specs.Grammar.{Vertex, Draft, owner_digits, further, vertex_tokens, header_tokens, vertices_of, draft_tokens, IsGameText, BeginsGameText}
use Rattle.ml_pgsolver.proofs.Trees.{Part, Id, Priority, Owner, First, Behind, Further, Close, Progress, Start, HeaderNumber, HeaderEnd, Body, first_of}
use Rattle.ml_pgsolver.proofs.Trees.{with_further, named, core_tokens, part_tokens, tokens_of, grown_from, grown-append, grown-tokens, grown-draft}

abbrev zero_digits : List ℕ
zero_digits = codes "0"

-- a vertex of which a part was read, and what is missing of it
record Ending (part : Part) : Type 0 where
  vertex : Vertex
  missing : List Token
  whole : part_tokens part ++ missing ≡ vertex_tokens vertex

behind_core : (v : Vertex) → core_tokens v ++ Semicolon ∷ [] ≡ vertex_tokens (named v None)
behind_core v =
    ap (λ ts. Number v.id ∷ Number v.priority ∷ Number (owner_digits v.owner) ∷ Number v.first ∷ (ts ++ Semicolon ∷ []))
    (sym (append-nil (flat_map further v.others)))

ending : (part : Part) → Ending part
ending Id =
    let v = first_of zero_digits zero_digits Even zero_digits in
    record { vertex = v; missing = vertex_tokens v; whole = refl }
ending (Priority id) = record {
  vertex = first_of id zero_digits Even zero_digits;
  missing = Number zero_digits ∷ Number zero_digits ∷ Number zero_digits ∷ Semicolon ∷ [];
  whole = refl;
}
ending (Owner id priority) = record {
  vertex = first_of id priority Even zero_digits;
  missing = Number zero_digits ∷ Number zero_digits ∷ Semicolon ∷ [];
  whole = refl;
}
ending (First id priority owner) = record {
  vertex = first_of id priority owner zero_digits;
  missing = Number zero_digits ∷ Semicolon ∷ [];
  whole = refl;
}
ending (Behind v) = record { vertex = named v None; missing = Semicolon ∷ []; whole = behind_core v }
ending (Further v) =
    let more = with_further v (zero_digits ∷ []) in
    let others : flat_map further v.others ++ Comma ∷ [] ++ Number zero_digits ∷ [] ≡ flat_map further more.others =
    append_assoc (flat_map further v.others) (Comma ∷ []) (Number zero_digits ∷ [])
    ∙ sym (flat_map-append further v.others (zero_digits ∷ [])) in
    record {
      vertex = named more None;
      missing = Number zero_digits ∷ Semicolon ∷ [];
      whole = sym (append_assoc (core_tokens v ++ Comma ∷ []) (Number zero_digits ∷ []) (Semicolon ∷ []))
          ∙ ap (λ ts. Number v.id ∷ Number v.priority ∷ Number (owner_digits v.owner) ∷ Number v.first ∷ (ts ++ Semicolon ∷ [])) others
          ∙ behind_core more;
    }
ending (Close v) = record { vertex = v; missing = Semicolon ∷ []; whole = refl }

-- a header and some vertices, of which there is one, are a draft
draft_of : (h : Option (List ℕ)) (vs : List Vertex) (v : Vertex)
    → IsGameText (header_tokens h ++ flat_map vertex_tokens (vs ++ v ∷ []))
draft_of h [] v = (record { header = h; first = v; others = [] }, refl)
draft_of h (w ∷ ws) v = (record { header = h; first = w; others = ws ++ v ∷ [] }, refl)

begins-body : (h : Option (List ℕ)) (vs : List Vertex) (part : Part) → BeginsGameText (tokens_of (Body h vs part))
begins-body h vs part =
    let e = ending part in
    let whole = draft_of h vs e.vertex in
    let front = header_tokens h ++ flat_map vertex_tokens vs in
    let same : front ++ part_tokens part ++ e.missing ≡ header_tokens h ++ flat_map vertex_tokens (vs ++ e.vertex ∷ []) =
    append_assoc front (part_tokens part) e.missing
    ∙ ap (λ ts. front ++ ts) (e.whole)
    ∙ append_assoc (header_tokens h) (flat_map vertex_tokens vs) (vertex_tokens e.vertex)
    ∙ ap (λ ts. header_tokens h ++ ts)
    (ap (λ ts. flat_map vertex_tokens vs ++ ts) (sym (append-nil (vertex_tokens e.vertex)))
    ∙ sym (flat_map-append vertex_tokens vs (e.vertex ∷ []))) in
    (e.missing, (whole.0, same ∙ whole.1))

pub begins-tokens : (p : Progress) → BeginsGameText (tokens_of p)
begins-tokens Start = let b = begins-body None [] Id in b
begins-tokens HeaderNumber =
    let b = begins-body (Some zero_digits) [] Id in (Number zero_digits ∷ Semicolon ∷ b.0, b.1)
begins-tokens (HeaderEnd digits) = let b = begins-body (Some digits) [] Id in (Semicolon ∷ b.0, b.1)
begins-tokens (Body h vs part) = begins-body h vs part

pub begins-grown : (ts : List Token) (p : Progress) → grown_from (Some Start) ts ≡ Some p → BeginsGameText ts
begins-grown ts p is = let same = grown-tokens Start p ts is in subst BeginsGameText (sym same) (begins-tokens p)

-- a draft is read along each of its fronts
front_grown : (o : Option Progress) (us : List Token) (q : Progress) → grown_from o us ≡ Some q → (p : Progress) × (o ≡ Some p)
front_grown None us q is = absurd (cc)
front_grown (Some p) us q is = (p, refl)

pub grown-begins : (ts : List Token) → BeginsGameText ts → (p : Progress) × (grown_from (Some Start) ts ≡ Some p)
grown-begins ts (us, (d, is)) =
    front_grown (grown_from (Some Start) ts) us (Body d.header (vertices_of d) Id)
    (sym (grown-append (Some Start) ts us) ∙ ap (grown_from (Some Start)) is ∙ grown-draft d)

pub game-ended : (ts : List Token) (d : Draft) → ts ≡ draft_tokens d
    → grown_from (Some Start) ts ≡ Some (Body d.header (vertices_of d) Id)
game-ended ts d is = ap (grown_from (Some Start)) is ∙ grown-draft d

pub ended-draft : (ts : List Token) (h : Option (List ℕ)) (v : Vertex) (vs : List Vertex)
    → grown_from (Some Start) ts ≡ Some (Body h (v ∷ vs) Id)
    → ts ≡ draft_tokens (record { header = h; first = v; others = vs })
ended-draft ts h v vs is =
    grown-tokens Start (Body h (v ∷ vs) Id) ts is ∙ append-nil (header_tokens h ++ flat_map vertex_tokens (v ∷ vs))
