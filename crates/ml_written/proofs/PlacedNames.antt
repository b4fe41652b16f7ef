-- The propositions of a formula stand in its text, each at the place that is told of it.
--
--   AreIn l text ks xs      == the words of the text that begin in lower case stand at the places ks, and are those of the
--                              names xs
--   IsBy own text p s       == as far as words go, s is the sign that the token is by itself
--   AreFound text w         == the words of the text that begin in lower case stand at the places of w and are its names, and
--                              its propositions begin so
--   found                   == so it is of what is written
--   zip_member, member_zip  == a name with its place is one of the names, and each name has a place
--   zip_stands              == and there the text has its bytes
--   kind_member, member_kind == a name of a kind is one of the names of that kind, and the other way round
--   propositions_placed     == the propositions of what is written are those that stand somewhere
--   bytes_at                == and there the text has their bytes
use Rattle.std.proofs.Common.{◌≡◌, ◌↔◌, ℕ, Bool, true, false, List, [], ◌∷◌, map, length, take, drop, cond, inl, inr, refl, sym, ap, subst, ◌∙◌}
use Rattle.std.specs.List.{AllByRecursion, AllZip, zip}
use Rattle.std.proofs.lemmas.Bool.{cond-true}
use Rattle.std.proofs.lemmas.List.{append-nil}
use Rattle.ml_lists.specs.Member.{IsMember}
use Rattle.ml_lists.proofs.Member.{member-filter, member-filter_from}
use Rattle.ml_bounded.proofs.ReadNames as bounded_names
use Rattle.ml_bounded.specs.Formula as bounded
use Rattle.ml_bounded.specs.FormulaNames as bounded_formula
use Rattle.ml_bounded.specs.Numbers.{begins_number, number_at}
use Rattle.ml_bounded.specs.Parsing as bounded_parsing
use Rattle.ml_bounded.specs.Signs as bounded_signs
use Rattle.ml_bounded.specs.Text as bounded_text
use Rattle.ml_bounded.specs.declared.signs.Own.TheVariants.{Digit}
use Rattle.ml_ctl.proofs.ReadNames as ctl_names
use Rattle.ml_ctl.specs.Formula as ctl
use Rattle.ml_ctl.specs.FormulaNames as ctl_formula
use Rattle.ml_ctl.specs.Parsing as ctl_parsing
use Rattle.ml_ctl.specs.Signs as ctl_signs
use Rattle.ml_ctl.specs.Text as ctl_text
use Rattle.ml_ctl.specs.declared.language.Language.{Language}
use Rattle.ml_ctl.specs.declared.language.Language.TheVariants as language
use Rattle.ml_front.specs.declared.logic.Logic.{Logic}
use Rattle.ml_front.specs.declared.logic.Logic.TheVariants as logic
use Rattle.ml_mu.proofs.ReadNames as mu_names
use Rattle.ml_mu.specs.Formula as mu
use Rattle.ml_mu.specs.FormulaNames as mu_formula
use Rattle.ml_mu.specs.Parsing as mu_parsing
use Rattle.ml_mu.specs.Signs as mu_signs
use Rattle.ml_mu.specs.Text as mu_text
use Rattle.ml_pdl.proofs.ReadNames as pdl_names
use Rattle.ml_pdl.specs.Formula as pdl
use Rattle.ml_pdl.specs.FormulaNames as pdl_formula
use Rattle.ml_pdl.specs.Marks.{is_test_behind, with_mark}
use Rattle.ml_pdl.specs.Parsing as pdl_parsing
use Rattle.ml_pdl.specs.Signs as pdl_signs
use Rattle.ml_pdl.specs.Text as pdl_text
use Rattle.ml_text.specs.Items.{SignTable, bytes_of, items}
use Rattle.ml_text.specs.Names.{Kind, KindedName, Proposition, Variable, Action, are_spelled, is_kind, of_kind}
use Rattle.ml_text.specs.Refusals.{signs_of}
use Rattle.ml_text.specs.Signs.{Named, OwnSigns, sign_of}
use Rattle.ml_text.specs.Tokens.{tokens, tokens_from}
use Rattle.ml_text.specs.declared.named_signs.Sign.TheVariants.{Open, Added}
use Rattle.ml_text.specs.declared.token.Placed.{Placed}
use Rattle.ml_text.proofs.NamedSigns.{IsSpelledSign, spelled_sign}
use Rattle.ml_text.proofs.TableItems.{signs_all}
use Rattle.ml_written.specs.Places as placed
use Rattle.ml_written.specs.Places.{IsPropositionAt, begins_lower, lower_names, place_before, places}
use Rattle.ml_written.specs.Propositions.{names, propositions}
use Rattle.ml_written.specs.Written.{IsWrittenAs, written_logic}
use Rattle.ml_written.specs.declared.written.Written.{Written}
use Rattle.ml_written.specs.declared.written.Written.TheVariants.{Mu, Pdl, Ctl, Ltl, Word}
use Rattle.ml_written.specs.private.LowerWords.{is_lower_word, lower_places, words_of}
use Rattle.ml_written.proofs.BoundedWords.{bounded_told}
use Rattle.ml_written.proofs.CtlWords.{ctl_told}
use Rattle.ml_written.proofs.FirstMissing.{LowProposition, lows_spelled}
use Rattle.ml_written.proofs.LowerNames.{All, Starts, Tells, lower_of, spelled_starts}
use Rattle.ml_written.proofs.LowerTokens.{IsOf, Stands, bytes_sign, placed_sign, same_places, zipped}
use Rattle.ml_written.proofs.MuWords.{mu_told}
use Rattle.ml_written.proofs.PdlWords.{pdl_told}

-- ---- of any logic: by its table of signs, whose signs of words are those of tokens

-- the places, the words and the propositions of a text with these names
pub record AreIn (l : Logic) (text : List ℕ) (ks : List ℕ) (xs : List KindedName) : Type 0 where
  pub stand : AllZip (Stands text) ks (lower_of xs)
  pub tokens_are : ks ≡ lower_places l text (tokens_from (words_of l) text 0)
  pub lows : AllByRecursion LowProposition xs

-- a sign is the one that the token is by itself, as far as words go
pub record IsBy {X : Type 0} (own : OwnSigns X) (text : List ℕ) (p : Placed) (s : Named X) : Type 0 where
  pub places_same : (at : ℕ) (ks : List ℕ) → place_before s at ks ≡ place_before (sign_of own p.token (bytes_of text p)) at ks
  pub bytes_are : IsOf own s (bytes_of text p)
  pub spelled : IsSpelledSign own s

pub by_itself : {X : Type 0} (own : OwnSigns X) (text : List ℕ) (p : Placed)
    → IsBy own text p (sign_of own p.token (bytes_of text p))
by_itself own text p = record {
  places_same = λ at ks. refl;
  bytes_are = bytes_sign own p.token (bytes_of text p);
  spelled = spelled_sign own p.token (bytes_of text p);
}

pub are_in : {X C : Type 0} (own : OwnSigns X) (t : SignTable (Named X) C) (l : Logic) (text : List ℕ) (xs : List KindedName)
    → t.words ≡ words_of l
    → ((p : Placed) → IsBy own text p (t.sign_at text p))
    → ((p : Placed) (at : ℕ) (ks : List ℕ)
    → place_before (sign_of own p.token (bytes_of text p)) at ks ≡ cond (is_lower_word l text p) (at ∷ ks) ks)
    → (All (signs_of (items t text)) → Tells xs (signs_of (items t text)) [])
    → are_spelled own xs ≡ true
    → AreIn l text (placed.lower_places (items t text)) xs
unfolding tokens
are_in own t l text xs words by same told spelled =
    let starts =
    signs_all t Starts text (λ p. spelled_starts own (t.sign_at text p) (by p).spelled) t.first (tokens t.words text) in
    let words_are = (told starts).0 ∙ append-nil (lower_of xs) in
    let stands = zipped own t text (λ p. (by p).bytes_are) t.first (tokens t.words text) in
    record {
      stand = subst (AllZip (Stands text) (placed.lower_places (items t text))) words_are stands;
      tokens_are =
          same_places own t l text (λ p at ks. (by p).places_same at ks ∙ same p at ks) t.first (tokens t.words text)
          ∙ ap (λ w. lower_places l text (tokens_from w text 0)) words;
      lows = lows_spelled own xs spelled;
    }

-- ---- the logics

mu_in : (text : List ℕ) (f : mu.Formula) → mu_parsing.IsParsedAs text f
    → AreIn logic.Mu text (placed.lower_places (mu_text.items text)) (mu_formula.names f)
mu_in text f is =
    are_in mu_signs.own mu_text.mu_signs logic.Mu text (mu_formula.names f) refl (by_itself mu_signs.own text)
    (λ p at ks. placed_sign mu_signs.own p.token (bytes_of text p) at ks) (mu_told is.accepted.stands)
    (mu_names.text_spelled text f is.accepted)

marked : (text : List ℕ) (p : Placed) (b : Bool) (s : pdl_signs.Sign)
    → IsBy pdl_signs.own text p s
    → IsBy pdl_signs.own text p (with_mark b s)
marked text p b Open is = record { places_same = is.places_same; bytes_are = tt; spelled = tt }
marked text p b _ is = is

pdl_in : (text : List ℕ) (f : pdl.Formula) → pdl_parsing.IsParsedAs text f
    → AreIn logic.Pdl text (placed.lower_places (pdl_text.items text)) (pdl_formula.names f)
pdl_in text f is =
    are_in pdl_signs.own pdl_text.pdl_signs logic.Pdl text (pdl_formula.names f) refl
    (λ p. marked text p (is_test_behind 0 (pdl_text.signs_behind text p.end)) (pdl_text.sign_by text p)
    (by_itself pdl_signs.own text p))
    (λ p at ks. placed_sign pdl_signs.own p.token (bytes_of text p) at ks) (pdl_told is.stands)
    (pdl_names.text_spelled text f is)

ctl_in : (w : Language) (text : List ℕ) (f : ctl.Formula) → ctl_parsing.IsParsedAs w text f
    → AreIn logic.Ctl text (placed.lower_places (ctl_text.items text)) (ctl_formula.names f)
ctl_in w text f is =
    are_in ctl_signs.own ctl_text.ctl_signs logic.Ctl text (ctl_formula.names f) refl (by_itself ctl_signs.own text)
    (λ p at ks. placed_sign ctl_signs.own p.token (bytes_of text p) at ks) (ctl_told is.stands)
    (ctl_names.text_spelled w text f is)

numbered_by : (text : List ℕ) (p : Placed) (b : Bool) (n : ℕ) (s : bounded_signs.Sign)
    → IsBy bounded_signs.own text p s
    → IsBy bounded_signs.own text p (bounded_signs.numbered b n s)
numbered_by text p true n (Added Digit) is = record { places_same = is.places_same; bytes_are = tt; spelled = tt }
numbered_by text p false n (Added Digit) is = is
numbered_by text p b n _ is = is

-- of LTL, and on words
bounded_in : (l : Logic) (text : List ℕ) (f : bounded.Formula)
    → words_of l ≡ words_of logic.Ltl
    → ((p : Placed) → is_lower_word l text p ≡ is_lower_word logic.Ltl text p)
    → bounded_parsing.IsParsedAs text f
    → AreIn l text (placed.lower_places (bounded_text.items text)) (bounded_formula.names f)
bounded_in l text f words same is =
    are_in bounded_signs.own bounded_text.bounded_signs l text (bounded_formula.names f) (sym words)
    (λ p. numbered_by text p (begins_number text p.start) (number_at (drop p.start text)) (bounded_text.sign_by text p)
    (by_itself bounded_signs.own text p))
    (λ p at ks. placed_sign bounded_signs.own p.token (bytes_of text p) at ks
    ∙ ap (λ b. cond b (at ∷ ks) ks) (sym (same p)))
    (bounded_told is.stands)
    (bounded_names.text_spelled text f is)

abbrev pub AreFound : List ℕ → Written → Type 0
AreFound text w = AreIn (written_logic w) text (places text w) (names w)

pub found : (text : List ℕ) (w : Written) → IsWrittenAs text w → AreFound text w
found text (Mu f) is = mu_in text f is
found text (Pdl f) is = pdl_in text f is
found text (Ctl f) is = ctl_in language.Ctl text f is
found text (Ltl f) is = bounded_in logic.Ltl text f refl (λ p. refl) is
found text (Word f) is = bounded_in logic.Word text f refl (λ p. refl) is

-- ---- names with their places

pub zip_member : (k : ℕ) (x : KindedName) (ks : List ℕ) (ys : List KindedName) → IsMember (k, x) (zip ks ys) → IsMember x ys
zip_member k x [] ys m = absurd m
zip_member k x (j ∷ ks) [] m = absurd m
zip_member k x (j ∷ ks) (y ∷ ys) (inl same) = inl (ap (λ (z : ℕ × KindedName). z.1) same)
zip_member k x (j ∷ ks) (y ∷ ys) (inr m) = inr (zip_member k x ks ys m)

module _ (Q : ℕ → List ℕ → Type 0) where
  -- of two lists that have one length
  abbrev pub Match : List ℕ → List KindedName → Type 0
  Match ks ys = AllZip Q ks (map (λ y. y.1) ys)

  pub member_zip : (x : KindedName) (ks : List ℕ) (ys : List KindedName)
      → Match ks ys
      → IsMember x ys
      → (k : ℕ) × IsMember (k, x) (zip ks ys)
  member_zip x [] [] all m = absurd m
  member_zip x [] (y ∷ ys) all m = absurd all
  member_zip x (k ∷ ks) [] all m = absurd m
  member_zip x (k ∷ ks) (y ∷ ys) all (inl same) = (k, inl (ap (λ v. (k, v)) same))
  member_zip x (k ∷ ks) (y ∷ ys) all (inr m) = let later = member_zip x ks ys all.1 m in (later.0, inr later.1)

  pub zip_stands : (k : ℕ) (x : KindedName) (ks : List ℕ) (ys : List KindedName)
      → Match ks ys
      → IsMember (k, x) (zip ks ys)
      → Q k x.1
  zip_stands k x [] ys all m = absurd m
  zip_stands k x (j ∷ ks) [] all m = absurd m
  zip_stands k x (j ∷ ks) (y ∷ ys) all (inl same) = subst (λ (z : ℕ × KindedName). Q z.0 (z.1).1) (sym same) all.0
  zip_stands k x (j ∷ ks) (y ∷ ys) all (inr m) = zip_stands k x ks ys all.1 m

kept_member : (k l : Kind) (p w : List ℕ) (ws : List (List ℕ)) (xs : List KindedName)
    → (IsMember p ws → IsMember (k, p) xs)
    → IsMember p (cond (is_kind k l) (w ∷ ws) ws)
    → IsMember (k, p) ((l, w) ∷ xs)
kept_member Proposition Proposition p w ws xs later (inl same) = inl (ap (λ v. (Proposition, v)) same)
kept_member Proposition Proposition p w ws xs later (inr m) = inr (later m)
kept_member Variable Variable p w ws xs later (inl same) = inl (ap (λ v. (Variable, v)) same)
kept_member Variable Variable p w ws xs later (inr m) = inr (later m)
kept_member Action Action p w ws xs later (inl same) = inl (ap (λ v. (Action, v)) same)
kept_member Action Action p w ws xs later (inr m) = inr (later m)
kept_member Proposition Variable p w ws xs later m = inr (later m)
kept_member Proposition Action p w ws xs later m = inr (later m)
kept_member Variable Proposition p w ws xs later m = inr (later m)
kept_member Variable Action p w ws xs later m = inr (later m)
kept_member Action Proposition p w ws xs later m = inr (later m)
kept_member Action Variable p w ws xs later m = inr (later m)

pub kind_member : (k : Kind) (p : List ℕ) (xs : List KindedName) → IsMember p (of_kind k xs) → IsMember (k, p) xs
kind_member k p [] m = absurd m
kind_member k p (x ∷ xs) m = kept_member k x.0 p x.1 (of_kind k xs) xs (kind_member k p xs) m

-- a name is of its own kind
own_kind : (k : Kind) → is_kind k k ≡ true
own_kind Proposition = refl
own_kind Variable = refl
own_kind Action = refl

member_behind : (b : Bool) (p w : List ℕ) (ws : List (List ℕ)) → IsMember p ws → IsMember p (cond b (w ∷ ws) ws)
member_behind true p w ws m = inr m
member_behind false p w ws m = m

pub member_kind : (k : Kind) (p : List ℕ) (xs : List KindedName) → IsMember (k, p) xs → IsMember p (of_kind k xs)
member_kind k p [] m = absurd m
member_kind k p (x ∷ xs) (inl same) =
    subst (λ (y : KindedName). IsMember p (of_kind k (y ∷ xs))) same
    (subst (IsMember p) (sym (cond-true (is_kind k k) (p ∷ of_kind k xs) (of_kind k xs) (own_kind k))) (inl refl))
member_kind k p (x ∷ xs) (inr m) = member_behind (is_kind k x.0) p x.1 (of_kind k xs) (member_kind k p xs m)

low_member : (p : List ℕ) (xs : List KindedName)
    → AllByRecursion LowProposition xs
    → IsMember (Proposition, p) xs
    → begins_lower p ≡ true
low_member p [] lows m = absurd m
low_member p (x ∷ xs) lows (inl same) = subst LowProposition (sym same) lows.0
low_member p (x ∷ xs) lows (inr m) = low_member p xs lows.1 m

pub propositions_placed : (text : List ℕ) (w : Written) (p : List ℕ)
    → IsWrittenAs text w
    → IsMember p (propositions w) ↔ ((k : ℕ) × IsPropositionAt text w k p)
propositions_placed text w p is = (
  λ m. let member = kind_member Proposition p (names w) m in
      member_zip (Stands text) (Proposition, p) (places text w) (lower_names (names w)) in_text.stand
      (member-filter (λ (x : KindedName). begins_lower x.1) (Proposition, p) (names w) member
      (low_member p (names w) in_text.lows member)),
  λ at. member_kind Proposition p (names w)
      (member-filter_from (λ (x : KindedName). begins_lower x.1) (Proposition, p) (names w)
      (zip_member at.0 (Proposition, p) (places text w) (lower_names (names w)) at.1)).0,
)
  where
    in_text : AreFound text w
    in_text = found text w is

pub bytes_at : (text : List ℕ) (w : Written) (k : ℕ) (p : List ℕ)
    → IsWrittenAs text w
    → IsPropositionAt text w k p
    → take (length p) (drop k text) ≡ p
bytes_at text w k p is at =
    zip_stands (Stands text) k (Proposition, p) (places text w) (lower_names (names w)) (found text w is).stand at
