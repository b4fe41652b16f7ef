-- A text has one list of lines, where no word has a blank or an LF.
--
-- A list is cut at the first place of a byte: what stands before it, and what stands from it on. Lines are cut at
-- the LF, words at the blank.
--
--   has c xs               == the byte c stands in xs
--   before c xs, from c xs == what stands in xs before the first c, and from it on
--   avoids c words         == the byte c stands in no word
--   IsPlain line           == a line of at least one word, without blanks and LFs in them
--   line_unique            == the bytes of two plain lines without their LF are equal only where the lines are
--   text_unique            == the bytes of two lists of plain lines are equal only where the lists are
use Rattle.std.proofs.Common.{◌≡◌, ◌==◌, ℕ, Bool, false, cond, List, [], ◌∷◌, ◌++◌, drop, refl, sym, ap, ◌∙◌, append_assoc}
use Rattle.std.specs.List.{flat_map, list_any}
use Rattle.std.proofs.lemmas.List.{append-nil}
use Rattle.std.proofs.lemmas.List.Folds.{list_any-append}
use Rattle.std.proofs.lemmas.Bool.{or_parts, or_from}
use Rattle.ml_lines.specs.Lines.{Word, Line, next, text_of}
use Rattle.ml_lines.proofs.Words.{line_text-words}

abbrev pub has : ℕ → List ℕ → Bool
has c xs = list_any (λ x. x == c) xs

abbrev pub before : ℕ → List ℕ → List ℕ
before c [] = []
before c (x ∷ xs) = cond (x == c) [] (x ∷ before c xs)

abbrev pub from : ℕ → List ℕ → List ℕ
from c [] = []
from c (x ∷ xs) = cond (x == c) (x ∷ xs) (from c xs)

abbrev pub avoids : ℕ → Line → Type 0
avoids c [] = Unit {0}
avoids c (word ∷ words) = (has c word ≡ false) × avoids c words

abbrev pub IsPlain : Line → Type 0
IsPlain [] = ⊥
IsPlain (word ∷ words) = avoids 32 (word ∷ words) × avoids 10 (word ∷ words)

abbrev pub ArePlain : List Line → Type 0
ArePlain [] = Unit {0}
ArePlain (line ∷ lines) = IsPlain line × ArePlain lines

before-append : (c : ℕ) (xs ys : List ℕ) → has c xs ≡ false → before c (xs ++ ys) ≡ xs ++ before c ys
before-append c [] ys e = refl
before-append c (x ∷ xs) ys e =
    let parts = or_parts (x == c) (has c xs) e in
    ap (λ here. cond here [] (x ∷ before c (xs ++ ys))) parts.0 ∙ ap (λ rest. x ∷ rest) (before-append c xs ys parts.1)

from-append : (c : ℕ) (xs ys : List ℕ) → has c xs ≡ false → from c (xs ++ ys) ≡ from c ys
from-append c [] ys e = refl
from-append c (x ∷ xs) ys e =
    let parts = or_parts (x == c) (has c xs) e in
    ap (λ here. cond here (x ∷ (xs ++ ys)) (from c (xs ++ ys))) parts.0 ∙ from-append c xs ys parts.1

before_next : (words : Line) → before 32 (flat_map next words) ≡ []
before_next [] = refl
before_next (word ∷ words) = refl

from_next : (words : Line) → from 32 (flat_map next words) ≡ flat_map next words
from_next [] = refl
from_next (word ∷ words) = refl

-- a word and those behind it
abbrev pub body : Word → Line → List ℕ
body word words = word ++ flat_map next words

first_word : (word : Word) (words : Line) → has 32 word ≡ false → before 32 (body word words) ≡ word
first_word word words e =
    before-append 32 word (flat_map next words) e ∙ ap (λ rest. word ++ rest) (before_next words) ∙ append-nil word

later_words : (word : Word) (words : Line) → has 32 word ≡ false → from 32 (body word words) ≡ flat_map next words
later_words word words e = from-append 32 word (flat_map next words) e ∙ from_next words

nexts_unique : (ws vs : Line) → avoids 32 ws → avoids 32 vs → flat_map next ws ≡ flat_map next vs → ws ≡ vs
nexts_unique [] [] ok_ws ok_vs e = refl
nexts_unique [] (v ∷ vs) ok_ws ok_vs e = cc
nexts_unique (w ∷ ws) [] ok_ws ok_vs e = cc
nexts_unique (w ∷ ws) (v ∷ vs) ok_ws ok_vs e =
    let same : body w ws ≡ body v vs = ap (drop 1) e in
    let head = sym (first_word w ws ok_ws.0) ∙ ap (before 32) same ∙ first_word v vs ok_vs.0 in
    let tail = sym (later_words w ws ok_ws.0) ∙ ap (from 32) same ∙ later_words v vs ok_vs.0 in
    let rest = nexts_unique ws vs ok_ws.1 ok_vs.1 tail in
    λ i. head i ∷ rest i

pub line_unique : (w v : Word) (ws vs : Line) → avoids 32 (w ∷ ws) → avoids 32 (v ∷ vs)
    → w ++ flat_map next ws ≡ v ++ flat_map next vs → w ∷ ws ≡ v ∷ vs
line_unique w v ws vs ok_ws ok_vs e = nexts_unique (w ∷ ws) (v ∷ vs) ok_ws ok_vs (ap (λ rest. 32 ∷ rest) e)

no_end : (words : Line) → avoids 10 words → has 10 (flat_map next words) ≡ false
no_end [] ok = refl
no_end (word ∷ words) ok =
    list_any-append (λ x. x == 10) word (flat_map next words)
    ∙ or_from (has 10 word) (has 10 (flat_map next words)) ok.0 (no_end words ok.1)

pub no_end_in : (word : Word) (words : Line) → avoids 10 (word ∷ words) → has 10 (body word words) ≡ false
no_end_in word words ok = no_end (word ∷ words) ok

pub text-cons : (word : Word) (words : Line) (lines : List Line)
    → text_of ((word ∷ words) ∷ lines) ≡ body word words ++ 10 ∷ text_of lines
text-cons word words lines =
    ap (λ first. first ++ text_of lines)
    (line_text-words word words ∙ sym (append_assoc word (flat_map next words) (10 ∷ [])))
    ∙ append_assoc (body word words) (10 ∷ []) (text_of lines)

first_line : (word : Word) (words : Line) (lines : List Line) → avoids 10 (word ∷ words)
    → before 10 (text_of ((word ∷ words) ∷ lines)) ≡ body word words
first_line word words lines ok =
    ap (before 10) (text-cons word words lines)
    ∙ before-append 10 (body word words) (10 ∷ text_of lines) (no_end_in word words ok) ∙ append-nil (body word words)

later_lines : (word : Word) (words : Line) (lines : List Line) → avoids 10 (word ∷ words)
    → from 10 (text_of ((word ∷ words) ∷ lines)) ≡ 10 ∷ text_of lines
later_lines word words lines ok =
    ap (from 10) (text-cons word words lines)
    ∙ from-append 10 (body word words) (10 ∷ text_of lines) (no_end_in word words ok)

pub text_unique : (ls ks : List Line) → ArePlain ls → ArePlain ks → text_of ls ≡ text_of ks → ls ≡ ks
text_unique [] [] ok_ls ok_ks e = refl
text_unique [] ([] ∷ ks) ok_ls ok_ks e = absurd ok_ks.0
text_unique [] ((v ∷ vs) ∷ ks) ok_ls ok_ks e =
    let cut : [] ≡ 10 ∷ text_of ks = ap (from 10) e ∙ later_lines v vs ks ok_ks.0.1 in cc
text_unique ([] ∷ ls) ks ok_ls ok_ks e = absurd ok_ls.0
text_unique ((w ∷ ws) ∷ ls) [] ok_ls ok_ks e =
    let cut : [] ≡ 10 ∷ text_of ls = ap (from 10) (sym e) ∙ later_lines w ws ls ok_ls.0.1 in cc
text_unique ((w ∷ ws) ∷ ls) ([] ∷ ks) ok_ls ok_ks e = absurd ok_ks.0
text_unique ((w ∷ ws) ∷ ls) ((v ∷ vs) ∷ ks) ok_ls ok_ks e =
    let bytes = sym (first_line w ws ls ok_ls.0.1) ∙ ap (before 10) e ∙ first_line v vs ks ok_ks.0.1 in
    let behind = sym (later_lines w ws ls ok_ls.0.1) ∙ ap (from 10) e ∙ later_lines v vs ks ok_ks.0.1 in
    let line = line_unique w v ws vs ok_ls.0.0 ok_ks.0.0 bytes in
    let rest = text_unique ls ks ok_ls.1 ok_ks.1 (ap (drop 1) behind) in
    λ i. line i ∷ rest i
