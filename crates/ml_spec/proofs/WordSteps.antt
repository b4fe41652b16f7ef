-- The words of an item, read one after the other while what they declare is noted.
--
--   with_all_more   == to declare one name more is to declare it behind the others
--   IsReadUpTo good state tk i text rest es == the words of `text` before `rest` are good and free, and es is declared behind them
--   IsReadWith seen rest es, words_seen, all_words == the same, with the words `seen` that are read
--   words_begin, words_step, words_stop, words_declared, words_listed, words_short == where it begins, one word more, the first fault, and the end
use Rattle.std.proofs.Common.{◌≡◌, ℕ, ◌+◌, ◌-◌, ◌<◌, ◌≤◌, ◌==◌, Bool, true, false, List, [], ◌∷◌, ◌++◌, length, bytes_eq, refl, sym, ap, subst, ◌∙◌, arith}
use Rattle.std.proofs.lemmas.Bool.{eqb-true}
use Rattle.std.proofs.lemmas.List.{append-nil}
use Rattle.indexmap.specs.IndexMap.{insert_entry}
use Rattle.ml_spec.specs.Faults.{end_of}
use Rattle.ml_spec.specs.ItemParts.{place_of}
use Rattle.ml_spec.specs.Items.{ItemText, behind_word, first_word, without_blanks}
use Rattle.ml_spec.specs.Known.{with_all}
use Rattle.ml_spec.specs.Statements.{value_name, value_names}
use Rattle.ml_spec.specs.Words.{placed_words, words_of}
use Rattle.ml_spec.specs.declared.context.Declared.{Declared}
use Rattle.ml_spec.specs.declared.rule.SpecRule.{SpecRule}
use Rattle.ml_spec.specs.declared.rule.SpecRule.TheVariants.{NoName}
use Rattle.ml_spec.specs.private.Lists.{AreListed, BreaksWord, IsFirstInList, IsListedTo, IsWordFree}
use Rattle.ml_spec.proofs.WordLists.{as_many, list_read, list_short, word_done, word_first, words_more}
use Rattle.ml_spec.proofs.WordPlaces.{behind_filled, behind_fits, blanks_filled, is_filled, no_words, word_here, words_in_order, InOrder}

abbrev Entries : Type 0
Entries = List (List ℕ × Declared)

pub with_all_more : (ds : Entries) (a : Declared) (ps : List (List ℕ)) (p : List ℕ)
    → with_all ds a (ps ++ p ∷ []) ≡ insert_entry bytes_eq (with_all ds a ps) p a
with_all_more ds a [] p = refl
with_all_more ds a (q ∷ qs) p = with_all_more (insert_entry bytes_eq ds q a) a qs p

pub value_names_more : (m : List ℕ) (vs : List (List ℕ)) (v : List ℕ)
    → value_names m (vs ++ v ∷ []) ≡ value_names m vs ++ value_name m v ∷ []
value_names_more m [] v = refl
value_names_more m (u ∷ us) v = ap (λ ns. value_name m u ∷ ns) (value_names_more m us v)

abbrev pub words_at : ItemText → List ℕ → List (ℕ × List ℕ)
words_at i text = placed_words (place_of i text) text

module _ (good : List ℕ → Bool) (state : List (List ℕ) → Entries) (tk : Entries → List ℕ → Type 0) (i : ItemText) (text : List ℕ) where
  abbrev pub Taken : List (List ℕ) → List ℕ → Type 0
  Taken seen w = tk (state seen) w

  pub record IsReadUpTo (rest : List ℕ) (es : Entries) : Type 0 where
    pub listed : IsListedTo good Taken (words_at i text) (words_at i rest)
    pub declared : es ≡ state (words_of listed.done)
    pub filled : is_filled rest
    pub within : length rest ≤ length i.bytes

  pub record IsReadWith (seen : List (List ℕ)) (rest : List ℕ) (es : Entries) : Type 0 where
    pub read : IsReadUpTo rest es
    pub are_seen : seen ≡ words_of read.listed.done

  abbrev pub words_begin : (es : Entries)
      → es ≡ state []
      → length text ≤ length i.bytes
      → (rest : List ℕ)
      → rest ≡ without_blanks text
      → length rest ≤ length text
      → IsReadUpTo rest es
  words_begin es begins within rest is shorter = record {
    listed = record {
      done = [];
      whole =
          no_words (place_of i text) text
          ∙ ap (λ k. placed_words k (without_blanks text)) place
          ∙ ap (words_at i) (sym is);
      are_good = tt;
      are_free = tt;
    };
    declared = begins;
    filled = subst is_filled (sym is) (blanks_filled text);
    within = omega (arith, within, shorter);
  }
    where
      place : place_of i text + (length text - length (without_blanks text)) ≡ place_of i (without_blanks text)
      place = omega (arith, within, shorter, ap length is)

  module _ (rest : List ℕ) (es : Entries) (read : IsReadUpTo rest es) (b : ℕ) (bs : List ℕ) (some : rest ≡ b ∷ bs) where
    first : words_at i rest ≡ (place_of i rest, first_word rest) ∷ words_at i (behind_word rest)
    first =
        subst (λ r. is_filled r → length r ≤ length i.bytes → words_at i r ≡ (place_of i r, first_word r) ∷ words_at i (behind_word r))
        (sym some) here read.filled read.within
      where
        here : is_filled (b ∷ bs) → length (b ∷ bs) ≤ length i.bytes
            → words_at i (b ∷ bs) ≡ (place_of i (b ∷ bs), first_word (b ∷ bs)) ∷ words_at i (behind_word (b ∷ bs))
        here filled within =
            let place : place_of i (b ∷ bs) + (length (b ∷ bs) - length (behind_word (b ∷ bs))) ≡ place_of i (behind_word (b ∷ bs)) =
            omega (arith, within, behind_fits (b ∷ bs)) in
            word_here (place_of i (b ∷ bs)) b bs filled
            ∙ ap (λ k. (place_of i (b ∷ bs), first_word (b ∷ bs)) ∷ placed_words k (behind_word (b ∷ bs))) place

    abbrev listed_here : IsListedTo good Taken (words_at i text) ((place_of i rest, first_word rest) ∷ words_at i (behind_word rest))
    listed_here = record {
      done = read.listed.done;
      whole = read.listed.whole ∙ ap (λ ws. read.listed.done ++ ws) first;
      are_good = read.listed.are_good;
      are_free = read.listed.are_free;
    }

    abbrev pub done : List (List ℕ)
    done = words_of read.listed.done

    abbrev step_behind : (fs : Entries) (w : List ℕ)
        → w ≡ first_word rest
        → IsWordFree good (tk es w) w
        → fs ≡ state (done ++ w ∷ [])
        → IsReadUpTo (behind_word rest) fs
    step_behind fs w is_word free noted = record {
      listed =
          word_done good Taken (words_at i text) (words_at i (behind_word rest)) (place_of i rest, first_word rest) listed_here
          (subst (λ v. good v ≡ true) is_word free.is_good)
          (λ taken.
          free.is_free
          (subst (λ v. tk es v) (sym is_word) (subst (λ ds. tk ds (first_word rest)) (sym read.declared) taken)));
      declared =
          noted
          ∙ ap (λ v. state (done ++ v ∷ [])) is_word
          ∙ ap state (sym (words_more read.listed.done (place_of i rest, first_word rest)));
      filled = behind_filled rest;
      within = omega (arith, read.within, behind_fits rest);
    }

    pub words_step : (next : List ℕ) (fs : Entries) (w : List ℕ)
        → w ≡ first_word rest
        → next ≡ behind_word rest
        → IsWordFree good (tk es w) w
        → fs ≡ state (done ++ w ∷ [])
        → IsReadUpTo next fs
    words_step next fs w is_word is_next free noted =
        subst (λ n. IsReadUpTo n fs) (sym is_next) (step_behind fs w is_word free noted)

    -- the same, with the words that are read
    pub words_seen : (next : List ℕ) (fs : Entries) (w : List ℕ) (seen : List (List ℕ))
        → w ≡ first_word rest
        → next ≡ behind_word rest
        → IsWordFree good (tk es w) w
        → fs ≡ state (done ++ w ∷ [])
        → seen ≡ done
        → IsReadWith (seen ++ w ∷ []) next fs
    words_seen next fs w seen is_word is_next free noted are =
        subst (λ n. IsReadWith (seen ++ w ∷ []) n fs) (sym is_next) (record {
          read = step_behind fs w is_word free noted;
          are_seen =
              ap (λ ps. ps ++ w ∷ []) are
              ∙ ap (λ v. done ++ v ∷ []) is_word
              ∙ sym (words_more read.listed.done (place_of i rest, first_word rest));
        })

    pub words_stop : (least : ℕ) (r : SpecRule) (w : List ℕ)
        → w ≡ first_word rest
        → length text ≤ length i.bytes
        → BreaksWord good (tk es w) w r
        → IsFirstInList good Taken least (words_at i text) (end_of i) r (place_of i rest)
    words_stop least r w is_word within breaks =
        word_first good Taken least (words_at i text) (words_at i (behind_word rest)) (place_of i rest, first_word rest)
        (place_of i text) (end_of i) order listed_here r
        (subst (λ ds. BreaksWord good (tk ds (first_word rest)) (first_word rest) r) read.declared
        (subst (λ v. BreaksWord good (tk es v) v r) is_word breaks))
      where
        order : InOrder (place_of i text) (end_of i) (words_at i text)
        order =
            let size : place_of i text + length text ≡ end_of i = omega (arith, within) in
            subst (λ e. InOrder (place_of i text) e (words_at i text)) size (words_in_order (place_of i text) text)

  -- ---- the end

  module _ (rest : List ℕ) (es : Entries) (read : IsReadUpTo rest es) (none : rest ≡ []) where
    abbrev all_listed : IsListedTo good Taken (words_at i text) []
    all_listed = record {
      done = read.listed.done;
      whole = read.listed.whole ∙ ap (λ r. read.listed.done ++ words_at i r) none;
      are_good = read.listed.are_good;
      are_free = read.listed.are_free;
    }

    pub all_words : words_of read.listed.done ≡ words_of (words_at i text)
    all_words = ap words_of (sym (all_listed.whole ∙ append-nil read.listed.done))

    pub words_declared : es ≡ state (words_of (words_at i text))
    words_declared = read.declared ∙ ap state all_words

    pub words_listed : (least : ℕ) → least ≤ length (words_at i text) → AreListed good Taken least (words_at i text)
    words_listed least enough = list_read good Taken least (words_at i text) all_listed enough

    pub words_short : (least : ℕ)
        → length (words_at i text) < least
        → IsFirstInList good Taken least (words_at i text) (end_of i) NoName (place_of i rest)
    words_short least few =
        let at_end : end_of i ≡ place_of i rest = omega (arith, ap length none) in
        subst (IsFirstInList good Taken least (words_at i text) (end_of i) NoName) at_end
        (list_short good Taken least (words_at i text) (end_of i) all_listed few)

-- ---- the first word, and none

pub record HasFirst (rest : List ℕ) : Type 0 where
  pub head : ℕ
  pub tail : List ℕ
  pub is : rest ≡ head ∷ tail

pub some_first : (rest : List ℕ) → (length rest == 0) ≡ false → HasFirst rest
some_first [] some = absurd cc
some_first (b ∷ bs) some = record { head = b; tail = bs; is = refl }

pub none_left : (rest : List ℕ) → (length rest == 0) ≡ true → rest ≡ []
none_left [] none = refl
none_left (b ∷ bs) none = absurd (omega (arith, eqb-true (length (b ∷ bs)) 0 none))

-- a text that begins with no blank has a word, if it has a byte
pub some_word : (i : ItemText) (text : List ℕ) → is_filled text → (length text == 0) ≡ false → 1 ≤ length (words_at i text)
some_word i text filled some =
    let first = some_first text some in
    subst (λ t. is_filled t → 1 ≤ length (words_at i t)) (sym first.is)
    (λ filled. omega (arith, ap length (word_here (place_of i (first.head ∷ first.tail)) first.head first.tail filled))) filled

pub no_word : (i : ItemText) (text : List ℕ) → (length text == 0) ≡ true → length (words_at i text) < 1
no_word i text none = subst (λ t. length (words_at i t) < 1) (sym (none_left text none)) (omega arith)

-- ---- how many

pub values_count : (m : List ℕ) (ns seen : List (List ℕ)) (ws : List (ℕ × List ℕ))
    → ns ≡ value_names m seen
    → seen ≡ words_of ws
    → length ns ≡ length ws
values_count m ns seen ws are same = ap length are ∙ as_named seen ∙ ap length same ∙ as_many ws
  where
    as_named : (vs : List (List ℕ)) → length (value_names m vs) ≡ length vs
    as_named [] = refl
    as_named (v ∷ vs) = omega (arith, as_named vs)
