-- Words behind `because`, cut at `perhaps:`.
--
--   told us          == what is found behind `perhaps:` where these are the words behind it
--   marked_split     == names with `-` and `perhaps:` are cut into what they are
--   split_marked     == what is cut so, and begins with names, is made of these
--   found_marked     == where a scan of the parts ends as it should, its marks name the items by the words
--   marked_found     == where marks name the items by the words, the parts are there, and a scan of them finds these and ends
--                       so
use Rattle.std.proofs.Common.{◌≡◌, ◌≢◌, ℕ, ◌+◌, ◌&&◌, Bool, true, false, cond, List, [], ◌∷◌, ◌++◌, Option, None, Some, codes, drop, length, ◌<◌, refl, sym, ap, subst, ◌∙◌, arith}
use Rattle.std.specs.List.{AllByRecursion, list_any}
use Rattle.std.proofs.lemmas.Bool.{false≢true}
use Rattle.std.proofs.lemmas.List.{append-nil}
use Rattle.std.proofs.lemmas.Option.{none-some}
use Rattle.std.specs.Borrow.{Bor}
use Rattle.std.specs.Global.{Vec}
use Rattle.std.specs.Prelude.{MatchOption}
use Rattle.std.specs.Option.{is_none, option_copied}
use Rattle.ml_lines.proofs.Cuts.{some_part}
use Rattle.ml_lines.specs.Lines.{Word}
use Rattle.ml_lines.specs.Reading.{is_blank, words_behind, words_of}
use Rattle.ml_answers.specs.private.Words.{some_left, words_left}
use Rattle.ml_answers.specs.declared.names.Names.{Names}
use Rattle.ml_spec.specs.Items.{is_name}
use Rattle.ml_spec.specs.declared.specification.Item.{Item}
use Rattle.ml_answers.specs.private.Marks as marks
use Rattle.ml_answers.specs.private.Marks.{behind_perhaps, heads, is_empty, is_named, is_needed, is_over, is_unsettled, lacks, left_by, names_by, or_dash, perhaps, scan, some_words, split_at, split_words, AreMarks, MarkedBy}
use Rattle.ml_answers.specs.declared.names.Mark.{Mark}
use Rattle.ml_answers.proofs.Marking.{head_is, named_no_dash, named_no_mark, needed_names, none_named, names_named, other_word, same_word, scan_finds, scan_is, some_marked, unsettled_names, AreNamed, Differ}

abbrev Named : List Word → Type 0
Named ws = AllByRecursion (λ w. is_name w ≡ true) ws

abbrev pub told : List Word → Option (List Word)
told [] = None
told (w ∷ ws) = Some (w ∷ ws)

told_words : (us : List Word) → some_words (told us) ≡ us
told_words [] = refl
told_words (u ∷ us) = refl

told_some : (us : List Word) → lacks (told us) ≡ false
told_some [] = refl
told_some (u ∷ us) = refl

behind_past : (ns ws : List Word) → Named ns → behind_perhaps (ns ++ ws) ≡ behind_perhaps ws
behind_past [] ws named = refl
behind_past (n ∷ ns) ws named =
    ap (λ t. cond t (Some (ns ++ ws)) (behind_perhaps (ns ++ ws)))
    (other_word n (codes "perhaps:") (named_no_mark n named.0))
    ∙ behind_past ns ws named.1

behind_told : (us : List Word) → behind_perhaps (perhaps us) ≡ told us
behind_told [] = refl
behind_told (u ∷ us) = refl

-- ---- the words that marks give

behind_words : (ns us : List Word) → Named ns → behind_perhaps (or_dash ns ++ perhaps us) ≡ told us
behind_words [] us named = behind_told us
behind_words (n ∷ ns) us named = behind_past (n ∷ ns) (perhaps us) named ∙ behind_told us

dash_words : (ns us : List Word) → Named ns → heads (or_dash ns ++ perhaps us) (codes "-") ≡ is_empty ns
dash_words [] us named = refl
dash_words (n ∷ ns) us named = other_word n (codes "-") (named_no_dash n named.0)

left_words : (ns us : List Word) → left_by (is_empty ns) (or_dash ns ++ perhaps us) ≡ ns ++ perhaps us
left_words [] us = refl
left_words (n ∷ ns) us = refl

pub over_perhaps : (us : List Word) → is_over (perhaps us) ≡ true
over_perhaps [] = refl
over_perhaps (u ∷ us) = refl

over_words : (ns us : List Word) → Named ns → is_over (ns ++ perhaps us) ≡ is_empty ns
over_words [] us named = over_perhaps us
over_words (n ∷ ns) us named = other_word n (codes "perhaps:") (named_no_mark n named.0)

-- one is wanted, and there is none
abbrev pub lacks_one : Bool → List Word → List Word → Bool
lacks_one wants ns us = wants && (is_empty ns && is_empty us)

pub marked_split : (wants : Bool) (ns us : List Word)
    → Named ns
    → lacks_one wants ns us ≡ false
    → split_words wants (or_dash ns ++ perhaps us) ≡ Some (ns ++ perhaps us, us)
marked_split wants ns us named some =
    ap (λ d. split_at wants d (left_by d (or_dash ns ++ perhaps us)) (behind_perhaps (or_dash ns ++ perhaps us)))
    (dash_words ns us named)
    ∙ ap (λ a. split_at wants (is_empty ns) a (behind_perhaps (or_dash ns ++ perhaps us))) (left_words ns us)
    ∙ ap (split_at wants (is_empty ns) (ns ++ perhaps us)) (behind_words ns us named)
    ∙ by ns us wants (over_words ns us named) some
  where
    by : (ns us : List Word) (wants : Bool)
        → is_over (ns ++ perhaps us) ≡ is_empty ns
        → lacks_one wants ns us ≡ false
        → split_at wants (is_empty ns) (ns ++ perhaps us) (told us) ≡ Some (ns ++ perhaps us, us)
    by [] [] true over some = absurd cc
    by [] [] false over some = refl
    by [] (u ∷ us) true over some = refl
    by [] (u ∷ us) false over some = refl
    by (n ∷ ns) [] wants over some = ap (λ t. cond t None (Some ((n ∷ ns) ++ perhaps [], []))) over
    by (n ∷ ns) (u ∷ us) wants over some =
        ap (λ t. cond t None (Some ((n ∷ ns) ++ perhaps (u ∷ us), u ∷ us))) over

-- ---- and back

over_is : (ends : List Word)
    → is_over ends ≡ true
    → lacks (behind_perhaps ends) ≡ false
    → perhaps (some_words (behind_perhaps ends)) ≡ ends
over_is [] over some = refl
over_is (v ∷ []) over some =
    absurd (false≢true (sym some ∙ ap (λ t. lacks (cond t (Some []) None)) over))
over_is (v ∷ w ∷ ws) over some =
    ap (λ t. perhaps (some_words (cond t (Some (w ∷ ws)) (behind_perhaps (w ∷ ws))))) over
    ∙ ap (λ u. u ∷ w ∷ ws) (sym (same_word v (codes "perhaps:") over))

-- what a cut says
pub record IsSplit (wants : Bool) (words a b : List Word) : Type 0 where
  pub some_behind : lacks (behind_perhaps words) ≡ false
  pub is_behind : b ≡ some_words (behind_perhaps words)
  pub by_dash : heads words (codes "-") ≡ true → (a ≡ drop 1 words) × (is_over a ≡ true) × ((wants && is_empty b) ≡ false)
  pub no_dash : heads words (codes "-") ≡ false → (a ≡ words) × (is_over a ≡ false)

yes_some : {X : Type 0} (t : Bool) (x : Option X) (y : X) → cond t x None ≡ Some y → (t ≡ true) × (x ≡ Some y)
yes_some true x y e = (refl, e)
yes_some false x y e = absurd (none-some y e)

no_some : {X : Type 0} (t : Bool) (x : Option X) (y : X) → cond t None x ≡ Some y → (t ≡ false) × (x ≡ Some y)
no_some true x y e = absurd (none-some y e)
no_some false x y e = (refl, e)

pub some_same : {X : Type 0} (x y : X) → Some x ≡ Some y → x ≡ y
some_same x y e = cc

pub split_is : (wants : Bool) (words a b : List Word) → split_words wants words ≡ Some (a, b) → IsSplit wants words a b
split_is wants words a b e = by (heads words (codes "-")) refl e
  where
    by : (d : Bool)
        → heads words (codes "-") ≡ d
        → split_at wants d (left_by d words) (behind_perhaps words) ≡ Some (a, b)
        → IsSplit wants words a b
    by true is e =
        let k = behind_perhaps words in
        let front = drop 1 words in
        let made : Option (List Word × List Word) = Some (front, some_words k) in
        let inner = cond (wants && is_empty (some_words k)) None made in
        let one = no_some (lacks k) (cond (is_over front) inner None) (a, b) e in
        let two = yes_some (is_over front) inner (a, b) one.1 in
        let three = no_some (wants && is_empty (some_words k)) made (a, b) two.1 in
        let pair : (front, some_words k) ≡ (a, b) = some_same (front, some_words k) (a, b) three.1 in
        let is_a : front ≡ a = ap (λ (p : List Word × List Word). p.0) pair in
        let is_b : some_words k ≡ b = ap (λ (p : List Word × List Word). p.1) pair in
        record {
          some_behind = one.0;
          is_behind = sym is_b;
          by_dash = λ _. (
            sym is_a,
            ap is_over (sym is_a) ∙ two.0,
            ap (λ ws. wants && is_empty ws) (sym is_b) ∙ three.0,
          );
          no_dash = λ not. absurd (false≢true (sym not ∙ is));
        }
    by false is e =
        let k = behind_perhaps words in
        let made : Option (List Word × List Word) = Some (words, some_words k) in
        let one = no_some (lacks k) (cond (is_over words) None made) (a, b) e in
        let two = no_some (is_over words) made (a, b) one.1 in
        let pair : (words, some_words k) ≡ (a, b) = some_same (words, some_words k) (a, b) two.1 in
        let is_a : words ≡ a = ap (λ (p : List Word × List Word). p.0) pair in
        let is_b : some_words k ≡ b = ap (λ (p : List Word × List Word). p.1) pair in
        record {
          some_behind = one.0;
          is_behind = sym is_b;
          by_dash = λ yes. absurd (false≢true (sym is ∙ yes));
          no_dash = λ _. (sym is_a, ap is_over (sym is_a) ∙ two.0);
        }

over_front : (n : Word) (ns ends : List Word) → is_name n ≡ true → is_over ((n ∷ ns) ++ ends) ≡ false
over_front n ns ends named = other_word n (codes "perhaps:") (named_no_mark n named)

abbrev pub AreJoined : Bool → List Word → List Word → List Word → Type 0
AreJoined wants words ns us = (words ≡ or_dash ns ++ perhaps us) × (lacks_one wants ns us ≡ false)

-- behind these words come the same ones behind `perhaps:` as behind their ends
joined_ends : (words b ends : List Word)
    → b ≡ some_words (behind_perhaps words)
    → lacks (behind_perhaps words) ≡ false
    → behind_perhaps words ≡ behind_perhaps ends
    → is_over ends ≡ true
    → perhaps b ≡ ends
joined_ends words b ends is_b some same over =
    ap perhaps (is_b ∙ ap some_words same) ∙ over_is ends over (ap lacks (sym same) ∙ some)

pub split_marked : (wants : Bool) (words a b ns ends : List Word)
    → IsSplit wants words a b
    → Named ns
    → a ≡ ns ++ ends
    → is_over ends ≡ true
    → AreJoined wants words ns b
split_marked wants words a b ns ends split named is_a over = by (heads words (codes "-")) refl ns named is_a
  where
    by : (d : Bool)
        → heads words (codes "-") ≡ d
        → (ns : List Word)
        → Named ns
        → a ≡ ns ++ ends
        → AreJoined wants words ns b
    by true is [] named is_a =
        let d = split.by_dash is in
        let words_are : words ≡ codes "-" ∷ ends =
        head_is words (codes "-") is ∙ ap (λ ws. codes "-" ∷ ws) (sym d.0 ∙ is_a) in
        let same : behind_perhaps words ≡ behind_perhaps ends = ap behind_perhaps words_are in (
          words_are
              ∙ ap (λ ws. codes "-" ∷ ws) (sym (joined_ends words b ends split.is_behind split.some_behind same over)),
          d.2,
        )
    by true is (n ∷ ns) named is_a =
        let d = split.by_dash is in
        absurd (false≢true (sym (over_front n ns ends named.0) ∙ ap is_over (sym is_a) ∙ d.1))
    by false is [] named is_a =
        let d = split.no_dash is in
        absurd (false≢true (sym d.1 ∙ ap is_over is_a ∙ over))
    by false is (n ∷ ns) named is_a =
        let d = split.no_dash is in
        let words_are : words ≡ (n ∷ ns) ++ ends = sym d.0 ∙ is_a in
        let same : behind_perhaps words ≡ behind_perhaps ends =
        ap behind_perhaps words_are ∙ behind_past (n ∷ ns) ends named in (
          words_are
              ∙ ap (λ ws. (n ∷ ns) ++ ws) (sym (joined_ends words b ends split.is_behind split.some_behind same over)),
          none_lacking wants,
        )
      where
        none_lacking : (wants : Bool) → (wants && false) ≡ false
        none_lacking true = refl
        none_lacking false = refl

-- ---- whole lines of names

module _ (S : ℕ → Bool) (wants : Bool) (xs : List Item) (words : List Word) (differ : Differ xs) (named : AreNamed xs) where
  -- the parts are there, and what a scan of them finds ends as it should
  pub record IsFoundBy (a b : List Word) (ms : List Mark) : Type 0 where
    pub are_split : split_words wants words ≡ Some (a, b)
    pub is_scan : (scan S 0 xs a b).marks ≡ ms
    pub is_over : is_over (scan S 0 xs a b).needed ≡ true
    pub is_empty : (scan S 0 xs a b).unsettled ≡ []

  some_of : (ms : List Mark)
      → (ns us : List Word)
      → names_by is_needed xs ms ≡ ns
      → names_by is_unsettled xs ms ≡ us
      → lacks_one wants ns us ≡ false
      → wants ≡ true
      → list_any is_named ms ≡ true
  some_of ms (n ∷ ns) us is_ns is_us some want = some_marked is_needed needed_names xs ms n ns is_ns
  some_of ms [] (u ∷ us) is_ns is_us some want = some_marked is_unsettled unsettled_names xs ms u us is_us
  some_of ms [] [] is_ns is_us some want = absurd (false≢true (sym some ∙ ap (λ t. t && true) want))

  pub found_marked : (a b : List Word) (ms : List Mark) → IsFoundBy a b ms → MarkedBy S wants xs ms words
  found_marked a b ms is =
      let s = scan S 0 xs a b in
      let parts = scan_is S 0 xs a b in
      let us : b ≡ names_by is_unsettled xs s.marks =
      parts.2 ∙ ap (λ ws. names_by is_unsettled xs s.marks ++ ws) is.is_empty ∙ append-nil (names_by is_unsettled xs s.marks) in
      let split = split_is wants words a b is.are_split in
      let joined =
      split_marked wants words a b (names_by is_needed xs s.marks) s.needed split
      (names_named is_needed xs s.marks named) parts.1 is.is_over in
      subst (λ ms. MarkedBy S wants xs ms words) is.is_scan
      (record {
        are_marks = parts.0;
        are_words = joined.0 ∙ ap (λ ws. or_dash (names_by is_needed xs s.marks) ++ perhaps ws) us;
        some_named = λ want.
            some_of s.marks (names_by is_needed xs s.marks) b refl (sym us) joined.1 want;
      })

  lacking : (ms : List Mark)
      → AreMarks S 0 xs ms
      → (wants ≡ true → list_any is_named ms ≡ true)
      → lacks_one wants (names_by is_needed xs ms) (names_by is_unsettled xs ms) ≡ false
  lacking ms are some = by wants (names_by is_needed xs ms) (names_by is_unsettled xs ms) refl refl some
    where
      by : (want : Bool) (ns us : List Word)
          → names_by is_needed xs ms ≡ ns
          → names_by is_unsettled xs ms ≡ us
          → (want ≡ true → list_any is_named ms ≡ true)
          → lacks_one want ns us ≡ false
      by false ns us is_ns is_us some = refl
      by true (n ∷ ns) us is_ns is_us some = refl
      by true [] (u ∷ us) is_ns is_us some = refl
      by true [] [] is_ns is_us some =
          absurd (false≢true (sym (none_named S 0 xs ms are is_ns is_us) ∙ some refl))

  pub marked_found : (ms : List Mark) → MarkedBy S wants xs ms words
      → IsFoundBy (names_by is_needed xs ms ++ perhaps (names_by is_unsettled xs ms)) (names_by is_unsettled xs ms) ms
  marked_found ms is =
      let ns = names_by is_needed xs ms in
      let us = names_by is_unsettled xs ms in
      let found =
      scan_finds S 0 xs (ns ++ perhaps us) us ms (perhaps us) differ named is.are_marks refl (over_perhaps us) refl in
      record {
        are_split = ap (split_words wants) is.are_words
            ∙ marked_split wants ns us (names_named is_needed xs ms named) (lacking ms is.are_marks is.some_named);
        is_scan = ap (λ s. s.marks) found;
        is_over = ap (λ s. is_over s.needed) found ∙ over_perhaps us;
        is_empty = ap (λ s. s.unsettled) found;
      }

  pub marks_read : (a b : List Word) (made : Option (Vec Mark))
      → split_words wants words ≡ Some (a, b)
      → MatchOption made
      ((marks.is_over (scan S 0 xs a b).needed ≡ true) → ¬ ((scan S 0 xs a b).unsettled ≡ []))
      (λ ms. ((scan S 0 xs a b).marks ≡ ms.items)
      × (marks.is_over (scan S 0 xs a b).needed ≡ true)
      × ((scan S 0 xs a b).unsettled ≡ []))
      → MatchOption made ((ms : List Mark) → ¬ (MarkedBy S wants xs ms words)) (λ ms. MarkedBy S wants xs ms.items words)
  marks_read a b (Some ms) split is =
      found_marked a b ms.items (record { are_split = split; is_scan = is.0; is_over = is.1; is_empty = is.2 })
  marks_read a b None split none = λ ms marked.
      let found = marked_found ms marked in
      let ns = names_by is_needed xs ms ++ perhaps (names_by is_unsettled xs ms) in
      let us = names_by is_unsettled xs ms in
      let same : (ns, us) ≡ (a, b) = some_same (ns, us) (a, b) (sym found.are_split ∙ split) in
      let is_a : ns ≡ a = ap (λ (p : List Word × List Word). p.0) same in
      let is_b : us ≡ b = ap (λ (p : List Word × List Word). p.1) same in
      none
      (sym (ap (λ v. marks.is_over (scan S 0 xs v b).needed) is_a)
      ∙ sym (ap (λ v. marks.is_over (scan S 0 xs ns v).needed) is_b)
      ∙ found.is_over)
      (sym (ap (λ v. (scan S 0 xs v b).unsettled) is_a)
      ∙ sym (ap (λ v. (scan S 0 xs ns v).unsettled) is_b)
      ∙ found.is_empty)

  pub no_marks : split_words wants words ≡ None → (ms : List Mark) → ¬ (MarkedBy S wants xs ms words)
  no_marks none = λ ms marked.
      let found = marked_found ms marked in
      none-some _ (sym none ∙ found.are_split)

-- ---- words that were not yet read

some_first : (ws : List Word) → 0 < length ws → (v : Word) × (vs : List Word) × (ws ≡ v ∷ vs)
some_first [] some = absurd (omega arith)
some_first (v ∷ vs) some = (v, vs, refl)

left_some_of : (r : Option (Bor (List ℕ)))
    → is_none r ≡ false
    → (v : Word) × (vs : List Word) × (words_behind (option_copied r) ≡ v ∷ vs)
left_some_of None e = absurd (false≢true (sym e))
left_some_of (Some r) e = some_first (words_of r.now) (some_part is_blank r.now)

pub left_some : (n : Names) → is_none n.rest ≡ false → (v : Word) × (vs : List Word) × (words_left n ≡ v ∷ vs)
left_some n e = left_some_of n.rest e

pub cut_over : (wants d : Bool) (a : List Word) (rest : Option Names) (n : Names)
    → rest ≡ Some n
    → is_none n.rest ≡ false
    → is_over a ≡ d
    → split_at wants d a (some_left rest) ≡ Some (a, words_left n)
cut_over wants d a rest n is some over =
    let words = left_some n some in
    ap (λ r. split_at wants d a (some_left r)) is
    ∙ ap (λ ws. split_at wants d a (Some ws)) words.2
    ∙ by wants d over
    ∙ ap (λ ws. Some (a, ws)) (sym words.2)
  where
    by : (wants d : Bool)
        → is_over a ≡ d
        → split_at wants d a (Some ((left_some n some).0 ∷ (left_some n some).1))
        ≡ Some (a, (left_some n some).0 ∷ (left_some n some).1)
    by true true over = ap (λ t. cond t (Some (a, (left_some n some).0 ∷ (left_some n some).1)) None) over
    by false true over = ap (λ t. cond t (Some (a, (left_some n some).0 ∷ (left_some n some).1)) None) over
    by wants false over = ap (λ t. cond t None (Some (a, (left_some n some).0 ∷ (left_some n some).1))) over
