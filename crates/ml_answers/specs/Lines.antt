-- The lines of answers.
--
-- A line has the words of a question and behind them the answer. `yes` or `no` answers what was asked: whether the requirements
-- are consistent, whether the rest of them is, whether something is possible, whether it follows. So of all but `follows` a
-- structure says `yes`, and of `follows` it says `no`. Where there is no structure, the names of requirements for which there
-- is none stand behind `because`: first those without which there is one, or `-` where there are none such; then, behind
-- `perhaps:`, those without which it stays open.
--
--   name_at xs k        == the name of the item with this number
--   first_word xs q     == `consistent` or `rest`, or the word of the kind of what q asks
--   asked_name xs q     == the name of what q asks; none for `consistent` and `rest`
--   question_words xs q == both
--   wants_structure xs q == does a structure say yes? Of all but `follows`
--   yes_or_no b         == `yes` where b is true, and else `no`
--   is_needed, is_unsettled p == is there a structure without the requirement of p? Does it stay open?
--   needed_name, unsettled_name xs p == the name of the requirement of p, if so
--   because_words xs ps == what stands behind `because` for these parts
--   perhaps_words xs ps == `perhaps:` and what stands behind it; nothing where nothing stays open
--   reply_words xs b r  == the words of the answer r, where b tells whether a structure says yes
--   line_of xs r        == the line of a question and its answer
--   lines_of xs rs      == the bytes of all these lines
use Rattle.std.specs.Prelude.{ℕ, Bool, true, false, not, if◌then◌else◌, List, [], ◌∷◌, ◌++◌, Option, None, Some, codes, slice_get}
use Rattle.std.specs.List.{flat_map, list_any}
use Rattle.ml_lines.specs.Lines.{Line, Word, line_text}
use Rattle.ml_spec.specs.Kinds.{kind_word}
use Rattle.ml_spec.specs.declared.kind.Kind.{Kind}
use Rattle.ml_spec.specs.declared.kind.Kind.TheVariants as kind
use Rattle.ml_spec.specs.declared.question.Question.{Question}
use Rattle.ml_spec.specs.declared.question.Question.TheVariants.{Consistent, Rest, Asks}
use Rattle.ml_spec.specs.declared.specification.Item.{Item}
use Rattle.ml_replies.specs.Replies.{Part, Replied, Reply, LeftOpen, Met, StillMet, StillOpen, Unmet, Without}

-- ---- questions

-- numbers past the last item name nothing, and nobody asks
abbrev pub name_of : Option Item → Word
name_of None = []
name_of (Some x) = x.name

abbrev pub name_at : List Item → ℕ → Word
name_at xs k = name_of (slice_get xs k)

abbrev pub word_of : Option Item → Word
word_of None = []
word_of (Some x) = kind_word x.kind

abbrev pub first_word : List Item → Question → Word
first_word xs Consistent = codes "consistent"
first_word xs Rest = codes "rest"
first_word xs (Asks n) = word_of (slice_get xs n)

abbrev pub asked_name : List Item → Question → Line
asked_name xs Consistent = []
asked_name xs Rest = []
asked_name xs (Asks n) = name_at xs n ∷ []

abbrev pub question_words : List Item → Question → Line
question_words xs q = first_word xs q ∷ asked_name xs q

abbrev pub is_follows : Kind → Bool
is_follows kind.Follows = true
is_follows k = false

abbrev pub item_follows : Option Item → Bool
item_follows None = false
item_follows (Some x) = is_follows x.kind

abbrev pub wants_structure : List Item → Question → Bool
wants_structure xs Consistent = true
wants_structure xs Rest = true
wants_structure xs (Asks n) = not (item_follows (slice_get xs n))

-- ---- answers

abbrev pub yes_or_no : Bool → Word
yes_or_no true = codes "yes"
yes_or_no false = codes "no"

abbrev pub is_met : Without → Bool
is_met (StillMet m s) = true
is_met StillOpen = false

abbrev pub is_needed : Part → Bool
is_needed p = is_met p.without

abbrev pub is_unsettled : Part → Bool
is_unsettled p = not (is_met p.without)

abbrev pub needed_name : List Item → Part → Line
needed_name xs p = if is_needed p then name_at xs p.requirement ∷ [] else []

abbrev pub unsettled_name : List Item → Part → Line
unsettled_name xs p = if is_unsettled p then name_at xs p.requirement ∷ [] else []

abbrev pub because_words : List Item → List Part → Line
because_words xs ps = if list_any is_needed ps then flat_map (needed_name xs) ps else codes "-" ∷ []

abbrev pub perhaps_words : List Item → List Part → Line
perhaps_words xs ps = if list_any is_unsettled ps then codes "perhaps:" ∷ flat_map (unsettled_name xs) ps else []

abbrev pub reply_words : List Item → Bool → Reply → Line
reply_words xs wants (Met m s) = yes_or_no wants ∷ []
reply_words xs wants (Unmet c) =
    yes_or_no (not wants) ∷ codes "because" ∷ (because_words xs c.parts ++ perhaps_words xs c.parts)
reply_words xs wants LeftOpen = codes "open" ∷ []

-- ---- lines

abbrev pub line_of : List Item → Replied → Line
line_of xs r = question_words xs r.question ++ reply_words xs (wants_structure xs r.question) r.reply

abbrev pub lines_of : List Item → List Replied → List ℕ
lines_of xs rs = flat_map (λ r. line_text (line_of xs r)) rs
