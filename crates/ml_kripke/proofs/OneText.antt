-- The text of a model belongs to one model.
--
-- Numbers and names have neither blanks nor LFs, so the text has one list of lines, of one list of words each; and
-- the words tell the numbers, the labels and the edges.
--
--   name_without, action_without            == a byte that stands in no name stands neither in a name nor in an action
--   model_plain                             == the lines of a model are plain
--   lines_unique                            == the lines of two models are equal only where the models are
--   one_text                                == so are the texts
use Rattle.std.proofs.Common.{◌≡◌, ◌==◌, ℕ, ◌+◌, ◌^◌, ◌<◌, Bool, true, false, ◌||◌, ◌&&◌, nat_le, List, [], ◌∷◌, ◌++◌}
use Rattle.std.proofs.Common.{length, map, get_or, take, drop, All, codes, refl, sym, ap, subst, ◌∙◌, arith}
use Rattle.std.specs.Char.{is_ascii_alphabetic, is_ascii_alphanumeric}
use Rattle.std.specs.Int.{is_in_range}
use Rattle.std.specs.List.{list_all, enumerate_from}
use Rattle.std.proofs.lemmas.Bool.{and_from, and_parts}
use Rattle.std.proofs.lemmas.Fmt.{decimal_injective}
use Rattle.std.proofs.lemmas.List.{append_cancel_right, take_at, drop_at, length-map}
use Rattle.std.proofs.lemmas.List.Elements.{All-head, All-tail}
use Rattle.std.proofs.lemmas.List.FromFn.{length-enumerate_from}
use Rattle.std.proofs.Math.Bool.{or-true}
use Rattle.ml_base.specs.declared.structure.Edge.{Edge}
use Rattle.ml_base.specs.Name.{is_name, is_name_byte, is_blank_action, IsName, IsAction, longest_name}
use Rattle.ml_base.specs.Structure.{Structure}
use Rattle.ml_lines.specs.Lines.{Line, number}
use Rattle.ml_lines.proofs.PlainWords.{number_plain, numbered_plain, plain_append}
use Rattle.ml_lines.proofs.Unique.{has, avoids, IsPlain, ArePlain, text_unique}
use Rattle.ml_lists.proofs.Absent.{absent, others_differ}
use Rattle.ml_kripke.specs.Laws.{OneText}
use Rattle.ml_kripke.specs.ModelText.{IsWritten, state_line, edge_line, model_lines}

-- ---- words

alpha_byte : (d a b u : Bool) → (a || b) ≡ true → (((d || a) || b) || u) ≡ true
alpha_byte true a b u e = refl
alpha_byte false true b u e = refl
alpha_byte false false true u e = refl
alpha_byte false false false u e = cc

name_without : (c : ℕ) → is_name_byte c ≡ false → (bytes : List ℕ) → IsName bytes → has c bytes ≡ false
name_without c none [] e = refl
name_without c none (b ∷ bs) e =
    let parts =
    and_parts (is_ascii_alphabetic b && list_all is_name_byte bs) (nat_le (length (b ∷ bs)) longest_name) e in
    let bytes = and_parts (is_ascii_alphabetic b) (list_all is_name_byte bs) parts.0 in
    let first = alpha_byte (is_in_range 48 57 b) (is_in_range 65 90 b) (is_in_range 97 122 b) (b == 95) bytes.0 in
    absent is_name_byte c none (b ∷ bs) (and_from (is_name_byte b) (list_all is_name_byte bs) first bytes.1)

blank_without : (c : ℕ) → is_name_byte c ≡ false → (bytes : List ℕ) → is_blank_action bytes ≡ true → has c bytes ≡ false
blank_without c none [] e = refl
blank_without c none (b ∷ []) e =
    let first : is_name_byte b ≡ true =
    ap (λ last. is_ascii_alphanumeric b || last) e ∙ or-true (is_ascii_alphanumeric b) in
    ap (λ here. here || false) (others_differ is_name_byte b c none first)
blank_without c none (b ∷ d ∷ bs) e = cc

action_without : (c : ℕ) → is_name_byte c ≡ false → (bytes : List ℕ) → IsAction bytes → has c bytes ≡ false
action_without c none bytes e = go (is_name bytes) refl e
  where
    go : (named : Bool) → is_name bytes ≡ named → (named || is_blank_action bytes) ≡ true → has c bytes ≡ false
    go true is whole = name_without c none bytes is
    go false is whole = blank_without c none bytes whole

-- ---- lines

names_avoid : (c : ℕ) → is_name_byte c ≡ false → (labels : List (List ℕ)) → All IsName labels → avoids c labels
names_avoid c none [] named = tt
names_avoid c none (label ∷ labels) named = (
  name_without c none label (All-head IsName label labels named),
  names_avoid c none labels
      (All-tail IsName label labels named),
)

state_plain : (s : ℕ) (labels : List (List ℕ)) → s < 2 ^ 64 → All IsName labels → IsPlain (state_line s labels)
state_plain s labels fits named =
    let word = number_plain s fits in
    ((refl, (word.0, names_avoid 32 refl labels named)), (refl, (word.1, names_avoid 10 refl labels named)))

edge_plain : (e : Edge) → e.source < 2 ^ 64 → e.target < 2 ^ 64 → IsAction e.action → IsPlain (edge_line e)
edge_plain e source target named =
    let from = number_plain e.source source in
    let to = number_plain e.target target in (
      (refl, (from.0, (action_without 32 refl e.action named, (to.0, tt)))),
      (refl, (from.1, (action_without 10 refl e.action named, (to.1, tt)))),
    )

abbrev state_lines : ℕ → List (List (List ℕ)) → List Line
state_lines s rows = map (λ labelled. state_line labelled.0 labelled.1) (enumerate_from s rows)

states_plain : (s : ℕ) (rows : List (List (List ℕ)))
    → s + length rows < 2 ^ 64
    → All (All IsName) rows
    → ArePlain (state_lines s rows)
states_plain s [] fits named = tt
states_plain s (row ∷ rows) fits named = (
  state_plain s row (omega arith) (All-head (All IsName) row rows named),
  states_plain (s + 1) rows (omega arith) (All-tail (All IsName) row rows named),
)

abbrev EndsBelow : ℕ → Edge → Type 0
EndsBelow n e = (e.source < n) × (e.target < n)

abbrev HasAction : Edge → Type 0
HasAction e = IsAction e.action

edges_plain : (n : ℕ)
    → n < 2 ^ 64
    → (edges : List Edge)
    → All (EndsBelow n) edges
    → All HasAction edges
    → ArePlain (map edge_line edges)
edges_plain n fits [] below named = tt
edges_plain n fits (e ∷ es) below named =
    let ends = All-head (EndsBelow n) e es below in (
      edge_plain e (omega (arith, ends.0)) (omega (arith, ends.1)) (All-head HasAction e es named),
      edges_plain n fits es (All-tail (EndsBelow n) e es below) (All-tail HasAction e es named),
    )

pub model_plain : (m : Structure) (s : ℕ) → IsWritten m s → ArePlain (model_lines m s)
model_plain m s ok =
    let fits : m.states < 2 ^ 64 = omega (arith, ok.fits) in
    let start : s < 2 ^ 64 = omega (arith, ok.fits, ok.is_state) in
    let rows : 0 + length m.labels < 2 ^ 64 = omega (arith, ok.is_structure.labels_states) in (
      numbered_plain (codes "states") m.states (refl, refl) fits,
      (
        numbered_plain (codes "start") s (refl, refl) start,
        plain_append (state_lines 0 m.labels ++ map edge_line m.edges) ((codes "end" ∷ []) ∷ [])
            (plain_append (state_lines 0 m.labels) (map edge_line m.edges)
            (states_plain 0 m.labels rows ok.has_names.labels_named)
            (edges_plain m.states fits m.edges ok.is_structure.joins_states ok.has_names.actions_named))
            (((refl, tt), (refl, tt)), tt),
      ),
    )

-- ---- models

numbers_unique : (m n : ℕ) → m < 2 ^ 64 → n < 2 ^ 64 → number m ≡ number n → m ≡ n
numbers_unique m n fits_m fits_n e = decimal_injective m n fits_m fits_n e

state_lines_unique : (s : ℕ) (ls ks : List (List (List ℕ))) → state_lines s ls ≡ state_lines s ks → ls ≡ ks
state_lines_unique s [] [] e = refl
state_lines_unique s [] (k ∷ ks) e = cc
state_lines_unique s (l ∷ ls) [] e = cc
state_lines_unique s (l ∷ ls) (k ∷ ks) e =
    let first : l ≡ k = ap (λ (lines : List Line). drop 2 (get_or lines 0 [])) e in
    let rest = state_lines_unique (s + 1) ls ks (ap (drop 1) e) in
    λ i. first i ∷ rest i

edge_unique : (n : ℕ) → n < 2 ^ 64 → (e f : Edge) → EndsBelow n e → EndsBelow n f → edge_line e ≡ edge_line f → e ≡ f
edge_unique n fits e f below_e below_f same =
    let source =
    numbers_unique e.source f.source (omega (arith, below_e.0)) (omega (arith, below_f.0))
    (ap (λ (line : Line). get_or line 1 []) same)
    in
    let action : e.action ≡ f.action = ap (λ (line : Line). get_or line 2 []) same in
    let target =
    numbers_unique e.target f.target (omega (arith, below_e.1)) (omega (arith, below_f.1))
    (ap (λ (line : Line). get_or line 3 []) same)
    in
    λ i. record { source = source i; action = action i; target = target i }

edge_lines_unique : (n : ℕ) → n < 2 ^ 64 → (es fs : List Edge) → All (EndsBelow n) es → All (EndsBelow n) fs
    → map edge_line es ≡ map edge_line fs → es ≡ fs
edge_lines_unique n fits [] [] below_es below_fs e = refl
edge_lines_unique n fits [] (f ∷ fs) below_es below_fs e = cc
edge_lines_unique n fits (x ∷ es) [] below_es below_fs e = cc
edge_lines_unique n fits (x ∷ es) (f ∷ fs) below_es below_fs e =
    let first = edge_unique n fits x f (All-head (EndsBelow n) x es below_es) (All-head (EndsBelow n) f fs below_fs)
    (ap (λ (lines : List Line). get_or lines 0 []) e) in
    let rest =
    edge_lines_unique n fits es fs (All-tail (EndsBelow n) x es below_es) (All-tail (EndsBelow n) f fs below_fs)
    (ap (drop 1) e) in
    λ i. first i ∷ rest i

pub length-state_lines : (s : ℕ) (rows : List (List (List ℕ))) → length (state_lines s rows) ≡ length rows
length-state_lines s rows =
    length-map (enumerate_from s rows) (λ labelled. state_line labelled.0 labelled.1) ∙ length-enumerate_from s rows

lines_unique : (m n : Structure) (s t : ℕ)
    → IsWritten m s
    → IsWritten n t
    → model_lines m s ≡ model_lines n t
    → (m ≡ n) × (s ≡ t)
lines_unique m n s t ok_m ok_n e = (λ i. record { states = states i; labels = labels i; edges = edges i }, start)
  where
    fits_m : m.states < 2 ^ 64
    fits_m = omega (arith, ok_m.fits)

    fits_n : n.states < 2 ^ 64
    fits_n = omega (arith, ok_n.fits)

    states : m.states ≡ n.states
    states = numbers_unique m.states n.states fits_m fits_n
        (ap (λ (lines : List Line). get_or (get_or lines 0 []) 1 []) e)

    start : s ≡ t
    start =
        numbers_unique s t (omega (arith, ok_m.is_state, fits_m)) (omega (arith, ok_n.is_state, fits_n))
        (ap (λ (lines : List Line). get_or (get_or lines 1 []) 1 []) e)

    joined : state_lines 0 m.labels ++ map edge_line m.edges ≡ state_lines 0 n.labels ++ map edge_line n.edges
    joined =
        append_cancel_right (state_lines 0 m.labels ++ map edge_line m.edges)
        (state_lines 0 n.labels ++ map edge_line n.edges)
        ((codes "end" ∷ []) ∷ []) (ap (drop 2) e)

    long_m : length (state_lines 0 m.labels) ≡ m.states
    long_m = length-state_lines 0 m.labels ∙ ok_m.is_structure.labels_states

    long_n : length (state_lines 0 n.labels) ≡ m.states
    long_n = length-state_lines 0 n.labels ∙ ok_n.is_structure.labels_states ∙ sym states

    labels : m.labels ≡ n.labels
    labels =
        state_lines_unique 0 m.labels n.labels
        (sym (take_at (state_lines 0 m.labels) (map edge_line m.edges) m.states long_m) ∙ ap (take m.states) joined
        ∙ take_at (state_lines 0 n.labels) (map edge_line n.edges) m.states long_n)

    below_n : All (EndsBelow m.states) n.edges
    below_n = subst (λ k. All (EndsBelow k) n.edges) (sym states) ok_n.is_structure.joins_states

    edges : m.edges ≡ n.edges
    edges =
        edge_lines_unique m.states fits_m m.edges n.edges ok_m.is_structure.joins_states below_n
        (sym (drop_at (state_lines 0 m.labels) (map edge_line m.edges) m.states long_m) ∙ ap (drop m.states) joined
        ∙ drop_at (state_lines 0 n.labels) (map edge_line n.edges) m.states long_n)

pub one_text : OneText
one_text m n s t ok_m ok_n e =
    lines_unique m n s t ok_m ok_n (text_unique (model_lines m s) (model_lines n t) (model_plain m s ok_m)
    (model_plain n t ok_n) e)
