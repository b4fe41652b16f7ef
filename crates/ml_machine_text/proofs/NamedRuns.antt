-- The labels of the structure of a word are names, since those of its letters are.
--
--   letters_named  == the letters of a task's valuations have names
--   run_named      == so the structure of a word of these has
use Rattle.std.proofs.Common.{ℕ, ◌≡◌, ◌<◌, ◌/◌, ◌%◌, ◌==◌, All, Contains, Bool, true, false, List, [], ◌∷◌, length, get_or, codes, refl, sym, ap, subst, ◌∙◌, arith, if◌then◌else◌}
use Rattle.std.specs.List.{list_all, range_with_len}
use Rattle.std.proofs.lemmas.Bool.{and_parts}
use Rattle.std.proofs.lemmas.List.{get_or-map, get_or_default, length-map}
use Rattle.std.proofs.lemmas.List.Elements.{All-cons, All-contains, All-nil}
use Rattle.ml_base.specs.Name.{IsAction, IsName}
use Rattle.ml_base.specs.Structure.{IsStructure, Structure}
use Rattle.ml_base.specs.declared.structure.Edge.{Edge}
use Rattle.ml_base.proofs.Listing.{among_iff, lists_iff}
use Rattle.ml_kripke.specs.Ordered.{HasNames}
use Rattle.ml_lists.proofs.Member.{member-All, member-map_from}
use Rattle.ml_lists.proofs.Members.{contains_of_member, member_of_contains}
use Rattle.ml_paths.specs.Runs.{IsRunOf}
use Rattle.ml_realize.specs.Realizing.{word_of}
use Rattle.ml_task.specs.NameSets.{members}
use Rattle.ml_task.specs.Task.{is_named}
use Rattle.ml_task.proofs.NamesRead.{named_is_name}
use Rattle.ml_trace.specs.WordAutomata.{WordLasso}
use Rattle.ml_word_automaton.specs.Words.{has, next_letter, word_structure}

letters_named : (ns : List (List ℕ)) (s : ℕ) → list_all is_named ns ≡ true → All IsName (members ns s)
letters_named [] s all = All-nil IsName
letters_named (n ∷ ns) s all =
    let parts = and_parts (is_named n) (list_all is_named ns) all in
    go (s % 2 == 1) (named_is_name n parts.0) (letters_named ns (s / 2) parts.1)
  where
    go : (b : Bool)
        → IsName n
        → All IsName (members ns (s / 2))
        → All IsName (if b then n ∷ members ns (s / 2) else members ns (s / 2))
    go true first later = All-cons IsName n (members ns (s / 2)) first later
    go false first later = later

module _ (ns : List (List ℕ)) (w : WordLasso ℕ) (m : Structure) (named : list_all is_named ns ≡ true) (ok : IsStructure m)
    (run : IsRunOf (word_of ns w) m) where
  letter_is : (k : ℕ) → k < length w.word → get_or (word_of ns w).word k [] ≡ members ns (get_or w.word k 0)
  letter_is k low = get_or-map (members ns) w.word k 0 [] low

  label_named : (k : ℕ) → k < m.states → (p : List ℕ) → Contains (get_or m.labels k []) p → IsName p
  label_named k low p here =
      let long = length-map w.word (members ns) in
      let inside : k < length (word_of ns w).word = omega (arith, low, run.one_each) in
      let in_letter = sym (run.labels k p inside) ∙ (lists_iff m k p).1 here in
      let is = letter_is k (omega (arith, inside, long)) in
      All-contains IsName (members ns (get_or w.word k 0)) p (letters_named ns (get_or w.word k 0) named)
      ((among_iff (members ns (get_or w.word k 0)) p).0 (ap (λ l. has l p) (sym is) ∙ in_letter))

  edge_named : (e : Edge) → Contains m.edges e → IsAction e.action
  edge_named e here =
      let step : ℕ → Edge = λ i. record { source = i; action = codes "_"; target = next_letter (word_of ns w) i } in
      let found = member-map_from step e (range_with_len 0 (length (word_of ns w).word))
      (member_of_contains e (word_structure (word_of ns w)).edges ((run.edges e).0 here)) in
      subst (λ (x : Edge). IsAction x.action) (sym found.holds) refl

  pub run_named : HasNames m
  run_named = record {
    labels_named = λ k d low.
        let inside : k < m.states = omega (arith, low, ok.labels_states) in
        let row = get_or m.labels k d in
        let same = get_or_default m.labels k [] d low in
        member-All IsName row (λ p member.
        label_named k inside p (subst (λ ps. Contains ps p) (sym same) (contains_of_member p row member)));
    actions_named = member-All (λ (e : Edge). IsAction e.action) m.edges (λ e member. edge_named e (contains_of_member e m.edges member));
  }
