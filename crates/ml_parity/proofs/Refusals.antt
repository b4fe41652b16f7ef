-- Lists that are a game, and lists that are none.
--
--   lists_of-at      == an entry of the lists is what the vector there holds
--   not_dead         == a vertex whose vector is not empty is no dead end
--   leaves-to, leaves-from == a vertex leaves the range exactly if the vector there has an entry out of range
--   is_game          == three lists of one length are a game if no vertex is a dead end and none leaves the range
--   no_game          == they are none if some vertex leaves the range
use Rattle.std.proofs.Common.{ℕ, ◌≡◌, ◌<◌, ◌≤◌, ◌⊎◌, inl, inr, Bool, true, false, arith, List, [], length, get_or, subst, sym, ap, ◌∙◌, vec_len}
use Rattle.std.proofs.lemmas.Bool.{cases_lt, false≢true}
use Rattle.std.proofs.lemmas.List.{get_or-map, get_or_past, length-map, nil_from_length}
use Rattle.std.specs.Global.{Vec}
use Rattle.ml_parity.specs.declared.players.Player.{Player}
use Rattle.ml_parity.specs.Game.{IsGame, HasMove}
use Rattle.ml_parity.specs.Refusal.{lists_of, game_of, IsDeadEnd, HasEntryFrom, LeavesRange}

-- an entry of the lists is what the vector there holds
pub lists_of-at : (xs : List (Vec ℕ)) (v : ℕ) (m : Vec ℕ) → v < length xs → m ≡ get_or xs v m
    → get_or (lists_of xs) v [] ≡ m.items
lists_of-at xs v m low is = get_or-map (λ (x : Vec ℕ). x.items) xs v m [] low ∙ ap (λ (x : Vec ℕ). x.items) (sym is)

-- a vertex whose vector is not empty is no dead end
pub not_dead : (xs : List (Vec ℕ)) (v : ℕ) (m : Vec ℕ) (entries : List ℕ) (t : Bool) → v < length xs
    → m ≡ get_or xs v m → entries ≡ m.items → (entries ≡ [] → t ≡ true) → t ≡ false → IsDeadEnd (lists_of xs) v → ⊥
not_dead xs v m entries t low is same test fails dead =
    false≢true (sym fails ∙ test (same ∙ sym (lists_of-at xs v m low is) ∙ dead))

-- a vertex leaves the range if the vector there has an entry out of range
pub leaves-from : (xs : List (Vec ℕ)) (v n : ℕ) (m : Vec ℕ) (entries : List ℕ) → v < length xs → m ≡ get_or xs v m
    → entries ≡ m.items → HasEntryFrom n entries → LeavesRange (lists_of xs) n v
leaves-from xs v n m entries low is same has = subst (HasEntryFrom n) (same ∙ sym (lists_of-at xs v m low is)) has

-- and only if it has
pub leaves-to : (xs : List (Vec ℕ)) (v n : ℕ) (m : Vec ℕ) (entries : List ℕ) → v < length xs → m ≡ get_or xs v m
    → entries ≡ m.items → LeavesRange (lists_of xs) n v → HasEntryFrom n entries
leaves-to xs v n m entries low is same leaves = subst (HasEntryFrom n) (lists_of-at xs v m low is ∙ sym same) leaves

-- three lists of one length are a game if no vertex is a dead end and none leaves the range
module _ (owner : Vec Player) (priority : Vec ℕ) (successors : Vec (Vec ℕ)) where
  pub is_game : vec_len priority ≡ vec_len owner → vec_len successors ≡ vec_len owner
      → ((v : ℕ) → v < vec_len owner → IsDeadEnd (lists_of successors.items) v → ⊥)
      → ((v : ℕ) → v < vec_len owner → LeavesRange (lists_of successors.items) (vec_len owner) v → ⊥)
      → IsGame (game_of owner priority successors)
  is_game priorities lists none_dead none_leaves = record {
    priorities = sym priority.ok.0 ∙ priorities ∙ owner.ok.0;
    lists = lengths;
    goes_on = λ v low. goes_on v (omega (arith, owner.ok.0))
        (cases_lt 0 (length (get_or (lists_of successors.items) v [])));
    in_range = λ v w move. in_range v w move (cases_lt v (vec_len owner)) (cases_lt w (vec_len owner));
  }
    where
      lengths : length (lists_of successors.items) ≡ length owner.items
      lengths = length-map successors.items (λ (x : Vec ℕ). x.items) ∙ sym successors.ok.0 ∙ lists ∙ owner.ok.0

      goes_on : (v : ℕ) → v < vec_len owner → (0 < length (get_or (lists_of successors.items) v [])) ⊎
          (length (get_or (lists_of successors.items) v []) ≤ 0)
          → 0 < length (get_or (lists_of successors.items) v [])
      goes_on v low (inl some) = some
      goes_on v low (inr none) =
          absurd (none_dead v low (nil_from_length (get_or (lists_of successors.items) v []) (omega arith)))

      in_range : (v w : ℕ) → HasMove (game_of owner priority successors) v w
          → (v < vec_len owner) ⊎ (vec_len owner ≤ v) → (w < vec_len owner) ⊎ (vec_len owner ≤ w)
          → w < length owner.items
      in_range v w move a (inl low) = omega (arith, owner.ok.0)
      in_range v w move (inl a) (inr high) = absurd (none_leaves v a (w, move, high))
      in_range v w move (inr past) (inr high) =
          let nothing : get_or (lists_of successors.items) v [] ≡ [] =
          get_or_past (lists_of successors.items) v [] (omega (arith, lengths, owner.ok.0)) in
          absurd (omega (arith, move.1, ap length nothing))

  -- they are none if some vertex leaves the range
  pub no_game : (v : ℕ) → LeavesRange (lists_of successors.items) (vec_len owner) v
      → IsGame (game_of owner priority successors) → ⊥
  no_game v leaves game = omega (arith, game.in_range v leaves.0 leaves.1, leaves.2, owner.ok.0)
