-- When the edges of an automaton may be replaced by others.
--
--   MayReplace props there back old new == the edges new are those of an automaton with so many propositions and no more
--                                          states, and it and the old one follow each other from their starts, as ranks say
use Rattle.std.specs.Prelude.{ℕ, ◌≡◌, ◌≤◌, List, length, Some}
use Rattle.ml_labelled.specs.Labelled.{Edge}
use Rattle.ml_labelled.specs.declared.following.Ranks.{Ranks}
use Rattle.ml_labelled.specs.private.Fitting.{AreEdges}
use Rattle.ml_labelled.specs.private.Following.{Follows, rank_of}

pub record MayReplace (props : ℕ) (there back : Ranks) (old new : List (List Edge)) : Type 0 where
  pub are_edges : AreEdges props new
  pub no_more : length new ≤ length old
  pub first : (r : ℕ) × (rank_of there 0 0 ≡ Some r)
  pub first_back : (r : ℕ) × (rank_of back 0 0 ≡ Some r)
  pub follows : Follows there old new
  pub follows_back : Follows back new old
