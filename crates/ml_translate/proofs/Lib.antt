-- cubes with one literal more
pub mod Cubes
-- walks with cubes
pub mod CubeWalks
-- the places behind a place
pub mod FollowedPlaces
-- places that are found one after the other
pub mod FoundPlaces
-- equality of places
pub mod PlaceEquality
-- edges of places
pub mod EdgesMade
-- the literals of a formula's graph
pub mod KnownLiterals
-- what the automaton accepts
pub mod Translated
-- two word automata of one formula
pub mod SamePlaces
-- propositions by their numbers
pub mod PropositionNumbers
-- places fit
pub mod FitPlaces
-- what is written for a formula
pub mod WrittenTexts
-- places are found, or there are too many
pub mod SomePlaces
-- places make edges
pub mod SomeEdges
-- an automaton is written, or there is a reason why not
pub mod SomeTranslations
