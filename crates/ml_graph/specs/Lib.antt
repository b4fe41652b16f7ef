-- of which nodes a graph is made, and which of them are refused
pub mod Building
-- modal graphs
pub mod Graph
-- the checking game of a graph and a structure, and where the graph holds
pub mod CheckingGame
-- what only private contracts cite
pub mod private
-- where a graph holds at a node, told by the nodes to which it refers
pub mod Laws
-- graphs with one diamond at most
pub mod Diamonds
