pub mod EmptyTrees
