-- The laws of the search.

-- nodes that are put into the compiler
mod FitNodes
