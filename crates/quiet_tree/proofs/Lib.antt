-- The laws of the tree.

-- trees that stay small as they grow
mod Growth
