-- What a well-formed program of the code stands for.
use Rattle.c_tree.specs.declared.program.CProgram.{CProgram}
use Rattle.c_tree.specs.declared.tree.CTree.{CTree}
use Rattle.c_tree.specs.Tree.{Program}
use Rattle.c_tree.specs.View.{program_view}

-- the tree of a program of the code
abbrev pub tree_of : CProgram → CTree
tree_of p = p.tree

-- the program of a program of the code
abbrev pub program_of : CProgram → Program
program_of p = program_view (tree_of p)
