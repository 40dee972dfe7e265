-- Trees with neighbouring texts joined.
use Rattle.std.specs.Prelude.{ℕ, List, [], ◌++◌}
use Rattle.plain_tree.specs.declared.kind.Kind.TheVariants.{Text}
use Rattle.plain_tree.specs.Tree.{Tree, node, Trees, none, more}

-- the value of the text at the front, empty where none is there
abbrev pub front_text : Trees → List ℕ
front_text (more (node Text name value kids) ts) = value
front_text ts = []

-- and the trees behind it
abbrev pub behind_text : Trees → Trees
behind_text (more (node Text name value kids) ts) = ts
behind_text ts = ts

-- the tree in front of these, one with a text that is the first of them where it is a text
abbrev pub join_front : Tree → Trees → Trees
join_front (node Text name value kids) ts = more (node Text name (value ++ front_text ts) kids) (behind_text ts)
join_front t ts = more t ts

abbrev mutual
  -- the tree in which each run of neighbouring texts is one text
  pub joined : Tree → Tree
  joined (node kind name value kids) = node kind name value (joined_all kids)

  pub joined_all : Trees → Trees
  joined_all none = none
  joined_all (more t ts) = join_front (joined t) (joined_all ts)
