-- Documents after an edit: one list of siblings in them becomes another, the list that begins at the node that the edit numbers.
use Rattle.std.specs.Prelude.{ℕ, zero, suc, ◌-◌, List, nat_lt, if◌then◌else◌}
use Rattle.std.specs.Str.{bytes_eq}
use Rattle.plain_tree.specs.declared.edit.Edit.{Edit}
use Rattle.plain_tree.specs.declared.edit.Edit.TheVariants.{Rename, Insert, Append, Delete, Value, Attr, Copy}
use Rattle.plain_tree.specs.declared.kind.Kind.TheVariants.{Attribute}
use Rattle.plain_tree.specs.Joined.{join_front}
use Rattle.plain_tree.specs.Tree.{Tree, node, Trees, none, more, trees, node_count, node_count_all}

-- the number of the node at which an edit is made
abbrev pub number_of : Edit → ℕ
number_of (Rename n name) = n
number_of (Insert n fragment) = n
number_of (Append n fragment) = n
number_of (Delete n) = n
number_of (Value n value) = n
number_of (Attr n name value) = n
number_of (Copy n) = n

-- Lists of trees are put together by a function that puts one tree before others: `more`, or `join_front`, by which two texts that meet
-- become one.

-- trees before others
abbrev pub chained : (Tree → Trees → Trees) → Trees → Trees → Trees
chained put none us = us
chained put (more t none) us = put t us
chained put (more t (more s ts)) us = more t (chained put (more s ts) us)

-- how a tree comes before others that change from their node n on: something new stands next to it only where that is their first
abbrev pub before : (Tree → Trees → Trees) → ℕ → Tree → Trees → Trees
before put zero = put
before put (suc n) = more

-- the trees in which the list of siblings that begins at node n is another
abbrev pub changed : (Tree → Trees → Trees) → (Trees → Trees) → ℕ → Trees → Trees
changed put change zero ts = change ts
changed put change (suc n) none = none
changed put change (suc n) (more (node kind name value kids) ts) =
    if nat_lt n (node_count_all kids) then (more (node kind name value (changed put change n kids)) ts)
    else before put (n - node_count_all kids) (node kind name value kids) (changed put change (n - node_count_all kids) ts)

-- the trees in which the first is another
abbrev pub with_first : (Tree → Tree) → Trees → Trees
with_first F none = none
with_first F (more t ts) = more (F t) ts

-- the tree whose node at the top has this name, this value, these kids
abbrev pub with_name : List ℕ → Tree → Tree
with_name name (node kind n value kids) = node kind name value kids

abbrev pub with_value : List ℕ → Tree → Tree
with_value value (node kind name v kids) = node kind name value kids

abbrev pub with_kids : (Trees → Trees) → Tree → Tree
with_kids F (node kind name value kids) = node kind name value (F kids)

-- the kids in which the attribute with this name has this value; where there is none, it stands behind the other attributes
abbrev pub with_attribute : List ℕ → List ℕ → Trees → Trees
with_attribute name value (more (node Attribute n v ks) ts) =
    if bytes_eq n name then (more (node Attribute n value ks) ts) else more (node Attribute n v ks) (with_attribute name value ts)
with_attribute name value ts = more (node Attribute name value none) ts

-- all but the first
abbrev pub others : Trees → Trees
others none = none
others (more t ts) = ts

-- the first of them alone
abbrev pub alone : Trees → Trees
alone none = none
alone (more t ts) = more t none

-- what an edit makes of trees: the new name or value stands in the node; a fragment stands before it or behind its last kid; it is gone with
-- all below it; an equal tree stands before it
abbrev pub made : (Tree → Trees → Trees) → Edit → Trees → Trees
made put (Rename n name) = changed more (with_first (with_name name)) n
made put (Insert n fragment) = changed put (chained put (trees fragment)) n
made put (Append n fragment) = changed more (with_first (with_kids (λ kids. chained put kids (trees fragment)))) n
made put (Delete n) = changed put others n
made put (Value n value) = changed more (with_first (with_value value)) n
made put (Attr n name value) = changed more (with_first (with_kids (with_attribute name value))) n
made put (Copy n) = changed put (λ ts. chained put (alone ts) ts) n

-- the first of them, and this one where there is none
abbrev pub first_or : Tree → Trees → Tree
first_or t none = t
first_or t (more s ts) = s

-- the document after the edit, but for texts that meet
abbrev pub placed : Tree → Edit → Tree
placed t e = first_or t (made more e (more t none))

-- the document after the edit: texts that the edit makes neighbours are one, and neighbours of old stay two
abbrev pub edited : Tree → Edit → Tree
edited t e = first_or t (made join_front e (more t none))

-- how many texts became one with the text before them
abbrev pub merged : Tree → Edit → ℕ
merged t e = node_count (placed t e) - node_count (edited t e)
