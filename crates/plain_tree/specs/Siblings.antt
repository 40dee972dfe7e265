-- The siblings from a node on, and texts among them.
use Rattle.std.specs.Prelude.{ℕ, zero, suc, ◌-◌, Bool, true, false, nat_lt, if◌then◌else◌}
use Rattle.plain_tree.specs.declared.kind.Kind.TheVariants.{Text}
use Rattle.plain_tree.specs.Edits.{changed}
use Rattle.plain_tree.specs.Joined.{join_front}
use Rattle.plain_tree.specs.Tree.{node, Trees, none, more, node_count_all}

-- the list of siblings that begins at node n
abbrev pub from_node : ℕ → Trees → Trees
from_node zero ts = ts
from_node (suc n) none = none
from_node (suc n) (more (node k m v ks) ts) = if nat_lt n (node_count_all ks) then (from_node n ks) else from_node (n - node_count_all ks) ts

-- the kids of the first of them
abbrev pub first_kids : Trees → Trees
first_kids none = none
first_kids (more (node kind name value kids) ts) = kids

-- whether a text is the first of them
abbrev pub begins_text : Trees → Bool
begins_text (more (node Text m v ks) ts) = true
begins_text ts = false

-- whether a text is the first of them, with a sibling behind it
abbrev pub text_before : Trees → Bool
text_before (more (node Text m v ks) (more s ts)) = true
text_before ts = false

-- the first of them is one with the text behind it, where both are texts
abbrev pub joined_first : Trees → Trees
joined_first none = none
joined_first (more t ts) = join_front t ts

-- node n is one with the sibling behind it, where both are texts
abbrev pub joined_at : ℕ → Trees → Trees
joined_at = changed more joined_first
