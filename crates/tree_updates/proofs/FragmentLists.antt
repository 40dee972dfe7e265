-- The nodes of fragments, one after another.
use Rattle.std.proofs.Common.{◌≡◌, ℕ, ◌+◌, List, [], ◌∷◌, length, ap, ◌∙◌, arith}
use Rattle.plain_tree.specs.declared.kind.Kind.{Kind}
use Rattle.plain_tree.specs.declared.kind.Kind.TheVariants.{Document, Element, Attribute, Text, Comment, Instruction}
use Rattle.plain_tree.specs.Allowed.{AreAside}
use Rattle.plain_tree.specs.Tree.{Tree, node, Trees, none, more, node_count}
use Rattle.plain_tree.specs.Visits.{TreeVisit, Opened, Closed, opened, visits}
use Rattle.plain_tree.proofs.NodeCounts.{length-nodes}
use Rattle.plain_tree.proofs.WalkLemmas.{opened-visits}

-- comments and instructions alone are one of them, and others
pub aside-first : (k : Kind) (n v : List ℕ) (ks us : Trees) → AreAside (more (node k [] [] none) none) → AreAside us → AreAside (more (node k n v ks) us)
aside-first Document n v ks us h r = absurd h
aside-first Element n v ks us h r = absurd h
aside-first Attribute n v ks us h r = absurd h
aside-first Text n v ks us h r = absurd h
aside-first Comment n v ks us h r = r
aside-first Instruction n v ks us h r = r

pub first-aside : (k : Kind) (n v : List ℕ) (ks us : Trees) → AreAside (more (node k n v ks) us) → AreAside (more (node k [] [] none) none) × AreAside us
first-aside Document n v ks us h = absurd h
first-aside Element n v ks us h = absurd h
first-aside Attribute n v ks us h = absurd h
first-aside Text n v ks us h = absurd h
first-aside Comment n v ks us h = (tt, h)
first-aside Instruction n v ks us h = (tt, h)

pub opened-more : (v : TreeVisit) (vs : List TreeVisit) → length (opened (v ∷ vs)) ≡ length (opened (v ∷ [])) + length (opened vs)
opened-more (Opened t) vs = omega arith
opened-more (Closed t) vs = omega arith

pub all-opened : (t : Tree) → length (opened (visits t)) ≡ node_count t
all-opened t = ap length (opened-visits t) ∙ length-nodes t
