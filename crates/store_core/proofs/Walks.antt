-- Where a walk begins, and what is written of a document's.
use Rattle.std.proofs.Common.{◌≡◌, ℕ, ◌<◌, ◌≤◌, List, [], ◌∷◌, ◌++◌, sum_by, Some, slice_get, ap, sym, ◌∙◌, subst, arith}
use Rattle.std.specs.Prelude.{vec_capacity}
use Rattle.std.proofs.lemmas.List.Sums.{sum_by-cons, sum_by-append}
use Rattle.plain_tree.specs.Numbers.{nodes}
use Rattle.plain_tree.specs.Tree.{Tree, node, node_count}
use Rattle.rule_arena.specs.declared.label.Label.{Label}
use Rattle.rule_arena.specs.declared.label.Label.TheVariants.{Symbol}
use Rattle.segment_counts.specs.Weights.{node_weight}
use Rattle.segment_counts.proofs.Coded.{weight-coded}
use Rattle.slt_grammar.specs.Grammars.{value}
use Rattle.slt_grammar.specs.Keyed.{KeyedRule, rules_of}
use Rattle.slt_grammar.specs.Segments.{listed}
use Rattle.value_cursor.specs.Cursors.{BeginsAtNode, IsInside, left_of, tokens_of}
use Rattle.value_cursor.specs.Tokens.{Tells, tokens}
use Rattle.value_cursor.specs.declared.cursor.Cursor.{Cursor}
use Rattle.value_cursor.proofs.Subtrees.{cursors-tell-subtrees}
use Rattle.xml_nodes.specs.Saved.{saved_bytes}
use Rattle.store_core.specs.StoreOf.{parts_of}
use Rattle.store_core.specs.Walking.{AreEnough, GoesAnywhere, opens, walk_text}
use Rattle.store_core.specs.Worlds.{PartsStandFor}
use Rattle.tree_updates.specs.declared.store.Store.{Store}
use Rattle.store_core.specs.declared.walking.NodeWalk.{NodeWalk}
use Rattle.store_core.proofs.NodeCalls.{document_saves}
use Rattle.store_core.proofs.Rooms.{opens-few}

pub count-some : (t : Tree) → 0 < node_count t
count-some (node k n v ks) = omega arith

-- behind so many nodes only one list of labels begins with a symbol
same-rest : (b c : List Label) (f g : ℕ) (x y : List Label) → b ++ Symbol f ∷ x ≡ c ++ Symbol g ∷ y → sum_by node_weight b ≡ sum_by node_weight c → Symbol f ∷ x ≡ Symbol g ∷ y
same-rest [] [] f g x y e w = e
same-rest [] (l ∷ c) f g x y e w = let s : Symbol f ≡ l = cc in absurd (omega (arith, sum_by-cons node_weight l c, ap node_weight s, w))
same-rest (l ∷ b) [] f g x y e w = let s : l ≡ Symbol g = cc in absurd (omega (arith, sum_by-cons node_weight l b, ap node_weight s, w))
same-rest (l ∷ b) (m ∷ c) f g x y e w =
    let s : l ≡ m = cc in
    let t : b ++ Symbol f ∷ x ≡ c ++ Symbol g ∷ y = cc in
    same-rest b c f g x y t (omega (arith, sum_by-cons node_weight l b, sum_by-cons node_weight m c, ap node_weight s, w))

-- cursors that begin at one node give the same tokens
pub same-tokens : (G : List KeyedRule) (number : ℕ) (c d : Cursor) → BeginsAtNode G number c → BeginsAtNode G number d → tokens_of G c ≡ tokens_of G d
same-tokens G number c d b e =
    let u : b.before ++ Symbol b.symbol ∷ b.after ≡ e.before ++ Symbol e.symbol ∷ e.after =
    ap (λ ls. b.before ++ ls) (sym b.begins) ∙ sym b.split ∙ e.split ∙ ap (λ ls. e.before ++ ls) e.begins in
    let v = same-rest b.before e.before b.symbol e.symbol b.after e.after u (b.number_is ∙ sym e.number_is) in
    let w : left_of G c ≡ left_of G d = b.begins ∙ v ∙ sym e.begins in
    ap (λ n. tokens n (left_of G c)) (b.none_open ∙ sym e.none_open) ∙ ap (tokens d.opened) w

-- no more nodes begin than the value has
pub walk-opens : (G : List KeyedRule) (number : ℕ) (c : Cursor) → BeginsAtNode G number c → opens (tokens_of G c) ≤ sum_by node_weight (listed (value (rules_of G)) [])
walk-opens G number c b = omega (arith, opens-few c.opened (left_of G c), ap (sum_by node_weight) b.split ∙ sum_by-append node_weight b.before (left_of G c))

-- as many nodes begin as the document has at most
pub walk-few : (s : Store) (number : ℕ) (c : Cursor) (t : Tree) → PartsStandFor (parts_of s) t → BeginsAtNode s.grammar.rules number c → opens (tokens_of s.grammar.rules c) ≤ node_count t
walk-few s number c t stand b = omega (arith, walk-opens s.grammar.rules number c b, weight-coded s.names t (value (rules_of s.grammar.rules)) stand.code)

-- a walk that has as many places still goes anywhere
pub stays-anywhere : (s : Store) (v w : NodeWalk) → IsInside s.grammar.rules w.cursor → vec_capacity w.place.outer ≡ vec_capacity v.place.outer → GoesAnywhere s v → GoesAnywhere s w
stays-anywhere s v w inside same h = record { inside = inside; enough = subst (λ (places : ℕ). (number : ℕ) → AreEnough s number places) (sym same) h.enough }

first_node : (t s : Tree) → slice_get (nodes t) 0 ≡ Some s → t ≡ s
first_node (node k n v ks) s e = cc

-- what is written of the document is its saved bytes
pub walk_saves : (s : Store) (w : NodeWalk) (t : Tree) → PartsStandFor (parts_of s) t → BeginsAtNode s.grammar.rules 0 w.cursor → w.place.used ≡ 0 → walk_text s w ≡ saved_bytes t
walk_saves s w t stand begins unused =
    let found = cursors-tell-subtrees s.grammar.rules s.names t 0 w.cursor stand.code begins in
    let told : Tells s.names t (tokens_of s.grammar.rules w.cursor) = subst (λ (r : Tree). Tells s.names r (tokens_of s.grammar.rules w.cursor)) (sym (first_node t found.0 found.1)) found.2 in
    rw (unused, stand.texts) (document_saves s.names t (tokens_of s.grammar.rules w.cursor) stand.document told)
