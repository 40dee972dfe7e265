-- Rules that hold identities, as they are seen.
use Rattle.std.proofs.Common.{◌≡◌, ℕ, zero, suc, ◌<◌, List, [], ◌∷◌, ◌++◌, length, get_or, drop, map, Option, Some, None, slice_get, refl, ap, ◌∙◌, subst, arith}
use Rattle.rule_arena.specs.Preorder.{roots, places, parents}
use Rattle.rule_arena.specs.Terms.{Node, key_in, key_of, kids_in, parent_in, kids_of}
use Rattle.rule_arena.specs.declared.key.Key.{Key}
use Rattle.rule_arena.specs.declared.label.Label.{Label}
use Rattle.rule_arena.specs.declared.label.Label.TheVariants.{Bottom, Symbol, Call, Param}
use Rattle.rule_arena.proofs.PreorderLemmas.{roots-map}
use Rattle.slt_grammar.specs.Algebras.{ranks_of}
use Rattle.slt_grammar.specs.Bodies.{CallsBelow}
use Rattle.slt_grammar.specs.Keyed.{KeyedRule, nodes_at, rules_of, labels_of}
use Rattle.slt_grammar.specs.Holding.{seen, AllKnown}
use Rattle.slt_grammar.specs.Ordering.{IsThere, place_of}
use Rattle.slt_grammar.specs.Placing.{placed, placed_node, placed_label, IsKnown, AreKnown}

pub seen-at : (order ranks : List ℕ) (bodies : List (List Node)) (r : ℕ) → length ranks ≡ length bodies → nodes_at (seen order ranks bodies) r ≡ placed order (get_or bodies r [])
seen-at order [] [] r e = refl
seen-at order [] (b ∷ bodies) r e = absurd (omega arith)
seen-at order (x ∷ ranks) [] r e = absurd (omega arith)
seen-at order (x ∷ ranks) (b ∷ bodies) zero e = refl
seen-at order (x ∷ ranks) (b ∷ bodies) (suc r) e = seen-at order ranks bodies r (omega arith)

pub length-seen : (order ranks : List ℕ) (bodies : List (List Node)) → length ranks ≡ length bodies → length (seen order ranks bodies) ≡ length bodies
length-seen order [] [] e = refl
length-seen order [] (b ∷ bodies) e = absurd (omega arith)
length-seen order (r ∷ ranks) [] e = absurd (omega arith)
length-seen order (r ∷ ranks) (b ∷ bodies) e = ap suc (length-seen order ranks bodies (omega arith))

pub ranks-seen : (order ranks : List ℕ) (bodies : List (List Node)) → length ranks ≡ length bodies → ranks_of (rules_of (seen order ranks bodies)) ≡ ranks
ranks-seen order [] [] e = refl
ranks-seen order [] (b ∷ bodies) e = absurd (omega arith)
ranks-seen order (r ∷ ranks) [] e = absurd (omega arith)
ranks-seen order (r ∷ ranks) (b ∷ bodies) e = ap (λ (rs : List ℕ). r ∷ rs) (ranks-seen order ranks bodies (omega arith))

-- one rule more
pub seen-push : (order ranks : List ℕ) (bodies : List (List Node)) (r : ℕ) (b : List Node) → length ranks ≡ length bodies
    → seen order (ranks ++ r ∷ []) (bodies ++ b ∷ []) ≡ seen order ranks bodies ++ record { rank = r; nodes = placed order b } ∷ []
seen-push order [] [] r b e = refl
seen-push order [] (c ∷ bodies) r b e = absurd (omega arith)
seen-push order (x ∷ ranks) [] r b e = absurd (omega arith)
seen-push order (x ∷ ranks) (c ∷ bodies) r b e = let R : KeyedRule = record { rank = x; nodes = placed order c } in ap (λ (G : List KeyedRule). R ∷ G) (seen-push order ranks bodies r b (omega arith))

pub key-placed : (order : List ℕ) (ns : List Node) (p : ℕ) → key_in (placed order ns) p ≡ key_in ns p
key-placed order [] p = refl
key-placed order (n ∷ ns) zero = refl
key-placed order (n ∷ ns) (suc p) = key-placed order ns p

parents-placed : (order : List ℕ) (open_places : List (Option (Key × ℕ))) (ns : List Node) → parents kids_of key_of open_places (placed order ns) ≡ parents kids_of key_of open_places ns
parents-placed order opens [] = refl
parents-placed order opens (n ∷ ns) = ap (λ (zs : List (Option (Key × ℕ))). get_or opens 0 None ∷ zs) (parents-placed order (places n.key 1 n.kids ++ drop 1 opens) ns)

pub parent-placed : (order : List ℕ) (ns : List Node) (p : ℕ) → parent_in (placed order ns) p ≡ parent_in ns p
parent-placed order ns p = ap (λ (zs : List (Option (Key × ℕ))). get_or zs p None) (parents-placed order (None ∷ []) ns)

keys-placed : (order : List ℕ) (ns : List Node) → map key_of (placed order ns) ≡ map key_of ns
keys-placed order [] = refl
keys-placed order (n ∷ ns) = ap (λ (zs : List Key). n.key ∷ zs) (keys-placed order ns)

pub kids_in-placed : (order : List ℕ) (ns : List Node) (p : ℕ) → kids_in (placed order ns) p ≡ kids_in ns p
kids_in-placed order [] p = refl
kids_in-placed order (n ∷ ns) zero = ap (map key_of) (roots-map (placed_node order) kids_of n.kids ns) ∙ keys-placed order (roots kids_of n.kids ns)
kids_in-placed order (n ∷ ns) (suc p) = kids_in-placed order ns p

pub node-placed : (order : List ℕ) (ns : List Node) (p : ℕ) (n : Node) → slice_get ns p ≡ Some n → slice_get (placed order ns) p ≡ Some (placed_node order n)
node-placed order [] p n e = absurd (cc)
node-placed order (m ∷ ns) zero n e = let q : m ≡ n = cc in ap (λ (x : Node). Some (placed_node order x)) q
node-placed order (m ∷ ns) (suc p) n e = node-placed order ns p n e

pub known-node : (order : List ℕ) (ns : List Node) (p : ℕ) (n : Node) → slice_get ns p ≡ Some n → AreKnown order ns → IsKnown order n.label
known-node order [] p n e k = absurd (cc)
known-node order (m ∷ ns) zero n e k = let q : m ≡ n = cc in subst (λ (x : Node). IsKnown order x.label) q k.0
known-node order (m ∷ ns) (suc p) n e k = known-node order ns p n e k.1

pub known-at : (order : List ℕ) (bodies : List (List Node)) (r : ℕ) → AllKnown order bodies → AreKnown order (get_or bodies r [])
known-at order [] r k = tt
known-at order (b ∷ bodies) zero k = k.0
known-at order (b ∷ bodies) (suc r) k = known-at order bodies r k.1

pub known-push : (order : List ℕ) (bodies : List (List Node)) (b : List Node) → AllKnown order bodies → AreKnown order b → AllKnown order (bodies ++ b ∷ [])
known-push order [] b k h = (h, tt)
known-push order (c ∷ bodies) b k h = (k.0, known-push order bodies b k.1 h)

-- where the identity of each rule is its place, nodes are seen as they are
own-label : (order : List ℕ) (n : ℕ) → ((q : ℕ) → q < n → place_of order q ≡ q) → (l : Label) (ls : List Label) → CallsBelow n (l ∷ ls) → (placed_label order l ≡ l) × CallsBelow n ls
own-label order n own Bottom ls b = (refl, b)
own-label order n own (Symbol f) ls b = (refl, b)
own-label order n own (Call q) ls b = (ap Call (own q b.0), b.1)
own-label order n own Param ls b = (refl, b)

pub placed-own : (order : List ℕ) (n : ℕ) → ((q : ℕ) → q < n → place_of order q ≡ q) → (ns : List Node) → CallsBelow n (labels_of ns) → placed order ns ≡ ns
placed-own order n own [] b = refl
placed-own order n own (m ∷ ns) b =
    let h = own-label order n own m.label (labels_of ns) b in
    ap (λ (l : Label). record m { label = l } ∷ placed order ns) h.0 ∙ ap (λ (zs : List Node). m ∷ zs) (placed-own order n own ns h.1)

there-label : (order : List ℕ) (n : ℕ) → ((q : ℕ) → q < n → IsThere order q) → (l : Label) (ls : List Label) → CallsBelow n (l ∷ ls) → IsKnown order l × CallsBelow n ls
there-label order n there Bottom ls b = (tt, b)
there-label order n there (Symbol f) ls b = (tt, b)
there-label order n there (Call q) ls b = (there q b.0, b.1)
there-label order n there Param ls b = (tt, b)

pub known-own : (order : List ℕ) (n : ℕ) → ((q : ℕ) → q < n → IsThere order q) → (ns : List Node) → CallsBelow n (labels_of ns) → AreKnown order ns
known-own order n there [] b = tt
known-own order n there (m ∷ ns) b =
    let h = there-label order n there m.label (labels_of ns) b in
    (h.0, known-own order n there ns h.1)
