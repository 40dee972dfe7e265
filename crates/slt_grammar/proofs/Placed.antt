-- Edits of nodes that hold identities are edits of the nodes with places.
use Rattle.std.proofs.Common.{◌≡◌, ℕ, zero, suc, ◌+◌, ◌-◌, List, [], ◌∷◌, ◌++◌, length, get_or, take, drop, map, refl, sym, ap, ◌∙◌}
use Rattle.std.specs.Prelude.{if◌then◌else◌, eqb}
use Rattle.std.proofs.lemmas.List.{take-map, drop-map}
use Rattle.rule_arena.specs.Preorder.{span, terms, subterm, with_subterm}
use Rattle.rule_arena.specs.Taking.{regrown, without_node}
use Rattle.rule_arena.specs.Terms.{Node, kids_in, kids_of, labelled}
use Rattle.rule_arena.specs.declared.key.Key.{Key}
use Rattle.rule_arena.specs.declared.label.Label.{Label}
use Rattle.rule_arena.proofs.PreorderLemmas.{span-map, subterm-map, with_subterm-map}
use Rattle.slt_grammar.specs.KeyedEdits.{folded_nodes, lifted_nodes}
use Rattle.slt_grammar.specs.Placing.{placed, placed_node, placed_label, IsKnown, AreKnown}
use Rattle.slt_grammar.proofs.Seen.{kids_in-placed}

pub known-append : (order : List ℕ) (xs ys : List Node) → AreKnown order xs → AreKnown order ys → AreKnown order (xs ++ ys)
known-append order [] ys a b = b
known-append order (x ∷ xs) ys a b = (a.0, known-append order xs ys a.1 b)

pub known-take : (order : List ℕ) (n : ℕ) (xs : List Node) → AreKnown order xs → AreKnown order (take n xs)
known-take order zero xs a = tt
known-take order (suc n) [] a = tt
known-take order (suc n) (x ∷ xs) a = (a.0, known-take order n xs a.1)

pub known-drop : (order : List ℕ) (n : ℕ) (xs : List Node) → AreKnown order xs → AreKnown order (drop n xs)
known-drop order zero xs a = a
known-drop order (suc n) [] a = tt
known-drop order (suc n) (x ∷ xs) a = known-drop order n xs a.1

pub known-with : (order : List ℕ) (ns : List Node) (p : ℕ) (ms : List Node) → AreKnown order ns → AreKnown order ms → AreKnown order (with_subterm kids_of ns p ms)
known-with order ns p ms a b =
    let back : List Node = drop (span kids_of 1 (drop p ns)) (drop p ns) in
    known-append order (take p ns) (ms ++ back) (known-take order p ns a)
    (known-append order ms back b (known-drop order (span kids_of 1 (drop p ns)) (drop p ns) (known-drop order p ns a)))

pub known-subterm : (order : List ℕ) (ns : List Node) (p : ℕ) → AreKnown order ns → AreKnown order (subterm kids_of ns p)
known-subterm order ns p a = known-take order (span kids_of 1 (drop p ns)) (drop p ns) (known-drop order p ns a)

known-regrown : (order : List ℕ) (ns : List Node) (up : Key) (n : ℕ) → AreKnown order ns → AreKnown order (regrown ns up n)
known-regrown order [] up n a = tt
known-regrown order (m ∷ ns) up n a = (a.0, known-regrown order ns up n a.1)

pub known-labelled : (order : List ℕ) (ns : List Node) (p : ℕ) (l : Label) → AreKnown order ns → IsKnown order l → AreKnown order (labelled ns p l)
known-labelled order [] p l k m = tt
known-labelled order (n ∷ ns) zero l k m = (m, k.1)
known-labelled order (n ∷ ns) (suc p) l k m = (k.0, known-labelled order ns p l k.1 m)

pub known-folded : (order : List ℕ) (ns : List Node) (place : ℕ) (upper : Key) (low : ℕ) (l : Label) → AreKnown order ns → IsKnown order l → AreKnown order (folded_nodes ns place upper low l)
known-folded order ns place upper low l a k =
    known-labelled order (without_node ns upper low) place l
    (known-with order (regrown ns upper (length (kids_in ns low))) low (drop 1 (subterm kids_of ns low)) (known-regrown order ns upper (length (kids_in ns low)) a)
    (known-drop order 1 (subterm kids_of ns low) (known-subterm order ns low a))) k

pub labelled-placed : (order : List ℕ) (ns : List Node) (p : ℕ) (l : Label) → placed order (labelled ns p l) ≡ labelled (placed order ns) p (placed_label order l)
labelled-placed order [] p l = refl
labelled-placed order (n ∷ ns) zero l = refl
labelled-placed order (n ∷ ns) (suc p) l = ap (λ (zs : List Node). record n { label = placed_label order n.label } ∷ zs) (labelled-placed order ns p l)

regrown-placed : (order : List ℕ) (ns : List Node) (up : Key) (n : ℕ) → placed order (regrown ns up n) ≡ regrown (placed order ns) up n
regrown-placed order [] up n = refl
regrown-placed order (m ∷ ns) up n =
    ap (λ (zs : List Node). record m { label = placed_label order m.label; kids = if eqb m.key.number up.number then m.kids + n - 1 else m.kids } ∷ zs) (regrown-placed order ns up n)

pub with-placed : (order : List ℕ) (ns : List Node) (p : ℕ) (ms : List Node) → placed order (with_subterm kids_of ns p ms) ≡ with_subterm kids_of (placed order ns) p (placed order ms)
with-placed order ns p ms = sym (with_subterm-map (placed_node order) kids_of ns p ms)

pub subterm-placed : (order : List ℕ) (ns : List Node) (p : ℕ) → placed order (subterm kids_of ns p) ≡ subterm kids_of (placed order ns) p
subterm-placed order ns p = sym (subterm-map (placed_node order) kids_of ns p)

pub folded-placed : (order : List ℕ) (ns : List Node) (place : ℕ) (upper : Key) (low : ℕ) (l : Label) → placed order (folded_nodes ns place upper low l) ≡ folded_nodes (placed order ns) place upper low (placed_label order l)
folded-placed order ns place upper low l =
    labelled-placed order (without_node ns upper low) place l
    ∙ ap (λ (zs : List Node). labelled zs place (placed_label order l))
    (with-placed order (regrown ns upper (length (kids_in ns low))) low (drop 1 (subterm kids_of ns low))
    ∙ ap (λ (zs : List Node). with_subterm kids_of zs low (placed order (drop 1 (subterm kids_of ns low)))) (regrown-placed order ns upper (length (kids_in ns low)))
    ∙ ap (λ (zs : List Node). with_subterm kids_of (regrown (placed order ns) upper (length (kids_in ns low))) low zs)
    (sym (drop-map (placed_node order) 1 (subterm kids_of ns low)) ∙ ap (λ (zs : List Node). drop 1 zs) (subterm-placed order ns low))
    ∙ ap (λ (ks : List Key). with_subterm kids_of (regrown (placed order ns) upper (length ks)) low (drop 1 (subterm kids_of (placed order ns) low))) (sym (kids_in-placed order ns low)))

terms-placed : (order : List ℕ) (n : ℕ) (ns : List Node) → map (placed order) (terms kids_of n ns) ≡ terms kids_of n (placed order ns)
terms-placed order zero ns = refl
terms-placed order (suc n) ns =
    let s : ℕ = span kids_of 1 ns in
    let e : span kids_of 1 (placed order ns) ≡ s = span-map (placed_node order) kids_of 1 ns in
    rw (e, take-map (placed_node order) s ns, drop-map (placed_node order) s ns) (ap (λ (zs : List (List Node)). placed order (take s ns) ∷ zs) (terms-placed order n (drop s ns)))

pub get-placed : (order : List ℕ) (gs : List (List Node)) (c : ℕ) → get_or (map (placed order) gs) c [] ≡ placed order (get_or gs c [])
get-placed order [] c = refl
get-placed order (g ∷ gs) zero = refl
get-placed order (g ∷ gs) (suc c) = get-placed order gs c

-- one of the terms behind a node
pub term-placed : (order : List ℕ) (n : ℕ) (ns : List Node) (p c : ℕ) → placed order (get_or (terms kids_of n (drop p ns)) c []) ≡ get_or (terms kids_of n (drop p (placed order ns))) c []
term-placed order n ns p c =
    sym (get-placed order (terms kids_of n (drop p ns)) c) ∙ ap (λ (gs : List (List Node)). get_or gs c []) (terms-placed order n (drop p ns))
    ∙ ap (λ (zs : List Node). get_or (terms kids_of n zs) c []) (sym (drop-map (placed_node order) p ns))

pub known-term : (order : List ℕ) (n : ℕ) (xs : List Node) → AreKnown order xs → (i : ℕ) → AreKnown order (get_or (terms kids_of n xs) i [])
known-term order zero xs a i = tt
known-term order (suc n) xs a zero = known-take order (span kids_of 1 xs) xs a
known-term order (suc n) xs a (suc i) = known-term order n (drop (span kids_of 1 xs) xs) (known-drop order (span kids_of 1 xs) xs a) i

pub lifted-placed : (order : List ℕ) (ns : List Node) (p : ℕ) → placed order (lifted_nodes ns p) ≡ lifted_nodes (placed order ns) p
lifted-placed order ns p =
    with-placed order ns p (get_or (terms kids_of 2 (drop (p + 1) ns)) 1 []) ∙ ap (λ (ms : List Node). with_subterm kids_of (placed order ns) p ms) (term-placed order 2 ns (p + 1) 1)

pub known-lifted : (order : List ℕ) (ns : List Node) (p : ℕ) → AreKnown order ns → AreKnown order (lifted_nodes ns p)
known-lifted order ns p a = known-with order ns p (get_or (terms kids_of 2 (drop (p + 1) ns)) 1 []) a (known-term order 2 (drop (p + 1) ns) (known-drop order (p + 1) ns a) 1)
