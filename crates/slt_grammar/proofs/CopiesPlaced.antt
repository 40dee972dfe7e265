-- Copies of nodes that hold identities are copies of the nodes with places.
use Rattle.std.proofs.Common.{◌≡◌, ◌⊎◌, inl, inr, ℕ, zero, suc, ◌+◌, List, [], ◌∷◌, ◌++◌, get_or, take, drop, map, refl, sym, ap, ◌∙◌, subst, arith}
use Rattle.std.proofs.lemmas.List.{map-append, take-map, drop-map}
use Rattle.rule_arena.specs.Preorder.{span, terms, with_subterm}
use Rattle.rule_arena.specs.Terms.{Node, kids_of}
use Rattle.rule_arena.specs.declared.key.Key.{Key}
use Rattle.rule_arena.specs.declared.label.Label.{Label}
use Rattle.rule_arena.specs.declared.label.Label.TheVariants.{Bottom, Symbol, Call, Param}
use Rattle.slt_grammar.specs.Copying.{hole, holes_in, copied, copied_node, kids_at, args_at, inlined_nodes}
use Rattle.slt_grammar.specs.Placing.{placed, placed_node, placed_label, IsKnown, AreKnown}
use Rattle.slt_grammar.proofs.Placed.{known-append, known-take, known-drop, known-term}

pub hole-cases : (l : Label) → (hole l ≡ 0) ⊎ (hole l ≡ 1)
hole-cases Bottom = inl refl
hole-cases (Symbol f) = inl refl
hole-cases (Call q) = inl refl
hole-cases Param = inr refl

pub node-real : (l : Label) (n : Node) (k : Key) (given : List (List Node)) (rest : List Node) → hole l ≡ 0 → copied_node l n k given rest ≡ record n { key = k } ∷ rest
node-real Bottom n k given rest h = refl
node-real (Symbol f) n k given rest h = refl
node-real (Call q) n k given rest h = refl
node-real Param n k given rest h = absurd (omega (arith, h))

pub node-hole : (l : Label) (n : Node) (k : Key) (given : List (List Node)) (rest : List Node) → hole l ≡ 1 → copied_node l n k given rest ≡ get_or given 0 [] ++ rest
node-hole Bottom n k given rest h = absurd (omega (arith, h))
node-hole (Symbol f) n k given rest h = absurd (omega (arith, h))
node-hole (Call q) n k given rest h = absurd (omega (arith, h))
node-hole Param n k given rest h = refl

-- a change of labels that leaves parameters parameters
module _ (f : Node → Node) (key : (n : Node) → (f n).key ≡ n.key) (kids : (n : Node) → (f n).kids ≡ n.kids) (holes : (n : Node) → hole (f n).label ≡ hole n.label)
    (moved : (n : Node) (k : Key) → f (record n { key = k }) ≡ record (f n) { key = k }) where
  span-changed : (n : ℕ) (ns : List Node) → span kids_of n (map f ns) ≡ span kids_of n ns
  span-changed zero ns = refl
  span-changed (suc n) [] = refl
  span-changed (suc n) (m ∷ ns) = ap suc (span-changed ((f m).kids + n) ns ∙ ap (λ (k : ℕ). span kids_of (k + n) ns) (kids m))

  kids-changed : (ns : List Node) (p : ℕ) → kids_at (map f ns) p ≡ kids_at ns p
  kids-changed [] p = refl
  kids-changed (n ∷ ns) zero = kids n
  kids-changed (n ∷ ns) (suc p) = kids-changed ns p

  terms-changed : (n : ℕ) (ns : List Node) → terms kids_of n (map f ns) ≡ map (λ zs. map f zs) (terms kids_of n ns)
  terms-changed zero ns = refl
  terms-changed (suc n) ns =
      let s : ℕ = span kids_of 1 ns in
      rw (span-changed 1 ns, take-map f s ns, drop-map f s ns, terms-changed n (drop s ns)) refl

  pub args-changed : (ns : List Node) (p : ℕ) → args_at (map f ns) p ≡ map (λ zs. map f zs) (args_at ns p)
  args-changed ns p = rw (kids-changed ns p, drop-map f (p + 1) ns) (terms-changed (kids_at ns p) (drop (p + 1) ns))

  pub with-changed : (ns : List Node) (p : ℕ) (ms : List Node) → map f (with_subterm kids_of ns p ms) ≡ with_subterm kids_of (map f ns) p (map f ms)
  with-changed ns p ms =
      let back : List Node = drop (span kids_of 1 (drop p ns)) (drop p ns) in
      map-append f (take p ns) (ms ++ back) ∙ ap (λ (zs : List Node). map f (take p ns) ++ zs) (map-append f ms back)
      ∙ rw (take-map f p ns, drop-map f p ns, span-changed 1 (drop p ns), drop-map f (span kids_of 1 (drop p ns)) (drop p ns)) refl

  get-changed : (given : List (List Node)) (i : ℕ) → get_or (map (λ zs. map f zs) given) i [] ≡ map f (get_or given i [])
  get-changed [] i = refl
  get-changed (g ∷ given) zero = refl
  get-changed (g ∷ given) (suc i) = get-changed given i

  drop-changed : (m : ℕ) (given : List (List Node)) → drop m (map (λ zs. map f zs) given) ≡ map (λ zs. map f zs) (drop m given)
  drop-changed m given = drop-map (λ zs. map f zs) m given

  pub copied-changed : (ns : List Node) (given : List (List Node)) (keys : List Key) → map f (copied ns given keys) ≡ copied (map f ns) (map (λ zs. map f zs) given) keys
  copied-changed [] given keys = refl
  copied-changed (n ∷ ns) given keys = at (hole-cases n.label) (λ m. copied-changed ns (drop m given) (drop 1 keys))
    where
      at : (hole n.label ≡ 0) ⊎ (hole n.label ≡ 1) → ((m : ℕ) → map f (copied ns (drop m given) (drop 1 keys)) ≡ copied (map f ns) (map (λ zs. map f zs) (drop m given)) (drop 1 keys))
          → map f (copied_node n.label n (get_or keys 0 n.key) given (copied ns (drop (hole n.label) given) (drop 1 keys)))
          ≡ copied_node (f n).label (f n) (get_or keys 0 (f n).key) (map (λ zs. map f zs) given) (copied (map f ns) (drop (hole (f n).label) (map (λ zs. map f zs) given)) (drop 1 keys))
      at (inl z) ih =
          let w : hole (f n).label ≡ 0 = holes n ∙ z in
          ap (map f) (node-real n.label n (get_or keys 0 n.key) given (copied ns (drop (hole n.label) given) (drop 1 keys)) z)
          ∙ rw (z, moved n (get_or keys 0 n.key), ih 0)
          (ap (λ (k : Key). record (f n) { key = get_or keys 0 k } ∷ copied (map f ns) (map (λ zs. map f zs) given) (drop 1 keys)) (sym (key n))
          ∙ ap (λ (m : ℕ). record (f n) { key = get_or keys 0 (f n).key } ∷ copied (map f ns) (drop m (map (λ zs. map f zs) given)) (drop 1 keys)) (sym w)
          ∙ sym (node-real (f n).label (f n) (get_or keys 0 (f n).key) (map (λ zs. map f zs) given) (copied (map f ns) (drop (hole (f n).label) (map (λ zs. map f zs) given)) (drop 1 keys)) w))
      at (inr z) ih =
          let w : hole (f n).label ≡ 1 = holes n ∙ z in
          ap (map f) (node-hole n.label n (get_or keys 0 n.key) given (copied ns (drop (hole n.label) given) (drop 1 keys)) z)
          ∙ map-append f (get_or given 0 []) (copied ns (drop (hole n.label) given) (drop 1 keys))
          ∙ rw (z, ih 1)
          (ap (λ (xs : List Node). xs ++ copied (map f ns) (map (λ zs. map f zs) (drop 1 given)) (drop 1 keys)) (sym (get-changed given 0))
          ∙ ap (λ (gs : List (List Node)). get_or (map (λ zs. map f zs) given) 0 [] ++ copied (map f ns) gs (drop 1 keys)) (sym (drop-changed 1 given))
          ∙ ap (λ (m : ℕ). get_or (map (λ zs. map f zs) given) 0 [] ++ copied (map f ns) (drop m (map (λ zs. map f zs) given)) (drop 1 keys)) (sym w)
          ∙ sym (node-hole (f n).label (f n) (get_or keys 0 (f n).key) (map (λ zs. map f zs) given) (copied (map f ns) (drop (hole (f n).label) (map (λ zs. map f zs) given)) (drop 1 keys)) w))

  -- a copy of the callee over a call's children
  pub inlined-changed : (ns : List Node) (p : ℕ) (callee : List Node) (keys : List Key) → map f (inlined_nodes ns p callee keys) ≡ inlined_nodes (map f ns) p (map f callee) keys
  inlined-changed ns p callee keys =
      with-changed ns p (copied callee (args_at ns p) keys)
      ∙ ap (λ (ms : List Node). with_subterm kids_of (map f ns) p ms) (copied-changed callee (args_at ns p) keys ∙ ap (λ (gs : List (List Node)). copied (map f callee) gs keys) (sym (args-changed ns p)))

pub hole-placed : (ids : List ℕ) (l : Label) → hole (placed_label ids l) ≡ hole l
hole-placed ids Bottom = refl
hole-placed ids (Symbol f) = refl
hole-placed ids (Call q) = refl
hole-placed ids Param = refl

-- the edit of the nodes that hold identities is the edit of the nodes with places
pub placed-inlined : (ids : List ℕ) (ns : List Node) (p : ℕ) (callee : List Node) (keys : List Key) → placed ids (inlined_nodes ns p callee keys) ≡ inlined_nodes (placed ids ns) p (placed ids callee) keys
placed-inlined ids ns p callee keys = inlined-changed (placed_node ids) (λ n. refl) (λ n. refl) (λ n. hole-placed ids n.label) (λ n k. refl) ns p callee keys

pub placed-with : (ids : List ℕ) (ns : List Node) (p : ℕ) (ms : List Node) → placed ids (with_subterm kids_of ns p ms) ≡ with_subterm kids_of (placed ids ns) p (placed ids ms)
placed-with ids ns p ms = with-changed (placed_node ids) (λ n. refl) (λ n. refl) (λ n. hole-placed ids n.label) (λ n k. refl) ns p ms

pub placed-args : (ids : List ℕ) (ns : List Node) (p : ℕ) → args_at (placed ids ns) p ≡ map (λ zs. placed ids zs) (args_at ns p)
placed-args ids ns p = args-changed (placed_node ids) (λ n. refl) (λ n. refl) (λ n. hole-placed ids n.label) (λ n k. refl) ns p

pub kids-placed : (order : List ℕ) (ns : List Node) (p : ℕ) → kids_at (placed order ns) p ≡ kids_at ns p
kids-placed order [] p = refl
kids-placed order (n ∷ ns) zero = refl
kids-placed order (n ∷ ns) (suc p) = kids-placed order ns p

pub holes-placed : (order : List ℕ) (ns : List Node) → holes_in (placed order ns) ≡ holes_in ns
holes-placed order [] = refl
holes-placed order (n ∷ ns) = at n.label (holes-placed order ns)
  where
    at : (l : Label) → holes_in (placed order ns) ≡ holes_in ns → hole (placed_label order l) + holes_in (placed order ns) ≡ hole l + holes_in ns
    at Bottom ih = ap (λ m. 0 + m) ih
    at (Symbol f) ih = ap (λ m. 0 + m) ih
    at (Call q) ih = ap (λ m. 0 + m) ih
    at Param ih = ap (λ m. 1 + m) ih

pub known-copied : (order : List ℕ) (ns : List Node) (given : List (List Node)) (keys : List Key) → AreKnown order ns → ((i : ℕ) → AreKnown order (get_or given i [])) → AreKnown order (copied ns given keys)
known-copied order [] given keys a g = tt
known-copied order (n ∷ ns) given keys a g =
    at n.label refl (known-copied order ns given (drop 1 keys) a.1 g) (known-copied order ns (drop 1 given) (drop 1 keys) a.1 (λ i. dropped given i g))
  where
    dropped : (xs : List (List Node)) (i : ℕ) → ((i : ℕ) → AreKnown order (get_or xs i [])) → AreKnown order (get_or (drop 1 xs) i [])
    dropped [] i g = tt
    dropped (x ∷ xs) i g = g (suc i)

    at : (l : Label) → n.label ≡ l → AreKnown order (copied ns given (drop 1 keys)) → AreKnown order (copied ns (drop 1 given) (drop 1 keys))
        → AreKnown order (copied_node n.label n (get_or keys 0 n.key) given (copied ns (drop (hole n.label) given) (drop 1 keys)))
    at Bottom e x y = rw e ((tt, x))
    at (Symbol f) e x y = rw e ((tt, x))
    at (Call c) e x y = rw e ((subst (IsKnown order) e a.0, x))
    at Param e x y = rw e (known-append order (get_or given 0 []) (copied ns (drop 1 given) (drop 1 keys)) (g 0) y)

pub known-inlined : (order : List ℕ) (ns : List Node) (p : ℕ) (callee : List Node) (keys : List Key) → AreKnown order ns → AreKnown order callee → AreKnown order (inlined_nodes ns p callee keys)
known-inlined order ns p callee keys a b =
    known-append order (take p ns) (copied callee (args_at ns p) keys ++ drop (span kids_of 1 (drop p ns)) (drop p ns)) (known-take order p ns a)
    (known-append order (copied callee (args_at ns p) keys) (drop (span kids_of 1 (drop p ns)) (drop p ns))
    (known-copied order callee (args_at ns p) keys b (known-term order (kids_at ns p) (drop (p + 1) ns) (known-drop order (p + 1) ns a)))
    (known-drop order (span kids_of 1 (drop p ns)) (drop p ns) (known-drop order p ns a)))
