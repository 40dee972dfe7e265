-- Copies over arguments as pieces between which the arguments stand.
use Rattle.std.proofs.Common.{◌≡◌, ◌≢◌, ℕ, ◌≤◌, List, [], ◌∷◌, ◌++◌, length, get_or, drop, map, refl, sym, ap, ◌∙◌, arith}
use Rattle.std.proofs.lemmas.List.{length-map, map-append}
use Rattle.rule_arena.specs.Terms.{Node, kids_of}
use Rattle.rule_arena.specs.declared.key.Key.{Key}
use Rattle.rule_arena.specs.declared.label.Label.{Label}
use Rattle.rule_arena.specs.declared.label.Label.TheVariants.{Bottom, Symbol, Call, Param}
use Rattle.rule_arena.proofs.PreorderLemmas.{AreTerms-unmap}
use Rattle.slt_grammar.specs.Copying.{hole, holes_in, copied, copied_node}
use Rattle.slt_grammar.specs.Detaching.{AreArgs, between}
use Rattle.slt_grammar.specs.Placing.{placed, placed_node, AreKnown}
use Rattle.slt_grammar.proofs.Detachings.{flat}
use Rattle.slt_grammar.proofs.Placed.{known-append}
use Rattle.slt_grammar.proofs.Seen.{key-placed}

-- nodes are pieces with these terms between them
pub record Woven (xs : List Node) (gs : List (List Node)) : Type 0 where
  pub first : List Node
  pub more : List (List Node)
  pub is : xs ≡ between (first ∷ more) gs
  pub enough : length gs ≤ length more

joined-on : (x : Node) (w : List Node) (ws gs : List (List Node)) → x ∷ between (w ∷ ws) gs ≡ between ((x ∷ w) ∷ ws) gs
joined-on x w ws [] = refl
joined-on x w ws (g ∷ gs) = refl

one-before : (x : Node) (xs : List Node) (gs : List (List Node)) → Woven xs gs → Woven (x ∷ xs) gs
one-before x xs gs W = record { first = x ∷ W.first; more = W.more; is = ap (λ (ys : List Node). x ∷ ys) W.is ∙ joined-on x W.first W.more gs; enough = W.enough }

woven : (ns : List Node) (given : List (List Node)) (keys : List Key) → length given ≡ holes_in ns → Woven (copied ns given keys) given
woven [] [] keys h = record { first = []; more = []; is = refl; enough = omega arith }
woven [] (g ∷ given) keys h = absurd (omega arith)
woven (n ∷ ns) given keys h = at n.label refl given h (λ g e. woven ns g (drop 1 keys) e)
  where
    at : (l : Label) → n.label ≡ l → (given : List (List Node)) → length given ≡ holes_in (n ∷ ns) → ((g : List (List Node)) → length g ≡ holes_in ns → Woven (copied ns g (drop 1 keys)) g)
        → Woven (copied_node n.label n (get_or keys 0 n.key) given (copied ns (drop (hole n.label) given) (drop 1 keys))) given
    at Bottom e given h ih = rw e (one-before (record { key = get_or keys 0 n.key; label = Bottom; kids = n.kids }) (copied ns given (drop 1 keys)) given (ih given (omega (arith, h, ap hole e))))
    at (Symbol f) e given h ih = rw e (one-before (record { key = get_or keys 0 n.key; label = Symbol f; kids = n.kids }) (copied ns given (drop 1 keys)) given (ih given (omega (arith, h, ap hole e))))
    at (Call c) e given h ih = rw e (one-before (record { key = get_or keys 0 n.key; label = Call c; kids = n.kids }) (copied ns given (drop 1 keys)) given (ih given (omega (arith, h, ap hole e))))
    at Param e [] h ih = absurd (omega (arith, h, ap hole e))
    at Param e (g ∷ given) h ih =
        let W = ih given (omega (arith, h, ap hole e)) in
        rw e (record { first = []; more = W.first ∷ W.more; is = ap (λ (ys : List Node). g ++ ys) W.is; enough = (let k = W.enough in omega arith) })

-- the first piece has a node
pub record Begun (xs : List Node) (gs : List (List Node)) : Type 0 where
  pub begin : Node
  pub first : List Node
  pub more : List (List Node)
  pub is : xs ≡ between ((begin ∷ first) ∷ more) gs
  pub enough : length gs ≤ length more

-- where the copied nodes begin with no parameter
pub begun : (n : Node) (ns : List Node) (given : List (List Node)) (keys : List Key) → n.label ≢ Param → length given ≡ holes_in (n ∷ ns) → Begun (copied (n ∷ ns) given keys) given
begun n ns given keys d h = at n.label refl
  where
    next : (x : Node) → hole n.label ≡ 0 → Begun (x ∷ copied ns given (drop 1 keys)) given
    next x e =
        let W = woven ns given (drop 1 keys) (omega (arith, h, e)) in
        record { begin = x; first = W.first; more = W.more; is = ap (λ (ys : List Node). x ∷ ys) W.is ∙ joined-on x W.first W.more given; enough = W.enough }

    at : (l : Label) → n.label ≡ l → Begun (copied_node n.label n (get_or keys 0 n.key) given (copied ns (drop (hole n.label) given) (drop 1 keys))) given
    at Bottom e = rw e (next (record { key = get_or keys 0 n.key; label = Bottom; kids = n.kids }) (ap hole e))
    at (Symbol f) e = rw e (next (record { key = get_or keys 0 n.key; label = Symbol f; kids = n.kids }) (ap hole e))
    at (Call c) e = rw e (next (record { key = get_or keys 0 n.key; label = Call c; kids = n.kids }) (ap hole e))
    at Param e = absurd (d e)

map-split : (f : Node → Node) (xs ys zs : List Node) → map f xs ≡ ys ++ zs → (us : List Node) × (vs : List Node) × (xs ≡ us ++ vs) × (map f us ≡ ys) × (map f vs ≡ zs)
map-split f xs [] zs e = ([], xs, refl, refl, e)
map-split f [] (y ∷ ys) zs e = absurd (let z : [] ≡ y ∷ (ys ++ zs) = e in cc)
map-split f (x ∷ xs) (y ∷ ys) zs e =
    let t : map f xs ≡ ys ++ zs = ap (λ (ws : List Node). drop 1 ws) e in
    let a : f x ≡ y = ap (λ (ws : List Node). get_or ws 0 y) e in
    let h = map-split f xs ys zs t in
    (x ∷ h.0, h.1, ap (λ (ws : List Node). x ∷ ws) h.2, ap (λ (z : Node). z ∷ map f h.0) a ∙ ap (λ (ws : List Node). y ∷ ws) h.3, h.4)

map-none : (f : Node → Node) (xs : List Node) → map f xs ≡ [] → xs ≡ []
map-none f [] e = refl
map-none f (x ∷ xs) e = absurd (let z : f x ∷ map f xs ≡ [] = e in cc)

maps-none : (f : Node → Node) (xs : List (List Node)) → map (λ zs. map f zs) xs ≡ [] → xs ≡ []
maps-none f [] e = refl
maps-none f (x ∷ xs) e = absurd (let z : map f x ∷ map (λ zs. map f zs) xs ≡ [] = e in cc)

-- pieces of changed nodes are changed pieces
pub record Unwoven (f : Node → Node) (xs : List Node) (ws gs : List (List Node)) : Type 0 where
  pub pieces : List (List Node)
  pub args : List (List Node)
  pub pieces_are : map (λ zs. map f zs) pieces ≡ ws
  pub args_are : map (λ zs. map f zs) args ≡ gs
  pub is : xs ≡ between pieces args

pub unwoven : (f : Node → Node) (xs : List Node) (ws gs : List (List Node)) → length gs ≤ length ws → map f xs ≡ between ws gs → Unwoven f xs ws gs
unwoven f xs [] [] h e = record { pieces = []; args = []; pieces_are = refl; args_are = refl; is = map-none f xs e }
unwoven f xs [] (g ∷ gs) h e = absurd (omega arith)
unwoven f xs (w ∷ ws) [] h e =
    let s = map-split f xs w (between ws []) e in
    let U = unwoven f s.1 ws [] (omega arith) s.4 in
    record {
      pieces = s.0 ∷ U.pieces;
      args = [];
      pieces_are = ap (λ (zs : List Node). zs ∷ map (λ zs. map f zs) U.pieces) s.3 ∙ ap (λ (zs : List (List Node)). w ∷ zs) U.pieces_are;
      args_are = refl;
      is = s.2 ∙ ap (λ (ys : List Node). s.0 ++ ys) (U.is ∙ ap (λ (gs : List (List Node)). between U.pieces gs) (maps-none f U.args U.args_are));
    }
unwoven f xs (w ∷ ws) (g ∷ gs) h e =
    let s = map-split f xs w (g ++ between ws gs) e in
    let t = map-split f s.1 g (between ws gs) s.4 in
    let U = unwoven f t.1 ws gs (omega arith) t.4 in
    record {
      pieces = s.0 ∷ U.pieces;
      args = t.0 ∷ U.args;
      pieces_are = ap (λ (zs : List Node). zs ∷ map (λ zs. map f zs) U.pieces) s.3 ∙ ap (λ (zs : List (List Node)). w ∷ zs) U.pieces_are;
      args_are = ap (λ (zs : List Node). zs ∷ map (λ zs. map f zs) U.args) t.3 ∙ ap (λ (zs : List (List Node)). g ∷ zs) U.args_are;
      is = s.2 ∙ ap (λ (ys : List Node). s.0 ++ ys) (t.2 ∙ ap (λ (ys : List Node). t.0 ++ ys) U.is);
    }

-- so is a first piece that has a node
pub headed : (f : Node → Node) (us : List (List Node)) (b : Node) (first : List Node) (more : List (List Node)) → map (λ zs. map f zs) us ≡ (b ∷ first) ∷ more
    → (c : Node) × (zs : List Node) × (vs : List (List Node)) × (us ≡ (c ∷ zs) ∷ vs) × (length vs ≡ length more)
headed f [] b first more e = absurd (let z : [] ≡ (b ∷ first) ∷ more = e in cc)
headed f ([] ∷ us) b first more e = absurd (let z : [] ≡ b ∷ first = ap (λ (vs : List (List Node)). get_or vs 0 []) e in cc)
headed f ((x ∷ xs) ∷ us) b first more e =
    let t : map (λ zs. map f zs) us ≡ more = ap (λ (vs : List (List Node)). drop 1 vs) e in
    (x, xs, us, refl, sym (length-map us (λ zs. map f zs)) ∙ ap length t)

-- terms of roots, seen and as they lie
pub args-raw : (order : List ℕ) (ks : List Key) (gs : List (List Node)) → AreArgs ks (map (λ zs. map (placed_node order) zs) gs) → AreArgs ks gs
args-raw order [] [] A = tt
args-raw order [] (g ∷ gs) A = absurd A
args-raw order (k ∷ ks) [] A = absurd A
args-raw order (k ∷ ks) (g ∷ gs) A = (AreTerms-unmap (placed_node order) kids_of 1 g A.0, sym (key-placed order g 0) ∙ A.1, args-raw order ks gs A.2)

pub placed-flat : (order : List ℕ) (gs : List (List Node)) → placed order (flat gs) ≡ flat (map (λ zs. map (placed_node order) zs) gs)
placed-flat order [] = refl
placed-flat order (g ∷ gs) = map-append (placed_node order) g (flat gs) ∙ ap (λ (zs : List Node). placed order g ++ zs) (placed-flat order gs)

known-parts : (order : List ℕ) (xs ys : List Node) → AreKnown order (xs ++ ys) → AreKnown order xs × AreKnown order ys
known-parts order [] ys k = (tt, k)
known-parts order (x ∷ xs) ys k = let h = known-parts order xs ys k.1 in ((k.0, h.0), h.1)

pub known-between : (order : List ℕ) (ws gs : List (List Node)) → length gs ≤ length ws → AreKnown order (between ws gs) → AreKnown order (flat gs)
known-between order ws [] h k = tt
known-between order [] (g ∷ gs) h k = absurd (omega arith)
known-between order (w ∷ ws) (g ∷ gs) h k =
    let a = known-parts order w (g ++ between ws gs) k in
    let b = known-parts order g (between ws gs) a.1 in
    known-append order g (flat gs) b.0 (known-between order ws gs (omega arith) b.1)
